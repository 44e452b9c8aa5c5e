-- A look-up in an outcome, as the code has it.
use Rattle.std.proofs.Common.{◌≡◌, ℕ, ◌<◌, true, List, [], ◌∷◌, ◌++◌, length, map, get_or, Option, Some, None, refl, sym, ap, subst, ◌∙◌, inl, inr, arith}
use Rattle.std.specs.Prelude.{Contains, slice_get, option_map, is_some}
use Rattle.std.specs.Borrow.{Bor}
use Rattle.std.specs.List.{AllByRecursion}
use Rattle.std.proofs.lemmas.List.{length-map}
use Rattle.std.proofs.lemmas.Option.{slice_get-map, slice_get_within, slice_get_read}
use Rattle.messages.specs.Order.{bytes_cmp}
use Rattle.messages.specs.Path.{IsPath, parts_of}
use Rattle.messages.specs.Tree.{TreeValue}
use Rattle.tree.specs.Lookup.{Looked, nothing}
use Rattle.tree.specs.Merging.{WithinValue}
use Rattle.actions.specs.declared.outcome.Output.{Output}
use Rattle.actions.specs.declared.outcome.Output.TheVariants.{File, Link, Tree}
use Rattle.action_messages.specs.Ascending.{IsAscendingBy}
use Rattle.action_messages.specs.Overlaps.{texts_of}
use Rattle.actions.specs.Outcome.{OutcomeValue, IsOutcome, output_value, outputs_in, paths_of_outputs}
use Rattle.actions.specs.OutcomeLookup.{StandsOver, LooksBelow, LooksIn, within_output, LiesWithin, TakesMemory, LooksWithMemory}
use Rattle.actions.specs.Parts.{names_left}
use Rattle.actions.proofs.TreeLookups.{holds_mapped, some_part}

module _ {A : Type 0} where
  abbrev pub paths_in : List (List (List ℕ) × Output A) → List (List (List ℕ))
  paths_in es = map (λ e. e.0) es

  pub same_paths : (es : List (List (List ℕ) × Output A)) → paths_of_outputs (outputs_in es) ≡ paths_in es
  same_paths [] = refl
  same_paths (e ∷ es) = ap (λ ps. e.0 ∷ ps) (same_paths es)

  pub paths_of : (o : OutcomeValue) (es : List (List (List ℕ) × Output A)) → outputs_in es ≡ o.outputs → paths_of_outputs o.outputs ≡ paths_in es
  paths_of o es e = ap paths_of_outputs (sym e) ∙ same_paths es

  pub ascending : (o : OutcomeValue) (es : List (List (List ℕ) × Output A)) → outputs_in es ≡ o.outputs → IsOutcome o → IsAscendingBy bytes_cmp (texts_of (paths_in es))
  ascending o es e k = subst (λ ps. IsAscendingBy bytes_cmp (texts_of ps)) (paths_of o es e) k.ascend

  pub valid : (o : OutcomeValue) (es : List (List (List ℕ) × Output A)) → outputs_in es ≡ o.outputs → IsOutcome o → AllByRecursion IsPath (paths_in es)
  valid o es e k = subst (AllByRecursion IsPath) (paths_of o es e) k.paths

  pub within : (es : List (List (List ℕ) × Output A)) (place : ℕ) (above : List (List ℕ)) → slice_get (paths_in es) place ≡ Some above → place < length es
  within es place above e = omega (arith, slice_get_within (paths_in es) place above e, length-map es (λ (d : List (List ℕ) × Output A). d.0))

  pub no_output_over : (o : OutcomeValue) (path : List (List ℕ)) (es : List (List (List ℕ) × Output A)) → outputs_in es ≡ o.outputs → AllByRecursion (λ above. ¬ StandsOver above path) (paths_in es) → AllByRecursion (λ d. ¬ StandsOver d.0 path) o.outputs
  no_output_over o path es e h = subst (AllByRecursion (λ d. ¬ StandsOver d.0 path)) e (each es h)
    where
      each : (ds : List (List (List ℕ) × Output A)) → AllByRecursion (λ above. ¬ StandsOver above path) (paths_in ds) → AllByRecursion (λ d. ¬ StandsOver d.0 path) (outputs_in ds)
      each [] k = tt
      each (d ∷ ds) k = (k.0, each ds k.1)

  pub none_over : (o : OutcomeValue) (path : List (List ℕ)) (es : List (List (List ℕ) × Output A)) → outputs_in es ≡ o.outputs → AllByRecursion (λ above. ¬ StandsOver above path) (paths_in es) → LooksIn o path nothing
  none_over o path es e h = inr (no_output_over o path es e h, refl)

  -- a file or a link has nothing below it
  pub looks_nowhere : (x : Output A) (below : Option (Bor (List ℕ))) → ((t : TreeValue) → x ≡ Tree t → ⊥) → is_some below ≡ true → LooksBelow (output_value x) (names_left below) nothing
  looks_nowhere x None other some = absurd cc
  looks_nowhere x (Some text) other some = nowhere x other (parts_of text.now) (some_part text.now)
    where
      nowhere : (y : Output A) → ((t : TreeValue) → y ≡ Tree t → ⊥) → (names : List (List ℕ)) → (names ≡ [] → ⊥) → LooksBelow (output_value y) names nothing
      nowhere (Tree t) none names s = absurd (none t refl)
      nowhere (File d e) none [] s = absurd (s refl)
      nowhere (File d e) none (n ∷ names) s = refl
      nowhere (Link l) none [] s = absurd (s refl)
      nowhere (Link l) none (n ∷ names) s = refl

  module _ (o : OutcomeValue) (path rest : List (List ℕ)) (es : List (List (List ℕ) × Output A)) (place : ℕ) (item : List (List ℕ) × Output A) (above : List (List ℕ))
      (e : outputs_in es ≡ o.outputs) (at : slice_get (paths_in es) place ≡ Some above) (is : item ≡ get_or es place item) (split : path ≡ above ++ rest) where
    inside : place < length es
    inside = within es place above at

    one : item.0 ≡ above
    one =
        let here : Some item.0 ≡ Some above = sym (slice_get-map (λ (d : List (List ℕ) × Output A). d.0) es place ∙ ap (option_map (λ (d : List (List ℕ) × Output A). d.0)) (slice_get_read es (length es) place item refl inside is)) ∙ at in
        cc

    -- the output is one of the outcome's, and the path is what comes after its names
    pub path_is : path ≡ item.0 ++ rest
    path_is = split ∙ ap (λ p. p ++ rest) (sym one)

    pub output_there : Contains o.outputs (item.0, output_value item.1)
    output_there = subst (λ l. Contains l (item.0, output_value item.1)) e (holds_mapped (λ (d : List (List ℕ) × Output A). (d.0, output_value d.1)) es item (place, inside, sym is))

    pub looks_over : (r : Looked) → LooksBelow (output_value item.1) rest r → LooksIn o path r
    looks_over r below = inl ((item.0, output_value item.1), output_there, rest, path_is, below)

    pub lies_over : (w : WithinValue) → w ≡ within_output (output_value item.1) → LiesWithin o path w
    lies_over w same = ((item.0, output_value item.1), output_there, (rest, path_is), same)

    pub memory_over : TakesMemory (output_value item.1) rest → LooksWithMemory o path
    memory_over below = ((item.0, output_value item.1), output_there, rest, path_is, below)
