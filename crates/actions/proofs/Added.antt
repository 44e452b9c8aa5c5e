-- One more output in an outcome.
use Rattle.std.proofs.Common.{◌≡◌, ℕ, List, ◌∷◌, ◌++◌, take, drop, Some, None, sym, ap, subst, ◌∙◌}
use Rattle.std.specs.Prelude.{ℤ, Contains}
use Rattle.std.specs.List.{AllByRecursion, insert}
use Rattle.std.proofs.lemmas.List.{map-append, take-map, drop-map, take-append-drop}
use Rattle.messages.specs.Order.{bytes_cmp}
use Rattle.messages.specs.Path.{IsPath, AreApart}
use Rattle.actions.specs.declared.outcome.Output.{Output}
use Rattle.action_messages.specs.Ascending.{IsAscendingBy}
use Rattle.action_messages.specs.Overlaps.{texts_of}
use Rattle.actions.specs.Outcome.{OutcomeValue, IsOutcome, AddsOutput, LeavesNoRoom, output_value, outputs_in, paths_of_outputs}
use Rattle.actions.specs.Parts.{HasRoom}
use Rattle.actions.proofs.OutcomeLookups.{paths_in, same_paths, paths_of}

module _ {A : Type 0} where
  paths_added : (es : List (List (List ℕ) × Output A)) (n : ℕ) (e : List (List ℕ) × Output A) → paths_of_outputs (outputs_in (insert es n e)) ≡ insert (paths_in es) n e.0
  paths_added es n e =
      same_paths (insert es n e) ∙ map-append (λ (d : List (List ℕ) × Output A). d.0) (take n es) (e ∷ drop n es)
      ∙ ap (λ l. l ++ e.0 ∷ paths_in (drop n es)) (sym (take-map (λ (d : List (List ℕ) × Output A). d.0) n es)) ∙ ap (λ l. take n (paths_in es) ++ e.0 ∷ l) (sym (drop-map (λ (d : List (List ℕ) × Output A). d.0) n es))

  pub valid_added : (es : List (List (List ℕ) × Output A)) (n : ℕ) (e : List (List ℕ) × Output A) (code : ℤ) → HasRoom (paths_in es) e.0 (Some n) → IsOutcome (record { exit_code = code; outputs = outputs_in (insert es n e) })
  valid_added es n e code h =
      let same = paths_added es n e in
      record {
        paths = subst (AllByRecursion IsPath) (sym same) h.1;
        ascend = subst (λ ps. IsAscendingBy bytes_cmp (texts_of ps)) (sym same) h.2;
        apart = subst AreApart (sym same) h.3;
      }

  -- the outcome before and behind, as the code has them
  pub is_added : (old new : OutcomeValue) (es : List (List (List ℕ) × Output A)) (n : ℕ) (e : List (List ℕ) × Output A) → outputs_in es ≡ old.outputs → new.outputs ≡ outputs_in (insert es n e) → new.exit_code ≡ old.exit_code → HasRoom (paths_in es) e.0 (Some n) → AddsOutput old e.0 (output_value e.1) new
  is_added old new es n e before after code h = record {
    valid = subst (λ l. IsOutcome (record { exit_code = new.exit_code; outputs = l })) (sym after) (valid_added es n e new.exit_code h);
    exit_code = code;
    before = outputs_in (take n es);
    behind = outputs_in (drop n es);
    others = sym before ∙ ap outputs_in (sym (take-append-drop n es)) ∙ map-append (λ (d : List (List ℕ) × Output A). (d.0, output_value d.1)) (take n es) (drop n es);
    placed = after ∙ map-append (λ (d : List (List ℕ) × Output A). (d.0, output_value d.1)) (take n es) (e ∷ drop n es);
  }

  pub full : (o : OutcomeValue) (es : List (List (List ℕ) × Output A)) (path : List (List ℕ)) → outputs_in es ≡ o.outputs → HasRoom (paths_in es) path None → LeavesNoRoom o path
  full o es path e h = (h.0, subst (λ ps. Contains ps h.0) (sym (paths_of o es e)) h.1, h.2)
