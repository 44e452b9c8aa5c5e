-- What a source and valid outcomes tell determines what the lines of a directory come to.
use Rattle.std.proofs.Common.{◌≡◌, ℕ, zero, suc, List, [], ◌∷◌, sym, ◌∙◌, subst, inl, inr}
use Rattle.std.specs.Prelude.{Option, Some, slice_get}
use Rattle.std.specs.List.{AllByRecursion}
use Rattle.blob_digest.specs.Digest.{DigestValue}
use Rattle.actions.specs.Outcome.{OutcomeValue, IsOutcome}
use Rattle.actions.specs.OutcomeLookup.{LooksIn, LiesWithin}
use Rattle.actions.proofs.Once.{looked_once, within_once}
use Rattle.plan.specs.Values.{OriginValue, source, output, LineValue}
use Rattle.tree.specs.Form.{NodeValue}
use Rattle.tree.specs.Merging.{WithinValue, NodeWithin, MergeLines}
use Rattle.blob_source.specs.Source.{Blobs}
use Rattle.tree.specs.Lookup.{Looked, fault, nothing, found}
use Rattle.tree.proofs.LookupOnce.{looks_once}
use Rattle.verifier.specs.Together.{Earlier, LooksUpOrigin, OriginWithin, StandsAtOrigin, Resolves, LinesFault, IsFaultOfLook, LineFault, FirstFault}

abbrev pub AreValid : List OutcomeValue → Type 0
AreValid outcomes = AllByRecursion IsOutcome outcomes

found_is : (x y : NodeValue) → found x ≡ found y → x ≡ y
found_is x y e = cc

-- one outcome stands at a place, and it is valid
some_is : (o p : OutcomeValue) → ◌≡◌ {A = Option OutcomeValue} (Some o) (Some p) → o ≡ p
some_is o p e = cc

abbrev pub AreValidIn : Earlier → Type 0
AreValidIn os = (step : ℕ) (o : OutcomeValue) → os step ≡ Some o → IsOutcome o

pub valid_there : (os : List OutcomeValue) → AreValid os → AreValidIn (slice_get os)
valid_there [] h step o e = absurd cc
valid_there (x ∷ os) h zero o e = subst IsOutcome (some_is x o e) h.0
valid_there (x ∷ os) h (suc step) o e = valid_there os h.1 step o e

module _ (B : Blobs) (d : DigestValue) (os : Earlier) (valid : AreValidIn os) where
  one_there : (step : ℕ) (o p : OutcomeValue) → os step ≡ Some o → os step ≡ Some p → o ≡ p
  one_there step o p h k = some_is o p (sym h ∙ k)

  looks_at_once : (o : OriginValue) (r s : Looked) → LooksUpOrigin B d os o r → LooksUpOrigin B d os o s → r ≡ s
  looks_at_once (source p) r s h k = looks_once B d p r s h k
  looks_at_once (output step p) r s h k =
      looked_once h.0 p r s (valid step h.0 h.1) h.2 (subst (λ o. LooksIn o p s) (one_there step k.0 h.0 k.1 h.1) k.2)

  within_at_once : (o : OriginValue) (v w : WithinValue) → OriginWithin os o v → OriginWithin os o w → v ≡ w
  within_at_once (source p) v w h k = h ∙ sym k
  within_at_once (output step p) v w h k =
      within_once h.0 p v w (valid step h.0 h.1) h.2 (subst (λ o. LiesWithin o p w) (one_there step k.0 h.0 k.1 h.1) k.2)

  stands_once : (o : OriginValue) (x y : NodeWithin) → StandsAtOrigin B d os o x → StandsAtOrigin B d os o y → x ≡ y
  stands_once o x y h k =
      let node = found_is x.node y.node (looks_at_once o (found x.node) (found y.node) h.node k.node) in
      let within = within_at_once o x.within y.within h.within k.within in
      λ i. record { node = node i; within = within i }

  pub resolves_once : (ls : List LineValue) (xs ys : MergeLines) → Resolves B d os ls xs → Resolves B d os ls ys → xs ≡ ys
  resolves_once [] xs ys h k = h ∙ sym k
  resolves_once (l ∷ ls) xs ys h k =
      let nodes = stands_once l.origin h.0 k.0 h.1 k.1 in
      let rest = resolves_once ls h.2 k.2 h.3 k.3 in
      h.4 ∙ (λ i. (l.target, nodes i) ∷ rest i) ∙ sym k.4

  gives_once : (o : OriginValue) (r : Looked) (c e : LinesFault) → IsFaultOfLook o r c → IsFaultOfLook o r e → c ≡ e
  gives_once o (fault f) c e h k = h ∙ sym k
  gives_once o nothing c e h k = h ∙ sym k
  gives_once o (found x) c e h k = elim h [ ]

  line_once : (l : LineValue) (c e : LinesFault) → LineFault B d os l c → LineFault B d os l e → c ≡ e
  line_once l c e h k = gives_once l.origin h.0 c e h.2 (subst (λ r. IsFaultOfLook l.origin r e) (looks_at_once l.origin k.0 h.0 k.1 h.1) k.2)

  line_found : (l : LineValue) (c : LinesFault) (x : NodeValue) → LineFault B d os l c → LooksUpOrigin B d os l.origin (found x) → ⊥
  line_found l c x h k = subst (λ r. IsFaultOfLook l.origin r c) (looks_at_once l.origin h.0 (found x) h.1 k) h.2

  -- one fault is the first
  pub first_once : (ls : List LineValue) (c e : LinesFault) → FirstFault B d os ls c → FirstFault B d os ls e → c ≡ e
  first_once [] c e h k = elim h [ ]
  first_once (l ∷ ls) c e (inl h) (inl k) = line_once l c e h k
  first_once (l ∷ ls) c e (inl h) (inr k) = absurd (line_found l c k.0 h k.1)
  first_once (l ∷ ls) c e (inr h) (inl k) = absurd (line_found l e h.0 k h.1)
  first_once (l ∷ ls) c e (inr h) (inr k) = first_once ls c e h.2 k.2

  -- lines that have their origins have no fault
  pub first_resolves : (ls : List LineValue) (c : LinesFault) (xs : MergeLines) → FirstFault B d os ls c → Resolves B d os ls xs → ⊥
  first_resolves [] c xs h k = h
  first_resolves (l ∷ ls) c xs (inl h) k = line_found l c k.0.node h k.1.node
  first_resolves (l ∷ ls) c xs (inr h) k = first_resolves ls c k.2 h.2 k.3
