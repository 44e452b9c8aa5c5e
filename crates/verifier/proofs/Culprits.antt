-- Where two builds have two roots, the root depends on a step of which two outcomes were recorded.
use Rattle.std.proofs.Common.{◌≡◌, ◌≢◌, ℕ, zero, suc, ◌+◌, ◌<◌, List, [], ◌∷◌, ◌++◌, length, refl, ap, sym, ◌∙◌, subst, inl, inr, arith}
use Rattle.std.specs.Prelude.{◌⊎◌, Some, slice_get, Contains}
use Rattle.std.proofs.lemmas.List.{length-append}
use Rattle.std.proofs.lemmas.Option.{slice_get_within}
use Rattle.blob_digest.specs.Digest.{DigestValue}
use Rattle.actions.specs.Outcome.{OutcomeValue}
use Rattle.actions.proofs.TreeLookups.{behind}
use Rattle.blob_source.specs.Source.{Blobs, Telling}
use Rattle.plan.specs.Values.{OriginValue, source, output, LineValue, StepValue, PlanValue}
use Rattle.tree.specs.Merging.{MergeLines}
use Rattle.tree.specs.Tree.{Name}
use Rattle.verifier.specs.AsRecorded.{AreAsRecorded}
use Rattle.verifier.specs.Recorded.{HaveOneForm, IsHeld}
use Rattle.verifier.specs.Together.{StandsAtOrigin, Resolves}
use Rattle.verifier.specs.TwoBuilds.{IsInBoth, IsAlike, IsUnlike, IsReadAlike, AreReadAlike, DependOn, they_read, through, AreTwoBuilds}
use Rattle.verifier.proofs.FreshRuns.{one_answer}
use Rattle.verifier.proofs.RecordedSteps.{as_many, IsRecordedStep, step_at}
use Rattle.verifier.proofs.SameForms.{same_digest, same_form, forms_differ}
use Rattle.verifier.proofs.TwoBuilds.{reads, one_root}

-- ---- lines read steps before their own

module _ (B C : Blobs) (src : DigestValue) where
  read_before : (before : List OutcomeValue) (ls : List LineValue) (xs : MergeLines) → Resolves B src (slice_get before) ls xs → (l : LineValue) → Contains ls l → (k : ℕ) (p : List Name) → l.origin ≡ output k p → k < length before
  read_before before [] xs h l (j, lt, is) k p at = absurd (omega (arith, lt))
  read_before before (x ∷ ls) xs h l (zero, lt, is) k p at =
      let stands = subst (λ o. StandsAtOrigin B src (slice_get before) o h.0) (ap (λ (l : LineValue). l.origin) is ∙ at) h.1 in
      slice_get_within before k stands.node.0 stands.node.1
  read_before before (x ∷ ls) xs h l (suc j, lt, is) k p at = read_before before ls h.2 h.3 l (j, omega (arith, lt), is) k p at

  step_reads : (before : List OutcomeValue) (ss : List StepValue) (ds : List DigestValue) (os : List OutcomeValue) → AreAsRecorded B C src before ss ds os → (i : ℕ) (s : StepValue) → slice_get ss i ≡ Some s
      → (l : LineValue) → Contains s.lines l → (k : ℕ) (p : List Name) → l.origin ≡ output k p → k < length before + i
  step_reads before [] ds os h i s e l c k p at = absurd cc
  step_reads before (x ∷ ss) [] os h i s e l c k p at = elim h [ ]
  step_reads before (x ∷ ss) (d ∷ ds) os h zero s e l c k p at =
      let same : x ≡ s = cc in
      let lt = read_before before x.lines h.1.nodes h.1.resolved l (subst (λ (s : StepValue). Contains s.lines l) (sym same) c) k p at in
      omega (arith, lt)
  step_reads before (x ∷ ss) (d ∷ ds) os h (suc i) s e l c k p at =
      let lt = step_reads (before ++ h.0 ∷ []) ss ds os h.2 i s e l c k p at in
      let one : length (before ++ h.0 ∷ []) ≡ length before + 1 = length-append before (h.0 ∷ []) in
      omega (arith, lt, one)

there : {X : Type 0} (xs : List X) (k : ℕ) → k < length xs → (x : X) × (slice_get xs k ≡ Some x)
there [] k lt = absurd (omega (arith, lt))
there (x ∷ xs) zero lt = (x, refl)
there (x ∷ xs) (suc k) lt = there xs k (omega (arith, lt))

-- more lines depend on what some do
more_depend : (steps : List StepValue) (l : LineValue) (ls : List LineValue) (i : ℕ) → DependOn steps ls i → DependOn steps (l ∷ ls) i
more_depend steps l _ _ (they_read ls x p i c at) = they_read (l ∷ ls) x p i (behind l ls x c) at
more_depend steps l _ _ (through ls x p j i s c at is rest) = through (l ∷ ls) x p j i s (behind l ls x c) at is rest

module _ (one other : Telling) (src : DigestValue) (plan : PlanValue) (recorded others : List DigestValue) (claim another : DigestValue) (h : AreTwoBuilds one other src plan recorded others claim another) where
  -- lines depend on a step that is unlike
  abbrev Blames : List LineValue → Type 0
  Blames ls = (i : ℕ) × IsUnlike one other recorded others i × DependOn plan.steps ls i

  -- a step is alike, or unlike, or its lines depend on one that is
  abbrev Status : ℕ → StepValue → Type 0
  Status j s = IsAlike one other recorded others j ⊎ (IsUnlike one other recorded others j ⊎ Blames s.lines)

  abbrev Known : ℕ → Type 0
  Known n = (j : ℕ) → j < n → (s : StepValue) → slice_get plan.steps j ≡ Some s → Status j s

  -- lines that read steps with lesser numbers
  abbrev ReadBelow : ℕ → List LineValue → Type 0
  ReadBelow n ls = (l : LineValue) → Contains ls l → (k : ℕ) (p : List Name) → l.origin ≡ output k p → (s : StepValue) × (slice_get plan.steps k ≡ Some s) × (k < n)

  scan : (n : ℕ) → Known n → (ls : List LineValue) → ReadBelow n ls → AreReadAlike one other recorded others ls ⊎ Blames ls
  scan n known [] below = inl tt
  scan n known (l ∷ ls) below = by (first l.origin refl) (scan n known ls (λ x c. below x (behind l ls x c)))
    where
      here : Contains (l ∷ ls) l
      here = (0, omega arith, refl)

      first : (o : OriginValue) → l.origin ≡ o → IsReadAlike one other recorded others o ⊎ Blames (l ∷ ls)
      first (source p) at = inl tt
      first (output k p) at = of_step (below l here k p at)
        where
          of_step : (s : StepValue) × (slice_get plan.steps k ≡ Some s) × (k < n) → IsAlike one other recorded others k ⊎ Blames (l ∷ ls)
          of_step (s, is, lt) = on (known k lt s is)
            where
              on : Status k s → IsAlike one other recorded others k ⊎ Blames (l ∷ ls)
              on (inl alike) = inl alike
              on (inr (inl unlike)) = inr (k, unlike, they_read (l ∷ ls) l p k here at)
              on (inr (inr (i, unlike, rest))) = inr (i, unlike, through (l ∷ ls) l p k i s here at is rest)

      by : IsReadAlike one other recorded others l.origin ⊎ Blames (l ∷ ls) → AreReadAlike one other recorded others ls ⊎ Blames ls → AreReadAlike one other recorded others (l ∷ ls) ⊎ Blames (l ∷ ls)
      by (inr blames) rest = inr blames
      by (inl alike) (inl rest) = inl (alike, rest)
      by (inl alike) (inr (i, unlike, depend)) = inr (i, unlike, more_depend plan.steps l ls i depend)

  module _ (j : ℕ) (s : StepValue) (at : slice_get plan.steps j ≡ Some s) (a : IsRecordedStep one.blobs one.results src recorded h.first.outcomes j j s) (b : IsRecordedStep other.blobs other.results src others h.second.outcomes j j s) where
    in_both : a.digest ≡ b.digest → IsAlike one other recorded others j ⊎ IsUnlike one other recorded others j
    in_both same = by (same_form a.outcome b.outcome)
      where
        both : IsInBoth one other recorded others j
        both = record {
          digest = a.digest;
          in_one = a.digest_at;
          in_other = b.digest_at ∙ ap (λ x. Some x) (sym same);
          outcome = a.outcome;
          another = b.outcome;
          held = record { result = a.step.result; held = a.step.held; recorded = a.step.recorded };
          other_held = subst (λ x. IsHeld other x b.outcome) (sym same) (record { result = b.step.result; held = b.step.held; recorded = b.step.recorded });
        }

        codes : a.outcome.exit_code ≡ b.outcome.exit_code
        codes = a.step.recorded.exit_code ∙ a.step.exit_code ∙ sym (b.step.recorded.exit_code ∙ b.step.exit_code)

        by : HaveOneForm a.outcome b.outcome ⊎ (HaveOneForm a.outcome b.outcome → ⊥) → IsAlike one other recorded others j ⊎ IsUnlike one other recorded others j
        by (inl form) = inl (both, form)
        by (inr unlike) = let differ = forms_differ a.outcome b.outcome a.step.recorded.valid b.step.recorded.valid codes unlike in inr (both, differ.0, differ.1)

    status_of : (n : ℕ) → Known n → ReadBelow n s.lines → Status j s
    status_of n known below = by (same_digest a.digest b.digest)
      where
        on : a.digest ≢ b.digest → AreReadAlike one other recorded others s.lines ⊎ Blames s.lines → Status j s
        on differ (inr blames) = inr (inr blames)
        on differ (inl alike) =
            let both = reads one other src plan recorded others claim another h j s at alike in
            absurd (differ (one_answer (slice_get recorded j) a.digest both.digest a.digest_at both.in_one ∙ one_answer (slice_get others j) both.digest b.digest both.in_other b.digest_at))

        of_both : IsAlike one other recorded others j ⊎ IsUnlike one other recorded others j → Status j s
        of_both (inl alike) = inl alike
        of_both (inr unlike) = inr (inl unlike)

        by : (a.digest ≡ b.digest) ⊎ (a.digest ≢ b.digest) → Status j s
        by (inl same) = of_both (in_both same)
        by (inr differ) = on differ (scan n known s.lines below)

  statuses : (n : ℕ) → Known n
  statuses zero j lt s at = absurd (omega (arith, lt))
  statuses (suc n) j lt s at =
      status_of j s at (step_at one.blobs one.results src plan.steps recorded h.first.outcomes h.first.steps j s at) (step_at other.blobs other.results src plan.steps others h.second.outcomes h.second.steps j s at) n (statuses n)
      (λ l c k p is.
      let less = step_reads one.blobs one.results src [] plan.steps recorded h.first.outcomes h.first.steps j s at l c k p is in
      let inside = slice_get_within plan.steps j s at in
      let t = there plan.steps k (omega (arith, less, inside)) in
      (t.0, t.1, omega (arith, less, lt)))

  pub depends : claim ≢ another → (i : ℕ) × IsUnlike one other recorded others i × DependOn plan.steps plan.root_lines i
  depends apart = by (scan (length plan.steps) (statuses (length plan.steps)) plan.root_lines below)
    where
      below : ReadBelow (length plan.steps) plan.root_lines
      below l c k p is =
          let less = read_before one.blobs one.results src h.first.outcomes plan.root_lines h.first.root.nodes h.first.root.resolved l c k p is in
          let many = as_many one.blobs one.results src plan.steps recorded h.first.outcomes h.first.steps in
          let t = there plan.steps k (omega (arith, less, many)) in
          (t.0, t.1, omega (arith, less, many))

      by : AreReadAlike one other recorded others plan.root_lines ⊎ Blames plan.root_lines → Blames plan.root_lines
      by (inl alike) = absurd (apart (one_root one other src plan recorded others claim another h alike))
      by (inr blames) = blames
