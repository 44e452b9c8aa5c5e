-- The steps of a plan that is as recorded, each by its number.
use Rattle.std.proofs.Common.{◌≡◌, ℕ, zero, suc, ◌+◌, List, [], ◌∷◌, ◌++◌, length, Some, refl, ap, sym, ◌∙◌, subst, arith, append_assoc, inl, inr}
use Rattle.std.specs.Prelude.{◌⊎◌, slice_get}
use Rattle.std.proofs.lemmas.List.{append-nil, length-append}
use Rattle.blob_digest.specs.Digest.{DigestValue}
use Rattle.actions.specs.Outcome.{OutcomeValue}
use Rattle.plan.specs.Values.{OriginValue, source, output, LineValue, StepValue}
use Rattle.tree.specs.Merging.{WithinValue, NodeWithin, MergeLines}
use Rattle.blob_source.specs.Source.{Blobs}
use Rattle.tree.specs.Lookup.{Looked}
use Rattle.verifier.specs.Together.{LooksUpOrigin, OriginWithin, StandsAtOrigin, Resolves}
use Rattle.verifier.specs.AsRecorded.{IsAsRecorded, AreAsRecorded}

-- ---- elements by their numbers

get_left : {X : Type 0} (xs ys : List X) (i : ℕ) (x : X) → slice_get xs i ≡ Some x → slice_get (xs ++ ys) i ≡ Some x
get_left [] ys i x e = absurd cc
get_left (y ∷ xs) ys zero x e = e
get_left (y ∷ xs) ys (suc i) x e = get_left xs ys i x e

get_seam : {X : Type 0} (xs : List X) (x : X) (ys : List X) → slice_get (xs ++ x ∷ ys) (length xs) ≡ Some x
get_seam [] x ys = refl
get_seam (y ∷ xs) x ys = get_seam xs x ys

-- what stands in a list with one more stood there before, or is the new one
pub pushed_at : {X : Type 0} (xs : List X) (x y : X) (j : ℕ) → slice_get (xs ++ x ∷ []) j ≡ Some y → (slice_get xs j ≡ Some y) ⊎ ((j ≡ length xs) × (x ≡ y))
pushed_at [] x y zero h = inr (refl, cc)
pushed_at [] x y (suc j) h = absurd cc
pushed_at (z ∷ xs) x y zero h = inl h
pushed_at (z ∷ xs) x y (suc j) h = by (pushed_at xs x y j h)
  where
    by : (slice_get xs j ≡ Some y) ⊎ ((j ≡ length xs) × (x ≡ y)) → (slice_get xs j ≡ Some y) ⊎ ((suc j ≡ suc (length xs)) × (x ≡ y))
    by (inl k) = inl k
    by (inr k) = inr (ap suc k.0, k.1)

-- lists of one length have elements at the same numbers
pub get_other : {X Y : Type 0} (xs : List X) (ys : List Y) (i : ℕ) (x : X) → length xs ≡ length ys → slice_get xs i ≡ Some x → (y : Y) × (slice_get ys i ≡ Some y)
get_other [] ys i x same e = absurd cc
get_other (x ∷ xs) [] i z same e = absurd cc
get_other (x ∷ xs) (y ∷ ys) zero z same e = (y, refl)
get_other (x ∷ xs) (y ∷ ys) (suc i) z same e = let rest : length xs ≡ length ys = cc in get_other xs ys i z rest e

-- ---- more outcomes

module _ (B C : Blobs) (src : DigestValue) where
  looks_more : (before more : List OutcomeValue) (o : OriginValue) (r : Looked) → LooksUpOrigin B src (slice_get before) o r → LooksUpOrigin B src (slice_get (before ++ more)) o r
  looks_more before more (source p) r h = h
  looks_more before more (output j p) r h = (h.0, get_left before more j h.0 h.1, h.2)

  within_more : (before more : List OutcomeValue) (o : OriginValue) (w : WithinValue) → OriginWithin (slice_get before) o w → OriginWithin (slice_get (before ++ more)) o w
  within_more before more (source p) w h = h
  within_more before more (output j p) w h = (h.0, get_left before more j h.0 h.1, h.2)

  stands_more : (before more : List OutcomeValue) (o : OriginValue) (x : NodeWithin) → StandsAtOrigin B src (slice_get before) o x → StandsAtOrigin B src (slice_get (before ++ more)) o x
  stands_more before more o x h = record { node = looks_more before more o _ h.node; within = within_more before more o x.within h.within }

  resolves_more : (before more : List OutcomeValue) (ls : List LineValue) (xs : MergeLines) → Resolves B src (slice_get before) ls xs → Resolves B src (slice_get (before ++ more)) ls xs
  resolves_more before more [] xs h = h
  resolves_more before more (l ∷ ls) xs h = (h.0, stands_more before more l.origin h.0 h.1, h.2, resolves_more before more ls h.2 h.3, h.4)

  -- the outcomes begin with those that were there before
  ends_with : (before : List OutcomeValue) (ss : List StepValue) (ds : List DigestValue) (os : List OutcomeValue) → AreAsRecorded B C src before ss ds os → (more : List OutcomeValue) × (os ≡ before ++ more)
  ends_with before [] ds os h = ([], h ∙ sym (append-nil before))
  ends_with before (s ∷ ss) [] os h = elim h [ ]
  ends_with before (s ∷ ss) (d ∷ ds) os h =
      let rest = ends_with (before ++ h.0 ∷ []) ss ds os h.2 in
      let joined : (before ++ h.0 ∷ []) ++ rest.0 ≡ before ++ h.0 ∷ rest.0 = simp append_assoc in
      (h.0 ∷ rest.0, rest.1 ∙ joined)

  -- as many outcomes as steps
  outcomes_count : (before : List OutcomeValue) (ss : List StepValue) (ds : List DigestValue) (os : List OutcomeValue) → AreAsRecorded B C src before ss ds os → length os ≡ length before + length ss
  outcomes_count before [] ds os h = let same = ap length h in omega (arith, same)
  outcomes_count before (s ∷ ss) [] os h = elim h [ ]
  outcomes_count before (s ∷ ss) (d ∷ ds) os h =
      let rest = outcomes_count (before ++ h.0 ∷ []) ss ds os h.2 in
      let one : length (before ++ h.0 ∷ []) ≡ length before + 1 = length-append before (h.0 ∷ []) in
      omega (arith, rest, one)

  pub as_many : (ss : List StepValue) (ds : List DigestValue) (os : List OutcomeValue) → AreAsRecorded B C src [] ss ds os → length os ≡ length ss
  as_many ss ds os h = let same = outcomes_count [] ss ds os h in omega (arith, same)

  -- What was recorded of a step with a number. An origin in what an earlier step came to is one in what all steps came to.
  pub record IsRecordedStep (ds : List DigestValue) (os : List OutcomeValue) (i n : ℕ) (s : StepValue) : Type 0 where
    pub digest : DigestValue
    pub outcome : OutcomeValue
    pub digest_at : slice_get ds i ≡ Some digest
    pub outcome_at : slice_get os n ≡ Some outcome
    pub step : IsAsRecorded B C src os s digest outcome

  with_all : (before more os : List OutcomeValue) (s : StepValue) (d : DigestValue) (o : OutcomeValue) → os ≡ before ++ more → IsAsRecorded B C src before s d o → IsAsRecorded B C src os s d o
  with_all before more os s d o e h = record {
    action = h.action;
    command = h.command;
    nodes = h.nodes;
    tree = h.tree;
    result = h.result;
    action_told = h.action_told;
    may_be_cached = h.may_be_cached;
    frame = h.frame;
    command_told = h.command_told;
    resolved = subst (λ os. Resolves B src (slice_get os) s.lines h.nodes) (sym e) (resolves_more before more s.lines h.nodes h.resolved);
    put_together = h.put_together;
    input = h.input;
    held = h.held;
    exit_code = h.exit_code;
    recorded = h.recorded;
    listed = h.listed;
  }

  step_from : (before : List OutcomeValue) (ss : List StepValue) (ds : List DigestValue) (os : List OutcomeValue) → AreAsRecorded B C src before ss ds os
      → (i : ℕ) (s : StepValue) → slice_get ss i ≡ Some s → IsRecordedStep ds os i (length before + i) s
  step_from before [] ds os h i s e = absurd cc
  step_from before (x ∷ ss) [] os h i s e = elim h [ ]
  step_from before (x ∷ ss) (d ∷ ds) os h zero s e =
      let same : x ≡ s = cc in
      let rest = ends_with (before ++ h.0 ∷ []) ss ds os h.2 in
      let joined : (before ++ h.0 ∷ []) ++ rest.0 ≡ before ++ h.0 ∷ rest.0 = simp append_assoc in
      let all : os ≡ before ++ h.0 ∷ rest.0 = rest.1 ∙ joined in
      let place : length before ≡ length before + 0 = omega arith in
      record {
        digest = d;
        outcome = h.0;
        digest_at = refl;
        outcome_at = ap (slice_get os) (sym place) ∙ ap (λ xs. slice_get xs (length before)) all ∙ get_seam before h.0 rest.0;
        step = with_all before (h.0 ∷ rest.0) os s d h.0 all (subst (λ y. IsAsRecorded B C src before y d h.0) same h.1);
      }
  step_from before (x ∷ ss) (d ∷ ds) os h (suc i) s e =
      let rest = step_from (before ++ h.0 ∷ []) ss ds os h.2 i s e in
      let one : length (before ++ h.0 ∷ []) ≡ length before + 1 = length-append before (h.0 ∷ []) in
      let place : length (before ++ h.0 ∷ []) + i ≡ length before + suc i = omega (arith, one) in
      record { digest = rest.digest; outcome = rest.outcome; digest_at = rest.digest_at; outcome_at = ap (slice_get os) (sym place) ∙ rest.outcome_at; step = rest.step }

  pub step_at : (ss : List StepValue) (ds : List DigestValue) (os : List OutcomeValue) → AreAsRecorded B C src [] ss ds os
      → (i : ℕ) (s : StepValue) → slice_get ss i ≡ Some s → IsRecordedStep ds os i i s
  step_at ss ds os h i s e =
      let none : length {A = OutcomeValue} [] + i ≡ i = omega arith in
      subst (λ n. IsRecordedStep ds os i n s) none (step_from [] ss ds os h i s e)
