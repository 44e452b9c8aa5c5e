-- What a verdict is by what was told it is by more, where what it says is missing is told nowhere.
use Rattle.std.proofs.Common.{◌≡◌, ◌≢◌, ◌∙◌, List, [], ◌∷◌, ◌++◌, Some, None, Bool, false, true, ap, inl, inr, map, refl, subst, sym, ℕ}
use Rattle.std.specs.List.{AllByRecursion}
use Rattle.std.specs.Option.{option_map}
use Rattle.std.specs.Prelude.{IfSome, bytes_eq, if◌then◌else◌}
use Rattle.std.proofs.lemmas.Slice.Eq.{bytes_eq-Decides}
use Rattle.blob_digest.specs.Digest.{DigestValue}
use Rattle.blob_source.specs.Source.{Grows, Telling}
use Rattle.plan.specs.Plan.{AreSteps, IsPlan}
use Rattle.plan.specs.Values.{StepValue}
use Rattle.text_verifier.specs.Lacking.{lack_of, noted_for}
use Rattle.text_verifier.specs.Texts.{Question}
use Rattle.text_verifier.specs.declared.lack.Lack.{Lack}
use Rattle.text_verifier.specs.declared.lack.Lack.TheVariants.{ActionResult, Blob}
use Rattle.verifier.proofs.Lasting.{IsNotedAs, StaysAt, plan_lasts}
use Rattle.verifier.specs.Verdict.{IsVerdict}
use Rattle.verifier.specs.declared.verdict.Cause.{Cause}
use Rattle.verifier.specs.declared.verdict.Cause.TheVariants.{BlobMissing, ResultMissing}
use Rattle.verifier.specs.declared.verdict.Place.{Place}
use Rattle.verifier.specs.declared.verdict.Place.TheVariants.{Root, Step}
use Rattle.verifier.specs.declared.verdict.Verdict.{Verdict}
use Rattle.verifier.specs.declared.verdict.Verdict.TheVariants.{No, Yes}

-- ---- what is noted for a step

all_front : (P : StepValue → Type 0) (xs : List StepValue) (x : StepValue) → AllByRecursion P (xs ++ x ∷ []) → AllByRecursion P xs
all_front P [] x h = tt
all_front P (y ∷ ys) x h = (h.0, all_front P ys x h.1)

all_last : (P : StepValue → Type 0) (xs : List StepValue) (x : StepValue) → AllByRecursion P (xs ++ x ∷ []) → P x
all_last P [] x h = h.0
all_last P (y ∷ ys) x h = all_last P ys x h.1

-- another name than this
abbrev IsOther : StepValue → StepValue → Type 0
IsOther t other = other.name ≢ t.name

-- a later step has another name
other_name : (earlier ss : List StepValue) (ds : List DigestValue) (s : StepValue) (name : List ℕ) (d : DigestValue) → ((t : StepValue) → AllByRecursion (IsOther t) earlier → s.name ≢ t.name)
    → AreSteps earlier ss → IsNotedAs name d ss ds → s.name ≢ name
other_name earlier [] ds s name d apart steps h = absurd h
other_name earlier (t ∷ ts) [] s name d apart steps h = absurd h
other_name earlier (t ∷ ts) (e ∷ ds) s name d apart steps (inl h) = λ is. apart t steps.0.new (is ∙ sym h.0)
other_name earlier (t ∷ ts) (e ∷ ds) s name d apart steps (inr h) =
    other_name (earlier ++ t ∷ []) ts ds s name d (λ u all. apart u (all_front (IsOther u) earlier t all)) steps.1 h

abbrev name_of : StepValue → List ℕ
name_of s = s.name

noted_once : (earlier ss : List StepValue) (ds : List DigestValue) (name : List ℕ) (d : DigestValue) → AreSteps earlier ss → IsNotedAs name d ss ds → noted_for name (map name_of ss) ds ≡ Some d
noted_once earlier [] ds name d steps h = absurd h
noted_once earlier (s ∷ ss) [] name d steps h = absurd h
noted_once earlier (s ∷ ss) (e ∷ ds) name d steps (inl h) =
    ap (λ (b : Bool). if b then Some e else noted_for name (map name_of ss) ds) ((bytes_eq-Decides s.name name).1 h.0) ∙ ap Some h.1
noted_once earlier (s ∷ ss) (e ∷ ds) name d steps (inr h) =
    ap (λ (b : Bool). if b then Some e else noted_for name (map name_of ss) ds) (no_other (bytes_eq s.name name) (λ same. other (((bytes_eq-Decides s.name name).0 same)))) ∙ noted_once (earlier ++ s ∷ []) ss ds name d steps.1 h
  where
    other : s.name ≢ name
    other = other_name (earlier ++ s ∷ []) ss ds s name d (λ t all. all_last (IsOther t) earlier s all) steps.1 h

    no_other : (b : Bool) → (b ≡ true → ⊥) → b ≡ false
    no_other true h = absurd (h refl)
    no_other false h = refl

-- ---- the verdict

-- nothing is told of what is lacked
abbrev pub IsUntold : Telling → Lack → Type 0
IsUntold t (Blob d) = t.blobs d ≡ None
IsUntold t (ActionResult d) = t.results d ≡ None

module _ {A : Type 0} (q : Question) (new : Telling) (valid : IsPlan q.plan) where
  lack_stays : (place : Place A) (cause : Cause A) → IfSome (lack_of {A = A} q (No place cause)) (IsUntold new) → StaysAt new q.plan.steps q.noted.digests place cause
  lack_stays place (BlobMissing e) h = h
  lack_stays (Step name) ResultMissing h = λ d k. subst (λ o. IfSome (option_map ActionResult o) (IsUntold new)) (noted_once [] q.plan.steps q.noted.digests name d valid.steps k) h
  lack_stays Root ResultMissing h = tt
  lack_stays place cause h = tt

  pub verdict_lasts : (old : Telling) (v : Verdict A) → Grows old.blobs new.blobs → Grows old.results new.results → IfSome (lack_of q v) (IsUntold new)
      → IsVerdict old q.sources q.plan q.noted.digests q.claim v → IsVerdict new q.sources q.plan q.noted.digests q.claim v
  verdict_lasts old (Yes root steps) grows more lacks h = (h.0, h.1, (plan_lasts A old new grows more q.sources q.plan q.noted.digests q.claim).passes tt h.2)
  verdict_lasts old (No place cause) grows more lacks h = (plan_lasts A old new grows more q.sources q.plan q.noted.digests q.claim).fails (place, cause) (lack_stays place cause lacks) h
