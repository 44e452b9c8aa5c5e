-- The build of two steps by sources that tell nothing of it, or more.
use Rattle.std.proofs.Common.{ap, [], ◌≡◌, ℕ, List, Some, inl, inr, refl}
use Rattle.std.specs.Option.{unwrap_or}
use Rattle.action_messages.specs.Action.{action_bytes}
use Rattle.blob_digest.specs.Digest.{DigestValue}
use Rattle.blob_source.specs.Source.{Blobs, Grows, IsUnder}
use Rattle.tree.specs.Memo.{Asked, blob, result}
use Rattle.tree.specs.MergeLooks.{looks}
use Rattle.tree.specs.Stage.{◌and_then◌}
use Rattle.verifier.specs.LooksAt.{PlanLooksAt}
use Rattle.verifier.specs.TwoSteps as two
use Rattle.verifier.specs.TwoTellings.{TellAlike, TellsMore}
use Rattle.verifier.specs.Verdict.{IsVerdict}
use Rattle.verifier.specs.declared.verdict.Verdict.TheVariants.{Yes}
use Rattle.verifier.proofs.Passing.{recorded_verdict}
use Rattle.verifier.proofs.TwoStepsRecorded.{as_recorded, sized}

-- nothing is told that isn't told elsewhere
pub tells_less : TellsMore two.silent two.telling
tells_less = record { blobs = λ d b told. absurd cc; results = λ d b told. absurd cc }

-- what is told stays where the rest is filled
filled_keeps : (told : Blobs) → Grows told (two.filled told)
filled_keeps told d b is = ap (λ o. Some (unwrap_or o [])) is

pub tells_more : TellsMore two.telling two.lavish
tells_more = record { blobs = filled_keeps two.blobs; results = filled_keeps two.results }

pub says_yes : (A : Type 0) → IsVerdict {A = A} two.telling two.sources two.plan two.recorded two.claim (Yes two.claim 2)
says_yes A = recorded_verdict A two.telling two.sources two.plan two.recorded two.claim (as_recorded two.sources)

-- nothing is told under the first Action's digest
untold : (b : List ℕ) → IsUnder two.silent.blobs two.gen_action_digest (Some b) → ⊥
unfolding two.gen_action_digest
untold b (inl h) = sized two.gen_action_digest 137 refl h.0
untold b (inr h) = absurd (let is = h.1 in cc)

-- where nothing is told, that digest is all that is looked at
looks_once : (A : Type 0) (a : Asked) → PlanLooksAt A two.silent two.sources two.plan two.recorded a → a ≡ blob two.gen_action_digest
unfolding looks ◌and_then◌
looks_once A a (inl (inl (inl look))) = look.0
looks_once A a (inl (inl (inr h))) = absurd (untold (action_bytes h.0) h.1.blob.held)
looks_once A a (inl (inr h)) = absurd (untold (action_bytes h.1.0) h.1.1.blob.held)
looks_once A a (inr h) = absurd (untold (action_bytes h.1.1.0) h.1.1.1.blob.held)

pub tell_alike : (A : Type 0) → TellAlike (PlanLooksAt A two.silent two.sources two.plan two.recorded) two.silent (record two.silent { results = two.results })
tell_alike A = record { blobs = λ d look. refl; results = λ d look. absurd (other d (looks_once A (result d) look)) }
  where
    other : (d : DigestValue) → result d ≡ blob two.gen_action_digest → ⊥
    other d is = cc
