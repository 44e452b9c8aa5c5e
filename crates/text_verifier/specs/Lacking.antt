-- What a verdict says that the source lacks: a blob, or the result of an action.
use Rattle.std.specs.Prelude.{ℕ, List, ◌∷◌, Option, Some, None, if◌then◌else◌}
use Rattle.std.specs.Option.{option_map}
use Rattle.std.specs.Str.{bytes_eq}
use Rattle.blob_digest.specs.Digest.{DigestValue}
use Rattle.plan.specs.Record.{names_of}
use Rattle.text_verifier.specs.Texts.{Question}
use Rattle.text_verifier.specs.declared.lack.Lack.{Lack}
use Rattle.text_verifier.specs.declared.lack.Lack.TheVariants.{Blob, ActionResult}
use Rattle.verifier.specs.declared.verdict.Cause.TheVariants.{BlobMissing, ResultMissing}
use Rattle.verifier.specs.declared.verdict.Place.{Place}
use Rattle.verifier.specs.declared.verdict.Place.TheVariants.{Step, Root}
use Rattle.verifier.specs.declared.verdict.Verdict.{Verdict}
use Rattle.verifier.specs.declared.verdict.Verdict.TheVariants.{No}

-- the digest that is noted for the first step of a name
abbrev pub noted_for : List ℕ → List (List ℕ) → List DigestValue → Option DigestValue
noted_for name (step ∷ steps) (d ∷ digests) =
    if bytes_eq step name then Some d else noted_for name steps digests
noted_for name steps digests = None

-- the digest that is noted for the step of a place
abbrev pub noted_at : {A : Type 0} → Question → Place A → Option DigestValue
noted_at q (Step name) = noted_for name (names_of q.plan) q.noted.digests
noted_at q Root = None

abbrev pub lack_of : {A : Type 0} → Question → Verdict A → Option Lack
lack_of q (No place (BlobMissing d)) = Some (Blob d)
lack_of q (No place ResultMissing) = option_map ActionResult (noted_at q place)
lack_of q verdict = None
