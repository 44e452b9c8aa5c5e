-- What is asked of the verifier, and the texts that ask it.
use Rattle.std.specs.Prelude.{◌≡◌, ℕ, List}
use Rattle.blob_digest.specs.Digest.{DigestValue, IsDigest}
use Rattle.blob_digest.specs.Text.{digest_text}
use Rattle.plan.specs.Plan.{IsPlan, plan_text}
use Rattle.plan.specs.Record.{RecordValue, IsRecord, Fits, build_record_text}
use Rattle.plan.specs.Values.{PlanValue}

-- the text spells the digest
pub record IsDigestText (text : List ℕ) (digest : DigestValue) : Type 0 where
  pub valid : IsDigest digest
  pub text_is : text ≡ digest_text digest

-- The question whether each build of a plan, from sources with a digest, ends in a claimed root, by
-- what one build of it noted.
pub record Question : Type 0 where
  pub sources : DigestValue
  pub claim : DigestValue
  pub plan : PlanValue
  pub noted : RecordValue

abbrev pub question_of : DigestValue → DigestValue → PlanValue → RecordValue → Question
question_of sources claim plan noted =
    record { sources = sources; claim = claim; plan = plan; noted = noted }

-- the plan of this text
pub record HasPlan (text : List ℕ) (plan : PlanValue) : Type 0 where
  pub valid : IsPlan plan
  pub text_is : text ≡ plan_text plan

-- the record of this text, which is of the plan
pub record HasRecord (plan : PlanValue) (text : List ℕ) (noted : RecordValue) : Type 0 where
  pub valid : IsRecord noted
  pub fits : Fits noted plan
  pub text_is : text ≡ build_record_text noted

-- The question that texts ask: its digests are spelled, the plan is the one of its text, and so is
-- the record, which is of that plan.
pub record HasTexts (sources claim plan noted : List ℕ) (question : Question) : Type 0 where
  pub sources_spelled : IsDigestText sources question.sources
  pub claim_spelled : IsDigestText claim question.claim
  pub plan_is : HasPlan plan question.plan
  pub noted_is : HasRecord question.plan noted question.noted
