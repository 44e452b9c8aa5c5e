-- Answers of the verifier.
use Rattle.std.specs.Prelude.{◌≡◌, Option}
use Rattle.blob_source.specs.Source.{Telling}
use Rattle.tree.specs.Memo.{Asked}
use Rattle.verifier.specs.declared.verdict.Verdict.{Verdict}
use Rattle.verifier.specs.Headline.{EveryRunEndsIn, NoRunIsStuck}
use Rattle.verifier.specs.LooksAt.{PlanLooksAt}
use Rattle.verifier.specs.Made.{HandsOut}
use Rattle.verifier.specs.Verdict.{IsVerdict, IsYes}
use Rattle.verifier.specs.declared.made.Made.{Made}
use Rattle.text_verifier.specs.declared.answering.Answer.{Answer}
use Rattle.text_verifier.specs.Lacking.{lack_of}
use Rattle.text_verifier.specs.Texts.{Question}

-- The verdict on a question by what a source told. Where it is yes, every complete run of the plan
-- ends in exactly the claimed root, and no run is ever stuck.
pub record IsJudged {A : Type 0} (told : Telling) (q : Question) (v : Verdict A) : Type 0 where
  pub verdict : IsVerdict told q.sources q.plan q.noted.digests q.claim v
  pub holds : IsYes v
      → EveryRunEndsIn told.blobs told.results q.sources q.plan q.noted.digests q.claim
  pub unstuck : IsYes v → NoRunIsStuck told.blobs told.results q.sources q.plan q.noted.digests

-- what builds of the question's plan make, where the verdict is that it isn't the claim
abbrev pub IsMadeFor : {A : Type 0} → Telling → Question → Verdict A → Option (Made A) → Type 0
IsMadeFor told q verdict made = HandsOut told q.sources q.plan q.noted.digests verdict made

-- an answer has the verdict on the question, what the source lacks by it, and what builds make
pub record IsAnswer {A : Type 0} (told : Telling) (q : Question) (answer : Answer A) : Type 0 where
  pub judged : IsJudged told q answer.verdict
  pub lack : answer.lack ≡ lack_of q answer.verdict
  pub made : IsMadeFor told q answer.verdict answer.made

-- what the verifier looks at for a question, up to the first fault
abbrev pub AnswerLooksAt : (A : Type 0) → Telling → Question → Asked → Type 0
AnswerLooksAt A told q = PlanLooksAt A told q.sources q.plan q.noted.digests
