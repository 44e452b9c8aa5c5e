use Rattle.std.proofs.Common.{subst, sym}
use Rattle.tree.specs.Memo.{AsksNoOther, Covers}
use Rattle.text_verifier.specs.Answered.{AnswerLooksAt}
use Rattle.text_verifier.proofs.answering.answer_question.Goals as goal

-- the verifier looks at what the case asks for
pub returns-in_err-judged-clause-few : goal.returns-in_err-judged-clause-few
returns-in_err-judged-clause-few g c list covers =
    c.judge.ensures.few list (subst (λ q. Covers (AnswerLooksAt g.row.A.Denot (g.S.BlobSource.tells c.judge.new.source) q) list) (sym c.case.view_is) covers)

pub returns-clause-few : goal.returns-clause-few
returns-clause-few g c list covers =
    c.judge.ensures.few list (subst (λ q. Covers (AnswerLooksAt g.row.A.Denot (g.S.BlobSource.tells c.judge.new.source) q) list) (sym c.case.view_is) covers)

pub returns-in_err-judged-clause-only : goal.returns-in_err-judged-clause-only
returns-in_err-judged-clause-only g c =
    let before = g.S.BlobSource.tells c.args.source.now in
    let tells = g.S.BlobSource.tells c.judge.new.source in
    subst (λ q. AsksNoOther (AnswerLooksAt g.row.A.Denot tells q) before tells) c.case.view_is c.judge.ensures.only

pub returns-clause-only : goal.returns-clause-only
returns-clause-only g c =
    let before = g.S.BlobSource.tells c.args.source.now in
    let tells = g.S.BlobSource.tells c.judge.new.source in
    subst (λ q. AsksNoOther (AnswerLooksAt g.row.A.Denot tells q) before tells) c.case.view_is c.judge.ensures.only
