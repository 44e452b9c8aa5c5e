use Rattle.std.proofs.Common.{subst, sym, arith}
use Rattle.std.specs.Prelude.{IfOk}
use Rattle.tree.specs.Memo.{AsksNoOther, Covers}
use Rattle.tree.proofs.Learning.{known_nothing, nothing_known}
use Rattle.verifier.specs.LooksAt.{PlanLooksAt}
use Rattle.verifier.specs.Verdict.{IsVerdict}
use Rattle.verifier.proofs.Holds.{answers_hold, answers_unstuck}
use Rattle.verifier.proofs.verifying.judge.Goals as goal

pub returns-clause-holds : goal.returns-clause-holds
returns-clause-holds g c =
    let tells = g.S.BlobSource.tells c.decide.new.source in
    let verdict = subst (λ digests. IfOk c.decide.result (λ judged. IsVerdict tells c.args.sources.now c.args.plan.now digests c.args.claim.now judged.verdict)) c.digests.ensures.value c.decide.ensures.verdict in
    answers_hold tells c.args.sources.now c.args.plan.now c.args.record.now.digests c.args.claim.now c.decide.ensures.valid c.decide.result verdict

pub returns-clause-unstuck : goal.returns-clause-unstuck
returns-clause-unstuck g c =
    let tells = g.S.BlobSource.tells c.decide.new.source in
    let verdict = subst (λ digests. IfOk c.decide.result (λ judged. IsVerdict tells c.args.sources.now c.args.plan.now digests c.args.claim.now judged.verdict)) c.digests.ensures.value c.decide.ensures.verdict in
    answers_unstuck tells c.args.sources.now c.args.plan.now c.args.record.now.digests c.args.claim.now c.decide.ensures.valid c.decide.result verdict

pub decide-requires-clause-known : goal.decide-requires-clause-known
decide-requires-clause-known g c = known_nothing c.new-memo.ensures

pub returns-clause-few : goal.returns-clause-few
returns-clause-few g c list covers =
    let tells = g.S.BlobSource.tells c.decide.new.source in
    let all = subst (λ digests. Covers (PlanLooksAt g.row.A.Denot tells c.args.sources.now c.args.plan.now digests) list) (sym c.digests.ensures.value) covers in
    let once = c.decide.ensures.learned.once list all in
    let none = nothing_known c.new-memo.ensures list in
    omega (arith, once, none)

pub returns-clause-only : goal.returns-clause-only
returns-clause-only g c =
    let before = g.S.BlobSource.tells c.args.source.now in
    let tells = g.S.BlobSource.tells c.decide.new.source in
    subst (λ digests. AsksNoOther (PlanLooksAt g.row.A.Denot tells c.args.sources.now c.args.plan.now digests) before tells) c.digests.ensures.value c.decide.ensures.learned.only
