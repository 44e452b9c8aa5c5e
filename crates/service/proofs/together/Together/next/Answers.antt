use Rattle.std.proofs.Common.{◌∙◌, ap, rules, subst}
use Rattle.service.specs.Turns.{FailsAfter}
use Rattle.service.specs.declared.together.Together.{Together}
use Rattle.service.proofs.Failing.{fails_on}
use Rattle.service.proofs.Talking.{not_both}
use Rattle.service.proofs.together.Together.next.Goals as goal

pub loop-failed-preserved : goal.loop-failed-preserved
loop-failed-preserved g c = record {
  tried = fails_on g.N.Sockets.failed 0 c.loop-failed.failed 1 c.args.sockets.now c.loop-failed.sockets c.accept.new.self c.loop-failed.invariant.tried
      (c.in-Err.ensures.fails (λ e. not_both c.finds_none.result c.if-finds_none.false (c.finds_none.ensures.1 e)));
  places = λ free given h. c.in-Err.ensures.keeps free given (c.loop-failed.invariant.places free given h);
  few = search rules;
  same = ap (λ (z : Together g.row.S.Denot). record z { line = c.clear.new.self }) c.loop-failed.invariant.same;
}

pub returns-then-tried-eq-TRIES-clause-fails : goal.returns-then-tried-eq-TRIES-clause-fails
returns-then-tried-eq-TRIES-clause-fails g c = record {
  before = c.args.sockets.now;
  tried = subst (λ k. FailsAfter g.N.Sockets.failed 0 k c.args.sockets.now c.accept.new.self) c.if-tried-eq-TRIES.true
      (fails_on g.N.Sockets.failed 0 c.loop-failed.failed 1 c.args.sockets.now c.loop-failed.sockets c.accept.new.self c.loop-failed.invariant.tried
      (c.in-Err.ensures.fails (λ e. not_both c.finds_none.result c.if-finds_none.false (c.finds_none.ensures.1 e))));
  last = c.in-Err.ensures.last;
}

pub returns-in-Ok-clause-again : goal.returns-in-Ok-clause-again
returns-in-Ok-clause-again g c was shut = absurd (not_both c.loop-failed.self.waits shut (ap (λ z. z.waits) c.loop-failed.invariant.same ∙ was))

pub returns-then-tried-eq-TRIES-clause-again : goal.returns-then-tried-eq-TRIES-clause-again
returns-then-tried-eq-TRIES-clause-again g c was shut = absurd (not_both c.loop-failed.self.waits shut (ap (λ z. z.waits) c.loop-failed.invariant.same ∙ was))

pub returns-clause-again : goal.returns-clause-again
returns-clause-again g c was shut = absurd (not_both c.loop-failed.self.waits shut (ap (λ z. z.waits) c.loop-failed.invariant.same ∙ was))
