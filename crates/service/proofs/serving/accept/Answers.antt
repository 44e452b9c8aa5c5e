use Rattle.std.proofs.Common.{◌≡◌, ◌+◌, ◌-◌, subst, arith}
use Rattle.service.specs.Turns.{FailsAfter}
use Rattle.service.proofs.Failing.{counts_further, counts_none, fails_none, fails_on, if_ok, on_err, on_ok}
use Rattle.service.proofs.serving.accept.Goals as goal

pub loop-tried-init : goal.loop-tried-init
loop-tried-init g c = record { tried = fails_none g.L.Listener.failed c.args.listener.now; still = counts_none g.L.Listener.counts c.args.listener.now }

pub loop-tried-preserved : goal.loop-tried-preserved
loop-tried-preserved g c =
    let failed = g.L.Listener.failed in
    let tried = c.loop-tried.tried-counter in
    let e : (tried - 1) + 1 ≡ (tried + 1) - 1 = omega (arith, c.loop-tried.auto.tried-counter) in
    record {
      tried = subst (λ k. FailsAfter failed 0 k c.args.listener.now c.accept.new.self) e
          (fails_on failed 0 (tried - 1) 1 c.args.listener.now c.loop-tried.listener c.accept.new.self c.loop-tried.invariant.tried c.in-Err.ensures.fails);
      still = counts_further g.L.Listener.counts 0 0 0 0 c.args.listener.now c.loop-tried.listener c.accept.new.self c.loop-tried.invariant.still c.in-Err.ensures.still;
    }

pub returns-in-Ok-clause-gives : goal.returns-in-Ok-clause-gives
returns-in-Ok-clause-gives g c =
    on_ok c.in-Ok.accepted.opened (counts_further g.L.Listener.counts 0 0 1 0 c.args.listener.now c.loop-tried.listener c.accept.new.self c.loop-tried.invariant.still) c.in-Ok.ensures.gives

pub returns-in-Ok-clause-loses : goal.returns-in-Ok-clause-loses
returns-in-Ok-clause-loses g c =
    on_err c.in-Ok.accepted.opened (counts_further g.L.Listener.counts 0 0 1 1 c.args.listener.now c.loop-tried.listener c.accept.new.self c.loop-tried.invariant.still) c.in-Ok.ensures.loses

pub returns-clause-gives : goal.returns-clause-gives
returns-clause-gives g c =
    if_ok c.accept-2.result (λ it. on_ok it.opened (counts_further g.L.Listener.counts 0 0 1 0 c.args.listener.now c.loop-tried.listener c.accept-2.new.self c.loop-tried.invariant.still)) c.accept-2.ensures.gives

pub returns-clause-loses : goal.returns-clause-loses
returns-clause-loses g c =
    if_ok c.accept-2.result (λ it. on_err it.opened (counts_further g.L.Listener.counts 0 0 1 1 c.args.listener.now c.loop-tried.listener c.accept-2.new.self c.loop-tried.invariant.still)) c.accept-2.ensures.loses

pub returns-clause-still : goal.returns-clause-still
returns-clause-still g c =
    on_err c.accept-2.result (counts_further g.L.Listener.counts 0 0 0 0 c.args.listener.now c.loop-tried.listener c.accept-2.new.self c.loop-tried.invariant.still) c.accept-2.ensures.still

pub returns-clause-fails : goal.returns-clause-fails
returns-clause-fails g c =
    let failed = g.L.Listener.failed in
    let tried = c.loop-tried.tried-counter in
    let most = c.loop-tried.auto.tried-counter-end (omega arith) in
    let e : (tried - 1) + 1 ≡ 100 = omega (arith, most, c.loop-tried-test.false) in
    on_err c.accept-2.result
    (λ q. subst (λ k. FailsAfter failed 0 k c.args.listener.now c.accept-2.new.self) e
    (fails_on failed 0 (tried - 1) 1 c.args.listener.now c.loop-tried.listener c.accept-2.new.self c.loop-tried.invariant.tried q)) c.accept-2.ensures.fails
