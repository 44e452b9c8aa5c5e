use Rattle.std.proofs.Common.{◌≡◌, ◌+◌, subst, arith}
use Rattle.service.specs.Turns.{CountsOn}
use Rattle.service.specs.Turns as turns
use Rattle.service.proofs.Failing.{counts_further, counts_none, counts_one, fails_anew, fails_none, fails_on}
use Rattle.service.proofs.serving.serve_listener.Goals as goal

pub loop-number-init : goal.loop-number-init
loop-number-init g c = record { serves = turns.none; counts = counts_none g.L.Listener.counts c.args.listener.now; failed = fails_none g.L.Listener.failed c.args.listener.now }

pub loop-number-preserved : goal.loop-number-preserved
loop-number-preserved g c = let counts = g.L.Listener.counts in record {
  serves = turns.next c.loop-number.number c.loop-number.cache c.serve_next.new.cache c.loop-number.invariant.serves c.serve_next.ensures.serves;
  counts = counts_further counts c.loop-number.number c.loop-number.number 1 1 c.args.listener.now c.loop-number.listener c.serve_next.new.listener c.loop-number.invariant.counts
      (counts_one counts c.in-Ok.accepted.opened c.loop-number.listener c.accept.new.listener c.serve_next.new.listener c.in-Ok.ensures.gives c.in-Ok.ensures.loses c.serve_next.ensures.ends c.serve_next.ensures.still);
  failed = fails_anew g.L.Listener.failed c.loop-number.number c.args.listener.now c.serve_next.new.listener (c.serve_next.ensures.keeps 0 c.in-Ok.ensures.again);
}

pub returns-in-Err-clause-tried : goal.returns-in-Err-clause-tried
returns-in-Err-clause-tried g c =
    fails_on g.L.Listener.failed c.loop-number.number 0 100 c.args.listener.now c.loop-number.listener c.accept.new.listener c.loop-number.invariant.failed c.in-Err.ensures.fails

pub returns-in-Err-clause-counted : goal.returns-in-Err-clause-counted
returns-in-Err-clause-counted g c =
    let counts = g.L.Listener.counts in
    let n = c.loop-number.number in
    let e : n + 0 ≡ n = omega arith in
    subst (λ k. CountsOn counts k k c.args.listener.now c.accept.new.listener) e (counts_further counts n n 0 0 c.args.listener.now c.loop-number.listener c.accept.new.listener c.loop-number.invariant.counts c.in-Err.ensures.still)
