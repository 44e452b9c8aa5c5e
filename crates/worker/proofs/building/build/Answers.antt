use Rattle.worker.specs.Calls.{lost}
use Rattle.worker.specs.Watching.{FinishInOrder, jobs_after}
use Rattle.worker.proofs.Goes.{own_jobs, puts_none}
use Rattle.worker.proofs.Joins.{finish_join, lost_in_order}
use Rattle.worker.proofs.Heard.{watched_moved}
use Rattle.worker.proofs.Acts.{calls_same}
use Rattle.worker.proofs.Blobs.{of_build_within, others_more}
use Rattle.worker.proofs.Keeping.{kept_none}
use Rattle.worker.proofs.Knowing.{knows_nothing}
use Rattle.worker.proofs.PutOnce.{put_none}
use Rattle.worker.proofs.Storing.{steps_none, all_stored}
use Rattle.worker.specs.Counted.{Counts, IsDevice}
use Rattle.worker.proofs.Taking.{loses_then, no_child}
use Rattle.std.proofs.Common.{[], arith, map, subst, sym}
use Rattle.worker.proofs.building.build.Goals as goal

pub end_all-requires : goal.end_all-requires
end_all-requires g c = record {
  there = own_jobs c.take_turns.ensures.going.0;
}

pub returns-in-Ok-clause-led : goal.returns-in-Ok-clause-led
returns-in-Ok-clause-led g c = let going = c.in-Ok.ensures.going in let ends = going.1 in (going.0.led, record { whole = ends.whole; turns = ends.turns; all = ends.all; refused = tt; in_order = ends.in_order; put = ends.put; watched = ends.watched })

pub returns-in-Err-clause-led : goal.returns-in-Err-clause-led
returns-in-Err-clause-led g c =
    let going = c.in-Err.ensures.going in
    let rest = c.end_all.ensures.led c.args.runner.now (g.S.BlobSource.tells c.args.sink.now) (g.S.BlobSource.tells c.take_turns.new.sink) c.args.jobs c.args.engine.now going.0 in
    let stop = going.1.refused in
    let lost_then = rest.1 in
    let t = g.S.BlobSource.tells c.take_turns.new.sink in (
      rest.0,
      record {
        whole = going.1.whole;
        turns = going.1.turns;
        all = tt;
        refused = record { at = stop.at; led = stop.led; begun = stop.begun; are = stop.are; turn = stop.turn; rest = loses_then stop.rest lost_then; planned = stop.planned; stops = stop.stops };
        in_order = subst (FinishInOrder []) (sym lost_then.calls) (finish_join [] going.0.led.built.led.calls (map lost lost_then.ids) going.1.in_order (lost_in_order (jobs_after [] going.0.led.built.led.calls) lost_then.ids));
        put = going.1.put;
        watched = watched_moved g.row.A.Denot (g.N.Runner.yields c.args.runner.now) c.args.jobs c.args.engine.now t t going.0.led.built.led.calls rest.0.built.led.calls (map lost lost_then.ids) lost_then.calls (puts_none t t (map lost lost_then.ids) kept_none) (λ e b at right. at) going.1.watched;
      },
    )

pub returns-in-Err-clause-alive : goal.returns-in-Err-clause-alive
returns-in-Err-clause-alive g c = c.end_all.ensures.alive (g.N.Runner.alive c.args.runner.now) c.take_turns.ensures.alive

pub returns-in-Ok-clause-stored : goal.returns-in-Ok-clause-stored
returns-in-Ok-clause-stored g c none = all_stored (g.S.BlobSource.tells c.take_turns.new.sink) c.take_turns.new.engine (c.in-Ok.ensures.stored (steps_none none))

pub take_turns-requires-clause-knows : goal.take_turns-requires-clause-knows
take_turns-requires-clause-knows g c = record { memo = knows_nothing c.new-memo.ensures; put = put_none c.new-put.result _ c.new-put.ensures.empty }

pub returns-in-Ok-clause-fetched : goal.returns-in-Ok-clause-fetched
returns-in-Ok-clause-fetched g c = c.in-Ok.ensures.fetched

pub returns-in-Ok-clause-unfailed : goal.returns-in-Ok-clause-unfailed
returns-in-Ok-clause-unfailed g c = c.in-Ok.ensures.device.unfailed (λ f. f)

pub returns-in-Err-clause-fetched : goal.returns-in-Err-clause-fetched
returns-in-Err-clause-fetched g c = c.in-Err.ensures.fetched

pub returns-in-Err-clause-device : goal.returns-in-Err-clause-device
returns-in-Err-clause-device g c told =
    let rises = c.in-Err.ensures.device.failed told in
    let still = c.end_all.ensures.device in
    omega (arith, rises, still)

pub returns-in-Ok-clause-alone : goal.returns-in-Ok-clause-alone
returns-in-Ok-clause-alone g c one = c.in-Ok.ensures.device

pub returns-in-Err-clause-alone : goal.returns-in-Err-clause-alone
returns-in-Err-clause-alone g c one =
    let few = c.in-Err.ensures.few in
    let still = c.end_all.ensures.none (no_child c.take_turns.new.underway.children.items c.args.jobs one few) in
    subst (λ n. Counts (g.N.Runner.failures c.args.runner.now) n (IsDevice c.in-Err.error.refusal)) (sym still) c.in-Err.ensures.device

pub returns-in-Ok-clause-blobs : goal.returns-in-Ok-clause-blobs
returns-in-Ok-clause-blobs g c = c.take_turns.ensures.blobs

pub returns-in-Err-clause-blobs : goal.returns-in-Err-clause-blobs
returns-in-Err-clause-blobs g c =
    let t = g.S.BlobSource.tells c.take_turns.new.sink in
    let yields = g.N.Runner.yields c.args.runner.now in
    let rest = c.end_all.ensures.led c.args.runner.now (g.S.BlobSource.tells c.args.sink.now) t c.args.jobs c.args.engine.now c.in-Err.ensures.going.0 in
    others_more (of_build_within (λ l d p h. h) (calls_same g.row.A.Denot yields t c.args.jobs (map lost rest.1.ids) _ _ rest.1.leads)) c.take_turns.ensures.blobs
