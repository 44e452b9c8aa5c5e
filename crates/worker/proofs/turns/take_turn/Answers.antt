use Rattle.std.proofs.Common.{◌≡◌, ◌++◌, subst, sym}
use Rattle.std.specs.Prelude.{IfErr, OnOk}
use Rattle.worker.specs.Going.{AreOneTurn, FinishesOnly, GoesOnBy, IsTurn, is_start, step_of, taken_in}
use Rattle.worker.specs.Calls.{PutsOf, came_of}
use Rattle.worker.specs.Stopped.{IsRefusedBuild}
use Rattle.worker.proofs.Taking.{finish_right, on_ok, start_stored, finish_stored, then_on_ok}
use Rattle.worker.proofs.Stopping.{start_goes, finish_goes, start_room, finish_room, ended_of}
use Rattle.worker.proofs.Lefts.{start_less, finish_less}
use Rattle.worker.proofs.Counts.{start_only, finish_only}
use Rattle.worker.proofs.PutOnce.{remembers_none, remembers_still}
use Rattle.worker.proofs.Acts.{same_build}
use Rattle.worker.proofs.Blobs.{finish_others, finish_same, of_build_within, of_turns_all, of_turns_moved, others_more}
use Rattle.worker.proofs.turns.take_turn.Goals as goal

pub returns-in-Start-clause-going : goal.returns-in-Start-clause-going
returns-in-Start-clause-going g c entry s most first within turn going =
    let calls = going.led.built.led.calls in
    let old = c.args.engine.now in
    let new = c.begin.new.engine in
    let yields = g.N.Runner.yields entry in
    let sink = g.S.BlobSource.tells c.begin.new.sink in
    subst (λ t. (on : GoesOnBy g.row.A.Denot yields g.N.Runner.may_give (g.N.Runner.starts entry) (g.N.Runner.starts c.begin.new.runner) s sink most first new c.begin.new.children.items calls (taken_in (is_start t) (step_of t c.args.children.now.items) old new))
    × IfErr c.begin.result (λ e. IsRefusedBuild g.row.A.Denot yields s sink most calls on.going.led.built.led.calls first new e.step e.refusal)
    × PutsOf on.more (g.S.BlobSource.tells c.args.sink.now) sink × OnOk c.begin.result (AreOneTurn on.more × (sink.puts ≡ (g.S.BlobSource.tells c.args.sink.now).puts ++ came_of on.more))) (sym c.in-Start.is)
    (start_goes g.row.A.Denot g.row.N-Job.Denot yields g.N.Runner.may_give (g.N.Runner.starts entry) (g.N.Runner.starts c.args.runner.now) (g.N.Runner.starts c.begin.new.runner) s (g.S.BlobSource.tells c.args.sink.now) sink most first old new c.args.children.now.items c.begin.new.children.items going
    c.begin.result (g.N.Runner.yields c.args.runner.now) c.in-Start.step within c.begin.ensures.kept c.begin.ensures.unlisted (subst (IsTurn most old c.args.children.now.items) c.in-Start.is turn) c.plan.ensures.valid c.begin.ensures.begun c.begin.ensures.stopped c.begin.ensures.same)

pub returns-in-Start-clause-fewer : goal.returns-in-Start-clause-fewer
returns-in-Start-clause-fewer g c =
    let turn = subst (IsTurn c.requires.can.0 c.args.engine.now c.args.children.now.items) c.in-Start.is c.requires.can.1 in
    start_less g.row.A.Denot g.row.N-Job.Denot (g.N.Runner.yields c.args.runner.now) g.N.Runner.may_give (g.N.Runner.starts c.args.runner.now) (g.N.Runner.starts c.begin.new.runner) (g.S.BlobSource.tells c.args.sink.now) (g.S.BlobSource.tells c.begin.new.sink) c.args.engine.now c.begin.new.engine c.plan.ensures.valid
    c.begin.result c.in-Start.step c.args.children.now.items c.begin.new.children.items turn.1 turn.2.startable c.begin.ensures.begun

pub returns-in-Finish-clause-going : goal.returns-in-Finish-clause-going
returns-in-Finish-clause-going g c entry s most first within turn going =
    let calls = going.led.built.led.calls in
    let old = c.args.engine.now in
    let new = c.finish_first.new.engine in
    let yields = g.N.Runner.yields entry in
    let sink = g.S.BlobSource.tells c.finish_first.new.sink in
    subst (λ t. (on : GoesOnBy g.row.A.Denot yields g.N.Runner.may_give (g.N.Runner.starts entry) (g.N.Runner.starts c.finish_first.new.runner) s sink most first new c.finish_first.new.children.items calls (taken_in (is_start t) (step_of t c.args.children.now.items) old new))
    × IfErr c.finish_first.result (λ e. IsRefusedBuild g.row.A.Denot yields s sink most calls on.going.led.built.led.calls first new e.step e.refusal)
    × PutsOf on.more (g.S.BlobSource.tells c.args.sink.now) sink × OnOk c.finish_first.result (AreOneTurn on.more × (sink.puts ≡ (g.S.BlobSource.tells c.args.sink.now).puts ++ came_of on.more))) (sym c.in-Finish.is)
    (finish_goes g.row.A.Denot g.row.N-Job.Denot yields g.N.Runner.may_give (g.N.Runner.starts entry) (g.N.Runner.starts c.args.runner.now) (g.N.Runner.starts c.finish_first.new.runner) s (g.S.BlobSource.tells c.args.sink.now) sink most first old new c.args.children.now.items c.finish_first.new.children.items going
    c.finish_first.result (subst (IsTurn most old c.args.children.now.items) c.in-Finish.is turn) c.plan.ensures.valid c.finish_first.ensures.unlisted c.finish_first.ensures.ended c.finish_first.ensures.listed c.finish_first.ensures.stopped)

pub returns-in-Finish-clause-fewer : goal.returns-in-Finish-clause-fewer
returns-in-Finish-clause-fewer g c =
    finish_less g.row.A.Denot g.row.N-Job.Denot (g.N.Runner.yields c.args.runner.now) g.N.Runner.may_give (g.N.Runner.starts c.args.runner.now) (g.N.Runner.starts c.finish_first.new.runner) (g.S.BlobSource.tells c.args.sink.now) (g.S.BlobSource.tells c.finish_first.new.sink) c.args.engine.now c.finish_first.new.engine c.plan.ensures.valid
    c.finish_first.result c.args.children.now.items c.finish_first.new.children.items c.finish_first.ensures.ended

pub returns-in-Finish-clause-right : goal.returns-in-Finish-clause-right
returns-in-Finish-clause-right g c = finish_right g.N.Runner.may_give (g.S.BlobSource.tells c.args.sink.now) (g.S.BlobSource.tells c.finish_first.new.sink) c.args.engine.now c.finish_first.new.engine c.args.children.now.items c.finish_first.new.children.items c.finish_first.result c.finish_first.ensures.ended (ended_of g.N.Runner.may_give (g.S.BlobSource.tells c.args.sink.now) (g.S.BlobSource.tells c.finish_first.new.sink) c.args.engine.now c.finish_first.new.engine c.args.children.now.items c.finish_first.new.children.items c.finish_first.result c.finish_first.ensures.stopped)

pub returns-in-Finish-clause-knows : goal.returns-in-Finish-clause-knows
returns-in-Finish-clause-knows g c = remembers_still (returns-in-Finish-clause-right g c) c.requires.knows

pub returns-in-Start-clause-stored : goal.returns-in-Start-clause-stored
returns-in-Start-clause-stored g c =
    start_stored g.row.A.Denot g.row.N-Job.Denot (g.N.Runner.yields c.args.runner.now) g.N.Runner.may_give (g.N.Runner.starts c.args.runner.now) (g.N.Runner.starts c.begin.new.runner) (g.S.BlobSource.tells c.args.sink.now) (g.S.BlobSource.tells c.begin.new.sink) c.args.engine.now c.begin.new.engine c.args.children.now.items c.begin.new.children.items
    g.N.Runner.yields g.N.Runner.starts c.begin.result c.in-Start.step c.begin.ensures.kept c.begin.ensures.begun

pub returns-in-Finish-clause-stored : goal.returns-in-Finish-clause-stored
returns-in-Finish-clause-stored g c =
    finish_stored g.row.A.Denot g.row.N-Job.Denot (g.N.Runner.yields c.args.runner.now) g.N.Runner.may_give (g.N.Runner.starts c.args.runner.now) (g.N.Runner.starts c.finish_first.new.runner) (g.S.BlobSource.tells c.args.sink.now) (g.S.BlobSource.tells c.finish_first.new.sink) c.args.engine.now c.finish_first.new.engine c.args.children.now.items c.finish_first.new.children.items
    g.N.Runner.yields g.N.Runner.starts c.finish_first.result c.finish_first.ensures.ended c.finish_first.ensures.put

pub returns-in-Start-clause-only : goal.returns-in-Start-clause-only
returns-in-Start-clause-only g c =
    subst (λ t. OnOk c.begin.result (FinishesOnly (step_of t c.args.children.now.items) c.args.engine.now c.begin.new.engine)) (sym c.in-Start.is) (start_only g.row.A.Denot g.row.N-Job.Denot (g.N.Runner.yields c.args.runner.now) g.N.Runner.may_give (g.N.Runner.starts c.args.runner.now) (g.N.Runner.starts c.begin.new.runner) (g.S.BlobSource.tells c.args.sink.now) (g.S.BlobSource.tells c.begin.new.sink) c.args.engine.now c.begin.new.engine
    c.begin.result c.in-Start.step c.args.children.now.items c.begin.new.children.items c.begin.ensures.begun)

pub returns-in-Finish-clause-only : goal.returns-in-Finish-clause-only
returns-in-Finish-clause-only g c =
    subst (λ t. OnOk c.finish_first.result (FinishesOnly (step_of t c.args.children.now.items) c.args.engine.now c.finish_first.new.engine)) (sym c.in-Finish.is) (finish_only g.row.A.Denot g.row.N-Job.Denot (g.N.Runner.yields c.args.runner.now) g.N.Runner.may_give (g.N.Runner.starts c.args.runner.now) (g.N.Runner.starts c.finish_first.new.runner) (g.S.BlobSource.tells c.args.sink.now) (g.S.BlobSource.tells c.finish_first.new.sink) c.args.engine.now c.finish_first.new.engine
    c.finish_first.result c.args.children.now.items c.finish_first.new.children.items c.requires.there c.finish_first.ensures.ended)

pub returns-in-Start-clause-fetched : goal.returns-in-Start-clause-fetched
returns-in-Start-clause-fetched g c = c.begin.ensures.fetched

pub returns-in-Start-clause-device : goal.returns-in-Start-clause-device
returns-in-Start-clause-device g c = c.begin.ensures.device

pub returns-in-Finish-clause-fetched : goal.returns-in-Finish-clause-fetched
returns-in-Finish-clause-fetched g c = c.finish_first.ensures.fetched

pub returns-in-Finish-clause-device : goal.returns-in-Finish-clause-device
returns-in-Finish-clause-device g c = c.finish_first.ensures.device

pub returns-in-Start-clause-room : goal.returns-in-Start-clause-room
returns-in-Start-clause-room g c = start_room c.begin.result c.args.engine.now c.args.children.now.items c.begin.new.children.items c.args.turn c.in-Start.step c.in-Start.is c.begin.ensures.same

pub returns-in-Finish-clause-room : goal.returns-in-Finish-clause-room
returns-in-Finish-clause-room g c = finish_room c.finish_first.result _ c.args.engine.now c.finish_first.new.engine c.args.children.now.items c.finish_first.new.children.items c.args.turn (ended_of g.N.Runner.may_give (g.S.BlobSource.tells c.args.sink.now) (g.S.BlobSource.tells c.finish_first.new.sink) c.args.engine.now c.finish_first.new.engine c.args.children.now.items c.finish_first.new.children.items c.finish_first.result c.finish_first.ensures.stopped)

pub returns-in-Finish-clause-stays : goal.returns-in-Finish-clause-stays
returns-in-Finish-clause-stays g c = remembers_none

pub returns-in-Start-clause-blobs : goal.returns-in-Start-clause-blobs
returns-in-Start-clause-blobs g c entry s most first within going = others_more (of_build_within within (same_build c.begin.new.engine)) c.begin.ensures.only

pub returns-in-Start-clause-whole : goal.returns-in-Start-clause-whole
returns-in-Start-clause-whole g c = then_on_ok c.begin.result (λ only entry s most first within going. others_more (of_turns_moved within (λ e b at right. at) (same_build c.begin.new.engine)) only) c.begin.ensures.whole

pub returns-in-Finish-clause-build : goal.returns-in-Finish-clause-build
returns-in-Finish-clause-build g c = finish_same g.N.Runner.may_give (g.S.BlobSource.tells c.args.sink.now) (g.S.BlobSource.tells c.finish_first.new.sink) c.args.engine.now c.finish_first.new.engine c.args.children.now.items c.finish_first.new.children.items c.finish_first.result c.finish_first.ensures.ended (ended_of g.N.Runner.may_give (g.S.BlobSource.tells c.args.sink.now) (g.S.BlobSource.tells c.finish_first.new.sink) c.args.engine.now c.finish_first.new.engine c.args.children.now.items c.finish_first.new.children.items c.finish_first.result c.finish_first.ensures.stopped)

pub returns-in-Finish-clause-blobs : goal.returns-in-Finish-clause-blobs
returns-in-Finish-clause-blobs g c entry s most first within going = others_more of_turns_all (finish_others (g.S.BlobSource.tells c.finish_first.new.sink) going (returns-in-Finish-clause-right g c) (returns-in-Finish-clause-build g c) c.finish_first.ensures.only)

pub returns-in-Finish-clause-whole : goal.returns-in-Finish-clause-whole
returns-in-Finish-clause-whole g c = on_ok c.finish_first.result (λ entry s most first within going. finish_others (g.S.BlobSource.tells c.finish_first.new.sink) going (returns-in-Finish-clause-right g c) (returns-in-Finish-clause-build g c) c.finish_first.ensures.only)
