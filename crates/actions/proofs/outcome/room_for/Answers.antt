use Rattle.std.proofs.Common.{true, false, sym, ◌∙◌, refl}
use Rattle.std.proofs.lemmas.Result.{err_from_is_err_and}
use Rattle.actions.proofs.OutcomeLookups.{paths_in}
use Rattle.actions.proofs.PathLookups.{none_stands_over}
use Rattle.actions.proofs.Rooms.{no_room, room}
use Rattle.actions.proofs.outcome.room_for.Goals as goal

pub returns-in_default-clause-room : goal.returns-in_default-clause-room
returns-in_default-clause-room g c = no_room (paths_in c.args.outputs.now) c.args.path.now c.as_bytes-text.result.now c.requires.valid c.as_bytes-text.ensures.valid c.as_bytes-text.ensures.value c.in_default.field-0 (c.in_default.ensures {u = tt})

pub returns-then-lies_under_some-clause-room : goal.returns-then-lies_under_some-clause-room
returns-then-lies_under_some-clause-room g c =
    room (paths_in c.args.outputs.now) c.args.path.now c.as_bytes-text.result.now c.requires.valid c.as_bytes-text.ensures.valid c.as_bytes-text.ensures.value c.in-Err.place true _ c.requires.ascend c.requires.apart (c.in-Err.ensures {u = tt}) (c.if-lies_under_some.ensures {u = tt}) refl

pub returns-then-branch-clause-room : goal.returns-then-branch-clause-room
returns-then-branch-clause-room g c =
    room (paths_in c.args.outputs.now) c.args.path.now c.as_bytes-text.result.now c.requires.valid c.as_bytes-text.ensures.valid c.as_bytes-text.ensures.value c.in-Err.place false true c.requires.ascend c.requires.apart (c.in-Err.ensures {u = tt}) (c.if-lies_under_some.ensures {u = tt}) (sym c.if-branch.true ∙ c.in_ok-some_lies_under.ensures {u = tt})

pub returns-clause-room : goal.returns-clause-room
returns-clause-room g c =
    room (paths_in c.args.outputs.now) c.args.path.now c.as_bytes-text.result.now c.requires.valid c.as_bytes-text.ensures.valid c.as_bytes-text.ensures.value c.in-Err.place false false c.requires.ascend c.requires.apart (c.in-Err.ensures {u = tt}) (c.if-lies_under_some.ensures {u = tt}) (sym c.if-branch.false ∙ c.in_ok-some_lies_under.ensures {u = tt})

pub returns-in_err-some_lies_under-clause-memory : goal.returns-in_err-some_lies_under-clause-memory
returns-in_err-some_lies_under-clause-memory g c =
    let p = err_from_is_err_and c.from_residual.result c.from_residual.ensures.1 in
    rw p.1 (none_stands_over (paths_in c.args.outputs.now) c.args.path.now c.as_bytes-text.result.now c.in-Err.place c.requires.valid c.as_bytes-text.ensures.value (sym (c.if-lies_under_some.ensures {u = tt})) (c.in-Err.ensures {u = tt}))

pub returns-clause-above : goal.returns-clause-above
returns-clause-above g c =
    none_stands_over (paths_in c.args.outputs.now) c.args.path.now c.as_bytes-text.result.now c.in-Err.place c.requires.valid c.as_bytes-text.ensures.value (sym (c.if-lies_under_some.ensures {u = tt})) (c.in-Err.ensures {u = tt})
