use Rattle.std.specs.Prelude.{string_bytes}
use Rattle.processes.specs.Running.{next_of, work_of}
use Rattle.processes.proofs.Numbers.{none_started, one_started}
use Rattle.processes.proofs.running.ProcessRunnerRunner.start.Goals as goal

pub returns-in-Ok-clause-listed : goal.returns-in-Ok-clause-listed
returns-in-Ok-clause-listed g c =
    let old = c.args.self.now in
    let new = c.launch.new.self in
    one_started g.W.Workshop.works (work_of old) (work_of new) (next_of old) (next_of new) (record { layout = c.args.layout.now; command = c.args.command.now }) c.in-Ok.started.child (string_bytes c.in-Ok.started.start)
    c.launch.ensures.work (c.launch.ensures.used c.in-Ok.ensures.left) c.in-Ok.ensures.launched

pub returns-in-Err-clause-unlisted : goal.returns-in-Err-clause-unlisted
returns-in-Err-clause-unlisted g c =
    let old = c.args.self.now in
    let new = c.launch.new.self in
    none_started g.W.Workshop.works (work_of old) (work_of new) (next_of old) (next_of new) c.launch.ensures.work c.launch.ensures.risen
