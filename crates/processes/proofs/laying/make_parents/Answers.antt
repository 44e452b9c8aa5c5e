use Rattle.processes.proofs.Rooms.{above_more}
use Rattle.processes.proofs.laying.make_parents.Goals as goal

pub loop-path-preserved : goal.loop-path-preserved
loop-path-preserved g c =
    above_more g.W.Workshop.works c.args.room.now c.loop-path.room c.make_parent.new.room c.args.start.now c.args.outputs.now c.loop-path.path-index c.path-item.result
    c.loop-path-test.true c.path-item.is c.loop-path.invariant c.in_ok-make_parent.ensures.made
