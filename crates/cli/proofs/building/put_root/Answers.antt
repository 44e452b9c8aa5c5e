use Rattle.std.proofs.Common.{subst, sym}
use Rattle.std.proofs.Math.Logic.{∥∥₁_map}
use Rattle.remote.specs.Remote.{connection_of, telling_of}
use Rattle.worker.specs.Outcomes.{HasAllRight}
use Rattle.tree.specs.Folded.{items_of}
use Rattle.cli.specs.Built.{HoldsRoot}
use Rattle.cli.proofs.building.put_root.Goals as goal

pub returns-in-Ok-clause-held : goal.returns-in-Ok-clause-held
returns-in-Ok-clause-held g c =
    let remote = c.put_all.new.sink.remote in
    subst (HoldsRoot g.K.Opened.start (telling_of c.args.client.now.remote)) (sym c.in-Built.is) (
      telling_of remote,
      ∥∥₁_map c.put_all.new.sink.over (λ over. (connection_of g.S.Stream.flow remote, over)),
      c.put_all.ensures.kept.puts,
      subst (λ bs. HasAllRight (telling_of remote).blobs (items_of bs)) c.deref.ensures.value c.in-Ok.ensures.held,
    )
