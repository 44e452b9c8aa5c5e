use Rattle.commands.proofs.Writing.{up_to_more}
use Rattle.commands.proofs.telling.write_bytes.Goals as goal

pub loop-rest-preserved : goal.loop-rest-preserved
loop-rest-preserved g c =
    let contents = g.O.Write.contents in
    up_to_more (contents c.args.out.now) (contents c.loop-rest.out) (contents c.write_again.new.writer) c.args.bytes.now c.loop-rest.rest.now c.in-Ok.count c.loop-rest.invariant c.in-Ok.ensures.bytes
