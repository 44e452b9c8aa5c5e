use Rattle.std.proofs.KnownBytes.{Appends-kept}
use Rattle.commands.proofs.Writing.{beginning_of_all, beginning_of_part, where_err}
use Rattle.commands.proofs.printing.print_all.Goals as goal

pub returns-in_err-write_bytes-clause-begun : goal.returns-in_err-write_bytes-clause-begun
returns-in_err-write_bytes-clause-begun g c =
    where_err c.from_residual.result
    (beginning_of_part (g.O.Write.contents c.args.out.now) (g.O.Write.contents c.write_bytes.new.out) c.args.bytes.now c.in_err-write_bytes.ensures.part)

pub returns-clause-begun : goal.returns-clause-begun
returns-clause-begun g c =
    let old = g.O.Write.contents c.args.out.now in
    let mid = g.O.Write.contents c.write_bytes.new.out in
    let new = g.O.Write.contents c.flush.new.self in
    where_err c.map_err.result
    (beginning_of_all old new c.args.bytes.now (Appends-kept old mid new c.args.bytes.now c.in_ok-write_bytes.ensures.written c.flush.ensures.bytes))
