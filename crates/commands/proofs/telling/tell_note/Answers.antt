use Rattle.commands.proofs.Writing.{beginning_of, no_note_by, note_by}
use Rattle.std.proofs.Common.{subst}
use Rattle.commands.specs.Told.{AppendsBeginning}
use Rattle.commands.proofs.telling.tell_note.Goals as goal

-- memory ran out
pub returns-in_default : goal.returns-in_default
returns-in_default g c = no_note_by c.args.note.now (g.E.Write.contents c.args.err.now)

pub returns : goal.returns
returns g c =
    let old = g.E.Write.contents c.args.err.now in
    let mid = g.E.Write.contents c.write_bytes.new.out in
    let new = g.E.Write.contents c.flush.new.self in
    let line = c.in-Ok.line.items in
    note_by c.args.note.now old mid new c.in-Ok.ensures.0 line c.in-Ok.ensures.1 c.in-Ok.ensures.2
    (subst (AppendsBeginning old mid) c.deref.ensures.value (beginning_of old mid _ c.write_bytes.result c.write_bytes.ensures.written c.write_bytes.ensures.part))
    c.flush.ensures.bytes
