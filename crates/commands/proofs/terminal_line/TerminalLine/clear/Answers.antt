use Rattle.std.proofs.Common.{Some, subst, sym}
use Rattle.commands.specs.Told.{AppendsToSome, erasing}
use Rattle.commands.proofs.Writing.{beginning_kept, beginning_of}
use Rattle.commands.proofs.terminal_line.TerminalLine.clear.Goals as goal

pub returns-clause-told : goal.returns-clause-told
returns-clause-told g c =
    let contents = g.T.Write.contents in
    let old = contents c.in-Some.terminal in
    let mid = contents c.write_bytes.new.out in
    λ written. subst (λ o. AppendsToSome contents o (Some c.flush.new.self) erasing) (sym c.in-Some.is)
    (beginning_kept old mid (contents c.flush.new.self) erasing (beginning_of old mid erasing c.write_bytes.result c.write_bytes.ensures.written c.write_bytes.ensures.part) c.flush.ensures.bytes)
