use Rattle.std.proofs.Common.{Some, subst, sym}
use Rattle.commands.specs.Told.{AppendsToSome, line_over}
use Rattle.commands.proofs.Writing.{beginning_kept}
use Rattle.commands.proofs.terminal_line.TerminalLine.write.Goals as goal

pub returns-clause-told : goal.returns-clause-told
returns-clause-told g c =
    let contents = g.T.Write.contents in
    let line = line_over c.args.text.now in
    subst (λ o. AppendsToSome contents o (Some c.flush.new.self) line) (sym c.in-Some.is)
    (beginning_kept (contents c.in-Some.terminal) (contents c.write_over.new.terminal) (contents c.flush.new.self) line c.write_over.ensures c.flush.ensures.bytes)
