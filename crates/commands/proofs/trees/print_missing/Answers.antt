use Rattle.std.proofs.Common.{◌∙◌, inr, subst}
use Rattle.std.specs.Prelude.{OnOk}
use Rattle.std.specs.Io.KnownBytes.{Appends}
use Rattle.commands.specs.Told.{AppendsBeginning}
use Rattle.commands.proofs.Gotten.{on_err}
use Rattle.commands.proofs.Silent.{only_prints}
use Rattle.commands.proofs.trees.print_missing.Goals as goal

pub returns-clause-printed : goal.returns-clause-printed
returns-clause-printed g c =
    let old = g.O.Write.contents c.args.out.now in
    let new = g.O.Write.contents c.print_all.new.out in
    subst (λ line. OnOk c.print_all.result (Appends old new line)) (c.as_bytes.ensures.value ∙ c.in_ok-line.ensures) c.print_all.ensures.printed

pub returns-clause-begun : goal.returns-clause-begun
returns-clause-begun g c =
    let old = g.O.Write.contents c.args.out.now in
    let new = g.O.Write.contents c.print_all.new.out in
    on_err c.print_all.result c.print_all.ensures.begun
    (λ begun. inr (subst (AppendsBeginning old new) (c.as_bytes.ensures.value ∙ c.in_ok-line.ensures) begun))

pub returns-clause-unprinted : goal.returns-clause-unprinted
returns-clause-unprinted g c = only_prints _ c.print_all.result c.print_all.ensures.fault
