use Rattle.std.proofs.Common.{◌≡◌, ◌++◌, ◌∷◌, [], inr, rules, subst}
use Rattle.std.specs.Prelude.{OnOk}
use Rattle.std.specs.Io.KnownBytes.{Appends}
use Rattle.blob_digest.specs.Text.{digest_text}
use Rattle.commands.specs.Told.{AppendsBeginning}
use Rattle.commands.proofs.Gotten.{on_err}
use Rattle.commands.proofs.Silent.{only_prints}
use Rattle.commands.proofs.putting.print_digest.Goals as goal

pub returns-clause-printed : goal.returns-clause-printed
returns-clause-printed g c =
    let line : c.as_bytes.result.now ≡ digest_text c.args.digest.now ++ 10 ∷ [] = search rules in
    subst (λ l. OnOk c.print_all.result (Appends (g.O.Write.contents c.args.out.now) (g.O.Write.contents c.print_all.new.out) l)) line c.print_all.ensures.printed

pub returns-clause-begun : goal.returns-clause-begun
returns-clause-begun g c =
    let line : c.as_bytes.result.now ≡ digest_text c.args.digest.now ++ 10 ∷ [] = search rules in
    on_err c.print_all.result c.print_all.ensures.begun
    (λ begun. inr (subst (AppendsBeginning (g.O.Write.contents c.args.out.now) (g.O.Write.contents c.print_all.new.out)) line begun))

pub returns-clause-unprinted : goal.returns-clause-unprinted
returns-clause-unprinted g c = only_prints _ c.print_all.result c.print_all.ensures.fault
