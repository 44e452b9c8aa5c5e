-- The path that is there.
use Rattle.std.proofs.Common.{ap, sym}
use Rattle.std.specs.Prelude.{option_map}
use Rattle.tree.specs.Lookup.{names_in}
use Rattle.tree.proofs.Ways.{looked_way}
use Rattle.tree.proofs.memo.Memo.lookup.Goals as goal

pub returns-in-Some-clause-learned : goal.returns-in-Some-clause-learned
returns-in-Some-clause-learned g c =
    looked_way c.args.root.now c.in-Some.path.now (names_in (option_map (λ p. p.now) c.args.path)) (sym (ap (λ o. names_in (option_map (λ p. p.now) o)) c.in-Some.is)) c.look_up.ensures.learned
