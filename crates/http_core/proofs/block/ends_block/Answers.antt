use Rattle.std.proofs.Common.{◌≡◌, ◌-◌, take, length, true, rules}
use Rattle.std.proofs.lemmas.Bool.Decides.{Decides-eqb}
use Rattle.std.proofs.lemmas.Slice.Eq.{ends_is}
use Rattle.http_core.specs.Block.{empty_line}
use Rattle.http_core.proofs.block.ends_block.Goals as goal

pub returns : goal.returns
returns c =
    let h = ends_is Decides-eqb c.args.bytes.now empty_line c.ends_with.result c.ends_with.ensures.value in
    ((λ e. (take (length c.args.bytes.now - 4) c.args.bytes.now, h.0 (search (rules, e)))), λ e. let k : c.ends_with.result ≡ true = h.1 e.0 e.1 in search rules)
