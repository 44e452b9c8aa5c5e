use Rattle.std.specs.Prelude.{nat_le}
use Rattle.service.proofs.Waking.{some_alone, not_full}
use Rattle.service.proofs.together.Together.is_full.Goals as goal

pub returns-else-is_too_much : goal.returns-else-is_too_much
returns-else-is_too_much g c =
    let some = some_alone c.args.self.now.members.entries in
    (some.0, some.1, not_full c.is_too_much.result (nat_le 268435456 c.args.self.now.scales.load.answers) _ c.is_too_much.ensures c.if-is_too_much.false)
