use Rattle.std.proofs.Common.{◌∙◌, sym}
use Rattle.actions.proofs.OutcomeLookups.{looks_nowhere}
use Rattle.actions.proofs.looking_up.look_below.Goals as goal

pub returns-in_default : goal.returns-in_default
returns-in_default g c = record {
  looked = looks_nowhere c.args.output.now c.args.below c.in_default.not-Tree (sym c.is_some.ensures ∙ c.if-is_some.true);
  held = tt;
  memory = λ e. absurd cc;
}
