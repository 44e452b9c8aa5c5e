use Rattle.std.proofs.Common.{◌∙◌, sym, string_bytes}
use Rattle.std.specs.Prelude.{codes}
use Rattle.commands.proofs.Asked.{other_row}
use Rattle.commands.proofs.artifact.ClaimedOptionsOptions.text.Goals as goal

pub returns-in_default : goal.returns-in_default
returns-in_default g c =
    c.text.ensures ∙ sym (other_row c.args.option.now (codes "claim") (string_bytes c.args.self.now.claim) (g.M.Options.rows c.args.self.now.said.now) c.in_default.not-claim)
