use Rattle.std.proofs.Common.{refl, string_bytes}
use Rattle.commands.proofs.Asked.{made_of}
use Rattle.commands.proofs.evidence_options.options_of.Goals as goal

pub returns : goal.returns
returns g c =
    made_of {M = g.row.M.Denot} (g.M.Options.rows c.args.said.now) c.args.evidence.now c.args.folder.now (string_bytes c.args.sources) (string_bytes c.args.claim)
    (record { sources = c.args.sources; claim = c.args.claim; plan = c.in_ok-path_in.field-0; noted = c.in_ok-path_in-2.field-0; place = c.entries_option.result; entries = c.in_ok-path_in-3.field-0; said = c.args.said })
    refl refl c.in_ok-path_in.ensures c.in_ok-path_in-2.ensures c.entries_option.ensures c.in_ok-path_in-3.ensures
