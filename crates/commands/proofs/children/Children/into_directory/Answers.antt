use Rattle.std.proofs.Common.{sym}
use Rattle.commands.specs.Children.{folder_read}
use Rattle.commands.proofs.Checked.{checked_same}
use Rattle.commands.proofs.children.Children.into_directory.Goals as goal

pub returns-in-Ok-clause-value : goal.returns-in-Ok-clause-value
returns-in-Ok-clause-value c = sym (checked_same (folder_read c.args.self) c.in-Ok.directory c.in-Ok.ensures.exact)
