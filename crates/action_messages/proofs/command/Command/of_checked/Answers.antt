use Rattle.std.proofs.Common.{map}
use Rattle.std.specs.String.{string_bytes}
use Rattle.action_messages.proofs.Strings.{strings_utf8}
use Rattle.action_messages.proofs.Commands.{command_made}
use Rattle.action_messages.proofs.command.Command.of_checked.Goals as goal

pub invariant_of-result : goal.invariant_of-result
invariant_of-result g c =
    command_made (record { arguments = map string_bytes c.args.arguments.items; environment = c.args.environment.items; working_directory = c.args.working_directory; output_paths = c.args.output_paths.items })
    (strings_utf8 c.args.arguments.items) c.requires.settings c.directory_text.ensures.kept c.requires.paths c.requires.texts c.requires.lists
