use Rattle.std.proofs.Common.{map}
use Rattle.std.specs.String.{string_bytes}
use Rattle.action_messages.proofs.Commands.{command_answer}
use Rattle.action_messages.proofs.command.Command.new.Goals as goal

pub returns-clause-some : goal.returns-clause-some
returns-clause-some g c =
    command_answer (record { arguments = map string_bytes c.args.arguments.items; environment = c.args.environment.items; working_directory = c.args.working_directory; output_paths = c.args.output_paths.items })
    c.checked.result c.checked.ensures.exact c.checked.ensures.valid
