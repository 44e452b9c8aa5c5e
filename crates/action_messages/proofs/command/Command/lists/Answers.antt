use Rattle.std.proofs.Common.{ap, ◌∙◌}
use Rattle.messages.specs.Order.{has_name}
use Rattle.action_messages.proofs.Searches.{texts_in}
use Rattle.action_messages.proofs.ListedPaths.{listed_answer}
use Rattle.action_messages.proofs.command.Command.lists.Goals as goal

pub returns-clause-listed : goal.returns-clause-listed
returns-clause-listed g c =
    listed_answer c.args.self.now.output_paths c.args.path.now c.has_text.result c.output_paths.ensures.valid.output_paths c.as_bytes.ensures.valid
    (c.has_text.ensures ∙ ap (λ ps. has_name (texts_in (λ p. p) ps) c.as_bytes.result.now) c.output_paths.ensures.value ∙ ap (has_name (texts_in (λ p. p) c.args.self.now.output_paths)) c.as_bytes.ensures.value)
