use Rattle.std.proofs.Common.{◌≡◌, ◌∙◌, IfOk, ap, subst, string_bytes}
use Rattle.commands.specs.ErrorText.{said_of}
use Rattle.commands.proofs.error_text.of_request.Goals as goal

pub returns : goal.returns
returns c = subst (λ said. IfOk c.said_of-2.result (λ text. string_bytes text ≡ said_of c.args.server.now said))
    (c.as_str-2.ensures.value ∙ c.in_ok-words.ensures ∙ ap (λ head. said_of head c.args.said.now) (c.as_str.ensures.value ∙ c.in_ok-request.ensures)) c.said_of-2.ensures
