use Rattle.std.proofs.Common.{◌≡◌, sym, ap, ◌∙◌, rules}
use Rattle.messages.specs.Path.{parts_of, path_text}
use Rattle.messages.proofs.Paths.{text_of_parts}
use Rattle.messages.proofs.path.Path.as_bytes.Goals as goal

pub returns-clause-value : goal.returns-clause-value
returns-clause-value g c =
    let parts : parts_of c.as_bytes.result.now ≡ c.args.self.now = search rules in
    sym (text_of_parts c.as_bytes.result.now) ∙ ap path_text parts
