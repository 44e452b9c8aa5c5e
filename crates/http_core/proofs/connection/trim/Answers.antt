use Rattle.std.proofs.Common.{ap, sym, ◌∙◌, reverse}
use Rattle.std.proofs.lemmas.List.{reverse-reverse}
use Rattle.httparse.specs.Grammar.{skip_ows, trim_ows}
use Rattle.http_core.proofs.connection.trim.Goals as goal

pub returns : goal.returns
unfolding trim_ows
returns c =
    sym (reverse-reverse c.trim_end.result.now) ∙ ap reverse c.trim_end.ensures
    ∙ ap (λ z. reverse (skip_ows (reverse z))) c.trim_start.ensures
