use Rattle.std.proofs.Common.{◌∙◌, get_or, take}
use Rattle.std.proofs.lemmas.List.{take_more}
use Rattle.http_core.proofs.block.first_line.Goals as goal

pub returns-clause-line : goal.returns-clause-line
returns-clause-line c =
    let bytes = c.args.bytes.now in
    let last = c.loop-last.last in
    (take last bytes, get_or bytes last 0, c.split_at.ensures.front ∙ take_more bytes last 0 c.loop-last.invariant.within, c.loop-last.invariant.plain)
