use Rattle.std.proofs.Common.{◌≡◌, length, sym, arith}
use Rattle.std.proofs.lemmas.Bool.Decides.{Decides-eqb}
use Rattle.std.specs.Vec.{vec_len}
use Rattle.tree.specs.MergeParts.{part_value}
use Rattle.tree.proofs.GivenLines.{here_answers}
use Rattle.tree.proofs.merging.counts.Goals as goal

pub returns-then-is_empty : goal.returns-then-is_empty
returns-then-is_empty g c = λ W earlier.
    let part = c.args.part.now in
    let test = (Decides-eqb (vec_len part.names) 0).0 (sym c.if-is_empty.ensures) in
    let none : length part.names.items ≡ 0 = omega (arith, test, part.names.ok.0) in
    here_answers c.insert.result earlier part.names.items (part_value W part).1 c.args.given.now c.insert.new.self none c.insert.ensures.taken c.insert.ensures.there c.insert.ensures.unchanged
