use Rattle.std.proofs.Common.{sym, ◌∙◌, ltb, length, arith}
use Rattle.std.specs.List.{list_all}
use Rattle.messages.specs.Name.{is_segment}
use Rattle.messages.specs.Path.{parts_of}
use Rattle.messages.proofs.Names.{few_test}
use Rattle.messages.proofs.Paths.{path_answer, and_rest}
use Rattle.messages.proofs.path.is_path.Goals as goal

pub returns-then-part_count-lt65-clause-rule : goal.returns-then-part_count-lt65-clause-rule
returns-then-part_count-lt65-clause-rule c =
    let parts = parts_of c.args.text.now in
    let few = few_test (length parts) 64 (omega (arith, c.part_count.ensures)) in
    path_answer c.args.text.now c.are_segments.result c.utf8.text (c.are_segments.ensures ∙ sym (and_rest (ltb (length parts) 65) (list_all is_segment parts) few))
