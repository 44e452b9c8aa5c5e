use Rattle.std.proofs.Common.{ap, ◌∙◌, rules}
use Rattle.std.proofs.lemmas.List.{take_all}
use Rattle.tree.specs.Merging.{merge_lines}
use Rattle.tree.specs.MergeParts.{part_value, part_values, within_of}
use Rattle.tree.proofs.MergeValid.{lines_more, lines_all}
use Rattle.tree.proofs.MergeLoops.{map_pushed, first_part}
use Rattle.tree.proofs.merging.first_parts.Goals as goal

pub loop-index-init : goal.loop-index-init
loop-index-init g c = record {
  parts = search rules;
  valid = tt;
}

pub loop-index-preserved : goal.loop-index-preserved
loop-index-preserved g c =
    let W = within_of c.args.lines.now in
    record {
      parts = ap (part_values W) (c.in_ok-push.ensures {u = tt}).items ∙ map_pushed (part_value W) c.loop-index.parts.items _
          ∙ first_part c.args.lines.now c.loop-index.index c.index-lines-index.result (part_values W c.loop-index.parts.items) c.in_ok-to_names.field-0.items c.in_ok-copy_node.field-0 c.loop-index-test.true c.index-lines-index.is c.loop-index.invariant.parts
          (c.in_ok-to_names.ensures {u = tt}).value (c.in_ok-copy_node.ensures {u = tt}).copy;
      valid = lines_more c.args.lines.now c.loop-index.index c.index-lines-index.result c.loop-index-test.true c.index-lines-index.is c.loop-index.invariant.valid
          ((c.in_ok-to_names.ensures {u = tt}).valid.each, (c.in_ok-copy_node.ensures {u = tt}).valid);
    }

pub returns-clause-parts : goal.returns-clause-parts
returns-clause-parts g c = c.loop-index.invariant.parts ∙ ap merge_lines (take_all c.loop-index.index c.args.lines.now c.loop-index-test.false)

pub returns-clause-valid : goal.returns-clause-valid
returns-clause-valid g c = lines_all c.args.lines.now c.loop-index.index c.loop-index-test.false c.loop-index.invariant.valid
