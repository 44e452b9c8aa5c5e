use Rattle.std.proofs.Common.{rules, ◌≡◌, [], ◌∷◌, ◌++◌, ap, ◌∙◌}
use Rattle.blob_digest.specs.Digest.{digest_of}
use Rattle.tree.specs.Folded.{items_of}
use Rattle.tree.specs.Visiting.{children_directory, tops_in}
use Rattle.tree.proofs.VisitSteps.{written_directory}
use Rattle.tree.proofs.visiting.Children.close.Goals as goal

pub returns-clause-root : goal.returns-clause-root
returns-clause-root g c =
    let written = written_directory (children_directory c.args.self) c.write_each.new.out.items c.write_each-2.new.out.items c.write_each-3.new.out.items (search rules) (search rules) (search rules) in
    c.of-root.ensures ∙ ap digest_of (c.deref-4.ensures.value ∙ written)

pub returns-clause-tops : goal.returns-clause-tops
returns-clause-tops g c =
    let written = written_directory (children_directory c.args.self) c.write_each.new.out.items c.write_each-2.new.out.items c.write_each-3.new.out.items (search rules) (search rules) (search rules) in
    let all : c.append.new.self.items ≡ c.push.new.self.items ++ c.args.self.below.items = search rules in
    let first : c.push.new.self.items ≡ c.write_each-3.new.out ∷ [] = search rules in
    ap items_of (all ∙ ap (λ v. v ++ c.args.self.below.items) first) ∙ ap (λ b. b ∷ tops_in c.args.self) written
