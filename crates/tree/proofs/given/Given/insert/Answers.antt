use Rattle.std.proofs.Common.{not, ap, ◌∙◌}
use denote.Param.{copied}
use Rattle.std.specs.List.{list_any}
use Rattle.tree.specs.Given.{key_value}
use Rattle.tree.specs.Merging.{same_node}
use Rattle.tree.proofs.GivenKeys.{equal_keys, has_key, there}
use Rattle.tree.proofs.given.Given.insert.Goals as goal

pub returns-clause-taken : goal.returns-clause-taken
returns-clause-taken g c =
    let key = c.in_ok-of.field-0 in
    (c.in_ok-insert.ensures {u = tt}).added
    ∙ ap not (has_key _ (equal_keys (copied 0 g.row.A) g.A.Allocator g.A.Allocator-dict g.A.Allocator-dict) key c.self.inside.nodes.keys
    ∙ ap (λ nodes. list_any (same_node (key_value key)) nodes) c.self.view_is
    ∙ ap (λ x. list_any (same_node x) c.args.self.now) (c.in_ok-of.ensures {u = tt}))

pub returns-clause-there : goal.returns-clause-there
returns-clause-there g c =
    let inserts = c.in_ok-insert.ensures {u = tt} in
    there _ (equal_keys (copied 0 g.row.A) g.A.Allocator g.A.Allocator-dict g.A.Allocator-dict) c.in_ok-of.field-0 c.self.inside.nodes.keys c.insert.new.self.keys c.args.self.now _ c.in_ok-insert.field-0 c.self.view_is (c.in_ok-of.ensures {u = tt}) inserts.added inserts.keys
