use Rattle.std.proofs.Common.{◌∙◌, ap, sym, refl, arith, ◌∷◌, length, Some, None}
use Rattle.std.proofs.lemmas.List.{length-append}
use Rattle.tree.specs.Lookup.{nothing}
use Rattle.actions.proofs.TreeLookups.{child_named, first_there, held_last, link_deeper, link_first, link_last, look_ends, looks_deeper, looks_first, looks_leaf}
use Rattle.actions.proofs.looking_up.+descend.Goals as goal

pub returns-in_default-clause-looked : goal.returns-in_default-clause-looked
returns-in_default-clause-looked g t c = look_ends c.args.tree.now c.args.directory.now c.args.text.now c.child.result c.in_default.ensures c.child.ensures.exact

pub returns-in_default-clause-held : goal.returns-in_default-clause-held
returns-in_default-clause-held g t c = held_last c.args.tree.now c.args.directory.now c.args.text.now c.child.result c.requires.valid c.requires.there c.child.ensures.exact

pub returns-in_default-2-clause-looked : goal.returns-in_default-2-clause-looked
returns-in_default-2-clause-looked g t c =
    looks_first c.args.tree.now c.args.directory.now c.args.text.now c.in-Some.name.now c.in-Some.rest.now None nothing c.in-Some.ensures.0 c.in-Some.ensures.1
    (sym c.in_default-2.is ∙ (c.in_ok-node.ensures {u = tt}).exact) refl

pub returns-in_default-node : goal.returns-in_default-node
returns-in_default-node g t c = record {
  looked =
      looks_first c.args.tree.now c.args.directory.now c.args.text.now c.in-Some.name.now c.in-Some.rest.now (Some c.in-Some-2.node) nothing c.in-Some.ensures.0 c.in-Some.ensures.1
      (sym c.in-Some-2.is ∙ (c.in_ok-node.ensures {u = tt}).exact) (looks_leaf c.args.tree.now c.in-Some.rest.now c.in-Some-2.node c.in_default-node.not-Dir);
  held = tt;
  memory = λ e. absurd cc;
}

pub descend-requires : goal.descend-requires
descend-requires g t c κs within =
    let parts = ap length c.in-Some.ensures.0 ∙ length-append c.in-Some.name.now (47 ∷ c.in-Some.rest.now) in
    (omega (arith, parts, c.decreases), (within, (c.requires.valid, first_there c.args.tree.now c.in-Dir.digest c.in-Some-first_child.next.now (c.in-Some-first_child.ensures {u = tt}).found)))

pub unreachable-requires : goal.unreachable-requires
unreachable-requires g t c =
    (c.in-None.ensures {u = tt}).found
    (child_named c.args.tree.now c.args.directory.now c.in-Some.name.now c.in-Some-2.node c.requires.valid c.requires.there (sym c.in-Some-2.is ∙ (c.in_ok-node.ensures {u = tt}).exact) c.in-Dir.digest c.in-Dir.is)

pub returns-clause-looked : goal.returns-clause-looked
returns-clause-looked g t c =
    looks_deeper c.args.tree.now c.args.directory.now c.args.text.now c.in-Some.name.now c.in-Some.rest.now c.in-Some-2.node c.in-Dir.digest c.in-Some-first_child.next.now c.descend.result c.in-Some.ensures.0 c.in-Some.ensures.1
    (sym c.in-Some-2.is ∙ (c.in_ok-node.ensures {u = tt}).exact) c.in-Dir.is (c.in-Some-first_child.ensures {u = tt}).found c.descend.ensures.looked

pub returns-in_default-clause-memory : goal.returns-in_default-clause-memory
returns-in_default-clause-memory g t c e = link_last c.args.tree.now c.args.directory.now c.args.text.now c.in_default.ensures c.requires.there (c.child.ensures.memory e)

pub returns-in_err-node-clause-memory : goal.returns-in_err-node-clause-memory
returns-in_err-node-clause-memory g t c e = link_first c.args.tree.now c.args.directory.now c.args.text.now c.in-Some.name.now c.in-Some.rest.now c.in-Some.ensures.0 c.in-Some.ensures.1 c.requires.there (c.in_err-node.ensures.memory refl)

pub returns-clause-memory : goal.returns-clause-memory
returns-clause-memory g t c e = link_deeper c.args.tree.now c.args.text.now c.in-Some.name.now c.in-Some.rest.now c.in-Some.ensures.0 c.in-Some.ensures.1 (c.descend.ensures.memory e)
