-- Directories stand at all shorter beginnings; what stands at this one decides.
use Rattle.std.proofs.Common.{arith, length, take, ap, sym, ◌∙◌, inl, inr}
use Rattle.std.specs.Prelude.{option_copied}
use Rattle.tree.specs.FlatTree.{standing_in, found_value}
use Rattle.tree.proofs.FlatTrees.{found_at, is_value, take_whole, one_more_directory, no_directory}
use Rattle.tree.proofs.flat_tree.FlatTree.first_missing.Goals as goal

pub returns-in-None-clause-free : goal.returns-in-None-clause-free
returns-in-None-clause-free g c = record {
  some = omega (arith, c.loop-depth.auto.depth);
  within = omega (arith, c.loop-depth-test.true);
  above = c.loop-depth.invariant;
  missing = found_at c.self.inside.entries.entries c.args.self.now _ _ c.self.view_is c.get.ensures.value ∙ ap (λ o. found_value (option_copied o)) c.in-None.is;
}

pub returns-then-not-is_directory-clause-taken : goal.returns-then-not-is_directory-clause-taken
returns-then-not-is_directory-clause-taken g c =
    let here = found_at c.self.inside.entries.entries c.args.self.now (take c.loop-depth.depth c.args.names.now) _ c.self.view_is c.get.ensures.value ∙ ap (λ o. found_value (option_copied o)) c.in-Some.is in
    let file = no_directory c.in-Some.entry.now (λ e. cc (c.is_directory.ensures.1 e)) in
    inr (c.loop-depth.depth, omega (arith, c.loop-depth.auto.depth), c.loop-depth-test.true, file.0, here ∙ file.1)

pub loop-depth-preserved : goal.loop-depth-preserved
loop-depth-preserved g c =
    let here = found_at c.self.inside.entries.entries c.args.self.now (take c.loop-depth.depth c.args.names.now) _ c.self.view_is c.get.ensures.value ∙ ap (λ o. found_value (option_copied o)) c.in-Some.is in
    one_more_directory c.args.self.now c.args.names.now c.loop-depth.depth c.loop-depth.invariant (here ∙ c.is_directory.ensures.0 c.if-not-is_directory.false)

pub returns-in-None-get-clause-free : goal.returns-in-None-get-clause-free
returns-in-None-get-clause-free g c =
    let here = found_at c.self.inside.entries.entries c.args.self.now c.args.names.now _ c.self.view_is c.get-2.ensures.value ∙ ap (λ o. found_value (option_copied o)) c.in-None-get.is in
    record {
      some = c.requires;
      within = omega arith;
      above = λ k some lt. c.loop-depth.invariant k some (omega (arith, c.loop-depth-test.false));
      missing = ap (standing_in c.args.self.now) (take_whole (length c.args.names.now) c.args.names.now (omega arith)) ∙ here;
    }

pub returns-in-Some-get-clause-taken : goal.returns-in-Some-get-clause-taken
returns-in-Some-get-clause-taken g c =
    let here = found_at c.self.inside.entries.entries c.args.self.now c.args.names.now _ c.self.view_is c.get-2.ensures.value ∙ ap (λ o. found_value (option_copied o)) c.in-Some-get.is in
    inl (λ none. is_value c.in-Some-get.field-0.now (sym here ∙ none))
