use Rattle.std.proofs.Common.{refl, subst, sym}
use Rattle.plan.specs.Faults.{OverlapsAny}
use Rattle.plan.specs.Targets.{AreTargetsApart}
use Rattle.plan.proofs.TargetSets.{overlaps_beginning, overlaps_longer, refused, told_none, taken_with, taken_apart}
use Rattle.plan.proofs.targets.Targets.insert.Goals as goal
use Rattle.plan.proofs.targets.Targets.insert.Goals.{then-has_beginning-via-then-has_beginning, then-has_beginning-via-else-has_beginning+then-has_longer}

pub returns-then-has_beginning-clause-takes : goal.returns-then-has_beginning-clause-takes
returns-then-has_beginning-clause-takes g c =
    let names = c.in_ok-to_names.field-0.items in (
      refused c.args.self.now names c.args.target.now c.in_ok-to_names.ensures.value
          (elim c.then-has_beginning.branch [
            | then-has_beginning-via-then-has_beginning w ↦ overlaps_beginning c.args.self.now names (c.has_beginning.ensures.0 w.if-has_beginning.true)
            | then-has_beginning-via-else-has_beginning+then-has_longer w ↦ overlaps_longer c.args.self.now names (w.has_longer.ensures.0 w.if-has_longer.true)
          ]),
      refl,
    )

pub invariant_of-self : goal.invariant_of-self
invariant_of-self g c = subst AreTargetsApart (sym c.in_err-insert.ensures.err) c.self.invariant

pub invariant_of-self-2 : goal.invariant_of-self-2
invariant_of-self-2 g c =
    let names = c.in_ok-to_names.field-0.items in
    let free : OverlapsAny c.args.target.now c.args.self.now → ⊥ = told_none c.args.self.now names c.args.target.now c.has_beginning.result c.has_longer.result c.in_ok-to_names.ensures.value c.has_beginning.ensures c.has_longer.ensures c.if-has_beginning.false c.if-has_longer.false in
    taken_apart c.self.inside.names c.insert.new.self c.args.self.now names c.args.target.now c.self.view_is c.in_ok-to_names.ensures.value c.in_ok-insert.ensures.updates c.self.invariant free

pub returns-clause-takes : goal.returns-clause-takes
returns-clause-takes g c =
    let names = c.in_ok-to_names.field-0.items in (
      told_none c.args.self.now names c.args.target.now c.has_beginning.result c.has_longer.result c.in_ok-to_names.ensures.value c.has_beginning.ensures c.has_longer.ensures c.if-has_beginning.false c.if-has_longer.false,
      taken_with c.self.inside.names c.insert.new.self c.args.self.now names c.args.target.now c.self.view_is c.in_ok-to_names.ensures.value c.in_ok-insert.ensures.updates,
    )
