use Rattle.std.proofs.Common.{◌≡◌, ◌∙◌, Some, None, sym, subst, true, false, arith, length}
use Rattle.std.specs.Prelude.{slice_get}
use Rattle.verifier.specs.Compared.{DifferFirstAt}
use Rattle.verifier.proofs.Differences.{from_first, next_first, here_first, left_first, right_first, none_first, got, of_outcomes, sorted_rows, rows}
use Rattle.verifier.proofs.forms.first_difference.Goals as goal

pub loop-index-init : goal.loop-index-init
loop-index-init g c =
    from_first c.outputs-ones.result.now c.outputs-others.result.now
    (sorted_rows c.args.one.now c.outputs-ones.result.now c.outputs-ones.ensures.value c.outputs-ones.ensures.valid)
    (sorted_rows c.args.other.now c.outputs-others.result.now c.outputs-others.ensures.value c.outputs-others.ensures.valid)

pub returns-in_default : goal.returns-in_default
returns-in_default g c =
    of_outcomes c.args.one.now c.args.other.now c.outputs-ones.result.now c.outputs-others.result.now (Some c.in_ok-copy_of.field-0) c.outputs-ones.ensures.value c.outputs-others.ensures.value
    (subst (DifferFirstAt (rows c.outputs-ones.result.now) (rows c.outputs-others.result.now)) (sym (c.in_ok-copy_of.ensures {u = tt}))
    (left_first c.outputs-ones.result.now c.outputs-others.result.now c.loop-index.index c.index-ones-index.result
    (got c.outputs-ones.result.now c.loop-index.index c.index-ones-index.result c.loop-index-test.true c.index-ones-index.is) c.in_default.ensures.lookup.3 c.loop-index.invariant))

pub returns-then-not-branch : goal.returns-then-not-branch
returns-then-not-branch g c =
    of_outcomes c.args.one.now c.args.other.now c.outputs-ones.result.now c.outputs-others.result.now (Some c.in_ok-copy_of-2.field-0) c.outputs-ones.ensures.value c.outputs-others.ensures.value
    (subst (DifferFirstAt (rows c.outputs-ones.result.now) (rows c.outputs-others.result.now)) (sym (c.in_ok-copy_of-2.ensures {u = tt}))
    (here_first c.outputs-ones.result.now c.outputs-others.result.now c.loop-index.index c.index-ones-index.result c.in-Some.twin.now c.lesser.result.now
    (got c.outputs-ones.result.now c.loop-index.index c.index-ones-index.result c.loop-index-test.true c.index-ones-index.is)
    (got c.outputs-others.result.now c.loop-index.index c.in-Some.twin.now c.in-Some.ensures.lookup.3.0 c.in-Some.ensures.lookup.1)
    (λ same. let yes = (c.in_ok-same_entry.ensures {u = tt}).1 same in let no = c.if-not-branch.true in let both : true ≡ false = sym yes ∙ no in cc) c.lesser.ensures c.loop-index.invariant))

pub loop-index-preserved : goal.loop-index-preserved
loop-index-preserved g c =
    next_first c.outputs-ones.result.now c.outputs-others.result.now c.loop-index.index c.index-ones-index.result c.in-Some.twin.now
    (got c.outputs-ones.result.now c.loop-index.index c.index-ones-index.result c.loop-index-test.true c.index-ones-index.is)
    (got c.outputs-others.result.now c.loop-index.index c.in-Some.twin.now c.in-Some.ensures.lookup.3.0 c.in-Some.ensures.lookup.1)
    ((c.in_ok-same_entry.ensures {u = tt}).0 c.if-not-branch.false) c.loop-index.invariant

pub returns-in_ok-copy_of-in-Some-get : goal.returns-in_ok-copy_of-in-Some-get
returns-in_ok-copy_of-in-Some-get g c =
    let past = c.loop-index-test.false in let end = c.loop-index.auto.index-end in
    let is : c.loop-index.index ≡ length c.outputs-ones.result.now = omega (arith, past, end) in
    of_outcomes c.args.one.now c.args.other.now c.outputs-ones.result.now c.outputs-others.result.now (Some c.in_ok-copy_of-in-Some-get.field-0) c.outputs-ones.ensures.value c.outputs-others.ensures.value
    (subst (DifferFirstAt (rows c.outputs-ones.result.now) (rows c.outputs-others.result.now)) (sym (c.in_ok-copy_of-in-Some-get.ensures {u = tt}))
    (right_first c.outputs-ones.result.now c.outputs-others.result.now c.loop-index.index c.in-Some-get.more.now past
    (subst (λ n. slice_get c.outputs-others.result.now n ≡ Some c.in-Some-get.more.now) (sym is)
    (got c.outputs-others.result.now (length c.outputs-ones.result.now) c.in-Some-get.more.now c.in-Some-get.ensures.lookup.3.0 c.in-Some-get.ensures.lookup.1)) c.loop-index.invariant))

pub returns-in-None : goal.returns-in-None
returns-in-None g c =
    let past = c.loop-index-test.false in let over = c.in-None.ensures.lookup.3 in
    of_outcomes c.args.one.now c.args.other.now c.outputs-ones.result.now c.outputs-others.result.now None c.outputs-ones.ensures.value c.outputs-others.ensures.value
    (none_first c.outputs-ones.result.now c.outputs-others.result.now c.loop-index.index past (omega (arith, past, over)) c.loop-index.invariant)
