use Rattle.std.proofs.Common.{◌≡◌, ◌≢◌, ◌+◌, ◌++◌, ◌∙◌, List, ℕ, [], ap, sym, subst, length, arith, Bool, true, codes, drop, refl}
use Rattle.std.proofs.lemmas.Bool.Decides.{Decides-eqb}
use Rattle.std.proofs.lemmas.Slice.Eq.{starts_is}
use Rattle.plan.specs.Line.{line_text, Begins}
use Rattle.plan.specs.Lines.{in_words}
use Rattle.plan.specs.Plan.{AreLines, KeepApart, lines_text}
use Rattle.plan.specs.Targets.{TakesIn}
use Rattle.plan.specs.Values.{LineValue, IsLine}
use Rattle.plan.proofs.Directories.{AreTargetsIn, named, form_fault, many_fault, overlap_fault, lines_more, still_apart, text_more, targets_more_in, free_in}
use Rattle.plan.proofs.plan.read_lines.Goals as goal

pub returns-in-Err-clause-fault : goal.returns-in-Err-clause-fault
returns-in-Err-clause-fault g c =
    let h = rw c.in-Err.is at (c.in_ok-read.ensures {u = tt}) in
    let begins : Begins (codes "in ") c.loop-alloc.rest.now = (drop 3 c.loop-alloc.rest.now, (starts_is Decides-eqb c.loop-alloc.rest.now (codes "in ") true c.loop-alloc-test.ensures.value).0 refl) in
    form_fault c.args.version c.args.steps.now c.args.first c.args.text.now c.loop-alloc.rest.now c.loop-alloc.lines.items (c.args.first + c.len.result) c.in-Err.fault c.at.result
    c.loop-alloc.invariant.text c.loop-alloc.invariant.valid c.loop-alloc.invariant.apart (omega (arith, c.len.ensures, c.loop-alloc.lines.ok)) begins h c.at.ensures

pub returns-then-len-eq-MOST_LINES-clause-fault : goal.returns-then-len-eq-MOST_LINES-clause-fault
returns-then-len-eq-MOST_LINES-clause-fault g c =
    let first : IsLine (length c.args.steps.now) c.in-Ok.read.0 × (c.loop-alloc.rest.now ≡ line_text (in_words c.args.steps.now c.in-Ok.read.0) ++ c.in-Ok.read.1.now) = rw c.in-Ok.is at (c.in_ok-read.ensures {u = tt}) in
    let full : length c.loop-alloc.lines.items ≡ 65536 = omega (arith, c.if-len-eq-MOST_LINES.true, c.len-in-loop-alloc.ensures, c.loop-alloc.lines.ok) in
    many_fault c.args.version c.args.steps.now c.args.first c.args.text.now c.loop-alloc.rest.now c.in-Ok.read.1.now c.loop-alloc.lines.items c.in-Ok.read.0 (c.args.first + c.len.result) c.at-then-len-eq-MOST_LINES.result
    (named [] c.args.steps.now c.requires.valid) c.loop-alloc.invariant.text c.loop-alloc.invariant.valid c.loop-alloc.invariant.apart (omega (arith, c.len.ensures, c.loop-alloc.lines.ok)) first.0 first.1 full c.at-then-len-eq-MOST_LINES.ensures

pub returns-then-not-branch-clause-fault : goal.returns-then-not-branch-clause-fault
returns-then-not-branch-clause-fault g c =
    let first : IsLine (length c.args.steps.now) c.in-Ok.read.0 × (c.loop-alloc.rest.now ≡ line_text (in_words c.args.steps.now c.in-Ok.read.0) ++ c.in-Ok.read.1.now) = rw c.in-Ok.is at (c.in_ok-read.ensures {u = tt}) in
    let room : length c.loop-alloc.lines.items ≢ 65536 = λ e. c.if-len-eq-MOST_LINES.false (omega (arith, e, c.len-in-loop-alloc.ensures, c.loop-alloc.lines.ok)) in
    let at : c.line.inside.target ≡ c.in-Ok.read.0.target = ap (λ (l : LineValue). l.target) c.line.view_is in
    overlap_fault c.args.version c.args.steps.now c.args.first c.args.text.now c.loop-alloc.rest.now c.in-Ok.read.1.now c.loop-alloc.lines.items c.in-Ok.read.0 (c.args.first + c.len.result) c.loop-alloc.targets c.take_target.new.targets c.line.inside.target c.in_ok-take_target.field-0 c.at-then-not-branch.result
    (named [] c.args.steps.now c.requires.valid) c.loop-alloc.invariant.text c.loop-alloc.invariant.valid c.loop-alloc.invariant.apart (omega (arith, c.len.ensures, c.loop-alloc.lines.ok)) first.0 first.1 room c.loop-alloc.invariant.targets at c.if-not-branch.true c.in_ok-take_target.ensures.takes c.at-then-not-branch.ensures

pub loop-alloc-preserved : goal.loop-alloc-preserved
loop-alloc-preserved g c =
    let first : IsLine (length c.args.steps.now) c.in-Ok.read.0 × (c.loop-alloc.rest.now ≡ line_text (in_words c.args.steps.now c.in-Ok.read.0) ++ c.in-Ok.read.1.now) = rw c.in-Ok.is at (c.in_ok-read.ensures {u = tt}) in
    let room : length c.loop-alloc.lines.items ≢ 65536 = λ e. c.if-len-eq-MOST_LINES.false (omega (arith, e, c.len-in-loop-alloc.ensures, c.loop-alloc.lines.ok)) in
    let at : c.line.inside.target ≡ c.in-Ok.read.0.target = ap (λ (l : LineValue). l.target) c.line.view_is in
    let took : TakesIn c.args.version true c.line.inside.target c.loop-alloc.targets c.take_target.new.targets = subst (λ (t : Bool). TakesIn c.args.version t c.line.inside.target c.loop-alloc.targets c.take_target.new.targets) c.if-not-branch.false c.in_ok-take_target.ensures.takes in
    let takes : TakesIn c.args.version true c.in-Ok.read.0.target c.loop-alloc.targets c.take_target.new.targets = subst (λ (p : List (List ℕ)). TakesIn c.args.version true p c.loop-alloc.targets c.take_target.new.targets) at took in
    let pushed = c.in_ok-push.ensures.items in
    let free = free_in c.args.version c.loop-alloc.targets c.take_target.new.targets c.loop-alloc.lines.items c.in-Ok.read.0.target c.loop-alloc.invariant.targets takes in
    record {
      text = c.loop-alloc.invariant.text ∙ ap (λ (t : List ℕ). lines_text c.args.steps.now c.loop-alloc.lines.items ++ t) first.1 ∙ text_more c.args.steps.now c.loop-alloc.lines.items c.in-Ok.read.0 c.in-Ok.read.1.now ∙ ap (λ (ls : List LineValue). lines_text c.args.steps.now ls ++ c.in-Ok.read.1.now) (sym pushed);
      valid = subst (AreLines (length c.args.steps.now)) (sym pushed) (lines_more (length c.args.steps.now) c.loop-alloc.lines.items c.in-Ok.read.0 c.loop-alloc.invariant.valid first.0 room);
      apart = subst (KeepApart c.args.version) (sym pushed) (still_apart c.args.version c.loop-alloc.lines.items c.in-Ok.read.0 c.loop-alloc.invariant.apart free);
      targets = subst (AreTargetsIn c.args.version c.take_target.new.targets) (sym pushed) (targets_more_in c.args.version c.loop-alloc.targets c.take_target.new.targets c.loop-alloc.lines.items c.in-Ok.read.0 c.loop-alloc.invariant.targets takes);
    }
