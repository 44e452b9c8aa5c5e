use Rattle.std.proofs.Common.{◌≡◌, ◌∙◌, length, sym, subst, ap}
use Rattle.verifier.specs.Compared.{HasOutcomes, HoldsSteps, actions_of}
use Rattle.verifier.specs.Verdict.{IsYes}
use Rattle.text_verifier.specs.Answered.{IsAnswer}
use Rattle.text_verifier.specs.Texts.{Question, question_of}
use Rattle.text_verifier.proofs.StillYes.{outcomes_there, each_step, answer_still}
use Rattle.text_verifier.proofs.recalling.recall.Goals.{in-Yes+in_ok-steps-in-Yes, in-No}
use Rattle.text_verifier.proofs.recalling.recall.Goals as goal

pub recorded_steps-requires : goal.recorded_steps-requires
recorded_steps-requires g c =
    let t = g.S.BlobSource.tells c.answer_question.new.source in
    let inner = c.case.inside in
    let q = question_of inner.digests.sources inner.digests.claim inner.plan inner.noted in
    let answered = subst (λ (x : Question). IsAnswer t x c.in_ok-answer.answer) (sym c.case.view_is) c.in_ok-answer.ensures.answered in
    subst (HasOutcomes t) (sym c.digests.ensures.value)
    (outcomes_there g.row.A.Denot t q c.in_ok-answer.answer.verdict answered.judged.verdict (subst IsYes (sym c.in-Yes.is) tt) c.case.invariant c.digests.ensures.same_length)

pub returns-clause-recalled : goal.returns-clause-recalled
returns-clause-recalled g c = elim c.match-answer.branch [
  | in-Yes+in_ok-steps-in-Yes w ↦
      let t = g.S.BlobSource.tells c.answer_question.new.source in
      let u = g.S.BlobSource.tells c.match-answer.source in
      let later = g.S.BlobSource.tells w.recorded_steps.new.source in
      let same : later ≡ u = ap g.S.BlobSource.tells (sym w.source-is) in
      let inner = c.case.inside in
      let q = question_of inner.digests.sources inner.digests.claim inner.plan inner.noted in
      let answered = subst (λ (x : Question). IsAnswer t x c.in_ok-answer.answer) (sym c.case.view_is) c.in_ok-answer.ensures.answered in
      let valid = c.steps.ensures.valid in
      let noted = ap (λ (v : _). actions_of v.items) w.steps-is ∙ w.in_ok-steps-in-Yes.ensures.actions ∙ w.digests.ensures.value in
      let after = answer_still g.row.A.Denot t q later w.in_ok-steps-in-Yes.ensures.called.asked valid c.in_ok-answer.answer answered (subst IsYes (sym w.in-Yes.is) tt) in
      record {
        answered = subst (λ (x : Question). IsAnswer u x c.in_ok-answer.answer) c.case.view_is (subst (λ s. IsAnswer s q c.in_ok-answer.answer) same after);
        noted = λ _. noted ∙ ap (λ (x : Question). x.noted.digests) c.case.view_is;
        each = λ _. each_step g.row.A.Denot t q c.match-answer.steps.items noted c.case.invariant w.digests.ensures.same_length ∙ ap (λ (x : Question). length x.plan.steps) c.case.view_is;
        held = λ _. subst (λ s. HoldsSteps s c.match-answer.steps.items) same (subst (λ (v : _). HoldsSteps later v.items) (sym w.steps-is) w.in_ok-steps-in-Yes.ensures.held);
      }
  | in-No w ↦
      let same = ap g.S.BlobSource.tells (sym w.source-is) in
      let none : IsYes c.in_ok-answer.answer.verdict → ⊥ = λ says. (let bad = subst IsYes w.in-No.is says in elim bad [ ]) in
      record {
        answered = subst (λ s. IsAnswer s c.args.case.now c.in_ok-answer.answer) same c.in_ok-answer.ensures.answered;
        noted = λ says. absurd (none says);
        each = λ says. absurd (none says);
        held = λ says. absurd (none says);
      }
]
