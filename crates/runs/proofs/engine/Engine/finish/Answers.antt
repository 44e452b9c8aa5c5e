use Rattle.std.proofs.Common.{◌≡◌, ◌∙◌, ◌<◌, refl, ap, sym, subst, inr, length, true, false, Some, None, set, arith}
use Rattle.std.specs.Prelude.{slice_get}
use Rattle.std.proofs.lemmas.Result.{err_from_is_err_and}
use Rattle.runs.specs.Engine.{EngineValue, TakesOutcome, at_number}
use Rattle.runs.specs.Calls.{IsFinished, Disagrees, IsCompared}
use Rattle.runs.specs.Ties.{IsFinish, IsForeign}
use Rattle.verifier.proofs.FreshRuns.{one_answer}
use Rattle.runs.proofs.Places.{element_at, taken_within}
use Rattle.runs.proofs.Finishes.{finished_is_engine, finish_event, foreign_outcome, fault_of_outcome}
use Rattle.runs.proofs.engine.Engine.finish.Goals as goal

pub index-requires : goal.index-requires
index-requires g c =
    let at : at_number c.self.inside.jobs.items c.args.id ≡ Some (record { step = c.job.inside.step; action = c.job.inside.action; input = c.job.inside.input }) = ap (λ js. at_number js c.args.id) (sym c.deref.ensures.value) ∙ sym (c.in-Some.ensures {u = tt}) ∙ ap Some (sym c.job.view_is) in
    let lt = c.self.invariant.running c.args.id (record { step = c.job.inside.step; action = c.job.inside.action; input = c.job.inside.input }) at in
    let count = c.self.invariant.stand.commands_count in
    let ok = c.self.inside.commands.ok in
    omega (arith, lt, count, ok)

pub returns-in_err-check_outcome-clause-refused : goal.returns-in_err-check_outcome-clause-refused
returns-in_err-check_outcome-clause-refused g c =
    let at : at_number c.self.inside.jobs.items c.args.id ≡ Some (record { step = c.job.inside.step; action = c.job.inside.action; input = c.job.inside.input }) = ap (λ js. at_number js c.args.id) (sym c.deref.ensures.value) ∙ sym (c.in-Some.ensures {u = tt}) ∙ ap Some (sym c.job.view_is) in
    let lt = c.self.invariant.running c.args.id (record { step = c.job.inside.step; action = c.job.inside.action; input = c.job.inside.input }) at in
    let command = element_at c.self.inside.commands.items c.job.inside.step c.index.result.now (subst (λ n. c.job.inside.step < n) (sym c.self.invariant.stand.commands_count) lt) c.index.ensures in
    let p = err_from_is_err_and c.from_residual.result c.from_residual.ensures.1 in
    rw (p.1, p.2, ← c.self.view_is) (fault_of_outcome (record { plan = c.self.inside.plan.now; sources = c.self.inside.sources; frames = c.self.inside.frames.items; commands = c.self.inside.commands.items; finished = c.self.inside.finished.items; jobs = c.self.inside.jobs.items }) c.args.id (record { step = c.job.inside.step; action = c.job.inside.action; input = c.job.inside.input }) c.index.result.now c.args.outcome c.in_err-check_outcome.field-0.0 at command ((c.in_err-check_outcome.ensures {u = tt}).refused))

pub returns-in_err-disagrees-clause-refused : goal.returns-in_err-disagrees-clause-refused
returns-in_err-disagrees-clause-refused g c =
    let at : at_number c.self.inside.jobs.items c.args.id ≡ Some (record { step = c.job.inside.step; action = c.job.inside.action; input = c.job.inside.input }) = ap (λ js. at_number js c.args.id) (sym c.deref.ensures.value) ∙ sym (c.in-Some.ensures {u = tt}) ∙ ap Some (sym c.job.view_is) in
    let p = err_from_is_err_and c.from_residual-in_err-disagrees.result c.from_residual-in_err-disagrees.ensures.1 in
    rw (p.1, p.2, ← c.self.view_is) (
      record { step = c.job.inside.step; action = c.job.inside.action; input = c.job.inside.input },
      at,
      (c.in_ok-check_outcome.ensures {u = tt}).taken.exit_code,
      inr (subst (λ fs. IsCompared fs c.job.inside.step c.job.inside.action) c.deref-2.ensures.value ((c.in_err-disagrees.ensures {u = tt}).memory refl)),
    )

pub returns-then-branch-clause-refused : goal.returns-then-branch-clause-refused
returns-then-branch-clause-refused g c =
    let at : at_number c.self.inside.jobs.items c.args.id ≡ Some (record { step = c.job.inside.step; action = c.job.inside.action; input = c.job.inside.input }) = ap (λ js. at_number js c.args.id) (sym c.deref.ensures.value) ∙ sym (c.in-Some.ensures {u = tt}) ∙ ap Some (sym c.job.view_is) in
    let lt = c.self.invariant.running c.args.id (record { step = c.job.inside.step; action = c.job.inside.action; input = c.job.inside.input }) at in
    let command = element_at c.self.inside.commands.items c.job.inside.step c.index.result.now (subst (λ n. c.job.inside.step < n) (sym c.self.invariant.stand.commands_count) lt) c.index.ensures in
    rw (← c.self.view_is) (
      record { step = c.job.inside.step; action = c.job.inside.action; input = c.job.inside.input },
      at,
      λ other h. subst (λ d. TakesOutcome d c.args.outcome) (one_answer (slice_get c.self.inside.commands.items c.job.inside.step) c.index.result.now other command h) (c.in_ok-check_outcome.ensures {u = tt}).taken,
      subst (λ fs. Disagrees fs c.job.inside.step c.job.inside.action c.args.outcome) c.deref-2.ensures.value ((c.in_ok-disagrees.ensures {u = tt}).told.0 c.if-branch.true),
    )

pub returns-then-branch-clause-foreign : goal.returns-then-branch-clause-foreign
returns-then-branch-clause-foreign g c = λ _.
    let at : at_number c.self.inside.jobs.items c.args.id ≡ Some (record { step = c.job.inside.step; action = c.job.inside.action; input = c.job.inside.input }) = ap (λ js. at_number js c.args.id) (sym c.deref.ensures.value) ∙ sym (c.in-Some.ensures {u = tt}) ∙ ap Some (sym c.job.view_is) in
    subst (λ e. IsForeign e c.args.id c.args.outcome) c.self.view_is
    (foreign_outcome (record { plan = c.self.inside.plan.now; sources = c.self.inside.sources; frames = c.self.inside.frames.items; commands = c.self.inside.commands.items; finished = c.self.inside.finished.items; jobs = c.self.inside.jobs.items }) c.args.id (record { step = c.job.inside.step; action = c.job.inside.action; input = c.job.inside.input }) c.args.outcome c.self.invariant at (c.in_ok-check_outcome.ensures {u = tt}).taken.valid
    (subst (λ fs. Disagrees fs c.job.inside.step c.job.inside.action c.args.outcome) c.deref-2.ensures.value ((c.in_ok-disagrees.ensures {u = tt}).told.0 c.if-branch.true)))

pub keep_first-requires : goal.keep_first-requires
keep_first-requires g c =
    let at : at_number c.self.inside.jobs.items c.args.id ≡ Some (record { step = c.job.inside.step; action = c.job.inside.action; input = c.job.inside.input }) = ap (λ js. at_number js c.args.id) (sym c.deref.ensures.value) ∙ sym (c.in-Some.ensures {u = tt}) ∙ ap Some (sym c.job.view_is) in
    let lt = c.self.invariant.running c.args.id (record { step = c.job.inside.step; action = c.job.inside.action; input = c.job.inside.input }) at in
    subst (λ n. c.job.inside.step < n) (sym c.self.invariant.count) lt

pub index_mut-requires : goal.index_mut-requires
index_mut-requires g c =
    let at : at_number c.self.inside.jobs.items c.args.id ≡ Some (record { step = c.job.inside.step; action = c.job.inside.action; input = c.job.inside.input }) = ap (λ js. at_number js c.args.id) (sym c.deref.ensures.value) ∙ sym (c.in-Some.ensures {u = tt}) ∙ ap Some (sym c.job.view_is) in
    subst (λ n. c.args.id < n) (ap length (sym c.deref.ensures.value) ∙ c.deref.ensures.len) (taken_within c.self.inside.jobs.items c.args.id _ at)

pub invariant_of-self : goal.invariant_of-self
invariant_of-self g c =
    let at : at_number c.self.inside.jobs.items c.args.id ≡ Some (record { step = c.job.inside.step; action = c.job.inside.action; input = c.job.inside.input }) = ap (λ js. at_number js c.args.id) (sym c.deref.ensures.value) ∙ sym (c.in-Some.ensures {u = tt}) ∙ ap Some (sym c.job.view_is) in
    let lt = c.self.invariant.running c.args.id (record { step = c.job.inside.step; action = c.job.inside.action; input = c.job.inside.input }) at in
    let command = element_at c.self.inside.commands.items c.job.inside.step c.index.result.now (subst (λ n. c.job.inside.step < n) (sym c.self.invariant.stand.commands_count) lt) c.index.ensures in
    rw c.keep_first.ensures (finished_is_engine (record { plan = c.self.inside.plan.now; sources = c.self.inside.sources; frames = c.self.inside.frames.items; commands = c.self.inside.commands.items; finished = c.self.inside.finished.items; jobs = c.self.inside.jobs.items }) c.args.id (record { step = c.job.inside.step; action = c.job.inside.action; input = c.job.inside.input }) c.args.outcome c.self.invariant at
    (λ other h. subst (λ d. TakesOutcome d c.args.outcome) (one_answer (slice_get c.self.inside.commands.items c.job.inside.step) c.index.result.now other command h) (c.in_ok-check_outcome.ensures {u = tt}).taken))

pub returns-clause-finished : goal.returns-clause-finished
returns-clause-finished g c =
    let at : at_number c.self.inside.jobs.items c.args.id ≡ Some (record { step = c.job.inside.step; action = c.job.inside.action; input = c.job.inside.input }) = ap (λ js. at_number js c.args.id) (sym c.deref.ensures.value) ∙ sym (c.in-Some.ensures {u = tt}) ∙ ap Some (sym c.job.view_is) in
    let lt = c.self.invariant.running c.args.id (record { step = c.job.inside.step; action = c.job.inside.action; input = c.job.inside.input }) at in
    let command = element_at c.self.inside.commands.items c.job.inside.step c.index.result.now (subst (λ n. c.job.inside.step < n) (sym c.self.invariant.stand.commands_count) lt) c.index.ensures in
    subst (λ e. IsFinished c.args.id c.args.outcome e (record { plan = c.self.inside.plan.now; sources = c.self.inside.sources; frames = c.self.inside.frames.items; commands = c.self.inside.commands.items; finished = c.keep_first.new.finished.items; jobs = set c.self.inside.jobs.items c.args.id None })) c.self.view_is (record {
      job = record { step = c.job.inside.step; action = c.job.inside.action; input = c.job.inside.input };
      is = at;
      taken = λ other h. subst (λ d. TakesOutcome d c.args.outcome) (one_answer (slice_get c.self.inside.commands.items c.job.inside.step) c.index.result.now other command h) (c.in_ok-check_outcome.ensures {u = tt}).taken;
      agrees = λ h. let t = (c.in_ok-disagrees.ensures {u = tt}).told.1 (subst (λ fs. Disagrees fs c.job.inside.step c.job.inside.action c.args.outcome) (sym c.deref-2.ensures.value) h) in let f = c.if-branch.false in (let both : true ≡ false = sym t ∙ f in cc);
      after = λ i. record { plan = c.self.inside.plan.now; sources = c.self.inside.sources; frames = c.self.inside.frames.items; commands = c.self.inside.commands.items; finished = c.keep_first.ensures i; jobs = set c.self.inside.jobs.items c.args.id None };
    })

pub returns-clause-event : goal.returns-clause-event
returns-clause-event g c =
    let old : EngineValue = (record { plan = c.self.inside.plan.now; sources = c.self.inside.sources; frames = c.self.inside.frames.items; commands = c.self.inside.commands.items; finished = c.self.inside.finished.items; jobs = c.self.inside.jobs.items }) in
    let new : EngineValue = (record { plan = c.self.inside.plan.now; sources = c.self.inside.sources; frames = c.self.inside.frames.items; commands = c.self.inside.commands.items; finished = c.keep_first.new.finished.items; jobs = set c.self.inside.jobs.items c.args.id None }) in
    let finished : IsFinished c.args.id c.args.outcome old new = subst (λ e. IsFinished c.args.id c.args.outcome e new) (sym c.self.view_is) (returns-clause-finished g c) in
    subst (λ e. IsFinish e c.args.id c.args.outcome new) c.self.view_is (finish_event old new c.args.id c.args.outcome c.self.invariant finished)
