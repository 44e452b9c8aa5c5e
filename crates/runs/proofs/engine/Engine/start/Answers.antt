use Rattle.std.proofs.Common.{[], ◌≡◌, ◌∙◌, ◌<◌, true, false, refl, sym, subst, length, arith}
use Rattle.std.proofs.lemmas.Result.{err_from_is_err_and}
use Rattle.runs.specs.Engine.{EngineValue, IsEngine}
use Rattle.runs.specs.Calls.{IsLeastIn, IsLeastFree, IsReady, HasRoomForJob, IsPrepared, IsStarted}
use Rattle.runs.specs.Ties.{IsStart}
use Rattle.blob_source.proofs.Asking.{ok_no_error}
use Rattle.runs.proofs.Fetching.{fetching_memory}
use Rattle.plan.specs.Plan.{IsPlan}
use Rattle.verifier.proofs.Targets.{step_paths}
use Rattle.tree.specs.declared.error.TreeError.TheVariants as tree
use Rattle.runs.proofs.Missing.{start_fault, tells}
use Rattle.runs.proofs.Places.{has_one}
use Rattle.runs.proofs.Starts.{started_engine, started_event, started_as, least_is_within}
use Rattle.tree.proofs.Learning.{learns_more, learns_refused, refused_exit}
use Rattle.runs.proofs.engine.Engine.start.Goals as goal

pub returns-then-not-ready-clause-refused : goal.returns-then-not-ready-clause-refused
returns-then-not-ready-clause-refused g c = λ all.
    let s = has_one c.args.self.now.plan.steps c.args.step c.requires.within in
    let there : c.ready.result ≡ true = c.ready.ensures.value.1 all in
    let not : c.ready.result ≡ false = c.if-not-ready.true in
    let both : true ≡ false = sym there ∙ not in
    cc

pub returns-then-number-ge-MOST_JOBS-clause-refused : goal.returns-then-number-ge-MOST_JOBS-clause-refused
returns-then-number-ge-MOST_JOBS-clause-refused g c =
    let ready : IsReady c.args.self.now c.args.step = c.ready.ensures.value.0 c.if-not-ready.false in
    let least = subst (λ js. IsLeastIn js c.free_number-number.result) c.deref.ensures.value c.free_number-number.ensures in
    let le = least_is_within (record { plan = c.self.inside.plan.now; sources = c.self.inside.sources; frames = c.self.inside.frames.items; commands = c.self.inside.commands.items; finished = c.self.inside.finished.items; jobs = c.self.inside.jobs.items }) c.free_number-number.result least in
    let few = c.self.invariant.few in
    let ge = c.if-number-ge-MOST_JOBS.true in
    let same : c.free_number-number.result ≡ 4096 = omega (arith, le, few, ge) in
    (ready, subst (λ (e : EngineValue). IsLeastIn e.jobs 4096) c.self.view_is (subst (λ n. IsLeastIn c.self.inside.jobs.items n) same least))

pub returns-in_err-job-clause-refused : goal.returns-in_err-job-clause-refused
returns-in_err-job-clause-refused g c =
    let p = err_from_is_err_and c.from_residual.result c.from_residual.ensures.1 in
    let tells = g.S.BlobSource.tells c.prepare.new.source in
    let s = has_one c.args.self.now.plan.steps c.args.step c.requires.within in
    let ready : IsReady c.args.self.now c.args.step = c.ready.ensures.value.0 c.if-not-ready.false in
    let least : IsLeastFree c.args.self.now c.free_number-number.result = subst (λ (e : EngineValue). IsLeastIn e.jobs c.free_number-number.result) c.self.view_is (subst (λ js. IsLeastIn js c.free_number-number.result) c.deref.ensures.value c.free_number-number.ensures) in
    let room : HasRoomForJob c.args.self.now = (c.free_number-number.result, least, c.if-number-ge-MOST_JOBS.false) in
    rw (p.1, p.2) (start_fault tells.blobs c.args.self.now c.args.step ready room c.in_err-job.field-0.0 (λ s at. c.in_err-job.ensures.faulty s at) s.0 s.1)

pub returns-in_err-job-clause-missing : goal.returns-in_err-job-clause-missing
returns-in_err-job-clause-missing g c = λ s at.
    let p = err_from_is_err_and c.from_residual.result c.from_residual.ensures.1 in
    let told = (g.S.BlobSource.tells c.prepare.new.source).blobs in
    let engine : IsEngine c.args.self.now = subst IsEngine c.self.view_is c.self.invariant in
    let plan : IsPlan c.args.self.now.plan = subst (λ (e : EngineValue). IsPlan e.plan) c.self.view_is c.steps.ensures.valid in
    let paths = step_paths [] c.args.self.now.plan.steps plan.steps c.args.step s at in
    rw (p.1, p.2) (tells told c.args.self.now engine s.lines paths c.in_err-job.field-0.0 (c.in_err-job.ensures.faulty s at)).0

pub returns-in_err-job-clause-conflict : goal.returns-in_err-job-clause-conflict
returns-in_err-job-clause-conflict g c = λ s at.
    let p = err_from_is_err_and c.from_residual.result c.from_residual.ensures.1 in
    let told = (g.S.BlobSource.tells c.prepare.new.source).blobs in
    let engine : IsEngine c.args.self.now = subst IsEngine c.self.view_is c.self.invariant in
    let plan : IsPlan c.args.self.now.plan = subst (λ (e : EngineValue). IsPlan e.plan) c.self.view_is c.steps.ensures.valid in
    let paths = step_paths [] c.args.self.now.plan.steps plan.steps c.args.step s at in
    rw (p.1, p.2) (tells told c.args.self.now engine s.lines paths c.in_err-job.field-0.0 (c.in_err-job.ensures.faulty s at)).1

pub returns-in_err-place-clause-conflict : goal.returns-in_err-place-clause-conflict
returns-in_err-place-clause-conflict g c = λ s at.
    let p = err_from_is_err_and c.from_residual-in_err-place.result c.from_residual-in_err-place.ensures.1 in
    rw (p.1, p.2) tt

pub returns-in_err-place-clause-refused : goal.returns-in_err-place-clause-refused
returns-in_err-place-clause-refused g c =
    let p = err_from_is_err_and c.from_residual-in_err-place.result c.from_residual-in_err-place.ensures.1 in
    let ready : IsReady c.args.self.now c.args.step = c.ready.ensures.value.0 c.if-not-ready.false in
    let least : IsLeastFree c.args.self.now c.free_number-number.result = subst (λ (e : EngineValue). IsLeastIn e.jobs c.free_number-number.result) c.self.view_is (subst (λ js. IsLeastIn js c.free_number-number.result) c.deref.ensures.value c.free_number-number.ensures) in
    let room : HasRoomForJob c.args.self.now = (c.free_number-number.result, least, c.if-number-ge-MOST_JOBS.false) in
    rw (p.1, p.2) (ready, room, λ s at. (tree.Memory, tt, refl))

pub returns-in_err-place-clause-missing : goal.returns-in_err-place-clause-missing
returns-in_err-place-clause-missing g c = λ s at.
    let p = err_from_is_err_and c.from_residual-in_err-place.result c.from_residual-in_err-place.ensures.1 in
    rw (p.1, p.2) tt

pub place-requires : goal.place-requires
place-requires g c =
    let least = subst (λ js. IsLeastIn js c.free_number-number.result) c.deref.ensures.value c.free_number-number.ensures in
    least_is_within (record { plan = c.self.inside.plan.now; sources = c.self.inside.sources; frames = c.self.inside.frames.items; commands = c.self.inside.commands.items; finished = c.self.inside.finished.items; jobs = c.self.inside.jobs.items }) c.free_number-number.result least

pub invariant_of-self-2 : goal.invariant_of-self-2
invariant_of-self-2 g c =
    let least = subst (λ js. IsLeastIn js c.free_number-number.result) c.deref.ensures.value c.free_number-number.ensures in
    let within = subst (λ (e : EngineValue). c.args.step < length e.plan.steps) (sym c.self.view_is) c.requires.within in
    rw (c.in_ok-place.ensures {u = tt}).placed (started_engine (record { plan = c.self.inside.plan.now; sources = c.self.inside.sources; frames = c.self.inside.frames.items; commands = c.self.inside.commands.items; finished = c.self.inside.finished.items; jobs = c.self.inside.jobs.items }) c.free_number-number.result (record { step = c.args.step; action = c.in_ok-job.job.digest; input = c.input_root_digest.result }) c.self.invariant least c.if-number-ge-MOST_JOBS.false within)

pub returns-clause-started : goal.returns-clause-started
returns-clause-started g c =
    let tells = g.S.BlobSource.tells c.prepare.new.source in
    let least = subst (λ js. IsLeastIn js c.free_number-number.result) c.deref.ensures.value c.free_number-number.ensures in
    let prepared = subst (λ e. IsPrepared tells.blobs e c.args.step c.free_number-number.result c.in_ok-job.job) (sym c.self.view_is) c.in_ok-job.ensures.prepared in
    subst (λ e. IsStarted tells.blobs c.args.step e (record { plan = c.self.inside.plan.now; sources = c.self.inside.sources; frames = c.self.inside.frames.items; commands = c.self.inside.commands.items; finished = c.self.inside.finished.items; jobs = c.place.new.jobs.items }) c.in_ok-job.job) c.self.view_is
    (started_as tells.blobs c.args.step c.free_number-number.result (record { plan = c.self.inside.plan.now; sources = c.self.inside.sources; frames = c.self.inside.frames.items; commands = c.self.inside.commands.items; finished = c.self.inside.finished.items; jobs = c.self.inside.jobs.items }) c.in_ok-job.job c.input_root_digest.result c.place.new.jobs.items prepared least c.if-number-ge-MOST_JOBS.false (c.in_ok-place.ensures {u = tt}).placed c.input_root_digest.ensures.value)

pub returns-clause-event : goal.returns-clause-event
returns-clause-event g c =
    let tells = g.S.BlobSource.tells c.prepare.new.source in
    let started = subst (λ e. IsStarted tells.blobs c.args.step e (record { plan = c.self.inside.plan.now; sources = c.self.inside.sources; frames = c.self.inside.frames.items; commands = c.self.inside.commands.items; finished = c.self.inside.finished.items; jobs = c.place.new.jobs.items }) c.in_ok-job.job) (sym c.self.view_is) (returns-clause-started g c) in
    subst (λ e. IsStart tells.blobs e c.args.step c.in_ok-job.job.id c.in_ok-job.job.digest (record { plan = c.self.inside.plan.now; sources = c.self.inside.sources; frames = c.self.inside.frames.items; commands = c.self.inside.commands.items; finished = c.self.inside.finished.items; jobs = c.place.new.jobs.items })) c.self.view_is (started_event tells.blobs c.args.step (record { plan = c.self.inside.plan.now; sources = c.self.inside.sources; frames = c.self.inside.frames.items; commands = c.self.inside.commands.items; finished = c.self.inside.finished.items; jobs = c.self.inside.jobs.items }) (record { plan = c.self.inside.plan.now; sources = c.self.inside.sources; frames = c.self.inside.frames.items; commands = c.self.inside.commands.items; finished = c.self.inside.finished.items; jobs = c.place.new.jobs.items }) c.in_ok-job.job c.steps.ensures.valid c.self.invariant started)

pub returns-in_err-job-clause-stands : goal.returns-in_err-job-clause-stands
returns-in_err-job-clause-stands g c =
    let s = has_one c.args.self.now.plan.steps c.args.step c.requires.within in
    let p = err_from_is_err_and c.from_residual.result c.from_residual.ensures.1 in
    let told = (g.S.BlobSource.tells c.prepare.new.source).blobs in
    let engine : IsEngine c.args.self.now = subst IsEngine c.self.view_is c.self.invariant in
    let plan : IsPlan c.args.self.now.plan = subst (λ (e : EngineValue). IsPlan e.plan) c.self.view_is c.steps.ensures.valid in
    let paths = step_paths [] c.args.self.now.plan.steps plan.steps c.args.step s.0 s.1 in
    rw (p.1, p.2) (tells told c.args.self.now engine s.0.lines paths c.in_err-job.field-0.0 (c.in_err-job.ensures.faulty s.0 s.1)).2

pub returns-in_err-place-clause-called : goal.returns-in_err-place-clause-called
returns-in_err-place-clause-called g c = fetching_memory c.from_residual-in_err-place.ensures.1 ok_no_error c.in_ok-job.ensures.called

pub returns-in_err-job-clause-learned : goal.returns-in_err-job-clause-learned
returns-in_err-job-clause-learned g c =
    let s = has_one c.args.self.now.plan.steps c.args.step c.requires.within in
    let ready : IsReady c.args.self.now c.args.step = c.ready.ensures.value.0 c.if-not-ready.false in
    let least : IsLeastFree c.args.self.now c.free_number-number.result = subst (λ (e : EngineValue). IsLeastIn e.jobs c.free_number-number.result) c.self.view_is (subst (λ js. IsLeastIn js c.free_number-number.result) c.deref.ensures.value c.free_number-number.ensures) in
    let room : HasRoomForJob c.args.self.now = (c.free_number-number.result, least, c.if-number-ge-MOST_JOBS.false) in
    learns_refused (λ a h. (s.0, s.1, ready, room, h)) (refused_exit _ _ c.from_residual.ensures.1) (c.prepare.ensures.learned s.0 s.1)

pub returns-in_err-place-clause-learned : goal.returns-in_err-place-clause-learned
returns-in_err-place-clause-learned g c =
    let s = has_one c.args.self.now.plan.steps c.args.step c.requires.within in
    let ready : IsReady c.args.self.now c.args.step = c.ready.ensures.value.0 c.if-not-ready.false in
    let least : IsLeastFree c.args.self.now c.free_number-number.result = subst (λ (e : EngineValue). IsLeastIn e.jobs c.free_number-number.result) c.self.view_is (subst (λ js. IsLeastIn js c.free_number-number.result) c.deref.ensures.value c.free_number-number.ensures) in
    let room : HasRoomForJob c.args.self.now = (c.free_number-number.result, least, c.if-number-ge-MOST_JOBS.false) in
    learns_refused (λ a h. (s.0, s.1, ready, room, h)) (refused_exit _ _ c.from_residual-in_err-place.ensures.1) (c.prepare.ensures.learned s.0 s.1)

pub returns-clause-learned : goal.returns-clause-learned
returns-clause-learned g c =
    let s = has_one c.args.self.now.plan.steps c.args.step c.requires.within in
    let ready : IsReady c.args.self.now c.args.step = c.ready.ensures.value.0 c.if-not-ready.false in
    let least : IsLeastFree c.args.self.now c.free_number-number.result = subst (λ (e : EngineValue). IsLeastIn e.jobs c.free_number-number.result) c.self.view_is (subst (λ js. IsLeastIn js c.free_number-number.result) c.deref.ensures.value c.free_number-number.ensures) in
    let room : HasRoomForJob c.args.self.now = (c.free_number-number.result, least, c.if-number-ge-MOST_JOBS.false) in
    learns_more (λ a h. (s.0, s.1, ready, room, h)) (λ n. n) (c.in_ok-job.ensures.learned s.0 s.1)
