-- Why a build ends at a step.
use Rattle.std.proofs.Common.{◌≡◌, ◌<◌, ◌≤◌, ℕ, true, List, [], ◌∷◌, ◌++◌, append_assoc, append-nil, length, map, Some, refl, sym, ap, ◌∙◌, subst, arith, inl, inr}
use Rattle.std.specs.Prelude.{Result, Ok, Err, OnOk, OnErr, IfErr, IsErrOf, string_bytes}
use Rattle.action_messages.specs.Command.{CommandValue}
use Rattle.blob_digest.specs.Digest.{DigestValue}
use Rattle.blob_source.specs.Sink.{HasRight}
use Rattle.blob_source.specs.Source.{Blobs, Telling}
use Rattle.plan.specs.Values.{PlanValue}
use Rattle.runs.specs.Engine.{EngineValue, IsEngine}
use Rattle.runs.specs.declared.starting.Job.{Job}
use Rattle.worker.specs.declared.error.StepRefusal.{StepRefusal}
use Rattle.worker.specs.declared.error.StepRefusal.TheVariants as refusals
use Rattle.worker.specs.declared.runner.RunError.{RunError}
use Rattle.worker.specs.declared.runner.RunError.TheVariants as children
use Rattle.worker.specs.declared.error.BuildError.{BuildError}
use Rattle.worker.specs.declared.child.Child.{Child}
use Rattle.worker.specs.declared.turns.Turn.{Turn}
use Rattle.worker.specs.declared.turns.Turn.TheVariants as turns
use Rattle.worker.specs.Calls.{running, Call, started, launched, ran, taken, lost, IsLost, Does, came_of, AreTurns, Leads, PutsOf}
use Rattle.worker.specs.Going.{IsJobIn, kept_job, IsOwnJob, IsGoing, IsBegun, IsTurn, EndedWell, HasEndedFirst, PutsFirst, GoesOnBy, AreOneTurn, taken_in}
use Rattle.worker.specs.Counted.{TellsRunFailure}
use Rattle.worker.specs.Layout.{IsLayoutOf}
use Rattle.worker.specs.Outcomes.{Yields, YieldsFor, YieldsNoMore, MayComeTo}
use Rattle.worker.specs.Stored.{IsKept}
use Rattle.worker.specs.Stopped.{ComesTo, HasBegun, StopsStep, ComesNext, IsOfChild, HadNoneFor, IsRefusedBuild, IsStoreFault}
use Rattle.worker.specs.Stopping.{StopsChild, StopsCollecting, StopsEnd, StopsSettling, StopsBeginning}
use Rattle.worker.specs.Values.{LayoutValue, EndValue, made, bad_at, failed, IsAbsolute, Starts, StartsNone}
use Rattle.worker.specs.Watching.{IsProgress, first_step, jobs_after}
use Rattle.worker.specs.declared.watching.Progress.{Progress}
use Rattle.worker.proofs.Jobs.{jobs_count}
use Rattle.worker.proofs.Goes.{Ends, Went, left_none, on_by, few_jobs, going_kept, led_kept, going_ran, going_lost, led_started, going_back, going_begun, had_one, moves_ran, none_kept, none_lost, none_starts, puts_none}
use Rattle.worker.proofs.Joins.{came_none, finish_one}
use Rattle.worker.proofs.Lefts.{finished_there}
use Rattle.worker.proofs.Started.{after, job_of, job_is}
use Rattle.worker.proofs.Taking.{loses_none}
use Rattle.worker.proofs.Telling.{end_still, yielded_still, owed_ends}

-- a fault of the store is of no child
pub store_no_child : {A : Type 0} (r : StepRefusal A) → IsStoreFault r → IsOfChild r → ⊥
store_no_child (refusals.Engine why) h of_child = h
store_no_child (refusals.Layout why) h of_child = h
store_no_child (refusals.Run why) h of_child = h
store_no_child refusals.Fetch h of_child = of_child
store_no_child refusals.Memory h of_child = of_child

pub job_begun : {A : Type 0} (e : EngineValue) (job : Job A) → IsJobIn e job → HasBegun e job.step
job_begun e job is = inl (job.id, kept_job job, is.there, refl, tt)

module _ {A : Type 0} (y : Yields) (t : Telling) (e : EngineValue) where
  pub store_stops : (i : ℕ) (r : StepRefusal A) → HasBegun e i → IsStoreFault r → StopsStep y t e i r
  store_stops i (refusals.Engine why) begun h = absurd h
  store_stops i (refusals.Layout why) begun h = absurd h
  store_stops i (refusals.Run why) begun h = absurd h
  store_stops i refusals.Fetch begun h = begun
  store_stops i refusals.Memory begun h = begun

  pub child_stops : (job : Job A) → IsJobIn e job → HasRight t.blobs job.digest → (r : StepRefusal A) → StopsChild y t.blobs job.action.input job.command r → StopsStep y t e job.step r
  child_stops job is right (refusals.Engine why) h = absurd h
  child_stops job is right (refusals.Layout why) h = (job.id, kept_job job, is.there, refl, h)
  child_stops job is right (refusals.Run children.NotAbsolute) (l, laid, relative) = (job.id, kept_job job, is.there, refl, (l, laid, job.command, is.command, relative))
  child_stops job is right (refusals.Run (children.Device program cause)) (l, laid, may) =
      (job.id, kept_job job, is.there, refl, record { layout = l; laid = laid; command = job.command; of_step = is.command; may = may; own = (job.action.frame, is.frame, is.digest); action = right })
  child_stops job is right (refusals.Run (children.BadOutput path)) h = absurd h
  child_stops job is right (refusals.Run children.Memory) h = job_begun e job is
  child_stops job is right refusals.Fetch h = job_begun e job is
  child_stops job is right refusals.Memory h = job_begun e job is

-- what a runner told of a start that it refused, and of a child
module _ {A T : Type 0} where
  pub start_stops : (y z : Yields) (B : Blobs) (input : DigestValue) (c : CommandValue) (l : LayoutValue) (e : RunError A) → IsLayoutOf B input l → YieldsNoMore z y → (IsErrOf {T = T} (Err e) children.NotAbsolute → IsAbsolute c → ⊥)
      → ((path : List (List ℕ)) → IsErrOf {T = T} (Err e) (children.BadOutput path) → ⊥) → TellsRunFailure (YieldsFor z l c) e → StopsChild y B input c (refusals.Run e)
  start_stops y z B input c l children.NotAbsolute laid within refused bad told = (l, laid, refused refl)
  start_stops y z B input c l (children.Device program cause) laid within refused bad told = (l, laid, (within l c (failed (string_bytes program) cause) told.0, told.1))
  start_stops y z B input c l (children.BadOutput path) laid within refused bad told = absurd (bad path refl)
  start_stops y z B input c l children.Memory laid within refused bad told = tt

  pub end_comes : (may : EndValue → Type 0) (e : RunError A) → (IsErrOf {T = T} (Err e) children.NotAbsolute → ⊥) → ((path : List (List ℕ)) → IsErrOf {T = T} (Err e) (children.BadOutput path) → may (bad_at path))
      → TellsRunFailure may e → StopsCollecting may (refusals.Run e)
  end_comes may children.NotAbsolute absolute bad told = absurd (absolute refl)
  end_comes may (children.Device program cause) absolute bad told = told
  end_comes may (children.BadOutput path) absolute bad told = bad path refl
  end_comes may children.Memory absolute bad told = tt

pub collecting_stops : {A J : Type 0} (may : J → EndValue → Type 0) (B : Blobs) (c : Child J) (e : EngineValue) (r : StepRefusal A) → StopsCollecting (may c.job) r → StopsEnd may B c e r
collecting_stops may B c e (refusals.Engine why) h = absurd h
collecting_stops may B c e (refusals.Layout why) h = h
collecting_stops may B c e (refusals.Run why) h = h
collecting_stops may B c e refusals.Fetch h = tt
collecting_stops may B c e refusals.Memory h = tt

-- what the one yields, the other does
pub stops_within : {A : Type 0} (z y : Yields) (t : Telling) (e : EngineValue) (i : ℕ) (r : StepRefusal A) → YieldsNoMore z y → StopsStep z t e i r → StopsStep y t e i r
stops_within z y t e i (refusals.Engine why) within (inl fault) = inl fault
stops_within z y t e i (refusals.Engine why) within (inr (id, j, at, step, (v, came, fault))) = inr (id, j, at, step, (v, by came, fault))
  where
    by : ComesTo z t e j v → ComesTo y t e j v
    by (inl h) = inl (yielded_still e e within (λ d b at right. at) (refl, refl) j h)
    by (inr h) = inr h
stops_within z y t e i (refusals.Layout why) within h = h
stops_within z y t e i (refusals.Run children.NotAbsolute) within h = h
stops_within z y t e i (refusals.Run (children.Device program cause)) within (id, j, at, step, h) = (id, j, at, step, end_still e e within (λ d b at right. at) (refl, refl) j (failed (string_bytes program) cause) h)
stops_within z y t e i (refusals.Run (children.BadOutput path)) within (id, j, at, step, h) = (id, j, at, step, end_still e e within (λ d b at right. at) (refl, refl) j (bad_at path) h)
stops_within z y t e i (refusals.Run children.Memory) within h = h
stops_within z y t e i refusals.Fetch within h = h
stops_within z y t e i refusals.Memory within h = h

-- ---- turns, one after another

pub turns_then : (cs ds : List Call) → AreTurns cs → AreTurns ds → AreTurns (cs ++ ds)
turns_then [] ds h k = k
turns_then (started i id ∷ []) ds h k = absurd h
turns_then (started i id ∷ started j w ∷ cs) ds h k = absurd h
turns_then (started i id ∷ launched w d s ∷ cs) ds h k = (h.0, turns_then cs ds h.1 k)
turns_then (started i id ∷ ran w d v ∷ cs) ds h k = absurd h
turns_then (started i id ∷ taken w d v ∷ cs) ds h k = (h.0, turns_then cs ds h.1 k)
turns_then (started i id ∷ lost w ∷ cs) ds h k = absurd h
turns_then (launched w d s ∷ cs) ds h k = absurd h
turns_then (ran id d v ∷ cs) ds h k = turns_then cs ds h k
turns_then (taken w d v ∷ cs) ds h k = absurd h
turns_then (lost id ∷ cs) ds h k = absurd h

-- ---- a turn that is taken or refused

module _ (A J : Type 0) (y : Yields) (may : J → EndValue → Type 0) (from a b : Starts) (s t u : Telling) (most : ℕ) (first now new : EngineValue) (cs ds : List (Child J)) (g : IsGoing A y may from a s t most first now cs) where
  -- a build went on, or the refusal stands
  abbrev Goes : {T : Type 0} → List (Child J) → Result T (BuildError A) → List Call → ℕ → Type 0
  Goes xs r calls n = (on : GoesOnBy A y may from b s u most first new xs calls n) × IfErr r (λ e. IsRefusedBuild A y s u most calls on.going.led.built.led.calls first new e.step e.refusal)
      × PutsOf on.more t u × OnOk r (AreOneTurn on.more × (u.puts ≡ t.puts ++ came_of on.more))

  -- as many jobs run as there are children
  jobs_run : running now.jobs ≡ length cs
  jobs_run = jobs_count (IsOwnJob y may t.blobs now) cs now.jobs g.jobs

  had_none : (mid : EngineValue) (i : ℕ) → HadNoneFor [] t mid i → HadNoneFor g.led.built.led.calls s mid i
  had_none mid i (id, j, at, step, (c, of_step, none)) = (id, j, at, step, (c, of_step, left_none s t g.led.built.led.calls g.led.blobs g.led.built.puts j.action c (λ v held fits. came_none j.action (none v held fits).0 (none v held fits).1)))

  begun_refused : (z : Yields) (i : ℕ) (e : BuildError A) → YieldsNoMore z y → IsKept t u → StartsNone a b → (turn : IsTurn most now cs (turns.Start i)) → (e.step ≡ i) × StopsBeginning A z t u i now new e.refusal
      → Goes {T = Unit {0}} cs (Err e) g.led.built.led.calls (taken_in true i now new)
  begun_refused z i e within k quiet turn (step, inl (same, stops)) =
      let calls = g.led.built.led.calls in
      let w : Went A J y may from s most first b u new cs calls [] = subst (λ (e : EngineValue). Went A J y may from s most first b u e cs calls []) (sym same) (going_kept A J y may from s most first a b t u now cs k quiet g) in (
        on_by A J y may from s most first b u new cs calls [] (taken_in true i now new) w (none_kept A J y may from s most first a b t u now new i cs k g turn.0 turn.2.startable.waiting.unfinished same),
        record {
          at = now;
          led = led_kept A J y may from s most first a b t u now cs k g;
          begun = [];
          are = refl;
          turn = subst (ComesNext most calls now) (sym step) (inl (let count = jobs_run in let room = turn.0 in omega (arith, count, room), turn.2));
          rest = record { ids = []; calls = w.are ∙ sym (append-nil (calls ++ [])); leads = same };
          planned = subst (λ n. n < length now.plan.steps) (sym step) turn.1;
          stops = subst (λ n. StopsStep y u now n e.refusal) (sym step) (stops_within z y u now i e.refusal within stops);
        },
        puts_none t u [] k,
        tt,
      )
  begun_refused z i e within k quiet turn (step, inr (id, mid, is, gone, stops, none)) =
      let calls = g.led.built.led.calls in
      let gone_job : IsLost id mid new = (job_of is, job_is is, gone) in
      let w = going_back A J y may from s most first a b t u now mid cs i id k g turn.0 is turn.2 new (lost id) (none_starts a b quiet) (had_one t (lost id) (λ w d x is. cc)) (λ js. refl) (λ js. finish_one js (lost id) (λ w d v is. absurd cc)) (ap (λ (e : EngineValue). e.jobs) gone) (ap (λ (e : EngineValue). e.commands) gone, ap (λ (e : EngineValue). e.frames) gone) gone_job tt in (
        on_by A J y may from s most first b u new cs calls (started i id ∷ lost id ∷ []) (taken_in true i now new) w (none_lost A J y may from s most first a b t u now new i cs k g turn.0 turn.2.startable.waiting.unfinished id mid is gone),
        record {
          at = mid;
          led = led_started A J y may from s most first a b t u now mid cs i id k g turn.0 is turn.2;
          begun = started i id ∷ [];
          are = refl;
          turn = (sym step, λ of_child. subst (HadNoneFor calls s mid) (sym step) (had_none mid i (none of_child)));
          rest = record { ids = id ∷ []; calls = w.are ∙ sym (append_assoc calls (started i id ∷ []) (lost id ∷ [])); leads = (new, gone_job, (few_jobs A J y may from s most first b u new cs w.going, tt), refl) };
          planned = subst (λ n. n < length mid.plan.steps) (sym step) (subst (λ (e : EngineValue). i < length e.plan.steps) (sym (after is)) turn.1);
          stops = subst (λ n. StopsStep y u mid n e.refusal) (sym step) (stops_within z y u mid i e.refusal within stops);
        },
        puts_none t u (started i id ∷ lost id ∷ []) k,
        tt,
      )

  pub start_goes : {T : Type 0} (r : Result T (BuildError A)) (z : Yields) (i : ℕ) → YieldsNoMore z y → IsKept t u → OnErr r (StartsNone a b) → IsTurn most now cs (turns.Start i) → IsEngine now → OnOk r (IsBegun A z may a b t u i now new cs ds)
      → IfErr r (λ e. (e.step ≡ i) × StopsBeginning A z t u i now new e.refusal) → OnErr r (ds ≡ cs) → Goes ds r g.led.built.led.calls (taken_in true i now new)
  start_goes (Ok x) z i within k quiet turn valid begun stop same =
      let count = valid.count in
      let lt = turn.1 in
      let on = going_begun A J y may from s most first a b t u now new i cs k g turn.0 turn.2.startable.waiting.unfinished turn.2 z within ds (omega (arith, count, lt)) begun in
      (on.0, tt, puts_none t u on.0.more k, (on.1, k.puts ∙ sym (append-nil t.puts) ∙ sym (ap (λ ds. t.puts ++ ds) on.2)))
  start_goes (Err e) z i within k quiet turn valid begun stop same =
      subst (λ xs. Goes {T = Unit {0}} xs (Err e) g.led.built.led.calls (taken_in true i now new)) (sym same) (begun_refused z i e within k quiet turn stop)

  -- the first child is waited for
  module _ (c : Child J) (quiet : StartsNone a b) (f : IsGoing A y may from a s t most first now (c ∷ ds)) where
    step_planned : IsEngine now → c.step < length now.plan.steps
    step_planned valid = subst (λ n. n < length now.plan.steps) f.jobs.2.of_child.step (valid.running c.id f.jobs.0 f.jobs.1)

    ends : IsKept t u → (end : EndValue) → may c.job end → MayComeTo y u.blobs now f.jobs.0 end
    ends k end came = end_still now now (λ l d x h. h) k.blobs (refl, refl) f.jobs.0 end (owed_ends f.jobs.2.owed end came)

    runs_still : HasBegun now c.step
    runs_still = inl (c.id, f.jobs.0, f.jobs.1, f.jobs.2.of_child.step, tt)

    end_stops : IsKept t u → (r : StepRefusal A) → StopsEnd may u.blobs c now r → StopsStep y u now c.step r
    end_stops k (refusals.Engine why) (p, came, blobs, trees, fault) =
        inr (c.id, f.jobs.0, f.jobs.1, f.jobs.2.of_child.step, (p.outcome, inl (record { produced = p; outcome = refl; may = ends k (made p) came; blobs = blobs; trees = trees }), fault))
    end_stops k (refusals.Layout why) h = absurd h
    end_stops k (refusals.Run children.NotAbsolute) h = absurd h
    end_stops k (refusals.Run (children.Device program cause)) h = (c.id, f.jobs.0, f.jobs.1, f.jobs.2.of_child.step, ends k (failed (string_bytes program) cause) h)
    end_stops k (refusals.Run (children.BadOutput path)) h = (c.id, f.jobs.0, f.jobs.1, f.jobs.2.of_child.step, ends k (bad_at path) h)
    end_stops k (refusals.Run children.Memory) h = runs_still
    end_stops k refusals.Fetch h = runs_still
    end_stops k refusals.Memory h = runs_still

    ended_well : IsTurn most now (c ∷ ds) turns.Finish → IsEngine now → EndedWell may t u c now new → u.puts ≡ t.puts ++ c.action ∷ [] → (on : GoesOnBy A y may from b s u most first new ds f.led.built.led.calls 0) × PutsOf on.more t u × AreOneTurn on.more × (u.puts ≡ t.puts ++ came_of on.more)
    ended_well next valid e listed = (
      on_by A J y may from s most first b u new ds f.led.built.led.calls (ran c.id c.action e.produced.outcome ∷ []) 0 (going_ran A J y may from s most first a b t u now new c ds quiet f next valid e) refl,
      (moves_ran t u c.id c.action e.produced.outcome e.kept).puts,
      (tt, refl),
      listed,
    )

    -- its job was started first of those that run
    runs_first : first_step (jobs_after [] f.led.built.led.calls) ≡ Some c.step
    runs_first = ap first_step f.order

    end_refused : IsTurn most now (c ∷ ds) turns.Finish → IsEngine now → (e : BuildError A) → (e.step ≡ c.step) × StopsSettling may t u c now new e.refusal → Goes {T = Unit {0}} ds (Err e) f.led.built.led.calls 0
    end_refused next valid e (step, inl (gone, k, stop)) =
        let calls = f.led.built.led.calls in
        let w = going_lost A J y may from s most first a b t u now new c ds quiet f gone k in (
          on_by A J y may from s most first b u new ds calls (lost c.id ∷ []) 0 w refl,
          record {
            at = now;
            led = led_kept A J y may from s most first a b t u now (c ∷ ds) k f;
            begun = [];
            are = refl;
            turn = subst (ComesNext most calls now) (sym step) (inr (runs_first, λ less. next.1 (let count = jobs_count (IsOwnJob y may t.blobs now) (c ∷ ds) now.jobs f.jobs in omega (arith, count, less))));
            rest = record { ids = c.id ∷ []; calls = w.are ∙ sym (append_assoc calls [] (lost c.id ∷ [])); leads = (new, gone, (few_jobs A J y may from s most first b u new ds w.going, tt), refl) };
            planned = subst (λ n. n < length now.plan.steps) (sym step) (step_planned valid);
            stops = subst (λ n. StopsStep y u now n e.refusal) (sym step) (end_stops k e.refusal stop);
          },
          puts_none t u (lost c.id ∷ []) k,
          tt,
        )
    end_refused next valid e (step, inr (well, store)) =
        let calls = f.led.built.led.calls in
        let w = going_ran A J y may from s most first a b t u now new c ds quiet f next valid well in (
          on_by A J y may from s most first b u new ds calls (ran c.id c.action well.produced.outcome ∷ []) 0 w refl,
          record {
            at = new;
            led = w.going.led.built.led;
            begun = ran c.id c.action well.produced.outcome ∷ [];
            are = w.are;
            turn = subst (λ n. first_step (jobs_after [] calls) ≡ Some n) (sym step) runs_first;
            rest = loses_none;
            planned = subst (λ n. n < length new.plan.steps) (sym step) (subst (λ (p : PlanValue). c.step < length p.steps) (sym (ap (λ (e : EngineValue). e.plan) well.finished.after)) (step_planned valid));
            stops = subst (λ n. StopsStep y u new n e.refusal) (sym step)
                (store_stops y u new c.step e.refusal (inr (finished_there now new c.id c.step well.produced.outcome f.jobs.0 valid well.finished f.jobs.1 f.jobs.2.of_child.step)) store);
          },
          (moves_ran t u c.id c.action well.produced.outcome well.kept).puts,
          tt,
        )

  pub finish_goes : {T : Type 0} (r : Result T (BuildError A)) → IsTurn most now cs turns.Finish → IsEngine now → StartsNone a b → OnOk r (HasEndedFirst (EndedWell may t u) now new cs ds) → OnOk r (PutsFirst t u cs)
      → IfErr r (λ e. HasEndedFirst (λ c old new. (e.step ≡ c.step) × StopsSettling may t u c old new e.refusal) now new cs ds) → Goes ds r g.led.built.led.calls 0
  finish_goes {T} (Ok x) next valid quiet well listed stop =
      subst (λ xs. (f : IsGoing A y may from a s t most first now xs) → Goes {T = T} ds (Ok x) f.led.built.led.calls 0) (sym well.is) (λ f. let on = ended_well well.child quiet f (subst (λ xs. IsTurn most now xs turns.Finish) well.is next) valid well.end (subst (PutsFirst t u) well.is listed) in (on.0, tt, on.1, (on.2, on.3))) g
  finish_goes {T} (Err e) next valid quiet well listed stop =
      subst (λ xs. (f : IsGoing A y may from a s t most first now xs) → Goes {T = T} ds (Err e) f.led.built.led.calls 0) (sym stop.is) (λ f. end_refused stop.child quiet f (subst (λ xs. IsTurn most now xs turns.Finish) stop.is next) valid e stop.end) g

-- fewer children are left after a refusal than may run
pub start_room : {J T E : Type 0} (r : Result T E) (now : EngineValue) (cs ds : List (Child J)) (turn : Turn) (i : ℕ) → turn ≡ turns.Start i → OnErr r (ds ≡ cs) → OnErr r ((most : ℕ) → IsTurn most now cs turn → length cs ≤ most → length ds < most)
start_room (Ok x) now cs ds turn i is same = tt
start_room (Err e) now cs ds turn i is same = λ most can few. subst (λ xs. length xs < most) (sym same) (subst (IsTurn most now cs) is can).0

pub finish_room : {J T E : Type 0} (r : Result T E) (ends : Child J → EngineValue → EngineValue → Type 0) (now new : EngineValue) (cs ds : List (Child J)) (turn : Turn) → OnErr r (HasEndedFirst ends now new cs ds)
    → OnErr r ((most : ℕ) → IsTurn most now cs turn → length cs ≤ most → length ds < most)
finish_room (Ok x) ends now new cs ds turn h = tt
finish_room (Err e) ends now new cs ds turn h = λ most can few. let len = ap length h.is in omega (arith, few, len)

-- a child's job ended so
pub ended_of : {A J T : Type 0} (may : J → EndValue → Type 0) (t u : Telling) (now new : EngineValue) (cs ds : List (Child J)) (r : Result T (BuildError A)) → IfErr r (λ e. HasEndedFirst (λ c old new. (e.step ≡ c.step) × StopsSettling may t u c old new e.refusal) now new cs ds)
    → OnErr r (HasEndedFirst (Ends may t u) now new cs ds)
ended_of may t u now new cs ds (Ok x) stop = tt
ended_of may t u now new cs ds (Err e) stop = record { child = stop.child; is = stop.is; end = by stop.end.1 }
  where
    by : StopsSettling may t u stop.child now new e.refusal → Ends may t u stop.child now new
    by (inl (gone, k, why)) = inr (gone, k)
    by (inr (well, store)) = inl well

-- ---- a runner that yields more

module _ (A : Type 0) (z y : Yields) (t : Telling) (within : YieldsNoMore z y) where
  does_within : (later : List Call) (c : Call) (old new : EngineValue) → Does A z t later c old new → Does A y t later c old new
  does_within later (started i id) old new d = d
  does_within later (launched id d x) old new w = w
  does_within later (ran id d v) old new f = record { finished = f.finished; action = f.action; kept = f.kept; yielded = yielded_still old old within (λ e b at right. at) (refl, refl) f.finished.job f.yielded }
  does_within later (taken id d v) old new f = f
  does_within later (lost id) old new gone = gone

  pub leads_within : (most : ℕ) (cs : List Call) (old new : EngineValue) → Leads A z t most cs old new → Leads A y t most cs old new
  leads_within most [] old new same = same
  leads_within most (c ∷ cs) old new (mid, does, few, rest) = (mid, does_within cs c old mid does, few, leads_within most cs mid new rest)

  pub refused_within : {before : Telling} {most i : ℕ} {whole calls : List Call} {old new : EngineValue} {r : StepRefusal A} → IsRefusedBuild A z before t most whole calls old new i r → IsRefusedBuild A y before t most whole calls old new i r
  refused_within {before} {most} {i} {whole} {calls} {old} {new} {r} h = record {
    at = h.at;
    led = record { calls = h.led.calls; leads = leads_within most h.led.calls old h.at h.led.leads };
    begun = h.begun;
    are = h.are;
    turn = h.turn;
    rest = record { ids = h.rest.ids; calls = h.rest.calls; leads = leads_within most (map lost h.rest.ids) h.at new h.rest.leads };
    planned = h.planned;
    stops = stops_within z y t h.at i r within h.stops;
  }

-- ---- what its watcher was told

pub progress_within : (A : Type 0) (z y : Yields) (t : Telling) → YieldsNoMore z y → {most : ℕ} {first : EngineValue} {all : List Call} (n : ℕ) (p : Progress) → IsProgress A z t most first all n p → IsProgress A y t most first all n p
progress_within A z y t within {most} {first} {all} n p h = record {
  told = h.told;
  now = h.now;
  led = record { calls = h.led.calls; leads = leads_within A z y h.told within most h.led.calls first h.now h.led.leads };
  whole = h.whole;
  count = h.count;
  is = h.is;
  later = h.later;
  rest = h.rest;
  since = h.since;
  still = h.still;
}
