-- A build goes on.
use Rattle.std.proofs.Common.{◌≡◌, zero, suc, ℕ, ◌<◌, ◌≤◌, true, List, [], ◌∷◌, ◌++◌, append_assoc, append-nil, length, length-append, set, Some, None, refl, ap, sym, ◌∙◌, subst, arith, inl, inr}
use Rattle.std.specs.Prelude.{◌⊎◌, IsSome, slice_get}
use Rattle.std.proofs.lemmas.List.{map-append}
use Rattle.blob_digest.specs.Digest.{DigestValue}
use Rattle.action_messages.specs.Command.{CommandValue}
use Rattle.actions.specs.Outcome.{OutcomeValue}
use Rattle.blob_source.specs.Source.{Blobs, Telling}
use Rattle.blob_source.specs.Sink.{KeepsRight}
use Rattle.runs.specs.Engine.{JobValue, EngineValue, IsEngine, finished_in, job_in}
use Rattle.runs.specs.Calls.{IsStarted, without_job}
use Rattle.runs.specs.declared.starting.Job.{Job}
use Rattle.verifier.proofs.FreshRuns.{one_answer}
use Rattle.worker.specs.declared.child.Child.{Child}
use Rattle.worker.specs.declared.turns.Turn.TheVariants as turns
use Rattle.worker.specs.Layout.{IsLayoutOf}
use Rattle.worker.specs.Values.{EndValue, made, StartValue, Starts, StartsOne, StartsAll, StartsNone}
use Rattle.worker.specs.Stored.{IsKept}
use Rattle.worker.specs.Storing.{HasAt, IsKeptBut}
use Rattle.worker.specs.Outcomes.{Yields, YieldsNoMore, IsYielded}
use Rattle.worker.specs.Calls.{running, Call, started, launched, ran, taken, lost, CameTo, came_of, HasChild, children_of, IsResultFor, HasChildsResult, WasStarted, FinishedByChild, IsLost, Does, IsLeastStartable, IsNext, Leads, IsLed, PutsOf, LeavesNone, TakesRecorded, IsBuiltWith}
use Rattle.worker.specs.Going.{HasNoneToTake, IsJobOf, AreJobsOf, IsOwnJob, IsGoing, HasChildFor, IsBegun, IsLaunched, kept_job, EndedWell, GoesOnBy, IsTurn, AreOneTurn, jobs_with, one_if, taken_in}
use Rattle.worker.specs.Watching.{FinishInOrder, taken_count, without_number, jobs_after}
use Rattle.std.specs.List.{AllByRecursion}
use Rattle.worker.proofs.Keeping.{kept_none, right_trans}
use Rattle.worker.proofs.Telling.{SameSteps, layout_still, recorded_still, held_kept, end_still, yielded_still, owed_still, owed_ends}
use Rattle.tree.proofs.Listings.{all_join}
use Rattle.worker.proofs.Joins.{put_for_none, put_for_both, came_more, came_behind, children_join, child_either, jobs_join, finish_first, finish_none, finish_one, finish_join}
use Rattle.worker.proofs.Jobs.{least_within, jobs_added, jobs_back, jobs_count, jobs_map, first_goes, placed_goes}
use Rattle.worker.proofs.Lefts.{finished_at, one_there}
use Rattle.worker.proofs.OneJob.{kept_first, leads_once, none_runs}
use Rattle.worker.proofs.Started.{job_of, after, least, job_is, one_more, was_started, started_value}

-- ---- calls

-- what the store told stays, but for results that were put as some calls say
pub record Moves (t u : Telling) (more : List Call) : Type 0 where
  pub blobs : KeepsRight t.blobs u.blobs
  pub puts : PutsOf more t u

pub puts_none : (t u : Telling) (more : List Call) → IsKept t u → PutsOf more t u
puts_none t u more k = record { put = []; are = k.puts ∙ sym (append-nil t.puts); once = put_for_none more; each = tt; others = λ e b at. inl (k.results e b at) }

pub moves_kept : (t u : Telling) (more : List Call) → IsKept t u → Moves t u more
moves_kept t u more k = record { blobs = k.blobs; puts = puts_none t u more k }

pub moves_ran : (t u : Telling) (id : ℕ) (d : DigestValue) (v : OutcomeValue) → IsKeptBut d (IsResultFor v) t u → Moves t u (ran id d v ∷ [])
moves_ran t u id d v k = record { blobs = k.blobs; puts = of k.puts }
  where
    has : HasAt (IsResultFor v) u.results d → HasChildsResult (ran id d v ∷ []) u.results d
    has h = record { outcome = v; came = (id, (0, omega arith, refl)); bytes = h.0; held = h.1; is = h.2 }

    by : (e : DigestValue) (b : List ℕ) → (u.results e ≡ Some b) ⊎ ((e ≡ d) × HasAt (IsResultFor v) u.results d) → (u.results e ≡ Some b) ⊎ HasChildsResult (ran id d v ∷ []) u.results e
    by e b (inl at) = inl at
    by e b (inr h) = inr (subst (HasChildsResult (ran id d v ∷ []) u.results) (sym h.0) (has h.1))

    of : (u.puts ≡ t.puts) ⊎ ((u.puts ≡ t.puts ++ d ∷ []) × HasAt (IsResultFor v) u.results d) → PutsOf (ran id d v ∷ []) t u
    of (inl same) = record { put = []; are = same ∙ sym (append-nil t.puts); once = inl refl; each = tt; others = λ e b at. by e b (k.results e b at) }
    of (inr h) = record { put = d ∷ []; are = h.0; once = inr ([], refl, refl); each = (has h.1, tt); others = λ e b at. by e b (k.results e b at) }

childs_behind : (cs more : List Call) (C : Blobs) (d : DigestValue) → HasChildsResult more C d → HasChildsResult (cs ++ more) C d
childs_behind cs more C d h = record { outcome = h.outcome; came = came_behind d h.outcome cs more h.came; bytes = h.bytes; held = h.held; is = h.is }

-- it stays, or gives way to that of a later child
childs_moved : (t u : Telling) (cs more : List Call) → PutsOf more t u → (d : DigestValue) → HasChildsResult cs t.results d → HasChildsResult (cs ++ more) u.results d
childs_moved t u cs more m d h = by (m.others d h.bytes h.held)
  where
    by : (u.results d ≡ Some h.bytes) ⊎ HasChildsResult more u.results d → HasChildsResult (cs ++ more) u.results d
    by (inl at) = record { outcome = h.outcome; came = came_more d h.outcome cs more h.came; bytes = h.bytes; held = at; is = h.is }
    by (inr new) = childs_behind cs more u.results d new

module _ (A : Type 0) (y : Yields) (t u : Telling) (more : List Call) (m : Moves t u more) where
  does_moved : (later : List Call) (c : Call) (old new : EngineValue) → Does A y t later c old new → Does A y u (later ++ more) c old new
  does_moved later (started i id) old new w = record { told = w.told; still = right_trans w.still m.blobs; job = w.job; number = w.number; is = w.is }
  does_moved later (launched id d x) old new w = record { job = w.job; is = w.is; action = w.action; laid = layout_still m.blobs w.laid; command = w.command; same = w.same }
  does_moved later (ran id d v) old new w = record { finished = w.finished; action = w.action; kept = w.kept; yielded = yielded_still old old (λ l c e h. h) m.blobs (refl, refl) w.finished.job w.yielded }
  does_moved later (taken id d v) old new w = record {
    finished = w.finished;
    action = w.action;
    bytes = w.bytes;
    held = by w.held;
    result = w.result;
    reads = w.reads;
    recorded = recorded_still m.blobs w.result v w.recorded;
  }
    where
      by : (t.results d ≡ Some w.bytes) ⊎ HasChildsResult later t.results d → (u.results d ≡ Some w.bytes) ⊎ HasChildsResult (later ++ more) u.results d
      by (inr h) = inr (childs_moved t u later more m.puts d h)
      by (inl at) = next (m.puts.others d w.bytes at)
        where
          next : (u.results d ≡ Some w.bytes) ⊎ HasChildsResult more u.results d → (u.results d ≡ Some w.bytes) ⊎ HasChildsResult (later ++ more) u.results d
          next (inl is) = inl is
          next (inr h) = inr (childs_behind later more u.results d h)
  does_moved later (lost id) old new w = w

  pub leads_moved : (most : ℕ) (cs : List Call) (old mid new : EngineValue) → Leads A y t most cs old mid → Leads A y u most more mid new → Leads A y u most (cs ++ more) old new
  leads_moved most [] old mid new same rest = subst (λ e. Leads A y u most more e new) same rest
  leads_moved most (c ∷ cs) old mid new (next, does, few, first) rest = (next, does_moved cs c old next does, few, leads_moved most cs next mid new first rest)

  abbrev led_moved : (most : ℕ) (old mid new : EngineValue) → IsLed A y t most old mid → Leads A y u most more mid new → IsLed A y u most old new
  led_moved most old mid new h rest = record { calls = h.calls ++ more; leads = leads_moved most h.calls old mid new h.leads rest }

-- ---- results that are put

all_moved : (t u : Telling) (cs more : List Call) → PutsOf more t u → (put : List DigestValue) → AllByRecursion (HasChildsResult cs t.results) put → AllByRecursion (HasChildsResult (cs ++ more) u.results) put
all_moved t u cs more m [] h = tt
all_moved t u cs more m (d ∷ put) h = (childs_moved t u cs more m d h.0, all_moved t u cs more m put h.1)

all_behind : (cs more : List Call) (C : Blobs) (put : List DigestValue) → AllByRecursion (HasChildsResult more C) put → AllByRecursion (HasChildsResult (cs ++ more) C) put
all_behind cs more C [] h = tt
all_behind cs more C (d ∷ put) h = (childs_behind cs more C d h.0, all_behind cs more C put h.1)

pub puts_moved : (s t u : Telling) (cs more : List Call) → PutsOf cs s t → PutsOf more t u → PutsOf (cs ++ more) s u
puts_moved s t u cs more p m = record {
  put = p.put ++ m.put;
  once = put_for_both cs more p.put m.put p.once m.once;
  are = m.are ∙ ap (λ ds. ds ++ m.put) p.are ∙ append_assoc s.puts p.put m.put;
  each = all_join (HasChildsResult (cs ++ more) u.results) p.put m.put (all_moved t u cs more m p.put p.each) (all_behind cs more u.results m.put m.each);
  others = λ d b at. by d b (p.others d b at);
}
  where
    by : (d : DigestValue) (b : List ℕ) → (t.results d ≡ Some b) ⊎ HasChildsResult cs t.results d → (u.results d ≡ Some b) ⊎ HasChildsResult (cs ++ more) u.results d
    by d b (inr h) = inr (childs_moved t u cs more m d h)
    by d b (inl at) = next (m.others d b at)
      where
        next : (u.results d ≡ Some b) ⊎ HasChildsResult more u.results d → (u.results d ≡ Some b) ⊎ HasChildsResult (cs ++ more) u.results d
        next (inl is) = inl is
        next (inr h) = inr (childs_behind cs more u.results d h)

-- a child's job ended, well or lost
abbrev pub Ends : {J : Type 0} → (J → EndValue → Type 0) → Telling → Telling → Child J → EngineValue → EngineValue → Type 0
Ends may s t c old new = EndedWell may s t c old new ⊎ (IsLost c.id old new × IsKept s t)

pub puts_kept : {t u : Telling} → IsKept t u → PutsOf [] t u
puts_kept {t} {u} k = puts_none t u [] k

-- ---- children that are started

all_starts : (xs ys : List StartValue) (from mid to : Starts) → StartsAll xs from mid → StartsAll ys mid to → StartsAll (xs ++ ys) from to
all_starts xs ys from mid to f g before h = subst to (append_assoc before xs ys) (g (before ++ xs) (f before h))

pub none_starts : (from to : Starts) → StartsNone from to → StartsAll [] from to
none_starts from to f before h = subst to (sym (append-nil before)) (f before h)

-- the store had nothing to take for the children of these calls
abbrev HadNone : Telling → List Call → Type 0
HadNone t more = (d : DigestValue) (x : StartValue) → HasChild more d x → HasNoneToTake t d x.command

pub had_none : (t : Telling) → HadNone t []
had_none t d x (w, (k, lt, is)) = absurd (omega (arith, lt))

had_behind : (t : Telling) (c : Call) (more : List Call) → ((w : ℕ) (d : DigestValue) (x : StartValue) → c ≡ launched w d x → ⊥) → HadNone t more → HadNone t (c ∷ more)
had_behind t c more other none d x (w, (zero, lt, is)) = absurd (other w d x is)
had_behind t c more other none d x (w, (suc k, lt, is)) = none d x (w, (k, omega (arith, lt), is))

pub had_one : (t : Telling) (c : Call) → ((w : ℕ) (d : DigestValue) (x : StartValue) → c ≡ launched w d x → ⊥) → HadNone t (c ∷ [])
had_one t c other = had_behind t c [] other (had_none t)

-- there was nothing to take before, where there is none now
pub left_none : (s t : Telling) (cs : List Call) → KeepsRight s.blobs t.blobs → PutsOf cs s t → (d : DigestValue) (c : CommandValue) → HasNoneToTake t d c → LeavesNone cs s d c
left_none s t cs keeps p d c none v held fits = by (p.others d held.held.0 held.held.1)
  where
    by : (t.results d ≡ Some held.held.0) ⊎ HasChildsResult cs t.results d → (w : OutcomeValue) × CameTo cs d w
    by (inl at) = absurd (none v (record { result = held.result; held = (held.held.0, at, held.held.2); recorded = recorded_still keeps held.result v held.recorded }) fits)
    by (inr was) = (was.outcome, was.came)

takes_moved : (s t : Telling) (cs more : List Call) → KeepsRight s.blobs t.blobs → PutsOf cs s t → TakesRecorded cs s → HadNone t more → TakesRecorded (cs ++ more) s
takes_moved s t cs more keeps p old new d x child v held fits = by (child_either cs more d x child)
  where
    by : HasChild cs d x ⊎ HasChild more d x → (w : OutcomeValue) × CameTo (cs ++ more) d w
    by (inl h) = let was = old d x h v held fits in (was.0, came_more d was.0 cs more was.1)
    by (inr h) = let was = left_none s t cs keeps p d x.command (new d x h) v held fits in (was.0, came_more d was.0 cs more was.1)

abbrev built_moved : (A : Type 0) (y : Yields) (from mid to : Starts) (s t u : Telling) (more : List Call) → Moves t u more → StartsAll (children_of more) mid to → HadNone t more
    → (most : ℕ) (old now new : EngineValue) → IsBuiltWith A y from mid s t most old now → Leads A y u most more now new → IsBuiltWith A y from to s u most old new
built_moved A y from mid to s t u more m starts none most old now new h rest = record {
  built = record { led = led_moved A y t u more m most old now new h.built.led rest; puts = puts_moved s t u h.built.led.calls more h.built.puts m.puts };
  children = subst (λ xs. StartsAll xs from to) (sym (children_join h.built.led.calls more)) (all_starts (children_of h.built.led.calls) (children_of more) from mid to h.children starts);
  blobs = right_trans h.blobs m.blobs;
  takes = takes_moved s t h.built.led.calls more h.blobs h.built.puts h.takes none;
}

-- ---- what is owed

own_still : {J : Type 0} {y z : Yields} {may : J → EndValue → Type 0} {B C : Blobs} {old new : EngineValue} → YieldsNoMore y z → KeepsRight B C → SameSteps old new
    → (c : Child J) (j : JobValue) → IsOwnJob y may B old c j → IsOwnJob z may C new c j
own_still {J} {y} {z} {may} {B} {C} {old} {new} within keeps same c j h = record { of_child = h.of_child; owed = owed_still old new within keeps same j h.owed }

-- ---- going on

module _ (A J : Type 0) (y : Yields) (may : J → EndValue → Type 0) (from : Starts) (s : Telling) (most : ℕ) (old : EngineValue) where
  abbrev Goes : Starts → Telling → EngineValue → List (Child J) → Type 0
  Goes to t now cs = IsGoing A y may from to s t most old now cs

  abbrev pub going_none : running old.jobs ≡ 0 → Goes from s old []
  going_none idle = record {
    idle = idle;
    led = record {
      built = record { led = record { calls = []; leads = refl }; puts = puts_none s s [] kept_none };
      children = none_starts from from (λ before h. h);
      blobs = λ e b at right. at;
      takes = λ d x child v held fits. absurd (had_none s d x child v held fits);
    };
    jobs = idle;
    order = refl;
    in_order = finish_none [];
    few = omega arith;
  }

  abbrev On : Starts → Telling → EngineValue → List (Child J) → List Call → ℕ → Type 0
  On to t now cs calls n = GoesOnBy A y may from to s t most old now cs calls n

  -- by one turn
  abbrev pub OneTurn : Starts → Telling → EngineValue → List (Child J) → List Call → ℕ → Type 0
  OneTurn to t now cs calls n = (on : On to t now cs calls n) × AreOneTurn on.more × (came_of on.more ≡ [])

  -- it went on from the first calls by some more
  pub record Went (to : Starts) (t : Telling) (now : EngineValue) (cs : List (Child J)) (calls more : List Call) : Type 0 where
    pub going : Goes to t now cs
    pub are : going.led.built.led.calls ≡ calls ++ more

  abbrev pub on_by : (to : Starts) (t : Telling) (now : EngineValue) (cs : List (Child J)) (calls more : List Call) (n : ℕ) → Went to t now cs calls more → taken_count more ≡ n → On to t now cs calls n
  on_by to t now cs calls more n w counted = record { going = w.going; more = more; are = w.are; taken = counted }

  pub few_jobs : (to : Starts) (t : Telling) (now : EngineValue) (cs : List (Child J)) → Goes to t now cs → running now.jobs ≤ most
  few_jobs to t now cs g = let count = jobs_count (IsOwnJob y may t.blobs now) cs now.jobs g.jobs in let few = g.few in omega (arith, count, few)

  module _ (a b : Starts) where
    -- only the store was called
    pub going_kept : (t u : Telling) (now : EngineValue) (cs : List (Child J)) → IsKept t u → StartsNone a b → (g : Goes a t now cs) → Went b u now cs g.led.built.led.calls []
    going_kept t u now cs k quiet g =
        let going : Goes b u now cs = record {
          idle = g.idle;
          led = built_moved A y from a b s t u [] (moves_kept t u [] k) (none_starts a b quiet) (had_none t) most old now now g.led refl;
          jobs = jobs_map (IsOwnJob y may t.blobs now) (IsOwnJob y may u.blobs now) (own_still (λ l c p h. h) k.blobs (refl, refl)) cs now.jobs g.jobs;
          order = jobs_join [] g.led.built.led.calls [] ∙ g.order;
          in_order = finish_join [] g.led.built.led.calls [] g.in_order (finish_none (jobs_after [] g.led.built.led.calls));
          few = g.few;
        } in
        record { going = going; are = refl }

    abbrev pub led_kept : (t u : Telling) (now : EngineValue) (cs : List (Child J)) → IsKept t u → Goes a t now cs → IsLed A y u most old now
    led_kept t u now cs k g = led_moved A y t u [] (moves_kept t u [] k) most old now now g.led.built.led refl

    -- the first child's job is gone
    module _ (t u : Telling) (now new : EngineValue) (c : Child J) (cs : List (Child J)) (quiet : StartsNone a b) (g : Goes a t now (c ∷ cs)) where
      fewer : length cs ≤ most
      fewer = let few = g.few in omega (arith, few)

      gone : (more : List Call) → Moves t u more → StartsAll (children_of more) a b → HadNone t more → ((js : List (ℕ × ℕ)) → jobs_after js more ≡ without_number c.id js)
          → FinishInOrder (jobs_with (c ∷ cs)) more → new.jobs ≡ set now.jobs c.id None → SameSteps now new → (running new.jobs ≤ most → Leads A y u most more now new) → Went b u new cs g.led.built.led.calls more
      gone more m starts none ends waits jobs same leads =
          let calls = g.led.built.led.calls in
          let rest : AreJobsOf (IsOwnJob y may t.blobs now) (set now.jobs c.id None) cs = g.jobs.3 in
          let count = jobs_count (IsOwnJob y may t.blobs now) cs (set now.jobs c.id None) rest in
          let le = fewer in
          let few : running (set now.jobs c.id None) ≤ most = omega (arith, count, le) in
          let going : Goes b u new cs = record {
            idle = g.idle;
            led = built_moved A y from a b s t u more m starts none most old now new g.led (leads (subst (λ js. running js ≤ most) (sym jobs) few));
            jobs = subst (λ js. AreJobsOf (IsOwnJob y may u.blobs new) js cs) (sym jobs)
                (jobs_map (IsOwnJob y may t.blobs now) (IsOwnJob y may u.blobs new) (own_still (λ l d p h. h) m.blobs same) cs (set now.jobs c.id None) rest);
            order = jobs_join [] calls more ∙ ap (λ js. jobs_after js more) g.order ∙ ends (jobs_with (c ∷ cs)) ∙ first_goes (IsOwnJob y may t.blobs now) c cs now.jobs g.jobs;
            in_order = finish_join [] calls more g.in_order (subst (λ js. FinishInOrder js more) (sym g.order) waits);
            few = fewer;
          } in
          record { going = going; are = refl }

      ran_child : IsEngine now → (e : EndedWell may t u c now new) → FinishedByChild y u c.id c.action e.produced.outcome now new
      ran_child valid e =
          let same : e.finished.job ≡ g.jobs.0 = one_answer (job_in c.id now) e.finished.job g.jobs.0 e.finished.is g.jobs.1 in
          let action : e.finished.job.action ≡ c.action = ap (λ (j : JobValue). j.action) same ∙ g.jobs.2.of_child.action in
          let once = leads_once A y t most g.led.built.led.calls old now g.led.built.led.leads (none_runs old g.idle) in
          record {
            finished = e.finished;
            action = action;
            kept = subst (λ d. finished_in e.finished.job.step new ≡ Some (record { action = d; outcome = e.produced.outcome })) action (kept_first once valid e.finished);
            yielded = subst (λ j. IsYielded y u.blobs now j e.produced.outcome) (sym same) (record {
              produced = e.produced;
              outcome = refl;
              may = end_still now now (λ l d x h. h) e.kept.blobs (refl, refl) g.jobs.0 (made e.produced) (owed_ends g.jobs.2.owed (made e.produced) e.came);
              blobs = e.blobs;
              trees = e.trees;
            });
          }

      pub going_ran : IsTurn most now (c ∷ cs) turns.Finish → IsEngine now → (e : EndedWell may t u c now new) → Went b u new cs g.led.built.led.calls (ran c.id c.action e.produced.outcome ∷ [])
      going_ran next valid e = gone (ran c.id c.action e.produced.outcome ∷ []) (moves_ran t u c.id c.action e.produced.outcome e.kept)
          (none_starts a b quiet) (had_one t (ran c.id c.action e.produced.outcome) (λ w d x is. cc)) (λ js. refl) (finish_one (jobs_with (c ∷ cs)) (ran c.id c.action e.produced.outcome) (λ w d v is. cc))
          (ap (λ (e : EngineValue). e.jobs) e.finished.after) (ap (λ (e : EngineValue). e.commands) e.finished.after, ap (λ (e : EngineValue). e.frames) e.finished.after)
          (λ few. (new, ran_child valid e, (few, λ less. next.1 (let count = jobs_count (IsOwnJob y may t.blobs now) (c ∷ cs) now.jobs g.jobs in omega (arith, count, less))), refl))

      pub going_lost : IsLost c.id now new → IsKept t u → Went b u new cs g.led.built.led.calls (lost c.id ∷ [])
      going_lost (j, at, after) k = gone (lost c.id ∷ []) (moves_kept t u (lost c.id ∷ []) k)
          (none_starts a b quiet) (had_one t (lost c.id) (λ w d x is. cc)) (λ js. refl) (finish_one (jobs_with (c ∷ cs)) (lost c.id) (λ w d v is. absurd cc))
          (ap (λ (e : EngineValue). e.jobs) after) (ap (λ (e : EngineValue). e.commands) after, ap (λ (e : EngineValue). e.frames) after)
          (λ few. (new, (j, at, after), (few, tt), refl))

    -- a step was started
    module _ (t u : Telling) (now mid : EngineValue) (cs : List (Child J)) (i id : ℕ) (k : IsKept t u) (g : Goes a t now cs) (room : length cs < most) (w : WasStarted A u.blobs i id now mid) (next : IsLeastStartable now i) where
      pub few_mid : running mid.jobs ≤ most
      few_mid = let more = one_more w in let count = jobs_count (IsOwnJob y may t.blobs now) cs now.jobs g.jobs in omega (arith, more, count, room)

      steps_mid : SameSteps now mid
      steps_mid = (ap (λ (e : EngineValue). e.commands) (after w), ap (λ (e : EngineValue). e.frames) (after w))

      there : AreJobsOf (IsOwnJob y may u.blobs mid) now.jobs cs
      there = jobs_map (IsOwnJob y may t.blobs now) (IsOwnJob y may u.blobs mid) (own_still (λ l c p h. h) k.blobs steps_mid) cs now.jobs g.jobs

      abbrev pub led_started : IsLed A y u most old mid
      led_started = led_moved A y t u (started i id ∷ []) (moves_kept t u (started i id ∷ []) k) most old now mid g.led.built.led (mid, w, (few_mid, next), refl)

      going_started : (c : Child J) → c.id ≡ id → IsOwnJob y may u.blobs mid c (job_of w) → (x : StartValue) → IsLayoutOf u.blobs (job_of w).input x.layout → slice_get mid.commands i ≡ Some x.command
          → StartsOne a b x → HasNoneToTake t (job_of w).action x.command → Went b u mid (cs ++ c ∷ []) g.led.built.led.calls (started i id ∷ launched id (job_of w).action x ∷ [])
      going_started c same is x laid command starts none =
          let calls = g.led.built.led.calls in
          let more : List Call = started i id ∷ launched id (job_of w).action x ∷ [] in
          let going : Goes b u mid (cs ++ c ∷ []) = record {
            idle = g.idle;
            led = built_moved A y from a b s t u more (moves_kept t u more k) starts had
                most old now mid g.led (mid, w, (few_mid, next), (mid, record { job = job_of w; is = job_is w; action = refl; laid = laid; command = command; same = refl }, (few_mid, tt), refl));
            jobs = subst (λ js. AreJobsOf (IsOwnJob y may u.blobs mid) js (cs ++ c ∷ [])) (sym (ap (λ (e : EngineValue). e.jobs) (after w)))
                (jobs_added (IsOwnJob y may u.blobs mid) cs now.jobs id c (job_of w) (least_within now.jobs id (least w)) (least w).free same is there);
            order = jobs_join [] calls more ∙ ap (λ js. js ++ (id, i) ∷ []) g.order ∙ ap (λ (j : ℕ × ℕ). jobs_with cs ++ j ∷ []) pair ∙ sym (map-append (λ (c : Child J). (c.id, c.step)) cs (c ∷ []));
            in_order = finish_join [] calls more g.in_order (finish_first (jobs_after [] calls) (started i id) _ (λ w d v is. absurd cc) (finish_one _ (launched id (job_of w).action x) (λ w d v is. absurd cc)));
            few = let n = length-append cs (c ∷ []) in omega (arith, n, room);
          } in
          record { going = going; are = refl }
        where
          pair : ◌≡◌ {A = ℕ × ℕ} (id, i) (c.id, c.step)
          pair = let number = same in let step = is.of_child.step in cc

          had : (d : DigestValue) (z : StartValue) → HasChild (started i id ∷ launched id (job_of w).action x ∷ []) d z → HasNoneToTake t d z.command
          had d z (v, (zero, lt, is)) = absurd cc
          had d z (v, (suc zero, lt, is)) = let action : (job_of w).action ≡ d = cc in let child : x ≡ z = cc in
              subst (λ e. HasNoneToTake t e z.command) action (subst (λ (r : StartValue). HasNoneToTake t (job_of w).action r.command) child none)
          had d z (v, (suc (suc k), lt, is)) = absurd (omega (arith, lt))

      -- its job is gone again: nothing runs that didn't run before
      pub going_back : (new : EngineValue) (call : Call) → StartsAll (children_of (call ∷ [])) a b → HadNone t (call ∷ []) → ((js : List (ℕ × ℕ)) → jobs_after js (call ∷ []) ≡ without_number id js)
          → ((js : List (ℕ × ℕ)) → FinishInOrder js (call ∷ [])) → new.jobs ≡ set mid.jobs id None → SameSteps mid new → Does A y u [] call mid new → IsNext most call mid → Went b u new cs g.led.built.led.calls (started i id ∷ call ∷ [])
      going_back new call starts none ends waits jobs same does next_call =
          let calls = g.led.built.led.calls in
          let more : List Call = started i id ∷ call ∷ [] in
          let back : AreJobsOf (IsOwnJob y may u.blobs mid) (set mid.jobs id None) cs
          = subst (λ js. AreJobsOf (IsOwnJob y may u.blobs mid) (set js id None) cs) (sym (ap (λ (e : EngineValue). e.jobs) (after w)))
          (jobs_back (IsOwnJob y may u.blobs mid) cs now.jobs id (job_of w) (least_within now.jobs id (least w)) (least w).free there) in
          let count = jobs_count (IsOwnJob y may u.blobs mid) cs (set mid.jobs id None) back in
          let few = g.few in
          let few_new : running new.jobs ≤ most = subst (λ js. running js ≤ most) (sym jobs) (omega (arith, count, few)) in
          let going : Goes b u new cs = record {
            idle = g.idle;
            led = built_moved A y from a b s t u more (moves_kept t u more k) starts (had_behind t (started i id) (call ∷ []) (λ v d x is. cc) none) most old now new g.led (mid, w, (few_mid, next), (new, does, (few_new, next_call), refl));
            jobs = subst (λ js. AreJobsOf (IsOwnJob y may u.blobs new) js cs) (sym jobs)
                (jobs_map (IsOwnJob y may u.blobs mid) (IsOwnJob y may u.blobs new) (own_still (λ l c p h. h) (λ e b at right. at) same) cs (set mid.jobs id None) back);
            order = jobs_join [] calls more ∙ ap (λ js. jobs_after (js ++ (id, i) ∷ []) (call ∷ [])) g.order ∙ ends (jobs_with cs ++ (id, i) ∷ []) ∙ placed_goes (IsOwnJob y may u.blobs mid) cs now.jobs id i (least w).free there;
            in_order = finish_join [] calls more g.in_order (finish_first (jobs_after [] calls) (started i id) (call ∷ []) (λ v d x is. absurd cc) (waits (jobs_after [] calls ++ (id, i) ∷ [])));
            few = g.few;
          } in
          record { going = going; are = refl }

    -- a step that hasn't finished is started
    module _ (t u : Telling) (now new : EngineValue) (i : ℕ) (cs : List (Child J)) (k : IsKept t u) (g : Goes a t now cs) (room : length cs < most) (unfinished : finished_in i now ≡ None) where
      none_in : finished_in i new ≡ None → taken_in true i now new ≡ 0
      none_in none = let before = ap one_if unfinished in let behind = ap one_if none in omega (arith, before, behind)

      mid_none : (id : ℕ) (mid : EngineValue) → WasStarted A u.blobs i id now mid → finished_in i mid ≡ None
      mid_none id mid w = ap (λ (e : EngineValue). finished_in i e) (after w) ∙ unfinished

      one_in : IsSome (finished_in i new) → taken_in true i now new ≡ 1
      one_in some = let before = ap one_if unfinished in let behind = one_there (finished_in i new) some in omega (arith, before, behind)

      pub going_begun : IsLeastStartable now i → (z : Yields) → YieldsNoMore z y → (ds : List (Child J)) → i < length now.finished → IsBegun A z may a b t u i now new cs ds → OneTurn b u new ds g.led.built.led.calls (taken_in true i now new)
      going_begun next z within ds lt begun = by begun.goes
        where
          w : WasStarted A u.blobs i begun.id now begun.mid
          w = begun.started

          one : begun.job ≡ job_of w
          one = one_answer (job_in begun.id begun.mid) begun.job (job_of w) begun.is (job_is w)

          by : IsLaunched z may a b t u begun.id begun.job begun.mid new cs ds → OneTurn b u new ds g.led.built.led.calls (taken_in true i now new)
          by (inl (c, id, child, same, grown)) =
              let own : HasChildFor z may a b t u begun.mid (job_of w) c = subst (λ j. HasChildFor z may a b t u begun.mid j c) one child in
              subst (OneTurn b u new ds g.led.built.led.calls) (sym (none_in (ap (λ (e : EngineValue). finished_in i e) same ∙ mid_none begun.id begun.mid w)))
              (subst (λ (e : EngineValue). OneTurn b u e ds g.led.built.led.calls 0) (sym same)
              (subst (λ xs. OneTurn b u begun.mid xs g.led.built.led.calls 0) (sym grown) (
                on_by b u begun.mid (cs ++ c ∷ []) g.led.built.led.calls (started i begun.id ∷ launched begun.id (job_of w).action (record { layout = own.own.owed.layout; command = own.own.owed.command }) ∷ []) 0
                    (going_started t u now begun.mid cs i begun.id k g room w next c id
                    (own_still within (λ e b at right. at) (refl, refl) c (job_of w) own.own)
                    (record { layout = own.own.owed.layout; command = own.own.owed.command }) own.own.owed.laid own.own.owed.of_step own.started own.none) refl,
                ((refl, tt), refl),
                refl,
              )))
          by (inr (v, f, held, same, quiet)) =
              let of_job : f.job ≡ begun.job = one_answer (job_in begun.id begun.mid) f.job begun.job f.is begun.is in
              let within_mid : i < length begun.mid.finished = subst (λ (e : EngineValue). i < length e.finished) (sym (after w)) lt in
              let call : Call = taken begun.id begun.job.action v in
              subst (λ xs. OneTurn b u new xs g.led.built.led.calls (taken_in true i now new)) (sym same) (
                on_by b u new cs g.led.built.led.calls (started i begun.id ∷ call ∷ []) (taken_in true i now new) (going_back t u now begun.mid cs i begun.id k g room w next new call
                    (none_starts a b quiet) (had_one t call (λ w d x is. cc)) (λ js. refl) (λ js. finish_one js call (λ w d v is. absurd cc))
                    (ap (λ (e : EngineValue). e.jobs) f.after) (ap (λ (e : EngineValue). e.commands) f.after, ap (λ (e : EngineValue). e.frames) f.after)
                    (record {
                      finished = f;
                      action = ap (λ (j : JobValue). j.action) of_job;
                      bytes = held.held.held.0;
                      held = inl held.held.held.1;
                      result = held.held.result;
                      reads = held.held.held.2;
                      recorded = held.held.recorded;
                    }) tt) (sym (one_in (finished_at begun.mid new begun.id i v (job_of w) within_mid f (job_is w) refl))),
                ((refl, tt), refl),
                refl,
              )

      pub none_kept : new ≡ now → 0 ≡ taken_in true i now new
      none_kept same = sym (none_in (ap (λ (e : EngineValue). finished_in i e) same ∙ unfinished))

      pub none_lost : (id : ℕ) (mid : EngineValue) → WasStarted A u.blobs i id now mid → new ≡ without_job id mid → 0 ≡ taken_in true i now new
      none_lost id mid w gone = sym (none_in (ap (λ (e : EngineValue). finished_in i e) gone ∙ mid_none id mid w))

-- the children's jobs
pub own_jobs : {A J : Type 0} {y : Yields} {may : J → EndValue → Type 0} {from to : Starts} {s t : Telling} {most : ℕ} {old now : EngineValue} {cs : List (Child J)} → IsGoing A y may from to s t most old now cs → AreJobsOf IsJobOf now.jobs cs
own_jobs {A} {J} {y} {may} {from} {to} {s} {t} {most} {old} {now} {cs} g = jobs_map (IsOwnJob y may t.blobs now) IsJobOf (λ c j h. h.of_child) cs now.jobs g.jobs

-- ---- a step that is started, or refused

unfoldable pub begun : {A J : Type 0} {y : Yields} {may : J → EndValue → Type 0} {from to : Starts} {B : Blobs} {s t : Telling} (u : Telling) {i : ℕ} {old mid new : EngineValue} {job : Job A} {before behind : List (Child J)} → IsStarted B i old mid job → KeepsRight B u.blobs → IsKept s t
    → IsLaunched y may from to t u job.id (kept_job job) mid new before behind → IsBegun A y may from to s u i old new before behind
begun {A} {J} {y} {may} {from} {to} {B} {s} {t} u {i} {old} {mid} {new} {job} {before} {behind} is keeps kept went = record {
  id = job.id;
  mid = mid;
  started = was_started is u.blobs keeps;
  job = kept_job job;
  is = started_value is;
  goes = by went;
}
  where
    by : IsLaunched y may from to t u job.id (kept_job job) mid new before behind → IsLaunched y may from to s u job.id (kept_job job) mid new before behind
    by (inl (c, id, child, same, grown)) = inl (c, id, record { own = child.own; started = child.started; none = λ v held fits. child.none v (held_kept kept held) fits }, same, grown)
    by (inr taken_at_once) = inr taken_at_once
