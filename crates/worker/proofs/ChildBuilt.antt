-- The build of two steps of one action: the child of the first comes to something, and the second takes the result that was put.
use Rattle.std.proofs.Common.{◌≡◌, ◌≢◌, ◌<◌, ℕ, zero, suc, List, [], ◌∷◌, Option, Some, None, refl, ap, sym, subst, arith, inl, inr, lit<}
use Rattle.std.specs.Prelude.{◌⊎◌, pos, codes, slice_get, Contains}
use Rattle.wire.specs.Bytes.{AreBytes}
use Rattle.wire.specs.Varint.{groups, varint}
use Rattle.blob_digest.specs.Digest.{DigestValue, digest_of}
use Rattle.messages.specs.Directory.{directory_bytes}
use Rattle.action_messages.specs.Action.{action_bytes, with_input}
use Rattle.action_messages.specs.ActionResult.{IsActionResult, action_result_bytes}
use Rattle.action_messages.specs.Reads.{Reads}
use Rattle.action_messages.proofs.Written.{canon_reads}
use Rattle.actions.specs.Outcome.{OutcomeValue}
use Rattle.actions.specs.Recorded.{IsRecorded}
use Rattle.blob_source.specs.Source.{Blobs, Telling}
use Rattle.blob_source.specs.Told.{TellsDirectory}
use Rattle.plan.specs.declared.version.Version.TheVariants.{One}
use Rattle.tree.specs.Tree.{Name, empty, a_leaf, a_directory, stands_at}
use Rattle.tree.specs.Form.{NodeValue, no_children, root}
use Rattle.tree.specs.Stage.{◌and_then◌}
use Rattle.runs.specs.Calls.{Disagrees, IsFinished, with_finished, with_job}
use Rattle.runs.specs.Engine.{FinishedValue, JobValue, EngineValue}
use Rattle.runs.specs.Looking.{together_in}
use Rattle.runs.specs.Results.{result_of}
use Rattle.verifier.specs.Recorded.{HaveOneForm}
use Rattle.verifier.specs.TwoSteps as two
use Rattle.verifier.proofs.TwoStepsRecorded.{bytes_fit}
use Rattle.worker.specs.Calls.{Call, started, launched, ran, taken, CameTo, HasChildsResult, FinishedAsRecorded, WasStarted, IsStartable, IsLeastStartable, IsBuiltBy}
use Rattle.worker.specs.Layout.{IsLayoutOf}
use Rattle.worker.specs.Outcomes.{Yields, IsYielded}
use Rattle.worker.specs.Steps.{CameOfChild, WasTaken}
use Rattle.worker.specs.Stored.{HasNoneFinished}
use Rattle.worker.specs.Values.{StartValue}
use Rattle.worker.proofs.TwoStepsBuilt.{fold_of, none_few, nothing_merges, ready_for, started_first, unfinished}

-- ---- the step `gen` of the build of two steps, twice, of which anything may come: it makes nothing

abbrev anything : Yields
anything l c e = Unit {0}

abbrev action_digest : DigestValue
action_digest = digest_of (action_bytes (with_input two.gen.0.frame (root empty)))

abbrev outcome : OutcomeValue
outcome = record { exit_code = pos 0; outputs = [] }

-- the action stands under each digest
abbrev blobs : Blobs
blobs d = Some (action_bytes (with_input two.gen.0.frame (root empty)))

abbrev before : Telling
before = record { blobs = blobs; results = λ d. None; failures = 0; calls = 0; puts = [] }

abbrev told : Telling
told = record { blobs = blobs; results = λ d. Some (action_result_bytes (result_of outcome)); failures = 0; calls = 0; puts = action_digest ∷ [] }

abbrev child : StartValue
child = record { layout = record { folders = []; files = [] }; command = two.gen.0.command }

-- ---- the engine from call to call

abbrev first : EngineValue
first = record {
  plan = record {
    version = One;
    steps = record { name = codes "gen"; frame = two.gen_frame_digest; lines = [] } ∷ record { name = codes "again"; frame = two.gen_frame_digest; lines = [] } ∷ [];
    root_lines = [];
  };
  sources = root empty;
  frames = two.gen.0.frame ∷ two.gen.0.frame ∷ [];
  commands = two.gen.0.command ∷ two.gen.0.command ∷ [];
  finished = None ∷ None ∷ [];
  jobs = [];
}

abbrev job_of : ℕ → JobValue
job_of i = record { step = i; action = action_digest; input = root empty }

abbrev finished : FinishedValue
finished = record { action = action_digest; outcome = outcome }

abbrev runs : EngineValue
runs = with_job 0 (job_of 0) first

abbrev ended : EngineValue
ended = with_finished 0 (job_of 0) outcome runs

abbrev again : EngineValue
again = with_job 0 (job_of 1) ended

abbrev last : EngineValue
last = with_finished 0 (job_of 1) outcome again

abbrev calls : List Call
calls = started 0 0 ∷ launched 0 action_digest child ∷ ran 0 action_digest outcome ∷ started 1 0 ∷ taken 0 action_digest outcome ∷ []

nothing_together : (e : EngineValue) → (together_in blobs e []).passes empty
unfolding ◌and_then◌
nothing_together e = ([], refl, nothing_merges blobs)

first_started : {A : Type 0} (alloc : A) → WasStarted A blobs 0 0 first runs
first_started alloc = started_first blobs first 0 _ two.gen.0.frame two.gen.0.command empty (fold_of alloc empty none_few (lit< tt)) (root empty) action_digest refl refl refl (nothing_together first) refl refl refl

second_started : {A : Type 0} (alloc : A) → WasStarted A blobs 1 0 ended again
second_started alloc = started_first blobs ended 1 _ two.gen.0.frame two.gen.0.command empty (fold_of alloc empty none_few (lit< tt)) (root empty) action_digest refl refl refl (nothing_together ended) refl refl refl

no_bytes : directory_bytes no_children ≡ []
unfolding directory_bytes groups varint
no_bytes = refl

empty_told : TellsDirectory blobs (root empty) no_children
empty_told = record {
  valid = record { files = tt; directories = tt; symlinks = tt; names = record { files_ascend = tt; directories_ascend = tt; symlinks_ascend = tt; files_and_directories = tt; files_and_symlinks = tt; directories_and_symlinks = tt } };
  blob = record { held = inl (ap digest_of no_bytes, ap Some no_bytes); right = refl };
}

none_inside : {X : Type 0} (x : X) → Contains [] x → ⊥
none_inside x (i, lt, at) = omega (arith, lt)

is_laid : IsLayoutOf blobs (root empty) child.layout
is_laid = record {
  tree = empty;
  ordered = tt;
  told = record { root = refl; top = empty_told; below = tt };
  folders = λ p. ((λ inside. absurd (none_inside p inside)), by p);
  files = λ p b inside. absurd (none_inside (p, b) inside);
  each_leaf = λ p x at. absurd (no_leaf p x at);
  folders_ascend = tt;
  files_ascend = tt;
}
  where
    by : (p : List Name) → (p ≢ []) × (stands_at {L = NodeValue} empty p ≡ a_directory) → Contains [] p
    by [] (some, at) = absurd (some refl)
    by (n ∷ []) (some, at) = absurd cc
    by (n ∷ m ∷ p) (some, at) = absurd cc

    no_leaf : (p : List Name) (x : NodeValue) → stands_at empty p ≡ a_leaf x → ⊥
    no_leaf [] x at = cc
    no_leaf (n ∷ []) x at = cc
    no_leaf (n ∷ m ∷ p) x at = cc

one_form : HaveOneForm outcome outcome
one_form = record { exit_code = refl; outputs = refl }

none_agrees : Disagrees (None ∷ None ∷ []) 0 action_digest outcome → ⊥
none_agrees (zero, o, at, other) = unfinished o 0 0 action_digest outcome (let none : ◌≡◌ {A = Option FinishedValue} None o = cc in none) other
none_agrees (suc zero, o, at, other) = unfinished o 1 0 action_digest outcome (let none : ◌≡◌ {A = Option FinishedValue} None o = cc in none) other
none_agrees (suc (suc k), o, at, other) = absurd cc

agrees_again : Disagrees (Some finished ∷ None ∷ []) 1 action_digest outcome → ⊥
agrees_again (zero, None, at, other) = other
agrees_again (zero, Some f, at, other) = let same : finished ≡ f = cc in other.1 (subst (λ (g : FinishedValue). HaveOneForm g.outcome outcome) same one_form)
agrees_again (suc zero, o, at, other) = unfinished o 1 1 action_digest outcome (let none : ◌≡◌ {A = Option FinishedValue} None o = cc in none) other
agrees_again (suc (suc k), o, at, other) = absurd cc

abbrev first_finished : IsFinished 0 outcome runs ended
first_finished = record {
  job = job_of 0;
  is = refl;
  taken = λ c at. record { valid = record { paths = tt; ascend = tt; apart = tt }; outputs = tt; exit_code = refl; listed = tt };
  agrees = none_agrees;
  after = refl;
}

abbrev second_finished : IsFinished 0 outcome again last
second_finished = record {
  job = job_of 1;
  is = refl;
  taken = λ c at. record { valid = record { paths = tt; ascend = tt; apart = tt }; outputs = tt; exit_code = refl; listed = tt };
  agrees = agrees_again;
  after = refl;
}

is_yielded : (e : EngineValue) → slice_get e.commands 0 ≡ Some two.gen.0.command → slice_get e.frames 0 ≡ Some two.gen.0.frame → IsYielded anything blobs e (job_of 0) outcome
is_yielded e command frame = record {
  produced = record { outcome = outcome; blobs = [] };
  outcome = refl;
  may = record {
    layout = child.layout;
    laid = is_laid;
    command = two.gen.0.command;
    of_step = command;
    may = (tt, tt);
    own = (two.gen.0.frame, frame, refl);
    action = (action_bytes (with_input two.gen.0.frame (root empty)), refl, refl);
  };
  blobs = tt;
  trees = tt;
}

-- ---- the result that was put

result_valid : IsActionResult (result_of outcome)
result_valid = record {
  files = tt;
  directories = tt;
  symlinks = tt;
  paths = record { files_ascend = tt; directories_ascend = tt; symlinks_ascend = tt; apart = tt };
  exit_code = omega arith;
  stdout = record { digest = tt };
  stderr = record { digest = tt };
}

result_bytes : AreBytes (action_result_bytes (result_of outcome))
unfolding action_result_bytes groups varint
result_bytes = (lit< tt, bytes_fit (action_result_bytes (result_of outcome)) refl)

result_reads : Reads (result_of outcome) (action_result_bytes (result_of outcome))
result_reads = canon_reads (action_result_bytes (result_of outcome)) (result_of outcome) result_bytes result_valid refl

is_recorded : IsRecorded blobs (result_of outcome) outcome
is_recorded = record {
  valid = record { paths = tt; ascend = tt; apart = tt };
  exit_code = refl;
  recorded = [];
  ordered = record { ascend = tt; files = refl; directories = refl; symlinks = refl };
  outputs = refl;
}

none_recorded : (d : DigestValue) (b : List ℕ) → before.results d ≡ Some b → ⊥
none_recorded d b at = cc

was_put : HasChildsResult calls told.results action_digest
was_put = record { outcome = outcome; came = (0, (2, omega arith, refl)); bytes = action_result_bytes (result_of outcome); held = refl; is = record { outcome = outcome; form = one_form; reads = result_reads } }

second_taken : FinishedAsRecorded told [] 0 action_digest outcome again last
second_taken = record { finished = second_finished; action = refl; bytes = action_result_bytes (result_of outcome); held = inl refl; result = result_of outcome; reads = result_reads; recorded = is_recorded }

-- ---- the build

first_next : IsLeastStartable first 0
first_next = record {
  startable = record { waiting = record { unfinished = refl; idle = refl }; ready = ready_for first 0 _ refl tt };
  least = λ k lt. absurd (omega (arith, lt));
}

second_next : IsLeastStartable ended 1
second_next = record {
  startable = record { waiting = record { unfinished = refl; idle = refl }; ready = ready_for ended 1 _ refl tt };
  least = none;
}
  where
    none : (k : ℕ) → k < 1 → IsStartable ended k → ⊥
    none zero lt h = let unfinished = h.waiting.unfinished in cc
    none (suc k) lt h = omega (arith, lt)

abbrev built : {A : Type 0} (alloc : A) → IsBuiltBy A anything before told 1 first last
built alloc = record {
  led = record {
    calls = calls;
    leads = (
      runs,
      first_started alloc,
      (omega arith, first_next),
      (
        runs,
        record { job = job_of 0; is = refl; action = refl; laid = is_laid; command = refl; same = refl },
        (omega arith, tt),
        (
          ended,
          record { finished = first_finished; action = refl; kept = refl; yielded = is_yielded runs refl refl },
          (omega arith, λ less. absurd (omega (arith, less))),
          (again, second_started alloc, (omega arith, second_next), (last, second_taken, (omega arith, tt), refl)),
        ),
      ),
    );
  };
  puts = record { put = action_digest ∷ []; are = refl; once = inr ([], refl, refl); each = (was_put, tt); others = λ d b at. absurd (none_recorded d b at) };
}

none_finished : HasNoneFinished first
none_finished zero = refl
none_finished (suc zero) = refl
none_finished (suc (suc i)) = refl

child_came : CameOfChild anything calls blobs last action_digest outcome
child_came = record { came = (0, (2, omega arith, refl)); job = job_of 0; action = refl; finished = refl; yielded = is_yielded last refl refl }

was_taken : WasTaken anything calls (action_digest ∷ []) told last finished
was_taken = record { bytes = action_result_bytes (result_of outcome); result = result_of outcome; reads = result_reads; recorded = is_recorded; stands = inr (outcome, child_came, one_form) }

-- the first step came of its child, and the second took what was put, of one form with that
pub one_action : {A : Type 0} (alloc : A) → (b : IsBuiltBy A anything before told 1 first last) × (b.led.calls ≡ calls) × HasNoneFinished first × CameOfChild anything b.led.calls blobs last action_digest outcome × WasTaken anything b.led.calls b.puts.put told last finished
one_action alloc = (built alloc, refl, none_finished, child_came, was_taken)

-- ---- another yield of the action

-- no child came to anything else
none_else : (v : OutcomeValue) → CameTo calls action_digest v → v ≡ outcome
none_else v (id, (zero, lt, is)) = absurd cc
none_else v (id, (suc zero, lt, is)) = absurd cc
none_else v (id, (suc (suc zero), lt, is)) = cc
none_else v (id, (suc (suc (suc zero)), lt, is)) = absurd cc
none_else v (id, (suc (suc (suc (suc zero))), lt, is)) = absurd cc
none_else v (id, (suc (suc (suc (suc (suc k)))), lt, is)) = absurd (omega (arith, lt))

-- a second step that finished with another yield of the action is neither
pub no_other_yield : (yields : Yields) (e : EngineValue) (v : OutcomeValue) → (HaveOneForm outcome v → ⊥) → CameOfChild yields calls blobs e action_digest v ⊎ WasTaken yields calls (action_digest ∷ []) told e (record { action = action_digest; outcome = v }) → ⊥
no_other_yield yields e v other (inl h) = other (subst (HaveOneForm outcome) (sym (none_else v h.came)) one_form)
no_other_yield yields e v other (inr h) = by h.stands
  where
    by : ((told.results action_digest ≡ Some h.bytes) × (Contains (action_digest ∷ []) action_digest → ⊥)) ⊎ ((w : OutcomeValue) × CameOfChild yields calls told.blobs e action_digest w × HaveOneForm w v) → ⊥
    by (inl (held, unput)) = unput (0, omega arith, refl)
    by (inr (w, child, form)) = other (subst (λ (x : OutcomeValue). HaveOneForm x v) (none_else w child.came) form)
