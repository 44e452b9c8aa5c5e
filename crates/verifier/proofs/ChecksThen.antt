-- Checks of a source, one after another, while it tells more and more.
use Rattle.std.proofs.Common.{◌≡◌, ℕ, List, [], ◌∷◌, ◌++◌, refl, subst, inl, inr}
use Rattle.std.specs.Prelude.{Result, Ok, Err, IsErrOf, slice_get}
use Rattle.std.specs.Result.{IsErrAnd}
use Rattle.blob_digest.specs.Digest.{DigestValue}
use Rattle.action_messages.specs.Action.{ActionValue}
use Rattle.action_messages.specs.ActionResult.{ActionResultValue}
use Rattle.action_messages.specs.Command.{CommandValue}
use Rattle.actions.specs.Outcome.{OutcomeValue}
use Rattle.actions.proofs.Reading.{recorded_still}
use Rattle.plan.specs.Values.{LineValue, StepValue}
use Rattle.blob_source.specs.Called.{Called}
use Rattle.tree.specs.Tree.{Tree}
use Rattle.tree.specs.Form.{NodeValue, root}
use Rattle.blob_source.specs.Source.{Telling, Grows}
use Rattle.blob_source.proofs.Asking.{ok_no_error}
use Rattle.blob_source.proofs.Calling.{called_none, called_ok, called_exit}
use Rattle.tree.specs.Memo.{Asked, Known, IsKnownOf, WasRefused, Learns, LooksAtBlob}
use Rattle.tree.proofs.Descent.{told_still}
use Rattle.tree.proofs.Learning.{learns_none, learns_then, learns_more, learns_refused, refused_exit}
use Rattle.tree.proofs.Ways.{compares_still}
use Rattle.tree.specs.Folded.{first_visits}
use Rattle.tree.specs.MergeLooks.{looks}
use Rattle.tree.specs.Stage.{Stage, ◌and_then◌}
use Rattle.tree.proofs.StageLaws.{looks_here, looks_next}
use Rattle.verifier.specs.declared.fault.Fault.{Fault}
use Rattle.verifier.specs.declared.fault.Fault.TheVariants as faults
use Rattle.verifier.specs.declared.verdict.Cause.{Cause}
use Rattle.verifier.specs.declared.verdict.Place.{Place}
use Rattle.verifier.specs.Answers.{IsStopped}
use Rattle.verifier.specs.Checks.{Checks}
use Rattle.verifier.specs.declared.verifying.Checked.{Checked}
use Rattle.verifier.specs.Stage.{ExplainsFault, Answers}
use Rattle.verifier.specs.StepChecks.{message, together, same_input, input_check, result_held, read, result_check, step_check}
use Rattle.verifier.specs.Together.{Earlier, TogetherLooksAt}
use Rattle.verifier.specs.LooksAt.{LooksAtNothing, DifferenceLooksAt, InputLooksAt, OutcomeLooksAt, ResultLooksAt, StepLooksAt, StepsLookAt}
use Rattle.verifier.specs.Verdict.{located, steps_check}
use Rattle.verifier.proofs.Looking.{together_still, together_looks_still, outputs_look_still}
use Rattle.verifier.proofs.Stages.{fails_here, then_answers}

-- ---- what passes still passes when more is told

pub record IsStable {E V : Type 0} (stage : Telling → Stage E V) : Type 0 where
  pub still : (old new : Telling) → Grows old.blobs new.blobs → Grows old.results new.results → (v : V) → (stage old).passes v → (stage new).passes v

pub stable_then : {E V W : Type 0} {first : Telling → Stage E V} {next : Telling → V → Stage E W} → IsStable first → ((v : V) → IsStable (λ t. next t v)) → IsStable (λ t. first t and_then next t)
unfolding ◌and_then◌
stable_then h k = record { still = λ old new g r w p. (p.0, h.still old new g r p.0 p.1, (k p.0).still old new g r w p.2) }

pub stable_without : {E V : Type 0} {stage : Stage E V} → IsStable (λ _. stage)
stable_without = record { still = λ old new g k v h. h }

module _ {A : Type 0} where
  pub stable_located : {V : Type 0} {place : Place A} {stage : Telling → Stage (Cause A) V} → IsStable stage → IsStable (λ t. located place (stage t))
  stable_located h = record { still = h.still }

  pub stable_message : {M : Type 0} {keeps : M → Type 0} {spells : M → List ℕ} {d : DigestValue} → IsStable (λ t. message {A = A} keeps spells t.blobs d)
  stable_message = record { still = λ old new g k v h. told_still g h }

  pub stable_together : (d : DigestValue) (os : List OutcomeValue) (ls : List LineValue) → IsStable (λ t. together {A = A} t.blobs d os ls)
  stable_together d os ls = record { still = λ old new g k v h. together_still old.blobs new.blobs d (slice_get os) ls v g h }

  pub stable_same_input : (a : ActionValue) (made : Tree NodeValue) → IsStable (λ t. same_input {A = A} t.blobs a made)
  stable_same_input a made = record { still = λ old new g k v h. h }

  pub stable_held : {d : DigestValue} → IsStable (λ t. result_held {A = A} t.results d)
  stable_held {d} = record { still = λ old new g k v h. (h.0, k d h.0 h.1, h.2) }

  stable_read : (m : CommandValue) (r : ActionResultValue) → IsStable (λ t. read {A = A} t.blobs m r)
  stable_read m r = record { still = λ old new g k v h. (recorded_still old.blobs new.blobs r v g h.0, h.1) }

  pub stable_input : (d : DigestValue) (os : List OutcomeValue) (ls : List LineValue) (a : ActionValue) → IsStable (λ t. input_check {A = A} t.blobs d os ls a)
  stable_input d os ls a = stable_then (stable_together d os ls) (λ made. stable_same_input a made)

  stable_result : (m : CommandValue) (d : DigestValue) → IsStable (λ t. result_check {A = A} t m d)
  stable_result m d = stable_then stable_held (λ r. stable_then stable_without (λ _. stable_read m r))

  pub stable_step : (d : DigestValue) (os : List OutcomeValue) (s : StepValue) (recorded : DigestValue) → IsStable (λ t. step_check {A = A} t d os s recorded)
  stable_step d os s recorded =
      stable_then stable_message (λ a.
      stable_then stable_without (λ _.
      stable_then stable_message (λ m.
      stable_then stable_without (λ _.
      stable_then (stable_input d os s.lines a) (λ _.
      stable_result m recorded)))))

  pub stable_steps : (d : DigestValue) (os : List OutcomeValue) (ss : List StepValue) (ds : List DigestValue) → IsStable (λ t. steps_check {A = A} t d os ss ds)
  stable_steps d os [] ds = stable_without
  stable_steps d os (s ∷ ss) [] = stable_without
  stable_steps d os (s ∷ ss) (recorded ∷ ds) = stable_then (stable_located (stable_step d os s recorded)) (λ o. stable_steps d (os ++ o ∷ []) ss ds)

-- ---- what was looked at is looked at when more is told

pub record IsSteady (look : Telling → Asked → Type 0) : Type 0 where
  pub still : (old new : Telling) → Grows old.blobs new.blobs → Grows old.results new.results → (a : Asked) → look old a → look new a

pub steady_without : {look : Asked → Type 0} → IsSteady (λ _. look)
steady_without = record { still = λ old new g k a h. h }

pub steady_looks : {E V : Type 0} {first : Telling → Stage E V} {here : Telling → Asked → Type 0} {next : Telling → V → Asked → Type 0} → IsStable first → IsSteady here → ((v : V) → IsSteady (λ t. next t v))
    → IsSteady (λ t. looks (first t) (here t) (next t))
unfolding looks
steady_looks {first = first} {here = here} {next = next} stable steady rest = record { still = by }
  where
    by : (old new : Telling) → Grows old.blobs new.blobs → Grows old.results new.results → (a : Asked) → looks (first old) (here old) (next old) a → looks (first new) (here new) (next new) a
    by old new g k a (inl h) = inl (steady.still old new g k a h)
    by old new g k a (inr h) = inr (h.0, stable.still old new g k h.0 h.1, (rest h.0).still old new g k a h.2)

pub steady_together : (d : DigestValue) (os : Earlier) (ls : List LineValue) → IsSteady (λ t. TogetherLooksAt t.blobs d os ls)
steady_together d os ls = record { still = λ old new g k a h. together_looks_still old.blobs new.blobs d os ls a g h }

pub steady_difference : (act : ActionValue) (made : Tree NodeValue) → IsSteady (λ t. DifferenceLooksAt t.blobs act made)
steady_difference act made = record { still = λ old new g k a h. (h.0, compares_still (first_visits made) g a 64 (root made) act.input h.1) }

steady_outcome : (m : CommandValue) (r : ActionResultValue) → IsSteady (λ t. OutcomeLooksAt t.blobs m r)
steady_outcome m r = record { still = λ old new g k a h. (h.0, h.1, outputs_look_still old.blobs new.blobs m h.0 a g h.2) }

module _ (A : Type 0) where
  pub steady_input : (d : DigestValue) (os : List OutcomeValue) (ls : List LineValue) (act : ActionValue) → IsSteady (λ t. InputLooksAt A t.blobs d os ls act)
  steady_input d os ls act = steady_looks (stable_together {A = A} d os ls) (steady_together d (slice_get os) ls) (λ made. steady_difference act made)

  steady_result : (m : CommandValue) (d : DigestValue) → IsSteady (λ t. ResultLooksAt A t m d)
  steady_result m d = steady_looks (stable_held {A = A}) steady_without (λ r. steady_looks stable_without steady_without (λ _. steady_outcome m r))

  pub steady_step : (d : DigestValue) (os : List OutcomeValue) (s : StepValue) (recorded : DigestValue) → IsSteady (λ t. StepLooksAt A t d os s recorded)
  steady_step d os s recorded =
      steady_looks (stable_message {A = A}) steady_without (λ a.
      steady_looks stable_without steady_without (λ _.
      steady_looks (stable_message {A = A}) steady_without (λ m.
      steady_looks stable_without steady_without (λ _.
      steady_looks (stable_input {A = A} d os s.lines a) (steady_input d os s.lines a) (λ _.
      steady_result m recorded)))))

  pub steady_steps : (d : DigestValue) (os : List OutcomeValue) (ss : List StepValue) (ds : List DigestValue) → IsSteady (λ t. StepsLookAt A t d os ss ds)
  steady_steps d os [] ds = steady_without
  steady_steps d os (s ∷ ss) [] = steady_without
  steady_steps d os (s ∷ ss) (recorded ∷ ds) = steady_looks (stable_step {A = A} d os s recorded) (steady_step d os s recorded) (λ o. steady_steps d (os ++ o ∷ []) ss ds)

-- what is looked at, said of the same by another name
pub looked_blob : {d e : DigestValue} {refused : Type 0} {k0 k1 : Known} {t0 t1 : Telling} → d ≡ e → Learns (LooksAtBlob d) refused k0 k1 t0 t1 → Learns (LooksAtBlob e) refused k0 k1 t0 t1
looked_blob same h = learns_more (λ a k. subst (λ x. LooksAtBlob x a) same k) (λ n. n) h

pub stopped_exit : {A E : Type 0} (r : Result (Checked A) E) (P : E → Type 0) → IsErrAnd r P → IsStopped r
stopped_exit (Ok x) P exit = elim exit [ ]
stopped_exit (Err e) P exit = tt

-- what the check of the input did, said of the same lines by another name
pub input_checked : {A : Type 0} (d : DigestValue) (os : List OutcomeValue) (a : ActionValue) {ls ls' : List LineValue} {k0 k1 : Known} {t0 t1 : Telling} {r : Result (Unit {0}) (Fault A)} → ls ≡ ls'
    → Checks (λ t. input_check t.blobs d os ls a) (λ t. InputLooksAt A t.blobs d os ls a) k0 k1 t0 t1 r → Checks (λ t. input_check t.blobs d os ls' a) (λ t. InputLooksAt A t.blobs d os ls' a) k0 k1 t0 t1 r
input_checked {A} d os a {k0 = k0} {k1 = k1} {t0 = t0} {t1 = t1} {r = r} same h = subst (λ ls. Checks (λ t. input_check {A = A} t.blobs d os ls a) (λ t. InputLooksAt A t.blobs d os ls a) k0 k1 t0 t1 r) same h

-- ---- answers

module _ {A V : Type 0} where
  -- a check that asks no source
  pub checks_none : (stage : Telling → Stage (Cause A) V) {look : Telling → Asked → Type 0} {known : Known} (t : Telling) (r : Result V (Fault A)) → IsKnownOf known t → Answers (stage t) r → (IsErrOf r faults.Fetch → ⊥)
      → Checks stage look known known t t r
  checks_none stage t r is h none = record { checked = h; called = called_none none; learned = learns_none is }

  pub checks_both : (stage : Telling → Stage (Cause A) V) {look : Telling → Asked → Type 0} {known later : Known} (old new : Telling) (r : Result V (Fault A)) → Answers (stage new) r → Called old new (IsErrOf r faults.Fetch)
      → Learns (look new) (WasRefused r) known later old new → Checks stage look known later old new r
  checks_both stage old new r h k l = record { checked = h; called = k; learned = l }

module _ {A V W : Type 0} where
  -- the first check passed
  pub checks_then : {first : Telling → Stage (Cause A) V} (next : Telling → V → Stage (Cause A) W) {here : Telling → Asked → Type 0} (further : Telling → V → Asked → Type 0) {k0 k1 k2 : Known} {old mid new : Telling} {v : V}
      {r : Result W (Fault A)} → IsStable first → IsSteady here → Checks first here k0 k1 old mid (Ok v) → Checks (λ t. next t v) (λ t. further t v) k1 k2 mid new r
      → Checks (λ t. first t and_then next t) (λ t. looks (first t) (here t) (further t)) k0 k2 old new r
  checks_then {first} next {here = here} further {old = old} {mid = mid} {new = new} {v = v} {r = r} stable steady h k =
      let blobs = k.called.asked.blobs in
      let results = k.called.asked.results in
      let passes = stable.still mid new blobs results v h.checked in
      record {
        checked = then_answers (first new) (next new) v r passes k.checked;
        called = called_ok h.called k.called;
        learned = learns_then {t1 = mid} (λ a at. looks_here (first new) (here new) (further new) a (steady.still mid new blobs results a at)) (λ a at. looks_next (first new) (here new) (further new) a v passes at) (λ n. n) h.learned k.learned;
      }

  -- the first check failed, and a `?` hands its answer out
  pub checks_exit : {T : Type 0} (first : Telling → Stage (Cause A) V) (next : Telling → V → Stage (Cause A) W) (here : Telling → Asked → Type 0) (further : Telling → V → Asked → Type 0) {k0 k1 : Known} {old new : Telling} {f : Fault A}
      {r : Result W (Fault A)} {refused : Type 0} → IsErrAnd r (λ e. e ≡ f) → ExplainsFault (first new).fails f → Called old new (IsErrOf {T = T} (Err f) faults.Fetch) → Learns (here new) refused k0 k1 old new
      → Checks (λ t. first t and_then next t) (λ t. looks (first t) (here t) (further t)) k0 k1 old new r
  checks_exit first next here further {old = old} {new = new} {f = f} {r = r} exit h k l = record {
    checked = fails_here (first new) (next new) f r exit h;
    called = called_exit exit k;
    learned = learns_refused (λ a at. looks_here (first new) (here new) (further new) a at) (refused_exit r (λ e. e ≡ f) exit) l;
  }

  -- the first check failed
  pub checks_fails : {T : Type 0} (first : Telling → Stage (Cause A) V) (next : Telling → V → Stage (Cause A) W) (here : Telling → Asked → Type 0) (further : Telling → V → Asked → Type 0) {k0 k1 : Known} {old new : Telling} {f : Fault A}
      {refused : Type 0} → ExplainsFault (first new).fails f → Called old new (IsErrOf {T = T} (Err f) faults.Fetch) → Learns (here new) refused k0 k1 old new
      → Checks (λ t. first t and_then next t) (λ t. looks (first t) (here t) (further t)) k0 k1 old new (Err f)
  checks_fails {T = T} first next here further {old = old} {new = new} {f = f} h k l = checks_exit {T = T} first next here further {old = old} {new = new} {f = f} {r = Err f} refl h k l

module _ {A V U W : Type 0} where
  -- a check of the source passed, and after it one that asks no source
  pub checks_then_here : {first : Telling → Stage (Cause A) V} (check : V → Stage (Cause A) U) (next : Telling → V → U → Stage (Cause A) W) {here : Telling → Asked → Type 0} (further : Telling → V → U → Asked → Type 0) {k0 k1 k2 : Known}
      {old mid new : Telling} {v : V} {u : U} {r : Result W (Fault A)} → IsStable first → IsSteady here → Checks first here k0 k1 old mid (Ok v) → (check v).passes u → Checks (λ t. next t v u) (λ t. further t v u) k1 k2 mid new r
      → Checks (λ t. first t and_then λ v. check v and_then next t v) (λ t. looks (first t) (here t) (λ v. looks (check v) LooksAtNothing (further t v))) k0 k2 old new r
  checks_then_here check next further stable steady h passes k =
      checks_then _ _ stable steady h (checks_then _ _ stable_without steady_without (checks_none _ _ _ h.learned.known passes ok_no_error) k)

  -- after it one failed that asks no source
  pub checks_here_exit : {T : Type 0} {first : Telling → Stage (Cause A) V} (check : V → Stage (Cause A) U) (next : Telling → V → U → Stage (Cause A) W) {here : Telling → Asked → Type 0} (further : Telling → V → U → Asked → Type 0) {k0 k1 : Known}
      {old mid : Telling} {v : V} {f : Fault A} {r : Result W (Fault A)} → IsStable first → IsSteady here → Checks first here k0 k1 old mid (Ok v) → IsErrAnd r (λ e. e ≡ f) → ExplainsFault (check v).fails f → (IsErrOf {T = T} (Err f) faults.Fetch → ⊥)
      → Checks (λ t. first t and_then λ v. check v and_then next t v) (λ t. looks (first t) (here t) (λ v. looks (check v) LooksAtNothing (further t v))) k0 k1 old mid r
  checks_here_exit check next further stable steady h exit fails none =
      checks_then _ _ stable steady h (checks_exit _ _ _ _ exit fails (called_none none) (learns_none {refused = Unit {0}} h.learned.known))
