-- What an engine knows of the steps that have finished, and the states that it mirrors.
use Rattle.std.proofs.Common.{◌≡◌, ◌↔◌, ℕ, zero, suc, ◌<◌, Bool, true, false, List, [], ◌∷◌, length, Option, Some, None, refl, ap, sym, ◌∙◌, subst, arith, IsTrue, IsSome}
use Rattle.std.specs.Prelude.{slice_get, option_map, is_some}
use Rattle.std.specs.List.{AllByRecursion}
use Rattle.std.proofs.lemmas.Option.{slice_get_within}
use Rattle.blob_digest.specs.Digest.{DigestValue}
use Rattle.plan.specs.Record.{RecordValue}
use Rattle.plan.specs.Values.{OriginValue, source, output, LineValue, StepValue}
use Rattle.tree.specs.Tree.{Tree, Leaf}
use Rattle.verifier.specs.Build.{Meaning, ActionMeaning, action_digest, Outcome, State, outcome_of, action_of, HasFinishedAll}
use Rattle.verifier.specs.Headline.{HasFinished}
use Rattle.verifier.proofs.FreshRuns.{one_answer}
use Rattle.runs.specs.Engine.{FinishedValue, EngineValue, IsEngine, at_number, finished_in}
use Rattle.runs.specs.Calls.{kept_digests, IsReady}
use Rattle.verifier.specs.Together.{IsThere, AreThere}
use Rattle.runs.specs.Looking.{outcomes_in}
use Rattle.runs.specs.Mirrors.{IsFormOf, IsFinishedAs, Mirrors}
use Rattle.runs.specs.Ties.{TellsFinished, TellsReady, IsRecordOf}
use Rattle.runs.proofs.Places.{has_one, some_none, outcome_is, finished_of}

-- ---- finished in both

finished_out : (a : Option FinishedValue) (b : Option Outcome) (f : FinishedValue) → IsFinishedAs a b → a ≡ Some f → (o : Outcome) × (b ≡ Some o) × IsFormOf f.outcome o
finished_out None b f h is = cc
finished_out (Some g) None f h is = elim h [ ]
finished_out (Some g) (Some o) f h is = let same : g ≡ f = cc in (o, refl, subst (λ (g : FinishedValue). IsFormOf g.outcome o) same h)

finished_back : (a : Option FinishedValue) (b : Option Outcome) (o : Outcome) → IsFinishedAs a b → b ≡ Some o → (f : FinishedValue) × (a ≡ Some f) × IsFormOf f.outcome o
finished_back a None o h is = cc
finished_back None (Some p) o h is = elim h [ ]
finished_back (Some f) (Some p) o h is = let same : p ≡ o = cc in (f, refl, subst (λ p. IsFormOf f.outcome p) same h)

module _ (e : EngineValue) (t : Tree Leaf) (meaning : Meaning) (s : State) (m : Mirrors e t meaning s) where
  pub outcome_there : (i : ℕ) (f : FinishedValue) → finished_in i e ≡ Some f → (o : Outcome) × (outcome_of i s ≡ Some o) × IsFormOf f.outcome o
  outcome_there i f is = finished_out (finished_in i e) (outcome_of i s) f (m.finished i) is

  pub outcome_back : (i : ℕ) (o : Outcome) → outcome_of i s ≡ Some o → (f : FinishedValue) × (finished_in i e ≡ Some f) × IsFormOf f.outcome o
  outcome_back i o is = finished_back (finished_in i e) (outcome_of i s) o (m.finished i) is

  -- the steps that lines read
  origin_there : (o : OriginValue) → IsThere (outcomes_in e.finished) o ↔ HasFinished s o
  origin_there (source p) = (λ h. h, λ h. h)
  origin_there (output j p) = (
    λ h. let f = finished_of e.finished j h.0 h.1 in let o = outcome_there j f.0 f.1 in (o.0, o.1),
    λ h. let f = outcome_back j h.0 h.1 in (f.0.outcome, outcome_is e.finished j f.0 f.1),
  )

  pub lines_there : (ls : List LineValue) → AreThere (outcomes_in e.finished) ls ↔ AllByRecursion (λ (l : LineValue). HasFinished s l.origin) ls
  lines_there [] = (λ h. h, λ h. h)
  lines_there (l ∷ ls) = (λ h. ((origin_there l.origin).0 h.0, (lines_there ls).0 h.1), λ h. ((origin_there l.origin).1 h.0, (lines_there ls).1 h.1))

pub tells_finished : (e : EngineValue) (i : ℕ) (b : Bool) → IsTrue b ↔ IsSome (finished_in i e) → TellsFinished e i b
tells_finished e i b h = record {
  of_state = λ t meaning s m. (
    λ is. let f = there (finished_in i e) (h.0 is) in let o = outcome_there e t meaning s m i f.0 f.1 in (o.0, o.1),
    λ o. let f = outcome_back e t meaning s m i o.0 o.1 in h.1 (back (finished_in i e) f.0 f.1),
  );
}
  where
    there : (o : Option FinishedValue) → IsSome o → (f : FinishedValue) × (o ≡ Some f)
    there None h = cc
    there (Some f) h = (f, refl)

    back : (o : Option FinishedValue) (f : FinishedValue) → o ≡ Some f → IsSome o
    back o f is = ap is_some is

pub tells_ready : (e : EngineValue) (i : ℕ) (b : Bool) → IsTrue b ↔ IsReady e i → TellsReady e i b
tells_ready e i b h = record {
  of_state = λ t meaning s m step at. let both = lines_there e t meaning s m step.lines in (
    λ is. both.0 (h.0 is step at),
    λ all. h.1 (λ other there. subst (λ (p : StepValue). AreThere (outcomes_in e.finished) p.lines) (one_answer (slice_get e.plan.steps i) step other at there) (both.1 all)),
  );
}

-- ---- the digests that are kept

pub kept_count : (fs : List (Option FinishedValue)) (ds : List DigestValue) → kept_digests fs ≡ Some ds → length ds ≡ length fs
kept_count [] ds h = let none : [] ≡ ds = cc in sym (ap length none)
kept_count (None ∷ fs) ds h = cc
kept_count (Some f ∷ fs) ds h = by (kept_digests fs) h (kept_count fs)
  where
    by : (o : Option (List DigestValue)) → option_map (λ ds. f.action ∷ ds) o ≡ Some ds → ((es : List DigestValue) → o ≡ Some es → length es ≡ length fs) → length ds ≡ length (Some f ∷ fs)
    by None h rest = cc
    by (Some es) h rest = let same : f.action ∷ es ≡ ds = cc in sym (ap length same) ∙ ap suc (rest es refl)

pub kept_each : (fs : List (Option FinishedValue)) (ds : List DigestValue) (i : ℕ) → kept_digests fs ≡ Some ds → i < length fs → (f : FinishedValue) × (at_number fs i ≡ Some f) × (slice_get ds i ≡ Some f.action)
kept_each [] ds i h lt = absurd (omega arith)
kept_each (None ∷ fs) ds i h lt = cc
kept_each (Some f ∷ fs) ds i h lt = by (kept_digests fs) i lt h (kept_each fs)
  where
    by : (o : Option (List DigestValue)) (i : ℕ) → i < length (Some f ∷ fs) → option_map (λ ds. f.action ∷ ds) o ≡ Some ds → ((es : List DigestValue) (i : ℕ) → o ≡ Some es → i < length fs → (f : FinishedValue) × (at_number fs i ≡ Some f) × (slice_get es i ≡ Some f.action))
        → (g : FinishedValue) × (at_number (Some f ∷ fs) i ≡ Some g) × (slice_get ds i ≡ Some g.action)
    by None i lt h rest = cc
    by (Some es) zero lt h rest = let same : f.action ∷ es ≡ ds = cc in (f, refl, sym (ap (λ ds. slice_get ds 0) same))
    by (Some es) (suc i) lt h rest = let same : f.action ∷ es ≡ ds = cc in let k = rest es i refl (omega arith) in (k.0, k.1, sym (ap (λ ds. slice_get ds (suc i)) same) ∙ k.2)

kept_all : (fs : List (Option FinishedValue)) → ((i : ℕ) → i < length fs → (f : FinishedValue) × (at_number fs i ≡ Some f)) → (ds : List DigestValue) × (kept_digests fs ≡ Some ds)
kept_all [] h = ([], refl)
kept_all (None ∷ fs) h = let f = h 0 (omega arith) in absurd (some_none None f.0 f.1 refl)
kept_all (Some f ∷ fs) h = let rest = kept_all fs (λ i lt. h (suc i) (omega arith)) in (f.action ∷ rest.0, ap (option_map (λ ds. f.action ∷ ds)) rest.1)

pub record_of : (e : EngineValue) (names : List (List ℕ)) (answer : Option RecordValue) → IsEngine e → answer ≡ option_map {U = RecordValue} (λ ds. record { names = names; digests = ds }) (kept_digests e.finished) → IsRecordOf e answer
record_of e names answer k is = record { complete = λ t meaning s m. whole t meaning s m (kept_digests e.finished) refl is; digests = λ t meaning s m noted at i d get. each t meaning s m noted i d get (kept_digests e.finished) refl (sym is ∙ at) }
  where
    whole : (t : Tree Leaf) (meaning : Meaning) (s : State) → Mirrors e t meaning s → (q : Option (List DigestValue)) → kept_digests e.finished ≡ q → answer ≡ option_map {U = RecordValue} (λ ds. record { names = names; digests = ds }) q → IsSome answer ↔ HasFinishedAll e.plan s
    whole t meaning s m None at is = (
      λ h. absurd (let both : false ≡ true = sym (ap is_some is) ∙ h in cc),
      λ all. let ds = kept_all e.finished (λ i lt. let step = has_one e.plan.steps i (subst (λ n. i < n) k.count lt) in let o = all i step.0 step.1 in let f = outcome_back e t meaning s m i o.0 o.1 in (f.0, f.1)) in absurd (some_none (kept_digests e.finished) ds.0 ds.1 at),
    )
    whole t meaning s m (Some ds) at is = (
      λ h j step here. let f = kept_each e.finished ds j at (subst (λ n. j < n) (sym k.count) (slice_get_within e.plan.steps j step here)) in let o = outcome_there e t meaning s m j f.0 f.1 in (o.0, o.1),
      λ all. ap is_some is,
    )

    each : (t : Tree Leaf) (meaning : Meaning) (s : State) → Mirrors e t meaning s → (noted : RecordValue) (i : ℕ) (d : DigestValue) → slice_get noted.digests i ≡ Some d → (q : Option (List DigestValue)) → kept_digests e.finished ≡ q
        → option_map {U = RecordValue} (λ ds. record { names = names; digests = ds }) q ≡ Some noted → (a : ActionMeaning) × (action_of e.plan meaning t s i ≡ Some a) × (d ≡ action_digest a)
    each t meaning s m noted i d get None at is = cc
    each t meaning s m noted i d get (Some ds) at is =
        let same : ◌≡◌ {A = RecordValue} (record { names = names; digests = ds }) noted = cc in
        let here : slice_get ds i ≡ Some d = ap (λ (r : RecordValue). slice_get r.digests i) same ∙ get in
        let lt : i < length e.finished = subst (λ n. i < n) (kept_count e.finished ds at) (slice_get_within ds i d here) in
        let f = kept_each e.finished ds i at lt in
        let a = m.actions i f.0 f.1 in
        let digest : f.0.action ≡ d = (let both : ◌≡◌ {A = Option DigestValue} (Some f.0.action) (Some d) = sym f.2 ∙ here in cc) in
        (a.0, a.1, sym digest ∙ a.2)
