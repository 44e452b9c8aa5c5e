-- Each step has one action throughout a run.
use Rattle.std.proofs.Common.{◌≡◌, ℕ, List, [], ◌∷◌, Option, Some, None, refl, sym, subst}
use Rattle.std.specs.Prelude.{◌==◌}
use Rattle.std.specs.Map.{remove_entry}
use Rattle.plan.specs.Values.{PlanValue}
use Rattle.tree.specs.Tree.{Tree, Leaf}
use Rattle.verifier.specs.Build.{Meaning, ActionMeaning, Outcome, Event, start, finish, lose, State, opening, job_of, action_of, started, finished, lost, happens, IsTable, Obeys, IsRun}
use Rattle.runs.specs.OneAction.{StepsHaveOneAction}
use Rattle.runs.proofs.Steady.{Extends, action_still, Steady, keeps_event, finish_extends, run_steady}

module _ (X : List (ActionMeaning × Outcome)) (plan : PlanValue) (meaning : Meaning) (t : Tree Leaf) (table : IsTable X) where
  -- all bytes, since nothing is asked of blobs
  abbrev Every : List ℕ → Type 0
  Every b = Unit {0}

  abbrev Stands : State → Type 0
  Stands s = Steady plan meaning t X table Every s

  event_extends : (s mid : State) (e : Event) → Stands s → Obeys X s e → happens plan meaning t s e ≡ Some mid → Extends s mid
  event_extends s mid (start i w) steady obeys is = by (job_of w s) (action_of plan meaning t s i) is
    where
      by : (q : Option (ℕ × ActionMeaning)) (o : Option ActionMeaning) → started s i w q o ≡ Some mid → Extends s mid
      by (Some job) o e = absurd cc
      by None None e = absurd cc
      by None (Some a) e =
          let same : ◌≡◌ {A = State} (record s { jobs = (w, (i, a)) ∷ s.jobs }) mid = cc in
          subst (Extends s) same (λ j o h. h)
  event_extends s mid (finish w o) steady obeys is = by (job_of w s) refl is
    where
      by : (q : Option (ℕ × ActionMeaning)) → job_of w s ≡ q → finished s w o q ≡ Some mid → Extends s mid
      by None at e = absurd cc
      by (Some job) at e =
          let same : ◌≡◌ {A = State} (record { done = (job.0, o) ∷ s.done; jobs = remove_entry (λ k. k == w) s.jobs }) mid = cc in
          subst (Extends s) same (finish_extends plan meaning t X table Every s steady w job o at (obeys job at))
  event_extends s mid (lose w) steady obeys is = by (job_of w s) is
    where
      by : (q : Option (ℕ × ActionMeaning)) → lost s w q ≡ Some mid → Extends s mid
      by None e = absurd cc
      by (Some job) e =
          let same : ◌≡◌ {A = State} (record s { jobs = remove_entry (λ k. k == w) s.jobs }) mid = cc in
          subst (Extends s) same (λ j o h. h)

  run_extends : (s end : State) (es : List Event) → Stands s → IsRun X plan meaning t s es end → Extends s end
  run_extends s end [] steady r = subst (Extends s) (sym r) (λ j o h. h)
  run_extends s end (e ∷ es) steady r =
      let first = event_extends s r.1 e steady r.0 r.2 in
      let rest = run_extends r.1 end es (keeps_event plan meaning t X table Every s r.1 e steady r.0 (λ b h. tt) (λ w o is b h. tt) r.2) r.3 in
      λ j o h. rest j o (first j o h)

  stands_after : (es : List Event) (s : State) → IsRun X plan meaning t opening es s → Stands s
  stands_after es s r = run_steady plan meaning t X table Every s es (λ b h. tt) (λ b h. tt) r

  pub one_action : StepsHaveOneAction X plan meaning t
  one_action = record {
    after = λ es s r. let steady = stands_after es s r in record {
      jobs = λ w job is. (steady.jobs w job is).0;
      outcomes = λ i o is. let settled = steady.done i o is in (settled.action, settled.is, settled.in_table);
    };
    actions_stay = λ es later s end r k i a is. action_still plan meaning t s end (run_extends s end later (stands_after es s r) k) i a is;
    outcomes_stay = λ es later s end r k i o is. run_extends s end later (stands_after es s r) k i o is;
  }
