-- The check of a step has one answer, and passes exactly where the step is as recorded.
use Rattle.std.proofs.Common.{◌≡◌, List, [], ap, sym, ◌∙◌, subst, inl, inr, refl}
use Rattle.std.specs.Prelude.{ℕ, slice_get}
use Rattle.blob_digest.specs.Digest.{DigestValue}
use Rattle.action_messages.specs.Action.{ActionValue, IsAction, action_bytes}
use Rattle.action_messages.specs.ActionResult.{ActionResultValue}
use Rattle.action_messages.specs.Command.{CommandValue, IsCommand, command_bytes}
use Rattle.actions.specs.Outcome.{OutcomeValue}
use Rattle.action_messages.specs.Reads.{Reads}
use Rattle.actions.specs.Recorded.{StandForAll}
use Rattle.actions.proofs.EncodedOnce.{action_bytes_injective, command_bytes_injective}
use Rattle.actions.proofs.Once.{outputs_once, recorded_once}
use Rattle.action_messages.proofs.ReadOnce.{reads_once}
use Rattle.plan.specs.Values.{LineValue, StepValue}
use Rattle.tree.specs.Tree.{Tree}
use Rattle.tree.specs.Form.{NodeValue, root}
use Rattle.tree.specs.Folded.{first_visits}
use Rattle.tree.specs.Merging.{MergeLines, merged}
use Rattle.tree.specs.Stage.{◌and_then◌}
use Rattle.blob_source.specs.Source.{Blobs, Telling}
use Rattle.tree.proofs.DifferenceOnce.{finds_first_once}
use Rattle.tree.proofs.LookupOnce.{told_or_fault, fault_once}
use Rattle.tree.proofs.MergeStages.{once_merged_in}
use Rattle.tree.proofs.StageLaws.{IsOnce, once_then, once_demands}
use Rattle.verifier.specs.declared.verdict.Cause.{Cause}
use Rattle.verifier.specs.AsRecorded.{IsAsRecorded}
use Rattle.verifier.specs.Faults.{cause_of_fault, cause_of_lines}
use Rattle.verifier.specs.StepChecks.{difference_cause, OutputFault, message, together, same_input, input_check, result_held, read, result_check, step_check}
use Rattle.verifier.specs.Verdict.{root_check}
use Rattle.verifier.proofs.StepsOnce.{IsSpelledOnce, told_once, output_fault_is_one, fault_or_all, bytes_are, none_some}
use Rattle.verifier.specs.Together.{Earlier, of_merge, resolved, put_together}
use Rattle.verifier.proofs.StageLaws.{once_named}
use Rattle.verifier.proofs.VerdictOnceLines.{AreValid, AreValidIn, valid_there, resolves_once, first_once, first_resolves}

-- ---- each check of a step

pub once_resolved : (B : Blobs) (sources : DigestValue) (os : Earlier) (lines : List LineValue) → AreValidIn os → IsOnce (resolved B sources os lines)
once_resolved B sources os lines valid = record {
  value = resolves_once B sources os valid lines;
  why = first_once B sources os valid lines;
  either = λ xs c p q. first_resolves B sources os valid lines c xs q p;
}

once_merged : (B : Blobs) (xs : MergeLines) → IsOnce (merged B xs)
unfolding merged
once_merged B xs = once_merged_in B 64 [] xs

once_put_together : (B : Blobs) (sources : DigestValue) (os : Earlier) (lines : List LineValue) → AreValidIn os → IsOnce (put_together B sources os lines)
once_put_together B sources os lines valid = once_then _ _ (once_resolved B sources os lines valid) (λ xs _. once_named of_merge _ (once_merged B xs))

module _ {A : Type 0} where
  pub once_message : {M : Type 0} (keeps : M → Type 0) (spells : M → List ℕ) → IsSpelledOnce keeps spells → (B : Blobs) (d : DigestValue) → IsOnce (message {A = A} keeps spells B d)
  once_message keeps spells one B d = record {
    value = told_once keeps spells one B d;
    why = λ c e p q. p.2 ∙ ap cause_of_fault (fault_once keeps spells B d p.0 q.0 p.1 q.1) ∙ sym q.2;
    either = λ m c p q. told_or_fault keeps spells B d m q.0 p q.1;
  }

  pub once_together : (B : Blobs) (sources : DigestValue) (outcomes : List OutcomeValue) (lines : List LineValue) → AreValid outcomes → IsOnce (together {A = A} B sources outcomes lines)
  once_together B sources outcomes lines valid = once_named cause_of_lines _ (once_put_together B sources (slice_get outcomes) lines (valid_there outcomes valid))

  once_same_input : (B : Blobs) (a : ActionValue) (t : Tree NodeValue) → IsOnce (same_input {A = A} B a t)
  once_same_input B a t = record {
    value = λ v w p q. refl;
    why = λ c e p q. p.3 ∙ ap difference_cause (finds_first_once (first_visits t) B (root t) a.input p.1 q.1 p.2 q.2) ∙ sym q.3;
    either = λ v c p q. q.0 p;
  }

  held_cause : (C : Blobs) (d : DigestValue) (c e : Cause A) → (result_held {A = A} C d).fails c → (result_held {A = A} C d).fails e → c ≡ e
  held_cause C d c e (inl p) (inl q) = p.1 ∙ sym q.1
  held_cause C d c e (inl p) (inr q) = absurd (none_some q.0 (sym p.0 ∙ q.1))
  held_cause C d c e (inr p) (inl q) = absurd (none_some p.0 (sym q.0 ∙ p.1))
  held_cause C d c e (inr p) (inr q) = p.3 ∙ sym q.3

  held_either : (C : Blobs) (d : DigestValue) (r : ActionResultValue) (c : Cause A) → (result_held {A = A} C d).passes r → (result_held {A = A} C d).fails c → ⊥
  held_either C d r c p (inl q) = none_some p.0 (sym q.0 ∙ p.1)
  held_either C d r c p (inr q) = q.2 r (subst (Reads r) (bytes_are p.0 q.0 (sym p.1 ∙ q.1)) p.2)

  pub once_held : (C : Blobs) (d : DigestValue) → IsOnce (result_held {A = A} C d)
  once_held C d = record {
    value = λ r s p q. reads_once r s q.0 (subst (Reads r) (bytes_are p.0 q.0 (sym p.1 ∙ q.1)) p.2) q.2;
    why = held_cause C d;
    either = held_either C d;
  }

  once_read : (B : Blobs) (m : CommandValue) (r : ActionResultValue) → IsOnce (read {A = A} B m r)
  once_read B m r = record {
    value = λ o p h k. recorded_once B r o p h.0 k.0;
    why = λ c e p q. output_fault_is_one B m p.0 c e p.2 (subst (λ xs. OutputFault B m xs e) (outputs_once r q.0 p.0 q.1 p.1) q.2);
    either = λ o c p q. fault_or_all B m q.0 o.outputs c q.2 (subst (λ xs. StandForAll B xs o.outputs) (outputs_once r p.0.recorded q.0 p.0.ordered q.1) p.0.outputs) p.1;
  }

  once_input : (B : Blobs) (sources : DigestValue) (outcomes : List OutcomeValue) (lines : List LineValue) (a : ActionValue) → AreValid outcomes → IsOnce (input_check {A = A} B sources outcomes lines a)
  once_input B sources outcomes lines a valid = once_then _ _ (once_together B sources outcomes lines valid) (λ made _. once_same_input B a made)

  once_result : (t : Telling) (m : CommandValue) (d : DigestValue) → IsOnce (result_check {A = A} t m d)
  once_result t m d = once_then _ _ (once_held t.results d) (λ r _. once_then _ _ (once_demands _ _) (λ _ _. once_read t.blobs m r))

  -- ---- and all of them

  pub once_step : (t : Telling) (sources : DigestValue) (outcomes : List OutcomeValue) (s : StepValue) (d : DigestValue) → AreValid outcomes → IsOnce (step_check {A = A} t sources outcomes s d)
  once_step t sources outcomes s d valid =
      once_then _ _ (once_message IsAction action_bytes action_bytes_injective t.blobs d) (λ a _.
      once_then _ _ (once_demands _ _) (λ _ _.
      once_then _ _ (once_message IsCommand command_bytes command_bytes_injective t.blobs a.frame.command) (λ m _.
      once_then _ _ (once_demands _ _) (λ _ _.
      once_then _ _ (once_input t.blobs sources outcomes s.lines a valid) (λ _ _.
      once_result t m d)))))

  pub once_root : (t : Telling) (sources : DigestValue) (outcomes : List OutcomeValue) (lines : List LineValue) (claim : DigestValue) → AreValid outcomes → IsOnce (root_check {A = A} t sources outcomes lines claim)
  once_root t sources outcomes lines claim valid = once_then _ _ (once_together t.blobs sources outcomes lines valid) (λ made _. once_demands _ _)

-- ---- a step passes exactly where it is as recorded

module _ (A : Type 0) (t : Telling) (sources : DigestValue) (before : List OutcomeValue) (s : StepValue) (d : DigestValue) (o : OutcomeValue) where
  pub recorded_from : (step_check {A = A} t sources before s d).passes o → IsAsRecorded t.blobs t.results sources before s d o
  unfolding ◌and_then◌
  recorded_from (action, action_told, (_, cached, (command, command_told, (_, frame, (_, (made, (nodes, origins, merges), input), (result, kept, (_, exit_code, (recorded, listed)))))))) = record {
    action = action;
    command = command;
    nodes = nodes;
    tree = made;
    result = result;
    action_told = action_told;
    may_be_cached = cached;
    frame = frame;
    command_told = command_told;
    resolved = origins;
    put_together = merges;
    input = input;
    held = kept;
    exit_code = exit_code;
    recorded = recorded;
    listed = listed;
  }

  pub from_recorded : IsAsRecorded t.blobs t.results sources before s d o → (step_check {A = A} t sources before s d).passes o
  unfolding ◌and_then◌
  from_recorded h =
      (h.action, h.action_told, (tt, h.may_be_cached, (h.command, h.command_told, (tt, h.frame, (tt, (h.tree, (h.nodes, h.resolved, h.put_together), h.input), (h.result, h.held, (tt, h.exit_code, (h.recorded, h.listed))))))))
