-- Outcomes of which one outcome with contents has the form have one form; actions with one digest are one.
use Rattle.std.proofs.Common.{◌≡◌, ℕ, List, [], ◌∷◌, refl, ap, sym, ◌∙◌, subst, arith, inl, inr, Less}
use Rattle.std.specs.Prelude.{◌⊎◌, Contains}
use Rattle.blob_digest.specs.Digest.{NoClash}
use Rattle.messages.specs.Order.{bytes_cmp}
use Rattle.action_messages.specs.Command.{command_bytes}
use Rattle.action_messages.specs.Frame.{FrameValue}
use Rattle.action_messages.specs.Action.{ActionValue, with_input, action_bytes}
use Rattle.actions.specs.Outcome.{OutcomeValue, IsOutcome, outputs_form}
use Rattle.actions.proofs.EncodedOnce.{action_bytes_injective, command_bytes_injective}
use Rattle.action_messages.proofs.Searches.{bytes_trans}
use Rattle.tree.specs.Form.{form, top, root}
use Rattle.tree.proofs.SameRoot.{same_root}
use Rattle.tree.proofs.TreeDigests.{IsDigest-digest_of}
use Rattle.verifier.specs.Build.{ActionMeaning, action_digest, IsActionMeaning, Outcome}
use Rattle.verifier.specs.Headline.{IsBlobOfAction}
use Rattle.verifier.specs.Recorded.{HaveOneForm}
use Rattle.verifier.proofs.SameForms.{Row, text, Sorted, never_less, behind_less, front_or, in_front, further, form_sorted}
use Rattle.runs.specs.Mirrors.{IsFormOf}

-- ---- lists in a strict order

not_both : (e f : Row) → bytes_cmp (text e) (text f) ≡ Less → bytes_cmp (text f) (text e) ≡ Less → ⊥
not_both e f h k = never_less e (bytes_trans (text e) (text f) (text e) h k)

pub same_rows : (es fs : List Row) → Sorted es → Sorted fs → ((e : Row) → Contains es e → Contains fs e) → ((e : Row) → Contains fs e → Contains es e) → es ≡ fs
same_rows [] [] s r to from = refl
same_rows [] (f ∷ fs) s r to from = let h = from f (in_front f fs) in absurd (none f h)
  where
    none : (f : Row) → Contains [] f → ⊥
    none f (k, lt, is) = omega (arith, lt)
same_rows (e ∷ es) [] s r to from = let h = to e (in_front e es) in absurd (none e h)
  where
    none : (f : Row) → Contains [] f → ⊥
    none f (k, lt, is) = omega (arith, lt)
same_rows (e ∷ es) (f ∷ fs) s r to from =
    let heads : e ≡ f = first (front_or f fs e (to e (in_front e es))) (front_or e es f (from f (in_front f fs))) in
    let rest = same_rows es fs s.1 r.1 (λ x h. onward heads x h (front_or f fs x (to x (further e es x h)))) (λ x h. backward heads x h (front_or e es x (from x (further f fs x h)))) in
    λ i. heads i ∷ rest i
  where
    first : (f ≡ e) ⊎ Contains fs e → (e ≡ f) ⊎ Contains es f → e ≡ f
    first (inl h) k = sym h
    first (inr h) (inl k) = k
    first (inr h) (inr k) = absurd (not_both e f (behind_less e es f s.0 k) (behind_less f fs e r.0 h))

    onward : e ≡ f → (x : Row) → Contains es x → (f ≡ x) ⊎ Contains fs x → Contains fs x
    onward heads x h (inr k) = k
    onward heads x h (inl k) = absurd (never_less e (subst (λ (y : Row). bytes_cmp (text e) (text y) ≡ Less) (sym (heads ∙ k)) (behind_less e es x s.0 h)))

    backward : e ≡ f → (x : Row) → Contains fs x → (e ≡ x) ⊎ Contains es x → Contains es x
    backward heads x h (inr k) = k
    backward heads x h (inl k) = absurd (never_less f (subst (λ (y : Row). bytes_cmp (text f) (text y) ≡ Less) (sym (sym heads ∙ k)) (behind_less f fs x r.0 h)))

-- ---- forms

pub one_form : (v w : OutcomeValue) (o : Outcome) → IsOutcome v → IsOutcome w → IsFormOf v o → IsFormOf w o → HaveOneForm v w
one_form v w o valid valid' h k = record {
  exit_code = h.exit_code ∙ sym k.exit_code;
  outputs = same_rows (outputs_form v.outputs) (outputs_form w.outputs)
      (form_sorted v valid) (form_sorted w valid')
      (λ e c. (k.outputs e.0 e.1).1 ((h.outputs e.0 e.1).0 c)) (λ e c. (h.outputs e.0 e.1).1 ((k.outputs e.0 e.1).0 c));
}

-- ---- actions

pub same_action : (S : List ℕ → Type 0) → NoClash S → (a b : ActionMeaning) → IsActionMeaning a → IsActionMeaning b → ((x : List ℕ) → IsBlobOfAction a x → S x) → ((x : List ℕ) → IsBlobOfAction b x → S x) → action_digest a ≡ action_digest b → a ≡ b
same_action S apart a b la lb mine yours is =
    let bytes = apart (action_bytes (with_input a.frame (root (form a.input)))) (action_bytes (with_input b.frame (root (form b.input)))) (mine _ (inl (inl refl))) (yours _ (inl (inl refl))) is in
    let told = action_bytes_injective (with_input a.frame (root (form a.input))) (with_input b.frame (root (form b.input))) (record { frame = la.frame; input = IsDigest-digest_of (top (form a.input)) }) (record { frame = lb.frame; input = IsDigest-digest_of (top (form b.input)) }) bytes in
    let frame : a.frame ≡ b.frame = ap (λ (x : ActionValue). x.frame) told in
    let roots : root (form a.input) ≡ root (form b.input) = ap (λ (x : ActionValue). x.input) told in
    let commands = apart (command_bytes a.command) (command_bytes b.command) (mine _ (inr (inl refl))) (yours _ (inr (inl refl))) (sym la.named ∙ ap (λ (f : FrameValue). f.command) frame ∙ lb.named) in
    let command = command_bytes_injective a.command b.command la.command lb.command commands in
    let input = same_root S apart a.input b.input la.input lb.input (λ x q. mine x (inr (inr q))) (λ x q. yours x (inr (inr q))) roots in
    λ i. record { frame = frame i; command = command i; input = input i }
