-- The blobs of the meaning of the build of two steps, and of what its runs publish.
use Rattle.std.proofs.Common.{◌≡◌, ℕ, zero, suc, List, [], ◌∷◌, Option, Some, None, refl, ap, sym, ◌∙◌, subst, arith, inl, inr}
use Rattle.std.specs.Prelude.{Contains}
use Rattle.action_messages.specs.Command.{command_bytes}
use Rattle.action_messages.specs.Frame.{frame_bytes}
use Rattle.verifier.specs.Build.{ActionMeaning, Outcome, Event, finish, State, job_of, happens, finished, Obeys, IsRun}
use Rattle.verifier.specs.Headline.{IsBlobOfOutcome}
use Rattle.verifier.specs.TwoSteps as two
use Rattle.verifier.proofs.TwoStepsBlobs.{all_blobs, same_blob, made_by_gen, made_by_uses}
use Rattle.runs.specs.Mirrors.{IsBlobOfMeaning, IsBlobOfEnds}

pub of_meaning : (b : List ℕ) → IsBlobOfMeaning two.meaning b → Contains all_blobs b
of_meaning b (inl (f, (zero, lt, at), is)) = same_blob (frame_bytes two.gen.0.frame) b (5, omega arith, refl) (is ∙ ap frame_bytes (sym at))
of_meaning b (inl (f, (suc zero, lt, at), is)) = same_blob (frame_bytes two.uses.0.frame) b (6, omega arith, refl) (is ∙ ap frame_bytes (sym at))
of_meaning b (inl (f, (suc (suc k), lt, at), is)) = absurd (omega (arith, lt))
of_meaning b (inr (c, (zero, lt, at), is)) = same_blob (command_bytes two.gen.0.command) b (2, omega arith, refl) (is ∙ ap command_bytes (sym at))
of_meaning b (inr (c, (suc zero, lt, at), is)) = same_blob (command_bytes two.uses.0.command) b (3, omega arith, refl) (is ∙ ap command_bytes (sym at))
of_meaning b (inr (c, (suc (suc k), lt, at), is)) = absurd (omega (arith, lt))

-- ---- the outcomes that are published

of_outcome : (a : ActionMeaning) (o : Outcome) (b : List ℕ) → Contains two.table (a, o) → IsBlobOfOutcome o b → Contains all_blobs b
of_outcome a o b (zero, lt, e) h = made_by_gen b (subst (λ (o : Outcome). IsBlobOfOutcome o b) (sym (ap (λ (z : ActionMeaning × Outcome). z.1) e)) h)
of_outcome a o b (suc zero, lt, e) h = made_by_uses b (subst (λ (o : Outcome). IsBlobOfOutcome o b) (sym (ap (λ (z : ActionMeaning × Outcome). z.1) e)) h)
of_outcome a o b (suc (suc k), lt, e) h = absurd (omega (arith, lt))

of_finish : (b : List ℕ) (s mid : State) (w : ℕ) (o : Outcome) → Obeys two.table s (finish w o) → happens two.plan two.meaning two.tree s (finish w o) ≡ Some mid → IsBlobOfOutcome o b → Contains all_blobs b
of_finish b s mid w o obeys is h = by (job_of w s) refl is
  where
    by : (q : Option (ℕ × ActionMeaning)) → job_of w s ≡ q → finished s w o q ≡ Some mid → Contains all_blobs b
    by None none is = absurd cc
    by (Some job) at is = of_outcome job.1 o b (obeys job at) h

pub of_ends : (b : List ℕ) (s : State) (es : List Event) (end : State) → IsRun two.table two.plan two.meaning two.tree s es end → IsBlobOfEnds es b → Contains all_blobs b
of_ends b s [] end run (w, o, (k, lt, at), h) = absurd (omega (arith, lt))
of_ends b s (e ∷ es) end (obeys, mid, is, rest) (w, o, (zero, lt, at), h) =
    of_finish b s mid w o (subst (Obeys two.table s) at obeys) (ap (happens two.plan two.meaning two.tree s) (sym at) ∙ is) h
of_ends b s (e ∷ es) end (obeys, mid, is, rest) (w, o, (suc k, lt, at), h) = of_ends b mid es end rest (w, o, (k, omega (arith, lt), at), h)
