-- What the start of a job leaves.
use Rattle.std.proofs.Common.{◌≡◌, ℕ, suc, refl, ap, sym, ◌∙◌, subst, Some}
use Rattle.std.specs.Prelude.{slice_get}
use Rattle.blob_source.specs.Source.{Blobs}
use Rattle.blob_source.specs.Sink.{KeepsRight}
use Rattle.runs.specs.Engine.{JobValue, EngineValue, job_in}
use Rattle.runs.specs.Calls.{IsStarted, IsLeastFree, with_job}
use Rattle.runs.specs.declared.starting.Job.{Job}
use Rattle.worker.specs.Calls.{running, WasStarted}
use Rattle.worker.specs.Going.{IsJobIn, kept_job}
use Rattle.worker.proofs.Jobs.{least_within, placed_same, running_placed}

module _ {A : Type 0} {B : Blobs} {i id : ℕ} {old mid : EngineValue} (w : WasStarted A B i id old mid) where
  abbrev pub job_of : JobValue
  job_of = record { step = i; action = w.job.digest; input = w.job.action.input }

  pub after : mid ≡ with_job id job_of old
  after = w.is.after ∙ ap (λ n. with_job n job_of old) w.number

  pub least : IsLeastFree old id
  least = subst (λ n. IsLeastFree old n) w.number w.is.least

  pub job_is : job_in id mid ≡ Some job_of
  job_is = subst (λ (e : EngineValue). job_in id e ≡ Some job_of) (sym after) (placed_same old.jobs id job_of (least_within old.jobs id least))

  pub one_more : running mid.jobs ≡ suc (running old.jobs)
  one_more = subst (λ (e : EngineValue). running e.jobs ≡ suc (running old.jobs)) (sym after) (running_placed old.jobs id job_of (least_within old.jobs id least) least.free)

module _ {A : Type 0} {B : Blobs} {i : ℕ} {old mid : EngineValue} {job : Job A} (s : IsStarted B i old mid job) where
  unfoldable pub was_started : (C : Blobs) → KeepsRight B C → WasStarted A C i job.id old mid
  was_started C keeps = record { told = B; still = keeps; job = job; number = refl; is = s }

  pub started_value : job_in job.id mid ≡ Some (kept_job job)
  unfolding was_started
  started_value = subst (λ n. job_in job.id mid ≡ Some (record { step = n; action = job.digest; input = job.action.input })) (sym s.prepared.of_step) (job_is (was_started B (λ e b at right. at)))

  pub started_in : IsJobIn mid job
  started_in = record {
    there = started_value;
    command = subst (λ n. slice_get mid.commands n ≡ Some job.command) (sym s.prepared.of_step)
        (ap (λ (e : EngineValue). slice_get e.commands i) s.after ∙ s.prepared.command);
    frame = subst (λ n. slice_get mid.frames n ≡ Some job.action.frame) (sym s.prepared.of_step)
        (ap (λ (e : EngineValue). slice_get e.frames i) s.after ∙ s.prepared.frame);
    digest = s.prepared.digest;
  }
