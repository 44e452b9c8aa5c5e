-- Jobs in a workshop, and what may come of them.
use Rattle.std.specs.Prelude.{suc, ◌≡◌, ◌⊎◌, ◌≤◌, ℕ, ℤ, List, [], ◌∷◌, Result, Ok, Err}
use Rattle.std.specs.Prelude.{string_bytes}
use Rattle.action_messages.specs.Command.{CommandValue}
use Rattle.blob_source.specs.Source.{greatest_count}
use Rattle.std.specs.declared.io.Error.{Error}
use Rattle.worker.specs.Values.{LayoutValue, ProducedValue, EndValue, made, bad_at, failed}
use Rattle.worker.specs.Values.{StartValue, IsAbsolute, program_of}
use Rattle.worker.specs.declared.failure.FailureCause.TheVariants.{Signal, Unread, Unstarted}
use Rattle.worker.specs.declared.failure.FailureCause.TheVariants.{Unwaited}
use Rattle.worker.specs.declared.runner.RunError.{RunError}
use Rattle.worker.specs.declared.runner.RunError.TheVariants as children
use Rattle.processes.specs.declared.disk.ChildErrors.{ChildErrors}
use Rattle.processes.specs.declared.disk.Disk.{Disk}
use Rattle.processes.specs.declared.tally.Tally.{Tally}
use Rattle.processes.specs.declared.running.ProcessRunner.{ProcessRunner}
use Rattle.processes.specs.declared.running.ProcessJob.{ProcessJob}
use Rattle.processes.specs.declared.workshop.Exit.{Exit}
use Rattle.processes.specs.declared.workshop.Exit.TheVariants.{Code}
use Rattle.processes.specs.declared.workshop.Exit.TheVariants as exits
use Rattle.processes.specs.Workshop.{Works}
use Rattle.processes.specs.Laying.{folder_of, start_of, room_of_job, IsRunOut}
use Rattle.processes.specs.Collected.{AreCollected, IsFirstBad, IsUnread}

-- how many children haven't been waited for yet
abbrev pub alive_in : Tally → ℕ
alive_in t = t.alive

-- how often something failed
abbrev pub failures_in : Tally → ℕ
failures_in t = t.failures

abbrev pub alive_of : {W A : Type 0} → ProcessRunner W A → ℕ
alive_of r = alive_in r.tally

abbrev pub failures_of : {W A : Type 0} → ProcessRunner W A → ℕ
failures_of r = failures_in r.tally

-- where the processes run
abbrev pub workshop_of : {W A : Type 0} → ProcessRunner W A → W
workshop_of r = r.workshop

-- the folder of all jobs, and the number of the next one
abbrev pub work_of : {W A : Type 0} → ProcessRunner W A → List ℕ
work_of r = string_bytes r.work

abbrev pub next_of : {W A : Type 0} → ProcessRunner W A → ℕ
next_of r = r.next

-- no number is left for a folder, or the count of children is full
abbrev pub HasRunOut : {W A : Type 0} → ProcessRunner W A → Type 0
HasRunOut r = (next_of r ≡ greatest_count) ⊎ (alive_of r ≡ greatest_count)

-- what is done with the errors of processes
abbrev pub errors_of : {R : Type 0} → Disk R → ChildErrors
errors_of d = d.errors

-- what stood at the paths below a folder after a process has ended with a code: the outputs of an
-- outcome, or at the first of them what is no output
abbrev pub WasLeft : {R C E : Type 0} → Works R C E → E → List ℕ → List (List (List ℕ)) → ℤ
    → EndValue → Type 0
WasLeft works end start paths code (made p) =
    (p.outcome.exit_code ≡ code) × AreCollected works end start paths p.outcome p.blobs
WasLeft works end start paths code (bad_at path) = IsFirstBad works end start paths path
WasLeft works end start paths code (failed program (Unread error)) =
    IsUnread works end start paths error
WasLeft works end start paths code (failed program cause) = ⊥

-- A child ended so: it was waited for and ended with a code, and this stood after that at the paths
-- below the folder that it started in.
pub record EndedWith {R C E : Type 0} (works : Works R C E) (child : C) (start : List ℕ)
    (paths : List (List (List ℕ))) (e : EndValue) : Type 0 where
  pub end : E
  pub code : ℤ
  pub ended : works.ended child end (Code code)
  pub left : WasLeft works end start paths code e

-- A child of a program came to this: it ended so, with a code; or a signal ended it; or the call
-- that waits for it was refused by this error.
abbrev pub CameOf : {R C E : Type 0} → Works R C E → C → List ℕ → List ℕ → List (List (List ℕ))
    → EndValue → Type 0
CameOf {R} {C} {E} works child program start paths (failed p (Signal number)) =
    (p ≡ program) × ((end : E) × works.ended child end (exits.Signal number))
CameOf works child program start paths (failed p (Unwaited error)) =
    (p ≡ program) × works.unwaited child error
CameOf works child program start paths (failed p (Unread error)) =
    (p ≡ program) × EndedWith works child start paths (failed p (Unread error))
CameOf works child program start paths (failed p (Unstarted error)) = ⊥
CameOf works child program start paths e = EndedWith works child start paths e

-- A child was started for a command in a folder that was made new, with the layout and what the
-- command wants beside it, and nothing else.
pub record IsJobLaunched {R C E : Type 0} (works : Works R C E) (folder : List ℕ)
    (l : LayoutValue) (c : CommandValue) (child : C) (start : List ℕ) : Type 0 where
  pub is_start : start ≡ start_of folder c.working_directory
  pub started : works.runs child (room_of_job folder l c) c start

-- Children were started, one for each of these, each in a folder with a number below one folder.
-- The numbers ascend, from the first on, and are below the next.
abbrev pub HaveStartedFrom : {R C E : Type 0} → Works R C E → List ℕ → ℕ → ℕ → List StartValue
    → Type 0
HaveStartedFrom works work first next [] = first ≤ next
HaveStartedFrom {R} {C} works work first next (s ∷ ss) =
    (number : ℕ) × (first ≤ number) × (child : C) × (start : List ℕ)
    × IsJobLaunched works (folder_of work number) s.layout s.command child start
    × HaveStartedFrom works work (suc number) next ss

abbrev pub HaveStarted : {R C E : Type 0} → Works R C E → List ℕ → ℕ → List StartValue → Type 0
HaveStarted works work next = HaveStartedFrom works work 0 next

-- children were started, each in a folder with a number below the next one
abbrev pub HaveRun : {R C E : Type 0} → Works R C E → List ℕ → List StartValue → Type 0
HaveRun works work started = (next : ℕ) × HaveStarted works work next started

-- The command names its program from the root. A child was started so, in a numbered folder, and
-- came to this.
pub record IsJobRun {R C E : Type 0} (works : Works R C E) (work : List ℕ) (l : LayoutValue)
    (c : CommandValue) (e : EndValue) : Type 0 where
  pub absolute : IsAbsolute c
  pub number : ℕ
  pub child : C
  pub start : List ℕ
  pub launched : IsJobLaunched works (folder_of work number) l c child start
  pub came : CameOf works child (program_of c) start c.output_paths e

-- What may come of a layout and a command: a child was started and came to this; or none was, as a
-- call that makes its room or starts it was refused by this error, or as the runner has run out.
abbrev pub may_yield : {R C E : Type 0} → Works R C E → (Error → Type 0) → List ℕ → LayoutValue
    → CommandValue → EndValue → Type 0
may_yield works unstarted work l c (failed program (Unstarted error)) =
    IsAbsolute c × (program ≡ program_of c) × (unstarted error ⊎ IsRunOut error)
may_yield works unstarted work l c e = IsJobRun works work l c e

-- why a start fails: a call of the workshop was refused by this error, or the runner has run out
abbrev pub TellsUnstarted : {W A B : Type 0} → (W → Error → Type 0) → ProcessRunner W A
    → RunError B → Type 0
TellsUnstarted unstarted r (children.Device program (Unstarted error)) =
    unstarted (workshop_of r) error ⊎ (IsRunOut error × HasRunOut r)
TellsUnstarted unstarted r (children.Device program cause) = ⊥
TellsUnstarted unstarted r e = Unit {0}

-- the error tells that the runner has run out, or of lack of memory
abbrev pub TellsRunOut : {A : Type 0} → RunError A → Type 0
TellsRunOut (children.Device program (Unstarted error)) = IsRunOut error
TellsRunOut children.Memory = Unit {0}
TellsRunOut e = ⊥

-- the process of a job, and the folder that it started in
abbrev pub process_in : {C A : Type 0} → ProcessJob C A → C
process_in job = job.started.child

abbrev pub start_in : {C A : Type 0} → ProcessJob C A → List ℕ
start_in job = string_bytes job.started.start

-- what may come of a job
abbrev pub may_come : {R C E A : Type 0} → Works R C E → ProcessJob C A → EndValue → Type 0
may_come works job = CameOf works (process_in job) (string_bytes job.program) (start_in job)
    job.started.outputs.items

-- what was told as a child was waited for
abbrev pub IsEnded : {R C E : Type 0} → Works R C E → C → Result (E × Exit) Error → Type 0
IsEnded works child (Ok told) = works.ended child told.0 told.1
IsEnded works child (Err error) = works.unwaited child error

-- an answer tells what came of a child
abbrev pub TellsCame : {A : Type 0} → (EndValue → Type 0) → Result ProducedValue (RunError A)
    → Type 0
TellsCame Came (Ok p) = Came (made p)
TellsCame Came (Err (children.BadOutput path)) = Came (bad_at path)
TellsCame Came (Err (children.Device program cause)) = Came (failed (string_bytes program) cause)
TellsCame Came (Err children.Memory) = Unit {0}
TellsCame Came (Err children.NotAbsolute) = ⊥
