-- What is laid out for a child, and what a child comes to.
use Rattle.std.specs.Prelude.{◌≡◌, ℕ, List, [], ◌∷◌, ◌++◌, map}
use Rattle.std.specs.declared.vec.Vec.{Vec}
use Rattle.action_messages.specs.Command.{CommandValue}
use Rattle.actions.specs.Outcome.{OutcomeValue}
use Rattle.worker.specs.declared.failure.FailureCause.{FailureCause}

-- folders and files with their contents, by paths
pub record LayoutValue : Type 0 where
  pub folders : List (List (List ℕ))
  pub files : List (List (List ℕ) × List ℕ)

-- an outcome, and blobs to which it refers
pub record ProducedValue : Type 0 where
  pub outcome : OutcomeValue
  pub blobs : List (List ℕ)

-- what comes of a child: an outcome with its blobs; or none, as what stands at a path is no output,
-- or as the process of this program failed by this cause
pub data EndValue : Type 0 where
  made : (p : ProducedValue) → EndValue
  bad_at : (path : List (List ℕ)) → EndValue
  failed : (program : List ℕ) (cause : FailureCause) → EndValue

-- a child that is started: what is laid out for it, and its command
pub record StartValue : Type 0 where
  pub layout : LayoutValue
  pub command : CommandValue

-- what a runner may have started, one child after another
abbrev pub Starts : Type 1
Starts = List StartValue → Type 0

-- one child more was started
abbrev pub StartsOne : Starts → Starts → StartValue → Type 0
StartsOne old new s = (before : List StartValue) → old before → new (before ++ s ∷ [])

-- children were started, one after another
abbrev pub StartsAll : List StartValue → Starts → Starts → Type 0
StartsAll more old new = (before : List StartValue) → old before → new (before ++ more)

-- none was
abbrev pub StartsNone : Starts → Starts → Type 0
StartsNone old new = (before : List StartValue) → old before → new before

-- what the one says of children that ran, the other does
abbrev pub SaysNoMore : Starts → Starts → Type 0
SaysNoMore some all = (ran : List StartValue) → some ran → all ran

abbrev pub contents_of : {A : Type 0} → List (List (List ℕ) × Vec ℕ A)
    → List (List (List ℕ) × List ℕ)
contents_of files = map (λ f. (f.0, f.1.items)) files

-- the command names its program by a path from the root of the file system
abbrev pub IsAbsolute : CommandValue → Type 0
IsAbsolute c = (text : List ℕ) × (rest : List (List ℕ)) × (c.arguments ≡ (47 ∷ text) ∷ rest)

-- the command's program, its first word
abbrev pub first_word : List (List ℕ) → List ℕ
first_word [] = []
first_word (program ∷ arguments) = program

abbrev pub program_of : CommandValue → List ℕ
program_of c = first_word c.arguments

-- a failure is one of this program
abbrev pub IsOf : List ℕ → EndValue → Type 0
IsOf program (failed p cause) = p ≡ program
IsOf program e = Unit {0}
