-- What a store has while a build goes on: words of private functions.
use Rattle.std.specs.Prelude.{◌≡◌, ◌⊎◌, ◌+◌, ◌≤◌, ℕ, List, [], ◌∷◌, ◌++◌, length, true, Some}
use Rattle.std.specs.Prelude.{None}
use Rattle.std.specs.Prelude.{if◌then◌else◌}
use Rattle.std.specs.List.{AllByRecursion}
use Rattle.std.specs.BTreeSet.{BTreeSet, contains}
use Rattle.blob_digest.specs.Digest.{DigestValue, digest_cmp, digest_of}
use Rattle.action_messages.specs.ActionResult.{ActionResultValue}
use Rattle.action_messages.specs.Reads.{Reads}
use Rattle.actions.specs.Outcome.{OutcomeValue}
use Rattle.actions.specs.Recorded.{IsRecorded}
use Rattle.blob_source.specs.Source.{Blobs, Telling, IsBlobUnder}
use Rattle.blob_source.specs.Sink.{HasRight, KeepsRight}
use Rattle.tree.specs.Memo.{Asked, Known, blob, result, known_by}
use Rattle.verifier.specs.Holding.{HoldsResult}
use Rattle.verifier.specs.Recorded.{HaveOneForm, IsHeld}
use Rattle.runs.specs.Engine.{FinishedValue, EngineValue, finished_in}
use Rattle.runs.specs.Results.{result_of}
use Rattle.runs.specs.Served.{IsKeptOf}
use Rattle.worker.specs.declared.remembering.Remembered.{Remembered}
use Rattle.worker.specs.Outcomes.{HasTrees, blobs_made}
use Rattle.worker.specs.Stored.{PutsNoOther}
use Rattle.worker.specs.Values.{ProducedValue, EndValue, made}

-- bytes of which this is so stand under a digest
abbrev pub HasAt : (List ℕ → Type 0) → Blobs → DigestValue → Type 0
HasAt Is C d = (b : List ℕ) × (C d ≡ Some b) × Is b

-- calls that put bytes of which this is so under one digest, or put none: all others stay
pub record IsKeptBut (d : DigestValue) (Is : List ℕ → Type 0) (old new : Telling) : Type 0 where
  pub blobs : KeepsRight old.blobs new.blobs
  pub results : (e : DigestValue) (b : List ℕ) → old.results e ≡ Some b
      → (new.results e ≡ Some b) ⊎ ((e ≡ d) × HasAt Is new.results d)
  pub puts : (new.puts ≡ old.puts)
      ⊎ ((new.puts ≡ old.puts ++ d ∷ []) × HasAt Is new.results d)

-- Blobs alone are known, and each is one that is told. Right bytes stay told when others are put,
-- and so what is known stays so; a result may give way to another.
pub record KnowsBlobs (known : Known) (B : Blobs) : Type 0 where
  pub blobs : (d : DigestValue) (b : List ℕ) → known (blob d) ≡ Some b → IsBlobUnder B d b
  pub results : (d : DigestValue) → known (result d) ≡ None

-- the digest is among those of what was put
abbrev pub HasPut : BTreeSet DigestValue → DigestValue → Type 0
HasPut put d = contains digest_cmp put d ≡ true

-- each blob that was put stands there
abbrev pub WerePut : BTreeSet DigestValue → Blobs → Type 0
WerePut put B = (d : DigestValue) → HasPut put d → HasRight B d

-- what is remembered is so
pub record Remembers {A : Type 0} (r : Remembered A) (B : Blobs) : Type 0 where
  pub memo : KnowsBlobs (known_by r.memo) B
  pub put : WerePut r.put B

-- what was put isn't forgotten
abbrev pub StaysPut : BTreeSet DigestValue → BTreeSet DigestValue → Type 0
StaysPut old new = (d : DigestValue) → HasPut old d → HasPut new d

abbrev pub HasPutAll : BTreeSet DigestValue → List (List ℕ) → Type 0
HasPutAll put = AllByRecursion (λ b. HasPut put (digest_of b))

-- the result under a digest, if there is one, names at most so many directories
abbrev pub HasFewTrees : Telling → DigestValue → ℕ → Type 0
HasFewTrees t d most = (b : List ℕ) (r : ActionResultValue) → t.results d ≡ Some b → Reads r b
    → length r.directories ≤ most

-- how often a store is asked for the result under a digest: once, and once for the Tree of each
-- directory that it names
abbrev pub AsksResultOnce : DigestValue → Telling → Telling → Type 0
AsksResultOnce d old new =
    (most : ℕ) → HasFewTrees new d most → new.calls ≤ old.calls + 1 + most

-- no blob is put but those of what a child came to
abbrev pub PutsMade : (EndValue → Type 0) → Blobs → Blobs → Type 0
PutsMade may old new =
    (new ≡ old) ⊎ ((p : ProducedValue) × may (made p) × PutsNoOther (blobs_made p) old new)

-- how many of the blobs weren't put before
abbrev pub not_put : BTreeSet DigestValue → List (List ℕ) → ℕ
not_put put [] = 0
not_put put (b ∷ bs) =
    (if contains digest_cmp put (digest_of b) then 0 else 1) + not_put put bs

-- what is remembered isn't forgotten
pub record StaysRemembered {A : Type 0} (old new : Remembered A) : Type 0 where
  pub memo : (a : Asked) (b : List ℕ) → known_by old.memo a ≡ Some b → known_by new.memo a ≡ Some b
  pub put : StaysPut old.put new.put

-- under a digest stands a result of a step that has finished
pub record HasResultOf (t : Telling) (e : EngineValue) (i : ℕ) (d : DigestValue) : Type 0 where
  pub step : FinishedValue
  pub at : finished_in i e ≡ Some step
  pub result : ActionResultValue
  pub held : HoldsResult t.results d result
  pub kept : IsKeptOf e i result

-- bytes read as the result of a step that has finished
abbrev pub IsResultOfStep : EngineValue → ℕ → List ℕ → Type 0
IsResultOfStep e i b =
    (f : FinishedValue) × (finished_in i e ≡ Some f) × Reads (result_of f.outcome) b

-- a result is for an outcome of this form, or it is that of a step which came to one
abbrev pub IsForForm : Blobs → EngineValue → ActionResultValue → OutcomeValue → Type 0
IsForForm B e r o =
    ((v : OutcomeValue) × IsRecorded B r v × HaveOneForm v o)
    ⊎ ((i : ℕ) × (f : FinishedValue) × (finished_in i e ≡ Some f) × HaveOneForm f.outcome o
    × IsKeptOf e i r)

-- A store has what a step came to: bytes with the digest of its action, its Trees, and a result for
-- an outcome of its form.
pub record StoresStep (t : Telling) (e : EngineValue) (f : FinishedValue) : Type 0 where
  pub action : HasRight t.blobs f.action
  pub trees : HasTrees t.blobs f.outcome
  pub result : ActionResultValue
  pub held : HoldsResult t.results f.action result
  pub stands : IsForForm t.blobs e result f.outcome

-- a store has what each step that has finished came to
abbrev pub StoresSteps : Telling → EngineValue → Type 0
StoresSteps t e = (i : ℕ) (f : FinishedValue) → finished_in i e ≡ Some f → StoresStep t e f

-- A store has what it recorded under a digest: bytes with the digest, and the outcome with its
-- Trees.
pub record IsHeldWhole (t : Telling) (d : DigestValue) (v : OutcomeValue) : Type 0 where
  pub held : IsHeld t d v
  pub action : HasRight t.blobs d
  pub trees : HasTrees t.blobs v
