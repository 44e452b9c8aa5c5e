-- What lines put together: where each finds its origin, the tree that what stands there merges
-- into, and why there is none.
use Rattle.std.specs.Prelude.{◌≡◌, ◌⊎◌, ℕ, List, [], ◌∷◌, Option, Some}
use Rattle.std.specs.List.{AllByRecursion}
use Rattle.blob_digest.specs.Digest.{DigestValue}
use Rattle.actions.specs.Outcome.{OutcomeValue}
use Rattle.actions.specs.OutcomeLookup.{LooksIn, LiesWithin}
use Rattle.plan.specs.Values.{OriginValue, source, output, LineValue}
use Rattle.tree.specs.Tree.{Name, Tree}
use Rattle.tree.specs.Form.{NodeValue}
use Rattle.tree.specs.declared.error.TreeError.{TreeError}
use Rattle.tree.specs.declared.error.TreeError.TheVariants as errors
use Rattle.tree.specs.Lookup.{Looked, fault, nothing, found, Looks}
use Rattle.tree.specs.LooksAt.{OnWay}
use Rattle.tree.specs.Memo.{Asked}
use Rattle.tree.specs.Merging.{WithinValue, in_source, NodeWithin, MergeLines, MergeFault, conflict}
use Rattle.tree.specs.Merging.{unreadable, merged}
use Rattle.tree.specs.MergeLooks.{looks, MergeLooksAt}
use Rattle.tree.specs.Stage.{Stage, ◌and_then◌}
use Rattle.blob_source.specs.Source.{Blobs}
use Rattle.blob_source.specs.Told.{Fault, missing, wrong, malformed}

-- ---- origins

-- what steps came to, by their numbers
abbrev pub Earlier : Type 0
Earlier = ℕ → Option OutcomeValue

-- the step that an origin reads came to an outcome
abbrev pub IsThere : Earlier → OriginValue → Type 0
IsThere earlier (source p) = Unit {0}
IsThere earlier (output step p) = (o : OutcomeValue) × (earlier step ≡ Some o)

-- each step that lines read came to an outcome
abbrev pub AreThere : Earlier → List LineValue → Type 0
AreThere earlier lines = AllByRecursion (λ (l : LineValue). IsThere earlier l.origin) lines

-- what a look-up of an origin comes to: in the source tree, or in what an earlier step came to
abbrev pub LooksUpOrigin : Blobs → DigestValue → Earlier → OriginValue → Looked → Type 0
LooksUpOrigin blobs sources earlier (source p) r = Looks blobs sources p r
LooksUpOrigin blobs sources earlier (output step p) r = (o : OutcomeValue)
    × (earlier step ≡ Some o) × LooksIn o p r

-- where what is below an origin is read: in what a source tells, or in the output that has it
abbrev pub OriginWithin : Earlier → OriginValue → WithinValue → Type 0
OriginWithin earlier (source p) within = within ≡ in_source
OriginWithin earlier (output step p) within = (o : OutcomeValue)
    × (earlier step ≡ Some o) × LiesWithin o p within

-- the node at an origin, and where what is below it is read
pub record StandsAtOrigin (blobs : Blobs) (sources : DigestValue) (earlier : Earlier)
    (o : OriginValue) (x : NodeWithin) : Type 0 where
  pub node : LooksUpOrigin blobs sources earlier o (found x.node)
  pub within : OriginWithin earlier o x.within

-- what stands at each line's origin, at its target
abbrev pub Resolves : Blobs → DigestValue → Earlier → List LineValue → MergeLines → Type 0
Resolves blobs sources earlier [] xs = xs ≡ []
Resolves blobs sources earlier (l ∷ ls) xs =
    (x : NodeWithin) × StandsAtOrigin blobs sources earlier l.origin x
    × (rest : MergeLines) × Resolves blobs sources earlier ls rest
    × (xs ≡ (l.target, x) ∷ rest)

-- ---- faults

-- why lines put no tree together: nothing stands at an origin with this path, what they give at
-- this path doesn't merge, or a Directory can't be read
pub data LinesFault : Type 0 where
  no_origin : List Name → LinesFault
  in_conflict : List Name → LinesFault
  not_read : Fault → LinesFault

abbrev pub of_merge : MergeFault → LinesFault
of_merge (conflict path) = in_conflict path
of_merge (unreadable f) = not_read f

-- the path of an origin
abbrev pub origin_path : OriginValue → List Name
origin_path (source p) = p
origin_path (output step p) = p

-- the fault of a look-up of an origin that finds no node
abbrev pub IsFaultOfLook : OriginValue → Looked → LinesFault → Type 0
IsFaultOfLook o (fault f) why = why ≡ not_read f
IsFaultOfLook o nothing why = why ≡ no_origin (origin_path o)
IsFaultOfLook o (found x) why = ⊥

-- why a line has no origin
abbrev pub LineFault : Blobs → DigestValue → Earlier → LineValue → LinesFault → Type 0
LineFault blobs sources earlier l why =
    (r : Looked) × LooksUpOrigin blobs sources earlier l.origin r × IsFaultOfLook l.origin r why

-- the fault of the first line that has no origin
abbrev pub FirstFault : Blobs → DigestValue → Earlier → List LineValue → LinesFault → Type 0
FirstFault blobs sources earlier [] why = ⊥
FirstFault blobs sources earlier (l ∷ ls) why =
    LineFault blobs sources earlier l why
    ⊎ ((x : NodeValue) × LooksUpOrigin blobs sources earlier l.origin (found x)
    × FirstFault blobs sources earlier ls why)

-- ---- the tree

-- a check whose faults have other names
abbrev pub with_faults_named : {E F V : Type 0} → (E → F) → Stage E V → Stage F V
with_faults_named {E} name check = record {
  passes = check.passes;
  fails = λ why. (e : E) × check.fails e × (why ≡ name e);
}

-- each line has its origin
abbrev pub resolved : Blobs → DigestValue → Earlier → List LineValue → Stage LinesFault MergeLines
resolved blobs sources earlier lines = record {
  passes = Resolves blobs sources earlier lines;
  fails = FirstFault blobs sources earlier lines;
}

-- each line has its origin, and what stands at the origins merges into a tree
abbrev pub put_together : Blobs → DigestValue → Earlier → List LineValue
    → Stage LinesFault (Tree NodeValue)
put_together blobs sources earlier lines =
    resolved blobs sources earlier lines and_then λ nodes.
    with_faults_named of_merge (merged blobs nodes)

-- Why lines weren't put together: their first fault, unless the source failed or memory ran out.
abbrev pub ExplainsLines : {A : Type 0} → (LinesFault → Type 0) → TreeError A → Type 0
ExplainsLines Fails (errors.Absent path) = Fails (no_origin path)
ExplainsLines Fails (errors.BlobMissing d) = Fails (not_read (missing d))
ExplainsLines Fails (errors.BlobWrong d) = Fails (not_read (wrong d))
ExplainsLines Fails (errors.BlobMalformed d) = Fails (not_read (malformed d))
ExplainsLines Fails (errors.TooDeep path) = ⊥
ExplainsLines Fails (errors.Conflict path) = Fails (in_conflict path)
ExplainsLines Fails errors.Fetch = Unit {0}
ExplainsLines Fails errors.Memory = Unit {0}

-- ---- what is looked at

-- the Directories on the way to an origin in the source tree; an outcome is known
abbrev pub OriginLooksAt : Blobs → DigestValue → OriginValue → Asked → Type 0
OriginLooksAt B sources (source p) a = OnWay B sources p a
OriginLooksAt B sources (output step p) a = ⊥

-- one line after another, as far as each has its origin
abbrev pub LinesLookAt : Blobs → DigestValue → Earlier → List LineValue → Asked → Type 0
LinesLookAt B sources earlier [] a = ⊥
LinesLookAt B sources earlier (l ∷ ls) a =
    OriginLooksAt B sources l.origin a
    ⊎ ((x : NodeValue) × LooksUpOrigin B sources earlier l.origin (found x)
    × LinesLookAt B sources earlier ls a)

-- the Directories on the way to each line's origin, in turn, and then those that are read where the
-- lines meet
abbrev pub TogetherLooksAt : Blobs → DigestValue → Earlier → List LineValue → Asked → Type 0
TogetherLooksAt B sources earlier lines =
    looks (resolved B sources earlier lines) (LinesLookAt B sources earlier lines) (MergeLooksAt B)
