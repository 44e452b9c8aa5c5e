-- Why what stands at a path isn't read to its end: the first fault on the way, and what was read
-- before it.
use Rattle.std.specs.Prelude.{◌≡◌, ◌⊎◌, ℕ, suc, ◌≤◌, Bool, List, [], ◌∷◌, ◌++◌, IsSorted, codes}
use Rattle.std.specs.declared.alloc.Global.{Global}
use Rattle.messages.specs.Name.{IsName}
use Rattle.messages.specs.Order.{IsAscending, bytes_cmp}
use Rattle.messages.specs.Target.{IsTarget}
use Rattle.remote.specs.declared.files.FileError.{FileError}
use Rattle.tree.specs.Form.{form, top}
use Rattle.tree.specs.Tree.{Leaf, Tree}
use Rattle.commands.specs.Faults.{TellsOfEntry, error_of_file}
use Rattle.commands.specs.Read.{AreRead, IsTreeReadAt, ReadBlob, TakesAll, blobs_below, depth}
use Rattle.commands.specs.Read.{file_blob, folder_blob, names_of}
use Rattle.commands.specs.World.{Sight, a_link}
use Rattle.commands.specs.declared.error.CommandError.{CommandError}

-- what stands at the place has no name that a tree can have
pub record HasNoName (place name : List ℕ) (e : CommandError) : Type 0 where
  pub none : ¬ IsName name
  pub told : TellsOfEntry place (codes "not a name of at most 255 bytes") e

-- the link at the place leads to this, which a tree can't have
pub record LinksToNoText (place target : List ℕ) (e : CommandError) : Type 0 where
  pub none : ¬ IsTarget target
  pub told : TellsOfEntry place (codes "a link whose target is not text of at most 4096 bytes") e

-- the names in the folder at the place are in order, and don't ascend: one of them stands twice
pub record HasNameTwice (place : List ℕ) (names : List (List ℕ)) (e : CommandError) : Type 0 where
  pub ordered : IsSorted bytes_cmp names
  pub twice : ¬ IsAscending names
  pub told : TellsOfEntry place (codes "two entries of one name") e

-- The folder at the place was read, and has an entry of this name; what it has before that was read
-- as this tree.
pub record ReachesEntry (sees : Sight) (bits : Bool) (left : ℕ) (place name : List ℕ)
    (before : Tree Leaf) : Type 0 where
  pub behind : List (List ℕ)
  pub listed : sees.lists place (names_of before ++ name ∷ behind)
  pub read : AreRead sees bits place before
  pub within : depth before ≤ left

-- the reading stops for a fault of what is read, or at a blob that isn't taken
pub data Stop : Type 0 where
  for_error : CommandError → Stop
  at_blob : ReadBlob → Stop

-- What stands at a place stops the reading, where paths go so many names further down, behind these
-- blobs: it can't be read or spelled, or its own blob isn't taken.
pub data StopsHere (sees : Sight) (bits : Bool) (left : ℕ) (place : List ℕ)
    : List ReadBlob → Stop → Type 0 where
  unread : (f : FileError Global) → sees.fails place f
      → StopsHere sees bits left place [] (for_error (error_of_file f))
  unlisted : (f : FileError Global) → sees.unlisted place f
      → StopsHere sees bits left place [] (for_error (error_of_file f))
  no_text : (target : List ℕ) (e : CommandError) → sees.stands place (a_link target)
      → LinksToNoText place target e → StopsHere sees bits left place [] (for_error e)
  no_name : (name : List ℕ) (before : Tree Leaf) (e : CommandError)
      → ReachesEntry sees bits left place name before → HasNoName (place ++ 47 ∷ name) name e
      → StopsHere sees bits left place (blobs_below before) (for_error e)
  name_twice : (t : Tree Leaf) (e : CommandError) → sees.lists place (names_of t)
      → AreRead sees bits place t → depth t ≤ left → HasNameTwice place (names_of t) e
      → StopsHere sees bits left place (blobs_below t) (for_error e)
  at_file : (content : List ℕ) → sees.reads place content
      → StopsHere sees bits left place [] (at_blob (file_blob content))
  at_folder : (t : Tree Leaf) → IsTreeReadAt sees bits place t → depth t ≤ left
      → StopsHere sees bits left place (blobs_below t) (at_blob (folder_blob (top (form t))))

-- What stands at a place, or something below it, stops the reading, the first in the order of the
-- names. Of an entry its name is looked at first, then how deep it lies.
pub data StopsBelow (sees : Sight) (bits : Bool) (stop : Stop)
    : ℕ → List ℕ → List ReadBlob → Type 0 where
  here : (left : ℕ) (place : List ℕ) (blobs : List ReadBlob)
      → StopsHere sees bits left place blobs stop → StopsBelow sees bits stop left place blobs
  too_deep : (place name : List ℕ) (before : Tree Leaf) (e : CommandError)
      → ReachesEntry sees bits 0 place name before → IsName name
      → TellsOfEntry (place ++ 47 ∷ name) (codes "more than 64 names deep") e
      → stop ≡ for_error e → StopsBelow sees bits stop 0 place (blobs_below before)
  below : (left : ℕ) (place name : List ℕ) (before : Tree Leaf) (blobs : List ReadBlob)
      → ReachesEntry sees bits (suc left) place name before → IsName name
      → StopsBelow sees bits stop left (place ++ 47 ∷ name) blobs
      → StopsBelow sees bits stop (suc left) place (blobs_below before ++ blobs)

-- the error of what stops the reading: that of the fault, or that for which the blob isn't taken
abbrev pub IsErrorOfStop : (ReadBlob → CommandError → Type 0) → Stop → CommandError → Type 0
IsErrorOfStop refuses (for_error x) e = e ≡ x
IsErrorOfStop refuses (at_blob blob) e = refuses blob e

-- The reading stops at a place or below it; the blobs before that are taken, from this state on of
-- what takes them.
pub record FailsTaking {S : Type 0} (takes : S → S → ReadBlob → Type 0)
    (refuses : S → ReadBlob → CommandError → Type 0) (sees : Sight) (bits : Bool) (left : ℕ)
    (place : List ℕ) (old : S) (e : CommandError) : Type 0 where
  pub stop : Stop
  pub blobs : List ReadBlob
  pub now : S
  pub stops : StopsBelow sees bits stop left place blobs
  pub taken : TakesAll takes old now blobs
  pub told : IsErrorOfStop (refuses now) stop e

-- the file at the place can't be read, or is no blob that is taken
abbrev pub FailsFile : {S : Type 0} → (S → ReadBlob → CommandError → Type 0) → Sight → List ℕ → S
    → CommandError → Type 0
FailsFile refuses sees place old e =
    ((f : FileError Global) × sees.fails place f × (e ≡ error_of_file f))
    ⊎ ((content : List ℕ) × sees.reads place content × refuses old (file_blob content) e)

-- what stands at a place, or below it, can't be read
pub record FailsReading (sees : Sight) (bits : Bool) (left : ℕ) (place : List ℕ) (e : CommandError)
    : Type 0 where
  pub blobs : List ReadBlob
  pub stops : StopsBelow sees bits (for_error e) left place blobs
