-- What may be said of a place in which processes run, by what was done there and what it told.
use Rattle.std.specs.Prelude.{ℕ, List, [], ◌++◌, Option}
use Rattle.std.specs.declared.io.Error.{Error}
use Rattle.action_messages.specs.Command.{CommandValue}
use Rattle.processes.specs.declared.workshop.Exit.{Exit}
use Rattle.processes.specs.declared.workshop.Standing.{Standing}

-- A folder that was made where nothing stood, and all that was made in it since: folders, and files
-- with their contents, in this order.
pub record RoomValue : Type 0 where
  pub folder : List ℕ
  pub folders : List (List ℕ)
  pub files : List (List ℕ × List ℕ)

abbrev pub empty_room : List ℕ → RoomValue
empty_room path = record { folder = path; folders = []; files = [] }

-- the room with more folders, and with more files
abbrev pub with_folders : List (List ℕ) → RoomValue → RoomValue
with_folders paths v = record v { folders = v.folders ++ paths }

abbrev pub with_files : List (List ℕ × List ℕ) → RoomValue → RoomValue
with_files files v = record v { files = v.files ++ files }

-- What was done, and what was told. Only the calls that did it and were told it say so.
pub record Works (Room Child Ended : Type 0) : Type 1 where
  -- the room has this and nothing else
  pub has : Room → RoomValue → Type 0
  -- the child was started in a room that had this, for the command, with exactly its arguments and
  -- its environment, in the folder at the path
  pub runs : Child → RoomValue → CommandValue → List ℕ → Type 0
  -- the child was waited for
  pub waited : Child → Type 0
  -- the child has ended so
  pub ended : Child → Ended → Exit → Type 0
  -- after the child's end this was found at the path, links being followed
  pub stands : Ended → List ℕ → Standing → Type 0
  -- after the child's end these names were found in the folder at the path, or that one is no text
  pub lists : Ended → List ℕ → Option (List (List ℕ)) → Type 0
  -- after the child's end the file at the path was read, and had these bytes, or more than a blob
  -- has
  pub holds : Ended → List ℕ → Option (List ℕ) → Type 0
  -- the call that waits for the child was refused by this error
  pub unwaited : Child → Error → Type 0
  -- after the child's end a call that looks at the path was refused by this error
  pub unread : Ended → List ℕ → Error → Type 0

-- what the room has becomes this
abbrev pub Becomes : {R C E : Type 0} → Works R C E → R → R → (RoomValue → RoomValue) → Type 0
Becomes works old new change = (v : RoomValue) → works.has old v → works.has new (change v)

-- the child was started in what the room had
abbrev pub StartsIn : {R C E : Type 0} → Works R C E → R → CommandValue → List ℕ → C → Type 0
StartsIn works room command folder child =
    (v : RoomValue) → works.has room v → works.runs child v command folder

-- nothing is known of what was done and told
abbrev pub unknown_works : {Room Child Ended : Type 0} → Works Room Child Ended
unknown_works = record {
  has = λ _ _. Unit {0};
  runs = λ _ _ _ _. Unit {0};
  waited = λ _. Unit {0};
  ended = λ _ _ _. Unit {0};
  stands = λ _ _ _. Unit {0};
  lists = λ _ _ _. Unit {0};
  holds = λ _ _ _. Unit {0};
  unwaited = λ _ _. Unit {0};
  unread = λ _ _ _. Unit {0};
}
