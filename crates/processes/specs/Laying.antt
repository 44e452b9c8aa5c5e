-- Where a job's files stand, and what is made before its process starts.
use Rattle.std.specs.Prelude.{◌≡◌, ◌⊎◌, ℕ, List, [], ◌∷◌, ◌++◌, Option, Some, None, decimal, map}
use Rattle.std.specs.IoError.{error_kind, raw_os_error}
use Rattle.std.specs.declared.io.Error.{Error}
use Rattle.std.specs.declared.io.ErrorKind.TheVariants.{OutOfMemory, QuotaExceeded}
use Rattle.std.specs.Path.{path_parent}
use Rattle.messages.specs.Path.{path_text}
use Rattle.action_messages.specs.Command.{CommandValue}
use Rattle.worker.specs.Values.{LayoutValue}
use Rattle.processes.specs.Workshop.{RoomValue}

-- the text of a path below a folder
abbrev pub place_in : List ℕ → List ℕ → List ℕ
place_in folder path = folder ++ 47 ∷ path

-- the folder of a job, by its number
abbrev pub folder_of : List ℕ → ℕ → List ℕ
folder_of work number = place_in work (decimal number)

-- the folder that a command starts in: its working directory, or the job's folder itself
abbrev pub start_of : List ℕ → Option (List (List ℕ)) → List ℕ
start_of folder None = folder
start_of folder (Some path) = place_in folder (path_text path)

-- the folders at paths below a folder, and the files with their contents
abbrev pub folders_below : List ℕ → List (List (List ℕ)) → List (List ℕ)
folders_below folder paths = map (λ p. place_in folder (path_text p)) paths

abbrev pub files_placed : List ℕ → List (List (List ℕ) × List ℕ) → List (List ℕ × List ℕ)
files_placed folder files = map (λ f. (place_in folder (path_text f.0), f.1)) files

-- the working directory below a job's folder, if the command has one
abbrev pub working_folders : List ℕ → Option (List (List ℕ)) → List (List ℕ)
working_folders folder None = []
working_folders folder (Some path) = place_in folder (path_text path) ∷ []

-- the folder above a path: below the start, or the start itself
abbrev pub above_in : List ℕ → Option (List ℕ) → List (List ℕ)
above_in start None = []
above_in start (Some above) = place_in start above ∷ []

-- the folders above paths
abbrev pub folders_above : List ℕ → List (List (List ℕ)) → List (List ℕ)
folders_above start [] = []
folders_above start (p ∷ ps) =
    above_in start (path_parent (path_text p)) ++ folders_above start ps

-- a new folder with a layout and nothing else
abbrev pub room_of_layout : List ℕ → LayoutValue → RoomValue
room_of_layout folder l = record {
  folder = folder;
  folders = folders_below folder l.folders;
  files = files_placed folder l.files;
}

-- All that a job's folder has when its process is started: the layout, the folder that the command
-- starts in, and the folders above its output paths.
abbrev pub room_of_job : List ℕ → LayoutValue → CommandValue → RoomValue
room_of_job folder l c = record (room_of_layout folder l) {
  folders = (folders_below folder l.folders ++ working_folders folder c.working_directory)
      ++ folders_above (start_of folder c.working_directory) c.output_paths;
}

-- the error by which a child isn't started: a call of the workshop was refused by it, or it is lack
-- of memory
abbrev pub IsUnstarted : (Error → Type 0) → Error → Type 0
IsUnstarted unstarted error = unstarted error ⊎ (error_kind error ≡ OutOfMemory)

-- the error of a runner that has run out, which isn't the system's: no number is left for a folder,
-- or its count of children is full
pub record IsRunOut (error : Error) : Type 0 where
  pub kind : error_kind error ≡ QuotaExceeded
  pub own : raw_os_error error ≡ None
