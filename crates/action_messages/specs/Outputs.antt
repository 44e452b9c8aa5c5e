-- The outputs of a result of all kinds, in one order.
use Rattle.std.specs.Prelude.{◌≡◌, ℕ, List, [], ◌∷◌, map}
use Rattle.messages.specs.Order.{IsAscending}
use Rattle.action_messages.specs.declared.recorded_output.RecordedOutput.{RecordedOutput}
use Rattle.action_messages.specs.declared.recorded_output.RecordedOutput.TheVariants as outputs
use Rattle.action_messages.specs.Overlaps.{texts_of}
use Rattle.action_messages.specs.OutputFile.{OutputFileValue}
use Rattle.action_messages.specs.OutputDirectory.{OutputDirectoryValue}
use Rattle.action_messages.specs.OutputSymlink.{OutputSymlinkValue}
use Rattle.action_messages.specs.ActionResult.{ActionResultValue}

-- an output as a result has it
pub data RecordedValue : Type 0 where
  file : OutputFileValue → RecordedValue
  directory : OutputDirectoryValue → RecordedValue
  link : OutputSymlinkValue → RecordedValue

abbrev pub recorded_value : {A : Type 0} → RecordedOutput A → RecordedValue
recorded_value (outputs.File f) = file f.now
recorded_value (outputs.Directory d) = directory d.now
recorded_value (outputs.Link l) = link l.now

abbrev pub recorded_values : {A : Type 0} → List (RecordedOutput A) → List RecordedValue
recorded_values xs = map recorded_value xs

abbrev pub recorded_path : RecordedValue → List (List ℕ)
recorded_path (file f) = f.path
recorded_path (directory d) = d.path
recorded_path (link l) = l.path

-- ---- the outputs in one order

abbrev pub files_among : List RecordedValue → List OutputFileValue
files_among [] = []
files_among (file f ∷ xs) = f ∷ files_among xs
files_among (directory d ∷ xs) = files_among xs
files_among (link l ∷ xs) = files_among xs

abbrev pub directories_among : List RecordedValue → List OutputDirectoryValue
directories_among [] = []
directories_among (file f ∷ xs) = directories_among xs
directories_among (directory d ∷ xs) = d ∷ directories_among xs
directories_among (link l ∷ xs) = directories_among xs

abbrev pub links_among : List RecordedValue → List OutputSymlinkValue
links_among [] = []
links_among (file f ∷ xs) = links_among xs
links_among (directory d ∷ xs) = links_among xs
links_among (link l ∷ xs) = l ∷ links_among xs

-- the files, directories and links of a result, all together by the texts of their paths
pub record AreOutputs (r : ActionResultValue) (xs : List RecordedValue) : Type 0 where
  pub ascend : IsAscending (texts_of (map recorded_path xs))
  pub files : files_among xs ≡ r.files
  pub directories : directories_among xs ≡ r.directories
  pub symlinks : links_among xs ≡ r.symlinks
