-- What a result refers to, and which files a Tree has, by their messages.
use Rattle.std.specs.Prelude.{ℕ, true, false, List, [], ◌∷◌, ◌++◌, map, Option, Some, None, Result}
use Rattle.std.specs.Prelude.{Ok, Err, if◌then◌else◌}
use Rattle.std.specs.Ordering.{is_lt}
use Rattle.wire.specs.Steps.{◌>>=◌}
use Rattle.blob_digest.specs.DigestValue.{DigestValue}
use Rattle.messages.specs.declared.error.MessageError.{MessageError}
use Rattle.messages.specs.Path.{text_cmp}
use Rattle.messages.specs.FileNode.{FileNodeValue}
use Rattle.messages.specs.DirectoryRules.{DirectoryValue}
use Rattle.messages.specs.Tree.{TreeValue, decoded_tree}
use Rattle.action_messages.specs.OutputFile.{OutputFileValue}
use Rattle.action_messages.specs.OutputDirectory.{OutputDirectoryValue}
use Rattle.action_messages.specs.ActionResult.{ActionResultValue, action_result_of}
use Rattle.action_messages.specs.Unordered.{unordered}
use Rattle.action_cache.specs.References.{Reference, Reader}

-- ---- a result

module _ {X : Type 0} (path : X → List (List ℕ)) where
  -- a list with one more, before the first whose path is a greater text
  abbrev pub placed : X → List X → List X
  placed x [] = x ∷ []
  placed x (y ∷ ys) = if is_lt (text_cmp (path x) (path y)) then x ∷ y ∷ ys else y ∷ placed x ys

  -- a list in the order of the texts of its paths
  abbrev pub by_path : List X → List X
  by_path [] = []
  by_path (x ∷ xs) = placed x (by_path xs)

-- the outputs of each kind in the order of their paths
abbrev pub in_order : ActionResultValue → ActionResultValue
in_order u = record {
  files = by_path (λ f. f.path) u.files;
  directories = by_path (λ d. d.path) u.directories;
  symlinks = by_path (λ l. l.path) u.symlinks;
  exit_code = u.exit_code;
  stdout = u.stdout;
  stderr = u.stderr;
}

-- the result that bytes say, if they say one: what they say in any order, put in order and checked
unfoldable pub said_result : List ℕ → Result ActionResultValue MessageError
said_result bytes = unordered bytes >>= λ u. action_result_of (in_order u)

-- an output file, by the digest of its blob
abbrev pub to_file : OutputFileValue → Reference
to_file f = record { digest = f.digest; is_tree = false }

-- an output directory, by the digest of its Tree
abbrev pub to_tree : OutputDirectoryValue → Reference
to_tree d = record { digest = d.tree; is_tree = true }

-- a stream, if a blob holds it
abbrev pub to_stream : Option DigestValue → List Reference
to_stream None = []
to_stream (Some d) = record { digest = d; is_tree = false } ∷ []

-- what a result refers to: its output files, the Trees of its output directories, and what its
-- streams hold
abbrev pub referred_to : ActionResultValue → List Reference
referred_to r =
    map to_file r.files ++ map to_tree r.directories ++ to_stream r.stdout.digest ++
    to_stream r.stderr.digest

-- what a result refers to, if it is one
abbrev pub referred_in : Result ActionResultValue MessageError → Option (List Reference)
referred_in (Ok r) = Some (referred_to r)
referred_in (Err e) = None

-- what the bytes of a result refer to; nothing where they are no result
abbrev pub references_in : List ℕ → Option (List Reference)
references_in bytes = referred_in (said_result bytes)

-- ---- a Tree

-- the digests of the blobs of these files
abbrev pub digests_of_files : List FileNodeValue → List DigestValue
digests_of_files files = map (λ f. f.digest) files

-- the digests of the files in all these directories, in order
abbrev pub files_below : List DirectoryValue → List DigestValue
files_below [] = []
files_below (d ∷ ds) = digests_of_files d.files ++ files_below ds

-- the digests of the files of the root, and then of the children
abbrev pub files_in_tree : TreeValue → List DigestValue
files_in_tree t = files_below (t.root ∷ t.children)

-- the digests of the files of a Tree; nothing where none was read
abbrev pub files_told : Result TreeValue MessageError → Option (List DigestValue)
files_told (Ok t) = Some (files_in_tree t)
files_told (Err e) = None

-- the digests of the files of the Tree whose encoding the bytes are; nothing where they are none
abbrev pub files_in : List ℕ → Option (List DigestValue)
files_in bytes = files_told (decoded_tree bytes)

-- results and Trees are read as the messages of the Remote Execution API
abbrev pub by_messages : Reader
by_messages = record { outputs = references_in; files = files_in }
