use Rattle.std.proofs.Common.{◌≡◌, ℕ, List, Some, Result, Ok, Err, refl, sym, ap}
use Rattle.wire.specs.Bytes.{IsBytes}
use Rattle.blob_digest.specs.DigestValue.{DigestValue}
use Rattle.messages.specs.declared.error.MessageError.{MessageError}
use Rattle.messages.specs.Tree.{TreeValue, IsTree, tree_bytes, decoded_tree}
use Rattle.messages.proofs.Trees.{tree_codec}
use Rattle.action_cache.specs.Reading.{files_told, files_in_tree}
use Rattle.action_cache.proofs.laws.trees_have_the_files_that_are_read.Goals as goal

told_by : (bytes : List ℕ) (files : List DigestValue) (r : Result TreeValue MessageError) → IsBytes bytes → decoded_tree bytes ≡ r → files_told r ≡ Some files
    → (t : TreeValue) × IsTree t × (bytes ≡ tree_bytes t) × (files ≡ files_in_tree t)
told_by bytes files (Ok t) fits e told = let found = tree_codec.found bytes t fits e in let same : files_in_tree t ≡ files = cc in (t, found.0, found.1, sym same)
told_by bytes files (Err d) fits e told = absurd cc

pub returns-clause-read : goal.returns-clause-read
returns-clause-read c = λ t bytes fits valid is. ap files_told (tree_codec.only bytes t fits valid is)

pub returns-clause-only : goal.returns-clause-only
returns-clause-only c = λ bytes files fits told. told_by bytes files (decoded_tree bytes) fits refl told
