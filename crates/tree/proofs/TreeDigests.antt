-- The digests that stand in the Directories of a tree, and the one blob with the digest of no bytes.
use Rattle.std.proofs.Common.{◌≡◌, ℕ, zero, suc, ◌<◌, ◌≤◌, List, [], ◌∷◌, ◌++◌, length, refl, ap, arith}
use Rattle.std.specs.Prelude.{min, slice_index}
use Rattle.std.specs.List.{AllByRecursion}
use Rattle.blob_digest.specs.Digest.{digest_of}
use Rattle.blob_digest.specs.DigestValue.{IsDigest, greatest_size}
use Rattle.messages.specs.FileNode.{FileNodeValue, IsFileNode}
use Rattle.messages.specs.DirectoryNode.{DirectoryNodeValue, IsDirectoryNode}
use Rattle.messages.specs.DirectoryRules.{DirectoryValue, IsDirectory}
use Rattle.tree.specs.Tree.{Tree, empty, leaf, folder, Leaf, file, link}
use Rattle.tree.specs.Form.{form, directory_of, top}
use Rattle.tree.proofs.DirectoryBytes.{HasDigests}
use Rattle.std.specs.Int.{w32, to_be_bytes, bytes_high_first, byte_at}
use Rattle.hex.specs.Hex.{IsBytes}
use Rattle.sha2.specs.Sha256.{sha256, digest_bytes}
use Rattle.sha2.proofs.Facts256.{length-sha256}

-- ---- the digest of a blob is one

one_byte : (k n : ℕ) → byte_at k n < 256
one_byte zero n = omega arith
one_byte (suc k) n = omega arith

bytes_of_word : (k n : ℕ) → IsBytes (bytes_high_first k n)
bytes_of_word zero n i = omega arith
bytes_of_word (suc k) n zero = one_byte k n
bytes_of_word (suc k) n (suc i) = bytes_of_word k n i

both_bytes : (xs ys : List ℕ) → IsBytes xs → IsBytes ys → IsBytes (xs ++ ys)
both_bytes [] ys h k i = k i
both_bytes (x ∷ xs) ys h k zero = h zero
both_bytes (x ∷ xs) ys h k (suc i) = both_bytes xs ys (λ j. h (suc j)) k i

digest_bytes-IsBytes : (h : List ℕ) (n : ℕ) → IsBytes (digest_bytes h n)
unfolding digest_bytes
digest_bytes-IsBytes h zero i = omega arith
digest_bytes-IsBytes h (suc n) i = both_bytes (digest_bytes h n) (to_be_bytes w32 (slice_index h n)) (digest_bytes-IsBytes h n) (bytes_of_word 4 (slice_index h n)) i

IsBytes-sha256 : (m : List ℕ) → IsBytes (sha256 m)
unfolding sha256
IsBytes-sha256 m = digest_bytes-IsBytes _ 8

least : (n m : ℕ) → min n m ≤ m
least n m = omega arith

pub IsDigest-digest_of : (b : List ℕ) → IsDigest (digest_of b)
unfolding digest_of
IsDigest-digest_of b = record { hash = record { len = length-sha256 b; bytes = IsBytes-sha256 b }; size = least (length b) greatest_size }

-- only the empty blob has the digest of no bytes
pub only_empty : (b : List ℕ) → digest_of b ≡ digest_of [] → b ≡ []
unfolding digest_of
only_empty [] e = refl
only_empty (x ∷ b) e = let sizes : min (length (x ∷ b)) greatest_size ≡ 0 = ap (λ d. d.size) e in absurd (omega arith)

-- ---- Directories have digests

files_digests : (fs : List FileNodeValue) → AllByRecursion IsFileNode fs → AllByRecursion (λ (f : FileNodeValue). IsDigest f.digest) fs
files_digests [] h = tt
files_digests (f ∷ fs) h = (h.0.digest, files_digests fs h.1)

directories_digests : (fs : List DirectoryNodeValue) → AllByRecursion IsDirectoryNode fs → AllByRecursion (λ (f : DirectoryNodeValue). IsDigest f.digest) fs
directories_digests [] h = tt
directories_digests (f ∷ fs) h = (h.0.digest, directories_digests fs h.1)

pub valid_digests : (m : DirectoryValue) → IsDirectory m → HasDigests m
valid_digests m h = record { files = files_digests m.files h.files; directories = directories_digests m.directories h.directories }

pub tree_digests : (t : Tree Leaf) → HasDigests (directory_of (form t))
tree_digests empty = record { files = tt; directories = tt }
tree_digests (leaf n (file c e) rest) = let h = tree_digests rest in record { files = (IsDigest-digest_of c, h.files); directories = h.directories }
tree_digests (leaf n (link t) rest) = let h = tree_digests rest in record { files = h.files; directories = h.directories }
tree_digests (folder n below rest) = let h = tree_digests rest in record { files = h.files; directories = (IsDigest-digest_of (top (form below)), h.directories) }
