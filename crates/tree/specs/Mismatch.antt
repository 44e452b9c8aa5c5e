-- The first path at which two directories differ, and what each has there, by the Directories that
-- are known.
use Rattle.std.specs.Prelude.{◌≡◌, ◌≢◌, ◌⊎◌, ℕ, zero, suc, List, [], ◌∷◌, ◌++◌, Option, Some, None}
use Rattle.std.specs.Option.{option_map}
use Rattle.blob_digest.specs.Digest.{DigestValue}
use Rattle.messages.specs.declared.node.Node.TheVariants.{Dir}
use Rattle.messages.specs.DirectoryRules.{DirectoryValue, IsDirectory}
use Rattle.messages.specs.Directory.{directory_bytes}
use Rattle.tree.specs.Difference.{IsFirstOf, IsFirstName, child_of}
use Rattle.tree.specs.Form.{NodeValue, node_value}
use Rattle.tree.specs.Lookup.{Looked, found, nothing}
use Rattle.tree.specs.Tree.{Name}
use Rattle.tree.specs.TrueDifference.{StandFirst}
use Rattle.tree.specs.declared.mismatch.Mismatch.{Mismatch}

-- what two directories have at a path
pub record MismatchValue : Type 0 where
  pub path : List Name
  pub here : Option NodeValue
  pub there : Option NodeValue

-- the Directory of a digest, where its encoding is a known one
abbrev pub IsKnownAs : List (List ℕ) → DigestValue → DirectoryValue → Type 0
IsKnownAs known d m = IsDirectory m × IsFirstOf known d (directory_bytes m)

-- What differs at a path: two directories there are compared in turn, and differ as such where one
-- of their Directories isn't known.
abbrev pub IsMismatchAt : List Name → Option NodeValue → Option NodeValue
    → (DigestValue → DigestValue → Option MismatchValue → Type 0) → MismatchValue → Type 0
IsMismatchAt path (Some (Dir g)) (Some (Dir r)) Next unlike = Next g r (Some unlike)
    ⊎ (Next g r None × (unlike ≡ record { path = path; here = Some (Dir g); there = Some (Dir r) }))
IsMismatchAt path here there Next unlike =
    unlike ≡ record { path = path; here = here; there = there }

-- What differs first between two directories at a path, below which paths may have `deeper` more
-- names: at the least name under which their Directories don't have the same, where both are known.
abbrev pub FirstMismatch : List (List ℕ) → ℕ → List Name → DigestValue → DigestValue
    → Option MismatchValue → Type 0
FirstMismatch known zero path g r unlike = unlike ≡ None
FirstMismatch known (suc deeper) path g r None =
    (k m : DirectoryValue) → IsKnownAs known g k → IsKnownAs known r m → ⊥
FirstMismatch known (suc deeper) path g r (Some unlike) =
    (k m : DirectoryValue) × IsKnownAs known g k × IsKnownAs known r m
    × (n : Name) × IsFirstName k m n
    × IsMismatchAt (path ++ n ∷ []) (child_of n k) (child_of n m)
    (λ d e next. FirstMismatch known deeper (path ++ n ∷ []) d e next) unlike

-- ---- what it says, by look-ups

abbrev pub what_is : Option NodeValue → Looked
what_is None = nothing
what_is (Some x) = found x

-- Look-ups in the known Directories come to what the two have at the path, which isn't the same,
-- and at each path before it, in the order of paths, to one answer, or to directories.
pub record IsTrueMismatch (known : List (List ℕ)) (g r : DigestValue) (x : MismatchValue)
    : Type 0 where
  pub other : x.here ≢ x.there
  pub first : StandFirst known (λ d. None) g r x.path (what_is x.here) (what_is x.there)

-- ---- what the code keeps

-- the two aren't directories both
abbrev pub AreNoDirectories : Option NodeValue → Option NodeValue → Type 0
AreNoDirectories here there =
    (d e : DigestValue) → here ≡ Some (Dir d) → there ≡ Some (Dir e) → ⊥

abbrev pub mismatch_value : {A : Type 0} → Mismatch A → MismatchValue
mismatch_value x = record {
  path = x.path;
  here = option_map node_value x.here;
  there = option_map node_value x.there;
}
