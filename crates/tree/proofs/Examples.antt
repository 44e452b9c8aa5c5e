-- What meets the premises of the laws: a tree of one file, told and listed, a digest under which nothing is told, and lines apart.
use Rattle.std.proofs.Common.{◌≡◌, ◌≢◌, ℕ, suc, List, [], ◌∷◌, refl, ap, sym, ◌∙◌, inl, inr, Bool}
use Rattle.std.specs.Prelude.{◌⊎◌, None, Some}
use Rattle.std.specs.Str.{is_utf8, chars}
use Rattle.blob_digest.specs.Digest.{NoClash, digest_of, empty_digest}
use Rattle.messages.specs.Name.{IsName}
use Rattle.messages.proofs.Names.{IsName-from}
use Rattle.messages.specs.Path.{IsApart}
use Rattle.blob_source.specs.Source.{Blobs}
use Rattle.blob_source.specs.Told.{missing, FailsDirectory}
use Rattle.tree.specs.Tree.{Name, Tree, empty, leaf, Leaf, file, IsOrdered}
use Rattle.tree.specs.declared.folding.Folded.{Folded}
use Rattle.tree.specs.FlatTree.{IsListOf, IsFoldOfList, listed}
use Rattle.tree.specs.Folded.{IsFoldOf}
use Rattle.tree.specs.Form.{form, top, root, directory_of, no_children, IsBlobOf}
use Rattle.tree.specs.Difference.{Finds, FindsFirst, unread}
use Rattle.tree.specs.Graft.{HaveApartTargets}
use Rattle.tree.specs.Unfolded.{IsUnfolded}
use Rattle.tree.proofs.DirectoryBytes.{directory_bytes_injective}
use Rattle.tree.proofs.MergeExample.{no_bytes}
use Rattle.tree.proofs.TreeDigests.{only_empty, tree_digests, IsDigest-digest_of}
use Rattle.tree.proofs.ValidTrees.{valid_directory}

pub a : Name
a = 97 ∷ []

-- ---- trees

-- an empty file
pub one_file : Bool → Tree Leaf
one_file executable = leaf a (file [] executable) empty

pub one_ordered : (x : Bool) → IsOrdered (one_file x)
unfolding one_file
one_ordered x = (tt, tt)

blob_is : (x : Bool) (b : List ℕ) → IsBlobOf (one_file x) b → (b ≡ top (form (one_file x))) ⊎ (b ≡ [])
unfolding one_file
blob_is x b (inl own) = inl own
blob_is x b (inr (inl content)) = inr content
blob_is x b (inr (inr below)) = absurd below

pub one_apart : (x : Bool) → NoClash (λ b. IsBlobOf (one_file x) b ⊎ IsBlobOf (one_file x) b)
one_apart x b c h k same = by (is b h) (is c k)
  where
    is : (b : List ℕ) → IsBlobOf (one_file x) b ⊎ IsBlobOf (one_file x) b → (b ≡ top (form (one_file x))) ⊎ (b ≡ [])
    is b (inl h) = blob_is x b h
    is b (inr h) = blob_is x b h

    by : (b ≡ top (form (one_file x))) ⊎ (b ≡ []) → (c ≡ top (form (one_file x))) ⊎ (c ≡ []) → b ≡ c
    by (inl p) (inl q) = p ∙ sym q
    by (inr p) (inr q) = p ∙ sym q
    by (inl p) (inr q) = only_empty b (same ∙ ap digest_of q) ∙ sym q
    by (inr p) (inl q) = p ∙ sym (only_empty c (sym same ∙ ap digest_of p))

-- ---- what is told

pub no_blobs : Blobs
no_blobs d = None

pub one_missing : FailsDirectory no_blobs (digest_of a) (missing (digest_of a))
unfolding no_blobs a
one_missing = (refl, inr (other, refl))
  where
    some : (x : ℕ) (xs : List ℕ) → x ∷ xs ≡ [] → ⊥
    some x xs e = cc

    other : digest_of (97 ∷ []) ≢ digest_of []
    other same = some 97 [] (only_empty (97 ∷ []) same)

pub one_unread : FindsFirst [] no_blobs empty_digest (digest_of a) (unread (missing (digest_of a)))
one_unread = at 63
  where
    at : (k : ℕ) → Finds [] no_blobs (suc k) [] empty_digest (digest_of a) (unread (missing (digest_of a)))
    at k = inl (missing (digest_of a), (tt, one_missing), refl)

-- ---- a tree that is told, and its list

-- its Directory is told under every digest, right or wrong
pub always_one : Bool → Blobs
always_one x d = Some (top (form (one_file x)))

a_name : IsName (97 ∷ [])
unfolding is_utf8 chars lib.Utf8.encode
a_name = IsName-from (97 ∷ []) refl

one_list : (x : Bool) → IsListOf (listed (form (one_file x))) (form (one_file x))
unfolding one_file
one_list x = record { ordered = (tt, tt); listing = refl }

one_some : (x : Bool) → top (form (one_file x)) ≢ []
unfolding one_file
one_some x none =
    let same = directory_bytes_injective (directory_of (form (one_file x))) no_children (tree_digests (one_file x)) (tree_digests empty) (none ∙ sym no_bytes) in
    let files = ap (λ m. m.files) same in
    cc

pub one_unfolded : (x : Bool) → IsUnfolded (always_one x) (root (form (one_file x))) (listed (form (one_file x)))
unfolding one_file always_one a
one_unfolded x = record {
  tree = form (one_file x);
  list = one_list x;
  told = record {
    root = refl;
    top = record {
      valid = valid_directory (form (one_file x)) (tt, tt) ((a_name, IsDigest-digest_of []), tt);
      blob = record { held = inr ((λ same. one_some x (only_empty (top (form (one_file x))) same)), refl); right = refl };
    };
    below = tt;
  };
}

-- and it is folded, in whatever memory
pub one_folded : {A : Type 0} (x : Bool) (f : Folded A) → IsFoldOf (form (one_file x)) f → IsFoldOfList (listed (form (one_file x))) f
one_folded x f fold = record { tree = form (one_file x); list = one_list x; fold = fold }

-- ---- lines whose targets don't overlap

pub ab : Name
ab = 97 ∷ 98 ∷ []

a_apart : IsApart (a ∷ []) (ab ∷ [])
unfolding a ab
a_apart (inl same) = cc
a_apart (inr (inl (n, rest, under))) = cc
a_apart (inr (inr (n, rest, under))) = cc

pub apart_lines : {X : Type 0} (x y : X) → HaveApartTargets ((a ∷ [], x) ∷ (ab ∷ [], y) ∷ [])
apart_lines x y = ((λ e. cc), (a_apart, tt), ((λ e. cc), tt, tt))
