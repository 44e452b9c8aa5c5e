-- What a look-up by digests tells of a tree with that root.
use Rattle.std.proofs.Common.{◌≡◌, ℕ, List, [], ◌∷◌, refl, ap, sym, ◌∙◌, subst, true, false, cond, inl, inr}
use Rattle.std.specs.Prelude.{◌⊎◌, Option, Some, None, option_map}
use Rattle.std.specs.Ordering.{eq_by_cmp}
use Rattle.blob_digest.specs.Digest.{DigestValue, NoClash}
use Rattle.messages.specs.DirectoryRules.{DirectoryValue}
use Rattle.messages.specs.Directory.{directory_bytes}
use Rattle.messages.specs.Node.{child}
use Rattle.tree.specs.Tree.{Name, name_cmp, Tree, empty, leaf, folder, Entry, single, whole, entry_of, below_entry, tree_at, IsOrdered, Leaf, file, link}
use Rattle.tree.specs.Form.{NodeValue, form, directory_of, top, root, entry_node, IsContent, IsBlobBelow, IsBlobOf}
use Rattle.blob_source.specs.Source.{Blobs, IsUnder}
use Rattle.blob_source.specs.Told.{Fault, TellsDirectory, FailsDirectory}
use Rattle.tree.specs.Lookup.{Looked, nothing, LooksFrom, Looks, IsValue, AgreesWith}
use Rattle.tree.proofs.OrderLemmas.{IsOrderedAt, entry_ordered}
use Rattle.tree.proofs.Children.{child-directory_of}
use Rattle.tree.proofs.DirectoryBytes.{directory_bytes_injective}
use Rattle.tree.proofs.TreeDigests.{valid_digests, tree_digests, only_empty}

-- what is told under a tree's root is the tree's Directory
pub told_root : (B : Blobs) (t : Tree Leaf) (S : List ℕ → Type 0) (m : DirectoryValue) → ((b : List ℕ) → IsValue B b → S b) → S (top (form t)) → NoClash S → TellsDirectory B (root (form t)) m → m ≡ directory_of (form t)
told_root B t S m values own apart told =
    directory_bytes_injective m (directory_of (form t)) (valid_digests m told.valid) (tree_digests t) (held told.blob.held)
  where
    held : IsUnder B (root (form t)) (Some (directory_bytes m)) → directory_bytes m ≡ top (form t)
    held (inl h) =
        let none : directory_bytes m ≡ [] = (let found : ◌≡◌ {A = Option (List ℕ)} (Some (directory_bytes m)) (Some []) = h.1 in cc) in
        none ∙ sym (only_empty (top (form t)) h.0)
    held (inr h) = apart (directory_bytes m) (top (form t)) (values (directory_bytes m) (root (form t), sym h.1)) own told.blob.right

-- the blobs of what a tree has at a path
abbrev pub IsBlobOfEntry : Option (Entry Leaf) → List ℕ → Type 0
IsBlobOfEntry None b = ⊥
IsBlobOfEntry (Some (single x)) b = IsContent x b
IsBlobOfEntry (Some (whole t)) b = IsBlobOf t b

pub entry_blobs : (n : Name) (t : Tree Leaf) (b : List ℕ) → IsBlobOfEntry (entry_of n t) b → IsBlobBelow t b
entry_blobs n empty b = λ h. h
entry_blobs n (leaf m x rest) b = elim (eq_by_cmp name_cmp n m) as (λ q. IsBlobOfEntry (cond q (Some (single x)) (entry_of n rest)) b → IsBlobBelow (leaf m x rest) b) [
  | true ↦ λ h. inl h
  | false ↦ λ h. inr (entry_blobs n rest b h)
]
entry_blobs n (folder m below rest) b = elim (eq_by_cmp name_cmp n m) as (λ q. IsBlobOfEntry (cond q (Some (whole below)) (entry_of n rest)) b → IsBlobBelow (folder m below rest) b) [
  | true ↦ λ h. inl h
  | false ↦ λ h. inr (entry_blobs n rest b h)
]

none_below : (p : List Name) → below_entry {L = Leaf} p None ≡ None
none_below [] = refl
none_below (n ∷ p) = refl

tells_nothing : (o : Option NodeValue) (r : Looked) → o ≡ None → r ≡ nothing → AgreesWith o r
tells_nothing o r h e = rw e h

-- Directories are read so that the one under the digest of a tree is the tree's own.
abbrev pub ReadsTrees : (List ℕ → Type 0) → (DigestValue → DirectoryValue → Type 0) → Type 0
ReadsTrees S Reads = (t : Tree Leaf) (m : DirectoryValue) → S (top (form t)) → Reads (root (form t)) m → m ≡ directory_of (form t)

-- a look-up from the form of an entry tells what stands below that entry
pub looks_from : (Reads : DigestValue → DirectoryValue → Type 0) (Fails : DigestValue → Fault → Type 0) (S : List ℕ → Type 0) → ReadsTrees S Reads
    → (p : List Name) (o : Option (Entry Leaf)) (r : Looked) → IsOrderedAt o → ((b : List ℕ) → IsBlobOfEntry o b → S b)
    → LooksFrom Reads Fails p (option_map entry_node o) r → AgreesWith (option_map entry_node (below_entry p o)) r
looks_from Reads Fails S reads p None r ordered own h = tells_nothing _ r (ap (option_map entry_node) (none_below p)) h
looks_from Reads Fails S reads [] (Some (single (file c x))) r ordered own h = rw h refl
looks_from Reads Fails S reads [] (Some (single (link t))) r ordered own h = rw h refl
looks_from Reads Fails S reads [] (Some (whole t)) r ordered own h = rw h refl
looks_from Reads Fails S reads (n ∷ p) (Some (single (file c x))) r ordered own h = rw h refl
looks_from Reads Fails S reads (n ∷ p) (Some (single (link t))) r ordered own h = rw h refl
looks_from Reads Fails S reads (n ∷ p) (Some (whole t)) r ordered own (inr h) = rw h.2 tt
looks_from Reads Fails S reads (n ∷ p) (Some (whole t)) r ordered own (inl h) =
    let same = reads t h.0 (own (top (form t)) (inl refl)) h.1 in
    let rest : LooksFrom Reads Fails p (option_map entry_node (entry_of n t)) r = subst (λ o. LooksFrom Reads Fails p o r) (ap (child n) same ∙ child-directory_of n t ordered) h.2 in
    looks_from Reads Fails S reads p (entry_of n t) r (entry_ordered n t ordered) (λ b q. own b (inr (entry_blobs n t b q))) rest

-- what a source tells is read so
pub told_reads : (B : Blobs) (S : List ℕ → Type 0) → ((b : List ℕ) → IsValue B b → S b) → NoClash S → ReadsTrees S (TellsDirectory B)
told_reads B S values apart t m own told = told_root B t S m values own apart told

-- a look-up from a tree's root tells what the tree has
pub looks_tell : (B : Blobs) (p : List Name) (r : Looked) (t : Tree Leaf) → IsOrdered t → NoClash (λ b. IsValue B b ⊎ IsBlobOf t b) → Looks B (root (form t)) p r → AgreesWith (option_map entry_node (tree_at t p)) r
looks_tell B p r t ordered apart h =
    let S : List ℕ → Type 0 = λ b. IsValue B b ⊎ IsBlobOf t b in
    looks_from (TellsDirectory B) (FailsDirectory B) S (told_reads B S (λ b q. inl q) apart) p (Some (whole t)) r ordered (λ b q. inr q) h
