-- A look-up name by name, while the source tells more and more.
use Rattle.std.proofs.Common.{◌≡◌, ℕ, suc, ◌+◌, ◌<◌, List, [], ◌∷◌, length, drop, get_or, refl, subst, sym, ◌∙◌, ap, inl, inr, add-one, drop-cons}
use Rattle.std.specs.Prelude.{Option, Some, None, option_map}
use Rattle.blob_digest.specs.Digest.{DigestValue}
use Rattle.messages.specs.declared.node.Node.{Node}
use Rattle.messages.specs.declared.node.Node.TheVariants.{Dir}
use Rattle.messages.specs.DirectoryRules.{DirectoryValue}
use Rattle.messages.specs.Node.{child}
use Rattle.tree.specs.declared.error.TreeError.{TreeError}
use Rattle.tree.specs.declared.error.TreeError.TheVariants.{Absent, BlobMissing, BlobWrong, BlobMalformed, TooDeep, Conflict, Fetch, Memory}
use Rattle.tree.specs.Tree.{Name}
use Rattle.tree.specs.Form.{NodeValue, node_value}
use Rattle.blob_source.specs.Source.{Blobs, Grows, IsUnder}
use Rattle.blob_source.specs.Told.{IsTold, Fault, missing, wrong, malformed, TellsDirectory, FailsDirectory}
use Rattle.tree.specs.Lookup.{Looked, fault, nothing, LooksFrom, Looks}
use Rattle.tree.specs.TreeError.{Explains, ExplainsLookup}
use Rattle.tree.proofs.Children.{child_value}

-- what was told stays told
pub under_still : {B C : Blobs} {d : DigestValue} {bytes : List ℕ} → Grows B C → IsUnder B d (Some bytes) → IsUnder C d (Some bytes)
under_still {B} {C} {d} {bytes} g (inl h) = inl h
under_still {B} {C} {d} {bytes} g (inr h) = inr (h.0, sym (g d bytes (sym h.1)))

pub told_still : {M : Type 0} {keeps : M → Type 0} {spells : M → List ℕ} {B C : Blobs} {d : DigestValue} {m : M} → Grows B C → IsTold keeps spells B d m → IsTold keeps spells C d m
told_still g h = record { valid = h.valid; blob = record { held = under_still g h.blob.held; right = h.blob.right } }

-- a look-up of rest from a node, in what a source tells
abbrev pub LooksOn : Blobs → List Name → Option NodeValue → Looked → Type 0
LooksOn B p o r = LooksFrom (TellsDirectory B) (FailsDirectory B) p o r

-- whatever is told later, a look-up of the rest from here ends the look-up of the whole path
pub record GoesOn (B : Blobs) (d : DigestValue) (p : List Name) (o : Option NodeValue) (rest : List Name) : Type 0 where
  pub ends : (later : Blobs) → Grows B later → (r : Looked) → LooksOn later rest o r → Looks later d p r

pub goes_next : (B C : Blobs) (d e : DigestValue) (p : List Name) (n : Name) (rest : List Name) (m : DirectoryValue) → GoesOn B d p (Some (Dir e)) (n ∷ rest) → Grows B C → TellsDirectory C e m → GoesOn C d p (child n m) rest
goes_next B C d e p n rest m goes grows told = record { ends = λ later g r h. goes.ends later (λ f b q. g f b (grows f b q)) r (inl (m, told_still g told, h)) }

pub goes_at : (B C : Blobs) (d e : DigestValue) (p : List Name) (i : ℕ) (x : Name) (m : DirectoryValue) (o : Option NodeValue) → i < length p → GoesOn B d p (Some (Dir e)) (drop i p) → Grows B C → TellsDirectory C e m → o ≡ child (get_or p i x) m → GoesOn C d p o (drop (i + 1) p)
goes_at B C d e p i x m o lt goes grows told is =
    let split : drop i p ≡ get_or p i x ∷ drop (i + 1) p = rw (add-one, drop-cons p i x lt) in
    rw is (goes_next B C d e p (get_or p i x) (drop (i + 1) p) m (subst (GoesOn B d p (Some (Dir e))) split goes) grows told)

pub goes_nowhere : (B : Blobs) (d : DigestValue) (p rest : List Name) → GoesOn B d p None rest → Looks B d p nothing
goes_nowhere B d p rest goes = goes.ends B (λ e b h. h) nothing refl

pub goes_wrong : {A : Type 0} (B C : Blobs) (d e : DigestValue) (p : List Name) (i : ℕ) (why : TreeError A) → i < length p → GoesOn B d p (Some (Dir e)) (drop i p) → Grows B C → Explains (FailsDirectory C e) why → ExplainsLookup C d p why
goes_wrong {A} B C d e p i why lt goes grows h = by why h
  where
    split : drop i p ≡ get_or p i [] ∷ drop (suc i) p
    split = drop-cons p i [] lt

    stands : (f : Fault) → FailsDirectory C e f → Looks C d p (fault f)
    stands f h = goes.ends C grows (fault f) (rw split (inr (f, h, refl)))

    by : (why : TreeError A) → Explains (FailsDirectory C e) why → ExplainsLookup C d p why
    by (Absent path) h = elim h [ ]
    by (BlobMissing f) h = stands (missing f) h
    by (BlobWrong f) h = stands (wrong f) h
    by (BlobMalformed f) h = stands (malformed f) h
    by (TooDeep path) h = elim h [ ]
    by (Conflict path) h = elim h [ ]
    by Fetch h = tt
    by Memory h = tt

-- a node that is a directory
pub goes_dir : {A : Type 0} (B : Blobs) (d e : DigestValue) (p rest : List Name) (x : Node A) → x ≡ Dir e → GoesOn B d p (Some (node_value x)) rest → GoesOn B d p (Some (Dir e)) rest
goes_dir B d e p rest x is goes = subst (λ y. GoesOn B d p (Some (node_value y)) rest) is goes

-- the child that was found, or none
pub goes_child : {A : Type 0} (B C : Blobs) (d e : DigestValue) (p : List Name) (i : ℕ) (x : Name) (m : DirectoryValue) (o : Option (Node A)) → i < length p → GoesOn B d p (Some (Dir e)) (drop i p) → Grows B C → TellsDirectory C e m
    → x ≡ get_or p i x → o ≡ child x m → GoesOn C d p (option_map node_value o) (drop (i + 1) p)
goes_child {A} B C d e p i x m o lt goes grows told is child_is =
    goes_at B C d e p i x m (option_map node_value o) lt goes grows told (ap (option_map node_value) child_is ∙ child_value A x m ∙ ap (λ n. child n m) is)
