-- What a source tells determines what look-ups come to.
use Rattle.std.proofs.Common.{◌≡◌, ℕ, List, [], ◌∷◌, ap, sym, ◌∙◌, subst, inl, inr}
use Rattle.std.specs.Prelude.{Option, Some, None}
use Rattle.blob_digest.specs.Digest.{DigestValue, digest_of}
use Rattle.messages.specs.declared.node.Node.TheVariants.{File, Link, Dir}
use Rattle.messages.specs.DirectoryRules.{DirectoryValue, IsDirectory}
use Rattle.messages.specs.Directory.{directory_bytes}
use Rattle.messages.specs.Node.{child}
use Rattle.tree.specs.Tree.{Name}
use Rattle.tree.specs.Form.{NodeValue}
use Rattle.blob_source.specs.Source.{Blobs, IsUnder}
use Rattle.blob_source.specs.Told.{IsTold, Fault, missing, wrong, malformed, IsFault, TellsDirectory, FailsDirectory}
use Rattle.tree.specs.Lookup.{Looked, fault, LooksFrom, Looks}
use Rattle.tree.proofs.DirectoryBytes.{directory_bytes_injective}
use Rattle.tree.proofs.TreeDigests.{valid_digests}

under_once : (B : Blobs) (d : DigestValue) (x y : Option (List ℕ)) → IsUnder B d x → IsUnder B d y → x ≡ y
under_once B d x y (inl h) (inl k) = h.1 ∙ sym k.1
under_once B d x y (inl h) (inr k) = absurd (k.0 h.0)
under_once B d x y (inr h) (inl k) = absurd (h.0 k.0)
under_once B d x y (inr h) (inr k) = h.1 ∙ sym k.1

pub bytes_once : (B : Blobs) (d : DigestValue) (x y : List ℕ) → IsUnder B d (Some x) → IsUnder B d (Some y) → x ≡ y
bytes_once B d x y h k = let same : ◌≡◌ {A = Option (List ℕ)} (Some x) (Some y) = under_once B d (Some x) (Some y) h k in cc

none_there : (B : Blobs) (d : DigestValue) (x : List ℕ) → IsUnder B d None → IsUnder B d (Some x) → ⊥
none_there B d x h k = let same : ◌≡◌ {A = Option (List ℕ)} None (Some x) = under_once B d None (Some x) h k in cc

pub told_once : (B : Blobs) (d : DigestValue) (m n : DirectoryValue) → TellsDirectory B d m → TellsDirectory B d n → m ≡ n
told_once B d m n h k = directory_bytes_injective m n (valid_digests m h.valid) (valid_digests n k.valid) (bytes_once B d (directory_bytes m) (directory_bytes n) h.blob.held k.blob.held)

-- a message and a fault exclude each other
pub told_or_fault : {M : Type 0} (keeps : M → Type 0) (spells : M → List ℕ) (B : Blobs) (d : DigestValue) (m : M) (f : Fault) → IsTold keeps spells B d m → IsFault keeps spells B d f → ⊥
told_or_fault keeps spells B d m (missing e) h k = none_there B d (spells m) k.1 h.blob.held
told_or_fault keeps spells B d m (wrong e) h k = k.1.other (subst (λ x. digest_of x ≡ d) (bytes_once B d (spells m) k.1.bytes h.blob.held k.1.held) h.blob.right)
told_or_fault keeps spells B d m (malformed e) h k = k.1.no_message m h.valid (bytes_once B d k.1.bytes (spells m) k.1.blob.held h.blob.held)

-- a digest has one fault
pub fault_once : {M : Type 0} (keeps : M → Type 0) (spells : M → List ℕ) (B : Blobs) (d : DigestValue) (f g : Fault) → IsFault keeps spells B d f → IsFault keeps spells B d g → f ≡ g
fault_once keeps spells B d (missing e) (missing f) h k = ap missing (h.0 ∙ sym k.0)
fault_once keeps spells B d (missing e) (wrong f) h k = absurd (none_there B d k.1.bytes h.1 k.1.held)
fault_once keeps spells B d (missing e) (malformed f) h k = absurd (none_there B d k.1.bytes h.1 k.1.blob.held)
fault_once keeps spells B d (wrong e) (missing f) h k = absurd (none_there B d h.1.bytes k.1 h.1.held)
fault_once keeps spells B d (wrong e) (wrong f) h k = ap wrong (h.0 ∙ sym k.0)
fault_once keeps spells B d (wrong e) (malformed f) h k = absurd (h.1.other (subst (λ x. digest_of x ≡ d) (bytes_once B d k.1.bytes h.1.bytes k.1.blob.held h.1.held) k.1.blob.right))
fault_once keeps spells B d (malformed e) (missing f) h k = absurd (none_there B d h.1.bytes k.1 h.1.blob.held)
fault_once keeps spells B d (malformed e) (wrong f) h k = absurd (k.1.other (subst (λ x. digest_of x ≡ d) (bytes_once B d h.1.bytes k.1.bytes h.1.blob.held k.1.held) h.1.blob.right))
fault_once keeps spells B d (malformed e) (malformed f) h k = ap malformed (h.0 ∙ sym k.0)

looks_once_from : (B : Blobs) (p : List Name) (o : Option NodeValue) (r s : Looked) → LooksFrom (TellsDirectory B) (FailsDirectory B) p o r → LooksFrom (TellsDirectory B) (FailsDirectory B) p o s → r ≡ s
looks_once_from B p None r s h k = h ∙ sym k
looks_once_from B [] (Some (File d e)) r s h k = h ∙ sym k
looks_once_from B [] (Some (Link t)) r s h k = h ∙ sym k
looks_once_from B [] (Some (Dir d)) r s h k = h ∙ sym k
looks_once_from B (n ∷ p) (Some (File d e)) r s h k = h ∙ sym k
looks_once_from B (n ∷ p) (Some (Link t)) r s h k = h ∙ sym k
looks_once_from B (n ∷ p) (Some (Dir d)) r s (inl h) (inl k) =
    looks_once_from B p (child n h.0) r s h.2 (subst (λ m. LooksFrom (TellsDirectory B) (FailsDirectory B) p (child n m) s) (told_once B d k.0 h.0 k.1 h.1) k.2)
looks_once_from B (n ∷ p) (Some (Dir d)) r s (inl h) (inr k) = absurd (told_or_fault IsDirectory directory_bytes B d h.0 k.0 h.1 k.1)
looks_once_from B (n ∷ p) (Some (Dir d)) r s (inr h) (inl k) = absurd (told_or_fault IsDirectory directory_bytes B d k.0 h.0 k.1 h.1)
looks_once_from B (n ∷ p) (Some (Dir d)) r s (inr h) (inr k) = h.2 ∙ ap fault (fault_once IsDirectory directory_bytes B d h.0 k.0 h.1 k.1) ∙ sym k.2

pub looks_once : (B : Blobs) (d : DigestValue) (p : List Name) (r s : Looked) → Looks B d p r → Looks B d p s → r ≡ s
looks_once B d p r s h k = looks_once_from B p (Some (Dir d)) r s h k
