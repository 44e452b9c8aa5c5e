-- There is always an answer: what stands under a digest, what a look-up comes to, and which Directory is read. The logic has
-- no excluded middle, so that there is one is said as: it can't be that there is none.
use Rattle.std.proofs.Common.{◌≡◌, ℕ, zero, suc, arith, List, [], ◌∷◌, refl, ap, sym, ◌∙◌, subst, inl, inr}
use Rattle.std.specs.Prelude.{Option, Some, None, Contains}
use Rattle.std.specs.List.{AllByRecursion}
use Rattle.blob_digest.specs.Digest.{DigestValue, digest_of}
use Rattle.messages.specs.declared.node.Node.TheVariants.{File, Link, Dir}
use Rattle.messages.specs.DirectoryRules.{DirectoryValue, IsDirectory}
use Rattle.messages.specs.Directory.{directory_bytes}
use Rattle.messages.specs.DirectoryNode.{IsDirectoryNode}
use Rattle.messages.specs.FileNode.{IsFileNode}
use Rattle.messages.specs.SymlinkNode.{IsSymlinkNode}
use Rattle.messages.specs.Node.{child, IsChild}
use Rattle.messages.proofs.Children.{child_stands}
use Rattle.tree.specs.Folded.{IsNode}
use Rattle.tree.specs.Tree.{Name}
use Rattle.tree.specs.Form.{NodeValue}
use Rattle.blob_source.specs.Source.{Blobs, IsUnder}
use Rattle.blob_source.specs.Told.{Fault, missing, wrong, malformed, IsTold, IsFault, TellsDirectory, FailsDirectory}
use Rattle.tree.specs.Lookup.{Looked, fault, nothing, found, LooksFrom, Looks}

-- ---- a message under a digest

under : (B : Blobs) (d : DigestValue) → ((x : Option (List ℕ)) → IsUnder B d x → ⊥) → ⊥
under B d k = k (B d) (inr ((λ e. k (Some []) (inl (e, refl))), refl))

module _ {M : Type 0} (keeps : M → Type 0) (spells : M → List ℕ) (B : Blobs) (d : DigestValue) where
  -- a message is told, or there is a fault
  pub told_or_faulty : ((m : M) → IsTold keeps spells B d m → ⊥) → ((f : Fault) → IsFault keeps spells B d f → ⊥) → ⊥
  told_or_faulty told fails = under B d by
    where
      by : (x : Option (List ℕ)) → IsUnder B d x → ⊥
      by None h = fails (missing d) (refl, h)
      by (Some b) h = fails (wrong d) (
        refl,
        record {
          bytes = b;
          held = h;
          other = λ right. fails (malformed d) (
            refl,
            record {
              bytes = b;
              blob = record { held = h; right = right };
              no_message = λ m valid is. told m (record { valid = valid; blob = record { held = subst (λ x. IsUnder B d (Some x)) is h; right = ap digest_of (sym is) ∙ right } });
            },
          );
        },
      )

-- ---- look-ups

-- where at each node that is a directory its Directory is read, or there is a fault, and its children are such nodes again
module _ (Reads : DigestValue → DirectoryValue → Type 0) (Fails : DigestValue → Fault → Type 0) (Fine : Option NodeValue → Type 0)
    (reads : (d : DigestValue) → Fine (Some (Dir d)) → ((m : DirectoryValue) → Reads d m → ((n : Name) → Fine (child n m)) → ⊥) → ((f : Fault) → Fails d f → ⊥) → ⊥) where
  pub looks_on : (p : List Name) (o : Option NodeValue) → Fine o → ((r : Looked) → LooksFrom Reads Fails p o r → ⊥) → ⊥
  looks_on p None fine k = k nothing refl
  looks_on [] (Some x) fine k = k (found x) refl
  looks_on (n ∷ p) (Some (File d executable)) fine k = k nothing refl
  looks_on (n ∷ p) (Some (Link target)) fine k = k nothing refl
  looks_on (n ∷ p) (Some (Dir d)) fine k =
      reads d fine (λ m h children. looks_on p (child n m) (children n) (λ r rest. k r (inl (m, h, rest)))) (λ f h. k (fault f) (inr (f, h, refl)))

pub looks_total : (B : Blobs) (d : DigestValue) (p : List Name) → ((r : Looked) → Looks B d p r → ⊥) → ⊥
looks_total B d p k =
    looks_on (TellsDirectory B) (FailsDirectory B) (λ o. Unit {0}) (λ e fine told fails. told_or_faulty IsDirectory directory_bytes B e (λ m h. told m h (λ n. tt)) fails) p (Some (Dir d)) tt k

-- ---- what is found keeps its rules

all_in : {X : Type 0} (P : X → Type 0) (xs : List X) (x : X) → AllByRecursion P xs → Contains xs x → P x
all_in P [] x all (k, lt, e) = absurd (omega arith)
all_in P (y ∷ xs) x all (zero, lt, e) = subst P e all.0
all_in P (y ∷ xs) x all (suc k, lt, e) = all_in P xs x all.1 (k, omega (arith, lt), e)

child_kept : (m : DirectoryValue) → IsDirectory m → (n : Name) (x : NodeValue) → IsChild {A = Unit {0}} n m (Some x) → IsNode x
child_kept m h n (File d executable) here = (all_in IsFileNode m.files _ h.files here).digest
child_kept m h n (Dir d) here = (all_in IsDirectoryNode m.directories _ h.directories here).digest
child_kept m h n (Link target) here = (all_in IsSymlinkNode m.symlinks _ h.symlinks here).target

pub child_valid : (m : DirectoryValue) → IsDirectory m → (n : Name) (x : NodeValue) → child n m ≡ Some x → IsNode x
child_valid m h n x is = child_kept m h n x (subst (IsChild {A = Unit {0}} n m) is (child_stands (Unit {0}) n m))

module _ (Reads : DigestValue → DirectoryValue → Type 0) (Fails : DigestValue → Fault → Type 0) (valid : (d : DigestValue) (m : DirectoryValue) → Reads d m → IsDirectory m) where
  pub looks_valid : (p : List Name) (o : Option NodeValue) → ((x : NodeValue) → o ≡ Some x → IsNode x) → (y : NodeValue) → LooksFrom Reads Fails p o (found y) → IsNode y
  looks_valid p None is y e = absurd cc
  looks_valid [] (Some x) is y e = let same : y ≡ x = cc in subst IsNode (sym same) (is x refl)
  looks_valid (n ∷ p) (Some (File d executable)) is y e = absurd cc
  looks_valid (n ∷ p) (Some (Link target)) is y e = absurd cc
  looks_valid (n ∷ p) (Some (Dir d)) is y (inl h) = looks_valid p (child n h.0) (child_valid h.0 (valid d h.0 h.1) n) y h.2
  looks_valid (n ∷ p) (Some (Dir d)) is y (inr h) = absurd (let e = h.2 in cc)
