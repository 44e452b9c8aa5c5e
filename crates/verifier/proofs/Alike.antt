-- Two sources that tell the same wherever something is looked at: what is told under a digest, what a look-up finds, and checks
-- one after another.
use Rattle.std.proofs.Common.{◌≡◌, ◌≢◌, ◌∙◌, ℕ, List, [], ◌∷◌, Option, Some, None, inl, inr, refl, sym}
use Rattle.std.specs.Prelude.{◌⊎◌, ◌↔◌}
use Rattle.blob_digest.specs.Digest.{DigestValue, empty_digest}
use Rattle.messages.specs.Directory.{directory_bytes}
use Rattle.messages.specs.DirectoryRules.{DirectoryValue, IsDirectory}
use Rattle.messages.specs.Node.{child}
use Rattle.messages.specs.declared.node.Node.TheVariants.{Dir, File, Link}
use Rattle.blob_source.specs.Source.{Blobs, IsUnder}
use Rattle.blob_source.specs.Told.{FailsDirectory, Fault, IsFault, IsTold, TellsDirectory, malformed, missing, wrong}
use Rattle.tree.proofs.StageLaws.{looks_here, looks_next}
use Rattle.tree.specs.Form.{NodeValue}
use Rattle.tree.specs.Lookup.{Looked, LooksFrom}
use Rattle.tree.specs.LooksAt.{OnWayFrom}
use Rattle.tree.specs.Memo.{Asked, LooksAtBlob, blob}
use Rattle.tree.specs.MergeLooks.{looks}
use Rattle.tree.specs.Stage.{Stage, ◌and_then◌}
use Rattle.tree.specs.Tree.{Name}

-- ---- both ways

pub same_way : {P : Type 0} → (P ↔ P)
same_way = ((λ h. h), (λ h. h))

pub either_way : {P Q R S : Type 0} → (P ↔ R) → (Q ↔ S) → ((P ⊎ Q) ↔ (R ⊎ S))
either_way {P} {Q} {R} {S} h k = (fore, back)
  where
    fore : P ⊎ Q → R ⊎ S
    fore (inl p) = inl (h.0 p)
    fore (inr q) = inr (k.0 q)

    back : R ⊎ S → P ⊎ Q
    back (inl r) = inl (h.1 r)
    back (inr s) = inr (k.1 s)

-- what holds of a value, and then of what comes after it
pub after_way : {V : Type 0} {Is Was Next Last : V → Type 0} → ((v : V) → (Is v ↔ Was v)) → ((v : V) → Is v → (Next v ↔ Last v)) → (((v : V) × Is v × Next v) ↔ ((v : V) × Was v × Last v))
after_way h k = ((λ p. (p.0, (h p.0).0 p.1, (k p.0 p.1).0 p.2)), (λ p. let is = (h p.0).1 p.1 in (p.0, is, (k p.0 is).1 p.2)))

-- where it is the same of both
pub there_way : {V : Type 0} {Is Next Last : V → Type 0} → ((v : V) → Is v → (Next v ↔ Last v)) → (((v : V) × Is v × Next v) ↔ ((v : V) × Is v × Last v))
there_way k = ((λ p. (p.0, p.1, (k p.0 p.1).0 p.2)), (λ p. (p.0, p.1, (k p.0 p.1).1 p.2)))

-- where it is so of two values, one after the other
pub after_two_way : {V W : Type 0} {Is Was : V → Type 0} {At : V → W → Type 0} {Next Last : V → W → Type 0} → ((v : V) → (Is v ↔ Was v)) → ((v : V) → Is v → (w : W) → At v w → (Next v w ↔ Last v w))
    → (((v : V) × Is v × (w : W) × At v w × Next v w) ↔ ((v : V) × Was v × (w : W) × At v w × Last v w))
after_two_way h k = ((λ p. (p.0, (h p.0).0 p.1, p.2, p.3, (k p.0 p.1 p.2 p.3).0 p.4)), (λ p. let is = (h p.0).1 p.1 in (p.0, is, p.2, p.3, (k p.0 is p.2 p.3).1 p.4)))

-- where a fact is given
pub given_way : {P Q R : Type 0} → (P → (Q ↔ R)) → ((P × Q) ↔ (P × R))
given_way k = ((λ h. (h.0, (k h.0).0 h.1)), (λ h. (h.0, (k h.0).1 h.1)))

-- ---- checks one after another

-- a check by one source passes and fails as by the other
pub record Agree {E V : Type 0} (one other : Stage E V) : Type 0 where
  pub passes : (v : V) → (one.passes v ↔ other.passes v)
  pub fails : (e : E) → (one.fails e ↔ other.fails e)

pub agree_without : {E V : Type 0} {stage : Stage E V} → Agree stage stage
agree_without = record { passes = λ v. same_way; fails = λ e. same_way }

pub agree_then : {E V W : Type 0} {f g : Stage E V} {n m : V → Stage E W} → Agree f g → ((v : V) → f.passes v → Agree (n v) (m v)) → Agree (f and_then n) (g and_then m)
unfolding ◌and_then◌
agree_then h k = record {
  passes = λ w. after_way h.passes (λ v p. (k v p).passes w);
  fails = λ e. either_way (h.fails e) (after_way h.passes (λ v p. (k v p).fails e));
}

-- what both look at is one
abbrev pub LookAlike : (Asked → Type 0) → (Asked → Type 0) → Type 0
LookAlike one other = (a : Asked) → (one a ↔ other a)

pub look_then : {E V : Type 0} {f g : Stage E V} {here there : Asked → Type 0} {n m : V → Asked → Type 0} → Agree f g → LookAlike here there → ((v : V) → f.passes v → LookAlike (n v) (m v)) → LookAlike (looks f here n) (looks g there m)
unfolding looks
look_then h k l = λ a. either_way (k a) (after_way h.passes (λ v p. l v p a))

-- two sources tell the same blobs where something is looked at
abbrev pub SameAt : (Asked → Type 0) → Blobs → Blobs → Type 0
SameAt Looks B C = (d : DigestValue) → Looks (blob d) → C d ≡ B d

module _ {E V : Type 0} (check : Stage E V) (Here : Asked → Type 0) (next : V → Asked → Type 0) (B C : Blobs) (same : SameAt (looks check Here next) B C) where
  pub at_first : SameAt Here B C
  at_first d look = same d (looks_here check Here next (blob d) look)

  pub at_next : (v : V) → check.passes v → SameAt (next v) B C
  at_next v p d look = same d (looks_next check Here next (blob d) v p look)

-- ---- what is told under a digest

-- the same is told under a digest, if that isn't the empty blob's
abbrev pub IsSameUnder : Blobs → Blobs → DigestValue → Type 0
IsSameUnder B C d = d ≢ empty_digest → C d ≡ B d

pub under_blob : (B C : Blobs) (d : DigestValue) → SameAt (LooksAtBlob d) B C → IsSameUnder B C d
under_blob B C d same = λ some. same d (refl, some)

other_way : (B C : Blobs) (d : DigestValue) → IsSameUnder B C d → IsSameUnder C B d
other_way B C d same = λ some. sym (same some)

under_alike : (B C : Blobs) (d : DigestValue) → IsSameUnder B C d → (found : Option (List ℕ)) → IsUnder B d found → IsUnder C d found
under_alike B C d same found (inl h) = inl h
under_alike B C d same found (inr h) = inr (h.0, h.1 ∙ sym (same h.0))

module _ {M : Type 0} (keeps : M → Type 0) (spells : M → List ℕ) where
  told_as : (B C : Blobs) (d : DigestValue) → IsSameUnder B C d → (m : M) → IsTold keeps spells B d m → IsTold keeps spells C d m
  told_as B C d same m h = record { valid = h.valid; blob = record { held = under_alike B C d same (Some (spells m)) h.blob.held; right = h.blob.right } }

  fault_as : (B C : Blobs) (d : DigestValue) → IsSameUnder B C d → (f : Fault) → IsFault keeps spells B d f → IsFault keeps spells C d f
  fault_as B C d same (missing e) h = (h.0, under_alike B C d same None h.1)
  fault_as B C d same (wrong e) h = (h.0, record { bytes = h.1.bytes; held = under_alike B C d same (Some h.1.bytes) h.1.held; other = h.1.other })
  fault_as B C d same (malformed e) h = (
    h.0,
    record { bytes = h.1.bytes; blob = record { held = under_alike B C d same (Some h.1.bytes) h.1.blob.held; right = h.1.blob.right }; no_message = h.1.no_message },
  )

  pub told_alike : (B C : Blobs) (d : DigestValue) → IsSameUnder B C d → (m : M) → (IsTold keeps spells B d m ↔ IsTold keeps spells C d m)
  told_alike B C d same m = (told_as B C d same m, told_as C B d (other_way B C d same) m)

  pub fault_alike : (B C : Blobs) (d : DigestValue) → IsSameUnder B C d → (f : Fault) → (IsFault keeps spells B d f ↔ IsFault keeps spells C d f)
  fault_alike B C d same f = (fault_as B C d same f, fault_as C B d (other_way B C d same) f)

-- ---- what a look-up finds

module _ (B C : Blobs) where
  pub directory_alike : (d : DigestValue) → IsSameUnder B C d → (m : DirectoryValue) → (TellsDirectory B d m ↔ TellsDirectory C d m)
  directory_alike = told_alike IsDirectory directory_bytes B C

  pub unread_alike : (d : DigestValue) → IsSameUnder B C d → (f : Fault) → (FailsDirectory B d f ↔ FailsDirectory C d f)
  unread_alike = fault_alike IsDirectory directory_bytes B C

  pub found_alike : (p : List Name) (o : Option NodeValue) → SameAt (OnWayFrom B p o) B C → (r : Looked) → (LooksFrom (TellsDirectory B) (FailsDirectory B) p o r ↔ LooksFrom (TellsDirectory C) (FailsDirectory C) p o r)
  found_alike p None same r = same_way
  found_alike [] (Some x) same r = same_way
  found_alike (n ∷ p) (Some (File d executable)) same r = same_way
  found_alike (n ∷ p) (Some (Link target)) same r = same_way
  found_alike (n ∷ p) (Some (Dir d)) same r =
      let here : IsSameUnder B C d = λ some. same d (inl (refl, some)) in
      either_way (after_way (directory_alike d here) (λ m told. found_alike p (child n m) (λ e look. same e (inr (m, told, look))) r)) (after_way (unread_alike d here) (λ f fails. same_way))

  pub way_alike : (p : List Name) (o : Option NodeValue) → SameAt (OnWayFrom B p o) B C → LookAlike (OnWayFrom B p o) (OnWayFrom C p o)
  way_alike p None same a = same_way
  way_alike [] (Some x) same a = same_way
  way_alike (n ∷ p) (Some (File d executable)) same a = same_way
  way_alike (n ∷ p) (Some (Link target)) same a = same_way
  way_alike (n ∷ p) (Some (Dir d)) same a =
      either_way same_way (after_way (directory_alike d (λ some. same d (inl (refl, some)))) (λ m told. way_alike p (child n m) (λ e look. same e (inr (m, told, look))) a))
