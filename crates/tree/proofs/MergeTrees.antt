-- The first directory of a Tree with a digest, by the digests that stand beside the children.
use Rattle.std.proofs.Common.{◌≡◌, ◌≢◌, ℕ, true, false, eqb, ◌&&◌, zero, suc, ◌+◌, ◌<◌, ◌≤◌, List, [], ◌∷◌, ◌++◌, length, map, take, drop, get_or, refl, sym, ap, subst, ◌∙◌, arith}
use Rattle.std.specs.Prelude.{Contains, nat_eq}
use Rattle.std.specs.List.{AllByRecursion}
use Rattle.std.specs.Cmp.Lexicographic.{pointwise, bytes_decides}
use Rattle.std.proofs.lemmas.Bool.{eq-eqb}
use Rattle.messages.proofs.Choices.{and_both}
use Rattle.std.proofs.lemmas.List.{take_more, take-map, take_all, length-map}
use Rattle.blob_digest.specs.Digest.{DigestValue, digest_of}
use Rattle.messages.specs.DirectoryRules.{DirectoryValue}
use Rattle.messages.specs.Directory.{directory_bytes}
use Rattle.messages.specs.Tree.{TreeValue, digests_of, child_digests}
use Rattle.tree.specs.Merging.{IsFirstIn}
use Rattle.tree.proofs.MergeHeld.{next_first}

abbrev pub NotAmong : DigestValue → List DigestValue → Type 0
NotAmong d ds = AllByRecursion (λ e. e ≢ d) ds

pub none_push : (d e : DigestValue) (ds : List DigestValue) → NotAmong d ds → e ≢ d → NotAmong d (ds ++ e ∷ [])
none_push d e [] h n = (n, tt)
none_push d e (x ∷ ds) h n = (h.0, none_push d e ds h.1 n)

pub none_next : (d e : DigestValue) (ds : List DigestValue) (i : ℕ) → i < length ds → e ≡ get_or ds i e → e ≢ d → NotAmong d (take i ds) → NotAmong d (take (i + 1) ds)
none_next d e ds i lt is other h = subst (NotAmong d) (sym (take_more ds i e lt ∙ ap (λ x. take i ds ++ x ∷ []) (sym is))) (none_push d e (take i ds) h other)

pub none_held : (d : DigestValue) (ds : List DigestValue) → NotAmong d ds → Contains ds d → ⊥
none_held d [] h (k, lt, e) = absurd (omega arith)
none_held d (x ∷ ds) h (zero, lt, e) = h.0 e
none_held d (x ∷ ds) h (suc k, lt, e) = none_held d ds h.1 (k, omega (arith, lt), e)

-- the root
pub root_first : (t : TreeValue) (d : DigestValue) → digest_of (directory_bytes t.root) ≡ d → IsFirstIn (t.root ∷ t.children) d t.root
root_first t d is = record { before = []; behind = t.children; stands = refl; right = is; first = tt }

pub before_all : (d : DigestValue) (ms : List DirectoryValue) → NotAmong d (digests_of (map directory_bytes ms)) → AllByRecursion (λ m. digest_of (directory_bytes m) ≢ d) ms
before_all d [] h = tt
before_all d (m ∷ ms) h = (h.0, before_all d ms h.1)

digest_there : (ms : List DirectoryValue) (i : ℕ) (m : DirectoryValue) (e : DigestValue) → m ≡ get_or ms i m → i < length ms → e ≡ get_or (digests_of (map directory_bytes ms)) i e → digest_of (directory_bytes m) ≡ e
digest_there [] i m e at lt is = absurd (omega (arith, lt))
digest_there (x ∷ ms) zero m e at lt is = ap (λ y. digest_of (directory_bytes y)) at ∙ sym is
digest_there (x ∷ ms) (suc i) m e at lt is = digest_there ms i m e at (omega (arith, lt)) is

parted : (ms : List DirectoryValue) (i : ℕ) (m : DirectoryValue) → m ≡ get_or ms i m → i < length ms → ms ≡ take i ms ++ m ∷ drop (suc i) ms
parted [] i m at lt = absurd (omega (arith, lt))
parted (x ∷ ms) zero m at lt = ap (λ y. y ∷ ms) (sym at)
parted (x ∷ ms) (suc i) m at lt = ap (λ l. x ∷ l) (parted ms i m at (omega (arith, lt)))

-- a child
pub child_first : (t : TreeValue) (d e : DigestValue) (i : ℕ) (m : DirectoryValue) → digest_of (directory_bytes t.root) ≢ d → NotAmong d (take i (child_digests t)) → i < length t.children → e ≡ get_or (child_digests t) i e → e ≡ d → m ≡ get_or t.children i m
    → IsFirstIn (t.root ∷ t.children) d m
child_first t d e i m other none lt is same at =
    next_first d t.root t.children m other (record {
      before = take i t.children;
      behind = drop (suc i) t.children;
      stands = parted t.children i m at lt;
      right = digest_there t.children i m e at lt is ∙ same;
      first = before_all d (take i t.children) (subst (NotAmong d) (take-map digest_of i (map directory_bytes t.children) ∙ ap digests_of (take-map directory_bytes i t.children)) none);
    })

same_test : (d : DigestValue) → (pointwise nat_eq d.hash d.hash && eqb d.size d.size) ≡ true
same_test d = and_both (pointwise nat_eq d.hash d.hash) (eqb d.size d.size) ((bytes_decides d.hash d.hash).1 refl) (eq-eqb d.size d.size refl)

pub differ : (e d : DigestValue) → false ≡ (pointwise nat_eq e.hash d.hash && eqb e.size d.size) → e ≡ d → ⊥
differ e d h same = let own = same_test e in let alike : false ≡ (pointwise nat_eq e.hash e.hash && eqb e.size e.size) = h ∙ ap (λ (x : DigestValue). pointwise nat_eq e.hash x.hash && eqb e.size x.size) (sym same) in cc

pub same_count : (t : TreeValue) → length (child_digests t) ≡ length t.children
same_count t = length-map (map directory_bytes t.children) digest_of ∙ length-map t.children directory_bytes

-- no child has the digest
pub none_there : (t : TreeValue) (d : DigestValue) (i : ℕ) → digest_of (directory_bytes t.root) ≢ d → length (child_digests t) ≤ i → NotAmong d (take i (child_digests t)) → Contains (digests_of (map directory_bytes (t.root ∷ t.children))) d → ⊥
none_there t d i other le none there = none_held d (digest_of (directory_bytes t.root) ∷ child_digests t) (other, subst (NotAmong d) (take_all i (child_digests t) le) none) there
