-- Where two stores answer alike for all that a result refers to, it refers to the same in both.
use Rattle.std.proofs.Common.{◌≡◌, ℕ, ◌+◌, bytes_eq, ◌<◌, Bool, true, false, cond, not, ◌&&◌, ◌||◌, List, [], ◌∷◌, ◌++◌, Option, Some, None, is_some, is_none, unwrap_or, refl, ap, ◌∙◌, arith}
use Rattle.std.specs.List.{find, list_any, AllByRecursion}
use Rattle.std.specs.Option.{option_and_then}
use Rattle.std.specs.Cmp.Lexicographic.{nat_list_eq_equiv}
use Rattle.std.specs.Prelude.{◌==◌}
use Rattle.sha2.specs.Sha256.{sha256}
use Rattle.blob_digest.specs.DigestValue.{DigestValue}
use Rattle.eviction.specs.Kept.{Held}
use Rattle.action_cache.specs.References.{Reference, Reader, is_empty, of_size, held_under, blob_of, is_held, files_of, digests_of, references, fault_in_tree, fault_of, first_given, first_fault, outputs_of, is_complete, names_hash, refers}
use Rattle.action_cache.specs.Tied.{how_many}

module _ {X : Type 0} (P : X → Type 0) where
  all_front : (xs ys : List X) → AllByRecursion P (xs ++ ys) → AllByRecursion P xs
  all_front [] ys h = tt
  all_front (x ∷ xs) ys h = (h.0, all_front xs ys h.1)

  all_back : (xs ys : List X) → AllByRecursion P (xs ++ ys) → AllByRecursion P ys
  all_back [] ys h = h
  all_back (x ∷ xs) ys h = all_back xs ys h.1

one : (b : Bool) (n : ℕ) → b ≡ true → 0 < cond b 1 0 + n
one true n h = omega arith
one false n h = absurd cc

-- ---- the digest of no bytes

and_right : (a b : Bool) → (a && b) ≡ true → b ≡ true
and_right true b h = h
and_right false b h = absurd cc

-- its hash is that of no bytes
pub no_bytes : (d : DigestValue) → is_empty d ≡ true → bytes_eq (sha256 []) d.hash ≡ true
no_bytes d e = nat_list_eq_equiv.symm (sha256 []) d.hash ∙ and_right (d.size == 0) (bytes_eq d.hash (sha256 [])) e

module _ (f g : List ℕ → Option (List ℕ)) where
  -- both answer alike for the digests
  abbrev pub Agrees : List DigestValue → Type 0
  Agrees ds = AllByRecursion (λ d. blob_of g d ≡ blob_of f d) ds

  same_find : (ds : List DigestValue) → Agrees ds → find (λ d. not (is_held g d)) ds ≡ find (λ d. not (is_held f d)) ds
  same_find [] a = refl
  same_find (d ∷ ds) a = λ i. cond (not (is_some (a.0 i))) (Some d) (same_find ds a.1 i)

  by_tree : (d : DigestValue) (t : Bool) (o : Option (List DigestValue)) → Agrees (cond t (unwrap_or o []) []) → cond t (fault_in_tree g d o) None ≡ cond t (fault_in_tree f d o) None
  by_tree d false o a = refl
  by_tree d true None a = refl
  by_tree d true (Some fs) a = same_find fs a

  -- they agree where they agree on each hash that is named
  pub agrees : (ds : List DigestValue) → ((h : List ℕ) → list_any (names_hash h) ds ≡ true → g h ≡ f h) → Agrees ds
  agrees [] on = tt
  agrees (d ∷ ds) on = (here, agrees ds (λ h a. on h (or_right (names_hash h d) (list_any (names_hash h) ds) a)))
    where
      or_right : (a b : Bool) → b ≡ true → (a || b) ≡ true
      or_right true b h = refl
      or_right false b h = h

      here : blob_of g d ≡ blob_of f d
      here = (elim (is_empty d) as (λ b. is_empty d ≡ b → of_size d.size (held_under g d.hash) ≡ of_size d.size (held_under f d.hash)) [
        | true ↦ λ t. let e = no_bytes d t in rw e refl
        | false ↦ λ t. ap (λ o. of_size d.size (cond (bytes_eq (sha256 []) d.hash) (Some []) o)) (on d.hash (λ i. (not (t i) && nat_list_eq_equiv.refl d.hash i) || list_any (names_hash d.hash) ds))
      ]) refl

  module _ (reader : Reader) where
    same_digests : (r : Reference) → Agrees (digests_of f reader r) → digests_of g reader r ≡ digests_of f reader r
    same_digests r a = λ i. r.digest ∷ cond r.is_tree (unwrap_or (option_and_then reader.files (a.0 i)) []) []

    same_fault : (r : Reference) → Agrees (digests_of f reader r) → fault_of g reader r ≡ fault_of f reader r
    same_fault r a =
        (λ i. cond (is_some (a.0 i)) (cond r.is_tree (fault_in_tree g r.digest (option_and_then reader.files (a.0 i))) None) (Some r.digest))
        ∙ ap (λ o. cond (is_held f r.digest) o (Some r.digest)) (by_tree r.digest r.is_tree (files_of f reader r.digest) a.1)

    pub same_references : (rs : List Reference) → Agrees (references f reader rs) → references g reader rs ≡ references f reader rs
    same_references [] a = refl
    same_references (r ∷ rs) a =
        let front = all_front (λ d. blob_of g d ≡ blob_of f d) (digests_of f reader r) (references f reader rs) a in
        let back = all_back (λ d. blob_of g d ≡ blob_of f d) (digests_of f reader r) (references f reader rs) a in
        λ i. same_digests r front i ++ same_references rs back i

    pub same_first_fault : (rs : List Reference) → Agrees (references f reader rs) → first_fault g reader rs ≡ first_fault f reader rs
    same_first_fault [] a = refl
    same_first_fault (r ∷ rs) a =
        let front = all_front (λ d. blob_of g d ≡ blob_of f d) (digests_of f reader r) (references f reader rs) a in
        let back = all_back (λ d. blob_of g d ≡ blob_of f d) (digests_of f reader r) (references f reader rs) a in
        λ i. first_given (same_fault r front i) (same_first_fault rs back i)

    -- the results refer to blobs on which both agree
    abbrev pub AllAgree : List (List ℕ × Held) → Type 0
    AllAgree rs = AllByRecursion (λ r. Agrees (references f reader (outputs_of reader r.1.bytes))) rs

    pub all_agree : (rs : List (List ℕ × Held)) → ((h : List ℕ) → 0 < how_many (λ r. refers f reader r.1.bytes h) rs → g h ≡ f h) → AllAgree rs
    all_agree [] on = tt
    all_agree (r ∷ rs) on =
        (agrees (references f reader (outputs_of reader r.1.bytes)) (λ h a. on h (counted h a)), all_agree rs (λ h more. on h (later h more)))
      where
        counted : (h : List ℕ) → refers f reader r.1.bytes h ≡ true → 0 < how_many (λ r. refers f reader r.1.bytes h) (r ∷ rs)
        counted h a = one (refers f reader r.1.bytes h) (how_many (λ r. refers f reader r.1.bytes h) rs) a

        later : (h : List ℕ) → 0 < how_many (λ r. refers f reader r.1.bytes h) rs → 0 < how_many (λ r. refers f reader r.1.bytes h) (r ∷ rs)
        later h more = omega arith

    pub same_refers : (rs : List (List ℕ × Held)) → AllAgree rs → (h : List ℕ) → how_many (λ r. refers g reader r.1.bytes h) rs ≡ how_many (λ r. refers f reader r.1.bytes h) rs
    same_refers [] a h = refl
    same_refers (r ∷ rs) a h = λ i. cond (list_any (names_hash h) (same_references (outputs_of reader r.1.bytes) a.0 i)) 1 0 + same_refers rs a.1 h i

    pub still_complete : (rs : List (List ℕ × Held)) → AllAgree rs → AllByRecursion (λ r. is_complete f reader r.1.bytes ≡ true) rs → AllByRecursion (λ r. is_complete g reader r.1.bytes ≡ true) rs
    still_complete [] a c = tt
    still_complete (r ∷ rs) a c = ((λ i. is_some (reader.outputs r.1.bytes) && is_none (same_first_fault (outputs_of reader r.1.bytes) a.0 i)) ∙ c.0, still_complete rs a.1 c.1)
