-- One Tree more that was read.
use Rattle.std.proofs.Common.{◌≡◌, ℕ, Bool, true, false, cond, List, [], ◌∷◌, ◌++◌, Option, Some, None, is_some, unwrap_or, refl, sym, ap, subst, ◌∙◌, Less, Equal, Greater}
use Rattle.std.specs.Prelude.{IfSome}
use Rattle.std.specs.declared.cmp.Ordering.{Ordering}
use Rattle.std.specs.declared.vec.Vec.{Vec}
use Rattle.std.specs.Ordering.{is_eq, nat_cmp}
use Rattle.std.specs.BTreeMap.{BTreeMap, get}
use Rattle.std.specs.Cmp.Lexicographic.{slice_cmp}
use Rattle.std.proofs.lemmas.Map.Lookups.{exact_bytes, exact_pairs, exact_unsigned}
use Rattle.blob_digest.specs.Digest.{DigestValue, digest_cmp}
use Rattle.action_cache.specs.References.{Reference, files_of, digests_by, references_by, references, fault_by, first_given, first_fault_by, first_fault, fault_in_tree, is_held}
use Rattle.action_cache.specs.Reading.{by_messages}
use Rattle.action_cache.specs.Survey.{files_listed, is_read, known, AreRight, AreKnown}

same_is : (d e : DigestValue) → is_eq (digest_cmp d e) ≡ true → d ≡ e
same_is d e h = by (digest_cmp d e) refl h
  where
    by : (o : Ordering) → digest_cmp d e ≡ o → is_eq o ≡ true → d ≡ e
    by Equal q t = ap (λ (p : List ℕ × ℕ). record { hash = p.0; size = p.1 }) (exact_pairs (slice_cmp nat_cmp) nat_cmp exact_bytes exact_unsigned (d.hash, d.size) (e.hash, e.size) q)
    by Less q t = absurd cc
    by Greater q t = absurd cc

module _ {A : Type 0} (found : List ℕ → Option (List ℕ)) where
  -- what is right stays so where one that is right is put in
  pub learned : (old new : BTreeMap DigestValue (Option (Vec DigestValue A))) (d : DigestValue) (files : Option (Vec DigestValue A))
      → ((q : DigestValue) → get digest_cmp new q ≡ cond (is_eq (digest_cmp d q)) (Some files) (get digest_cmp old q))
      → files_listed files ≡ files_of found by_messages d → AreRight old found → AreRight new found
  learned old new d files put right all = λ q. subst (λ o. IfSome o (λ fs. files_listed fs ≡ files_of found by_messages q)) (sym (put q)) (by q (is_eq (digest_cmp d q)) refl)
    where
      by : (q : DigestValue) (b : Bool) → is_eq (digest_cmp d q) ≡ b → IfSome (cond b (Some files) (get digest_cmp old q)) (λ fs. files_listed fs ≡ files_of found by_messages q)
      by q true t = right ∙ ap (files_of found by_messages) (same_is d q t)
      by q false t = all q

  pub still_read : (old new : BTreeMap DigestValue (Option (Vec DigestValue A))) (d : DigestValue) (files : Option (Vec DigestValue A))
      → ((q : DigestValue) → get digest_cmp new q ≡ cond (is_eq (digest_cmp d q)) (Some files) (get digest_cmp old q))
      → (q : DigestValue) → is_read old q ≡ true → is_read new q ≡ true
  still_read old new d files put q h = ap is_some (put q) ∙ by (is_eq (digest_cmp d q))
    where
      by : (b : Bool) → is_some (cond b (Some files) (get digest_cmp old q)) ≡ true
      by true = refl
      by false = h

  -- ---- what is known is what is found

  module _ (trees : BTreeMap DigestValue (Option (Vec DigestValue A))) where
    known_digests : (r : Reference) → (r.is_tree ≡ true → known trees r.digest ≡ files_of found by_messages r.digest) → digests_by (known trees) r ≡ digests_by (files_of found by_messages) r
    known_digests r h = by r.is_tree h
      where
        by : (b : Bool) → (b ≡ true → known trees r.digest ≡ files_of found by_messages r.digest) → r.digest ∷ cond b (unwrap_or (known trees r.digest) []) [] ≡ r.digest ∷ cond b (unwrap_or (files_of found by_messages r.digest) []) []
        by true h = ap (λ o. r.digest ∷ unwrap_or o []) (h refl)
        by false h = refl

    pub known_references : (rs : List Reference) → AreKnown trees found rs → references_by (known trees) rs ≡ references found by_messages rs
    known_references [] all = refl
    known_references (r ∷ rs) all = λ i. known_digests r all.0 i ++ known_references rs all.1 i

    known_fault : (r : Reference) → (r.is_tree ≡ true → known trees r.digest ≡ files_of found by_messages r.digest) → fault_by found (known trees) r ≡ fault_by found (files_of found by_messages) r
    known_fault r h = ap (λ o. cond (is_held found r.digest) o (Some r.digest)) (by r.is_tree h)
      where
        by : (b : Bool) → (b ≡ true → known trees r.digest ≡ files_of found by_messages r.digest) → cond b (fault_in_tree found r.digest (known trees r.digest)) None ≡ cond b (fault_in_tree found r.digest (files_of found by_messages r.digest)) None
        by true h = ap (fault_in_tree found r.digest) (h refl)
        by false h = refl

    pub known_first_fault : (rs : List Reference) → AreKnown trees found rs → first_fault_by found (known trees) rs ≡ first_fault found by_messages rs
    known_first_fault [] all = refl
    known_first_fault (r ∷ rs) all = λ i. first_given (known_fault r all.0 i) (known_first_fault rs all.1 i)
