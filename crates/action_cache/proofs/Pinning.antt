-- To pin a result, in the stores and in the machine.
use Rattle.std.proofs.Common.{◌≡◌, ℕ, suc, ◌+◌, ◌*◌, ◌<◌, ◌≤◌, Bool, true, false, cond, not, ◌&&◌, ◌||◌, nat_lt, List, [], ◌∷◌, map, length, bytes_eq, Option, Some, None, is_some, is_none, unwrap_or, option_map, refl, ap, sym, ◌∙◌, subst, arith}
use Rattle.std.specs.List.{filter, find, list_any, IsDistinct}
use Rattle.std.specs.Option.{option_map_or}
use Rattle.std.specs.Map.{keys_of, lookup}
use Rattle.std.specs.Cmp.Lexicographic.{nat_list_eq_equiv}
use Rattle.std.proofs.lemmas.Bool.Decides.{nat_tests}
use Rattle.std.proofs.lemmas.Slice.Eq.{bytes_eq-Decides}
use Rattle.std.proofs.lemmas.List.Folds.{list_any-append}
use Rattle.std.proofs.lemmas.Map.{NonePasses}
use Rattle.std.proofs.lemmas.Map.Keys.{IsDistinct-tail}
use Rattle.std.proofs.lemmas.Map.Entries.{none_past_head}
use Rattle.blob_digest.specs.DigestValue.{DigestValue}
use Rattle.eviction.specs.Kept.{Held, is_pinned, total_cost}
use Rattle.eviction.specs.Pinning.{repinned, is_among, all_stored, one_more}
use Rattle.eviction.proofs.Repins.{repinned_same}
use Rattle.action_cache.specs.References.{Reference, Reader, is_empty, is_held, names_hash, fault_in_tree, digests_of, files_of, references, fault_of, first_given, first_fault, outputs_of, refers, is_complete}
use Rattle.action_cache.specs.Machine.{CacheState, Marked, done, refused, not_held, incomplete, why_incomplete, found, pin, pinned_now, with_results, marked}
use Rattle.action_cache.specs.Tied.{how_many, marks, found_in, IsTied}
use Rattle.action_cache.specs.State.{state_of}
use Rattle.blob_store.proofs.BlobLemmas.{held_is_found}
use Rattle.action_cache.proofs.Pins.{pin_tied, plain-repinned}
use Rattle.action_cache.proofs.Changes.{under-plain}
use Rattle.action_cache.proofs.Unpinning.{mark, under-marks}

-- what is complete is held: each blob that is named
module _ (found : List ℕ → Option (List ℕ)) (h : List ℕ) where
  held_named : (d : DigestValue) → is_held found d ≡ true → names_hash h d ≡ true → is_some (found h) ≡ true
  held_named d e n = (elim (is_empty d) as (λ b. is_empty d ≡ b → is_some (found h) ≡ true) [
    | true ↦ λ t. let n' = rw t at n in absurd cc
    | false ↦ λ t.
        let same : d.hash ≡ h = (bytes_eq-Decides d.hash h).0 (rw t at n) in
        ap (λ x. is_some (found x)) (sym same) ∙ held_is_found found d t e
  ]) refl

  either : (a b : Bool) (P : Type 0) → (a ≡ true → P) → (b ≡ true → P) → (a || b) ≡ true → P
  either true b P f g e = f refl
  either false b P f g e = g e

  held_files : (fs : List DigestValue) → find (λ f. not (is_held found f)) fs ≡ None → list_any (names_hash h) fs ≡ true → is_some (found h) ≡ true
  held_files [] e n = absurd cc
  held_files (f ∷ fs) e n = (elim (is_held found f) as (λ b. is_held found f ≡ b → is_some (found h) ≡ true) [
    | true ↦ λ t. either (names_hash h f) (list_any (names_hash h) fs) (is_some (found h) ≡ true) (held_named f t) (held_files fs (rw t at e)) n
    | false ↦ λ t. let e' = rw t at e in absurd cc
  ]) refl

  module _ (reader : Reader) where
    held_tree : (d : DigestValue) (t : Bool) (o : Option (List DigestValue)) → cond t (fault_in_tree found d o) None ≡ None → list_any (names_hash h) (cond t (unwrap_or o []) []) ≡ true → is_some (found h) ≡ true
    held_tree d false o e n = absurd cc
    held_tree d true None e n = absurd cc
    held_tree d true (Some fs) e n = held_files fs e n

    held_reference : (r : Reference) → fault_of found reader r ≡ None → list_any (names_hash h) (digests_of found reader r) ≡ true → is_some (found h) ≡ true
    held_reference r e n = (elim (is_held found r.digest) as (λ b. is_held found r.digest ≡ b → is_some (found h) ≡ true) [
      | true ↦ λ t. either (names_hash h r.digest) (list_any (names_hash h) (cond r.is_tree (unwrap_or (files_of found reader r.digest) []) [])) (is_some (found h) ≡ true) (held_named r.digest t) (held_tree r.digest r.is_tree (files_of found reader r.digest) (rw t at e)) n
      | false ↦ λ t. let e' = rw t at e in absurd cc
    ]) refl

    firsts : (a b : Option DigestValue) → first_given a b ≡ None → (a ≡ None) × (b ≡ None)
    firsts None b e = (refl, e)
    firsts (Some d) b e = absurd cc

    pub complete_held : (rs : List Reference) → first_fault found reader rs ≡ None → list_any (names_hash h) (references found reader rs) ≡ true → is_some (found h) ≡ true
    complete_held [] e n = absurd cc
    complete_held (r ∷ rs) e n =
        let none = firsts (fault_of found reader r) (first_fault found reader rs) e in
        either (list_any (names_hash h) (digests_of found reader r)) (list_any (names_hash h) (references found reader rs)) (is_some (found h) ≡ true) (held_reference r none.0) (complete_held rs none.1)
        (sym (list_any-append (names_hash h) (digests_of found reader r) (references found reader rs)) ∙ n)

-- the marks after one was put on
pub marks-more : (h : List ℕ) (es : List (List ℕ × Held))
    → map (λ (r : List ℕ × Marked). (r.0, let m : Marked = record { bytes = r.1.bytes; pinned = cond (bytes_eq h r.0) true r.1.pinned } in m)) (marks es) ≡ marks (repinned (λ k n. cond (bytes_eq h k) (n + 1) n) es)
marks-more h [] = refl
marks-more h (e ∷ es) = λ i. (e.0, record { bytes = e.1.bytes; pinned = more (bytes_eq h e.0) e.1.pins i }) ∷ marks-more h es i
  where
    more : (b : Bool) (n : ℕ) → cond b true (nat_lt 0 n) ≡ nat_lt 0 (cond b (n + 1) n)
    more true n = grind (arith, nat_tests)
    more false n = refl

-- a mark that is there already changes nothing
pub marks-again : (h : List ℕ) (es : List (List ℕ × Held)) (v : Held) → IsDistinct bytes_eq (keys_of es) → lookup (bytes_eq h) es ≡ Some v → nat_lt 0 v.pins ≡ true
    → map (λ (r : List ℕ × Marked). (r.0, let m : Marked = record { bytes = r.1.bytes; pinned = cond (bytes_eq h r.0) true r.1.pinned } in m)) (marks es) ≡ marks es
marks-again h [] v d e p = refl
marks-again h (x ∷ es) v d e p = (elim (bytes_eq h x.0) as (λ b. bytes_eq h x.0 ≡ b → (x.0, let m : Marked = record { bytes = x.1.bytes; pinned = cond b true (nat_lt 0 x.1.pins) } in m) ∷ map (λ (r : List ℕ × Marked). (r.0, let m : Marked = record { bytes = r.1.bytes; pinned = cond (bytes_eq h r.0) true r.1.pinned } in m)) (marks es) ≡ marks (x ∷ es)) [
  | true ↦ λ t.
      let e' = rw t at e in
      let same : x.1 ≡ v = cc in
      let on : nat_lt 0 x.1.pins ≡ true = ap (λ (y : Held). nat_lt 0 y.pins) same ∙ p in
      λ i. (x.0, record { bytes = x.1.bytes; pinned = sym on i }) ∷ apart es (none_past_head nat_list_eq_equiv h x es d t) i
  | false ↦ λ t. ap (λ l. (x.0, mark x.1) ∷ l) (marks-again h es v (IsDistinct-tail bytes_eq x.0 (keys_of es) d) (rw t at e) p)
]) refl
  where
    apart : (es : List (List ℕ × Held)) → NonePasses (bytes_eq h) es → map (λ (r : List ℕ × Marked). (r.0, let m : Marked = record { bytes = r.1.bytes; pinned = cond (bytes_eq h r.0) true r.1.pinned } in m)) (marks es) ≡ marks es
    apart [] a = refl
    apart (x ∷ es) a = λ i. (x.0, record { bytes = x.1.bytes; pinned = cond (a.0 i) true (nat_lt 0 x.1.pins) }) ∷ apart es a.1 i

one_key : (h : List ℕ) (es : List (List ℕ × Held)) → repinned (one_more bytes_eq (h ∷ [])) es ≡ repinned (λ k n. cond (bytes_eq h k) (n + 1) n) es
one_key h es = repinned_same (one_more bytes_eq (h ∷ [])) (λ k n. cond (bytes_eq h k) (n + 1) n) (λ k n. or_false (bytes_eq h k) n) es
  where
    or_false : (b : Bool) (n : ℕ) → cond (b || false) (n + 1) n ≡ cond b (n + 1) n
    or_false true n = refl
    or_false false n = refl

-- no blob has more pins than there are results
pub few : (q : List ℕ → Bool) (rs : List (List ℕ × Held)) → how_many (λ (r : List ℕ × Held). q r.1.bytes) (filter is_pinned rs) ≤ length rs
few q [] = omega arith
few q (r ∷ rs) = (elim (is_pinned r) as (λ b. is_pinned r ≡ b → how_many (λ (x : List ℕ × Held). q x.1.bytes) (cond b (r ∷ filter is_pinned rs) (filter is_pinned rs)) ≤ length (r ∷ rs)) [
  | true ↦ λ _. let on = few q rs in more (q r.1.bytes) (how_many (λ (x : List ℕ × Held). q x.1.bytes) (filter is_pinned rs)) (length rs) on
  | false ↦ λ _. let on = few q rs in omega arith
]) refl
  where
    more : (b : Bool) (n m : ℕ) → n ≤ m → cond b 1 0 + n ≤ suc m
    more true n m l = omega arith
    more false n m l = omega arith

pub costly : (rs : List (List ℕ × Held)) → 64 * length rs ≤ total_cost 64 rs
costly [] = omega arith
costly (r ∷ rs) = let on = costly rs in omega arith

module _ (reader : Reader) (limit rl : ℕ) (blobs results : List (List ℕ × Held)) (d : IsDistinct bytes_eq (keys_of results)) (tied : IsTied reader blobs results) (h : List ℕ) where
  abbrev st : CacheState
  st = state_of limit rl blobs results

  none_pinned : lookup (bytes_eq h) results ≡ None → pin reader st h ≡ (refused not_held, st)
  none_pinned none = ap (pinned_now reader st h) (under-marks h results ∙ ap (option_map mark) none)

  module _ (v : Held) (held : lookup (bytes_eq h) results ≡ Some v) where
    pub part_pinned : is_complete (found_in blobs) reader v.bytes ≡ false → pin reader st h ≡ (refused (why_incomplete reader st v.bytes), st)
    part_pinned c = ap (pinned_now reader st h) (under-marks h results ∙ ap (option_map mark) held) ∙ (λ i. cond (c i) (done, with_results reader st (marked reader st true h)) (refused (why_incomplete reader st v.bytes), st))

    module _ (whole : is_complete (found_in blobs) reader v.bytes ≡ true) where
      as_marked : pin reader st h ≡ (done, with_results reader st (marked reader st true h))
      as_marked = ap (pinned_now reader st h) (under-marks h results ∙ ap (option_map mark) held) ∙ (λ i. cond (whole i) (done, with_results reader st (marked reader st true h)) (refused (why_incomplete reader st v.bytes), st))

      pub again : 0 < v.pins → pin reader st h ≡ (done, st)
      again p = as_marked ∙ (λ i. (done, with_results reader st (marks-again h results v d held (above v.pins p) i)))
        where
          above : (n : ℕ) → 0 < n → nat_lt 0 n ≡ true
          above n p = grind (arith, nat_tests)

      module _ (none : v.pins ≡ 0) (ks : List (List ℕ)) (names : (b : List ℕ) → is_among bytes_eq ks b ≡ refers (found_in blobs) reader v.bytes b) where
        faultless : first_fault (found_in blobs) reader (outputs_of reader v.bytes) ≡ None
        faultless = by_both (is_some (reader.outputs v.bytes)) (first_fault (found_in blobs) reader (outputs_of reader v.bytes)) whole
          where
            by_both : (a : Bool) (o : Option DigestValue) → (a && is_none o) ≡ true → o ≡ None
            by_both true None e = refl
            by_both true (Some x) e = absurd cc
            by_both false o e = absurd cc

        named_held : (b : List ℕ) → is_among bytes_eq ks b ≡ true → is_some (lookup (bytes_eq b) blobs) ≡ true
        named_held b a = sym (present (lookup (bytes_eq b) blobs)) ∙ ap is_some (sym (under-plain b blobs)) ∙ complete_held (found_in blobs) b reader (outputs_of reader v.bytes) faultless (sym (names b) ∙ a)
          where
            present : (o : Option Held) → is_some (option_map (λ (x : Held). x.bytes) o) ≡ is_some o
            present None = refl
            present (Some x) = refl

        pub result_held : all_stored bytes_eq results (h ∷ []) ≡ true
        result_held = ap (λ o. is_some o && true) held

        pub still_tied : IsTied reader (repinned (one_more bytes_eq ks) blobs) (repinned (one_more bytes_eq (h ∷ [])) results)
        still_tied = subst (IsTied reader (repinned (one_more bytes_eq ks) blobs)) (sym (one_key h results)) (pin_tied reader blobs results ks h v d held names none whole named_held tied)

        pub pinned : pin reader st h ≡ (done, state_of limit rl (repinned (one_more bytes_eq ks) blobs) (repinned (one_more bytes_eq (h ∷ [])) results))
        pinned =
            as_marked
            ∙ (λ i. (done, let s : CacheState = record { blobs = sym (plain-repinned (one_more bytes_eq ks) blobs) i; results = (marks-more h results ∙ ap marks (sym (one_key h results))) i; limit = limit; result_limit = rl } in s))

-- why a result isn't pinned
why_none : (reader : Reader) (s : CacheState) (bytes : List ℕ) → is_some (reader.outputs bytes) ≡ false → why_incomplete reader s bytes ≡ not_held
why_none reader s bytes e = by (reader.outputs bytes) e
  where
    by : (o : Option (List Reference)) → is_some o ≡ false → option_map_or incomplete (first_fault (found reader s) reader (unwrap_or o [])) not_held ≡ not_held
    by None e = refl
    by (Some rs) e = absurd cc

pub why_fault : (reader : Reader) (s : CacheState) (bytes : List ℕ) (d : DigestValue) → first_fault (found reader s) reader (outputs_of reader bytes) ≡ Some d → why_incomplete reader s bytes ≡ incomplete d
why_fault reader s bytes d e = ap (λ o. option_map_or incomplete o not_held) e

pub no_entry : (o : Option Held) → None ≡ option_map (λ (x : Held). x.bytes) o → o ≡ None
no_entry None e = refl
no_entry (Some v) e = absurd cc

pub and_false : (a b : Bool) → a ≡ false → (a && b) ≡ false
and_false true b e = absurd cc
and_false false b e = refl

pub faulty : (a : Bool) (o : Option DigestValue) (x : DigestValue) → o ≡ Some x → (a && is_none o) ≡ false
faulty true None x e = absurd cc
faulty true (Some y) x e = refl
faulty false o x e = refl

-- a result without a survey isn't held, or is none
pub unread_pinned : (reader : Reader) (limit rl : ℕ) (blobs results : List (List ℕ × Held)) (d : IsDistinct bytes_eq (keys_of results)) (tied : IsTied reader blobs results) (h : List ℕ)
    → ((v : Held) → lookup (bytes_eq h) results ≡ Some v → is_some (reader.outputs v.bytes) ≡ false)
    → pin reader (state_of limit rl blobs results) h ≡ (refused not_held, state_of limit rl blobs results)
unread_pinned reader limit rl blobs results d tied h unread = by_entry (lookup (bytes_eq h) results) refl
  where
    by_entry : (o : Option Held) → lookup (bytes_eq h) results ≡ o → pin reader (state_of limit rl blobs results) h ≡ (refused not_held, state_of limit rl blobs results)
    by_entry None e = none_pinned reader limit rl blobs results d tied h e
    by_entry (Some v) e =
        let part = and_false (is_some (reader.outputs v.bytes)) (is_none (first_fault (found_in blobs) reader (outputs_of reader v.bytes))) (unread v e) in
        part_pinned reader limit rl blobs results d tied h v e part ∙ ap (λ r. (refused r, state_of limit rl blobs results)) (why_none reader (state_of limit rl blobs results) v.bytes (unread v e))
