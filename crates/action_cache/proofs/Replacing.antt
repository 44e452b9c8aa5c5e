-- Puts of results, in the store and in the machine.
use Rattle.std.proofs.Common.{◌≡◌, ℕ, ◌+◌, ◌<◌, ◌≤◌, Bool, true, false, cond, not, ◌&&◌, nat_lt, List, [], ◌∷◌, ◌++◌, reverse, length, bytes_eq, Option, Some, None, is_some, option_map, refl, ap, sym, ◌∙◌, subst, arith}
use Rattle.std.specs.List.{filter, AllByRecursion, IsDistinct}
use Rattle.std.specs.Map.{keys_of, lookup, lookup_entry}
use Rattle.std.specs.Option.{option_map_or}
use Rattle.std.specs.Cmp.Lexicographic.{nat_list_eq_equiv}
use Rattle.std.proofs.lemmas.Bool.Decides.{nat_tests}
use Rattle.std.proofs.lemmas.Slice.Eq.{bytes_eq-Decides}
use Rattle.std.proofs.lemmas.List.{reverse-reverse}
use Rattle.std.proofs.lemmas.List.Elements.{filter-append}
use Rattle.eviction.specs.Kept.{Held, Kept, is_pinned, cost_of, others, moved_to_front}
use Rattle.eviction.specs.Entering.{enter, spared, spared_last, new_entry, evicted, entered, can_enter}
use Rattle.eviction.specs.Pinning.{pins_of}
use Rattle.eviction.proofs.Filters.{filter-map, filter-reverse}
use Rattle.eviction.proofs.Distinct.{listed, filter_one}
use Rattle.eviction.proofs.Choices.{pinned-without_first}
use Rattle.eviction.proofs.Mapped.{enter_through}
use Rattle.blob_store.proofs.BlobLemmas.{all_filter, all_spared_last, stored_key_is}
use Rattle.eviction.proofs.Entered.{entered_is, with_entries}
use Rattle.action_cache.specs.References.{Reader, refers, is_complete}
use Rattle.action_cache.specs.Machine.{CacheState, Answer, Marked, done, refused, bad_result, pinned_differs, full, under, results_entered, with_results, or_full, differs_pinned, put_result}
use Rattle.action_cache.specs.Tied.{how_many, marks, found_in, IsTied}
use Rattle.action_cache.specs.State.{state_of}
use Rattle.action_cache.proofs.Changes.{moved_results}
use Rattle.action_cache.proofs.Unpinning.{mark, under-marks}

all_refl : {X : Type 0} (p : X → Bool) (xs : List X) → AllByRecursion (λ x. p x ≡ p x) xs
all_refl p [] = tt
all_refl p (x ∷ xs) = (refl, all_refl p xs)

through : (s : Kept (List ℕ)) (o : Option (List (List ℕ × Held))) → option_map marks o ≡ option_map (λ (t : Kept (List ℕ)). marks t.entries) (option_map (with_entries s) o)
through s None = refl
through s (Some es) = refl

pinned-spared_last : (m : ℕ) (es : List (List ℕ × Held)) → filter is_pinned (spared_last is_pinned m es) ≡ filter is_pinned es
pinned-spared_last m es =
    filter-reverse is_pinned (spared is_pinned m (reverse es))
    ∙ ap reverse (pinned-without_first m (reverse es) ∙ filter-reverse is_pinned es)
    ∙ reverse-reverse (filter is_pinned es)

mark_of : (o : Option Held) → option_map_or (λ (r : Marked). r.pinned) (option_map mark o) false ≡ nat_lt 0 (option_map_or (λ (x : Held). x.pins) o 0)
mark_of None = refl
mark_of (Some v) = refl

value_of : (test : List ℕ → Bool) (es : List (List ℕ × Held)) → lookup test es ≡ option_map (λ (e : List ℕ × Held). e.1) (lookup_entry test es)
value_of test [] = refl
value_of test (e ∷ es) = elim (test e.0) as (λ b. cond b (Some e.1) (lookup test es) ≡ option_map (λ (f : List ℕ × Held). f.1) (cond b (Some e) (lookup_entry test es))) [ true ↦ refl | false ↦ value_of test es ]

module _ (reader : Reader) (limit : ℕ) (blobs : List (List ℕ × Held)) (s : Kept (List ℕ)) (flat : s.overhead ≡ 64) (d : IsDistinct bytes_eq (keys_of s.entries)) (h b : List ℕ) where
  abbrev st : CacheState
  st = state_of limit s.limit blobs s.entries

  -- by marks or by counts: the same enters, and the same is evicted
  pub results_marked : results_entered reader st h b ≡ option_map (λ (t : Kept (List ℕ)). marks t.entries) (entered bytes_eq s h b)
  results_marked =
      let same : option_map_or (λ (r : Marked). r.pinned) (under h (marks s.entries)) false ≡ nat_lt 0 (pins_of bytes_eq s.entries h) =
      ap (λ o. option_map_or (λ (r : Marked). r.pinned) o false) (under-marks h s.entries) ∙ mark_of (lookup (bytes_eq h) s.entries) in
      (λ i. enter (λ (r : List ℕ × Marked). r.1.pinned) (λ r. length r.1.bytes + 64) s.limit (sym (stored_key_is s.entries h) i, let m : Marked = record { bytes = b; pinned = same i } in m)
      (filter-map (λ (e : List ℕ × Held). (e.0, mark e.1)) (λ x. not (bytes_eq h x.0)) s.entries i))
      ∙ enter_through (λ (e : List ℕ × Held). (e.0, mark e.1)) is_pinned (λ (r : List ℕ × Marked). r.1.pinned) (cost_of s.overhead) (λ r. length r.1.bytes + 64) (λ e. ap (λ n. length e.1.bytes + n) (sym flat)) s.limit (new_entry bytes_eq s h b) (others bytes_eq h s.entries)
      (all_refl is_pinned (others bytes_eq h s.entries))
      ∙ through s (enter is_pinned (cost_of s.overhead) s.limit (new_entry bytes_eq s h b) (others bytes_eq h s.entries))

  -- the two lists hold the same pinned bytes
  record SamePinned (old new : List (List ℕ × Held)) : Type 0 where
    counts : (q : List ℕ → Bool) → how_many (λ (r : List ℕ × Held). q r.1.bytes) new ≡ how_many (λ (r : List ℕ × Held). q r.1.bytes) old
    all : (q : List ℕ → Bool) → AllByRecursion (λ (r : List ℕ × Held). q r.1.bytes ≡ true) old → AllByRecursion (λ (r : List ℕ × Held). q r.1.bytes ≡ true) new

  same_first : (e f : List ℕ × Held) (rest : List (List ℕ × Held)) → e.1.pins ≡ f.1.pins → (0 < e.1.pins → e.1.bytes ≡ f.1.bytes) → SamePinned (cond (is_pinned e) (e ∷ []) [] ++ rest) (cond (is_pinned f) (f ∷ rest) rest)
  same_first e f rest p same = (elim (is_pinned e) as (λ y. is_pinned e ≡ y → SamePinned (cond y (e ∷ []) [] ++ rest) (cond (is_pinned f) (f ∷ rest) rest)) [
    | true ↦ λ t.
        let on : is_pinned f ≡ true = ap (nat_lt 0) (sym p) ∙ t in
        let b = same (above e.1.pins t) in
        subst (λ y. SamePinned (e ∷ rest) (cond y (f ∷ rest) rest)) (sym on) (record { counts = λ q. ap (λ x. cond (q x) 1 0 + how_many (λ (r : List ℕ × Held). q r.1.bytes) rest) (sym b); all = λ q a. (ap q (sym b) ∙ a.0, a.1) })
    | false ↦ λ t.
        let off : is_pinned f ≡ false = ap (nat_lt 0) (sym p) ∙ t in
        subst (λ y. SamePinned rest (cond y (f ∷ rest) rest)) (sym off) (record { counts = λ q. refl; all = λ q a. a })
  ]) refl
    where
      above : (n : ℕ) → nat_lt 0 n ≡ true → 0 < n
      above n t = grind (arith, nat_tests)

  by_entry : (o : Option (List ℕ × Held)) → lookup_entry (bytes_eq h) s.entries ≡ o → (rest : List (List ℕ × Held)) → ((v : Held) → lookup (bytes_eq h) s.entries ≡ Some v → 0 < v.pins → v.bytes ≡ b)
      → SamePinned (filter is_pinned (listed bytes_eq o) ++ rest) (cond (is_pinned (new_entry bytes_eq s h b)) (new_entry bytes_eq s h b ∷ rest) rest)
  by_entry None e rest same =
      let none : pins_of bytes_eq s.entries h ≡ 0 = ap (λ (o : Option Held). option_map_or (λ (x : Held). x.pins) o 0) (value_of (bytes_eq h) s.entries ∙ ap (option_map (λ (e : List ℕ × Held). e.1)) e) in
      let off : is_pinned (new_entry bytes_eq s h b) ≡ false = ap (nat_lt 0) none in
      subst (λ y. SamePinned rest (cond y (new_entry bytes_eq s h b ∷ rest) rest)) (sym off) (record { counts = λ q. refl; all = λ q a. a })
  by_entry (Some x) e rest same =
      let held : lookup (bytes_eq h) s.entries ≡ Some x.1 = value_of (bytes_eq h) s.entries ∙ ap (option_map (λ (e : List ℕ × Held). e.1)) e in
      same_first x (new_entry bytes_eq s h b) rest (sym (ap (λ (o : Option Held). option_map_or (λ (x : Held). x.pins) o 0) held)) (same x.1 held)

  -- after a put of a result all is tied
  pub put_tied : (t : Kept (List ℕ)) → entered bytes_eq s h b ≡ Some t → ((v : Held) → lookup (bytes_eq h) s.entries ≡ Some v → 0 < v.pins → v.bytes ≡ b) → IsTied reader blobs s.entries → IsTied reader blobs t.entries
  put_tied t e same tied =
      let rest : List (List ℕ × Held) = filter is_pinned (others bytes_eq h s.entries) in
      let moved = moved_results reader blobs s.entries h tied in
      let old : filter is_pinned (moved_to_front bytes_eq h s.entries) ≡ filter is_pinned (listed bytes_eq (lookup_entry (bytes_eq h) s.entries)) ++ rest =
      filter-append is_pinned (filter (λ (r : List ℕ × Held). bytes_eq h r.0) s.entries) (others bytes_eq h s.entries) ∙ ap (λ l. filter is_pinned l ++ rest) (filter_one bytes_eq nat_list_eq_equiv h s.entries d) in
      let new : filter is_pinned t.entries ≡ cond (is_pinned (new_entry bytes_eq s h b)) (new_entry bytes_eq s h b ∷ rest) rest =
      ap (filter is_pinned) (entered_is bytes_eq s t h b e).entries ∙ ap (λ l. cond (is_pinned (new_entry bytes_eq s h b)) (new_entry bytes_eq s h b ∷ l) l) (pinned-spared_last (evicted bytes_eq s h b) (others bytes_eq h s.entries)) in
      let swap = by_entry (lookup_entry (bytes_eq h) s.entries) refl rest same in
      record {
        counts = λ x. moved.counts x ∙ ap (how_many (λ (r : List ℕ × Held). refers (found_in blobs) reader r.1.bytes x)) old ∙ sym (swap.counts (λ bytes. refers (found_in blobs) reader bytes x)) ∙ ap (how_many (λ (r : List ℕ × Held). refers (found_in blobs) reader r.1.bytes x)) (sym new);
        complete = subst (AllByRecursion (λ (r : List ℕ × Held). is_complete (found_in blobs) reader r.1.bytes ≡ true)) (sym new) (swap.all (is_complete (found_in blobs) reader) (subst (AllByRecursion (λ (r : List ℕ × Held). is_complete (found_in blobs) reader r.1.bytes ≡ true)) old moved.complete));
        once = subst (AllByRecursion (λ (r : List ℕ × Held). r.1.pins ≤ 1)) (sym (entered_is bytes_eq s t h b e).entries)
            (few_pins s.entries tied.once, all_spared_last (λ (r : List ℕ × Held). r.1.pins ≤ 1) is_pinned (evicted bytes_eq s h b) (others bytes_eq h s.entries) (all_filter (λ (r : List ℕ × Held). r.1.pins ≤ 1) (λ (r : List ℕ × Held). not (bytes_eq h r.0)) s.entries tied.once));
      }
    where
      few_pins : (es : List (List ℕ × Held)) → AllByRecursion (λ (r : List ℕ × Held). r.1.pins ≤ 1) es → pins_of bytes_eq es h ≤ 1
      few_pins [] a = omega arith
      few_pins (x ∷ es) a = elim (bytes_eq h x.0) as (λ y. option_map_or (λ (v : Held). v.pins) (cond y (Some x.1) (lookup (bytes_eq h) es)) 0 ≤ 1) [ true ↦ a.0 | false ↦ few_pins es a.1 ]

  abbrev into : Option (List (List ℕ × Marked)) → Answer × CacheState
  into o = or_full reader st (option_map (with_results reader st) o)

  pub bad_put : is_some (reader.outputs b) ≡ false → put_result reader st h b ≡ (refused bad_result, st)
  bad_put n = rw n refl

  pub other_put : is_some (reader.outputs b) ≡ true → differs_pinned reader st b (under h (marks s.entries)) ≡ true → put_result reader st h b ≡ (refused pinned_differs, st)
  other_put r o = rw (r, o) refl

  pub ok_put : (t : Kept (List ℕ)) → is_some (reader.outputs b) ≡ true → differs_pinned reader st b (under h (marks s.entries)) ≡ false → entered bytes_eq s h b ≡ Some t → put_result reader st h b ≡ (done, state_of limit t.limit blobs t.entries)
  ok_put t r o e = rw (r, o) (ap into (results_marked ∙ ap (option_map (λ (t : Kept (List ℕ)). marks t.entries)) e) ∙ ap (λ n. (done, state_of limit n blobs t.entries)) (sym (entered_is bytes_eq s t h b e).limit))

  pub full_put : is_some (reader.outputs b) ≡ true → differs_pinned reader st b (under h (marks s.entries)) ≡ false → can_enter bytes_eq s h b ≡ false → put_result reader st h b ≡ (refused full, st)
  full_put r o f = rw (r, o) (ap into (results_marked ∙ ap (option_map (λ (t : Kept (List ℕ)). marks t.entries)) none))
    where
      none : entered bytes_eq s h b ≡ None
      none = rw f refl

  pub put_done : is_some (reader.outputs b) ≡ true → differs_pinned reader st b (under h (marks s.entries)) ≡ false → can_enter bytes_eq s h b ≡ true → (put_result reader st h b).0 ≡ done
  put_done r o room = by (entered bytes_eq s h b) refl
    where
      by : (x : Option (Kept (List ℕ))) → entered bytes_eq s h b ≡ x → (put_result reader st h b).0 ≡ done
      by None e = let e' = rw room at e in absurd cc
      by (Some t) e = ap (λ (z : Answer × CacheState). z.0) (ok_put t r o e)

  -- a pinned result has the bytes that are put
  pub same_put : differs_pinned reader st b (under h (marks s.entries)) ≡ false → (v : Held) → lookup (bytes_eq h) s.entries ≡ Some v → 0 < v.pins → v.bytes ≡ b
  same_put o v held some =
      let o' : differs_pinned reader st b (Some (mark v)) ≡ false = ap (differs_pinned reader st b) (sym (under-marks h s.entries ∙ ap (option_map mark) held)) ∙ o in
      by_test (nat_lt 0 v.pins) (bytes_eq v.bytes b) (bytes_eq-Decides v.bytes b).0 (above v.pins some) o'
    where
      above : (n : ℕ) → 0 < n → nat_lt 0 n ≡ true
      above n p = grind (arith, nat_tests)

      by_test : (p q : Bool) → (q ≡ true → v.bytes ≡ b) → p ≡ true → (p && not q) ≡ false → v.bytes ≡ b
      by_test true true f t e = f refl
      by_test true false f t e = absurd cc
      by_test false q f t e = absurd cc

pub entered_overhead : (s t : Kept (List ℕ)) (h b : List ℕ) → entered bytes_eq s h b ≡ Some t → t.overhead ≡ s.overhead
entered_overhead s t h b e = (entered_is bytes_eq s t h b e).overhead
