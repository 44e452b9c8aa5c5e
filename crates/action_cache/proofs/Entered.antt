-- An entry enters the machine's list just as it enters the store, and the pinned stay.
use Rattle.std.proofs.Common.{◌≡◌, ℕ, ◌+◌, ◌<◌, true, false, cond, not, List, ◌∷◌, length, bytes_eq, Option, Some, None, option_map, refl, ap, sym, ◌∙◌, subst, arith, inl, inr, add-zero}
use Rattle.std.specs.List.{IsDistinct}
use Rattle.std.specs.Map.{keys_of, lookup}
use Rattle.std.specs.Option.{option_map_or}
use Rattle.std.specs.Cmp.Lexicographic.{nat_list_eq_equiv}
use Rattle.std.proofs.lemmas.Map.Entries.{lookup-filter-keys}
use Rattle.std.proofs.lemmas.Slice.Eq.{bytes_eq-Decides}
use Rattle.eviction.specs.Kept.{Held, Kept, is_pinned, cost_of, others}
use Rattle.eviction.specs.Entering.{enter, spared_last, new_entry, evicted, entered}
use Rattle.eviction.specs.Pinning.{pins_of}
use Rattle.eviction.proofs.Filters.{filter-map}
use Rattle.eviction.proofs.Distinct.{filter_distinct}
use Rattle.eviction.proofs.Mapped.{enter_through}
use Rattle.eviction.proofs.Kept.{Leaves, spared_last_leaves}
use Rattle.blob_store.proofs.BlobLemmas.{all_filter, stored_key_is}
use Rattle.eviction.proofs.Entered.{entered_is, with_entries}
use Rattle.action_cache.specs.References.{Reader}
use Rattle.action_cache.specs.Machine.{blob_is_pinned, blobs_entered}
use Rattle.action_cache.specs.Tied.{plain, found_in, IsTied}
use Rattle.action_cache.proofs.Pins.{KeepsPinned}
use Rattle.action_cache.proofs.Changes.{alike_marked, under-plain}
use Rattle.action_cache.specs.State.{state_of}

module _ (reader : Reader) (s : Kept (List ℕ)) (flat : s.overhead ≡ 0) (d : IsDistinct bytes_eq (keys_of s.entries)) (h b : List ℕ) where
  -- by the marks on results, or by counts: the same enters, and the same is evicted
  pub entered_marked : (result_limit : ℕ) (results : List (List ℕ × Held)) → IsTied reader s.entries results
      → blobs_entered reader (state_of s.limit result_limit s.entries results) h b ≡ option_map (λ (t : Kept (List ℕ)). plain t.entries) (entered bytes_eq s h b)
  entered_marked result_limit results t =
      let st = state_of s.limit result_limit s.entries results in
      let alike = all_filter (λ (e : List ℕ × Held). blob_is_pinned reader st (e.0, e.1.bytes) ≡ is_pinned e) (λ (e : List ℕ × Held). not (bytes_eq h e.0)) s.entries (alike_marked reader s.limit result_limit s.entries results t d) in
      (λ i. enter (blob_is_pinned reader st) (λ x. length x.1) s.limit (sym (stored_key_is s.entries h) i, b) (filter-map (λ (e : List ℕ × Held). (e.0, e.1.bytes)) (λ x. not (bytes_eq h x.0)) s.entries i))
      ∙ enter_through (λ (e : List ℕ × Held). (e.0, e.1.bytes)) is_pinned (blob_is_pinned reader st) (cost_of s.overhead) (λ x. length x.1) (λ e. sym (add-zero (length e.1.bytes)) ∙ ap (λ n. length e.1.bytes + n) (sym flat)) s.limit (new_entry bytes_eq s h b) (others bytes_eq h s.entries) alike
      ∙ through (enter is_pinned (cost_of s.overhead) s.limit (new_entry bytes_eq s h b) (others bytes_eq h s.entries))
    where
      through : (o : Option (List (List ℕ × Held))) → option_map plain o ≡ option_map (λ (t : Kept (List ℕ)). plain t.entries) (option_map (with_entries s) o)
      through None = refl
      through (Some es) = refl

  -- a new blob leaves the pinned ones as they were
  pub entered_keeps : (t : Kept (List ℕ)) → entered bytes_eq s h b ≡ Some t → lookup (bytes_eq h) s.entries ≡ None → KeepsPinned s.entries t.entries
  entered_keeps t e absent = subst (KeepsPinned s.entries) (sym (entered_is bytes_eq s t h b e).entries) (record { counts = λ q. (both q).0; blobs = λ q some. found q some })
    where
      left : (q : List ℕ) (old mid new : Option Held) → new ≡ mid → Leaves bytes_eq nat_list_eq_equiv old mid → (option_map_or (λ (x : Held). x.pins) new 0 ≡ option_map_or (λ (x : Held). x.pins) old 0) × (0 < option_map_or (λ (x : Held). x.pins) old 0 → new ≡ old)
      left q old mid new e (inl same) = (ap (λ o. option_map_or (λ (x : Held). x.pins) o 0) (e ∙ same), λ _. e ∙ same)
      left q old mid new e (inr gone) = (ap (λ o. option_map_or (λ (x : Held). x.pins) o 0) (e ∙ gone.0) ∙ sym gone.1, λ some. let none = gone.1 in absurd (omega arith))

      both : (q : List ℕ) → (pins_of bytes_eq (new_entry bytes_eq s h b ∷ spared_last is_pinned (evicted bytes_eq s h b) (others bytes_eq h s.entries)) q ≡ pins_of bytes_eq s.entries q)
          × (0 < pins_of bytes_eq s.entries q → lookup (bytes_eq q) (new_entry bytes_eq s h b ∷ spared_last is_pinned (evicted bytes_eq s h b) (others bytes_eq h s.entries)) ≡ lookup (bytes_eq q) s.entries)
      both q = (elim (bytes_eq q h) as (λ y. bytes_eq q h ≡ y → (pins_of bytes_eq (new_entry bytes_eq s h b ∷ spared_last is_pinned (evicted bytes_eq s h b) (others bytes_eq h s.entries)) q ≡ pins_of bytes_eq s.entries q) × (0 < pins_of bytes_eq s.entries q → lookup (bytes_eq q) (new_entry bytes_eq s h b ∷ spared_last is_pinned (evicted bytes_eq s h b) (others bytes_eq h s.entries)) ≡ lookup (bytes_eq q) s.entries)) [
        | true ↦ λ t.
            let same : q ≡ h = (bytes_eq-Decides q h).0 t in
            let none : pins_of bytes_eq s.entries q ≡ 0 = ap (pins_of bytes_eq s.entries) same ∙ ap (λ o. option_map_or (λ (x : Held). x.pins) o 0) absent in
            let test : bytes_eq q (new_entry bytes_eq s h b).0 ≡ true = ap (bytes_eq q) (stored_key_is s.entries h) ∙ t in (
              (λ i. option_map_or (λ (x : Held). x.pins) (cond (test i) (Some (new_entry bytes_eq s h b).1) (lookup (bytes_eq q) (spared_last is_pinned (evicted bytes_eq s h b) (others bytes_eq h s.entries)))) 0) ∙ ap (pins_of bytes_eq s.entries) (sym same),
              λ some. absurd (omega arith),
            )
        | false ↦ λ t.
            let test : bytes_eq q (new_entry bytes_eq s h b).0 ≡ false = ap (bytes_eq q) (stored_key_is s.entries h) ∙ t in
            let first : lookup (bytes_eq q) (new_entry bytes_eq s h b ∷ spared_last is_pinned (evicted bytes_eq s h b) (others bytes_eq h s.entries)) ≡ lookup (bytes_eq q) (spared_last is_pinned (evicted bytes_eq s h b) (others bytes_eq h s.entries)) = λ i. cond (test i) (Some (new_entry bytes_eq s h b).1) (lookup (bytes_eq q) (spared_last is_pinned (evicted bytes_eq s h b) (others bytes_eq h s.entries))) in
            let rest : lookup (bytes_eq q) (others bytes_eq h s.entries) ≡ lookup (bytes_eq q) s.entries = lookup-filter-keys (bytes_eq q) (λ j. not (bytes_eq h j)) true (λ j u. ap not (nat_list_eq_equiv.symm h j ∙ sym (nat_list_eq_equiv.congr q j h u) ∙ t)) s.entries in
            left q (lookup (bytes_eq q) s.entries) (lookup (bytes_eq q) (spared_last is_pinned (evicted bytes_eq s h b) (others bytes_eq h s.entries))) (lookup (bytes_eq q) (new_entry bytes_eq s h b ∷ spared_last is_pinned (evicted bytes_eq s h b) (others bytes_eq h s.entries))) first
            (subst (λ o. Leaves bytes_eq nat_list_eq_equiv o (lookup (bytes_eq q) (spared_last is_pinned (evicted bytes_eq s h b) (others bytes_eq h s.entries)))) rest (spared_last_leaves bytes_eq nat_list_eq_equiv q (evicted bytes_eq s h b) (others bytes_eq h s.entries) (filter_distinct bytes_eq (λ e. not (bytes_eq h e.0)) s.entries d)))
      ]) refl

      found : (q : List ℕ) → 0 < pins_of bytes_eq s.entries q → found_in (new_entry bytes_eq s h b ∷ spared_last is_pinned (evicted bytes_eq s h b) (others bytes_eq h s.entries)) q ≡ found_in s.entries q
      found q some =
          under-plain q (new_entry bytes_eq s h b ∷ spared_last is_pinned (evicted bytes_eq s h b) (others bytes_eq h s.entries))
          ∙ ap (option_map (λ (x : Held). x.bytes)) ((both q).1 some) ∙ sym (under-plain q s.entries)
