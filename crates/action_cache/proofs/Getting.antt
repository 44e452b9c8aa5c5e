-- To get a result moves it, and then all to which it refers.
use Rattle.std.proofs.Common.{◌≡◌, ℕ, true, false, not, List, [], ◌∷◌, ◌++◌, bytes_eq, Option, Some, None, is_some, is_none, option_map, refl, ap, sym, ◌∙◌}
use Rattle.std.specs.List.{filter, fold}
use Rattle.std.specs.Map.{lookup}
use Rattle.std.proofs.lemmas.List.{map-append}
use Rattle.blob_digest.specs.DigestValue.{DigestValue}
use Rattle.eviction.specs.Kept.{Held, moved_to_front}
use Rattle.eviction.proofs.Filters.{filter-map}
use Rattle.action_cache.specs.References.{Reader, references, outputs_of, first_fault, is_complete}
use Rattle.action_cache.specs.Machine.{CacheState, given, nothing, fronted, get_result, got_result}
use Rattle.action_cache.specs.Tied.{plain, marks, found_in, IsTied}
use Rattle.action_cache.specs.State.{state_of, moved_each}
use Rattle.action_cache.proofs.Pins.{kept_tied}
use Rattle.action_cache.proofs.Changes.{moved_keeps, moved_results}
use Rattle.action_cache.proofs.Mirrors.{fronted-plain}
use Rattle.action_cache.proofs.Unpinning.{mark, under-marks}
use Rattle.action_cache.proofs.Pinning.{and_false}

pub fronted-marks : (h : List ℕ) (es : List (List ℕ × Held)) → fronted h (marks es) ≡ marks (moved_to_front bytes_eq h es)
fronted-marks h es =
    (λ i. filter-map (λ (e : List ℕ × Held). (e.0, mark e.1)) (λ x. bytes_eq h x.0) es i ++ filter-map (λ (e : List ℕ × Held). (e.0, mark e.1)) (λ x. not (bytes_eq h x.0)) es i)
    ∙ sym (map-append (λ (e : List ℕ × Held). (e.0, mark e.1)) (filter (λ (e : List ℕ × Held). bytes_eq h e.0) es) (filter (λ (e : List ℕ × Held). not (bytes_eq h e.0)) es))

pub plain-moved_each : (ds : List DigestValue) (es : List (List ℕ × Held)) → fold (λ bs (d : DigestValue). fronted d.hash bs) (plain es) ds ≡ plain (moved_each ds es)
plain-moved_each [] es = refl
plain-moved_each (d ∷ ds) es = ap (λ l. fold (λ bs (x : DigestValue). fronted x.hash bs) l ds) (fronted-plain d.hash es) ∙ plain-moved_each ds (moved_to_front bytes_eq d.hash es)

pub tied-moved_each : (reader : Reader) (results : List (List ℕ × Held)) (ds : List DigestValue) (es : List (List ℕ × Held)) → IsTied reader es results → IsTied reader (moved_each ds es) results
tied-moved_each reader results [] es t = t
tied-moved_each reader results (d ∷ ds) es t = tied-moved_each reader results ds (moved_to_front bytes_eq d.hash es) (kept_tied reader es (moved_to_front bytes_eq d.hash es) results t (moved_keeps d.hash es))

module _ (reader : Reader) (limit rl : ℕ) (blobs results : List (List ℕ × Held)) (h : List ℕ) where
  abbrev st : CacheState
  st = state_of limit rl blobs results

  none_got : lookup (bytes_eq h) results ≡ None → get_result reader st h ≡ (nothing, st)
  none_got none = ap (got_result reader st h) (under-marks h results ∙ ap (option_map mark) none)

  module _ (v : Held) (held : lookup (bytes_eq h) results ≡ Some v) where
    at : get_result reader st h ≡ got_result reader st h (Some (mark v))
    at = ap (got_result reader st h) (under-marks h results ∙ ap (option_map mark) held)

    pub part_got : is_complete (found_in blobs) reader v.bytes ≡ false → get_result reader st h ≡ (nothing, st)
    part_got c = at ∙ rw c refl

    pub whole_got : is_complete (found_in blobs) reader v.bytes ≡ true
        → get_result reader st h ≡ (given v.bytes, state_of limit rl (moved_each (references (found_in blobs) reader (outputs_of reader v.bytes)) blobs) (moved_to_front bytes_eq h results))
    whole_got c = at ∙ rw c (λ i. (given v.bytes, let s : CacheState = record { blobs = plain-moved_each (references (found_in blobs) reader (outputs_of reader v.bytes)) blobs i; results = fronted-marks h results i; limit = limit; result_limit = rl } in s))

    pub still_tied : (ds : List DigestValue) → IsTied reader blobs results → IsTied reader (moved_each ds blobs) (moved_to_front bytes_eq h results)
    still_tied ds t = moved_results reader (moved_each ds blobs) results h (tied-moved_each reader results ds blobs t)

  -- a result without a survey isn't held, or is none
  pub unread_got : ((v : Held) → lookup (bytes_eq h) results ≡ Some v → is_some (reader.outputs v.bytes) ≡ false) → get_result reader st h ≡ (nothing, st)
  unread_got unread = by_entry (lookup (bytes_eq h) results) refl
    where
      by_entry : (o : Option Held) → lookup (bytes_eq h) results ≡ o → get_result reader st h ≡ (nothing, st)
      by_entry None e = none_got e
      by_entry (Some v) e = part_got v e (and_false (is_some (reader.outputs v.bytes)) (is_none (first_fault (found_in blobs) reader (outputs_of reader v.bytes))) (unread v e))
