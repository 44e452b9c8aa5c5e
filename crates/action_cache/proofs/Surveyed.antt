-- What a survey tells of the result that it is of, and what the calls do that look at one.
use Rattle.std.proofs.Common.{◌≡◌, ◌≢◌, ◌<◌, ℕ, true, false, ◌&&◌, ◌∷◌, List, [], bytes_eq, Option, Some, None, is_some, is_none, refl, ap, sym, ◌∙◌, subst, option_map, arith}
use Rattle.std.specs.Prelude.{Result, OnOk, OnErr, IsSome, IsSomeAnd}
use Rattle.std.specs.List.{IsDistinct}
use Rattle.std.specs.Map.{keys_of, lookup}
use Rattle.blob_digest.specs.DigestValue.{DigestValue}
use Rattle.eviction.specs.Kept.{Held, Kept, touched}
use Rattle.eviction.specs.Pinning.{is_among, pins_of, pinned_all, unpinned_all, all_stored, all_pinned}
use Rattle.blob_store.specs.Blobs.{hashes_of, all_held, found_in}
use Rattle.action_cache.specs.References.{refers, is_complete, first_fault, outputs_of, references}
use Rattle.action_cache.specs.Reading.{by_messages}
use Rattle.action_cache.specs.Machine.{CacheState, Answer, done, given, under, pin, unpin, get_result}
use Rattle.action_cache.specs.Tied.{IsTied, marks}
use Rattle.action_cache.specs.State.{state_of, touched_each}
use Rattle.action_cache.specs.Survey.{Surveys, IsSurvey, IsSurveyUnder}
use Rattle.action_cache.specs.declared.survey.Survey.{Survey}
use Rattle.action_cache.proofs.Once.{all_held_of}
use Rattle.action_cache.proofs.Unpinning as unpinning
use Rattle.action_cache.proofs.Unpinning.{settled, pins_found, pinned_entry, unmarked, held_under}
use Rattle.action_cache.proofs.Pinning as pinning
use Rattle.action_cache.proofs.Pinning.{faulty}
use Rattle.action_cache.proofs.Getting as getting

-- the survey of the bytes that stand under a hash
pub under_hash : {A : Type 0} (blobs results : List (List ℕ × Held)) (h b : List ℕ) (v : Held) → lookup (bytes_eq h) results ≡ Some v → v.bytes ≡ b
    → (o : Option (Survey A)) → IsSurvey by_messages (found_in blobs) b o → IsSurveyUnder blobs results h o
under_hash blobs results h b v held same None none = λ w e.
    let one : Some v ≡ Some w = sym held ∙ e in
    let is : v ≡ w = cc in
    subst (λ (y : Held). is_some (by_messages.outputs y.bytes) ≡ false) is (subst (λ y. is_some (by_messages.outputs y) ≡ false) (sym same) none)
under_hash blobs results h b v held same (Some s) p = (v, held, subst (λ y. Surveys by_messages (found_in blobs) y s) (sym same) p)

-- nothing stands there
pub under_none : (results : List (List ℕ × Held)) (h : List ℕ) → lookup (bytes_eq h) results ≡ None → (v : Held) → lookup (bytes_eq h) results ≡ Some v → is_some (by_messages.outputs v.bytes) ≡ false
under_none results h none v e = let no : None ≡ Some v = sym none ∙ e in absurd cc

-- the bytes that are found are those of the entry
pub found_bytes : (o : Option Held) (v : Held) (b : List ℕ) → o ≡ Some v → Some b ≡ option_map (λ (x : Held). x.bytes) o → b ≡ v.bytes
found_bytes o v b held e = let one : Some b ≡ Some v.bytes = e ∙ ap (option_map (λ (x : Held). x.bytes)) held in cc

pub not_gone : (o : Option Held) (v : Held) → o ≡ Some v → None ≡ option_map (λ (x : Held). x.bytes) o → ⊥
not_gone o v held e = let no : None ≡ Some v.bytes = e ∙ ap (option_map (λ (x : Held). x.bytes)) held in absurd cc

some_entry : (o : Option Held) → IsSome o → (v : Held) × (o ≡ Some v)
some_entry None e = absurd cc
some_entry (Some v) e = (v, refl)

-- what is held stands in the machine, and not as pinned
pub some_under : (h : List ℕ) (es : List (List ℕ × Held)) → IsSome (lookup (bytes_eq h) es) → IsSome (under h (marks es))
some_under h es e = let x = some_entry (lookup (bytes_eq h) es) e in held_under h es x.0 x.1

pub some_unpinned : (h : List ℕ) (es : List (List ℕ × Held)) (n : ℕ) → n ≡ pins_of bytes_eq es h → n ≡ 0 → IsSome (lookup (bytes_eq h) es) → IsSomeAnd (under h (marks es)) (λ r. r.pinned ≡ false)
some_unpinned h es n told none e = let x = some_entry (lookup (bytes_eq h) es) e in unmarked h es x.0 x.1 (sym (pins_found es h x.0 n x.1 told) ∙ none)

pub no_fault : {X : Type 0} (o : Option X) → is_some o ≡ false → o ≡ None
no_fault None e = refl
no_fault (Some x) e = absurd cc

pub a_fault : {X : Type 0} (o : Option X) → is_some o ≡ true → (x : X) × (o ≡ Some x)
a_fault None e = absurd cc
a_fault (Some x) e = (x, refl)

-- what a call did: the stores, and what the machine answers
pub record IsDone (answer : Answer) (out : Answer × CacheState) (blobs results : Kept (List ℕ)) : Type 0 where
  pub tied : IsTied by_messages blobs.entries results.entries
  pub flat : blobs.overhead ≡ 0
  pub heavy : results.overhead ≡ 64
  pub is : out ≡ (answer, state_of blobs.limit results.limit blobs.entries results.entries)

module _ {A : Type 0} (found : List ℕ → Option (List ℕ)) (bytes : List ℕ) (s : Survey A) (p : Surveys by_messages found bytes s) where
  pub whole : s.fault ≡ None → is_complete found by_messages bytes ≡ true
  whole f = λ j. p.reads j && is_none ((sym p.fault ∙ f) j)

  pub part : (d : DigestValue) → s.fault ≡ Some d → is_complete found by_messages bytes ≡ false
  part d f = faulty (is_some (by_messages.outputs bytes)) (first_fault found by_messages (outputs_of by_messages bytes)) d (sym p.fault ∙ f)

  -- the digests of the survey, each once
  module _ (ds : List DigestValue) (e : ds ≡ s.once.items) where
    pub distinct : IsDistinct bytes_eq (hashes_of ds)
    distinct = subst (λ y. IsDistinct bytes_eq (hashes_of y)) (sym e) p.once.distinct

    pub named : (h : List ℕ) → is_among bytes_eq (hashes_of ds) h ≡ refers found by_messages bytes h
    named h = ap (λ y. is_among bytes_eq (hashes_of y) h) e ∙ p.once.named h

    pub there : s.fault ≡ None → all_held found ds ≡ true
    there f = ap (all_held found) e ∙ p.once.held found (all_held_of found by_messages (outputs_of by_messages bytes) (sym p.fault ∙ f))

module _ (blobs results : Kept (List ℕ)) (flat : blobs.overhead ≡ 0) (heavy : results.overhead ≡ 64) (tied : IsTied by_messages blobs.entries results.entries) (h : List ℕ) where
  abbrev st : CacheState
  st = state_of blobs.limit results.limit blobs.entries results.entries

  -- the machine unpins what has a count
  pub unpins : (n : ℕ) → n ≡ pins_of bytes_eq results.entries h → n ≢ 0 → (unpin by_messages st h).0 ≡ done
  unpins n told some =
      let counted : 0 < pins_of bytes_eq results.entries h = omega (arith, told, some) in
      let x = pinned_entry (lookup (bytes_eq h) results.entries) counted in
      unpinning.unpins by_messages blobs.limit results.limit blobs.entries results.entries h x.0 x.1 x.2

  -- a result that is looked up moves, and then all to which it refers
  pub gets : {A : Type 0} (v : Held) (held : lookup (bytes_eq h) results.entries ≡ Some v) (s : Survey A) (p : Surveys by_messages (found_in blobs.entries) v.bytes s) (new_blobs new_results : Kept (List ℕ))
      → s.fault ≡ None → (ds : List DigestValue) → ds ≡ s.references.items → new_blobs ≡ touched_each blobs ds → new_results ≡ touched bytes_eq results h
      → (copy : List ℕ) → copy ≡ v.bytes → IsDone (given copy) (get_result by_messages st h) new_blobs new_results
  gets v held s p new_blobs new_results f ds e b r copy c =
      let refs : ds ≡ references (found_in blobs.entries) by_messages (outputs_of by_messages v.bytes) = e ∙ p.in_order in
      rw (b, r, c, refs) (record {
        tied = getting.still_tied by_messages blobs.limit results.limit blobs.entries results.entries h v held (references (found_in blobs.entries) by_messages (outputs_of by_messages v.bytes)) tied;
        flat = flat;
        heavy = heavy;
        is = getting.whole_got by_messages blobs.limit results.limit blobs.entries results.entries h v held (whole (found_in blobs.entries) v.bytes s p f);
      })

  module _ (d : IsDistinct bytes_eq (keys_of results.entries)) where
    -- what has a count is a result
    pub was_read : (n : ℕ) → n ≡ pins_of bytes_eq results.entries h → n ≢ 0 → ((v : Held) → lookup (bytes_eq h) results.entries ≡ Some v → is_some (by_messages.outputs v.bytes) ≡ false) → ⊥
    was_read n told some unread =
        let counted : 0 < pins_of bytes_eq results.entries h = omega (arith, told, some) in
        let x = pinned_entry (lookup (bytes_eq h) results.entries) counted in
        unpinning.was_read by_messages blobs.limit results.limit blobs.entries results.entries d tied h x.0 x.1 x.2 (unread x.0 x.1)

    module _ {A : Type 0} (v : Held) (held : lookup (bytes_eq h) results.entries ≡ Some v) (s : Survey A) (p : Surveys by_messages (found_in blobs.entries) v.bytes s)
        (n : ℕ) (told : n ≡ pins_of bytes_eq results.entries h) (ds : List DigestValue) (e : ds ≡ s.once.items) where
      names : (x : List ℕ) → is_among bytes_eq (hashes_of ds) x ≡ refers (found_in blobs.entries) by_messages v.bytes x
      names = named (found_in blobs.entries) v.bytes s p ds e

      -- a result without a count is pinned, and each blob to which it refers
      pub pins : {X E : Type 0} (new_blobs new_results : Kept (List ℕ)) (r : Result X E) → s.fault ≡ None → n ≡ 0
          → new_blobs ≡ pinned_all bytes_eq blobs (hashes_of ds) → OnOk r (new_results ≡ pinned_all bytes_eq results (h ∷ [])) → OnErr r (all_stored bytes_eq results.entries (h ∷ []) ≡ false)
          → IsDone done (pin by_messages st h) new_blobs new_results
      pins new_blobs new_results r f none b ok err =
          let complete = whole (found_in blobs.entries) v.bytes s p f in
          let zero_pins : v.pins ≡ 0 = sym (pins_found results.entries h v n held told) ∙ none in
          let marked : new_results ≡ pinned_all bytes_eq results (h ∷ []) = settled r (new_results ≡ pinned_all bytes_eq results (h ∷ [])) (all_stored bytes_eq results.entries (h ∷ [])) ok err
          (pinning.result_held by_messages blobs.limit results.limit blobs.entries results.entries d tied h v held complete zero_pins (hashes_of ds) names) in
          rw (b, marked) (record {
            tied = pinning.still_tied by_messages blobs.limit results.limit blobs.entries results.entries d tied h v held complete zero_pins (hashes_of ds) names;
            flat = flat;
            heavy = heavy;
            is = pinning.pinned by_messages blobs.limit results.limit blobs.entries results.entries d tied h v held complete zero_pins (hashes_of ds) names;
          })

      module _ (some : n ≢ 0) where
        has_pins : 0 < v.pins
        has_pins = let count = pins_found results.entries h v n held told in omega (arith, count, some)

        -- each blob to which a pinned result refers is pinned
        pub counted : all_pinned bytes_eq blobs.entries (hashes_of ds) ≡ true
        counted = unpinning.all_counted by_messages blobs.limit results.limit blobs.entries results.entries d tied h v held has_pins (hashes_of ds) names

        -- a result with a count is unpinned, and each blob to which it refers
        pub takes_off : {X E : Type 0} (new_blobs new_results : Kept (List ℕ)) (r : Result X E)
            → new_blobs ≡ unpinned_all bytes_eq blobs (hashes_of ds) → OnOk r (new_results ≡ unpinned_all bytes_eq results (h ∷ [])) → OnErr r (all_pinned bytes_eq results.entries (h ∷ []) ≡ false)
            → IsDone done (unpin by_messages st h) new_blobs new_results
        takes_off new_blobs new_results r b ok err =
            let marked : new_results ≡ unpinned_all bytes_eq results (h ∷ []) = settled r (new_results ≡ unpinned_all bytes_eq results (h ∷ [])) (all_pinned bytes_eq results.entries (h ∷ [])) ok err
            (unpinning.result_pinned by_messages blobs.limit results.limit blobs.entries results.entries d tied h v held has_pins (hashes_of ds) names) in
            rw (b, marked) (record {
              tied = unpinning.still_tied by_messages blobs.limit results.limit blobs.entries results.entries d tied h v held has_pins (hashes_of ds) names;
              flat = flat;
              heavy = heavy;
              is = unpinning.unpinned by_messages blobs.limit results.limit blobs.entries results.entries d tied h v held has_pins (hashes_of ds) names;
            })
