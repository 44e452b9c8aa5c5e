-- To get a blob, in the store and in the machine.
use Rattle.std.proofs.Common.{◌≡◌, ℕ, true, false, cond, not, List, [], ◌∷◌, ◌++◌, bytes_eq, Option, Some, None, refl, ap, sym, ◌∙◌}
use Rattle.std.specs.List.{filter}
use Rattle.sha2.specs.Sha256.{sha256}
use Rattle.eviction.specs.Kept.{Held, Kept, touched, moved_to_front, others}
use Rattle.blob_store.specs.Blobs.{plain, found_in, held_under}
use Rattle.blob_store.specs.Storing.{used}
use Rattle.action_cache.specs.References.{Reader}
use Rattle.action_cache.specs.Machine.{CacheState, Answer, given, nothing, under, with_blobs, get_blob, got_blob}
use Rattle.action_cache.specs.Tied.{IsTied}
use Rattle.action_cache.specs.State.{answer_of, state_of, bytes_given}
use Rattle.action_cache.proofs.Changes.{moved_keeps}
use Rattle.action_cache.proofs.Mirrors.{fronted-plain}
use Rattle.action_cache.proofs.Pins.{kept_tied}

none_first : (h : List ℕ) (es : List (List ℕ × Held)) → under h (plain es) ≡ None → filter (λ (e : List ℕ × Held). bytes_eq h e.0) es ≡ []
none_first h [] n = refl
none_first h (e ∷ es) n = (elim (bytes_eq h e.0) as (λ b. bytes_eq h e.0 ≡ b → cond b (e ∷ filter (λ (x : List ℕ × Held). bytes_eq h x.0) es) (filter (λ (x : List ℕ × Held). bytes_eq h x.0) es) ≡ []) [
  | true ↦ λ t. let n' = rw t at n in absurd cc
  | false ↦ λ t. none_first h es (rw t at n)
]) refl

all_others : (h : List ℕ) (es : List (List ℕ × Held)) → under h (plain es) ≡ None → others bytes_eq h es ≡ es
all_others h [] n = refl
all_others h (e ∷ es) n = (elim (bytes_eq h e.0) as (λ b. bytes_eq h e.0 ≡ b → cond (not b) (e ∷ others bytes_eq h es) (others bytes_eq h es) ≡ e ∷ es) [
  | true ↦ λ t. let n' = rw t at n in absurd cc
  | false ↦ λ t. ap (λ l. e ∷ l) (all_others h es (rw t at n))
]) refl

module _ (reader : Reader) (s : Kept (List ℕ)) (rl : ℕ) (results : List (List ℕ × Held)) (h : List ℕ) where
  abbrev st : CacheState
  st = state_of s.limit rl s.entries results

  pub used_tied : IsTied reader s.entries results → IsTied reader (used s h).entries results
  used_tied t = elim (bytes_eq (sha256 []) h) as (λ b. IsTied reader (cond b s (touched bytes_eq s h)).entries results) [
    | true ↦ t
    | false ↦ kept_tied reader s.entries (moved_to_front bytes_eq h s.entries) results t (moved_keeps h s.entries)
  ]

  moved : (o : Option (List ℕ)) → under h (plain s.entries) ≡ o → state_of s.limit rl (moved_to_front bytes_eq h s.entries) results ≡ (got_blob reader st h o).1
  moved None n = ap (λ es. state_of s.limit rl es results) ((λ i. none_first h s.entries n i ++ all_others h s.entries n i))
  moved (Some b) n = ap (with_blobs reader st) (sym (fronted-plain h s.entries))

  pub used_got : state_of (used s h).limit rl (used s h).entries results ≡ (get_blob reader st h).1
  used_got = (elim (bytes_eq (sha256 []) h) as (λ b. state_of (cond b s (touched bytes_eq s h)).limit rl (cond b s (touched bytes_eq s h)).entries results ≡ (cond b (given [], st) (got_blob reader st h (under h (plain s.entries)))).1) [
    | true ↦ refl
    | false ↦ moved (under h (plain s.entries)) refl
  ])

  pub given_is : held_under (found_in s.entries) h ≡ bytes_given (get_blob reader st h).0
  given_is = elim (bytes_eq (sha256 []) h) as (λ b. cond b (Some []) (under h (plain s.entries)) ≡ bytes_given (cond b (given [], st) (got_blob reader st h (under h (plain s.entries)))).0) [
    | true ↦ refl
    | false ↦ by (under h (plain s.entries))
  ]
    where
      by : (o : Option (List ℕ)) → o ≡ bytes_given (got_blob reader st h o).0
      by None = refl
      by (Some b) = refl

  -- what is held under the hash is what the machine answers, and the use is its step
  pub got_is : (found : Option (List ℕ)) → found ≡ held_under (found_in s.entries) h → get_blob reader st h ≡ (answer_of found, state_of (used s h).limit rl (used s h).entries results)
  got_is found e = (λ i. (answered i, (get_blob reader st h).1)) ∙ ap (λ o. (answer_of o, (get_blob reader st h).1)) (sym e) ∙ ap (λ z. (answer_of found, z)) (sym used_got)
    where
      by : (o : Option (List ℕ)) → (got_blob reader st h o).0 ≡ answer_of o
      by None = refl
      by (Some b) = refl

      answered : (get_blob reader st h).0 ≡ answer_of (held_under (found_in s.entries) h)
      answered = elim (bytes_eq (sha256 []) h) as (λ b. (cond b (given [], st) (got_blob reader st h (under h (plain s.entries)))).0 ≡ answer_of (cond b (Some []) (under h (plain s.entries)))) [
        | true ↦ refl
        | false ↦ by (under h (plain s.entries))
      ]

  -- nothing is answered where nothing is held
  pub nothing_got : held_under (found_in s.entries) h ≡ None → (get_blob reader st h).0 ≡ nothing
  nothing_got none = ap (λ (o : Answer × CacheState). o.0) (got_is None (sym none))
