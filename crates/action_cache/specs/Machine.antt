-- The cache as a machine: lists, a mark on pinned results, and no counts.
use Rattle.std.specs.Prelude.{ℕ, ◌+◌, Bool, true, false, not, ◌&&◌, List, [], ◌++◌, map}
use Rattle.std.specs.Prelude.{length, bytes_eq, Option, Some, None, is_some, nat_lt, option_map}
use Rattle.std.specs.Prelude.{if◌then◌else◌}
use Rattle.std.specs.List.{filter, list_any, fold}
use Rattle.std.specs.Map.{lookup}
use Rattle.std.specs.Option.{option_map_or}
use Rattle.sha2.specs.Sha256.{sha256}
use Rattle.blob_digest.specs.DigestValue.{DigestValue}
use Rattle.blob_digest.specs.Body.{greatest_blob}
use Rattle.eviction.specs.Entering.{enter}
use Rattle.action_cache.specs.References.{Reader, references, outputs_of, first_fault, is_complete}
use Rattle.action_cache.specs.References.{refers}

-- a result's bytes, and whether it is pinned
pub record Marked : Type 0 where
  pub bytes : List ℕ
  pub pinned : Bool

-- blobs under their hashes and results under those of their actions, most recently used first, and
-- the limits on their costs
pub record CacheState : Type 0 where
  pub blobs : List (List ℕ × List ℕ)
  pub results : List (List ℕ × Marked)
  pub limit : ℕ
  pub result_limit : ℕ

-- a cache that holds nothing
abbrev pub empty_cache : ℕ → ℕ → CacheState
empty_cache limit result_limit = record {
  blobs = [];
  results = [];
  limit = limit;
  result_limit = result_limit;
}

-- why a call is refused
pub data Refusal : Type 0 where
  too_large : Refusal
  hash_differs : Refusal
  full : Refusal
  not_held : Refusal
  not_pinned : Refusal
  bad_result : Refusal
  pinned_differs : Refusal
  incomplete : DigestValue → Refusal

-- what a call answers: that it is done, the bytes that were asked for or that there are none, or
-- why it is refused
pub data Answer : Type 0 where
  done : Answer
  given : List ℕ → Answer
  nothing : Answer
  refused : Refusal → Answer

module _ {X : Type 0} where
  -- what stands under the hash
  abbrev pub under : List ℕ → List (List ℕ × X) → Option X
  under h es = lookup (bytes_eq h) es

  -- the entries under other hashes
  abbrev pub others_than : List ℕ → List (List ℕ × X) → List (List ℕ × X)
  others_than h es = filter (λ e. not (bytes_eq h e.0)) es

  -- the entry under the hash first, and the others as they were
  abbrev pub fronted : List ℕ → List (List ℕ × X) → List (List ℕ × X)
  fronted h es = filter (λ e. bytes_eq h e.0) es ++ others_than h es

module _ (reader : Reader) (s : CacheState) where
  -- the bytes that are stored under a hash
  abbrev pub found : List ℕ → Option (List ℕ)
  found h = under h s.blobs

  -- a blob is pinned where a pinned result refers to it
  abbrev pub blob_is_pinned : List ℕ × List ℕ → Bool
  blob_is_pinned b =
      list_any (λ r. r.1.pinned && refers found reader r.1.bytes b.0) s.results

  -- the state with these blobs
  abbrev pub with_blobs : List (List ℕ × List ℕ) → CacheState
  with_blobs bs = record {
    blobs = bs;
    results = s.results;
    limit = s.limit;
    result_limit = s.result_limit;
  }

  -- the state with these results
  abbrev pub with_results : List (List ℕ × Marked) → CacheState
  with_results rs = record {
    blobs = s.blobs;
    results = rs;
    limit = s.limit;
    result_limit = s.result_limit;
  }

  -- the blobs when a new one has entered, if it can: it costs its length
  abbrev pub blobs_entered : List ℕ → List ℕ → Option (List (List ℕ × List ℕ))
  blobs_entered h bytes =
      enter blob_is_pinned (λ b. length b.1) s.limit (h, bytes) (others_than h s.blobs)

  -- a result keeps its mark
  abbrev pub results_entered : List ℕ → List ℕ → Option (List (List ℕ × Marked))
  results_entered h bytes =
      let new : Marked = record {
        bytes = bytes;
        pinned = option_map_or (λ r. r.pinned) (under h s.results) false;
      } in
      enter (λ r. r.1.pinned) (λ r. length r.1.bytes + 64) s.result_limit (h, new)
      (others_than h s.results)

  -- done, if there is such a state; else there is no room
  abbrev pub or_full : Option CacheState → Answer × CacheState
  or_full None = (refused full, s)
  or_full (Some t) = (done, t)

  -- a blob that has the hash: the empty blob is held already, and so is what stands under the hash
  abbrev pub blob_stored : List ℕ → List ℕ → Answer × CacheState
  blob_stored h bytes =
      if bytes_eq (sha256 []) h then (done, s)
      else (if is_some (found h) then (done, with_blobs (fronted h s.blobs))
      else or_full (option_map with_blobs (blobs_entered h bytes)))

  -- a put of a blob under a hash
  abbrev pub put_blob : List ℕ → List ℕ → Answer × CacheState
  put_blob h bytes =
      if nat_lt greatest_blob (length bytes) then (refused too_large, s)
      else (if bytes_eq (sha256 bytes) h then blob_stored h bytes else (refused hash_differs, s))

  -- the look-up of what was found, which moves to the front
  abbrev pub got_blob : List ℕ → Option (List ℕ) → Answer × CacheState
  got_blob h None = (nothing, s)
  got_blob h (Some b) = (given b, with_blobs (fronted h s.blobs))

  -- a look-up of a blob, which moves to the front. The empty blob is always held, and moves nothing
  abbrev pub get_blob : List ℕ → Answer × CacheState
  get_blob h = if bytes_eq (sha256 []) h then (given [], s) else got_blob h (found h)

  -- the state after a use of a result: it is first, and then each blob to which it refers, in
  -- order, is moved to the front
  abbrev pub result_used : List ℕ → List ℕ → CacheState
  result_used h bytes = record {
    blobs = fold (λ bs (d : DigestValue). fronted d.hash bs) s.blobs
        (references found reader (outputs_of reader bytes));
    results = fronted h s.results;
    limit = s.limit;
    result_limit = s.result_limit;
  }

  -- the look-up of what was found: it is used if it is complete, else left as it is
  abbrev pub got_result : List ℕ → Option Marked → Answer × CacheState
  got_result h None = (nothing, s)
  got_result h (Some r) =
      if is_complete found reader r.bytes then (given r.bytes, result_used h r.bytes)
      else (nothing, s)

  -- a look-up of a result, which is answered where it is complete
  abbrev pub get_result : List ℕ → Answer × CacheState
  get_result h = got_result h (under h s.results)

  -- a pinned result has other bytes
  abbrev pub differs_pinned : List ℕ → Option Marked → Bool
  differs_pinned bytes None = false
  differs_pinned bytes (Some r) = r.pinned && not (bytes_eq r.bytes bytes)

  -- a put of a result
  abbrev pub put_result : List ℕ → List ℕ → Answer × CacheState
  put_result h bytes =
      if is_some (reader.outputs bytes)
      then (if differs_pinned bytes (under h s.results) then (refused pinned_differs, s)
      else or_full (option_map with_results (results_entered h bytes)))
      else (refused bad_result, s)

  -- the results, with the one under the hash marked as pinned or not
  abbrev pub marked : Bool → List ℕ → List (List ℕ × Marked)
  marked on h = map (λ r. (
    r.0,
    record {
      bytes = r.1.bytes;
      pinned = (if bytes_eq h r.0 then on else r.1.pinned);
    },
  )) s.results

  -- why a result can't be pinned: the first that isn't held, or the first Tree that doesn't decode
  abbrev pub why_incomplete : List ℕ → Refusal
  why_incomplete bytes =
      option_map_or incomplete (first_fault found reader (outputs_of reader bytes)) not_held

  -- what was found is pinned, if it is complete
  abbrev pub pinned_now : List ℕ → Option Marked → Answer × CacheState
  pinned_now h None = (refused not_held, s)
  pinned_now h (Some r) =
      if is_complete found reader r.bytes then (done, with_results (marked true h))
      else (refused (why_incomplete r.bytes), s)

  -- a result is pinned. One that is pinned already stays so
  abbrev pub pin : List ℕ → Answer × CacheState
  pin h = pinned_now h (under h s.results)

  -- what was found is unpinned, if it is pinned
  abbrev pub unpinned_now : List ℕ → Option Marked → Answer × CacheState
  unpinned_now h None = (refused not_pinned, s)
  unpinned_now h (Some r) =
      if r.pinned then (done, with_results (marked false h)) else (refused not_pinned, s)

  -- a result is unpinned
  abbrev pub unpin : List ℕ → Answer × CacheState
  unpin h = unpinned_now h (under h s.results)
