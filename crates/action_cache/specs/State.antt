-- The state of the machine that a cache stands for.
use Rattle.std.specs.Prelude.{ℕ, List, bytes_eq, Option, Some, None}
use Rattle.std.specs.List.{fold}
use Rattle.blob_digest.specs.DigestValue.{DigestValue}
use Rattle.eviction.specs.Kept.{Held, Kept, moved_to_front}
use Rattle.action_cache.specs.Machine.{CacheState, Answer, given, nothing}
use Rattle.action_cache.specs.Tied.{plain, marks}

-- without counts
abbrev pub state_of : ℕ → ℕ → List (List ℕ × Held) → List (List ℕ × Held) → CacheState
state_of limit result_limit blobs results =
    record {
      blobs = plain blobs;
      results = marks results;
      limit = limit;
      result_limit = result_limit;
    }

-- the blobs, each of the digests' moved to the front in turn
abbrev pub moved_each : List DigestValue → List (List ℕ × Held) → List (List ℕ × Held)
moved_each ds es = fold (λ l (d : DigestValue). moved_to_front bytes_eq d.hash l) es ds

-- the store, each of the digests used in turn
abbrev pub touched_each : Kept (List ℕ) → List DigestValue → Kept (List ℕ)
touched_each s ds =
    record { entries = moved_each ds s.entries; limit = s.limit; overhead = s.overhead }

-- what the machine answers where bytes are found, and where none are
abbrev pub answer_of : Option (List ℕ) → Answer
answer_of None = nothing
answer_of (Some b) = given b

-- the bytes that an answer gives
abbrev pub bytes_given : Answer → Option (List ℕ)
bytes_given (given b) = Some b
bytes_given answer = None
