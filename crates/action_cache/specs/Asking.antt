-- What is asked of a cache, one ask after another, and what holds however long that goes on.
use Rattle.std.specs.Prelude.{◌≡◌, ℕ, ◌+◌, ◌≤◌, true, List, length, Some}
use Rattle.std.specs.List.{fold, AllByRecursion}
use Rattle.eviction.specs.Kept.{total}
use Rattle.blob_digest.specs.DigestValue.{DigestValue}
use Rattle.blob_store.specs.Blobs.{all_held}
use Rattle.action_cache.specs.References.{Reference, Reader, is_held, files_of, outputs_of, refers}
use Rattle.action_cache.specs.Machine as machine
use Rattle.action_cache.specs.Machine.{CacheState, Marked, under, found}

-- a call of the machine
pub data CacheAsk : Type 0 where
  PutBlob : List ℕ → List ℕ → CacheAsk
  GetBlob : List ℕ → CacheAsk
  PutResult : List ℕ → List ℕ → CacheAsk
  GetResult : List ℕ → CacheAsk
  Pin : List ℕ → CacheAsk
  Unpin : List ℕ → CacheAsk

module _ (reader : Reader) where
  -- the state after an ask, answered or refused
  abbrev pub after_ask : CacheState → CacheAsk → CacheState
  after_ask s (PutBlob h bytes) = (machine.put_blob reader s h bytes).1
  after_ask s (GetBlob h) = (machine.get_blob reader s h).1
  after_ask s (PutResult h bytes) = (machine.put_result reader s h bytes).1
  after_ask s (GetResult h) = (machine.get_result reader s h).1
  after_ask s (Pin h) = (machine.pin reader s h).1
  after_ask s (Unpin h) = (machine.unpin reader s h).1

  -- the state after asks, the first first
  abbrev pub after : CacheState → List CacheAsk → CacheState
  after s asks = fold after_ask s asks

  -- what is referred to is held, with its length; a Tree decodes, and so are its files held
  pub record IsWhole (s : CacheState) (r : Reference) : Type 0 where
    pub held : is_held (found reader s) r.digest ≡ true
    pub files : r.is_tree ≡ true → (files : List DigestValue)
        × (files_of (found reader s) reader r.digest ≡ Some files)
        × (all_held (found reader s) files ≡ true)

  -- each reference that the bytes of a result make is whole
  abbrev pub AreWhole : CacheState → List ℕ → Type 0
  AreWhole s bytes = AllByRecursion (IsWhole s) (outputs_of reader bytes)

  -- A result that was held under the hash, and pinned, still is; each blob to which it referred is
  -- as it was; and all to which it refers is held.
  pub record StaysPinned (old new : CacheState) (h : List ℕ) (r : Marked) : Type 0 where
    pub result : under h new.results ≡ Some r
    pub blobs : (b : List ℕ) → refers (found reader old) reader r.bytes b ≡ true
        → found reader new b ≡ found reader old b
    pub whole : AreWhole new r.bytes

-- costs are within the limits: a blob's length, a result's length and 64
pub record IsWithin (s : CacheState) : Type 0 where
  pub blobs : total (λ b. length b.1) s.blobs ≤ s.limit
  pub results : total (λ r. length r.1.bytes + 64) s.results ≤ s.result_limit
