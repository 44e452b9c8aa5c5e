-- What is refused below is refused by the machine.
use Rattle.std.proofs.Common.{◌≡◌, ℕ, List, None, refl, sym, subst, ◌⊎◌, inl, inr}
use Rattle.blob_store.specs.declared.error.BlobError.{BlobError}
use Rattle.blob_store.specs.declared.error.BlobError.TheVariants as blob
use Rattle.action_cache.specs.declared.error.CacheError.{CacheError}
use Rattle.action_cache.specs.declared.error.CacheError.TheVariants as cache
use Rattle.action_cache.specs.Reading.{references_in}
use Rattle.action_cache.specs.Machine.{CacheState, Answer, refused, bad_result}
use Rattle.action_cache.specs.CacheError.{IsRefused, IsNoResult, of_blob}

pub unread_refused : (st : CacheState) (out : Answer × CacheState) (bytes : List ℕ) (e : CacheError) → IsNoResult e bytes → (references_in bytes ≡ None → out ≡ (refused bad_result, st)) → IsRefused st out e
unread_refused st out bytes e (inl memory) bad = subst (IsRefused st out) (sym memory) tt
unread_refused st out bytes e (inr (d, same, why, none)) bad = subst (IsRefused st out) (sym same) (bad none)

-- what can only want memory
pub only_memory : (st : CacheState) (out : Answer × CacheState) (e f : BlobError) → (e ≡ f) ⊎ (e ≡ blob.Memory) → (e ≡ f → ⊥) → IsRefused st out (of_blob e)
only_memory st out e f (inl same) not = absurd (not same)
only_memory st out e f (inr memory) not = subst (λ x. IsRefused st out (of_blob x)) (sym memory) tt

-- lack of memory is told of nothing else
pub memory_of : (e : BlobError) → of_blob e ≡ cache.Memory → e ≡ blob.Memory
memory_of blob.HashDiffers h = let no : cache.HashDiffers ≡ cache.Memory = h in absurd cc
memory_of blob.TooLarge h = let no : cache.TooLarge ≡ cache.Memory = h in absurd cc
memory_of blob.Full h = let no : cache.Full ≡ cache.Memory = h in absurd cc
memory_of blob.NotHeld h = let no : cache.NotHeld ≡ cache.Memory = h in absurd cc
memory_of blob.NotPinned h = let no : cache.NotPinned ≡ cache.Memory = h in absurd cc
memory_of blob.Memory h = refl
