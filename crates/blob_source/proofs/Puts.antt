-- What a put changes in a table in memory.
use Rattle.std.proofs.Common.{◌≡◌, ℕ, List, false, ap, sym, ◌∙◌, inr}
use Rattle.std.specs.Prelude.{Some}
use Rattle.std.specs.Ordering.{is_eq}
use Rattle.std.specs.declared.vec.Vec.{Vec}
use Rattle.std.specs.BTreeMap.{BTreeMap, get}
use Rattle.blob_digest.specs.Digest.{DigestValue, digest_cmp}
use Rattle.blob_source.specs.Source.{Blobs, Grows, bytes_of}
use Rattle.blob_source.specs.Memory.{told_by}
use Rattle.blob_source.specs.Sink.{PutsAt, HasRight, KeepsRight}
use Rattle.blob_source.proofs.Digests.{other_digests}

module _ {A : Type 0} (old new : BTreeMap DigestValue (Vec ℕ A)) (d : DigestValue) {v : Vec ℕ A} {bytes : List ℕ} where
  pub told_put : v.items ≡ bytes → get digest_cmp new d ≡ Some v → told_by new d ≡ Some bytes
  told_put items there = ap bytes_of there ∙ ap Some items

  pub puts_inserted : v.items ≡ bytes → get digest_cmp new d ≡ Some v
      → ((e : DigestValue) → is_eq (digest_cmp d e) ≡ false → get digest_cmp new e ≡ get digest_cmp old e)
      → PutsAt d bytes (told_by old) (told_by new)
  puts_inserted items there others = record {
    there = inr (told_put items there);
    others = λ e n. ap bytes_of (others e (other_digests d e n));
  }

-- ---- right bytes stay

module _ {d : DigestValue} {bytes : List ℕ} {old new : Blobs} where
  -- where none stood under the digest of what was put
  pub right_put : (HasRight old d → ⊥) → PutsAt d bytes old new → KeepsRight old new
  right_put none puts e b told right =
      puts.others e (λ is. absurd (none (b, ap old (sym is) ∙ told, right ∙ is))) ∙ told

module _ {old new : Blobs} where
  -- where the same is told
  pub right_same : ((e : DigestValue) → new e ≡ old e) → KeepsRight old new
  right_same same e b told right = same e ∙ told

  -- where what was told stays
  pub right_grows : Grows old new → KeepsRight old new
  right_grows grows e b told right = grows e b told

pub right_then : {old mid new : Blobs} → KeepsRight old mid → KeepsRight mid new → KeepsRight old new
right_then first next e b told right = next e b (first e b told right) right
