-- What is told under the digests of some encodings, and of what isn't looked at, stays as it was.
use Rattle.std.proofs.Common.{◌≡◌, List, [], ◌∷◌, ℕ, refl, ◌∙◌}
use Rattle.std.specs.List.{AllByRecursion}
use Rattle.blob_digest.specs.Digest.{DigestValue, digest_of}
use Rattle.blob_source.specs.Source.{Blobs, Telling}
use Rattle.tree.specs.Difference.{IsNoneOf, LeavesOwn}
use Rattle.tree.specs.Memo.{Asked, blob, result, AsksNoOther, LooksAtBlob}

same_none : (own : List (List ℕ)) (B : Blobs) → AllByRecursion (λ b. B (digest_of b) ≡ B (digest_of b)) own
same_none [] B = tt
same_none (b ∷ own) B = (refl, same_none own B)

same_then : (own : List (List ℕ)) (old mid new : Blobs) → AllByRecursion (λ b. mid (digest_of b) ≡ old (digest_of b)) own → AllByRecursion (λ b. new (digest_of b) ≡ mid (digest_of b)) own
    → AllByRecursion (λ b. new (digest_of b) ≡ old (digest_of b)) own
same_then [] old mid new h k = tt
same_then (b ∷ own) old mid new h k = (k.0 ∙ h.0, same_then own old mid new h.1 k.1)

blob_is : {d e : DigestValue} → ◌≡◌ {A = Asked} (blob e) (blob d) → e ≡ d
blob_is is = cc

same_at : (own : List (List ℕ)) (d : DigestValue) (old new : Telling) → IsNoneOf own d → AsksNoOther (LooksAtBlob d) old new → AllByRecursion (λ b. new.blobs (digest_of b) ≡ old.blobs (digest_of b)) own
same_at [] d old new none h = tt
same_at (b ∷ own) d old new none h = (h.blobs (digest_of b) (λ looks. none.0 (blob_is looks.0)), same_at own d old new none.1 h)

pub leaves_none : {own : List (List ℕ)} {B : Blobs} → LeavesOwn own B B
leaves_none {own} {B} = record { same = same_none own B }

pub leaves_then : {own : List (List ℕ)} {old mid new : Blobs} → LeavesOwn own old mid → LeavesOwn own mid new → LeavesOwn own old new
leaves_then {own} {old} {mid} {new} h k = record { same = same_then own old mid new h.same k.same }

-- a fetch of another digest
pub leaves_at : {own : List (List ℕ)} {d : DigestValue} {old new : Telling} → IsNoneOf own d → AsksNoOther (LooksAtBlob d) old new → LeavesOwn own old.blobs new.blobs
leaves_at {own} {d} {old} {new} none h = record { same = same_at own d old new none h }

-- ---- what isn't looked at

-- a call, and one after it
pub others_then : {first next both : Asked → Type 0} {old mid new : Telling} → ((a : Asked) → first a → both a) → ((a : Asked) → next a → both a)
    → AsksNoOther first old mid → AsksNoOther next mid new → AsksNoOther both old new
others_then to on h k = record {
  blobs = λ d not. k.blobs d (λ at. not (on (blob d) at)) ∙ h.blobs d (λ at. not (to (blob d) at));
  results = λ d not. k.results d (λ at. not (on (result d) at)) ∙ h.results d (λ at. not (to (result d) at));
}

-- what looks at more asks for no other either
pub others_more : {first both : Asked → Type 0} {old new : Telling} → ((a : Asked) → first a → both a) → AsksNoOther first old new → AsksNoOther both old new
others_more to h = record {
  blobs = λ d not. h.blobs d (λ at. not (to (blob d) at));
  results = λ d not. h.results d (λ at. not (to (result d) at));
}
