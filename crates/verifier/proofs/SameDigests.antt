-- The test of two digests.
use Rattle.std.proofs.Common.{◌≡◌, ◌≢◌, refl, ap, sym, ◌∙◌, Bool, true, false, not}
use Rattle.std.specs.Prelude.{◌&&◌, nat_eq}
use Rattle.std.specs.Cmp.Lexicographic.{pointwise, bytes_decides}
use Rattle.std.proofs.lemmas.Bool.{eqb-true, eq-eqb}
use Rattle.blob_digest.specs.Digest.{DigestValue}

and_true : (a b : Bool) → (a && b) ≡ true → (a ≡ true) × (b ≡ true)
and_true true true e = (refl, refl)
and_true true false e = cc
and_true false b e = cc

pub same_digests : (d e : DigestValue) → (pointwise nat_eq d.hash e.hash && nat_eq d.size e.size) ≡ true → d ≡ e
same_digests d e h =
    let both = and_true (pointwise nat_eq d.hash e.hash) (nat_eq d.size e.size) h in
    let hashes = (bytes_decides d.hash e.hash).0 both.0 in
    let sizes = eqb-true d.size e.size both.1 in
    λ i. record { hash = hashes i; size = sizes i }

pub other_digests : (d e : DigestValue) → (pointwise nat_eq d.hash e.hash && nat_eq d.size e.size) ≡ false → d ≢ e
other_digests d e h is =
    let hashes = (bytes_decides d.hash e.hash).1 (ap (λ x. x.hash) is) in
    let sizes = eq-eqb d.size e.size (ap (λ x. x.size) is) in
    let both : (pointwise nat_eq d.hash e.hash && nat_eq d.size e.size) ≡ true = ap (λ b. b && nat_eq d.size e.size) hashes ∙ sizes in
    (let never : ◌≡◌ {A = Bool} true false = sym both ∙ h in cc)

pub differing_digests : (d e : DigestValue) → not (pointwise nat_eq d.hash e.hash && nat_eq d.size e.size) ≡ true → d ≢ e
differing_digests d e h = other_digests d e (refuted (pointwise nat_eq d.hash e.hash && nat_eq d.size e.size) h)
  where
    refuted : (b : Bool) → not b ≡ true → b ≡ false
    refuted true e = cc
    refuted false e = refl

pub no_other_digests : (d e : DigestValue) → not (pointwise nat_eq d.hash e.hash && nat_eq d.size e.size) ≡ false → d ≡ e
no_other_digests d e h = same_digests d e (shown (pointwise nat_eq d.hash e.hash && nat_eq d.size e.size) h)
  where
    shown : (b : Bool) → not b ≡ false → b ≡ true
    shown true e = refl
    shown false e = cc
