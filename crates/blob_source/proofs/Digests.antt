-- Digests that compare alike are one, so a table has one value under each.
use Rattle.std.proofs.Common.{◌≡◌, ◌≢◌, ℕ, List, false, ap, sym, refl, Ordering}
use Rattle.std.specs.Ordering.{is_eq, nat_cmp}
use Rattle.std.specs.declared.cmp.Ordering.TheVariants.{Less, Equal, Greater}
use Rattle.std.specs.Cmp.Lexicographic.{slice_cmp}
use Rattle.std.proofs.lemmas.Map.Lookups.{CmpEqualImpliesEq, exact_bytes, exact_pairs, exact_unsigned}
use Rattle.blob_digest.specs.Digest.{DigestValue, digest_cmp}

exact_digests : CmpEqualImpliesEq digest_cmp
exact_digests a b h = ap (λ (p : List ℕ × ℕ). record { hash = p.0; size = p.1 }) (exact_pairs (slice_cmp nat_cmp) nat_cmp exact_bytes exact_unsigned (a.hash, a.size) (b.hash, b.size) h)

not_equal : (o : Ordering) → (o ≡ Equal → ⊥) → is_eq o ≡ false
not_equal Less n = refl
not_equal Equal n = absurd (n refl)
not_equal Greater n = refl

pub other_digests : (d e : DigestValue) → e ≢ d → is_eq (digest_cmp d e) ≡ false
other_digests d e n = not_equal (digest_cmp d e) (λ h. n (sym (exact_digests d e h)))
