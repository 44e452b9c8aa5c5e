-- Two digests are one, or differ.
use Rattle.std.proofs.Common.{◌≡◌, ◌≢◌, ℕ, List, Bool, true, false, eqb, refl, ap, ◌∙◌, ◌⊎◌, inl, inr}
use Rattle.std.specs.Cmp.Lexicographic.{bytes_decides}
use Rattle.std.specs.Str.{bytes_eq}
use Rattle.std.proofs.lemmas.Bool.{eqb-true, eq-eqb}
use Rattle.blob_digest.specs.Digest.{DigestValue}

by_parts : (d e : DigestValue) (s t : Bool) → bytes_eq e.hash d.hash ≡ s → eqb e.size d.size ≡ t → (e ≡ d) ⊎ (e ≢ d)
by_parts d e true true p q =
    let hash : e.hash ≡ d.hash = (bytes_decides e.hash d.hash).0 p in
    let size : e.size ≡ d.size = eqb-true e.size d.size q in
    inl (ap (λ (h : List ℕ). record { hash = h; size = e.size }) hash ∙ ap (λ (n : ℕ). record { hash = d.hash; size = n }) size)
by_parts d e true false p q = inr (λ h. let is = eq-eqb e.size d.size (ap (λ (x : DigestValue). x.size) h) in cc)
by_parts d e false t p q = inr (λ h. let is = (bytes_decides e.hash d.hash).1 (ap (λ (x : DigestValue). x.hash) h) in cc)

pub same_or_other : (d e : DigestValue) → (e ≡ d) ⊎ (e ≢ d)
same_or_other d e = by_parts d e (bytes_eq e.hash d.hash) (eqb e.size d.size) refl refl
