-- The digest that is noted for a step, looked for step by step.
use Rattle.std.proofs.Common.{◌≡◌, ◌∙◌, ◌+◌, ◌<◌, ℕ, true, false, List, Some, ap, drop, get_or, length, map, refl, subst, sym}
use Rattle.std.specs.Prelude.{if◌then◌else◌}
use Rattle.std.specs.Str.{bytes_eq}
use Rattle.std.proofs.Math.Numerals.{add-one}
use Rattle.std.proofs.Math.Seq.{drop-cons}
use Rattle.std.proofs.lemmas.List.{get_or-map, length-map}
use Rattle.blob_digest.specs.Digest.{DigestValue}
use Rattle.plan.specs.Values.{StepValue}
use Rattle.text_verifier.specs.Lacking.{noted_for}

abbrev pub name_of : StepValue → List ℕ
name_of s = s.name

-- one step more
next : (name : List ℕ) (names : List (List ℕ)) (digests : List DigestValue) (n : ℕ) (m : List ℕ) (d : DigestValue) → n < length names → n < length digests
    → noted_for name (drop n names) (drop n digests)
    ≡ (if bytes_eq (get_or names n m) name then Some (get_or digests n d) else noted_for name (drop (n + 1) names) (drop (n + 1) digests))
next name names digests n m d lt less = rw (add-one, drop-cons names n m lt, drop-cons digests n d less) refl

module _ (name : List ℕ) (steps : List StepValue) (digests : List DigestValue) (n : ℕ) (s : StepValue) (m : List ℕ)
    (same : length digests ≡ length steps) (lt : n < length steps) (is : s ≡ get_or steps n s) (called : m ≡ s.name) where
  under : n < length (map name_of steps)
  under = subst (λ k. n < k) (sym (length-map steps name_of)) lt

  at : get_or (map name_of steps) n s.name ≡ m
  at = get_or-map name_of steps n s s.name lt ∙ ap name_of (sym is) ∙ sym called

  pub noted_here : (d : DigestValue) → bytes_eq m name ≡ true → noted_for name (drop n (map name_of steps)) (drop n digests) ≡ Some (get_or digests n d)
  noted_here d same_name = next name (map name_of steps) digests n s.name d under (subst (λ k. n < k) (sym same) lt)
      ∙ ap (λ b. if b then Some (get_or digests n d) else noted_for name (drop (n + 1) (map name_of steps)) (drop (n + 1) digests)) (ap (λ x. bytes_eq x name) at ∙ same_name)

  pub noted_later : (d : DigestValue) → bytes_eq m name ≡ false
      → noted_for name (drop n (map name_of steps)) (drop n digests) ≡ noted_for name (drop (n + 1) (map name_of steps)) (drop (n + 1) digests)
  noted_later d other_name = next name (map name_of steps) digests n s.name d under (subst (λ k. n < k) (sym same) lt)
      ∙ ap (λ b. if b then Some (get_or digests n d) else noted_for name (drop (n + 1) (map name_of steps)) (drop (n + 1) digests)) (ap (λ x. bytes_eq x name) at ∙ other_name)
