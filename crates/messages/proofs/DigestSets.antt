-- Digests in sets, by their order.
use Rattle.std.proofs.Common.{◌≡◌, ℕ, zero, suc, ◌<◌, Bool, true, false, cond, eqb, ◌&&◌, ◌||◌, List, [], ◌∷◌, length, refl, sym, ap, subst, ◌∙◌, arith}
use Rattle.std.specs.List.{Contains}
use Rattle.std.proofs.lemmas.Map.Views.{Contains-from_any}
use Rattle.std.specs.Ordering.{nat_cmp, ordering_then, is_eq}
use Rattle.std.specs.declared.cmp.Ordering.{Ordering}
use Rattle.std.specs.declared.cmp.Ordering.TheVariants.{Less, Equal, Greater}
use Rattle.std.specs.Cmp.Lexicographic.{slice_cmp, nat_list_cmp_total}
use Rattle.std.specs.Cmp.{nat_cmp_total, tied_itself}
use Rattle.std.proofs.lemmas.Map.Lookups.{exact_unsigned, exact_bytes, exact_pairs}
use Rattle.std.proofs.lemmas.Map.Text.{is_eq-slice_cmp}
use Rattle.std.proofs.lemmas.Bool.{eqb-true, eq-eqb}
use Rattle.blob_digest.specs.DigestValue.{DigestValue}
use Rattle.blob_digest.specs.Digest.{digest_cmp}
use Rattle.messages.specs.Tree.{same_digest, is_among}

then_equal : (o p : Ordering) → is_eq (ordering_then o p) ≡ (is_eq o && is_eq p)
then_equal Less p = refl
then_equal Equal p = refl
then_equal Greater p = refl

tested : (m n : ℕ) (o : Ordering) (t : Bool) → nat_cmp m n ≡ o → eqb m n ≡ t → is_eq o ≡ t
tested m n Less true e f = let same = eqb-true m n f in let own : nat_cmp n n ≡ Equal = tied_itself nat_cmp_total n in absurd (cc)
tested m n Less false e f = refl
tested m n Equal true e f = refl
tested m n Equal false e f = let same : m ≡ n = exact_unsigned m n e in let t = eq-eqb m n same in absurd (cc)
tested m n Greater true e f = let same = eqb-true m n f in let own : nat_cmp n n ≡ Equal = tied_itself nat_cmp_total n in absurd (cc)
tested m n Greater false e f = refl

pub equal_sizes : (m n : ℕ) → is_eq (nat_cmp m n) ≡ eqb m n
equal_sizes m n = tested m n (nat_cmp m n) (eqb m n) refl refl

pub is_eq-digest_cmp : (d e : DigestValue) → is_eq (digest_cmp d e) ≡ same_digest d e
is_eq-digest_cmp d e =
    let hashes = is_eq-slice_cmp d.hash e.hash in
    let sizes = equal_sizes d.size e.size in
    then_equal (slice_cmp nat_cmp d.hash e.hash) (nat_cmp d.size e.size) ∙ rw (hashes, sizes) refl

or_more : (a : Bool) (b c : Bool) → (cond a true b || c) ≡ (b || (a || c))
or_more true true c = refl
or_more true false c = refl
or_more false b c = refl

-- what was put into a set, and what is still to come
pub set_step : (key d : DigestValue) (rest : List DigestValue) (before after total : Bool) → after ≡ cond (is_eq (digest_cmp key d)) true before → (before || is_among (key ∷ rest) d) ≡ total → (after || is_among rest d) ≡ total
set_step key d rest before after total e so_far =
    ap (λ (b : Bool). b || is_among rest d) e ∙ or_more (is_eq (digest_cmp key d)) before (is_among rest d) ∙ ap (λ (b : Bool). before || (b || is_among rest d)) (is_eq-digest_cmp key d) ∙ so_far

pub or_nothing : (a : Bool) → (a || false) ≡ a
or_nothing true = refl
or_nothing false = refl

-- ---- a digest that a list holds

same_is : (d e : DigestValue) → digest_cmp d e ≡ Equal → d ≡ e
same_is d e h = ap (λ (p : List ℕ × ℕ). record { hash = p.0; size = p.1 }) (exact_pairs (slice_cmp nat_cmp) nat_cmp exact_bytes exact_unsigned (d.hash, d.size) (e.hash, e.size) h)

equal_order : (o : Ordering) → is_eq o ≡ true → o ≡ Equal
equal_order Less h = absurd cc
equal_order Equal h = refl
equal_order Greater h = absurd cc

same_digest_is : (d e : DigestValue) → same_digest d e ≡ true → d ≡ e
same_digest_is d e h = same_is d e (equal_order (digest_cmp d e) (is_eq-digest_cmp d e ∙ h))

itself : (d : DigestValue) → same_digest d d ≡ true
itself d =
    let hashes : slice_cmp nat_cmp d.hash d.hash ≡ Equal = tied_itself nat_list_cmp_total d.hash in
    let sizes : nat_cmp d.size d.size ≡ Equal = tied_itself nat_cmp_total d.size in
    sym (is_eq-digest_cmp d d) ∙ rw (hashes, sizes) refl

pub among_found : (digests : List DigestValue) (d : DigestValue) → is_among digests d ≡ true → Contains digests d
among_found digests d h = Contains-from_any {eq = λ q k. same_digest k q} (λ q k e. sym (same_digest_is k q e)) d digests h

or_second : (a b : Bool) → b ≡ true → (a || b) ≡ true
or_second true b h = refl
or_second false b h = h

pub among_given : (digests : List DigestValue) (d : DigestValue) → Contains digests d → is_among digests d ≡ true
among_given [] d (k, lt, e) = absurd (omega arith)
among_given (x ∷ digests) d (zero, lt, e) = let same : same_digest x d ≡ true = subst (λ y. same_digest x y ≡ true) e (itself x) in rw same refl
among_given (x ∷ digests) d (suc k, lt, e) = let less : k < length digests = omega arith in or_second (same_digest x d) (is_among digests d) (among_given digests d (k, less, e))
