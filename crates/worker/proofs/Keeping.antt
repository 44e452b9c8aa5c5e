-- What calls of a store keep.
use Rattle.std.proofs.Common.{◌≡◌, ◌≢◌, ℕ, zero, suc, arith, ◌+◌, ◌<◌, length, take, get_or, List, [], ◌∷◌, ◌++◌, Some, refl, sym, subst, ◌∙◌, ap, inl, inr}
use Rattle.std.specs.Prelude.{◌⊎◌, map}
use Rattle.std.specs.List.{AllByRecursion}
use Rattle.std.proofs.lemmas.List.{map-append, take_more}
use Rattle.std.specs.declared.vec.Vec.{Vec}
use Rattle.tree.specs.Folded.{items_of}
use Rattle.blob_digest.specs.Digest.{DigestValue, digest_of}
use Rattle.blob_source.specs.Source.{Blobs, Telling, Grows, AsksResult, Asks, AsksSome}
use Rattle.blob_source.specs.Sink.{PutsBlob, PutsResult, HasRight, IsPut, KeepsRight}
use Rattle.blob_source.specs.Called.{Calls}
use Rattle.blob_source.proofs.Calling.{calls_some}
use Rattle.blob_source.specs.declared.source.FetchError.{FetchError}
use Rattle.blob_source.specs.declared.source.FetchError.TheVariants as fetching
use Rattle.worker.specs.Refusals.{of_fetch}
use Rattle.worker.specs.Stopped.{IsStoreFault}
use Rattle.worker.specs.Stored.{IsKept, PutsNoOther}
use Rattle.worker.specs.Storing.{HasAt, IsKeptBut}
use Rattle.worker.specs.Outcomes.{HasAllRight}
use Rattle.verifier.proofs.SameForms.{same_digest}

pub grown_same : (B C : Blobs) → C ≡ B → Grows B C
grown_same B C same e b at = subst (λ (D : Blobs). D e ≡ Some b) (sym same) at

right_same : (B C : Blobs) → C ≡ B → KeepsRight B C
right_same B C same e b at right = subst (λ (D : Blobs). D e ≡ Some b) (sym same) at

pub right_trans : {B C D : Blobs} → KeepsRight B C → KeepsRight C D → KeepsRight B D
right_trans {B} {C} {D} f g e b at right = g e b (f e b at right) right

pub kept_none : {t : Telling} → IsKept t t
kept_none {t} = record { blobs = λ e b at right. at; results = λ e b at. at; puts = refl }

pub kept_trans : {t u v : Telling} → IsKept t u → IsKept u v → IsKept t v
kept_trans {t} {u} {v} f g = record { blobs = λ e b at right. g.blobs e b (f.blobs e b at right) right; results = λ e b at. g.results e b (f.results e b at); puts = g.puts ∙ f.puts }

pub kept_some : {t u : Telling} {F : Type 0} → Calls AsksSome t u F → IsKept t u
kept_some {t} {u} {F} a = record { blobs = λ e b at right. a.asked.blobs e b at; results = λ e b at. a.asked.results e b at; puts = a.asked.puts }

pub kept_asks : {n : ℕ} {t u : Telling} {F : Type 0} → Calls (Asks n) t u F → IsKept t u
kept_asks a = kept_some (calls_some a)

pub kept_blob : {t u : Telling} {bytes : List ℕ} {F : Type 0} → Calls (PutsBlob bytes) t u F → IsKept t u
kept_blob {t} {u} {bytes} {F} p = record { blobs = p.asked.right; results = grown_same t.results u.results p.asked.results; puts = p.asked.puts }

pub kept_result : {t u : Telling} {d : DigestValue} {F : Type 0} → Calls (AsksResult d) t u F → IsKept t u
kept_result {t} {u} {d} {F} a = let k = a.asked.results.kept in record { blobs = right_same t.blobs u.blobs a.asked.blobs; results = λ e b at. k e b at; puts = a.asked.puts }

pub result_grows : {t u : Telling} {d : DigestValue} {F : Type 0} → Calls (AsksResult d) t u F → Grows t.blobs u.blobs
result_grows {t} {u} a = grown_same t.blobs u.blobs a.asked.blobs

pub kept_but : {t u : Telling} {d : DigestValue} {Is : List ℕ → Type 0} → IsKept t u → IsKeptBut d Is t u
kept_but {t} {u} {d} {Is} k = record { blobs = k.blobs; results = λ e b at. inl (k.results e b at); puts = inl k.puts }

pub kept_then : {t u v : Telling} {d : DigestValue} {Is : List ℕ → Type 0} → IsKept t u → IsKeptBut d Is u v → IsKeptBut d Is t v
kept_then {t} {u} {v} {d} {Is} f g = record { blobs = λ e b at right. g.blobs e b (f.blobs e b at right) right; results = λ e b at. g.results e b (f.results e b at); puts = by g.puts }
  where
    by : (v.puts ≡ u.puts) ⊎ ((v.puts ≡ u.puts ++ d ∷ []) × HasAt Is v.results d) → (v.puts ≡ t.puts) ⊎ ((v.puts ≡ t.puts ++ d ∷ []) × HasAt Is v.results d)
    by (inl same) = inl (same ∙ f.puts)
    by (inr (more, stands)) = inr (more ∙ ap (λ ds. ds ++ d ∷ []) f.puts, stands)

-- what is so of the bytes that were put
pub kept_as : {t u : Telling} {d : DigestValue} {Is So : List ℕ → Type 0} → ((b : List ℕ) → Is b → So b) → IsKeptBut d Is t u → IsKeptBut d So t u
kept_as {t} {u} {d} {Is} {So} to k = record { blobs = k.blobs; results = λ e b at. by e b (k.results e b at); puts = of k.puts }
  where
    stands : HasAt Is u.results d → HasAt So u.results d
    stands h = (h.0, h.1, to h.0 h.2)

    by : (e : DigestValue) (b : List ℕ) → (u.results e ≡ Some b) ⊎ ((e ≡ d) × HasAt Is u.results d) → (u.results e ≡ Some b) ⊎ ((e ≡ d) × HasAt So u.results d)
    by e b (inl at) = inl at
    by e b (inr h) = inr (h.0, stands h.1)

    of : (u.puts ≡ t.puts) ⊎ ((u.puts ≡ t.puts ++ d ∷ []) × HasAt Is u.results d) → (u.puts ≡ t.puts) ⊎ ((u.puts ≡ t.puts ++ d ∷ []) × HasAt So u.results d)
    of (inl same) = inl same
    of (inr h) = inr (h.0, stands h.1)

-- ---- right bytes

pub right_still : {B C : Blobs} {d : DigestValue} → KeepsRight B C → HasRight B d → HasRight C d
right_still {B} {C} {d} k (b, at, right) = (b, k d b at right, right)

pub right_put : (B C : Blobs) {bytes : List ℕ} → IsPut bytes B C → HasRight C (digest_of bytes)
right_put B C {bytes} (inl ((b, at, right), same)) = (b, same ∙ at, right)
right_put B C {bytes} (inr (none, at)) = (bytes, at, refl)

pub all_right_still : (B C : Blobs) (bs : List (List ℕ)) → KeepsRight B C → HasAllRight B bs → HasAllRight C bs
all_right_still B C [] k h = tt
all_right_still B C (b ∷ bs) k h = (right_still k h.0, all_right_still B C bs k h.1)

pub all_right_more : (B : Blobs) (bs : List (List ℕ)) (b : List ℕ) → HasAllRight B bs → HasRight B (digest_of b) → HasAllRight B (bs ++ b ∷ [])
all_right_more B [] b h right = (right, tt)
all_right_more B (c ∷ bs) b h right = (h.0, all_right_more B bs b h.1 right)

-- one more of the bytes that a list spells
pub all_right_spelled : {X : Type 0} (spell : X → List ℕ) (B C : Blobs) (xs : List X) (i : ℕ) (x : X) → i < length xs → x ≡ get_or xs i x → KeepsRight B C
    → HasAllRight B (map spell (take i xs)) → HasRight C (digest_of (spell x)) → HasAllRight C (map spell (take (i + 1) xs))
all_right_spelled {X} spell B C xs i x lt is keeps held right =
    let taken : take (i + 1) xs ≡ take i xs ++ x ∷ [] = take_more xs i x lt ∙ ap (λ y. take i xs ++ y ∷ []) (sym is) in
    let values : map spell (take (i + 1) xs) ≡ map spell (take i xs) ++ spell x ∷ [] = ap (map spell) taken ∙ map-append spell (take i xs) (x ∷ []) in
    subst (HasAllRight C) (sym values) (all_right_more C (map spell (take i xs)) (spell x) (all_right_still B C (map spell (take i xs)) keeps held) right)

pub all_right_taken : {A : Type 0} (B C : Blobs) (bs : List (Vec ℕ A)) (i : ℕ) (x : Vec ℕ A) → i < length bs → x ≡ get_or bs i x → KeepsRight B C
    → HasAllRight B (items_of (take i bs)) → HasRight C (digest_of x.items) → HasAllRight C (items_of (take (i + 1) bs))
all_right_taken {A} B C bs i x lt is keeps held right = all_right_spelled (λ (b : Vec ℕ A). b.items) B C bs i x lt is keeps held right

-- one of them differs, where each does
pub differs : {A : Type 0} (d : DigestValue) (bs : List (Vec ℕ A)) (i : ℕ) (x : Vec ℕ A) → i < length bs → x ≡ get_or bs i x → AllByRecursion (λ b. digest_of b ≢ d) (items_of bs) → digest_of x.items ≢ d
differs d [] i x lt is h = absurd (omega (arith, lt))
differs {A} d (b ∷ bs) zero x lt is h = subst (λ (y : Vec ℕ A). digest_of y.items ≢ d) (sym is) h.0
differs d (b ∷ bs) (suc i) x lt is h = differs d bs i x (omega (arith, lt)) is h.1

-- of what a list spells too
pub spelled_so : {X : Type 0} (spell : X → List ℕ) (P : List ℕ → Type 0) (xs : List X) (i : ℕ) (x : X) → i < length xs → x ≡ get_or xs i x → AllByRecursion P (map spell xs) → P (spell x)
spelled_so spell P [] i x lt is h = absurd (omega (arith, lt))
spelled_so spell P (y ∷ xs) zero x lt is h = subst (λ z. P (spell z)) (sym is) h.0
spelled_so spell P (y ∷ xs) (suc i) x lt is h = spelled_so spell P xs i x (omega (arith, lt)) is h.1

-- ---- no other blobs are put

pub only_none : {bs : List (List ℕ)} {B : Blobs} → PutsNoOther bs B B
only_none = record { same = λ d h. refl }

pub only_then : {bs : List (List ℕ)} {B C D : Blobs} → PutsNoOther bs B C → PutsNoOther bs C D → PutsNoOther bs B D
only_then f g = record { same = λ d h. g.same d h ∙ f.same d h }

-- one of these was
pub only_one : {bs : List (List ℕ)} {t u : Telling} {bytes : List ℕ} {F : Type 0} → ((d : DigestValue) → AllByRecursion (λ b. digest_of b ≢ d) bs → digest_of bytes ≢ d) → Calls (PutsBlob bytes) t u F → PutsNoOther bs t.blobs u.blobs
only_one among p = record { same = λ d h. p.asked.blobs.others d (λ is. among d h (sym is)) }

pub all_split : (P : List ℕ → Type 0) (xs ys : List (List ℕ)) → AllByRecursion P (xs ++ ys) → AllByRecursion P xs × AllByRecursion P ys
all_split P [] ys h = (tt, h)
all_split P (x ∷ xs) ys h = let rest = all_split P xs ys h.1 in ((h.0, rest.0), rest.1)

pub only_front : (bs cs : List (List ℕ)) {B C : Blobs} → PutsNoOther bs B C → PutsNoOther (bs ++ cs) B C
only_front bs cs f = record { same = λ d h. f.same d (all_split (λ b. digest_of b ≢ d) bs cs h).0 }

pub only_behind : (bs cs : List (List ℕ)) {B C : Blobs} → PutsNoOther cs B C → PutsNoOther (bs ++ cs) B C
only_behind bs cs f = record { same = λ d h. f.same d (all_split (λ b. digest_of b ≢ d) bs cs h).1 }

-- ---- what is put

-- a result that is put, or may have been
pub kept_put : {t u : Telling} {d : DigestValue} {bytes : List ℕ} {F : Type 0} → (u.puts ≡ t.puts) ⊎ ((u.puts ≡ t.puts ++ d ∷ []) × (u.results d ≡ Some bytes)) → Calls (PutsResult d bytes) t u F → IsKeptBut d (λ b. b ≡ bytes) t u
kept_put {t} {u} {d} {bytes} {F} puts p = record { blobs = right_same t.blobs u.blobs p.asked.blobs; results = λ e b at. by e b at (same_digest e d) p.asked.results.there; puts = of puts }
  where
    by : (e : DigestValue) (b : List ℕ) → t.results e ≡ Some b → (e ≡ d) ⊎ (e ≢ d) → (u.results d ≡ t.results d) ⊎ (u.results d ≡ Some bytes) → (u.results e ≡ Some b) ⊎ ((e ≡ d) × HasAt (λ c. c ≡ bytes) u.results d)
    by e b at (inl is) (inl same) = inl (ap u.results is ∙ same ∙ sym (ap t.results is) ∙ at)
    by e b at (inl is) (inr there) = inr (is, (bytes, there, refl))
    by e b at (inr n) there = inl (p.asked.results.others e n ∙ at)

    of : (u.puts ≡ t.puts) ⊎ ((u.puts ≡ t.puts ++ d ∷ []) × (u.results d ≡ Some bytes)) → (u.puts ≡ t.puts) ⊎ ((u.puts ≡ t.puts ++ d ∷ []) × HasAt (λ c. c ≡ bytes) u.results d)
    of (inl same) = inl same
    of (inr h) = inr (h.0, (bytes, h.1, refl))

-- what a put or a look-up fails with
pub fetch_fault : (A : Type 0) (e : FetchError) → IsStoreFault (of_fetch {A = A} e)
fetch_fault A fetching.Failed = tt
fetch_fault A fetching.Memory = tt
