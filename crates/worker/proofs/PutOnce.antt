-- What is remembered of a store stays so.
use Rattle.std.proofs.Common.{◌≡◌, ◌<◌, ◌≤◌, ◌+◌, ℕ, zero, suc, Bool, true, false, List, [], ◌∷◌, ◌++◌, length, take, get_or, cond, is_eq, refl, sym, ap, subst, ◌∙◌, arith}
use Rattle.std.specs.Prelude.{if◌then◌else◌}
use Rattle.std.proofs.lemmas.List.{map-append, take_more}
use Rattle.std.proofs.Math.Nat.{min-le_left}
use Rattle.std.specs.declared.vec.Vec.{Vec}
use Rattle.std.specs.BTreeSet.{BTreeSet, contains}
use Rattle.blob_digest.specs.Digest.{DigestValue, digest_cmp, digest_of}
use Rattle.blob_source.specs.Source.{Blobs, CountsCall, Telling, greatest_count}
use Rattle.blob_source.specs.Sink.{HasRight, KeepsRight}
use Rattle.messages.proofs.DigestSets.{is_eq-digest_cmp}
use Rattle.tree.proofs.Listings.{all_join}
use Rattle.tree.proofs.MergeBridge.{digest_is}
use Rattle.tree.proofs.MergeCounts.{digest_itself}
use Rattle.action_messages.proofs.Apart.{weaker}
use Rattle.worker.specs.declared.remembering.Remembered.{Remembered}
use Rattle.worker.specs.Storing.{HasPut, HasPutAll, StaysPut, StaysRemembered, WerePut, Remembers, not_put}
use Rattle.tree.specs.Folded.{items_of}
use Rattle.worker.proofs.Keeping.{right_still}
use Rattle.worker.proofs.Knowing.{knows_still}

pub put_none : (put : BTreeSet DigestValue) (B : Blobs) → put.keys ≡ [] → WerePut put B
put_none put B empty d among = absurd (let none : false ≡ true = subst (λ (ks : List DigestValue). contains digest_cmp (record { keys = ks }) d ≡ true) empty among in cc)

pub put_still : (put : BTreeSet DigestValue) {B C : Blobs} → KeepsRight B C → WerePut put B → WerePut put C
put_still put keeps h d among = right_still keeps (h d among)

pub put_more : (old new : BTreeSet DigestValue) {B : Blobs} (key : DigestValue) → ((d : DigestValue) → contains digest_cmp new d ≡ cond (is_eq (digest_cmp key d)) true (contains digest_cmp old d)) → HasRight B key → WerePut old B → WerePut new B
put_more old new {B} key added right h d among = by (is_eq (digest_cmp key d)) refl
  where
    by : (b : Bool) → is_eq (digest_cmp key d) ≡ b → HasRight B d
    by true is = subst (HasRight B) (digest_is key d (sym (is_eq-digest_cmp key d) ∙ is)) right
    by false is = h d (sym (added d ∙ subst (λ c. cond c true (contains digest_cmp old d) ≡ contains digest_cmp old d) (sym is) refl) ∙ among)

-- ---- nothing is forgotten

pub stays_more : (old new : BTreeSet DigestValue) (key : DigestValue) → ((d : DigestValue) → contains digest_cmp new d ≡ cond (is_eq (digest_cmp key d)) true (contains digest_cmp old d)) → StaysPut old new
stays_more old new key added d among = by (is_eq (digest_cmp key d)) refl
  where
    by : (b : Bool) → is_eq (digest_cmp key d) ≡ b → HasPut new d
    by true is = added d ∙ subst (λ c. cond c true (contains digest_cmp old d) ≡ true) (sym is) refl
    by false is = added d ∙ subst (λ c. cond c true (contains digest_cmp old d) ≡ true) (sym is) among

pub among_more : (old new : BTreeSet DigestValue) (key : DigestValue) → ((d : DigestValue) → contains digest_cmp new d ≡ cond (is_eq (digest_cmp key d)) true (contains digest_cmp old d)) → HasPut new key
among_more old new key added = added key ∙ subst (λ c. cond c true (contains digest_cmp old key) ≡ true) (sym (is_eq-digest_cmp key key ∙ digest_itself key)) refl

taken_blobs : {A : Type 0} (bs : List (Vec ℕ A)) (i : ℕ) (x : Vec ℕ A) → i < length bs → x ≡ get_or bs i x → items_of (take (i + 1) bs) ≡ items_of (take i bs) ++ x.items ∷ []
taken_blobs {A} bs i x lt is =
    let taken : take (i + 1) bs ≡ take i bs ++ x ∷ [] = take_more bs i x lt ∙ ap (λ y. take i bs ++ y ∷ []) (sym is) in
    ap items_of taken ∙ map-append (λ (b : Vec ℕ A). b.items) (take i bs) (x ∷ [])

-- Directories that were put, and one more
pub put_all_more : {A : Type 0} (old new : BTreeSet DigestValue) (bs : List (Vec ℕ A)) (i : ℕ) (x : Vec ℕ A) → i < length bs → x ≡ get_or bs i x → StaysPut old new → HasPutAll old (items_of (take i bs))
    → HasPut new (digest_of x.items) → HasPutAll new (items_of (take (i + 1) bs))
put_all_more {A} old new bs i x lt is stays all one =
    let values : items_of (take (i + 1) bs) ≡ items_of (take i bs) ++ x.items ∷ [] = taken_blobs bs i x lt is in
    subst (HasPutAll new) (sym values) (all_join (λ b. HasPut new (digest_of b)) (items_of (take i bs)) (x.items ∷ []) (weaker (λ b. HasPut old (digest_of b)) (λ b. HasPut new (digest_of b)) (λ b. stays (digest_of b)) (items_of (take i bs)) all) (one, tt))

-- how many weren't put
not_put_join : (put : BTreeSet DigestValue) (bs cs : List (List ℕ)) → not_put put (bs ++ cs) ≡ not_put put bs + not_put put cs
not_put_join put [] cs = let same : not_put put cs ≡ 0 + not_put put cs = omega arith in same
not_put_join put (b ∷ bs) cs = let h = not_put_join put bs cs in omega (arith, h)

fewer_put : (old new : BTreeSet DigestValue) (b : List ℕ) → StaysPut old new → not_put new (b ∷ []) ≤ not_put old (b ∷ [])
fewer_put old new b stays = by (contains digest_cmp old (digest_of b)) refl
  where
    by : (c : Bool) → contains digest_cmp old (digest_of b) ≡ c → not_put new (b ∷ []) ≤ not_put old (b ∷ [])
    by true is = let also = stays (digest_of b) is in rw (is, also) (omega arith)
    by false is = rw is (at_most_one (contains digest_cmp new (digest_of b)))
      where
        at_most_one : (c : Bool) → (if c then 0 else 1) + 0 ≤ 1 + 0
        at_most_one true = omega arith
        at_most_one false = omega arith

pub once_more : {A : Type 0} (first old : BTreeSet DigestValue) (bs : List (Vec ℕ A)) (i : ℕ) (x : Vec ℕ A) (start before after : ℕ) → i < length bs → x ≡ get_or bs i x → StaysPut first old
    → before ≤ start + 1 + not_put first (items_of (take i bs)) → after ≤ before + not_put old (x.items ∷ []) → after ≤ start + 1 + not_put first (items_of (take (i + 1) bs))
once_more {A} first old bs i x start before after lt is stays so_far call =
    let values : items_of (take (i + 1) bs) ≡ items_of (take i bs) ++ x.items ∷ [] = taken_blobs bs i x lt is in
    let joined : not_put first (items_of (take (i + 1) bs)) ≡ not_put first (items_of (take i bs)) + not_put first (x.items ∷ []) = ap (not_put first) values ∙ not_put_join first (items_of (take i bs)) (x.items ∷ []) in
    let fewer = fewer_put first old x.items stays in
    omega (arith, so_far, call, joined, fewer)

-- of all of them at most as many weren't put as of the first ones
pub once_first : {A : Type 0} (put : BTreeSet DigestValue) (bs : List (Vec ℕ A)) (i : ℕ) → not_put put (items_of (take i bs)) ≤ not_put put (items_of bs)
once_first put [] zero = let none : 0 ≤ 0 = omega arith in none
once_first put [] (suc i) = let none : 0 ≤ 0 = omega arith in none
once_first put (b ∷ bs) zero = let none : 0 ≤ not_put put (items_of (b ∷ bs)) = omega arith in none
once_first put (b ∷ bs) (suc i) = let h = once_first put bs i in omega (arith, h)

-- a call is counted once
pub call_counts : {old new : Telling} → CountsCall old new → new.calls ≤ old.calls + 1
call_counts {old} {new} c = subst (λ n. n ≤ old.calls + 1) (sym c.calls) (min-le_left (old.calls + 1) greatest_count)

pub one_call : (put : BTreeSet DigestValue) (d : DigestValue) (b : List ℕ) {old new : Telling} → d ≡ digest_of b → contains digest_cmp put d ≡ false → CountsCall old new → new.calls ≤ old.calls + not_put put (b ∷ [])
one_call put d b {old} {new} is none counts =
    let one = call_counts counts in
    let missing : contains digest_cmp put (digest_of b) ≡ false = subst (λ e. contains digest_cmp put e ≡ false) is none in
    rw missing (omega (arith, one))

pub remembers_none : {A : Type 0} {r : Remembered A} → StaysRemembered r r
remembers_none = record { memo = λ a b is. is; put = λ d among. among }

pub remembers_then : {A : Type 0} {r s t : Remembered A} → StaysRemembered r s → StaysRemembered s t → StaysRemembered r t
remembers_then f g = record { memo = λ a b is. g.memo a b (f.memo a b is); put = λ d among. g.put d (f.put d among) }

pub remembers_still : {A : Type 0} {r : Remembered A} {B C : Blobs} → KeepsRight B C → Remembers r B → Remembers r C
remembers_still {A} {r} keeps h = record { memo = knows_still keeps h.memo; put = put_still r.put keeps h.put }
