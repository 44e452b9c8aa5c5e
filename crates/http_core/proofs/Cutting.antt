-- A stream is cut in one way, and cuts go on.
use Rattle.std.proofs.Common.{◌≡◌, ℕ, ◌≤◌, ◌+◌, ◌⊎◌, inl, inr, Bool, true, false, Option, Some, None, List, [], ◌∷◌, ◌++◌, length, refl, sym, ◌∙◌, ap, subst, append_assoc, length-append, arith, zero, suc}
use Rattle.std.proofs.lemmas.List.{append-nil, append_cancel_left}
use Rattle.http_core.specs.declared.judging.Judgement.{Judgement}
use Rattle.http_core.specs.Block.{empty_line, EndsBlock, IsBlock}
use Rattle.http_core.specs.Event.{EventValue, closes}
use Rattle.http_core.specs.Judging.{Judges}
use Rattle.http_core.specs.Stream.{body_length, outcome, IsTooLong, IsRequest, Completes, IsPartial, Cuts}
use Rattle.http_core.proofs.Lists.{compare_fronts, same_fronts}
use Rattle.http_core.proofs.Blocks.{one_block, no_block_within}
use Rattle.http_core.proofs.Judged.{judges_once}

-- the parts of a request at the front of a stream
pub record IsSame (block body other_block other_body : List ℕ) (i j : Judgement) : Type 0 where
  pub block_is : block ≡ other_block
  pub body_is : body ≡ other_body
  pub judgement_is : i ≡ j

same_request : (prefix block body rest other_block other_body other_rest : List ℕ) (i j : Judgement)
    → IsBlock block → IsBlock other_block → Judges prefix block i → Judges prefix other_block j
    → length body ≡ body_length i → length other_body ≡ body_length j
    → block ++ (body ++ rest) ≡ other_block ++ (other_body ++ other_rest)
    → IsSame block body other_block other_body i j
same_request prefix block body rest other_block other_body other_rest i j b c x y m n e =
    let k : block ≡ other_block = one_block block (body ++ rest) other_block (other_body ++ other_rest) b c e in
    let h : i ≡ j = judges_once prefix block i j x (subst (λ z. Judges prefix z j) (sym k) y) in
    let f : block ++ (body ++ rest) ≡ block ++ (other_body ++ other_rest) = e ∙ ap (λ z. z ++ (other_body ++ other_rest)) (sym k) in
    let l : length body ≡ length other_body = m ∙ ap body_length h ∙ sym n in
    record { block_is = k; body_is = same_fronts body rest other_body other_rest (append_cancel_left block (body ++ rest) (other_body ++ other_rest) f) l; judgement_is = h }

requests_agree : (prefix a x b y : List ℕ) (d e : EventValue) → IsRequest prefix a d → IsRequest prefix b e → a ++ x ≡ b ++ y → (a ≡ b) × (d ≡ e)
requests_agree prefix a x b y d e p q h =
    let f : p.block ++ (p.body ++ x) ≡ q.block ++ (q.body ++ y) = sym (append_assoc p.block p.body x) ∙ ap (λ z. z ++ x) (sym p.whole) ∙ h ∙ ap (λ z. z ++ y) q.whole ∙ append_assoc q.block q.body y in
    let s : IsSame p.block p.body q.block q.body p.judgement q.judgement = same_request prefix p.block p.body x q.block q.body y p.judgement q.judgement p.ends q.ends p.judged q.judged p.full q.full f in (
      p.whole ∙ ap (λ z. z ++ p.body) s.block_is ∙ ap (λ z. q.block ++ z) s.body_is ∙ sym q.whole,
      p.gives ∙ ap (λ z. outcome z p.body) s.judgement_is ∙ ap (λ z. outcome q.judgement z) s.body_is ∙ sym q.gives,
    )

too_long_alone : (prefix a x b y : List ℕ) (d e : EventValue) → IsTooLong a d → IsRequest prefix b e → a ++ x ≡ b ++ y → ⊥
too_long_alone prefix a x b y d e p q h =
    let f : a ++ x ≡ q.block ++ (q.body ++ y) = h ∙ ap (λ z. z ++ y) q.whole ∙ append_assoc q.block q.body y in
    let k : length q.block ≤ length a = subst (λ n. length q.block ≤ n) (sym p.size) q.fits in
    no_block_within a x q.block (q.body ++ y) p.none q.ends f k

-- at the front of a stream stands one request at most
pub one_request : (prefix a x b y : List ℕ) (d e : EventValue) → Completes prefix a d → Completes prefix b e → a ++ x ≡ b ++ y → (a ≡ b) × (d ≡ e)
one_request prefix a x b y d e (inl p) (inl q) h = (same_fronts a x b y h (p.size ∙ sym q.size), p.gives ∙ sym q.gives)
one_request prefix a x b y d e (inl p) (inr q) h = absurd (too_long_alone prefix a x b y d e p q h)
one_request prefix a x b y d e (inr p) (inl q) h = absurd (too_long_alone prefix b y a x e d q p (sym h))
one_request prefix a x b y d e (inr p) (inr q) h = requests_agree prefix a x b y d e p q h

some_is : (a b : List ℕ) → Some a ≡ Some b → a ≡ b
some_is a b e = cc

none_some : (a : List ℕ) → None ≡ Some a → ⊥
none_some a e = cc

-- a cut of what is left goes on
pub cuts_join : (prefix stream more rest : List ℕ) (x y : List EventValue) (left : Option (List ℕ))
    → Cuts prefix stream x (Some rest) → Cuts prefix (rest ++ more) y left → Cuts prefix (stream ++ more) (x ++ y) left
unfolding Cuts
cuts_join prefix stream more rest [] y left (p, e) c = subst (λ z. Cuts prefix (z ++ more) y left) (some_is rest stream e) c
cuts_join prefix stream more rest (event ∷ x) y left (front, behind, e, done, inl (shut, last, none)) c = absurd (none_some rest (sym none))
cuts_join prefix stream more rest (event ∷ x) y left (front, behind, e, done, inr (open_, d)) c =
    (front, behind ++ more, ap (λ z. z ++ more) e ∙ append_assoc front behind more, done, inr (open_, cuts_join prefix behind more rest x y left d c))

-- behind an event that closes no bytes count
pub cuts_closed : (prefix stream more : List ℕ) (x : List EventValue) → Cuts prefix stream x None → Cuts prefix (stream ++ more) x None
unfolding Cuts
cuts_closed prefix stream more [] (p, e) = absurd (none_some stream e)
cuts_closed prefix stream more (event ∷ x) (front, behind, e, done, inl (shut, last, none)) =
    (front, behind ++ more, ap (λ z. z ++ more) e ∙ append_assoc front behind more, done, inl (shut, last, none))
cuts_closed prefix stream more (event ∷ x) (front, behind, e, done, inr (open_, d)) =
    (front, behind ++ more, ap (λ z. z ++ more) e ∙ append_assoc front behind more, done, inr (open_, cuts_closed prefix behind more x d))

not_both : (b : Bool) → b ≡ true → b ≡ false → ⊥
not_both b s t = cc

same_rest : (front other rest behind : List ℕ) → front ≡ other → front ++ rest ≡ other ++ behind → rest ≡ behind
same_rest front other rest behind e h = append_cancel_left front rest behind (h ∙ ap (λ z. z ++ behind) (sym e))

pub cut_once : (prefix stream : List ℕ) (x y : List EventValue) (a b : Option (List ℕ)) → Cuts prefix stream x a → Cuts prefix stream y b → (x ≡ y) × (a ≡ b)
unfolding Cuts
cut_once prefix stream [] [] a b (p, e) (q, f) = (refl, e ∙ sym f)
cut_once prefix stream [] (d ∷ y) a b (p, e) (front, rest, h, done, more) = absurd (p front rest d h done)
cut_once prefix stream (d ∷ x) [] a b (front, rest, h, done, more) (p, e) = absurd (p front rest d h done)
cut_once prefix stream (d ∷ x) (e ∷ y) a b (front, rest, h, done, inl (shut, last, none)) (other, behind, k, ends, inl (also, final, nothing)) =
    let s : (front ≡ other) × (d ≡ e) = one_request prefix front rest other behind d e done ends (sym h ∙ k) in
    let g : d ≡ e = s.1 in (cc, none ∙ sym nothing)
cut_once prefix stream (d ∷ x) (e ∷ y) a b (front, rest, h, done, inl (shut, last, none)) (other, behind, k, ends, inr (goes, c)) =
    let s : (front ≡ other) × (d ≡ e) = one_request prefix front rest other behind d e done ends (sym h ∙ k) in
    absurd (not_both (closes d) shut (ap closes s.1 ∙ goes))
cut_once prefix stream (d ∷ x) (e ∷ y) a b (front, rest, h, done, inr (goes, c)) (other, behind, k, ends, inl (shut, last, none)) =
    let s : (front ≡ other) × (d ≡ e) = one_request prefix front rest other behind d e done ends (sym h ∙ k) in
    absurd (not_both (closes e) shut (ap closes (sym s.1) ∙ goes))
cut_once prefix stream (d ∷ x) (e ∷ y) a b (front, rest, h, done, inr (goes, c)) (other, behind, k, ends, inr (also, f)) =
    let s : (front ≡ other) × (d ≡ e) = one_request prefix front rest other behind d e done ends (sym h ∙ k) in
    let t : rest ≡ behind = same_rest front other rest behind s.0 (sym h ∙ k) in
    let r : (x ≡ y) × (a ≡ b) = cut_once prefix rest x y a b c (subst (λ z. Cuts prefix z y b) (sym t) f) in
    let g : d ≡ e = s.1 in let i : x ≡ y = r.0 in (cc, r.1)

pub cut_further : (prefix stream more : List ℕ) (x y : List EventValue) (a b : Option (List ℕ)) → Cuts prefix stream x a → Cuts prefix (stream ++ more) y b → (others : List EventValue) × (y ≡ x ++ others)
unfolding Cuts
cut_further prefix stream more [] y a b c d = (y, refl)
cut_further prefix stream more (d ∷ x) [] a b (front, rest, h, done, goes) (p, e) = absurd (p front (rest ++ more) d (ap (λ z. z ++ more) h ∙ append_assoc front rest more) done)
cut_further prefix stream more (d ∷ x) (e ∷ y) a b (front, rest, h, done, goes) (other, behind, k, ends, on) =
    let f : front ++ (rest ++ more) ≡ other ++ behind = sym (append_assoc front rest more) ∙ ap (λ z. z ++ more) (sym h) ∙ k in
    let s : (front ≡ other) × (d ≡ e) = one_request prefix front (rest ++ more) other behind d e done ends f in
    let t : rest ++ more ≡ behind = same_rest front other (rest ++ more) behind s.0 f in
    behind_it (λ c f. cut_further prefix rest more x y a b c f) s t goes on
  where
    behind_it : (Cuts prefix rest x a → Cuts prefix (rest ++ more) y b → (others : List EventValue) × (y ≡ x ++ others)) → ((front ≡ other) × (d ≡ e)) → rest ++ more ≡ behind
        → (((closes d ≡ true) × (x ≡ []) × (a ≡ None)) ⊎ ((closes d ≡ false) × Cuts prefix rest x a))
        → (((closes e ≡ true) × (y ≡ []) × (b ≡ None)) ⊎ ((closes e ≡ false) × Cuts prefix behind y b))
        → (others : List EventValue) × (e ∷ y ≡ (d ∷ x) ++ others)
    behind_it on_behind s t (inl (shut, last, none)) (inl (also, final, nothing)) = let g : d ≡ e = s.1 in ([], ap (λ z. z ∷ y) (sym g) ∙ ap (λ z. d ∷ z) final ∙ ap (λ z. d ∷ z) (sym last) ∙ sym (append-nil (d ∷ x)))
    behind_it on_behind s t (inl (shut, last, none)) (inr (open_, c)) = absurd (not_both (closes d) shut (ap closes s.1 ∙ open_))
    behind_it on_behind s t (inr (open_, c)) (inl (shut, last, none)) = absurd (not_both (closes e) shut (ap closes (sym s.1) ∙ open_))
    behind_it on_behind s t (inr (open_, c)) (inr (also, f)) =
        let r : (others : List EventValue) × (y ≡ x ++ others) = on_behind c (subst (λ z. Cuts prefix z y b) (sym t) f) in
        let g : d ≡ e = s.1 in (r.0, ap (λ z. z ∷ y) (sym g) ∙ ap (λ z. d ∷ z) r.1)

-- the beginning of a stream that has the first of its events
pub record HasFirst (prefix stream : List ℕ) (x : List EventValue) : Type 0 where
  pub front : List ℕ
  pub rest : List ℕ
  pub left : Option (List ℕ)
  pub whole : stream ≡ front ++ rest
  pub cut : Cuts prefix front x left

empty_parts : (front rest : List ℕ) → [] ≡ front ++ rest → front ≡ []
empty_parts [] rest e = refl
empty_parts (b ∷ front) rest e = let h : [] ≡ b ∷ (front ++ rest) = e in cc

pub no_empty : (prefix : List ℕ) (event : EventValue) → Completes prefix [] event → ⊥
no_empty prefix event (inl t) = let h : 0 ≡ 16384 = t.size in omega arith
no_empty prefix event (inr q) = absurd (ends_empty q.block q.ends.ends (empty_parts q.block q.body q.whole))
  where
    ends_empty : (block : List ℕ) → EndsBlock block → block ≡ [] → ⊥
    ends_empty block (front, e) f = let h : length block ≡ length (front ++ empty_line) = ap length e in let k : length (front ++ empty_line) ≡ length front + 4 = length-append front empty_line in let l : length block ≡ 0 = ap length f in omega arith

pub empty_partial : (prefix : List ℕ) → IsPartial prefix []
empty_partial prefix front rest event e done = no_empty prefix event (subst (λ z. Completes prefix z event) (empty_parts front rest e) done)

cut_first : (prefix stream : List ℕ) (x y : List EventValue) (a : Option (List ℕ)) → Cuts prefix stream (x ++ y) a → HasFirst prefix stream x
unfolding Cuts
cut_first prefix stream [] y a c = record { front = []; rest = stream; left = Some []; whole = refl; cut = (empty_partial prefix, refl) }
cut_first prefix stream (event ∷ x) y a (front, rest, e, done, inl (shut, last, none)) =
    record { front = front; rest = rest; left = None; whole = e; cut = (front, [], sym (append-nil front), done, inl (shut, no_front x y last, refl)) }
  where
    no_front : (x y : List EventValue) → x ++ y ≡ [] → x ≡ []
    no_front [] y h = refl
    no_front (d ∷ x) y h = let k : d ∷ (x ++ y) ≡ [] = h in cc
cut_first prefix stream (event ∷ x) y a (front, rest, e, done, inr (open_, c)) =
    let h : HasFirst prefix rest x = cut_first prefix rest x y a c in
    record { front = front ++ h.front; rest = h.rest; left = h.left; whole = e ∙ ap (λ z. front ++ z) h.whole ∙ sym (append_assoc front h.front h.rest); cut = (front, h.front, refl, done, inr (open_, h.cut)) }

-- the beginning of a piece with which a stream has some events more
pub record HasMore (prefix stream piece : List ℕ) (x : List EventValue) : Type 0 where
  pub front : List ℕ
  pub rest : List ℕ
  pub left : Option (List ℕ)
  pub whole : piece ≡ front ++ rest
  pub cut : Cuts prefix (stream ++ front) x left

longer : (x y others : List EventValue) (event : EventValue) → x ≡ (x ++ event ∷ y) ++ others → ⊥
longer x y others event e =
    let h : length x ≡ length ((x ++ event ∷ y) ++ others) = ap length e in
    let k : length ((x ++ event ∷ y) ++ others) ≡ length (x ++ event ∷ y) + length others = length-append (x ++ event ∷ y) others in
    let l : length (x ++ event ∷ y) ≡ length x + (length y + 1) = length-append x (event ∷ y) ∙ ap (λ n. length x + n) (add-one-length event y) in
    omega arith
  where
    add-one-length : (event : EventValue) (y : List EventValue) → length (event ∷ y) ≡ length y + 1
    add-one-length event y = omega arith

pub cut_within : (prefix stream piece : List ℕ) (x y z : List EventValue) (a b : Option (List ℕ))
    → Cuts prefix stream x a → Cuts prefix (stream ++ piece) (x ++ (y ++ z)) b → HasMore prefix stream piece (x ++ y)
cut_within prefix stream piece x [] z a b c d =
    record { front = []; rest = piece; left = a; whole = refl; cut = subst (λ w. Cuts prefix w (x ++ []) a) (sym (append-nil stream)) (subst (λ w. Cuts prefix stream w a) (sym (append-nil x)) c) }
cut_within prefix stream piece x (event ∷ y) z a b c d =
    let h : HasFirst prefix (stream ++ piece) (x ++ event ∷ y) = cut_first prefix (stream ++ piece) (x ++ event ∷ y) z b (subst (λ w. Cuts prefix (stream ++ piece) w b) (sym (append_assoc x (event ∷ y) z)) d) in
    elim (compare_fronts stream piece h.front h.rest h.whole) [
      | inl s ↦ record { front = s.between; rest = h.rest; left = h.left; whole = s.rest; cut = subst (λ w. Cuts prefix w (x ++ event ∷ y) h.left) s.front h.cut }
      | inr s ↦ absurd (let k : (others : List EventValue) × (x ≡ (x ++ event ∷ y) ++ others) = cut_further prefix h.front s.between (x ++ event ∷ y) x h.left a h.cut (subst (λ w. Cuts prefix w x a) s.front c) in longer x y k.0 event k.1)
    ]

-- ---- no stream is without a cut

fewer : (front rest : List ℕ) (n : ℕ) → (front ≡ [] → ⊥) → length (front ++ rest) ≤ suc n → length rest ≤ n
fewer [] rest n some few = absurd (some refl)
fewer (b ∷ front) rest n some few = let h : length (front ++ rest) ≡ length front + length rest = length-append front rest in let k : length (b ∷ (front ++ rest)) ≡ suc (length (front ++ rest)) = refl in omega arith

-- a stream is partial where no event at its front could be followed by a cut of the rest
none_first : (prefix stream : List ℕ)
    → ((rest : List ℕ) (front : List ℕ) (event : EventValue) → stream ≡ front ++ rest → Completes prefix front event → ((x : List EventValue) (a : Option (List ℕ)) → Cuts prefix rest x a → ⊥) → ⊥)
    → ((x : List EventValue) (a : Option (List ℕ)) → Cuts prefix stream x a → ⊥) → ⊥
unfolding Cuts
none_first prefix stream behind none = none [] (Some stream) (partial, refl)
  where
    by : (front rest : List ℕ) (event : EventValue) → stream ≡ front ++ rest → Completes prefix front event → (b : Bool) → closes event ≡ b → ⊥
    by front rest event e done true shut = none (event ∷ []) None (front, rest, e, done, inl (shut, refl, refl))
    by front rest event e done false open_ = behind rest front event e done (λ x a c. none (event ∷ x) a (front, rest, e, done, inr (open_, c)))

    partial : IsPartial prefix stream
    partial front rest event e done = by front rest event e done (closes event) refl

cut_within_length : (n : ℕ) (prefix stream : List ℕ) → length stream ≤ n → ((x : List EventValue) (a : Option (List ℕ)) → Cuts prefix stream x a → ⊥) → ⊥
cut_within_length zero prefix stream few none = none_first prefix stream (λ rest front event e done no. no_empty prefix event (subst (λ z. Completes prefix z event) (nothing stream front rest few e) done)) none
  where
    nothing : (stream front rest : List ℕ) → length stream ≤ 0 → stream ≡ front ++ rest → front ≡ []
    nothing [] front rest few e = empty_parts front rest e
    nothing (b ∷ stream) front rest few e = let h : length (b ∷ stream) ≤ 0 = few in absurd (omega arith)
cut_within_length (suc n) prefix stream few none =
    none_first prefix stream (λ rest front event e done no. cut_within_length n prefix rest
    (fewer front rest n (λ z. no_empty prefix event (subst (λ w. Completes prefix w event) z done)) (subst (λ z. length z ≤ suc n) e few)) no) none

pub cut_somehow : (prefix stream : List ℕ) → ((x : List EventValue) (a : Option (List ℕ)) → Cuts prefix stream x a → ⊥) → ⊥
cut_somehow prefix stream none = cut_within_length (length stream) prefix stream (omega arith) none
