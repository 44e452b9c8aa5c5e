-- A block has one judgement.
use Rattle.std.proofs.Common.{◌≡◌, ℕ, ◌==◌, ◌<◌, ◌≤◌, inl, inr, Bool, true, false, Option, Some, None, List, [], ◌∷◌, ◌++◌, map, Result, Ok, refl, sym, ◌∙◌, ap, subst, arith}
use Rattle.std.proofs.lemmas.List.{append_cancel_left}
use Rattle.std.specs.Prelude.{MatchOption}
use Rattle.httparse.specs.Spans.{name_and_value}
use Rattle.httparse.proofs.GrammarLemmas.{request_unique}
use Rattle.hex.specs.Hex.{encode_lower, decode_sized}
use Rattle.hex.specs.declared.error.FromHexError.{FromHexError}
use Rattle.blob_digest.specs.DigestValue.{IsHash}
use Rattle.blob_digest.proofs.HexTexts.{hash_given}
use Rattle.http_core.specs.declared.event.Area.{Area}
use Rattle.http_core.specs.declared.event.Area.TheVariants.{Ac, Cas, Pin, Unpin}
use Rattle.http_core.specs.declared.judging.Judgement.{Judgement}
use Rattle.http_core.specs.declared.judging.Judgement.TheVariants as judgements
use Rattle.http_core.specs.Connection.{closes_of}
use Rattle.http_core.specs.Judging.{Judges, pairs}
use Rattle.http_core.specs.Rules.{area_text, Names, asked, Targets, JudgesHead, refused_status, is_put, body_size, length_of}

ok_is : (a b : List ℕ) → ◌≡◌ {A = Result (List ℕ) FromHexError} (Ok a) (Ok b) → a ≡ b
ok_is a b e = cc

hash_once : (a b : List ℕ) → IsHash a → IsHash b → encode_lower a ≡ encode_lower b → a ≡ b
hash_once a b h k e = ok_is a b (sym (hash_given a h) ∙ ap (λ z. decode_sized z 32) e ∙ hash_given b k)

second_is : (a b : ℕ) (x y : List ℕ) → 47 ∷ a ∷ x ≡ 47 ∷ b ∷ y → a ≡ b
second_is a b x y e = cc

not_equal : (a b : ℕ) → (a == b) ≡ false → a ≡ b → ⊥
not_equal a b t e = grind arith

differ : (a b : ℕ) (x y : List ℕ) → (a == b) ≡ false → 47 ∷ a ∷ x ≡ 47 ∷ b ∷ y → ⊥
differ a b x y t e = not_equal a b t (second_is a b x y e)

area_once : (a b : Area) (x y : List ℕ) → area_text a ++ x ≡ area_text b ++ y → a ≡ b
area_once Ac Ac x y e = refl
area_once Ac Cas x y e = absurd (differ 97 99 _ _ refl e)
area_once Ac Pin x y e = absurd (differ 97 112 _ _ refl e)
area_once Ac Unpin x y e = absurd (differ 97 117 _ _ refl e)
area_once Cas Ac x y e = absurd (differ 99 97 _ _ refl e)
area_once Cas Cas x y e = refl
area_once Cas Pin x y e = absurd (differ 99 112 _ _ refl e)
area_once Cas Unpin x y e = absurd (differ 99 117 _ _ refl e)
area_once Pin Ac x y e = absurd (differ 112 97 _ _ refl e)
area_once Pin Cas x y e = absurd (differ 112 99 _ _ refl e)
area_once Pin Pin x y e = refl
area_once Pin Unpin x y e = absurd (differ 112 117 _ _ refl e)
area_once Unpin Ac x y e = absurd (differ 117 97 _ _ refl e)
area_once Unpin Cas x y e = absurd (differ 117 99 _ _ refl e)
area_once Unpin Pin x y e = absurd (differ 117 112 _ _ refl e)
area_once Unpin Unpin x y e = refl

pub record AreSame (a b : Area) (x y : List ℕ) : Type 0 where
  pub area : a ≡ b
  pub hash : x ≡ y

-- a target names one hash in one area
names_once : (prefix : List ℕ) (put : Bool) (target : List ℕ) (a b : Area) (x y : List ℕ) → Names prefix put target a x → Names prefix put target b y → AreSame a b x y
names_once prefix put target a b x y m n =
    let e : area_text a ++ encode_lower x ≡ area_text b ++ encode_lower y = append_cancel_left prefix (area_text a ++ encode_lower x) (area_text b ++ encode_lower y) (sym m.text ∙ n.text) in
    let k : a ≡ b = area_once a b (encode_lower x) (encode_lower y) e in
    let f : encode_lower x ≡ encode_lower y = append_cancel_left (area_text a) (encode_lower x) (encode_lower y) (e ∙ ap (λ z. area_text z ++ encode_lower y) (sym k)) in
    record { area = k; hash = hash_once x y m.is_hash n.is_hash f }

targets_once : (prefix : List ℕ) (put close : Bool) (target : List ℕ) (size : ℕ) (i j : Judgement) → Targets prefix put close target size i → Targets prefix put close target size j → i ≡ j
targets_once prefix put close target size i j (inl (a, x, m, e)) (inl (b, y, n, f)) =
    let s : AreSame a b x y = names_once prefix put target a b x y m n in
    e ∙ ap (λ z. asked put size close z x) s.area ∙ ap (asked put size close b) s.hash ∙ sym f
targets_once prefix put close target size i j (inl (a, x, m, e)) (inr (none, f)) = absurd (none a x m)
targets_once prefix put close target size i j (inr (none, e)) (inl (b, y, n, f)) = absurd (none b y n)
targets_once prefix put close target size i j (inr (none, e)) (inr (other, f)) = e ∙ sym f

judged_once : (prefix target : List ℕ) (put close : Bool) (size : ℕ) (status : Option ℕ) (i j : Judgement)
    → MatchOption status (Targets prefix put close target size i) (λ s. i ≡ judgements.Refuse s true)
    → MatchOption status (Targets prefix put close target size j) (λ s. j ≡ judgements.Refuse s true) → i ≡ j
judged_once prefix target put close size (Some status) i j x y = x ∙ sym y
judged_once prefix target put close size None i j x y = targets_once prefix put close target size i j x y

few_many : (n : ℕ) → n ≤ 66 → 66 < n → ⊥
few_many n h k = omega arith

pub judges_once : (prefix block : List ℕ) (i j : Judgement) → Judges prefix block i → Judges prefix block j → i ≡ j
unfolding Judges
judges_once prefix block i j (inl x) (inl y) = x.1 ∙ sym y.1
judges_once prefix block i j (inl x) (inr (inl y)) = absurd (few_many (pairs block) y.0 x.0)
judges_once prefix block i j (inl x) (inr (inr y)) = absurd (few_many (pairs block) y.0 x.0)
judges_once prefix block i j (inr (inl x)) (inl y) = absurd (few_many (pairs block) x.0 y.0)
judges_once prefix block i j (inr (inl x)) (inr (inl y)) = x.2 ∙ sym y.2
judges_once prefix block i j (inr (inl x)) (inr (inr y)) = absurd (x.1 y.1 y.2)
judges_once prefix block i j (inr (inr x)) (inl y) = absurd (few_many (pairs block) x.0 y.0)
judges_once prefix block i j (inr (inr x)) (inr (inl y)) = absurd (y.1 x.1 x.2)
judges_once prefix block i j (inr (inr x)) (inr (inr y)) =
    let same : x.1 ≡ y.1 = (request_unique block x.1 y.1 [] [] x.2.0 y.2.0).0 in
    let fields = map name_and_value y.1.fields in
    judged_once prefix y.1.target (is_put y.1.method) (closes_of fields) (body_size (length_of fields)) (refused_status y.1.minor y.1.method fields) i j (subst (λ h. JudgesHead prefix h i) same x.3) y.3
