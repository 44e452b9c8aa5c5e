-- A record whose numbers are in any groups is read as it is spelled, and each spelling of a record is read.
use Rattle.std.proofs.Common.{◌≡◌, ℕ, zero, suc, ◌+◌, ◌-◌, ◌*◌, ◌/◌, ◌%◌, ◌<◌, ◌≤◌, false, eqb, ltb, ◌||◌, List, [], ◌∷◌, ◌++◌, length, Ok, refl, sym, ap, subst, ◌∙◌, append_assoc, arith, inl, inr, lit<}
use Rattle.std.proofs.lemmas.Bool.{eqb-true, lt-ltb, le-ltb, ltb-false, ltb-true}
use Rattle.wire.specs.declared.error.WireError.{WireError}
use Rattle.wire.specs.declared.error.WireError.TheVariants.{VarintTooLong, BadNumber}
use Rattle.wire.specs.AnySpelling.{IsVarint, HasLength, IsValueText, IsRecordText}
use Rattle.wire.specs.Bytes.{IsBytes}
use Rattle.wire.specs.Record.{Value, Varint, Eight, Bytes, Four, Record}
use Rattle.wire.specs.Reading.{fixed_at, value_by, record_by}
use Rattle.wire.specs.Spelling.{wire_type}
use Rattle.wire.specs.Steps.{◌>>=◌}
use Rattle.wire.specs.Varint.{group_sum, AreGroups, groups_by, varint_by}
use Rattle.wire.proofs.Records.{chosen, or_false, eqb_pos, limit_least, fixed_takes, fixed_again, wire_type_low}
use Rattle.wire.proofs.Shortest.{AreGroups-cons}
use Rattle.wire.proofs.Steps.{bind_ok, guard_ok, ok_is, IsBytes-rest}
use Rattle.wire.proofs.Varints.{limit, pos-eqb}

pub bytes_front : (a b : List ℕ) → IsBytes (a ++ b) → IsBytes a
bytes_front [] b h i = lit< tt
bytes_front (x ∷ a) b h zero = h 0
bytes_front (x ∷ a) b h (suc i) = bytes_front a b (λ j. h (suc j)) i

pub bytes_back : (a b : List ℕ) → IsBytes (a ++ b) → IsBytes b
bytes_back [] b h = h
bytes_back (x ∷ a) b h = bytes_back a b (λ j. h (suc j))

-- ---- groups and varints

record TakesGroups (count : ℕ) (bytes : List ℕ) (n : ℕ) (rest : List ℕ) : Type 0 where
  front : List ℕ
  form : AreGroups front
  sum : group_sum front ≡ n
  few : length front ≤ count + 1
  below : n < limit count
  parts : bytes ≡ front ++ rest

one_group : (count b : ℕ) (bytes : List ℕ) → b < 128 → b < limit count → TakesGroups count (b ∷ bytes) b bytes
one_group count b bytes low below = record { front = b ∷ []; form = low; sum = omega (arith, low); few = omega arith; below = below; parts = refl }

groups_take : (count : ℕ) (bytes : List ℕ) (x : ℕ × List ℕ) → IsBytes bytes → groups_by false count bytes ≡ Ok x → TakesGroups count bytes x.0 x.1
unfolding groups_by
groups_take zero [] x fits e = absurd cc
groups_take (suc count) [] x fits e = absurd cc
groups_take zero (b ∷ bytes) x fits e =
    let g = guard_ok (ltb 1 b) VarintTooLong (Ok (b, bytes)) x e in
    let few : b ≤ 1 = ltb-false 1 b g.0 in
    subst (λ (y : ℕ × List ℕ). TakesGroups zero (b ∷ bytes) y.0 y.1) (ok_is {E = WireError} (b, bytes) x g.1) (one_group zero b bytes (omega (arith, few)) (omega (arith, few)))
groups_take (suc count) (b ∷ bytes) x fits e =
    let least = limit_least count in
    elim (chosen (ltb b 128) (Ok (b, bytes)) (groups_by false count bytes >>= λ high. Ok (b - 128 + 128 * high.0, high.1)) (Ok x) e) [
      | inl g ↦
          let low : b < 128 = ltb-true b 128 g.0 in
          subst (λ (y : ℕ × List ℕ). TakesGroups (suc count) (b ∷ bytes) y.0 y.1) (ok_is {E = WireError} (b, bytes) x g.1) (one_group (suc count) b bytes low (omega (arith, low, least)))
      | inr g ↦
          let big : 128 ≤ b = ltb-false b 128 g.0 in
          let byte : b < 256 = fits 0 in
          let a = bind_ok (groups_by false count bytes) (λ high. Ok (b - 128 + 128 * high.0, high.1)) x g.1 in
          let t = groups_take count bytes a.0 (IsBytes-rest b bytes fits) a.1 in
          let most : a.0.0 < limit count = t.below in
          let sum : group_sum t.front ≡ a.0.0 = t.sum in
          let few = t.few in
          let n = b - 128 + 128 * a.0.0 in
          subst (λ (y : ℕ × List ℕ). TakesGroups (suc count) (b ∷ bytes) y.0 y.1) (ok_is {E = WireError} (n, a.0.1) x a.2) (record {
            front = b ∷ t.front;
            form = AreGroups-cons b t.front big t.form;
            sum = omega (arith, sum, big, byte);
            few = omega (arith, few);
            below = omega (arith, most, byte, big);
            parts = ap (λ (l : List ℕ). b ∷ l) t.parts;
          })
    ]

pub record TakesVarint (bytes : List ℕ) (n : ℕ) (rest : List ℕ) : Type 0 where
  pub text : List ℕ
  pub spelled : IsVarint n text
  pub parts : bytes ≡ text ++ rest
  pub rest_fits : IsBytes rest

pub varint_takes : (bytes : List ℕ) (x : ℕ × List ℕ) → IsBytes bytes → varint_by false bytes ≡ Ok x → TakesVarint bytes x.0 x.1
unfolding varint_by
varint_takes [] x fits e = absurd cc
varint_takes (b ∷ bytes) x fits e =
    elim (chosen (ltb b 128) (Ok (b, bytes)) (groups_by false 8 bytes >>= λ high. Ok (b - 128 + 128 * high.0, high.1)) (Ok x) e) [
      | inl g ↦
          let low : b < 128 = ltb-true b 128 g.0 in
          subst (λ (y : ℕ × List ℕ). TakesVarint (b ∷ bytes) y.0 y.1) (ok_is {E = WireError} (b, bytes) x g.1) (record {
            text = b ∷ [];
            spelled = record { form = low; sum = omega (arith, low); few = omega arith; fits = omega (arith, low) };
            parts = refl;
            rest_fits = IsBytes-rest b bytes fits;
          })
      | inr g ↦
          let big : 128 ≤ b = ltb-false b 128 g.0 in
          let byte : b < 256 = fits 0 in
          let a = bind_ok (groups_by false 8 bytes) (λ high. Ok (b - 128 + 128 * high.0, high.1)) x g.1 in
          let t = groups_take 8 bytes a.0 (IsBytes-rest b bytes fits) a.1 in
          let most : a.0.0 < limit 8 = t.below in
          let sum : group_sum t.front ≡ a.0.0 = t.sum in
          let few = t.few in
          let n = b - 128 + 128 * a.0.0 in
          subst (λ (y : ℕ × List ℕ). TakesVarint (b ∷ bytes) y.0 y.1) (ok_is {E = WireError} (n, a.0.1) x a.2) (record {
            text = b ∷ t.front;
            spelled = record { form = AreGroups-cons b t.front big t.form; sum = omega (arith, sum, big, byte); few = omega (arith, few); fits = omega (arith, most, byte, big) };
            parts = ap (λ (l : List ℕ). b ∷ l) t.parts;
            rest_fits = bytes_back t.front a.0.1 (subst IsBytes t.parts (IsBytes-rest b bytes fits));
          })
    ]

groups_again : (count n : ℕ) (front rest : List ℕ) → IsBytes front → AreGroups front → group_sum front ≡ n → length front ≤ count + 1 → n < limit count → groups_by false count (front ++ rest) ≡ Ok (n, rest)
unfolding groups_by
groups_again count n [] rest fits form sum few lt = absurd form
groups_again zero n (b ∷ []) rest fits form sum few lt =
    let is : b ≡ n = omega (arith, form, sum) in
    let small : ltb 1 b ≡ false = le-ltb 1 b (omega (arith, is, lt)) in
    rw small (ap (λ (k : ℕ). Ok (k, rest)) is)
groups_again zero n (b ∷ c ∷ front) rest fits form sum few lt = absurd (omega (arith, few))
groups_again (suc count) n (b ∷ []) rest fits form sum few lt =
    let is : b ≡ n = omega (arith, form, sum) in
    let small = lt-ltb b 128 form in
    rw small (ap (λ (k : ℕ). Ok (k, rest)) is)
groups_again (suc count) n (b ∷ c ∷ front) rest fits form sum few lt =
    let byte : b < 256 = fits 0 in
    let big : 128 ≤ b = form.0 in
    let more = le-ltb b 128 big in
    let high = group_sum (c ∷ front) in
    let whole : b % 128 + 128 * high ≡ n = sum in
    let again = groups_again count high (c ∷ front) rest (IsBytes-rest b (c ∷ front) fits) form.1 refl (omega (arith, few)) (omega (arith, whole, lt)) in
    let is : b - 128 + 128 * high ≡ n = omega (arith, whole, byte, big) in
    rw (more, again) (ap (λ (k : ℕ). Ok (k, rest)) is)

pub varint_again : (n : ℕ) (text rest : List ℕ) → IsBytes text → IsVarint n text → varint_by false (text ++ rest) ≡ Ok (n, rest)
unfolding varint_by
varint_again n [] rest fits v = absurd v.form
varint_again n (b ∷ []) rest fits v =
    let low : b < 128 = v.form in
    let sum : b % 128 + 128 * 0 ≡ n = v.sum in
    let is : b ≡ n = omega (arith, low, sum) in
    let small = lt-ltb b 128 low in
    rw small (ap (λ (k : ℕ). Ok (k, rest)) is)
varint_again n (b ∷ c ∷ text) rest fits v =
    let byte : b < 256 = fits 0 in
    let big : 128 ≤ b = v.form.0 in
    let more = le-ltb b 128 big in
    let high = group_sum (c ∷ text) in
    let whole : b % 128 + 128 * high ≡ n = v.sum in
    let lt = v.fits in
    let few = v.few in
    let again = groups_again 8 high (c ∷ text) rest (IsBytes-rest b (c ∷ text) fits) v.form.1 refl (omega (arith, few)) (omega (arith, whole, lt)) in
    let is : b - 128 + 128 * high ≡ n = omega (arith, whole, byte, big) in
    rw (more, again) (ap (λ (k : ℕ). Ok (k, rest)) is)

-- ---- payloads

record TakesValue (bytes : List ℕ) (kind : ℕ) (value : Value) (rest : List ℕ) : Type 0 where
  text : List ℕ
  spelled : IsValueText value text
  parts : bytes ≡ text ++ rest
  tag : kind ≡ wire_type value

value_takes : (kind : ℕ) (bytes : List ℕ) (x : Value × List ℕ) → IsBytes bytes → value_by false kind bytes ≡ Ok x → TakesValue bytes kind x.0 x.1
unfolding value_by
value_takes kind bytes x fits e =
    let P : Value × List ℕ → Type 0 = λ y. TakesValue bytes kind y.0 y.1 in
    elim (chosen (eqb kind 0) _ _ _ e) [
      | inl g ↦
          let a = bind_ok (varint_by false bytes) (λ n. Ok (Varint n.0, n.1)) x g.1 in
          let t = varint_takes bytes a.0 fits a.1 in
          subst P (ok_is {E = WireError} _ x a.2) (record { text = t.text; spelled = t.spelled; parts = t.parts; tag = eqb-true _ _ g.0 })
      | inr g0 ↦ elim (chosen (eqb kind 1) _ _ _ g0.1) [
        | inl g ↦
            let a = bind_ok (fixed_at 8 bytes) (λ y. Ok (Eight y.0, y.1)) x g.1 in
            let t = fixed_takes 8 bytes a.0 fits a.1 in
            subst P (ok_is {E = WireError} _ x a.2) (record { text = a.0.0; spelled = (t.1, refl); parts = t.0.parts; tag = eqb-true _ _ g.0 })
        | inr g1 ↦ elim (chosen (eqb kind 2) _ _ _ g1.1) [
          | inl g ↦
              let a = bind_ok (varint_by false bytes) (λ len. fixed_at len.0 len.1 >>= λ y. Ok (Bytes y.0, y.1)) x g.1 in
              let b = bind_ok (fixed_at a.0.0 a.0.1) (λ y. Ok (Bytes y.0, y.1)) x a.2 in
              let t = varint_takes bytes a.0 fits a.1 in
              let u = fixed_takes a.0.0 a.0.1 b.0 t.rest_fits b.1 in
              let whole : HasLength b.0.0 (t.text ++ b.0.0) = record { len = t.text; counts = subst (λ (k : ℕ). IsVarint k t.text) (sym u.1) t.spelled; parts = refl } in
              let parts : bytes ≡ (t.text ++ b.0.0) ++ b.0.1 = t.parts ∙ ap (λ (l : List ℕ). t.text ++ l) u.0.parts ∙ sym (append_assoc t.text b.0.0 b.0.1) in
              subst P (ok_is {E = WireError} _ x b.2) (record { text = t.text ++ b.0.0; spelled = whole; parts = parts; tag = eqb-true _ _ g.0 })
          | inr g2 ↦ elim (chosen (eqb kind 5) _ _ _ g2.1) [
            | inl g ↦
                let a = bind_ok (fixed_at 4 bytes) (λ y. Ok (Four y.0, y.1)) x g.1 in
                let t = fixed_takes 4 bytes a.0 fits a.1 in
                subst P (ok_is {E = WireError} _ x a.2) (record { text = a.0.0; spelled = (t.1, refl); parts = t.0.parts; tag = eqb-true _ _ g.0 })
            | inr g3 ↦ let no = g3.1 in absurd cc
          ]
        ]
      ]
    ]

value_again : (value : Value) (text rest : List ℕ) → IsBytes text → IsValueText value text → value_by false (wire_type value) (text ++ rest) ≡ Ok (value, rest)
unfolding value_by
value_again (Varint n) text rest fits v = rw (varint_again n text rest fits v) refl
value_again (Eight bytes) text rest fits v = rw (v.1, fixed_again 8 bytes rest v.0) refl
value_again (Bytes bytes) text rest fits v =
    let counted = varint_again (length bytes) v.len (bytes ++ rest) (bytes_front v.len bytes (subst IsBytes v.parts fits)) v.counts in
    rw (v.parts, append_assoc v.len bytes rest, counted, fixed_again (length bytes) bytes rest refl) refl
value_again (Four bytes) text rest fits v = rw (v.1, fixed_again 4 bytes rest v.0) refl

-- ---- records

pub record TakesRecord (bytes : List ℕ) (r : Record) (rest : List ℕ) : Type 0 where
  pub text : List ℕ
  pub spelled : IsRecordText r text
  pub parts : bytes ≡ text ++ rest

pub record_takes : (bytes : List ℕ) (x : Record × List ℕ) → IsBytes bytes → record_by false bytes ≡ Ok x → TakesRecord bytes x.0 x.1
unfolding record_by
record_takes bytes x fits e =
    let a = bind_ok (varint_by false bytes) _ x e in
    let tag = a.0 in
    let g = guard_ok (eqb (tag.0 / 8) 0 || ltb 536870911 (tag.0 / 8)) BadNumber (value_by false (tag.0 % 8) tag.1 >>= λ y. Ok (record { number = tag.0 / 8; value = y.0 }, y.1)) x a.2 in
    let n = or_false _ _ g.0 in
    let least : 0 < tag.0 / 8 = eqb_pos (tag.0 / 8) n.0 in
    let most : tag.0 / 8 ≤ 536870911 = ltb-false _ _ n.1 in
    let b = bind_ok (value_by false (tag.0 % 8) tag.1) (λ y. Ok (record { number = tag.0 / 8; value = y.0 }, y.1)) x g.1 in
    let t = varint_takes bytes tag fits a.1 in
    let u = value_takes (tag.0 % 8) tag.1 b.0 t.rest_fits b.1 in
    let kind : tag.0 % 8 ≡ wire_type b.0.0 = u.tag in
    let sum : tag.0 ≡ tag.0 / 8 * 8 + wire_type b.0.0 = omega (arith, kind) in
    let parts : bytes ≡ (t.text ++ u.text) ++ b.0.1 = t.parts ∙ ap (λ (l : List ℕ). t.text ++ l) u.parts ∙ sym (append_assoc t.text u.text b.0.1) in
    subst (λ (y : Record × List ℕ). TakesRecord bytes y.0 y.1) (ok_is {E = WireError} _ x b.2) (record {
      text = t.text ++ u.text;
      spelled = record {
        number = (omega (arith, least), most);
        tag = t.text;
        payload = u.text;
        tagged = subst (λ (k : ℕ). IsVarint k t.text) sum t.spelled;
        spelled = u.spelled;
        parts = refl;
      };
      parts = parts;
    })

pub record_again : (r : Record) (text rest : List ℕ) → IsBytes text → IsRecordText r text → record_by false (text ++ rest) ≡ Ok (r, rest)
unfolding record_by
record_again r text rest fits s =
    let kind = wire_type_low r.value in
    let least = s.number.0 in
    let most = s.number.1 in
    let tag = r.number * 8 + wire_type r.value in
    let both : IsBytes (s.tag ++ s.payload) = subst IsBytes s.parts fits in
    let regrouped : text ++ rest ≡ s.tag ++ (s.payload ++ rest) = ap (λ (l : List ℕ). l ++ rest) s.parts ∙ append_assoc s.tag s.payload rest in
    let number : tag / 8 ≡ r.number = omega (arith, kind) in
    let low : tag % 8 ≡ wire_type r.value = omega (arith, kind) in
    let some = pos-eqb r.number (omega (arith, least)) in
    let few : ltb 536870911 r.number ≡ false = le-ltb _ _ most in
    ap (record_by false) regrouped ∙ rw (varint_again tag s.tag (s.payload ++ rest) (bytes_front s.tag s.payload both) s.tagged, number, low, some, few, value_again r.value s.payload rest (bytes_back s.tag s.payload both) s.spelled) refl
