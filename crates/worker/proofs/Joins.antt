-- What is so of calls and of those that follow them is so of both together.
use Rattle.std.proofs.Common.{◌≡◌, ℕ, ◌+◌, List, [], ◌∷◌, ◌++◌, map, length, length-append, refl, ap, sym, ◌∙◌, subst, arith, inl, inr}
use Rattle.std.specs.Prelude.{◌⊎◌, Contains}
use Rattle.std.proofs.lemmas.List.Elements.{Contains-append_left, Contains-append_right, Contains-append_cases, filter_map-append}
use Rattle.std.proofs.lemmas.List.Sums.{sum_by-append}
use Rattle.blob_digest.specs.Digest.{DigestValue}
use Rattle.actions.specs.Outcome.{OutcomeValue}
use Rattle.worker.specs.Values.{StartValue}
use Rattle.worker.specs.Calls.{Call, started, launched, ran, taken, lost, CameTo, came_in, came_of, HasChild, child_in, children_of, IsPartOf}
use Rattle.worker.specs.Watching.{FinishInOrder, IsFirstJob, taken_count, turns_in, without_number, jobs_after}

heads : {c b : Call} {cs bs : List Call} → ◌≡◌ {A = List Call} (c ∷ cs) (b ∷ bs) → (c ≡ b) × (cs ≡ bs)
heads is = (cc, cc)

-- ---- what children came to, and results that are put

none_of : {X : Type 0} (ys : List X) → IsPartOf [] ys
none_of [] = refl
none_of (y ∷ ys) = inl (none_of ys)

parts_join : {X : Type 0} (ys more : List X) (xs zs : List X) → IsPartOf xs ys → IsPartOf zs more → IsPartOf (xs ++ zs) (ys ++ more)
parts_join [] more xs zs h k = rw h k
parts_join (y ∷ ys) more xs zs (inl h) k = inl (parts_join ys more xs zs h k)
parts_join (y ∷ ys) more xs zs (inr (rest, is, h)) k = inr (rest ++ zs, ap (λ l. l ++ zs) is, parts_join ys more rest zs h k)

pub came_more : (d : DigestValue) (v : OutcomeValue) (cs more : List Call) → CameTo cs d v → CameTo (cs ++ more) d v
came_more d v cs more (id, at) = (id, Contains-append_left cs more (ran id d v) at)

pub came_behind : (d : DigestValue) (v : OutcomeValue) (cs more : List Call) → CameTo more d v → CameTo (cs ++ more) d v
came_behind d v cs more (id, at) = (id, Contains-append_right cs more (ran id d v) at)

pub came_none : (d : DigestValue) (v : OutcomeValue) → CameTo [] d v → ⊥
came_none d v (id, (k, lt, is)) = omega (arith, lt)

pub came_join : (cs more : List Call) → came_of (cs ++ more) ≡ came_of cs ++ came_of more
came_join cs more = filter_map-append came_in cs more

pub put_for_none : (cs : List Call) → IsPartOf [] (came_of cs)
put_for_none cs = none_of (came_of cs)

pub put_for_both : (cs more : List Call) (ds es : List DigestValue) → IsPartOf ds (came_of cs) → IsPartOf es (came_of more) → IsPartOf (ds ++ es) (came_of (cs ++ more))
put_for_both cs more ds es h k = subst (IsPartOf (ds ++ es)) (sym (came_join cs more)) (parts_join (came_of cs) (came_of more) ds es h k)

-- ---- children that are started

pub children_join : (cs more : List Call) → children_of (cs ++ more) ≡ children_of cs ++ children_of more
children_join cs more = filter_map-append child_in cs more

pub child_either : (cs more : List Call) (d : DigestValue) (x : StartValue) → HasChild (cs ++ more) d x → HasChild cs d x ⊎ HasChild more d x
child_either cs more d x (id, at) = by (Contains-append_cases cs more (launched id d x) at)
  where
    by : Contains cs (launched id d x) ⊎ Contains more (launched id d x) → HasChild cs d x ⊎ HasChild more d x
    by (inl here) = inl (id, here)
    by (inr later) = inr (id, later)

-- ---- what is counted

pub taken_join : (cs more : List Call) → taken_count (cs ++ more) ≡ taken_count cs + taken_count more
taken_join cs more = sum_by-append _ cs more

pub turns_join : (cs more : List Call) → turns_in (cs ++ more) ≡ turns_in cs + turns_in more
turns_join cs more = sum_by-append _ cs more

pub jobs_join : (js : List (ℕ × ℕ)) (cs more : List Call) → jobs_after js (cs ++ more) ≡ jobs_after (jobs_after js cs) more
jobs_join js [] more = refl
jobs_join js (started i id ∷ cs) more = jobs_join (js ++ (id, i) ∷ []) cs more
jobs_join js (launched id d x ∷ cs) more = jobs_join js cs more
jobs_join js (ran id d v ∷ cs) more = jobs_join (without_number id js) cs more
jobs_join js (taken id d v ∷ cs) more = jobs_join (without_number id js) cs more
jobs_join js (lost id ∷ cs) more = jobs_join (without_number id js) cs more

-- one call, and those behind it
pub finish_first : (js : List (ℕ × ℕ)) (c : Call) (cs : List Call) → ((id : ℕ) (d : DigestValue) (v : OutcomeValue) → c ≡ ran id d v → IsFirstJob id js) → FinishInOrder (jobs_after js (c ∷ [])) cs → FinishInOrder js (c ∷ cs)
finish_first js c cs one rest [] after id d v is = one id d v (heads is).0
finish_first js c cs one rest (b ∷ before) after id d v is =
    subst (IsFirstJob id) (ap (λ x. jobs_after (jobs_after js (x ∷ [])) before) (heads is).0 ∙ sym (jobs_join js (b ∷ []) before)) (rest before after id d v (heads is).1)

pub finish_none : (js : List (ℕ × ℕ)) → FinishInOrder js []
finish_none js before after id d v is = absurd (let len = ap length is in let both = length-append before (ran id d v ∷ after) in omega (arith, len, both))

pub finish_one : (js : List (ℕ × ℕ)) (c : Call) → ((id : ℕ) (d : DigestValue) (v : OutcomeValue) → c ≡ ran id d v → IsFirstJob id js) → FinishInOrder js (c ∷ [])
finish_one js c one = finish_first js c [] one (finish_none (jobs_after js (c ∷ [])))

pub finish_join : (js : List (ℕ × ℕ)) (cs more : List Call) → FinishInOrder js cs → FinishInOrder (jobs_after js cs) more → FinishInOrder js (cs ++ more)
finish_join js [] more h k = k
finish_join js (c ∷ cs) more h k = finish_first js c (cs ++ more) (λ id d v is. h [] cs id d v (ap (λ x. x ∷ cs) is))
    (finish_join (jobs_after js (c ∷ [])) cs more
    (λ before after id d v is. subst (IsFirstJob id) (jobs_join js (c ∷ []) before) (h (c ∷ before) after id d v (ap (λ xs. c ∷ xs) is)))
    (subst (λ ks. FinishInOrder ks more) (jobs_join js (c ∷ []) cs) k))

pub lost_in_order : (js : List (ℕ × ℕ)) (ids : List ℕ) → FinishInOrder js (map lost ids)
lost_in_order js [] = finish_none js
lost_in_order js (id ∷ ids) = finish_first js (lost id) (map lost ids) (λ w d v is. absurd cc) (lost_in_order (without_number id js) ids)
