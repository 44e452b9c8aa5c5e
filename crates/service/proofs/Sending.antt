-- What of an answer is sent.
use Rattle.std.proofs.Common.{◌≡◌, ℕ, ◌+◌, ◌-◌, ◌<◌, ◌≤◌, List, [], ◌++◌, Some, take, drop, length, refl, sym, ◌∙◌, ap, append_assoc, arith, length-take}
use Rattle.std.proofs.lemmas.List.{length-append, length-drop, take-append-drop, take-append-le, drop-drop, drop_at, drop-append-le, take-take}
use Rattle.cache_server.specs.Answer.{AnswerValue}
use Rattle.service.specs.Member.{unsent_of}

pub drop_past : (s : ℕ) (head body : List ℕ) → length head ≤ s → drop s (head ++ body) ≡ drop (s - length head) body
drop_past s head body h =
    ap (λ (z : ℕ). drop z (head ++ body)) (let e : s ≡ length head + (s - length head) = omega arith in e)
    ∙ sym (drop-drop (s - length head) (length head) (head ++ body)) ∙ ap (drop (s - length head)) (drop_at head body (length head) refl)

-- a front of what isn't sent of the body
pub body_front : (count most s : ℕ) (head body : List ℕ) → length head ≤ s → count ≤ length (take most (drop (s - length head) body))
    → take count (take most (drop (s - length head) body)) ≡ take count (drop s (head ++ body))
body_front count most s head body h c =
    let few : count ≤ most = omega (arith, length-take most (drop (s - length head) body)) in
    take-take count most (drop (s - length head) body) few ∙ ap (take count) (sym (drop_past s head body h))

-- the rest of the head, and a front of the body
pub head_front : (count most s : ℕ) (head body : List ℕ) → s ≤ length head → count ≤ length (drop s head ++ take most body)
    → take count (drop s head ++ take most body) ≡ take count (drop s (head ++ body))
head_front count most s head body h c =
    sym (take-append-le count (drop s head ++ take most body) (drop most body) c)
    ∙ ap (take count) (append_assoc (drop s head) (take most body) (drop most body) ∙ ap (λ (z : List ℕ). drop s head ++ z) (take-append-drop most body) ∙ sym (drop-append-le s head body h))

pub whole_sent : (a : AnswerValue) (s : ℕ) → unsent_of (Some a) s ≡ [] → (length a.head ≤ s) × (length a.body ≤ s - length a.head)
whole_sent a s e =
    let n : length (drop s (a.head ++ a.body)) ≡ length (a.head ++ a.body) - s = length-drop s (a.head ++ a.body) in
    let m : length (a.head ++ a.body) ≡ length a.head + length a.body = length-append a.head a.body in
    let z : length (drop s (a.head ++ a.body)) ≡ 0 = ap length e in
    (omega (arith, n, m, z), omega (arith, n, m, z))

-- so many more bytes don't lead past its end
pub sent_within : (a : AnswerValue) (s count : ℕ) → 0 < count → count ≤ length (unsent_of (Some a) s) → s + count ≤ length a.head + length a.body
sent_within a s count some within =
    let n : length (drop s (a.head ++ a.body)) ≡ length (a.head ++ a.body) - s = length-drop s (a.head ++ a.body) in
    let m : length (a.head ++ a.body) ≡ length a.head + length a.body = length-append a.head a.body in
    omega (arith, n, m, some, within)

-- no more than what isn't sent
pub taken_within : (count : ℕ) (bytes more : List ℕ) → count ≤ length bytes → take count bytes ≡ take count more → count ≤ length more
taken_within count bytes more c e =
    let n = ap length e in
    omega (arith, c, n, length-take count bytes, length-take count more)
