-- Events answered one after another.
use Rattle.std.proofs.Common.{◌≡◌, ℕ, List, [], ◌∷◌, ◌++◌, refl, sym, ◌∙◌, ap, subst, append_assoc, Result, Ok, Err, OnErr, IfErr}
use Rattle.std.specs.Prelude.{IsErrAnd}
use Rattle.std.proofs.lemmas.List.{append-nil}
use Rattle.http_core.specs.Event.{EventValue}
use Rattle.cache_server.specs.Answering.{answered, answered_all}
use Rattle.cache_server.specs.Cache.{CacheValue}

-- the event, and the events one after another, are answered by the text
abbrev pub ServesOne : CacheValue → EventValue → List ℕ → CacheValue → Type 0
ServesOne old event text new = answered old event ≡ (text, new)

abbrev pub ServesAll : CacheValue → List EventValue → List ℕ → CacheValue → Type 0
ServesAll old events text new = answered_all old events ≡ (text, new)

pub text_is : (a b : List ℕ × CacheValue) → a ≡ b → a.0 ≡ b.0
text_is a b e = ap (λ (z : List ℕ × CacheValue). z.0) e

pub cache_is : (a b : List ℕ × CacheValue) → a ≡ b → a.1 ≡ b.1
cache_is a b e = ap (λ (z : List ℕ × CacheValue). z.1) e

pub serves_none : (old : CacheValue) → ServesAll old [] [] old
unfolding answered_all
serves_none old = refl

pub serves_join : (old between new : CacheValue) (done events : List EventValue) (text others : List ℕ)
    → ServesAll old done text between → ServesAll between events others new → ServesAll old (done ++ events) (text ++ others) new
unfolding answered_all
serves_join old between new [] events text others e s =
    ap (λ z. answered_all z events) (cache_is ([], old) (text, between) e) ∙ s ∙ ap (λ (z : List ℕ). (z ++ others, new)) (text_is ([], old) (text, between) e)
serves_join old between new (event ∷ done) events text others e s =
    let f : List ℕ × CacheValue = answered old event in
    let d : List ℕ × CacheValue = answered_all f.1 done in
    let last : d.1 ≡ between = cache_is (f.0 ++ d.0, d.1) (text, between) e in
    let told : f.0 ++ d.0 ≡ text = text_is (f.0 ++ d.0, d.1) (text, between) e in
    let rest : answered_all f.1 (done ++ events) ≡ (d.0 ++ others, new) = serves_join f.1 between new done events d.0 others (ap (λ (z : CacheValue). (d.0, z)) last) s in
    ap (λ (z : List ℕ × CacheValue). (f.0 ++ z.0, z.1)) rest ∙ ap (λ (z : List ℕ). (z, new)) (sym (append_assoc f.0 d.0 others) ∙ ap (λ z. z ++ others) told)

pub serves_one : (old new : CacheValue) (event : EventValue) (text : List ℕ) → ServesOne old event text new → ServesAll old (event ∷ []) text new
unfolding answered_all
serves_one old new event text s = ap (λ (z : List ℕ). (z, (answered old event).1)) (append-nil (answered old event).0) ∙ s

pub serves_more : (old between new : CacheValue) (done : List EventValue) (event : EventValue) (text others more : List ℕ)
    → ServesAll old done text between → more ≡ text ++ others → ServesOne between event others new → ServesAll old (done ++ event ∷ []) more new
serves_more old between new done event text others more s e t =
    subst (λ z. ServesAll old (done ++ event ∷ []) z new) (sym e) (serves_join old between new done (event ∷ []) text others s (serves_one between new event others t))

pub on_err : {T E P : Type 0} (r : Result T E) → P → OnErr r P
on_err (Ok x) p = tt
on_err (Err e) p = p

-- what is said of the error that a result has
pub err_and : {T E : Type 0} (P : E → Type 0) (r : Result T E) (d : E) → IsErrAnd r (λ e. e ≡ d) → P d → IfErr r P
err_and P (Ok x) d a p = tt
err_and P (Err e) d a p = subst P (sym a) p
