-- One more path among ascending paths that are apart.
use Rattle.std.proofs.Common.{◌≡◌, ◌≢◌, ℕ, zero, suc, ◌<◌, ◌≤◌, Bool, true, false, cond, eqb, ◌&&◌, ◌||◌, List, [], ◌∷◌, ◌++◌, length, map, take, drop, get_or, Some, None, Ok, Err, refl, sym, ap, subst, ◌∙◌, inl, inr, Less, Equal, Greater, append_assoc, arith}
use Rattle.std.specs.Prelude.{Contains, slice_get, nat_eq, option_map}
use Rattle.std.specs.declared.cmp.Ordering.{Ordering}
use Rattle.std.specs.List.{AllByRecursion, list_any, insert}
use Rattle.std.specs.Cmp.Lexicographic.{pointwise}
use Rattle.std.specs.Ordering.{nat_cmp, ordering_then}
use Rattle.std.proofs.lemmas.List.{take-append-drop, take-map, drop-map, map-append, length-map}
use Rattle.std.proofs.lemmas.Option.{slice_get-map, slice_get_read, slice_get_past}
use Rattle.std.proofs.lemmas.Map.Lookups.{exact_unsigned}
use Rattle.std.specs.Cmp.{nat_cmp_total}
use Rattle.std.proofs.lemmas.Cmp.{tied_itself}
use Rattle.std.proofs.lemmas.Bool.{eqb-true, eq-eqb}
use Rattle.messages.specs.Order.{bytes_cmp, has_name}
use Rattle.messages.specs.Path.{IsPath, LiesUnder, AreApart, IsApart, path_text, parts_of}
use Rattle.messages.proofs.Choices.{or_false}
use Rattle.messages.proofs.Orders.{flipped}
use Rattle.messages.proofs.Paths.{parts_of_path}
use Rattle.action_messages.specs.Ascending.{IsAscendingBy}
use Rattle.action_messages.specs.Overlaps.{IsPlace, is_under, lies_under_some, texts_of}
use Rattle.actions.specs.Parts.{HasRoom}
use Rattle.action_messages.proofs.Apart.{ArePaths, weaker, row_none, text_under, under_text, apart_of}
use Rattle.actions.proofs.Outcomes.{apart_back}
use Rattle.actions.proofs.PathLookups.{path_at, not_listed, row_same}
use Rattle.action_messages.proofs.Searches.{texts_in, AllCompare, is_under-split, is_under-seam}
use Rattle.actions.proofs.TreeLookups.{behind, all_at}

-- ---- a text that begins with another and a slash

eqb_turned : (a b : ℕ) → eqb a b ≡ eqb b a
eqb_turned a b = by (eqb a b) refl (eqb b a) refl
  where
    by : (s : Bool) → eqb a b ≡ s → (t : Bool) → eqb b a ≡ t → s ≡ t
    by true e true f = refl
    by false e false f = refl
    by true e false f = absurd (let t = eq-eqb b a (sym (eqb-true a b e)) in cc)
    by false e true f = absurd (let t = eq-eqb a b (sym (eqb-true b a f)) in cc)

and_true : (b : Bool) → (b && true) ≡ b
and_true true = refl
and_true false = refl

pub begins : (t text : List ℕ) → pointwise nat_eq (text ++ 47 ∷ []) (take (length (text ++ 47 ∷ [])) t) ≡ is_under t text
begins [] [] = refl
begins (b ∷ t) [] = and_true (eqb 47 b) ∙ eqb_turned 47 b
begins [] (a ∷ text) = refl
begins (b ∷ t) (a ∷ text) = ap (λ c. c && pointwise nat_eq (text ++ 47 ∷ []) (take (length (text ++ 47 ∷ [])) t)) (eqb_turned a b) ∙ ap (λ c. eqb b a && c) (begins t text)

-- ---- whether one of ascending texts goes on behind a text and a slash

any_at : (p : List ℕ → Bool) (ts : List (List ℕ)) (n : ℕ) (t : List ℕ) → slice_get ts n ≡ Some t → p t ≡ true → list_any p ts ≡ true
any_at p [] n t e h = absurd cc
any_at p (u ∷ ts) zero t e h = let same : u ≡ t = cc in let here : p u ≡ true = ap p same ∙ h in rw here refl
any_at p (u ∷ ts) (suc n) t e h = let rest = any_at p ts n t e h in rw rest (or_right (p u))
  where
    or_right : (b : Bool) → (b || true) ≡ true
    or_right true = refl
    or_right false = refl

pub held_below : (ts : List (List ℕ)) (text : List ℕ) (n : ℕ) → slice_get ts n ≡ Some (text ++ 47 ∷ []) → list_any (λ t. is_under t text) ts ≡ true
held_below ts text n e = any_at (λ t. is_under t text) ts n (text ++ 47 ∷ []) e (is_under-seam text [])

own_number : (a : ℕ) → nat_cmp a a ≡ Equal
own_number a = tied_itself nat_cmp_total a

-- a text that goes on behind another doesn't come before it
not_before : (text more : List ℕ) → bytes_cmp (text ++ more) text ≡ Less → ⊥
not_before [] [] e = cc
not_before [] (b ∷ more) e = cc
not_before (a ∷ text) more e = let own = own_number a in not_before text more (rw own at e)

tied : (o p q : Ordering) → ordering_then o p ≡ Greater → ordering_then o q ≡ Less → o ≡ Equal
tied Less p q e f = absurd cc
tied Equal p q e f = refl
tied Greater p q e f = absurd cc

-- what stands between a beginning and what begins with it, begins with it
between : (x front more : List ℕ) → bytes_cmp x front ≡ Greater → bytes_cmp x (front ++ more) ≡ Less → (rest : List ℕ) × (x ≡ front ++ rest)
between x [] more e f = (x, refl)
between [] (a ∷ front) more e f = absurd cc
between (c ∷ x) (a ∷ front) more e f =
    let same = tied (nat_cmp c a) (bytes_cmp x front) (bytes_cmp x (front ++ more)) e f in
    let further = between x front more (rw same at e) (rw same at f) in
    (further.0, λ i. exact_unsigned c a same i ∷ further.1 i)

slash : (text more : List ℕ) → text ++ 47 ∷ more ≡ (text ++ 47 ∷ []) ++ more
slash text more = sym (append_assoc text (47 ∷ []) more)

abbrev Under : List ℕ → List ℕ → Bool
Under text t = is_under t text

none_before : (text : List ℕ) (ts : List (List ℕ)) → AllCompare Less (text ++ 47 ∷ []) ts → list_any (Under text) ts ≡ false
none_before text [] h = refl
none_before text (t ∷ ts) h = by (is_under t text) refl (none_before text ts h.1)
  where
    by : (b : Bool) → is_under t text ≡ b → list_any (Under text) ts ≡ false → (b || list_any (Under text) ts) ≡ false
    by true e rest =
        let w = is_under-split t text e in
        absurd (not_before (text ++ 47 ∷ []) w.0 (subst (λ u. bytes_cmp u (text ++ 47 ∷ []) ≡ Less) (w.1 ∙ slash text w.0) h.0))
    by false e rest = rest

none_later : (text x : List ℕ) (ts : List (List ℕ)) → bytes_cmp x (text ++ 47 ∷ []) ≡ Greater → is_under x text ≡ false → AllByRecursion (λ t. bytes_cmp x t ≡ Less) ts → list_any (Under text) ts ≡ false
none_later text x [] more other h = refl
none_later text x (t ∷ ts) more other h = by (is_under t text) refl (none_later text x ts more other h.1)
  where
    by : (b : Bool) → is_under t text ≡ b → list_any (Under text) ts ≡ false → (b || list_any (Under text) ts) ≡ false
    by true e rest =
        let w = is_under-split t text e in
        let b = between x (text ++ 47 ∷ []) w.0 more (subst (λ u. bytes_cmp x u ≡ Less) (w.1 ∙ slash text w.0) h.0) in
        let is : is_under x text ≡ true = subst (λ u. is_under u text ≡ true) (sym (b.1 ∙ sym (slash text b.0))) (is_under-seam text b.0) in
        absurd (cc (sym is ∙ other))
    by false e rest = rest

any_append : (p : List ℕ → Bool) (xs ys : List (List ℕ)) → list_any p xs ≡ false → list_any p (xs ++ ys) ≡ list_any p ys
any_append p [] ys e = refl
any_append p (x ∷ xs) ys e = let o = or_false (p x) (list_any p xs) e in let first = o.0 in rw first (any_append p xs ys o.1)

dropped : (n : ℕ) (ts : List (List ℕ)) → IsAscendingBy bytes_cmp ts → IsAscendingBy bytes_cmp (drop n ts)
dropped zero [] up = tt
dropped (suc n) [] up = tt
dropped zero (t ∷ ts) up = up
dropped (suc n) (t ∷ ts) up = dropped n ts up.1

front_of : (n : ℕ) (ts : List (List ℕ)) (t : List ℕ) → slice_get ts n ≡ Some t → drop n ts ≡ t ∷ drop (suc n) ts
front_of n [] t e = absurd cc
front_of zero (u ∷ ts) t e = let same : u ≡ t = cc in ap (λ v. v ∷ ts) same
front_of (suc n) (u ∷ ts) t e = front_of n ts t e

none_left : (n : ℕ) (ts : List (List ℕ)) → slice_get ts n ≡ None → drop n ts ≡ []
none_left zero [] e = refl
none_left (suc n) [] e = refl
none_left zero (u ∷ ts) e = absurd cc
none_left (suc n) (u ∷ ts) e = none_left n ts e

whole : (ts : List (List ℕ)) (text : List ℕ) (n : ℕ) → IsPlace ts (text ++ 47 ∷ []) (Err n) → list_any (Under text) ts ≡ list_any (Under text) (drop n ts)
whole ts text n h = ap (list_any (Under text)) (sym (take-append-drop n ts)) ∙ any_append (Under text) (take n ts) (drop n ts) (none_before text (take n ts) h.1)

pub first_below : (ts : List (List ℕ)) (text t : List ℕ) (n : ℕ) → IsAscendingBy bytes_cmp ts → IsPlace ts (text ++ 47 ∷ []) (Err n) → slice_get ts n ≡ Some t → is_under t text ≡ list_any (Under text) ts
first_below ts text t n up h e =
    let split = front_of n ts t e in
    let rise = subst (IsAscendingBy bytes_cmp) split (dropped n ts up) in
    let after = subst (AllCompare Greater (text ++ 47 ∷ [])) split h.2 in
    by (is_under t text) refl rise.0 after.0 ∙ ap (list_any (Under text)) (sym split) ∙ sym (whole ts text n h)
  where
    by : (b : Bool) → is_under t text ≡ b → AllByRecursion (λ u. bytes_cmp t u ≡ Less) (drop (suc n) ts) → bytes_cmp t (text ++ 47 ∷ []) ≡ Greater → is_under t text ≡ list_any (Under text) (t ∷ drop (suc n) ts)
    by true is rise more = rw is refl
    by false is rise more = rw is (sym (none_later text t (drop (suc n) ts) more is rise))

pub nothing_below : (ts : List (List ℕ)) (text : List ℕ) (n : ℕ) → IsPlace ts (text ++ 47 ∷ []) (Err n) → slice_get ts n ≡ None → false ≡ list_any (Under text) ts
nothing_below ts text n h e = sym (whole ts text n h ∙ ap (list_any (Under text)) (none_left n ts e))

-- ---- the text at a place, as `get` answers it

module _ {X : Type 0} (f : X → List (List ℕ)) (xs : List X) (n : ℕ) where
  texts_at : slice_get (texts_in f xs) n ≡ option_map path_text (option_map f (slice_get xs n))
  texts_at = slice_get-map path_text (map f xs) n ∙ ap (option_map path_text) (slice_get-map f xs n)

  pub got_text : (x : X) → n < length xs → x ≡ get_or xs n x → slice_get (texts_in f xs) n ≡ Some (path_text (f x))
  got_text x lt is = texts_at ∙ ap (λ o. option_map path_text (option_map f o)) (slice_get_read xs (length xs) n x refl lt is)

  pub got_none : length xs ≤ n → slice_get (texts_in f xs) n ≡ None
  got_none le = texts_at ∙ ap (λ o. option_map path_text (option_map f o)) (slice_get_past xs n le)

-- ---- where another path fits among paths

all_between : {X : Type 0} (P : X → Type 0) (front back : List X) (x : X) → AllByRecursion P (front ++ back) → P x → AllByRecursion P (front ++ x ∷ back)
all_between P [] back x h p = (p, h)
all_between P (y ∷ front) back x h p = (h.0, all_between P front back x h.1 p)

inserted_ascends : (t : List ℕ) (front back : List (List ℕ)) → IsAscendingBy bytes_cmp (front ++ back) → AllCompare Less t front → AllCompare Greater t back → IsAscendingBy bytes_cmp (front ++ t ∷ back)
inserted_ascends t [] back up before after = (weaker (λ u. bytes_cmp u t ≡ Greater) (λ u. bytes_cmp t u ≡ Less) (λ u e. flipped u t Greater e) back after, up)
inserted_ascends t (s ∷ front) back up before after =
    (all_between (λ u. bytes_cmp s u ≡ Less) front back t up.0 before.0, inserted_ascends t front back up.1 before.1 after)

pub inserted_apart : (p : List (List ℕ)) (front back : List (List (List ℕ))) → AreApart (front ++ back) → AllByRecursion (IsApart p) (front ++ back) → AreApart (front ++ p ∷ back)
inserted_apart p [] back apart all = (all, apart)
inserted_apart p (q ∷ front) back apart all = (all_between (IsApart q) front back p apart.0 (apart_back p q all.0), inserted_apart p front back apart.1 all.1)

inserted_texts : (p : List (List ℕ)) (n : ℕ) (paths : List (List (List ℕ))) → texts_of (insert paths n p) ≡ take n (texts_of paths) ++ path_text p ∷ drop n (texts_of paths)
inserted_texts p n paths =
    map-append path_text (take n paths) (p ∷ drop n paths) ∙ ap (λ l. l ++ path_text p ∷ texts_of (drop n paths)) (sym (take-map path_text n paths)) ∙ ap (λ l. take n (texts_of paths) ++ path_text p ∷ l) (sym (drop-map path_text n paths))

-- ---- what the test of room answers

-- an element with a number is in the list
pub holds_at : {X : Type 0} (xs : List X) (i : ℕ) (x : X) → slice_get xs i ≡ Some x → Contains xs x
holds_at [] i x e = absurd cc
holds_at (y ∷ xs) zero x e = let same : y ≡ x = cc in (0, omega arith, same)
holds_at (y ∷ xs) (suc i) x e = behind y xs x (holds_at xs i x e)

witness : (test : List ℕ → Bool) (paths : List (List (List ℕ))) → list_any test (texts_of paths) ≡ true → (other : List (List ℕ)) × Contains paths other × (test (path_text other) ≡ true)
witness test [] h = absurd cc
witness test (p ∷ paths) h = by (test (path_text p)) refl h (witness test paths)
  where
    by : (b : Bool) → test (path_text p) ≡ b → (b || list_any test (texts_of paths)) ≡ true → (list_any test (texts_of paths) ≡ true → (other : List (List ℕ)) × Contains paths other × (test (path_text other) ≡ true)) → (other : List (List ℕ)) × Contains (p ∷ paths) other × (test (path_text other) ≡ true)
    by true is k more = (p, (0, omega arith, refl), is)
    by false is k more = let w = more k in (w.0, behind p paths w.0 w.1, w.2)

none_above : (path : List (List ℕ)) (paths : List (List (List ℕ))) → IsPath path → list_any (λ t. is_under t (path_text path)) (texts_of paths) ≡ false → AllByRecursion (λ other. LiesUnder other path → ⊥) paths
none_above path [] is h = tt
none_above path (other ∷ paths) is h =
    let o = or_false (is_under (path_text other) (path_text path)) (list_any (λ t. is_under t (path_text path)) (texts_of paths)) h in
    ((λ u. let yes = under_text other path is u in let no_one = o.0 in cc), none_above path paths is o.1)

apart_all : (path : List (List ℕ)) (paths : List (List (List ℕ))) → AllByRecursion (λ other. path ≢ other) paths → AllByRecursion (λ other. LiesUnder path other → ⊥) paths → AllByRecursion (λ other. LiesUnder other path → ⊥) paths → AllByRecursion (IsApart path) paths
apart_all path [] differ over under = tt
apart_all path (other ∷ paths) differ over under = (apart_of path other differ.0 over.0 under.0, apart_all path paths differ.1 over.1 under.1)

module _ (paths : List (List (List ℕ))) (path : List (List ℕ)) (text : List ℕ) (all : ArePaths paths) (is : IsPath path) (value : text ≡ path_text path) where
  pub no_room : (n : ℕ) → IsPlace (texts_of paths) text (Ok n) → HasRoom paths path None
  no_room n h =
      let at = (path_at paths n text all h).0 in
      let same : parts_of text ≡ path = ap parts_of value ∙ parts_of_path path is in
      (path, holds_at paths n path (at ∙ ap Some same), inl refl)

  pub room : (n : ℕ) (over below : Bool) → IsAscendingBy bytes_cmp (texts_of paths) → AreApart paths → IsPlace (texts_of paths) text (Err n) → over ≡ lies_under_some (texts_of paths) text → below ≡ list_any (λ t. is_under t text) (texts_of paths) → HasRoom paths path (cond (over || below) None (Some n))
  room n true below up apart place o b =
      let w = witness (λ t. is_under text t) paths (sym o) in
      let lies : LiesUnder path w.0 = text_under path w.0 is (all_at IsPath paths w.0 all w.1) (subst (λ t. is_under t (path_text w.0) ≡ true) value w.2) in
      (w.0, w.1, inr (inr lies))
  room n false true up apart place o b =
      let w = witness (λ t. is_under t text) paths (sym b) in
      let lies : LiesUnder w.0 path = text_under w.0 path (all_at IsPath paths w.0 all w.1) is (subst (λ t. is_under (path_text w.0) t ≡ true) value w.2) in
      (w.0, w.1, inr (inl lies))
  room n false false up apart place o b =
      let whole_list = take-append-drop n paths in
      let differ = row_same path paths (subst (λ t. has_name (texts_of paths) t ≡ false) value (not_listed (texts_of paths) text n place)) in
      let over = row_none path paths all (subst (λ t. lies_under_some (texts_of paths) t ≡ false) value (sym o)) in
      let under = none_above path paths is (subst (λ t. list_any (λ u. is_under u t) (texts_of paths) ≡ false) value (sym b)) in
      let free = apart_all path paths differ over under in
      let ascends = inserted_ascends (path_text path) (take n (texts_of paths)) (drop n (texts_of paths)) (subst (IsAscendingBy bytes_cmp) (sym (take-append-drop n (texts_of paths))) up) (subst (λ t. AllCompare Less t (take n (texts_of paths))) value place.1) (subst (λ t. AllCompare Greater t (drop n (texts_of paths))) value place.2) in (
        omega (arith, place.0, length-map paths path_text),
        all_between IsPath (take n paths) (drop n paths) path (subst ArePaths (sym whole_list) all) is,
        subst (IsAscendingBy bytes_cmp) (sym (inserted_texts path n paths)) ascends,
        inserted_apart path (take n paths) (drop n paths) (subst AreApart (sym whole_list) apart) (subst (AllByRecursion (IsApart path)) (sym whole_list) free),
      )
