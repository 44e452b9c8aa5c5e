-- A search in a list whose names ascend: what is put aside holds no element of the name.
use Rattle.std.proofs.Common.{◌≡◌, ◌≢◌, ℕ, zero, suc, ◌<◌, Bool, true, false, cond, List, [], ◌∷◌, ◌++◌, length, map, Option, Some, None, refl, sym, ap, subst, ◌∙◌, arith}
use Rattle.std.specs.Prelude.{find}
use Rattle.std.specs.List.{AllByRecursion, Contains}
use Rattle.std.specs.declared.cmp.Ordering.TheVariants.{Less, Equal, Greater}
use Rattle.std.specs.Cmp.Lexicographic.{nat_list_cmp_total}
use Rattle.std.proofs.lemmas.Map.Text.{is_eq-slice_cmp}
use Rattle.std.proofs.lemmas.Map.Lookups.{exact_bytes}
use Rattle.std.proofs.lemmas.Slice.Eq.{bytes_eq-Decides}
use Rattle.messages.specs.Node.{is_same}
use Rattle.messages.specs.Order.{bytes_cmp, IsAscending}
use Rattle.messages.proofs.Orders.{flipped, itself}

less_differs : (x y : List ℕ) → bytes_cmp x y ≡ Less → is_same x y ≡ false
less_differs x y e = sym (is_eq-slice_cmp x y) ∙ rw e refl

more_differs : (x y : List ℕ) → bytes_cmp x y ≡ Greater → is_same x y ≡ false
more_differs x y e = sym (is_eq-slice_cmp x y) ∙ rw e refl

same_name : (x y : List ℕ) → is_same x y ≡ true → x ≡ y
same_name x y e = (bytes_eq-Decides x y).0 e

equal_same : (x y : List ℕ) → bytes_cmp x y ≡ Equal → is_same x y ≡ true
equal_same x y e = sym (is_eq-slice_cmp x y) ∙ rw e refl

module _ {X : Type 0} (key : X → List ℕ) where
  abbrev pub names : List X → List (List ℕ)
  names xs = map key xs

  abbrev pub named : List ℕ → X → Bool
  named name x = is_same (key x) name

  -- what is said of each name is said of one behind others
  at_middle : (P : List ℕ → Type 0) (before : List X) (middle : X) (after : List X) → AllByRecursion P (names (before ++ middle ∷ after)) → P (key middle)
  at_middle P [] middle after all = all.0
  at_middle P (x ∷ before) middle after all = at_middle P before middle after all.1

  front : (P : List ℕ → Type 0) (before : List X) (middle : X) (after : List X) → AllByRecursion P (names (before ++ middle ∷ after)) → AllByRecursion P (names before)
  front P [] middle after all = tt
  front P (x ∷ before) middle after all = (all.0, front P before middle after all.1)

  pub ascends_before : (before : List X) (middle : X) (after : List X) → IsAscending (names (before ++ middle ∷ after)) → IsAscending (names before)
  ascends_before [] middle after up = tt
  ascends_before (x ∷ before) middle after up = (front (λ other. bytes_cmp (key x) other ≡ Less) before middle after up.0, ascends_before before middle after up.1)

  pub ascends_after : (before : List X) (middle : X) (after : List X) → IsAscending (names (before ++ middle ∷ after)) → IsAscending (names after)
  ascends_after [] middle after up = up.1
  ascends_after (x ∷ before) middle after up = ascends_after before middle after up.1

  -- a name before all of a list is none of them
  none_behind : (name : List ℕ) (xs : List X) → AllByRecursion (λ other. bytes_cmp name other ≡ Less) (names xs) → find (named name) xs ≡ None
  none_behind name [] all = refl
  none_behind name (x ∷ xs) all =
      let no_one = more_differs (key x) name (flipped name (key x) Less all.0) in
      rw no_one (none_behind name xs all.1)

  -- what comes before a name that comes before the name sought, or is it, isn't sought
  before_differs : (name : List ℕ) (x : X) (before : List X) (middle : X) (after : List X) → IsAscending (names ((x ∷ before) ++ middle ∷ after)) → (bytes_cmp (key middle) name ≡ Less → bytes_cmp (key x) name ≡ Less)
  before_differs name x before middle after up less = nat_list_cmp_total.trans (key x) (key middle) name (at_middle (λ other. bytes_cmp (key x) other ≡ Less) before middle after up.0) less

  all_behind : (name : List ℕ) (x : X) (xs : List X) → bytes_cmp name (key x) ≡ Less → IsAscending (names (x ∷ xs)) → AllByRecursion (λ other. bytes_cmp name other ≡ Less) (names xs)
  all_behind name x [] less up = tt
  all_behind name x (y ∷ xs) less up = (nat_list_cmp_total.trans name (key x) (key y) less up.0.0, all_behind name x xs less (up.0.1, up.1.1))

  pub search_less : (name : List ℕ) (before : List X) (middle : X) (after : List X) → IsAscending (names (before ++ middle ∷ after)) → bytes_cmp (key middle) name ≡ Less → find (named name) (before ++ middle ∷ after) ≡ find (named name) after
  search_less name [] middle after up less = let no_one = less_differs (key middle) name less in rw no_one refl
  search_less name (x ∷ before) middle after up less =
      let no_one = less_differs (key x) name (before_differs name x before middle after up less) in
      rw no_one (search_less name before middle after up.1 less)

  pub search_greater : (name : List ℕ) (before : List X) (middle : X) (after : List X) → IsAscending (names (before ++ middle ∷ after)) → bytes_cmp (key middle) name ≡ Greater → find (named name) (before ++ middle ∷ after) ≡ find (named name) before
  search_greater name [] middle after up more =
      let less = flipped (key middle) name Greater more in
      none_behind name (middle ∷ after) (less, all_behind name middle after less up)
  search_greater name (x ∷ before) middle after up more = ap (cond (is_same (key x) name) (Some x)) (search_greater name before middle after up.1 more)

  pub search_equal : (name : List ℕ) (before : List X) (middle : X) (after : List X) → IsAscending (names (before ++ middle ∷ after)) → bytes_cmp (key middle) name ≡ Equal → find (named name) (before ++ middle ∷ after) ≡ Some middle
  search_equal name [] middle after up same = let one = equal_same (key middle) name same in rw one refl
  search_equal name (x ∷ before) middle after up same =
      let less : bytes_cmp (key x) (key middle) ≡ Less = at_middle (λ other. bytes_cmp (key x) other ≡ Less) before middle after up.0 in
      let no_one = less_differs (key x) name (subst (λ n. bytes_cmp (key x) n ≡ Less) (exact_bytes (key middle) name same) less) in
      rw no_one (search_equal name before middle after up.1 same)

  halves : (rest before after : List X) (middle : X) (later : List X) → rest ≡ before ++ after → after ≡ middle ∷ later → rest ≡ before ++ middle ∷ later
  halves rest before after middle later e f = e ∙ ap (λ (l : List X). before ++ l) f

  -- ---- a step of the search

  pub searched_less : (name : List ℕ) (rest before after : List X) (middle : X) (later : List X) (total : Option X) → rest ≡ before ++ after → after ≡ middle ∷ later → IsAscending (names rest) → find (named name) rest ≡ total → bytes_cmp (key middle) name ≡ Less
      → IsAscending (names later) × (find (named name) later ≡ total)
  searched_less name rest before after middle later total e f up so_far less =
      let split = halves rest before after middle later e f in
      let rise : IsAscending (names (before ++ middle ∷ later)) = subst (λ (l : List X). IsAscending (names l)) split up in
      (ascends_after before middle later rise, sym (search_less name before middle later rise less) ∙ ap (find (named name)) (sym split) ∙ so_far)

  pub searched_greater : (name : List ℕ) (rest before after : List X) (middle : X) (later : List X) (total : Option X) → rest ≡ before ++ after → after ≡ middle ∷ later → IsAscending (names rest) → find (named name) rest ≡ total → bytes_cmp (key middle) name ≡ Greater
      → IsAscending (names before) × (find (named name) before ≡ total)
  searched_greater name rest before after middle later total e f up so_far more =
      let split = halves rest before after middle later e f in
      let rise : IsAscending (names (before ++ middle ∷ later)) = subst (λ (l : List X). IsAscending (names l)) split up in
      (ascends_before before middle later rise, sym (search_greater name before middle later rise more) ∙ ap (find (named name)) (sym split) ∙ so_far)

  pub searched_equal : (name : List ℕ) (rest before after : List X) (middle : X) (later : List X) (total : Option X) → rest ≡ before ++ after → after ≡ middle ∷ later → IsAscending (names rest) → find (named name) rest ≡ total → bytes_cmp (key middle) name ≡ Equal
      → Some middle ≡ total
  searched_equal name rest before after middle later total e f up so_far same =
      let split = halves rest before after middle later e f in
      let rise : IsAscending (names (before ++ middle ∷ later)) = subst (λ (l : List X). IsAscending (names l)) split up in
      sym (search_equal name before middle later rise same) ∙ ap (find (named name)) (sym split) ∙ so_far

  -- ---- what the list holds, and what is found

  pub of_contained : (P : List ℕ → Type 0) (xs : List X) (x : X) → AllByRecursion P (names xs) → Contains xs x → P (key x)
  of_contained P [] x all (k, lt, e) = absurd (omega arith)
  of_contained P (y ∷ xs) x all (zero, lt, e) = subst (λ z. P (key z)) e all.0
  of_contained P (y ∷ xs) x all (suc k, lt, e) = let less : k < length xs = omega arith in of_contained P xs x all.1 (k, less, e)

  found_at : (name : List ℕ) (y : X) (xs : List X) (x : X) (b : Bool) → is_same (key y) name ≡ b → cond b (Some y) (find (named name) xs) ≡ Some x → (find (named name) xs ≡ Some x → Contains xs x × (key x ≡ name)) → Contains (y ∷ xs) x × (key x ≡ name)
  found_at name y xs x true is e rest =
      let same : y ≡ x = cc in
      let first : 0 < length (y ∷ xs) = omega arith in
      ((0, first, same), ap key (sym same) ∙ same_name (key y) name is)
  found_at name y xs x false is e rest =
      let behind = rest e in
      let less : suc behind.0.0 < length (y ∷ xs) = let lt = behind.0.1 in omega arith in
      ((suc behind.0.0, less, behind.0.2), behind.1)

  pub found_there : (name : List ℕ) (xs : List X) (x : X) → find (named name) xs ≡ Some x → Contains xs x × (key x ≡ name)
  found_there name [] x e = absurd cc
  found_there name (y ∷ xs) x e = found_at name y xs x (is_same (key y) name) refl e (found_there name xs x)

  name_at : (name : List ℕ) (y : X) (xs : List X) (x : X) (b : Bool) → is_same (key y) name ≡ b → cond b (Some y) (find (named name) xs) ≡ Some x → (find (named name) xs ≡ Some x → Contains (names xs) name) → Contains (names (y ∷ xs)) name
  name_at name y xs x true is e rest =
      let first : 0 < length (names (y ∷ xs)) = omega arith in
      (0, first, same_name (key y) name is)
  name_at name y xs x false is e rest =
      let behind = rest e in
      let less : suc behind.0 < length (names (y ∷ xs)) = let lt = behind.1 in omega arith in
      (suc behind.0, less, behind.2)

  -- a name that is found is one of the list
  pub name_there : (name : List ℕ) (xs : List X) (x : X) → find (named name) xs ≡ Some x → Contains (names xs) name
  name_there name [] x e = absurd cc
  name_there name (y ∷ xs) x e = name_at name y xs x (is_same (key y) name) refl e (name_there name xs x)

  pub there_found : (name : List ℕ) (xs : List X) (x : X) → IsAscending (names xs) → Contains xs x → key x ≡ name → find (named name) xs ≡ Some x
  there_found name [] x up (k, lt, e) same = absurd (omega arith)
  there_found name (y ∷ xs) x up (zero, lt, e) same =
      let is = equal_same (key y) name (subst (λ n. bytes_cmp (key y) n ≡ Equal) (ap key e ∙ same) (itself (key y))) in
      rw is (ap Some e)
  there_found name (y ∷ xs) x up (suc k, lt, e) same =
      let less : k < length xs = omega arith in
      let before : bytes_cmp (key y) (key x) ≡ Less = of_contained (λ other. bytes_cmp (key y) other ≡ Less) xs x up.0 (k, less, e) in
      let isnt = less_differs (key y) name (subst (λ n. bytes_cmp (key y) n ≡ Less) same before) in
      rw isnt (there_found name xs x up.1 (k, less, e) same)

  none_at : (name : List ℕ) (y : X) (xs : List X) (b : Bool) → is_same (key y) name ≡ b → cond b (Some y) (find (named name) xs) ≡ None → (name ≢ key y) × (find (named name) xs ≡ None)
  none_at name y xs true is e = absurd cc
  none_at name y xs false is e = (λ same. let one = equal_same (key y) name (subst (λ n. bytes_cmp (key y) n ≡ Equal) (sym same) (itself (key y))) in cc, e)

  pub none_there : (name : List ℕ) (xs : List X) → find (named name) xs ≡ None → AllByRecursion (λ other. name ≢ other) (names xs)
  none_there name [] e = tt
  none_there name (y ∷ xs) e = let at = none_at name y xs (is_same (key y) name) refl e in (at.0, none_there name xs at.1)

  passed_by : (name : List ℕ) (y : X) (b : Bool) → is_same (key y) name ≡ b → name ≢ key y → b ≡ false
  passed_by name y true is differs = absurd (differs (sym (same_name (key y) name is)))
  passed_by name y false is differs = refl

  pub none_found : (name : List ℕ) (xs : List X) → AllByRecursion (λ other. name ≢ other) (names xs) → find (named name) xs ≡ None
  none_found name [] all = refl
  none_found name (y ∷ xs) all = let isnt = passed_by name y (is_same (key y) name) refl all.0 in rw isnt (none_found name xs all.1)
