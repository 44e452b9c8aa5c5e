-- Names in order, and names that two lists share.
use Rattle.std.proofs.Common.{◌≡◌, ◌≢◌, ℕ, ◌+◌, ◌<◌, Bool, true, false, ◌||◌, List, [], ◌∷◌, length, drop, get_or, map, Some, None, Ok, refl, sym, ap, subst, ◌∙◌}
use Rattle.std.specs.Ordering.{ordering_reverse}
use Rattle.std.specs.declared.cmp.Ordering.{Ordering}
use Rattle.std.specs.declared.cmp.Ordering.TheVariants.{Less, Equal, Greater}
use Rattle.std.specs.Cmp.{IsTotalOrder}
use Rattle.std.specs.Cmp.Lexicographic.{nat_list_cmp_total}
use Rattle.std.proofs.lemmas.List.{drop_more}
use Rattle.std.proofs.lemmas.Map.Lookups.{exact_bytes}
use Rattle.std.specs.List.{AllByRecursion}
use Rattle.wire.proofs.Steps.{bind_ok}
use Rattle.messages.specs.Order.{bytes_cmp, IsAscending, ShareNone, pair_ordered, ordered_behind, is_equal, has_name, share_name}
use Rattle.messages.proofs.Choices.{or_false, or_neither}

total : IsTotalOrder bytes_cmp
total = nat_list_cmp_total

pub flipped : (x y : List ℕ) (o : Ordering) → bytes_cmp x y ≡ o → bytes_cmp y x ≡ ordering_reverse o
flipped x y o e = total.antisymm y x ∙ ap ordering_reverse e

pub itself : (x : List ℕ) → bytes_cmp x x ≡ Equal
itself x = own (bytes_cmp x x) (total.antisymm x x) where
  own : (o : Ordering) → o ≡ ordering_reverse o → o ≡ Equal
  own Less e = absurd cc
  own Equal e = refl
  own Greater e = absurd cc

pub pair_less : (o : Ordering) → pair_ordered o ≡ Ok tt → o ≡ Less
pair_less Less e = refl
pair_less Equal e = absurd cc
pair_less Greater e = absurd cc

-- what comes behind a later name comes behind an earlier one
all_behind : (a b : List ℕ) (names : List (List ℕ)) → bytes_cmp a b ≡ Less → AllByRecursion (λ x. bytes_cmp b x ≡ Less) names → AllByRecursion (λ x. bytes_cmp a x ≡ Less) names
all_behind a b [] h all = tt
all_behind a b (x ∷ names) h all = (total.trans a b x h all.0, all_behind a b names h all.1)

-- ---- the walk over neighbours is the order of all

pub behind_ascends : (before : List ℕ) (names : List (List ℕ)) → ordered_behind (Some before) names ≡ Ok tt → AllByRecursion (λ x. bytes_cmp before x ≡ Less) names × IsAscending names
behind_ascends before [] e = (tt, tt)
behind_ascends before (name ∷ names) e =
    let b = bind_ok (pair_ordered (bytes_cmp before name)) (λ _. ordered_behind (Some name) names) tt e in
    let less = pair_less (bytes_cmp before name) b.1 in
    let rest = behind_ascends name names b.2 in
    ((less, all_behind before name names less rest.0), rest)

pub ascends_behind : (before : List ℕ) (names : List (List ℕ)) → AllByRecursion (λ x. bytes_cmp before x ≡ Less) names → IsAscending names → ordered_behind (Some before) names ≡ Ok tt
ascends_behind before [] all h = refl
ascends_behind before (name ∷ names) all h =
    let less : bytes_cmp before name ≡ Less = all.0 in
    rw less (ascends_behind name names h.0 h.1)

pub ascending : (names : List (List ℕ)) → ordered_behind None names ≡ Ok tt → IsAscending names
ascending [] e = tt
ascending (name ∷ names) e = behind_ascends name names e

pub ordered_behind-from : (names : List (List ℕ)) → IsAscending names → ordered_behind None names ≡ Ok tt
ordered_behind-from [] h = refl
ordered_behind-from (name ∷ names) h = ascends_behind name names h.0 h.1

-- ---- names that two lists share

equal_is : (o : Ordering) → is_equal o ≡ false → o ≢ Equal
equal_is Less e = λ h. cc
equal_is Equal e = λ h. cc
equal_is Greater e = λ h. cc

not_equal : (x y : List ℕ) (o : Ordering) → bytes_cmp x y ≡ o → y ≢ x → is_equal o ≡ false
not_equal x y Less e h = refl
not_equal x y Equal e h = absurd (h (sym (exact_bytes x y e)))
not_equal x y Greater e h = refl

pub has_none : (names : List (List ℕ)) (name : List ℕ) → has_name names name ≡ false → AllByRecursion (λ other. name ≢ other) names
has_none [] name e = tt
has_none (first ∷ names) name e =
    let o = or_false (is_equal (bytes_cmp first name)) (has_name names name) e in
    (λ same. equal_is (bytes_cmp first name) o.0 (subst (λ x. bytes_cmp first x ≡ Equal) (sym same) (itself first)), has_none names name o.1)

pub none_has : (names : List (List ℕ)) (name : List ℕ) → AllByRecursion (λ other. name ≢ other) names → has_name names name ≡ false
none_has [] name h = refl
none_has (first ∷ names) name h = or_neither (is_equal (bytes_cmp first name)) (has_name names name) (not_equal first name (bytes_cmp first name) refl h.0) (none_has names name h.1)

pub ShareNone-from : (names others : List (List ℕ)) → share_name names others ≡ false → ShareNone names others
ShareNone-from [] others e = tt
ShareNone-from (name ∷ names) others e =
    let o = or_false (has_name others name) (share_name names others) e in
    (has_none others name o.0, ShareNone-from names others o.1)

pub share_name-from : (names others : List (List ℕ)) → ShareNone names others → share_name names others ≡ false
share_name-from [] others h = refl
share_name-from (name ∷ names) others h = or_neither (has_name others name) (share_name names others) (none_has others name h.0) (share_name-from names others h.1)

-- ---- one walk over two ascending lists

-- a name before all of a list isn't in it
has_not : (name : List ℕ) (others : List (List ℕ)) → AllByRecursion (λ x. bytes_cmp name x ≡ Less) others → has_name others name ≡ false
has_not name [] all = refl
has_not name (x ∷ others) all = let more = flipped name x Less all.0 in rw more (has_not name others all.1)

-- the first of the names comes before all others
pub share-less : (name other : List ℕ) (names others : List (List ℕ)) → IsAscending (other ∷ others) → bytes_cmp name other ≡ Less → share_name (name ∷ names) (other ∷ others) ≡ share_name names (other ∷ others)
share-less name other names others h less = let no_one = has_not name (other ∷ others) (less, all_behind name other others less h.0) in rw no_one refl

-- a name before all of a list is none that they share
share_without : (other : List ℕ) (names others : List (List ℕ)) → AllByRecursion (λ x. bytes_cmp other x ≡ Less) names → share_name names (other ∷ others) ≡ share_name names others
share_without other [] others all = refl
share_without other (name ∷ names) others all =
    let less : bytes_cmp other name ≡ Less = all.0 in
    rw less (ap (λ b. has_name others name || b) (share_without other names others all.1))

pub share-greater : (name other : List ℕ) (names others : List (List ℕ)) → IsAscending (name ∷ names) → bytes_cmp name other ≡ Greater → share_name (name ∷ names) (other ∷ others) ≡ share_name (name ∷ names) others
share-greater name other names others h more =
    let less = flipped name other Greater more in
    share_without other (name ∷ names) others (less, all_behind other name names less h.0)

pub share-equal : (name other : List ℕ) (names others : List (List ℕ)) → bytes_cmp name other ≡ Equal → share_name (name ∷ names) (other ∷ others) ≡ true
share-equal name other names others same = let again = flipped name other Equal same in rw again refl

pub share-none : (names : List (List ℕ)) → share_name names [] ≡ false
share-none [] = refl
share-none (name ∷ names) = share-none names

-- where a walk has come to n in one list and to m in the other
module _ {N M : Type 0} (f : N → List ℕ) (h : M → List ℕ) (ns : List N) (os : List M) (i j : ℕ) (n : N) (m : M) (some : i < length ns) (some_other : j < length os) (is : n ≡ get_or ns i n) (other_is : m ≡ get_or os j m) where
  names : map f (drop i ns) ≡ f n ∷ map f (drop (i + 1) ns)
  names = ap (map f) (drop_more ns i n some ∙ ap (λ x. x ∷ drop (i + 1) ns) (sym is))

  others : map h (drop j os) ≡ h m ∷ map h (drop (j + 1) os)
  others = ap (map h) (drop_more os j m some_other ∙ ap (λ x. x ∷ drop (j + 1) os) (sym other_is))

  so_far : (t : Bool) → share_name (map f (drop i ns)) (map h (drop j os)) ≡ t → share_name (f n ∷ map f (drop (i + 1) ns)) (h m ∷ map h (drop (j + 1) os)) ≡ t
  so_far t e = sym (rw (names, others) refl) ∙ e

  -- a step over the first list
  pub walk_less : (t : Bool) → IsAscending (map f (drop i ns)) → IsAscending (map h (drop j os)) → share_name (map f (drop i ns)) (map h (drop j os)) ≡ t → bytes_cmp (f n) (h m) ≡ Less
      → IsAscending (map f (drop (i + 1) ns)) × (share_name (map f (drop (i + 1) ns)) (map h (drop j os)) ≡ t)
  walk_less t up others_up e less =
      ((subst IsAscending names up).1, ap (share_name (map f (drop (i + 1) ns))) others ∙ sym (share-less (f n) (h m) _ _ (subst IsAscending others others_up) less) ∙ so_far t e)

  -- a step over the second list
  pub walk_greater : (t : Bool) → IsAscending (map f (drop i ns)) → IsAscending (map h (drop j os)) → share_name (map f (drop i ns)) (map h (drop j os)) ≡ t → bytes_cmp (f n) (h m) ≡ Greater
      → IsAscending (map h (drop (j + 1) os)) × (share_name (map f (drop i ns)) (map h (drop (j + 1) os)) ≡ t)
  walk_greater t up others_up e more =
      ((subst IsAscending others others_up).1, ap (λ l. share_name l (map h (drop (j + 1) os))) names ∙ sym (share-greater (f n) (h m) _ _ (subst IsAscending names up) more) ∙ so_far t e)

  -- the first names are one
  pub walk_equal : (t : Bool) → share_name (map f (drop i ns)) (map h (drop j os)) ≡ t → bytes_cmp (f n) (h m) ≡ Equal → true ≡ t
  walk_equal t e same = sym (share-equal (f n) (h m) _ _ same) ∙ so_far t e
