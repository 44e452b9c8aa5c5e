-- Texts of ascending paths: what a binary search keeps, and what a search for beginnings answers.
use Rattle.std.proofs.Common.{◌≡◌, ℕ, ◌+◌, ◌<◌, Bool, true, false, eqb, ◌||◌, List, [], ◌∷◌, ◌++◌, length, map, take, drop, get_or, refl, sym, ap, subst, ◌∙◌, Less, Equal, Greater, arith}
use Rattle.std.specs.declared.cmp.Ordering.{Ordering}
use Rattle.std.specs.Cmp.{IsTotalOrder}
use Rattle.std.specs.Cmp.Lexicographic.{nat_list_cmp_total}
use Rattle.std.specs.List.{AllByRecursion, list_any}
use Rattle.std.proofs.lemmas.Bool.{eqb-true, eq-eqb}
use Rattle.std.proofs.lemmas.Map.Lookups.{exact_bytes}
use Rattle.std.proofs.lemmas.List.{take-append-drop, length-append, drop_more}
use Rattle.std.proofs.Math.Seq.{take-append_seam, get_or-append_seam}
use Rattle.messages.specs.Order.{bytes_cmp, is_equal, has_name}
use Rattle.messages.specs.Path.{path_text, begins_with_slash}
use Rattle.messages.proofs.Choices.{and_first, and_second, and_both, or_false, or_neither}
use Rattle.messages.proofs.Orders.{flipped, itself}
use Rattle.action_messages.specs.Ascending.{IsAscendingBy}
use Rattle.action_messages.specs.Overlaps.{is_under, lies_under_some, texts_of}
use Rattle.action_messages.proofs.Sorted.{IsTransitive}

total : IsTotalOrder bytes_cmp
total = nat_list_cmp_total

pub bytes_trans : IsTransitive bytes_cmp
bytes_trans = total.trans

-- the texts of the paths of what is listed
abbrev pub texts_in : {X : Type 0} → (X → List (List ℕ)) → List X → List (List ℕ)
texts_in path_in xs = texts_of (map path_in xs)

abbrev pub AllCompare : Ordering → List ℕ → List (List ℕ) → Type 0
AllCompare o text texts = AllByRecursion (λ t. bytes_cmp t text ≡ o) texts

-- ---- a binary search

picked : {X : Type 0} (f : X → List (List ℕ)) (P : List ℕ → Type 0) (front : List X) (x : X) (back : List X) → AllByRecursion P (texts_in f (front ++ x ∷ back)) → P (path_text (f x))
picked f P [] x back h = h.0
picked f P (y ∷ front) x back h = picked f P front x back h.1

-- where one comes before the text, all up to it do
pub front_less : {X : Type 0} (f : X → List (List ℕ)) (text : List ℕ) (front : List X) (x : X) (back : List X) → IsAscendingBy bytes_cmp (texts_in f (front ++ x ∷ back)) → bytes_cmp (path_text (f x)) text ≡ Less → AllCompare Less text (texts_in f (front ++ x ∷ []))
front_less f text [] x back up less = (less, tt)
front_less f text (y ∷ front) x back up less =
    let before : bytes_cmp (path_text (f y)) (path_text (f x)) ≡ Less = picked f (λ t. bytes_cmp (path_text (f y)) t ≡ Less) front x back up.0 in
    (total.trans (path_text (f y)) (path_text (f x)) text before less, front_less f text front x back up.1 less)

behind : {X : Type 0} (f : X → List (List ℕ)) (front : List X) (x : X) (back : List X) → IsAscendingBy bytes_cmp (texts_in f (front ++ x ∷ back)) → AllByRecursion (λ t. bytes_cmp (path_text (f x)) t ≡ Less) (texts_in f back)
behind f [] x back up = up.0
behind f (y ∷ front) x back up = behind f front x back up.1

all_greater : (text t : List ℕ) (ts : List (List ℕ)) → bytes_cmp text t ≡ Less → AllByRecursion (λ u. bytes_cmp t u ≡ Less) ts → AllCompare Greater text ts
all_greater text t [] less h = tt
all_greater text t (u ∷ ts) less h = (flipped text u Less (total.trans text t u less h.0), all_greater text t ts less h.1)

-- where one comes behind the text, all from it on do
pub back_greater : {X : Type 0} (f : X → List (List ℕ)) (text : List ℕ) (front : List X) (x : X) (back : List X) → IsAscendingBy bytes_cmp (texts_in f (front ++ x ∷ back)) → bytes_cmp (path_text (f x)) text ≡ Greater → AllCompare Greater text (texts_in f (x ∷ back))
back_greater f text front x back up more = (more, all_greater text (path_text (f x)) (texts_in f back) (flipped (path_text (f x)) text Greater more) (behind f front x back up))

pub has_none : (text : List ℕ) (ts : List (List ℕ)) → AllCompare Greater text ts → has_name ts text ≡ false
has_none text [] h = refl
has_none text (t ∷ ts) h = let more : bytes_cmp t text ≡ Greater = h.0 in rw more (has_none text ts h.1)

pub or_true : (a : Bool) → (a || true) ≡ true
or_true true = refl
or_true false = refl

-- ---- texts behind a beginning and a slash

slash_begins : (rest : List ℕ) → begins_with_slash rest ≡ true → (more : List ℕ) × (rest ≡ 47 ∷ more)
slash_begins [] h = absurd cc
slash_begins (b ∷ rest) h = (rest, ap (λ (x : ℕ). x ∷ rest) (eqb-true b 47 h))

pub is_under-split : (text above : List ℕ) → is_under text above ≡ true → (more : List ℕ) × (text ≡ above ++ 47 ∷ more)
is_under-split text [] h = slash_begins text h
is_under-split [] (b ∷ above) h = absurd cc
is_under-split (a ∷ text) (b ∷ above) h =
    let same : a ≡ b = eqb-true a b (and_first (eqb a b) (is_under text above) h) in
    let rest = is_under-split text above (and_second (eqb a b) (is_under text above) h) in
    (rest.0, ap (λ (x : ℕ). x ∷ text) same ∙ ap (λ (l : List ℕ). b ∷ l) rest.1)

pub is_under-seam : (above more : List ℕ) → is_under (above ++ 47 ∷ more) above ≡ true
is_under-seam [] more = refl
is_under-seam (b ∷ above) more = and_both (eqb b b) (is_under (above ++ 47 ∷ more) above) (eq-eqb b b refl) (is_under-seam above more)

pub equal_name : (t text : List ℕ) (o : Ordering) → bytes_cmp t text ≡ o → is_equal o ≡ true → t ≡ text
equal_name t text Less e h = absurd cc
equal_name t text Equal e h = exact_bytes t text e
equal_name t text Greater e h = absurd cc

under_one : (texts : List (List ℕ)) (front more : List ℕ) (b : Bool) (t : List ℕ) → is_equal (bytes_cmp t front) ≡ b → (b || has_name texts front) ≡ true → (has_name texts front ≡ true → list_any (is_under (front ++ 47 ∷ more)) texts ≡ true) → (is_under (front ++ 47 ∷ more) t || list_any (is_under (front ++ 47 ∷ more)) texts) ≡ true
under_one texts front more true t e h rest =
    let same : t ≡ front = equal_name t front (bytes_cmp t front) refl e in
    let under : is_under (front ++ 47 ∷ more) t ≡ true = subst (λ (u : List ℕ). is_under (front ++ 47 ∷ more) u ≡ true) (sym same) (is_under-seam front more) in
    rw under refl
under_one texts front more false t e h rest = let any : list_any (is_under (front ++ 47 ∷ more)) texts ≡ true = rest h in rw any (or_true (is_under (front ++ 47 ∷ more) t))

-- a beginning that is listed
under_listed : (texts : List (List ℕ)) (front more : List ℕ) → has_name texts front ≡ true → lies_under_some texts (front ++ 47 ∷ more) ≡ true
under_listed [] front more h = absurd cc
under_listed (t ∷ texts) front more h = under_one texts front more (is_equal (bytes_cmp t front)) t refl h (under_listed texts front more)

-- cut at a slash
pub cut : (k : ℕ) (text : List ℕ) → k < length text → get_or text k 0 ≡ 47 → take k text ++ 47 ∷ drop (k + 1) text ≡ text
cut k text within slash = ap (λ (l : List ℕ). take k text ++ l) (ap (λ (b : ℕ). b ∷ drop (k + 1) text) (sym slash) ∙ sym (drop_more text k 0 within)) ∙ take-append-drop k text

pub under_found : (texts : List (List ℕ)) (text : List ℕ) (k : ℕ) → k < length text → get_or text k 0 ≡ 47 → has_name texts (take k text) ≡ true → lies_under_some texts text ≡ true
under_found texts text k within slash h = subst (λ (l : List ℕ). lies_under_some texts l ≡ true) (cut k text within slash) (under_listed texts (take k text) (drop (k + 1) text) h)

-- no beginning at a slash is listed
abbrev pub NoBeginning : List (List ℕ) → List ℕ → Type 0
NoBeginning texts text = (front more : List ℕ) → text ≡ front ++ 47 ∷ more → has_name texts front ≡ false

not_under : (text t : List ℕ) (b : Bool) → is_under text t ≡ b → ((more : List ℕ) → text ≡ t ++ 47 ∷ more → ⊥) → b ≡ false
not_under text t true e none = let w = is_under-split text t e in absurd (none w.0 w.1)
not_under text t false e none = refl

no_first : (t : List ℕ) (texts : List (List ℕ)) → has_name (t ∷ texts) t ≡ false → ⊥
no_first t texts h = let own = itself t in let never : (true || has_name texts t) ≡ false = rw own at h in cc

under_none : (texts : List (List ℕ)) (text : List ℕ) → NoBeginning texts text → lies_under_some texts text ≡ false
under_none [] text none = refl
under_none (t ∷ texts) text none =
    or_neither (is_under text t) (list_any (is_under text) texts)
    (not_under text t (is_under text t) refl (λ more e. no_first t texts (none t more e)))
    (under_none texts text (λ front more e. (or_false (is_equal (bytes_cmp t front)) (has_name texts front) (none front more e)).1))

pub under_not_found : (texts : List (List ℕ)) (text : List ℕ) → ((k : ℕ) → k < length text → get_or text k 0 ≡ 47 → has_name texts (take k text) ≡ false) → lies_under_some texts text ≡ false
under_not_found texts text none = under_none texts text cut_here where
  cut_here : NoBeginning texts text
  cut_here front more e =
      let within : length front < length text = let len = length-append front (47 ∷ more) in let all = ap length e in omega arith in
      let slash : get_or text (length front) 0 ≡ 47 = ap (λ (l : List ℕ). get_or l (length front) 0) e ∙ get_or-append_seam front 47 more 0 in
      let begins : take (length front) text ≡ front = ap (take (length front)) e ∙ take-append_seam front (47 ∷ more) in
      subst (λ (l : List ℕ). has_name texts l ≡ false) begins (none (length front) within slash)
