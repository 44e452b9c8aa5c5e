-- Paths apart, by their names and by their texts.
use Rattle.std.proofs.Common.{◌≡◌, ◌≢◌, ℕ, Bool, true, false, ◌||◌, List, [], ◌∷◌, ◌++◌, length, refl, sym, ap, subst, ◌∙◌, append_assoc, Less, Equal, inl, inr, arith}
use Rattle.std.specs.List.{AllByRecursion}
use Rattle.std.proofs.lemmas.List.{length-append}
use Rattle.messages.specs.Order.{bytes_cmp, ShareNone, share_name}
use Rattle.messages.specs.Path.{IsPath, LiesUnder, AreApart, IsApart, parts_of, path_text}
use Rattle.messages.proofs.Choices.{or_false, or_neither}
use Rattle.messages.proofs.Orders.{itself, ShareNone-from, share_name-from}
use Rattle.messages.proofs.Paths.{Some_part, some_part, part_there, parts-seam, parts_of_path}
use Rattle.action_messages.specs.Ascending.{IsAscendingBy}
use Rattle.action_messages.specs.Overlaps.{is_under, lies_under_some, some_under, some_cross, texts_of}
use Rattle.action_messages.proofs.Searches.{is_under-split, is_under-seam}

-- ---- one path under another, by their texts

path_text-append : (above : List (List ℕ)) (name : List ℕ) (rest : List (List ℕ)) → Some_part above → path_text (above ++ name ∷ rest) ≡ path_text above ++ 47 ∷ path_text (name ∷ rest)
path_text-append [] name rest (some_part first more e) = absurd cc
path_text-append (x ∷ []) name rest s = refl
path_text-append (x ∷ y ∷ above) name rest s =
    ap (λ (l : List ℕ). x ++ (47 ∷ l)) (path_text-append (y ∷ above) name rest (some_part y above refl)) ∙ sym (append_assoc x (47 ∷ path_text (y ∷ above)) (47 ∷ path_text (name ∷ rest)))

some_names : (path : List (List ℕ)) → IsPath path → Some_part path
some_names path is = subst Some_part (parts_of_path path is) (part_there (path_text path))

pub under_text : (path above : List (List ℕ)) → IsPath above → LiesUnder path above → is_under (path_text path) (path_text above) ≡ true
under_text path above is (name, rest, e) =
    subst (λ (t : List ℕ). is_under t (path_text above) ≡ true) (sym (ap path_text e ∙ path_text-append above name rest (some_names above is))) (is_under-seam (path_text above) (path_text (name ∷ rest)))

pub text_under : (path above : List (List ℕ)) → IsPath path → IsPath above → is_under (path_text path) (path_text above) ≡ true → LiesUnder path above
text_under path above is over h =
    let w = is_under-split (path_text path) (path_text above) h in
    let parts : path ≡ above ++ parts_of w.0 = sym (parts_of_path path is) ∙ ap parts_of w.1 ∙ parts-seam (path_text above) w.0 ∙ ap (λ (l : List (List ℕ)). l ++ parts_of w.0) (parts_of_path above over) in
    elim (part_there w.0) [ some_part name rest e ↦ (name, rest, parts ∙ ap (λ (l : List (List ℕ)). above ++ l) e) ]

-- ---- no path under another

abbrev pub NoneUnder : List (List (List ℕ)) → List (List (List ℕ)) → Type 0
NoneUnder paths others = AllByRecursion (λ path. AllByRecursion (λ other. LiesUnder path other → ⊥) others) paths

abbrev pub ArePaths : List (List (List ℕ)) → Type 0
ArePaths paths = AllByRecursion IsPath paths

not_true : (b : Bool) → b ≡ false → b ≡ true → ⊥
not_true b e h = cc (sym e ∙ h)

not_false : (b : Bool) → (b ≡ true → ⊥) → b ≡ false
not_false true h = absurd (h refl)
not_false false h = refl

pub row_none : (path : List (List ℕ)) (others : List (List (List ℕ))) → ArePaths others → lies_under_some (texts_of others) (path_text path) ≡ false → AllByRecursion (λ other. LiesUnder path other → ⊥) others
row_none path [] is e = tt
row_none path (other ∷ others) is e =
    let o = or_false (is_under (path_text path) (path_text other)) (lies_under_some (texts_of others) (path_text path)) e in
    (λ u. not_true (is_under (path_text path) (path_text other)) o.0 (under_text path other is.0 u), row_none path others is.1 o.1)

none_row : (path : List (List ℕ)) (others : List (List (List ℕ))) → IsPath path → ArePaths others → AllByRecursion (λ other. LiesUnder path other → ⊥) others → lies_under_some (texts_of others) (path_text path) ≡ false
none_row path [] is all h = refl
none_row path (other ∷ others) is all h =
    or_neither (is_under (path_text path) (path_text other)) (lies_under_some (texts_of others) (path_text path))
    (not_false (is_under (path_text path) (path_text other)) (λ t. h.0 (text_under path other is all.0 t))) (none_row path others is all.1 h.1)

pub none_under : (paths others : List (List (List ℕ))) → ArePaths others → some_under (texts_of paths) (texts_of others) ≡ false → NoneUnder paths others
none_under [] others is e = tt
none_under (path ∷ paths) others is e =
    let o = or_false (lies_under_some (texts_of others) (path_text path)) (some_under (texts_of paths) (texts_of others)) e in
    (row_none path others is o.0, none_under paths others is o.1)

pub under_none : (paths others : List (List (List ℕ))) → ArePaths paths → ArePaths others → NoneUnder paths others → some_under (texts_of paths) (texts_of others) ≡ false
under_none [] others is all h = refl
under_none (path ∷ paths) others is all h =
    or_neither (lies_under_some (texts_of others) (path_text path)) (some_under (texts_of paths) (texts_of others)) (none_row path others is.0 all h.0) (under_none paths others is.1 all h.1)

-- ---- squares of facts, row by row

pub firsts : {X Y : Type 0} (R : X → Y → Type 0) (y : Y) (ys : List Y) (xs : List X) → AllByRecursion (λ x. AllByRecursion (R x) (y ∷ ys)) xs → AllByRecursion (λ x. R x y) xs
firsts R y ys [] h = tt
firsts R y ys (x ∷ xs) h = (h.0.0, firsts R y ys xs h.1)

pub rests : {X Y : Type 0} (R : X → Y → Type 0) (y : Y) (ys : List Y) (xs : List X) → AllByRecursion (λ x. AllByRecursion (R x) (y ∷ ys)) xs → AllByRecursion (λ x. AllByRecursion (R x) ys) xs
rests R y ys [] h = tt
rests R y ys (x ∷ xs) h = (h.0.1, rests R y ys xs h.1)

nothing : {X Y : Type 0} (R : X → Y → Type 0) (xs : List X) → AllByRecursion (λ x. AllByRecursion (R x) []) xs
nothing R [] = tt
nothing R (x ∷ xs) = (tt, nothing R xs)

beside : {X Y : Type 0} (R : X → Y → Type 0) (y : Y) (ys : List Y) (xs : List X) → AllByRecursion (λ x. R x y) xs → AllByRecursion (λ x. AllByRecursion (R x) ys) xs → AllByRecursion (λ x. AllByRecursion (R x) (y ∷ ys)) xs
beside R y ys [] h k = tt
beside R y ys (x ∷ xs) h k = ((h.0, k.0), beside R y ys xs h.1 k.1)

turned : {X Y : Type 0} (R : X → Y → Type 0) (xs : List X) (ys : List Y) → AllByRecursion (λ x. AllByRecursion (R x) ys) xs → AllByRecursion (λ y. AllByRecursion (λ x. R x y) xs) ys
turned R [] ys h = nothing (λ y x. R x y) ys
turned R (x ∷ xs) ys h = beside (λ y x. R x y) x xs ys h.0 (turned R xs ys h.1)

pub weaker : {X : Type 0} (P Q : X → Type 0) → ((x : X) → P x → Q x) → (xs : List X) → AllByRecursion P xs → AllByRecursion Q xs
weaker P Q f [] h = tt
weaker P Q f (x ∷ xs) h = (f x h.0, weaker P Q f xs h.1)

-- ---- the paths of one list

pub apart_of : (path other : List (List ℕ)) → path ≢ other → (LiesUnder path other → ⊥) → (LiesUnder other path → ⊥) → IsApart path other
apart_of path other differ over under (inl e) = differ e
apart_of path other differ over under (inr (inl u)) = over u
apart_of path other differ over under (inr (inr u)) = under u

differs : (path other : List (List ℕ)) → bytes_cmp (path_text path) (path_text other) ≡ Less → path ≢ other
differs path other less = λ e.
    let same : bytes_cmp (path_text path) (path_text other) ≡ Equal = ap (λ (p : List (List ℕ)). bytes_cmp (path_text path) (path_text p)) (sym e) ∙ itself (path_text path) in
    cc (sym less ∙ same)

apart_row : (path : List (List ℕ)) (others : List (List (List ℕ))) → AllByRecursion (λ t. bytes_cmp (path_text path) t ≡ Less) (texts_of others) → AllByRecursion (λ other. LiesUnder path other → ⊥) others → AllByRecursion (λ other. LiesUnder other path → ⊥) others → AllByRecursion (IsApart path) others
apart_row path [] less over under = tt
apart_row path (other ∷ others) less over under = (apart_of path other (differs path other less.0) over.0 under.0, apart_row path others less.1 over.1 under.1)

pub apart_within : (paths : List (List (List ℕ))) → IsAscendingBy bytes_cmp (texts_of paths) → NoneUnder paths paths → AreApart paths
apart_within [] up h = tt
apart_within (path ∷ paths) up h =
    let R = λ (p : List (List ℕ)) (q : List (List ℕ)). LiesUnder p q → ⊥ in
    (apart_row path paths up.0 h.0.1 (firsts R path paths paths h.1), apart_within paths up.1 (rests R path paths paths h.1))

longer : (path : List (List ℕ)) → LiesUnder path path → ⊥
longer path (name, rest, e) = let n = ap length e in let m = length-append path (name ∷ rest) in absurd (omega arith)

pub within_apart : (paths : List (List (List ℕ))) → AreApart paths → NoneUnder paths paths
within_apart [] h = tt
within_apart (path ∷ paths) h =
    let R = λ (p : List (List ℕ)) (q : List (List ℕ)). LiesUnder p q → ⊥ in
    let over = weaker (IsApart path) (λ other. LiesUnder path other → ⊥) (λ other apart u. apart (inr (inl u))) paths h.0 in
    let under = weaker (IsApart path) (λ other. LiesUnder other path → ⊥) (λ other apart u. apart (inr (inr u))) paths h.0 in
    ((longer path, over), beside R path paths paths under (within_apart paths h.1))

-- ---- the paths of two lists

abbrev pub AreApartFrom : List (List (List ℕ)) → List (List (List ℕ)) → Type 0
AreApartFrom paths others = AllByRecursion (λ path. AllByRecursion (IsApart path) others) paths

differ_row : (path : List (List ℕ)) (others : List (List (List ℕ))) → AllByRecursion (λ t. path_text path ≢ t) (texts_of others) → AllByRecursion (λ other. LiesUnder path other → ⊥) others → AllByRecursion (λ other. LiesUnder other path → ⊥) others → AllByRecursion (IsApart path) others
differ_row path [] differ over under = tt
differ_row path (other ∷ others) differ over under = (apart_of path other (λ e. differ.0 (ap path_text e)) over.0 under.0, differ_row path others differ.1 over.1 under.1)

cross_rows : (paths others : List (List (List ℕ))) → ShareNone (texts_of paths) (texts_of others) → NoneUnder paths others → AllByRecursion (λ path. AllByRecursion (λ other. LiesUnder other path → ⊥) others) paths → AreApartFrom paths others
cross_rows [] others differ over under = tt
cross_rows (path ∷ paths) others differ over under = (differ_row path others differ.0 over.0 under.0, cross_rows paths others differ.1 over.1 under.1)

pub apart_from : (paths others : List (List (List ℕ))) → ArePaths paths → ArePaths others → some_cross (texts_of paths) (texts_of others) ≡ false → AreApartFrom paths others
apart_from paths others is all e =
    let o = or_false (share_name (texts_of paths) (texts_of others) || some_under (texts_of paths) (texts_of others)) (some_under (texts_of others) (texts_of paths)) e in
    let p = or_false (share_name (texts_of paths) (texts_of others)) (some_under (texts_of paths) (texts_of others)) o.0 in
    cross_rows paths others (ShareNone-from (texts_of paths) (texts_of others) p.0) (none_under paths others all p.1)
    (turned (λ (q : List (List ℕ)) (p' : List (List ℕ)). LiesUnder q p' → ⊥) others paths (none_under others paths is o.1))

same_text : (path other : List (List ℕ)) → IsPath path → IsPath other → path_text path ≡ path_text other → path ≡ other
same_text path other is over e = sym (parts_of_path path is) ∙ ap parts_of e ∙ parts_of_path other over

text_row : (path : List (List ℕ)) (others : List (List (List ℕ))) → IsPath path → ArePaths others → AllByRecursion (IsApart path) others → AllByRecursion (λ t. path_text path ≢ t) (texts_of others)
text_row path [] is all h = tt
text_row path (other ∷ others) is all h = (λ e. h.0 (inl (same_text path other is all.0 e)), text_row path others is all.1 h.1)

pub text_rows : (paths others : List (List (List ℕ))) → ArePaths paths → ArePaths others → AreApartFrom paths others → ShareNone (texts_of paths) (texts_of others)
text_rows [] others is all h = tt
text_rows (path ∷ paths) others is all h = (text_row path others is.0 all h.0, text_rows paths others is.1 all h.1)

pub from_apart : (paths others : List (List (List ℕ))) → ArePaths paths → ArePaths others → AreApartFrom paths others → some_cross (texts_of paths) (texts_of others) ≡ false
from_apart paths others is all h =
    let over = weaker (λ path. AllByRecursion (IsApart path) others) (λ path. AllByRecursion (λ other. LiesUnder path other → ⊥) others) (λ path row. weaker (IsApart path) (λ other. LiesUnder path other → ⊥) (λ other apart u. apart (inr (inl u))) others row) paths h in
    let under = weaker (λ path. AllByRecursion (IsApart path) others) (λ path. AllByRecursion (λ other. LiesUnder other path → ⊥) others) (λ path row. weaker (IsApart path) (λ other. LiesUnder other path → ⊥) (λ other apart u. apart (inr (inr u))) others row) paths h in
    or_neither (share_name (texts_of paths) (texts_of others) || some_under (texts_of paths) (texts_of others)) (some_under (texts_of others) (texts_of paths))
    (or_neither (share_name (texts_of paths) (texts_of others)) (some_under (texts_of paths) (texts_of others))
    (share_name-from (texts_of paths) (texts_of others) (text_rows paths others is all h)) (under_none paths others is all over))
    (under_none others paths all is (turned (λ (p : List (List ℕ)) (q : List (List ℕ)). LiesUnder q p → ⊥) paths others under))

-- ---- the paths of lists one after another

all_both : {X : Type 0} (P : X → Type 0) (xs ys : List X) → AllByRecursion P xs → AllByRecursion P ys → AllByRecursion P (xs ++ ys)
all_both P [] ys h k = k
all_both P (x ∷ xs) ys h k = (h.0, all_both P xs ys h.1 k)

all_front : {X : Type 0} (P : X → Type 0) (xs ys : List X) → AllByRecursion P (xs ++ ys) → AllByRecursion P xs
all_front P [] ys h = tt
all_front P (x ∷ xs) ys h = (h.0, all_front P xs ys h.1)

all_back : {X : Type 0} (P : X → Type 0) (xs ys : List X) → AllByRecursion P (xs ++ ys) → AllByRecursion P ys
all_back P [] ys h = h
all_back P (x ∷ xs) ys h = all_back P xs ys h.1

pub apart_join : (paths others : List (List (List ℕ))) → AreApart paths → AreApart others → AreApartFrom paths others → AreApart (paths ++ others)
apart_join [] others h k from = k
apart_join (path ∷ paths) others h k from = (all_both (IsApart path) paths others h.0 from.0, apart_join paths others h.1 k from.1)

pub apart_parts : (paths others : List (List (List ℕ))) → AreApart (paths ++ others) → AreApart paths × AreApart others × AreApartFrom paths others
apart_parts [] others h = (tt, h, tt)
apart_parts (path ∷ paths) others h =
    let p = apart_parts paths others h.1 in
    ((all_front (IsApart path) paths others h.0, p.0), p.1, (all_back (IsApart path) paths others h.0, p.2))

pub from_join : (paths more others : List (List (List ℕ))) → AreApartFrom paths others → AreApartFrom more others → AreApartFrom (paths ++ more) others
from_join paths more others h k = all_both (λ path. AllByRecursion (IsApart path) others) paths more h k

pub from_parts : (paths more others : List (List (List ℕ))) → AreApartFrom (paths ++ more) others → AreApartFrom paths others × AreApartFrom more others
from_parts paths more others h = (all_front (λ path. AllByRecursion (IsApart path) others) paths more h, all_back (λ path. AllByRecursion (IsApart path) others) paths more h)
