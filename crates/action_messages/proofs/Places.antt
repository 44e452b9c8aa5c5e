-- Where a text stands in an ascending list, and what lies around it.
use Rattle.std.proofs.Common.{◌≡◌, ℕ, zero, suc, ◌<◌, ◌≤◌, true, false, List, [], ◌∷◌, ◌++◌, length, map, take, drop, get_or, Some, Result, Ok, Err, refl, sym, ap, subst, ◌∙◌, Less, Equal, Greater, arith}
use Rattle.std.specs.Prelude.{is_ok, slice_get, option_map}
use Rattle.std.proofs.lemmas.List.{take-append-drop, take-map, drop-map, length-map}
use Rattle.std.proofs.lemmas.Option.{slice_get-map, slice_get_read}
use Rattle.std.proofs.lemmas.Map.Lookups.{exact_bytes}
use Rattle.messages.specs.Order.{bytes_cmp, is_equal, has_name}
use Rattle.messages.specs.Path.{path_text}
use Rattle.messages.proofs.Orders.{itself}
use Rattle.action_messages.specs.Overlaps.{IsPlace, texts_of}
use Rattle.action_messages.proofs.Searches.{texts_in, AllCompare, has_none, or_true}

texts_taken : {X : Type 0} (f : X → List (List ℕ)) (n : ℕ) (xs : List X) → take n (texts_in f xs) ≡ texts_in f (take n xs)
texts_taken f n xs = take-map path_text n (map f xs) ∙ ap texts_of (take-map f n xs)

texts_dropped : {X : Type 0} (f : X → List (List ℕ)) (n : ℕ) (xs : List X) → drop n (texts_in f xs) ≡ texts_in f (drop n xs)
texts_dropped f n xs = drop-map path_text n (map f xs) ∙ ap texts_of (drop-map f n xs)

pub texts_length : {X : Type 0} (f : X → List (List ℕ)) (xs : List X) → length (texts_in f xs) ≡ length xs
texts_length f xs = length-map (map f xs) path_text ∙ length-map xs f

pub stands_at : {X : Type 0} (f : X → List (List ℕ)) (text : List ℕ) (xs : List X) (n : ℕ) (x : X) → n < length xs → x ≡ get_or xs n x → bytes_cmp (path_text (f x)) text ≡ Equal → IsPlace (texts_in f xs) text (Ok n)
stands_at f text xs n x lt is same =
    slice_get-map path_text (map f xs) n ∙ ap (λ o. option_map path_text o) (slice_get-map f xs n) ∙ ap (λ o. option_map path_text (option_map f o)) (slice_get_read xs (length xs) n x refl lt is)
    ∙ ap Some (exact_bytes (path_text (f x)) text same)

pub would_stand : {X : Type 0} (f : X → List (List ℕ)) (text : List ℕ) (xs : List X) (n : ℕ) → n ≤ length xs → AllCompare Less text (texts_in f (take n xs)) → AllCompare Greater text (texts_in f (drop n xs)) → IsPlace (texts_in f xs) text (Err n)
would_stand f text xs n le before after =
    (omega (arith, texts_length f xs, le), subst (AllCompare Less text) (sym (texts_taken f n xs)) before, subst (AllCompare Greater text) (sym (texts_dropped f n xs)) after)

-- ---- whether the text stands there

at_front : (text : List ℕ) (front back : List (List ℕ)) → AllCompare Less text front → AllCompare Greater text back → has_name (front ++ back) text ≡ false
at_front text [] back before after = has_none text back after
at_front text (t ∷ front) back before after = let less : bytes_cmp t text ≡ Less = before.0 in rw less (at_front text front back before.1 after)

got_there : (texts : List (List ℕ)) (n : ℕ) (text : List ℕ) → slice_get texts n ≡ Some text → has_name texts text ≡ true
got_there [] n text e = absurd cc
got_there (t ∷ texts) zero text e =
    let same : t ≡ text = cc in
    let own : bytes_cmp t text ≡ Equal = ap (bytes_cmp t) (sym same) ∙ itself t in
    rw own refl
got_there (t ∷ texts) (suc n) text e = let rest = got_there texts n text e in rw rest (or_true (is_equal (bytes_cmp t text)))

pub place_test : (texts : List (List ℕ)) (text : List ℕ) (place : Result ℕ ℕ) → IsPlace texts text place → is_ok place ≡ has_name texts text
place_test texts text (Ok n) h = sym (got_there texts n text h)
place_test texts text (Err n) h = sym (subst (λ l. has_name l text ≡ false) (take-append-drop n texts) (at_front text (take n texts) (drop n texts) h.1 h.2))
