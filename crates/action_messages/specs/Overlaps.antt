-- Whether paths overlap, by their texts; and where a path stands in a list.
use Rattle.std.specs.Prelude.{◌≡◌, ℕ, ◌≤◌, Bool, false, ◌==◌, ◌&&◌, ◌||◌, List, [], ◌∷◌, map}
use Rattle.std.specs.Prelude.{length, take, drop, Some, slice_get, Result, Ok, Err}
use Rattle.std.specs.List.{AllByRecursion, list_any}
use Rattle.std.specs.declared.cmp.Ordering.TheVariants.{Less, Greater}
use Rattle.messages.specs.Order.{bytes_cmp, share_name}
use Rattle.messages.specs.Path.{begins_with_slash, path_text}

-- the text begins with the other, and goes on with a slash
abbrev pub is_under : List ℕ → List ℕ → Bool
is_under text [] = begins_with_slash text
is_under [] (b ∷ above) = false
is_under (a ∷ text) (b ∷ above) = (a == b) && is_under text above

-- whether the path lies under one of the others
abbrev pub lies_under_some : List (List ℕ) → List ℕ → Bool
lies_under_some others text = list_any (is_under text) others

-- whether a path of the first list lies under one of the second
abbrev pub some_under : List (List ℕ) → List (List ℕ) → Bool
some_under texts others = list_any (lies_under_some others) texts

-- whether a path of one list overlaps one of the other
abbrev pub some_cross : List (List ℕ) → List (List ℕ) → Bool
some_cross texts others =
    share_name texts others || some_under texts others || some_under others texts

abbrev pub texts_of : List (List (List ℕ)) → List (List ℕ)
texts_of paths = map path_text paths

-- where a text stands in an ascending list, or where it would stand: after those before it and
-- before those after it
abbrev pub IsPlace : List (List ℕ) → List ℕ → Result ℕ ℕ → Type 0
IsPlace texts text (Ok place) = slice_get texts place ≡ Some text
IsPlace texts text (Err place) =
    (place ≤ length texts) × AllByRecursion (λ t. bytes_cmp t text ≡ Less) (take place texts)
    × AllByRecursion (λ t. bytes_cmp t text ≡ Greater) (drop place texts)
