-- The output at or above a path, by the beginnings of the path's text.
use Rattle.std.proofs.Common.{◌≡◌, ◌≢◌, ℕ, zero, suc, ◌+◌, ◌<◌, false, List, [], ◌∷◌, ◌++◌, length, take, drop, get_or, Some, None, Result, Ok, Err, refl, sym, ap, subst, ◌∙◌, below_more}
use Rattle.std.specs.Prelude.{slice_get}
use Rattle.std.specs.List.{AllByRecursion}
use Rattle.std.proofs.lemmas.List.{append-nil}
use Rattle.messages.specs.Order.{has_name}
use Rattle.messages.specs.Path.{IsPath, LiesUnder, parts_of, path_text}
use Rattle.messages.proofs.Orders.{has_none}
use Rattle.messages.proofs.Paths.{parts-seam, parts_of_path}
use Rattle.action_messages.specs.Overlaps.{IsPlace, lies_under_some, texts_of}
use Rattle.actions.specs.OutcomeLookup.{StandsOver}
use Rattle.actions.specs.Parts.{IsOver}
use Rattle.action_messages.proofs.Searches.{cut, under_not_found}
use Rattle.action_messages.proofs.Places.{place_test}
use Rattle.action_messages.proofs.Apart.{ArePaths, row_none}

-- ---- the path that stands at a place

pub path_at : (paths : List (List (List ℕ))) (n : ℕ) (text : List ℕ) → ArePaths paths → slice_get (texts_of paths) n ≡ Some text → (slice_get paths n ≡ Some (parts_of text)) × IsPath (parts_of text)
path_at [] n text all e = absurd cc
path_at (p ∷ paths) zero text all e =
    let same : path_text p ≡ text = cc in
    let parts : p ≡ parts_of text = sym (parts_of_path p all.0) ∙ ap parts_of same in
    (ap Some parts, subst IsPath parts all.0)
path_at (p ∷ paths) (suc n) text all e = path_at paths n text all.1 e

-- ---- a beginning that is listed

-- a path that is there, and the names that are left of another
abbrev pub IsLeft : List (List (List ℕ)) → List (List ℕ) → ℕ → List (List ℕ) → Type 0
IsLeft paths path place names = (above : List (List ℕ)) × (slice_get paths place ≡ Some above) × (path ≡ above ++ names)

pub over_front : (paths : List (List (List ℕ))) (path : List (List ℕ)) (text rest : List ℕ) (index place : ℕ) → ArePaths paths → parts_of text ≡ path → index < length text → get_or text index 0 ≡ 47 → IsPlace (texts_of paths) (take index text) (Ok place) → rest ≡ drop (index + 1) text
    → IsLeft paths path place (parts_of rest)
over_front paths path text rest index place all parts lt slash there left =
    let front = parts_of (take index text) in
    let split : path ≡ front ++ parts_of (drop (index + 1) text) = sym parts ∙ ap parts_of (sym (cut index text lt slash)) ∙ parts-seam (take index text) (drop (index + 1) text) in
    (front, (path_at paths place (take index text) all there).0, split ∙ ap (λ l. front ++ parts_of l) (sym left))

pub over_whole : (paths : List (List (List ℕ))) (path : List (List ℕ)) (text : List ℕ) (place : ℕ) → ArePaths paths → parts_of text ≡ path → IsPlace (texts_of paths) text (Ok place) → IsLeft paths path place []
over_whole paths path text place all parts there = (path, (path_at paths place text all there).0 ∙ ap Some parts, sym (append-nil path))

-- ---- no beginning is listed

abbrev pub NoneListed : List (List ℕ) → List ℕ → ℕ → Type 0
NoneListed texts text index = (k : ℕ) → k < index → get_or text k 0 ≡ 47 → has_name texts (take k text) ≡ false

pub not_listed : (texts : List (List ℕ)) (text : List ℕ) (n : ℕ) → IsPlace texts text (Err n) → has_name texts text ≡ false
not_listed texts text n h = sym (place_test texts text (Err n) h)

pub row_same : (path : List (List ℕ)) (paths : List (List (List ℕ))) → has_name (texts_of paths) (path_text path) ≡ false → AllByRecursion (λ above. path ≢ above) paths
row_same path paths h = each paths (has_none (texts_of paths) (path_text path) h)
  where
    each : (others : List (List (List ℕ))) → AllByRecursion (λ t. path_text path ≢ t) (texts_of others) → AllByRecursion (λ above. path ≢ above) others
    each [] k = tt
    each (other ∷ others) k = ((λ e. k.0 (ap path_text e)), each others k.1)

-- no path is at or above one that isn't listed and lies under none
pub none_stands_over : (paths : List (List (List ℕ))) (path : List (List ℕ)) (text : List ℕ) (n : ℕ) → ArePaths paths → text ≡ path_text path → lies_under_some (texts_of paths) text ≡ false → IsPlace (texts_of paths) text (Err n)
    → AllByRecursion (λ above. ¬ StandsOver above path) paths
none_stands_over paths path text n all is free there = both paths (row_none path paths all under) (row_same path paths same)
  where
    under : lies_under_some (texts_of paths) (path_text path) ≡ false
    under = subst (λ t. lies_under_some (texts_of paths) t ≡ false) is free

    same : has_name (texts_of paths) (path_text path) ≡ false
    same = subst (λ t. has_name (texts_of paths) t ≡ false) is (not_listed (texts_of paths) text n there)

    neither : (above names : List (List ℕ)) → (LiesUnder path above → ⊥) → path ≢ above → path ≡ above ++ names → ⊥
    neither above [] over differ e = differ (e ∙ append-nil above)
    neither above (n ∷ names) over differ e = over (n, names, e)

    both : (others : List (List (List ℕ))) → AllByRecursion (λ other. LiesUnder path other → ⊥) others → AllByRecursion (λ above. path ≢ above) others → AllByRecursion (λ above. ¬ StandsOver above path) others
    both [] h k = tt
    both (other ∷ others) h k = ((λ s. neither other s.0 h.0 k.0 s.1), both others h.1 k.1)

pub over_none : (paths : List (List (List ℕ))) (path : List (List ℕ)) (text : List ℕ) (n : ℕ) → ArePaths paths → text ≡ path_text path → NoneListed (texts_of paths) text (length text) → IsPlace (texts_of paths) text (Err n) → IsOver paths path None
over_none paths path text n all is none there = none_stands_over paths path text n all is (under_not_found (texts_of paths) text none) there

-- ---- as the loop has it

missed : (texts : List (List ℕ)) (text : List ℕ) (place : Result ℕ ℕ) → ((n : ℕ) → place ≡ Ok n → ⊥) → IsPlace texts text place → has_name texts text ≡ false
missed texts text (Ok n) other h = absurd (other n refl)
missed texts text (Err n) other h = not_listed texts text n h

pub passed_slash : (texts : List (List ℕ)) (text : List ℕ) (index : ℕ) (place : Result ℕ ℕ) → NoneListed texts text index → ((n : ℕ) → place ≡ Ok n → ⊥) → IsPlace texts (take index text) place → NoneListed texts text (index + 1)
passed_slash texts text index place none other at = below_more (λ k. get_or text k 0 ≡ 47 → has_name texts (take k text) ≡ false) index none (λ s. missed texts (take index text) place other at)

pub passed_other : (texts : List (List ℕ)) (text : List ℕ) (index : ℕ) → get_or text index 0 ≢ 47 → NoneListed texts text index → NoneListed texts text (index + 1)
passed_other texts text index isnt none = below_more (λ k. get_or text k 0 ≡ 47 → has_name texts (take k text) ≡ false) index none (λ s. absurd (isnt s))
