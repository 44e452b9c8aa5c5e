-- Whether a path is listed, by the texts of the paths.
use Rattle.std.proofs.Common.{◌≡◌, ℕ, zero, suc, Bool, true, false, ◌||◌, List, [], ◌∷◌, refl, sym, ap, ◌∙◌, Equal, arith}
use Rattle.std.specs.Prelude.{◌↔◌, IsTrue, Contains}
use Rattle.std.specs.List.{AllByRecursion}
use Rattle.std.proofs.lemmas.List.{map-id}
use Rattle.std.proofs.lemmas.List.Elements.{Contains-append_right}
use Rattle.messages.specs.Order.{bytes_cmp, is_equal, has_name}
use Rattle.messages.specs.Path.{IsPath, parts_of, path_text}
use Rattle.messages.proofs.Orders.{itself}
use Rattle.messages.proofs.Paths.{parts_of_path}
use Rattle.action_messages.specs.Overlaps.{texts_of}
use Rattle.action_messages.proofs.Searches.{texts_in, equal_name, or_true}

-- a path is determined by its text
pub same_path : (p q : List (List ℕ)) → IsPath p → IsPath q → path_text p ≡ path_text q → p ≡ q
same_path p q h k e = sym (parts_of_path p h) ∙ ap parts_of e ∙ parts_of_path q k

one_listed : (p path : List (List ℕ)) (ps : List (List (List ℕ))) (b : Bool) → IsPath p → IsPath path → is_equal (bytes_cmp (path_text p) (path_text path)) ≡ b → (b || has_name (texts_of ps) (path_text path)) ≡ true
    → (has_name (texts_of ps) (path_text path) ≡ true → Contains ps path) → Contains (p ∷ ps) path
one_listed p path ps true h k e has rest = (0, omega arith, same_path p path h k (equal_name (path_text p) (path_text path) (bytes_cmp (path_text p) (path_text path)) refl e))
one_listed p path ps false h k e has rest = Contains-append_right (p ∷ []) ps path (rest has)

text_listed : (ps : List (List (List ℕ))) (path : List (List ℕ)) → AllByRecursion IsPath ps → IsPath path → has_name (texts_of ps) (path_text path) ≡ true → Contains ps path
text_listed [] path all k has = absurd cc
text_listed (p ∷ ps) path all k has = one_listed p path ps (is_equal (bytes_cmp (path_text p) (path_text path))) all.0 k refl has (text_listed ps path all.1 k)

path_listed : (ps : List (List (List ℕ))) (path : List (List ℕ)) → Contains ps path → has_name (texts_of ps) (path_text path) ≡ true
path_listed [] path (k, lt, e) = absurd (omega arith)
path_listed (p ∷ ps) path (zero, lt, e) =
    let own : bytes_cmp (path_text p) (path_text path) ≡ Equal = ap (λ q. bytes_cmp (path_text p) (path_text q)) (sym e) ∙ itself (path_text p) in
    rw own refl
path_listed (p ∷ ps) path (suc k, lt, e) = let rest = path_listed ps path (k, omega (arith, lt), e) in rw rest (or_true (is_equal (bytes_cmp (path_text p) (path_text path))))

-- what a search for the path's text answers
pub listed_answer : (ps : List (List (List ℕ))) (path : List (List ℕ)) (b : Bool) → AllByRecursion IsPath ps → IsPath path → b ≡ has_name (texts_in (λ p. p) ps) (path_text path) → IsTrue b ↔ Contains ps path
listed_answer ps path b all k e =
    let here : b ≡ has_name (texts_of ps) (path_text path) = e ∙ ap (λ l. has_name (texts_of l) (path_text path)) (map-id ps) in
    (λ t. text_listed ps path all k (sym here ∙ t), λ h. here ∙ path_listed ps path h)
