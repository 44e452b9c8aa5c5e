-- The text of several parts.
use Rattle.std.proofs.Common.{◌≡◌, ℕ, List, [], ◌∷◌, ◌++◌, sym, ap, ◌∙◌, append_assoc}
use Rattle.canonical.specs.Fields.{element_fields}
use Rattle.std.proofs.lemmas.List.Concat.{flat_map-append}
use Rattle.wire.specs.Record.{Record}
use Rattle.wire.specs.Spelling.{spelling, record_text}

pub spelled_parts : (a b : List Record) → spelling (a ++ b) ≡ spelling a ++ spelling b
spelled_parts a b = flat_map-append record_text a b

pub written_on : (front total : List ℕ) (n : ℕ) (x : List ℕ) (xs : List (List ℕ)) → front ++ spelling (element_fields n (x ∷ xs)) ≡ total → (front ++ spelling (element_fields n (x ∷ []))) ++ spelling (element_fields n xs) ≡ total
written_on front total n x xs so_far = append_assoc front (spelling (element_fields n (x ∷ []))) (spelling (element_fields n xs)) ∙ ap (λ (l : List ℕ). front ++ l) (sym (spelled_parts (element_fields n (x ∷ [])) (element_fields n xs))) ∙ so_far

-- ---- what stands in front

-- bytes begin with others
abbrev pub Begins : List ℕ → List ℕ → Type 0
Begins front bytes = (more : List ℕ) × (bytes ≡ front ++ more)

pub begins_more : (front bytes more : List ℕ) → Begins front bytes → Begins front (bytes ++ more)
begins_more front bytes more h = (h.0 ++ more, ap (λ (l : List ℕ). l ++ more) h.1 ∙ append_assoc front h.0 more)
