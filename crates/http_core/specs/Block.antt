-- The block of a head: the bytes up to and including the first CR LF CR LF (RFC 9112, section 2.1).
use Rattle.std.specs.Prelude.{◌≡◌, ℕ, List, [], ◌∷◌, ◌++◌}

-- the end of a line, and a line without bytes: CR LF CR LF
abbrev pub empty_line : List ℕ
empty_line = 13 ∷ 10 ∷ 13 ∷ 10 ∷ []

-- the bytes end in CR LF CR LF
abbrev pub EndsBlock : List ℕ → Type 0
EndsBlock bytes = (front : List ℕ) × (bytes ≡ front ++ empty_line)

-- no beginning of the bytes ends in CR LF CR LF
abbrev pub HasNoBlock : List ℕ → Type 0
HasNoBlock bytes = (front rest : List ℕ) → bytes ≡ front ++ rest → EndsBlock front → ⊥

-- the bytes end in CR LF CR LF, and no shorter beginning of them does
pub record IsBlock (bytes : List ℕ) : Type 0 where
  pub ends : EndsBlock bytes
  pub first : (front rest : List ℕ) → bytes ≡ front ++ rest → EndsBlock front → rest ≡ []
