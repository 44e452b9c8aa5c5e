-- Checks one after another: each passes with what it found, or fails and says why.
use Rattle.std.specs.Prelude.{◌≡◌, ◌⊎◌}

-- one check: with what it passes, and why it fails
pub record Stage (E V : Type 0) : Type 1 where
  pub passes : V → Type 0
  pub fails : E → Type 0

infixr 5 ◌and_then◌
-- one check, and where it passes those after it, which know what it found
unfoldable pub ◌and_then◌ : {E V W : Type 0} → Stage E V → (V → Stage E W) → Stage E W
◌and_then◌ {E} {V} {W} first next = record {
  passes = λ w. (v : V) × first.passes v × (next v).passes w;
  fails = λ why. first.fails why ⊎ ((v : V) × first.passes v × (next v).fails why);
}

-- a check that finds nothing: it passes where a fact holds, and else it fails so
abbrev pub demands : {E : Type 0} → Type 0 → E → Stage E (Unit {0})
demands P why = record { passes = λ _. P; fails = λ e. (P → ⊥) × (e ≡ why) }

-- no check: it passes with a value
abbrev pub comes_to : {E V : Type 0} → V → Stage E V
comes_to value = record { passes = λ v. v ≡ value; fails = λ _. ⊥ }
