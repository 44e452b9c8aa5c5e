-- What the private functions that take targets speak of: none of them overlaps another.
use Rattle.std.specs.Prelude.{◌≡◌, ◌↔◌, ◌⊎◌, ℕ, Bool, true, false, List, ◌++◌}
use Rattle.std.specs.declared.cmp.Ordering.{Ordering}
use Rattle.std.specs.Ordering.{nat_cmp}
use Rattle.std.specs.Cmp.Lexicographic.{slice_cmp}
use Rattle.std.specs.List.{Contains}
use Rattle.messages.specs.Path.{Overlap}
use Rattle.plan.specs.declared.version.Version.{Version}
use Rattle.plan.specs.declared.version.Version.TheVariants.{One, Two}
use Rattle.plan.specs.Faults.{OverlapsAny}

-- no two of the targets overlap
abbrev pub AreTargetsApart : List (List (List ℕ)) → Type 0
AreTargetsApart targets =
    (p q : List (List ℕ)) → Contains targets p → Contains targets q → Overlap p q → p ≡ q

-- A target is taken where it overlaps none, and then is one of the targets; else nothing changes.
abbrev pub TakesTarget : Bool → List (List ℕ) → List (List (List ℕ)) → List (List (List ℕ)) → Type 0
TakesTarget true path old new =
    (¬ OverlapsAny path old)
    × ((p : List (List ℕ)) → Contains new p ↔ ((p ≡ path) ⊎ Contains old p))
TakesTarget false path old new = OverlapsAny path old × (new ≡ old)

-- the target of one more line is taken so in the version: in version 2 each is, and none is kept
abbrev pub TakesIn : Version → Bool → List (List ℕ) → List (List (List ℕ)) → List (List (List ℕ))
    → Type 0
TakesIn One taken path old new = TakesTarget taken path old new
TakesIn Two taken path old new = (taken ≡ true) × (new ≡ old)

-- ---- what the code keeps

-- the order of paths by their names
abbrev pub names_cmp : List (List ℕ) → List (List ℕ) → Ordering
names_cmp = slice_cmp (slice_cmp nat_cmp)

-- a path is another, or lies below it
abbrev pub IsAtOrBelow : List (List ℕ) → List (List ℕ) → Type 0
IsAtOrBelow path above = (rest : List (List ℕ)) × (path ≡ above ++ rest)
