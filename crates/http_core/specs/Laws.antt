-- What holds of every stream and every session.
use Rattle.std.specs.Prelude.{◌≡◌, ℕ, List, [], ◌++◌, Option}
use Rattle.std.specs.List.{concat}
use Rattle.http_core.specs.Event.{EventValue}
use Rattle.http_core.specs.Stream.{Cuts}
use Rattle.http_core.specs.Session.{SessionValue, Stands, FeedsAll}

-- a stream has one list of events, and one rest
abbrev pub IsCutInOneWay : Type 0
IsCutInOneWay =
    (prefix stream : List ℕ) (x y : List EventValue) (a b : Option (List ℕ))
    → Cuts prefix stream x a → Cuts prefix stream y b → (x ≡ y) × (a ≡ b)

-- a longer stream has the events of a shorter one, and then others
abbrev pub CutsGoOn : Type 0
CutsGoOn =
    (prefix stream more : List ℕ) (x y : List EventValue) (a b : Option (List ℕ))
    → Cuts prefix stream x a → Cuts prefix (stream ++ more) y b
    → (others : List EventValue) × (y ≡ x ++ others)

-- fed a stream from its beginning, in whatever pieces, a session answers the stream's events
abbrev pub PiecesGiveTheWhole : Type 0
PiecesGiveTheWhole =
    (old new : SessionValue) (pieces : List (List ℕ)) (x y : List EventValue)
    (left : Option (List ℕ))
    → Stands old [] [] → FeedsAll old pieces x new → Cuts old.prefix (concat pieces) y left → x ≡ y

-- Pieces make no difference: bytes that are cut in two ways give the same events, and leave the
-- same session.
abbrev pub PiecesMakeNoDifference : Type 0
PiecesMakeNoDifference =
    (old a b : SessionValue) (stream : List ℕ) (before : List EventValue)
    (pieces others : List (List ℕ)) (x y : List EventValue)
    → Stands old stream before → concat pieces ≡ concat others
    → FeedsAll old pieces x a → FeedsAll old others y b → (x ≡ y) × (a ≡ b)
