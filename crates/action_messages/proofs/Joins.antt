-- The parts of a message, one after another.
use Rattle.std.proofs.Common.{◌≡◌, List, [], ◌++◌, append_assoc}
use Rattle.std.proofs.lemmas.List.{append-nil}
use Rattle.wire.specs.Record.{Record}

pub of_three : (a b c : List Record) → a ++ (b ++ (c ++ [])) ≡ a ++ b ++ c
of_three a b c = simp (append_assoc, append-nil)

pub of_four : (a b c d : List Record) → a ++ (b ++ (c ++ (d ++ []))) ≡ a ++ b ++ c ++ d
of_four a b c d = simp (append_assoc, append-nil)

pub of_five : (a b c d e : List Record) → a ++ (b ++ (c ++ (d ++ (e ++ [])))) ≡ a ++ b ++ c ++ d ++ e
of_five a b c d e = simp (append_assoc, append-nil)

pub of_eight : (a b c d e f g h : List Record) → a ++ (b ++ (c ++ (d ++ (e ++ (f ++ (g ++ (h ++ []))))))) ≡ a ++ b ++ c ++ d ++ e ++ f ++ g ++ h
of_eight a b c d e f g h = simp (append_assoc, append-nil)
