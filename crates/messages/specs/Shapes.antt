-- The fields of a message, by number, kind and label.
use Rattle.std.specs.Prelude.{ℕ, true, false}
use Rattle.canonical.specs.declared.shape.Kind.{Kind}
use Rattle.canonical.specs.declared.shape.Entry.{Entry}

abbrev pub single : ℕ → Kind → Entry
single number kind = record { number = number; kind = kind; repeated = false }

abbrev pub repeated : ℕ → Kind → Entry
repeated number kind = record { number = number; kind = kind; repeated = true }
