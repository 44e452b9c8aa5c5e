-- A source that keeps what it was asked for and told.
use Rattle.keeping.specs.declared.keeping.Keeping.{Keeping}
use Rattle.keeping.specs.declared.kept.Kept.{Kept}

module _ {S A : Type 0} where
  abbrev pub source_of : Keeping S A → S
  source_of k = k.source

  abbrev pub kept_of : Keeping S A → Kept A
  kept_of k = k.kept
