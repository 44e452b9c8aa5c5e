-- What reading an output looks at: the Tree of a directory, and nothing for a file or a link.
use Rattle.std.specs.Prelude.{List, Contains}
use Rattle.action_messages.specs.OutputDirectory.{OutputDirectoryValue}
use Rattle.action_messages.specs.Outputs.{RecordedValue, file, directory, link}
use Rattle.tree.specs.Memo.{Asked, LooksAtBlob}

abbrev pub OutputLooksAt : RecordedValue → Asked → Type 0
OutputLooksAt (file f) a = ⊥
OutputLooksAt (directory d) a = LooksAtBlob d.tree a
OutputLooksAt (link l) a = ⊥

-- reading a result's outputs: the Trees of its directories
abbrev pub TreesLookAt : List OutputDirectoryValue → Asked → Type 0
TreesLookAt ds a = (d : OutputDirectoryValue) × Contains ds d × LooksAtBlob d.tree a
