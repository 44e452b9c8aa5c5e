use Rattle.std.proofs.Common.{◌≡◌, ◌++◌, map, string_bytes}
use Rattle.archive.specs.Writing.{entry_value}
use Rattle.commands.proofs.kept_evidence.KeptEvidence.entries.Given as goal

abbrev pub invariant-loop-path : goal.invariant-loop-path
invariant-loop-path l =
    map entry_value l.entries.items ++ map (λ text. (string_bytes text.0, text.1.items)) l.path-iterator ≡ map (λ text. (string_bytes text.0, text.1.items)) l.self.texts.entries
