use Rattle.std.proofs.Common.{◌≡◌, ◌+◌, ◌++◌, drop}
use Rattle.std.specs.List.{flat_map}
use Rattle.wire.specs.Reading.{any_fields_of}
use Rattle.wire.specs.Record.{records_of}
use Rattle.canonical.specs.Known.{any_checked, any_fields_checked}
use Rattle.canonical.specs.View.{slices}
use Rattle.wire.proofs.Steps.{with_front}
use Rattle.canonical.proofs.known.any_checked.Given as goal

abbrev pub invariant-loop-field : goal.invariant-loop-field
invariant-loop-field g l =
    (goal.iterator-loop-field g).can_next l.field-iterator ×
    (goal.iterator-loop-field g).is_finite l.field-iterator ×
    (with_front (records_of l.fields.items) (any_checked l.shape l.skipped (l.field-iterator ++ flat_map any_fields_of (drop (l.text-index + 1) (slices l.texts)))) ≡ any_fields_checked l.shape l.skipped (slices l.texts))

abbrev pub invariant-loop-text : goal.invariant-loop-text
invariant-loop-text g l = with_front (records_of l.fields.items) (any_checked l.shape l.skipped (flat_map any_fields_of (drop l.text-index (slices l.texts)))) ≡ any_fields_checked l.shape l.skipped (slices l.texts)
