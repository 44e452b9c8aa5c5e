use Rattle.std.proofs.Common.{◌≡◌, ◌+◌, ◌++◌, ◌∷◌, [], ap, ◌∙◌, drop}
use Rattle.std.specs.List.{flat_map}
use Rattle.std.proofs.lemmas.Result.{err_from_is_err_and}
use Rattle.std.proofs.lemmas.List.{map_push}
use Rattle.wire.specs.Fields.{item_of}
use Rattle.wire.specs.Reading.{any_fields_of}
use Rattle.wire.specs.Record.{record_of, records_of}
use Rattle.canonical.specs.Known.{any_fields_checked}
use Rattle.canonical.specs.View.{slices}
use Rattle.canonical.proofs.Behind.{fails, some_read}
use Rattle.canonical.proofs.KnownFields.{starts, enters, goes_on, breaks, faults, leaves, finishes}
use Rattle.canonical.proofs.known.any_checked.Goals as goal

pub loop-text-init : goal.loop-text-init
loop-text-init g c = starts (records_of c.new-fields.result.items) c.args.shape.now c.args.skipped.now (slices c.args.texts.now) (ap records_of c.new-fields.ensures.items)

pub loop-field-init : goal.loop-field-init
loop-field-init g c = (tt, tt, enters (records_of c.loop-text.fields.items) c.args.shape.now c.args.skipped.now c.args.texts.now c.loop-text.text-index _ c.into_iter-field-iterator.result _ c.loop-text-test.true (c.into_iter-field-iterator.ensures.into_iter_gives ∙ c.any-field-items.ensures.exact) c.loop-text.invariant)

pub returns-in_err-field-clause-exact : goal.returns-in_err-field-clause-exact
returns-in_err-field-clause-exact g c =
    let p = err_from_is_err_and c.from_residual.result c.from_residual.ensures.1 in
    let others = flat_map any_fields_of (drop (c.loop-text.text-index + 1) (slices c.args.texts.now)) in
    let is = c.in-Some.ensures.steps ∙ ap (λ x. item_of x ∷ c.next.new.self) c.in_err-field.was in
    rw (p.1, p.2) (faults c.in_err-field.field-0.0 (records_of c.loop-field.fields.items) c.args.shape.now c.args.skipped.now (c.loop-field.field-iterator ++ others) (c.next.new.self ++ others) (any_fields_checked c.args.shape.now c.args.skipped.now (slices c.args.texts.now)) (ap (λ l. l ++ others) is) c.loop-field.invariant.2)

pub returns-in_err-check_any_field-clause-exact : goal.returns-in_err-check_any_field-clause-exact
returns-in_err-check_any_field-clause-exact g c =
    let p = err_from_is_err_and c.from_residual-in_err-check_any_field.result c.from_residual-in_err-check_any_field.ensures.1 in
    let others = flat_map any_fields_of (drop (c.loop-text.text-index + 1) (slices c.args.texts.now)) in
    let is = c.in-Some.ensures.steps ∙ ap (λ x. item_of x ∷ c.next.new.self) c.in_ok-field.was in
    let total = any_fields_checked c.args.shape.now c.args.skipped.now (slices c.args.texts.now) in
    rw (p.1, p.2) (fails c.in_err-check_any_field.field-0.0 total (breaks c.in_err-check_any_field.field-0.0 (records_of c.loop-field.fields.items) c.args.shape.now c.args.skipped.now (record_of c.in_ok-field.field) (c.loop-field.field-iterator ++ others) (c.next.new.self ++ others) total (ap (λ l. l ++ others) is) c.in_err-check_any_field.ensures c.loop-field.invariant.2))

pub returns-in_err-field-clause-none : goal.returns-in_err-field-clause-none
returns-in_err-field-clause-none g c = λ none.
    let others = flat_map any_fields_of (drop (c.loop-text.text-index + 1) (slices c.args.texts.now)) in
    let is = c.in-Some.ensures.steps ∙ ap (λ x. item_of x ∷ c.next.new.self) c.in_err-field.was in
    let refused = faults c.in_err-field.field-0.0 (records_of c.loop-field.fields.items) c.args.shape.now c.args.skipped.now (c.loop-field.field-iterator ++ others) (c.next.new.self ++ others) (any_fields_checked c.args.shape.now c.args.skipped.now (slices c.args.texts.now)) (ap (λ l. l ++ others) is) c.loop-field.invariant.2 in
    absurd cc

pub returns-in_err-check_any_field-clause-none : goal.returns-in_err-check_any_field-clause-none
returns-in_err-check_any_field-clause-none g c = λ none.
    let others = flat_map any_fields_of (drop (c.loop-text.text-index + 1) (slices c.args.texts.now)) in
    let is = c.in-Some.ensures.steps ∙ ap (λ x. item_of x ∷ c.next.new.self) c.in_ok-field.was in
    let refused = breaks c.in_err-check_any_field.field-0.0 (records_of c.loop-field.fields.items) c.args.shape.now c.args.skipped.now (record_of c.in_ok-field.field) (c.loop-field.field-iterator ++ others) (c.next.new.self ++ others) (any_fields_checked c.args.shape.now c.args.skipped.now (slices c.args.texts.now)) (ap (λ l. l ++ others) is) c.in_err-check_any_field.ensures c.loop-field.invariant.2 in
    absurd cc

pub returns-in_err-push-clause-none : goal.returns-in_err-push-clause-none
returns-in_err-push-clause-none g c = λ none.
    let others = flat_map any_fields_of (drop (c.loop-text.text-index + 1) (slices c.args.texts.now)) in
    let is = c.in-Some.ensures.steps ∙ ap (λ x. item_of x ∷ c.next.new.self) c.in_ok-field.was in
    absurd (some_read (records_of c.loop-field.fields.items) (record_of c.in_ok-field.field) _ (goes_on (records_of c.loop-field.fields.items) c.args.shape.now c.args.skipped.now (record_of c.in_ok-field.field) (c.loop-field.field-iterator ++ others) (c.next.new.self ++ others) (any_fields_checked c.args.shape.now c.args.skipped.now (slices c.args.texts.now)) (ap (λ l. l ++ others) is) c.in_ok-check_any_field.ensures c.loop-field.invariant.2 ∙ none))

pub loop-field-preserved : goal.loop-field-preserved
loop-field-preserved g c =
    let others = flat_map any_fields_of (drop (c.loop-text.text-index + 1) (slices c.args.texts.now)) in
    let is = c.in-Some.ensures.steps ∙ ap (λ x. item_of x ∷ c.next.new.self) c.in_ok-field.was in
    let e : records_of c.push.new.self.items ≡ records_of c.loop-field.fields.items ++ record_of c.in_ok-field.field ∷ [] = rw c.in_ok-push.ensures.items (map_push _ c.loop-field.fields.items c.in_ok-field.field) in
    (tt, tt, rw e (goes_on (records_of c.loop-field.fields.items) c.args.shape.now c.args.skipped.now (record_of c.in_ok-field.field) (c.loop-field.field-iterator ++ others) (c.next.new.self ++ others) (any_fields_checked c.args.shape.now c.args.skipped.now (slices c.args.texts.now)) (ap (λ l. l ++ others) is) c.in_ok-check_any_field.ensures c.loop-field.invariant.2))

pub loop-text-preserved : goal.loop-text-preserved
loop-text-preserved g c = leaves (records_of c.loop-field.fields.items) c.args.shape.now c.args.skipped.now c.loop-field.field-iterator (flat_map any_fields_of (drop (c.loop-text.text-index + 1) (slices c.args.texts.now))) _ c.in-None.ensures.steps.0 c.loop-field.invariant.2

pub returns-clause-exact : goal.returns-clause-exact
returns-clause-exact g c = finishes (records_of c.loop-text.fields.items) c.args.shape.now c.args.skipped.now c.args.texts.now c.loop-text.text-index _ c.loop-text-test.false c.loop-text.invariant
