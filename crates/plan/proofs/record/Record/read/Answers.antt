use Rattle.std.proofs.Common.{◌≡◌, ◌++◌, ◌∙◌, List, ℕ, [], ap, refl, inl, sym, subst, Err}
use Rattle.plan.specs.Parts.{BeginsWithEntry}
use Rattle.plan.specs.Record.{IsRecord, names_of, record_header, entries_text, IsEntryFault, IsRecordFault}
use Rattle.plan.specs.Reading.{FaultyUnlessMemory}
use Rattle.plan.specs.Values.{StepValue}
use Rattle.plan.proofs.Beginnings.{handed_on}
use Rattle.plan.proofs.Directories.{named, AreNamed}
use Rattle.plan.proofs.Entries.{record_with}
use Rattle.plan.proofs.Records.{only_handed_record, lifted_record, record_one, early_record, read_without_fault, told_record}
use Rattle.plan.proofs.StepNames.{step_names}
use Rattle.plan.proofs.record.Record.read.Goals as goal

pub returns-in_default-clause-only : goal.returns-in_default-clause-only
returns-in_default-clause-only g c = λ r is fits e. absurd (c.in_default.ensures (_, e))

pub read_entries-requires-clause-valid : goal.read_entries-requires-clause-valid
read_entries-requires-clause-valid g c = subst AreNamed (sym c.steps.ensures.value) (named [] c.args.plan.now.steps c.steps.ensures.valid.steps)

pub returns-in_err-digests-clause-fault : goal.returns-in_err-digests-clause-fault
returns-in_err-digests-clause-fault g c =
    handed_on c.from_residual.result c.in_err-digests.field-0.0 (IsEntryFault (step_names c.steps.result.now) (record_header ++ c.in-Some.rest.now)) (IsRecordFault (names_of c.args.plan.now) c.args.text.now) c.from_residual.ensures.1
    (λ x h. lifted_record (names_of c.args.plan.now) c.args.text.now c.in-Some.rest.now x c.in-Some.ensures (subst (λ (ss : List StepValue). IsEntryFault (step_names ss) (record_header ++ c.in-Some.rest.now) x) c.steps.ensures.value h))
    c.in_err-digests.ensures.fault

pub returns-in_err-digests-clause-only : goal.returns-in_err-digests-clause-only
returns-in_err-digests-clause-only g c = λ r is fits e. only_handed_record (names_of c.args.plan.now) c.args.text.now c.from_residual.result r c.from_residual.ensures.0 is fits e (returns-in_err-digests-clause-fault g c)

pub returns-clause-only : goal.returns-clause-only
returns-clause-only g c = λ r is fits e.
    let found : IsRecord (record_with (names_of c.args.plan.now) c.in_ok-digests.digests.items) × (c.in-Some.rest.now ≡ entries_text (names_of c.args.plan.now) c.in_ok-digests.digests.items) =
    subst (λ (ss : List StepValue). IsRecord (record_with (step_names ss) c.in_ok-digests.digests.items) × (c.in-Some.rest.now ≡ entries_text (step_names ss) c.in_ok-digests.digests.items)) c.steps.ensures.value c.in_ok-digests.ensures.found
    in
    (c.in_ok-new.ensures {u = tt})
    ∙ record_one (record_with (names_of c.args.plan.now) c.in_ok-digests.digests.items) r found.0 is (sym fits) (sym (c.in-Some.ensures ∙ ap (λ (t : List ℕ). record_header ++ t) found.1) ∙ e)

pub returns-in_default-clause-early : goal.returns-in_default-clause-early
returns-in_default-clause-early g c = λ e f few. ap Err (told_record (names_of c.args.plan.now) c.args.text.now c.at.result _ e c.at.ensures (subst (FaultyUnlessMemory (IsRecordFault (names_of c.args.plan.now) c.args.text.now)) (sym c.at.ensures) (inl (refl, c.in_default.ensures))) f)

pub returns-in_err-digests-clause-early : goal.returns-in_err-digests-clause-early
returns-in_err-digests-clause-early g c = λ e f few.
    early_record (names_of c.args.plan.now) c.args.text.now c.in-Some.rest.now c.from_residual.result c.in_err-digests.field-0.0 e c.in-Some.ensures c.from_residual.ensures.1 (returns-in_err-digests-clause-fault g c)
    (λ memory. subst (λ (ss : List StepValue). BeginsWithEntry (step_names ss) c.in-Some.rest.now) c.steps.ensures.value (c.in_err-digests.ensures.late (ap Err memory))) f few

pub returns-in_err-new-clause-early : goal.returns-in_err-new-clause-early
returns-in_err-new-clause-early g c = λ e f few.
    let found : IsRecord (record_with (names_of c.args.plan.now) c.in_ok-digests.digests.items) × (c.in-Some.rest.now ≡ entries_text (names_of c.args.plan.now) c.in_ok-digests.digests.items) =
    subst (λ (ss : List StepValue). IsRecord (record_with (step_names ss) c.in_ok-digests.digests.items) × (c.in-Some.rest.now ≡ entries_text (step_names ss) c.in_ok-digests.digests.items)) c.steps.ensures.value c.in_ok-digests.ensures.found
    in
    absurd (read_without_fault (names_of c.args.plan.now) c.args.text.now c.in-Some.rest.now c.in_ok-digests.digests.items e c.in-Some.ensures found.0 found.1 f)

pub returns-clause-early : goal.returns-clause-early
returns-clause-early g c = λ e f few.
    let found : IsRecord (record_with (names_of c.args.plan.now) c.in_ok-digests.digests.items) × (c.in-Some.rest.now ≡ entries_text (names_of c.args.plan.now) c.in_ok-digests.digests.items) =
    subst (λ (ss : List StepValue). IsRecord (record_with (step_names ss) c.in_ok-digests.digests.items) × (c.in-Some.rest.now ≡ entries_text (step_names ss) c.in_ok-digests.digests.items)) c.steps.ensures.value c.in_ok-digests.ensures.found
    in
    absurd (read_without_fault (names_of c.args.plan.now) c.args.text.now c.in-Some.rest.now c.in_ok-digests.digests.items e c.in-Some.ensures found.0 found.1 f)
