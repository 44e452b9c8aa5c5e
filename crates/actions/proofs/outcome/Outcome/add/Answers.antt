use Rattle.std.proofs.Common.{◌≡◌, Some, None, refl, ap, subst}
use Rattle.std.specs.Prelude.{IfSome}
use Rattle.std.specs.List.{AllByRecursion, insert}
use Rattle.messages.specs.Path.{AreApart}
use Rattle.actions.specs.Outcome.{OutcomeValue, outputs_in}
use Rattle.actions.specs.Parts.{HasRoom}
use Rattle.actions.specs.OutcomeLookup.{StandsOver}
use Rattle.actions.proofs.OutcomeLookups.{no_output_over, paths_in, ascending, valid, paths_of}
use Rattle.actions.proofs.Added.{valid_added, is_added, full}
use Rattle.actions.proofs.outcome.Outcome.add.Goals as goal

pub room_for-requires-clause-ascend : goal.room_for-requires-clause-ascend
room_for-requires-clause-ascend g c =
    let o : OutcomeValue = record { exit_code = c.self.inside.exit_code; outputs = outputs_in c.self.inside.outputs.items } in
    rw c.deref.ensures.value (ascending o c.self.inside.outputs.items refl c.self.invariant)

pub room_for-requires-clause-valid : goal.room_for-requires-clause-valid
room_for-requires-clause-valid g c =
    let o : OutcomeValue = record { exit_code = c.self.inside.exit_code; outputs = outputs_in c.self.inside.outputs.items } in
    rw c.deref.ensures.value (valid o c.self.inside.outputs.items refl c.self.invariant)

pub room_for-requires-clause-apart : goal.room_for-requires-clause-apart
room_for-requires-clause-apart g c =
    let o : OutcomeValue = record { exit_code = c.self.inside.exit_code; outputs = outputs_in c.self.inside.outputs.items } in
    rw c.deref.ensures.value (subst AreApart (paths_of o c.self.inside.outputs.items refl) c.self.invariant.apart)

pub invariant_of-self-in-Some : goal.invariant_of-self-in-Some
invariant_of-self-in-Some g c =
    let items = c.self.inside.outputs.items in
    let room : HasRoom (paths_in items) c.args.path (Some c.in-Some.place) = subst (λ l. HasRoom (paths_in l) c.args.path (Some c.in-Some.place)) c.deref.ensures.value (subst (HasRoom (paths_in c.deref.result.now) c.args.path) c.in-Some.is c.in_ok-place.ensures.room) in
    let after : c.insert.new.self.items ≡ insert items c.in-Some.place (c.args.path, c.args.output) = (c.in_ok-insert-in-Some.ensures {u = tt}).items in
    rw after (valid_added items c.in-Some.place (c.args.path, c.args.output) c.self.inside.exit_code room)

pub returns-in_ok-insert-in-Some-clause-added : goal.returns-in_ok-insert-in-Some-clause-added
returns-in_ok-insert-in-Some-clause-added g c =
    let items = c.self.inside.outputs.items in
    let room : HasRoom (paths_in items) c.args.path (Some c.in-Some.place) = subst (λ l. HasRoom (paths_in l) c.args.path (Some c.in-Some.place)) c.deref.ensures.value (subst (HasRoom (paths_in c.deref.result.now) c.args.path) c.in-Some.is c.in_ok-place.ensures.room) in
    let after : c.insert.new.self.items ≡ insert items c.in-Some.place (c.args.path, c.args.output) = (c.in_ok-insert-in-Some.ensures {u = tt}).items in
    is_added c.args.self.now _ items c.in-Some.place (c.args.path, c.args.output) (ap (λ (o : OutcomeValue). o.outputs) c.self.view_is) (ap outputs_in after) (ap (λ (o : OutcomeValue). o.exit_code) c.self.view_is) room

pub returns-in-None-clause-refused : goal.returns-in-None-clause-refused
returns-in-None-clause-refused g c =
    let items = c.self.inside.outputs.items in
    let none : HasRoom (paths_in items) c.args.path None = subst (λ l. HasRoom (paths_in l) c.args.path None) c.deref.ensures.value (subst (HasRoom (paths_in c.deref.result.now) c.args.path) c.in-None.is c.in_ok-place.ensures.room) in
    (refl, full c.args.self.now items c.args.path (ap (λ (o : OutcomeValue). o.outputs) c.self.view_is) none)

pub returns-in_err-place-clause-memory : goal.returns-in_err-place-clause-memory
returns-in_err-place-clause-memory g c is =
    let items = c.self.inside.outputs.items in
    no_output_over c.args.self.now c.args.path items (ap (λ (o : OutcomeValue). o.outputs) c.self.view_is)
    (subst (λ l. AllByRecursion (λ above. ¬ StandsOver above c.args.path) (paths_in l)) c.deref.ensures.value c.in_err-place.ensures.memory)

pub returns-in_err-insert-in-Some-clause-memory : goal.returns-in_err-insert-in-Some-clause-memory
returns-in_err-insert-in-Some-clause-memory g c is =
    let items = c.self.inside.outputs.items in
    no_output_over c.args.self.now c.args.path items (ap (λ (o : OutcomeValue). o.outputs) c.self.view_is)
    (subst (λ l. AllByRecursion (λ above. ¬ StandsOver above c.args.path) (paths_in l)) c.deref.ensures.value
    (subst (λ o. IfSome o (λ _. AllByRecursion (λ above. ¬ StandsOver above c.args.path) (paths_in c.deref.result.now))) c.in-Some.is c.in_ok-place.ensures.above))
