use Rattle.std.proofs.Common.{Ok, subst, sym, ap, ◌∙◌}
use Rattle.messages.specs.Target.{IsTarget, is_link, target_of}
use Rattle.messages.specs.declared.error.MessageError.TheVariants.{BadPath}
use Rattle.messages.proofs.Choices.{given_unrefused, refusal_told}
use Rattle.messages.proofs.Targets.{target_valid, target_given, no_text, no_target}
use Rattle.messages.proofs.target.read_target.Goals as goal
use Rattle.messages.proofs.target.read_target.Goals.{in_default-via-in-Ok+else-is_link, in_default-via-in_default}

pub returns-in_ok-from_str-in-Ok-clause-exact : goal.returns-in_ok-from_str-in-Ok-clause-exact
returns-in_ok-from_str-in-Ok-clause-exact g c =
    let e = c.in-Ok.ensures.cases in
    let test = ap is_link (sym e.0 ∙ sym c.as_bytes.ensures.value) ∙ sym c.is_link.ensures ∙ c.if-is_link.true in
    target_given c.args.text.now (target_valid c.args.text.now e.1 test) ∙ ap Ok (sym e.0 ∙ sym c.in_ok-from_str-in-Ok.ensures.ok)

pub returns-in_default-clause-exact : goal.returns-in_default-clause-exact
returns-in_default-clause-exact g c =
    elim c.in_default.branch [
      | in_default-via-in-Ok+else-is_link w ↦
          let e = w.in-Ok.ensures.cases in
          no_target c.args.text.now e.1 (ap is_link (sym e.0 ∙ sym w.as_bytes.ensures.value) ∙ sym w.is_link.ensures ∙ w.if-is_link.false)
      | in_default-via-in_default w ↦ no_text c.args.text.now w.in_default.ensures.cases.0
    ]

pub invariant_of-result : goal.invariant_of-result
invariant_of-result g c =
    let e = c.in-Ok.ensures.cases in
    let test = ap is_link (sym e.0 ∙ sym c.as_bytes.ensures.value) ∙ sym c.is_link.ensures ∙ c.if-is_link.true in
    subst IsTarget (sym e.0 ∙ sym c.in_ok-from_str-in-Ok.ensures.ok) (target_valid c.args.text.now e.1 test)

pub returns-in_ok-from_str-in-Ok-clause-refused : goal.returns-in_ok-from_str-in-Ok-clause-refused
returns-in_ok-from_str-in-Ok-clause-refused g c =
    let e = c.in-Ok.ensures.cases in
    let test = ap is_link (sym e.0 ∙ sym c.as_bytes.ensures.value) ∙ sym c.is_link.ensures ∙ c.if-is_link.true in
    given_unrefused _ (target_of c.args.text.now) c.args.text.now (target_given c.args.text.now (target_valid c.args.text.now e.1 test))

pub returns-in_err-from_str-in-Ok-clause-refused : goal.returns-in_err-from_str-in-Ok-clause-refused
returns-in_err-from_str-in-Ok-clause-refused g c =
    let e = c.in-Ok.ensures.cases in
    let test = ap is_link (sym e.0 ∙ sym c.as_bytes.ensures.value) ∙ sym c.is_link.ensures ∙ c.if-is_link.true in
    given_unrefused _ (target_of c.args.text.now) c.args.text.now (target_given c.args.text.now (target_valid c.args.text.now e.1 test))

pub returns-in_default-clause-refused : goal.returns-in_default-clause-refused
returns-in_default-clause-refused g c = refusal_told (target_of c.args.text.now) BadPath (returns-in_default-clause-exact g c)
