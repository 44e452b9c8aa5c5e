use Rattle.std.proofs.Common.{Ok, subst, sym, ap, ◌∙◌}
use Rattle.messages.specs.Name.{IsName, is_segment, name_of}
use Rattle.messages.specs.declared.error.MessageError.TheVariants.{BadName}
use Rattle.messages.proofs.Choices.{given_unrefused, refusal_told}
use Rattle.messages.proofs.Names.{name_valid, name_given, no_text, no_name}
use Rattle.messages.proofs.name.read_name.Goals as goal
use Rattle.messages.proofs.name.read_name.Goals.{in_default-via-in-Ok+else-is_segment, in_default-via-in_default}

pub returns-in_ok-from_str-in-Ok-clause-exact : goal.returns-in_ok-from_str-in-Ok-clause-exact
returns-in_ok-from_str-in-Ok-clause-exact g c =
    let e = c.in-Ok.ensures.cases in
    let test = ap is_segment (sym e.0 ∙ sym c.as_bytes.ensures.value) ∙ sym c.is_segment.ensures ∙ c.if-is_segment.true in
    name_given c.args.text.now (name_valid c.args.text.now e.1 test) ∙ ap Ok (sym e.0 ∙ sym c.in_ok-from_str-in-Ok.ensures.ok)

pub returns-in_default-clause-exact : goal.returns-in_default-clause-exact
returns-in_default-clause-exact g c =
    elim c.in_default.branch [
      | in_default-via-in-Ok+else-is_segment w ↦
          let e = w.in-Ok.ensures.cases in
          no_name c.args.text.now e.1 (ap is_segment (sym e.0 ∙ sym w.as_bytes.ensures.value) ∙ sym w.is_segment.ensures ∙ w.if-is_segment.false)
      | in_default-via-in_default w ↦ no_text c.args.text.now w.in_default.ensures.cases.0
    ]

pub invariant_of-result : goal.invariant_of-result
invariant_of-result g c =
    let e = c.in-Ok.ensures.cases in
    let test = ap is_segment (sym e.0 ∙ sym c.as_bytes.ensures.value) ∙ sym c.is_segment.ensures ∙ c.if-is_segment.true in
    subst IsName (sym e.0 ∙ sym c.in_ok-from_str-in-Ok.ensures.ok) (name_valid c.args.text.now e.1 test)

pub returns-in_ok-from_str-in-Ok-clause-refused : goal.returns-in_ok-from_str-in-Ok-clause-refused
returns-in_ok-from_str-in-Ok-clause-refused g c =
    let e = c.in-Ok.ensures.cases in
    let test = ap is_segment (sym e.0 ∙ sym c.as_bytes.ensures.value) ∙ sym c.is_segment.ensures ∙ c.if-is_segment.true in
    given_unrefused _ (name_of c.args.text.now) c.args.text.now (name_given c.args.text.now (name_valid c.args.text.now e.1 test))

pub returns-in_err-from_str-in-Ok-clause-refused : goal.returns-in_err-from_str-in-Ok-clause-refused
returns-in_err-from_str-in-Ok-clause-refused g c =
    let e = c.in-Ok.ensures.cases in
    let test = ap is_segment (sym e.0 ∙ sym c.as_bytes.ensures.value) ∙ sym c.is_segment.ensures ∙ c.if-is_segment.true in
    given_unrefused _ (name_of c.args.text.now) c.args.text.now (name_given c.args.text.now (name_valid c.args.text.now e.1 test))

pub returns-in_default-clause-refused : goal.returns-in_default-clause-refused
returns-in_default-clause-refused g c = refusal_told (name_of c.args.text.now) BadName (returns-in_default-clause-exact g c)
