use Rattle.std.proofs.Common.{Ok, sym, ap, ◌∙◌}
use Rattle.std.proofs.lemmas.Str.{is_utf8-from_IsUtf8}
use Rattle.canonical.specs.declared.error.CanonError.TheVariants.{BadUtf8}
use Rattle.messages.specs.declared.error.MessageError.TheVariants.{Wire}
use Rattle.messages.proofs.Choices.{given_unrefused, refusal_told}
use Rattle.action_messages.specs.Fields.{string_of}
use Rattle.action_messages.proofs.Strings.{string_given, string_refused}
use Rattle.action_messages.proofs.fields.copy_text.Goals as goal

pub returns-in_ok-from_str-in-Ok-clause-exact : goal.returns-in_ok-from_str-in-Ok-clause-exact
returns-in_ok-from_str-in-Ok-clause-exact g c =
    let e = c.in-Ok.ensures.cases in
    string_given c.args.bytes.now (is_utf8-from_IsUtf8 c.args.bytes.now e.1) ∙ ap Ok (sym e.0 ∙ sym c.in_ok-from_str-in-Ok.ensures.ok)

pub returns-in_ok-from_str-in-Ok-clause-refused : goal.returns-in_ok-from_str-in-Ok-clause-refused
returns-in_ok-from_str-in-Ok-clause-refused g c =
    given_unrefused _ (string_of c.args.bytes.now) c.args.bytes.now (string_given c.args.bytes.now (is_utf8-from_IsUtf8 c.args.bytes.now c.in-Ok.ensures.cases.1))

pub returns-in_err-from_str-in-Ok-clause-refused : goal.returns-in_err-from_str-in-Ok-clause-refused
returns-in_err-from_str-in-Ok-clause-refused g c =
    given_unrefused _ (string_of c.args.bytes.now) c.args.bytes.now (string_given c.args.bytes.now (is_utf8-from_IsUtf8 c.args.bytes.now c.in-Ok.ensures.cases.1))

pub returns-in-Err-clause-exact : goal.returns-in-Err-clause-exact
returns-in-Err-clause-exact g c = string_refused c.args.bytes.now c.in-Err.ensures.cases.0

pub returns-in-Err-clause-refused : goal.returns-in-Err-clause-refused
returns-in-Err-clause-refused g c = refusal_told (string_of c.args.bytes.now) (Wire BadUtf8) (returns-in-Err-clause-exact g c)
