use Rattle.std.proofs.Common.{Ok, sym, ap, ◌∙◌}
use Rattle.messages.specs.Path.{is_path, parts_of, path_of}
use Rattle.messages.specs.declared.error.MessageError.TheVariants.{BadPath}
use Rattle.messages.proofs.Choices.{given_unrefused, refusal_told}
use Rattle.messages.proofs.Paths.{path_taken, no_text, no_path}
use Rattle.messages.proofs.path.read_path.Goals as goal
use Rattle.messages.proofs.path.read_path.Goals.{in_default-via-in-Ok+else-is_path, in_default-via-in_default}

pub returns-in_ok-from_str-in-Ok-clause-exact : goal.returns-in_ok-from_str-in-Ok-clause-exact
returns-in_ok-from_str-in-Ok-clause-exact g c =
    let e = c.in-Ok.ensures.cases in
    let test = ap is_path (sym e.0) ∙ sym c.is_path.ensures.test ∙ c.if-is_path.true in
    path_taken c.args.text.now e.1 test ∙ ap (λ t. Ok (parts_of t)) (sym e.0 ∙ sym c.in_ok-from_str-in-Ok.ensures.ok)

pub returns-in_default-clause-exact : goal.returns-in_default-clause-exact
returns-in_default-clause-exact g c =
    elim c.in_default.branch [
      | in_default-via-in-Ok+else-is_path w ↦
          let e = w.in-Ok.ensures.cases in
          no_path c.args.text.now e.1 (ap is_path (sym e.0) ∙ sym w.is_path.ensures.test ∙ w.if-is_path.false)
      | in_default-via-in_default w ↦ no_text c.args.text.now w.in_default.ensures.cases.0
    ]

pub returns-in_ok-from_str-in-Ok-clause-refused : goal.returns-in_ok-from_str-in-Ok-clause-refused
returns-in_ok-from_str-in-Ok-clause-refused g c =
    let e = c.in-Ok.ensures.cases in
    let test = ap is_path (sym e.0) ∙ sym c.is_path.ensures.test ∙ c.if-is_path.true in
    given_unrefused _ (path_of c.args.text.now) (parts_of c.args.text.now) (path_taken c.args.text.now e.1 test)

pub returns-in_err-from_str-in-Ok-clause-refused : goal.returns-in_err-from_str-in-Ok-clause-refused
returns-in_err-from_str-in-Ok-clause-refused g c =
    let e = c.in-Ok.ensures.cases in
    let test = ap is_path (sym e.0) ∙ sym c.is_path.ensures.test ∙ c.if-is_path.true in
    given_unrefused _ (path_of c.args.text.now) (parts_of c.args.text.now) (path_taken c.args.text.now e.1 test)

pub returns-in_default-clause-refused : goal.returns-in_default-clause-refused
returns-in_default-clause-refused g c = refusal_told (path_of c.args.text.now) BadPath (returns-in_default-clause-exact g c)
