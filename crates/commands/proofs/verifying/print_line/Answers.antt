use Rattle.std.proofs.Common.{[], ◌∷◌, ◌∙◌, OnErr, OnOk, refl, subst, sym}
use Rattle.std.specs.Io.KnownBytes.{Appends}
use Rattle.std.proofs.KnownBytes.{Appends-kept}
use Rattle.commands.specs.Told.{AppendsBeginning, AppendsPart}
use Rattle.report.specs.Line.{HasNoNewline}
use Rattle.commands.proofs.Gotten.{on_err}
use Rattle.commands.proofs.Writing.{back_of_line, beginning_of_all, beginning_of_back, beginning_of_front, beginning_of_part, front_of_line, line_at_end, no_line_at_end, no_line_of_all, no_line_of_part, where_err}
use Rattle.commands.proofs.verifying.print_line.Goals as goal

pub returns-in_err-write_bytes-clause-unended : goal.returns-in_err-write_bytes-clause-unended
returns-in_err-write_bytes-clause-unended g c =
    let whole = c.as_bytes-line.ensures.value ∙ c.requires.ended in
    let front = c.split_at.ensures.front ∙ front_of_line c.requires.text c.as_bytes-line.result.now _ whole refl in
    where_err c.from_residual.result
    (no_line_of_part (g.O.Write.contents c.args.out.now) (g.O.Write.contents c.write_bytes.new.out) c.split_at.result.0.now
    (subst HasNoNewline (sym front) c.requires.unbroken) c.in_err-write_bytes.ensures.part)

pub returns-in_err-map_err-clause-unended : goal.returns-in_err-map_err-clause-unended
returns-in_err-map_err-clause-unended g c =
    let old = g.O.Write.contents c.args.out.now in
    let mid = g.O.Write.contents c.write_bytes.new.out in
    let new = g.O.Write.contents c.flush.new.self in
    let whole = c.as_bytes-line.ensures.value ∙ c.requires.ended in
    let front = c.split_at.ensures.front ∙ front_of_line c.requires.text c.as_bytes-line.result.now _ whole refl in
    where_err c.from_residual-in_err-map_err.result
    (no_line_of_all old new c.split_at.result.0.now (subst HasNoNewline (sym front) c.requires.unbroken)
    (Appends-kept old mid new c.split_at.result.0.now c.in_ok-write_bytes.ensures.written c.flush.ensures.bytes))

pub returns-clause-unended : goal.returns-clause-unended
returns-clause-unended g c =
    let old = g.O.Write.contents c.args.out.now in
    let mid = g.O.Write.contents c.flush.new.self in
    let new = g.O.Write.contents c.write_bytes-2.new.out in
    let whole = c.as_bytes-line.ensures.value ∙ c.requires.ended in
    let front = c.split_at.ensures.front ∙ front_of_line c.requires.text c.as_bytes-line.result.now _ whole refl in
    let back = c.split_at.ensures.back ∙ back_of_line c.requires.text c.as_bytes-line.result.now _ whole refl in
    no_line_at_end c.write_bytes-2.result old mid new c.split_at.result.0.now (subst HasNoNewline (sym front) c.requires.unbroken)
    (Appends-kept old (g.O.Write.contents c.write_bytes.new.out) mid c.split_at.result.0.now c.in_ok-write_bytes.ensures.written c.flush.ensures.bytes)
    (subst (λ bytes. OnErr c.write_bytes-2.result (AppendsPart mid new bytes)) back c.write_bytes-2.ensures.part)

pub returns-clause-printed : goal.returns-clause-printed
returns-clause-printed g c =
    let old = g.O.Write.contents c.args.out.now in
    let mid = g.O.Write.contents c.flush.new.self in
    let new = g.O.Write.contents c.write_bytes-2.new.out in
    let whole = c.as_bytes-line.ensures.value ∙ c.requires.ended in
    let front = c.split_at.ensures.front ∙ front_of_line c.requires.text c.as_bytes-line.result.now _ whole refl in
    let back = c.split_at.ensures.back ∙ back_of_line c.requires.text c.as_bytes-line.result.now _ whole refl in
    line_at_end c.write_bytes-2.result old mid new c.requires.text _ c.requires.ended
    (subst (Appends old mid) front
    (Appends-kept old (g.O.Write.contents c.write_bytes.new.out) mid c.split_at.result.0.now c.in_ok-write_bytes.ensures.written c.flush.ensures.bytes))
    (subst (λ bytes. OnOk c.write_bytes-2.result (Appends mid new bytes)) back c.write_bytes-2.ensures.written)

-- a beginning of the line
pub returns-in_err-write_bytes-clause-begun : goal.returns-in_err-write_bytes-clause-begun
returns-in_err-write_bytes-clause-begun g c =
    let old = g.O.Write.contents c.args.out.now in
    let new = g.O.Write.contents c.write_bytes.new.out in
    let whole = c.as_bytes-line.ensures.value ∙ c.requires.ended in
    let front = c.split_at.ensures.front ∙ front_of_line c.requires.text c.as_bytes-line.result.now _ whole refl in
    where_err c.from_residual.result
    (beginning_of_front old new c.requires.text (10 ∷ []) c.args.line.now c.requires.ended
    (subst (AppendsBeginning old new) front (beginning_of_part old new c.split_at.result.0.now c.in_err-write_bytes.ensures.part)))

pub returns-in_err-map_err-clause-begun : goal.returns-in_err-map_err-clause-begun
returns-in_err-map_err-clause-begun g c =
    let old = g.O.Write.contents c.args.out.now in
    let mid = g.O.Write.contents c.write_bytes.new.out in
    let new = g.O.Write.contents c.flush.new.self in
    let whole = c.as_bytes-line.ensures.value ∙ c.requires.ended in
    let front = c.split_at.ensures.front ∙ front_of_line c.requires.text c.as_bytes-line.result.now _ whole refl in
    where_err c.from_residual-in_err-map_err.result
    (beginning_of_front old new c.requires.text (10 ∷ []) c.args.line.now c.requires.ended
    (subst (AppendsBeginning old new) front (beginning_of_all old new c.split_at.result.0.now
    (Appends-kept old mid new c.split_at.result.0.now c.in_ok-write_bytes.ensures.written c.flush.ensures.bytes))))

pub returns-clause-begun : goal.returns-clause-begun
returns-clause-begun g c =
    let old = g.O.Write.contents c.args.out.now in
    let mid = g.O.Write.contents c.flush.new.self in
    let new = g.O.Write.contents c.write_bytes-2.new.out in
    let whole = c.as_bytes-line.ensures.value ∙ c.requires.ended in
    let front = c.split_at.ensures.front ∙ front_of_line c.requires.text c.as_bytes-line.result.now _ whole refl in
    let back = c.split_at.ensures.back ∙ back_of_line c.requires.text c.as_bytes-line.result.now _ whole refl in
    on_err c.write_bytes-2.result (subst (λ bytes. OnErr c.write_bytes-2.result (AppendsPart mid new bytes)) back c.write_bytes-2.ensures.part)
    (beginning_of_back old mid new c.requires.text (10 ∷ []) c.args.line.now c.requires.ended
    (subst (Appends old mid) front
    (Appends-kept old (g.O.Write.contents c.write_bytes.new.out) mid c.split_at.result.0.now c.in_ok-write_bytes.ensures.written c.flush.ensures.bytes)))
