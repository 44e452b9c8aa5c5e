use Rattle.std.proofs.Common.{◌++◌, ◌∷◌, codes, refl, subst}
use Rattle.std.proofs.KnownBytes.{Appends-trans}
use Rattle.std.specs.Io.KnownBytes.{Appends}
use Rattle.commands.specs.Told.{AppendsPart, erasing, line_over}
use Rattle.commands.proofs.Writing.{beginning_of, beginning_of_back, beginning_of_front, beginning_of_part, beginning_on}
use Rattle.commands.proofs.terminal_line.write_over.Goals as goal

pub returns-in_err-write_bytes : goal.returns-in_err-write_bytes
returns-in_err-write_bytes g c =
    let text = c.args.text.now in
    let old = g.T.Write.contents c.args.terminal.now in
    let new = g.T.Write.contents c.write_bytes.new.out in
    let head = erasing ++ 27 ∷ codes "[?7l" in
    beginning_of_front old new head (text ++ 27 ∷ codes "[?7h") (line_over text) refl (beginning_of_part old new head c.in_err-write_bytes.ensures.part)

pub returns-in_err-write_bytes-2 : goal.returns-in_err-write_bytes-2
returns-in_err-write_bytes-2 g c =
    let text = c.args.text.now in
    let old = g.T.Write.contents c.args.terminal.now in
    let mid = g.T.Write.contents c.write_bytes.new.out in
    let new = g.T.Write.contents c.write_bytes-2.new.out in
    let head = erasing ++ 27 ∷ codes "[?7l" in
    beginning_of_front old new (head ++ text) (27 ∷ codes "[?7h") (line_over text) refl
    (beginning_of_back old mid new head text (head ++ text) refl c.in_ok-write_bytes.ensures.written (subst (AppendsPart mid new) c.as_bytes.ensures.value c.in_err-write_bytes-2.ensures.part))

pub returns : goal.returns
returns g c =
    let text = c.args.text.now in
    let old = g.T.Write.contents c.args.terminal.now in
    let mid = g.T.Write.contents c.write_bytes.new.out in
    let told = g.T.Write.contents c.write_bytes-2.new.out in
    let new = g.T.Write.contents c.write_bytes-3.new.out in
    let head = erasing ++ 27 ∷ codes "[?7l" in
    let tail = 27 ∷ codes "[?7h" in
    beginning_on old told new (head ++ text) tail (line_over text) refl
    (Appends-trans old mid told head text c.in_ok-write_bytes.ensures.written (subst (Appends mid told) c.as_bytes.ensures.value c.in_ok-write_bytes-2.ensures.written))
    (beginning_of told new tail c.write_bytes-3.result c.write_bytes-3.ensures.written c.write_bytes-3.ensures.part)
