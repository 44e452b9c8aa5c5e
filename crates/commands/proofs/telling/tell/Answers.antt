use Rattle.std.proofs.Common.{inl, inr, refl, subst, sym}
use Rattle.std.specs.Prelude.{codes}
use Rattle.commands.specs.Told.{AppendsBeginning}
use Rattle.commands.proofs.Writing.{beginning_of, tells_by}
use Rattle.commands.proofs.telling.tell.Goals as goal
use Rattle.commands.proofs.telling.tell.Goals.{in-Ok, in-Err}

pub returns : goal.returns
returns g c =
    let old = g.E.Write.contents c.args.err.now in
    let mid = g.E.Write.contents c.match-error_line.err in
    let new = g.E.Write.contents c.flush.new.self in
    elim c.match-error_line.branch [
      | in-Ok w ↦ tells_by c.args.error.now old mid new w.in-Ok.ensures.0 w.in-Ok.line.items (inl w.in-Ok.ensures.1) w.in-Ok.ensures.2
          (subst (λ e. AppendsBeginning old (g.E.Write.contents e) w.in-Ok.line.items) (sym w.err-is)
          (subst (AppendsBeginning old (g.E.Write.contents w.write_bytes.new.out)) w.deref.ensures.value (beginning_of old (g.E.Write.contents w.write_bytes.new.out) _ w.write_bytes.result w.write_bytes.ensures.written w.write_bytes.ensures.part)))
          c.flush.ensures.bytes
      | in-Err w ↦ tells_by c.args.error.now old mid new (codes "out of memory") (codes "error: out of memory\n") (inr refl) refl
          (subst (λ e. AppendsBeginning old (g.E.Write.contents e) (codes "error: out of memory\n")) (sym w.err-is)
          (beginning_of old (g.E.Write.contents w.write_bytes-in-Err.new.out) (codes "error: out of memory\n") w.write_bytes-in-Err.result
          w.write_bytes-in-Err.ensures.written w.write_bytes-in-Err.ensures.part))
          c.flush.ensures.bytes
    ]
