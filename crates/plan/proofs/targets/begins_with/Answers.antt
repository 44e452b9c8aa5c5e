use Rattle.std.proofs.Common.{◌≡◌, ◌++◌, ◌∙◌, sym, ap, drop, length, List, ℕ}
use Rattle.std.specs.Cmp.Lexicographic.{bytes_decides}
use Rattle.std.proofs.lemmas.Slice.Eq.{starts_is}
use Rattle.plan.proofs.targets.begins_with.Goals as goal

pub returns : goal.returns
returns g c =
    let answer = starts_is bytes_decides c.deref.result.now c.deref-2.result.now c.starts_with.result c.starts_with.ensures.value in
    let whole : c.deref.result.now ≡ c.args.names.now = cc in
    let front : c.deref-2.result.now ≡ c.args.above.now = cc in
    let begins = rw (whole, front) at answer.0 in
    (λ h. (drop (length c.args.above.now) c.args.names.now, begins h), λ w. answer.1 w.0 (whole ∙ w.1 ∙ ap (λ (l : List (List ℕ)). l ++ w.0) (sym front)))
