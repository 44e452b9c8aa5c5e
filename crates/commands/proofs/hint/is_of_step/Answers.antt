use Rattle.std.proofs.Common.{◌≡◌, ◌++◌, ◌∷◌, ◌∙◌, Some, ap, codes, sym}
use Rattle.std.proofs.lemmas.Bool.Decides.{Decides-eqb}
use Rattle.std.proofs.lemmas.List.{append_cancel_left}
use Rattle.std.proofs.lemmas.Slice.Eq.{strip_prefix_is}
use Rattle.commands.proofs.hint.is_of_step.Goals as goal

pub returns-in-Some : goal.returns-in-Some
returns-in-Some c =
    let line = c.args.line.now in
    let name = c.args.name.now in
    let behind = c.in-Some.behind.now in
    let cut : line ≡ codes "step " ++ behind = strip_prefix_is Decides-eqb line (codes "step ") (Some c.in-Some.behind) c.in-Some.ensures.cases in
    let first = c.has_first.ensures in (
      (λ yes. let rest = first.0 yes in (rest.0, cut ∙ ap (λ l. codes "step " ++ l) rest.1)),
      λ is. first.1 (is.0, append_cancel_left (codes "step ") behind (name ++ 32 ∷ is.0) (sym cut ∙ is.1)),
    )
