use Rattle.std.proofs.Common.{◌≡◌, ◌++◌, ◌∷◌, ◌∙◌, [], None, Some, ap, drop, rules, sym}
use Rattle.std.proofs.lemmas.Bool.Decides.{Decides-eqb}
use Rattle.std.proofs.lemmas.List.{append_cancel_left}
use Rattle.std.proofs.lemmas.Slice.Eq.{starts_is, strip_prefix_is}
use Rattle.commands.proofs.hint.has_first.Goals as goal

pub returns-in-Some : goal.returns-in-Some
returns-in-Some c =
    let text = c.args.text.now in
    let words = c.args.words.now in
    let behind = c.in-Some.behind.now in
    let cut : text ≡ words ++ behind = strip_prefix_is Decides-eqb text words (Some c.in-Some.behind) c.in-Some.ensures.cases in
    let starts = starts_is Decides-eqb behind (32 ∷ []) c.starts_with.result c.starts_with.ensures.value in (
      (λ yes. (drop 1 behind, cut ∙ ap (λ l. words ++ l) (starts.0 yes))),
      λ is. starts.1 is.0 (append_cancel_left words behind (32 ∷ is.0) (sym cut ∙ is.1)),
    )

pub returns-in-None : goal.returns-in-None
returns-in-None c =
    let words = c.args.words.now in (
      (λ never. absurd (search rules)),
      λ is. absurd (strip_prefix_is Decides-eqb c.args.text.now words None c.in-None.ensures.cases (32 ∷ is.0) is.1),
    )
