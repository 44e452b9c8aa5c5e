use Rattle.std.proofs.Common.{◌≡◌, ◌≢◌, ◌++◌, List, ℕ, Option, Some, None, Bor}
use Rattle.std.specs.Prelude.{MatchOption}
use Rattle.std.proofs.lemmas.Bool.Decides.{Decides-eqb}
use Rattle.std.proofs.lemmas.Slice.Eq.{strip_prefix_is}
use Rattle.plan.specs.Line.{Begins}
use Rattle.plan.proofs.words.strip.Goals as goal

told : (text front : List ℕ) (r : Option (Bor (List ℕ))) → MatchOption r ((rest : List ℕ) → text ≢ front ++ rest) (λ x. text ≡ front ++ x.now)
    → MatchOption r (¬ Begins front text) (λ x. text ≡ front ++ x.now)
told text front None h = λ (rest, e). h rest e
told text front (Some x) h = h

pub returns : goal.returns
returns c = told c.args.text.now c.args.front.now _ (strip_prefix_is Decides-eqb c.args.text.now c.args.front.now _ c.strip_prefix.ensures.cases)
