use Rattle.std.proofs.Common.{◌<◌, ◌≤◌, inl, inr, refl, subst}
use Rattle.http_core.specs.Judging.{Judges}
use Rattle.http_core.proofs.judging.judge.Goals as goal

pub returns-then-count_pairs-gt-MAX_PAIRS : goal.returns-then-count_pairs-gt-MAX_PAIRS
unfolding Judges
returns-then-count_pairs-gt-MAX_PAIRS c = inl (subst (λ n. 66 < n) c.count_pairs.ensures c.if-count_pairs-gt-MAX_PAIRS.true, refl)

pub returns-in-None : goal.returns-in-None
unfolding Judges
returns-in-None c = inr (inl (subst (λ n. n ≤ 66) c.count_pairs.ensures c.if-count_pairs-gt-MAX_PAIRS.false, c.in-None.ensures.none, refl))

pub returns-in-Some : goal.returns-in-Some
unfolding Judges
returns-in-Some c =
    let x = c.in-Some.ensures.head in
    inr (inr (
      subst (λ n. n ≤ 66) c.count_pairs.ensures c.if-count_pairs-gt-MAX_PAIRS.false,
      x.0,
      x.1,
      c.judge_head.ensures x.0 x.2,
    ))
