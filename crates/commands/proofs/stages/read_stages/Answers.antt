use Rattle.std.proofs.Common.{◌≡◌, ◌∙◌, ◌∷◌, ◌++◌, ◌+◌, [], ℕ, ap, arith, length, subst, sym}
use Rattle.std.specs.List.{All}
use Rattle.std.proofs.lemmas.List.Elements.{All-push}
use Rattle.commands.specs.Stages.{IsNoStage, IsStage, TellsOfStages, stages_text}
use Rattle.commands.specs.declared.stages.StagesFault.TheVariants.{Line}
use Rattle.commands.proofs.Refused.{or_weaker}
use Rattle.commands.proofs.Listed.{has_none, has_some, stages_text-push}
use Rattle.commands.proofs.stages.read_stages.Goals as goal
use Rattle.commands.proofs.stages.read_stages.Goals.{else-is_empty-via-then-is_empty+else-not-is_empty, else-is_empty-via-else-is_empty}

pub loop-stage-preserved : goal.loop-stage-preserved
loop-stage-preserved c =
    let before = c.loop-stage.stages.items in
    let stage = c.in-Some.stage in
    let found = c.in-Some.ensures.found in
    let pushed : c.push.new.self.items ≡ before ++ stage ∷ [] = c.in_ok-push.ensures.items in (
      c.loop-stage.invariant.0 ∙ ap (λ rest. stages_text before ++ rest) found.1 ∙ sym (stages_text-push before stage c.in-Some.behind.now) ∙ ap (λ items. stages_text items ++ c.in-Some.behind.now) (sym pushed),
      subst (All IsStage) (sym pushed) (All-push IsStage before stage c.loop-stage.invariant.1 found.0),
    )

pub returns-clause-fault : goal.returns-clause-fault
returns-clause-fault c =
    let before = c.loop-stage.stages.items in
    let rest = c.loop-stage.rest.now in
    let line = c.len.result + 1 in
    let counted : line ≡ length before + 1 = omega (arith, c.len.ensures, c.loop-stage.stages.ok.0) in
    let ended : rest ≡ [] → before ≡ [] = λ none. elim c.else-is_empty.branch [
      | else-is_empty-via-then-is_empty+else-not-is_empty w ↦ has_none before _ _ w.if-not-is_empty.false w.is_empty-then-is_empty.ensures (omega (arith, c.loop-stage.stages.ok.0))
      | else-is_empty-via-else-is_empty w ↦ absurd (has_some rest _ w.if-is_empty.false c.is_empty.ensures none)
    ] in
    or_weaker (TellsOfStages c.args.path.now (Line line)) (λ e. (x : ℕ) × IsNoStage c.args.text.now x × TellsOfStages c.args.path.now (Line x) e) c.stages_error.result
    (λ tells. (
      line,
      record {
        before = before;
        valid = c.loop-stage.invariant.1;
        rest = rest;
        cut = c.loop-stage.invariant.0;
        line_is = counted;
        faulty = λ stage behind valid e. c.split_stage.ensures.only c.in_default.is stage behind valid e;
        ended = ended;
      },
      tells,
    )) c.stages_error.ensures
