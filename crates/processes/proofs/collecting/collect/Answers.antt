use Rattle.std.proofs.Common.{◌≡◌, ap, ◌∙◌, ◌≤◌, Err, length, take, subst, sym, arith}
use Rattle.std.specs.List.{AllByRecursion}
use Rattle.std.proofs.lemmas.List.{take_all}
use Rattle.tree.specs.Folded.{items_of}
use Rattle.processes.specs.Laying.{place_in}
use Rattle.messages.specs.Path.{path_text}
use Rattle.worker.specs.declared.runner.RunError.{RunError}
use Rattle.worker.specs.declared.runner.RunError.TheVariants as children
use Rattle.processes.specs.Collected.{HasNoOutput, IsFirstBad, IsSettled, IsUnread}
use Rattle.processes.specs.Walking.{IsUnreadOutput}
use Rattle.processes.proofs.Ends.{trouble_so, trouble_tells}
use Rattle.processes.proofs.Unread.{unread_output}
use Rattle.processes.proofs.Gathered.{all_collected, so_far_taken}
use Rattle.processes.proofs.Lists.{around}
use Rattle.processes.proofs.collecting.collect.Goals as goal

pub loop-path-preserved : goal.loop-path-preserved
loop-path-preserved g c =
    so_far_taken g.W.Workshop.works c.args.left.now.ended.now c.args.folder.now c.args.paths.now c.loop-path.path-index _ c.path-item.result
    c.loop-path.outcome (items_of c.loop-path.blobs.items) c.take_output.new.outcome (items_of c.take_output.new.blobs.items) c.as_str-in-loop-path.result.now
    c.loop-path-test.true c.path-item.is c.loop-path.invariant
    (c.as_str-in-loop-path.ensures.value ∙ c.in-Ok.ensures ∙ ap (λ t. place_in c.args.folder.now t) c.as_str.ensures.value)
    c.in-Ok-take_output.ensures.more

pub returns-clause-outputs : goal.returns-clause-outputs
returns-clause-outputs g c =
    let paths = c.args.paths.now in
    let end : length paths ≤ c.loop-path.path-index = omega (arith, c.loop-path-test.false) in
    record {
      found = c.loop-path.invariant.found;
      settled = subst (AllByRecursion (IsSettled g.W.Workshop.works c.args.left.now.ended.now c.args.folder.now c.loop-path.outcome.outputs)) (take_all c.loop-path.path-index paths end) c.loop-path.invariant.settled;
      only = c.loop-path.invariant.only;
    }

pub returns-in-Err-clause-bad : goal.returns-in-Err-clause-bad
returns-in-Err-clause-bad g c path is =
    let works = g.W.Workshop.works in
    let ended = c.args.left.now.ended.now in
    let folder = c.args.folder.now in
    let told : ◌≡◌ {A = RunError g.row.A.Denot} c.at.result (children.BadOutput path) = let e = is in cc in
    let at = c.at.ensures.bad path told in
    let place : c.as_str-in-loop-path.result.now ≡ place_in folder (path_text c.path-item.result) = c.as_str-in-loop-path.ensures.value ∙ c.in-Ok.ensures ∙ ap (λ t. place_in folder t) c.as_str.ensures.value in
    let bad : HasNoOutput works ended c.as_str-in-loop-path.result.now = c.in-Err.ensures.bad (ap Err at.1) in
    let whole = around c.args.paths.now c.loop-path.path-index c.path-item.result c.loop-path-test.true c.path-item.is in
    subst (IsFirstBad works ended folder c.args.paths.now) (sym at.0) (record {
      before = take c.loop-path.path-index c.args.paths.now;
      after = whole.0;
      whole = whole.1;
      collected = all_collected works ended folder c.args.paths.now (take c.loop-path.path-index c.args.paths.now) _ c.loop-path.outcome (items_of c.loop-path.blobs.items) c.loop-path.invariant;
      is = subst (HasNoOutput works ended) place bad;
    })

pub returns-in-Err-clause-failed : goal.returns-in-Err-clause-failed
returns-in-Err-clause-failed g c =
    let works = g.W.Workshop.works in
    let paths = c.args.paths.now in
    let ended = c.args.left.now.ended.now in
    let folder = c.args.folder.now in
    let before = take c.loop-path.path-index paths in
    let place : c.as_str-in-loop-path.result.now ≡ place_in folder (path_text c.path-item.result) = c.as_str-in-loop-path.ensures.value ∙ c.in-Ok.ensures ∙ ap (λ t. place_in folder t) c.as_str.ensures.value in
    let collected = all_collected works ended folder paths before _ c.loop-path.outcome (items_of c.loop-path.blobs.items) c.loop-path.invariant in
    trouble_tells (IsUnread works ended folder paths) c.in-Err.trouble c.args.program c.at.result
    (trouble_so (IsUnreadOutput works ended c.as_str-in-loop-path.result.now c.loop-path.outcome c.path-item.result) (IsUnread works ended folder paths) c.in-Err.trouble
    (λ error h. unread_output works ended folder c.as_str-in-loop-path.result.now paths c.loop-path.path-index c.path-item.result c.loop-path.outcome error c.loop-path-test.true c.path-item.is place collected c.loop-path.invariant.among h) c.in-Err.ensures.failed)
    c.at.ensures.failed
