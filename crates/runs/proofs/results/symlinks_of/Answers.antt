-- One output more.
use Rattle.std.proofs.Common.{◌≡◌, ℕ, List, ◌∷◌, [], ◌++◌, ap, sym, subst, ◌∙◌}
use Rattle.actions.specs.Outcome.{output_value}
use Rattle.action_messages.specs.OutputSymlink.{OutputSymlinkValue}
use Rattle.action_messages.specs.Outputs.{links_among}
use Rattle.runs.specs.Results.{recorded_output}
use Rattle.runs.proofs.Kept.{kind_next, as_it_was, links_cons, no_link}
use Rattle.runs.proofs.results.symlinks_of.Goals.{in-Link+in_ok-copy_of+in_ok-copy_of-2+in_ok-push, in_default}
use Rattle.runs.proofs.results.symlinks_of.Goals as goal

pub loop-output-preserved : goal.loop-output-preserved
loop-output-preserved g c =
    let acc = c.loop-output.symlinks.items in
    let p = c.output-item.result.0 in
    kind_next links_among links_cons c.args.outputs.now c.loop-output.output-index c.output-item.result c.loop-output-test.true c.output-item.is acc c.match-output.symlinks.items c.loop-output.invariant
    (elim c.match-output.branch [
      | in-Link+in_ok-copy_of+in_ok-copy_of-2+in_ok-push w ↦
          let one : List (List ℕ) → List ℕ → OutputSymlinkValue = λ q target. record { path = q; target = target } in
          subst (λ o. c.match-output.symlinks.items ≡ acc ++ links_among (recorded_output p (output_value o) ∷ [])) (sym w.in-Link.is)
          (ap (λ v. v.items) w.symlinks-is ∙ (w.in_ok-push.ensures {u = tt}).items ∙ ap (λ q. acc ++ one q w.in_ok-copy_of-2.field-0 ∷ []) (w.in_ok-copy_of.ensures {u = tt}) ∙ ap (λ target. acc ++ one p target ∷ []) (w.in_ok-copy_of-2.ensures {u = tt}))
      | in_default w ↦ ap (λ v. v.items) w.symlinks-is ∙ as_it_was acc (links_among (recorded_output p (output_value c.output-item.result.1) ∷ [])) (no_link p c.output-item.result.1 w.in_default.not-Link)
    ])
