-- One output more.
use Rattle.std.proofs.Common.{◌≡◌, ℕ, List, ◌∷◌, [], ◌++◌, ap, sym, subst, ◌∙◌}
use Rattle.actions.specs.Outcome.{output_value}
use Rattle.action_messages.specs.OutputFile.{OutputFileValue}
use Rattle.action_messages.specs.Outputs.{files_among}
use Rattle.runs.specs.Results.{recorded_output}
use Rattle.runs.proofs.Kept.{kind_next, as_it_was, files_cons, no_file}
use Rattle.runs.proofs.results.files_of.Goals.{in-File+in_ok-copy_of+in_ok-push, in_default}
use Rattle.runs.proofs.results.files_of.Goals as goal

pub loop-output-preserved : goal.loop-output-preserved
loop-output-preserved g c =
    let acc = c.loop-output.files.items in
    let p = c.output-item.result.0 in
    kind_next files_among files_cons c.args.outputs.now c.loop-output.output-index c.output-item.result c.loop-output-test.true c.output-item.is acc c.match-output.files.items c.loop-output.invariant
    (elim c.match-output.branch [
      | in-File+in_ok-copy_of+in_ok-push w ↦
          let one : List (List ℕ) → OutputFileValue = λ q. record { path = q; digest = w.in-File.digest; executable = w.in-File.executable } in
          subst (λ o. c.match-output.files.items ≡ acc ++ files_among (recorded_output p (output_value o) ∷ [])) (sym w.in-File.is)
          (ap (λ v. v.items) w.files-is ∙ (w.in_ok-push.ensures {u = tt}).items ∙ ap (λ q. acc ++ one q ∷ []) (w.in_ok-copy_of.ensures {u = tt}))
      | in_default w ↦ ap (λ v. v.items) w.files-is ∙ as_it_was acc (files_among (recorded_output p (output_value c.output-item.result.1) ∷ [])) (no_file p c.output-item.result.1 w.in_default.not-File)
    ])
