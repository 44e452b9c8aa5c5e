-- One output more.
use Rattle.std.proofs.Common.{◌≡◌, ℕ, List, ◌∷◌, [], ◌++◌, ap, sym, subst, ◌∙◌}
use Rattle.actions.specs.Outcome.{output_value}
use Rattle.blob_digest.specs.Digest.{DigestValue, digest_of}
use Rattle.action_messages.specs.OutputDirectory.{OutputDirectoryValue}
use Rattle.action_messages.specs.Outputs.{directories_among}
use Rattle.runs.specs.Results.{recorded_output}
use Rattle.runs.proofs.Kept.{kind_next, as_it_was, directories_cons, no_directory}
use Rattle.runs.proofs.results.directories_of.Goals.{in-Tree+in_ok-copy_of+in_ok-encode+in_ok-push, in_default}
use Rattle.runs.proofs.results.directories_of.Goals as goal

pub loop-output-preserved : goal.loop-output-preserved
loop-output-preserved g c =
    let acc = c.loop-output.directories.items in
    let p = c.output-item.result.0 in
    kind_next directories_among directories_cons c.args.outputs.now c.loop-output.output-index c.output-item.result c.loop-output-test.true c.output-item.is acc c.match-output.directories.items c.loop-output.invariant
    (elim c.match-output.branch [
      | in-Tree+in_ok-copy_of+in_ok-encode+in_ok-push w ↦
          let one : List (List ℕ) → DigestValue → OutputDirectoryValue = λ q d. record { path = q; tree = d } in
          subst (λ o. c.match-output.directories.items ≡ acc ++ directories_among (recorded_output p (output_value o) ∷ [])) (sym w.in-Tree.is)
          (ap (λ v. v.items) w.directories-is ∙ (w.in_ok-push.ensures {u = tt}).items ∙ ap (λ q. acc ++ one q w.of.result ∷ []) (w.in_ok-copy_of.ensures {u = tt}) ∙ ap (λ d. acc ++ one p d ∷ []) (w.of.ensures ∙ ap digest_of (w.deref.ensures.value ∙ (w.in_ok-encode.ensures {u = tt}).bytes)))
      | in_default w ↦ ap (λ v. v.items) w.directories-is ∙ as_it_was acc (directories_among (recorded_output p (output_value c.output-item.result.1) ∷ [])) (no_directory p c.output-item.result.1 w.in_default.not-Tree)
    ])
