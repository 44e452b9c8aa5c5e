use Rattle.std.proofs.Common.{◌≡◌, List, [], Some, is_some, unwrap_or, ap, sym, subst, ◌∙◌}
use Rattle.blob_store.specs.Blobs.{found_in}
use Rattle.action_cache.specs.References.{Reference, references_by, references, first_fault_by, first_fault, outputs_of}
use Rattle.action_cache.specs.Reading.{by_messages, references_in}
use Rattle.action_cache.specs.Survey.{AreKnown, AreOnce, known}
use Rattle.action_cache.proofs.Learned.{known_references, known_first_fault}
use Rattle.action_cache.proofs.survey.walk.Goals as goal

pub returns : goal.returns
returns g c =
    let found = found_in c.args.blobs.now.entries in
    let b = c.args.bytes.now in
    let rs : List Reference = c.in-Some.outputs.items in
    let trees = c.in_ok-trees.trees in
    let outs : references_in b ≡ Some rs = sym (rw c.in-Some.is at c.in_ok-outputs.ensures) in
    let at : outputs_of by_messages b ≡ rs = ap (λ o. unwrap_or o []) outs in
    let read : AreKnown trees found rs = subst (AreKnown trees found) c.deref.ensures.value c.in_ok-trees.ensures in
    let refs : c.in_ok-references.references.items ≡ references found by_messages (outputs_of by_messages b) =
    c.in_ok-references.ensures ∙ ap (references_by (known trees)) c.deref-2.ensures.value ∙ known_references found trees rs read ∙ ap (references found by_messages) (sym at) in
    record {
      reads = ap is_some outs;
      in_order = refs;
      once = subst (λ l. AreOnce l c.in_ok-once.once.items) (c.deref-3.ensures.value ∙ refs) c.in_ok-once.ensures;
      fault = c.first_fault-fault.ensures ∙ ap (first_fault_by found (known trees)) c.deref-4.ensures.value ∙ known_first_fault found trees rs read ∙ ap (first_fault found by_messages) (sym at);
    }
