use Rattle.std.proofs.Common.{◌≡◌, ℕ, [], ◌∷◌, ◌++◌, map, take, sym, subst, ap, ◌∙◌}
use Rattle.std.proofs.lemmas.List.{map-append}
use Rattle.std.specs.declared.vec.Vec.{Vec}
use Rattle.messages.specs.Directory.{directory_bytes}
use Rattle.tree.specs.Folded.{items_of}
use Rattle.std.specs.List.{AllByRecursion}
use Rattle.std.proofs.lemmas.Result.{err_from_is_err_and}
use Rattle.messages.specs.DirectoryRules.{IsDirectory}
use Rattle.processes.proofs.Lists.{all_more, map_taken}
use Rattle.processes.proofs.Unread.{none_decoded}
use Rattle.processes.proofs.walking.read_directories.Goals as goal

pub loop-encoding-preserved : goal.loop-encoding-preserved
loop-encoding-preserved g c =
    let d = c.in_ok-decode.field-0 in
    let i = c.loop-encoding.encoding-index in
    let all = c.args.encodings.now in
    let bytes : directory_bytes d ≡ c.encoding-item.result.items = sym c.in_ok-decode.ensures.found.1 ∙ c.deref.ensures.value in (
      ap (map directory_bytes) c.in_ok-push.ensures.items ∙ map-append directory_bytes c.loop-encoding.directories.items (d ∷ [])
          ∙ ap (λ bs. bs ++ directory_bytes d ∷ []) c.loop-encoding.invariant.0 ∙ ap (λ b. items_of (take i all) ++ b ∷ []) bytes
          ∙ sym (map_taken (λ (b : Vec ℕ g.row.A.Denot). b.items) all i c.encoding-item.result c.loop-encoding-test.true c.encoding-item.is),
      subst (AllByRecursion IsDirectory) (sym c.in_ok-push.ensures.items) (all_more IsDirectory c.loop-encoding.directories.items d c.loop-encoding.invariant.1 c.in_ok-decode.ensures.found.0),
    )

pub returns-in_err-decode-clause-none : goal.returns-in_err-decode-clause-none
returns-in_err-decode-clause-none g c =
    let p = err_from_is_err_and c.from_residual.result c.from_residual.ensures.1 in
    rw p.1 (none_decoded c.args.encodings.now c.loop-encoding.encoding-index c.encoding-item.result c.in_err-decode.field-0.0 p.0 c.loop-encoding-test.true c.encoding-item.is p.2
    (λ d valid bytes. c.in_err-decode.ensures.only d valid (c.deref.ensures.value ∙ bytes)))
