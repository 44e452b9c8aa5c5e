use Rattle.std.proofs.Common.{◌≡◌, ℕ, List, [], ◌∷◌, ◌++◌, Some, sym, subst, inl, inr, refl, arith, append-nil}
use Rattle.tree.specs.Folded.{items_of}
use Rattle.actions.specs.Outcome.{AddsOutput, output_value}
use Rattle.processes.specs.Collected.{IsOutputAt}
use Rattle.processes.proofs.Walks.{contains_one}
use Rattle.std.proofs.lemmas.Result.{err_from_is_err_and}
use Rattle.processes.proofs.Unread.{here_unwalked, output_unread, system_tells, unread_added, walk_unread}
use Rattle.processes.proofs.collecting.take_output.Goals as goal
use Rattle.processes.proofs.collecting.take_output.Goals.{in-File+in_ok-digest-in-File, in-Folder+in_ok-keep_folder-in-Folder}

pub returns-in-Nothing-clause-more : goal.returns-in-Nothing-clause-more
returns-in-Nothing-clause-more g c = record {
  own = [];
  blobs = sym (append-nil (items_of c.args.blobs.now.items));
  more = inl (subst (λ s. g.W.Workshop.works.stands c.args.left.now.ended.now c.args.place.now s) c.in-Nothing.is c.in_ok-look.ensures.told, refl, refl);
}

pub returns-clause-more : goal.returns-clause-more
returns-clause-more g c =
    let works = g.W.Workshop.works in
    let place = c.args.place.now in
    let ended = c.args.left.now.ended.now in
    let before = items_of c.args.blobs.now.items in
    let output = c.match-branch-2.output in
    let made : (own : List (List ℕ)) × (items_of c.match-branch-2.blobs.items ≡ before ++ own) × IsOutputAt works ended place (output_value output) own = elim c.match-branch-2.branch [
      | in-File+in_ok-digest-in-File w ↦ (
          let e = w.in_ok-digest-in-File.ensures.kept in
          let stands = subst (λ s. works.stands ended place s) w.in-File.is c.in_ok-look.ensures.told in
          subst (λ bs. (own : List (List ℕ)) × (items_of bs.items ≡ before ++ own) × IsOutputAt works ended place (output_value output) own) (sym w.blobs-is)
          (subst (λ o. (own : List (List ℕ)) × (items_of w.keep_file.new.blobs.items ≡ before ++ own) × IsOutputAt works ended place (output_value o) own) (sym w.output-is)
          (e.0 ∷ [], e.3, ((refl, stands, (e.0, e.1, e.2, (0, omega arith, refl))), λ x h. subst (λ y. works.holds ended place (Some y)) (contains_one e.0 x h) e.1))))
      | in-Folder+in_ok-keep_folder-in-Folder w ↦ (
          let e = w.in_ok-keep_folder-in-Folder.ensures.tree in
          let stands = subst (λ s. works.stands ended place s) w.in-Folder.is c.in_ok-look.ensures.told in
          subst (λ bs. (own : List (List ℕ)) × (items_of bs.items ≡ before ++ own) × IsOutputAt works ended place (output_value output) own) (sym w.blobs-is)
          (subst (λ o. (own : List (List ℕ)) × (items_of w.keep_folder.new.blobs.items ≡ before ++ own) × IsOutputAt works ended place (output_value o) own) (sym w.output-is)
          (e.0, e.2, (stands, e.1))))
    ] in
    record {
      own = made.0;
      blobs = made.1;
      more = inr (output_value output, made.2, subst (λ p. AddsOutput c.args.outcome.now p (output_value output) c.add.new.self) c.in_ok-copy_of.ensures c.in_ok-add.ensures.added);
    }

pub returns-in_err-add-clause-failed : goal.returns-in_err-add-clause-failed
returns-in_err-add-clause-failed g c =
    let p = err_from_is_err_and c.from_residual-in_err-add.result c.from_residual-in_err-add.ensures.1 in
    rw p.1 (output_unread g.W.Workshop.works c.args.left.now.ended.now c.args.place.now c.in_err-add.field-0.0 p.0 c.args.outcome.now _ c.args.path.now c.in_ok-copy_of.ensures p.2 c.in_err-add.ensures.refused)

pub returns-in_err-look-clause-failed : goal.returns-in_err-look-clause-failed
returns-in_err-look-clause-failed g c =
    let works = g.W.Workshop.works in
    let p = err_from_is_err_and c.from_residual.result c.from_residual.ensures.1 in
    rw p.1 (unread_added works c.args.left.now.ended.now c.args.place.now c.args.outcome.now c.args.path.now p.0 (walk_unread works c.args.left.now.ended.now c.args.place.now p.0
    (here_unwalked works c.args.left.now.ended.now c.args.place.now p.0 (system_tells (works.unread c.args.left.now.ended.now c.args.place.now) c.in_err-look.field-0.0 p.0 p.2 c.in_err-look.ensures.failed))))

pub returns-in_err-digest-in-File-clause-failed : goal.returns-in_err-digest-in-File-clause-failed
returns-in_err-digest-in-File-clause-failed g c =
    let works = g.W.Workshop.works in
    let p = err_from_is_err_and c.from_residual-in_err-digest-in-File.result c.from_residual-in_err-digest-in-File.ensures.1 in
    rw (p.1, p.2) (unread_added works c.args.left.now.ended.now c.args.place.now c.args.outcome.now c.args.path.now c.in_err-digest-in-File.field-0.0 (walk_unread works c.args.left.now.ended.now c.args.place.now c.in_err-digest-in-File.field-0.0
    (here_unwalked works c.args.left.now.ended.now c.args.place.now c.in_err-digest-in-File.field-0.0 c.in_err-digest-in-File.ensures.failed)))

pub returns-in_err-keep_folder-in-Folder-clause-failed : goal.returns-in_err-keep_folder-in-Folder-clause-failed
returns-in_err-keep_folder-in-Folder-clause-failed g c =
    let works = g.W.Workshop.works in
    let p = err_from_is_err_and c.from_residual-in_err-keep_folder-in-Folder.result c.from_residual-in_err-keep_folder-in-Folder.ensures.1 in
    rw (p.1, p.2) (unread_added works c.args.left.now.ended.now c.args.place.now c.args.outcome.now c.args.path.now c.in_err-keep_folder-in-Folder.field-0.0 c.in_err-keep_folder-in-Folder.ensures.failed)
