use Rattle.std.proofs.Common.{rules, ◌≡◌, ◌++◌, List, ◌∷◌, [], sym, subst, ap, ◌∙◌, refl, arith, Some, None, Err, inr, ◌+◌, ◌≤◌, length, length-append, take}
use Rattle.std.specs.Prelude.{Contains, map, string_bytes}
use Rattle.std.proofs.lemmas.List.{take_all}
use Rattle.std.proofs.lemmas.Result.{err_from_is_err_and}
use Rattle.messages.specs.Name.{IsName}
use Rattle.tree.specs.Tree.{Name, a_directory}
use Rattle.tree.specs.Lookup.{names_in}
use Rattle.tree.specs.Folded.{items_of}
use Rattle.processes.specs.declared.trouble.Trouble.TheVariants.{NoOutput}
use Rattle.processes.specs.declared.workshop.Standing.TheVariants as standings
use Rattle.processes.specs.Collected.{IsBadFolder}
use Rattle.processes.specs.Laying.{place_in}
use Rattle.processes.specs.Walking.{IsBare}
use Rattle.processes.proofs.Walks.{IsSoFar, none_seen, all_seen, one_bare, one_file, one_folder, one_of, one_fewer, bad_name, bad_below, bad_standing}
use Rattle.tree.specs.FlatTree.{IsTaken}
use Rattle.processes.proofs.Unread.{add_unread, below_unwalked, here_unwalked, listed_twice, system_tells}
use Rattle.processes.proofs.walking.+walk.Goals as goal
use Rattle.processes.proofs.walking.+walk.Goals.{in-File+in_ok-digest-in-File+in_ok-add-in-File, in-Folder+in_ok-copy_of-in-Folder+in_ok-add-in-Folder+in_ok-walk-in-Folder+in-None-1, in-Folder+in_ok-copy_of-in-Folder+in_ok-add-in-Folder+in_ok-walk-in-Folder+in-Some-1}

pub loop-name-init : goal.loop-name-init
loop-name-init g t c =
    let bare : IsBare c.args.tree.now (names_in c.args.above.now) = first_of (assumption c.requires, search rules) in
    none_seen g.W.Workshop.works c.args.left.now.ended.now c.args.place.now (names_in c.args.above.now) c.args.tree.now (items_of c.args.blobs.now.items) bare

pub walk-requires : goal.walk-requires
walk-requires g t c κs within =
    let path = names_in c.args.above.now in
    let at : c.in_ok-path.path ≡ path ++ string_bytes c.name-item.result ∷ [] = c.in_ok-path.ensures.path ∙ ap (λ x. path ++ x ∷ []) c.as_str.ensures.value in
    let bare : IsBare c.add-in-Folder.new.self (path ++ string_bytes c.name-item.result ∷ []) =
    one_bare g.W.Workshop.works c.args.left.now.ended.now c.args.place.now path string_bytes c.deref-name-items.result.now c.loop-name.name-index c.name-item.result c.loop-name-test.true c.name-item.is
    c.args.tree.now c.loop-name.tree c.add-in-Folder.new.self (items_of c.args.blobs.now.items) (items_of c.loop-name.blobs.items) c.loop-name.invariant a_directory _
    (c.in_ok-copy_of-in-Folder.ensures ∙ at) c.in_ok-add-in-Folder.ensures.added c.in_ok-add-in-Folder.ensures.room (place_in c.args.place.now (string_bytes c.name-item.result)) refl refl in
    let all : length path + c.args.most ≡ 64 = first_of (assumption c.requires, search rules) in
    let fewer = one_fewer c.args.most c.in-Some.fewer c.in-Some.ensures in
    let longer = ap (λ (q : List Name). length q) at ∙ length-append path (string_bytes c.name-item.result ∷ []) in
    let room : length c.in_ok-path.path + c.in-Some.fewer ≡ 64 = omega (arith, all, fewer, longer) in
    (first_of (omega arith, search rules), (within.0, (within.1.0, (within.1.1.0, (within.1.1.1.0, (within.1.1.1.1, (subst (IsBare c.add-in-Folder.new.self) (sym at) bare, room)))))))

pub loop-name-preserved : goal.loop-name-preserved
loop-name-preserved g t c =
    let works = g.W.Workshop.works in
    let ended = c.args.left.now.ended.now in
    let place = c.args.place.now in
    let path = names_in c.args.above.now in
    let n = string_bytes c.name-item.result in
    let before = items_of c.args.blobs.now.items in
    let between = items_of c.loop-name.blobs.items in
    let names = c.deref-name-items.result.now in
    let i = c.loop-name.name-index in
    let at : c.in_ok-path.path ≡ path ++ n ∷ [] = c.in_ok-path.ensures.path ∙ ap (λ x. path ++ x ∷ []) c.as_str.ensures.value in
    let spot : string_bytes c.in_ok-place.place ≡ place_in place n = c.in_ok-place.ensures ∙ ap (λ x. place_in place x) c.as_str-in-loop-name.ensures.value in
    let looked : c.as_str-in-loop-name-2.result.now ≡ place_in place n = c.as_str-in-loop-name-2.ensures.value ∙ spot in
    elim c.match-branch-5.branch [
      | in-File+in_ok-digest-in-File+in_ok-add-in-File w ↦
          subst (λ t. IsSoFar works ended place path (map string_bytes (take (i + 1) names)) c.args.tree.now t before (items_of c.match-branch-5.blobs.items)) (sym w.tree-is)
          (subst (λ bs. IsSoFar works ended place path (map string_bytes (take (i + 1) names)) c.args.tree.now w.add.new.self before (items_of bs.items)) (sym w.blobs-is)
          (one_file works ended place path string_bytes names i c.name-item.result c.loop-name-test.true c.name-item.is c.args.tree.now c.loop-name.tree w.add.new.self before between c.loop-name.invariant _ _
          at w.in_ok-add-in-File.ensures.added w.in_ok-add-in-File.ensures.room _ looked (items_of w.keep_file.new.blobs.items) w.in_ok-digest-in-File.ensures.kept.0 w.in_ok-digest-in-File.digest refl
          (subst (λ s. works.stands ended c.as_str-in-loop-name-2.result.now s) w.in-File.is c.in_ok-look.ensures.told) w.as_str-in-File.result.now (w.as_str-in-File.ensures.value ∙ spot)
          w.in_ok-digest-in-File.ensures.kept.1 w.in_ok-digest-in-File.ensures.kept.2 w.in_ok-digest-in-File.ensures.kept.3))
      | in-Folder+in_ok-copy_of-in-Folder+in_ok-add-in-Folder+in_ok-walk-in-Folder+in-None-1 w ↦
          subst (λ t. IsSoFar works ended place path (map string_bytes (take (i + 1) names)) c.args.tree.now t before (items_of c.match-branch-5.blobs.items)) (sym w.tree-is)
          (subst (λ bs. IsSoFar works ended place path (map string_bytes (take (i + 1) names)) c.args.tree.now w.walk.new.tree before (items_of bs.items)) (sym w.blobs-is)
          (one_folder works ended place path string_bytes names i c.name-item.result c.loop-name-test.true c.name-item.is c.args.tree.now c.loop-name.tree w.add-in-Folder.new.self before between c.loop-name.invariant a_directory _
          (w.in_ok-copy_of-in-Folder.ensures ∙ at) w.in_ok-add-in-Folder.ensures.added w.in_ok-add-in-Folder.ensures.room _ looked w.walk.new.tree (items_of w.walk.new.blobs.items) refl
          (subst (λ s. works.stands ended c.as_str-in-loop-name-2.result.now s) w.in-Folder.is c.in_ok-look.ensures.told) w.as_str-in-Folder.result.now (w.as_str-in-Folder.ensures.value ∙ spot)
          c.in_ok-path.path at w.in_ok-walk-in-Folder.ensures.walked))
      | in-Folder+in_ok-copy_of-in-Folder+in_ok-add-in-Folder+in_ok-walk-in-Folder+in-Some-1 w ↦
          subst (λ t. IsSoFar works ended place path (map string_bytes (take (i + 1) names)) c.args.tree.now t before (items_of c.match-branch-5.blobs.items)) (sym w.tree-is)
          (subst (λ bs. IsSoFar works ended place path (map string_bytes (take (i + 1) names)) c.args.tree.now w.walk.new.tree before (items_of bs.items)) (sym w.blobs-is)
          (one_folder works ended place path string_bytes names i c.name-item.result c.loop-name-test.true c.name-item.is c.args.tree.now c.loop-name.tree w.add-in-Folder.new.self before between c.loop-name.invariant a_directory _
          (w.in_ok-copy_of-in-Folder.ensures ∙ at) w.in_ok-add-in-Folder.ensures.added w.in_ok-add-in-Folder.ensures.room _ looked w.walk.new.tree (items_of w.walk.new.blobs.items) refl
          (subst (λ s. works.stands ended c.as_str-in-loop-name-2.result.now s) w.in-Folder.is c.in_ok-look.ensures.told) w.as_str-in-Folder.result.now (w.as_str-in-Folder.ensures.value ∙ spot)
          c.in_ok-path.path at w.in_ok-walk-in-Folder.ensures.walked))
    ]

pub returns-clause-walked : goal.returns-clause-walked
returns-clause-walked g t c =
    let works = g.W.Workshop.works in
    let names = c.deref-name-items.result.now in
    let i = c.loop-name.name-index in
    let end : length names ≤ i = omega (arith, c.loop-name-test.false) in
    let all : map string_bytes (take i names) ≡ map string_bytes c.in_ok-names.names.items =
    ap (map string_bytes) (take_all i names end ∙ c.deref-name-items.ensures.value) in
    let listed = c.in_ok-names.ensures.listed in
    all_seen works c.args.left.now.ended.now c.args.place.now (names_in c.args.above.now) (map string_bytes (take i names)) c.args.tree.now c.loop-name.tree
    (items_of c.args.blobs.now.items) (items_of c.loop-name.blobs.items) (subst (λ xs. works.lists c.args.left.now.ended.now c.args.place.now (Some xs)) (sym all) listed) c.loop-name.invariant

pub returns-in_err-path-clause-bad : goal.returns-in_err-path-clause-bad
returns-in_err-path-clause-bad g t c told =
    let names = c.in_ok-names.names.items in
    let n = string_bytes c.name-item.result in
    let here = c.deref-name-items.ensures.value in
    let one : Contains (map string_bytes names) n = subst (λ xs. Contains (map string_bytes xs) n) here (one_of string_bytes c.deref-name-items.result.now c.loop-name.name-index c.name-item.result c.loop-name-test.true c.name-item.is) in
    let p = err_from_is_err_and c.from_residual-in_err-path.result c.from_residual-in_err-path.ensures.1 in
    let bad : p.0 ≡ NoOutput = (let both = sym p.1 ∙ told in cc) in
    let all : length (names_in c.args.above.now) + c.args.most ≡ 64 = first_of (assumption c.requires, search rules) in
    bad_name g.W.Workshop.works c.args.left.now.ended.now c.args.place.now c.args.most (map string_bytes names) n
    c.in_ok-names.ensures.listed one
    (λ some name.
    let full = c.in_err-path.ensures.bad (ap Err (sym p.2 ∙ bad)) (subst IsName (sym c.as_str.ensures.value) name) in
    omega (arith, some, full, all))

pub returns-in_err-digest-in-File-clause-bad : goal.returns-in_err-digest-in-File-clause-bad
returns-in_err-digest-in-File-clause-bad g t c told =
    let works = g.W.Workshop.works in
    let ended = c.args.left.now.ended.now in
    let place = c.args.place.now in
    let names = c.in_ok-names.names.items in
    let n = string_bytes c.name-item.result in
    let one : Contains (map string_bytes names) n =
    subst (λ xs. Contains (map string_bytes xs) n) c.deref-name-items.ensures.value (one_of string_bytes c.deref-name-items.result.now c.loop-name.name-index c.name-item.result c.loop-name-test.true c.name-item.is) in
    let listed = c.in_ok-names.ensures.listed in
    let spot : string_bytes c.in_ok-place.place ≡ place_in place n = c.in_ok-place.ensures ∙ ap (λ x. place_in place x) c.as_str-in-loop-name.ensures.value in
    let p = err_from_is_err_and c.from_residual-in_err-digest-in-File.result c.from_residual-in_err-digest-in-File.ensures.1 in
    let bad : p.0 ≡ NoOutput = (let both = sym p.1 ∙ told in cc) in
    let stands = subst (λ q. works.stands ended q standings.File) (c.as_str-in-loop-name-2.ensures.value ∙ spot) (subst (λ s. works.stands ended c.as_str-in-loop-name-2.result.now s) c.in-File.is c.in_ok-look.ensures.told) in
    let none = subst (λ q. works.holds ended q None) (c.as_str-in-File.ensures.value ∙ spot) (c.in_err-digest-in-File.ensures.bad (ap Err (sym p.2 ∙ bad))) in
    bad_below works ended place c.args.most c.in-Some.fewer (map string_bytes names) n standings.File (one_fewer c.args.most c.in-Some.fewer c.in-Some.ensures) listed one stands (inr none)

pub returns-in_err-walk-in-Folder-clause-bad : goal.returns-in_err-walk-in-Folder-clause-bad
returns-in_err-walk-in-Folder-clause-bad g t c told =
    let works = g.W.Workshop.works in
    let ended = c.args.left.now.ended.now in
    let place = c.args.place.now in
    let names = c.in_ok-names.names.items in
    let n = string_bytes c.name-item.result in
    let one : Contains (map string_bytes names) n =
    subst (λ xs. Contains (map string_bytes xs) n) c.deref-name-items.ensures.value (one_of string_bytes c.deref-name-items.result.now c.loop-name.name-index c.name-item.result c.loop-name-test.true c.name-item.is) in
    let listed = c.in_ok-names.ensures.listed in
    let spot : string_bytes c.in_ok-place.place ≡ place_in place n = c.in_ok-place.ensures ∙ ap (λ x. place_in place x) c.as_str-in-loop-name.ensures.value in
    let p = err_from_is_err_and c.from_residual-in_err-walk-in-Folder.result c.from_residual-in_err-walk-in-Folder.ensures.1 in
    let bad : p.0 ≡ NoOutput = (let both = sym p.1 ∙ told in cc) in
    let stands = subst (λ q. works.stands ended q standings.Folder) (c.as_str-in-loop-name-2.ensures.value ∙ spot) (subst (λ s. works.stands ended c.as_str-in-loop-name-2.result.now s) c.in-Folder.is c.in_ok-look.ensures.told) in
    let below = subst (IsBadFolder works ended c.in-Some.fewer) (c.as_str-in-Folder.ensures.value ∙ spot) (c.in_err-walk-in-Folder.ensures.bad (ap Err (sym p.2 ∙ bad))) in
    bad_below works ended place c.args.most c.in-Some.fewer (map string_bytes names) n standings.Folder (one_fewer c.args.most c.in-Some.fewer c.in-Some.ensures) listed one stands (inr below)

pub returns-in-Nothing-clause-bad : goal.returns-in-Nothing-clause-bad
returns-in-Nothing-clause-bad g t c told =
    let works = g.W.Workshop.works in
    let ended = c.args.left.now.ended.now in
    let place = c.args.place.now in
    let names = c.in_ok-names.names.items in
    let n = string_bytes c.name-item.result in
    let one : Contains (map string_bytes names) n =
    subst (λ xs. Contains (map string_bytes xs) n) c.deref-name-items.ensures.value (one_of string_bytes c.deref-name-items.result.now c.loop-name.name-index c.name-item.result c.loop-name-test.true c.name-item.is) in
    let listed = c.in_ok-names.ensures.listed in
    let spot : string_bytes c.in_ok-place.place ≡ place_in place n = c.in_ok-place.ensures ∙ ap (λ x. place_in place x) c.as_str-in-loop-name.ensures.value in
    let stands = subst (λ q. works.stands ended q c.in_ok-look.field-0) (c.as_str-in-loop-name-2.ensures.value ∙ spot) c.in_ok-look.ensures.told in
    bad_below works ended place c.args.most c.in-Some.fewer (map string_bytes names) n c.in_ok-look.field-0 (one_fewer c.args.most c.in-Some.fewer c.in-Some.ensures) listed one stands
    (bad_standing works ended (IsBadFolder works ended c.in-Some.fewer) (place_in place n) c.in_ok-look.field-0 c.in-Nothing.is)

pub returns-in_err-add-in-File-clause-failed : goal.returns-in_err-add-in-File-clause-failed
returns-in_err-add-in-File-clause-failed g t c =
    let works = g.W.Workshop.works in
    let ended = c.args.left.now.ended.now in
    let place = c.args.place.now in
    let path = names_in c.args.above.now in
    let n = string_bytes c.name-item.result in
    let at : c.in_ok-path.path ≡ path ++ n ∷ [] = c.in_ok-path.ensures.path ∙ ap (λ x. path ++ x ∷ []) c.as_str.ensures.value in
    let p = err_from_is_err_and c.from_residual-in_err-add-in-File.result c.from_residual-in_err-add-in-File.ensures.1 in
    let listed = subst (λ ns. works.lists ended place (Some (map string_bytes ns))) (sym c.deref-name-items.ensures.value) c.in_ok-names.ensures.listed in
    rw p.1 (add_unread works ended place c.in_err-add-in-File.field-0.0 p.0 _ (IsTaken c.loop-name.tree _) p.2 c.in_err-add-in-File.ensures.refused (λ taken.
    listed_twice works ended string_bytes place path c.deref-name-items.result.now c.loop-name.name-index c.name-item.result c.loop-name-test.true c.name-item.is listed
    c.args.tree.now c.loop-name.tree (items_of c.args.blobs.now.items) (items_of c.loop-name.blobs.items) c.loop-name.invariant (subst (IsTaken c.loop-name.tree) (at) taken)))

pub returns-in_err-add-in-Folder-clause-failed : goal.returns-in_err-add-in-Folder-clause-failed
returns-in_err-add-in-Folder-clause-failed g t c =
    let works = g.W.Workshop.works in
    let ended = c.args.left.now.ended.now in
    let place = c.args.place.now in
    let path = names_in c.args.above.now in
    let n = string_bytes c.name-item.result in
    let at : c.in_ok-path.path ≡ path ++ n ∷ [] = c.in_ok-path.ensures.path ∙ ap (λ x. path ++ x ∷ []) c.as_str.ensures.value in
    let p = err_from_is_err_and c.from_residual-in_err-add-in-Folder.result c.from_residual-in_err-add-in-Folder.ensures.1 in
    let listed = subst (λ ns. works.lists ended place (Some (map string_bytes ns))) (sym c.deref-name-items.ensures.value) c.in_ok-names.ensures.listed in
    rw p.1 (add_unread works ended place c.in_err-add-in-Folder.field-0.0 p.0 _ (IsTaken c.loop-name.tree _) p.2 c.in_err-add-in-Folder.ensures.refused (λ taken.
    listed_twice works ended string_bytes place path c.deref-name-items.result.now c.loop-name.name-index c.name-item.result c.loop-name-test.true c.name-item.is listed
    c.args.tree.now c.loop-name.tree (items_of c.args.blobs.now.items) (items_of c.loop-name.blobs.items) c.loop-name.invariant (subst (IsTaken c.loop-name.tree) (c.in_ok-copy_of-in-Folder.ensures ∙ at) taken)))

pub returns-in_err-names-clause-failed : goal.returns-in_err-names-clause-failed
returns-in_err-names-clause-failed g t c =
    let p = err_from_is_err_and c.from_residual.result c.from_residual.ensures.1 in
    rw (p.1, p.2) (here_unwalked g.W.Workshop.works c.args.left.now.ended.now c.args.place.now c.in_err-names.field-0.0 c.in_err-names.ensures.failed)

pub returns-in_err-look-clause-failed : goal.returns-in_err-look-clause-failed
returns-in_err-look-clause-failed g t c =
    let spot = c.as_str-in-loop-name-2.ensures.value ∙ c.in_ok-place.ensures ∙ ap (λ x. place_in c.args.place.now x) c.as_str-in-loop-name.ensures.value in
    let p = err_from_is_err_and c.from_residual-in_err-look.result c.from_residual-in_err-look.ensures.1 in
    rw p.1 (below_unwalked g.W.Workshop.works c.args.left.now.ended.now c.args.place.now (string_bytes c.name-item.result) _ spot p.0
    (here_unwalked g.W.Workshop.works c.args.left.now.ended.now _ p.0 (system_tells _ c.in_err-look.field-0.0 p.0 p.2 c.in_err-look.ensures.failed)))

pub returns-in_err-digest-in-File-clause-failed : goal.returns-in_err-digest-in-File-clause-failed
returns-in_err-digest-in-File-clause-failed g t c =
    let spot = c.as_str-in-File.ensures.value ∙ c.in_ok-place.ensures ∙ ap (λ x. place_in c.args.place.now x) c.as_str-in-loop-name.ensures.value in
    let p = err_from_is_err_and c.from_residual-in_err-digest-in-File.result c.from_residual-in_err-digest-in-File.ensures.1 in
    rw (p.1, p.2) (below_unwalked g.W.Workshop.works c.args.left.now.ended.now c.args.place.now (string_bytes c.name-item.result) _ spot c.in_err-digest-in-File.field-0.0
    (here_unwalked g.W.Workshop.works c.args.left.now.ended.now _ c.in_err-digest-in-File.field-0.0 c.in_err-digest-in-File.ensures.failed))

pub returns-in_err-walk-in-Folder-clause-failed : goal.returns-in_err-walk-in-Folder-clause-failed
returns-in_err-walk-in-Folder-clause-failed g t c =
    let spot = c.as_str-in-Folder.ensures.value ∙ c.in_ok-place.ensures ∙ ap (λ x. place_in c.args.place.now x) c.as_str-in-loop-name.ensures.value in
    let p = err_from_is_err_and c.from_residual-in_err-walk-in-Folder.result c.from_residual-in_err-walk-in-Folder.ensures.1 in
    rw (p.1, p.2) (below_unwalked g.W.Workshop.works c.args.left.now.ended.now c.args.place.now (string_bytes c.name-item.result) _ spot c.in_err-walk-in-Folder.field-0.0 c.in_err-walk-in-Folder.ensures.failed)
