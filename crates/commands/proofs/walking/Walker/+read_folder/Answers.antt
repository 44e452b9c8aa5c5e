use Rattle.std.proofs.Common.{◌≡◌, ◌-◌, ◌++◌, ◌∷◌, ◌∙◌, [], ap, inl, inr, map, refl, rules, sym, subst, string_bytes}
use Rattle.std.specs.Prelude.{IsSorted}
use Rattle.messages.specs.Order.{bytes_cmp}
use Rattle.messages.specs.declared.node.Node.TheVariants.{File}
use Rattle.tree.specs.Form.{node_value}
use Rattle.commands.specs.Children.{folder_read}
use Rattle.commands.specs.ReadRefused.StopsHere.{unlisted, unread}
use Rattle.commands.specs.Walked.{TakesEntry, TakesFile, TakesTree}
use Rattle.commands.specs.World.{a_link, what_stands}
use Rattle.commands.proofs.Exits.{exit_by}
use Rattle.commands.proofs.SoFar.{IsReadSoFar, Unread, all_names_read, deepest, entry_at, fails_first, file_fails, file_there, folder_refused, folder_taken, folder_there, further, link_there, name_fails, names_fail, next_so_far, nothing_read, target_fails}
use Rattle.commands.proofs.walking.Walker.+read_folder.Goals.{read_entry-in-Folder+in_ok-read_folder-in-Folder, read_entry-in-Link+in_ok-target_at-in-Link, read_entry-in-File+in_ok-take_file-in-File}
use Rattle.commands.proofs.walking.Walker.+read_folder.Goals as goal

-- ---- read_entry

pub read_entry-returns-in_err-found-clause-refused : goal.read_entry-returns-in_err-found-clause-refused
read_entry-returns-in_err-found-clause-refused g t c =
    exit_by (Unread g.T.Taker.takes g.T.Taker.refuses (g.W.World.sees c.args.self.now.world.now) c.args.self.now.bits c.args.place.now c.args.taker.now c.args.levels_left) _ c.from_residual.ensures.1
    (inr (fails_first g.T.Taker.takes g.T.Taker.refuses (g.W.World.sees c.args.self.now.world.now) c.args.self.now.bits c.args.place.now c.args.taker.now c.args.levels_left _ (unread _ c.in_err-found.ensures.fault)))

pub read_entry-returns-in_err-read_folder-in-Folder-clause-refused : goal.read_entry-returns-in_err-read_folder-in-Folder-clause-refused
read_entry-returns-in_err-read_folder-in-Folder-clause-refused g t c =
    exit_by (Unread g.T.Taker.takes g.T.Taker.refuses (g.W.World.sees c.args.self.now.world.now) c.args.self.now.bits c.args.place.now c.args.taker.now c.args.levels_left) _ c.from_residual-in_err-read_folder-in-Folder.ensures.1
    c.in_err-read_folder-in-Folder.ensures.refused

pub read_entry-returns-in_err-target_at-in-Link-clause-refused : goal.read_entry-returns-in_err-target_at-in-Link-clause-refused
read_entry-returns-in_err-target_at-in-Link-clause-refused g t c =
    let sees = g.W.World.sees c.args.self.now.world.now in
    let place = c.args.place.now in
    let target = c.as_str.result.now in
    let link : sees.stands place (a_link target) = subst (λ b. sees.stands place (a_link b)) (sym c.as_str.ensures.value)
    (subst (λ f. sees.stands place (what_stands f)) c.in-Link.is c.in_ok-found.ensures.stands) in
    exit_by (Unread g.T.Taker.takes g.T.Taker.refuses sees c.args.self.now.bits place c.args.taker.now c.args.levels_left) _ c.from_residual-in_err-target_at-in-Link.ensures.1
    (target_fails g.T.Taker.takes g.T.Taker.refuses sees c.args.self.now.bits place c.args.taker.now c.args.levels_left target _ link c.in_err-target_at-in-Link.ensures.refused)

pub read_entry-returns-in_err-take_file-in-File-clause-refused : goal.read_entry-returns-in_err-take_file-in-File-clause-refused
read_entry-returns-in_err-take_file-in-File-clause-refused g t c =
    exit_by (Unread g.T.Taker.takes g.T.Taker.refuses (g.W.World.sees c.args.self.now.world.now) c.args.self.now.bits c.args.place.now c.args.taker.now c.args.levels_left) _ c.from_residual-in_err-take_file-in-File.ensures.1
    (file_fails g.T.Taker.takes g.T.Taker.refuses (g.W.World.sees c.args.self.now.world.now) c.args.self.now.bits c.args.place.now c.args.taker.now c.args.levels_left _ c.in_err-take_file-in-File.ensures.refused)

pub read_entry-returns : goal.read_entry-returns
read_entry-returns g t c =
    let sees = g.W.World.sees c.args.self.now.world.now in
    let bits = c.args.self.now.bits in
    let old = c.args.taker.now in
    let new = c.match-found.taker in
    let left = c.args.levels_left in
    let place = c.args.place.now in
    let found = c.in_ok-found.found in
    let node = c.match-found.node in
    let stands : sees.stands place (what_stands found) = c.in_ok-found.ensures.stands in
    let there : TakesEntry g.T.Taker.takes sees bits left place (node_value node) old new = elim c.match-found.branch [
      | read_entry-in-Folder+in_ok-read_folder-in-Folder w ↦
          folder_there g.T.Taker.takes sees bits left place old new found node stands w.in_ok-read_folder-in-Folder.field-0 w.in-Folder.is w.node-is
          (subst (λ k. TakesTree g.T.Taker.takes sees bits left place w.in_ok-read_folder-in-Folder.field-0 old k) (sym w.taker-is) (w.in_ok-read_folder-in-Folder.ensures {u = tt}).taken)
      | read_entry-in-Link+in_ok-target_at-in-Link w ↦
          link_there g.T.Taker.takes sees bits left place old new found node stands w.in-Link.target w.in_ok-target_at-in-Link.field-0 w.in-Link.is w.node-is
          ((w.in_ok-target_at-in-Link.ensures {u = tt}).target ∙ w.as_str.ensures.value) w.taker-is
      | read_entry-in-File+in_ok-take_file-in-File w ↦
          file_there g.T.Taker.takes sees bits left place old new found node stands w.in_ok-take_file-in-File.field-0 w.in-File.executable w.in-File.is
          (w.node-is ∙ ap (File w.in_ok-take_file-in-File.field-0) w.counts.ensures)
          (subst (λ k. TakesFile g.T.Taker.takes sees place old k w.in_ok-take_file-in-File.field-0) (sym w.taker-is) (w.in_ok-take_file-in-File.ensures {u = tt}).taken)
    ] in
    record { taken = there; refused = tt }

-- ---- read_folder

pub read_folder-loop-name-init : goal.read_folder-loop-name-init
read_folder-loop-name-init g t c =
    subst (λ d. IsReadSoFar g.T.Taker.takes g.T.Taker.refuses (g.W.World.sees c.args.self.now.world.now) c.args.self.now.bits c.args.levels_left c.args.place.now [] d c.args.taker.now c.args.taker.now) (sym c.new-children.ensures)
    (nothing_read g.T.Taker.takes g.T.Taker.refuses (g.W.World.sees c.args.self.now.world.now) c.args.self.now.bits c.args.levels_left c.args.place.now c.args.taker.now)

pub read_folder-loop-name-preserved : goal.read_folder-loop-name-preserved
read_folder-loop-name-preserved g t c =
    let sees = g.W.World.sees c.args.self.now.world.now in
    let bits = c.args.self.now.bits in
    let left = c.args.levels_left in
    let place = c.args.place.now in
    let n = c.in_ok-name.name in
    let path = c.as_str-path.result.now in
    let x = node_value c.in_ok-node.node in
    let named : n ≡ string_bytes c.name-item.result = c.in_ok-name.ensures.name ∙ c.as_str.ensures.value in
    let whole : string_bytes c.in_ok-below.below ≡ place ++ 47 ∷ n = search (rules, named, c.in_ok-below.ensures) in
    let at : path ≡ place ++ 47 ∷ n = c.as_str-path.ensures.value ∙ whole in
    let mid = c.loop-name.taker in
    let new = c.read_entry.new.taker in
    next_so_far g.T.Taker.takes g.T.Taker.refuses sees bits left place c.deref-name-items.result.now c.loop-name.name-index c.name-item.result n x (folder_read c.loop-name.children) (folder_read c.push.new.self) c.args.taker.now mid new
    c.loop-name-test.true c.name-item.is named c.loop-name.invariant c.in_ok-push.ensures.child c.in_ok-push.ensures.named c.if-levels_left-eq0.false
    (subst (λ p. TakesEntry g.T.Taker.takes sees bits (left - 1) p x mid new) at c.in_ok-node.ensures.taken)

pub read_folder-returns-in_err-names-clause-refused : goal.read_folder-returns-in_err-names-clause-refused
read_folder-returns-in_err-names-clause-refused g t c =
    exit_by (Unread g.T.Taker.takes g.T.Taker.refuses (g.W.World.sees c.args.self.now.world.now) c.args.self.now.bits c.args.place.now c.args.taker.now c.args.levels_left) _ c.from_residual.ensures.1
    (inr (fails_first g.T.Taker.takes g.T.Taker.refuses (g.W.World.sees c.args.self.now.world.now) c.args.self.now.bits c.args.place.now c.args.taker.now c.args.levels_left _ (unlisted _ c.in_err-names.ensures.fault)))

pub read_folder-returns-in_err-below-clause-refused : goal.read_folder-returns-in_err-below-clause-refused
read_folder-returns-in_err-below-clause-refused g t c =
    exit_by (Unread g.T.Taker.takes g.T.Taker.refuses (g.W.World.sees c.args.self.now.world.now) c.args.self.now.bits c.args.place.now c.args.taker.now c.args.levels_left) _ c.from_residual-in_err-below.ensures.1 (inl refl)

pub read_folder-returns-in_err-name-clause-refused : goal.read_folder-returns-in_err-name-clause-refused
read_folder-returns-in_err-name-clause-refused g t c =
    let sees = g.W.World.sees c.args.self.now.world.now in
    let bits = c.args.self.now.bits in
    let left = c.args.levels_left in
    let place = c.args.place.now in
    let n = c.as_str.result.now in
    let path = c.as_str-path.result.now in
    let whole : string_bytes c.in_ok-below.below ≡ place ++ 47 ∷ string_bytes c.name-item.result = search rules in
    let at : path ≡ place ++ 47 ∷ n = c.as_str-path.ensures.value ∙ whole ∙ ap (λ m. place ++ 47 ∷ m) (sym c.as_str.ensures.value) in
    let lists = subst (λ l. sees.lists place (map string_bytes l)) (sym c.deref-name-items.ensures.value) c.in_ok-names.ensures.listed in
    let entry = entry_at g.T.Taker.takes g.T.Taker.refuses sees bits left place c.deref-name-items.result.now c.loop-name.name-index c.name-item.result n (folder_read c.loop-name.children) c.args.taker.now c.loop-name.taker lists
    c.loop-name-test.true c.name-item.is c.as_str.ensures.value c.loop-name.invariant in
    exit_by (Unread g.T.Taker.takes g.T.Taker.refuses sees bits place c.args.taker.now left) _ c.from_residual-in_err-name.ensures.1
    (name_fails g.T.Taker.takes g.T.Taker.refuses sees bits place c.args.taker.now left n path c.loop-name.taker _ entry at c.in_err-name.ensures.refused)

pub read_folder-returns-then-levels_left-eq0-clause-refused : goal.read_folder-returns-then-levels_left-eq0-clause-refused
read_folder-returns-then-levels_left-eq0-clause-refused g t c =
    let sees = g.W.World.sees c.args.self.now.world.now in
    let bits = c.args.self.now.bits in
    let left = c.args.levels_left in
    let place = c.args.place.now in
    let n = c.as_str.result.now in
    let path = c.as_str-path.result.now in
    let whole : string_bytes c.in_ok-below.below ≡ place ++ 47 ∷ string_bytes c.name-item.result = search rules in
    let at : path ≡ place ++ 47 ∷ n = c.as_str-path.ensures.value ∙ whole ∙ ap (λ m. place ++ 47 ∷ m) (sym c.as_str.ensures.value) in
    let lists = subst (λ l. sees.lists place (map string_bytes l)) (sym c.deref-name-items.ensures.value) c.in_ok-names.ensures.listed in
    let entry = entry_at g.T.Taker.takes g.T.Taker.refuses sees bits left place c.deref-name-items.result.now c.loop-name.name-index c.name-item.result n (folder_read c.loop-name.children) c.args.taker.now c.loop-name.taker lists
    c.loop-name-test.true c.name-item.is c.as_str.ensures.value c.loop-name.invariant in
    deepest g.T.Taker.takes g.T.Taker.refuses sees bits place c.args.taker.now left n path c.loop-name.taker _ entry at c.if-levels_left-eq0.true c.in_ok-name.ensures.valid c.entry_error.ensures

pub read_folder-returns-in_err-node-clause-refused : goal.read_folder-returns-in_err-node-clause-refused
read_folder-returns-in_err-node-clause-refused g t c =
    let sees = g.W.World.sees c.args.self.now.world.now in
    let bits = c.args.self.now.bits in
    let left = c.args.levels_left in
    let place = c.args.place.now in
    let n = c.as_str.result.now in
    let path = c.as_str-path.result.now in
    let whole : string_bytes c.in_ok-below.below ≡ place ++ 47 ∷ string_bytes c.name-item.result = search rules in
    let at : path ≡ place ++ 47 ∷ n = c.as_str-path.ensures.value ∙ whole ∙ ap (λ m. place ++ 47 ∷ m) (sym c.as_str.ensures.value) in
    let lists = subst (λ l. sees.lists place (map string_bytes l)) (sym c.deref-name-items.ensures.value) c.in_ok-names.ensures.listed in
    let entry = entry_at g.T.Taker.takes g.T.Taker.refuses sees bits left place c.deref-name-items.result.now c.loop-name.name-index c.name-item.result n (folder_read c.loop-name.children) c.args.taker.now c.loop-name.taker lists
    c.loop-name-test.true c.name-item.is c.as_str.ensures.value c.loop-name.invariant in
    exit_by (Unread g.T.Taker.takes g.T.Taker.refuses sees bits place c.args.taker.now left) _ c.from_residual-in_err-node.ensures.1
    (further g.T.Taker.takes g.T.Taker.refuses sees bits place c.args.taker.now left n path c.loop-name.taker _ entry at c.if-levels_left-eq0.false c.in_ok-name.ensures.valid c.in_err-node.ensures.refused)

pub read_folder-returns-in_err-push-clause-refused : goal.read_folder-returns-in_err-push-clause-refused
read_folder-returns-in_err-push-clause-refused g t c =
    exit_by (Unread g.T.Taker.takes g.T.Taker.refuses (g.W.World.sees c.args.self.now.world.now) c.args.self.now.bits c.args.place.now c.args.taker.now c.args.levels_left) _ c.from_residual-in_err-push.ensures.1 (inl refl)

pub read_folder-returns-in_err-directory-clause-refused : goal.read_folder-returns-in_err-directory-clause-refused
read_folder-returns-in_err-directory-clause-refused g t c =
    let sees = g.W.World.sees c.args.self.now.world.now in
    let bits = c.args.self.now.bits in
    let left = c.args.levels_left in
    let place = c.args.place.now in
    let items = c.deref-name-items.result.now in
    let old = c.args.taker.now in
    let now = c.loop-name.taker in
    let d = folder_read c.loop-name.children in
    let lists = subst (λ l. sees.lists place (map string_bytes l)) (sym c.deref-name-items.ensures.value) c.in_ok-names.ensures.listed in
    let ordered = subst (λ l. IsSorted bytes_cmp (map string_bytes l)) (sym c.deref-name-items.ensures.value) c.in_ok-names.ensures.ordered in
    let so_far = all_names_read g.T.Taker.takes g.T.Taker.refuses sees bits left place d old now items c.loop-name.name-index c.loop-name-test.false c.loop-name.invariant in
    exit_by (Unread g.T.Taker.takes g.T.Taker.refuses sees bits place old left) _ c.from_residual-in_err-directory.ensures.1
    (names_fail g.T.Taker.takes g.T.Taker.refuses sees bits left place d old now (map string_bytes items) so_far lists ordered _ c.in_err-directory.ensures.refused)

pub read_folder-returns-in_err-bytes-clause-refused : goal.read_folder-returns-in_err-bytes-clause-refused
read_folder-returns-in_err-bytes-clause-refused g t c =
    exit_by (Unread g.T.Taker.takes g.T.Taker.refuses (g.W.World.sees c.args.self.now.world.now) c.args.self.now.bits c.args.place.now c.args.taker.now c.args.levels_left) _ c.from_residual-in_err-bytes.ensures.1 (inl refl)

pub read_folder-returns : goal.read_folder-returns
read_folder-returns g t c =
    let sees = g.W.World.sees c.args.self.now.world.now in
    let bits = c.args.self.now.bits in
    let left = c.args.levels_left in
    let place = c.args.place.now in
    let items = c.deref-name-items.result.now in
    let names = map string_bytes items in
    let old = c.args.taker.now in
    let now = c.loop-name.taker in
    let d = c.in_ok-directory.directory in
    let lists = subst (λ l. sees.lists place (map string_bytes l)) (sym c.deref-name-items.ensures.value) c.in_ok-names.ensures.listed in
    let ordered = subst (λ l. IsSorted bytes_cmp (map string_bytes l)) (sym c.deref-name-items.ensures.value) c.in_ok-names.ensures.ordered in
    let so_far = subst (λ e. IsReadSoFar g.T.Taker.takes g.T.Taker.refuses sees bits left place names e old now) (sym c.in_ok-directory.ensures.value)
    (all_names_read g.T.Taker.takes g.T.Taker.refuses sees bits left place (folder_read c.loop-name.children) old now items c.loop-name.name-index c.loop-name-test.false c.loop-name.invariant) in
    let bytes = c.deref.ensures.value ∙ c.in_ok-bytes.ensures in
    record {
      taken = folder_taken g.T.Taker.takes g.T.Taker.refuses sees bits left place d old now names so_far lists ordered c.in_ok-directory.ensures.valid c.deref.result.now bytes c.take.new.self c.take.result
          c.take.ensures.named c.take.ensures.taken;
      refused = folder_refused g.T.Taker.takes g.T.Taker.refuses sees bits left place d old now names so_far lists ordered c.in_ok-directory.ensures.valid c.deref.result.now bytes c.take.result c.take.ensures.refused;
    }
