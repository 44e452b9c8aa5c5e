-- Each check of a step has an answer.
use Rattle.std.proofs.Common.{◌≡◌, ◌≢◌, ℕ, zero, suc, ◌+◌, ◌<◌, ◌≤◌, arith, append_assoc, List, [], ◌∷◌, ◌++◌, length, map, drop, refl, sym, ◌∙◌, subst, inl, inr}
use Rattle.std.specs.Prelude.{Option, Some, None, slice_get, Contains}
use Rattle.std.specs.List.{AllByRecursion}
use Rattle.blob_digest.specs.Digest.{DigestValue, digest_of}
use Rattle.blob_digest.specs.DigestValue.{IsDigest}
use Rattle.messages.specs.declared.node.Node.TheVariants as nodes
use Rattle.messages.specs.DirectoryRules.{DirectoryValue}
use Rattle.messages.specs.Directory.{directory_bytes}
use Rattle.messages.specs.Node.{child}
use Rattle.messages.specs.Target.{IsTarget}
use Rattle.messages.specs.Tree.{TreeValue, IsTree, tree_bytes, digests_of, child_digests}
use Rattle.action_messages.specs.ActionResult.{ActionResultValue, IsActionResult}
use Rattle.action_messages.specs.Command.{CommandValue}
use Rattle.actions.specs.declared.outcome.Output.TheVariants.{File, Link, Tree}
use Rattle.actions.specs.Outcome.{OutputValue, OutcomeValue, IsOutcome, output_node, tree_node, paths_of_outputs}
use Rattle.actions.specs.OutcomeLookup.{IsFirstChild, NoFault, LooksInTree, LooksBelow, StandsOver, LooksIn, within_output, LiesWithin}
use Rattle.action_messages.specs.OutputFile.{OutputFileValue}
use Rattle.action_messages.specs.OutputDirectory.{OutputDirectoryValue}
use Rattle.action_messages.specs.OutputSymlink.{OutputSymlinkValue}
use Rattle.action_messages.specs.Merging.{first_of}
use Rattle.action_messages.specs.Outputs.{RecordedValue, file, directory, link, recorded_path, AreOutputs}
use Rattle.actions.specs.Recorded.{StandsFor, StandForAll, IsOutputFault}
use Rattle.action_messages.proofs.Merging.{Walks, walks_begin, walks_file, walks_directory, walks_link, walks_end, file_first, directory_first, link_first, fewer}
use Rattle.actions.proofs.Outcomes.{recorded_from}
use Rattle.actions.proofs.TreeLookups.{all_at, root_there, first_there, child_named}
use Rattle.plan.specs.Values.{OriginValue, source, output, LineValue, IsOrigin, IsLine}
use Rattle.tree.specs.Tree.{Name}
use Rattle.tree.specs.Form.{NodeValue}
use Rattle.blob_source.specs.Source.{Blobs}
use Rattle.blob_source.specs.Told.{Fault}
use Rattle.tree.specs.Lookup.{Looked, fault, nothing, found}
use Rattle.tree.specs.Merging.{WithinValue, in_source, MergeLines}
use Rattle.tree.proofs.Totals.{told_or_faulty, looks_on, looks_total}
use Rattle.verifier.specs.declared.verdict.Cause.{Cause}
use Rattle.verifier.specs.declared.verdict.Cause.TheVariants.{ResultMissing, ResultMalformed, OutputUnlisted}
use Rattle.verifier.specs.Together.{LooksUpOrigin, OriginWithin, Resolves, LinesFault, no_origin, not_read, origin_path, FirstFault, resolved}
use Rattle.verifier.specs.Faults.{cause_of_fault}
use Rattle.verifier.specs.StepChecks.{OutputFault, message, result_held, read}
use Rattle.tree.proofs.StageLaws.{IsTotal}

-- ---- look-ups in outcomes

-- what stands in an outcome keeps its rules
abbrev pub IsValidOutput : OutputValue → Type 0
IsValidOutput (File digest executable) = IsDigest digest
IsValidOutput (Link target) = IsTarget target
IsValidOutput (Tree t) = IsTree t

abbrev pub AreValidOutputs : OutcomeValue → Type 0
AreValidOutputs o = IsOutcome o × AllByRecursion (λ (e : List Name × OutputValue). IsValidOutput e.1) o.outputs

all_push : {X : Type 0} (P : X → Type 0) (xs : List X) (x : X) → AllByRecursion P xs → P x → AllByRecursion P (xs ++ x ∷ [])
all_push P [] x h k = (k, tt)
all_push P (y ∷ xs) x h k = (h.0, all_push P xs x h.1 k)

-- a tree's first child with a digest that one of them has
first_child : (t : TreeValue) (d : DigestValue) (before ms : List DirectoryValue) → t.children ≡ before ++ ms → AllByRecursion (λ other. digest_of (directory_bytes other) ≢ d) before → Contains (digests_of (map directory_bytes ms)) d
    → ((m : DirectoryValue) → IsFirstChild t d m → ⊥) → ⊥
first_child t d before [] is none (i, lt, e) one = omega arith
first_child t d before (m ∷ ms) is none (zero, lt, e) one = one m (record { before = before; behind = ms; stands = is; right = e; first = none })
first_child t d before (m ∷ ms) is none (suc i, lt, e) one =
    let other : digest_of (directory_bytes m) ≢ d = λ right. one m (record { before = before; behind = ms; stands = is; right = right; first = none }) in
    let joined : before ++ m ∷ ms ≡ (before ++ m ∷ []) ++ ms = sym (append_assoc before (m ∷ []) ms) in
    first_child t d (before ++ m ∷ []) ms (is ∙ joined) (all_push (λ k. digest_of (directory_bytes k) ≢ d) before m none other) (i, omega (arith, lt), e) one

module _ (t : TreeValue) (valid : IsTree t) where
  abbrev IsFine : Option NodeValue → Type 0
  IsFine o = (d : DigestValue) → o ≡ Some (nodes.Dir d) → Contains (child_digests t) d

  fine_child : (m : DirectoryValue) → Contains (t.root ∷ t.children) m → (n : Name) → IsFine (child n m)
  fine_child m here n = λ d is. child_named {A = Unit {0}} t m n (nodes.Dir d) valid here (sym is) d refl

  looks_in_tree : (names : List Name) → ((r : Looked) → LooksInTree t names r → ⊥) → ⊥
  looks_in_tree [] k = k (found (tree_node t)) refl
  looks_in_tree (n ∷ names) k =
      looks_on (IsFirstChild t) NoFault IsFine
      (λ d fine reads fails. first_child t d [] t.children refl tt (fine d refl) (λ m first. reads m first (fine_child m (first_there t d m first))))
      names (child n t.root) (fine_child t.root (root_there t) n) k

looks_below : (x : OutputValue) → IsValidOutput x → (names : List Name) → ((r : Looked) → LooksBelow x names r → ⊥) → ⊥
looks_below (Tree t) h names k = looks_in_tree t h names k
looks_below (File d b) h [] k = k (found (output_node (File d b))) refl
looks_below (File d b) h (n ∷ names) k = k nothing refl
looks_below (Link l) h [] k = k (found (output_node (Link l))) refl
looks_below (Link l) h (n ∷ names) k = k nothing refl

-- an output stands at or above a path, or none does
none_over : (path : List Name) (es : List (List Name × OutputValue)) → ((e : List Name × OutputValue) → Contains es e → StandsOver e.0 path → ⊥) → AllByRecursion (λ e. ¬ StandsOver e.0 path) es
none_over path [] none = tt
none_over path (e ∷ es) none = ((λ over. none e (0, omega arith, refl) over), none_over path es (λ f c. none f (later c)))
  where
    later : {f : List Name × OutputValue} → Contains es f → Contains (e ∷ es) f
    later (i, lt, is) = (suc i, omega (arith, lt), is)

looks_in : (o : OutcomeValue) → AreValidOutputs o → (path : List Name) → ((r : Looked) → LooksIn o path r → ⊥) → ⊥
looks_in o valid path k = k nothing (inr (
  none_over path o.outputs (λ e c over. looks_below e.1 (all_at (λ (x : List Name × OutputValue). IsValidOutput x.1) o.outputs e valid.1 c) over.0 (λ r h. k r (inl (e, c, over.0, over.1, h)))),
  refl,
))

-- ---- lines

outcome_there : (os : List OutcomeValue) (i : ℕ) → i < length os → (o : OutcomeValue) × (slice_get os i ≡ Some o)
outcome_there [] i lt = absurd (omega arith)
outcome_there (o ∷ os) zero lt = (o, refl)
outcome_there (o ∷ os) (suc i) lt = outcome_there os i (omega (arith, lt))

valid_outcome_there : (os : List OutcomeValue) (i : ℕ) (o : OutcomeValue) → AllByRecursion AreValidOutputs os → slice_get os i ≡ Some o → AreValidOutputs o
valid_outcome_there [] i o h e = absurd cc
valid_outcome_there (x ∷ os) zero o h e = let same : x ≡ o = cc in subst AreValidOutputs same h.0
valid_outcome_there (x ∷ os) (suc i) o h e = valid_outcome_there os i o h.1 e

module _ (B : Blobs) (sources : DigestValue) (os : List OutcomeValue) (valid : AllByRecursion AreValidOutputs os) where
  looks_at : (o : OriginValue) → IsOrigin (length os) o → ((r : Looked) → LooksUpOrigin B sources (slice_get os) o r → ⊥) → ⊥
  looks_at (source p) is k = looks_total B sources p k
  looks_at (output i p) is k =
      let o = outcome_there os i is.0 in
      looks_in o.0 (valid_outcome_there os i o.0 valid o.1) p (λ r h. k r (o.0, o.1, h))

-- what is found lies somewhere
lies_somewhere : (o : OutcomeValue) (p : List Name) (x : NodeValue) → LooksIn o p (found x) → (w : WithinValue) × LiesWithin o p w
lies_somewhere o p x (inl (e, here, names, path, look)) = (within_output e.1, (e, here, (names, path), refl))
lies_somewhere o p x (inr h) = absurd (let e = h.1 in cc)

stands_somewhere : (B : Blobs) (sources : DigestValue) (os : List OutcomeValue) (o : OriginValue) (x : NodeValue) → LooksUpOrigin B sources (slice_get os) o (found x) → (w : WithinValue) × OriginWithin (slice_get os) o w
stands_somewhere B sources os (source p) x h = (in_source, refl)
stands_somewhere B sources os (output i p) x h = let w = lies_somewhere h.0 p x h.2 in (w.0, (h.0, h.1, w.1))

module _ (B : Blobs) (sources : DigestValue) (os : List OutcomeValue) (valid : AllByRecursion AreValidOutputs os) where
  line_total : (l : LineValue) (ls : List LineValue) → (((xs : MergeLines) → Resolves B sources (slice_get os) ls xs → ⊥) → ((c : LinesFault) → FirstFault B sources (slice_get os) ls c → ⊥) → ⊥)
      → ((xs : MergeLines) → Resolves B sources (slice_get os) (l ∷ ls) xs → ⊥) → ((c : LinesFault) → FirstFault B sources (slice_get os) (l ∷ ls) c → ⊥) → (r : Looked) → LooksUpOrigin B sources (slice_get os) l.origin r → ⊥
  line_total l ls rest passes fails (found x) h =
      let w = stands_somewhere B sources os l.origin x h in
      rest (λ xs q. passes ((l.target, record { node = x; within = w.0 }) ∷ xs) (record { node = x; within = w.0 }, record { node = h; within = w.1 }, xs, q, refl)) (λ c q. fails c (inr (x, h, q)))
  line_total l ls rest passes fails nothing h = fails (no_origin (origin_path l.origin)) (inl (nothing, h, refl))
  line_total l ls rest passes fails (fault f) h = fails (not_read f) (inl (fault f, h, refl))

  lines_total : (ls : List LineValue) → AllByRecursion (IsLine (length os)) ls → ((xs : MergeLines) → Resolves B sources (slice_get os) ls xs → ⊥) → ((c : LinesFault) → FirstFault B sources (slice_get os) ls c → ⊥) → ⊥
  lines_total [] is passes fails = passes [] refl
  lines_total (l ∷ ls) is passes fails = looks_at B sources os valid l.origin is.0.origin (line_total l ls (λ p f. lines_total ls is.1 p f) passes fails)

  pub total_resolved : (ls : List LineValue) → AllByRecursion (IsLine (length os)) ls → IsTotal (resolved B sources (slice_get os) ls)
  total_resolved ls is = record { ends = lines_total ls is }

-- ---- the others

module _ {A : Type 0} where
  pub total_message : {M : Type 0} (keeps : M → Type 0) (spells : M → List ℕ) (B : Blobs) (d : DigestValue) → IsTotal (message {A = A} keeps spells B d)
  total_message keeps spells B d = record { ends = λ passes fails. told_or_faulty keeps spells B d passes (λ f h. fails (cause_of_fault f) (f, h, refl)) }

  pub total_held : (C : Blobs) (d : DigestValue) → IsTotal (result_held {A = A} C d)
  total_held C d = record { ends = λ passes fails. by passes fails (C d) refl }
    where
      by : ((r : ActionResultValue) → (result_held {A = A} C d).passes r → ⊥) → ((c : Cause A) → (result_held {A = A} C d).fails c → ⊥) → (o : Option (List ℕ)) → C d ≡ o → ⊥
      by passes fails None e = fails ResultMissing (inl (e, refl))
      by passes fails (Some bytes) e = fails ResultMalformed (inr (bytes, e, (λ r reads. passes r (bytes, e, reads)), refl))

-- the outputs of a result, in their order: at each step of the walk one more, and fewer are left
abbrev Left : List OutputFileValue → List OutputDirectoryValue → List OutputSymlinkValue → ℕ
Left fs ds ls = length fs + length ds + length ls

walk_step : (r : ActionResultValue) (xs : List RecordedValue) (fs : List OutputFileValue) (ds : List OutputDirectoryValue) (ls : List OutputSymlinkValue) → Walks r xs fs ds ls
    → ((ys : List RecordedValue) (gs : List OutputFileValue) (es : List OutputDirectoryValue) (ms : List OutputSymlinkValue) → Left gs es ms < Left fs ds ls → Walks r ys gs es ms → (zs : List RecordedValue) × AreOutputs r zs)
    → (zs : List RecordedValue) × AreOutputs r zs
walk_step r xs fs ds ls h next = by (first_of fs ds ls) refl
  where
    by : (o : Option RecordedValue) → first_of fs ds ls ≡ o → (zs : List RecordedValue) × AreOutputs r zs
    by None e = (xs, walks_end fs ds ls r xs h e)
    by (Some (file f)) e = next (xs ++ file f ∷ []) (drop 1 fs) ds ls (let less = fewer f (drop 1 fs) fs (file_first fs ds ls f e) refl in omega (arith, less)) (walks_file fs ds ls r xs f h e)
    by (Some (directory d)) e = next (xs ++ directory d ∷ []) fs (drop 1 ds) ls (let less = fewer d (drop 1 ds) ds (directory_first fs ds ls d e) refl in omega (arith, less)) (walks_directory fs ds ls r xs d h e)
    by (Some (link l)) e = next (xs ++ link l ∷ []) fs ds (drop 1 ls) (let less = fewer l (drop 1 ls) ls (link_first fs ds ls l e) refl in omega (arith, less)) (walks_link fs ds ls r xs l h e)

walk : (n : ℕ) (r : ActionResultValue) (xs : List RecordedValue) (fs : List OutputFileValue) (ds : List OutputDirectoryValue) (ls : List OutputSymlinkValue) → Left fs ds ls ≤ n → Walks r xs fs ds ls → (zs : List RecordedValue) × AreOutputs r zs
walk zero r xs fs ds ls le h = walk_step r xs fs ds ls h (λ ys gs es ms less k. absurd (omega arith))
walk (suc n) r xs fs ds ls le h = walk_step r xs fs ds ls h (λ ys gs es ms less k. walk n r ys gs es ms (omega arith) k)

outputs_there : (r : ActionResultValue) → IsActionResult r → (xs : List RecordedValue) × AreOutputs r xs
outputs_there r valid = walk (Left r.files r.directories r.symlinks) r [] r.files r.directories r.symlinks (omega arith) (walks_begin r valid)

stands_or_faulty : (B : Blobs) (x : RecordedValue) → ((v : OutputValue) → StandsFor B x v → ⊥) → ((f : Fault) → IsOutputFault B x f → ⊥) → ⊥
stands_or_faulty B (file f) stands fails = stands (File f.digest f.executable) refl
stands_or_faulty B (link l) stands fails = stands (Link l.target) refl
stands_or_faulty B (directory d) stands fails = told_or_faulty IsTree tree_bytes B d.tree (λ t told. stands (Tree t) (t, told, refl)) fails

module _ {A : Type 0} (B : Blobs) (m : CommandValue) where
  outputs_total : (xs : List RecordedValue) → ((es : List (List Name × OutputValue)) → StandForAll B xs es → AllByRecursion (Contains m.output_paths) (paths_of_outputs es) → ⊥) → ((c : Cause A) → OutputFault B m xs c → ⊥) → ⊥
  outputs_total [] passes fails = passes [] refl tt
  outputs_total (x ∷ xs) passes fails =
      fails (OutputUnlisted (recorded_path x)) (inl (inl (
        (λ listed. stands_or_faulty B x
            (λ v stands. outputs_total xs (λ es all rest. passes ((recorded_path x, v) ∷ es) (refl, stands, all) (listed, rest)) (λ c q. fails c (inr (listed, v, stands, q))))
            (λ f h. fails (cause_of_fault f) (inl (inr (listed, f, h, refl))))),
        refl,
      )))

  pub total_read : (r : ActionResultValue) → IsActionResult r → IsTotal (read {A = A} B m r)
  total_read r valid =
      let xs = outputs_there r valid in
      record {
        ends = λ passes fails. outputs_total xs.0
            (λ es all listed. passes (record { exit_code = r.exit_code; outputs = es }) (recorded_from B r xs.0 es valid xs.1 all, listed))
            (λ c q. fails c (xs.0, xs.1, q));
      }
