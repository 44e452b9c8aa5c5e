-- What the checks of a plan look at is finitely much. The logic has no excluded middle, so that there is a list of it is said
-- as: it can't be that there is none.
use Rattle.std.proofs.Common.{◌≡◌, ◌≢◌, ℕ, zero, suc, ◌<◌, List, [], ◌∷◌, ◌++◌, map, length, Option, Some, None, refl, ap, sym, ◌∙◌, subst, inl, inr, arith}
use Rattle.std.specs.Prelude.{◌⊎◌, slice_get, slice_index_or, AllPairs}
use Rattle.std.specs.List.{AllByRecursion, Contains}
use Rattle.std.specs.Cmp.Lexicographic.{nat_list_cmp_total}
use Rattle.std.specs.FinMap.{slice_cmp-IsAntisymmetric, nat_cmp-IsAntisymmetric}
use Rattle.std.specs.Ordering.{ordering_reverse}
use Rattle.std.specs.declared.cmp.Ordering.{Ordering}
use Rattle.std.specs.declared.cmp.Ordering.TheVariants.{Less, Equal, Greater}
use Rattle.std.proofs.lemmas.List.Elements.{Contains-append_left, Contains-append_right}
use Rattle.blob_digest.specs.Digest.{DigestValue}
use Rattle.messages.specs.declared.node.Node.TheVariants.{File, Link, Dir}
use Rattle.messages.specs.DirectoryRules.{DirectoryValue}
use Rattle.messages.specs.Node.{child}
use Rattle.action_messages.specs.Action.{ActionValue, IsAction, action_bytes}
use Rattle.action_messages.specs.ActionResult.{ActionResultValue}
use Rattle.action_messages.specs.Command.{CommandValue, IsCommand, command_bytes}
use Rattle.action_messages.specs.Outputs.{RecordedValue, file, directory, link}
use Rattle.actions.specs.LooksAt.{OutputLooksAt}
use Rattle.actions.specs.Outcome.{OutcomeValue}
use Rattle.actions.proofs.EncodedOnce.{action_bytes_injective, command_bytes_injective}
use Rattle.actions.proofs.Once.{outputs_once}
use Rattle.actions.proofs.TreeLookups.{behind}
use Rattle.plan.specs.Values.{OriginValue, source, output, LineValue, StepValue, PlanValue}
use Rattle.tree.specs.Tree.{Name, name_cmp, Entry}
use Rattle.tree.specs.Form.{NodeValue, root}
use Rattle.tree.specs.Folded.{first_visits}
use Rattle.tree.specs.Difference.{ReadsDirectory, child_of, IsFirstName}
use Rattle.tree.specs.LooksAt.{OnWayFrom, LooksAtOther, ComparesBoth, Compares}
use Rattle.tree.specs.Memo.{Asked, blob, result, LooksAtBlob, Covers}
use Rattle.tree.specs.Merging.{WithinValue, in_source, in_tree, NodeWithin, MergeLines, lines_at, first_names, counted, line_opened, opened, lone, entry_merged, merged_in}
use Rattle.tree.specs.MergeLooks.{looks, NodeLooksAt, LineLooksAt, OpenedLooksAt, MetLooksAt, StandsOrLooksAt, EachLooksAt, MergeLooksIn, MergeLooksAt}
use Rattle.tree.specs.Stage.{Stage}
use Rattle.tree.proofs.DifferenceOnce.{reads_once}
use Rattle.tree.proofs.LookupOnce.{told_once}
use Rattle.tree.proofs.MergeStages.{once_opened}
use Rattle.tree.proofs.StageLaws.{IsOnce}
use Rattle.blob_source.specs.Source.{Blobs, Telling}
use Rattle.verifier.specs.LooksAt.{DifferenceLooksAt, InputLooksAt, OutputsLookAt, OutcomeLooksAt, ResultLooksAt, StepLooksAt, StepsLookAt, RootLooksAt, PlanLooksAt}
use Rattle.verifier.specs.Named.{Lists}
use Rattle.verifier.specs.StepChecks.{message, together, result_held}
use Rattle.verifier.specs.Together.{resolved, OriginLooksAt, LinesLookAt, TogetherLooksAt}
use Rattle.verifier.proofs.StepLaws.{once_resolved, once_message, once_together, once_held, once_step}
use Rattle.verifier.proofs.VerdictOnce.{one_more, step_valid, steps_valid, once_steps}
use Rattle.verifier.proofs.VerdictOnceLines.{AreValid, valid_there}

-- ---- what a list has

-- it can't be that no list has all
abbrev IsFinite : (Asked → Type 0) → Type 0
IsFinite Looks = ((list : List Asked) → Covers Looks list → ⊥) → ⊥

finite_none : {Looks : Asked → Type 0} → ((a : Asked) → Looks a → ⊥) → IsFinite Looks
finite_none none k = k [] (λ a h. absurd (none a h))

finite_one : {Looks : Asked → Type 0} (x : Asked) → ((a : Asked) → Looks a → a ≡ x) → IsFinite Looks
finite_one x one k = k (x ∷ []) (λ a h. subst (Contains (x ∷ [])) (sym (one a h)) (0, omega arith, refl))

finite_less : {Looks More : Asked → Type 0} → ((a : Asked) → Looks a → More a) → IsFinite More → IsFinite Looks
finite_less less h k = h (λ list covers. k list (λ a at. covers a (less a at)))

finite_both : {One Other : Asked → Type 0} → IsFinite One → IsFinite Other → IsFinite (λ a. One a ⊎ Other a)
finite_both {One} {Other} h k none = h (λ xs one. k (λ ys other. none (xs ++ ys) (by xs ys one other)))
  where
    by : (xs ys : List Asked) → Covers One xs → Covers Other ys → (a : Asked) → One a ⊎ Other a → Contains (xs ++ ys) a
    by xs ys one other a (inl at) = Contains-append_left xs ys a (one a at)
    by xs ys one other a (inr at) = Contains-append_right xs ys a (other a at)

-- what is looked at after the one value, if there is one
finite_after : {V : Type 0} (Is : V → Type 0) (next : V → Asked → Type 0) → ((v w : V) → Is v → Is w → v ≡ w) → ((v : V) → Is v → IsFinite (next v)) → IsFinite (λ a. (v : V) × Is v × next v a)
finite_after {V} Is next one h k = k [] (λ a at. absurd (none at.0 at.1))
  where
    none : (v : V) → Is v → ⊥
    none v is = h v is (λ list covers. k list (λ a at. covers a (subst (λ u. next u a) (one at.0 v at.1 is) at.2)))

-- a check, and what is looked at after it
finite_looks : {E V : Type 0} (check : Stage E V) (Here : Asked → Type 0) (next : V → Asked → Type 0) → IsOnce check → IsFinite Here → ((v : V) → check.passes v → IsFinite (next v)) → IsFinite (looks check Here next)
unfolding looks
finite_looks check Here next once h k = finite_both h (finite_after check.passes next once.value k)

-- where that is the same whatever the check finds
finite_beside : {E V : Type 0} (check : Stage E V) (Here Next : Asked → Type 0) → IsFinite Here → IsFinite Next → IsFinite (looks check Here (λ _. Next))
unfolding looks
finite_beside check Here Next h k = finite_both h (finite_less (λ a at. at.2) k)

finite_blob : (d : DigestValue) → IsFinite (LooksAtBlob d)
finite_blob d = finite_one (blob d) (λ a at. at.0)

-- ---- look-ups and comparisons

module _ (B : Blobs) where
  finite_way : (p : List Name) (o : Option NodeValue) → IsFinite (OnWayFrom B p o)
  finite_way p None = finite_none (λ a h. h)
  finite_way [] (Some x) = finite_none (λ a h. h)
  finite_way (n ∷ p) (Some (File d executable)) = finite_none (λ a h. h)
  finite_way (n ∷ p) (Some (Link target)) = finite_none (λ a h. h)
  finite_way (n ∷ p) (Some (Dir d)) = finite_both (finite_blob d) (finite_after _ (λ m. OnWayFrom B p (child n m)) (told_once B d) (λ m told. finite_way p (child n m)))

  name_once : (g r : DirectoryValue) (n k : Name) → IsFirstName g r n → IsFirstName g r k → n ≡ k
  name_once g r n k h l = by (name_cmp n k) refl
    where
      by : (o : Ordering) → name_cmp n k ≡ o → n ≡ k
      by Less e = absurd (h.other (l.same n e))
      by Equal e = slice_cmp-IsAntisymmetric nat_cmp-IsAntisymmetric n k e
      by Greater e = absurd (l.other (h.same k (nat_list_cmp_total.antisymm k n ∙ ap ordering_reverse e)))

  module _ (own : List (List ℕ)) where
    finite_both_at : (o p : Option NodeValue) (Next : DigestValue → DigestValue → Asked → Type 0) → ((x y : DigestValue) → IsFinite (Next x y)) → IsFinite (λ a. ComparesBoth o p (λ x y. Next x y a))
    finite_both_at None p Next h = finite_none (λ a k. k)
    finite_both_at (Some (File d executable)) p Next h = finite_none (λ a k. k)
    finite_both_at (Some (Link target)) p Next h = finite_none (λ a k. k)
    finite_both_at (Some (Dir x)) None Next h = finite_none (λ a k. k)
    finite_both_at (Some (Dir x)) (Some (File d executable)) Next h = finite_none (λ a k. k)
    finite_both_at (Some (Dir x)) (Some (Link target)) Next h = finite_none (λ a k. k)
    finite_both_at (Some (Dir x)) (Some (Dir y)) Next h = h x y

    finite_other : (d : DigestValue) → IsFinite (LooksAtOther own d)
    finite_other d = finite_less (λ a h. h.1) (finite_blob d)

    finite_below : (g : DigestValue) (m : DirectoryValue) (Next : DigestValue → DigestValue → Asked → Type 0) → ((x y : DigestValue) → IsFinite (Next x y))
        → IsFinite (λ a. (k : DirectoryValue) × ReadsDirectory own B g k × (n : Name) × IsFirstName k m n × ComparesBoth (child_of n k) (child_of n m) (λ x y. Next x y a))
    finite_below g m Next h =
        finite_less (λ a at. (at.0, at.1, (at.2, at.3, at.4)))
        (finite_after (ReadsDirectory own B g) (λ k a. (n : Name) × IsFirstName k m n × ComparesBoth (child_of n k) (child_of n m) (λ x y. Next x y a)) (reads_once own B g)
        (λ k read. finite_after (IsFirstName k m) (λ n a. ComparesBoth (child_of n k) (child_of n m) (λ x y. Next x y a)) (name_once k m) (λ n first. finite_both_at (child_of n k) (child_of n m) Next h)))

    finite_compares : (deeper : ℕ) (g r : DigestValue) → IsFinite (Compares own B deeper g r)
    finite_compares zero g r = finite_none (λ a h. h)
    finite_compares (suc deeper) g r =
        finite_both (finite_other r)
        (finite_after (ReadsDirectory own B r)
        (λ m a. LooksAtOther own g a ⊎ ((k : DirectoryValue) × ReadsDirectory own B g k × (n : Name) × IsFirstName k m n × ComparesBoth (child_of n k) (child_of n m) (λ x y. Compares own B deeper x y a)))
        (reads_once own B r)
        (λ m read. finite_both (finite_other g) (finite_below g m (λ x y. Compares own B deeper x y) (λ x y. finite_compares deeper x y))))

  -- ---- merging

  finite_node : (within : WithinValue) (x : NodeValue) → IsFinite (NodeLooksAt within x)
  finite_node in_source (File d executable) = finite_none (λ a h. h)
  finite_node (in_tree t) (File d executable) = finite_none (λ a h. h)
  finite_node in_source (Link target) = finite_none (λ a h. h)
  finite_node (in_tree t) (Link target) = finite_none (λ a h. h)
  finite_node in_source (Dir d) = finite_blob d
  finite_node (in_tree t) (Dir d) = finite_none (λ a h. h)

  finite_line : (p : List Name) (g : NodeWithin) → IsFinite (LineLooksAt p g)
  finite_line [] g = finite_node g.within g.node
  finite_line (n ∷ p) g = finite_none (λ a h. h)

  finite_opened : (ls : MergeLines) → IsFinite (OpenedLooksAt B ls)
  finite_opened [] = finite_none (λ a h. h)
  finite_opened (l ∷ ls) = finite_beside (line_opened B l.0 l.1) (LineLooksAt l.0 l.1) (OpenedLooksAt B ls) (finite_line l.0 l.1) (finite_opened ls)

  finite_stands : (o : Option NodeValue) (Others : Asked → Type 0) → IsFinite Others → IsFinite (λ a. StandsOrLooksAt o (Others a))
  finite_stands (Some x) Others h = finite_none (λ a k. k)
  finite_stands None Others h = h

  module _ {E L : Type 0} (at : Name → MergeLines → Stage E (Entry L)) (Looks : Name → MergeLines → Asked → Type 0) (ls : MergeLines) (h : (n : Name) → IsFinite (Looks n (lines_at n ls))) where
    finite_each : (ns : List Name) → IsFinite (EachLooksAt at Looks (map (λ n. (n, lines_at n ls)) ns))
    finite_each [] = finite_none (λ a k. k)
    finite_each (n ∷ ns) = finite_beside (at n (lines_at n ls)) (Looks n (lines_at n ls)) (EachLooksAt at Looks (map (λ n. (n, lines_at n ls)) ns)) (h n) (finite_each ns)

  finite_merge : (k : ℕ) (path : List Name) (ls : MergeLines) → IsFinite (MergeLooksIn B k path ls)
  finite_merge zero path ls = finite_none (λ a h. h)
  finite_merge (suc k) path ls =
      finite_each (λ n given. entry_merged B (merged_in B k (path ++ n ∷ [])) k (path ++ n ∷ []) (counted [] given))
      (λ n given b. StandsOrLooksAt (lone (counted [] given)) (MetLooksAt B (MergeLooksIn B k (path ++ n ∷ [])) k (counted [] given) b)) ls
      (λ n.
      let given = counted [] (lines_at n ls) in
      finite_stands (lone given) (MetLooksAt B (MergeLooksIn B k (path ++ n ∷ [])) k given)
      (finite_less (λ a at. at.1) (finite_looks (opened B given) (OpenedLooksAt B given) (MergeLooksIn B k (path ++ n ∷ [])) (once_opened B given) (finite_opened given) (λ new read. finite_merge k (path ++ n ∷ []) new))))
      (first_names ls)

  finite_merge_all : (ls : MergeLines) → IsFinite (MergeLooksAt B ls)
  unfolding MergeLooksAt
  finite_merge_all ls = finite_merge 64 [] ls

  -- ---- lines, inputs and outputs

  module _ (sources : DigestValue) where
    finite_origin : (o : OriginValue) → IsFinite (OriginLooksAt B sources o)
    finite_origin (source p) = finite_way p (Some (Dir sources))
    finite_origin (output step p) = finite_none (λ a h. h)

    module _ (os : List OutcomeValue) (valid : AreValid os) where
      finite_lines : (ls : List LineValue) → IsFinite (LinesLookAt B sources (slice_get os) ls)
      finite_lines [] = finite_none (λ a h. h)
      finite_lines (l ∷ ls) = finite_both (finite_origin l.origin) (finite_less (λ a at. at.2) (finite_lines ls))

      finite_together : (ls : List LineValue) → IsFinite (TogetherLooksAt B sources (slice_get os) ls)
      finite_together ls =
          finite_looks (resolved B sources (slice_get os) ls) (LinesLookAt B sources (slice_get os) ls) (MergeLooksAt B) (once_resolved B sources (slice_get os) ls (valid_there os valid)) (finite_lines ls) (λ xs h. finite_merge_all xs)

      finite_input : (A : Type 0) (ls : List LineValue) (action : ActionValue) → IsFinite (InputLooksAt A B sources os ls action)
      finite_input A ls action =
          finite_looks (together {A = A} B sources os ls) (TogetherLooksAt B sources (slice_get os) ls) (DifferenceLooksAt B action) (once_together B sources os ls valid) (finite_together ls)
          (λ t h. finite_less (λ a at. at.1) (finite_compares (first_visits t) 64 (root t) action.input))

  finite_output : (x : RecordedValue) → IsFinite (OutputLooksAt x)
  finite_output (file f) = finite_none (λ a h. h)
  finite_output (directory d) = finite_blob d.tree
  finite_output (link l) = finite_none (λ a h. h)

  finite_outputs : (c : CommandValue) (xs : List RecordedValue) → IsFinite (OutputsLookAt B c xs)
  finite_outputs c [] = finite_none (λ a h. h)
  finite_outputs c (x ∷ xs) = finite_less (λ a at. at.1) (finite_both (finite_output x) (finite_less (λ a at. at.2) (finite_outputs c xs)))

  finite_outcome : (c : CommandValue) (r : ActionResultValue) → IsFinite (OutcomeLooksAt B c r)
  finite_outcome c r = finite_after _ (λ xs. OutputsLookAt B c xs) (outputs_once r) (λ xs are. finite_outputs c xs)

-- ---- steps and plans

module _ (A : Type 0) (t : Telling) (sources : DigestValue) where
  finite_result : (c : CommandValue) (d : DigestValue) → IsFinite (ResultLooksAt A t c d)
  finite_result c d =
      finite_looks (result_held {A = A} t.results d) _ _ (once_held t.results d) (finite_one (result d) (λ a at. at))
      (λ r held. finite_beside _ _ (OutcomeLooksAt t.blobs c r) (finite_none (λ a h. h)) (finite_outcome t.blobs c r))

  finite_step : (os : List OutcomeValue) (s : StepValue) (d : DigestValue) → AreValid os → IsFinite (StepLooksAt A t sources os s d)
  finite_step os s d valid =
      finite_looks (message {A = A} IsAction action_bytes t.blobs d) _ _ (once_message IsAction action_bytes action_bytes_injective t.blobs d) (finite_blob d) (λ action told.
      finite_beside _ _ _ (finite_none (λ a h. h))
      (finite_looks (message {A = A} IsCommand command_bytes t.blobs action.frame.command) _ _ (once_message IsCommand command_bytes command_bytes_injective t.blobs action.frame.command) (finite_blob action.frame.command) (λ c command.
      finite_beside _ _ _ (finite_none (λ a h. h))
      (finite_beside _ _ _ (finite_input t.blobs sources os valid A s.lines action) (finite_result c d)))))

  finite_steps : (os : List OutcomeValue) (ss : List StepValue) (ds : List DigestValue) → AreValid os → IsFinite (StepsLookAt A t sources os ss ds)
  finite_steps os [] ds valid = finite_none (λ a h. h)
  finite_steps os (s ∷ ss) [] valid = finite_none (λ a h. h)
  finite_steps os (s ∷ ss) (d ∷ ds) valid =
      finite_looks _ _ (λ o. StepsLookAt A t sources (os ++ o ∷ []) ss ds) (once_step {A = A} t sources os s d valid) (finite_step os s d valid)
      (λ o h. finite_steps (os ++ o ∷ []) ss ds (one_more os o valid (step_valid A t sources os s d o h)))

  finite_plan : (plan : PlanValue) (recorded : List DigestValue) → IsFinite (PlanLooksAt A t sources plan recorded)
  finite_plan plan recorded =
      finite_looks _ _ (λ os. RootLooksAt A t sources os plan.root_lines) (once_steps A t sources [] tt plan.steps recorded) (finite_steps [] plan.steps recorded tt)
      (λ os h. finite_beside _ _ _ (finite_together t.blobs sources os (steps_valid A t sources [] tt plan.steps recorded os h) plan.root_lines) (finite_none (λ a k. k)))

-- ---- a list of nothing else, each once

not_among : (x : Asked) (ys : List Asked) → (Contains ys x → ⊥) → AllByRecursion (λ y. x ≢ y) ys
not_among x [] h = tt
not_among x (y ∷ ys) h = ((λ same. h (0, omega arith, sym same)), not_among x ys (λ at. h (behind y ys x at)))

all_index : (P : Asked → Type 0) (ys : List Asked) → AllByRecursion P ys → (j : ℕ) (d : Asked) → j < length ys → P (slice_index_or ys j d)
all_index P [] h j d lt = absurd (omega (arith, lt))
all_index P (y ∷ ys) h zero d lt = h.0
all_index P (y ∷ ys) h (suc j) d lt = all_index P ys h.1 j d (omega (arith, lt))

pairs_more : (x : Asked) (ys : List Asked) → AllByRecursion (λ y. x ≢ y) ys → AllPairs (λ y z. y ≢ z) ys → AllPairs (λ y z. y ≢ z) (x ∷ ys)
pairs_more x ys h k zero zero d lt less = absurd (omega (arith, lt))
pairs_more x ys h k zero (suc j) d lt less = all_index (λ y. x ≢ y) ys h j d (omega (arith, less))
pairs_more x ys h k (suc i) zero d lt less = absurd (omega (arith, lt))
pairs_more x ys h k (suc i) (suc j) d lt less = k i j d (omega (arith, lt)) (omega (arith, less))

module _ (Looks : Asked → Type 0) where
  -- of a list those that are looked at, each once
  record Keeps (all kept : List Asked) : Type 0 where
    covers : (a : Asked) → Looks a → Contains all a → Contains kept a
    looked_at : AllByRecursion Looks kept
    once : AllPairs (λ x y. x ≢ y) kept

  split : (x : Asked) (xs kept : List Asked) → Keeps xs kept → (Looks x → Contains kept x) → Keeps (x ∷ xs) kept
  split x xs kept h here = record { covers = by; looked_at = h.looked_at; once = h.once }
    where
      by : (a : Asked) → Looks a → Contains (x ∷ xs) a → Contains kept a
      by a look (zero, lt, e) = subst (Contains kept) e (here (subst Looks (sym e) look))
      by a look (suc k, lt, e) = h.covers a look (k, omega (arith, lt), e)

  added : (x : Asked) (xs kept : List Asked) → Keeps xs kept → Looks x → (Contains kept x → ⊥) → Keeps (x ∷ xs) (x ∷ kept)
  added x xs kept h look new = record { covers = by; looked_at = (look, h.looked_at); once = pairs_more x kept (not_among x kept new) h.once }
    where
      by : (a : Asked) → Looks a → Contains (x ∷ xs) a → Contains (x ∷ kept) a
      by a look (zero, lt, e) = (zero, omega arith, e)
      by a look (suc k, lt, e) = behind x kept a (h.covers a look (k, omega (arith, lt), e))

  kept_of : (xs : List Asked) → ((kept : List Asked) → Keeps xs kept → ⊥) → ⊥
  kept_of [] none = none [] (record { covers = λ a look at. at; looked_at = tt; once = λ i j d lt less. absurd (omega (arith, less)) })
  kept_of (x ∷ xs) none = kept_of xs (λ kept h.
      let unseen : Looks x → Contains kept x → ⊥ = λ look at. none kept (split x xs kept h (λ _. at)) in
      let unlooked : Looks x → ⊥ = λ look. none (x ∷ kept) (added x xs kept h look (unseen look)) in
      none kept (split x xs kept h (λ look. absurd (unlooked look))))

  listed : IsFinite Looks → ((list : List Asked) → Lists Looks list → ⊥) → ⊥
  listed finite none = finite (λ xs covers. kept_of xs (λ kept h.
      none kept (record { all = λ a look. h.covers a look (covers a look); looked_at = h.looked_at; once = h.once })))

pub plan_listed : (A : Type 0) (t : Telling) (sources : DigestValue) (plan : PlanValue) (recorded : List DigestValue) → ((list : List Asked) → Lists (PlanLooksAt A t sources plan recorded) list → ⊥) → ⊥
plan_listed A t sources plan recorded = listed (PlanLooksAt A t sources plan recorded) (finite_plan A t sources plan recorded)
