-- The check of a step by two sources that tell the same wherever it looks.
use Rattle.std.proofs.Common.{◌∙◌, ℕ, List, [], ◌∷◌, Some, inl, inr, refl, subst, sym}
use Rattle.std.specs.Prelude.{◌↔◌, Contains, slice_get}
use Rattle.std.specs.List.{AllByRecursion}
use Rattle.action_messages.specs.Action.{ActionValue, IsAction, action_bytes}
use Rattle.action_messages.specs.ActionResult.{ActionResultValue}
use Rattle.action_messages.specs.Command.{CommandValue, IsCommand, command_bytes}
use Rattle.action_messages.specs.Outputs.{AreOutputs, RecordedValue, directory, file, link, recorded_path}
use Rattle.actions.specs.LooksAt.{OutputLooksAt}
use Rattle.actions.specs.Outcome.{OutcomeValue, OutputValue, paths_of_outputs}
use Rattle.actions.specs.Recorded.{IsOutputFault, StandForAll, StandsFor}
use Rattle.blob_digest.specs.Digest.{DigestValue}
use Rattle.blob_source.specs.Source.{Blobs, Telling}
use Rattle.blob_source.specs.Told.{Fault}
use Rattle.messages.specs.Tree.{IsTree, tree_bytes}
use Rattle.messages.specs.declared.node.Node.TheVariants.{Dir}
use Rattle.plan.specs.Values.{LineValue, OriginValue, StepValue, output, source}
use Rattle.tree.specs.Folded.{first_visits}
use Rattle.tree.specs.Form.{NodeValue, root}
use Rattle.tree.specs.Lookup.{Looked, found}
use Rattle.tree.specs.Memo.{Asked, LooksAtBlob, LooksAtResult}
use Rattle.tree.specs.MergeLooks.{MergeLooksAt, looks}
use Rattle.tree.specs.Merging.{MergeLines}
use Rattle.tree.specs.Stage.{Stage}
use Rattle.tree.specs.Tree.{Name, Tree}
use Rattle.verifier.specs.LooksAt.{DifferenceLooksAt, InputLooksAt, LooksAtNothing, OutcomeLooksAt, OutputsLookAt, ResultLooksAt, StepLooksAt}
use Rattle.verifier.specs.StepChecks.{IsRefusedOutput, OutputFault, cached, framed, input_check, message, read, result_check, result_held, same_input, step_check, succeeded, together}
use Rattle.verifier.specs.Together.{Earlier, FirstFault, LinesFault, LinesLookAt, LooksUpOrigin, OriginLooksAt, Resolves, TogetherLooksAt, put_together, resolved, with_faults_named}
use Rattle.verifier.specs.TwoTellings.{TellAlike}
use Rattle.verifier.specs.declared.verdict.Cause.{Cause}
use Rattle.verifier.proofs.Alike.{Agree, LookAlike, SameAt, after_way, agree_then, agree_without, at_first, at_next, either_way, fault_alike, found_alike, given_way, look_then, same_way, there_way, told_alike, under_blob, way_alike}
use Rattle.verifier.proofs.AlikeMerges.{compares_alike, finds_agree, merged_agrees, merged_looks}
use Rattle.tree.proofs.StageLaws.{looks_here, looks_next}

-- ---- checks by what is told

pub agree_named : {E F V : Type 0} {name : E → F} {f g : Stage E V} → Agree f g → Agree (with_faults_named name f) (with_faults_named name g)
agree_named h = record { passes = h.passes; fails = λ why. ((λ k. (k.0, (h.fails k.0).0 k.1, k.2)), (λ k. (k.0, (h.fails k.0).1 k.1, k.2))) }

module _ {E V : Type 0} (check : Stage E V) (Here : Asked → Type 0) (next : V → Asked → Type 0) (one other : Telling) (alike : TellAlike (looks check Here next) one other) where
  pub tell_first : TellAlike Here one other
  tell_first = record { blobs = λ d look. alike.blobs d (looks_here check Here next _ look); results = λ d look. alike.results d (looks_here check Here next _ look) }

  pub tell_next : (v : V) → check.passes v → TellAlike (next v) one other
  tell_next v p = record { blobs = λ d look. alike.blobs d (looks_next check Here next _ v p look); results = λ d look. alike.results d (looks_next check Here next _ v p look) }

module _ (B C : Blobs) where
  -- ---- lines

  module _ (sources : DigestValue) (earlier : Earlier) where
    origin_agrees : (o : OriginValue) → SameAt (OriginLooksAt B sources o) B C → (r : Looked) → (LooksUpOrigin B sources earlier o r ↔ LooksUpOrigin C sources earlier o r)
    origin_agrees (source p) same r = found_alike B C p (Some (Dir sources)) same r
    origin_agrees (output step p) same r = same_way

    origin_looks : (o : OriginValue) → SameAt (OriginLooksAt B sources o) B C → LookAlike (OriginLooksAt B sources o) (OriginLooksAt C sources o)
    origin_looks (source p) same = way_alike B C p (Some (Dir sources)) same
    origin_looks (output step p) same = λ a. same_way

    at_origin : (l : LineValue) (ls : List LineValue) → SameAt (LinesLookAt B sources earlier (l ∷ ls)) B C → SameAt (OriginLooksAt B sources l.origin) B C
    at_origin l ls same d look = same d (inl look)

    at_rest : (l : LineValue) (ls : List LineValue) → SameAt (LinesLookAt B sources earlier (l ∷ ls)) B C → (x : NodeValue) → LooksUpOrigin B sources earlier l.origin (found x) → SameAt (LinesLookAt B sources earlier ls) B C
    at_rest l ls same x h d look = same d (inr (x, h, look))

    resolve_alike : (ls : List LineValue) → SameAt (LinesLookAt B sources earlier ls) B C → (xs : MergeLines) → (Resolves B sources earlier ls xs ↔ Resolves C sources earlier ls xs)
    resolve_alike [] same xs = same_way
    resolve_alike (l ∷ ls) same xs = (
      λ h. (
        h.0,
        record { node = (origin_agrees l.origin (at_origin l ls same) (found h.0.node)).0 h.1.node; within = h.1.within },
        h.2,
        (resolve_alike ls (at_rest l ls same h.0.node h.1.node) h.2).0 h.3,
        h.4,
      ),
      λ h.
          let node = (origin_agrees l.origin (at_origin l ls same) (found h.0.node)).1 h.1.node in
          (h.0, record { node = node; within = h.1.within }, h.2, (resolve_alike ls (at_rest l ls same h.0.node node) h.2).1 h.3, h.4),
    )

    first_alike : (ls : List LineValue) → SameAt (LinesLookAt B sources earlier ls) B C → (why : LinesFault) → (FirstFault B sources earlier ls why ↔ FirstFault C sources earlier ls why)
    first_alike [] same why = same_way
    first_alike (l ∷ ls) same why =
        either_way (after_way (origin_agrees l.origin (at_origin l ls same)) (λ r _. same_way))
        (after_way (λ x. origin_agrees l.origin (at_origin l ls same) (found x)) (λ x h. first_alike ls (at_rest l ls same x h) why))

    lines_look : (ls : List LineValue) → SameAt (LinesLookAt B sources earlier ls) B C → LookAlike (LinesLookAt B sources earlier ls) (LinesLookAt C sources earlier ls)
    lines_look [] same = λ a. same_way
    lines_look (l ∷ ls) same = λ a.
        either_way (origin_looks l.origin (at_origin l ls same) a) (after_way (λ x. origin_agrees l.origin (at_origin l ls same) (found x)) (λ x h. lines_look ls (at_rest l ls same x h) a))

    resolved_agrees : (ls : List LineValue) → SameAt (LinesLookAt B sources earlier ls) B C → Agree (resolved B sources earlier ls) (resolved C sources earlier ls)
    resolved_agrees ls same = record { passes = resolve_alike ls same; fails = first_alike ls same }

    module _ (ls : List LineValue) (same : SameAt (TogetherLooksAt B sources earlier ls) B C) where
      at_lines : SameAt (LinesLookAt B sources earlier ls) B C
      at_lines = at_first (resolved B sources earlier ls) (LinesLookAt B sources earlier ls) (MergeLooksAt B) B C same

      at_merge : (nodes : MergeLines) → Resolves B sources earlier ls nodes → SameAt (MergeLooksAt B nodes) B C
      at_merge = at_next (resolved B sources earlier ls) (LinesLookAt B sources earlier ls) (MergeLooksAt B) B C same

      put_agrees : Agree (put_together B sources earlier ls) (put_together C sources earlier ls)
      put_agrees = agree_then (resolved_agrees ls at_lines) (λ nodes h. agree_named (merged_agrees B C nodes (at_merge nodes h)))

      pub together_looks : LookAlike (TogetherLooksAt B sources earlier ls) (TogetherLooksAt C sources earlier ls)
      together_looks = look_then (resolved_agrees ls at_lines) (lines_look ls at_lines) (λ nodes h. merged_looks B C nodes (at_merge nodes h))

  -- ---- outputs

  stands_alike : (x : RecordedValue) → SameAt (OutputLooksAt x) B C → (v : OutputValue) → (StandsFor B x v ↔ StandsFor C x v)
  stands_alike (file f) same v = same_way
  stands_alike (directory d) same v = after_way (told_alike IsTree tree_bytes B C d.tree (under_blob B C d.tree same)) (λ t _. same_way)
  stands_alike (link l) same v = same_way

  output_alike : (x : RecordedValue) → SameAt (OutputLooksAt x) B C → (f : Fault) → (IsOutputFault B x f ↔ IsOutputFault C x f)
  output_alike (file f) same why = same_way
  output_alike (directory d) same why = fault_alike IsTree tree_bytes B C d.tree (under_blob B C d.tree same) why
  output_alike (link l) same why = same_way

  module _ (c : CommandValue) (x : RecordedValue) (xs : List RecordedValue) (same : SameAt (OutputsLookAt B c (x ∷ xs)) B C) (listed : Contains c.output_paths (recorded_path x)) where
    at_output : SameAt (OutputLooksAt x) B C
    at_output d look = same d (listed, inl look)

    at_outputs : (v : OutputValue) → StandsFor B x v → SameAt (OutputsLookAt B c xs) B C
    at_outputs v h d look = same d (listed, inr (v, h, look))

  stand_alike : (c : CommandValue) (xs : List RecordedValue) (es : List (List Name × OutputValue)) → SameAt (OutputsLookAt B c xs) B C → AllByRecursion (Contains c.output_paths) (paths_of_outputs es) → (StandForAll B xs es ↔ StandForAll C xs es)
  stand_alike c [] es same listed = same_way
  stand_alike c (x ∷ xs) [] same listed = same_way
  stand_alike c (x ∷ xs) (e ∷ es) same listed = (
    λ h.
        let own = subst (Contains c.output_paths) h.0 listed.0 in
        (h.0, (stands_alike x (at_output c x xs same own) e.1).0 h.1, (stand_alike c xs es (at_outputs c x xs same own e.1 h.1) listed.1).0 h.2),
    λ h.
        let own = subst (Contains c.output_paths) h.0 listed.0 in
        let stands = (stands_alike x (at_output c x xs same own) e.1).1 h.1 in
        (h.0, stands, (stand_alike c xs es (at_outputs c x xs same own e.1 stands) listed.1).1 h.2),
  )

  outputs_look : (c : CommandValue) (xs : List RecordedValue) → SameAt (OutputsLookAt B c xs) B C → LookAlike (OutputsLookAt B c xs) (OutputsLookAt C c xs)
  outputs_look c [] same = λ a. same_way
  outputs_look c (x ∷ xs) same = λ a. given_way (λ listed. either_way same_way (after_way (stands_alike x (at_output c x xs same listed)) (λ v h. outputs_look c xs (at_outputs c x xs same listed v h) a)))

  difference_looks : (action : ActionValue) (t : Tree NodeValue) → SameAt (DifferenceLooksAt B action t) B C → LookAlike (DifferenceLooksAt B action t) (DifferenceLooksAt C action t)
  difference_looks action t same = λ a. given_way (λ other. compares_alike B C (first_visits t) 64 (root t) action.input (λ d look. same d (other, look)) a)

  module _ (c : CommandValue) (r : ActionResultValue) (same : SameAt (OutcomeLooksAt B c r) B C) where
    at_all : (xs : List RecordedValue) → AreOutputs r xs → SameAt (OutputsLookAt B c xs) B C
    at_all xs are d look = same d (xs, are, look)

    outcome_looks : LookAlike (OutcomeLooksAt B c r) (OutcomeLooksAt C c r)
    outcome_looks = λ a. there_way (λ xs are. outputs_look c xs (at_all xs are) a)

  -- ---- checks

  module _ (A : Type 0) where
    pub together_agrees : (sources : DigestValue) (os : List OutcomeValue) (ls : List LineValue) → SameAt (TogetherLooksAt B sources (slice_get os) ls) B C → Agree (together {A = A} B sources os ls) (together {A = A} C sources os ls)
    together_agrees sources os ls same = agree_named (put_agrees sources (slice_get os) ls same)

    message_agrees : {M : Type 0} (keeps : M → Type 0) (spells : M → List ℕ) (d : DigestValue) → SameAt (LooksAtBlob d) B C → Agree (message {A = A} keeps spells B d) (message {A = A} keeps spells C d)
    message_agrees keeps spells d same =
        record { passes = told_alike keeps spells B C d (under_blob B C d same); fails = λ cause. after_way (fault_alike keeps spells B C d (under_blob B C d same)) (λ f _. same_way) }

    same_agrees : (action : ActionValue) (t : Tree NodeValue) → SameAt (DifferenceLooksAt B action t) B C → Agree (same_input {A = A} B action t) (same_input {A = A} C action t)
    same_agrees action t same = record {
      passes = λ v. same_way;
      fails = λ cause. (
        (λ h. (h.0, h.1, (finds_agree B C (first_visits t) 64 [] (root t) action.input h.1 (λ d look. same d (h.0, look))).0 h.2, h.3)),
        (λ h. (h.0, h.1, (finds_agree B C (first_visits t) 64 [] (root t) action.input h.1 (λ d look. same d (h.0, look))).1 h.2, h.3)),
      );
    }

    module _ (sources : DigestValue) (os : List OutcomeValue) (ls : List LineValue) (action : ActionValue) (same : SameAt (InputLooksAt A B sources os ls action) B C) where
      at_together : SameAt (TogetherLooksAt B sources (slice_get os) ls) B C
      at_together = at_first (together {A = A} B sources os ls) (TogetherLooksAt B sources (slice_get os) ls) (DifferenceLooksAt B action) B C same

      at_difference : (t : Tree NodeValue) → (together {A = A} B sources os ls).passes t → SameAt (DifferenceLooksAt B action t) B C
      at_difference = at_next (together {A = A} B sources os ls) (TogetherLooksAt B sources (slice_get os) ls) (DifferenceLooksAt B action) B C same

      input_agrees : Agree (input_check {A = A} B sources os ls action) (input_check {A = A} C sources os ls action)
      input_agrees = agree_then (together_agrees sources os ls at_together) (λ t h. same_agrees action t (at_difference t h))

      input_looks : LookAlike (InputLooksAt A B sources os ls action) (InputLooksAt A C sources os ls action)
      input_looks = look_then (together_agrees sources os ls at_together) (together_looks sources (slice_get os) ls at_together) (λ t h. difference_looks action t (at_difference t h))

    refused_alike : (c : CommandValue) (x : RecordedValue) (xs : List RecordedValue) → SameAt (OutputsLookAt B c (x ∷ xs)) B C → (cause : Cause A) → (IsRefusedOutput B c x cause ↔ IsRefusedOutput C c x cause)
    refused_alike c x xs same cause = either_way same_way (
      (λ h. (h.0, h.1, (output_alike x (at_output c x xs same h.0) h.1).0 h.2, h.3)),
      (λ h. (h.0, h.1, (output_alike x (at_output c x xs same h.0) h.1).1 h.2, h.3)),
    )

    outputs_alike : (c : CommandValue) (xs : List RecordedValue) → SameAt (OutputsLookAt B c xs) B C → (cause : Cause A) → (OutputFault B c xs cause ↔ OutputFault C c xs cause)
    outputs_alike c [] same cause = same_way
    outputs_alike c (x ∷ xs) same cause = either_way (refused_alike c x xs same cause) (
      (λ h. (h.0, h.1, (stands_alike x (at_output c x xs same h.0) h.1).0 h.2, (outputs_alike c xs (at_outputs c x xs same h.0 h.1 h.2) cause).0 h.3)),
      (λ h.
          let stands = (stands_alike x (at_output c x xs same h.0) h.1).1 h.2 in
          (h.0, h.1, stands, (outputs_alike c xs (at_outputs c x xs same h.0 h.1 stands) cause).1 h.3)),
    )

    outcome_agrees : (c : CommandValue) (r : ActionResultValue) → SameAt (OutcomeLooksAt B c r) B C → Agree (read {A = A} B c r) (read {A = A} C c r)
    outcome_agrees c r same = record {
      passes = λ o. (
        (λ h. (record { valid = h.0.valid; exit_code = h.0.exit_code; recorded = h.0.recorded; ordered = h.0.ordered; outputs = (stand_alike c h.0.recorded o.outputs (at_all c r same h.0.recorded h.0.ordered) h.1).0 h.0.outputs }, h.1)),
        (λ h. (record { valid = h.0.valid; exit_code = h.0.exit_code; recorded = h.0.recorded; ordered = h.0.ordered; outputs = (stand_alike c h.0.recorded o.outputs (at_all c r same h.0.recorded h.0.ordered) h.1).1 h.0.outputs }, h.1)),
      );
      fails = λ cause. there_way (λ xs are. outputs_alike c xs (at_all c r same xs are) cause);
    }

-- ---- results and steps

module _ (A : Type 0) (one other : Telling) where
  held_agrees : (d : DigestValue) → TellAlike (LooksAtResult d) one other → Agree (result_held {A = A} one.results d) (result_held {A = A} other.results d)
  held_agrees d alike =
      let told = alike.results d refl in
      record {
        passes = λ r. ((λ h. (h.0, told ∙ h.1, h.2)), (λ h. (h.0, sym told ∙ h.1, h.2)));
        fails = λ cause. either_way ((λ h. (told ∙ h.0, h.1)), (λ h. (sym told ∙ h.0, h.1))) ((λ h. (h.0, told ∙ h.1, h.2, h.3)), (λ h. (h.0, sym told ∙ h.1, h.2, h.3)));
      }

  module _ (c : CommandValue) (d : DigestValue) (alike : TellAlike (ResultLooksAt A one c d) one other) where
    abbrev After : ActionResultValue → Asked → Type 0
    After r = looks (succeeded {A = A} r) LooksAtNothing (λ _. OutcomeLooksAt one.blobs c r)

    alike_result : TellAlike (LooksAtResult d) one other
    alike_result = tell_first (result_held {A = A} one.results d) (LooksAtResult d) After one other alike

    alike_outcome : (r : ActionResultValue) → (result_held {A = A} one.results d).passes r → (u : Unit {0}) → (succeeded {A = A} r).passes u → SameAt (OutcomeLooksAt one.blobs c r) one.blobs other.blobs
    alike_outcome r h u p =
        (tell_next (succeeded {A = A} r) LooksAtNothing (λ _. OutcomeLooksAt one.blobs c r) one other (tell_next (result_held {A = A} one.results d) (LooksAtResult d) After one other alike r h) u p).blobs

    result_agrees : Agree (result_check {A = A} one c d) (result_check {A = A} other c d)
    result_agrees = agree_then (held_agrees d alike_result) (λ r h. agree_then agree_without (λ u p. outcome_agrees one.blobs other.blobs A c r (alike_outcome r h u p)))

    result_looks : LookAlike (ResultLooksAt A one c d) (ResultLooksAt A other c d)
    result_looks = look_then (held_agrees d alike_result) (λ a. same_way) (λ r h. look_then agree_without (λ a. same_way) (λ u p. outcome_looks one.blobs other.blobs c r (alike_outcome r h u p)))

  module _ (sources : DigestValue) (os : List OutcomeValue) (s : StepValue) (d : DigestValue) (alike : TellAlike (StepLooksAt A one sources os s d) one other) where
    abbrev Told : Stage (Cause A) ActionValue
    Told = message IsAction action_bytes one.blobs d

    abbrev Commands : ActionValue → Stage (Cause A) CommandValue
    Commands action = message IsCommand command_bytes one.blobs action.frame.command

    abbrev Input : ActionValue → Stage (Cause A) (Unit {0})
    Input action = input_check one.blobs sources os s.lines action

    -- what is looked at behind each check
    abbrev AfterInput : ActionValue → CommandValue → Asked → Type 0
    AfterInput action c = looks (Input action) (InputLooksAt A one.blobs sources os s.lines action) (λ _. ResultLooksAt A one c d)

    abbrev AfterCommand : ActionValue → CommandValue → Asked → Type 0
    AfterCommand action c = looks (framed {A = A} action s.frame) LooksAtNothing (λ _. AfterInput action c)

    abbrev AfterCached : ActionValue → Asked → Type 0
    AfterCached action = looks (Commands action) (LooksAtBlob action.frame.command) (AfterCommand action)

    abbrev AfterAction : ActionValue → Asked → Type 0
    AfterAction action = looks (cached {A = A} action) LooksAtNothing (λ _. AfterCached action)

    alike_action : SameAt (LooksAtBlob d) one.blobs other.blobs
    alike_action = (tell_first Told (LooksAtBlob d) AfterAction one other alike).blobs

    module _ (action : ActionValue) (told : Told.passes action) (u : Unit {0}) (may : (cached {A = A} action).passes u) where
      alike_cached : TellAlike (AfterCached action) one other
      alike_cached = tell_next (cached {A = A} action) LooksAtNothing (λ _. AfterCached action) one other (tell_next Told (LooksAtBlob d) AfterAction one other alike action told) u may

      alike_command : SameAt (LooksAtBlob action.frame.command) one.blobs other.blobs
      alike_command = (tell_first (Commands action) (LooksAtBlob action.frame.command) (AfterCommand action) one other alike_cached).blobs

      module _ (c : CommandValue) (named : (Commands action).passes c) (v : Unit {0}) (frame : (framed {A = A} action s.frame).passes v) where
        alike_framed : TellAlike (AfterInput action c) one other
        alike_framed = tell_next (framed {A = A} action s.frame) LooksAtNothing (λ _. AfterInput action c) one other (tell_next (Commands action) (LooksAtBlob action.frame.command) (AfterCommand action) one other alike_cached c named) v frame

        alike_input : SameAt (InputLooksAt A one.blobs sources os s.lines action) one.blobs other.blobs
        alike_input = (tell_first (Input action) (InputLooksAt A one.blobs sources os s.lines action) (λ _. ResultLooksAt A one c d) one other alike_framed).blobs

        alike_rest : (w : Unit {0}) → (Input action).passes w → TellAlike (ResultLooksAt A one c d) one other
        alike_rest = tell_next (Input action) (InputLooksAt A one.blobs sources os s.lines action) (λ _. ResultLooksAt A one c d) one other alike_framed

    pub step_agrees : Agree (step_check {A = A} one sources os s d) (step_check {A = A} other sources os s d)
    step_agrees =
        agree_then (message_agrees one.blobs other.blobs A IsAction action_bytes d alike_action) (λ action told.
        agree_then agree_without (λ u may.
        agree_then (message_agrees one.blobs other.blobs A IsCommand command_bytes action.frame.command (alike_command action told u may)) (λ c named.
        agree_then agree_without (λ v frame.
        agree_then (input_agrees one.blobs other.blobs A sources os s.lines action (alike_input action told u may c named v frame)) (λ w put.
        result_agrees c d (alike_rest action told u may c named v frame w put))))))

    pub step_looks : LookAlike (StepLooksAt A one sources os s d) (StepLooksAt A other sources os s d)
    step_looks =
        look_then (message_agrees one.blobs other.blobs A IsAction action_bytes d alike_action) (λ a. same_way) (λ action told.
        look_then agree_without (λ a. same_way) (λ u may.
        look_then (message_agrees one.blobs other.blobs A IsCommand command_bytes action.frame.command (alike_command action told u may)) (λ a. same_way) (λ c named.
        look_then agree_without (λ a. same_way) (λ v frame.
        look_then (input_agrees one.blobs other.blobs A sources os s.lines action (alike_input action told u may c named v frame)) (input_looks one.blobs other.blobs A sources os s.lines action (alike_input action told u may c named v frame)) (λ w put.
        result_looks c d (alike_rest action told u may c named v frame w put))))))
