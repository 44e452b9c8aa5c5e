-- Two builds of a plan that are as recorded: step by step they are alike, until one action came to outcomes of two forms.
use Rattle.std.proofs.Common.{◌≡◌, ◌≢◌, ℕ, zero, suc, ◌<◌, ◌≤◌, List, [], ◌∷◌, ◌++◌, length, refl, ap, sym, ◌∙◌, subst, inl, inr, arith}
use Rattle.std.specs.Prelude.{◌⊎◌, Some, slice_get, Contains}
use Rattle.std.proofs.lemmas.Bool.{cases_lt}
use Rattle.std.proofs.lemmas.List.{length-append}
use Rattle.std.proofs.lemmas.Option.{slice_get_within}
use Rattle.blob_digest.specs.Digest.{DigestValue, digest_of}
use Rattle.action_messages.specs.Action.{IsAction, action_bytes}
use Rattle.action_messages.specs.Frame.{frame_bytes}
use Rattle.actions.specs.Outcome.{OutcomeValue, outputs_form}
use Rattle.actions.specs.Recorded.{IsRecorded}
use Rattle.actions.proofs.EncodedOnce.{frame_bytes_injective}
use Rattle.actions.proofs.Once.{recorded_once}
use Rattle.actions.proofs.Rooms.{holds_at}
use Rattle.blob_source.specs.Source.{Telling}
use Rattle.blob_source.specs.Told.{IsTold}
use Rattle.plan.specs.Values.{OriginValue, source, output, LineValue, StepValue, PlanValue}
use Rattle.tree.specs.Form.{NodeValue, root}
use Rattle.tree.specs.Tree.{Name}
use Rattle.verifier.specs.AsRecorded.{IsAsRecorded, AreAsRecorded}
use Rattle.verifier.specs.Recorded.{HaveOneForm, IsHeld}
use Rattle.verifier.specs.TwoBuilds.{IsInBoth, IsAlike, IsUnlike, AreAlikeBelow, IsReadAlike, AreReadAlike, IsFirstUnlike, IsDirectoryTold, IsFrameTold, NoClashBetween, AreTwoBuilds}
use Rattle.verifier.proofs.FreshRuns.{one_answer, one_result}
use Rattle.verifier.proofs.LinesOfTwo.{AreOfBoth, of_both, AllOfBoth, IsReadInBoth, AreReadInBoth, all_read, one_tree}
use Rattle.verifier.proofs.RecordedSteps.{get_other, pushed_at, as_many, step_at}
use Rattle.verifier.proofs.SameForms.{same_form, forms_differ}

-- ---- lists with one more

in_front : {X : Type 0} (x : X) (xs : List X) → Contains (x ∷ xs) x
in_front x xs = (0, omega arith, refl)

further : {X : Type 0} (x y : X) (xs : List X) → Contains xs y → Contains (x ∷ xs) y
further x y xs (k, lt, is) = (suc k, omega (arith, lt), is)

-- ---- what is held under a digest is one outcome

one_held : (t : Telling) (d : DigestValue) (v w : OutcomeValue) → IsHeld t d v → IsHeld t d w → v ≡ w
one_held t d v w h k = recorded_once t.blobs h.result v w h.recorded (subst (λ r. IsRecorded t.blobs r w) (sym (one_result t.results d h.result k.result h.held k.held)) k.recorded)

module _ (one other : Telling) where
  -- a step is alike or unlike
  pub not_both : (recorded others : List DigestValue) (i : ℕ) → IsAlike one other recorded others i → IsUnlike one other recorded others i → ⊥
  not_both recorded others i (b, form) (c, path, (x, differ)) =
      let same = one_answer (slice_get recorded i) b.digest c.digest b.in_one c.in_one in
      let first = one_held one c.digest b.outcome c.outcome (subst (λ d. IsHeld one d b.outcome) same b.held) c.held in
      let second = one_held other c.digest b.another c.another (subst (λ d. IsHeld other d b.another) same b.other_held) c.other_held in
      by (ap (λ (o : OutcomeValue). outputs_form o.outputs) (sym first) ∙ form.outputs ∙ ap (λ (o : OutcomeValue). outputs_form o.outputs) second) differ
    where
      by : {v w : List (List Name × NodeValue)} → v ≡ w → (Contains v (path, x) × ¬ Contains w (path, x)) ⊎ (¬ Contains v (path, x) × Contains w (path, x)) → ⊥
      by is (inl h) = h.1 (subst (λ rows. Contains rows (path, x)) is h.0)
      by is (inr h) = h.0 (subst (λ rows. Contains rows (path, x)) (sym is) h.1)

  -- a step further on
  abbrev on_both : (d e : DigestValue) (ds es : List DigestValue) (j : ℕ) → IsInBoth one other ds es j → IsInBoth one other (d ∷ ds) (e ∷ es) (suc j)
  on_both d e ds es j b = record { digest = b.digest; in_one = b.in_one; in_other = b.in_other; outcome = b.outcome; another = b.another; held = b.held; other_held = b.other_held }

  on_alike : (d e : DigestValue) (ds es : List DigestValue) (n : ℕ) → IsAlike one other (d ∷ ds) (e ∷ es) 0 → AreAlikeBelow one other ds es n → AreAlikeBelow one other (d ∷ ds) (e ∷ es) (suc n)
  on_alike d e ds es n first rest zero lt = first
  on_alike d e ds es n first rest (suc j) lt = let a = rest j (omega (arith, lt)) in (on_both d e ds es j a.0, a.1)

  none_below : (ds es : List DigestValue) → AreAlikeBelow one other ds es 0
  none_below ds es j lt = absurd (omega (arith, lt))

  module _ (src : DigestValue) (apart : NoClashBetween (IsDirectoryTold one.blobs) (IsDirectoryTold other.blobs)) where
    -- ---- one step

    abbrev AllPairs : List OutcomeValue → List OutcomeValue → Type 0
    AllPairs vs ws = AllOfBoth one.blobs other.blobs apart vs ws

    abbrev FramesApart : List DigestValue → List DigestValue → Type 0
    FramesApart ds es = NoClashBetween (IsFrameTold one.blobs ds) (IsFrameTold other.blobs es)

    frames_behind : (d e : DigestValue) (ds es : List DigestValue) → FramesApart (d ∷ ds) (e ∷ es) → FramesApart ds es
    frames_behind d e ds es frames x y (c, here, a, told, is) (b, there, o, known, also) same =
        frames x y (c, further d c ds here, a, told, is) (b, further e b es there, o, known, also) same

    pushed : (vs ws : List OutcomeValue) (v w : OutcomeValue) → length vs ≡ length ws → AllPairs vs ws → AreOfBoth one.blobs other.blobs apart v w → AllPairs (vs ++ v ∷ []) (ws ++ w ∷ [])
    pushed vs ws v w same all last j x y at there = by (pushed_at vs v x j at) (pushed_at ws w y j there)
      where
        by : (slice_get vs j ≡ Some x) ⊎ ((j ≡ length vs) × (v ≡ x)) → (slice_get ws j ≡ Some y) ⊎ ((j ≡ length ws) × (w ≡ y)) → AreOfBoth one.blobs other.blobs apart x y
        by (inl h) (inl k) = all j x y h k
        by (inl h) (inr k) = absurd (let is = k.0 in let lt = slice_get_within vs j x h in omega (arith, same, is, lt))
        by (inr h) (inl k) = absurd (let is = h.0 in let lt = slice_get_within ws j y k in omega (arith, same, is, lt))
        by (inr h) (inr k) = subst (λ z. AreOfBoth one.blobs other.blobs apart z y) h.1 (subst (λ z. AreOfBoth one.blobs other.blobs apart v z) k.1 last)

    -- where the outcomes that its lines read have one form, its action is one
    one_action : (vs ws : List OutcomeValue) (ds es : List DigestValue) → FramesApart ds es → (s : StepValue) → AreReadInBoth one.blobs other.blobs apart vs ws s.lines → (d e : DigestValue) → Contains ds d → Contains es e → (v w : OutcomeValue)
        → (h : IsAsRecorded one.blobs one.results src vs s d v) (k : IsAsRecorded other.blobs other.results src ws s e w) → h.action ≡ k.action
    one_action vs ws ds es frames s read d e here there v w h k =
        let bytes = frames (frame_bytes h.action.frame) (frame_bytes k.action.frame) (d, here, h.action, h.action_told, refl) (e, there, k.action, k.action_told, refl) (h.frame ∙ sym k.frame) in
        let frame = frame_bytes_injective h.action.frame k.action.frame h.action_told.valid.frame k.action_told.valid.frame bytes in
        let tree = one_tree one.blobs other.blobs apart src vs ws s.lines read h.nodes k.nodes h.tree k.tree h.resolved k.resolved h.put_together k.put_together in
        let input : h.action.input ≡ k.action.input = sym h.input ∙ ap root tree ∙ k.input in
        λ i. record { frame = frame i; input = input i }

    -- and so it was recorded with one digest
    one_digest : {vs ws : List OutcomeValue} {s : StepValue} {d e : DigestValue} {v w : OutcomeValue} (h : IsAsRecorded one.blobs one.results src vs s d v) (k : IsAsRecorded other.blobs other.results src ws s e w) → h.action ≡ k.action → d ≡ e
    one_digest h k action = sym h.action_told.blob.right ∙ ap (λ a. digest_of (action_bytes a)) action ∙ k.action_told.blob.right

    -- ---- all steps

    abbrev Walked : List StepValue → List DigestValue → List DigestValue → List OutcomeValue → List OutcomeValue → Type 0
    Walked ss ds es vs ws = (AreAlikeBelow one other ds es (length ss) × AllPairs vs ws) ⊎ IsFirstUnlike one other ss ds es

    walk : (vs ws : List OutcomeValue) → length vs ≡ length ws → AllPairs vs ws → (ss : List StepValue) (ds es : List DigestValue) → FramesApart ds es → (os ps : List OutcomeValue)
        → AreAsRecorded one.blobs one.results src vs ss ds os → AreAsRecorded other.blobs other.results src ws ss es ps → Walked ss ds es os ps
    walk vs ws count all [] ds es frames os ps h k = inl (none_below ds es, subst (λ os. AllPairs os ps) (sym h) (subst (λ ps. AllPairs vs ps) (sym k) all))
    walk vs ws count all (s ∷ ss) [] es frames os ps h k = elim h [ ]
    walk vs ws count all (s ∷ ss) (d ∷ ds) [] frames os ps h k = elim k [ ]
    walk vs ws count all (s ∷ ss) (d ∷ ds) (e ∷ es) frames os ps (v, now, later) (w, then, last) =
        by (same_form v w) (λ form. walk (vs ++ v ∷ []) (ws ++ w ∷ []) counts (pushed vs ws v w count all (of_both one.blobs other.blobs apart v w form now.recorded then.recorded)) ss ds es (frames_behind d e ds es frames) os ps later last)
      where
        counts : length (vs ++ v ∷ []) ≡ length (ws ++ w ∷ [])
        counts = let a = length-append vs (v ∷ []) in let b = length-append ws (w ∷ []) in omega (arith, a, b, count)

        action : now.action ≡ then.action
        action = one_action vs ws (d ∷ ds) (e ∷ es) frames s (all_read one.blobs other.blobs apart vs ws all s.lines) d e (in_front d ds) (in_front e es) v w now then

        same : d ≡ e
        same = one_digest now then action

        both : IsInBoth one other (d ∷ ds) (e ∷ es) 0
        both = record {
          digest = d;
          in_one = refl;
          in_other = ap (λ x. Some x) (sym same);
          outcome = v;
          another = w;
          held = record { result = now.result; held = now.held; recorded = now.recorded };
          other_held = subst (λ x. IsHeld other x w) (sym same) (record { result = then.result; held = then.held; recorded = then.recorded });
        }

        rest : HaveOneForm v w → Walked ss ds es os ps → Walked (s ∷ ss) (d ∷ ds) (e ∷ es) os ps
        rest form (inl k) = inl (on_alike d e ds es (length ss) (both, form) k.0, k.1)
        rest form (inr f) = inr (record {
          index = suc f.index;
          step = f.step;
          step_at = f.step_at;
          before = on_alike d e ds es f.index (both, form) f.before;
          unlike = (on_both d e ds es f.index f.unlike.0, f.unlike.1, f.unlike.2);
          action = f.action;
          told = f.told;
          other_told = f.other_told;
        })

        by : HaveOneForm v w ⊎ (HaveOneForm v w → ⊥) → (HaveOneForm v w → Walked ss ds es os ps) → Walked (s ∷ ss) (d ∷ ds) (e ∷ es) os ps
        by (inl form) go = rest form (go form)
        by (inr unlike) go =
            let codes : v.exit_code ≡ w.exit_code = now.recorded.exit_code ∙ now.exit_code ∙ sym (then.recorded.exit_code ∙ then.exit_code) in
            let differ = forms_differ v w now.recorded.valid then.recorded.valid codes unlike in
            inr (record {
              index = 0;
              step = s;
              step_at = refl;
              before = none_below (d ∷ ds) (e ∷ es);
              unlike = (both, differ.0, differ.1);
              action = now.action;
              told = now.action_told;
              other_told = subst (λ x. IsTold IsAction action_bytes other.blobs x now.action) (sym same) (subst (λ a. IsTold IsAction action_bytes other.blobs e a) (sym action) then.action_told);
            })

-- ---- the whole

module _ (one other : Telling) (src : DigestValue) (plan : PlanValue) (recorded others : List DigestValue) (claim another : DigestValue) (h : AreTwoBuilds one other src plan recorded others claim another) where
  pub found : (AreAlikeBelow one other recorded others (length plan.steps) × (claim ≡ another)) ⊎ IsFirstUnlike one other plan.steps recorded others
  found = by (walk one other src h.directories [] [] refl (λ j v w at there. absurd (let none = at in cc)) plan.steps recorded others h.frames h.first.outcomes h.second.outcomes h.first.steps h.second.steps)
    where
      by : Walked one other src h.directories plan.steps recorded others h.first.outcomes h.second.outcomes → (AreAlikeBelow one other recorded others (length plan.steps) × (claim ≡ another)) ⊎ IsFirstUnlike one other plan.steps recorded others
      by (inl (alike, all)) =
          let a = h.first.root in
          let b = h.second.root in
          let tree = one_tree one.blobs other.blobs h.directories src h.first.outcomes h.second.outcomes plan.root_lines (all_read one.blobs other.blobs h.directories h.first.outcomes h.second.outcomes all plan.root_lines) a.nodes b.nodes a.tree b.tree a.resolved b.resolved a.put_together b.put_together in
          inl (alike, sym a.same ∙ ap root tree ∙ b.same)
      by (inr first) = inr first

  pub differ : claim ≢ another → IsFirstUnlike one other plan.steps recorded others
  differ apart = by found
    where
      by : (AreAlikeBelow one other recorded others (length plan.steps) × (claim ≡ another)) ⊎ IsFirstUnlike one other plan.steps recorded others → IsFirstUnlike one other plan.steps recorded others
      by (inl k) = absurd (apart k.1)
      by (inr first) = first

  pub next : (i : ℕ) (step : StepValue) → slice_get plan.steps i ≡ Some step → AreAlikeBelow one other recorded others i → IsInBoth one other recorded others i
  next i step at alike = by found
    where
      by : (AreAlikeBelow one other recorded others (length plan.steps) × (claim ≡ another)) ⊎ IsFirstUnlike one other plan.steps recorded others → IsInBoth one other recorded others i
      by (inl k) = (k.0 i (slice_get_within plan.steps i step at)).0
      by (inr f) = compare (cases_lt f.index i) (cases_lt i f.index)
        where
          compare : (f.index < i) ⊎ (i ≤ f.index) → (i < f.index) ⊎ (f.index ≤ i) → IsInBoth one other recorded others i
          compare (inl lt) k = absurd (not_both one other recorded others f.index (alike f.index lt) f.unlike)
          compare (inr le) (inl lt) = (f.before i lt).0
          compare (inr le) (inr ge) = let is : f.index ≡ i = omega (arith, le, ge) in subst (λ n. IsInBoth one other recorded others n) is f.unlike.0

  -- ---- steps by what their lines read

  -- an outcome by its number is the one that is held under the digest with that number
  first_is : (j : ℕ) (v x : OutcomeValue) (d : DigestValue) → slice_get h.first.outcomes j ≡ Some v → slice_get recorded j ≡ Some d → IsHeld one d x → x ≡ v
  first_is j v x d at is held =
      let s = get_other h.first.outcomes plan.steps j v (as_many one.blobs one.results src plan.steps recorded h.first.outcomes h.first.steps) at in
      let r = step_at one.blobs one.results src plan.steps recorded h.first.outcomes h.first.steps j s.0 s.1 in
      let same = one_answer (slice_get recorded j) r.digest d r.digest_at is in
      let own : IsHeld one d r.outcome = subst (λ d. IsHeld one d r.outcome) same (record { result = r.step.result; held = r.step.held; recorded = r.step.recorded }) in
      one_held one d x r.outcome held own ∙ one_answer (slice_get h.first.outcomes j) r.outcome v r.outcome_at at

  second_is : (j : ℕ) (w y : OutcomeValue) (d : DigestValue) → slice_get h.second.outcomes j ≡ Some w → slice_get others j ≡ Some d → IsHeld other d y → y ≡ w
  second_is j w y d at is held =
      let s = get_other h.second.outcomes plan.steps j w (as_many other.blobs other.results src plan.steps others h.second.outcomes h.second.steps) at in
      let r = step_at other.blobs other.results src plan.steps others h.second.outcomes h.second.steps j s.0 s.1 in
      let same = one_answer (slice_get others j) r.digest d r.digest_at is in
      let own : IsHeld other d r.outcome = subst (λ d. IsHeld other d r.outcome) same (record { result = r.step.result; held = r.step.held; recorded = r.step.recorded }) in
      one_held other d y r.outcome held own ∙ one_answer (slice_get h.second.outcomes j) r.outcome w r.outcome_at at

  read_one : (o : OriginValue) → IsReadAlike one other recorded others o → IsReadInBoth one.blobs other.blobs h.directories h.first.outcomes h.second.outcomes o
  read_one (source p) alike = tt
  read_one (output j p) (b, form) = λ v w at there.
      let first = first_is j v b.outcome b.digest at b.in_one b.held in
      let second = second_is j w b.another b.digest there b.in_other b.other_held in
      let both = of_both one.blobs other.blobs h.directories b.outcome b.another form b.held.recorded b.other_held.recorded in
      subst (λ z. AreOfBoth one.blobs other.blobs h.directories z w) first (subst (λ z. AreOfBoth one.blobs other.blobs h.directories b.outcome z) second both)

  read_all : (ls : List LineValue) → AreReadAlike one other recorded others ls → AreReadInBoth one.blobs other.blobs h.directories h.first.outcomes h.second.outcomes ls
  read_all [] alike = tt
  read_all (l ∷ ls) alike = (read_one l.origin alike.0, read_all ls alike.1)

  -- a step whose lines read steps that are alike is in both under one digest
  pub reads : (i : ℕ) (step : StepValue) → slice_get plan.steps i ≡ Some step → AreReadAlike one other recorded others step.lines → IsInBoth one other recorded others i
  reads i step at alike =
      let a = step_at one.blobs one.results src plan.steps recorded h.first.outcomes h.first.steps i step at in
      let b = step_at other.blobs other.results src plan.steps others h.second.outcomes h.second.steps i step at in
      let action = one_action one other src h.directories h.first.outcomes h.second.outcomes recorded others h.frames step (read_all step.lines alike) a.digest b.digest (holds_at recorded i a.digest a.digest_at) (holds_at others i b.digest b.digest_at) a.outcome b.outcome a.step b.step in
      let same = one_digest one other src h.directories a.step b.step action in
      record {
        digest = a.digest;
        in_one = a.digest_at;
        in_other = b.digest_at ∙ ap (λ x. Some x) (sym same);
        outcome = a.outcome;
        another = b.outcome;
        held = record { result = a.step.result; held = a.step.held; recorded = a.step.recorded };
        other_held = subst (λ x. IsHeld other x b.outcome) (sym same) (record { result = b.step.result; held = b.step.held; recorded = b.step.recorded });
      }

  -- and a root whose lines do is one
  pub one_root : AreReadAlike one other recorded others plan.root_lines → claim ≡ another
  one_root alike =
      let a = h.first.root in
      let b = h.second.root in
      let tree = one_tree one.blobs other.blobs h.directories src h.first.outcomes h.second.outcomes plan.root_lines (read_all plan.root_lines alike) a.nodes b.nodes a.tree b.tree a.resolved b.resolved a.put_together b.put_together in
      sym a.same ∙ ap root tree ∙ b.same
