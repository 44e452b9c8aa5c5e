-- What checks look at, one after another, while the source tells more and more.
use Rattle.std.proofs.Common.{◌≡◌, ℕ, suc, ◌+◌, ◌<◌, List, [], ◌∷◌, length, drop, get_or, refl, ap, sym, subst, inl, inr, add-one, drop-cons}
use Rattle.blob_digest.specs.Digest.{DigestValue}
use Rattle.std.specs.List.{Contains}
use Rattle.action_messages.specs.Command.{CommandValue}
use Rattle.action_messages.specs.Outputs.{RecordedValue, recorded_path, recorded_value, recorded_values}
use Rattle.action_messages.specs.declared.recorded_output.RecordedOutput.{RecordedOutput}
use Rattle.actions.specs.LooksAt.{OutputLooksAt}
use Rattle.actions.specs.Outcome.{OutputValue}
use Rattle.actions.specs.Recorded.{StandsFor}
use Rattle.actions.proofs.Reading.{stands_still}
use Rattle.plan.specs.Values.{OriginValue, source, output, LineValue}
use Rattle.tree.specs.Form.{NodeValue}
use Rattle.tree.specs.Lookup.{found}
use Rattle.tree.specs.LooksAt.{OnWay}
use Rattle.tree.specs.Memo.{Asked, Known, Learns}
use Rattle.tree.specs.Tree.{Name, Tree}
use Rattle.tree.specs.Merging.{MergeLines, MergeFault, merged}
use Rattle.tree.specs.MergeLooks.{looks, MergeLooksAt}
use Rattle.tree.specs.Stage.{◌and_then◌}
use Rattle.tree.proofs.MergeLooking.{steady_merged_in}
use Rattle.tree.proofs.MergeStages.{stable_merged_in}
use Rattle.tree.proofs.Learning.{learns_more}
use Rattle.tree.proofs.Ways.{way_still}
use Rattle.blob_source.specs.Source.{Blobs, Telling, Grows}
use Rattle.verifier.specs.Together.{Earlier, LooksUpOrigin, Resolves, LinesFault, of_merge, FirstFault, put_together, OriginLooksAt, LinesLookAt, TogetherLooksAt}
use Rattle.verifier.specs.LooksAt.{OutputsLookAt}
use Rattle.verifier.proofs.Checking.{recorded_next, resolves_still}
use Rattle.verifier.proofs.Lines.{found_still}

-- ---- lines

pub origin_look_still : (B C : Blobs) (d : DigestValue) (o : OriginValue) (a : Asked) → Grows B C → OriginLooksAt B d o a → OriginLooksAt C d o a
origin_look_still B C d (source p) a g h = way_still B C d p a g h
origin_look_still B C d (output step p) a g h = h

pub lines_look_still : (B C : Blobs) (d : DigestValue) (os : Earlier) (ls : List LineValue) (a : Asked) → Grows B C → LinesLookAt B d os ls a → LinesLookAt C d os ls a
lines_look_still B C d os [] a g h = h
lines_look_still B C d os (l ∷ ls) a g (inl h) = inl (origin_look_still B C d l.origin a g h)
lines_look_still B C d os (l ∷ ls) a g (inr h) = inr (h.0, found_still B C d os l.origin h.0 g h.1, lines_look_still B C d os ls a g h.2)

-- whatever is told later, what the rest of the lines looks at is looked at by all
pub record LinesLookOn (B : Blobs) (d : DigestValue) (os : Earlier) (ls rest : List LineValue) : Type 0 where
  pub look : (later : Blobs) → Grows B later → (a : Asked) → LinesLookAt later d os rest a → LinesLookAt later d os ls a

pub lines_look_first : (B : Blobs) (d : DigestValue) (os : Earlier) (ls : List LineValue) → LinesLookOn B d os ls ls
lines_look_first B d os ls = record { look = λ later g a h. h }

module _ (B C : Blobs) (d : DigestValue) (os : Earlier) (ls : List LineValue) (i : ℕ) (l : LineValue) (lt : i < length ls) (is : l ≡ get_or ls i l) (on : LinesLookOn B d os ls (drop i ls)) (grows : Grows B C) where
  split : drop i ls ≡ l ∷ drop (i + 1) ls
  split = rw (add-one, drop-cons ls i l lt) (ap (λ k. k ∷ drop (suc i) ls) (sym is))

  pub lines_look_here : (a : Asked) → OriginLooksAt C d l.origin a → LinesLookAt C d os ls a
  lines_look_here a h = on.look C grows a (subst (λ q. LinesLookAt C d os q a) (sym split) (inl h))

  pub lines_look_next : (x : NodeValue) → LooksUpOrigin C d os l.origin (found x) → LinesLookOn C d os ls (drop (i + 1) ls)
  lines_look_next x there = record {
    look = λ later g a h. on.look later (λ e b q. g e b (grows e b q)) a
        (subst (λ q. LinesLookAt later d os q a) (sym split) (inr (x, found_still C later d os l.origin x g there, h)));
  }

-- ---- what lines put together

merged_still : (B C : Blobs) (xs : MergeLines) (t : Tree NodeValue) → Grows B C → (merged B xs).passes t → (merged C xs).passes t
unfolding merged
merged_still B C xs t g h = (stable_merged_in 64 [] xs).still B C g t h

merge_look_still : (B C : Blobs) (xs : MergeLines) (a : Asked) → Grows B C → MergeLooksAt B xs a → MergeLooksAt C xs a
unfolding MergeLooksAt
merge_look_still B C xs a g h = (steady_merged_in 64 [] xs).still B C g a h

pub together_still : (B C : Blobs) (d : DigestValue) (os : Earlier) (ls : List LineValue) (t : Tree NodeValue) → Grows B C → (put_together B d os ls).passes t → (put_together C d os ls).passes t
unfolding ◌and_then◌
together_still B C d os ls t g h = (h.0, resolves_still B C d os ls h.0 g h.1, merged_still B C h.0 t g h.2)

pub together_looks_still : (B C : Blobs) (d : DigestValue) (os : Earlier) (ls : List LineValue) (a : Asked) → Grows B C → TogetherLooksAt B d os ls a → TogetherLooksAt C d os ls a
unfolding looks
together_looks_still B C d os ls a g (inl h) = inl (lines_look_still B C d os ls a g h)
together_looks_still B C d os ls a g (inr h) = inr (h.0, resolves_still B C d os ls h.0 g h.1, merge_look_still B C h.0 a g h.2)

-- the lines, and then what stands at their origins
module _ (B C : Blobs) (d : DigestValue) (os : Earlier) (ls : List LineValue) where
  pub together_first : (a : Asked) → Grows B C → LinesLookAt B d os ls a → TogetherLooksAt C d os ls a
  unfolding looks
  together_first a g h = inl (lines_look_still B C d os ls a g h)

  pub together_next : (xs : MergeLines) (a : Asked) → Grows B C → Resolves B d os ls xs → MergeLooksAt C xs a → TogetherLooksAt C d os ls a
  unfolding looks
  together_next xs a g r h = inr (xs, resolves_still B C d os ls xs g r, h)

module _ (B : Blobs) (d : DigestValue) (os : Earlier) (ls : List LineValue) where
  pub passes_together : (xs : MergeLines) (t : Tree NodeValue) → Resolves B d os ls xs → (merged B xs).passes t → (put_together B d os ls).passes t
  unfolding ◌and_then◌
  passes_together xs t r h = (xs, r, h)

  pub fails_first : (why : LinesFault) → FirstFault B d os ls why → (put_together B d os ls).fails why
  unfolding ◌and_then◌
  fails_first why h = inl h

  pub fails_merged : (xs : MergeLines) → Resolves B d os ls xs → (why : MergeFault) → (merged B xs).fails why → (put_together B d os ls).fails (of_merge why)
  unfolding ◌and_then◌
  fails_merged xs r why h = inr (xs, r, (why, h, refl))

-- ---- outputs

pub outputs_look_still : (B C : Blobs) (c : CommandValue) (xs : List RecordedValue) (a : Asked) → Grows B C → OutputsLookAt B c xs a → OutputsLookAt C c xs a
outputs_look_still B C c [] a g h = h
outputs_look_still B C c (x ∷ xs) a g (listed, inl h) = (listed, inl h)
outputs_look_still B C c (x ∷ xs) a g (listed, inr h) = (listed, inr (h.0, stands_still B C x h.0 g h.1, outputs_look_still B C c xs a g h.2))

pub record OutputsLookOn (B : Blobs) (c : CommandValue) (xs rest : List RecordedValue) : Type 0 where
  pub look : (later : Blobs) → Grows B later → (a : Asked) → OutputsLookAt later c rest a → OutputsLookAt later c xs a

pub outputs_look_first : (B : Blobs) (c : CommandValue) (xs : List RecordedValue) → OutputsLookOn B c xs xs
outputs_look_first B c xs = record { look = λ later g a h. h }

module _ {A : Type 0} (B C : Blobs) (c : CommandValue) (xs : List RecordedValue) (ys : List (RecordedOutput A)) (i : ℕ) (y : RecordedOutput A) (lt : i < length ys) (is : y ≡ get_or ys i y)
    (on : OutputsLookOn B c xs (recorded_values (drop i ys))) (grows : Grows B C) where
  pub outputs_look_here : (a : Asked) → Contains c.output_paths (recorded_path (recorded_value y)) × OutputLooksAt (recorded_value y) a → OutputsLookAt C c xs a
  outputs_look_here a h = on.look C grows a (subst (λ q. OutputsLookAt C c q a) (sym (recorded_next ys i y lt is)) (h.0, inl h.1))

  pub outputs_look_next : (v : OutputValue) → Contains c.output_paths (recorded_path (recorded_value y)) → StandsFor C (recorded_value y) v → OutputsLookOn C c xs (recorded_values (drop (i + 1) ys))
  outputs_look_next v listed stands = record {
    look = λ later g a h. on.look later (λ e b q. g e b (grows e b q)) a
        (subst (λ q. OutputsLookAt later c q a) (sym (recorded_next ys i y lt is)) (listed, inr (v, stands_still C later (recorded_value y) v g stands, h)));
  }

-- an origin in the source tree
pub origin_looked : {refused : Type 0} {k0 k1 : Known} {t0 t1 : Telling} (d : DigestValue) (o : OriginValue) (p : List Name) → o ≡ source p → Learns (OnWay t1.blobs d p) refused k0 k1 t0 t1 → Learns (OriginLooksAt t1.blobs d o) refused k0 k1 t0 t1
origin_looked {t1 = t1} d o p from h = learns_more (λ a at. subst (λ x. OriginLooksAt t1.blobs d x a) (sym from) at) (λ n. n) h
