-- README's small example is answered with its lines.
use Rattle.std.proofs.Common.{◌≡◌, ◌≢◌, ◌∙◌, ℕ, List, [], ◌∷◌, Option, ap, false, inl, inr, refl, subst, sym}
use Rattle.std.specs.Fmt.{digits}
use Rattle.std.specs.Io.KnownBytes.{Appends}
use Rattle.std.specs.Prelude.{◌↔◌, IfOk, IsFalse, IsTrue, Result, Ok, Err, codes}
use Rattle.std.specs.declared.alloc.Global.{Global}
use Rattle.hex.specs.Hex.{decode_pairs, encode_with}
use Rattle.blob_digest.specs.Digest.{IsDigest, digest_of}
use Rattle.blob_source.specs.Told.{wrong}
use Rattle.clap.specs.Words.{Row}
use Rattle.action_messages.specs.Action.{action_bytes, with_input}
use Rattle.messages.specs.declared.node.Node.TheVariants.{File}
use Rattle.plan.specs.Plan.{plan_text}
use Rattle.plan.specs.Record.{IsRecord, build_record_text}
use Rattle.report.specs.Line.{no_text, report_line, yes_text}
use Rattle.text_verifier.specs.Texts.{Question}
use Rattle.tree.proofs.TreeDigests.{IsDigest-digest_of}
use Rattle.tree.specs.Form.{form, top}
use Rattle.tree.specs.Graft.{graft}
use Rattle.tree.specs.Stage.{◌and_then◌}
use Rattle.verifier.proofs.Passing.{recorded_stays}
use Rattle.verifier.proofs.TwoSteps.{gen_action_named, plan_valid, sources_named, use_action_named}
use Rattle.verifier.proofs.TwoStepsRecorded.{as_recorded, root_named, sized}
use Rattle.verifier.proofs.VerdictOnce.{verdict_once}
use Rattle.verifier.specs.TwoSteps as two
use Rattle.verifier.specs.Verdict.{IsVerdict, IsYes}
use Rattle.verifier.specs.declared.verdict.Cause.TheVariants.{BlobWrong}
use Rattle.verifier.specs.declared.verdict.Place.TheVariants.{Step}
use Rattle.verifier.specs.declared.verdict.Verdict.{Verdict}
use Rattle.verifier.specs.declared.verdict.Verdict.TheVariants.{No}
use Rattle.commands.specs.Ended.{is_done}
use Rattle.commands.specs.Memory.{AnswersRight, AsksFiles, Files, IsRightStore, PrintsVerdict, sees_world, told_by_store}
use Rattle.commands.specs.SmallExample.{AsksExample, HoldsAnotherAction, HoldsExample, PrintsNo, PrintsYes, no_line, noted, yes_line}
use Rattle.commands.specs.declared.ended.Ended.{Ended}
use Rattle.commands.specs.declared.ended.Ended.TheVariants as endings
use Rattle.commands.specs.declared.error.CommandError.{CommandError}
use Rattle.commands.proofs.InMemory.{judges_files, right_of}
use Rattle.commands.proofs.OneQuestion.{TextLaws}

abbrev pub asked : Question
asked = record { sources = two.sources; claim = two.claim; plan = two.plan; noted = noted }

sources_valid : IsDigest two.sources
sources_valid = subst IsDigest sources_named (IsDigest-digest_of (top (form two.tree)))

claim_valid : IsDigest two.claim
claim_valid = subst IsDigest root_named (IsDigest-digest_of (top (graft ((codes "result" ∷ [], File two.newline_digest false) ∷ []))))

gen_valid : IsDigest two.gen_action_digest
gen_valid = subst IsDigest gen_action_named (IsDigest-digest_of (action_bytes (with_input two.gen.0.frame two.sources)))

use_valid : IsDigest two.use_action_digest
use_valid = subst IsDigest use_action_named (IsDigest-digest_of (action_bytes (with_input two.uses.0.frame two.input_digest)))

noted_valid : IsRecord noted
noted_valid = record { named = (plan_valid.steps.0.name, (plan_valid.steps.1.0.name, tt)); valid = (gen_valid, (use_valid, tt)); same_length = refl }

pub asks_example : (files : Files) (options : List Row) → AsksExample files options → AsksFiles files options asked
asks_example files options h = record {
  names = h.names;
  plan_bytes = plan_text two.plan;
  plan = h.plan;
  noted_bytes = build_record_text noted;
  noted = h.noted_text;
  texts = record {
    sources_spelled = record { valid = sources_valid; text_is = h.sources };
    claim_spelled = record { valid = claim_valid; text_is = h.claim };
    plan_is = record { valid = plan_valid; text_is = refl };
    noted_is = record { valid = noted_valid; fits = refl; text_is = refl };
  };
}

right_example : (files : Files) (options : List Row) → HoldsExample files options → IsRightStore files options asked
right_example files options h =
    recorded_stays Global two.telling (told_by_store files options) two.sources two.plan two.recorded two.claim h.blobs h.results (as_recorded two.sources)

yes_is : yes_text two.claim 2 ≡ yes_line
unfolding two.claim encode_with decode_pairs digits
yes_is = refl

no_is : no_text {A = Global} (Step (codes "gen")) (BlobWrong two.gen_action_digest) ≡ no_line
unfolding two.gen_action_digest encode_with decode_pairs digits
no_is = refl

pub prints_yes : (files : Files) (options : List Row) (old new : Option (List ℕ)) (result : Result Ended CommandError) → HoldsExample files options → AnswersRight files options asked old new result → PrintsYes yes_line old new result
prints_yes files options old new (Ok ended) h right = let is = right_example files options h in (right.0.1 is, subst (Appends old new) yes_is (right.1 is))
prints_yes files options old new (Err e) h right = right

no_empty : two.gen_action_digest ≢ digest_of []
unfolding two.gen_action_digest
no_empty = sized two.gen_action_digest 137 refl

not_done : (ended : Ended) → (IsTrue (is_done ended) → ⊥) → IsFalse (is_done ended)
not_done endings.Done h = absurd (h refl)
not_done (endings.No _) h = refl

module _ (files : Files) (options : List Row) (h : HoldsAnotherAction files options) where
  abbrev refuted : Verdict Global
  refuted = No (Step (codes "gen")) (BlobWrong two.gen_action_digest)

  wrong_action : IsVerdict {A = Global} (told_by_store files options) two.sources two.plan two.recorded two.claim refuted
  unfolding ◌and_then◌
  wrong_action = inl (inl (refl, inl (wrong two.gen_action_digest, (refl, record { bytes = h.bytes; held = inr (no_empty, sym h.held); other = h.other }), refl)))

  pub prints_no : (laws : TextLaws) (replies : Files) (old new : Option (List ℕ)) (result : Result Ended CommandError) → IfOk result (λ ended. (prints : PrintsVerdict (sees_world files replies) options old new) × (IsTrue (is_done ended) ↔ IsYes prints.verdict))
      → AnswersRight files options asked old new result → PrintsNo no_line old new result
  prints_no laws replies old new (Ok ended) printed right =
      let v = printed.0.verdict in
      let asks = asks_example files options h.asks in
      let judged = right_of laws files replies options asked asks v (judges_files files replies options h.asks.names v printed.0.judged) in
      let same : v ≡ refuted = verdict_once Global (told_by_store files options) two.sources two.plan two.recorded two.claim v refuted judged wrong_action in
      (not_done ended (λ done. subst IsYes same (printed.1.0 done)), subst (Appends old new) (ap report_line same ∙ no_is) printed.0.printed)
  prints_no laws replies old new (Err e) printed right = right
