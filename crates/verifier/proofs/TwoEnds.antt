-- The build of two steps where the first failed, or made what its command doesn't list.
use Rattle.std.proofs.Common.{◌≡◌, ℕ, zero, suc, List, [], ◌∷◌, Some, refl, ap, sym, ◌∙◌, subst, arith, inl, inr, lit<, true, false}
use Rattle.std.specs.Prelude.{slice_get, take, Contains, codes, pos}
use Rattle.std.proofs.lemmas.Slice.Eq.{bytes_eq-Decides}
use Rattle.hex.specs.Hex.{decode_pairs}
use Rattle.wire.specs.Bytes.{AreBytes}
use Rattle.wire.specs.Varint.{groups, varint}
use Rattle.blob_digest.specs.Digest.{DigestValue}
use Rattle.action_messages.specs.Action.{with_input}
use Rattle.action_messages.specs.ActionResult.{ActionResultValue, IsActionResult, action_result_bytes}
use Rattle.action_messages.specs.Outputs.{file}
use Rattle.action_messages.proofs.Written.{canon_reads}
use Rattle.tree.specs.Merge.{merge}
use Rattle.tree.specs.Stage.{◌and_then◌}
use Rattle.tree.specs.Tree.{Name, empty}
use Rattle.tree.specs.Form.{NodeValue}
use Rattle.verifier.specs.declared.verdict.Cause.{Cause}
use Rattle.verifier.specs.declared.verdict.Cause.TheVariants.{ExitCode, OutputUnlisted}
use Rattle.verifier.specs.declared.verdict.Place.TheVariants.{Step}
use Rattle.verifier.specs.declared.verdict.Verdict.TheVariants.{No}
use Rattle.verifier.specs.Build.{ActionMeaning, action_digest, Outcome, IsActionMeaning, IsTreeOutcome, opening, action_of, IsTable, IsRun}
use Rattle.verifier.specs.Headline.{IsBlobOfOutcome, IsBlobOfStarts, RunsFrom}
use Rattle.verifier.specs.Holding.{HoldsResult}
use Rattle.verifier.specs.Recorded.{Agrees, IsRecordedAs, RecordsAt, entries_form}
use Rattle.verifier.specs.StepChecks.{succeeded, read}
use Rattle.verifier.specs.TwoSteps as two
use Rattle.verifier.specs.Verdict.{IsVerdict}
use Rattle.verifier.proofs.TwoSteps.{fits, gen_valid, use_valid, gen_frame_named, sources_named}
use Rattle.verifier.proofs.TwoStepsRecorded.{bytes_fit, nothing_merges, gen_action_told, gen_command_told, use_result_bytes, use_result_valid}
use Rattle.verifier.proofs.TwoStepsRun.{s1, obeys, gen_digest, use_recorded_as}
use Rattle.verifier.proofs.TwoStepsBlobs.{all_blobs, made_by_uses}
use Rattle.verifier.proofs.TwoNoes.{no_clash, starts}

-- ---- what was recorded

recorded_kept : (r : ActionResultValue) → (two.recording r).results two.gen_action_digest ≡ Some (action_result_bytes r)
unfolding two.gen_action_digest decode_pairs
recorded_kept r = refl

failed_valid : IsActionResult two.failed_result
failed_valid = record {
  files = tt;
  directories = tt;
  symlinks = tt;
  paths = record { files_ascend = tt; directories_ascend = tt; symlinks_ascend = tt; apart = tt };
  exit_code = omega arith;
  stdout = record { digest = tt };
  stderr = record { digest = tt };
}

failed_bytes : AreBytes (action_result_bytes two.failed_result)
unfolding action_result_bytes varint groups
failed_bytes = (lit< tt, bytes_fit (action_result_bytes two.failed_result) refl)

failed_held : HoldsResult (two.recording two.failed_result).results two.gen_action_digest two.failed_result
failed_held = (action_result_bytes two.failed_result, recorded_kept two.failed_result, canon_reads (action_result_bytes two.failed_result) two.failed_result failed_bytes failed_valid refl)

unlisted_held : HoldsResult (two.recording two.use_result).results two.gen_action_digest two.use_result
unlisted_held = (action_result_bytes two.use_result, recorded_kept two.use_result, canon_reads (action_result_bytes two.use_result) two.use_result use_result_bytes use_result_valid refl)

failed_as : IsRecordedAs two.blobs (two.recording two.failed_result).results two.gen_action_digest two.failed
failed_as = record { result = two.failed_result; held = failed_held; exit_code = refl; trees = tt; outputs = λ p x. (there p x, back p x) }
  where
    there : (p : List Name) (x : NodeValue) → Contains (entries_form two.failed.outputs) (p, x) → RecordsAt two.blobs two.failed_result p x
    there p x (k, lt, e) = absurd (omega (arith, lt))

    back : (p : List Name) (x : NodeValue) → RecordsAt two.blobs two.failed_result p x → Contains (entries_form two.failed.outputs) (p, x)
    back p x (inl (f, (k, lt, e), path, is)) = absurd (omega (arith, lt))
    back p x (inr (inl (l, (k, lt, e), path, is))) = absurd (omega (arith, lt))
    back p x (inr (inr (d, (k, lt, e), path, t, told, is))) = absurd (omega (arith, lt))

-- ---- the verdicts

ends_at_gen : (A : Type 0) (result : ActionResultValue) (c : Cause A) → HoldsResult (two.recording result).results two.gen_action_digest result → (succeeded result and_then λ _. read two.blobs two.gen.0.command result).fails c
    → IsVerdict (two.recording result) two.sources two.plan two.recorded two.claim (No (Step (codes "gen")) c)
unfolding ◌and_then◌
ends_at_gen A result c held ends =
    inl (inl (
      refl,
      inr (with_input two.gen.0.frame two.sources, gen_action_told, inr (tt, refl, inr (two.gen.0.command, gen_command_told, inr (tt, gen_frame_named, inr (tt, (empty, ([], refl, nothing_merges two.blobs), sources_named), inr (result, held, ends)))))),
    ))

pub fails : (A : Type 0) → IsVerdict {A = A} (two.recording two.failed_result) two.sources two.plan two.recorded two.claim (No (Step (codes "gen")) (ExitCode (pos 1)))
unfolding ◌and_then◌
fails A = ends_at_gen A two.failed_result (ExitCode (pos 1)) failed_held (inl ((λ e. absurd cc), refl))

-- `gen` may make `out` alone
other_name : codes "out" ≡ codes "res" → ⊥
other_name name = let same : false ≡ true = (bytes_eq-Decides (codes "out") (codes "res")).1 name in cc

not_listed : Contains two.gen.0.command.output_paths (codes "res" ∷ []) → ⊥
not_listed (zero, lt, e) = let name : codes "out" ≡ codes "res" = cc in other_name name
not_listed (suc k, lt, e) = absurd (omega (arith, lt))

pub unlisted : (A : Type 0) → IsVerdict {A = A} (two.recording two.use_result) two.sources two.plan two.recorded two.claim (No (Step (codes "gen")) (OutputUnlisted (codes "res" ∷ [])))
unfolding ◌and_then◌
unlisted A = ends_at_gen A two.use_result (OutputUnlisted (codes "res" ∷ [])) unlisted_held (inr (
  tt,
  refl,
  (
    file (record { path = codes "res" ∷ []; digest = two.newline_digest; executable = false }) ∷ [],
    record { ascend = (tt, tt); files = refl; directories = refl; symlinks = refl },
    inl (inl (not_listed, refl)),
  ),
))

-- ---- a run of the first step, which comes to an outcome

module _ (o : Outcome) (valid : IsTreeOutcome o) (made : (b : List ℕ) → IsBlobOfOutcome o b → Contains all_blobs b) (result : ActionResultValue) (noted : IsRecordedAs two.blobs (two.recording result).results two.gen_action_digest o) where
  only : (a : ActionMeaning) (p : Outcome) → Contains {X = ActionMeaning × Outcome} ((two.gen.0, o) ∷ []) (a, p) → ◌≡◌ {A = ActionMeaning × Outcome} (two.gen.0, o) (a, p)
  only a p (zero, lt, e) = e
  only a p (suc k, lt, e) = absurd (omega (arith, lt))

  inside : Contains {X = ActionMeaning × Outcome} ((two.gen.0, o) ∷ []) (two.gen.0, o)
  inside = (0, omega arith, refl)

  table : IsTable ((two.gen.0, o) ∷ [])
  table = record {
    same = λ a p q x y. ap (λ (z : ActionMeaning × Outcome). z.1) (sym (only a p x) ∙ only a q y);
    actions = λ a p x. subst (λ (z : ActionMeaning × Outcome). IsActionMeaning z.0 × IsTreeOutcome z.1) (only a p x) (gen_valid.0, valid);
  }

  abbrev IsPicked : DigestValue → ActionMeaning × Outcome → Type 0
  IsPicked digest pair = Contains {X = ActionMeaning × Outcome} ((two.gen.0, o) ∷ []) pair × (action_digest pair.0 ≡ digest) × IsRecordedAs two.blobs (two.recording result).results digest pair.1

  agrees : Agrees two.blobs (two.recording result).results ((two.gen.0, o) ∷ []) ((two.gen.0, o) ∷ []) (take 1 two.recorded)
  agrees = record { each = refl; pairs = by }
    where
      by : (i : ℕ) (digest : DigestValue) (pair : ActionMeaning × Outcome) → slice_get (take 1 two.recorded) i ≡ Some digest → slice_get ((two.gen.0, o) ∷ []) i ≡ Some pair → IsPicked digest pair
      by zero digest pair d p =
          let digests : two.gen_action_digest ≡ digest = cc in
          let pairs : ◌≡◌ {A = ActionMeaning × Outcome} (two.gen.0, o) pair = cc in
          subst (λ d. IsPicked d pair) digests (subst (IsPicked two.gen_action_digest) pairs (inside, gen_digest, noted))
      by (suc i) digest pair d p = absurd cc

  of_starts : (b : List ℕ) → IsBlobOfStarts two.plan two.meaning empty opening (two.ended_run o).events b → Contains all_blobs b
  unfolding merge
  of_starts b (inl (a, at, h)) = starts b (action_of two.plan two.meaning empty opening 0) a refl at h
  of_starts b (inr (mid, at, inl none)) = absurd none
  of_starts b (inr (mid, at, inr (next, after, none))) = absurd none

  happened : IsRun ((two.gen.0, o) ∷ []) two.plan two.meaning empty opening (two.ended_run o).events (two.ended_run o).now
  unfolding merge
  happened = (tt, s1, refl, (obeys ((two.gen.0, o) ∷ []) (two.gen.0, o) s1 0 0 inside refl, (two.ended_run o).now, refl, refl))

  ended_runs : RunsFrom two.blobs (two.recording result).results two.sources two.plan (take 1 two.recorded) (two.ended_run o)
  ended_runs = record { ordered = tt; from = sources_named; keeps = record { fits = fits; table = table; agrees = agrees; apart = no_clash o made two.plan two.meaning (two.ended_run o).events of_starts; happened = happened } }

nothing_made : (b : List ℕ) → IsBlobOfOutcome two.failed b → Contains all_blobs b
nothing_made b (e, (k, lt, at), h) = absurd (omega (arith, lt))

pub failed_runs : RunsFrom two.blobs (two.recording two.failed_result).results two.sources two.plan (take 1 two.recorded) (two.ended_run two.failed)
failed_runs = ended_runs two.failed (record { apart = tt; outputs = tt }) nothing_made two.failed_result failed_as

pub unlisted_runs : RunsFrom two.blobs (two.recording two.use_result).results two.sources two.plan (take 1 two.recorded) (two.ended_run two.uses.1)
unlisted_runs = ended_runs two.uses.1 use_valid.1 made_by_uses two.use_result (use_recorded_as two.blobs (two.recording two.use_result).results two.gen_action_digest unlisted_held)
