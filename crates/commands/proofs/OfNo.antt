-- A no with the note of a folder says where that differs from what builds make.
use Rattle.std.proofs.Common.{◌≡◌, ◌≢◌, ◌∙◌, ◌++◌, ◌∷◌, ℕ, List, [], Option, None, Some, ap, codes, inl, inr, refl, subst, sym}
use Rattle.std.specs.Prelude.{◌⊎◌}
use Rattle.std.specs.declared.alloc.Global.{Global}
use Rattle.blob_digest.specs.Digest.{DigestValue}
use Rattle.blob_digest.specs.Text.{digest_text}
use Rattle.blob_source.specs.Source.{Telling}
use Rattle.blob_source.specs.Told.{missing, wrong, malformed}
use Rattle.actions.specs.Outcome.{OutcomeValue}
use Rattle.clap.specs.Words.{Row, first_of}
use Rattle.command_lines.specs.CommandLine.{option_text}
use Rattle.plan.specs.Values.{LineValue}
use Rattle.text_verifier.specs.Answered.{IsMadeFor}
use Rattle.tree.specs.Folded.{items_of}
use Rattle.tree.specs.Form.{form, root}
use Rattle.tree.specs.Mismatch.{FirstMismatch, mismatch_value}
use Rattle.tree.specs.Stage.{◌and_then◌}
use Rattle.tree.specs.Tree.{Leaf, Tree}
use Rattle.tree.specs.declared.mismatch.Mismatch.{Mismatch}
use Rattle.tree.proofs.TrueMismatches.{first_true}
use Rattle.verifier.specs.Faults.{cause_of_lines}
use Rattle.verifier.specs.Together.{LinesFault, in_conflict, no_origin, not_read}
use Rattle.verifier.specs.Verdict.{IsVerdict, root_check}
use Rattle.verifier.specs.declared.made.Made.{Made}
use Rattle.verifier.specs.declared.verdict.Cause.{Cause}
use Rattle.verifier.specs.declared.verdict.Cause.TheVariants.{RootDiffers}
use Rattle.verifier.specs.declared.verdict.Verdict.{Verdict}
use Rattle.verifier.proofs.Passing.{root_fails}
use Rattle.commands.specs.Artifact.{IsNoOfFolder, IsNoOfTree}
use Rattle.commands.specs.Digested.{reads_bits}
use Rattle.commands.specs.Evidence.{asked_words, in_evidence, sees_archive}
use Rattle.commands.specs.Evidence.InEvidence.{archive, folder}
use Rattle.commands.specs.FolderRead.{IsArtifact, ReadValue}
use Rattle.commands.specs.Noted.{IsNoteOn}
use Rattle.commands.specs.Printed.{JudgesAsked}
use Rattle.commands.specs.Read.{IsTreeReadAt, blobs_of, directories_in}
use Rattle.commands.specs.Stages.{AnswersStages}
use Rattle.commands.specs.Verified.{AnswersAsked, AnswersClaim, OnClaim, OnNamed, OnPlans}
use Rattle.commands.specs.Verified.OnPlans.{of_one, of_stages}
use Rattle.commands.specs.Words.{AllValid}
use Rattle.commands.specs.World.{Sight}
use Rattle.commands.specs.declared.ended.Ended.TheVariants.{No}
use Rattle.commands.specs.declared.ended.Note.TheVariants.{Differs}
use Rattle.commands.proofs.OfFolder.{claim_is}

-- a root that isn't the claim
no_lines : (why : LinesFault) (other : DigestValue) → ◌≡◌ {A = Cause Global} (RootDiffers other) (cause_of_lines why) → ⊥
no_lines (no_origin path) other e = cc
no_lines (in_conflict path) other e = cc
no_lines (not_read (missing d)) other e = cc
no_lines (not_read (wrong d)) other e = cc
no_lines (not_read (malformed d)) other e = cc

other_root : (t : Telling) (sources : DigestValue) (os : List OutcomeValue) (ls : List LineValue) (claim other : DigestValue) → (root_check {A = Global} t sources os ls claim).fails (RootDiffers other) → other ≢ claim
unfolding ◌and_then◌
other_root t sources os ls claim other (inl h) same = no_lines h.0 other h.2
other_root t sources os ls claim other (inr (tree, passes, (differs, is))) same = differs (let it : root tree ≡ other = cc in it ∙ same)

module _ (sees : Sight) (options : List Row) (at : List ℕ) (x : Mismatch Global) (line : List ℕ) (named : first_of (codes "artifact") options ≡ Some at) where
  -- the tree that was read, and what is said of it
  record Found (inside : Sight) (asked : List Row) : Type 0 where
    tree : Tree Leaf
    read : IsTreeReadAt sees (reads_bits options) at tree
    says : IsNoOfTree tree (mismatch_value x) inside asked

  by_value : (inside : Sight) (asked : List Row) (verdict : Verdict Global) (made : Option (Made Global)) (read : Option ReadValue) → IsArtifact (Some at) sees options (option_text asked (codes "claim")) read
      → (judged : JudgesAsked inside asked verdict) → IsMadeFor judged.told judged.question verdict made → IsNoteOn made read (Some (Differs x)) → Found inside asked
  by_value inside asked verdict made None is judged handed first = absurd is
  by_value inside asked verdict None (Some r) is judged handed first = absurd (let never : Some (Differs x) ≡ None = first in cc)
  by_value inside asked verdict (Some m) (Some r) is judged handed first =
      let q = judged.question in
      let tree = is.read.tree in
      let known = items_of m.directories.items ++ directories_in (blobs_of tree) in
      let no = subst (IsVerdict judged.told q.sources q.plan q.noted.digests q.claim) handed.0 judged.judged.verdict in
      let parts = root_fails Global judged.told q.sources q.plan q.noted.digests q.claim (RootDiffers m.root) no in
      let differs = other_root judged.told q.sources parts.0 q.plan.root_lines q.claim m.root parts.2 in
      let claim : q.claim ≡ root (form tree) = claim_is (option_text asked (codes "claim")) q.claim tree judged.asks.texts.claim_spelled (is.claim ∙ ap digest_text is.read.digest) in
      let found = first (λ same. differs (same ∙ is.read.digest ∙ sym claim)) in
      let here : FirstMismatch known 64 [] m.root (root (form tree)) (Some (mismatch_value x)) =
      subst (λ d. FirstMismatch known 64 [] m.root d (Some (mismatch_value x))) is.read.digest
      (subst (λ ds. FirstMismatch (items_of m.directories.items ++ ds) 64 [] m.root r.digest (Some (mismatch_value x))) is.read.directories found) in
      record {
        tree = tree;
        read = is.read.read;
        says = record { verdict = verdict; judged = judged; made = m; is_made = handed; first = here; is_true = first_true known m.root (root (form tree)) (mismatch_value x) here };
      }

  of_claim : (inside : Sight) (asked : List Row) → AnswersClaim sees options inside asked line (No (Some (Differs x))) → Found inside asked
  of_claim inside asked h =
      by_value inside asked h.on.answers.verdict h.on.made h.read (subst (λ o. IsArtifact o sees options (option_text asked (codes "claim")) h.read) named h.is_read) h.on.answers.judged h.on.is_made h.on.differs

  -- of what the evidence has
  record Inside (inside : Sight) (evidence : List ℕ) : Type 0 where
    tree : Tree Leaf
    read : IsTreeReadAt sees (reads_bits options) at tree
    says : OnPlans sees inside options evidence (IsNoOfTree tree (mismatch_value x) inside) (λ a. ⊥)

  of_plans : (inside : Sight) (evidence : List ℕ) → OnPlans sees inside options evidence (λ o. AnswersClaim sees options inside o line (No (Some (Differs x)))) (λ a. AnswersStages inside a line (No (Some (Differs x)))) → Inside inside evidence
  of_plans inside evidence (of_one listed h) =
      let found = of_claim inside _ h.says in
      record {
        tree = found.tree;
        read = found.read;
        says = of_one listed (record { sources = h.sources; sources_are = h.sources_are; claim = h.claim; claim_is = h.claim_is; says = found.says });
      }
  of_plans inside evidence (of_stages stages sources claim asks answers) = absurd answers.noted

  of_named : AllValid (asked_words options) → (evidence : Option (List ℕ)) → first_of (codes "evidence") options ≡ evidence
      → OnNamed evidence sees options (λ s o. AnswersClaim sees options s o line (No (Some (Differs x)))) (λ s a. AnswersStages s a line (No (Some (Differs x)))) → IsNoOfFolder sees options at (mismatch_value x)
  of_named valid None is h =
      let claimed = subst (λ o. OnClaim o sees options (λ o. AnswersClaim sees options sees o line (No (Some (Differs x))))) named h in
      let found = of_claim sees _ claimed.2 in
      let told : OnClaim (Some at) sees options (IsNoOfTree found.tree (mismatch_value x) sees) = (claimed.0, claimed.1, found.says) in
      record {
        tree = found.tree;
        read = found.read;
        says = record {
          valid = valid;
          says = subst (λ o. OnNamed o sees options (IsNoOfTree found.tree (mismatch_value x)) (λ s a. ⊥)) (sym is)
              (subst (λ o. OnClaim o sees options (IsNoOfTree found.tree (mismatch_value x) sees)) (sym named) told);
        };
      }
  of_named valid (Some evidence) is (folder leads h) =
      let found = of_plans sees evidence h in
      record {
        tree = found.tree;
        read = found.read;
        says = record { valid = valid; says = subst (λ o. OnNamed o sees options (IsNoOfTree found.tree (mismatch_value x)) (λ s a. ⊥)) (sym is) (folder leads found.says) };
      }
  of_named valid (Some evidence) is (archive leads contents files holds h) =
      let found = of_plans (sees_archive sees (in_evidence evidence []) contents files) evidence h in
      record {
        tree = found.tree;
        read = found.read;
        says = record { valid = valid; says = subst (λ o. OnNamed o sees options (IsNoOfTree found.tree (mismatch_value x)) (λ s a. ⊥)) (sym is) (archive leads contents files holds found.says) };
      }

  pub no_of_folder : AnswersAsked sees options line (No (Some (Differs x))) → IsNoOfFolder sees options at (mismatch_value x)
  no_of_folder h = of_named h.valid (first_of (codes "evidence") options) refl h.says
