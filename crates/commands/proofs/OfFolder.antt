-- A yes of a folder is one of its tree.
use Rattle.std.proofs.Common.{◌≡◌, ◌∙◌, ℕ, List, [], ◌∷◌, Option, None, Some, ap, codes, inl, inr, refl, string_bytes, subst, sym}
use Rattle.std.specs.Prelude.{◌⊎◌, unwrap_or}
use Rattle.std.specs.declared.alloc.Global.{Global}
use Rattle.blob_digest.specs.Digest.{DigestValue}
use Rattle.blob_digest.specs.Text.{digest_text}
use Rattle.blob_source.specs.Source.{Telling}
use Rattle.clap.specs.Words.{Row, first_of}
use Rattle.command_lines.specs.CommandLine.{option_text}
use Rattle.text_verifier.specs.Answered.{IsJudged}
use Rattle.text_verifier.specs.Texts.{IsDigestText, Question}
use Rattle.tree.specs.Form.{IsBlobOf, form, root, top}
use Rattle.tree.specs.Tree.{IsOrdered, Leaf, Tree}
use Rattle.tree.proofs.SameRoot.{same_root}
use Rattle.tree.proofs.TreeDigests.{IsDigest-digest_of}
use Rattle.plan.specs.Plan.{IsPlan}
use Rattle.verifier.specs.Verdict.{IsYes}
use Rattle.verifier.specs.declared.verdict.Verdict.{Verdict}
use Rattle.verifier.proofs.Holds.{recorded_tree}
use Rattle.verifier.proofs.InStages.{ends_in_last, starts}
use Rattle.verifier.proofs.Passing.{yes_recorded}
use Rattle.commands.specs.Artifact.{AreYesOfTree, EveryRunEndsInTree, IsYesOfFolder, IsYesOfTree}
use Rattle.commands.specs.Composed.{EndInClaim}
use Rattle.commands.specs.Digested.{reads_bits}
use Rattle.commands.specs.Evidence.{IsClaim, IsFolderClaim, asked_words, entries_option, evidence_options, given, in_evidence, options_in, sees_archive}
use Rattle.commands.specs.Read.{IsTreeReadAt}
use Rattle.commands.specs.Stages.{AnswersStages, StagesAsked, stages_asked}
use Rattle.commands.specs.Printed.{AnswersVerdict}
use Rattle.commands.specs.Verified.{AnswersAsked, AnswersClaim, OnClaim, OnNamed, OnPlans}
use Rattle.commands.specs.Verified.OnPlans.{of_one, of_stages}
use Rattle.commands.specs.Words.{AllValid}
use Rattle.commands.specs.Evidence.InEvidence.{archive, folder}
use Rattle.commands.specs.World.{Sight}
use Rattle.commands.specs.declared.ended.Ended.TheVariants.{Done}
use Rattle.commands.specs.declared.evidence_options.EvidenceOptions.{EvidenceOptions}
use Rattle.commands.proofs.Asked.{other_text, own_row}
use Rattle.commands.proofs.OneQuestion.{digest_one}
use Rattle.commands.proofs.Staged.{by_verdict}

-- the digest that the text of the claim spells is the tree's
pub claim_is : (text : List ℕ) (claim : DigestValue) (t : Tree Leaf) → IsDigestText text claim → text ≡ digest_text (root (form t)) → claim ≡ root (form t)
claim_is text claim t spelled is = digest_one claim (root (form t)) spelled.valid (IsDigest-digest_of (top (form t))) (sym spelled.text_is ∙ is)

pub ends_in_tree : (told : Telling) (q : Question) (v : Verdict Global) (t : Tree Leaf) → IsPlan q.plan → IsJudged told q v → IsYes v → IsOrdered t → q.claim ≡ root (form t) → EveryRunEndsInTree told q t
ends_in_tree told q v t valid judged affirmed ordered is = record {
  of_run = λ run runs all.
      let recorded = yes_recorded Global told q.sources q.plan q.noted.digests q.claim v judged.verdict affirmed in
      let g = recorded_tree told.blobs told.results q.sources q.plan q.noted.digests q.claim valid recorded run runs all in
      record {
        end = g.0;
        made = g.1;
        named = g.2 ∙ is;
        same = λ apart. same_root (λ b. IsBlobOf g.0 b ⊎ IsBlobOf t b) apart g.0 t g.3 ordered (λ b h. inl h) (λ b h. inr h) (g.2 ∙ is);
      };
}

-- the verdict of an answer on one plan, whose claim is the tree's digest
of_plan : (inside : Sight) (options : List Row) (t : Tree Leaf) (line : List ℕ) → IsOrdered t → option_text options (codes "claim") ≡ digest_text (root (form t))
    → AnswersVerdict inside options line Done → IsYesOfTree t inside options
of_plan inside options t line ordered is answers =
    let judged = answers.judged in
    let affirmed : IsYes answers.verdict = answers.done.0 refl in
    record {
      claim = is;
      verdict = answers.verdict;
      judged = judged;
      is_yes = affirmed;
      ends = ends_in_tree judged.told judged.question answers.verdict t judged.asks.texts.plan_is.valid judged.judged affirmed ordered
          (claim_is (option_text options (codes "claim")) judged.question.claim t judged.asks.texts.claim_spelled is);
    }

-- stages that end in the tree's digest end in the tree
of_end : (inside : Sight) (asked : StagesAsked) (t : Tree Leaf) → IsOrdered t → asked.claim ≡ root (form t) → EndInClaim inside asked → AreYesOfTree t inside asked
of_end inside asked t ordered is ends = record {
  claim = is;
  stages = ends;
  same = λ runs begin end right from run apart.
      let last = ends_in_last Global asked.sources ends.builds runs begin end ends.yes (starts Global asked.sources begin right from) run in
      same_root (λ b. IsBlobOf end b ⊎ IsBlobOf t b) apart end t last.ordered ordered (λ b h. inl h) (λ b h. inr h) (last.same ∙ (ends.last ∙ is));
}

-- the text of the claim among the options that evidence states
pub claim_stated : {M : Type 0} (said : List Row) (o : EvidenceOptions M) → option_text (options_in said o) (codes "claim") ≡ string_bytes o.claim
claim_stated said o =
    let rest = given (codes "plan") (string_bytes o.plan) ∷ given (codes "record") (string_bytes o.noted) ∷ given o.place.now (string_bytes o.entries) ∷ said in
    ap (λ (x : Option (List ℕ)). unwrap_or x []) (other_text (codes "claim") (codes "sources") (string_bytes o.sources) (given (codes "claim") (string_bytes o.claim) ∷ rest) refl ∙ own_row (codes "claim") (string_bytes o.claim) rest)

module _ (sees : Sight) (options : List Row) (at : List ℕ) where
  claim_text : (evidence sources claim : List ℕ) → option_text (evidence_options options evidence evidence sources claim) (codes "claim") ≡ claim
  claim_text evidence sources claim =
      let rest = given (codes "plan") (in_evidence evidence (codes "plan")) ∷ given (codes "record") (in_evidence evidence (codes "record")) ∷ given (entries_option options) (in_evidence evidence (codes "store")) ∷ options in
      ap (λ (o : Option (List ℕ)). unwrap_or o []) (other_text (codes "claim") (codes "sources") sources (given (codes "claim") claim ∷ rest) refl ∙ own_row (codes "claim") claim rest)

  own_text : (claim : List ℕ) → option_text (given (codes "claim") claim ∷ options) (codes "claim") ≡ claim
  own_text claim = ap (λ (o : Option (List ℕ)). unwrap_or o []) (own_row (codes "claim") claim options)

  -- what was read at the folder, and the yes on what the evidence has
  record Inside (inside : Sight) (evidence : List ℕ) : Type 0 where
    tree : Tree Leaf
    read : IsTreeReadAt sees (reads_bits options) at tree
    says : OnPlans sees inside options evidence (IsYesOfTree tree inside) (AreYesOfTree tree inside)

  module _ (line : List ℕ) (named : first_of (codes "artifact") options ≡ Some at) where
    of_plans : (inside : Sight) (evidence : List ℕ) → OnPlans sees inside options evidence (λ o. AnswersClaim sees options inside o line Done) (λ a. AnswersStages inside a line Done) → Inside inside evidence
    of_plans inside evidence (of_one listed h) =
        let claimed : IsFolderClaim sees options at h.claim = subst (λ o. IsClaim o sees inside options evidence h.claim) named h.claim_is in
        record {
          tree = claimed.tree;
          read = claimed.read;
          says = of_one listed (record {
            sources = h.sources;
            sources_are = h.sources_are;
            claim = h.claim;
            claim_is = h.claim_is;
            says =
                of_plan inside (evidence_options options evidence evidence h.sources h.claim) claimed.tree line claimed.read.ordered (claim_text evidence h.sources h.claim ∙ claimed.is) h.says.on.answers;
          });
        }
    of_plans inside evidence (of_stages stages sources claim asks answers) =
        let states = asks.states in
        let claimed : IsFolderClaim sees options at states.claim = subst (λ o. IsClaim o sees inside options evidence states.claim) named states.claim_is in
        let asked = stages_asked options evidence stages sources claim in
        let is : claim ≡ root (form claimed.tree) = claim_is (option_text (evidence_options options evidence evidence states.sources states.claim) (codes "claim")) claim claimed.tree
        states.says.claim_is (claim_text evidence states.sources states.claim ∙ claimed.is) in
        record {
          tree = claimed.tree;
          read = claimed.read;
          says = of_stages stages sources claim asks (of_end inside asked claimed.tree claimed.read.ordered is
              (by_verdict line sees inside asked answers.verdict asks (answers.done.0 refl) answers.judged));
        }

    of_named : AllValid (asked_words options) → (evidence : Option (List ℕ)) → first_of (codes "evidence") options ≡ evidence
        → OnNamed evidence sees options (λ s o. AnswersClaim sees options s o line Done) (λ s a. AnswersStages s a line Done) → IsYesOfFolder sees options at
    of_named valid None is h =
        let claimed = subst (λ o. OnClaim o sees options (λ o. AnswersClaim sees options sees o line Done)) named h in
        let claim = claimed.1 in
        let claimed_yes : OnClaim (Some at) sees options (IsYesOfTree claim.tree sees) =
        (claimed.0, claim, of_plan sees (given (codes "claim") claimed.0 ∷ options) claim.tree line claim.read.ordered (own_text claimed.0 ∙ claim.is) claimed.2.on.answers) in
        record {
          tree = claim.tree;
          read = claim.read;
          says = record {
            valid = valid;
            says = subst (λ o. OnNamed o sees options (IsYesOfTree claim.tree) (AreYesOfTree claim.tree)) (sym is)
                (subst (λ o. OnClaim o sees options (IsYesOfTree claim.tree sees)) (sym named) claimed_yes);
          };
        }
    of_named valid (Some evidence) is (folder leads h) =
        let found = of_plans sees evidence h in
        record {
          tree = found.tree;
          read = found.read;
          says = record { valid = valid; says = subst (λ o. OnNamed o sees options (IsYesOfTree found.tree) (AreYesOfTree found.tree)) (sym is) (folder leads found.says) };
        }
    of_named valid (Some evidence) is (archive leads contents files holds h) =
        let found = of_plans (sees_archive sees (in_evidence evidence []) contents files) evidence h in
        record {
          tree = found.tree;
          read = found.read;
          says = record { valid = valid; says = subst (λ o. OnNamed o sees options (IsYesOfTree found.tree) (AreYesOfTree found.tree)) (sym is) (archive leads contents files holds found.says) };
        }

    pub of_folder : AnswersAsked sees options line Done → IsYesOfFolder sees options at
    of_folder h = of_named h.valid (first_of (codes "evidence") options) refl h.says
