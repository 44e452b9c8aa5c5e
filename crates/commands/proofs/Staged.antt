-- What is said of stages that were judged.
use Rattle.std.proofs.Common.{◌≡◌, ◌∙◌, ◌<◌, ℕ, List, [], ◌∷◌, ◌++◌, Option, None, Some, arith, length, refl, subst, sym}
use Rattle.std.specs.declared.alloc.Global.{Global}
use Rattle.blob_digest.specs.Digest.{DigestValue, IsDigest}
use Rattle.blob_digest.specs.Text.{digest_text}
use Rattle.std.specs.Prelude.{codes}
use Rattle.clap.specs.Words.{Row, first_of}
use Rattle.verifier.proofs.InStages.{ends_in_last, starts}
use Rattle.verifier.specs.BuildStages.{AreYes, BuildStage, IsYesFrom, last_claim}
use Rattle.verifier.specs.declared.verdict.Verdict.TheVariants.{Yes}
use Rattle.commands.specs.Composed.{AreListed, EndInClaim, IsAskedBy, build_stage}
use Rattle.commands.specs.Composed.AreListed.{more, none}
use Rattle.report.specs.Line.{IsYesOfStages}
use Rattle.report.specs.declared.stages.StagesVerdict.{StagesVerdict}
use Rattle.report.specs.declared.stages.StagesVerdict.TheVariants as verdicts
use Rattle.commands.specs.Evidence.{in_evidence, sees_archive}
use Rattle.commands.specs.Evidence.InEvidence.{archive, folder}
use Rattle.commands.specs.Stages.{AnswersStages, AsksStages, IsClaimOf, JudgesStages, LeadsTo, StagesAsked, stage_options, stages_asked}
use Rattle.commands.specs.Stages.LeadsTo.{begin, next}
use Rattle.commands.specs.Verified.{AnswersClaim, OnClaim, OnNamed, OnPlans}
use Rattle.commands.specs.Verified.OnPlans.{of_one, of_stages}
use Rattle.commands.specs.World.{Sight}
use Rattle.commands.specs.declared.ended.Ended.TheVariants.{Done}
use Rattle.commands.proofs.OneQuestion.{spelled_once}

-- behind the last stage stands the claim
is_last : (sees : Sight) (evidence : List ℕ) (last claim : DigestValue) (stage : ℕ) (left : List ℕ) → left ≡ [] → IsClaimOf sees evidence last stage left claim → claim ≡ last
is_last sees evidence last claim stage [] e is = is
is_last sees evidence last claim stage (other ∷ left) e is = cc e

pub ends_in_claim : (sees : Sight) (asked : StagesAsked) (left : List ℕ) (at : DigestValue) (steps : ℕ) → 0 < length asked.stages → left ≡ [] → LeadsTo sees asked left at steps → at ≡ asked.claim
ends_in_claim sees asked left at steps some e begin = absurd (let short : length asked.stages ≡ 0 = subst (λ (l : List ℕ). length l ≡ 0) (sym e) refl in omega (arith, some, short))
ends_in_claim sees asked left at steps some e (next stage rest sources claim root before own reached is judged) = is_last sees asked.evidence asked.claim claim stage rest e is

-- ---- the stages of a build

last_claim-push : (at : DigestValue) (builds : List BuildStage) (build : BuildStage) → last_claim at (builds ++ build ∷ []) ≡ build.claim
last_claim-push at [] build = refl
last_claim-push at (first ∷ builds) build = last_claim-push first.claim builds build

are_yes-push : (at : DigestValue) (builds : List BuildStage) (build : BuildStage) → AreYes Global at builds → IsYesFrom Global (last_claim at builds) build → AreYes Global at (builds ++ build ∷ [])
are_yes-push at [] build all one = (one, tt)
are_yes-push at (first ∷ builds) build all one = (all.0, are_yes-push first.claim builds build all.1 one)

-- the stages up to those that are left
record SoFar (sees : Sight) (asked : StagesAsked) (left : List ℕ) (at : DigestValue) : Type 0 where
  builds : List BuildStage
  are : AreListed sees asked left builds
  yes : AreYes Global asked.sources builds
  ends : last_claim asked.sources builds ≡ at
  valid : IsDigest at

claim_valid : (sees : Sight) (evidence : List ℕ) (last claim : DigestValue) (stage : ℕ) (left : List ℕ) → IsDigest last → IsClaimOf sees evidence last stage left claim → IsDigest claim
claim_valid sees evidence last claim stage [] valid is = subst IsDigest (sym is) valid
claim_valid sees evidence last claim stage (other ∷ left) valid is = is.spelled.valid

composed : (sees : Sight) (asked : StagesAsked) → IsDigest asked.sources → IsDigest asked.claim → (left : List ℕ) (at : DigestValue) (steps : ℕ) → LeadsTo sees asked left at steps → SoFar sees asked left at
composed sees asked from to left at steps begin = record { builds = []; are = none; yes = tt; ends = refl; valid = from }
composed sees asked from to left at steps (next stage rest sources claim root before own reached is judged) =
    let so_far = composed sees asked from to (stage ∷ rest) sources before reached in
    let q = judged.question in
    let build = build_stage judged.told q in
    let valid : IsDigest claim = claim_valid sees asked.evidence asked.claim claim stage rest to is in
    let same_from : q.sources ≡ sources = spelled_once (digest_text sources) q.sources sources judged.asks.texts.sources_spelled (record { valid = so_far.valid; text_is = refl }) in
    let same_to : q.claim ≡ claim = spelled_once (digest_text claim) q.claim claim judged.asks.texts.claim_spelled (record { valid = valid; text_is = refl }) in
    record {
      builds = so_far.builds ++ build ∷ [];
      are = more stage rest so_far.builds build so_far.are
          (subst (IsClaimOf sees asked.evidence asked.claim stage rest) (sym same_to) is)
          (subst (λ (s : DigestValue). IsAskedBy sees (stage_options asked.options asked.evidence stage s q.claim) build) (sym so_far.ends)
          (subst (λ (k : DigestValue). IsAskedBy sees (stage_options asked.options asked.evidence stage sources k) build) (sym same_to)
          (record { question = q; asks = judged.asks; told = judged.told; source = judged.source; is = refl })));
      yes = are_yes-push asked.sources so_far.builds build so_far.yes (subst (λ (s : DigestValue). IsYesFrom Global s build) (same_from ∙ sym so_far.ends)
          (record { planned = judged.asks.texts.plan_is.valid; verdict = Yes root own; given = judged.judged.verdict; yes = tt }));
      ends = last_claim-push asked.sources so_far.builds build ∙ same_to;
      valid = valid;
    }

pub end_in_claim : (sees : Sight) (asked : StagesAsked) (steps : ℕ) → IsDigest asked.sources → IsDigest asked.claim → LeadsTo sees asked [] asked.claim steps → EndInClaim sees asked
end_in_claim sees asked steps from to leads =
    let all = composed sees asked from to [] asked.claim steps leads in
    record {
      builds = all.builds;
      are = all.are;
      yes = all.yes;
      last = all.ends;
      ends = λ runs t end ordered same run. (ends_in_last Global asked.sources all.builds runs t end all.yes (starts Global asked.sources t ordered same) run).same ∙ all.ends;
    }

-- ---- the yes that was answered

module _ (line : List ℕ) (outside sees : Sight) where
  pub by_verdict : (asked : StagesAsked) (verdict : StagesVerdict Global) → AsksStages outside sees asked → IsYesOfStages verdict → JudgesStages sees asked verdict → EndInClaim sees asked
  by_verdict asked (verdicts.Yes root count steps) asks positive judged = end_in_claim sees asked steps asks.states.says.sources_are.valid asks.states.says.claim_is.valid judged.2
  by_verdict asked (verdicts.No stage place cause) asks positive judged = absurd positive

  ends_inside : (said options : List Row) (evidence : List ℕ) → OnPlans outside sees options evidence (λ o. AnswersClaim outside said sees o line Done) (λ a. AnswersStages sees a line Done)
      → OnPlans outside sees options evidence (λ o. Unit {0}) (EndInClaim sees)
  ends_inside said options evidence (of_one listed states) = of_one listed (record { sources = states.sources; sources_are = states.sources_are; claim = states.claim; claim_is = states.claim_is; says = tt })
  ends_inside said options evidence (of_stages stages sources claim asks answers) =
      of_stages stages sources claim asks (by_verdict (stages_asked options evidence stages sources claim) answers.verdict asks (answers.done.0 refl) answers.judged)

-- whatever is said of the options with a folder's claim, nothing is
nothing_claimed : (place : Option (List ℕ)) (sees : Sight) (options : List Row) (Says : List Row → Type 0) → OnClaim place sees options Says → OnClaim place sees options (λ o. Unit {0})
nothing_claimed None sees options Says h = tt
nothing_claimed (Some place) sees options Says h = (h.0, h.1, tt)

pub ends_named : (line : List ℕ) (sees : Sight) (options : List Row) (named : Option (List ℕ)) → OnNamed named sees options (λ s o. AnswersClaim sees options s o line Done) (λ s a. AnswersStages s a line Done)
    → OnNamed named sees options (λ s o. Unit {0}) EndInClaim
ends_named line sees options None h = nothing_claimed (first_of (codes "artifact") options) sees options (λ o. AnswersClaim sees options sees o line Done) h
ends_named line sees options (Some evidence) (folder lead says) = folder lead (ends_inside line sees sees options options evidence says)
ends_named line sees options (Some evidence) (archive lead contents files holds says) =
    archive lead contents files holds (ends_inside line sees (sees_archive sees (in_evidence evidence []) contents files) options options evidence says)
