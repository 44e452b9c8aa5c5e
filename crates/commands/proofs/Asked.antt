-- What is said of evidence, and of options without it.
use Rattle.std.proofs.Common.{◌≡◌, ℕ, Bool, cond, true, false, List, ◌∷◌, ◌++◌, [], Option, None, Some, inl, inr, refl, string_bytes, subst, sym, true≢false, ◌∙◌}
use Rattle.std.specs.Prelude.{IfOk, IfSome, Result, Ok, Err, codes, option_and_then, slice_get}
use Rattle.std.specs.Map.{lookup}
use Rattle.std.specs.declared.alloc.Global.{Global}
use Rattle.std.proofs.lemmas.List.{append_cancel_left}
use Rattle.std.specs.List.{find}
use Rattle.std.specs.Str.{bytes_eq}
use Rattle.std.proofs.lemmas.Slice.Eq.{bytes_eq-Decides}
use Rattle.archive.specs.Member.{FileValue}
use Rattle.archive.specs.Reader.{FailsAt}
use Rattle.clap.specs.Words.{Row, Text, first_of}
use Rattle.remote.specs.declared.files.FileError.{FileError}
use Rattle.remote.specs.declared.files.FileError.TheVariants as errors
use Rattle.commands.specs.Verified.FailsBehind.{behind, in_memory}
use Rattle.commands.specs.Evidence.InEvidence.{archive}
use Rattle.commands.specs.Faults.{OrMemory}
use Rattle.commands.specs.declared.judgement.Judgement.{Judgement}
use Rattle.commands.specs.Evidence.{HoldsArchive, InEvidence, IsNothingThere, IsSameFault, StatesDigests, asked_words, entries_option, evidence_options, given, in_evidence, options_in, sees_archive}
use Rattle.command_lines.specs.CommandLine.{option_text}
use Rattle.text_verifier.specs.Texts.{IsDigestText}
use Rattle.text_verifier.specs.declared.reading.Digests.{Digests}
use Rattle.commands.specs.Stages.{SpellsDigests, StagesAsked}
use Rattle.commands.specs.Verified.{AnswersAndKeeps, AnswersAsked, AnswersSaid, FailsBehind, FailsClaimed, FailsNamed, KeepsEvidence, OnClaim, OnNamed}
use Rattle.commands.specs.Words.{AllValid, Check}
use Rattle.commands.specs.World.{Sight}
use Rattle.commands.specs.declared.error.CommandError.{CommandError}
use Rattle.commands.specs.declared.evidence_options.EvidenceOptions.{EvidenceOptions}

-- ---- the options by which evidence is judged

pub own_row : (name text : Text) (rows : List Row) → first_of name (given name text ∷ rows) ≡ Some text
own_row name text rows = rw ((bytes_eq-Decides name name).1 refl)

pub other_row : (name other text : Text) (rows : List Row) → (name ≡ other → ⊥) → first_of name (given other text ∷ rows) ≡ first_of name rows
other_row name other text rows apart = go (bytes_eq other name) refl
  where
    go : (b : Bool) → bytes_eq other name ≡ b → option_and_then (λ (r : Row). slice_get r.values 0) (cond b (Some (given other text)) (find (λ (r : Row). bytes_eq r.id name) rows)) ≡ first_of name rows
    go true same = absurd (apart (sym ((bytes_eq-Decides other name).0 same)))
    go false same = refl

pub other_text : (name other text : Text) (rows : List Row) → bytes_eq name other ≡ false → first_of name (given other text ∷ rows) ≡ first_of name rows
other_text name other text rows apart = other_row name other text rows (λ same. true≢false (sym ((bytes_eq-Decides name other).1 same) ∙ apart))

module _ {M : Type 0} (name : Text) (o : EvidenceOptions M) (rows : List Row) where
  -- another option's text stands behind these four
  pub apart_rows : (name ≡ codes "sources" → ⊥) → (name ≡ codes "claim" → ⊥) → (name ≡ codes "plan" → ⊥) → (name ≡ codes "record" → ⊥)
      → first_of name (options_in rows o) ≡ first_of name (given o.place.now (string_bytes o.entries) ∷ rows)
  apart_rows sources claim plan noted =
      let last = given o.place.now (string_bytes o.entries) ∷ rows in
      let with_record = given (codes "record") (string_bytes o.noted) ∷ last in
      let with_plan = given (codes "plan") (string_bytes o.plan) ∷ with_record in
      let with_claim = given (codes "claim") (string_bytes o.claim) ∷ with_plan in
      other_row name (codes "sources") (string_bytes o.sources) with_claim sources
      ∙ (other_row name (codes "claim") (string_bytes o.claim) with_plan claim
      ∙ (other_row name (codes "plan") (string_bytes o.plan) with_record plan
      ∙ other_row name (codes "record") (string_bytes o.noted) last noted))

-- the options that were made are those of this folder
pub made_of : {M : Type 0} (said : List Row) (evidence folder sources claim : List ℕ) (o : EvidenceOptions M) → string_bytes o.sources ≡ sources → string_bytes o.claim ≡ claim
    → string_bytes o.plan ≡ in_evidence folder (codes "plan") → string_bytes o.noted ≡ in_evidence folder (codes "record")
    → o.place.now ≡ entries_option said → string_bytes o.entries ≡ in_evidence evidence (codes "store") → options_in said o ≡ evidence_options said evidence folder sources claim
made_of said evidence folder sources claim o from to plan noted place entries = rw (from, to, plan, noted, place, entries) refl

pub same_options : (options : List Row) (evidence folder sources claim at from to : List ℕ) → folder ≡ at → sources ≡ from → claim ≡ to → evidence_options options evidence folder sources claim ≡ evidence_options options evidence at from to
same_options options evidence folder sources claim at from to is begins ends = rw (is, begins, ends) refl

-- what is said of the options that state the digests, where it is of those that were made
pub stated : (outside sees : Sight) (said : List Row) (evidence : List ℕ) (made : List Row) (Says : List Row → Type 0)
    → StatesDigests outside sees said evidence (λ rows. rows ≡ made) → Says made → StatesDigests outside sees said evidence Says
stated outside sees said evidence made Says states says =
    record { sources = states.sources; sources_are = states.sources_are; claim = states.claim; claim_is = states.claim_is; says = subst Says (sym states.says) says }

-- ---- an archive in place of a folder

pub fault_kept : (files : List FileValue) (name : List ℕ) (e f : FileError Global) → FailsAt files name e → IsSameFault e f → FailsAt files name f
fault_kept files name (errors.Io p fault) (errors.Io q other) fails same = subst (λ x. FailsAt files name (errors.Io q x)) (sym same) fails
fault_kept files name (errors.Io p fault) (errors.NotAFile q) fails same = absurd same
fault_kept files name (errors.Io p fault) (errors.TooLarge q) fails same = absurd same
fault_kept files name (errors.Io p fault) errors.Memory fails same = tt
fault_kept files name (errors.NotAFile p) f fails same = absurd fails
fault_kept files name (errors.TooLarge p) (errors.Io q other) fails same = absurd same
fault_kept files name (errors.TooLarge p) (errors.NotAFile q) fails same = absurd same
fault_kept files name (errors.TooLarge p) (errors.TooLarge q) fails same = fails
fault_kept files name (errors.TooLarge p) errors.Memory fails same = tt
fault_kept files name errors.Memory (errors.Io q other) fails same = absurd same
fault_kept files name errors.Memory (errors.NotAFile q) fails same = absurd same
fault_kept files name errors.Memory (errors.TooLarge q) fails same = absurd same
fault_kept files name errors.Memory errors.Memory fails same = tt

pub nothing_fails : (files : List FileValue) (name : List ℕ) (e : FileError Global) → lookup (bytes_eq name) files ≡ None → IsNothingThere e → FailsAt files name e
nothing_fails files name (errors.Io p fault) none is = (λ _. none, λ _. is)
nothing_fails files name (errors.NotAFile p) none is = absurd is
nothing_fails files name (errors.TooLarge p) none is = absurd is
nothing_fails files name errors.Memory none is = tt

-- of a folder's path and a name behind it the name is one
pub one_name : (folder path a b : List ℕ) → path ≡ folder ++ a → path ≡ folder ++ b → a ≡ b
one_name folder path a b one other = append_cancel_left folder a b (sym one ∙ other)

pub in_archive : (sees : Sight) (evidence at : List ℕ) (contents told : Option (List ℕ)) (files : List FileValue) (Says : Sight → Type 0) → at ≡ in_evidence evidence [] → told ≡ contents
    → sees.leads evidence false → HoldsArchive sees evidence contents files → Says (sees_archive sees at told files) → InEvidence sees evidence Says
in_archive sees evidence at contents told files Says place same lead holds says =
    archive lead contents files holds (subst (λ f. Says (sees_archive sees f contents files)) place (subst (λ c. Says (sees_archive sees at c files)) same says))

-- ---- results

pub ok_stated : {T E : Type 0} (outside sees : Sight) (said : List Row) (evidence : List ℕ) (made : List Row) (Says : T → List Row → Type 0) (r : Result T E)
    → StatesDigests outside sees said evidence (λ rows. rows ≡ made) → IfOk r (λ x. Says x made) → IfOk r (λ x. StatesDigests outside sees said evidence (Says x))
ok_stated outside sees said evidence made Says (Ok x) states says = stated outside sees said evidence made (Says x) states says
ok_stated outside sees said evidence made Says (Err e) states says = tt

pub ok_spelled : {E : Type 0} (rows : List Row) (r : Result Digests E) → IfOk r (λ d. IsDigestText (option_text rows (codes "sources")) d.sources) → IfOk r (λ d. IsDigestText (option_text rows (codes "claim")) d.claim)
    → IfOk r (λ d. SpellsDigests rows d.sources d.claim)
ok_spelled rows (Ok d) from to = record { sources_are = from; claim_is = to }
ok_spelled rows (Err e) from to = tt

pub behind_words : (checks : List Check) (fails : CommandError → Type 0) (e : CommandError) → AllValid checks → OrMemory fails e → FailsBehind checks fails e
behind_words checks fails e valid (inl memory) = in_memory memory
behind_words checks fails e valid (inr h) = behind valid h

pub ok_asked : {E : Type 0} (sees : Sight) (options : List Row) (r : Result Judgement E) → AllValid (asked_words options) → IfOk r (λ j. AnswersSaid sees options (string_bytes j.line) j.ended)
    → IfOk r (λ j. AnswersAsked sees options (string_bytes j.line) j.ended)
ok_asked sees options (Ok j) valid says = record { valid = valid; says = says }
ok_asked sees options (Err e) valid says = tt

-- what is answered on valid words, and kept where they say so
pub ok_kept : {E : Type 0} (sees : Sight) (options : List Row) (path : Option (List ℕ)) (r : Result Judgement E) → first_of (codes "keep") options ≡ path → AllValid (asked_words options)
    → IfOk r (λ j. AnswersSaid sees options (string_bytes j.line) j.ended) → IfOk r (λ j. IfSome path (KeepsEvidence sees (string_bytes j.line)))
    → IfOk r (λ j. AnswersAndKeeps sees options (string_bytes j.line) j.ended)
ok_kept sees options path (Ok j) is valid says keeps = record {
  answers = record { valid = valid; says = says };
  kept = subst (λ o. IfSome o (KeepsEvidence sees (string_bytes j.line))) (sym is) keeps;
}
ok_kept sees options path (Err e) is valid says keeps = tt

pub ok_of_none : {T E : Type 0} (r : Result T E) (P : T → List ℕ → Type 0) → IfOk r (λ x. IfSome None (P x))
ok_of_none (Ok x) P = tt
ok_of_none (Err e) P = tt

-- ---- a folder that stands for a claim

module _ (sees : Sight) (options : List Row) (named : Option (List ℕ)) (is : first_of (codes "artifact") options ≡ named) where
  pub on_claim : (Says : Sight → List Row → Type 0) (OfStages : Sight → StagesAsked → Type 0) → OnClaim named sees options (Says sees) → OnNamed None sees options Says OfStages
  on_claim Says OfStages h = subst (λ o. OnClaim o sees options (Says sees)) (sym is) h

  pub fails_claim : (e : CommandError) → FailsClaimed named sees options e → FailsNamed None sees options e
  fails_claim e h = subst (λ o. FailsClaimed o sees options e) (sym is) h
