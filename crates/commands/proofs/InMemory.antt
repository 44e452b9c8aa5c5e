-- What a verdict over files in memory says of them, and why there is none.
use Rattle.std.proofs.Common.{◌≡◌, ◌⊎◌, ◌∙◌, ℕ, List, [], ◌∷◌, Option, Some, None, inl, inr, refl, subst, sym}
use Rattle.std.proofs.Math.Logic.{∥∥₁_elim}
use Rattle.std.specs.Coded.{Coded-set, coded_list, coded_option, coded_ℕ}
use Rattle.std.specs.Io.KnownBytes.{Appends}
use Rattle.std.specs.Prelude.{◌↔◌, IsSome, IsTrue, Ok, codes, length}
use Rattle.std.specs.declared.alloc.Global.{Global}
use Rattle.blob_source.specs.Source.{Telling}
use Rattle.clap.specs.Words.{Row, first_of}
use Rattle.command_lines.specs.CommandLine.{option_text}
use Rattle.plan.specs.Faults.{IsPlanFault}
use Rattle.plan.specs.Record.{IsRecordFault, build_record_text, names_of}
use Rattle.plan.specs.Values.{PlanValue}
use Rattle.plan.specs.declared.error.PlanError.{PlanError}
use Rattle.remote.specs.Folder.{IsNotThere}
use Rattle.remote.specs.declared.files.FileError.{FileError}
use Rattle.remote.specs.declared.files.FileError.TheVariants as errors
use Rattle.report.specs.Line.{report_line, yes_text}
use Rattle.text_verifier.specs.Lacking.{lack_of}
use Rattle.text_verifier.specs.Texts.{HasPlan, HasTexts, Question}
use Rattle.text_verifier.specs.declared.lack.Lack.{Lack}
use Rattle.text_verifier.specs.declared.lack.Lack.TheVariants.{ActionResult, Blob}
use Rattle.verifier.proofs.Holds.{recorded_ends, recorded_unstuck}
use Rattle.verifier.proofs.Passing.{recorded_yes, yes_recorded}
use Rattle.verifier.specs.Verdict.{IsVerdict, IsYes}
use Rattle.verifier.specs.declared.verdict.Verdict.{Verdict}
use Rattle.verifier.specs.declared.verdict.Verdict.TheVariants.{No, Yes}
use Rattle.commands.specs.Ended.{is_done}
use Rattle.commands.specs.Faults.{IsDigestFault, OrMemory, SpellsNone, error_of_file}
use Rattle.commands.specs.Memory.{AnswersRight, AsksFiles, FailsInMemory, Files, IsRightStore, JudgesFiles, PrintsVerdict, sees_world, told_by_store}
use Rattle.commands.specs.Places.{IsOfFolder, file_of}
use Rattle.commands.specs.Printed.{IsOfPlace, JudgesAsked, LacksAtPlace, NamesStore}
use Rattle.commands.specs.Refusal.{FailsAtPlace, FailsText, FailsToJudge, IsPrintFault}
use Rattle.commands.specs.Refusal.FailsToJudge.{in_digests, in_memory, in_place, in_plan, in_record, in_words}
use Rattle.commands.specs.Words.{AllValid, Check, FailsFirst, place_words}
use Rattle.commands.specs.declared.ended.Ended.{Ended}
use Rattle.commands.specs.declared.error.CommandError.{CommandError}
use Rattle.commands.specs.declared.error.CommandError.TheVariants as faults
use Rattle.commands.proofs.Lasting.{IsUntold, verdict_lasts}
use Rattle.commands.proofs.OneQuestion.{TextLaws, one_question, same_plan}
use Rattle.commands.proofs.Placed.{if_some_weaker}

-- ---- one file

-- what isn't there is no file
nothing_there : (found : Option (List ℕ)) (e : FileError Global) → FailsInMemory found e → IsNotThere e → found ≡ None
nothing_there None e fails not = refl
nothing_there (Some bytes) (errors.Io path fault) fails not = absurd fails
nothing_there (Some bytes) (errors.NotAFile path) fails not = absurd not
nothing_there (Some bytes) (errors.TooLarge path) fails not = absurd not
nothing_there (Some bytes) errors.Memory fails not = absurd not

-- what is there fails for lack of memory alone
only_memory : (found : Option (List ℕ)) (e : FileError Global) → FailsInMemory found e → (IsNotThere e → ⊥) → error_of_file e ≡ faults.Memory
only_memory None (errors.Io path fault) fails there = absurd (there fails)
only_memory None (errors.NotAFile path) fails there = absurd fails
only_memory None (errors.TooLarge path) fails there = absurd fails
only_memory None errors.Memory fails there = refl
only_memory (Some bytes) (errors.Io path fault) fails there = absurd fails
only_memory (Some bytes) (errors.NotAFile path) fails there = absurd fails
only_memory (Some bytes) (errors.TooLarge path) fails there = absurd fails
only_memory (Some bytes) errors.Memory fails there = refl

of_file : (found : Option (List ℕ)) (bytes : List ℕ) (e : FileError Global) → found ≡ Some bytes → FailsInMemory found e → error_of_file e ≡ faults.Memory
of_file found bytes e is fails = only_memory (Some bytes) e (subst (λ o. FailsInMemory o e) is fails) (is_there e (subst (λ o. FailsInMemory o e) is fails))
  where
    is_there : (e : FileError Global) → FailsInMemory (Some bytes) e → IsNotThere e → ⊥
    is_there (errors.Io path fault) fails not = fails
    is_there (errors.NotAFile path) fails not = not
    is_there (errors.TooLarge path) fails not = not
    is_there errors.Memory fails not = not

-- ---- one question

one_bytes : (found : Option (List ℕ)) (a b : List ℕ) → found ≡ Some a → found ≡ Some b → a ≡ b
one_bytes found a b one other = let is : ◌≡◌ {A = Option (List ℕ)} (Some a) (Some b) = sym one ∙ other in cc

asked_once : (laws : TextLaws) (files : Files) (options : List Row) (p q : Question) → AsksFiles files options p → AsksFiles files options q → p ≡ q
asked_once laws files options p q one other =
    let sources = option_text options (codes "sources") in
    let claim = option_text options (codes "claim") in
    let plan = one_bytes (files (option_text options (codes "plan"))) one.plan_bytes other.plan_bytes one.plan other.plan in
    let noted = one_bytes (files (option_text options (codes "record"))) one.noted_bytes other.noted_bytes one.noted other.noted in
    one_question laws sources claim other.plan_bytes other.noted_bytes p q
    (subst (λ b. HasTexts sources claim other.plan_bytes b p) noted (subst (λ b. HasTexts sources claim b one.noted_bytes p) plan one.texts)) other.texts

-- ---- words

unsaid : {T : Type 0} (o : Option T) → o ≡ None → IsSome o → ⊥
unsaid None e some = cc
unsaid (Some x) e some = cc

-- a store and a server aren't both named
not_both : (options : List Row) → NamesStore options → IsSome (first_of (codes "server") options) → ⊥
not_both options store server = unsaid (first_of (codes "server") options) store.server server

none_fails : (checks : List Check) (e : CommandError) → AllValid checks → FailsFirst checks e → ⊥
none_fails [] e valid fails = fails
none_fails (check ∷ checks) e valid (inl fails) = fails.0 valid.0
none_fails (check ∷ checks) e valid (inr fails) = none_fails checks e valid.1 fails.1

spells : (option text : List ℕ) (e : CommandError) → IsDigestFault option text e → SpellsNone text
spells option text (faults.Digest o t fault) h = h.2
spells option text faults.Memory h = h
spells option text e h = absurd h

-- ---- why there is no answer

-- the error is want of memory
abbrev IsMemory : CommandError → Type 0
IsMemory faults.Memory = Unit {0}
IsMemory e = ⊥

memory_prop : (e : CommandError) → IsProp (IsMemory e)
memory_prop faults.Memory = λ x y. refl
memory_prop e = λ x y. absurd x

is_memory : (e : CommandError) → e ≡ faults.Memory → IsMemory e
is_memory e is = subst IsMemory (sym is) tt

memory_is : (e : CommandError) → IsMemory e → e ≡ faults.Memory
memory_is faults.Memory h = refl
memory_is e h = absurd h

module _ (files replies : Files) (options : List Row) where
  abbrev folder : List ℕ
  folder = option_text options (codes "store")

  -- a text that is there isn't at fault
  text_fails : (path bytes : List ℕ) (Faulty : List ℕ → PlanError → Type 0) (e : CommandError) → files path ≡ Some bytes → ((fault : PlanError) → Faulty bytes fault → ⊥)
      → FailsText (sees_world files replies) path Faulty e → e ≡ faults.Memory
  text_fails path bytes Faulty e is right (inl memory) = memory
  text_fails path bytes Faulty e is right (inr (inl h)) = absurd (right h.1 (subst (λ b. Faulty b h.1) (one_bytes (files path) h.0 bytes h.2 is) h.3))
  text_fails path bytes Faulty e is right (inr (inr h)) = h.2 ∙ of_file (files path) bytes h.0 is h.1

  module _ (names : NamesStore options) where
    in_store : (told : Telling) → IsOfPlace (sees_world files replies) options told → NamesStore options × IsOfFolder (sees_world files replies) folder told
    in_store told (inl is) = is
    in_store told (inr (inl server)) = absurd (not_both options names server.0.server)
    in_store told (inr (inr both)) = absurd (not_both options names both.0.server)

    lacked : (lack : Lack) → LacksAtPlace (sees_world files replies) options lack → files (file_of folder lack) ≡ None
    lacked lack (inl is) = nothing_there (files (file_of folder lack)) is.1.0 is.1.1 is.1.2
    lacked lack (inr (inl server)) = absurd (not_both options names server.0.server)
    lacked lack (inr (inr both)) = absurd (not_both options names both.0.server)

    untold : (lack : Lack) → files (file_of folder lack) ≡ None → IsUntold (told_by_store files options) lack
    untold (Blob d) h = h
    untold (ActionResult d) h = h

    place_fails : (e : CommandError) → FailsAtPlace (sees_world files replies) options e → e ≡ faults.Memory
    place_fails e (inl h) = h.1.2 ∙ only_memory (files (file_of folder h.1.1.lack)) h.1.0 h.1.1.fails h.1.1.there
    place_fails e (inr (inl server)) = absurd (not_both options names server.0.server)
    place_fails e (inr (inr both)) = absurd (not_both options names both.0.server)

    pub judges_files : (verdict : Verdict Global) → JudgesAsked (sees_world files replies) options verdict → JudgesFiles files options verdict
    judges_files verdict j =
        let q = j.question in
        let all = told_by_store files options in
        let valid = j.asks.texts.plan_is.valid in
        let judged : IsVerdict all q.sources q.plan q.noted.digests q.claim verdict = verdict_lasts {A = Global} q all valid j.told verdict
        (λ d bytes is. ∥∥₁_elim j.source (Coded-set (coded_option (coded_list coded_ℕ)) _ _) (λ place. (in_store j.told place).1.blobs d bytes is))
        (λ d bytes is. ∥∥₁_elim j.source (Coded-set (coded_option (coded_list coded_ℕ)) _ _) (λ place. (in_store j.told place).1.results d bytes is))
        (if_some_weaker (lack_of q verdict) (λ lack. ∥ LacksAtPlace (sees_world files replies) options lack ∥₁) (IsUntold all)
        (λ lack is. untold lack (∥∥₁_elim is (Coded-set (coded_option (coded_list coded_ℕ)) _ _) (lacked lack))) j.lacks)
        j.judged.verdict in
        let as_recorded = yes_recorded Global all q.sources q.plan q.noted.digests q.claim verdict judged in
        record {
          question = q;
          asks = record {
            names = names;
            plan_bytes = j.asks.plan_bytes;
            plan = j.asks.plan_read;
            noted_bytes = j.asks.noted_bytes;
            noted = j.asks.noted_read;
            texts = j.asks.texts;
          };
          judged = record {
            verdict = judged;
            holds = λ yes. recorded_ends all.blobs all.results q.sources q.plan q.noted.digests q.claim valid (as_recorded yes);
            unstuck = λ yes. recorded_unstuck all.blobs all.results q.sources q.plan q.noted.digests q.claim valid (as_recorded yes);
          };
        }

-- ---- the question that the files ask

-- the line of a yes
yes_line : (t : Telling) (q : Question) (v : Verdict Global) → IsVerdict t q.sources q.plan q.noted.digests q.claim v → IsYes v → report_line v ≡ yes_text q.claim (length q.plan.steps)
yes_line t q (Yes root steps) h k = subst (λ r. yes_text r steps ≡ yes_text q.claim (length q.plan.steps)) (sym h.0) (subst (λ n. yes_text q.claim n ≡ yes_text q.claim (length q.plan.steps)) (sym h.1) refl)
yes_line t q (No place cause) h k = absurd k

-- ---- what is answered

module _ (laws : TextLaws) (files replies : Files) (options : List Row) (q : Question) (asks : AsksFiles files options q) where
  abbrev told : Telling
  told = told_by_store files options

  pub right_of : (v : Verdict Global) → JudgesFiles files options v → IsVerdict told q.sources q.plan q.noted.digests q.claim v
  right_of v j =
      subst (λ (k : Question). IsVerdict told k.sources k.plan k.noted.digests k.claim v) (asked_once laws files options j.question q j.asks asks) j.judged.verdict

  pub answers_right : (old new : Option (List ℕ)) (ended : Ended) → (prints : PrintsVerdict (sees_world files replies) options old new) × (IsTrue (is_done ended) ↔ IsYes prints.verdict) → AnswersRight files options q old new (Ok ended)
  answers_right old new ended h =
      let v = h.0.verdict in
      let judged = right_of v (judges_files files replies options asks.names v h.0.judged) in
      let then_yes : IsRightStore files options q → IsYes v = recorded_yes Global told q.sources q.plan q.noted.digests q.claim v judged in (
        (λ done. yes_recorded Global told q.sources q.plan q.noted.digests q.claim v judged (h.1.0 done), λ right. h.1.1 (then_yes right)),
        λ right. subst (Appends old new) (yes_line told q v judged (then_yes right)) h.0.printed,
      )

  unjudged_for : AllValid (place_words options) → (e : CommandError) → FailsToJudge (sees_world files replies) options e → OrMemory IsPrintFault e
  unjudged_for words e (in_memory memory) = inl memory
  unjudged_for words e (in_words fails) = absurd (none_fails (place_words options) e words fails)
  unjudged_for words e (in_digests valid (inl fault)) =
      absurd (spells (codes "sources") (option_text options (codes "sources")) e fault q.sources asks.texts.sources_spelled.valid asks.texts.sources_spelled.text_is)
  unjudged_for words e (in_digests valid (inr fault)) =
      absurd (spells (codes "claim") (option_text options (codes "claim")) e fault.1 q.claim asks.texts.claim_spelled.valid asks.texts.claim_spelled.text_is)
  unjudged_for words e (in_plan digests fails) =
      inl (text_fails files replies options (option_text options (codes "plan")) asks.plan_bytes IsPlanFault e asks.plan
      (λ fault at. laws.no_fault q.plan fault asks.texts.plan_is.valid (subst (λ t. IsPlanFault t fault) asks.texts.plan_is.text_is at)) fails)
  unjudged_for words e (in_record plan digests read fails) =
      let bytes = one_bytes (files (option_text options (codes "plan"))) read.bytes asks.plan_bytes read.read asks.plan in
      let same : plan ≡ q.plan = same_plan laws asks.plan_bytes plan q.plan (subst (λ b. HasPlan b plan) bytes read.plan_is) asks.texts.plan_is in
      let noted = asks.texts.noted_is in
      let names : names_of plan ≡ q.noted.names = subst (λ (k : PlanValue). names_of k ≡ q.noted.names) (sym same) (sym noted.fits) in
      inl (text_fails files replies options (option_text options (codes "record")) asks.noted_bytes (IsRecordFault (names_of plan)) e asks.noted
      (λ fault at. laws.no_record_fault q.noted fault noted.valid (subst (λ n. IsRecordFault n (build_record_text q.noted) fault) names (subst (λ t. IsRecordFault (names_of plan) t fault) noted.text_is at))) fails)
  unjudged_for words e (in_place question asked fails) =
      inl (memory_is e (∥∥₁_elim fails (memory_prop e) (λ at. is_memory e (place_fails files replies options asks.names e at))))

  pub refused_for : AllValid (place_words options) → (e : CommandError) → FailsToJudge (sees_world files replies) options e ⊎ IsPrintFault e → OrMemory IsPrintFault e
  refused_for words e (inl fails) = unjudged_for words e fails
  refused_for words e (inr printing) = inr printing
