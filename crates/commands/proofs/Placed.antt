-- Where the recorded build is, by the options.
use Rattle.std.proofs.Common.{◌≡◌, ◌+◌, ◌≤◌, ℕ, arith, List, Result, IfErr, IfOk, inl, inr, subst, string_bytes}
use Rattle.std.proofs.Math.Logic.{∥∥₁_map}
use Rattle.std.proofs.lemmas.Result.{IfErr-weaker, IfOk-weaker}
use Rattle.std.specs.declared.alloc.Global.{Global}
use Rattle.std.specs.declared.string.String.{String}
use Rattle.std.specs.Prelude.{IfSome, None, Option, Some}
use Rattle.blob_source.specs.Source.{Telling}
use Rattle.clap.specs.Words.{Row}
use Rattle.text_verifier.specs.Lacking.{lack_of}
use Rattle.text_verifier.specs.Texts.{Question}
use Rattle.verifier.specs.declared.verdict.Verdict.{Verdict}
use Rattle.text_verifier.specs.declared.answering.Answer.{Answer}
use Rattle.text_verifier.specs.declared.lack.Lack.{Lack}
use Rattle.text_verifier.specs.declared.lack.Lack.TheVariants.{ActionResult, Blob}
use Rattle.remote.specs.Line.{ConnectionValue}
use Rattle.commands.specs.Faults.{OrMemory}
use Rattle.commands.specs.Options.{IsServerOf}
use Rattle.commands.specs.Places.{FailsInFolder, FailsOfParts, IsOfBoth, IsOfFolder, IsOfServer, IsConnected, IsAnsweredBy, IsToldByParts, LacksAtServer, LacksInFolder, LacksOfBoth, LacksOfParts, gets_alone}
use Rattle.commands.specs.Printed.{StartsPut, IsConnectedTo, IsOfPlace, IsNamedPlace, LacksAtPlace}
use Rattle.commands.specs.Refusal.{FailsAtPlace, FailsOfBoth, FailsServer}
use Rattle.commands.specs.Words.{AllValid, server_words}
use Rattle.commands.specs.World.{Sight}
use Rattle.commands.specs.declared.connecting.ServerOptions.{ServerOptions}
use Rattle.commands.specs.declared.error.CommandError.{CommandError}
use Rattle.commands.specs.declared.verifying.RecordedBuild.TheVariants.{Both, Folder, Server}
use Rattle.commands.proofs.Refused.{or_weaker}

-- ---- what is missing

pub if_some_weaker : {X : Type 0} (o : Option X) (P Q : X → Type 0) → ((x : X) → P x → Q x) → IfSome o P → IfSome o Q
if_some_weaker None P Q by h = tt
if_some_weaker (Some x) P Q by h = by x h

-- calls that are counted from none on
pub asked_first : (before after most : ℕ) → before ≡ 0 → after ≤ before + most → after ≤ most
asked_first before after most none few = omega (arith, none, few)

-- the answer by what a place told
pub place_weaker : (question : Question) (result : Result (Answer Global) CommandError) (told other : Telling → Type 0) (lacks less : Lack → Type 0)
    → ((t : Telling) → told t → other t) → ((l : Lack) → lacks l → less l)
    → IfOk result (IsAnsweredBy told lacks question) → IfOk result (IsAnsweredBy other less question)
place_weaker question result told other lacks less by by_lack h =
    IfOk-weaker result (IsAnsweredBy told lacks question) (IsAnsweredBy other less question)
    (λ answer is. (
      is.0,
      ∥∥₁_map is.1 (by is.0),
      is.2,
      if_some_weaker answer.lack (λ l. ∥ lacks l ∥₁) (λ l. ∥ less l ∥₁) (λ l h. ∥∥₁_map h (by_lack l)) is.3,
      is.4,
    )) h

-- ---- what the answer lacks

-- what the answer says is missing is what is so by the verdict
pub lacked_by : (sees : Sight) (options : List Row) (question : Question) (verdict : Verdict Global) (lack : Option Lack) → lack ≡ lack_of question verdict
    → IfSome lack (λ l. ∥ LacksAtPlace sees options l ∥₁) → IfSome (lack_of question verdict) (λ l. ∥ LacksAtPlace sees options l ∥₁)
lacked_by sees options question verdict lack is h = subst (λ o. IfSome o (λ l. ∥ LacksAtPlace sees options l ∥₁)) is h

module _ (sees : Sight) (options : List Row) where
  -- why there is no answer by it
  place_fails : (result : Result (Answer Global) CommandError) (fails : CommandError → Type 0) → ((e : CommandError) → fails e → FailsAtPlace sees options e)
      → IfErr result (OrMemory (λ e. ∥ fails e ∥₁)) → IfErr result (OrMemory (λ e. ∥ FailsAtPlace sees options e ∥₁))
  place_fails result fails by h = IfErr-weaker result (OrMemory (λ e. ∥ fails e ∥₁)) (OrMemory (λ e. ∥ FailsAtPlace sees options e ∥₁))
      (λ e. or_weaker (λ x. ∥ fails x ∥₁) (λ x. ∥ FailsAtPlace sees options x ∥₁) e (λ is. ∥∥₁_map is (by e))) h

  module _ (folder : String Global) where
    pub in_folder : (question : Question) (result : Result (Answer Global) CommandError) → IsNamedPlace options (Folder folder)
        → IfOk result (IsAnsweredBy (IsOfFolder sees (string_bytes folder)) (LacksInFolder sees (string_bytes folder)) question)
        → IfOk result (IsAnsweredBy (IsOfPlace sees options) (LacksAtPlace sees options) question)
    in_folder question result place h =
        place_weaker question result (IsOfFolder sees (string_bytes folder)) (IsOfPlace sees options)
        (LacksInFolder sees (string_bytes folder)) (LacksAtPlace sees options)
        (λ t told. inl (place.0, subst (λ f. IsOfFolder sees f t) place.1 told))
        (λ l lacks. inl (place.0, subst (λ f. LacksInFolder sees f l) place.1 lacks)) h

    pub in_folder_fails : (result : Result (Answer Global) CommandError) → IsNamedPlace options (Folder folder)
        → IfErr result (OrMemory (λ e. ∥ FailsInFolder sees (string_bytes folder) e ∥₁)) → IfErr result (OrMemory (λ e. ∥ FailsAtPlace sees options e ∥₁))
    in_folder_fails result place h = place_fails result (FailsInFolder sees (string_bytes folder))
        (λ e fails. inl (place.0, subst (λ f. FailsInFolder sees f e) place.1 fails)) h

  module _ (server : ServerOptions) where
    pub on_server : (question : Question) (result : Result (Answer Global) CommandError) → IsNamedPlace options (Server server)
        → IfOk result (IsAnsweredBy (IsOfServer gets_alone sees server) (LacksAtServer gets_alone sees server) question)
        → IfOk result (IsAnsweredBy (IsOfPlace sees options) (LacksAtPlace sees options) question)
    on_server question result place h =
        place_weaker question result (IsOfServer gets_alone sees server) (IsOfPlace sees options) (LacksAtServer gets_alone sees server) (LacksAtPlace sees options)
        (λ t told. inr (inl (place.0, (server, place.1, told)))) (λ l lacks. inr (inl (place.0, (server, place.1, lacks)))) h

    pub on_server_fails : (result : Result (Answer Global) CommandError) → IsNamedPlace options (Server server)
        → IfErr result (OrMemory (λ e. ∥ FailsServer gets_alone sees server e ∥₁)) → IfErr result (OrMemory (λ e. ∥ FailsAtPlace sees options e ∥₁))
    on_server_fails result place h = place_fails result (FailsServer gets_alone sees server) (λ e fails. inr (inl (place.0, (server, place.1, fails)))) h

    module _ (folder : String Global) where
      pub in_both : (question : Question) (result : Result (Answer Global) CommandError) → IsNamedPlace options (Both server folder)
          → IfOk result (IsAnsweredBy (IsOfBoth sees server (string_bytes folder)) (LacksOfBoth sees server (string_bytes folder)) question)
          → IfOk result (IsAnsweredBy (IsOfPlace sees options) (LacksAtPlace sees options) question)
      in_both question result place h =
          place_weaker question result (IsOfBoth sees server (string_bytes folder)) (IsOfPlace sees options)
          (LacksOfBoth sees server (string_bytes folder)) (LacksAtPlace sees options)
          (λ t told. inr (inr (place.0, (server, place.1, subst (λ f. IsOfBoth sees server f t) place.2 told))))
          (λ l lacks. inr (inr (place.0, (server, place.1, subst (λ f. LacksOfBoth sees server f l) place.2 lacks)))) h

      pub in_both_fails : (result : Result (Answer Global) CommandError) → IsNamedPlace options (Both server folder)
          → IfErr result (OrMemory (λ e. ∥ FailsOfBoth sees server (string_bytes folder) e ∥₁)) → IfErr result (OrMemory (λ e. ∥ FailsAtPlace sees options e ∥₁))
      in_both_fails result place h = place_fails result (FailsOfBoth sees server (string_bytes folder))
          (λ e fails. inr (inr (place.0, (server, place.1, subst (λ f. FailsOfBoth sees server f e) place.2 fails)))) h

-- ---- blobs over a connection, and results of a folder

module _ (sees : Sight) (server : ServerOptions) (start : ConnectionValue) (opened : IsConnected sees server start) (folder : List ℕ) where
  pub of_parts : (told : Telling) → IsToldByParts start sees folder told → IsOfBoth sees server folder told
  of_parts told parts = record { start = start; opened = opened; parts = parts }

  pub lacked_of_parts : (lack : Lack) → LacksOfParts start sees folder lack → LacksOfBoth sees server folder lack
  lacked_of_parts (Blob d) lacks = record { start = start; opened = opened; lacks = lacks }
  lacked_of_parts (ActionResult d) lacks = lacks

  pub fails_of_parts : (e : CommandError) → FailsOfParts start sees folder (string_bytes server.address) e → FailsOfBoth sees server folder e
  fails_of_parts e (inl fails) = inl fails
  fails_of_parts e (inr fails) = inr (inr (start, opened, fails))

module _ (sees : Sight) (options : List Row) (server : ServerOptions) (start : ConnectionValue) (is : IsServerOf options server)
    (opened : IsConnected sees server start) where
  -- a connection to the server that the options name
  pub opened_to : IsConnectedTo sees options start
  opened_to = (server, is, opened)

  pub starts_put : AllValid (server_words options) → StartsPut sees options start
  starts_put valid = record { valid = valid; opened = opened_to }
