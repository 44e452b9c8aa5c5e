-- Why `verify` ends without its answer: the first fault, in the order words, digests, plan, record,
-- connection and work. Of a file, that it can't be read comes before what is wrong in its text.
use Rattle.std.specs.Prelude.{◌≡◌, ◌⊎◌, ℕ, List, codes, string_bytes}
use Rattle.std.specs.declared.alloc.Global.{Global}
use Rattle.clap.specs.Words.{Row}
use Rattle.plan.specs.Faults.{IsPlanFault}
use Rattle.plan.specs.Record.{IsRecordFault, names_of}
use Rattle.plan.specs.Values.{PlanValue}
use Rattle.plan.specs.declared.error.PlanError.{PlanError}
use Rattle.remote.specs.Line.{ConnectionValue}
use Rattle.remote.specs.declared.files.FileError.{FileError}
use Rattle.text_verifier.specs.Refused.{IsSpelled}
use Rattle.text_verifier.specs.Texts.{HasPlan, Question}
use Rattle.verifier.specs.declared.verdict.Verdict.{Verdict}
use Rattle.command_lines.specs.CommandLine.{option_text}
use Rattle.commands.specs.declared.connecting.ServerOptions.{ServerOptions}
use Rattle.commands.specs.declared.error.CommandError.{CommandError}
use Rattle.commands.specs.declared.error.CommandError.TheVariants.{Memory, Output, Text}
use Rattle.commands.specs.Faults.{IsDigestFault, OrMemory, error_of_file}
use Rattle.commands.specs.Hints.{IsHint, TellsOfFault}
use Rattle.commands.specs.Options.{OnNamedServer}
use Rattle.commands.specs.Places.{FailsInFolder, FailsOver, FailsToConnect, IsConnected}
use Rattle.commands.specs.Places.{Access, gets_alone, gets_blobs}
use Rattle.commands.specs.Printed.{AsksQuestion, JudgesAsked, NamesResults, NamesServer}
use Rattle.commands.specs.Printed.{NamesStore}
use Rattle.commands.specs.Words.{AllValid, FailsFirst, place_words}
use Rattle.commands.specs.World.{Sight}

-- ---- as far as there is no fault

-- the words name a place, and two digests
pub record HasDigests (options : List Row) : Type 0 where
  pub place : AllValid (place_words options)
  pub sources : IsSpelled (option_text options (codes "sources"))
  pub claim : IsSpelled (option_text options (codes "claim"))

-- the text that was read of the plan's file is that of a plan
pub record HasPlanRead (sees : Sight) (options : List Row) (plan : PlanValue) : Type 0 where
  pub bytes : List ℕ
  pub read : sees.reads (option_text options (codes "plan")) bytes
  pub plan_is : HasPlan bytes plan

-- ---- faults

-- the output takes no more
abbrev pub IsPrintFault : CommandError → Type 0
IsPrintFault (Output fault) = Unit {0}
IsPrintFault _ = ⊥

-- the digest of the sources is at fault, or else that of the claim
abbrev pub FailsDigests : List Row → CommandError → Type 0
FailsDigests options e =
    IsDigestFault (codes "sources") (option_text options (codes "sources")) e
    ⊎ (IsSpelled (option_text options (codes "sources"))
    × IsDigestFault (codes "claim") (option_text options (codes "claim")) e)

-- the error tells of this fault in a text at the path, with the hint on it
abbrev pub IsTextFault : List ℕ → List ℕ → PlanError → CommandError → Type 0
IsTextFault path text fault (Text p f hint) =
    (string_bytes p ≡ path) × (f ≡ fault) × IsHint (TellsOfFault text fault) hint
IsTextFault path text fault _ = ⊥

-- the text that was read at the path is at fault
abbrev pub HasTextFault : Sight → List ℕ → (List ℕ → PlanError → Type 0) → CommandError → Type 0
HasTextFault sees path faulty e = (text : List ℕ) × (fault : PlanError)
    × sees.reads path text × faulty text fault × IsTextFault path text fault e

-- a file can't be read, or the text that was read of it is at fault, or memory ran out
abbrev pub FailsText : Sight → List ℕ → (List ℕ → PlanError → Type 0) → CommandError → Type 0
FailsText sees path faulty = OrMemory (λ e. HasTextFault sees path faulty e
    ⊎ ((f : FileError Global) × sees.fails path f × (e ≡ error_of_file f)))

abbrev pub FailsPlan : Sight → List Row → CommandError → Type 0
FailsPlan sees options = FailsText sees (option_text options (codes "plan")) IsPlanFault

abbrev pub FailsRecord : Sight → List Row → PlanValue → CommandError → Type 0
FailsRecord sees options plan =
    FailsText sees (option_text options (codes "record")) (IsRecordFault (names_of plan))

-- the server can't be reached, or refused a request over the connection
abbrev pub FailsServer : Access → Sight → ServerOptions → CommandError → Type 0
FailsServer access sees server e = FailsToConnect sees (string_bytes server.address) e
    ⊎ ((start : ConnectionValue) × IsConnected sees server start
    × FailsOver access start (string_bytes server.address) e)

-- a file of the folder can't be read, or the server is at fault
abbrev pub FailsOfBoth : Sight → ServerOptions → List ℕ → CommandError → Type 0
FailsOfBoth sees server folder e =
    FailsInFolder sees folder e ⊎ FailsServer gets_blobs sees server e

-- the store, the server, or both, that the options name, are at fault
abbrev pub FailsAtPlace : Sight → List Row → CommandError → Type 0
FailsAtPlace sees options e =
    (NamesStore options × FailsInFolder sees (option_text options (codes "store")) e)
    ⊎ ((NamesServer options
    × OnNamedServer options (λ server. FailsServer gets_alone sees server e))
    ⊎ (NamesResults options × OnNamedServer options (λ server.
    FailsOfBoth sees server (option_text options (codes "results")) e)))

-- The first fault before there is a verdict: what comes before it has none. That memory is wanting
-- may come anywhere, and is told as that.
pub data FailsToJudge (sees : Sight) (options : List Row) (e : CommandError) : Type 0 where
  in_memory : e ≡ Memory → FailsToJudge sees options e
  in_words : FailsFirst (place_words options) e → FailsToJudge sees options e
  in_digests : AllValid (place_words options) → FailsDigests options e
      → FailsToJudge sees options e
  in_plan : HasDigests options → FailsPlan sees options e → FailsToJudge sees options e
  in_record : (plan : PlanValue) → HasDigests options → HasPlanRead sees options plan
      → FailsRecord sees options plan e → FailsToJudge sees options e
  in_place : (question : Question) → AsksQuestion sees options question
      → ∥ FailsAtPlace sees options e ∥₁ → FailsToJudge sees options e
