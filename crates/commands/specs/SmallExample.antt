-- README's small example among the files of a world in memory.
use Rattle.std.specs.Prelude.{◌≡◌, ◌≢◌, ◌++◌, List, ℕ, Option, Some, IsFalse, IsTrue, Result}
use Rattle.std.specs.Prelude.{Ok, Err, codes}
use Rattle.std.specs.Io.KnownBytes.{Appends}
use Rattle.blob_digest.specs.Digest.{digest_of}
use Rattle.blob_digest.specs.Text.{digest_text}
use Rattle.blob_source.specs.Source.{Grows}
use Rattle.clap.specs.Words.{Row}
use Rattle.command_lines.specs.CommandLine.{option_text}
use Rattle.plan.specs.Plan.{plan_text}
use Rattle.plan.specs.Record.{RecordValue, build_record_text, names_of}
use Rattle.verifier.specs.TwoSteps as two
use Rattle.commands.specs.Ended.{is_done}
use Rattle.commands.specs.Faults.{OrMemory}
use Rattle.commands.specs.Memory.{Files, told_by_store}
use Rattle.commands.specs.Printed.{NamesStore}
use Rattle.commands.specs.Refusal.{IsPrintFault}
use Rattle.commands.specs.Words.{AllValid, place_words}
use Rattle.commands.specs.declared.ended.Ended.{Ended}
use Rattle.commands.specs.declared.error.CommandError.{CommandError}

abbrev pub noted : RecordValue
noted = record { names = names_of two.plan; digests = two.recorded }

-- the words are valid, name a store, and spell the digests of the example; its plan and its record
-- are where they say
pub record AsksExample (files : Files) (options : List Row) : Type 0 where
  pub words : AllValid (place_words options)
  pub names : NamesStore options
  pub sources : option_text options (codes "sources") ≡ digest_text two.sources
  pub claim : option_text options (codes "claim") ≡ digest_text two.claim
  pub plan : files (option_text options (codes "plan")) ≡ Some (plan_text two.plan)
  pub noted_text : files (option_text options (codes "record")) ≡ Some (build_record_text noted)

-- the words ask the example's question, and the store has its blobs and its results
pub record HoldsExample (files : Files) (options : List Row) : Type 0 where
  pub asks : AsksExample files options
  pub blobs : Grows two.blobs (told_by_store files options).blobs
  pub results : Grows two.results (told_by_store files options).results

-- the words ask the example's question, and where the first step's action should stand the store
-- has other bytes, be it by one
pub record HoldsAnotherAction (files : Files) (options : List Row) : Type 0 where
  pub asks : AsksExample files options
  pub bytes : List ℕ
  pub other : digest_of bytes ≢ two.gen_action_digest
  pub held : (told_by_store files options).blobs two.gen_action_digest ≡ Some bytes

-- the answer is done, or a no, and this line was printed; but memory ran out, or the output took no
-- more
abbrev pub PrintsYes : List ℕ → Option (List ℕ) → Option (List ℕ) → Result Ended CommandError
    → Type 0
PrintsYes line old new (Ok ended) = IsTrue (is_done ended) × Appends old new line
PrintsYes line old new (Err e) = OrMemory IsPrintFault e

abbrev pub PrintsNo : List ℕ → Option (List ℕ) → Option (List ℕ) → Result Ended CommandError
    → Type 0
PrintsNo line old new (Ok ended) = IsFalse (is_done ended) × Appends old new line
PrintsNo line old new (Err e) = OrMemory IsPrintFault e

abbrev pub yes_line : List ℕ
yes_line = codes
    "yes e52456cc01aac4a9837dfa56d8c8ee186aa901ffd00cdd1fec2296d728042cf9/80 steps 2\n"

abbrev pub no_line : List ℕ
no_line = codes "no step gen cause blob-wrong "
    ++ codes "5a185e72d4310898344d5ab18f8496f6a1d13cf7743b074da01eda5ebd541fb5/138\n"
