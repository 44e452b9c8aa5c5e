-- A world in memory: files at their paths, servers that send bytes, and nothing else.
use Rattle.std.specs.Prelude.{◌≡◌, ◌⊎◌, ◌↔◌, ℕ, false, List, [], Option, Some, None, IsSome, IsTrue}
use Rattle.std.specs.Prelude.{Result, Ok, Err, codes, length}
use Rattle.std.specs.BTreeMap.{get_by_text}
use Rattle.std.specs.Io.KnownBytes.{Appends}
use Rattle.std.specs.IoError.{error_kind}
use Rattle.std.specs.declared.alloc.Global.{Global}
use Rattle.std.specs.declared.io.ErrorKind.TheVariants.{ConnectionRefused, NotADirectory}
use Rattle.std.specs.declared.io.ErrorKind.TheVariants.{NotFound, OutOfMemory}
use Rattle.blob_source.specs.Source.{Telling, bytes_of}
use Rattle.clap.specs.Words.{Row}
use Rattle.command_lines.specs.CommandLine.{option_text}
use Rattle.remote.specs.declared.files.FileError.{FileError}
use Rattle.remote.specs.declared.files.FileError.TheVariants as errors
use Rattle.remote.specs.Flow.{Flow}
use Rattle.remote.specs.Folder.{entry_path}
use Rattle.text_verifier.specs.Answered.{IsJudged}
use Rattle.text_verifier.specs.Texts.{HasTexts, Question}
use Rattle.report.specs.Line.{report_line, yes_text}
use Rattle.verifier.specs.AsRecorded.{IsPlanAsRecorded}
use Rattle.verifier.specs.declared.verdict.Verdict.{Verdict}
use Rattle.commands.specs.Ended.{is_done}
use Rattle.commands.specs.Faults.{OrMemory}
use Rattle.commands.specs.Printed.{JudgesAsked, NamesStore}
use Rattle.commands.specs.Refusal.{IsPrintFault}
use Rattle.commands.specs.World.{Sight, a_file, sees_nothing}
use Rattle.commands.specs.declared.ended.Ended.{Ended}
use Rattle.commands.specs.declared.error.CommandError.{CommandError}
use Rattle.commands.specs.declared.memory_world.MemoryWorld.{MemoryWorld}

-- the bytes of the file at each path
abbrev pub Files : Type 0
Files = List ℕ → Option (List ℕ)

abbrev pub files_of : MemoryWorld → Files
files_of world path = bytes_of (get_by_text world.files path)

-- the bytes that the server at each address sends over each connection
abbrev pub replies_of : MemoryWorld → Files
replies_of world address = bytes_of (get_by_text world.servers address)

-- why what stands at a path isn't told: nothing does, or memory ran out
abbrev pub FailsInMemory : Option (List ℕ) → FileError Global → Type 0
FailsInMemory found errors.Memory = Unit {0}
FailsInMemory None (errors.Io path fault) = error_kind fault ≡ NotFound
FailsInMemory found _ = ⊥

-- why no folder is listed there: nothing stands there, or a file
abbrev pub FailsToList : Option (List ℕ) → FileError Global → Type 0
FailsToList found errors.Memory = Unit {0}
FailsToList None (errors.Io path fault) = error_kind fault ≡ NotFound
FailsToList (Some bytes) (errors.Io path fault) = error_kind fault ≡ NotADirectory
FailsToList found _ = ⊥

-- a stream on which so much is to come, if there is one
abbrev pub ComesOver : Option (List ℕ) → Flow → Type 0
ComesOver None flow = ⊥
ComesOver (Some bytes) flow = (flow.coming ≡ Some bytes) × (flow.sent ≡ Some [])

-- what is told of such files and servers: there are no folders and no links
abbrev pub sees_world : Files → Files → Sight
sees_world files replies = record sees_nothing {
  reads = λ path bytes. files path ≡ Some bytes;
  opens = λ path contents. (files path ≡ contents) × IsSome contents;
  lists = λ path names. ⊥;
  stands = λ path found. (found ≡ a_file false) × IsSome (files path);
  leads = λ path is. is ≡ false;
  fails = λ path. FailsInMemory (files path);
  unlisted = λ path. FailsToList (files path);
  connects = λ address timeout. ComesOver (replies address);
  refuses = λ address fault. (error_kind fault ≡ OutOfMemory)
      ⊎ ((error_kind fault ≡ ConnectionRefused) × (replies address ≡ None));
}

abbrev pub sees_in : MemoryWorld → Sight
sees_in world = sees_world (files_of world) (replies_of world)

-- all that a store in a folder of these files can tell
abbrev pub told_in : Files → List ℕ → Telling
told_in files folder = record {
  blobs = λ d. files (entry_path folder (codes "cas") d);
  results = λ d. files (entry_path folder (codes "ac") d);
  failures = 0;
  calls = 0;
  puts = [];
}

abbrev pub told_by_store : Files → List Row → Telling
told_by_store files options = told_in files (option_text options (codes "store"))

-- the words name a store, and with the plan and the record among the files they ask this question
pub record AsksFiles (files : Files) (options : List Row) (question : Question) : Type 0 where
  pub names : NamesStore options
  pub plan_bytes : List ℕ
  pub plan : files (option_text options (codes "plan")) ≡ Some plan_bytes
  pub noted_bytes : List ℕ
  pub noted : files (option_text options (codes "record")) ≡ Some noted_bytes
  pub texts : HasTexts (option_text options (codes "sources")) (option_text options (codes "claim"))
      plan_bytes noted_bytes question

-- the line of the verdict on what the options ask was printed
pub record PrintsVerdict (sees : Sight) (options : List Row) (old new : Option (List ℕ))
    : Type 0 where
  pub verdict : Verdict Global
  pub judged : JudgesAsked sees options verdict
  pub printed : Appends old new (report_line verdict)

-- The verdict is the one on the question that they ask, by all that the files of the store hold.
pub record JudgesFiles (files : Files) (options : List Row) (verdict : Verdict Global)
    : Type 0 where
  pub question : Question
  pub asks : AsksFiles files options question
  pub judged : IsJudged (told_by_store files options) question verdict

-- by the files of the store each step is as recorded, and the root is the claim
abbrev pub IsRightStore : Files → List Row → Question → Type 0
IsRightStore files options q = let told = told_by_store files options in
    IsPlanAsRecorded told.blobs told.results q.sources q.plan q.noted.digests q.claim

-- The question is answered: done exactly where the store is right, and then by the line of its yes.
-- It isn't where memory ran out or the output takes no more, and for nothing else.
abbrev pub AnswersRight : Files → List Row → Question → Option (List ℕ) → Option (List ℕ)
    → Result Ended CommandError → Type 0
AnswersRight files options q old new (Ok ended) =
    (IsTrue (is_done ended) ↔ IsRightStore files options q)
    × (IsRightStore files options q → Appends old new (yes_text q.claim (length q.plan.steps)))
AnswersRight files options q old new (Err e) = OrMemory IsPrintFault e

-- the line of that verdict was printed
pub record PrintsFiles (files : Files) (options : List Row) (old new : Option (List ℕ))
    : Type 0 where
  pub verdict : Verdict Global
  pub judged : JudgesFiles files options verdict
  pub printed : Appends old new (report_line verdict)
