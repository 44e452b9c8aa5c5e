-- What the words of the program come to: what was printed, or why nothing was.
use Rattle.std.specs.Prelude.{◌≡◌, ◌≢◌, ℕ, List, ◌++◌, Option, codes, string_bytes}
use Rattle.std.specs.Io.KnownBytes.{Appends}
use Rattle.clap.specs.Words.{IsAmong, Text, fault_of}
use Rattle.clap.specs.declared.error.kind.ErrorKind.{ErrorKind}
use Rattle.clap.specs.declared.error.kind.ErrorKind.TheVariants.{DisplayHelp, DisplayVersion}
use Rattle.command_lines.specs.CommandLine.{CallsCommand, options_of, program_line}
use Rattle.cli.specs.Built.{BeginsBuild, Below, PrintsBuild}
use Rattle.cli.specs.Help.{IsTip, help_asked, version_line}
use Rattle.cli.specs.Refused.{FailsBuild}
use Rattle.commands.specs.Compared.{BeginsComparison, ComparesAsked, FailsCompare}
use Rattle.commands.specs.Digested.{BeginsDigestRead, FailsDigest, PrintsDigestRead}
use Rattle.commands.specs.Verified.{BeginsAnswer, FailsAsked, VerifiesAsked}
use Rattle.commands.specs.Printed.{BeginsDigest, BeginsListening, GetsAsked, GetsPart}
use Rattle.commands.specs.Printed.{PrintsDigest, ServesAsked}
use Rattle.commands.specs.GetRefused.{FailsGet}
use Rattle.commands.specs.PutRefused.{FailsPut}
use Rattle.commands.specs.Refusal.{IsPrintFault}
use Rattle.commands.specs.ServeRefused.{FailsServe, IsAcceptFault}
use Rattle.commands.specs.Status.{exit_status}
use Rattle.commands.specs.Told.{AppendsBeginning, PrintsNoLine, TellsNoteOf, TellsOf}
use Rattle.commands.specs.World.{Sight}
use Rattle.commands.specs.declared.ended.Ended.TheVariants.{Done, No}
use Rattle.commands.specs.declared.ended.Note.{Note}
use Rattle.commands.specs.declared.error.CommandError.{CommandError}
use Rattle.commands.specs.declared.error.CommandError.TheVariants.{Memory, Usage}

-- the words ask for help, or for the version
abbrev pub WantsHelp : List Text → Type 0
WantsHelp words = IsAmong DisplayHelp (fault_of program_line words)

abbrev pub WantsVersion : List Text → Type 0
WantsVersion words = IsAmong DisplayVersion (fault_of program_line words)

-- the help or the version that the words ask for was printed
pub data ShowsAsked (words : List Text) (old new : Option (List ℕ)) : Type 0 where
  help : WantsHelp words → Appends old new (help_asked words) → ShowsAsked words old new
  version : WantsVersion words → Appends old new version_line → ShowsAsked words old new

-- nothing was printed, or a beginning of the help or the version that the words ask for
pub data BeginsShown (words : List Text) (old new : Option (List ℕ)) : Type 0 where
  nothing : new ≡ old → BeginsShown words old new
  help : WantsHelp words → AppendsBeginning old new (help_asked words) → BeginsShown words old new
  version : WantsVersion words → AppendsBeginning old new version_line → BeginsShown words old new

-- The line of a yes was printed, or that of two builds that are the same, or a blob, or the line of
-- the digest of what was put or read, or that of the address where connections were served, or that
-- of a build's root, or the help or the version.
pub data IsDone (sees : Sight) (below : Below) (words : List Text) (old new : Option (List ℕ))
    : Type 0 where
  yes : CallsCommand words (codes "verify") → VerifiesAsked sees (options_of words) old new Done
      → IsDone sees below words old new
  same : CallsCommand words (codes "compare") → ComparesAsked sees (options_of words) old new Done
      → IsDone sees below words old new
  got : CallsCommand words (codes "get") → GetsAsked sees (options_of words) old new Done
      → IsDone sees below words old new
  put : CallsCommand words (codes "put") → PrintsDigest sees (options_of words) old new
      → IsDone sees below words old new
  hashed : CallsCommand words (codes "digest") → PrintsDigestRead sees (options_of words) old new
      → IsDone sees below words old new
  served : CallsCommand words (codes "serve") → ServesAsked sees (options_of words) old new
      → IsDone sees below words old new
  built : CallsCommand words (codes "build")
      → PrintsBuild sees below (options_of words) old new Done → IsDone sees below words old new
  shown : ShowsAsked words old new → IsDone sees below words old new

-- The line of a no was printed, or that of two builds that differ, or nothing since there is no such
-- blob, or the line of a build's refusal. The note is of a store folder that isn't there, of where a
-- folder isn't what builds make, that there is no such blob, or why.
pub data IsNo (sees : Sight) (below : Below) (words : List Text) (note : Option Note)
    (old new : Option (List ℕ)) : Type 0 where
  no : CallsCommand words (codes "verify")
      → VerifiesAsked sees (options_of words) old new (No note) → IsNo sees below words note old new
  differ : CallsCommand words (codes "compare")
      → ComparesAsked sees (options_of words) old new (No note) → IsNo sees below words note old new
  none : CallsCommand words (codes "get") → GetsAsked sees (options_of words) old new (No note)
      → IsNo sees below words note old new
  failed : CallsCommand words (codes "build")
      → PrintsBuild sees below (options_of words) old new (No note)
      → IsNo sees below words note old new

-- the words end in a no, with its note on standard error
pub record EndsNo (sees : Sight) (below : Below) (words : List Text)
    (old new old_err new_err : Option (List ℕ)) : Type 0 where
  pub note : Option Note
  pub no : IsNo sees below words note old new
  pub told : TellsNoteOf note old_err new_err

-- ---- why they come to neither

-- What the words ask for was begun: the help, the version, or what the called command answers. Of
-- `verify` and `compare` no line is whole.
pub data BeginsAsked (sees : Sight) (below : Below) (words : List Text)
    (old new : Option (List ℕ)) : Type 0 where
  shown : BeginsShown words old new → BeginsAsked sees below words old new
  verified : CallsCommand words (codes "verify") → BeginsAnswer sees (options_of words) old new
      → PrintsNoLine old new → BeginsAsked sees below words old new
  compared : CallsCommand words (codes "compare")
      → BeginsComparison sees (options_of words) old new → PrintsNoLine old new
      → BeginsAsked sees below words old new
  got : CallsCommand words (codes "get") → GetsPart sees (options_of words) old new
      → BeginsAsked sees below words old new
  put : CallsCommand words (codes "put") → BeginsDigest sees (options_of words) old new
      → BeginsAsked sees below words old new
  hashed : CallsCommand words (codes "digest") → BeginsDigestRead sees (options_of words) old new
      → BeginsAsked sees below words old new
  served : CallsCommand words (codes "serve") → BeginsListening sees (options_of words) old new
      → BeginsAsked sees below words old new
  built : CallsCommand words (codes "build") → BeginsBuild sees below (options_of words) old new
      → BeginsAsked sees below words old new

-- the words are at fault, with more than to ask for help or the version
pub record HasFault (words : List Text) : Type 0 where
  pub kind : ErrorKind
  pub among : IsAmong kind (fault_of program_line words)
  pub no_help : kind ≢ DisplayHelp
  pub no_version : kind ≢ DisplayVersion

-- the words are at fault, and ask neither for help nor for the version
pub record AreFaulty (words : List Text) : Type 0 where
  pub fault : HasFault words
  pub no_help : ¬ WantsHelp words
  pub no_version : ¬ WantsVersion words

-- the error tells what is wrong with words, in a text that ends with the tip on such a mistake
abbrev pub TellsOfWords : ErrorKind → CommandError → Type 0
TellsOfWords kind (Usage text) = (said : List ℕ) × (tip : List ℕ) × IsTip kind tip
    × (string_bytes text ≡ said ++ tip)
TellsOfWords kind _ = ⊥

-- the words are at fault, or what they ask for couldn't be printed, or memory ran out
pub data FailsInWords (words : List Text) (e : CommandError) : Type 0 where
  in_memory : e ≡ Memory → FailsInWords words e
  in_fault : (fault : HasFault words) → TellsOfWords fault.kind e → FailsInWords words e
  in_help : WantsHelp words → IsPrintFault e → FailsInWords words e
  in_version : WantsVersion words → IsPrintFault e → FailsInWords words e

-- The words are at fault, or else the command that they call has this as its first fault.
pub data Fails (sees : Sight) (below : Below) (words : List Text) (e : CommandError) : Type 0 where
  in_words : FailsInWords words e → Fails sees below words e
  in_verify : CallsCommand words (codes "verify") → FailsAsked sees (options_of words) e
      → Fails sees below words e
  in_compare : CallsCommand words (codes "compare") → FailsCompare sees (options_of words) e
      → Fails sees below words e
  in_build : CallsCommand words (codes "build") → FailsBuild sees below (options_of words) e
      → Fails sees below words e
  in_put : CallsCommand words (codes "put") → FailsPut sees (options_of words) e
      → Fails sees below words e
  in_digest : CallsCommand words (codes "digest") → FailsDigest sees (options_of words) e
      → Fails sees below words e
  in_get : CallsCommand words (codes "get") → FailsGet sees (options_of words) e
      → Fails sees below words e
  in_serve : CallsCommand words (codes "serve") → FailsServe sees (options_of words) e
      → Fails sees below words e

-- An error with this status is why, and its line was told. Nothing else was printed, unless the
-- output is at fault, or a connection of `serve`.
pub record EndsRefused (sees : Sight) (below : Below) (words : List Text) (status : ℕ)
    (old new old_err new_err : Option (List ℕ)) : Type 0 where
  pub error : CommandError
  pub why : Fails sees below words error
  pub status_is : exit_status error ≡ status
  pub unprinted : ¬ IsPrintFault error → ¬ IsAcceptFault error → new ≡ old
  pub told : TellsOf error old_err new_err
