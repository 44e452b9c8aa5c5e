-- Evidence: in a folder or an archive the files of a question, and the entries that judge it.
use Rattle.std.specs.Prelude.{◌≡◌, ◌≢◌, ◌⊎◌, ◌↔◌, ◌≤◌, ℕ, true, false, List, [], ◌∷◌, ◌++◌}
use Rattle.std.specs.Prelude.{Option, None, Some, IfSome, IsSome, codes, is_some, map}
use Rattle.std.specs.Prelude.{if◌then◌else◌, string_bytes}
use Rattle.std.specs.IoError.{error_kind}
use Rattle.std.specs.Map.{lookup}
use Rattle.std.specs.Str.{bytes_eq}
use Rattle.std.specs.declared.alloc.Global.{Global}
use Rattle.std.specs.declared.io.ErrorKind.TheVariants.{NotFound}
use Rattle.archive.specs.Archive.{IsArchive, IsRefused, ReadsAt}
use Rattle.archive.specs.Member.{FileValue}
use Rattle.archive.specs.Reader.{FailsAt}
use Rattle.archive.specs.declared.error.ArchiveError.{ArchiveError}
use Rattle.archive.specs.declared.error.ArchiveError.TheVariants as archives
use Rattle.blob_digest.specs.Digest.{DigestValue}
use Rattle.blob_digest.specs.Text.{BeginsWithHash, digest_text}
use Rattle.blob_digest.specs.declared.error.DigestError.TheVariants.{BadHex}
use Rattle.clap.specs.Values.{reading_of}
use Rattle.clap.specs.Words.{Row, first_of}
use Rattle.clap.specs.declared.builder.value_parser.ValueParser.TheVariants as parsers
use Rattle.clap.specs.declared.parser.matches.ValueSource.TheVariants.{CommandLine}
use Rattle.remote.specs.declared.files.FileError.{FileError}
use Rattle.remote.specs.declared.files.FileError.TheVariants as files
use Rattle.text_verifier.specs.Texts.{IsDigestText}
use Rattle.tree.specs.Form.{form, root}
use Rattle.tree.specs.Tree.{Leaf, Tree}
use Rattle.command_lines.specs.CommandLine.{IsSet, option_text}
use Rattle.commands.specs.Digested.{reads_bits}
use Rattle.commands.specs.Faults.{IsFaultAtPath, SpellsNone, error_of_file}
use Rattle.commands.specs.Read.{IsTreeReadAt, depth}
use Rattle.commands.specs.ReadRefused.{FailsReading}
use Rattle.commands.specs.Words.{Check, IsSaid, else_told, is_expected}
use Rattle.commands.specs.Words.{may_name_folder, server_words, where_said}
use Rattle.commands.specs.World.{Sight, a_file}
use Rattle.commands.specs.declared.error.CommandError.{CommandError}
use Rattle.commands.specs.declared.error.CommandError.TheVariants.{Archive, DigestFile, File}
use Rattle.commands.specs.declared.error.CommandError.TheVariants.{Memory}
use Rattle.commands.specs.declared.evidence_options.EvidenceOptions.{EvidenceOptions}

-- ---- the words

-- an option with the word for its text, as help writes them, where it isn't said
abbrev pub missing_option : List Row → List ℕ → List ℕ → List ℕ
missing_option options option value = if is_some (first_of option options) then []
    else codes " --" ++ (option ++ (codes " <" ++ (value ++ codes ">")))

-- the claim, which a folder may stand for
abbrev pub missing_claim : List Row → List ℕ
missing_claim options = if is_some (first_of (codes "artifact") options) then []
    else missing_option options (codes "claim") (codes "DIGEST")

-- the options that are wanted where no evidence is named, as they are missing
abbrev pub missing : List Row → List ℕ
missing options = missing_option options (codes "sources") (codes "DIGEST")
    ++ (missing_option options (codes "plan") (codes "FILE")
    ++ (missing_option options (codes "record") (codes "FILE") ++ missing_claim options))

abbrev pub has_wanted : List Row → Check
has_wanted options = else_told (missing options ≡ [])
    (codes "the following required arguments were not provided:" ++ (missing options
    ++ codes ", or <EVIDENCE>"))

-- an option that can't stand beside evidence, and one that can't without a server
abbrev pub goes_alone : List Row → List ℕ → Check
goes_alone options option = else_told (¬ IsSaid options option)
    (codes "--" ++ (option ++ codes " cannot be used with <EVIDENCE>"))

abbrev pub needs_server : List Row → List ℕ → Check
needs_server options option = else_told (IsSaid options option → IsSaid options (codes "server"))
    (codes "--" ++ (option ++ codes " cannot be used without --server"))

abbrev pub names_evidence : List Row → Check
names_evidence options =
    is_expected options (codes "evidence") (codes "a folder or an archive") (λ text. text ≢ [])

-- beside evidence stand a server and what is said of it, the digests, and a folder for the claim
abbrev pub evidence_words : List Row → List Check
evidence_words options =
    goes_alone options (codes "plan") ∷ goes_alone options (codes "record")
    ∷ goes_alone options (codes "store") ∷ goes_alone options (codes "results")
    ∷ needs_server options (codes "prefix") ∷ needs_server options (codes "timeout")
    ∷ names_evidence options ∷ map (where_said options (codes "server")) (server_words options)

-- a folder that stands for a claim isn't said beside one, and bits are of its files alone
abbrev pub has_one_claim : List Row → Check
has_one_claim options =
    else_told (IsSaid options (codes "artifact") → ¬ IsSaid options (codes "claim"))
    (codes "--claim cannot be used with --artifact")

abbrev pub has_bits_of_folder : List Row → Check
has_bits_of_folder options =
    else_told (IsSet options (codes "no-bits") → IsSaid options (codes "artifact"))
    (codes "--no-bits cannot be used without --artifact")

abbrev pub artifact_words : List Row → List Check
artifact_words options =
    has_one_claim options ∷ has_bits_of_folder options ∷ may_name_folder options (codes "artifact")
    ∷ []

-- the file for what is looked at is none of those that are asked
abbrev pub leaves : List Row → List ℕ → List ℕ → Check
leaves options option written = else_told (IsSaid options (codes "keep")
    → option_text options (codes "keep") ≢ option_text options option)
    (codes "--keep cannot name the file of " ++ written)

abbrev pub may_name_kept : List Row → Check
may_name_kept options = where_said options (codes "keep")
    (is_expected options (codes "keep") (codes "a file") (λ text. text ≢ []))

abbrev pub keep_words : List Row → List Check
keep_words options = may_name_kept options
    ∷ leaves options (codes "plan") (codes "--plan")
    ∷ leaves options (codes "record") (codes "--record")
    ∷ leaves options (codes "evidence") (codes "<EVIDENCE>") ∷ []

abbrev pub words_of : Option (List ℕ) → List Row → List Check
words_of None options = has_wanted options ∷ []
words_of (Some evidence) options = evidence_words options

-- what the words have to be, without evidence and with it
abbrev pub asked_words : List Row → List Check
asked_words options = artifact_words options
    ++ (words_of (first_of (codes "evidence") options) options ++ keep_words options)

-- ---- what evidence has

abbrev pub in_evidence : List ℕ → List ℕ → List ℕ
in_evidence evidence name = evidence ++ 47 ∷ name

-- a text's line: all but a newline (10) at its end
abbrev pub HasLine : List ℕ → List ℕ → Type 0
HasLine text line = (text ≡ line ++ 10 ∷ [])
    ⊎ ((text ≡ line) × ((rest : List ℕ) → text ≢ rest ++ 10 ∷ []))

-- the file that was read at the path has a digest as its line
pub record HasDigestLine (sees : Sight) (path : List ℕ) (digest : DigestValue) : Type 0 where
  pub text : List ℕ
  pub read : sees.reads path text
  pub line : List ℕ
  pub is_line : HasLine text line
  pub spelled : IsDigestText line digest

-- the text of a digest's option: as it was said, or that of the evidence's file of its name
abbrev pub IsStatedAs : Sight → Option (List ℕ) → List ℕ → List ℕ → Type 0
IsStatedAs sees (Some said) path text = text ≡ said
IsStatedAs sees None path text = (digest : DigestValue) × HasDigestLine sees path digest
    × (text ≡ digest_text digest)

abbrev pub IsStated : Sight → List Row → List ℕ → List ℕ → List ℕ → Type 0
IsStated sees options evidence name =
    IsStatedAs sees (first_of name options) (in_evidence evidence name)

-- a text for an option
abbrev pub given : List ℕ → List ℕ → Row
given option text = record {
  id = option;
  values = text ∷ [];
  count = None;
  source = Some CommandLine;
  reading = reading_of parsers.String;
}

-- the entries are all that is asked, or the results beside a server's blobs
abbrev pub entries_option : List Row → List ℕ
entries_option options =
    if is_some (first_of (codes "server") options) then codes "results" else codes "store"

-- The text is that of the digest of the tree that was read at the folder, with executable bits or
-- without; paths in it have at most 64 names.
pub record IsFolderClaim (sees : Sight) (options : List Row) (folder claim : List ℕ)
    : Type 0 where
  pub tree : Tree Leaf
  pub read : IsTreeReadAt sees (reads_bits options) folder tree
  pub within : depth tree ≤ 64
  pub is : claim ≡ digest_text (root (form tree))

-- the options that say what evidence does: by the plan and the record in this folder, with these
-- texts of digests
abbrev pub evidence_options : List Row → List ℕ → List ℕ → List ℕ → List ℕ → List Row
evidence_options options evidence folder sources claim =
    given (codes "sources") sources ∷ given (codes "claim") claim
    ∷ given (codes "plan") (in_evidence folder (codes "plan"))
    ∷ given (codes "record") (in_evidence folder (codes "record"))
    ∷ given (entries_option options) (in_evidence evidence (codes "store")) ∷ options

-- the options as the code has them, before those that were said
abbrev pub options_in : {M : Type 0} → List Row → EvidenceOptions M → List Row
options_in said o =
    given (codes "sources") (string_bytes o.sources) ∷ given (codes "claim") (string_bytes o.claim)
    ∷ given (codes "plan") (string_bytes o.plan) ∷ given (codes "record") (string_bytes o.noted)
    ∷ given o.place.now (string_bytes o.entries) ∷ said

-- ---- folders and archives

-- A world's sight, where an archive of these files stands as a folder, whose path has a slash
-- behind it: what is below it is read from these contents, and nothing else of files is.
abbrev pub sees_archive : Sight → List ℕ → Option (List ℕ) → List FileValue → Sight
sees_archive sees folder contents files = record sees {
  reads = λ path bytes. (name : List ℕ) × (path ≡ folder ++ name)
      × ReadsAt contents files name bytes;
  opens = λ path contents. ⊥;
  fails = λ path e. (name : List ℕ) → path ≡ folder ++ name → FailsAt files name e;
  stands = λ path found. (found ≡ a_file false)
      × ((name : List ℕ) × (path ≡ folder ++ name) × IsSome (lookup (bytes_eq name) files));
  leads = λ path is. is ≡ true;
  lists = λ path names. ⊥;
  unlisted = λ path e. Unit {0};
}

-- the fault of a file, at whatever path, or want of memory to tell it
abbrev pub IsSameFault : FileError Global → FileError Global → Type 0
IsSameFault (files.Io p fault) (files.Io q other) = other ≡ fault
IsSameFault (files.NotAFile p) (files.NotAFile q) = Unit {0}
IsSameFault (files.TooLarge p) (files.TooLarge q) = Unit {0}
IsSameFault error files.Memory = Unit {0}
IsSameFault error other = ⊥

-- nothing is there, or memory is wanting to tell it
abbrev pub IsNothingThere : FileError Global → Type 0
IsNothingThere (files.Io p fault) = error_kind fault ≡ NotFound
IsNothingThere files.Memory = Unit {0}
IsNothingThere _ = ⊥

-- the file at the path has these contents, which are an archive of these files where they are known
pub record HoldsArchive (sees : Sight) (path : List ℕ) (contents : Option (List ℕ))
    (files : List FileValue) : Type 0 where
  pub opened : sees.opens path contents
  pub is : IfSome contents (λ bytes. IsArchive bytes files)

-- said of the sight of what is in the evidence: a folder, or else an archive
pub data InEvidence (sees : Sight) (evidence : List ℕ) (Says : Sight → Type 0) : Type 0 where
  folder : sees.leads evidence true → Says sees → InEvidence sees evidence Says
  archive : sees.leads evidence false → (contents : Option (List ℕ)) → (files : List FileValue)
      → HoldsArchive sees evidence contents files
      → Says (sees_archive sees (in_evidence evidence []) contents files)
      → InEvidence sees evidence Says

-- the text of the claim: of a folder that the options name the digest of the tree that was read
-- there, outside of the evidence, and else as it is stated
abbrev pub IsClaim : Option (List ℕ) → Sight → Sight → List Row → List ℕ → List ℕ → Type 0
IsClaim (Some place) outside sees options evidence claim =
    IsFolderClaim outside options place claim
IsClaim None outside sees options evidence claim =
    IsStated sees options evidence (codes "claim") claim

-- said of the options that say what the evidence does
pub record StatesDigests (outside sees : Sight) (options : List Row) (evidence : List ℕ)
    (Says : List Row → Type 0) : Type 0 where
  pub sources : List ℕ
  pub sources_are : IsStated sees options evidence (codes "sources") sources
  pub claim : List ℕ
  pub claim_is : IsClaim (first_of (codes "artifact") options) outside sees options evidence claim
  pub says : Says (evidence_options options evidence evidence sources claim)

-- ---- faults

-- the error tells why a file at the path is no archive that is read
abbrev pub TellsArchiveError : List ℕ → ArchiveError → CommandError → Type 0
TellsArchiveError path (archives.Refused at refusal) (Archive p a r) =
    (string_bytes p ≡ path) × (a ≡ at) × (r ≡ refusal)
TellsArchiveError path (archives.Unread fault) (File p f) =
    (string_bytes p ≡ path) × (f ≡ fault)
TellsArchiveError path archives.Memory e = e ≡ Memory
TellsArchiveError path error e = ⊥

-- the error tells that the line of the file at the path is no digest
abbrev pub TellsNoDigest : List ℕ → List ℕ → CommandError → Type 0
TellsNoDigest path line (DigestFile p fault) = (string_bytes p ≡ path)
    × SpellsNone line × ((fault ≡ BadHex) ↔ ¬ BeginsWithHash line)
TellsNoDigest path line _ = ⊥

-- a file that has a digest as its line can't be read, or doesn't have it
abbrev pub FailsDigestLine : Sight → List ℕ → CommandError → Type 0
FailsDigestLine sees path e =
    ((f : FileError Global) × sees.fails path f × (e ≡ error_of_file f))
    ⊎ ((text : List ℕ) × (line : List ℕ) × sees.reads path text × HasLine text line
    × TellsNoDigest path line e)

-- the text of the claim isn't there: its folder can't be read, or its digest isn't stated
abbrev pub FailsClaim : Option (List ℕ) → Sight → Sight → List Row → List ℕ → CommandError → Type 0
FailsClaim (Some place) outside sees options evidence e =
    FailsReading outside (reads_bits options) 64 place e
FailsClaim None outside sees options evidence e = (first_of (codes "claim") options ≡ None)
    × FailsDigestLine sees (in_evidence evidence (codes "claim")) e

-- the digest of the sources isn't stated, or else the claim isn't there
abbrev pub FailsStated : Sight → Sight → List Row → List ℕ → CommandError → Type 0
FailsStated outside sees options evidence e =
    ((first_of (codes "sources") options ≡ None)
    × FailsDigestLine sees (in_evidence evidence (codes "sources")) e)
    ⊎ FailsClaim (first_of (codes "artifact") options) outside sees options evidence e

-- the error tells at which byte the file at the path is no archive, and how
abbrev pub IsArchiveFault : List ℕ → List ℕ → CommandError → Type 0
IsArchiveFault path bytes (Archive p at refusal) =
    (string_bytes p ≡ path) × IsRefused bytes at refusal
IsArchiveFault path bytes _ = ⊥

-- the error tells of a fault in reading the open file at the path
abbrev pub IsReadFault : List ℕ → CommandError → Type 0
IsReadFault path = IsFaultAtPath path (λ fault. Unit {0})

-- the error tells why the file at the path, with these contents, is no archive that can be read
abbrev pub IsNoArchive : List ℕ → Option (List ℕ) → CommandError → Type 0
IsNoArchive path contents e =
    IsReadFault path e ⊎ IfSome contents (λ bytes. IsArchiveFault path bytes e)

-- what stands at the path can't be read, or is neither a folder nor an archive
abbrev pub FailsEvidence : Sight → List ℕ → CommandError → Type 0
FailsEvidence sees path e =
    ((f : FileError Global) × sees.fails path f × (e ≡ error_of_file f))
    ⊎ ((contents : Option (List ℕ)) × sees.opens path contents × IsNoArchive path contents e)
