-- The text of an error's line. What a fault of the system, of a digest or of a plan says is free,
-- and what stands around it isn't: the option, the path, the line, the hint, the server, the
-- request, its fault, the program and the signal.
use Rattle.std.specs.Prelude.{◌≡◌, ℕ, List, [], ◌++◌, Option, None, Some, IfSome, codes, decimal}
use Rattle.std.specs.Prelude.{bytes_eq, if◌then◌else◌, string_bytes}
use Rattle.std.specs.Fmt.{debug_str, signed_decimal}
use Rattle.blob_digest.specs.Digest.{DigestValue}
use Rattle.blob_digest.specs.Text.{digest_text}
use Rattle.remote.specs.Fault.{fault_text}
use Rattle.commands.specs.declared.error.CommandError.{CommandError}
use Rattle.commands.specs.declared.error.CommandError.TheVariants.{Accept, Address, Archive, Blob}
use Rattle.commands.specs.declared.error.CommandError.TheVariants.{Connection, Digest, Entry, File}
use Rattle.commands.specs.declared.error.CommandError.TheVariants.{DigestFile, InvalidValue}
use Rattle.commands.specs.declared.error.CommandError.TheVariants.{Memory, NotAFile, Number, Output}
use Rattle.commands.specs.declared.error.CommandError.TheVariants.{Process, Random, Server, Text}
use Rattle.commands.specs.declared.error.CommandError.TheVariants.{Stages, TooLarge, Usage}
use Rattle.commands.specs.declared.failure.Method.{Method}
use Rattle.commands.specs.declared.failure.Method.TheVariants.{GetBlob, GetResult, PutBlob}
use Rattle.commands.specs.declared.failure.Method.TheVariants.{PutResult}
use Rattle.commands.specs.declared.hint.Hint.{Hint}
use Rattle.commands.specs.declared.hint.Hint.TheVariants.{BlankAtEnd, CarriageReturn, LaterStep}
use Rattle.commands.specs.declared.hint.Hint.TheVariants.{NoLine, NoNewline, NoStep, NotEscaped}
use Rattle.commands.specs.declared.hint.Hint.TheVariants.{OwnStep}
use Rattle.commands.specs.declared.process_fault.ProcessCause.{ProcessCause}
use Rattle.commands.specs.declared.process_fault.ProcessCause.TheVariants.{Signal, Unread}
use Rattle.commands.specs.declared.process_fault.ProcessCause.TheVariants.{Unstarted, Unwaited}
use Rattle.commands.specs.declared.process_fault.ProcessFault.{ProcessFault}
use Rattle.commands.specs.declared.stages.StagesFault.{StagesFault}
use Rattle.commands.specs.declared.stages.StagesFault.TheVariants.{Line, PlanBeside}

-- a text in quotes, as Rust's `{:?}` shows it, which is stated of ASCII alone
abbrev pub IsQuoted : List ℕ → List ℕ → Type 0
IsQuoted text quoted = IfSome (debug_str text) (λ shown. quoted ≡ shown)

-- what is said, behind what it is said of
abbrev pub said_of : List ℕ → List ℕ → List ℕ
said_of head said = head ++ (codes ": " ++ said)

-- some words of a fault of this
abbrev pub IsWordsOf : List ℕ → List ℕ → Type 0
IsWordsOf head text = (said : List ℕ) × (text ≡ said_of head said)

-- said of what stands at a path
abbrev pub IsOfPath : List ℕ → List ℕ → List ℕ → Type 0
IsOfPath path said text = (quoted : List ℕ) × IsQuoted path quoted × (text ≡ said_of quoted said)

-- some words of a fault there
abbrev pub IsWordsAt : List ℕ → List ℕ → Type 0
IsWordsAt path text = (said : List ℕ) × IsOfPath path said text

-- an option as it is written; `get`'s digest and `verify`'s evidence are words without one
abbrev pub written_option : List ℕ → List ℕ
written_option option =
    if bytes_eq option (codes "digest") then codes "<DIGEST>"
    else (if bytes_eq option (codes "evidence") then codes "<EVIDENCE>"
    else codes "--" ++ option)

-- said of an option, for which this was given
abbrev pub IsOfOption : List ℕ → List ℕ → List ℕ → List ℕ → Type 0
IsOfOption option said given text = (quoted : List ℕ) × IsQuoted given quoted
    × (text ≡ said_of (written_option option) (said ++ (codes ", got " ++ quoted)))

abbrev pub number_at_most : ℕ → List ℕ
number_at_most greatest = codes "a number of at most " ++ decimal greatest

-- what may be wrong with a line that can't be read
abbrev pub hint_words : Option Hint → List ℕ
hint_words None = []
hint_words (Some CarriageReturn) = codes "; the line ends with CR LF"
hint_words (Some BlankAtEnd) = codes "; a blank ends the line"
hint_words (Some NoNewline) = codes "; the text has no newline at its end"
hint_words (Some NoLine) = codes "; the text ends before it"
hint_words (Some NotEscaped) = codes
    "; in a path every byte but letters, digits and -._~/ is escaped, a space as %20"
hint_words (Some LaterStep) = codes "; a later step has it"
hint_words (Some OwnStep) = codes "; the step itself has it"
hint_words (Some NoStep) = codes "; no step has it"

-- some words of a fault in this line of a file, and behind them those of the hint
abbrev pub IsWordsInLine : List ℕ → ℕ → Option Hint → List ℕ → Type 0
IsWordsInLine path line hint text = (words : List ℕ)
    × IsOfPath path (said_of (codes "line " ++ decimal line) (words ++ hint_words hint)) text

-- the words for a request: what is asked, and of which digest
abbrev pub method_text : Method → List ℕ
method_text GetBlob = codes "get of blob"
method_text GetResult = codes "get of result"
method_text PutBlob = codes "put of blob"
method_text PutResult = codes "put of result"

abbrev pub request_words : Method → DigestValue → List ℕ
request_words method digest = method_text method ++ (codes " " ++ digest_text digest)

-- said of a request to a server
abbrev pub said_of_request : List ℕ → Method → DigestValue → List ℕ → List ℕ
said_of_request server method digest said =
    said_of server (said_of (request_words method digest) said)

-- why a process came to nothing, by its program's name in quotes
abbrev pub IsCauseText : List ℕ → ProcessCause → List ℕ → Type 0
IsCauseText program (Unstarted fault) text = IsWordsOf (codes "can't run " ++ program) text
IsCauseText program (Unwaited fault) text = IsWordsOf (codes "can't wait for " ++ program) text
IsCauseText program (Unread fault) text =
    IsWordsOf (codes "can't read the outputs of " ++ program) text
IsCauseText program (Signal number) text =
    text ≡ program ++ (codes " was ended by signal " ++ signed_decimal number)

-- why a process came to nothing, at its place in the plan
abbrev pub IsProcessText : ProcessFault → List ℕ → Type 0
IsProcessText fault text = (quoted : List ℕ) × (said : List ℕ)
    × IsQuoted (string_bytes fault.program) quoted × IsCauseText quoted fault.cause said
    × (text ≡ said_of (string_bytes fault.place) said)

-- what is wrong with a list of stages
abbrev pub stages_words : StagesFault → List ℕ
stages_words (Line line) = said_of (codes "line " ++ decimal line)
    (codes "expected a stage's number, of 1 to 9 digits without a leading zero, and a newline")
stages_words PlanBeside = codes "stages, and a plan beside them"

abbrev pub IsErrorText : CommandError → List ℕ → Type 0
IsErrorText (Usage said) text = text ≡ string_bytes said
IsErrorText (Digest option given fault) text =
    (said : List ℕ) × IsOfOption option.now said (string_bytes given) text
IsErrorText (Number option greatest given) text =
    IsOfOption option.now (codes "expected " ++ number_at_most greatest) (string_bytes given) text
IsErrorText (DigestFile path fault) text = IsWordsAt (string_bytes path) text
IsErrorText (Archive path at refusal) text = (words : List ℕ)
    × IsOfPath (string_bytes path) (said_of (codes "at byte " ++ decimal at) words) text
IsErrorText (Stages path fault) text = IsOfPath (string_bytes path) (stages_words fault) text
IsErrorText (Text path fault hint) text = IsWordsInLine (string_bytes path) fault.line hint text
IsErrorText (File path fault) text = IsWordsAt (string_bytes path) text
IsErrorText (NotAFile path) text = IsOfPath (string_bytes path) (codes "not a file") text
IsErrorText (TooLarge path) text =
    IsOfPath (string_bytes path) (codes "a file of more than 16777216 bytes") text
IsErrorText (InvalidValue option expected given) text =
    IsOfOption option.now (codes "expected " ++ expected.now) (string_bytes given) text
IsErrorText (Entry path fault) text = IsOfPath (string_bytes path) fault.now text
IsErrorText (Connection server fault) text = (said : List ℕ)
    × IsWordsOf (codes "can't connect") said × (text ≡ said_of (string_bytes server) said)
IsErrorText (Server server failure) text = text
    ≡ said_of_request (string_bytes server) failure.method failure.digest (fault_text failure.fault)
IsErrorText (Blob server digest fault) text =
    text ≡ said_of_request (string_bytes server) GetBlob digest fault.now
IsErrorText (Address place fault) text = (said : List ℕ)
    × IsWordsOf (codes "can't listen") said × IsOfPath (string_bytes place) said text
IsErrorText (Accept fault) text =
    IsWordsOf (codes "no more connections are served after " ++ decimal fault.accepted) text
IsErrorText (Process fault) text = IsProcessText fault text
IsErrorText (Random fault) text = IsWordsOf (codes "random bytes") text
IsErrorText (Output fault) text = IsWordsOf (codes "standard output") text
IsErrorText Memory text = text ≡ codes "out of memory"
