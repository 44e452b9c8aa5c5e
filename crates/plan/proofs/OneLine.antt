-- What the words of a line of a directory say.
use Rattle.std.proofs.Common.{◌≡◌, ℕ, zero, suc, ◌<◌, List, [], ◌∷◌, ◌++◌, length, get_or, ap, sym, ◌∙◌, subst, arith, codes}
use Rattle.std.specs.List.{Contains, AllByRecursion}
use Rattle.std.proofs.lemmas.List.{append_cancel_left}
use Rattle.messages.specs.Path.{IsPath}
use Rattle.plan.specs.declared.error.Fault.{Fault}
use Rattle.plan.specs.declared.error.Fault.TheVariants as faults
use Rattle.plan.specs.Escape.{escaped_path}
use Rattle.plan.specs.Parts.{IsOriginFault, IsWordsFault, IsFirstFault}
use Rattle.plan.specs.Line.{IsStepName}
use Rattle.plan.specs.Lines.{WrittenOrigin, from_source, from_step, in_line, IsWrittenOrigin, written_origin_words, written_words}
use Rattle.plan.specs.Values.{LineValue, StepValue}
use Rattle.plan.proofs.Lines.{has_space, line_front}
use Rattle.plan.proofs.Written.{in_parts, output_parts, source_is_no_output, first_words}

-- ---- an origin

-- words behind `out ` have the step's name before their first space, and the path behind it
pub output_written : (words name path : List ℕ) (origin : WrittenOrigin) → words ≡ name ++ 32 ∷ path → ¬ Contains name 32 → IsWrittenOrigin origin → codes "out " ++ words ≡ written_origin_words origin
    → IsStepName name × ((at : List (List ℕ)) × IsPath at × (path ≡ escaped_path at))
output_written words name path (from_source []) e none is told = absurd (source_is_no_output (46 ∷ []) words (sym told))
output_written words name path (from_source (n ∷ p)) e none is told = absurd (source_is_no_output (escaped_path (n ∷ p)) words (sym told))
output_written words name path (from_step step at) e none is told =
    let parts = output_parts words name path step at is.0 none e told in
    (subst IsStepName (sym parts.0) is.0, (at, is.1, parts.1))

pub output_space : (words : List ℕ) (origin : WrittenOrigin) → IsWrittenOrigin origin → codes "out " ++ words ≡ written_origin_words origin → Contains words 32
output_space words (from_source []) is told = absurd (source_is_no_output (46 ∷ []) words (sym told))
output_space words (from_source (n ∷ p)) is told = absurd (source_is_no_output (escaped_path (n ∷ p)) words (sym told))
output_space words (from_step step at) is told =
    subst (λ (l : List ℕ). Contains l 32) (sym (append_cancel_left (codes "out ") words (step ++ 32 ∷ escaped_path at) told)) (has_space step (escaped_path at))

-- ---- a line

pub in_space : (rest : List ℕ) (target : List (List ℕ)) (origin : WrittenOrigin) → codes "in " ++ rest ≡ written_words (in_line target origin) → Contains rest 32
in_space rest target origin told =
    subst (λ (l : List ℕ). Contains l 32) (sym (append_cancel_left (codes "in ") rest (escaped_path target ++ 32 ∷ written_origin_words origin) told)) (has_space (escaped_path target) (written_origin_words origin))

-- a fault of the origin is one of the line
pub line_fault : (steps : List StepValue) (words rest target origin : List ℕ) (path : List (List ℕ)) (fault : Fault) → words ≡ codes "in " ++ rest → rest ≡ target ++ 32 ∷ origin → ¬ Contains target 32
    → IsPath path → target ≡ escaped_path path → IsOriginFault steps origin fault → IsWordsFault steps words fault
line_fault steps words rest target origin path faults.BadLine e f none is spelled h = λ t o valid told.
    let parts = in_parts rest target origin t o valid.0 none f (sym e ∙ told) in
    h o valid.1 parts.1
line_fault steps words rest target origin path faults.LaterStep e f none is spelled h =
    (path, h.0, (is, h.1), e ∙ ap (λ (l : List ℕ). codes "in " ++ l) (f ∙ ap (λ (l : List ℕ). l ++ 32 ∷ origin) spelled ∙ ap (λ (l : List ℕ). escaped_path path ++ 32 ∷ l) h.2), h.3)
line_fault steps words rest target origin path faults.BadHeader e f none is spelled h = h
line_fault steps words rest target origin path faults.SameStep e f none is spelled h = h
line_fault steps words rest target origin path faults.Overlap e f none is spelled h = h
line_fault steps words rest target origin path faults.TooMany e f none is spelled h = h
line_fault steps words rest target origin path faults.RecordDiffers e f none is spelled h = h

-- a fault of the words in front of the first newline is one of the text
pub first_fault : (steps : List StepValue) (text words behind : List ℕ) (fault : Fault) → text ≡ words ++ 10 ∷ behind → ¬ Contains words 10 → IsWordsFault steps words fault → IsFirstFault steps text fault
first_fault steps text words behind faults.BadLine e free h = λ t o first. h t o first.0 (first_words words behind text (in_line t o) e free first).0
first_fault steps text words behind faults.LaterStep e free h =
    (h.0, h.1, (h.2, (behind, e ∙ ap (λ (l : List ℕ). l ++ 10 ∷ behind) h.3 ∙ sym (line_front (written_words (in_line h.0 h.1)) behind))), h.4)
first_fault steps text words behind faults.BadHeader e free h = h
first_fault steps text words behind faults.SameStep e free h = h
first_fault steps text words behind faults.Overlap e free h = h
first_fault steps text words behind faults.TooMany e free h = h
first_fault steps text words behind faults.RecordDiffers e free h = h

-- ---- all lines of a list

pub all_at_index : (P : LineValue → Type 0) (lines : List LineValue) (k : ℕ) (line : LineValue) → AllByRecursion P lines → k < length lines → line ≡ get_or lines k line → P line
all_at_index P [] k line h lt e = absurd (omega arith)
all_at_index P (l ∷ lines) zero line h lt e = subst P (sym e) h.0
all_at_index P (l ∷ lines) (suc k) line h lt e = all_at_index P lines k line h.1 (omega arith) e
