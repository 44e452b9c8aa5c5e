-- Texts that are written in pieces.
use Rattle.std.proofs.Common.{◌≡◌, ◌⊎◌, ℕ, ◌<◌, ◌-◌, List, [], ◌∷◌, ◌++◌, ◌∙◌, length, sym, ap, subst, refl, take, drop, take-append-drop, append_assoc, length-append, length-drop, Result, Ok, Err, OnOk, OnErr, arith}
use Rattle.std.specs.List.{Contains}
use Rattle.std.proofs.lemmas.List.{append-nil}
use Rattle.std.proofs.lemmas.List.Elements.{Contains-append_left}
use Rattle.report.specs.Line.{HasNoNewline}
use Rattle.std.proofs.Math.Seq.{drop-append_seam, take-append_seam, take-length}
use Rattle.std.specs.Fmt.{debug_str}
use Rattle.std.specs.Prelude.{IfSome, None, Option, Some, false, string_bytes, true}
use Rattle.std.specs.Io.KnownBytes.{Appends, Keeps}
use Rattle.std.proofs.KnownBytes.{Appends-nil, Appends-trans, Appends-kept}
use Rattle.blob_digest.specs.Text.{digest_text}
use Rattle.messages.specs.declared.node.Node.TheVariants.{Dir, File, Link}
use Rattle.plan.specs.Escape.{escaped_path}
use Rattle.tree.specs.Form.{NodeValue}
use Rattle.tree.specs.Mismatch.{MismatchValue, mismatch_value}
use Rattle.commands.specs.ErrorText.{IsErrorText}
use Rattle.commands.specs.MismatchText.{IsFolderText, IsMadeText, IsMismatchText, IsNodeText}
use Rattle.commands.specs.Told.{AppendsBeginning, AppendsPart, AppendsUpTo, IsNoteText, PrintsNoLine, TellsNote, TellsOf, line_after, no_blob_text}
use Rattle.commands.specs.declared.ended.Note.{Note}
use Rattle.commands.specs.declared.ended.Note.TheVariants.{Differs, NoBlob, NoStore, Refused}
use Rattle.commands.specs.declared.error.CommandError.{CommandError}
use Rattle.commands.specs.declared.error.CommandError.TheVariants.{Memory}
use Rattle.std.specs.Prelude.{codes}

-- nothing is appended yet
pub up_to_nothing : (a : Option (List ℕ)) (text : List ℕ) → AppendsUpTo a a text text
up_to_nothing a text = record { beginning = []; cut = refl; appended = Appends-nil a }

-- what a slice from n on has
slice_from : (xs : List ℕ) (n : ℕ) → take (length xs - n) (drop n xs) ≡ drop n xs
slice_from xs n = ap (λ k. take k (drop n xs)) (sym (length-drop n xs)) ∙ take-length (drop n xs)

-- some bytes of the rest are appended
pub up_to_more : (old mid new : Option (List ℕ)) (text rest : List ℕ) (n : ℕ) → AppendsUpTo old mid text rest
    → Appends mid new (take n rest) → AppendsUpTo old new text (take (length rest - n) (drop n rest))
up_to_more old mid new text rest n h more = subst (AppendsUpTo old new text) (sym (slice_from rest n)) (record {
  beginning = h.beginning ++ take n rest;
  cut = h.cut ∙ ap (λ l. h.beginning ++ l) (sym (take-append-drop n rest)) ∙ sym (append_assoc h.beginning (take n rest) (drop n rest));
  appended = Appends-trans old mid new h.beginning (take n rest) h.appended more;
})

-- what is written stays
pub up_to_kept : (old mid new : Option (List ℕ)) (text rest : List ℕ) → AppendsUpTo old mid text rest
    → Keeps mid new → AppendsUpTo old new text rest
up_to_kept old mid new text rest h same =
    record { beginning = h.beginning; cut = h.cut; appended = Appends-kept old mid new h.beginning h.appended same }

-- what a call appended: all, or a part
pub beginning_of_all : (old new : Option (List ℕ)) (text : List ℕ) → Appends old new text → AppendsBeginning old new text
beginning_of_all old new text h =
    record { rest = []; up_to = record { beginning = text; cut = sym (append-nil text); appended = h } }

pub beginning_of_part : (old new : Option (List ℕ)) (text : List ℕ) → AppendsPart old new text → AppendsBeginning old new text
beginning_of_part old new text h = record { rest = h.rest; up_to = h.up_to }

pub beginning_of : {E : Type 0} (old new : Option (List ℕ)) (text : List ℕ) (result : Result (Unit {0}) E) → OnOk result (Appends old new text)
    → OnErr result (AppendsPart old new text) → AppendsBeginning old new text
beginning_of old new text (Ok x) all part = beginning_of_all old new text all
beginning_of old new text (Err e) all part = beginning_of_part old new text part

-- of a text in two pieces: a beginning of the first, or the first and a part of the second
pub beginning_of_front : (old new : Option (List ℕ)) (front back text : List ℕ) → text ≡ front ++ back → AppendsBeginning old new front → AppendsBeginning old new text
beginning_of_front old new front back text e h = record {
  rest = h.rest ++ back;
  up_to = record {
    beginning = h.up_to.beginning;
    cut = e ∙ ap (λ l. l ++ back) h.up_to.cut ∙ append_assoc h.up_to.beginning h.rest back;
    appended = h.up_to.appended;
  };
}

pub beginning_on : (old mid new : Option (List ℕ)) (front back text : List ℕ) → text ≡ front ++ back → Appends old mid front → AppendsBeginning mid new back → AppendsBeginning old new text
beginning_on old mid new front back text e h more = record {
  rest = more.rest;
  up_to = record {
    beginning = front ++ more.up_to.beginning;
    cut = e ∙ ap (λ l. front ++ l) more.up_to.cut ∙ sym (append_assoc front more.up_to.beginning more.rest);
    appended = Appends-trans old mid new front more.up_to.beginning h more.up_to.appended;
  };
}

pub beginning_of_back : (old mid new : Option (List ℕ)) (front back text : List ℕ) → text ≡ front ++ back → Appends old mid front → AppendsPart mid new back → AppendsBeginning old new text
beginning_of_back old mid new front back text e h part = beginning_on old mid new front back text e h (beginning_of_part mid new back part)

-- of a text without a newline only what has none is appended
pub no_line_of_part : (old new : Option (List ℕ)) (text : List ℕ) → HasNoNewline text → AppendsPart old new text → PrintsNoLine old new
no_line_of_part old new text none h = record {
  text = h.up_to.beginning;
  unbroken = λ has. none (subst (λ l. Contains l 10) (sym h.up_to.cut) (Contains-append_left h.up_to.beginning h.rest 10 has));
  printed = h.up_to.appended;
}

pub no_line_of_all : (old new : Option (List ℕ)) (text : List ℕ) → HasNoNewline text → Appends old new text → PrintsNoLine old new
no_line_of_all old new text none h = record { text = text; unbroken = none; printed = h }

-- a part of a newline is nothing
part_of_newline : (beginning rest : List ℕ) → 10 ∷ [] ≡ beginning ++ rest → 0 < length rest → beginning ≡ []
part_of_newline [] rest e some = refl
part_of_newline (b ∷ []) [] e some = absurd (omega (arith, some))
part_of_newline (b ∷ []) (r ∷ rest) e some = let short = ap length e in absurd (omega (arith, short))
part_of_newline (b ∷ c ∷ beginning) rest e some = let short = ap length e in absurd (omega (arith, short))

pub no_line_of_newline : (old mid new : Option (List ℕ)) (text : List ℕ) → HasNoNewline text → Appends old mid text
    → AppendsPart mid new (10 ∷ []) → PrintsNoLine old new
no_line_of_newline old mid new text none h part =
    let nothing : part.up_to.beginning ≡ [] = part_of_newline part.up_to.beginning part.rest part.up_to.cut part.some in
    let same : Appends mid new [] = subst (Appends mid new) nothing part.up_to.appended in
    record {
      text = text ++ [];
      unbroken = subst HasNoNewline (sym (append-nil text)) none;
      printed = Appends-trans old mid new text [] h same;
    }

pub beginning_kept : (old mid new : Option (List ℕ)) (text : List ℕ) → AppendsBeginning old mid text → Keeps mid new → AppendsBeginning old new text
beginning_kept old mid new text h same = record { rest = h.rest; up_to = up_to_kept old mid new text h.rest h.up_to same }

none_in_nothing : HasNoNewline []
none_in_nothing (k, lt, e) = omega arith

-- a line was told up to here, and what is written stays
pub tells_by : (error : CommandError) (old mid new : Option (List ℕ)) (text line : List ℕ) → IsErrorText error text ⊎ IsErrorText Memory text
    → line ≡ line_after (codes "error: ") text → AppendsBeginning old mid line → Keeps mid new → TellsOf error old new
tells_by error old mid new text line words is begun same =
    record { text = text; is = words; appended = beginning_kept old mid new (line_after (codes "error: ") text) (subst (AppendsBeginning old mid) is begun) same }

pub note_by : (note : Note) (old mid new : Option (List ℕ)) (text line : List ℕ) → IsNoteText note text → line ≡ line_after (codes "note: ") text
    → AppendsBeginning old mid line → Keeps mid new → TellsNote note old new
note_by note old mid new text line words is begun same =
    record { text = text; is = words; appended = beginning_kept old mid new (line_after (codes "note: ") text) (subst (AppendsBeginning old mid) is begun) same }

quoted_words : (quoted : Option (List ℕ)) (after : List ℕ) → (text : List ℕ) × ((shown : List ℕ) × IfSome quoted (λ q. shown ≡ q) × (text ≡ shown ++ after))
quoted_words (Some q) after = (q ++ after, (q, refl, refl))
quoted_words None after = (after, ([], tt, refl))

words_of_node : (x : NodeValue) → (text : List ℕ) × IsNodeText x text
words_of_node (File d false) = (digest_text d, refl)
words_of_node (File d true) = (digest_text d ++ codes " (executable)", refl)
words_of_node (Link target) = by (debug_str target) refl
  where
    by : (quoted : Option (List ℕ)) → debug_str target ≡ quoted → (text : List ℕ) × IsNodeText (Link target) text
    by (Some q) is = (codes "a link to " ++ q, (q, subst (λ o. IfSome o (λ shown. q ≡ shown)) (sym is) refl, refl))
    by None is = (codes "a link to " ++ [], ([], subst (λ o. IfSome o (λ shown. [] ≡ shown)) (sym is) tt, refl))
words_of_node (Dir d) = (codes "the directory " ++ digest_text d, refl)

words_of_made : (o : Option NodeValue) → (text : List ℕ) × IsMadeText o text
words_of_made None = (codes "no build makes anything there", refl)
words_of_made (Some x) = let node = words_of_node x in (codes "every build makes " ++ node.0, (node.0, node.1, refl))

words_of_folder : (o : Option NodeValue) → (text : List ℕ) × IsFolderText o text
words_of_folder None = (codes "the folder has nothing there", refl)
words_of_folder (Some x) = let node = words_of_node x in (codes "the folder has " ++ node.0, (node.0, node.1, refl))

words_of_mismatch : (x : MismatchValue) → (text : List ℕ) × IsMismatchText x text
words_of_mismatch x =
    let made = words_of_made x.here in
    let there = words_of_folder x.there in
    (escaped_path x.path ++ (codes ": " ++ (made.0 ++ (codes ", " ++ there.0))), record { made = made.0; is_made = made.1; there = there.0; is_there = there.1; is = refl })

words_of_note : (note : Note) → (text : List ℕ) × IsNoteText note text
words_of_note (NoBlob server digest) = (no_blob_text (string_bytes server) digest, refl)
words_of_note (NoStore path) = quoted_words (debug_str (string_bytes path)) (codes ": there is no such folder, so what is missing from it says nothing about the build")
words_of_note (Differs x) = words_of_mismatch (mismatch_value x)
words_of_note (Refused why) = (string_bytes why, refl)

-- nothing is told of the line of a note
pub no_note_by : (note : Note) (a : Option (List ℕ)) → TellsNote note a a
no_note_by note a =
    let words = words_of_note note in
    let line = line_after (codes "note: ") words.0 in
    record { text = words.0; is = words.1; appended = record { rest = line; up_to = up_to_nothing a line } }

-- the two parts of a line: its text, and the newline
pub front_of_line : (text line : List ℕ) (n : ℕ) → line ≡ text ++ 10 ∷ [] → n ≡ length line - 1 → take n line ≡ text
front_of_line text line n e count =
    let long = ap length e ∙ length-append text (10 ∷ []) in
    let all : n ≡ length text = omega (arith, count, long) in
    rw (all, e) (take-append_seam text (10 ∷ []))

pub back_of_line : (text line : List ℕ) (n : ℕ) → line ≡ text ++ 10 ∷ [] → n ≡ length line - 1 → drop n line ≡ 10 ∷ []
back_of_line text line n e count =
    let long = ap length e ∙ length-append text (10 ∷ []) in
    let all : n ≡ length text = omega (arith, count, long) in
    rw (all, e) (drop-append_seam text (10 ∷ []))

pub where_err : {P T E : Type 0} (result : Result T E) → P → OnErr result P
where_err (Ok x) holds = tt
where_err (Err e) holds = holds

-- The newline is written last: with it the line is whole, and without it no line is.
pub no_line_at_end : {T E : Type 0} (result : Result T E) (old mid new : Option (List ℕ)) (text : List ℕ) → HasNoNewline text
    → Appends old mid text → OnErr result (AppendsPart mid new (10 ∷ [])) → OnErr result (PrintsNoLine old new)
no_line_at_end (Ok x) old mid new text none h part = tt
no_line_at_end (Err e) old mid new text none h part = no_line_of_newline old mid new text none h part

pub line_at_end : {T E : Type 0} (result : Result T E) (old mid new : Option (List ℕ)) (text line : List ℕ) → line ≡ text ++ 10 ∷ []
    → Appends old mid text → OnOk result (Appends mid new (10 ∷ [])) → OnOk result (Appends old new line)
line_at_end (Ok x) old mid new text line e h all = subst (Appends old new) (sym e) (Appends-trans old mid new text (10 ∷ []) h all)
line_at_end (Err x) old mid new text line e h all = tt

pub no_line_of_same : (old new : Option (List ℕ)) → new ≡ old → PrintsNoLine old new
no_line_of_same old new same = record {
  text = [];
  unbroken = none_in_nothing;
  printed = subst (λ x. Appends old x []) (sym same) (Appends-nil old);
}
