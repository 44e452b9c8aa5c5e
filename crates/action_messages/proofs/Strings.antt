-- Strings and paths that stand in a message.
use Rattle.std.proofs.Common.{◌≡◌, ℕ, true, List, [], ◌∷◌, map, Option, Some, None, Result, Ok, Err, refl, sym, ap, subst, ◌∙◌}
use Rattle.std.specs.Str.{IsUtf8, is_utf8}
use Rattle.std.specs.Prelude.{String}
use Rattle.std.specs.String.{string_bytes}
use Rattle.std.specs.List.{AllByRecursion}
use Rattle.std.proofs.lemmas.Str.{is_utf8-from_IsUtf8, IsUtf8-string_bytes}
use Rattle.wire.specs.Record.{Record}
use Rattle.wire.proofs.Steps.{ok_is}
use Rattle.canonical.specs.declared.error.CanonError.{CanonError}
use Rattle.canonical.specs.declared.error.CanonError.TheVariants.{BadUtf8}
use Rattle.canonical.specs.Codec.{IsCodec}
use Rattle.canonical.specs.Fields.{bytes_field, bytes_at, string_at}
use Rattle.canonical.specs.Columns.{column}
use Rattle.canonical.specs.Told.{or_told}
use Rattle.canonical.proofs.FieldKinds.{string_found, string_again}
use Rattle.messages.specs.declared.error.MessageError.{MessageError}
use Rattle.messages.specs.declared.error.MessageError.TheVariants.{Wire}
use Rattle.messages.specs.Told.{told, required}
use Rattle.messages.specs.Path.{IsPath, path_of, path_text}
use Rattle.messages.proofs.Choices.{chosen_ok}
use Rattle.messages.proofs.Names.{utf8_test}
use Rattle.messages.proofs.Paths.{path_given, path_found, text_utf8}
use Rattle.action_messages.specs.Fields.{text_at, string_of}

-- a text of UTF-8
abbrev pub IsString : List ℕ → Type 0
IsString text = is_utf8 text ≡ true

-- what a `String` holds
pub string_utf8 : {Z : Type 0} (s : String Z) → is_utf8 (string_bytes s) ≡ true
string_utf8 s = is_utf8-from_IsUtf8 (string_bytes s) (IsUtf8-string_bytes s)

pub strings_utf8 : {Z : Type 0} (ss : List (String Z)) → AllByRecursion IsString (map string_bytes ss)
strings_utf8 [] = tt
strings_utf8 (s ∷ ss) = (string_utf8 s, strings_utf8 ss)

-- ---- an element that is a string

pub string_given : (text : List ℕ) → is_utf8 text ≡ true → string_of text ≡ Ok text
string_given text u = rw u refl

pub string_refused : (text : List ℕ) → (IsUtf8 text → ⊥) → string_of text ≡ Err (Wire BadUtf8)
string_refused text isnt = let u = utf8_test text isnt in rw u refl

same : List ℕ → List ℕ
same text = text

pub string_codec : IsCodec string_of (λ text. text) IsString
string_codec = record {
  found = λ bytes text fits e.
      let c = chosen_ok (is_utf8 bytes) bytes (Wire BadUtf8) text e in
      (subst IsString c.1 c.0, c.1);
  only = λ bytes text sized u e. subst (λ (x : List ℕ). string_of x ≡ Ok text) (sym e) (string_given text u);
}

pub path_codec : IsCodec path_of path_text IsPath
path_codec = record {
  found = λ bytes path fits e. path_found bytes path e;
  only = λ bytes path sized is e. ap path_of e ∙ path_given path is;
}

pub map-same : {X : Type 0} (xs : List X) → map (λ x. x) xs ≡ xs
map-same [] = refl
map-same {X} (x ∷ xs) = ap (λ (l : List X). x ∷ l) (map-same xs)

pub path_utf8 : (path : List (List ℕ)) → IsPath path → is_utf8 (path_text path) ≡ true
path_utf8 path h = is_utf8-from_IsUtf8 (path_text path) (text_utf8 path h.each)

pub paths_utf8 : (paths : List (List (List ℕ))) → AllByRecursion IsPath paths → AllByRecursion IsString (map path_text paths)
paths_utf8 [] h = tt
paths_utf8 (path ∷ paths) h = (path_utf8 path h.0, paths_utf8 paths h.1)

-- ---- a single field that is a string

told_ok : {A : Type 0} (r : Result A CanonError) (x : A) → or_told told r ≡ Ok x → r ≡ Ok x
told_ok (Ok y) x e = let is : y ≡ x = ok_is {E = MessageError} y x e in ap Ok is
told_ok (Err d) x e = absurd cc

pub text_found : (n : ℕ) (rs : List Record) (text : List ℕ) → text_at n rs ≡ Ok text → (bytes_at n rs ≡ text) × (is_utf8 text ≡ true)
text_found n rs text e = string_found n rs text (told_ok (string_at n rs) text e)

pub text_again : (n : ℕ) (rs : List Record) (text : List ℕ) → column n rs ≡ bytes_field n text → is_utf8 text ≡ true → text_at n rs ≡ Ok text
text_again n rs text e u = ap (or_told told) (string_again n rs text e u)

-- ---- a field that has to be there

pub required_found : {X : Type 0} (n : ℕ) (o : Option X) (x : X) → required n o ≡ Ok x → o ≡ Some x
required_found n None x e = absurd cc
required_found n (Some y) x e = let is : y ≡ x = ok_is {E = MessageError} y x e in ap Some is
