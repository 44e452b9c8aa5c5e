-- What a result is written as is read tolerantly, as the result.
use Rattle.std.proofs.Common.{true, ◌≡◌, ◌≢◌, ℕ, ◌+◌, ◌^◌, ◌<◌, List, [], ◌∷◌, ◌++◌, length, map, Option, Some, None, Ok, option_map, refl, sym, ap, subst, ◌∙◌, inr}
use Rattle.std.specs.Prelude.{IfSome, pos}
use Rattle.std.specs.List.{AllByRecursion}
use Rattle.std.proofs.lemmas.List.{append-nil}
use Rattle.std.proofs.lemmas.List.Sorted.{IsPermutation-refl}
use Rattle.hex.specs.Hex.{encode_lower}
use Rattle.wire.specs.Bytes.{IsBytes, AreBytes}
use Rattle.wire.specs.Record.{Record}
use Rattle.wire.specs.Spelling.{spelling}
use Rattle.wire.specs.Reading.{fields_of}
use Rattle.wire.proofs.AnyWritten.{spelled_any}
use Rattle.wire.proofs.Lists.{spelled_fields}
use Rattle.canonical.specs.declared.shape.Entry.{Entry}
use Rattle.canonical.specs.declared.shape.Kind.TheVariants as kinds
use Rattle.canonical.specs.Checking.{kept_if, fields_checked}
use Rattle.canonical.specs.Columns.{column}
use Rattle.canonical.specs.Fields.{bytes_field, bool_field, int_field, message_field, element_fields, elements_at}
use Rattle.canonical.specs.Known.{IsFieldOf, AreKnown}
use Rattle.canonical.specs.Shape.{is_shape, shape_entry}
use Rattle.canonical.proofs.Behind.{all_shaped}
use Rattle.canonical.proofs.Columns.{Part, entries_of, joined, IsShapedBehind, kept_facts}
use Rattle.canonical.proofs.FieldKinds.{bytes_again, bool_again, int32_read, int64_read, elements_again, bytes_is, bool_is, int32_is, message_is, elements_are}
use Rattle.canonical.proofs.Messages.{AreFields, made}
use Rattle.canonical.proofs.Sound.{AreSound, sound, message_sound, elements_sound}
use Rattle.blob_digest.specs.DigestValue.{IsDigest}
use Rattle.messages.specs.DigestMessage.{digest_shape, digest_bytes}
use Rattle.messages.specs.Path.{path_text}
use Rattle.messages.specs.Shapes.{single, repeated}
use Rattle.messages.proofs.DigestCodec.{digest_parts, digest_message, digest_joined, small_fits}
use Rattle.messages.proofs.DirectoryCodec.{no_texts}
use Rattle.action_messages.specs.Nested.{SaysBytes, SaysOne, SaysEach, SaysSorted}
use Rattle.action_messages.specs.Reads.{SaysDigest, SaysFile, SaysDirectory, SaysSymlink, SaysStream, SaysResult, Reads}
use Rattle.action_messages.specs.Stream.{StreamValue, IsStream}
use Rattle.action_messages.specs.OutputFile.{OutputFileValue, IsOutputFile, output_file_shape, output_file_bytes}
use Rattle.action_messages.specs.OutputDirectory.{OutputDirectoryValue, IsOutputDirectory, output_directory_shape, output_directory_bytes}
use Rattle.action_messages.specs.OutputSymlink.{OutputSymlinkValue, IsOutputSymlink, output_symlink_shape, output_symlink_bytes}
use Rattle.action_messages.specs.ActionResult.{ActionResultValue, IsActionResult, action_result_shape, action_result_bytes}
use Rattle.action_messages.proofs.Joins.{of_three, of_eight}
use Rattle.action_messages.proofs.Strings.{path_utf8}

-- ---- the records of a shape are known

field_of : (entries : List Entry) (before : ℕ) (r : Record) (o : Option Entry) → shape_entry r.number entries ≡ o → kept_if before r o ≡ Ok tt → IsFieldOf entries r
field_of entries before r None is e = absurd cc
field_of entries before r (Some entry) is e = let k = kept_facts entry before r e in record { entry = entry; listed = is; wire = k.wire; text = k.text }

all_known : (entries : List Entry) (skipped : List ℕ) (before : ℕ) (rs : List Record) → IsShapedBehind entries before rs → AreKnown entries skipped rs
unfolding IsShapedBehind
all_known entries skipped before [] s = tt
all_known entries skipped before (r ∷ rs) s = (inr (field_of entries before r (shape_entry r.number entries) refl s.0), all_known entries skipped r.number rs s.1)

-- ---- a message

-- what is to be shown of a message's parts
record IsWritten {A : Type 0} (entries : List Entry) (skipped : List ℕ) (parts : A → List Part) (Keeps : A → Type 0) (Says : A → List Record → Type 0) : Type 0 where
  ascends : is_shape entries ≡ true
  shape : (a : A) → Keeps a → (entries_of (parts a) ≡ entries) × AreFields (parts a)
  said : (a : A) (rs : List Record) → Keeps a → AreSound rs → AreKnown entries skipped rs → AllByRecursion (λ p. column p.0.number rs ≡ p.1) (parts a) → Says a rs

-- what is written is said
abbrev AreSaid : {A : Type 0} → (A → List ℕ) → (A → Type 0) → (A → List Record → Type 0) → Type 0
AreSaid {A} text Keeps Says = (bytes : List ℕ) (a : A) → AreBytes bytes → Keeps a → bytes ≡ text a → SaysBytes Says a bytes

written : {A : Type 0} (entries : List Entry) (skipped : List ℕ) (parts : A → List Part) (Keeps : A → Type 0) (Says : A → List Record → Type 0) (text : A → List ℕ)
    → IsWritten entries skipped parts Keeps Says → ((a : A) → spelling (joined (parts a)) ≡ text a) → AreSaid text Keeps Says
written entries skipped parts Keeps Says text is same bytes a sized keeps e =
    let rs = joined (parts a) in
    let whole : bytes ≡ spelling rs = e ∙ sym (same a) in
    let s = is.shape a keeps in
    let m = made (parts a) (subst (λ (es : List Entry). is_shape es ≡ true) (sym s.0) is.ascends) s.1 (subst (λ (x : List ℕ). length x < 2 ^ 64) whole sized.0) in
    let checked : fields_checked entries bytes ≡ Ok rs = subst (λ (es : List Entry). fields_checked es bytes ≡ Ok rs) s.0 (ap (fields_checked (entries_of (parts a))) whole ∙ m.checked) in
    let shaped = all_shaped entries 0 (fields_of bytes) rs checked in
    let spelled = spelled_fields rs bytes sized.1 shaped.0 in
    let sounds = sound rs spelled.0 (subst IsBytes spelled.1 sized.1) in
    (rs, spelled_any bytes rs spelled, is.said a rs keeps sounds (all_known entries skipped 0 rs shaped.1) m.apart)

-- ---- messages in messages

one_written : {A : Type 0} (text : A → List ℕ) (Keeps : A → Type 0) (Says : A → List Record → Type 0) → AreSaid text Keeps Says → (n : ℕ) (rs : List Record) (o : Option A) → AreSound rs → IfSome o Keeps
    → column n rs ≡ message_field n (option_map text o) → SaysOne Says o (elements_at n rs)
one_written text Keeps Says are n rs None s k c = elements_again n rs [] c
one_written text Keeps Says are n rs (Some a) s k c =
    let said = are (text a) a (message_sound n rs (text a) s c) k refl in
    let none : ◌≢◌ {A = List (List ℕ)} (text a ∷ []) [] = λ h. cc in
    subst (SaysOne Says (Some a)) (sym (elements_again n rs (text a ∷ []) c)) (none, (said.0, (said.0, [], sym (append-nil said.0), said.1, refl), said.2))

each_written : {A : Type 0} (text : A → List ℕ) (Keeps : A → Type 0) (Says : A → List Record → Type 0) → AreSaid text Keeps Says → (xs : List A) → AllByRecursion AreBytes (map text xs) → AllByRecursion Keeps xs → SaysEach Says xs (map text xs)
each_written text Keeps Says are [] s k = tt
each_written text Keeps Says are (x ∷ xs) s k = (are (text x) x s.0 k.0 refl, each_written text Keeps Says are xs s.1 k.1)

sorted_written : {A : Type 0} (text : A → List ℕ) (Keeps : A → Type 0) (Says : A → List Record → Type 0) → AreSaid text Keeps Says → (n : ℕ) (rs : List Record) (xs : List A) → AreSound rs → AllByRecursion Keeps xs
    → column n rs ≡ element_fields n (map text xs) → SaysSorted Says xs (elements_at n rs)
sorted_written text Keeps Says are n rs xs s k c = record {
  read = xs;
  each = subst (SaysEach Says xs) (sym (elements_again n rs (map text xs) c)) (each_written text Keeps Says are xs (elements_sound n rs (map text xs) s c) k);
  same = IsPermutation-refl xs;
}

-- ---- the messages

digest_written : AreSaid digest_bytes IsDigest SaysDigest
digest_written = written digest_shape [] digest_parts IsDigest SaysDigest digest_bytes (record {
  ascends = refl;
  shape = digest_message.shape;
  said = λ d rs k s known apart. record {
    known = known;
    hash = bytes_again 1 rs (encode_lower d.hash) apart.0;
    size = int64_read 2 rs (pos d.size) (small_fits d.size k.size) apart.1.0;
    valid = k;
  };
}) digest_joined

abbrev file_parts : OutputFileValue → List Part
file_parts f =
    (single 1 kinds.String, bytes_field 1 (path_text f.path)) ∷
    (single 2 kinds.Message, message_field 2 (Some (digest_bytes f.digest))) ∷
    (single 4 kinds.Bool, bool_field 4 f.executable) ∷
    []

file_written : AreSaid output_file_bytes IsOutputFile SaysFile
unfolding output_file_bytes
file_written = written output_file_shape [] file_parts IsOutputFile SaysFile output_file_bytes (record {
  ascends = refl;
  shape = λ f k. (
    refl,
    (
      bytes_is (single 1 kinds.String) (path_text f.path) refl refl refl (path_utf8 f.path k.path),
      (
        message_is (single 2 kinds.Message) (Some (digest_bytes f.digest)) refl refl,
        (bool_is (single 4 kinds.Bool) f.executable refl refl, tt),
      ),
    ),
  );
  said = λ f rs k s known apart. record {
    known = known;
    path = bytes_again 1 rs (path_text f.path) apart.0;
    digest = one_written digest_bytes IsDigest SaysDigest digest_written 2 rs (Some f.digest) s k.digest apart.1.0;
    executable = bool_again 4 rs f.executable apart.1.1.0;
    valid = k;
  };
}) (λ f. ap spelling (of_three (bytes_field 1 (path_text f.path)) (message_field 2 (Some (digest_bytes f.digest))) (bool_field 4 f.executable)))

abbrev directory_parts : OutputDirectoryValue → List Part
directory_parts d = (single 1 kinds.String, bytes_field 1 (path_text d.path)) ∷ (single 3 kinds.Message, message_field 3 (Some (digest_bytes d.tree))) ∷ []

directory_written : AreSaid output_directory_bytes IsOutputDirectory SaysDirectory
unfolding output_directory_bytes
directory_written = written output_directory_shape (4 ∷ []) directory_parts IsOutputDirectory SaysDirectory output_directory_bytes (record {
  ascends = refl;
  shape = λ d k. (
    refl,
    (
      bytes_is (single 1 kinds.String) (path_text d.path) refl refl refl (path_utf8 d.path k.path),
      (message_is (single 3 kinds.Message) (Some (digest_bytes d.tree)) refl refl, tt),
    ),
  );
  said = λ d rs k s known apart. record {
    known = known;
    path = bytes_again 1 rs (path_text d.path) apart.0;
    tree = one_written digest_bytes IsDigest SaysDigest digest_written 3 rs (Some d.tree) s k.tree apart.1.0;
    valid = k;
  };
}) (λ d. ap spelling (ap (λ (l : List Record). bytes_field 1 (path_text d.path) ++ l) (append-nil (message_field 3 (Some (digest_bytes d.tree))))))

abbrev symlink_parts : OutputSymlinkValue → List Part
symlink_parts l = (single 1 kinds.String, bytes_field 1 (path_text l.path)) ∷ (single 2 kinds.String, bytes_field 2 l.target) ∷ []

symlink_written : AreSaid output_symlink_bytes IsOutputSymlink SaysSymlink
unfolding output_symlink_bytes
symlink_written = written output_symlink_shape [] symlink_parts IsOutputSymlink SaysSymlink output_symlink_bytes (record {
  ascends = refl;
  shape = λ l k. (
    refl,
    (
      bytes_is (single 1 kinds.String) (path_text l.path) refl refl refl (path_utf8 l.path k.path),
      (bytes_is (single 2 kinds.String) l.target refl refl refl k.target.utf8, tt),
    ),
  );
  said = λ l rs k s known apart. record {
    known = known;
    path = bytes_again 1 rs (path_text l.path) apart.0;
    target = bytes_again 2 rs l.target apart.1.0;
    valid = k;
  };
}) (λ l. ap spelling (ap (λ (rs : List Record). bytes_field 1 (path_text l.path) ++ rs) (append-nil (bytes_field 2 l.target))))

-- ---- the result

stream_written : (n : ℕ) (rs : List Record) (s : StreamValue) → AreSound rs → IsStream s → column n rs ≡ bytes_field n s.raw → column (n + 1) rs ≡ message_field (n + 1) (option_map digest_bytes s.digest) → SaysStream n s rs
stream_written n rs s sounds k raw digest = record {
  raw = bytes_again n rs s.raw raw;
  digest = one_written digest_bytes IsDigest SaysDigest digest_written (n + 1) rs s.digest sounds k.digest digest;
}

abbrev result_parts : ActionResultValue → List Part
result_parts r =
    (repeated 2 kinds.Message, element_fields 2 (map output_file_bytes r.files)) ∷
    (repeated 3 kinds.Message, element_fields 3 (map output_directory_bytes r.directories)) ∷
    (single 4 kinds.Int32, int_field 4 r.exit_code) ∷
    (single 5 kinds.Bytes, bytes_field 5 r.stdout.raw) ∷
    (single 6 kinds.Message, message_field 6 (option_map digest_bytes r.stdout.digest)) ∷
    (single 7 kinds.Bytes, bytes_field 7 r.stderr.raw) ∷
    (single 8 kinds.Message, message_field 8 (option_map digest_bytes r.stderr.digest)) ∷
    (repeated 12 kinds.Message, element_fields 12 (map output_symlink_bytes r.symlinks)) ∷
    []

result_written : AreSaid action_result_bytes IsActionResult SaysResult
unfolding action_result_bytes
result_written = written action_result_shape (9 ∷ []) result_parts IsActionResult SaysResult action_result_bytes (record {
  ascends = refl;
  shape = λ r k. (
    refl,
    (
      elements_are (repeated 2 kinds.Message) (map output_file_bytes r.files) refl refl (no_texts (map output_file_bytes r.files)),
      (
        elements_are (repeated 3 kinds.Message) (map output_directory_bytes r.directories) refl refl (no_texts (map output_directory_bytes r.directories)),
        (
          int32_is (single 4 kinds.Int32) r.exit_code refl refl k.exit_code,
          (
            bytes_is (single 5 kinds.Bytes) r.stdout.raw refl refl refl refl,
            (
              message_is (single 6 kinds.Message) (option_map digest_bytes r.stdout.digest) refl refl,
              (
                bytes_is (single 7 kinds.Bytes) r.stderr.raw refl refl refl refl,
                (
                  message_is (single 8 kinds.Message) (option_map digest_bytes r.stderr.digest) refl refl,
                  (elements_are (repeated 12 kinds.Message) (map output_symlink_bytes r.symlinks) refl refl (no_texts (map output_symlink_bytes r.symlinks)), tt),
                ),
              ),
            ),
          ),
        ),
      ),
    ),
  );
  said = λ r rs k s known apart. record {
    known = known;
    files = sorted_written output_file_bytes IsOutputFile SaysFile file_written 2 rs r.files s k.files apart.0;
    directories = sorted_written output_directory_bytes IsOutputDirectory SaysDirectory directory_written 3 rs r.directories s k.directories apart.1.0;
    exit_code = int32_read 4 rs r.exit_code k.exit_code apart.1.1.0;
    stdout = stream_written 5 rs r.stdout s k.stdout apart.1.1.1.0 apart.1.1.1.1.0;
    stderr = stream_written 7 rs r.stderr s k.stderr apart.1.1.1.1.1.0 apart.1.1.1.1.1.1.0;
    symlinks = sorted_written output_symlink_bytes IsOutputSymlink SaysSymlink symlink_written 12 rs r.symlinks s k.symlinks apart.1.1.1.1.1.1.1.0;
    valid = k;
  };
}) (λ r. ap spelling (of_eight (element_fields 2 (map output_file_bytes r.files)) (element_fields 3 (map output_directory_bytes r.directories)) (int_field 4 r.exit_code) (bytes_field 5 r.stdout.raw) (message_field 6 (option_map digest_bytes r.stdout.digest)) (bytes_field 7 r.stderr.raw) (message_field 8 (option_map digest_bytes r.stderr.digest)) (element_fields 12 (map output_symlink_bytes r.symlinks))))

pub canon_reads : (bytes : List ℕ) (m : ActionResultValue) → AreBytes bytes → IsActionResult m → bytes ≡ action_result_bytes m → Reads m bytes
canon_reads = result_written
