-- What is read tolerantly is what the records say, and what they say is read.
use Rattle.std.proofs.Common.{◌≡◌, ◌≢◌, ℕ, ◌+◌, Bool, true, false, cond, eqb, List, [], ◌∷◌, ◌++◌, Option, Some, None, Result, Ok, Err, refl, sym, ap, subst, ◌∙◌}
use Rattle.std.specs.List.{AllByRecursion}
use Rattle.std.proofs.lemmas.List.{append-nil}
use Rattle.wire.specs.AnySpelling.{IsValueText, SpellsAny}
use Rattle.wire.specs.Bytes.{IsBytes}
use Rattle.wire.specs.Record.{Value, Varint, Eight, Bytes, Four, Record}
use Rattle.wire.specs.Steps.{◌>>=◌}
use Rattle.wire.proofs.AnyRecords.{bytes_front, bytes_back}
use Rattle.wire.proofs.Steps.{bind_ok, ok_is}
use Rattle.canonical.specs.declared.error.CanonError.{CanonError}
use Rattle.canonical.specs.declared.shape.Entry.{Entry}
use Rattle.canonical.specs.Columns.{column}
use Rattle.canonical.specs.Fields.{bytes_at, int64_at, int32_at, bool_at, element_of, elements_of, elements_at}
use Rattle.canonical.specs.Known.{SpellsEach, AreKnown, any_fields_checked}
use Rattle.canonical.specs.Told.{or_told, each}
use Rattle.canonical.proofs.FieldKinds.{int64_at-fits}
use Rattle.canonical.proofs.KnownFields.{known_found, known_only}
use Rattle.canonical.proofs.Sound.{SoundValue, AreSound}
use Rattle.blob_digest.specs.DigestValue.{DigestValue}
use Rattle.messages.specs.declared.error.MessageError.{MessageError}
use Rattle.messages.specs.Told.{told, required}
use Rattle.messages.specs.DigestMessage.{digest_shape, hash_of, size_of, digest_in}
use Rattle.messages.specs.Path.{path_of}
use Rattle.messages.specs.Target.{target_of}
use Rattle.messages.specs.Tolerant.{known_checked, in_occurrences, alone, any_digest}
use Rattle.messages.proofs.DigestCodec.{size_found, size_small}
use Rattle.messages.proofs.Hashes.{hash_found, hash_again}
use Rattle.messages.proofs.Paths.{path_found, path_given}
use Rattle.messages.proofs.Targets.{target_found, target_given}
use Rattle.action_messages.specs.Stream.{StreamValue}
use Rattle.action_messages.specs.OutputFile.{OutputFileValue, output_file_shape}
use Rattle.action_messages.specs.OutputDirectory.{OutputDirectoryValue, output_directory_shape}
use Rattle.action_messages.specs.OutputSymlink.{OutputSymlinkValue, output_symlink_shape}
use Rattle.action_messages.specs.ActionResult.{ActionResultValue, action_result_shape}
use Rattle.action_messages.specs.Nested.{SaysBytes, SaysOne, SaysEach}
use Rattle.action_messages.specs.Reads.{SaysDigest, SaysFile, SaysDirectory, SaysSymlink, SaysStream}
use Rattle.action_messages.specs.Unordered.{any_output_file_in, any_output_file, any_output_directory_in, any_output_directory, any_output_symlink_in, any_output_symlink, any_stream_at, unordered_in, known_fields, unordered}

-- ---- the payloads of what bytes spell

value_sound : (v : Value) (text : List ℕ) → IsValueText v text → IsBytes text → SoundValue v
value_sound (Varint n) text s h = s.fits
value_sound (Eight bytes) text s h = tt
value_sound (Bytes bytes) text s h = (s.counts.fits, bytes_back s.len bytes (subst IsBytes s.parts h))
value_sound (Four bytes) text s h = tt

any_sound : (rs : List Record) (bytes : List ℕ) → SpellsAny bytes rs → IsBytes bytes → AreSound rs
any_sound [] bytes s h = tt
any_sound (r ∷ rs) bytes (text, rest, is, spelled, others) h =
    let both : IsBytes (text ++ rest) = subst IsBytes is h in
    let whole : IsBytes (spelled.tag ++ spelled.payload) = subst IsBytes spelled.parts (bytes_front text rest both) in
    (value_sound r.value spelled.payload spelled.spelled (bytes_back spelled.tag spelled.payload whole), any_sound rs rest others (bytes_back text rest both))

sound_append : (rs ss : List Record) → AreSound rs → AreSound ss → AreSound (rs ++ ss)
sound_append [] ss a b = b
sound_append (r ∷ rs) ss a b = (a.0, sound_append rs ss a.1 b)

each_sound : (texts : List (List ℕ)) (rs : List Record) → SpellsEach texts rs → AllByRecursion IsBytes texts → AreSound rs
each_sound [] rs s h = subst AreSound (sym s) tt
each_sound (text ∷ texts) rs (front, others, is, spelled, rest) h = subst AreSound (sym is) (sound_append front others (any_sound front text spelled h.0) (each_sound texts others rest h.1))

all_append : {A : Type 0} (P : A → Type 0) (xs ys : List A) → AllByRecursion P xs → AllByRecursion P ys → AllByRecursion P (xs ++ ys)
all_append P [] ys a b = b
all_append P (x ∷ xs) ys a b = (a.0, all_append P xs ys a.1 b)

element_bytes : (v : Value) → SoundValue v → AllByRecursion IsBytes (element_of v)
element_bytes (Varint n) s = tt
element_bytes (Eight bytes) s = tt
element_bytes (Bytes bytes) s = (s.1, tt)
element_bytes (Four bytes) s = tt

payloads_bytes : (n : ℕ) (rs : List Record) → AreSound rs → AllByRecursion IsBytes (elements_at n rs)
unfolding elements_at
payloads_bytes n [] s = tt
payloads_bytes n (r ∷ rs) s = by (eqb r.number n) (payloads_bytes n rs s.1)
  where
    by : (b : Bool) → AllByRecursion IsBytes (elements_of (column n rs)) → AllByRecursion IsBytes (elements_of (cond b (r ∷ column n rs) (column n rs)))
    by true rest = all_append IsBytes (element_of r.value) (elements_of (column n rs)) (element_bytes r.value s.0) rest
    by false rest = rest

-- ---- one message

abbrev SaysAll : {A : Type 0} → (A → List Record → Type 0) → A → List (List ℕ) → Type 0
SaysAll Says a texts = (rs : List Record) × SpellsEach texts rs × Says a rs

record Agree {A : Type 0} (reads : List (List ℕ) → Result A MessageError) (Says : A → List Record → Type 0) : Type 0 where
  found : (texts : List (List ℕ)) (a : A) → AllByRecursion IsBytes texts → reads texts ≡ Ok a → SaysAll Says a texts
  only : (texts : List (List ℕ)) (a : A) → AllByRecursion IsBytes texts → SaysAll Says a texts → reads texts ≡ Ok a

or_told_ok : {A E : Type 0} (told : CanonError → E) (r : Result A CanonError) (x : A) → or_told told r ≡ Ok x → r ≡ Ok x
or_told_ok {E = E} told (Ok y) x e = let is : y ≡ x = ok_is {E = E} y x e in ap Ok is
or_told_ok told (Err d) x e = absurd cc

checked_found : (entries : List Entry) (skipped : List ℕ) (texts : List (List ℕ)) (rs : List Record) → AllByRecursion IsBytes texts → known_checked entries skipped texts ≡ Ok rs → SpellsEach texts rs × AreKnown entries skipped rs
checked_found entries skipped texts rs fits e = known_found entries skipped texts rs fits (or_told_ok told (any_fields_checked entries skipped texts) rs e)

checked_only : (entries : List Entry) (skipped : List ℕ) (texts : List (List ℕ)) (rs : List Record) → AllByRecursion IsBytes texts → SpellsEach texts rs → AreKnown entries skipped rs → known_checked entries skipped texts ≡ Ok rs
checked_only entries skipped texts rs fits s k = ap (or_told told) (known_only entries skipped texts rs fits s k)

-- from the records of a message to its texts
agree : {A : Type 0} (entries : List Entry) (skipped : List ℕ) (reads : List Record → Result A MessageError) (Says : A → List Record → Type 0)
    → ((rs : List Record) (a : A) → AreSound rs → AreKnown entries skipped rs → reads rs ≡ Ok a → Says a rs)
    → ((rs : List Record) (a : A) → AreSound rs → Says a rs → AreKnown entries skipped rs × (reads rs ≡ Ok a))
    → Agree (λ texts. known_checked entries skipped texts >>= reads) Says
agree entries skipped reads Says found only = record {
  found = λ texts a fits e.
      let b = bind_ok (known_checked entries skipped texts) reads a e in
      let k = checked_found entries skipped texts b.0 fits b.1 in
      (b.0, k.0, found b.0 a (each_sound texts b.0 k.0 fits) k.1 b.2);
  only = λ texts a fits said.
      let k = only said.0 a (each_sound texts said.0 said.1 fits) said.2 in
      ap (λ (r : Result (List Record) MessageError). r >>= reads) (checked_only entries skipped texts said.0 fits said.1 k.0) ∙ k.1;
}

-- ---- messages in messages

one_found : {A : Type 0} (reads : List (List ℕ) → Result A MessageError) (Says : A → List Record → Type 0) → Agree reads Says → (texts : List (List ℕ)) (o : Option A) → AllByRecursion IsBytes texts → in_occurrences reads texts ≡ Ok o → SaysOne Says o texts
one_found reads Says is [] o fits e = subst (λ x. SaysOne Says x []) (ok_is {E = MessageError} None o e) refl
one_found reads Says is (text ∷ texts) o fits e =
    let b = bind_ok (reads (text ∷ texts)) (λ x. Ok (Some x)) o e in
    let none : ◌≢◌ {A = List (List ℕ)} (text ∷ texts) [] = λ h. cc in
    subst (λ x. SaysOne Says x (text ∷ texts)) (ok_is {E = MessageError} (Some b.0) o b.2) (none, is.found (text ∷ texts) b.0 fits b.1)

one_only : {A : Type 0} (reads : List (List ℕ) → Result A MessageError) (Says : A → List Record → Type 0) → Agree reads Says → (texts : List (List ℕ)) (o : Option A) → AllByRecursion IsBytes texts → SaysOne Says o texts → in_occurrences reads texts ≡ Ok o
one_only reads Says is [] None fits s = refl
one_only reads Says is (text ∷ texts) None fits s = absurd cc
one_only reads Says is [] (Some a) fits s = absurd (s.0 refl)
one_only reads Says is (text ∷ texts) (Some a) fits s = rw (is.only (text ∷ texts) a fits s.1) refl

alone_says : {A : Type 0} (Says : A → List Record → Type 0) (a : A) (text : List ℕ) → SaysAll Says a (text ∷ []) → SaysBytes Says a text
alone_says Says a text (rs, (front, others, is, spelled, none), said) =
    let whole : rs ≡ front = is ∙ ap (λ (l : List Record). front ++ l) none ∙ append-nil front in
    (front, spelled, subst (Says a) whole said)

says_alone : {A : Type 0} (Says : A → List Record → Type 0) (a : A) (text : List ℕ) → SaysBytes Says a text → SaysAll Says a (text ∷ [])
says_alone Says a text (rs, spelled, said) = (rs, (rs, [], sym (append-nil rs), spelled, refl), said)

each_found : {A : Type 0} (reads : List (List ℕ) → Result A MessageError) (Says : A → List Record → Type 0) → Agree reads Says → (xs : List (List ℕ)) (ys : List A) → AllByRecursion IsBytes xs → each (alone reads) xs ≡ Ok ys → SaysEach Says ys xs
each_found reads Says is [] ys fits e = subst (λ l. SaysEach Says l []) (ok_is {E = MessageError} [] ys e) tt
each_found reads Says is (x ∷ xs) ys fits e =
    let a = bind_ok (reads (x ∷ [])) (λ y. each (alone reads) xs >>= λ l. Ok (y ∷ l)) ys e in
    let b = bind_ok (each (alone reads) xs) (λ l. Ok (a.0 ∷ l)) ys a.2 in
    subst (λ l. SaysEach Says l (x ∷ xs)) (ok_is {E = MessageError} (a.0 ∷ b.0) ys b.2) (alone_says Says a.0 x (is.found (x ∷ []) a.0 (fits.0, tt) a.1), each_found reads Says is xs b.0 fits.1 b.1)

each_only : {A : Type 0} (reads : List (List ℕ) → Result A MessageError) (Says : A → List Record → Type 0) → Agree reads Says → (xs : List (List ℕ)) (ys : List A) → AllByRecursion IsBytes xs → SaysEach Says ys xs → each (alone reads) xs ≡ Ok ys
each_only reads Says is [] [] fits s = refl
each_only reads Says is [] (y ∷ ys) fits s = absurd s
each_only reads Says is (x ∷ xs) [] fits s = absurd s
each_only reads Says is (x ∷ xs) (y ∷ ys) fits s = rw (is.only (x ∷ []) y (fits.0, tt) (says_alone Says y x s.0), each_only reads Says is xs ys fits.1 s.1) refl

required_some : {X : Type 0} (n : ℕ) (o : Option X) (x : X) → required n o ≡ Ok x → o ≡ Some x
required_some n None x e = absurd cc
required_some n (Some y) x e = let same : y ≡ x = ok_is {E = MessageError} y x e in ap Some same

-- ---- the messages

digest_agrees : Agree any_digest SaysDigest
unfolding any_digest
digest_agrees = agree digest_shape [] digest_in SaysDigest
    (λ rs d s k e.
    let a = bind_ok (hash_of (bytes_at 1 rs)) _ d e in
    let g = bind_ok (size_of (int64_at 2 rs)) (λ size. Ok (record { hash = a.0; size = size })) d a.2 in
    let h = hash_found (bytes_at 1 rs) a.0 a.1 in
    let z = size_found (int64_at 2 rs) g.0 g.1 in
    let small = size_small (int64_at 2 rs) g.0 (int64_at-fits 2 rs s) z in
    let made : DigestValue = record { hash = a.0; size = g.0 } in
    let said : SaysDigest made rs = record { known = k; hash = h.1; size = z; valid = record { hash = h.0; size = small } } in
    subst (λ (x : DigestValue). SaysDigest x rs) (ok_is {E = MessageError} made d g.2) said)
    (λ rs d s said. (said.known, rw (said.hash, hash_again d.hash said.valid.hash, said.size) refl))

file_agrees : Agree any_output_file SaysFile
unfolding any_output_file
file_agrees = agree output_file_shape [] any_output_file_in SaysFile
    (λ rs f s k e.
    let a = bind_ok (in_occurrences any_digest (elements_at 2 rs)) _ f e in
    let d = bind_ok (required 2 a.0) _ f a.2 in
    let p = bind_ok (path_of (bytes_at 1 rs)) _ f d.2 in
    let path = path_found (bytes_at 1 rs) p.0 p.1 in
    let digest = subst (λ x. SaysOne SaysDigest x (elements_at 2 rs)) (required_some 2 a.0 d.0 d.1) (one_found any_digest SaysDigest digest_agrees (elements_at 2 rs) a.0 (payloads_bytes 2 rs s) a.1) in
    let made : OutputFileValue = record { path = p.0; digest = d.0; executable = bool_at 4 rs } in
    let said : SaysFile made rs = record { known = k; path = path.1; digest = digest; executable = refl; valid = record { path = path.0; digest = digest.1.2.valid } } in
    subst (λ (x : OutputFileValue). SaysFile x rs) (ok_is {E = MessageError} made f p.2) said)
    (λ rs f s said. (said.known, rw (one_only any_digest SaysDigest digest_agrees (elements_at 2 rs) (Some f.digest) (payloads_bytes 2 rs s) said.digest, said.path, path_given f.path said.valid.path, said.executable) refl))

directory_agrees : Agree any_output_directory SaysDirectory
unfolding any_output_directory
directory_agrees = agree output_directory_shape (4 ∷ []) any_output_directory_in SaysDirectory
    (λ rs f s k e.
    let a = bind_ok (in_occurrences any_digest (elements_at 3 rs)) _ f e in
    let d = bind_ok (required 3 a.0) _ f a.2 in
    let p = bind_ok (path_of (bytes_at 1 rs)) _ f d.2 in
    let path = path_found (bytes_at 1 rs) p.0 p.1 in
    let digest = subst (λ x. SaysOne SaysDigest x (elements_at 3 rs)) (required_some 3 a.0 d.0 d.1) (one_found any_digest SaysDigest digest_agrees (elements_at 3 rs) a.0 (payloads_bytes 3 rs s) a.1) in
    let made : OutputDirectoryValue = record { path = p.0; tree = d.0 } in
    let said : SaysDirectory made rs = record { known = k; path = path.1; tree = digest; valid = record { path = path.0; tree = digest.1.2.valid } } in
    subst (λ (x : OutputDirectoryValue). SaysDirectory x rs) (ok_is {E = MessageError} made f p.2) said)
    (λ rs f s said. (said.known, rw (one_only any_digest SaysDigest digest_agrees (elements_at 3 rs) (Some f.tree) (payloads_bytes 3 rs s) said.tree, said.path, path_given f.path said.valid.path) refl))

symlink_agrees : Agree any_output_symlink SaysSymlink
unfolding any_output_symlink
symlink_agrees = agree output_symlink_shape [] any_output_symlink_in SaysSymlink
    (λ rs f s k e.
    let p = bind_ok (path_of (bytes_at 1 rs)) _ f e in
    let t = bind_ok (target_of (bytes_at 2 rs)) _ f p.2 in
    let path = path_found (bytes_at 1 rs) p.0 p.1 in
    let target = target_found (bytes_at 2 rs) t.0 t.1 in
    let made : OutputSymlinkValue = record { path = p.0; target = t.0 } in
    let said : SaysSymlink made rs = record { known = k; path = path.1; target = target.0; valid = record { path = path.0; target = target.1 } } in
    subst (λ (x : OutputSymlinkValue). SaysSymlink x rs) (ok_is {E = MessageError} made f t.2) said)
    (λ rs f s said. (said.known, rw (said.path, path_given f.path said.valid.path, said.target, target_given f.target said.valid.target) refl))

stream_found : (n : ℕ) (rs : List Record) (x : StreamValue) → AreSound rs → any_stream_at n rs ≡ Ok x → SaysStream n x rs
unfolding any_stream_at
stream_found n rs x s e =
    let d = bind_ok (in_occurrences any_digest (elements_at (n + 1) rs)) (λ digest. Ok (record { raw = bytes_at n rs; digest = digest })) x e in
    let made : StreamValue = record { raw = bytes_at n rs; digest = d.0 } in
    let said : SaysStream n made rs = record { raw = refl; digest = one_found any_digest SaysDigest digest_agrees (elements_at (n + 1) rs) d.0 (payloads_bytes (n + 1) rs s) d.1 } in
    subst (λ (y : StreamValue). SaysStream n y rs) (ok_is {E = MessageError} made x d.2) said

stream_only : (n : ℕ) (rs : List Record) (x : StreamValue) → AreSound rs → SaysStream n x rs → any_stream_at n rs ≡ Ok x
unfolding any_stream_at
stream_only n rs x s said = rw (one_only any_digest SaysDigest digest_agrees (elements_at (n + 1) rs) x.digest (payloads_bytes (n + 1) rs s) said.digest, said.raw) refl

-- ---- the result, its outputs in the order of the bytes

pub record SaysUnordered (u : ActionResultValue) (rs : List Record) : Type 0 where
  pub known : AreKnown action_result_shape (9 ∷ []) rs
  pub files : SaysEach SaysFile u.files (elements_at 2 rs)
  pub directories : SaysEach SaysDirectory u.directories (elements_at 3 rs)
  pub exit_code : int32_at 4 rs ≡ u.exit_code
  pub stdout : SaysStream 5 u.stdout rs
  pub stderr : SaysStream 7 u.stderr rs
  pub symlinks : SaysEach SaysSymlink u.symlinks (elements_at 12 rs)

in_found : (rs : List Record) (u : ActionResultValue) → AreSound rs → AreKnown action_result_shape (9 ∷ []) rs → unordered_in rs ≡ Ok u → SaysUnordered u rs
unfolding unordered_in
in_found rs u s k e =
    let f = bind_ok (each (alone any_output_file) (elements_at 2 rs)) _ u e in
    let d = bind_ok (each (alone any_output_directory) (elements_at 3 rs)) _ u f.2 in
    let o = bind_ok (any_stream_at 5 rs) _ u d.2 in
    let p = bind_ok (any_stream_at 7 rs) _ u o.2 in
    let l = bind_ok (each (alone any_output_symlink) (elements_at 12 rs)) _ u p.2 in
    let made : ActionResultValue = record { files = f.0; directories = d.0; symlinks = l.0; exit_code = int32_at 4 rs; stdout = o.0; stderr = p.0 } in
    let said : SaysUnordered made rs = record {
      known = k;
      files = each_found any_output_file SaysFile file_agrees (elements_at 2 rs) f.0 (payloads_bytes 2 rs s) f.1;
      directories = each_found any_output_directory SaysDirectory directory_agrees (elements_at 3 rs) d.0 (payloads_bytes 3 rs s) d.1;
      exit_code = refl;
      stdout = stream_found 5 rs o.0 s o.1;
      stderr = stream_found 7 rs p.0 s p.1;
      symlinks = each_found any_output_symlink SaysSymlink symlink_agrees (elements_at 12 rs) l.0 (payloads_bytes 12 rs s) l.1;
    } in
    subst (λ (x : ActionResultValue). SaysUnordered x rs) (ok_is {E = MessageError} made u l.2) said

in_only : (rs : List Record) (u : ActionResultValue) → AreSound rs → SaysUnordered u rs → unordered_in rs ≡ Ok u
unfolding unordered_in
in_only rs u s said =
    rw (
      each_only any_output_file SaysFile file_agrees (elements_at 2 rs) u.files (payloads_bytes 2 rs s) said.files,
      each_only any_output_directory SaysDirectory directory_agrees (elements_at 3 rs) u.directories (payloads_bytes 3 rs s) said.directories,
      stream_only 5 rs u.stdout s said.stdout,
      stream_only 7 rs u.stderr s said.stderr,
      each_only any_output_symlink SaysSymlink symlink_agrees (elements_at 12 rs) u.symlinks (payloads_bytes 12 rs s) said.symlinks,
      said.exit_code,
    ) refl

pub unordered_read : (bytes : List ℕ) (rs : List Record) (u : ActionResultValue) → known_fields bytes ≡ Ok rs → unordered_in rs ≡ Ok u → unordered bytes ≡ Ok u
unfolding unordered
unordered_read bytes rs u known read = ap (λ (r : Result (List Record) MessageError). r >>= unordered_in) known ∙ read

pub unordered_found : (bytes : List ℕ) (u : ActionResultValue) → IsBytes bytes → unordered bytes ≡ Ok u → SaysBytes SaysUnordered u bytes
unfolding unordered
unordered_found bytes u fits e =
    let b = bind_ok (known_fields bytes) unordered_in u e in
    let k = checked_found action_result_shape (9 ∷ []) (bytes ∷ []) b.0 (fits, tt) b.1 in
    alone_says SaysUnordered u bytes (b.0, k.0, in_found b.0 u (each_sound (bytes ∷ []) b.0 k.0 (fits, tt)) k.1 b.2)

pub unordered_only : (bytes : List ℕ) (u : ActionResultValue) → IsBytes bytes → SaysBytes SaysUnordered u bytes → unordered bytes ≡ Ok u
unordered_only bytes u fits (rs, spelled, said) =
    let one : SpellsEach (bytes ∷ []) rs = (rs, [], sym (append-nil rs), spelled, refl) in
    unordered_read bytes rs u (checked_only action_result_shape (9 ∷ []) (bytes ∷ []) rs (fits, tt) one said.known) (in_only rs u (any_sound rs bytes spelled fits) said)
