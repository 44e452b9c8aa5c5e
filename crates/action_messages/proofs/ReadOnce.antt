-- No bytes are read as two values.
use Rattle.std.proofs.Common.{◌≡◌, ℕ, List, [], ◌∷◌, Option, Some, None, refl, sym, ap, subst, ◌∙◌}
use Rattle.std.specs.Prelude.{pos, IsPermutation}
use Rattle.hex.specs.Hex.{encode_lower}
use Rattle.wire.specs.Record.{Record}
use Rattle.wire.proofs.Steps.{ok_is}
use Rattle.blob_digest.specs.DigestValue.{IsHash}
use Rattle.messages.specs.declared.error.MessageError.{MessageError}
use Rattle.messages.specs.DigestMessage.{hash_of}
use Rattle.messages.specs.Path.{IsPath, path_of, path_text}
use Rattle.messages.proofs.Hashes.{hash_again}
use Rattle.messages.proofs.Paths.{path_given}
use Rattle.action_messages.specs.ActionResult.{ActionResultValue}
use Rattle.canonical.specs.Known.{SpellsEach}
use Rattle.action_messages.specs.Nested.{SaysBytes, SaysOne, SaysEach, SaysSorted}
use Rattle.action_messages.specs.Reads.{SaysDigest, SaysFile, SaysDirectory, SaysSymlink, SaysStream, SaysResult, Reads}
use Rattle.wire.proofs.AnyOnce.{any_once}
use Rattle.action_messages.proofs.EachOnce.{each_once}
use Rattle.action_messages.proofs.SameOrder.{AscendBy, same_order}

-- records say one value
abbrev Once : {A : Type 0} → (A → List Record → Type 0) → Type 0
Once {A} Says = (a b : A) (rs : List Record) → Says a rs → Says b rs → a ≡ b

bytes_once : {A : Type 0} (Says : A → List Record → Type 0) → Once Says → (a b : A) (bytes : List ℕ) → SaysBytes Says a bytes → SaysBytes Says b bytes → a ≡ b
bytes_once Says once a b bytes (rs, spelled, said) (ss, also, same) = once a b rs said (subst (Says b) (sym (any_once bytes rs ss spelled also)) same)

abbrev SaysAll : {A : Type 0} → (A → List Record → Type 0) → A → List (List ℕ) → Type 0
SaysAll Says a payloads = (rs : List Record) × SpellsEach payloads rs × Says a rs

all_once : {A : Type 0} (Says : A → List Record → Type 0) → Once Says → (a b : A) (payloads : List (List ℕ)) → SaysAll Says a payloads → SaysAll Says b payloads → a ≡ b
all_once Says once a b payloads (rs, spelled, said) (ss, also, same) = once a b rs said (subst (Says b) (sym (each_once payloads rs ss spelled also)) same)

one_once : {A : Type 0} (Says : A → List Record → Type 0) → Once Says → (o p : Option A) (payloads : List (List ℕ)) → SaysOne Says o payloads → SaysOne Says p payloads → o ≡ p
one_once Says once None None payloads h k = refl
one_once Says once None (Some b) payloads h k = absurd (k.0 h)
one_once Says once (Some a) None payloads h k = absurd (h.0 k)
one_once Says once (Some a) (Some b) payloads h k = ap Some (all_once Says once a b payloads h.1 k.1)

list_once : {A : Type 0} (Says : A → List Record → Type 0) → Once Says → (xs ys : List A) (payloads : List (List ℕ)) → SaysEach Says xs payloads → SaysEach Says ys payloads → xs ≡ ys
list_once Says once [] [] [] h k = refl
list_once Says once [] ys (bytes ∷ payloads) h k = absurd h
list_once Says once xs [] (bytes ∷ payloads) h k = absurd k
list_once Says once (x ∷ xs) ys [] h k = absurd h
list_once Says once xs (y ∷ ys) [] h k = absurd k
list_once Says once (x ∷ xs) (y ∷ ys) (bytes ∷ payloads) h k =
    let heads = bytes_once Says once x y bytes h.0 k.0 in
    let tails = list_once Says once xs ys payloads h.1 k.1 in
    λ i. heads i ∷ tails i

sorted_once : {A : Type 0} (path : A → List (List ℕ)) (Says : A → List Record → Type 0) → Once Says → (xs ys : List A) (payloads : List (List ℕ)) → AscendBy path xs → AscendBy path ys → SaysSorted Says xs payloads → SaysSorted Says ys payloads → xs ≡ ys
sorted_once path Says once xs ys payloads h k s t =
    let read = list_once Says once s.read t.read payloads s.each t.each in
    same_order path s.read xs ys s.same (subst (λ l. IsPermutation l ys) (sym read) t.same) h k

-- ---- the messages

hash_once : (g h : List ℕ) → IsHash g → IsHash h → encode_lower g ≡ encode_lower h → g ≡ h
hash_once g h a b e = ok_is {E = MessageError} g h (sym (hash_again g a) ∙ ap hash_of e ∙ hash_again h b)

path_once : (p q : List (List ℕ)) → IsPath p → IsPath q → path_text p ≡ path_text q → p ≡ q
path_once p q a b e = ok_is {E = MessageError} p q (sym (path_given p a) ∙ ap path_of e ∙ path_given q b)

size_once : (m n : ℕ) → pos m ≡ pos n → m ≡ n
size_once m n e = cc

digest_once : Once SaysDigest
digest_once d e rs h k =
    let hash = hash_once d.hash e.hash h.valid.hash k.valid.hash (sym h.hash ∙ k.hash) in
    let size = size_once d.size e.size (sym h.size ∙ k.size) in
    λ i. record { hash = hash i; size = size i }

file_once : Once SaysFile
file_once f g rs h k =
    let path = path_once f.path g.path h.valid.path k.valid.path (sym h.path ∙ k.path) in
    let digest = all_once SaysDigest digest_once f.digest g.digest _ h.digest.1 k.digest.1 in
    let executable = sym h.executable ∙ k.executable in
    λ i. record { path = path i; digest = digest i; executable = executable i }

directory_once : Once SaysDirectory
directory_once f g rs h k =
    let path = path_once f.path g.path h.valid.path k.valid.path (sym h.path ∙ k.path) in
    let tree = all_once SaysDigest digest_once f.tree g.tree _ h.tree.1 k.tree.1 in
    λ i. record { path = path i; tree = tree i }

symlink_once : Once SaysSymlink
symlink_once f g rs h k =
    let path = path_once f.path g.path h.valid.path k.valid.path (sym h.path ∙ k.path) in
    let target = sym h.target ∙ k.target in
    λ i. record { path = path i; target = target i }

stream_once : (number : ℕ) → Once (SaysStream number)
stream_once number s t rs h k =
    let raw = sym h.raw ∙ k.raw in
    let digest = one_once SaysDigest digest_once s.digest t.digest _ h.digest k.digest in
    λ i. record { raw = raw i; digest = digest i }

result_once : Once SaysResult
result_once m n rs h k =
    let files = sorted_once (λ f. f.path) SaysFile file_once m.files n.files _ h.valid.paths.files_ascend k.valid.paths.files_ascend h.files k.files in
    let directories = sorted_once (λ f. f.path) SaysDirectory directory_once m.directories n.directories _ h.valid.paths.directories_ascend k.valid.paths.directories_ascend h.directories k.directories in
    let symlinks = sorted_once (λ f. f.path) SaysSymlink symlink_once m.symlinks n.symlinks _ h.valid.paths.symlinks_ascend k.valid.paths.symlinks_ascend h.symlinks k.symlinks in
    let exit_code = sym h.exit_code ∙ k.exit_code in
    let stdout = stream_once 5 m.stdout n.stdout rs h.stdout k.stdout in
    let stderr = stream_once 7 m.stderr n.stderr rs h.stderr k.stderr in
    λ i. record { files = files i; directories = directories i; symlinks = symlinks i; exit_code = exit_code i; stdout = stdout i; stderr = stderr i }

pub reads_once : (m n : ActionResultValue) (bytes : List ℕ) → Reads m bytes → Reads n bytes → m ≡ n
reads_once m n bytes h k = bytes_once SaysResult result_once m n bytes h k
