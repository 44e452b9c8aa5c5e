-- One encoding is that of one directory, whatever its names.
use Rattle.std.proofs.Common.{◌≡◌, ◌≢◌, ℕ, zero, suc, List, [], ◌∷◌, ◌++◌, refl, ap, sym, ◌∙◌, arith, append_assoc, Bool, true, false, map}
use Rattle.std.specs.Prelude.{pos, Ok, Result, Some}
use Rattle.std.specs.Int.{w64, cast_unsigned}
use Rattle.std.specs.List.{AllByRecursion}
use Rattle.hex.specs.declared.error.FromHexError.{FromHexError}
use Rattle.hex.specs.Hex.{encode_lower, decode_of, IsBytes}
use Rattle.hex.proofs.HexLemmas.{decode_of-encode_lower}
use Rattle.wire.specs.Record.{Varint, Bytes, Record, record_with}
use Rattle.wire.specs.Spelling.{spelling}
use Rattle.canonical.specs.Fields.{bytes_field, number_field, int_field, bool_field, message_field, element_fields}
use Rattle.blob_digest.specs.DigestValue.{DigestValue, IsDigest}
use Rattle.messages.specs.DigestMessage.{digest_bytes}
use Rattle.messages.specs.FileNode.{FileNodeValue, file_node_bytes}
use Rattle.messages.specs.DirectoryNode.{DirectoryNodeValue, directory_node_bytes}
use Rattle.messages.specs.SymlinkNode.{SymlinkNodeValue, symlink_node_bytes}
use Rattle.messages.specs.DirectoryRules.{DirectoryValue}
use Rattle.messages.specs.Directory.{directory_bytes}
use Rattle.tree.proofs.WireRecords.{AreFixed, spelling_injective}

-- ---- the records of a field stand in front of those of other numbers

abbrev pub IsAbsent : ℕ → List Record → Type 0
IsAbsent f rs = AllByRecursion (λ r. r.number ≢ f) rs

bytes_fixed : (f : ℕ) (a : List ℕ) (rs : List Record) → AreFixed rs → AreFixed (bytes_field f a ++ rs)
bytes_fixed f [] rs h = h
bytes_fixed f (b ∷ bs) rs h = (tt, h)

number_fixed : (f n : ℕ) → AreFixed (number_field f n)
number_fixed f zero = tt
number_fixed f (suc n) = (tt, tt)

bool_fixed : (f : ℕ) (b : Bool) → AreFixed (bool_field f b)
bool_fixed f true = (tt, tt)
bool_fixed f false = tt

elements_fixed : (f : ℕ) (xs : List (List ℕ)) (rs : List Record) → AreFixed rs → AreFixed (element_fields f xs ++ rs)
elements_fixed f [] rs h = h
elements_fixed f (x ∷ xs) rs h = (tt, elements_fixed f xs rs h)

bytes_absent : (f g : ℕ) (b : List ℕ) → g ≢ f → IsAbsent f (bytes_field g b)
bytes_absent f g [] h = tt
bytes_absent f g (b ∷ bs) h = (h, tt)

number_absent : (f g n : ℕ) → g ≢ f → IsAbsent f (number_field g n)
number_absent f g zero h = tt
number_absent f g (suc n) h = (h, tt)

bool_absent : (f g : ℕ) (b : Bool) → g ≢ f → IsAbsent f (bool_field g b)
bool_absent f g true h = (h, tt)
bool_absent f g false h = tt

elements_absent : (f g : ℕ) (xs : List (List ℕ)) (rs : List Record) → g ≢ f → IsAbsent f rs → IsAbsent f (element_fields g xs ++ rs)
elements_absent f g [] rs h k = k
elements_absent f g (x ∷ xs) rs h k = (h, elements_absent f g xs rs h k)

-- ---- a field is read off the front

bytes_front : (f : ℕ) (a b : List ℕ) (rs ss : List Record) → IsAbsent f rs → IsAbsent f ss → bytes_field f a ++ rs ≡ bytes_field f b ++ ss → (a ≡ b) × (rs ≡ ss)
bytes_front f [] [] rs ss h k e = (refl, e)
bytes_front f [] (b ∷ bs) [] ss h k e = cc
bytes_front f [] (b ∷ bs) (r ∷ rs) ss h k e = absurd (h.0 (let first : r ≡ record_with f (Bytes (b ∷ bs)) = cc in ap (λ x. x.number) first))
bytes_front f (a ∷ aa) [] rs [] h k e = cc
bytes_front f (a ∷ aa) [] rs (s ∷ ss) h k e = absurd (k.0 (let first : s ≡ record_with f (Bytes (a ∷ aa)) = cc in ap (λ x. x.number) first))
bytes_front f (a ∷ aa) (b ∷ bs) rs ss h k e =
    let first : ◌≡◌ {A = Record} (record_with f (Bytes (a ∷ aa))) (record_with f (Bytes (b ∷ bs))) = cc in
    let values = ap (λ r. r.value) first in
    (cc, cc)

bytes_one : (f : ℕ) (a b : List ℕ) → bytes_field f a ≡ bytes_field f b → a ≡ b
bytes_one f [] [] e = refl
bytes_one f [] (b ∷ bs) e = cc
bytes_one f (a ∷ aa) [] e = cc
bytes_one f (a ∷ aa) (b ∷ bs) e =
    let first : ◌≡◌ {A = Record} (record_with f (Bytes (a ∷ aa))) (record_with f (Bytes (b ∷ bs))) = cc in
    let values = ap (λ r. r.value) first in
    cc

number_one : (f : ℕ) (a b : ℕ) → number_field f a ≡ number_field f b → a ≡ b
number_one f zero zero e = refl
number_one f zero (suc b) e = cc
number_one f (suc a) zero e = cc
number_one f (suc a) (suc b) e =
    let first : ◌≡◌ {A = Record} (record_with f (Varint (suc a))) (record_with f (Varint (suc b))) = cc in
    let values = ap (λ r. r.value) first in
    cc

bool_one : (f : ℕ) (a b : Bool) → bool_field f a ≡ bool_field f b → a ≡ b
bool_one f true true e = refl
bool_one f true false e = cc
bool_one f false true e = cc
bool_one f false false e = refl

bytes_value : (f : ℕ) (a b : List ℕ) (rs ss : List Record) → record_with f (Bytes a) ∷ rs ≡ record_with f (Bytes b) ∷ ss → (a ≡ b) × (rs ≡ ss)
bytes_value f a b rs ss e =
    let first : ◌≡◌ {A = Record} (record_with f (Bytes a)) (record_with f (Bytes b)) = cc in
    let values = ap (λ r. r.value) first in
    (cc, cc)

-- ---- each message has one encoding

encode_lower_injective : (xs ys : List ℕ) → IsBytes xs → IsBytes ys → encode_lower xs ≡ encode_lower ys → xs ≡ ys
encode_lower_injective xs ys h k e =
    let both : ◌≡◌ {A = Result (List ℕ) FromHexError} (Ok xs) (Ok ys) = sym (decode_of-encode_lower xs h) ∙ ap decode_of e ∙ decode_of-encode_lower ys k in
    cc

digest_one : (d e : DigestValue) → IsDigest d → IsDigest e → digest_bytes d ≡ digest_bytes e → d ≡ e
digest_one d e h k eq =
    let lists = spelling_injective (bytes_field 1 (encode_lower d.hash) ++ int_field 2 (pos d.size)) (bytes_field 1 (encode_lower e.hash) ++ int_field 2 (pos e.size))
    (bytes_fixed 1 (encode_lower d.hash) (int_field 2 (pos d.size)) (number_fixed 2 _)) (bytes_fixed 1 (encode_lower e.hash) (int_field 2 (pos e.size)) (number_fixed 2 _)) eq in
    let first = bytes_front 1 (encode_lower d.hash) (encode_lower e.hash) (int_field 2 (pos d.size)) (int_field 2 (pos e.size))
    (number_absent 1 2 _ (λ x. omega arith)) (number_absent 1 2 _ (λ x. omega arith)) lists in
    let hashes = encode_lower_injective d.hash e.hash h.hash.bytes k.hash.bytes first.0 in
    let casts : cast_unsigned w64 (pos d.size) ≡ cast_unsigned w64 (pos e.size) = number_one 2 _ _ first.1 in
    let sizes : d.size ≡ e.size = omega (arith, casts, h.size, k.size) in
    λ i. record { hash = hashes i; size = sizes i }

file_one : (x y : FileNodeValue) → IsDigest x.digest → IsDigest y.digest → file_node_bytes x ≡ file_node_bytes y → x ≡ y
file_one x y h k e =
    let rest_x = record_with 2 (Bytes (digest_bytes x.digest)) ∷ bool_field 4 x.executable in
    let rest_y = record_with 2 (Bytes (digest_bytes y.digest)) ∷ bool_field 4 y.executable in
    let lists = spelling_injective (bytes_field 1 x.name ++ rest_x) (bytes_field 1 y.name ++ rest_y)
    (bytes_fixed 1 x.name rest_x (tt, bool_fixed 4 x.executable)) (bytes_fixed 1 y.name rest_y (tt, bool_fixed 4 y.executable))
    (ap spelling (sym (parts x)) ∙ e ∙ ap spelling (parts y)) in
    let first = bytes_front 1 x.name y.name rest_x rest_y ((λ q. omega arith), bool_absent 1 4 x.executable (λ q. omega arith)) ((λ q. omega arith), bool_absent 1 4 y.executable (λ q. omega arith)) lists in
    let second = bytes_value 2 (digest_bytes x.digest) (digest_bytes y.digest) (bool_field 4 x.executable) (bool_field 4 y.executable) first.1 in
    let digests = digest_one x.digest y.digest h k second.0 in
    let bits = bool_one 4 x.executable y.executable second.1 in
    λ i. record { name = first.0 i; digest = digests i; executable = bits i }
  where
    parts : (z : FileNodeValue) → (bytes_field 1 z.name ++ message_field 2 (Some (digest_bytes z.digest))) ++ bool_field 4 z.executable ≡ bytes_field 1 z.name ++ (record_with 2 (Bytes (digest_bytes z.digest)) ∷ bool_field 4 z.executable)
    parts z = append_assoc (bytes_field 1 z.name) (message_field 2 (Some (digest_bytes z.digest))) (bool_field 4 z.executable)

directory_one : (x y : DirectoryNodeValue) → IsDigest x.digest → IsDigest y.digest → directory_node_bytes x ≡ directory_node_bytes y → x ≡ y
directory_one x y h k e =
    let rest_x = record_with 2 (Bytes (digest_bytes x.digest)) ∷ [] in
    let rest_y = record_with 2 (Bytes (digest_bytes y.digest)) ∷ [] in
    let lists = spelling_injective (bytes_field 1 x.name ++ rest_x) (bytes_field 1 y.name ++ rest_y) (bytes_fixed 1 x.name rest_x (tt, tt)) (bytes_fixed 1 y.name rest_y (tt, tt)) e in
    let first = bytes_front 1 x.name y.name rest_x rest_y ((λ q. omega arith), tt) ((λ q. omega arith), tt) lists in
    let second = bytes_value 2 (digest_bytes x.digest) (digest_bytes y.digest) [] [] first.1 in
    let digests = digest_one x.digest y.digest h k second.0 in
    λ i. record { name = first.0 i; digest = digests i }

symlink_one : (x y : SymlinkNodeValue) → symlink_node_bytes x ≡ symlink_node_bytes y → x ≡ y
symlink_one x y e =
    let lists = spelling_injective (bytes_field 1 x.name ++ bytes_field 2 x.target) (bytes_field 1 y.name ++ bytes_field 2 y.target)
    (bytes_fixed 1 x.name (bytes_field 2 x.target) (fixed_alone x.target)) (bytes_fixed 1 y.name (bytes_field 2 y.target) (fixed_alone y.target)) e in
    let first = bytes_front 1 x.name y.name (bytes_field 2 x.target) (bytes_field 2 y.target) (bytes_absent 1 2 x.target (λ q. omega arith)) (bytes_absent 1 2 y.target (λ q. omega arith)) lists in
    let targets = bytes_one 2 x.target y.target first.1 in
    λ i. record { name = first.0 i; target = targets i }
  where
    fixed_alone : (b : List ℕ) → AreFixed (bytes_field 2 b)
    fixed_alone [] = tt
    fixed_alone (b ∷ bs) = (tt, tt)

-- ---- and so has each list of messages

elements_front : (f : ℕ) (xs ys : List (List ℕ)) (rs ss : List Record) → IsAbsent f rs → IsAbsent f ss → element_fields f xs ++ rs ≡ element_fields f ys ++ ss → (xs ≡ ys) × (rs ≡ ss)
elements_front f [] [] rs ss h k e = (refl, e)
elements_front f [] (y ∷ ys) [] ss h k e = cc
elements_front f [] (y ∷ ys) (r ∷ rs) ss h k e = absurd (h.0 (let first : r ≡ record_with f (Bytes y) = cc in ap (λ x. x.number) first))
elements_front f (x ∷ xs) [] rs [] h k e = cc
elements_front f (x ∷ xs) [] rs (s ∷ ss) h k e = absurd (k.0 (let first : s ≡ record_with f (Bytes x) = cc in ap (λ r. r.number) first))
elements_front f (x ∷ xs) (y ∷ ys) rs ss h k e =
    let front = bytes_value f x y (element_fields f xs ++ rs) (element_fields f ys ++ ss) e in
    let rest = elements_front f xs ys rs ss h k front.1 in
    (λ i. front.0 i ∷ rest.0 i, rest.1)

elements_alone : (f : ℕ) (xs ys : List (List ℕ)) → element_fields f xs ≡ element_fields f ys → xs ≡ ys
elements_alone f [] [] e = refl
elements_alone f [] (y ∷ ys) e = cc
elements_alone f (x ∷ xs) [] e = cc
elements_alone f (x ∷ xs) (y ∷ ys) e =
    let front = bytes_value f x y (element_fields f xs) (element_fields f ys) e in
    let rest = elements_alone f xs ys front.1 in
    λ i. front.0 i ∷ rest i

map_one : {A : Type 0} (of : A → List ℕ) (P : A → Type 0) → ((x y : A) → P x → P y → of x ≡ of y → x ≡ y)
    → (xs ys : List A) → AllByRecursion P xs → AllByRecursion P ys → map of xs ≡ map of ys → xs ≡ ys
map_one of P one [] [] p q e = refl
map_one of P one [] (y ∷ ys) p q e = cc
map_one of P one (x ∷ xs) [] p q e = cc
map_one of P one (x ∷ xs) (y ∷ ys) p q e =
    let heads : of x ≡ of y = cc in
    let tails : map of xs ≡ map of ys = cc in
    let first = one x y p.0 q.0 heads in
    let rest = map_one of P one xs ys p.1 q.1 tails in
    λ i. first i ∷ rest i

fixed_elements : (f : ℕ) (xs : List (List ℕ)) → AreFixed (element_fields f xs)
fixed_elements f [] = tt
fixed_elements f (x ∷ xs) = (tt, fixed_elements f xs)

absent_elements : (f g : ℕ) (xs : List (List ℕ)) → g ≢ f → IsAbsent f (element_fields g xs)
absent_elements f g [] h = tt
absent_elements f g (x ∷ xs) h = (h, absent_elements f g xs h)

all_links : (xs : List SymlinkNodeValue) → AllByRecursion (λ (x : SymlinkNodeValue). Unit {0}) xs
all_links [] = tt
all_links (x ∷ xs) = (tt, all_links xs)

-- each digest in the directory is one
pub record HasDigests (m : DirectoryValue) : Type 0 where
  pub files : AllByRecursion (λ (f : FileNodeValue). IsDigest f.digest) m.files
  pub directories : AllByRecursion (λ (f : DirectoryNodeValue). IsDigest f.digest) m.directories

pub directory_bytes_injective : (m n : DirectoryValue) → HasDigests m → HasDigests n → directory_bytes m ≡ directory_bytes n → m ≡ n
unfolding directory_bytes
directory_bytes_injective m n h k e =
    let links_m = element_fields 3 (map symlink_node_bytes m.symlinks) in
    let links_n = element_fields 3 (map symlink_node_bytes n.symlinks) in
    let rest_m = element_fields 2 (map directory_node_bytes m.directories) ++ links_m in
    let rest_n = element_fields 2 (map directory_node_bytes n.directories) ++ links_n in
    let fixed_m = elements_fixed 1 (map file_node_bytes m.files) rest_m (elements_fixed 2 (map directory_node_bytes m.directories) links_m (fixed_elements 3 _)) in
    let fixed_n = elements_fixed 1 (map file_node_bytes n.files) rest_n (elements_fixed 2 (map directory_node_bytes n.directories) links_n (fixed_elements 3 _)) in
    let parts_m = append_assoc (element_fields 1 (map file_node_bytes m.files)) (element_fields 2 (map directory_node_bytes m.directories)) links_m in
    let parts_n = append_assoc (element_fields 1 (map file_node_bytes n.files)) (element_fields 2 (map directory_node_bytes n.directories)) links_n in
    let lists = spelling_injective (element_fields 1 (map file_node_bytes m.files) ++ rest_m) (element_fields 1 (map file_node_bytes n.files) ++ rest_n) fixed_m fixed_n
    (ap spelling (sym parts_m) ∙ e ∙ ap spelling parts_n) in
    let first = elements_front 1 (map file_node_bytes m.files) (map file_node_bytes n.files) rest_m rest_n
    (elements_absent 1 2 (map directory_node_bytes m.directories) links_m (λ q. omega arith) (absent_elements 1 3 _ (λ q. omega arith)))
    (elements_absent 1 2 (map directory_node_bytes n.directories) links_n (λ q. omega arith) (absent_elements 1 3 _ (λ q. omega arith))) lists in
    let second = elements_front 2 (map directory_node_bytes m.directories) (map directory_node_bytes n.directories) links_m links_n
    (absent_elements 2 3 _ (λ q. omega arith)) (absent_elements 2 3 _ (λ q. omega arith)) first.1 in
    let third = elements_alone 3 (map symlink_node_bytes m.symlinks) (map symlink_node_bytes n.symlinks) second.1 in
    let files = map_one file_node_bytes (λ f. IsDigest f.digest) file_one m.files n.files h.files k.files first.0 in
    let directories = map_one directory_node_bytes (λ f. IsDigest f.digest) directory_one m.directories n.directories h.directories k.directories second.0 in
    let symlinks = map_one symlink_node_bytes (λ x. Unit {0}) (λ x y p q. symlink_one x y) m.symlinks n.symlinks (all_links m.symlinks) (all_links n.symlinks) third in
    λ i. record { files = files i; directories = directories i; symlinks = symlinks i }
