-- The message Tree is read from its one encoding.
use Rattle.std.proofs.Common.{◌≡◌, true, ◌&&◌, List, [], ◌∷◌, ◌++◌, map, Option, Some, None, Result, Ok, Err, refl, sym, ap, subst, ◌∙◌}
use Rattle.std.specs.Prelude.{◌↔◌, IfSome, IfOk, option_map}
use Rattle.std.specs.List.{list_all}
use Rattle.std.proofs.lemmas.List.{append-nil, map-append}
use Rattle.wire.specs.Record.{Record}
use Rattle.wire.specs.Spelling.{spelling}
use Rattle.wire.proofs.Steps.{bind_ok, ok_is}
use Rattle.canonical.specs.declared.shape.Kind.TheVariants as kinds
use Rattle.canonical.specs.Codec.{IsCodec}
use Rattle.canonical.specs.Columns.{column}
use Rattle.canonical.specs.Fields.{message_field, element_fields, message_at, elements_at}
use Rattle.canonical.specs.Told.{each, in_option}
use Rattle.canonical.proofs.Columns.{Part, joined}
use Rattle.canonical.proofs.FieldKinds.{message_column, elements_column, message_again, elements_again, message_is, elements_are}
use Rattle.canonical.proofs.Codec.{IsMessage, codec, codec_as, each_found, each_only, option_found}
use Rattle.canonical.proofs.Sound.{message_sound, option_sound, elements_sound}
use Rattle.blob_digest.specs.Digest.{digest_of}
use Rattle.blob_digest.specs.DigestValue.{DigestValue}
use Rattle.messages.specs.declared.error.MessageError.{MessageError}
use Rattle.messages.specs.declared.error.MessageError.TheVariants.{BadTree}
use Rattle.messages.specs.Gives.{GivesUnlessMemory}
use Rattle.messages.specs.Told.{told, required}
use Rattle.messages.specs.Shapes.{single, repeated}
use Rattle.messages.specs.DirectoryRules.{DirectoryValue, IsDirectory}
use Rattle.messages.specs.Directory.{directory_bytes, decoded_directory}
use Rattle.messages.specs.Tree.{TreeValue, IsTree, AreAmong, digests_of, named_in, child_digests, is_among, all_among, children_checked, tree_of, tree_shape, tree_bytes, tree_in, decoded_tree}
use Rattle.messages.proofs.Choices.{chosen_ok, and_first, and_second, and_both}
use Rattle.messages.proofs.DigestSets.{among_found, among_given}
use Rattle.messages.proofs.DirectoryCodec.{directory_codec, no_texts}

-- ---- the rule of children

-- each digest is among the others by the test exactly where it stands there
pub all_among-is : (digests others : List DigestValue) → all_among digests others ≡ true ↔ AreAmong digests others
all_among-is digests others = (among digests others, among_test digests others) where
  among : (digests others : List DigestValue) → all_among digests others ≡ true → AreAmong digests others
  among [] others h = tt
  among (d ∷ digests) others h = (among_found others d (and_first (is_among others d) (list_all (is_among others) digests) h), among digests others (and_second (is_among others d) (list_all (is_among others) digests) h))

  among_test : (digests others : List DigestValue) → AreAmong digests others → all_among digests others ≡ true
  among_test [] others h = refl
  among_test (d ∷ digests) others h = and_both (is_among others d) (list_all (is_among others) digests) (among_given others d h.0) (among_test digests others h.1)

pub children_there : (named held : List DigestValue) → children_checked named held ≡ Ok tt → AreAmong named held × AreAmong held named
unfolding children_checked
children_there named held e =
    let c = chosen_ok {A = Unit {0}} (all_among named held && all_among held named) tt BadTree tt e in
    ((all_among-is named held).0 (and_first (all_among named held) (all_among held named) c.0), (all_among-is held named).0 (and_second (all_among named held) (all_among held named) c.0))

there_children : (named held : List DigestValue) → AreAmong named held → AreAmong held named → children_checked named held ≡ Ok tt
unfolding children_checked
there_children named held a b = let x = (all_among-is named held).1 a in let y = (all_among-is held named).1 b in rw (x, y) refl

tree_found : (t x : TreeValue) → tree_of t ≡ Ok x → AreAmong (named_in t) (child_digests t) × AreAmong (child_digests t) (named_in t) × (t ≡ x)
unfolding tree_of
tree_found t x e =
    let a = bind_ok (children_checked (named_in t) (child_digests t)) (λ _. Ok t) x e in
    let c = children_there (named_in t) (child_digests t) a.1 in
    (c.0, c.1, ok_is {E = MessageError} t x a.2)

pub tree_given : (t : TreeValue) → IsTree t → tree_of t ≡ Ok t
unfolding tree_of
tree_given t h = let c = there_children (named_in t) (child_digests t) h.held h.named in rw c refl

-- what keeps the rules is answered, unless memory runs out
pub tree_answered : (t : TreeValue) (r : Result TreeValue MessageError) → GivesUnlessMemory (λ x. x) r (tree_of t) → IsTree t → GivesUnlessMemory (λ x. x) r (Ok t)
tree_answered t r given h = subst (λ (f : Result TreeValue MessageError). GivesUnlessMemory (λ x. x) r f) (tree_given t h) given

-- what is answered is the tree of the parts
pub tree_there : (t : TreeValue) (r : Result TreeValue MessageError) → GivesUnlessMemory (λ x. x) r (tree_of t) → IfOk r IsTree → IfOk r (λ x. IsTree x × (x ≡ t))
tree_there t (Ok x) given h = (h, sym (tree_found t x given).2)
tree_there t (Err e) given h = tt

-- one more directory, and the digest of its encoding
pub hashed_more : (directories : List DirectoryValue) (directory : DirectoryValue) (digests : List DigestValue) (digest : DigestValue) → digests ≡ digests_of (map directory_bytes directories) → digest ≡ digest_of (directory_bytes directory) → digests ++ digest ∷ [] ≡ digests_of (map directory_bytes (directories ++ directory ∷ []))
hashed_more directories directory digests digest e f = rw (e, f) (sym (ap (map digest_of) (map-append directory_bytes directories (directory ∷ [])) ∙ map-append digest_of (map directory_bytes directories) (map directory_bytes (directory ∷ []))))

root_found : (found : Option DirectoryValue) (root : DirectoryValue) → required 1 found ≡ Ok root → found ≡ Some root
root_found None root e = absurd cc
root_found (Some d) root e = let same : d ≡ root = ok_is {E = MessageError} d root e in ap Some same

-- ---- the codec

abbrev pub tree_parts : TreeValue → List Part
tree_parts t = (single 1 kinds.Message, message_field 1 (Some (directory_bytes t.root))) ∷ (repeated 2 kinds.Message, element_fields 2 (map directory_bytes t.children)) ∷ []

tree_message : IsMessage tree_shape tree_in tree_parts IsTree
tree_message = record {
  ascends = refl;
  found = λ rs x s shape e.
      let a = bind_ok (in_option decoded_directory (message_at 1 rs)) _ x e in
      let b = bind_ok (each decoded_directory (elements_at 2 rs)) _ x a.2 in
      let d = bind_ok (required 1 a.0) _ x b.2 in
      let made : TreeValue = record { root = d.0; children = b.0 } in
      let k = tree_found made x d.2 in
      let m1 : column 1 rs ≡ message_field 1 (message_at 1 rs) = message_column (single 1 kinds.Message) rs shape.kept.0 refl refl in
      let e2 : column 2 rs ≡ element_fields 2 (elements_at 2 rs) = elements_column (repeated 2 kinds.Message) rs shape.kept.1.0 refl in
      let o = option_found decoded_directory directory_bytes IsDirectory directory_codec (message_at 1 rs) a.0 (option_sound 1 rs (message_at 1 rs) s m1) a.1 in
      let r = root_found a.0 d.0 d.1 in
      let root : IsDirectory d.0 = subst (λ (q : Option DirectoryValue). IfSome q IsDirectory) r o.0 in
      let f2 = each_found decoded_directory directory_bytes IsDirectory directory_codec (elements_at 2 rs) b.0 (elements_sound 2 rs (elements_at 2 rs) s e2) b.1 in
      let c1 : column 1 rs ≡ message_field 1 (Some (directory_bytes d.0)) = m1 ∙ ap (message_field 1) (o.1 ∙ ap (option_map directory_bytes) r) in
      let c2 : column 2 rs ≡ element_fields 2 (map directory_bytes b.0) = e2 ∙ ap (element_fields 2) f2.1 in
      let parts : rs ≡ joined (tree_parts made) = shape.parts ∙ rw (c1, c2) refl in
      subst (λ (y : TreeValue). IsTree y × (rs ≡ joined (tree_parts y))) k.2 (record { root = root; children = f2.0; held = k.0; named = k.1 }, parts);
  shape = λ t k. (
    refl,
    (
      message_is (single 1 kinds.Message) (Some (directory_bytes t.root)) refl refl,
      (elements_are (repeated 2 kinds.Message) (map directory_bytes t.children) refl refl (no_texts (map directory_bytes t.children)), tt),
    ),
  );
  only = λ t rs k s apart.
      let m = message_again 1 rs (Some (directory_bytes t.root)) apart.0 in
      let e2 = elements_again 2 rs (map directory_bytes t.children) apart.1.0 in
      let d = directory_codec.only (directory_bytes t.root) t.root (message_sound 1 rs (directory_bytes t.root) s apart.0) k.root refl in
      let r2 = each_only decoded_directory directory_bytes IsDirectory directory_codec (map directory_bytes t.children) t.children (elements_sound 2 rs (map directory_bytes t.children) s apart.1.0) k.children refl in
      rw (m, e2, d, r2) (tree_given t k);
}

pub tree_codec : IsCodec decoded_tree tree_bytes IsTree
unfolding decoded_tree tree_bytes
tree_codec = codec_as decoded_tree tree_bytes (codec told tree_shape tree_in tree_parts IsTree tree_message) (λ b. refl)
    (λ t. ap spelling (ap (λ (l : List Record). message_field 1 (Some (directory_bytes t.root)) ++ l) (append-nil (element_fields 2 (map directory_bytes t.children)))))
