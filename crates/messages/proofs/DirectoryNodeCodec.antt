-- The message DirectoryNode is read from its one encoding.
use Rattle.std.proofs.Common.{◌≡◌, ℕ, List, [], ◌∷◌, ◌++◌, Some, refl, ap, subst, ◌∙◌}
use Rattle.std.proofs.lemmas.List.{append-nil}
use Rattle.wire.specs.Record.{Record}
use Rattle.wire.specs.Spelling.{spelling}
use Rattle.wire.proofs.Steps.{bind_ok, ok_is}
use Rattle.canonical.specs.declared.shape.Kind.TheVariants as kinds
use Rattle.canonical.specs.Codec.{IsCodec}
use Rattle.canonical.specs.Columns.{column}
use Rattle.canonical.proofs.Columns.{Part, joined}
use Rattle.canonical.proofs.Codec.{IsMessage, codec, codec_as}
use Rattle.messages.specs.declared.error.MessageError.{MessageError}
use Rattle.messages.specs.Told.{told}
use Rattle.canonical.specs.Fields.{bytes_field, message_field, bytes_at, message_at}
use Rattle.canonical.proofs.FieldKinds.{bytes_column, message_column, bytes_again, message_again, bytes_is, message_is}
use Rattle.canonical.proofs.Sound.{message_sound}
use Rattle.messages.specs.Shapes.{single}
use Rattle.messages.specs.Name.{name_of}
use Rattle.messages.specs.DigestMessage.{digest_bytes}
use Rattle.messages.specs.FileNode.{required_digest}
use Rattle.messages.specs.DirectoryNode.{DirectoryNodeValue, IsDirectoryNode, directory_node_shape, directory_node_bytes, directory_node_in, decoded_directory_node}
use Rattle.messages.proofs.Names.{name_found, name_given}
use Rattle.messages.proofs.DigestCodec.{digest_codec}
use Rattle.messages.proofs.FileNodeCodec.{digest_found, digest_given}

abbrev pub directory_node_parts : DirectoryNodeValue → List Part
directory_node_parts d = (single 1 kinds.String, bytes_field 1 d.name) ∷ (single 2 kinds.Message, message_field 2 (Some (digest_bytes d.digest))) ∷ []

directory_node_message : IsMessage directory_node_shape directory_node_in directory_node_parts IsDirectoryNode
directory_node_message = record {
  ascends = refl;
  found = λ rs f s shape e.
      let a = bind_ok (required_digest (message_at 2 rs)) _ f e in
      let b = bind_ok (name_of (bytes_at 1 rs)) _ f a.2 in
      let n = name_found (bytes_at 1 rs) b.0 b.1 in
      let d = digest_found (message_at 2 rs) a.0 a.1 in
      let made : DirectoryNodeValue = record { name = b.0; digest = a.0 } in
      let m2 : column 2 rs ≡ message_field 2 (Some d.0) = message_column (single 2 kinds.Message) rs shape.kept.1.0 refl refl ∙ ap (message_field 2) d.1 in
      let k = digest_codec.found d.0 a.0 (message_sound 2 rs d.0 s m2).1 d.2 in
      let c1 : column 1 rs ≡ bytes_field 1 b.0 = bytes_column (single 1 kinds.String) rs shape.kept.0 refl refl refl ∙ ap (bytes_field 1) n.0 in
      let c2 : column 2 rs ≡ message_field 2 (Some (digest_bytes a.0)) = m2 ∙ ap (λ (x : List ℕ). message_field 2 (Some x)) k.1 in
      let parts : rs ≡ joined (directory_node_parts made) = shape.parts ∙ rw (c1, c2) refl in
      subst (λ (x : DirectoryNodeValue). IsDirectoryNode x × (rs ≡ joined (directory_node_parts x))) (ok_is {E = MessageError} made f b.2) (record { name = n.1; digest = k.0 }, parts);
  shape = λ f k. (
    refl,
    (
      bytes_is (single 1 kinds.String) f.name refl refl refl (k.name.utf8),
      (message_is (single 2 kinds.Message) (Some (digest_bytes f.digest)) refl refl, tt),
    ),
  );
  only = λ f rs k s apart.
      let t = bytes_again 1 rs f.name apart.0 in
      let m = message_again 2 rs (Some (digest_bytes f.digest)) apart.1.0 in
      let d = digest_given (digest_bytes f.digest) f.digest (digest_codec.only (digest_bytes f.digest) f.digest (message_sound 2 rs (digest_bytes f.digest) s apart.1.0) k.digest refl) in
      let n = name_given f.name k.name in
      rw (t, m, d, n) refl;
}

pub directory_node_codec : IsCodec decoded_directory_node directory_node_bytes IsDirectoryNode
unfolding decoded_directory_node
directory_node_codec = codec_as decoded_directory_node directory_node_bytes (codec told directory_node_shape directory_node_in directory_node_parts IsDirectoryNode directory_node_message) (λ b. refl)
    (λ d. ap spelling (ap (λ (l : List Record). bytes_field 1 d.name ++ l) (append-nil (message_field 2 (Some (digest_bytes d.digest))))))
