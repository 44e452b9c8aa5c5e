-- The message SymlinkNode is read from its one encoding.
use Rattle.std.proofs.Common.{◌≡◌, List, [], ◌∷◌, ◌++◌, refl, ap, subst, ◌∙◌}
use Rattle.std.proofs.lemmas.List.{append-nil}
use Rattle.wire.specs.Record.{Record}
use Rattle.wire.specs.Spelling.{spelling}
use Rattle.wire.proofs.Steps.{bind_ok, ok_is}
use Rattle.canonical.specs.declared.shape.Kind.TheVariants as kinds
use Rattle.canonical.specs.Codec.{IsCodec}
use Rattle.canonical.specs.Columns.{column}
use Rattle.canonical.proofs.Columns.{Part, joined}
use Rattle.canonical.proofs.Codec.{IsMessage, codec, codec_as}
use Rattle.messages.specs.declared.error.MessageError.{MessageError}
use Rattle.messages.specs.Told.{told}
use Rattle.canonical.specs.Fields.{bytes_field, bytes_at}
use Rattle.canonical.proofs.FieldKinds.{bytes_column, bytes_again, bytes_is}
use Rattle.messages.specs.Shapes.{single}
use Rattle.messages.specs.Name.{name_of}
use Rattle.messages.specs.Target.{target_of}
use Rattle.messages.specs.SymlinkNode.{SymlinkNodeValue, IsSymlinkNode, symlink_node_shape, symlink_node_bytes, symlink_node_in, decoded_symlink_node}
use Rattle.messages.proofs.Names.{name_found, name_given}
use Rattle.messages.proofs.Targets.{target_found, target_given}

abbrev pub symlink_node_parts : SymlinkNodeValue → List Part
symlink_node_parts l = (single 1 kinds.String, bytes_field 1 l.name) ∷ (single 2 kinds.String, bytes_field 2 l.target) ∷ []

symlink_node_message : IsMessage symlink_node_shape symlink_node_in symlink_node_parts IsSymlinkNode
symlink_node_message = record {
  ascends = refl;
  found = λ rs f s shape e.
      let a = bind_ok (name_of (bytes_at 1 rs)) _ f e in
      let b = bind_ok (target_of (bytes_at 2 rs)) _ f a.2 in
      let n = name_found (bytes_at 1 rs) a.0 a.1 in
      let t = target_found (bytes_at 2 rs) b.0 b.1 in
      let made : SymlinkNodeValue = record { name = a.0; target = b.0 } in
      let c1 : column 1 rs ≡ bytes_field 1 a.0 = bytes_column (single 1 kinds.String) rs shape.kept.0 refl refl refl ∙ ap (bytes_field 1) n.0 in
      let c2 : column 2 rs ≡ bytes_field 2 b.0 = bytes_column (single 2 kinds.String) rs shape.kept.1.0 refl refl refl ∙ ap (bytes_field 2) t.0 in
      let parts : rs ≡ joined (symlink_node_parts made) = shape.parts ∙ rw (c1, c2) refl in
      subst (λ (x : SymlinkNodeValue). IsSymlinkNode x × (rs ≡ joined (symlink_node_parts x))) (ok_is {E = MessageError} made f b.2) (record { name = n.1; target = t.1 }, parts);
  shape = λ f k. (
    refl,
    (
      bytes_is (single 1 kinds.String) f.name refl refl refl (k.name.utf8),
      (bytes_is (single 2 kinds.String) f.target refl refl refl k.target.utf8, tt),
    ),
  );
  only = λ f rs k s apart.
      let t = bytes_again 1 rs f.name apart.0 in
      let u = bytes_again 2 rs f.target apart.1.0 in
      let n = name_given f.name k.name in
      let g = target_given f.target k.target in
      rw (t, u, n, g) refl;
}

pub symlink_node_codec : IsCodec decoded_symlink_node symlink_node_bytes IsSymlinkNode
unfolding decoded_symlink_node
symlink_node_codec = codec_as decoded_symlink_node symlink_node_bytes (codec told symlink_node_shape symlink_node_in symlink_node_parts IsSymlinkNode symlink_node_message) (λ b. refl)
    (λ l. ap spelling (ap (λ (x : List Record). bytes_field 1 l.name ++ x) (append-nil (bytes_field 2 l.target))))
