-- The messages EnvironmentVariable and Property are read from their one encoding.
use Rattle.std.proofs.Common.{◌≡◌, List, [], ◌∷◌, ◌++◌, refl, ap, subst, ◌∙◌}
use Rattle.std.proofs.lemmas.List.{append-nil}
use Rattle.wire.specs.Record.{Record}
use Rattle.wire.specs.Spelling.{spelling}
use Rattle.wire.proofs.Steps.{bind_ok, ok_is}
use Rattle.canonical.specs.declared.shape.Kind.TheVariants as kinds
use Rattle.canonical.specs.Codec.{IsCodec}
use Rattle.canonical.specs.Columns.{column}
use Rattle.canonical.specs.Fields.{bytes_field}
use Rattle.canonical.proofs.Columns.{Part, joined}
use Rattle.canonical.proofs.Codec.{IsMessage, codec, codec_as}
use Rattle.canonical.proofs.FieldKinds.{bytes_column, bytes_is}
use Rattle.messages.specs.declared.error.MessageError.{MessageError}
use Rattle.messages.specs.Told.{told}
use Rattle.messages.specs.Shapes.{single}
use Rattle.action_messages.specs.Fields.{text_at}
use Rattle.action_messages.specs.Setting.{SettingValue, IsSetting, setting_shape, setting_bytes, setting_in, decoded_setting}
use Rattle.action_messages.proofs.Strings.{text_found, text_again}

abbrev pub setting_parts : SettingValue → List Part
setting_parts v = (single 1 kinds.String, bytes_field 1 v.name) ∷ (single 2 kinds.String, bytes_field 2 v.value) ∷ []

setting_message : IsMessage setting_shape setting_in setting_parts IsSetting
setting_message = record {
  ascends = refl;
  found = λ rs f s shape e.
      let a = bind_ok (text_at 1 rs) _ f e in
      let b = bind_ok (text_at 2 rs) _ f a.2 in
      let n = text_found 1 rs a.0 a.1 in
      let v = text_found 2 rs b.0 b.1 in
      let made : SettingValue = record { name = a.0; value = b.0 } in
      let c1 : column 1 rs ≡ bytes_field 1 a.0 = bytes_column (single 1 kinds.String) rs shape.kept.0 refl refl refl ∙ ap (bytes_field 1) n.0 in
      let c2 : column 2 rs ≡ bytes_field 2 b.0 = bytes_column (single 2 kinds.String) rs shape.kept.1.0 refl refl refl ∙ ap (bytes_field 2) v.0 in
      let parts : rs ≡ joined (setting_parts made) = shape.parts ∙ rw (c1, c2) refl in
      subst (λ (x : SettingValue). IsSetting x × (rs ≡ joined (setting_parts x))) (ok_is {E = MessageError} made f b.2) (record { name = n.1; value = v.1 }, parts);
  shape = λ f k. (
    refl,
    (
      bytes_is (single 1 kinds.String) f.name refl refl refl k.name,
      (bytes_is (single 2 kinds.String) f.value refl refl refl k.value, tt),
    ),
  );
  only = λ f rs k s apart.
      let n = text_again 1 rs f.name apart.0 k.name in
      let v = text_again 2 rs f.value apart.1.0 k.value in
      rw (n, v) refl;
}

pub setting_codec : IsCodec decoded_setting setting_bytes IsSetting
unfolding decoded_setting setting_bytes
setting_codec = codec_as decoded_setting setting_bytes (codec told setting_shape setting_in setting_parts IsSetting setting_message) (λ b. refl)
    (λ f. ap spelling (ap (λ (l : List Record). bytes_field 1 f.name ++ l) (append-nil (bytes_field 2 f.value))))
