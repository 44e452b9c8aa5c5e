-- The message Command is read from its one encoding.
use Rattle.std.proofs.Common.{◌≡◌, ℕ, true, List, [], ◌∷◌, map, Option, Some, None, Ok, refl, sym, ap, subst, ◌∙◌}
use Rattle.std.specs.Prelude.{IfSome}
use Rattle.std.specs.Str.{is_utf8}
use Rattle.std.proofs.lemmas.Str.{is_utf8-from_IsUtf8, IsUtf8-nil}
use Rattle.wire.specs.Spelling.{spelling}
use Rattle.wire.proofs.Steps.{bind_ok, ok_is}
use Rattle.canonical.specs.declared.shape.Kind.TheVariants as kinds
use Rattle.canonical.specs.Codec.{IsCodec}
use Rattle.canonical.specs.Columns.{column}
use Rattle.canonical.specs.Fields.{bytes_field, element_fields, bytes_at, elements_at}
use Rattle.canonical.specs.Told.{each}
use Rattle.canonical.proofs.Columns.{Part, joined}
use Rattle.canonical.proofs.Codec.{IsMessage, codec, codec_as, each_found, each_only}
use Rattle.canonical.proofs.FieldKinds.{bytes_column, elements_column, bytes_again, elements_again, bytes_is, elements_are}
use Rattle.canonical.proofs.Sound.{elements_sound}
use Rattle.messages.specs.declared.error.MessageError.{MessageError}
use Rattle.messages.specs.Told.{told}
use Rattle.messages.specs.Shapes.{single, repeated}
use Rattle.messages.specs.Path.{IsPath, path_of, path_text}
use Rattle.messages.proofs.DirectoryCodec.{no_texts}
use Rattle.action_messages.specs.Fields.{string_of}
use Rattle.action_messages.specs.Overlaps.{texts_of}
use Rattle.action_messages.specs.Setting.{IsSetting, setting_bytes, decoded_setting}
use Rattle.action_messages.specs.Command.{CommandValue, IsCommand, command_shape, directory_text, command_bytes, texts_checked, lists_checked, working_directory_of, command_in, decoded_command}
use Rattle.action_messages.proofs.Strings.{IsString, string_codec, path_codec, map-same, paths_utf8, path_utf8}
use Rattle.action_messages.proofs.Joins.{of_four}
use Rattle.action_messages.proofs.SettingCodec.{setting_codec}
use Rattle.action_messages.proofs.Commands.{command_made, command_checked, settings_of, strings_of, directory_found, directory_given}

abbrev pub command_parts : CommandValue → List Part
command_parts c =
    (repeated 1 kinds.String, element_fields 1 c.arguments) ∷
    (repeated 2 kinds.Message, element_fields 2 (map setting_bytes c.environment)) ∷
    (single 6 kinds.String, bytes_field 6 (directory_text c.working_directory)) ∷
    (repeated 7 kinds.String, element_fields 7 (texts_of c.output_paths)) ∷
    []

directory_utf8 : (d : Option (List (List ℕ))) → IfSome d IsPath → is_utf8 (directory_text d) ≡ true
directory_utf8 None is = is_utf8-from_IsUtf8 [] IsUtf8-nil
directory_utf8 (Some path) is = path_utf8 path is

command_message : IsMessage command_shape command_in command_parts IsCommand
command_message = record {
  ascends = refl;
  found = λ rs x s shape e.
      let a = bind_ok (each string_of (elements_at 1 rs)) _ x e in
      let v = bind_ok (each decoded_setting (elements_at 2 rs)) _ x a.2 in
      let t = bind_ok (texts_checked a.0 v.0) _ x v.2 in
      let d = bind_ok (working_directory_of (bytes_at 6 rs)) _ x t.2 in
      let p = bind_ok (each path_of (elements_at 7 rs)) _ x d.2 in
      let l = bind_ok (lists_checked v.0 p.0) _ x p.2 in
      let made : CommandValue = record { arguments = a.0; environment = v.0; working_directory = d.0; output_paths = p.0 } in
      let e1 : column 1 rs ≡ element_fields 1 (elements_at 1 rs) = elements_column (repeated 1 kinds.String) rs shape.kept.0 refl in
      let e2 : column 2 rs ≡ element_fields 2 (elements_at 2 rs) = elements_column (repeated 2 kinds.Message) rs shape.kept.1.0 refl in
      let e7 : column 7 rs ≡ element_fields 7 (elements_at 7 rs) = elements_column (repeated 7 kinds.String) rs shape.kept.1.1.1.0 refl in
      let f1 = each_found string_of (λ text. text) IsString string_codec (elements_at 1 rs) a.0 (elements_sound 1 rs (elements_at 1 rs) s e1) a.1 in
      let f2 = each_found decoded_setting setting_bytes IsSetting setting_codec (elements_at 2 rs) v.0 (elements_sound 2 rs (elements_at 2 rs) s e2) v.1 in
      let f7 = each_found path_of path_text IsPath path_codec (elements_at 7 rs) p.0 (elements_sound 7 rs (elements_at 7 rs) s e7) p.1 in
      let f6 = directory_found (bytes_at 6 rs) d.0 d.1 in
      let c1 : column 1 rs ≡ element_fields 1 a.0 = e1 ∙ ap (element_fields 1) (f1.1 ∙ map-same a.0) in
      let c2 : column 2 rs ≡ element_fields 2 (map setting_bytes v.0) = e2 ∙ ap (element_fields 2) f2.1 in
      let c6 : column 6 rs ≡ bytes_field 6 (directory_text d.0) = bytes_column (single 6 kinds.String) rs shape.kept.1.1.0 refl refl refl ∙ ap (bytes_field 6) f6.1 in
      let c7 : column 7 rs ≡ element_fields 7 (texts_of p.0) = e7 ∙ ap (element_fields 7) f7.1 in
      let parts : rs ≡ joined (command_parts made) = shape.parts ∙ rw (c1, c2, c6, c7) (refl {a = joined (command_parts made)}) in
      let keeps : IsCommand made = command_made made f1.0 f2.0 f6.0 f7.0 t.1 l.1 in
      subst (λ (y : CommandValue). IsCommand y × (rs ≡ joined (command_parts y))) (ok_is {E = MessageError} made x l.2) (keeps, parts);
  shape = λ c k. (
    refl,
    (
      elements_are (repeated 1 kinds.String) c.arguments refl refl (strings_of c.arguments k.arguments),
      (
        elements_are (repeated 2 kinds.Message) (map setting_bytes c.environment) refl refl (no_texts (map setting_bytes c.environment)),
        (
          bytes_is (single 6 kinds.String) (directory_text c.working_directory) refl refl refl (directory_utf8 c.working_directory k.working_directory),
          (elements_are (repeated 7 kinds.String) (texts_of c.output_paths) refl refl (paths_utf8 c.output_paths k.output_paths), tt),
        ),
      ),
    ),
  );
  only = λ c rs k s apart.
      let t1 = elements_again 1 rs c.arguments apart.0 in
      let t2 = elements_again 2 rs (map setting_bytes c.environment) apart.1.0 in
      let t6 = bytes_again 6 rs (directory_text c.working_directory) apart.1.1.0 in
      let t7 = elements_again 7 rs (texts_of c.output_paths) apart.1.1.1.0 in
      let r1 = each_only string_of (λ text. text) IsString string_codec c.arguments c.arguments (elements_sound 1 rs c.arguments s apart.0) (strings_of c.arguments k.arguments) (sym (map-same c.arguments)) in
      let r2 = each_only decoded_setting setting_bytes IsSetting setting_codec (map setting_bytes c.environment) c.environment (elements_sound 2 rs (map setting_bytes c.environment) s apart.1.0) (settings_of c.environment k.environment) refl in
      let r6 = directory_given c.working_directory k.working_directory in
      let r7 = each_only path_of path_text IsPath path_codec (texts_of c.output_paths) c.output_paths (elements_sound 7 rs (texts_of c.output_paths) s apart.1.1.1.0) k.output_paths refl in
      let checked = command_checked c k in
      let texts : texts_checked c.arguments c.environment ≡ Ok tt = checked.0 in
      let lists : lists_checked c.environment c.output_paths ≡ Ok tt = checked.1 in
      rw (t1, t2, t6, t7, r1, r2, texts, r6, r7, lists) refl;
}

pub command_codec : IsCodec decoded_command command_bytes IsCommand
unfolding decoded_command command_bytes
command_codec = codec_as decoded_command command_bytes (codec told command_shape command_in command_parts IsCommand command_message) (λ b. refl)
    (λ c. ap spelling (of_four (element_fields 1 c.arguments) (element_fields 2 (map setting_bytes c.environment)) (bytes_field 6 (directory_text c.working_directory)) (element_fields 7 (texts_of c.output_paths))))
