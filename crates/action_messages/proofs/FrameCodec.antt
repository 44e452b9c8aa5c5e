-- A frame is read from its one encoding.
use Rattle.std.proofs.Common.{◌≡◌, List, [], ◌∷◌, Some, refl, ap, subst, ◌∙◌}
use Rattle.wire.specs.Spelling.{spelling}
use Rattle.wire.proofs.Steps.{bind_ok, ok_is}
use Rattle.canonical.specs.declared.shape.Kind.TheVariants as kinds
use Rattle.canonical.specs.Codec.{IsCodec}
use Rattle.canonical.specs.Columns.{column}
use Rattle.canonical.specs.Fields.{message_field, bool_field, bytes_field, message_at, bool_at, bytes_at}
use Rattle.canonical.specs.Told.{in_option}
use Rattle.canonical.proofs.Columns.{Part, joined}
use Rattle.canonical.proofs.Codec.{IsMessage, codec, codec_as}
use Rattle.canonical.proofs.FieldKinds.{message_column, bool_column, bytes_column, message_again, bool_again, bytes_again, message_is, bool_is, bytes_is}
use Rattle.canonical.proofs.Sound.{option_sound}
use Rattle.messages.specs.declared.error.MessageError.{MessageError}
use Rattle.messages.specs.Told.{told, required}
use Rattle.messages.specs.Shapes.{single}
use Rattle.messages.specs.DigestMessage.{digest_bytes, decoded_digest}
use Rattle.action_messages.specs.Platform.{platform_entry, platform_at}
use Rattle.action_messages.specs.Frame.{FrameValue, IsFrame, frame_shape, frame_bytes, frame_in, decoded_frame}
use Rattle.action_messages.proofs.Joins.{of_four}
use Rattle.action_messages.proofs.Digests.{digest_found, optional_again}
use Rattle.action_messages.proofs.PlatformCodec.{entry_found, entry_again}

abbrev pub frame_parts : FrameValue → List Part
frame_parts f =
    (single 1 kinds.Message, message_field 1 (Some (digest_bytes f.command))) ∷
    (single 7 kinds.Bool, bool_field 7 f.do_not_cache) ∷
    (single 9 kinds.Bytes, bytes_field 9 f.salt) ∷
    (single 10 kinds.Message, message_field 10 (platform_entry f.platform)) ∷
    []

frame_message : IsMessage frame_shape frame_in frame_parts IsFrame
frame_message = record {
  ascends = refl;
  found = λ rs f s shape e.
      let a = bind_ok (in_option decoded_digest (message_at 1 rs)) _ f e in
      let p = bind_ok (platform_at (message_at 10 rs)) _ f a.2 in
      let d = bind_ok (required 1 a.0) _ f p.2 in
      let made : FrameValue = record { command = d.0; do_not_cache = bool_at 7 rs; salt = bytes_at 9 rs; platform = p.0 } in
      let m1 : column 1 rs ≡ message_field 1 (message_at 1 rs) = message_column (single 1 kinds.Message) rs shape.kept.0 refl refl in
      let m10 : column 10 rs ≡ message_field 10 (message_at 10 rs) = message_column (single 10 kinds.Message) rs shape.kept.1.1.1.0 refl refl in
      let command = digest_found 1 rs a.0 d.0 s m1 a.1 d.1 in
      let platform = entry_found (message_at 10 rs) p.0 (option_sound 10 rs (message_at 10 rs) s m10) p.1 in
      let c1 : column 1 rs ≡ message_field 1 (Some (digest_bytes d.0)) = command.1 in
      let c7 : column 7 rs ≡ bool_field 7 (bool_at 7 rs) = bool_column (single 7 kinds.Bool) rs shape.kept.1.0 refl refl in
      let c9 : column 9 rs ≡ bytes_field 9 (bytes_at 9 rs) = bytes_column (single 9 kinds.Bytes) rs shape.kept.1.1.0 refl refl refl in
      let c10 : column 10 rs ≡ message_field 10 (platform_entry p.0) = m10 ∙ ap (message_field 10) platform.1 in
      let parts : rs ≡ joined (frame_parts made) = shape.parts ∙ rw (c1, c7, c9, c10) refl in
      subst (λ (x : FrameValue). IsFrame x × (rs ≡ joined (frame_parts x))) (ok_is {E = MessageError} made f d.2) (record { command = command.0; platform = platform.0 }, parts);
  shape = λ f k. (
    refl,
    (
      message_is (single 1 kinds.Message) (Some (digest_bytes f.command)) refl refl,
      (
        bool_is (single 7 kinds.Bool) f.do_not_cache refl refl,
        (
          bytes_is (single 9 kinds.Bytes) f.salt refl refl refl refl,
          (message_is (single 10 kinds.Message) (platform_entry f.platform) refl refl, tt),
        ),
      ),
    ),
  );
  only = λ f rs k s apart.
      let d = optional_again 1 rs (Some f.command) s k.command apart.0 in
      let b = bool_again 7 rs f.do_not_cache apart.1.0 in
      let t = bytes_again 9 rs f.salt apart.1.1.0 in
      let m = message_again 10 rs (platform_entry f.platform) apart.1.1.1.0 in
      let p = entry_again f.platform k.platform (option_sound 10 rs (platform_entry f.platform) s apart.1.1.1.0) in
      rw (d, m, p, b, t) refl;
}

pub frame_codec : IsCodec decoded_frame frame_bytes IsFrame
unfolding decoded_frame frame_bytes
frame_codec = codec_as decoded_frame frame_bytes (codec told frame_shape frame_in frame_parts IsFrame frame_message) (λ b. refl)
    (λ f. ap spelling (of_four (message_field 1 (Some (digest_bytes f.command))) (bool_field 7 f.do_not_cache) (bytes_field 9 f.salt) (message_field 10 (platform_entry f.platform))))
