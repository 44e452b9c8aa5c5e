-- The message Action is read from its one encoding.
use Rattle.std.proofs.Common.{◌≡◌, List, [], ◌∷◌, Some, refl, ap, subst, ◌∙◌}
use Rattle.wire.specs.Spelling.{spelling}
use Rattle.wire.proofs.Steps.{bind_ok, ok_is}
use Rattle.canonical.specs.declared.shape.Kind.TheVariants as kinds
use Rattle.canonical.specs.Codec.{IsCodec}
use Rattle.canonical.specs.Columns.{column}
use Rattle.canonical.specs.Fields.{message_field, bool_field, bytes_field, message_at, bool_at, bytes_at}
use Rattle.canonical.specs.Told.{in_option}
use Rattle.canonical.proofs.Columns.{Part, joined}
use Rattle.canonical.proofs.Codec.{IsMessage, codec, codec_as}
use Rattle.canonical.proofs.FieldKinds.{message_column, bool_column, bytes_column, message_again, bool_again, bytes_again, message_is, bool_is, bytes_is}
use Rattle.canonical.proofs.Sound.{option_sound}
use Rattle.messages.specs.declared.error.MessageError.{MessageError}
use Rattle.messages.specs.Told.{told, required}
use Rattle.messages.specs.Shapes.{single}
use Rattle.messages.specs.DigestMessage.{digest_bytes, decoded_digest}
use Rattle.action_messages.specs.Platform.{platform_entry, platform_at}
use Rattle.action_messages.specs.Frame.{FrameValue}
use Rattle.action_messages.specs.Action.{ActionValue, IsAction, with_input, action_shape, action_bytes, action_in, decoded_action}
use Rattle.action_messages.proofs.Joins.{of_five}
use Rattle.action_messages.proofs.Digests.{digest_found, optional_again}
use Rattle.action_messages.proofs.PlatformCodec.{entry_found, entry_again}

abbrev pub action_parts : ActionValue → List Part
action_parts a =
    (single 1 kinds.Message, message_field 1 (Some (digest_bytes a.frame.command))) ∷
    (single 2 kinds.Message, message_field 2 (Some (digest_bytes a.input))) ∷
    (single 7 kinds.Bool, bool_field 7 a.frame.do_not_cache) ∷
    (single 9 kinds.Bytes, bytes_field 9 a.frame.salt) ∷
    (single 10 kinds.Message, message_field 10 (platform_entry a.frame.platform)) ∷
    []

action_message : IsMessage action_shape action_in action_parts IsAction
action_message = record {
  ascends = refl;
  found = λ rs f s shape e.
      let a = bind_ok (in_option decoded_digest (message_at 1 rs)) _ f e in
      let i = bind_ok (in_option decoded_digest (message_at 2 rs)) _ f a.2 in
      let p = bind_ok (platform_at (message_at 10 rs)) _ f i.2 in
      let d = bind_ok (required 1 a.0) _ f p.2 in
      let r = bind_ok (required 2 i.0) _ f d.2 in
      let frame : FrameValue = record { command = d.0; do_not_cache = bool_at 7 rs; salt = bytes_at 9 rs; platform = p.0 } in
      let made : ActionValue = with_input frame r.0 in
      let m1 : column 1 rs ≡ message_field 1 (message_at 1 rs) = message_column (single 1 kinds.Message) rs shape.kept.0 refl refl in
      let m2 : column 2 rs ≡ message_field 2 (message_at 2 rs) = message_column (single 2 kinds.Message) rs shape.kept.1.0 refl refl in
      let m10 : column 10 rs ≡ message_field 10 (message_at 10 rs) = message_column (single 10 kinds.Message) rs shape.kept.1.1.1.1.0 refl refl in
      let command = digest_found 1 rs a.0 d.0 s m1 a.1 d.1 in
      let input = digest_found 2 rs i.0 r.0 s m2 i.1 r.1 in
      let platform = entry_found (message_at 10 rs) p.0 (option_sound 10 rs (message_at 10 rs) s m10) p.1 in
      let c1 : column 1 rs ≡ message_field 1 (Some (digest_bytes d.0)) = command.1 in
      let c2 : column 2 rs ≡ message_field 2 (Some (digest_bytes r.0)) = input.1 in
      let c7 : column 7 rs ≡ bool_field 7 (bool_at 7 rs) = bool_column (single 7 kinds.Bool) rs shape.kept.1.1.0 refl refl in
      let c9 : column 9 rs ≡ bytes_field 9 (bytes_at 9 rs) = bytes_column (single 9 kinds.Bytes) rs shape.kept.1.1.1.0 refl refl refl in
      let c10 : column 10 rs ≡ message_field 10 (platform_entry p.0) = m10 ∙ ap (message_field 10) platform.1 in
      let parts : rs ≡ joined (action_parts made) = shape.parts ∙ rw (c1, c2, c7, c9, c10) (refl {a = joined (action_parts made)}) in
      let keeps : IsAction made = record { frame = record { command = command.0; platform = platform.0 }; input = input.0 } in
      subst (λ (x : ActionValue). IsAction x × (rs ≡ joined (action_parts x))) (ok_is {E = MessageError} made f r.2) (keeps, parts);
  shape = λ a k. (
    refl,
    (
      message_is (single 1 kinds.Message) (Some (digest_bytes a.frame.command)) refl refl,
      (
        message_is (single 2 kinds.Message) (Some (digest_bytes a.input)) refl refl,
        (
          bool_is (single 7 kinds.Bool) a.frame.do_not_cache refl refl,
          (
            bytes_is (single 9 kinds.Bytes) a.frame.salt refl refl refl refl,
            (message_is (single 10 kinds.Message) (platform_entry a.frame.platform) refl refl, tt),
          ),
        ),
      ),
    ),
  );
  only = λ a rs k s apart.
      let d = optional_again 1 rs (Some a.frame.command) s k.frame.command apart.0 in
      let i = optional_again 2 rs (Some a.input) s k.input apart.1.0 in
      let b = bool_again 7 rs a.frame.do_not_cache apart.1.1.0 in
      let t = bytes_again 9 rs a.frame.salt apart.1.1.1.0 in
      let m = message_again 10 rs (platform_entry a.frame.platform) apart.1.1.1.1.0 in
      let p = entry_again a.frame.platform k.frame.platform (option_sound 10 rs (platform_entry a.frame.platform) s apart.1.1.1.1.0) in
      rw (d, i, m, p, b, t) refl;
}

pub action_codec : IsCodec decoded_action action_bytes IsAction
unfolding decoded_action action_bytes
action_codec = codec_as decoded_action action_bytes (codec told action_shape action_in action_parts IsAction action_message) (λ b. refl)
    (λ a. ap spelling (of_five (message_field 1 (Some (digest_bytes a.frame.command))) (message_field 2 (Some (digest_bytes a.input))) (bool_field 7 a.frame.do_not_cache) (bytes_field 9 a.frame.salt) (message_field 10 (platform_entry a.frame.platform))))
