-- The message Action of remote_execution.proto: a frame, and the digest of the Directory of its
-- inputs.
use Rattle.std.specs.Prelude.{ℕ, List, [], ◌∷◌, ◌++◌, Some, Result, Ok}
use Rattle.wire.specs.Record.{Record}
use Rattle.wire.specs.Spelling.{spelling}
use Rattle.wire.specs.Steps.{◌>>=◌}
use Rattle.canonical.specs.declared.shape.Kind.TheVariants as kinds
use Rattle.canonical.specs.declared.shape.Entry.{Entry}
use Rattle.canonical.specs.Fields.{message_field, bool_field, bytes_field, message_at, bool_at}
use Rattle.canonical.specs.Fields.{bytes_at}
use Rattle.canonical.specs.Told.{in_option}
use Rattle.blob_digest.specs.DigestValue.{DigestValue, IsDigest}
use Rattle.messages.specs.declared.error.MessageError.{MessageError}
use Rattle.messages.specs.Shapes.{single}
use Rattle.messages.specs.Told.{shape_checked, required}
use Rattle.messages.specs.DigestMessage.{digest_bytes, decoded_digest}
use Rattle.action_messages.specs.Platform.{platform_entry, platform_at}
use Rattle.action_messages.specs.Frame.{FrameValue, IsFrame}

pub record ActionValue : Type 0 where
  pub frame : FrameValue
  pub input : DigestValue

-- the action of a frame with this input root
abbrev pub with_input : FrameValue → DigestValue → ActionValue
with_input f d = record { frame = f; input = d }

pub record IsAction (a : ActionValue) : Type 0 where
  pub frame : IsFrame a.frame
  pub input : IsDigest a.input

abbrev pub action_shape : List Entry
action_shape =
    single 1 kinds.Message ∷
    single 2 kinds.Message ∷
    single 7 kinds.Bool ∷
    single 9 kinds.Bytes ∷
    single 10 kinds.Message ∷
    []

-- the one encoding of an action
unfoldable pub action_bytes : ActionValue → List ℕ
action_bytes a = spelling (
    message_field 1 (Some (digest_bytes a.frame.command)) ++
    message_field 2 (Some (digest_bytes a.input)) ++
    bool_field 7 a.frame.do_not_cache ++
    bytes_field 9 a.frame.salt ++
    message_field 10 (platform_entry a.frame.platform))

-- ---- what bytes say, or the first refusal: the shape, the digests and the platform, whether the
-- digests are there

abbrev pub action_in : List Record → Result ActionValue MessageError
action_in rs =
    in_option decoded_digest (message_at 1 rs) >>= λ found_command.
    in_option decoded_digest (message_at 2 rs) >>= λ found_input.
    platform_at (message_at 10 rs) >>= λ platform.
    required 1 found_command >>= λ command.
    required 2 found_input >>= λ input.
    Ok (with_input (record {
      command = command;
      do_not_cache = bool_at 7 rs;
      salt = bytes_at 9 rs;
      platform = platform;
    }) input)

unfoldable pub decoded_action : List ℕ → Result ActionValue MessageError
decoded_action bytes = shape_checked action_shape bytes >>= action_in
