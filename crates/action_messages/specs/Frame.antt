-- A frame: the message Action of remote_execution.proto without its `input_root_digest`, that is
-- all of a build step that doesn't depend on the files it is given. It is encoded as such an
-- Action.
use Rattle.std.specs.Prelude.{ℕ, Bool, List, [], ◌∷◌, ◌++◌, Some, Result, Ok}
use Rattle.wire.specs.Record.{Record}
use Rattle.wire.specs.Spelling.{spelling}
use Rattle.wire.specs.Steps.{◌>>=◌}
use Rattle.canonical.specs.declared.shape.Kind.TheVariants as kinds
use Rattle.canonical.specs.declared.shape.Entry.{Entry}
use Rattle.canonical.specs.Fields.{message_field, bool_field, bytes_field, message_at, bool_at}
use Rattle.canonical.specs.Fields.{bytes_at}
use Rattle.canonical.specs.Told.{in_option}
use Rattle.blob_digest.specs.DigestValue.{DigestValue, IsDigest}
use Rattle.messages.specs.declared.error.MessageError.{MessageError}
use Rattle.messages.specs.Shapes.{single}
use Rattle.messages.specs.Told.{shape_checked, required}
use Rattle.messages.specs.DigestMessage.{digest_bytes, decoded_digest}
use Rattle.action_messages.specs.Platform.{PlatformValue, IsPlatform, platform_entry, platform_at}

-- the digest of the Command's encoding, whether the result is not to be kept for other builds, a
-- salt that tells equal actions apart, and what is asked of the machine
pub record FrameValue : Type 0 where
  pub command : DigestValue
  pub do_not_cache : Bool
  pub salt : List ℕ
  pub platform : PlatformValue

pub record IsFrame (f : FrameValue) : Type 0 where
  pub command : IsDigest f.command
  pub platform : IsPlatform f.platform

abbrev pub frame_shape : List Entry
frame_shape =
    single 1 kinds.Message ∷ single 7 kinds.Bool ∷ single 9 kinds.Bytes
    ∷ single 10 kinds.Message ∷ []

-- the one encoding of a frame
unfoldable pub frame_bytes : FrameValue → List ℕ
frame_bytes f = spelling (
    message_field 1 (Some (digest_bytes f.command)) ++
    bool_field 7 f.do_not_cache ++
    bytes_field 9 f.salt ++
    message_field 10 (platform_entry f.platform))

-- ---- what bytes say, or the first refusal: the shape, the digest and the platform, whether the
-- digest is there

abbrev pub frame_in : List Record → Result FrameValue MessageError
frame_in rs =
    in_option decoded_digest (message_at 1 rs) >>= λ found.
    platform_at (message_at 10 rs) >>= λ platform.
    required 1 found >>= λ command.
    Ok (record {
      command = command;
      do_not_cache = bool_at 7 rs;
      salt = bytes_at 9 rs;
      platform = platform;
    })

unfoldable pub decoded_frame : List ℕ → Result FrameValue MessageError
decoded_frame bytes = shape_checked frame_shape bytes >>= frame_in
