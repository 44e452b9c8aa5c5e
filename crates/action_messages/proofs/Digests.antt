-- Fields that hold a digest.
use Rattle.std.proofs.Common.{◌≡◌, ℕ, List, Option, Some, Ok, ap, subst, ◌∙◌, option_map}
use Rattle.std.specs.Prelude.{IfSome}
use Rattle.wire.specs.Record.{Record}
use Rattle.canonical.specs.Columns.{column}
use Rattle.canonical.specs.Fields.{message_field, message_at}
use Rattle.canonical.specs.Told.{in_option}
use Rattle.canonical.proofs.Codec.{option_found, option_only}
use Rattle.canonical.proofs.FieldKinds.{message_again}
use Rattle.canonical.proofs.Sound.{AreSound, option_sound}
use Rattle.blob_digest.specs.DigestValue.{DigestValue, IsDigest}
use Rattle.messages.specs.DigestMessage.{digest_bytes, decoded_digest}
use Rattle.messages.proofs.DigestCodec.{digest_codec}
use Rattle.messages.specs.Told.{required}
use Rattle.action_messages.proofs.Strings.{required_found}

pub optional_found : (n : ℕ) (rs : List Record) (o : Option DigestValue) → AreSound rs → column n rs ≡ message_field n (message_at n rs) → in_option decoded_digest (message_at n rs) ≡ Ok o
    → IfSome o IsDigest × (column n rs ≡ message_field n (option_map digest_bytes o))
optional_found n rs o s column_is read =
    let f = option_found decoded_digest digest_bytes IsDigest digest_codec (message_at n rs) o (option_sound n rs (message_at n rs) s column_is) read in
    (f.0, column_is ∙ ap (message_field n) f.1)

pub optional_again : (n : ℕ) (rs : List Record) (o : Option DigestValue) → AreSound rs → IfSome o IsDigest → column n rs ≡ message_field n (option_map digest_bytes o) → in_option decoded_digest (message_at n rs) ≡ Ok o
optional_again n rs o s k column_is =
    ap (in_option decoded_digest) (message_again n rs (option_map digest_bytes o) column_is) ∙ option_only decoded_digest digest_bytes IsDigest digest_codec o (option_sound n rs (option_map digest_bytes o) s column_is) k

abbrev IsField : ℕ → List Record → Option DigestValue → Type 0
IsField n rs o = IfSome o IsDigest × (column n rs ≡ message_field n (option_map digest_bytes o))

pub digest_found : (n : ℕ) (rs : List Record) (o : Option DigestValue) (d : DigestValue) → AreSound rs → column n rs ≡ message_field n (message_at n rs) → in_option decoded_digest (message_at n rs) ≡ Ok o → required n o ≡ Ok d
    → IsDigest d × (column n rs ≡ message_field n (Some (digest_bytes d)))
digest_found n rs o d s column_is read there = subst (IsField n rs) (required_found n o d there) (optional_found n rs o s column_is read)
