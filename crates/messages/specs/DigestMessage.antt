-- The message Digest of remote_execution.proto: what names a blob.
-- Fields: 1 `hash` (string), the hash in lower-case hex; 2 `size_bytes` (int64), the length of the
-- blob.
use Rattle.std.specs.Prelude.{ℕ, ℤ, pos, negsuc, List, [], ◌∷◌, ◌++◌, Result, Ok, Err}
use Rattle.std.specs.Prelude.{if◌then◌else◌}
use Rattle.std.specs.List.{list_all}
use Rattle.hex.specs.Hex.{encode_lower, decode_sized}
use Rattle.hex.specs.declared.error.FromHexError.{FromHexError}
use Rattle.wire.specs.Record.{Record}
use Rattle.wire.specs.Spelling.{spelling}
use Rattle.wire.specs.Steps.{◌>>=◌}
use Rattle.canonical.specs.declared.shape.Kind.TheVariants.{Int64, String}
use Rattle.canonical.specs.declared.shape.Entry.{Entry}
use Rattle.canonical.specs.Fields.{bytes_field, int_field, bytes_at, int64_at}
use Rattle.blob_digest.specs.DigestValue.{DigestValue}
use Rattle.blob_digest.specs.Text.{is_lower_hex}
use Rattle.blob_digest.specs.declared.error.DigestError.TheVariants.{BadHex, BadSize}
use Rattle.messages.specs.declared.error.MessageError.{MessageError}
use Rattle.messages.specs.declared.error.MessageError.TheVariants.{BadDigest}
use Rattle.messages.specs.Shapes.{single}
use Rattle.messages.specs.Told.{shape_checked}

abbrev pub digest_shape : List Entry
digest_shape = single 1 String ∷ single 2 Int64 ∷ []

-- the one encoding of a digest
abbrev pub digest_bytes : DigestValue → List ℕ
digest_bytes d = spelling (bytes_field 1 (encode_lower d.hash) ++ int_field 2 (pos d.size))

-- ---- what bytes say, or the first refusal: the shape, the hash, the size

abbrev pub bytes_of_hex : Result (List ℕ) FromHexError → Result (List ℕ) MessageError
bytes_of_hex (Ok hash) = Ok hash
bytes_of_hex (Err e) = Err (BadDigest BadHex)

-- the hash of 64 lower-case hex digits
unfoldable pub hash_of : List ℕ → Result (List ℕ) MessageError
hash_of text =
    if list_all is_lower_hex text then bytes_of_hex (decode_sized text 32)
    else Err (BadDigest BadHex)

abbrev pub size_of : ℤ → Result ℕ MessageError
size_of (pos n) = Ok n
size_of (negsuc n) = Err (BadDigest BadSize)

abbrev pub digest_in : List Record → Result DigestValue MessageError
digest_in rs =
    hash_of (bytes_at 1 rs) >>= λ hash.
    size_of (int64_at 2 rs) >>= λ size.
    Ok (record { hash = hash; size = size })

unfoldable pub decoded_digest : List ℕ → Result DigestValue MessageError
decoded_digest bytes = shape_checked digest_shape bytes >>= digest_in
