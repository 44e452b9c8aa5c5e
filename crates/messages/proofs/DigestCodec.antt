-- The message Digest is read from its one encoding.
use Rattle.std.proofs.Common.{◌≡◌, ℕ, List, [], ◌∷◌, ◌++◌, Ok, refl, ap, subst, ◌∙◌}
use Rattle.std.proofs.lemmas.List.{append-nil}
use Rattle.wire.specs.Record.{Record}
use Rattle.wire.specs.Spelling.{spelling}
use Rattle.wire.proofs.Steps.{bind_ok, ok_is}
use Rattle.canonical.specs.declared.shape.Kind.TheVariants as kinds
use Rattle.canonical.specs.Codec.{IsCodec}
use Rattle.canonical.specs.Columns.{column}
use Rattle.canonical.proofs.Columns.{Part, joined}
use Rattle.canonical.proofs.Codec.{IsMessage, codec, codec_as}
use Rattle.messages.specs.declared.error.MessageError.{MessageError}
use Rattle.messages.specs.Told.{told}
use Rattle.std.proofs.Common.{◌≤◌, ◌<◌, arith}
use Rattle.std.specs.Prelude.{ℤ, pos, negsuc, FitsSigned, ◌^◌}
use Rattle.std.specs.Int.{w64}
use Rattle.canonical.specs.Fields.{bytes_field, int_field, bytes_at, int64_at}
use Rattle.canonical.proofs.FieldKinds.{bytes_column, int64_column, bytes_again, int64_read, bytes_is, int64_is, int64_at-fits}
use Rattle.hex.specs.Hex.{encode_lower}
use Rattle.blob_digest.specs.DigestValue.{DigestValue, IsDigest, greatest_size}
use Rattle.messages.specs.Shapes.{single}
use Rattle.messages.specs.DigestMessage.{digest_shape, digest_bytes, hash_of, size_of, digest_in, decoded_digest}
use Rattle.messages.proofs.Hashes.{hash_found, hash_again, hash_utf8}

pub size_found : (z : ℤ) (n : ℕ) → size_of z ≡ Ok n → z ≡ pos n
size_found (pos m) n e = let same : m ≡ n = ok_is {E = MessageError} m n e in ap pos same
size_found (negsuc m) n e = absurd cc

pub size_small : (z : ℤ) (n : ℕ) → FitsSigned w64 z → z ≡ pos n → n ≤ greatest_size
size_small (pos m) n f e = let low : m < 2 ^ 63 = f.sfits in let same : m ≡ n = cc in omega arith
size_small (negsuc m) n f e = absurd cc

pub small_fits : (n : ℕ) → n ≤ greatest_size → FitsSigned w64 (pos n)
small_fits n h = record { sfits = let lt : n < 2 ^ 63 = omega arith in lt }

abbrev pub digest_parts : DigestValue → List Part
digest_parts d = (single 1 kinds.String, bytes_field 1 (encode_lower d.hash)) ∷ (single 2 kinds.Int64, int_field 2 (pos d.size)) ∷ []

pub digest_message : IsMessage digest_shape digest_in digest_parts IsDigest
digest_message = record {
  ascends = refl;
  found = λ rs d s shape e.
      let a = bind_ok (hash_of (bytes_at 1 rs)) _ d e in
      let g = bind_ok (size_of (int64_at 2 rs)) (λ size. Ok (record { hash = a.0; size = size })) d a.2 in
      let h = hash_found (bytes_at 1 rs) a.0 a.1 in
      let z = size_found (int64_at 2 rs) g.0 g.1 in
      let small = size_small (int64_at 2 rs) g.0 (int64_at-fits 2 rs s) z in
      let made : DigestValue = record { hash = a.0; size = g.0 } in
      let c1 : column 1 rs ≡ bytes_field 1 (encode_lower a.0) = bytes_column (single 1 kinds.String) rs shape.kept.0 refl refl refl ∙ ap (bytes_field 1) h.1 in
      let c2 : column 2 rs ≡ int_field 2 (pos g.0) = int64_column (single 2 kinds.Int64) rs s shape.kept.1.0 refl refl ∙ ap (int_field 2) z in
      let parts : rs ≡ joined (digest_parts made) = shape.parts ∙ rw (c1, c2) refl in
      subst (λ (x : DigestValue). IsDigest x × (rs ≡ joined (digest_parts x))) (ok_is {E = MessageError} made d g.2) (record { hash = h.0; size = small }, parts);
  shape = λ d k. (
    refl,
    (
      bytes_is (single 1 kinds.String) (encode_lower d.hash) refl refl refl (hash_utf8 d.hash k.hash),
      (int64_is (single 2 kinds.Int64) (pos d.size) refl refl (small_fits d.size k.size), tt),
    ),
  );
  only = λ d rs k s apart.
      let t = bytes_again 1 rs (encode_lower d.hash) apart.0 in
      let n = int64_read 2 rs (pos d.size) (small_fits d.size k.size) apart.1.0 in
      let h = hash_again d.hash k.hash in
      rw (t, n, h) refl;
}

pub digest_joined : (d : DigestValue) → spelling (joined (digest_parts d)) ≡ digest_bytes d
digest_joined d = ap spelling (ap (λ (l : List Record). bytes_field 1 (encode_lower d.hash) ++ l) (append-nil (int_field 2 (pos d.size))))

pub digest_codec : IsCodec decoded_digest digest_bytes IsDigest
unfolding decoded_digest
digest_codec = codec_as decoded_digest digest_bytes (codec told digest_shape digest_in digest_parts IsDigest digest_message) (λ b. refl) digest_joined
