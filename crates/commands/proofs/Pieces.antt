-- What was read in pieces, and hashed.
use Rattle.std.proofs.Common.{◌≡◌, ◌∙◌, ℕ, List, [], ◌++◌, Option, None, Some, ap, append-nil, subst}
use Rattle.std.specs.Prelude.{IfSome}
use Rattle.std.specs.Io.KnownBytes.{Consumes, IsAtEnd}
use Rattle.std.proofs.KnownBytes.{Consumes-nil, Consumes-trans}
use Rattle.blob_digest.specs.Digest.{DigestValue, digest_of}
use Rattle.blob_digest.specs.Hashing.{HasTaken}
use Rattle.blob_digest.specs.declared.hasher.Hasher.{Hasher}
use Rattle.commands.specs.Hashed.{IsDigestOfRest}

-- the hasher has taken what was read since the reader stood as at first
pub record IsHashedSoFar (old now : Option (List ℕ)) (hasher : Hasher) : Type 0 where
  pub bytes : List ℕ
  pub taken : HasTaken hasher bytes
  pub read : Consumes old now bytes

pub nothing_hashed : (old : Option (List ℕ)) (hasher : Hasher) → HasTaken hasher [] → IsHashedSoFar old old hasher
nothing_hashed old hasher taken = record { bytes = []; taken = taken; read = Consumes-nil old }

pub more_hashed : (old mid new : Option (List ℕ)) (hasher more : Hasher) (piece : List ℕ) → IsHashedSoFar old mid hasher → Consumes mid new piece
    → ((bytes : List ℕ) → HasTaken hasher bytes → HasTaken more (bytes ++ piece)) → IsHashedSoFar old new more
more_hashed old mid new hasher more piece so_far read takes =
    record { bytes = so_far.bytes ++ piece; taken = takes so_far.bytes so_far.taken; read = Consumes-trans old mid new so_far.bytes piece so_far.read read }

all_read : (old new : Option (List ℕ)) (bytes : List ℕ) → Consumes old new bytes → IsAtEnd new → IfSome old (λ all. all ≡ bytes)
all_read None new bytes read end = tt
all_read (Some all) None bytes read end = absurd read
all_read (Some all) (Some rest) bytes read end = read ∙ ap (λ l. bytes ++ l) end ∙ append-nil bytes

pub all_hashed : (old mid new : Option (List ℕ)) (hasher : Hasher) (digest : DigestValue) → IsHashedSoFar old mid hasher → Consumes mid new [] → IsAtEnd new
    → ((bytes : List ℕ) → HasTaken hasher bytes → digest ≡ digest_of bytes) → IsDigestOfRest old digest
all_hashed old mid new hasher digest so_far read end named = record {
  bytes = so_far.bytes;
  named = named so_far.bytes so_far.taken;
  whole = all_read old new so_far.bytes (subst (Consumes old new) (append-nil so_far.bytes) (Consumes-trans old mid new so_far.bytes [] so_far.read read)) end;
}
