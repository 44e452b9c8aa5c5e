-- What is read and kept by nothing has a digest.
use Rattle.std.proofs.Common.{◌≡◌, ◌∙◌, ℕ, List, [], ◌∷◌, ◌++◌, Option, Result, Ok, Err, OnOk, ap, codes, inl, inr, subst, sym}
use Rattle.std.specs.Prelude.{Bool}
use Rattle.std.specs.Io.KnownBytes.{Appends}
use Rattle.blob_digest.specs.Digest.{DigestValue}
use Rattle.blob_digest.specs.Text.{digest_text}
use Rattle.clap.specs.Words.{Row}
use Rattle.command_lines.specs.CommandLine.{option_text}
use Rattle.commands.specs.Digested.{IsDigestAsked, PrintsDigestRead, reads_bits}
use Rattle.commands.specs.Evidence.{IsFolderClaim}
use Rattle.commands.specs.Faults.{OrMemory}
use Rattle.commands.specs.Read.{IsDigestAt, IsTreeReadAt, ReadBlob}
use Rattle.commands.specs.Walked.{TakesPath, TakesTree}
use Rattle.commands.specs.ReadRefused.{FailsReading, FailsTaking, IsErrorOfStop, Stop, StopsBelow, at_blob, for_error}
use Rattle.commands.specs.World.{Sight}
use Rattle.commands.specs.declared.error.CommandError.{CommandError}

module _ {T : Type 0} (takes : T → T → ReadBlob → Type 0) (sees : Sight) (bits : Bool) (left : ℕ) (path : List ℕ) where
  stopped : (stop : Stop) (blobs : List ReadBlob) (e : CommandError) → StopsBelow sees bits stop left path blobs → IsErrorOfStop (λ blob x. ⊥) stop e → FailsReading sees bits left path e
  stopped (for_error x) blobs e stops is = record { blobs = blobs; stops = subst (λ y. StopsBelow sees bits (for_error y) left path blobs) (sym is) stops }
  stopped (at_blob blob) blobs e stops is = absurd is

  pub only_unread : (old : T) (e : CommandError) → FailsTaking takes (λ now blob x. ⊥) sees bits left path old e → FailsReading sees bits left path e
  only_unread old e h = stopped h.stop h.blobs e h.stops h.told

-- ---- the options

-- the digest that was read is the one that the options ask for
pub asked_read : {T : Type 0} (takes : T → T → ReadBlob → Type 0) (sees : Sight) (options : List Row) (bits : Bool) (path : List ℕ) (digest : DigestValue) (old new : T)
    → bits ≡ reads_bits options → path ≡ option_text options (codes "path") → TakesPath takes sees bits path digest old new → IsDigestAsked sees options digest
asked_read takes sees options bits path digest old new is at h =
    record { blobs = h.blobs; read = subst (λ b. IsDigestAt sees b (option_text options (codes "path")) digest h.blobs) is (subst (λ p. IsDigestAt sees bits p digest h.blobs) at h.read) }

pub asked_unread : {T : Type 0} (takes : T → T → ReadBlob → Type 0) (sees : Sight) (options : List Row) (bits : Bool) (left : ℕ) (path : List ℕ) (old : T) (e : CommandError)
    → bits ≡ reads_bits options → FailsTaking takes (λ now blob x. ⊥) sees bits left path old e → FailsReading sees (reads_bits options) left path e
asked_unread takes sees options bits left path old e is h = subst (λ b. FailsReading sees b left path e) is (only_unread takes sees bits left path old e h)

pub or_unread : {T : Type 0} {takes : T → T → ReadBlob → Type 0} {sees : Sight} {bits : Bool} {path : List ℕ} {old : T} {e : CommandError} (options : List Row) (left : ℕ) (other : List ℕ)
    → bits ≡ reads_bits options → path ≡ other → OrMemory (FailsTaking takes (λ now blob x. ⊥) sees bits left path old) e → OrMemory (FailsReading sees (reads_bits options) left other) e
or_unread options left other is at (inl memory) = inl memory
or_unread {takes = takes} {sees = sees} {bits = bits} {path = path} {old = old} {e = e} options left other is at (inr h) =
    inr (subst (λ p. FailsReading sees (reads_bits options) left p e) at (asked_unread takes sees options bits left path old e is h))

pub printed_read : {E : Type 0} (sees : Sight) (options : List Row) (digest : DigestValue) (old new : Option (List ℕ)) (result : Result (Unit {0}) E) → IsDigestAsked sees options digest
    → OnOk result (Appends old new (digest_text digest ++ 10 ∷ [])) → OnOk result (PrintsDigestRead sees options old new)
printed_read sees options digest old new (Ok u) asked printed = record { digest = digest; asked = asked; printed = printed }
printed_read sees options digest old new (Err e) asked printed = tt

-- the text of the tree's digest is the claim
pub folder_claim : {T : Type 0} (takes : T → T → ReadBlob → Type 0) (sees : Sight) (options : List Row) (bits : Bool) (folder text : List ℕ) (digest : DigestValue) (old new : T)
    → bits ≡ reads_bits options → TakesTree takes sees bits 64 folder digest old new → text ≡ digest_text digest → IsFolderClaim sees options folder text
folder_claim takes sees options bits folder text digest old new is h named = record {
  tree = h.tree;
  read = subst (λ b. IsTreeReadAt sees b folder h.tree) is h.read;
  within = h.within;
  is = named ∙ ap digest_text h.named;
}
