-- What keeps the Directories of what is read.
use Rattle.std.proofs.Common.{◌≡◌, ◌∙◌, ◌++◌, ◌∷◌, ℕ, List, [], ap, append-nil, append_assoc, subst, sym}
use Rattle.std.specs.Prelude.{Bool}
use Rattle.blob_digest.specs.Digest.{DigestValue}
use Rattle.clap.specs.Words.{Row}
use Rattle.commands.specs.Digested.{reads_bits}
use Rattle.commands.specs.FolderRead.{IsFolderRead, ReadValue}
use Rattle.commands.specs.Read.{IsTreeReadAt, ReadBlob, TakesAll, blobs_of, directories_in, directory_in}
use Rattle.commands.specs.Walked.{TakesTree}
use Rattle.commands.specs.World.{Sight}

module _ {S : Type 0} (kept : S → List (List ℕ)) where
  abbrev pub Keeps : S → S → ReadBlob → Type 0
  Keeps old new blob = kept new ≡ kept old ++ directory_in blob

  pub all_kept : (blobs : List ReadBlob) (old new : S) → TakesAll Keeps old new blobs → kept new ≡ kept old ++ directories_in blobs
  all_kept [] old new h = ap kept h ∙ sym (append-nil (kept old))
  all_kept (b ∷ blobs) old new h =
      all_kept blobs h.0 new h.2 ∙ ap (λ l. l ++ directories_in blobs) h.1 ∙ append_assoc (kept old) (directory_in b) (directories_in blobs)

  pub folder_read : (sees : Sight) (options : List Row) (bits : Bool) (folder : List ℕ) (digest : DigestValue) (old new : S) → bits ≡ reads_bits options → kept old ≡ []
      → TakesTree Keeps sees bits 64 folder digest old new → IsFolderRead sees options folder (record { digest = digest; directories = kept new })
  folder_read sees options bits folder digest old new is none h = record {
    tree = h.tree;
    read = subst (λ b. IsTreeReadAt sees b folder h.tree) is h.read;
    within = h.within;
    digest = h.named;
    directories = all_kept (blobs_of h.tree) old new h.taken ∙ ap (λ l. l ++ directories_in (blobs_of h.tree)) none;
  }
