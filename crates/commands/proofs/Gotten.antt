-- What a get wrote, over the connection that was opened, or why nothing was written.
use Rattle.std.proofs.Common.{◌≡◌, ℕ, List, inr, subst, sym, Ok, Err, IfErr, IfOk, OnErr, string_bytes}
use Rattle.std.specs.Prelude.{Option, Result, codes}
use Rattle.std.specs.declared.alloc.Global.{Global}
use Rattle.blob_digest.specs.Digest.{DigestValue}
use Rattle.blob_source.specs.Memory.{TellsNothing}
use Rattle.blob_source.specs.Source.{Telling}
use Rattle.checkout.specs.Refused.{FailsCheckout}
use Rattle.checkout.specs.Written.{AsksUpTo}
use Rattle.checkout.specs.declared.error.CheckoutError.{CheckoutError}
use Rattle.clap.specs.Words.{Row, first_of}
use Rattle.command_lines.specs.CommandLine.{option_text}
use Rattle.remote.specs.Line.{ConnectionValue}
use Rattle.text_verifier.specs.Texts.{IsDigestText}
use Rattle.commands.specs.Faults.{OrMemory}
use Rattle.commands.specs.GetRefused.{FailsGet, FailsGot, FailsGetTree, TellsCheckout}
use Rattle.commands.specs.GetRefused.FailsGet.{in_memory, in_work}
use Rattle.commands.specs.Options.{IsServerOf}
use Rattle.commands.specs.Places.{IsConnected, IsToldOver, gets_alone}
use Rattle.commands.specs.Printed.{BeginsGot, GetsAsked, GetsPart, IsGot, StartsGet}
use Rattle.commands.specs.Words.{AllValid, server_words}
use Rattle.commands.specs.World.{Sight}
use Rattle.commands.specs.declared.connecting.ServerOptions.{ServerOptions}
use Rattle.commands.specs.declared.ended.Ended.{Ended}
use Rattle.commands.specs.declared.error.CommandError.{CommandError}
use Rattle.commands.proofs.Placed.{opened_to}
use Rattle.commands.proofs.Refused.{or_memory, or_weaker}

pub on_err : {T E : Type 0} {P Q : Type 0} (r : Result T E) → OnErr r P → (P → Q) → OnErr r Q
on_err (Ok x) h by = h
on_err (Err e) h by = by h

pub tree_fails : (sees : Sight) (start : ConnectionValue) (address : List ℕ) (digest : DigestValue) (folder : List ℕ) (before told : Telling)
    (error : CheckoutError Global) (e : CommandError) → TellsNothing before → ∥ IsToldOver gets_alone start told ∥₁
    → FailsCheckout sees.holds sees.unwritten sees.tries (AsksUpTo digest before told) told.blobs digest folder error
    → OrMemory (TellsCheckout start address error) e → OrMemory (FailsGetTree sees start address digest folder) e
tree_fails sees start address digest folder before told error e nothing over fails = or_weaker (TellsCheckout start address error) (FailsGetTree sees start address digest folder) e
    (λ tells. record { before = before; nothing = nothing; told = told; over = over; error = error; fails = fails; tells = tells })

-- ---- by the options

-- what a get over that connection came to, with words of this folder or with none
pub record EndsGet (sees : Sight) (start : ConnectionValue) (address : List ℕ) (digest : DigestValue) (into : Option (List ℕ)) (old new : Option (List ℕ))
    (result : Result Ended CommandError) : Type 0 where
  pub got : IfOk result (IsGot sees into start address digest old new)
  pub begun : OnErr result (BeginsGot sees into start digest old new)
  pub fails : IfErr result (OrMemory (FailsGot sees into start address digest))

-- it is what the options ask for
pub record GetsByOptions (sees : Sight) (options : List Row) (old new : Option (List ℕ)) (result : Result Ended CommandError) : Type 0 where
  pub answered : IfOk result (GetsAsked sees options old new)
  pub begun : OnErr result (GetsPart sees options old new)
  pub refused : IfErr result (FailsGet sees options)

module _ (sees : Sight) (options : List Row) (start : ConnectionValue) (digest : DigestValue) (server : ServerOptions) (named : IsServerOf options server)
    (words : AllValid (server_words options)) (spelled : IsDigestText (option_text options (codes "digest")) digest) (opened : IsConnected sees server start)
    (into : Option (List ℕ)) (is : first_of (codes "into") options ≡ into) (old new : Option (List ℕ)) where
  starts : StartsGet sees options digest start
  starts = record { words = words; spelled = spelled; opened = opened_to sees options server start named opened }

  pub by_options : (result : Result Ended CommandError) → EndsGet sees start (string_bytes server.address) digest into old new result → GetsByOptions sees options old new result
  by_options (Ok ended) h = record {
    answered = record {
      digest = digest;
      start = start;
      starts = starts;
      got = subst (λ o. IsGot sees o start (option_text options (codes "server")) digest old new ended) (sym is)
          (subst (λ a. IsGot sees into start a digest old new ended) named.address h.got);
    };
    begun = tt;
    refused = tt;
  }
  by_options (Err e) h = record {
    answered = tt;
    begun = inr (digest, start, starts, subst (λ o. BeginsGot sees o start digest old new) (sym is) h.begun);
    refused = or_memory (FailsGot sees into start (string_bytes server.address) digest) (FailsGet sees options) e in_memory
        (λ fails. in_work digest start starts
        (subst (λ o. FailsGot sees o start (option_text options (codes "server")) digest e) (sym is) (subst (λ a. FailsGot sees into start a digest e) named.address fails))) h.fails;
  }
