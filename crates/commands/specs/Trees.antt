-- What `get --into` comes to.
use Rattle.std.specs.Prelude.{◌≡◌, ◌⊎◌, ℕ, List, ◌++◌, Option, None, Some, codes}
use Rattle.std.specs.Io.KnownBytes.{Appends}
use Rattle.std.specs.declared.alloc.Global.{Global}
use Rattle.blob_digest.specs.Digest.{DigestValue}
use Rattle.blob_digest.specs.Text.{digest_text}
use Rattle.blob_source.specs.Memory.{TellsNothing}
use Rattle.blob_source.specs.Source.{Telling}
use Rattle.checkout.specs.Refused.{FailsCheckout}
use Rattle.checkout.specs.Written.{AsksEachOnce, AsksUpTo, CheckoutLooksAt, HoldsTree, TriesTree}
use Rattle.checkout.specs.declared.error.CheckoutError.{CheckoutError}
use Rattle.checkout.specs.declared.error.CheckoutError.TheVariants.{Missing}
use Rattle.http_core.specs.declared.event.Area.TheVariants.{Cas}
use Rattle.remote.specs.Line.{ConnectionValue}
use Rattle.tree.specs.Memo.{AsksNoOther}
use Rattle.commands.specs.Places.{IsToldOver, LacksOver, gets_alone}
use Rattle.commands.specs.Told.{AppendsBeginning}
use Rattle.commands.specs.World.{Sight}
use Rattle.commands.specs.declared.ended.Ended.{Ended}
use Rattle.commands.specs.declared.ended.Ended.TheVariants.{Done, No}

-- the line of a blob that the server lacks
abbrev pub missing_line : DigestValue → List ℕ
missing_line digest = codes "missing " ++ digest_text digest ++ codes "\n"

-- The tree that was told over the connection, which was asked nothing before, was written into the
-- folder, each entry tried once, and nothing was printed. No call asked for anything but the tree's
-- Directories and its files' contents, each at most once.
pub record WritesTree (sees : Sight) (start : ConnectionValue) (digest : DigestValue)
    (folder : List ℕ) (old new : Option (List ℕ)) : Type 0 where
  pub before : Telling
  pub nothing : TellsNothing before
  pub told : Telling
  pub over : ∥ IsToldOver gets_alone start told ∥₁
  pub few : AsksEachOnce digest before told
  pub only : AsksNoOther (CheckoutLooksAt told.blobs digest) before told
  pub tried : TriesTree sees.tries told.blobs digest folder
  pub holds : HoldsTree sees.holds told.blobs digest folder
  pub unprinted : new ≡ old

-- The tree wasn't written since a blob of it is missing: the reply over the connection was that
-- there is none, and the line of that was appended, or as much of it as is said here.
pub record PrintsLack (start : ConnectionValue) (error : CheckoutError Global)
    (appends : List ℕ → Type 0) : Type 0 where
  pub lacked : DigestValue
  pub is : error ≡ Missing lacked
  pub replied : ∥ LacksOver gets_alone start Cas lacked.hash ∥₁
  pub printed : appends (missing_line lacked)

-- The tree wasn't written, by what was told of it over the connection, since a blob is missing.
-- Nothing was asked behind what is at fault.
pub record LacksTree (sees : Sight) (start : ConnectionValue) (digest : DigestValue)
    (folder : List ℕ) (appends : List ℕ → Type 0) : Type 0 where
  pub before : Telling
  pub nothing : TellsNothing before
  pub told : Telling
  pub over : ∥ IsToldOver gets_alone start told ∥₁
  pub error : CheckoutError Global
  pub fails : FailsCheckout sees.holds sees.unwritten sees.tries (AsksUpTo digest before told)
      told.blobs digest folder error
  pub lacks : PrintsLack start error appends

-- one of both, and the line of a blob stands without a note
abbrev pub IsTreeGot : Sight → ConnectionValue → DigestValue → List ℕ → Option (List ℕ)
    → Option (List ℕ) → Ended → Type 0
IsTreeGot sees start digest folder old new Done = WritesTree sees start digest folder old new
IsTreeGot sees start digest folder old new (No None) =
    LacksTree sees start digest folder (Appends old new)
IsTreeGot sees start digest folder old new (No (Some note)) = ⊥

-- nothing was printed, or a beginning of that line
abbrev pub BeginsLack : Sight → ConnectionValue → DigestValue → List ℕ → Option (List ℕ)
    → Option (List ℕ) → Type 0
BeginsLack sees start digest folder old new =
    (new ≡ old) ⊎ LacksTree sees start digest folder (AppendsBeginning old new)
