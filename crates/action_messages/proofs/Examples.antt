-- What meets the premises of the laws: a result without outputs, which is read from no bytes, and the refusal of a record
-- that is cut.
use Rattle.std.proofs.Common.{[], ◌∷◌, None, pos, refl, inl, lit<}
use Rattle.wire.specs.declared.error.WireError.TheVariants.{Truncated}
use Rattle.wire.specs.Reading.{fields_by, fields_within, record_by}
use Rattle.wire.specs.Varint.{varint_by, groups_by}
use Rattle.canonical.specs.declared.error.CanonError.TheVariants as canon
use Rattle.canonical.specs.Known.{any_checked}
use Rattle.messages.specs.declared.error.MessageError.{MessageError}
use Rattle.messages.specs.declared.error.MessageError.TheVariants as errors
use Rattle.action_messages.specs.ActionResult.{ActionResultValue, IsActionResult, action_result_bytes}
use Rattle.action_messages.specs.Reads.{Reads}
use Rattle.action_messages.specs.Refused.{IsRefusedResult}
use Rattle.action_messages.specs.Stream.{StreamValue}
use Rattle.action_messages.proofs.Written.{canon_reads}

silent : StreamValue
silent = record { raw = []; digest = None }

pub nothing : ActionResultValue
nothing = record { files = []; directories = []; symlinks = []; exit_code = pos 0; stdout = silent; stderr = silent }

pub nothing_valid : IsActionResult nothing
unfolding nothing silent
nothing_valid = record {
  files = tt;
  directories = tt;
  symlinks = tt;
  exit_code = record { sfits = lit< tt };
  stdout = record { digest = tt };
  stderr = record { digest = tt };
  paths = record { files_ascend = tt; directories_ascend = tt; symlinks_ascend = tt; apart = tt };
}

pub nothing_read : Reads nothing []
unfolding nothing silent action_result_bytes
nothing_read = canon_reads [] nothing (lit< tt, λ i. lit< tt) nothing_valid refl

pub cut : MessageError
cut = errors.Wire (canon.Wire Truncated)

pub cut_refused : IsRefusedResult cut (128 ∷ [])
unfolding cut any_checked fields_by fields_within record_by varint_by groups_by
cut_refused = inl (inl refl)
