-- A result of no outputs, which is the message without bytes.
use Rattle.std.proofs.Common.{◌≡◌, Some, [], refl}
use Rattle.canonical.specs.Fields.{bytes_at, elements_at, int32_at, message_at, number_at}
use Rattle.canonical.specs.Known.{any_checked}
use Rattle.wire.specs.Reading.{fields_by, fields_within, record_by}
use Rattle.action_messages.specs.ActionResult.{action_result_of, paths_checked}
use Rattle.action_messages.specs.Unordered.{any_stream_at, unordered, unordered_in}
use Rattle.action_cache.specs.Reading.{references_in, said_result}

pub empty_read : references_in [] ≡ Some []
unfolding said_result unordered unordered_in any_stream_at action_result_of paths_checked any_checked fields_by fields_within record_by bytes_at elements_at int32_at number_at message_at
empty_read = refl
