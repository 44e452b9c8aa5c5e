use Rattle.std.proofs.Common.{sym}
use Rattle.action_cache.proofs.Said.{unread_none}
use Rattle.action_cache.proofs.reference.read_outputs.Goals as goal

pub returns-in-Err-BadResult : goal.returns-in-Err-BadResult
returns-in-Err-BadResult g c = sym (unread_none c.in-Err-BadResult.field-0 c.in-Err-BadResult.field-0-0 c.args.bytes.now c.in-Err-BadResult.field-0-is c.in-Err-BadResult.ensures.refused)
