use Rattle.std.proofs.Common.{arith}
use Rattle.action_cache.specs.CacheError.{IsNoResult, of_message}
use Rattle.action_cache.proofs.Said.{outputs_read, unread}
use Rattle.action_cache.proofs.Mirrors.{told}
use Rattle.action_cache.proofs.reference.read_result.Goals as goal

pub returns-in_err-action_result-clause-refused : goal.returns-in_err-action_result-clause-refused
returns-in_err-action_result-clause-refused g c =
    let bytes = c.args.bytes.now in
    told c.from_residual.result (of_message c.in_err-action_result.field-0.0) (λ e. IsNoResult e bytes) c.from_residual.ensures.1
    (unread bytes (λ i. omega (arith, c.type_inv.bytes i)) c.in_err-action_result.field-0.0 c.in_err-action_result.ensures.refused)

pub returns-clause-read : goal.returns-clause-read
returns-clause-read g c = outputs_read c.in_ok-action_result.action_result c.args.bytes.now (λ i. omega (arith, c.type_inv.bytes i)) c.in_ok-action_result.ensures.found
