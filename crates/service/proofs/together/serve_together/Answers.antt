use Rattle.service.proofs.Failing.{if_err, on_ok}
use Rattle.service.proofs.Whole.{led_by_served}
use Rattle.service.proofs.together.serve_together.Goals as goal

pub returns-clause-ok : goal.returns-clause-ok
returns-clause-ok g c = on_ok c.serve_sockets.result (led_by_served _ _ _ c.args.server.now c.args.connections c.serve_sockets.new.server) c.serve_sockets.ensures.ok

pub returns-clause-err : goal.returns-clause-err
returns-clause-err g c = if_err c.serve_sockets.result (λ fault. led_by_served _ _ _ c.args.server.now fault.accepted c.serve_sockets.new.server) c.serve_sockets.ensures.err
