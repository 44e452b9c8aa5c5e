use Rattle.std.proofs.Common.{◌≡◌, [], ap, sym, ◌∙◌}
use Rattle.http_core.specs.Event.{Asked, Refused, Get, Put}
use Rattle.http_core.specs.Stream.{body_length, outcome}
use Rattle.http_core.proofs.Standing.{block_done}
use Rattle.http_core.proofs.session.Session.follow.Goals as goal

pub returns-in-Refuse-clause-follows : goal.returns-in-Refuse-clause-follows
returns-in-Refuse-clause-follows g c prefix block ends fits judged =
    (block_done prefix block c.args.judgement (Refused c.in-Refuse.status c.in-Refuse.close) ends fits judged (ap body_length c.in-Refuse.is) (sym (ap (λ j. outcome j []) c.in-Refuse.is)), c.end.ensures.state)

pub returns-in-Get-clause-follows : goal.returns-in-Get-clause-follows
returns-in-Get-clause-follows g c prefix block ends fits judged =
    (block_done prefix block c.args.judgement (Asked (Get c.in-Get.area c.in-Get.hash) c.in-Get.close) ends fits judged (ap body_length c.in-Get.is) (sym (ap (λ j. outcome j []) c.in-Get.is)), c.end-in-Get.ensures.state)

pub returns-then-length-eq0-clause-follows : goal.returns-then-length-eq0-clause-follows
returns-then-length-eq0-clause-follows g c prefix block ends fits judged =
    let none : c.seal-body.result ≡ [] = cc in
    let event = ap (λ b. Asked (Put c.in-Put.area c.in-Put.hash b) c.in-Put.close) none ∙ sym (ap (λ j. outcome j []) c.in-Put.is) in
    (block_done prefix block c.args.judgement (Asked (Put c.in-Put.area c.in-Put.hash c.seal-body.result) c.in-Put.close) ends fits judged (ap body_length c.in-Put.is ∙ c.if-length-eq0.true) event, c.end-then-length-eq0.ensures.state)
