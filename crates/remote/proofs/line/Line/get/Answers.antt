use Rattle.std.proofs.Common.{◌≡◌, false, None, refl, arith}
use Rattle.remote.specs.Line.{get, is_answer, line_value}
use Rattle.remote.specs.Reply.{reply_value}
use Rattle.remote.proofs.Lines.{refuses_status}
use Rattle.remote.proofs.line.Line.get.Goals as goal

pub returns-clause-refused : goal.returns-clause-refused
returns-clause-refused g c =
    let flow = g.S.Stream.flow in
    let status = c.in_ok-reply.reply.status in
    let no_answer : is_answer None status ≡ false = grind (arith, c.if-reply-eq200.false, c.if-reply-eq404.false) in
    refuses_status (line_value flow c.args.self.now) (line_value flow c.ask.new.self) (line_value flow c.fail.new.self) (get c.args.area c.args.digest.now.hash) (reply_value c.in_ok-reply.reply) status c.fail.result
    c.in_ok-reply.ensures.asked refl no_answer c.fail.ensures
