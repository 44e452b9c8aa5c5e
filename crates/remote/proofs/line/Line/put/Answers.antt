use Rattle.std.proofs.Common.{refl, sym, ◌∙◌}
use Rattle.remote.specs.Line.{line_value, put}
use Rattle.remote.specs.Reply.{reply_value}
use Rattle.remote.proofs.Lines.{refuses_status}
use Rattle.remote.proofs.line.Line.put.Goals as goal

pub returns-clause-refused : goal.returns-clause-refused
returns-clause-refused g c =
    let flow = g.S.Stream.flow in
    refuses_status (line_value flow c.args.self.now) (line_value flow c.ask.new.self) (line_value flow c.fail.new.self) (put c.args.area c.args.digest.now.hash c.args.bytes.now) (reply_value c.in_ok-reply.reply) c.in_ok-reply.reply.status c.fail.result
    c.in_ok-reply.ensures.asked refl (sym c.is_taken.ensures ∙ c.if-is_taken.false) c.fail.ensures
