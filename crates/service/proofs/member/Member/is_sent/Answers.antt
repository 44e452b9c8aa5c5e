use Rattle.std.proofs.Common.{◌≡◌, length, sym, ◌∙◌, ap, arith}
use Rattle.std.proofs.lemmas.Bool.{leb-true}
use Rattle.service.specs.Member.{MemberValue, unsent_of}
use Rattle.service.proofs.Sending.{whole_sent}
use Rattle.service.proofs.member.Member.is_sent.Goals as goal

pub returns-else-self-head : goal.returns-else-self-head
returns-else-self-head g c =
    let short = c.if-self-head.false in
    let head = ap length c.head-head.ensures in
    let view : unsent_of c.self.inside.answer c.self.inside.sent ≡ c.args.self.now.unsent = ap (λ (z : MemberValue g.row.S.Denot). z.unsent) c.self.view_is in (
      λ is. let long = leb-true (length c.head-head.result.now) c.self.inside.sent is in absurd (omega (arith, short, long)),
      λ none. let long = (whole_sent c.in-Some.answer c.self.inside.sent (ap (λ o. unsent_of o c.self.inside.sent) (sym c.in-Some.is) ∙ view ∙ none)).0 in absurd (omega (arith, short, long, head)),
    )
