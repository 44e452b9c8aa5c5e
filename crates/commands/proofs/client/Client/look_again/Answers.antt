use Rattle.std.proofs.Common.{subst, sym}
use Rattle.std.specs.Prelude.{IfNone, IfOk}
use Rattle.commands.specs.Places.{LacksIt}
use Rattle.commands.proofs.client.Client.look_again.Goals as goal

pub returns-in-Blob : goal.returns-in-Blob
returns-in-Blob g c = record {
  lacked = subst (λ l. IfOk c.fetch.result (λ found. IfNone found (∥ LacksIt g.U.Permit.access g.K.Opened.start l ∥₁))) (sym c.in-Blob.is) c.fetch.ensures.lacked;
}

pub returns-in-ActionResult : goal.returns-in-ActionResult
returns-in-ActionResult g c = record {
  lacked = subst (λ l. IfOk c.result.result (λ found. IfNone found (∥ LacksIt g.U.Permit.access g.K.Opened.start l ∥₁))) (sym c.in-ActionResult.is) c.result.ensures.lacked;
}
