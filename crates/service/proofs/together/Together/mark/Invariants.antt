use Rattle.std.proofs.Common.{◌≡◌, drop}
use Rattle.std.specs.Prelude.{◌||◌}
use Rattle.std.specs.List.{list_any}
use Rattle.std.specs.Option.{is_none}
use Rattle.service.specs.Together.{AreSeenTo}
use Rattle.service.proofs.Marking.{ToTell}
use Rattle.service.proofs.together.Together.mark.Given as goal

abbrev pub invariant-loop-event : goal.invariant-loop-event
invariant-loop-event g l = record {
  seen : AreSeenTo g.S.Peer.full g.S.Peer.dry l.fn.self → AreSeenTo g.S.Peer.full g.S.Peer.dry l.self;
  rest : l.self ≡ record l.fn.self { members = l.self.members; ready = l.self.ready; short = l.self.short; waits = l.self.waits };
  told : ToTell l.events (drop l.event-index l.events) l.fn.self.members.entries l.self.members.entries;
  waits : (l.self.waits || list_any (λ e. is_none e.number) (drop l.event-index l.events)) ≡ (l.fn.self.waits || list_any (λ e. is_none e.number) l.events);
}
