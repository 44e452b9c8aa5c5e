use Rattle.std.proofs.Common.{map}
use Rattle.http_core.specs.Event.{event_of}
use Rattle.cache_server.proofs.Telling.{TellsOn}
use Rattle.cache_server.proofs.answering.answer_all.Given as goal

abbrev pub invariant-loop-event : goal.invariant-loop-event
invariant-loop-event g l = record {
  can : (goal.iterator-loop-event g).can_next l.event-iterator;
  ends : (goal.iterator-loop-event g).is_finite l.event-iterator;
  told : TellsOn l.fn.cache (map event_of l.fn.events.items) (map event_of l.event-iterator.rest.items) (g.W.Outgoing.contents l.fn.writer) (g.W.Outgoing.contents l.writer) l.cache;
  pieces : g.W.Outgoing.in_pieces l.fn.writer → g.W.Outgoing.in_pieces l.writer;
}
