use Rattle.std.proofs.Common.{length}
use Rattle.cache_server.proofs.Written.{IsWritten}
use Rattle.cache_server.proofs.writing.write_out.Given as goal

abbrev pub invariant-loop-rest : goal.invariant-loop-rest
invariant-loop-rest g l = record {
  written : IsWritten (g.W.Outgoing.contents l.fn.writer) (g.W.Outgoing.contents l.writer) l.fn.bytes l.rest;
  pieces : g.W.Outgoing.in_pieces l.fn.writer → g.W.Outgoing.in_pieces l.writer;
}

abbrev pub decreases-loop-rest : goal.decreases-loop-rest
decreases-loop-rest g l = length l.rest
