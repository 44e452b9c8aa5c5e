use Rattle.std.proofs.Common.{◌≤◌, arith, length}
use Rattle.cache_server.proofs.Written.{write_front, write_more}
use Rattle.cache_server.proofs.writing.write_out.Goals as goal

pub loop-rest-preserved : goal.loop-rest-preserved
loop-rest-preserved g c =
    let before = g.W.Outgoing.contents c.loop-rest.writer in
    let after = g.W.Outgoing.contents c.write.new.self in
    let few : length c.split_at.result.0.now ≤ 65536 = omega (arith, c.split_at.ensures.front_len, c.min.ensures) in
    record {
      written = write_more (g.W.Outgoing.contents c.args.writer.now) before after c.args.bytes.now c.loop-rest.rest.now c.split_at-in-loop-rest.result.1.now c.in-Ok.count c.loop-rest.invariant.written
          (write_front before after c.loop-rest.rest.now c.split_at.result.0.now c.min.result c.in-Ok.count c.split_at.ensures.front c.in-Ok.ensures.bound c.in-Ok.ensures.bytes) c.split_at-in-loop-rest.ensures.back;
      pieces = λ whole. c.write.ensures.pieces few (c.loop-rest.invariant.pieces whole);
    }
