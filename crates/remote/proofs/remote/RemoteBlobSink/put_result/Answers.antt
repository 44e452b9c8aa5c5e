use Rattle.http_core.specs.declared.event.Area.TheVariants.{Ac}
use Rattle.remote.specs.Line.{line_value}
use Rattle.remote.proofs.Storing.{stores_unkept, stores_unlisted}
use Rattle.remote.proofs.remote.RemoteBlobSink.put_result.Goals as goal

pub returns-in_err-keep_bytes-clause-stored : goal.returns-in_err-keep_bytes-clause-stored
returns-in_err-keep_bytes-clause-stored g c =
    let flow = g.S.Stream.flow in
    stores_unkept Ac c.args.digest.now c.args.bytes.now (line_value flow c.args.self.now.line) (line_value flow c.put.new.self) (line_value flow c.keep_bytes.new.line) c.args.self.now.results c.keep_bytes.new.table
    c.from_residual-in_err-keep_bytes.result c.in_err-keep_bytes.field-0.0 c.in_ok-put.ensures.asked c.in_err-keep_bytes.ensures.err c.from_residual-in_err-keep_bytes.ensures.1

pub returns-in_default-clause-stored : goal.returns-in_default-clause-stored
returns-in_default-clause-stored g c =
    let flow = g.S.Stream.flow in
    stores_unlisted Ac c.args.digest.now c.args.bytes.now (line_value flow c.args.self.now.line) (line_value flow c.put.new.self) (line_value flow c.starve.new.self) c.args.self.now.results c.starve.result
    c.in_ok-put.ensures.asked c.starve.ensures
