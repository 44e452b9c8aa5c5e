use Rattle.canonical.proofs.Integers.{negative_ten}
use Rattle.canonical.proofs.writing.write_int64.Goals as goal

pub returns-clause-ten_bytes : goal.returns-clause-ten_bytes
returns-clause-ten_bytes g c = λ negative. negative_ten c.args.value c.ranges.value negative
