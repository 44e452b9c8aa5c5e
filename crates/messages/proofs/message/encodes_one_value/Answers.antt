use Rattle.canonical.proofs.Codec.{one_value}
use Rattle.messages.proofs.message.encodes_one_value.Goals as goal

pub returns : goal.returns
returns g c = λ bytes a b sized ka kb ea eb. one_value g.M.Message.reads g.M.Encode.spells g.M.Message.keeps c.is_exact.ensures bytes a b sized ka kb ea eb
