use Rattle.std.proofs.Common.{ap, arith}
use Rattle.std.proofs.lemmas.Map.Text.{text_keys}
use Rattle.blob_source.specs.Source.{bytes_of}
use Rattle.commands.proofs.memory_world.MemoryWorld.serve.Goals as goal

pub returns-clause-others : goal.returns-clause-others
returns-clause-others c = λ other not. ap bytes_of (grind (arith, text_keys))
