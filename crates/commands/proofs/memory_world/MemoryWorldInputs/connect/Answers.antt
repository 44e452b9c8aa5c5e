use Rattle.std.proofs.Common.{◌≡◌, None, ap, inr, subst, sym}
use Rattle.std.specs.BTreeMap.{get_by_text}
use Rattle.blob_source.specs.Source.{bytes_of}
use Rattle.commands.proofs.memory_world.MemoryWorldInputs.connect.Goals as goal

pub returns-in-None-clause-fault : goal.returns-in-None-clause-fault
returns-in-None-clause-fault c =
    inr (c.from.ensures, subst (λ address. bytes_of (get_by_text c.args.self.now.servers address) ≡ None) c.as_str.ensures.value (ap bytes_of (sym c.in-None.ensures.value)))
