use Rattle.std.proofs.Math.Logic.{∥∥₁_map}
use Rattle.remote.specs.Folder.{telling_of}
use Rattle.commands.proofs.recalling.recall_folder.Goals as goal

pub returns-then-confirms-clause-recalled : goal.returns-then-confirms-clause-recalled
returns-then-confirms-clause-recalled g c = record {
  told = telling_of c.recall.new.source.store;
  source = ∥∥₁_map c.recall.new.source.told (λ is. is.told);
  recalled = c.in-Ok.ensures.recalled;
  lacks = c.confirms.ensures c.if-confirms.true;
}
