use Rattle.verifier.proofs.Lasting.{forgotten_missing, missing_told}
use Rattle.verifier.proofs.laws.what_is_forgotten_is_missing.Goals as goal

pub returns-clause-same : goal.returns-clause-same
returns-clause-same g c = λ more fewer sources plan recorded claim v w tells h k. forgotten_missing g.row.A.Denot fewer more tells sources plan recorded claim v w h k

pub returns-clause-told : goal.returns-clause-told
returns-clause-told g c = λ more fewer sources plan recorded claim d v place tells h other k. missing_told g.row.A.Denot fewer more tells sources plan recorded claim d v place h other k
