use Rattle.verifier.proofs.TwoStepsRerun.{are_two_builds, claims_differ, gen_alike, use_unlike}
use Rattle.verifier.proofs.laws.two_builds_meet_the_premises.Goals as goal

pub returns-clause-builds : goal.returns-clause-builds
returns-clause-builds c = are_two_builds

pub returns-clause-differ : goal.returns-clause-differ
returns-clause-differ c = claims_differ

pub returns-clause-alike : goal.returns-clause-alike
returns-clause-alike c = gen_alike

pub returns-clause-unlike : goal.returns-clause-unlike
returns-clause-unlike c = use_unlike
