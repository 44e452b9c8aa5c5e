use Rattle.verifier.proofs.TwoSteps.{plan_valid}
use Rattle.builder.proofs.TwoStepsOpened.{first_valid, is_led, is_opened}
use Rattle.builder.proofs.TwoStepsRuns.{is_about, apart_stored}
use Rattle.builder.proofs.laws.two_steps_meet_the_premises.Goals as goal

pub returns-clause-plan : goal.returns-clause-plan
returns-clause-plan g c = plan_valid

pub returns-clause-valid : goal.returns-clause-valid
returns-clause-valid g c = first_valid

pub returns-clause-opened : goal.returns-clause-opened
returns-clause-opened g c = is_opened

pub returns-clause-still : goal.returns-clause-still
returns-clause-still g c = λ d b at right. at

pub returns-clause-led : goal.returns-clause-led
returns-clause-led g c = is_led c.args.alloc.now (g.N.Runner.yields c.args.runner.now)

pub returns-clause-about : goal.returns-clause-about
returns-clause-about g c = is_about

pub returns-clause-apart : goal.returns-clause-apart
returns-clause-apart g c = apart_stored
