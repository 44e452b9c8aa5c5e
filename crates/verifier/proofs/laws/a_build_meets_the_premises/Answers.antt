use Rattle.std.proofs.Common.{inl, refl, subst}
use Rattle.blob_digest.specs.DigestValue.{IsDigest}
use Rattle.tree.specs.Form.{form, top}
use Rattle.tree.proofs.TreeDigests.{IsDigest-digest_of}
use Rattle.verifier.specs.TwoSteps as two
use Rattle.verifier.proofs.TwoSteps.{sources_named, plan_valid}
use Rattle.verifier.proofs.TwoStepsRecorded.{as_recorded}
use Rattle.verifier.proofs.TwoStepsRun.{is_complete}
use Rattle.verifier.proofs.TwoStages.{runs_once}
use Rattle.verifier.proofs.TwoStepsEvents.{no_clash_ahead, no_clash_fresh}
use Rattle.verifier.proofs.laws.a_build_meets_the_premises.Goals as goal

pub returns-clause-plan : goal.returns-clause-plan
returns-clause-plan c = plan_valid

pub returns-clause-accepted : goal.returns-clause-accepted
returns-clause-accepted c = as_recorded two.sources

pub returns-clause-run : goal.returns-clause-run
returns-clause-run c = runs_once

pub returns-clause-complete : goal.returns-clause-complete
returns-clause-complete c = is_complete

pub returns-clause-fresh : goal.returns-clause-fresh
returns-clause-fresh c = record {
  ordered = runs_once.ordered;
  from = runs_once.from;
  keeps = record {
    fits = runs_once.keeps.fits;
    table = runs_once.keeps.table;
    agrees = runs_once.keeps.agrees;
    apart = λ x y h k e. no_clash_fresh x y (inl h) (inl k) e;
    happened = refl;
  };
}

pub returns-clause-open : goal.returns-clause-open
returns-clause-open c = no_clash_fresh

pub returns-clause-ahead : goal.returns-clause-ahead
returns-clause-ahead c = no_clash_ahead

pub returns-clause-counted : goal.returns-clause-counted
returns-clause-counted c = (subst IsDigest sources_named (IsDigest-digest_of (top (form two.tree))), refl)
