use Rattle.std.proofs.Common.{◌∙◌, arith, refl}
use Rattle.std.proofs.lemmas.Result.{err_from_is_err_and}
use Rattle.blob_source.proofs.Asking.{some_none}
use Rattle.blob_source.proofs.Puts.{right_grows, right_then}
use Rattle.worker.specs.Stored.{IsStored}
use Rattle.worker.specs.declared.error.StepRefusal.TheVariants as refusals
use Rattle.worker.proofs.Storing.{stored_grown}
use Rattle.worker.proofs.Failures.{counts_calls, counts_engine, counts_exit, counts_from, counts_none, counts_same}
use Rattle.builder.proofs.Refusing.{ran_by}
use Rattle.builder.proofs.Serving.{none_finished, answered}
use Rattle.builder.specs.Faults.{IsRunnerFailure, IsStoreFailure, fault_of}
use Rattle.builder.specs.declared.fault.Place.TheVariants.{Step, Root}
use Rattle.builder.proofs.Failing.{counts_device, counts_opening, counts_refusal, device_refusal, opening_no_device, exit_device}
use Rattle.builder.proofs.building.build_plan.Goals as goal

pub returns-in_err-engine : goal.returns-in_err-engine
returns-in_err-engine g c =
    let p = err_from_is_err_and c.from_residual.result c.from_residual.ensures.1 in
    record {
      build = record {
        came = rw (p.1, p.2) (record {
          asked = record { some = c.new.ensures.called.asked; most_calls = c.in_err-engine.ensures.last };
          stands = c.in_err-engine.ensures.refused;
          none = λ before h. h;
          unfailed = refl;
          unheard = refl;
        });
        order = record {
          alive = refl;
          right = right_grows c.new.ensures.called.asked.blobs;
          fetched = counts_exit (λ e. IsStoreFailure (fault_of e)) c.from_residual.result c.from_residual.ensures.1 (counts_opening _ (counts_calls c.in_err-engine.ensures.called));
          device = exit_device (λ e. IsRunnerFailure (fault_of e)) _ c.from_residual.result c.from_residual.ensures.1 (λ f. absurd (opening_no_device _ f));
          alone = λ one. counts_exit (λ e. IsRunnerFailure (fault_of e)) c.from_residual.result c.from_residual.ensures.1 (counts_none (opening_no_device _));
        };
      };
      no_more = λ ran h. h;
    }

pub returns-in_err-build : goal.returns-in_err-build
returns-in_err-build g c =
    let p = err_from_is_err_and c.from_residual-in_err-build.result c.from_residual-in_err-build.ensures.1 in
    let ending = g.S.BlobSource.tells c.build.new.sink in
    record {
      build = record {
        came = rw (p.1, p.2) (
          c.in_ok-engine.engine,
          c.build.new.engine,
          ran_by _ _ _ _ _ _ _ _ _ _ _ (record { some = c.new.ensures.called.asked; most_calls = c.new.ensures.few }) c.in_ok-engine.ensures.opened c.in_err-build.ensures.led.0 c.in_err-build.ensures.led.1.in_order c.in_err-build.ensures.led.1.whole c.in_err-build.ensures.led.1.turns c.in_err-build.ensures.led.1.put c.build.ensures.blobs c.in_err-build.ensures.led.1.watched (some_none ending) (λ list covers. omega arith),
          c.in_err-build.ensures.led.1.refused,
        );
        order = record {
          alive = c.build.ensures.alive;
          right = right_then (right_grows c.new.ensures.called.asked.blobs) c.build.ensures.right;
          fetched = counts_from (c.in_ok-engine.ensures.called.unfailed (λ e. let is = e.1 in cc)) (counts_exit (λ e. IsStoreFailure (fault_of e)) c.from_residual-in_err-build.result c.from_residual-in_err-build.ensures.1
              (counts_refusal (Step c.in_err-build.field-0.0.step) c.in_err-build.field-0.0.refusal c.in_err-build.ensures.fetched));
          device = exit_device (λ e. IsRunnerFailure (fault_of e)) _ c.from_residual-in_err-build.result c.from_residual-in_err-build.ensures.1 (λ f. c.in_err-build.ensures.device (device_refusal (Step c.in_err-build.field-0.0.step) c.in_err-build.field-0.0.refusal f));
          alone = λ one. counts_exit (λ e. IsRunnerFailure (fault_of e)) c.from_residual-in_err-build.result c.from_residual-in_err-build.ensures.1
              (counts_device (Step c.in_err-build.field-0.0.step) c.in_err-build.field-0.0.refusal (c.in_err-build.ensures.alone one));
        };
      };
      no_more = c.build.ensures.no_more;
    }

pub returns-in_err-built : goal.returns-in_err-built
returns-in_err-built g c =
    let p = err_from_is_err_and c.from_residual-in_err-built.result c.from_residual-in_err-built.ensures.1 in
    record {
      build = record {
        came = rw (p.1, p.2) (
          c.in_ok-engine.engine,
          c.build.new.engine,
          ran_by _ _ _ _ _ _ _ _ _ _ _ (record { some = c.new.ensures.called.asked; most_calls = c.new.ensures.few }) c.in_ok-engine.ensures.opened c.in_ok-build.ensures.led.0 c.in_ok-build.ensures.led.1.in_order c.in_ok-build.ensures.led.1.whole c.in_ok-build.ensures.led.1.turns c.in_ok-build.ensures.led.1.put c.build.ensures.blobs c.in_ok-build.ensures.led.1.watched c.end.ensures.called.asked c.end.ensures.once,
          record { all = c.in_ok-build.ensures.led.1.all; complete = c.in_ok-build.ensures.done; stands = c.in_err-built.ensures.refused; unfailed = c.in_ok-build.ensures.unfailed },
        );
        order = record {
          alive = c.build.ensures.alive;
          right = right_then
              (right_then (right_grows c.new.ensures.called.asked.blobs) c.build.ensures.right)
              (right_grows c.end.ensures.called.asked.blobs);
          fetched = counts_from (c.in_ok-build.ensures.fetched.unfailed (λ f. f) ∙ c.in_ok-engine.ensures.called.unfailed (λ e. let is = e.1 in cc)) (counts_exit (λ e. IsStoreFailure (fault_of e)) c.from_residual-in_err-built.result c.from_residual-in_err-built.ensures.1
              (counts_refusal Root (refusals.Engine c.in_err-built.field-0.0) (counts_engine _ (counts_calls c.in_err-built.ensures.called))));
          device = exit_device (λ e. IsRunnerFailure (fault_of e)) _ c.from_residual-in_err-built.result c.from_residual-in_err-built.ensures.1 (λ f. absurd (device_refusal Root (refusals.Engine c.in_err-built.field-0.0) f));
          alone = λ one. counts_from c.in_ok-build.ensures.unfailed (counts_exit (λ e. IsRunnerFailure (fault_of e)) c.from_residual-in_err-built.result c.from_residual-in_err-built.ensures.1 (counts_none (λ f. device_refusal Root (refusals.Engine c.in_err-built.field-0.0) f)));
        };
      };
      no_more = c.build.ensures.no_more;
    }

pub returns : goal.returns
returns g c =
    let opening = g.S.BlobSource.tells c.new.new.source in
    let ending = g.S.BlobSource.tells c.build.new.sink in
    let told = g.S.BlobSource.tells c.end.new.sink in
    let opened = c.in_ok-engine.ensures.opened in
    let asks = c.end.ensures.called.asked in
    let stored : IsStored told c.build.new.engine = stored_grown asks.blobs asks.results (c.in_ok-build.ensures.stored (none_finished c.in_ok-engine.engine opened.none_finished)) in
    record {
      build = record {
        came = (
          c.in_ok-engine.engine,
          c.build.new.engine,
          ran_by _ _ _ _ _ _ _ _ _ _ _ (record { some = c.new.ensures.called.asked; most_calls = c.new.ensures.few }) opened c.in_ok-build.ensures.led.0 c.in_ok-build.ensures.led.1.in_order c.in_ok-build.ensures.led.1.whole c.in_ok-build.ensures.led.1.turns c.in_ok-build.ensures.led.1.put c.build.ensures.blobs c.in_ok-build.ensures.led.1.watched c.end.ensures.called.asked c.end.ensures.once,
          record {
            all = c.in_ok-build.ensures.led.1.all;
            end = c.in_ok-built.ensures.ended;
            stored = stored;
            answered = answered g.row.A.Denot (g.N.Runner.yields c.args.runner.now) c.args.jobs c.args.plan.now c.args.sources opening ending told c.in_ok-engine.engine c.build.new.engine c.in_ok-built.built opened c.build.ensures.right c.in_ok-build.ensures.led.0.built.led (right_grows asks.blobs) c.plan.ensures.valid stored c.in_ok-built.ensures.ended;
            unfailed = c.in_ok-build.ensures.unfailed;
          },
        );
        order = record {
          alive = c.build.ensures.alive;
          right = right_then
              (right_then (right_grows c.new.ensures.called.asked.blobs) c.build.ensures.right)
              (right_grows c.end.ensures.called.asked.blobs);
          fetched = counts_same (λ f. f) (c.in_ok-built.ensures.called.unfailed (λ e. cc) ∙ c.in_ok-build.ensures.fetched.unfailed (λ f. f) ∙ c.in_ok-engine.ensures.called.unfailed (λ e. let is = e.1 in cc));
          device = λ f. absurd f;
          alone = λ one. counts_same (λ f. f) c.in_ok-build.ensures.unfailed;
        };
      };
      no_more = c.build.ensures.no_more;
    }
