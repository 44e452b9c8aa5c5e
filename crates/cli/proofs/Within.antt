-- What is said of a build by its runner and its watcher is said of it by what is known below a folder.
use Rattle.std.proofs.Common.{◌≡◌, ◌++◌, List, [], Result, Ok, Err, ℕ, refl, subst, sym}
use Rattle.std.specs.declared.alloc.Global.{Global}
use Rattle.blob_digest.specs.Digest.{DigestValue}
use Rattle.plan.specs.Values.{PlanValue}
use Rattle.runs.specs.Engine.{EngineValue}
use Rattle.worker.specs.Calls.{children_of}
use Rattle.worker.specs.Outcomes.{Yields, YieldsNoMore}
use Rattle.worker.specs.Values.{StartValue}
use Rattle.worker.proofs.Acts.{same_build}
use Rattle.worker.proofs.Blobs.{of_build_within, others_more}
use Rattle.worker.proofs.Heard.{all_so}
use Rattle.worker.proofs.Stopping.{leads_within, progress_within, refused_within}
use Rattle.builder.specs.Built.{BuiltValue, Builds, Ran, Seen}
use Rattle.builder.specs.Telling.{IsBuildTold}
use Rattle.builder.specs.declared.error.BuildPlanError.{BuildPlanError}
use Rattle.builder.specs.declared.error.BuildPlanError.TheVariants.{Opening, Step, Root}
use Rattle.builder.specs.declared.telling.Told.{Told}
use Rattle.cli.specs.Built.{Below, Processes, at_first, at_last}

-- The runner yields no more, had started none at first, and what it had started at last is what ran.
pub record IsRunBelow (z : Yields) (old new : Seen) (processes : Processes) : Type 0 where
  pub within : YieldsNoMore z processes.yields
  pub none : old.started []
  pub all : (started : List StartValue) → new.started started → processes.ran started

-- it ran below the folder that was asked for
pub run_below : (below : Below) {z : Yields} {old new : Seen} {asked given : List ℕ} → given ≡ asked → YieldsNoMore z (below given).yields → old.started [] → ((started : List StartValue) → new.started started → (below given).ran started) → IsRunBelow z old new (below asked)
run_below below {z} is within none all = record {
  within = subst (λ w. YieldsNoMore z (below w).yields) is within;
  none = none;
  all = λ started h. subst (λ w. (below w).ran started) is (all started h);
}

module _ (z : Yields) (most : ℕ) (plan : PlanValue) (sources : DigestValue) (old new : Seen) (processes : Processes) (below : IsRunBelow z old new processes) where
  abbrev ran_below : (first last : EngineValue) → Ran Global z most plan sources old new first last
      → Ran Global processes.yields most plan sources (at_first old.store) (at_last processes new.store) first last
  ran_below first last r =
      let built = r.led.built in
      let y = processes.yields in
      record {
        opening = r.opening;
        asked = r.asked;
        opened = r.opened;
        ending = r.ending;
        led = record {
          built = record { led = record { calls = built.led.calls; leads = leads_within Global z y r.ending below.within most built.led.calls first last built.led.leads }; puts = built.puts };
          children = λ before h. subst (λ b. processes.ran (b ++ children_of built.led.calls)) (sym h) (below.all _ (r.led.children [] below.none));
          blobs = r.led.blobs;
          takes = r.led.takes;
        };
        whole = r.whole;
        turns = r.turns;
        in_order = r.in_order;
        put = r.put;
        blobs = others_more (of_build_within below.within (same_build last)) r.blobs;
        of_plan = r.of_plan;
        of_sources = r.of_sources;
        own = r.own;
        watched = record { told = r.watched.told; heard = tt; count = r.watched.count; each = all_so _ _ (progress_within Global z y r.ending below.within) 0 r.watched.told r.watched.each };
        later = r.later;
        once = r.once;
      }

  builds_below : (came : Result BuiltValue (BuildPlanError Global)) → Builds Global z most plan sources old new came
      → Builds Global processes.yields most plan sources (at_first old.store) (at_last processes new.store) came
  builds_below (Ok b) (first, last, r, h) = (first, last, ran_below first last r, record { all = h.all; end = h.end; stored = h.stored; answered = h.answered; unfailed = refl })
  builds_below (Err (Opening error)) h =
      record { asked = h.asked; stands = h.stands; none = λ before k. subst processes.ran (sym k) (below.all [] (h.none [] below.none)); unfailed = refl; unheard = refl }
  builds_below (Err (Step error)) (first, last, r, h) = (first, last, ran_below first last r, refused_within Global z processes.yields new.store below.within h)
  builds_below (Err (Root error)) (first, last, r, h) = (first, last, ran_below first last r, record { all = h.all; complete = h.complete; stands = h.stands; unfailed = refl })

  pub told_below : (told : Result (Told Global) (BuildPlanError Global)) → IsBuildTold z most plan sources old new told
      → IsBuildTold processes.yields most plan sources (at_first old.store) (at_last processes new.store) told
  told_below told h = record { came = h.came; builds = builds_below h.came h.builds; tells = h.tells }
