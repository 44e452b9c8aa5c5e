use Rattle.std.proofs.Common.{refl, sym, subst}
use Rattle.worker.specs.Going.{AreJobsOf, IsJobOf, HasResultOfFirst, PutsFirst}
use Rattle.worker.proofs.ending.finish_first.Goals as goal

pub settle-requires : goal.settle-requires
settle-requires g c =
    let jobs = subst (AreJobsOf IsJobOf c.args.engine.now.jobs) c.in-Some.ensures.items c.requires.there in
    record { there = (jobs.0, jobs.1, jobs.2) }

pub returns-in-Ok-clause-ended : goal.returns-in-Ok-clause-ended
returns-in-Ok-clause-ended g c = record { child = c.in-Some.child; is = c.in-Some.ensures.items; end = c.in-Ok.ensures.ended }

pub returns-in-Ok-clause-put : goal.returns-in-Ok-clause-put
returns-in-Ok-clause-put g c = subst (HasResultOfFirst (g.S.BlobSource.tells c.settle.new.sink) c.settle.new.engine) (sym c.in-Some.ensures.items) c.in-Ok.ensures.put

pub returns-in-Err-clause-stopped : goal.returns-in-Err-clause-stopped
returns-in-Err-clause-stopped g c = record { child = c.in-Some.child; is = c.in-Some.ensures.items; end = (refl, c.in-Err.ensures.stopped) }

pub returns-in-Ok-clause-listed : goal.returns-in-Ok-clause-listed
returns-in-Ok-clause-listed g c = subst (PutsFirst (g.S.BlobSource.tells c.args.sink.now) (g.S.BlobSource.tells c.settle.new.sink)) (sym c.in-Some.ensures.items) c.in-Ok.ensures.listed

pub returns-in-Ok-clause-only : goal.returns-in-Ok-clause-only
returns-in-Ok-clause-only g c = record { child = c.in-Some.child; is = c.in-Some.ensures.items; end = c.settle.ensures.only }

pub returns-in-Err-clause-only : goal.returns-in-Err-clause-only
returns-in-Err-clause-only g c = record { child = c.in-Some.child; is = c.in-Some.ensures.items; end = c.settle.ensures.only }

pub returns-in-Ok-clause-fetched : goal.returns-in-Ok-clause-fetched
returns-in-Ok-clause-fetched g c = c.in-Ok.ensures.fetched

pub returns-in-Ok-clause-device : goal.returns-in-Ok-clause-device
returns-in-Ok-clause-device g c = c.in-Ok.ensures.device

pub returns-in-Err-clause-fetched : goal.returns-in-Err-clause-fetched
returns-in-Err-clause-fetched g c = c.in-Err.ensures.fetched

pub returns-in-Err-clause-device : goal.returns-in-Err-clause-device
returns-in-Err-clause-device g c = c.in-Err.ensures.device
