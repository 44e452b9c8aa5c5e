use Rattle.std.proofs.Common.{◌≡◌, ◌+◌, [], ◌++◌, append-nil, append_assoc, arith, refl, subst, sym, ap, ◌∙◌, length}
use Rattle.std.proofs.lemmas.Result.{err_from_is_err_and}
use Rattle.worker.specs.Calls.{AreTurns, came_of}
use Rattle.worker.specs.Going.{AreJobsOf, FinishesOnly, IsJobOf, IsGoing, is_start, taken_in}
use Rattle.worker.specs.Watching.{IsProgress, IsProgressOf, IsWatched, taken_count, turns_in}
use Rattle.worker.proofs.Keeping.{right_trans}
use Rattle.worker.proofs.PutOnce.{remembers_none, remembers_then}
use Rattle.worker.proofs.Complete.{all_finished}
use Rattle.worker.proofs.Blobs.{of_turns_all, of_turns_moved, others_grown, others_more, others_then}
use Rattle.worker.proofs.Goes.{going_none, own_jobs}
use Rattle.worker.proofs.Joins.{came_join, taken_join}
use Rattle.worker.proofs.Stopping.{turns_then}
use Rattle.worker.proofs.Heard.{heard_none, heard_more, watched_moved}
use Rattle.worker.specs.Counted.{IsDevice, IsFetch}
use Rattle.worker.proofs.Failures.{counts_same, counts_from, counts_exit}
use Rattle.worker.proofs.building.take_turns.Goals as goal

pub loop-turn-init : goal.loop-turn-init
loop-turn-init g c =
    let t = g.S.BlobSource.tells c.args.sink.now in
    record {
      going = subst (λ xs. (h : IsGoing g.row.A.Denot (g.N.Runner.yields c.args.runner.now) g.N.Runner.may_give (g.N.Runner.starts c.args.runner.now) (g.N.Runner.starts c.args.runner.now) t t c.args.jobs c.args.engine.now c.args.engine.now xs) × IsProgressOf h.led.built.led.calls c.args.engine.now c.first_progress-progress.result
          × IsWatched (IsProgress g.row.A.Denot (g.N.Runner.yields c.args.runner.now) t c.args.jobs c.args.engine.now h.led.built.led.calls) (turns_in h.led.built.led.calls) (g.W.Watcher.told c.args.watcher.now) (g.W.Watcher.told c.args.watcher.now)
          × AreTurns h.led.built.led.calls × (t.puts ≡ t.puts ++ came_of h.led.built.led.calls)) (sym c.requires.none) (
            going_none g.row.A.Denot g.row.N-Job.Denot (g.N.Runner.yields c.args.runner.now) g.N.Runner.may_give (g.N.Runner.starts c.args.runner.now) t c.args.jobs c.args.engine.now c.requires.idle,
            c.first_progress-progress.ensures,
            heard_none g.row.A.Denot (g.N.Runner.yields c.args.runner.now) c.args.jobs c.args.engine.now t (g.W.Watcher.told c.args.watcher.now),
            tt,
            sym (append-nil t.puts),
          );
      within = λ l d p h. h;
      no_more = λ ran h. h;
      right = λ e b at right. at;
      blobs = others_grown (λ e b at. at);
      stored = λ h. h;
      fetched = refl;
      device = refl;
      stays = remembers_none;
      knows = c.requires.knows;
      alive = let none = c.requires.none in let len = ap length none in omega (arith, len);
    }

pub take_turn-requires : goal.take_turn-requires
take_turn-requires g c = record {
  can = (c.args.jobs, c.in-Some.ensures.turn);
  there = own_jobs c.loop-turn.invariant.going.0;
  knows = c.loop-turn.invariant.knows;
  alive = let all = c.loop-turn.invariant.alive in omega (arith, all);
}

pub before_turn-before-requires-clause-there : goal.before_turn-before-requires-clause-there
before_turn-before-requires-clause-there g c = own_jobs c.loop-turn.invariant.going.0

pub progress_after-progress-requires-clause-there : goal.progress_after-progress-requires-clause-there
progress_after-progress-requires-clause-there g c =
    own_jobs (c.take_turn.ensures.going c.args.runner.now (g.S.BlobSource.tells c.args.sink.now) c.args.jobs c.args.engine.now c.loop-turn.invariant.within c.in-Some.ensures.turn c.loop-turn.invariant.going.0).0.going

pub loop-turn-preserved : goal.loop-turn-preserved
loop-turn-preserved g c =
    let told = g.W.Watcher.told in
    let new = c.take_turn.new.engine in
    let was = c.loop-turn.invariant.going in
    let turn = c.in_ok-take_turn.ensures.going c.args.runner.now (g.S.BlobSource.tells c.args.sink.now) c.args.jobs c.args.engine.now c.loop-turn.invariant.within c.in-Some.ensures.turn was.0 in
    let on = turn.0 in
    let going = on.going in
    let calls = was.0.led.built.led.calls in
    let all = going.led.built.led.calls in
    let only = subst (λ i. FinishesOnly i c.loop-turn.engine new) (sym c.before_turn-before.ensures.step) c.in_ok-take_turn.ensures.only in
    let counts : taken_count all ≡ taken_count calls + taken_in c.before_turn-before.result.is_start c.before_turn-before.result.step c.loop-turn.engine new =
    subst (λ b. taken_count all ≡ taken_count calls + taken_in b c.before_turn-before.result.step c.loop-turn.engine new) (sym c.before_turn-before.ensures.start)
    (subst (λ i. taken_count all ≡ taken_count calls + taken_in (is_start c.in-Some.turn) i c.loop-turn.engine new) (sym c.before_turn-before.ensures.step) (ap taken_count on.are ∙ taken_join calls on.more ∙ ap (λ m. taken_count calls + m) on.taken)) in
    let is : IsProgressOf all new c.progress_after-progress.result = c.progress_after-progress.ensures c.loop-turn.engine calls all was.1 c.before_turn-before.ensures.finished only counts going.order in
    let whole = subst AreTurns (sym on.are) (turns_then calls on.more was.3 turn.3.0.0) in
    let before = (g.S.BlobSource.tells c.args.sink.now).puts in
    let put = turn.3.1 ∙ ap (λ ds. ds ++ came_of on.more) was.4 ∙ append_assoc before (came_of calls) (came_of on.more) ∙ ap (λ ds. before ++ ds) (sym (came_join calls on.more) ∙ ap came_of (sym on.are)) in
    let heard = heard_more g.row.A.Denot (g.N.Runner.yields c.args.runner.now) c.args.jobs c.args.engine.now (g.S.BlobSource.tells c.loop-turn.sink) (g.S.BlobSource.tells c.take_turn.new.sink) new calls on.more
    (told c.args.watcher.now) (told c.loop-turn.watcher) (told c.watch.new.self) c.progress_after-progress.result was.2 turn.3.0.1 turn.2 c.take_turn.ensures.right c.watch.ensures going.led.built.led on.are whole is in
    record {
      going = (going, is, heard, whole, put);
      within = λ l d p h. c.loop-turn.invariant.within l d p (c.take_turn.ensures.within l d p h);
      right = right_trans c.loop-turn.invariant.right c.take_turn.ensures.right;
      blobs = others_then (others_more (of_turns_moved (λ l d p h. h) c.take_turn.ensures.right c.take_turn.ensures.build) c.loop-turn.invariant.blobs) (c.in_ok-take_turn.ensures.whole c.args.runner.now (g.S.BlobSource.tells c.args.sink.now) c.args.jobs c.args.engine.now c.loop-turn.invariant.within was.0);
      stored = λ h. c.in_ok-take_turn.ensures.stored c.args.runner.now (g.S.BlobSource.tells c.args.sink.now) c.args.jobs c.args.engine.now c.loop-turn.invariant.going.0 (c.loop-turn.invariant.stored h);
      fetched = c.in_ok-take_turn.ensures.fetched.unfailed (λ f. f) ∙ c.loop-turn.invariant.fetched;
      device = c.in_ok-take_turn.ensures.device.unfailed (λ f. f) ∙ c.loop-turn.invariant.device;
      stays = remembers_then c.loop-turn.invariant.stays c.take_turn.ensures.stays;
      knows = c.take_turn.ensures.knows;
      no_more = λ ran h. c.loop-turn.invariant.no_more ran (c.take_turn.ensures.no_more ran h);
      alive = let now = c.take_turn.ensures.alive in let was = c.loop-turn.invariant.alive in omega (arith, now, was);
    }

pub returns-in_err-take_turn-clause-going : goal.returns-in_err-take_turn-clause-going
returns-in_err-take_turn-clause-going g c =
    let p = err_from_is_err_and c.from_residual.result c.from_residual.ensures.1 in
    let was = c.loop-turn.invariant.going in
    let on = c.in_err-take_turn.ensures.going c.args.runner.now (g.S.BlobSource.tells c.args.sink.now) c.args.jobs c.args.engine.now c.loop-turn.invariant.within c.in-Some.ensures.turn was.0 in
    let heard = watched_moved g.row.A.Denot (g.N.Runner.yields c.args.runner.now) c.args.jobs c.args.engine.now (g.S.BlobSource.tells c.loop-turn.sink) (g.S.BlobSource.tells c.take_turn.new.sink) was.0.led.built.led.calls on.0.going.led.built.led.calls on.0.more on.0.are on.2 c.take_turn.ensures.right was.2 in
    rw (p.1, p.2) (on.0.going, record { whole = was.0.led.built.led.calls; turns = was.3; all = tt; refused = on.1; in_order = on.0.going.in_order; put = (on.2.put, on.2.are ∙ ap (λ ds. ds ++ on.2.put) was.4); watched = heard })

pub returns-clause-going : goal.returns-clause-going
returns-clause-going g c = let was = c.loop-turn.invariant.going in (was.0, record { whole = was.0.led.built.led.calls; turns = was.3; all = refl; refused = tt; in_order = was.0.in_order; put = ([], was.4 ∙ sym (append-nil _)); watched = was.2 })

pub returns-in_err-take_turn-clause-right : goal.returns-in_err-take_turn-clause-right
returns-in_err-take_turn-clause-right g c = right_trans c.loop-turn.invariant.right c.take_turn.ensures.right

pub returns-in_err-take_turn-clause-stays : goal.returns-in_err-take_turn-clause-stays
returns-in_err-take_turn-clause-stays g c = remembers_then c.loop-turn.invariant.stays c.take_turn.ensures.stays

pub returns-clause-done : goal.returns-clause-done
returns-clause-done g c =
    let empty = c.next_turn.ensures.none_runs c.in_default.is in
    let jobs = own_jobs c.loop-turn.invariant.going.0 in
    all_finished c.loop-turn.engine c.next_turn.ensures.planned c.next_turn.ensures.valid (subst (AreJobsOf IsJobOf c.loop-turn.engine.jobs) empty jobs) (c.next_turn.ensures.none_starts c.in_default.is)

pub returns-in_err-take_turn-clause-fetched : goal.returns-in_err-take_turn-clause-fetched
returns-in_err-take_turn-clause-fetched g c = counts_from c.loop-turn.invariant.fetched (counts_exit (λ e. IsFetch e.refusal) c.from_residual.result c.from_residual.ensures.1 (c.in_err-take_turn.ensures.fetched))

pub returns-clause-fetched : goal.returns-clause-fetched
returns-clause-fetched g c = counts_same (λ f. f) c.loop-turn.invariant.fetched

pub returns-in_err-take_turn-clause-device : goal.returns-in_err-take_turn-clause-device
returns-in_err-take_turn-clause-device g c = counts_from c.loop-turn.invariant.device (counts_exit (λ e. IsDevice e.refusal) c.from_residual.result c.from_residual.ensures.1 (c.in_err-take_turn.ensures.device))

pub returns-clause-device : goal.returns-clause-device
returns-clause-device g c = counts_same (λ f. f) c.loop-turn.invariant.device

pub returns-in_err-take_turn-clause-few : goal.returns-in_err-take_turn-clause-few
returns-in_err-take_turn-clause-few g c =
    let p = err_from_is_err_and c.from_residual.result c.from_residual.ensures.1 in
    rw p.1 (c.in_err-take_turn.ensures.room c.args.jobs c.in-Some.ensures.turn c.loop-turn.invariant.going.0.few)

pub returns-in_err-take_turn-clause-blobs : goal.returns-in_err-take_turn-clause-blobs
returns-in_err-take_turn-clause-blobs g c = others_then (others_more (λ b h. of_turns_all b (of_turns_moved (λ l d p h. h) c.take_turn.ensures.right c.take_turn.ensures.build b h)) c.loop-turn.invariant.blobs)
    (c.take_turn.ensures.blobs c.args.runner.now (g.S.BlobSource.tells c.args.sink.now) c.args.jobs c.args.engine.now c.loop-turn.invariant.within c.loop-turn.invariant.going.0)

pub returns-clause-blobs : goal.returns-clause-blobs
returns-clause-blobs g c = others_more of_turns_all c.loop-turn.invariant.blobs
