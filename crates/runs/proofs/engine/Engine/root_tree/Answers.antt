use Rattle.std.proofs.Common.{sym, subst, length, IsSome}
use Rattle.std.specs.List.{AllByRecursion}
use Rattle.runs.specs.Engine.{EngineValue, IsEngine}
use Rattle.verifier.specs.Together.{AreThere}
use Rattle.runs.specs.Looking.{outcomes_in}
use Rattle.plan.specs.Plan.{IsPlan}
use Rattle.runs.proofs.Answered.{served_yes}
use Rattle.runs.specs.Calls.{HaveAllFinished}
use Rattle.runs.proofs.Missing.{root_fault, root_tells}
use Rattle.runs.proofs.Ended.{lines_there, ok_map, err_map}
use Rattle.runs.proofs.Starts.{root_event}
use Rattle.tree.proofs.Learning.{learns_more}
use Rattle.runs.proofs.engine.Engine.root_tree.Goals as goal

pub merge_root-requires-clause-there : goal.merge_root-requires-clause-there
merge_root-requires-clause-there g c =
    let all = subst (AllByRecursion IsSome) c.deref.ensures.value (c.have_all_finished.ensures.0 c.if-not-have_all_finished.false) in
    subst (λ (e : EngineValue). AreThere (outcomes_in e.finished) e.plan.root_lines) c.self.view_is
    (lines_there c.self.inside.finished.items (length c.self.inside.plan.now.steps) c.self.inside.plan.now.root_lines all (sym c.self.invariant.count) c.root.ensures.valid.root_lines.each)

pub returns-clause-state : goal.returns-clause-state
returns-clause-state g c =
    let plan : IsPlan c.args.self.now.plan = subst (λ (e : EngineValue). IsPlan e.plan) c.self.view_is c.root.ensures.valid in
    ok_map c.merge_root.result (λ f h. root_event (g.S.BlobSource.tells c.merge_root.new.source).blobs c.args.self.now h.0 f.root plan (subst IsEngine c.self.view_is c.self.invariant) h.1 h.2.fold.root) c.merge_root.ensures.told

pub returns-clause-served : goal.returns-clause-served
returns-clause-served g c =
    let engine : IsEngine c.args.self.now = subst IsEngine c.self.view_is c.self.invariant in
    let plan : IsPlan c.args.self.now.plan = subst (λ (e : EngineValue). IsPlan e.plan) c.self.view_is c.root.ensures.valid in
    let told = (g.S.BlobSource.tells c.merge_root.new.source).blobs in
    ok_map c.merge_root.result (λ f h. served_yes g.row.A.Denot told c.args.self.now f.root plan engine (root_event told c.args.self.now h.0 f.root plan engine h.1 h.2.fold.root)) c.merge_root.ensures.told

pub returns-clause-refused : goal.returns-clause-refused
returns-clause-refused g c =
    let all = subst (AllByRecursion IsSome) c.deref.ensures.value (c.have_all_finished.ensures.0 c.if-not-have_all_finished.false) in
    let complete : HaveAllFinished c.args.self.now = subst HaveAllFinished c.self.view_is all in
    err_map c.merge_root.result (λ why h. root_fault (g.S.BlobSource.tells c.merge_root.new.source).blobs c.args.self.now complete why h) c.merge_root.ensures.faulty

pub returns-clause-missing : goal.returns-clause-missing
returns-clause-missing g c =
    let told = (g.S.BlobSource.tells c.merge_root.new.source).blobs in
    err_map c.merge_root.result (λ why h. (root_tells c.self.view_is c.self.invariant c.root.ensures.valid told why h).0) c.merge_root.ensures.faulty

pub returns-clause-conflict : goal.returns-clause-conflict
returns-clause-conflict g c =
    let told = (g.S.BlobSource.tells c.merge_root.new.source).blobs in
    err_map c.merge_root.result (λ why h. (root_tells c.self.view_is c.self.invariant c.root.ensures.valid told why h).1) c.merge_root.ensures.faulty

pub returns-clause-stands : goal.returns-clause-stands
returns-clause-stands g c =
    let told = (g.S.BlobSource.tells c.merge_root.new.source).blobs in
    err_map c.merge_root.result (λ why h. (root_tells c.self.view_is c.self.invariant c.root.ensures.valid told why h).2) c.merge_root.ensures.faulty

pub returns-clause-complete : goal.returns-clause-complete
returns-clause-complete g c =
    let all = subst (AllByRecursion IsSome) c.deref.ensures.value (c.have_all_finished.ensures.0 c.if-not-have_all_finished.false) in
    let complete : HaveAllFinished c.args.self.now = subst HaveAllFinished c.self.view_is all in
    ok_map c.merge_root.result (λ d h. complete) c.merge_root.ensures.told

pub returns-clause-learned : goal.returns-clause-learned
returns-clause-learned g c =
    let all = subst (AllByRecursion IsSome) c.deref.ensures.value (c.have_all_finished.ensures.0 c.if-not-have_all_finished.false) in
    let complete : HaveAllFinished c.args.self.now = subst HaveAllFinished c.self.view_is all in
    learns_more (λ a h. (complete, h)) (λ n. n) c.merge_root.ensures.learned
