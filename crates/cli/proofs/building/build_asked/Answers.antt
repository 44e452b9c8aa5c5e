use Rattle.std.proofs.Common.{◌<◌, ◌∙◌, [], refl, subst, sym}
use Rattle.clap.specs.Words.{found_of, rows_of}
use Rattle.remote.specs.Remote.{connection_of}
use Rattle.commands.proofs.Exits.{err_weaker, exit_by}
use Rattle.std.proofs.lemmas.Result.{IfOk-weaker}
use Rattle.std.specs.Prelude.{IfErr, IfOk}
use Rattle.cli.proofs.Builds.{connect_fails, reaches, some_jobs, telling_fails, tells_of}
use Rattle.cli.specs.Built.{TellsAsked, errors_asked}
use Rattle.cli.specs.Refused.{FailsBuild, FailsFolder}
use Rattle.cli.specs.Refused.FailsBuild.{in_folder, in_place}
use Rattle.cli.proofs.building.build_asked.Goals as goal

pub build_in_folder-told-requires-clause-some : goal.build_in_folder-told-requires-clause-some
build_in_folder-told-requires-clause-some g c =
    let options = rows_of (found_of c.args.matches.now) in
    subst (λ n. 0 < n) (sym c.requires.read.jobs) (some_jobs options c.requires.read.asks.words)

pub returns-in_err-remote-clause-refused : goal.returns-in_err-remote-clause-refused
returns-in_err-remote-clause-refused g c =
    let sees = g.W.World.sees c.args.world.now in
    let options = rows_of (found_of c.args.matches.now) in
    let errors = errors_asked options in
    exit_by (FailsBuild sees (g.P.Workplace.below c.args.workplace errors) options) _ c.from_residual.ensures.1
    (connect_fails sees (g.P.Workplace.below c.args.workplace errors) options c.args.asked.now c.requires.read _ c.in_err-remote.ensures.fault)

pub returns-in_err-check_work-clause-refused : goal.returns-in_err-check_work-clause-refused
returns-in_err-check_work-clause-refused g c =
    let sees = g.W.World.sees c.args.world.now in
    let options = rows_of (found_of c.args.matches.now) in
    let errors = errors_asked options in
    let start = connection_of g.W.Link.Stream.flow c.in_ok-remote.remote in
    exit_by (FailsBuild sees (g.P.Workplace.below c.args.workplace errors) options) _ c.from_residual-in_err-check_work.ensures.1
    (in_folder (reaches sees (g.P.Workplace.below c.args.workplace errors) options c.args.asked.now c.requires.read start c.in_ok-remote.ensures.opened)
    (subst (λ p. FailsFolder sees p c.in_err-check_work.field-0.0) (c.as_str.ensures.value ∙ c.requires.read.work) c.in_err-check_work.ensures.fault))

pub returns-in_err-check_writable-clause-refused : goal.returns-in_err-check_writable-clause-refused
returns-in_err-check_writable-clause-refused g c =
    let sees = g.W.World.sees c.args.world.now in
    let options = rows_of (found_of c.args.matches.now) in
    let errors = errors_asked options in
    let start = connection_of g.W.Link.Stream.flow c.in_ok-remote.remote in
    exit_by (FailsBuild sees (g.P.Workplace.below c.args.workplace errors) options) _ c.from_residual-in_err-check_writable.ensures.1
    (in_place (reaches sees (g.P.Workplace.below c.args.workplace errors) options c.args.asked.now c.requires.read start c.in_ok-remote.ensures.opened)
    (subst (λ p. sees.lists p []) (c.as_str.ensures.value ∙ c.requires.read.work) c.in_ok-check_work.ensures.empty)
    (c.in_err-check_writable.field-0.0, subst (λ p. sees.fails p c.in_err-check_writable.field-0.0) c.text_of.ensures c.in_err-check_writable.ensures.fault, refl))

pub returns-clause-tells : goal.returns-clause-tells
returns-clause-tells g c =
    let sees = g.W.World.sees c.args.world.now in
    let options = rows_of (found_of c.args.matches.now) in
    let start = connection_of g.W.Link.Stream.flow c.in_ok-remote.remote in
    subst (λ x. IfOk c.build_in_folder-told.result (TellsAsked sees (g.P.Workplace.below c.args.workplace x) options)) c.errors_of-errors.ensures
    (IfOk-weaker c.build_in_folder-told.result _ _
    (tells_of sees (g.P.Workplace.below c.args.workplace c.errors_of-errors.result) options c.args.asked.now c.requires.read start c.in_ok-remote.ensures.opened (subst (λ p. sees.lists p []) (c.as_str.ensures.value ∙ c.requires.read.work) c.in_ok-check_work.ensures.empty) (subst sees.takes c.text_of.ensures c.in_ok-check_writable.ensures.takes))
    c.build_in_folder-told.ensures.told)

pub returns-clause-refused : goal.returns-clause-refused
returns-clause-refused g c =
    let sees = g.W.World.sees c.args.world.now in
    let options = rows_of (found_of c.args.matches.now) in
    let start = connection_of g.W.Link.Stream.flow c.in_ok-remote.remote in
    subst (λ x. IfErr c.build_in_folder-told.result (FailsBuild sees (g.P.Workplace.below c.args.workplace x) options)) c.errors_of-errors.ensures
    (err_weaker c.build_in_folder-told.result _ _
    (telling_fails sees (g.P.Workplace.below c.args.workplace c.errors_of-errors.result) options c.args.asked.now c.requires.read start c.in_ok-remote.ensures.opened (subst (λ p. sees.lists p []) (c.as_str.ensures.value ∙ c.requires.read.work) c.in_ok-check_work.ensures.empty) (subst sees.takes c.text_of.ensures c.in_ok-check_writable.ensures.takes))
    c.build_in_folder-told.ensures.fault)
