use Rattle.std.proofs.Common.{◌≡◌, refl, string_bytes}
use Rattle.std.proofs.Math.Logic.{∥∥₁_map}
use Rattle.remote.specs.Remote.{connection_of, telling_of}
use Rattle.commands.specs.Faults.{OrMemory}
use Rattle.commands.specs.GetRefused.{FailsGetTree}
use Rattle.commands.specs.Refusal.{IsPrintFault}
use Rattle.commands.proofs.Exits.{exit_by, or_else}
use Rattle.commands.proofs.Gotten.{tree_fails}
use Rattle.commands.proofs.Tellings.{nothing_by}
use Rattle.commands.proofs.Writing.{where_err}
use Rattle.commands.proofs.trees.get_tree.Goals as goal

pub returns-in-Ok-clause-got : goal.returns-in-Ok-clause-got
returns-in-Ok-clause-got g c =
    let source = c.check_out.new.source in
    record {
      before = telling_of c.args.client.now.remote;
      nothing = nothing_by c.args.client.now.remote c.requires.fresh;
      told = telling_of source.remote;
      over = ∥∥₁_map source.over (λ over. (connection_of g.W.Link.Stream.flow source.remote, over));
      few = c.check_out.ensures.few;
      only = c.check_out.ensures.only;
      tried = c.in-Ok.ensures.tried;
      holds = c.in-Ok.ensures.written;
      unprinted = refl;
    }

pub returns-in_ok-print_lack-in-Err-clause-got : goal.returns-in_ok-print_lack-in-Err-clause-got
returns-in_ok-print_lack-in-Err-clause-got g c =
    let source = c.check_out.new.source in
    record {
      before = telling_of c.args.client.now.remote;
      nothing = nothing_by c.args.client.now.remote c.requires.fresh;
      told = telling_of source.remote;
      over = ∥∥₁_map source.over (λ over. (connection_of g.W.Link.Stream.flow source.remote, over));
      error = c.in-Err.error;
      fails = c.in-Err.ensures.refused;
      lacks = c.in_ok-print_lack-in-Err.ensures.printed;
    }

pub returns-in_err-print_lack-in-Err-clause-begun : goal.returns-in_err-print_lack-in-Err-clause-begun
returns-in_err-print_lack-in-Err-clause-begun g c =
    let source = c.check_out.new.source in
    where_err c.from_residual.result (or_else c.in_err-print_lack-in-Err.ensures.begun (λ lacks. record {
      before = telling_of c.args.client.now.remote;
      nothing = nothing_by c.args.client.now.remote c.requires.fresh;
      told = telling_of source.remote;
      over = ∥∥₁_map source.over (λ over. (connection_of g.W.Link.Stream.flow source.remote, over));
      error = c.in-Err.error;
      fails = c.in-Err.ensures.refused;
      lacks = lacks;
    }))

pub returns-in_err-print_lack-in-Err-clause-fault : goal.returns-in_err-print_lack-in-Err-clause-fault
returns-in_err-print_lack-in-Err-clause-fault g c =
    let sees = g.W.World.sees c.args.world.now in
    let source = c.check_out.new.source in
    let start = g.K.Opened.start in
    let address = string_bytes c.args.server.now.address in
    let folder = c.args.folder.now in
    let digest = c.args.digest.now in
    exit_by (OrMemory (FailsGetTree sees start address digest folder)) _ c.from_residual.ensures.1
    (tree_fails sees start address digest folder (telling_of c.args.client.now.remote) (telling_of source.remote) c.in-Err.error _
    (nothing_by c.args.client.now.remote c.requires.fresh)
    (∥∥₁_map source.over (λ over. (connection_of g.W.Link.Stream.flow source.remote, over)))
    c.in-Err.ensures.refused c.in_err-print_lack-in-Err.ensures.fault)

pub returns-in_err-print_lack-in-Err-clause-unprinted : goal.returns-in_err-print_lack-in-Err-clause-unprinted
returns-in_err-print_lack-in-Err-clause-unprinted g c =
    exit_by (λ e. ¬ IsPrintFault e → g.O.Write.contents c.print_lack.new.out ≡ g.O.Write.contents c.args.out.now) _ c.from_residual.ensures.1
    c.in_err-print_lack-in-Err.ensures.unprinted
