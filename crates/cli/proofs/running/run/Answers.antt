use Rattle.std.proofs.Common.{◌≡◌, rules, map, string_bytes, codes}
use Rattle.commands.specs.Refusal.{IsPrintFault}
use Rattle.commands.specs.ServeRefused.{IsAcceptFault}
use Rattle.clap.specs.Words.{subcommand_of, subcommand_rows_of}
use Rattle.command_lines.specs.CommandLine.{options_of, program_line}
use Rattle.command_lines.proofs.Called.{calls_one}
use Rattle.commands.proofs.Exits.{exit_by}
use Rattle.commands.proofs.Writing.{where_err}
use Rattle.cli.proofs.CommandLines.{build_begins, build_ends, build_fails, called_by, compare_begins, compare_ends, compare_fails, digest_begins, digest_fails, get_begins, get_ends, get_fails, none_called, put_begins, put_fails, serve_begins, serve_fails, verify_begins, verify_ends, verify_fails}
use Rattle.cli.specs.Built.{errors_asked}
use Rattle.cli.specs.Ended.{Fails}
use Rattle.cli.specs.Ended.BeginsAsked.{shown as show_begun}
use Rattle.cli.specs.Ended.Fails.{in_words}
use Rattle.cli.specs.Ended.IsDone.{shown}
use Rattle.cli.proofs.running.run.Goals as goal

pub returns-in-Err-clause-ended : goal.returns-in-Err-clause-ended
returns-in-Err-clause-ended g c = shown c.in_ok-show-in-Err.ensures.shown

pub returns-in_err-show-in-Err-clause-refused : goal.returns-in_err-show-in-Err-clause-refused
returns-in_err-show-in-Err-clause-refused g c =
    exit_by (Fails (g.W.World.sees c.args.world.now) (g.P.Workplace.below c.args.workplace (errors_asked (options_of (map string_bytes c.args.words.now)))) (map string_bytes c.args.words.now)) _ c.from_residual.ensures.1 (in_words c.in_err-show-in-Err.ensures.fault)

pub returns-in_err-show-in-Err-clause-begun : goal.returns-in_err-show-in-Err-clause-begun
returns-in_err-show-in-Err-clause-begun g c = where_err c.from_residual.result (show_begun c.in_err-show-in-Err.ensures.begun)

pub returns-in_err-show-in-Err-clause-unprinted : goal.returns-in_err-show-in-Err-clause-unprinted
returns-in_err-show-in-Err-clause-unprinted g c =
    exit_by (λ fault. ¬ IsPrintFault fault → ¬ IsAcceptFault fault → g.O.Write.contents c.show.new.out ≡ g.O.Write.contents c.args.out.now) _ c.from_residual.ensures.1
    (λ print accept. c.in_err-show-in-Err.ensures.unprinted print)

pub unreachable-requires : goal.unreachable-requires
unreachable-requires g c =
    let words = map string_bytes c.args.words.now in
    let one = calls_one words c.in-Ok.ensures.fails in
    none_called (subcommand_rows_of c.in-Ok.matches) (subcommand_of program_line words) one.name c.in-Ok.ensures.called c.in_default.ensures.rows one.called.command_is

pub returns-in_ok-run_verify-in-verify-clause-ended : goal.returns-in_ok-run_verify-in-verify-clause-ended
returns-in_ok-run_verify-in-verify-clause-ended g c =
    let words = map string_bytes c.args.words.now in
    let call = called_by words (codes "verify") (subcommand_rows_of c.in-Ok.matches) _ c.in-Ok.ensures.fails c.in-Ok.ensures.called (search rules) c.in-Some.ensures.rows in
    verify_ends (g.P.Workplace.below c.args.workplace (errors_asked (options_of words))) words call.1 _ call.0 c.in_ok-run_verify-in-verify.ensures.answered

pub returns-in_ok-run_compare-in-compare-clause-ended : goal.returns-in_ok-run_compare-in-compare-clause-ended
returns-in_ok-run_compare-in-compare-clause-ended g c =
    let words = map string_bytes c.args.words.now in
    let call = called_by words (codes "compare") (subcommand_rows_of c.in-Ok.matches) _ c.in-Ok.ensures.fails c.in-Ok.ensures.called (search rules) c.in-Some.ensures.rows in
    compare_ends (g.P.Workplace.below c.args.workplace (errors_asked (options_of words))) words call.1 _ _ _ call.0 c.in_ok-run_compare-in-compare.ensures.answered

pub returns-in_ok-run_get-in-get-clause-ended : goal.returns-in_ok-run_get-in-get-clause-ended
returns-in_ok-run_get-in-get-clause-ended g c =
    let words = map string_bytes c.args.words.now in
    let call = called_by words (codes "get") (subcommand_rows_of c.in-Ok.matches) _ c.in-Ok.ensures.fails c.in-Ok.ensures.called (search rules) c.in-Some.ensures.rows in
    get_ends (g.P.Workplace.below c.args.workplace (errors_asked (options_of words))) words call.1 _ call.0 c.in_ok-run_get-in-get.ensures.answered

pub returns-in_ok-run_build-in-build-clause-ended : goal.returns-in_ok-run_build-in-build-clause-ended
returns-in_ok-run_build-in-build-clause-ended g c =
    let words = map string_bytes c.args.words.now in
    let call = called_by words (codes "build") (subcommand_rows_of c.in-Ok.matches) _ c.in-Ok.ensures.fails c.in-Ok.ensures.called (search rules) c.in-Some.ensures.rows in
    build_ends (λ o. g.P.Workplace.below c.args.workplace (errors_asked o)) words call.1 _ call.0 c.in_ok-run_build-in-build.ensures.printed

pub returns-in_err-run_verify-in-verify-clause-refused : goal.returns-in_err-run_verify-in-verify-clause-refused
returns-in_err-run_verify-in-verify-clause-refused g c =
    let words = map string_bytes c.args.words.now in
    let call = called_by words (codes "verify") (subcommand_rows_of c.in-Ok.matches) _ c.in-Ok.ensures.fails c.in-Ok.ensures.called (search rules) c.in-Some.ensures.rows in
    exit_by (Fails (g.W.World.sees c.args.world.now) (g.P.Workplace.below c.args.workplace (errors_asked (options_of (map string_bytes c.args.words.now)))) words) _ c.from_residual-in_err-run_verify-in-verify.ensures.1
    (verify_fails words call.1 _ call.0 c.in_err-run_verify-in-verify.ensures.refused)

pub returns-in_err-run_compare-in-compare-clause-refused : goal.returns-in_err-run_compare-in-compare-clause-refused
returns-in_err-run_compare-in-compare-clause-refused g c =
    let words = map string_bytes c.args.words.now in
    let call = called_by words (codes "compare") (subcommand_rows_of c.in-Ok.matches) _ c.in-Ok.ensures.fails c.in-Ok.ensures.called (search rules) c.in-Some.ensures.rows in
    exit_by (Fails (g.W.World.sees c.args.world.now) (g.P.Workplace.below c.args.workplace (errors_asked (options_of (map string_bytes c.args.words.now)))) words) _ c.from_residual-in_err-run_compare-in-compare.ensures.1
    (compare_fails words call.1 _ call.0 c.in_err-run_compare-in-compare.ensures.refused)

pub returns-in_err-run_build-in-build-clause-refused : goal.returns-in_err-run_build-in-build-clause-refused
returns-in_err-run_build-in-build-clause-refused g c =
    let words = map string_bytes c.args.words.now in
    let call = called_by words (codes "build") (subcommand_rows_of c.in-Ok.matches) _ c.in-Ok.ensures.fails c.in-Ok.ensures.called (search rules) c.in-Some.ensures.rows in
    exit_by (Fails (g.W.World.sees c.args.world.now) (g.P.Workplace.below c.args.workplace (errors_asked (options_of (map string_bytes c.args.words.now)))) words) _ c.from_residual-in_err-run_build-in-build.ensures.1
    (build_fails (λ o. g.P.Workplace.below c.args.workplace (errors_asked o)) words call.1 _ call.0 c.in_err-run_build-in-build.ensures.refused)

pub returns-in_err-run_put-in-put-clause-refused : goal.returns-in_err-run_put-in-put-clause-refused
returns-in_err-run_put-in-put-clause-refused g c =
    let words = map string_bytes c.args.words.now in
    let call = called_by words (codes "put") (subcommand_rows_of c.in-Ok.matches) _ c.in-Ok.ensures.fails c.in-Ok.ensures.called (search rules) c.in-Some.ensures.rows in
    exit_by (Fails (g.W.World.sees c.args.world.now) (g.P.Workplace.below c.args.workplace (errors_asked (options_of (map string_bytes c.args.words.now)))) words) _ c.from_residual-in_err-run_put-in-put.ensures.1
    (put_fails words call.1 _ call.0 c.in_err-run_put-in-put.ensures.refused)

pub returns-in_err-run_digest-in-digest-clause-refused : goal.returns-in_err-run_digest-in-digest-clause-refused
returns-in_err-run_digest-in-digest-clause-refused g c =
    let words = map string_bytes c.args.words.now in
    let call = called_by words (codes "digest") (subcommand_rows_of c.in-Ok.matches) _ c.in-Ok.ensures.fails c.in-Ok.ensures.called (search rules) c.in-Some.ensures.rows in
    exit_by (Fails (g.W.World.sees c.args.world.now) (g.P.Workplace.below c.args.workplace (errors_asked (options_of (map string_bytes c.args.words.now)))) words) _ c.from_residual-in_err-run_digest-in-digest.ensures.1
    (digest_fails words call.1 _ call.0 c.in_err-run_digest-in-digest.ensures.refused)

pub returns-in_err-run_get-in-get-clause-refused : goal.returns-in_err-run_get-in-get-clause-refused
returns-in_err-run_get-in-get-clause-refused g c =
    let words = map string_bytes c.args.words.now in
    let call = called_by words (codes "get") (subcommand_rows_of c.in-Ok.matches) _ c.in-Ok.ensures.fails c.in-Ok.ensures.called (search rules) c.in-Some.ensures.rows in
    exit_by (Fails (g.W.World.sees c.args.world.now) (g.P.Workplace.below c.args.workplace (errors_asked (options_of (map string_bytes c.args.words.now)))) words) _ c.from_residual-in_err-run_get-in-get.ensures.1
    (get_fails words call.1 _ call.0 c.in_err-run_get-in-get.ensures.refused)

pub returns-in_err-run_serve-in-serve-clause-refused : goal.returns-in_err-run_serve-in-serve-clause-refused
returns-in_err-run_serve-in-serve-clause-refused g c =
    let words = map string_bytes c.args.words.now in
    let call = called_by words (codes "serve") (subcommand_rows_of c.in-Ok.matches) _ c.in-Ok.ensures.fails c.in-Ok.ensures.called (search rules) c.in-Some.ensures.rows in
    exit_by (Fails (g.W.World.sees c.args.world.now) (g.P.Workplace.below c.args.workplace (errors_asked (options_of (map string_bytes c.args.words.now)))) words) _ c.from_residual-in_err-run_serve-in-serve.ensures.1
    (serve_fails words call.1 _ call.0 c.in_err-run_serve-in-serve.ensures.refused)

pub returns-in_err-run_get-in-get-clause-unprinted : goal.returns-in_err-run_get-in-get-clause-unprinted
returns-in_err-run_get-in-get-clause-unprinted g c =
    exit_by (λ fault. ¬ IsPrintFault fault → ¬ IsAcceptFault fault → g.O.Write.contents c.run_get.new.out ≡ g.O.Write.contents c.args.out.now) _ c.from_residual-in_err-run_get-in-get.ensures.1
    (λ print accept. c.in_err-run_get-in-get.ensures.unprinted print)

pub returns-in_err-run_put-in-put-clause-unprinted : goal.returns-in_err-run_put-in-put-clause-unprinted
returns-in_err-run_put-in-put-clause-unprinted g c =
    exit_by (λ fault. ¬ IsPrintFault fault → ¬ IsAcceptFault fault → g.O.Write.contents c.run_put.new.out ≡ g.O.Write.contents c.args.out.now) _ c.from_residual-in_err-run_put-in-put.ensures.1
    (λ print accept. c.in_err-run_put-in-put.ensures.unprinted print)

pub returns-in_err-run_digest-in-digest-clause-unprinted : goal.returns-in_err-run_digest-in-digest-clause-unprinted
returns-in_err-run_digest-in-digest-clause-unprinted g c =
    exit_by (λ fault. ¬ IsPrintFault fault → ¬ IsAcceptFault fault → g.O.Write.contents c.run_digest.new.out ≡ g.O.Write.contents c.args.out.now) _ c.from_residual-in_err-run_digest-in-digest.ensures.1
    (λ print accept. c.in_err-run_digest-in-digest.ensures.unprinted print)

pub returns-in_err-run_serve-in-serve-clause-unprinted : goal.returns-in_err-run_serve-in-serve-clause-unprinted
returns-in_err-run_serve-in-serve-clause-unprinted g c =
    exit_by (λ fault. ¬ IsPrintFault fault → ¬ IsAcceptFault fault → g.O.Write.contents c.run_serve.new.out ≡ g.O.Write.contents c.args.out.now) _ c.from_residual-in_err-run_serve-in-serve.ensures.1
    c.in_err-run_serve-in-serve.ensures.unprinted

pub returns-in_err-run_verify-in-verify-clause-unprinted : goal.returns-in_err-run_verify-in-verify-clause-unprinted
returns-in_err-run_verify-in-verify-clause-unprinted g c =
    exit_by (λ fault. ¬ IsPrintFault fault → ¬ IsAcceptFault fault → g.O.Write.contents c.run_verify.new.out ≡ g.O.Write.contents c.args.out.now) _ c.from_residual-in_err-run_verify-in-verify.ensures.1
    (λ print accept. c.in_err-run_verify-in-verify.ensures.unprinted print)

pub returns-in_err-run_compare-in-compare-clause-unprinted : goal.returns-in_err-run_compare-in-compare-clause-unprinted
returns-in_err-run_compare-in-compare-clause-unprinted g c =
    exit_by (λ fault. ¬ IsPrintFault fault → ¬ IsAcceptFault fault → g.O.Write.contents c.run_compare.new.out ≡ g.O.Write.contents c.args.out.now) _ c.from_residual-in_err-run_compare-in-compare.ensures.1
    (λ print accept. c.in_err-run_compare-in-compare.ensures.unprinted print)

pub returns-in_err-run_build-in-build-clause-unprinted : goal.returns-in_err-run_build-in-build-clause-unprinted
returns-in_err-run_build-in-build-clause-unprinted g c =
    exit_by (λ fault. ¬ IsPrintFault fault → ¬ IsAcceptFault fault → g.O.Write.contents c.run_build.new.out ≡ g.O.Write.contents c.args.out.now) _ c.from_residual-in_err-run_build-in-build.ensures.1
    (λ print accept. c.in_err-run_build-in-build.ensures.unprinted print)

pub returns-in_err-run_verify-in-verify-clause-begun : goal.returns-in_err-run_verify-in-verify-clause-begun
returns-in_err-run_verify-in-verify-clause-begun g c =
    let words = map string_bytes c.args.words.now in
    let call = called_by words (codes "verify") (subcommand_rows_of c.in-Ok.matches) _ c.in-Ok.ensures.fails c.in-Ok.ensures.called (search rules) c.in-Some.ensures.rows in
    where_err c.from_residual-in_err-run_verify-in-verify.result (verify_begins words call.1 call.0 c.in_err-run_verify-in-verify.ensures.begun c.in_err-run_verify-in-verify.ensures.unended)

pub returns-in_err-run_compare-in-compare-clause-begun : goal.returns-in_err-run_compare-in-compare-clause-begun
returns-in_err-run_compare-in-compare-clause-begun g c =
    let words = map string_bytes c.args.words.now in
    let call = called_by words (codes "compare") (subcommand_rows_of c.in-Ok.matches) _ c.in-Ok.ensures.fails c.in-Ok.ensures.called (search rules) c.in-Some.ensures.rows in
    where_err c.from_residual-in_err-run_compare-in-compare.result (compare_begins words call.1 call.0 c.in_err-run_compare-in-compare.ensures.begun c.in_err-run_compare-in-compare.ensures.unended)

pub returns-in_err-run_get-in-get-clause-begun : goal.returns-in_err-run_get-in-get-clause-begun
returns-in_err-run_get-in-get-clause-begun g c =
    let words = map string_bytes c.args.words.now in
    let call = called_by words (codes "get") (subcommand_rows_of c.in-Ok.matches) _ c.in-Ok.ensures.fails c.in-Ok.ensures.called (search rules) c.in-Some.ensures.rows in
    where_err c.from_residual-in_err-run_get-in-get.result (get_begins words call.1 call.0 c.in_err-run_get-in-get.ensures.begun)

pub returns-in_err-run_put-in-put-clause-begun : goal.returns-in_err-run_put-in-put-clause-begun
returns-in_err-run_put-in-put-clause-begun g c =
    let words = map string_bytes c.args.words.now in
    let call = called_by words (codes "put") (subcommand_rows_of c.in-Ok.matches) _ c.in-Ok.ensures.fails c.in-Ok.ensures.called (search rules) c.in-Some.ensures.rows in
    where_err c.from_residual-in_err-run_put-in-put.result (put_begins words call.1 call.0 c.in_err-run_put-in-put.ensures.begun)

pub returns-in_err-run_digest-in-digest-clause-begun : goal.returns-in_err-run_digest-in-digest-clause-begun
returns-in_err-run_digest-in-digest-clause-begun g c =
    let words = map string_bytes c.args.words.now in
    let call = called_by words (codes "digest") (subcommand_rows_of c.in-Ok.matches) _ c.in-Ok.ensures.fails c.in-Ok.ensures.called (search rules) c.in-Some.ensures.rows in
    where_err c.from_residual-in_err-run_digest-in-digest.result (digest_begins words call.1 call.0 c.in_err-run_digest-in-digest.ensures.begun)

pub returns-in_err-run_serve-in-serve-clause-begun : goal.returns-in_err-run_serve-in-serve-clause-begun
returns-in_err-run_serve-in-serve-clause-begun g c =
    let words = map string_bytes c.args.words.now in
    let call = called_by words (codes "serve") (subcommand_rows_of c.in-Ok.matches) _ c.in-Ok.ensures.fails c.in-Ok.ensures.called (search rules) c.in-Some.ensures.rows in
    where_err c.from_residual-in_err-run_serve-in-serve.result (serve_begins words call.1 call.0 c.in_err-run_serve-in-serve.ensures.begun)

pub returns-in_err-run_build-in-build-clause-begun : goal.returns-in_err-run_build-in-build-clause-begun
returns-in_err-run_build-in-build-clause-begun g c =
    let words = map string_bytes c.args.words.now in
    let call = called_by words (codes "build") (subcommand_rows_of c.in-Ok.matches) _ c.in-Ok.ensures.fails c.in-Ok.ensures.called (search rules) c.in-Some.ensures.rows in
    where_err c.from_residual-in_err-run_build-in-build.result (build_begins (λ o. g.P.Workplace.below c.args.workplace (errors_asked o)) words call.1 call.0 c.in_err-run_build-in-build.ensures.begun)
