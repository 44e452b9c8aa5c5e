use Rattle.std.proofs.Common.{bytes_eq, sym, subst, refl}
use Rattle.std.specs.Prelude.{IsSome}
use Rattle.std.specs.Map.{lookup}
use Rattle.std.proofs.lemmas.Result.{IfOk-weaker}
use Rattle.action_cache.proofs.Mirrors.{on_err}
use Rattle.action_cache.proofs.Unpinning.{find_entry}
use Rattle.action_cache.proofs.Pinning.{no_entry}
use Rattle.action_cache.proofs.Surveyed.{under_hash, under_none}
use Rattle.action_cache.proofs.cache.survey_of.Goals as goal

pub returns-in-Some-clause-ok : goal.returns-in-Some-clause-ok
returns-in-Some-clause-ok g c =
    let B = c.args.blobs.now.entries in
    let R = c.args.results.now.entries in
    let f = find_entry (lookup (bytes_eq c.args.hash.now) R) c.in-Some.bytes.now c.in-Some.ensures in
    IfOk-weaker c.walk.result _ _ (under_hash B R c.args.hash.now c.in-Some.bytes.now f.0 f.1 f.2) c.walk.ensures

pub returns-in-Some-clause-err : goal.returns-in-Some-clause-err
returns-in-Some-clause-err g c =
    let f = find_entry (lookup (bytes_eq c.args.hash.now) c.args.results.now.entries) c.in-Some.bytes.now c.in-Some.ensures in
    on_err c.walk.result (subst IsSome (sym f.1) refl)

pub returns-in-None-clause-ok : goal.returns-in-None-clause-ok
returns-in-None-clause-ok g c =
    let R = c.args.results.now.entries in
    under_none R c.args.hash.now (no_entry (lookup (bytes_eq c.args.hash.now) R) c.in-None.ensures)
