use Rattle.std.proofs.Common.{◌∙◌, [], None, ap, refl, subst, sym}
use Rattle.http_core.specs.declared.event.Area.TheVariants.{Ac, Cas}
use Rattle.remote.specs.Line.{ConnectionValue}
use Rattle.remote.specs.Remote.{blobs_of, connection_of, results_of, telling_of}
use Rattle.commands.specs.Places.{AreLacked, IsClientOver, KeepsRefused, LacksIt, LacksOver}
use Rattle.commands.proofs.Tellings.{ComesPutting, comes_first, none_lacked, none_unasked, same_put, some_not_none}
use Rattle.commands.proofs.client.Client.new.Goals as goal

pub invariant_of-result : goal.invariant_of-result
invariant_of-result g c =
    let remote = c.args.remote in
    let access = g.U.Permit.access in
    let calls = (telling_of remote).calls in
    let first = same_put [] (telling_of remote).puts calls _ c.requires.fresh.puts (subst (ComesPutting access g.K.Opened.start [] calls) c.requires.start (comes_first access g.K.Opened.start calls)) in
    let over : IsClientOver access g.K.Opened.start (connection_of g.S.Stream.flow remote) (telling_of remote) = record {
      came = first.0;
      puts = first.1;
      few = first.2;
      failures = refl;
      blobs = λ d b is. absurd (some_not_none (sym is ∙ none_unasked (blobs_of remote) d (c.requires.fresh.blobs d)));
      results = λ d b is. absurd (some_not_none (sym is ∙ none_unasked (results_of remote) d (c.requires.fresh.results d)));
    } in
    let lacked : AreLacked (LacksIt access g.K.Opened.start) (blobs_of remote) (results_of remote) = record {
      blobs = none_lacked (λ d. LacksOver access g.K.Opened.start Cas d.hash) (blobs_of remote) c.requires.fresh.blobs;
      results = none_lacked (λ d. LacksOver access g.K.Opened.start Ac d.hash) (results_of remote) c.requires.fresh.results;
    } in
    let refused : KeepsRefused access g.K.Opened.start (connection_of g.S.Stream.flow remote) None =
    ap (λ (line : ConnectionValue). line.failures) (sym c.requires.start) in
    record { over = ∣ over ∣₁; lacked = ∣ lacked ∣₁; refused = ∣ refused ∣₁ }
