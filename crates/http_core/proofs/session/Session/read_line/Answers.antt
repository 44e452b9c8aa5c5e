use Rattle.std.proofs.Common.{◌≡◌, ◌<◌, ◌≤◌, ◌-◌, ap, sym, ◌∙◌, subst, true, Some, None, rules, arith, length}
use Rattle.std.specs.Prelude.{option_map}
use Rattle.http_core.specs.Block.{EndsBlock}
use Rattle.http_core.specs.Event.{event_of, Refused}
use Rattle.http_core.specs.Judging.{Judges}
use Rattle.http_core.specs.Session.{Reading, SessionValue, session_state}
use Rattle.http_core.proofs.Fitting.{allowed}
use Rattle.http_core.proofs.Steps.{line_some, reads_line, still_reading, at_block, within_block, past_block}
use Rattle.http_core.proofs.session.Session.read_line.Goals as goal

pub returns-then-ends_block-clause-takes : goal.returns-then-ends_block-clause-takes
returns-then-ends_block-clause-takes g c =
    let inside = c.self.inside in
    let old = c.args.self.now in
    let read = c.extend_from_slice.new.self.items in
    let line = c.first_line-line.ensures in
    let is : session_state inside.stage inside.block.items inside.body ≡ old.state = ap (λ (z : SessionValue). z.state) c.self.view_is in
    let prefix : c.as_bytes.result.now ≡ old.prefix = c.as_bytes.ensures ∙ ap (λ (z : SessionValue). z.prefix) c.self.view_is in
    let room : c.saturating_sub.result ≤ 16384 - length inside.block.items = omega (arith, c.saturating_sub.ensures, c.len.ensures) in
    let ends : EndsBlock read = subst EndsBlock c.as_slice.ensures.value (c.ends_block.ensures.0 (search (rules, c.if-ends_block.true))) in
    let judged : Judges old.prefix read c.judge-judgement.result = subst (λ z. Judges z read c.judge-judgement.result) prefix (subst (λ z. Judges c.as_bytes.result.now z c.judge-judgement.result) c.as_slice-then-ends_block.ensures.value c.judge-judgement.ensures) in
    record {
      some = line_some c.first_line-line.result.now line.line;
      within = line.within;
      valid = c.follow.ensures.valid;
      moves = reads_line old.prefix old.state c.follow.new.self.state inside.stage inside.block.items inside.body c.first_line-line.result.now read c.args.piece.now c.saturating_sub.result (option_map event_of c.follow.result) is c.requires.reading line.line c.in_ok-extend_from_slice.ensures.items line.most room line.front
          (λ front last e none few. at_block old.prefix front read last c.judge-judgement.result (option_map event_of c.follow.result) c.follow.new.self.state e ends judged c.follow.ensures.follows none few);
    }

pub returns-then-len-lt-MAX_BLOCK-clause-takes : goal.returns-then-len-lt-MAX_BLOCK-clause-takes
returns-then-len-lt-MAX_BLOCK-clause-takes g c =
    let inside = c.self.inside in
    let old = c.args.self.now in
    let read = c.extend_from_slice.new.self.items in
    let line = c.first_line-line.ensures in
    let is : session_state inside.stage inside.block.items inside.body ≡ old.state = ap (λ (z : SessionValue). z.state) c.self.view_is in
    let room : c.saturating_sub.result ≤ 16384 - length inside.block.items = omega (arith, c.saturating_sub.ensures, c.len.ensures) in
    let not_ends : EndsBlock read → ⊥ = λ e. let t : c.ends_block.result ≡ true = search (rules, c.ends_block.ensures.1 (subst EndsBlock (sym c.as_slice.ensures.value) e)) in (let f = c.if-ends_block.false in cc) in
    let reading : session_state inside.stage read inside.body ≡ Reading read = still_reading inside.stage inside.block.items read inside.body old.state is c.requires.reading in
    let few : length read < 16384 = omega (arith, c.len-2.ensures, c.if-len-lt-MAX_BLOCK.true) in
    record {
      some = line_some c.first_line-line.result.now line.line;
      within = line.within;
      valid = tt;
      moves = reads_line old.prefix old.state (session_state inside.stage read inside.body) inside.stage inside.block.items inside.body c.first_line-line.result.now read c.args.piece.now c.saturating_sub.result None is c.requires.reading line.line c.in_ok-extend_from_slice.ensures.items line.most room line.front
          (λ front last e none small. within_block old.prefix front read last (session_state inside.stage read inside.body) e not_ends reading few none small);
    }

pub returns-clause-takes : goal.returns-clause-takes
returns-clause-takes g c =
    let inside = c.self.inside in
    let old = c.args.self.now in
    let read = c.extend_from_slice.new.self.items in
    let line = c.first_line-line.ensures in
    let is : session_state inside.stage inside.block.items inside.body ≡ old.state = ap (λ (z : SessionValue). z.state) c.self.view_is in
    let room : c.saturating_sub.result ≤ 16384 - length inside.block.items = omega (arith, c.saturating_sub.ensures, c.len.ensures) in
    let not_ends : EndsBlock read → ⊥ = λ e. let t : c.ends_block.result ≡ true = search (rules, c.ends_block.ensures.1 (subst EndsBlock (sym c.as_slice.ensures.value) e)) in (let f = c.if-ends_block.false in cc) in
    let many : 16384 ≤ length read = omega (arith, c.len-2.ensures, c.if-len-lt-MAX_BLOCK.false) in
    record {
      some = line_some c.first_line-line.result.now line.line;
      within = line.within;
      valid = (tt, tt);
      moves = reads_line old.prefix old.state c.close.new.self.state inside.stage inside.block.items inside.body c.first_line-line.result.now read c.args.piece.now c.saturating_sub.result (Some (Refused 431 true)) is c.requires.reading line.line c.in_ok-extend_from_slice.ensures.items line.most room line.front
          (λ front last e none few. past_block old.prefix front read last c.close.new.self.state e not_ends c.close.ensures.state many none few);
    }

pub follow-requires-clause-fits : goal.follow-requires-clause-fits
follow-requires-clause-fits g c = (allowed c.as_bytes.result.now c.as_slice-then-ends_block.result.now c.judge-judgement.result c.judge-judgement.ensures).0

pub follow-requires-clause-valid : goal.follow-requires-clause-valid
follow-requires-clause-valid g c = (allowed c.as_bytes.result.now c.as_slice-then-ends_block.result.now c.judge-judgement.result c.judge-judgement.ensures).1
