use Rattle.std.proofs.Common.{length-append, ◌+◌, rules, ◌≤◌, ◌≡◌, ◌<◌, ◌-◌, ap, sym, ◌∙◌, refl, arith, List, ℕ, ◌++◌, length, take}
use Rattle.blob_digest.specs.Body.{greatest_blob}
use Rattle.http_core.specs.Session.{SessionValue, session_state}
use Rattle.http_core.proofs.Steps.{takes_some, takes_all}
use Rattle.http_core.proofs.session.Session.take_body.Goals as goal

pub returns-then-piece-missing-clause-takes : goal.returns-then-piece-missing-clause-takes
returns-then-piece-missing-clause-takes g c =
    let inside = c.self.inside in
    let is : session_state inside.stage inside.block.items inside.body ≡ c.args.self.now.state = ap (λ (z : SessionValue). z.state) c.self.view_is in
    let few : length c.args.piece.now < c.in-Body.length - length inside.body = omega (arith, c.len.ensures, c.if-piece-missing.true) in
    record { some = c.requires.some; within = omega arith; valid = tt; moves = takes_some c.args.self.now.prefix c.args.self.now.state (session_state inside.stage inside.block.items c.push.new.self) inside.stage inside.block.items inside.body c.args.piece.now c.push.new.self c.in-Body.area c.in-Body.hash c.in-Body.length c.in-Body.close is c.in-Body.is few c.in_ok-push.ensures.ok refl }

pub returns-clause-takes : goal.returns-clause-takes
returns-clause-takes g c =
    let inside = c.self.inside in
    let is : session_state inside.stage inside.block.items inside.body ≡ c.args.self.now.state = ap (λ (z : SessionValue). z.state) c.self.view_is in
    let taken : List ℕ = take (c.in-Body.length - c.len.result) c.args.piece.now in
    let few : length taken ≡ c.in-Body.length - length inside.body = let n : c.in-Body.length - c.len.result ≡ c.in-Body.length - length inside.body = omega (arith, c.len.ensures) in ap length (sym c.split_at.ensures.front) ∙ c.split_at.ensures.front_len ∙ n in
    let more : c.seal-body.result ≡ inside.body ++ taken = c.seal-body.ensures ∙ c.replace.ensures.value ∙ c.in_ok-push-2.ensures.ok ∙ ap (λ z. inside.body ++ z) c.split_at.ensures.front in
    let most : c.in-Body.length ≤ greatest_blob = search rules in
    let short : length inside.body < c.in-Body.length = search rules in
    let many : length c.seal-body.result ≡ length inside.body + length taken = ap length more ∙ length-append inside.body taken in
    record { valid = (omega arith, tt); some = omega (arith, c.len.ensures); within = omega (arith, c.if-piece-missing.false); moves = λ rest h. (takes_all c.args.self.now.prefix c.args.self.now.state inside.stage inside.block.items inside.body taken c.seal-body.result c.in-Body.area c.in-Body.hash c.in-Body.length c.in-Body.close is c.in-Body.is few more rest h, c.end.ensures.state) }
