use Rattle.std.proofs.Common.{◌≡◌, ◌++◌, IfOk, codes, rules, string_bytes, subst}
use Rattle.commands.proofs.telling.no_blob_text.Goals as goal

pub returns : goal.returns
returns c =
    let told : IfOk c.format.result (λ text. string_bytes text ≡ c.args.server.now ++ (codes " has no blob " ++ string_bytes c.in_ok-text.text)) = search rules in
    subst (λ digest. IfOk c.format.result (λ text. string_bytes text ≡ c.args.server.now ++ (codes " has no blob " ++ digest))) c.in_ok-text.ensures told
