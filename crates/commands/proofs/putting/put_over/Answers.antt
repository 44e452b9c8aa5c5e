use Rattle.std.proofs.Common.{◌≡◌, rules, string_bytes, subst}
use Rattle.std.proofs.lemmas.Result.{IfOk-weaker}
use Rattle.commands.specs.Client.{connection}
use Rattle.commands.specs.Faults.{OrMemory}
use Rattle.commands.specs.Put.{PutsPath}
use Rattle.commands.specs.PutRefused.{FailsBelow}
use Rattle.commands.specs.Putting.{address_of_putter, connection_of_putter}
use Rattle.commands.proofs.Exits.{err_weaker}
use Rattle.commands.proofs.Puts.{or_unput, path_put}
use Rattle.commands.proofs.putting.put_over.Goals as goal

pub returns-clause-put : goal.returns-clause-put
returns-clause-put g c =
    let sees = g.W.World.sees c.args.world.now in
    let opened : connection c.new-client.result ≡ g.K.Opened.start = search rules in
    IfOk-weaker c.read_path-put.result _ _
    (λ digest h. subst (λ start. PutsPath sees start (string_bytes c.args.place) digest) opened
    (subst (λ p. PutsPath sees (connection c.new-client.result) p digest) c.as_str.ensures.value
    (path_put connection_of_putter address_of_putter sees c.as_str.result.now _ digest _ h))) c.read_path-put.ensures.taken

pub returns-clause-refused : goal.returns-clause-refused
returns-clause-refused g c =
    let sees = g.W.World.sees c.args.world.now in
    let address = string_bytes c.args.server.address in
    let opened : connection c.new-client.result ≡ g.K.Opened.start = search rules in
    err_weaker c.read_path-put.result _ _
    (λ e h. subst (λ start. OrMemory (λ x. FailsBelow sees address x 64 (string_bytes c.args.place) start) e) opened
    (subst (λ p. OrMemory (λ x. FailsBelow sees address x 64 p (connection c.new-client.result)) e) c.as_str.ensures.value
    (or_unput connection_of_putter address_of_putter sees c.as_str.result.now _ 64 e h))) c.read_path-put.ensures.refused
