use Rattle.std.proofs.Common.{◌∙◌, Some, refl, string_bytes, subst}
use Rattle.std.proofs.Math.Logic.{∥∥₁_map}
use Rattle.blob_source.specs.declared.source.FetchError.TheVariants.{Failed}
use Rattle.remote.specs.Remote.{connection_of}
use Rattle.commands.specs.Places.{KeepsRefused}
use Rattle.commands.proofs.Failures.{failure_told}
use Rattle.commands.proofs.client.Client.error.Goals as goal

pub returns-in_ok-from_str-in-Some-clause-over : goal.returns-in_ok-from_str-in-Some-clause-over
returns-in_ok-from_str-in-Some-clause-over g c =
    let access = g.U.Permit.access in
    let start = g.K.Opened.start in
    let now = connection_of g.S.Stream.flow c.args.self.now.remote in
    failure_told access start now (string_bytes c.args.server.now.address) (Some c.in-Some.failure) Failed _
    (∥∥₁_map c.args.self.now.refused (subst (KeepsRefused access start now) c.in-Some.is)) (c.in_ok-from_str-in-Some.ensures.ok ∙ c.as_str.ensures.value, refl)
