use Rattle.std.proofs.Common.{◌≡◌, IfSome, inr, subst, string_bytes, ℕ}
use Rattle.std.specs.Io.KnownBytes.{Appends}
use Rattle.std.specs.declared.alloc.Global.{Global}
use Rattle.std.specs.declared.vec.Vec.{Vec}
use Rattle.commands.specs.Faults.{OrMemory}
use Rattle.commands.specs.GetRefused.{FailsGetBlob}
use Rattle.commands.specs.GetRefused.FailsGetBlob.{in_output}
use Rattle.commands.specs.Got.{IsBlobOver}
use Rattle.commands.specs.Refusal.{IsPrintFault}
use Rattle.commands.specs.Told.{AppendsBeginning}
use Rattle.commands.proofs.Exits.{exit_by}
use Rattle.commands.proofs.Writing.{where_err}
use Rattle.commands.proofs.getting.print_blob.Goals as goal

pub returns-in_err-print_all-clause-begun : goal.returns-in_err-print_all-clause-begun
returns-in_err-print_all-clause-begun g c =
    let old = g.O.Write.contents c.args.out.now in
    let new = g.O.Write.contents c.print_all.new.out in
    let bytes = c.in-Some.bytes.items in
    let start = g.K.Opened.start in
    let digest = c.args.digest.now in
    let blob : IsBlobOver start digest bytes = subst (λ o. IfSome o (λ (b : Vec ℕ Global). IsBlobOver start digest b.items)) c.in-Some.is c.in_ok-bytes.ensures.right in
    where_err c.from_residual-in_err-print_all.result
    (inr (bytes, blob, subst (AppendsBeginning old new) c.deref.ensures.value c.in_err-print_all.ensures.begun))

pub returns-in_err-print_all-clause-fault : goal.returns-in_err-print_all-clause-fault
returns-in_err-print_all-clause-fault g c =
    let bytes = c.in-Some.bytes.items in
    let start = g.K.Opened.start in
    let digest = c.args.digest.now in
    let blob : IsBlobOver start digest bytes = subst (λ o. IfSome o (λ (b : Vec ℕ Global). IsBlobOver start digest b.items)) c.in-Some.is c.in_ok-bytes.ensures.right in
    exit_by (OrMemory (FailsGetBlob start (string_bytes c.args.server.now.address) digest)) _ c.from_residual-in_err-print_all.ensures.1
    (inr (in_output bytes blob c.in_err-print_all.ensures.fault))

pub returns-in_err-print_all-clause-unprinted : goal.returns-in_err-print_all-clause-unprinted
returns-in_err-print_all-clause-unprinted g c =
    exit_by (λ e. ¬ IsPrintFault e → g.O.Write.contents c.print_all.new.out ≡ g.O.Write.contents c.args.out.now) _ c.from_residual-in_err-print_all.ensures.1
    (λ not. absurd (not c.in_err-print_all.ensures.fault))

pub returns-clause-printed : goal.returns-clause-printed
returns-clause-printed g c =
    let old = g.O.Write.contents c.args.out.now in
    let new = g.O.Write.contents c.print_all.new.out in
    let bytes = c.in-Some.bytes.items in
    let start = g.K.Opened.start in
    let digest = c.args.digest.now in
    let blob : IsBlobOver start digest bytes = subst (λ o. IfSome o (λ (b : Vec ℕ Global). IsBlobOver start digest b.items)) c.in-Some.is c.in_ok-bytes.ensures.right in
    record { bytes = bytes; blob = blob; printed = subst (Appends old new) c.deref.ensures.value c.in_ok-print_all.ensures.printed }
