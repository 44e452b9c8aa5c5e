use Rattle.std.proofs.Common.{◌≡◌, Ok, Err, None, refl}
use Rattle.messages.proofs.DirectoryCodec.{err_not_ok}
use Rattle.action_messages.specs.Ascending.{ascending_behind}
use Rattle.action_messages.specs.Platform.{setting_cmp}
use Rattle.action_messages.proofs.Sorted.{ascending, not_ascending}
use Rattle.action_messages.proofs.PlatformCodec.{setting_trans}
use Rattle.action_messages.proofs.platform.Platform.new.Goals as goal

pub returns-in_err-check_properties-clause-some : goal.returns-in_err-check_properties-clause-some
returns-in_err-check_properties-clause-some g c =
    let given : ascending_behind setting_cmp None c.args.properties.items ≡ Err c.in_err-check_properties.field-0.0 = rw c.deref.ensures.value at c.in_err-check_properties.ensures.exact in
    (λ ok. absurd (err_not_ok c.from_residual.result c.from_residual.ensures.0 ok), λ up. absurd (not_ascending setting_cmp c.args.properties.items c.in_err-check_properties.field-0.0 given up))

pub invariant_of-result : goal.invariant_of-result
invariant_of-result g c =
    let given : ascending_behind setting_cmp None c.args.properties.items ≡ Ok tt = rw c.deref.ensures.value at c.in_ok-check_properties.ensures.exact in
    record { properties = rw c.deref.ensures.value at c.in_ok-check_properties.ensures.kept; ascend = ascending setting_cmp setting_trans c.args.properties.items given }

pub returns-clause-some : goal.returns-clause-some
returns-clause-some g c =
    let given : ascending_behind setting_cmp None c.args.properties.items ≡ Ok tt = rw c.deref.ensures.value at c.in_ok-check_properties.ensures.exact in
    (λ _. ascending setting_cmp setting_trans c.args.properties.items given, λ _. refl)
