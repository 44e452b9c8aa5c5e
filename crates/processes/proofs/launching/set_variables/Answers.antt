use Rattle.std.proofs.Common.{rules, ◌≡◌, subst, Some}
use Rattle.std.specs.Process.{command_var, SameOtherVars}
use Rattle.processes.proofs.Saying.{said_step}
use Rattle.processes.proofs.launching.set_variables.Goals as goal

pub loop-variable-preserved : goal.loop-variable-preserved
loop-variable-preserved g c =
    let s = c.variable-item.result in
    let new = c.set_variable.new.process in
    let old = c.loop-variable.process in
    let put : command_var new s.name ≡ Some (Some s.value) =
    subst (λ n. command_var new n ≡ Some (Some s.value)) c.name.ensures.value
    (subst (λ v. command_var new c.name.result.now ≡ Some (Some v)) c.value.ensures.value c.in_ok-set_variable.ensures.said) in
    let others : SameOtherVars old new s.name = subst (SameOtherVars old new) c.name.ensures.value c.in_ok-set_variable.ensures.others in
    record {
      said_so = said_step (λ n. command_var c.args.process.now n) (λ n. command_var old n) (λ n. command_var new n) c.args.environment.now c.loop-variable.variable-index s
          c.loop-variable-test.true c.variable-item.is c.loop-variable.invariant.said_so put others;
      call = search rules;
      clears = search rules;
      dir = search rules;
    }
