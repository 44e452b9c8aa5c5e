use Rattle.std.proofs.Common.{◌≡◌, ◌++◌, ◌-◌, length, take, drop, ap, sym, ◌∙◌, None}
use Rattle.std.specs.Prelude.{map, string_bytes}
use Rattle.std.specs.Process.{command_program, command_args}
use Rattle.processes.specs.Process.{said}
use Rattle.processes.proofs.Lists.{first_and_rest, same_cons}
use Rattle.processes.proofs.launching.process_of.Goals as goal

pub returns : goal.returns
returns g c =
    let fresh = c.in_ok-process.ensures in
    let added = c.in_ok-add_arguments.ensures in
    let set = c.in_ok-set_variables.ensures in
    let all = c.arguments.result.now in
    let x = c.program-item.result in
    let others = map string_bytes (take (length all - 1) (drop 1 all)) in
    let p = c.set_variables.new.process in
    let split = ap (map string_bytes) (first_and_rest all x c.in-len1-up.len_at_least c.program-item.is) in
    let program : string_bytes x ≡ command_program p = sym (set.call.0 ∙ added.program ∙ fresh.program ∙ c.as_str.ensures.value) in
    let arguments : others ≡ command_args p = sym (set.call.1 ∙ added.added ∙ ap (λ xs. xs ++ others) fresh.arguments) in
    record {
      arguments = sym c.arguments.ensures.value ∙ split ∙ same_cons (string_bytes x) (command_program p) others (command_args p) program arguments;
      clears = set.clears ∙ added.env.0 ∙ fresh.clears;
      variables = λ name. set.said name ∙ ap (λ b. said b c.environment.result.now name) (added.env.1 name ∙ fresh.said name) ∙ ap (λ e. said None e name) c.environment.ensures.value;
      folder = set.dir ∙ added.dir ∙ fresh.dir;
    }
