use Rattle.std.proofs.Common.{◌≡◌, map}
use Rattle.messages.proofs.path.Path.to_names.Given as goal

abbrev pub invariant-loop-name : goal.invariant-loop-name
invariant-loop-name g l = l.names.items ≡ map (λ x. x.now) l.yielded
