use Rattle.std.proofs.Common.{sym, subst}
use Rattle.action_messages.specs.Ascending.{IsAscendingBy}
use Rattle.action_messages.specs.Platform.{setting_cmp}
use Rattle.action_messages.proofs.PlatformCodec.{no_platform}
use Rattle.action_messages.proofs.platform.read_platform.Goals as goal

pub returns-in-None-clause-exact : goal.returns-in-None-clause-exact
returns-in-None-clause-exact g c = no_platform c.new-in-None.result c.new.result.items c.args.bytes (λ x. x.now) c.new.ensures.items c.in-None.is c.new-in-None.ensures.exact

pub returns-in-None-clause-absent : goal.returns-in-None-clause-absent
returns-in-None-clause-absent g c = λ gone. c.new-in-None.ensures.some.1 (subst (IsAscendingBy setting_cmp) (sym c.new.ensures.items) tt)
