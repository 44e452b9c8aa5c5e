use Rattle.std.proofs.Common.{sym, ap, subst, ◌∙◌}
use Rattle.messages.specs.Path.{IsPath, parts_of}
use Rattle.messages.proofs.Paths.{parts-one, one_name}
use Rattle.messages.proofs.path.Path.of_name.Goals as goal

pub returns : goal.returns
returns g c =
    ap parts_of (c.in_ok-from_str.ensures.ok ∙ c.as_str.ensures.value) ∙ parts-one c.args.name.now c.as_str.ensures.valid.segment.no_slash

pub invariant_of-result : goal.invariant_of-result
invariant_of-result g c =
    let parts = ap parts_of (c.in_ok-from_str.ensures.ok ∙ c.as_str.ensures.value) ∙ parts-one c.args.name.now c.as_str.ensures.valid.segment.no_slash in
    subst IsPath (sym parts) (one_name c.args.name.now c.as_str.ensures.valid)
