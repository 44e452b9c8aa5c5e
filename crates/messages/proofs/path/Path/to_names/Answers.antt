use Rattle.std.proofs.Common.{lit<, sym, subst, ◌∙◌, rules}
use Rattle.std.proofs.lemmas.Iterator.Consumers.{YieldsList-turn, YieldsList-end}
use Rattle.std.proofs.lemmas.Iterator.Splits.{YieldsList-from_str_split}
use Rattle.messages.specs.Name.{IsName}
use Rattle.messages.specs.Path.{IsPath, parts_of}
use Rattle.messages.proofs.Parts.{part_of}
use Rattle.messages.proofs.path.Path.to_names.Goals as goal

pub of_part-requires : goal.of_part-requires
of_part-requires g c =
    let parts = YieldsList-from_str_split {s = c.into_iter-name-iterator.result} 47 c.as_str-text.result.now (lit< tt) (search rules) (search rules) (search rules) in
    let t = YieldsList-turn parts c.loop-name.yielded _ c.loop-name.yielded_by _ _ c.in-Some.name c.in-Some.is c.next.ensures.steps in
    let valid : IsPath (parts_of c.as_str-text.result.now) = subst IsPath (sym c.as_str-text.ensures.parts) c.as_str-text.ensures.valid in
    subst IsName (sym t.1) (part_of IsName (parts_of c.as_str-text.result.now) _ c.in-Some.name.now valid.each t.0)

pub returns-clause-value : goal.returns-clause-value
returns-clause-value g c =
    let parts = YieldsList-from_str_split {s = c.into_iter-name-iterator.result} 47 c.as_str-text.result.now (lit< tt) (search rules) (search rules) (search rules) in
    let t = YieldsList-end parts c.loop-name.yielded _ c.loop-name.yielded_by _ _ c.in-None.is c.next.ensures.steps in
    c.loop-name.invariant ∙ t.0 ∙ c.as_str-text.ensures.parts
