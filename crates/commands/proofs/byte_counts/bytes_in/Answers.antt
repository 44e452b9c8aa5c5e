use Rattle.commands.proofs.ByteCounts.{nothing_spelled, units_spell, units_spell_none}
use Rattle.commands.proofs.byte_counts.bytes_in.Goals as goal

pub returns-in-Some-in_units-clause-some : goal.returns-in-Some-in_units-clause-some
returns-in-Some-in_units-clause-some c =
    units_spell c.args.text.now c.in-Some-in_units.digits.now c.in-Some-in_units.unit c.bytes_of_units.result c.in-Some-in_units.ensures.some c.bytes_of_units.ensures

pub returns-in-Some-in_units-clause-none : goal.returns-in-Some-in_units-clause-none
returns-in-Some-in_units-clause-none c =
    units_spell_none c.args.text.now c.in-Some-in_units.digits.now c.in-Some-in_units.unit c.bytes_of_units.result c.in-None.ensures c.in-Some-in_units.ensures.some c.bytes_of_units.ensures

pub returns-in-None-in_units-clause-none : goal.returns-in-None-in_units-clause-none
returns-in-None-in_units-clause-none c = nothing_spelled c.args.text.now c.in-None.ensures c.in-None-in_units.ensures.none
