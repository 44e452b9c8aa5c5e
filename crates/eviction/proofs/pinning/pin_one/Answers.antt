use Rattle.std.proofs.Common.{◌≡◌, ◌+◌, arith, refl, sym, ap, ◌∙◌, length}
use Rattle.eviction.specs.declared.entry.Entry.{Entry}
use Rattle.eviction.specs.Victims.{part_if_pinned}
use Rattle.eviction.proofs.Looks.{cost_within}
use Rattle.eviction.proofs.Repins.{repinned_set, repinned_none, pinned_set, count_found, part_more}
use Rattle.eviction.proofs.pinning.pin_one.Goals as goal

pub overflow_add-cost : goal.overflow_add-cost
overflow_add-cost g c = let within = cost_within (g.K.PartialEq.eq c.args.key.now) c.args.overhead c.args.cache.now.entries c.in-Some.entry.now (sym c.in-Some.ensures.value) in omega arith

pub overflow_add-entry : goal.overflow_add-entry
overflow_add-entry g c = let count = count_found g.K.PartialEq.eq c.args.key.now c.args.cache.now.entries c.in-Some.entry.now c.in-Some.ensures.value in let few = c.requires.count in omega arith

pub returns-in-Some-clause-entries : goal.returns-in-Some-clause-entries
returns-in-Some-clause-entries g c =
    let v = c.in-Some.entry.now in
    let w : Entry g.row.A.Denot = record { bytes = v.bytes; pins = v.pins + 1 } in
    repinned_set g.K.PartialEq.eq c.args.key.now g.met.K.Eq.laws (λ n. n + 1) c.args.cache.now.entries v w c.len-count.ensures.valid.0 (sym c.in-Some.ensures.value) refl refl

pub returns-in-Some-clause-costs : goal.returns-in-Some-clause-costs
returns-in-Some-clause-costs g c =
    let v = c.in-Some.entry.now in
    let w : Entry g.row.A.Denot = record { bytes = v.bytes; pins = v.pins + 1 } in
    let sum = pinned_set g.K.PartialEq.eq c.args.key.now c.args.overhead c.args.cache.now.entries v w (sym c.in-Some.ensures.value) refl in
    let len : c.len.result ≡ length v.bytes = omega arith in
    let before = c.part_of_pinned-before.ensures ∙ ap (λ n. part_if_pinned v.pins (n + c.args.overhead)) len in
    let after = c.part_of_pinned.ensures ∙ ap (λ n. part_if_pinned (v.pins + 1) (n + c.args.overhead)) len in
    let order = part_more v.pins (length v.bytes + c.args.overhead) in
    omega arith

pub returns-in-None-clause-entries : goal.returns-in-None-clause-entries
returns-in-None-clause-entries g c = sym (repinned_none g.K.PartialEq.eq c.args.key.now (λ n. n + 1) c.args.cache.now.entries (sym c.in-None.ensures.value))
