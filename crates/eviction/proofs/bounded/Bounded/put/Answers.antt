use Rattle.std.proofs.Common.{◌≡◌, ◌+◌, Bool, length, arith, ap, ◌∙◌, false, true, Ok, Err, Some, subst}
use Rattle.std.specs.Prelude.{Result, IsErrAnd}
use Rattle.eviction.specs.declared.error.BoundedError.{BoundedError}
use Rattle.eviction.specs.declared.error.BoundedError.TheVariants.{Full, Memory}
use Rattle.eviction.specs.Kept.{Kept}
use Rattle.eviction.specs.declared.entry.Entry.{Entry}
use Rattle.eviction.specs.Entering.{can_enter, entered}
use Rattle.eviction.specs.View.{held, held_all}
use Rattle.eviction.specs.Victims.{victims}
use Rattle.eviction.proofs.Filters.{map-reverse}
use Rattle.eviction.proofs.Costs.{pinned_le}
use Rattle.eviction.proofs.Choices.{admitted, finished, tallied, whole_is}
use Rattle.eviction.proofs.bounded.Bounded.put.Goals as goal

not_full : (r : Result (Unit {0}) BoundedError) (b : Bool) → IsErrAnd r (λ e. e ≡ Memory) → b ≡ true → (r ≡ Err Full → b ≡ false) × (b ≡ false → r ≡ Err Full)
not_full (Ok u) b h t = absurd h
not_full (Err e) b h t = ((λ q. absurd cc), (λ q. absurd cc))

handed_on : (r : Result (Unit {0}) BoundedError) (f : BoundedError) → IsErrAnd r (λ e. e ≡ f) → f ≡ Memory → IsErrAnd r (λ e. e ≡ Memory)
handed_on (Ok u) f h m = h
handed_on (Err e) f h m = h ∙ m

pub overflow_sub-self-inside : goal.overflow_sub-self-inside
overflow_sub-self-inside g c = let most = pinned_le c.self.inside.overhead (held_all c.self.inside.cache.entries) in omega arith

pub returns-in_err-chosen-clause-full : goal.returns-in_err-chosen-clause-full
returns-in_err-chosen-clause-full g c =
    let eq = g.K.PartialEq.eq in
    let i = c.self.inside in
    let bytes = c.args.bytes.items in
    let es = held_all i.cache.entries in
    let s : Kept g.row.K.Denot = record { entries = es; limit = i.limit; overhead = i.overhead } in
    let old = c.standing_under-old.result in
    let sat = c.saturating_add-cost.ensures in
    let fine = c.if-cost-self.false in
    let exact : c.saturating_add-cost.result ≡ length bytes + i.overhead = omega arith in
    let fits = admitted eq g.met.K.Eq.laws s c.args.key bytes c.standing_under-old.ensures.distinct i.held i.pinned old.cost old.pins c.part_of_pinned.result c.saturating_add-cost.result c.self.invariant c.standing_under-old.ensures.stands c.part_of_pinned.ensures exact fine in
    rw (← c.self.view_is) (not_full c.from_residual.result (can_enter eq s c.args.key bytes) c.from_residual.ensures.1 fits)

pub returns-in_err-put_first-clause-full : goal.returns-in_err-put_first-clause-full
returns-in_err-put_first-clause-full g c =
    let eq = g.K.PartialEq.eq in
    let i = c.self.inside in
    let bytes = c.args.bytes.items in
    let es = held_all i.cache.entries in
    let s : Kept g.row.K.Denot = record { entries = es; limit = i.limit; overhead = i.overhead } in
    let old = c.standing_under-old.result in
    let sat = c.saturating_add-cost.ensures in
    let fine = c.if-cost-self.false in
    let exact : c.saturating_add-cost.result ≡ length bytes + i.overhead = omega arith in
    let fits = admitted eq g.met.K.Eq.laws s c.args.key bytes c.standing_under-old.ensures.distinct i.held i.pinned old.cost old.pins c.part_of_pinned.result c.saturating_add-cost.result c.self.invariant c.standing_under-old.ensures.stands c.part_of_pinned.ensures exact fine in
    rw (← c.self.view_is) (not_full c.from_residual-in_err-put_first.result (can_enter eq s c.args.key bytes) (handed_on c.from_residual-in_err-put_first.result c.in_err-put_first.field-0.0 c.from_residual-in_err-put_first.ensures.1 c.in_err-put_first.ensures.memory) fits)

pub returns-clause-full : goal.returns-clause-full
returns-clause-full g c =
    let eq = g.K.PartialEq.eq in
    let i = c.self.inside in
    let bytes = c.args.bytes.items in
    let es = held_all i.cache.entries in
    let s : Kept g.row.K.Denot = record { entries = es; limit = i.limit; overhead = i.overhead } in
    let old = c.standing_under-old.result in
    let sat = c.saturating_add-cost.ensures in
    let fine = c.if-cost-self.false in
    let exact : c.saturating_add-cost.result ≡ length bytes + i.overhead = omega arith in
    let fits = admitted eq g.met.K.Eq.laws s c.args.key bytes c.standing_under-old.ensures.distinct i.held i.pinned old.cost old.pins c.part_of_pinned.result c.saturating_add-cost.result c.self.invariant c.standing_under-old.ensures.stands c.part_of_pinned.ensures exact fine in
    rw (← c.self.view_is) ((λ q. absurd cc), (λ q. absurd cc))

pub take_out-freed-requires : goal.take_out-freed-requires
take_out-freed-requires g c =
    let eq = g.K.PartialEq.eq in
    let laws = g.met.K.Eq.laws in
    let i = c.self.inside in
    let bytes = c.args.bytes.items in
    let s : Kept g.row.K.Denot = record { entries = held_all i.cache.entries; limit = i.limit; overhead = i.overhead } in
    let old = c.standing_under-old.result in
    let sat = c.saturating_add-cost.ensures in
    let fine = c.if-cost-self.false in
    let exact : c.saturating_add-cost.result ≡ length bytes + i.overhead = omega arith in
    let whole = whole_is eq laws s c.args.key bytes c.standing_under-old.ensures.distinct i.held i.pinned old.cost old.pins c.part_of_pinned.result c.saturating_add-cost.result c.self.invariant c.standing_under-old.ensures.stands c.part_of_pinned.ensures exact fine (held_all c.put_first.new.cache.entries) c.in_ok-put_first.ensures.ok in
    omega arith

pub invariant_of-self-2 : goal.invariant_of-self-2
invariant_of-self-2 g c =
    let eq = g.K.PartialEq.eq in
    let laws = g.met.K.Eq.laws in
    let i = c.self.inside in
    let bytes = c.args.bytes.items in
    let s : Kept g.row.K.Denot = record { entries = held_all i.cache.entries; limit = i.limit; overhead = i.overhead } in
    let old = c.standing_under-old.result in
    let sat = c.saturating_add-cost.ensures in
    let fine = c.if-cost-self.false in
    let exact : c.saturating_add-cost.result ≡ length bytes + i.overhead = omega arith in
    let keys = c.deref.ensures.value ∙ c.in_ok-chosen.ensures ∙ ap (victims eq c.args.key i.overhead c.saturating_sub-excess.result) (map-reverse (λ (e : g.row.K.Denot × Entry g.row.A.Denot). (e.0, held e.1)) i.cache.entries) in
    tallied eq laws s c.args.key bytes c.standing_under-old.ensures.distinct i.held i.pinned old.cost old.pins c.part_of_pinned.result c.saturating_add-cost.result c.self.invariant c.standing_under-old.ensures.stands c.part_of_pinned.ensures exact fine (held_all c.put_first.new.cache.entries) c.in_ok-put_first.ensures.ok c.part_of_pinned-2.result c.saturating_sub-excess.result c.take_out-freed.result c.deref.result.now (held_all c.take_out-freed.new.cache.entries) c.part_of_pinned-2.ensures c.saturating_sub-excess.ensures keys c.take_out-freed.ensures.entries c.take_out-freed.ensures.cost

pub returns-clause-ok : goal.returns-clause-ok
returns-clause-ok g c =
    let eq = g.K.PartialEq.eq in
    let laws = g.met.K.Eq.laws in
    let i = c.self.inside in
    let bytes = c.args.bytes.items in
    let s : Kept g.row.K.Denot = record { entries = held_all i.cache.entries; limit = i.limit; overhead = i.overhead } in
    let old = c.standing_under-old.result in
    let sat = c.saturating_add-cost.ensures in
    let fine = c.if-cost-self.false in
    let exact : c.saturating_add-cost.result ≡ length bytes + i.overhead = omega arith in
    let keys = c.deref.ensures.value ∙ c.in_ok-chosen.ensures ∙ ap (victims eq c.args.key i.overhead c.saturating_sub-excess.result) (map-reverse (λ (e : g.row.K.Denot × Entry g.row.A.Denot). (e.0, held e.1)) i.cache.entries) in
    let after : Kept g.row.K.Denot = record { entries = held_all c.take_out-freed.new.cache.entries; limit = i.limit; overhead = i.overhead } in
    subst (λ (w : Kept g.row.K.Denot). entered eq w c.args.key bytes ≡ Some after) c.self.view_is (finished eq laws s c.args.key bytes c.standing_under-old.ensures.distinct i.held i.pinned old.cost old.pins c.part_of_pinned.result c.saturating_add-cost.result c.self.invariant c.standing_under-old.ensures.stands c.part_of_pinned.ensures exact fine (held_all c.put_first.new.cache.entries) c.in_ok-put_first.ensures.ok c.part_of_pinned-2.result c.saturating_sub-excess.result c.take_out-freed.result c.deref.result.now (held_all c.take_out-freed.new.cache.entries) c.part_of_pinned-2.ensures c.saturating_sub-excess.ensures keys c.take_out-freed.ensures.entries c.take_out-freed.ensures.cost)
