use Rattle.std.proofs.Common.{ap, ◌∙◌}
use Rattle.eviction.specs.declared.entry.Entry.{Entry}
use Rattle.eviction.specs.Kept.{Held}
use Rattle.eviction.specs.Victims.{placed_first}
use Rattle.eviction.specs.View.{held_all}
use Rattle.eviction.proofs.Looks.{put_held}
use Rattle.eviction.proofs.evicting.put_first.Goals as goal

pub returns-clause-ok : goal.returns-clause-ok
returns-clause-ok g c =
    let entry : Entry g.row.A.Denot = record { bytes = c.in_ok-bytes.bytes; pins = c.args.pins } in
    rw (c.in_ok-put.ensures.entries, ← c.make_room.ensures.entries) (put_held g.K.PartialEq.eq g.met.K.Eq.laws c.make_room.new.cache c.args.key entry c.make_room.ensures.distinct c.make_room.ensures.room
    ∙ ap (λ b. placed_first g.K.PartialEq.eq c.args.key (let h : Held = record { bytes = b; pins = c.args.pins } in h) (held_all c.make_room.new.cache.entries)) c.in_ok-bytes.ensures)
