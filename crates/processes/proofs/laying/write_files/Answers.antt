use Rattle.std.proofs.Common.{ap, ◌∙◌}
use Rattle.processes.specs.Laying.{place_in}
use Rattle.processes.proofs.Rooms.{file_more}
use Rattle.processes.proofs.laying.write_files.Goals as goal

pub loop-file-preserved : goal.loop-file-preserved
loop-file-preserved g c =
    file_more g.W.Workshop.works c.args.room.now c.loop-file.room c.write.new.room c.args.folder.now c.args.files.now c.loop-file.file-index c.file-item.result
    c.as_str-in-loop-file.result.now c.deref.result.now c.loop-file-test.true c.file-item.is
    (c.as_str-in-loop-file.ensures.value ∙ c.in_ok-place.ensures ∙ ap (λ t. place_in c.args.folder.now t) c.as_str.ensures.value) c.deref.ensures.value
    c.loop-file.invariant c.in_ok-write.ensures.written
