-- In each iteration the first of what is left goes to the end of what was taken.
use Rattle.std.proofs.Common.{[], Some, option_map, refl, ap, sym, ◌∙◌, arith}
use Rattle.action_messages.specs.Outputs.{recorded_value, recorded_values}
use Rattle.action_messages.proofs.Merging.{walks_begin, walks_end, walks_file, walks_directory, walks_link, walks_alike, recorded_push, file_first, directory_first, link_first, fewer}
use Rattle.action_messages.proofs.action_result.ActionResult.outputs.Goals as goal

pub loop-output-init : goal.loop-output-init
loop-output-init g c =
    walks_alike c.args.self.now [] _ _ _ _ _ _ _ (ap recorded_values c.new-outputs.ensures.items) c.files-files.ensures.value c.directories-directories.ensures.value c.symlinks-symlinks.ensures.value
    (walks_begin c.args.self.now c.files-files.ensures.valid)

pub loop-output-preserved-in-File : goal.loop-output-preserved-in-File
loop-output-preserved-in-File g c =
    let ds = c.loop-output.directories.now in
    let ls = c.loop-output.symlinks.now in
    let is = ap recorded_value c.in-File.is in
    let first = sym c.first_of.ensures ∙ ap (option_map recorded_value) c.in-Some.is ∙ ap Some is in
    walks_alike c.args.self.now _ _ _ _ ds ds ls ls (recorded_push c.loop-output.outputs.items c.push.new.self.items c.in-Some.output _ (c.in_ok-push.ensures {u = tt}).items is) c.behind_first-files.ensures refl refl
    (walks_file c.loop-output.files.now ds ls c.args.self.now (recorded_values c.loop-output.outputs.items) c.in-File.field-0.now c.loop-output.invariant first)

pub loop-output-preserved-in-Directory : goal.loop-output-preserved-in-Directory
loop-output-preserved-in-Directory g c =
    let fs = c.loop-output.files.now in
    let ls = c.loop-output.symlinks.now in
    let is = ap recorded_value c.in-Directory.is in
    let first = sym c.first_of.ensures ∙ ap (option_map recorded_value) c.in-Some.is ∙ ap Some is in
    walks_alike c.args.self.now _ _ fs fs _ _ ls ls (recorded_push c.loop-output.outputs.items c.push.new.self.items c.in-Some.output _ (c.in_ok-push.ensures {u = tt}).items is) refl c.behind_first-directories.ensures refl
    (walks_directory fs c.loop-output.directories.now ls c.args.self.now (recorded_values c.loop-output.outputs.items) c.in-Directory.field-0.now c.loop-output.invariant first)

pub loop-output-preserved : goal.loop-output-preserved
loop-output-preserved g c =
    let fs = c.loop-output.files.now in
    let ds = c.loop-output.directories.now in
    let is = ap recorded_value c.in-Link.is in
    let first = sym c.first_of.ensures ∙ ap (option_map recorded_value) c.in-Some.is ∙ ap Some is in
    walks_alike c.args.self.now _ _ fs fs ds ds _ _ (recorded_push c.loop-output.outputs.items c.push.new.self.items c.in-Some.output _ (c.in_ok-push.ensures {u = tt}).items is) refl refl c.behind_first-symlinks.ensures
    (walks_link fs ds c.loop-output.symlinks.now c.args.self.now (recorded_values c.loop-output.outputs.items) c.in-Link.field-0.now c.loop-output.invariant first)

pub loop-output-smaller-in-File : goal.loop-output-smaller-in-File
loop-output-smaller-in-File g c =
    let fs = c.loop-output.files.now in
    let first = sym c.first_of.ensures ∙ ap (option_map recorded_value) c.in-Some.is ∙ ap Some (ap recorded_value c.in-File.is) in
    omega (arith, fewer c.in-File.field-0.now c.behind_first-files.result.now fs (file_first fs c.loop-output.directories.now c.loop-output.symlinks.now c.in-File.field-0.now first) c.behind_first-files.ensures)

pub loop-output-smaller-in-Directory : goal.loop-output-smaller-in-Directory
loop-output-smaller-in-Directory g c =
    let ds = c.loop-output.directories.now in
    let first = sym c.first_of.ensures ∙ ap (option_map recorded_value) c.in-Some.is ∙ ap Some (ap recorded_value c.in-Directory.is) in
    omega (arith, fewer c.in-Directory.field-0.now c.behind_first-directories.result.now ds (directory_first c.loop-output.files.now ds c.loop-output.symlinks.now c.in-Directory.field-0.now first) c.behind_first-directories.ensures)

pub loop-output-smaller : goal.loop-output-smaller
loop-output-smaller g c =
    let ls = c.loop-output.symlinks.now in
    let first = sym c.first_of.ensures ∙ ap (option_map recorded_value) c.in-Some.is ∙ ap Some (ap recorded_value c.in-Link.is) in
    omega (arith, fewer c.in-Link.field-0.now c.behind_first-symlinks.result.now ls (link_first c.loop-output.files.now c.loop-output.directories.now ls c.in-Link.field-0.now first) c.behind_first-symlinks.ensures)

pub returns : goal.returns
returns g c =
    walks_end c.loop-output.files.now c.loop-output.directories.now c.loop-output.symlinks.now c.args.self.now (recorded_values c.loop-output.outputs.items) c.loop-output.invariant
    (sym c.first_of.ensures ∙ ap (option_map recorded_value) c.in_default.is)
