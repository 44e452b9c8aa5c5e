use Rattle.messages.specs.Order.{bytes_cmp}
use Rattle.action_messages.specs.Overlaps.{texts_of}
use Rattle.action_messages.specs.ActionResult.{file_paths, directory_paths, symlink_paths}
use Rattle.action_messages.proofs.Sorted.{ascending}
use Rattle.action_messages.proofs.Searches.{bytes_trans}
use Rattle.action_messages.proofs.action_result.check_outputs.Goals as goal

pub some_overlap-requires-clause-files : goal.some_overlap-requires-clause-files
some_overlap-requires-clause-files g c = ascending bytes_cmp bytes_trans (texts_of (file_paths c.args.files.now)) c.in_ok-check_paths.ensures.exact

pub some_overlap-requires-clause-directories : goal.some_overlap-requires-clause-directories
some_overlap-requires-clause-directories g c = ascending bytes_cmp bytes_trans (texts_of (directory_paths c.args.directories.now)) c.in_ok-check_paths-2.ensures.exact

pub some_overlap-requires-clause-symlinks : goal.some_overlap-requires-clause-symlinks
some_overlap-requires-clause-symlinks g c = ascending bytes_cmp bytes_trans (texts_of (symlink_paths c.args.symlinks.now)) c.in_ok-check_paths-3.ensures.exact
