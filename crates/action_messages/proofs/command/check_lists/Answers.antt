use Rattle.messages.specs.Order.{bytes_cmp}
use Rattle.action_messages.proofs.Sorted.{ascending}
use Rattle.action_messages.proofs.Searches.{texts_in, bytes_trans}
use Rattle.action_messages.proofs.command.check_lists.Goals as goal

pub some_under-requires : goal.some_under-requires
some_under-requires g c = ascending bytes_cmp bytes_trans (texts_in (λ path. path) c.args.output_paths.now) c.in_ok-check_paths.ensures.exact
