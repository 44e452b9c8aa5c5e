-- Lists that were walked in order ascend.
use Rattle.messages.specs.DirectoryRules.{file_names, directory_names, symlink_names}
use Rattle.messages.proofs.Orders.{ascending}
use Rattle.messages.proofs.directory.check_names.Goals as goal

pub share_a_name-requires-clause-nodes : goal.share_a_name-requires-clause-nodes
share_a_name-requires-clause-nodes g c = ascending (file_names c.args.files.now) c.in_ok-check_order.ensures.exact

pub share_a_name-requires-clause-others : goal.share_a_name-requires-clause-others
share_a_name-requires-clause-others g c = ascending (directory_names c.args.directories.now) c.in_ok-check_order-2.ensures.exact

pub share_a_name-requires-else-share_a_name-clause-nodes : goal.share_a_name-requires-else-share_a_name-clause-nodes
share_a_name-requires-else-share_a_name-clause-nodes g c = ascending (file_names c.args.files.now) c.in_ok-check_order.ensures.exact

pub share_a_name-requires-else-share_a_name-clause-others : goal.share_a_name-requires-else-share_a_name-clause-others
share_a_name-requires-else-share_a_name-clause-others g c = ascending (symlink_names c.args.symlinks.now) c.in_ok-check_order-3.ensures.exact

pub share_a_name-requires-else-share_a_name-2-clause-nodes : goal.share_a_name-requires-else-share_a_name-2-clause-nodes
share_a_name-requires-else-share_a_name-2-clause-nodes g c = ascending (directory_names c.args.directories.now) c.in_ok-check_order-2.ensures.exact

pub share_a_name-requires-else-share_a_name-2-clause-others : goal.share_a_name-requires-else-share_a_name-2-clause-others
share_a_name-requires-else-share_a_name-2-clause-others g c = ascending (symlink_names c.args.symlinks.now) c.in_ok-check_order-3.ensures.exact
