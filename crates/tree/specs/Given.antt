-- The nodes that are given at a path, as the code keeps them.
use Rattle.tree.specs.declared.given.NodeKey.{NodeKey}
use Rattle.tree.specs.declared.given.NodeKey.TheVariants as keys
use Rattle.messages.specs.declared.node.Node.TheVariants.{File, Link, Dir}
use Rattle.tree.specs.Form.{NodeValue}

abbrev pub key_value : {A : Type 0} → NodeKey A → NodeValue
key_value (keys.File d b) = File d b
key_value (keys.Link text) = Link text.items
key_value (keys.Dir d) = Dir d
