-- An instance is seen with its slots.
use Rattle.std.proofs.Common.{sym}
use Rattle.qtt_implicit.specs.Nodes.{node_tree}
use Rattle.qtt_implicit.specs.TextTypes.{open_list}
use Rattle.qtt_implicit.proofs.Moves.{instance_seen}
use Rattle.qtt_implicit.proofs.filling.text_type.OpenSlots.instance.Goals as goal

pub returns : goal.returns
returns c = sym (instance_seen (open_list c.args.self) (node_tree c.args.tree.now))
