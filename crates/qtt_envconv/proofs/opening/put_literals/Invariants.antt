use Rattle.std.proofs.Common.{◌≡◌, map, take, length}
use Rattle.qtt_term.specs.Signature.{Env}
use Rattle.qtt_term.specs.View.{side_by_side}
use Rattle.qtt_envconv.specs.Nodes.{nodes, over, AreReady}
use Rattle.qtt_envconv.specs.Shapes.{literal}
use Rattle.qtt_envconv.proofs.opening.put_literals.Given as goal

abbrev pub invariant-loop-i : goal.invariant-loop-i
invariant-loop-i l = record {
  means : side_by_side (nodes l.parts.items) ≡ over (map literal (take l.i l.literals))
      (side_by_side (nodes l.initial.parts.items));
  count : length l.parts.items ≡ length l.initial.parts.items;
  ready : (E : Env) → AreReady E l.initial.parts.items → AreReady E l.parts.items;
}
