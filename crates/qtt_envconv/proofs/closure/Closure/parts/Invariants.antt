use Rattle.std.proofs.Common.{◌≡◌, map}
use Rattle.qtt_term.specs.Signature.{Env}
use Rattle.qtt_envconv.specs.Closures.{values}
use Rattle.qtt_envconv.specs.Components.{component_in, seen}
use Rattle.qtt_envconv.specs.Nodes.{nodes, AreReady}
use Rattle.qtt_envconv.proofs.closure.Closure.parts.Given as goal

abbrev pub invariant-loop-component : goal.invariant-loop-component
invariant-loop-component l = record {
  means : nodes l.parts.items ≡ map (component_in (values l.self.values.now)) (map seen l.yielded);
  ready : (E : Env) → AreReady E l.parts.items;
}
