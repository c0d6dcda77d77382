use Rattle.std.proofs.Common.{◌≡◌, ◌+◌, map, take}
use Rattle.qtt_syntax.specs.View.{con_of}
use Rattle.qtt_names.specs.Scope.{constructor_name}
use Rattle.qtt_module.specs.Exported.{with_exports}
use Rattle.qtt_module.proofs.exports.put_constructors.Given as goal

abbrev pub invariant-loop-constructor : goal.invariant-loop-constructor
invariant-loop-constructor l = record {
  entries : l.ids.entries ≡ with_exports l.initial.ids.entries l.first.«module» l.first.item
      (map constructor_name (map con_of (take l.constructor-index l.constructors)));
  next : l.number ≡ l.first.item + l.constructor-index;
}
