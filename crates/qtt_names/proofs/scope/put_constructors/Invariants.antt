use Rattle.std.proofs.Common.{◌≡◌, ◌+◌, map, take}
use Rattle.qtt_syntax.specs.View.{con_of}
use Rattle.qtt_names.specs.Scope.{constructor_name, with_items}
use Rattle.qtt_names.proofs.scope.put_constructors.Given as goal

abbrev pub invariant-loop-constructor : goal.invariant-loop-constructor
invariant-loop-constructor l = record {
  entries : l.own.entries ≡ with_items l.initial.own.entries l.first
      (map constructor_name (map con_of (take l.constructor-index l.constructors)));
  next : l.number ≡ l.first + l.constructor-index;
}
