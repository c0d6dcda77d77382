-- What has been passed is looked up, the variables stay, and those of what has been passed are known.
use Rattle.std.proofs.Common.{◌≡◌, Ok, map, take, fold}
use Rattle.qtt_syntax.specs.View.{shape_of}
use Rattle.qtt_names.specs.InTurn.{in_turn}
use Rattle.qtt_names.specs.Patterns.{behind_shape, filled_shape}
use Rattle.qtt_names.specs.View.{names_of}
use Rattle.qtt_names.proofs.target.Resolver.+patterns.Given as goal

abbrev pub invariant-patterns-loop-pattern : goal.invariant-patterns-loop-pattern
invariant-patterns-loop-pattern l = record {
  so_far : in_turn (filled_shape (names_of l.self) l.initial.variables.items) behind_shape l.initial.before.keys
      (map shape_of (take l.pattern-index l.source)) ≡ Ok (map shape_of l.done.items);
  kept : l.variables.items ≡ l.initial.variables.items;
  behind : l.before.keys ≡ fold behind_shape l.initial.before.keys (map shape_of (take l.pattern-index l.source));
}
