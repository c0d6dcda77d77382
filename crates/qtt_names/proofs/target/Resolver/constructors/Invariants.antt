-- What has been passed is looked up, and the number is that of the next one.
use Rattle.std.proofs.Common.{◌≡◌, Ok, map, take, fold}
use Rattle.qtt_syntax.specs.View.{con_of}
use Rattle.qtt_names.specs.Resolved.{behind_con, filled_cons}
use Rattle.qtt_names.specs.View.{scope, names_of}
use Rattle.qtt_names.proofs.target.Resolver.constructors.Given as goal

abbrev pub invariant-loop-constructor : goal.invariant-loop-constructor
invariant-loop-constructor l = record {
  so_far : filled_cons (scope l.self.scope.now) (names_of l.self) l.initial.locals.items l.first
      (map con_of (take l.constructor-index l.source)) ≡ Ok (map con_of l.done.items);
  behind : l.number ≡ fold behind_con l.first (map con_of (take l.constructor-index l.source));
  kept : l.locals.items ≡ l.initial.locals.items;
}
