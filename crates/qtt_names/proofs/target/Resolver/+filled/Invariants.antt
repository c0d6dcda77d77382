-- What has been passed is looked up, and the locals are those behind it.
use Rattle.std.proofs.Common.{◌≡◌, Ok, map, take, fold}
use Rattle.qtt_syntax.specs.View.{argument_of, binder_of, statement_of}
use Rattle.qtt_names.specs.InTurn.{in_turn}
use Rattle.qtt_names.specs.Filled.{filled_argument, filled_binder, filled_statement, unmoved, behind_binder, behind_statement}
use Rattle.qtt_names.specs.View.{names_of}
use Rattle.qtt_names.proofs.target.Resolver.+filled.Given as goal

abbrev pub invariant-arguments-loop-argument : goal.invariant-arguments-loop-argument
invariant-arguments-loop-argument l = record {
  so_far : in_turn (filled_argument (names_of l.self)) unmoved l.initial.locals.items
      (map argument_of (take l.argument-index l.source)) ≡ Ok (map argument_of l.done.items);
  behind : l.locals.items ≡ l.initial.locals.items;
}

abbrev pub invariant-binders-loop-binder : goal.invariant-binders-loop-binder
invariant-binders-loop-binder l = record {
  so_far : in_turn (filled_binder (names_of l.self)) behind_binder l.initial.locals.items
      (map binder_of (take l.binder-index l.source)) ≡ Ok (map binder_of l.done.items);
  behind : l.locals.items ≡ fold behind_binder l.initial.locals.items (map binder_of (take l.binder-index l.source));
}

abbrev pub invariant-statements-loop-statement : goal.invariant-statements-loop-statement
invariant-statements-loop-statement l = record {
  so_far : in_turn (filled_statement (names_of l.self)) behind_statement l.initial.locals.items
      (map statement_of (take l.statement-index l.source)) ≡ Ok (map statement_of l.done.items);
  behind : l.locals.items ≡ fold behind_statement l.initial.locals.items
      (map statement_of (take l.statement-index l.source));
}
