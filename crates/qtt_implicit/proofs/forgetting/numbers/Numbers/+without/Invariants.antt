-- What has been passed is forgotten, and the depth is that behind it.
use Rattle.std.proofs.Common.{◌≡◌, map, take, fold}
use Rattle.std.specs.Prelude.{filter_map}
use Rattle.qtt_syntax.specs.View.{argument_of, binder_of, statement_of}
use Rattle.qtt_implicit.specs.Forgetting.{number_of, argument_without, binder_without, statement_without, behind_binder, behind_statement, in_passing}
use Rattle.qtt_implicit.proofs.forgetting.numbers.Numbers.+without.Given as goal

abbrev pub invariant-arguments-loop-argument : goal.invariant-arguments-loop-argument
invariant-arguments-loop-argument l =
    map argument_of l.done.items ≡
    filter_map (argument_without (number_of l.self) l.depth) (map argument_of (take l.argument-index l.source))

abbrev pub invariant-binders-loop-binder : goal.invariant-binders-loop-binder
invariant-binders-loop-binder l = record {
  so_far : map binder_of l.done.items ≡
      in_passing behind_binder (binder_without (number_of l.self)) l.initial.depth
      (map binder_of (take l.binder-index l.source));
  behind : l.depth ≡ fold behind_binder l.initial.depth (map binder_of (take l.binder-index l.source));
}

abbrev pub invariant-statements-loop-statement : goal.invariant-statements-loop-statement
invariant-statements-loop-statement l = record {
  so_far : map statement_of l.done.items ≡
      in_passing behind_statement (statement_without (number_of l.self)) l.initial.depth
      (map statement_of (take l.statement-index l.source));
  behind : l.depth ≡ fold behind_statement l.initial.depth (map statement_of (take l.statement-index l.source));
}
