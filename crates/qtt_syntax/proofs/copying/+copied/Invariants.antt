-- What has been passed is copied.
use Rattle.std.proofs.Common.{◌≡◌, map, take}
use Rattle.qtt_syntax.specs.View.{argument_of, binder_of, statement_of}
use Rattle.qtt_syntax.proofs.copying.+copied.Given as goal

abbrev pub invariant-copied_arguments-loop-argument : goal.invariant-copied_arguments-loop-argument
invariant-copied_arguments-loop-argument l =
    map argument_of l.copies.items ≡ map argument_of (take l.argument-index l.source)

abbrev pub invariant-copied_binders-loop-binder : goal.invariant-copied_binders-loop-binder
invariant-copied_binders-loop-binder l = map binder_of l.copies.items ≡ map binder_of (take l.binder-index l.source)

abbrev pub invariant-copied_statements-loop-statement : goal.invariant-copied_statements-loop-statement
invariant-copied_statements-loop-statement l =
    map statement_of l.copies.items ≡ map statement_of (take l.statement-index l.source)
