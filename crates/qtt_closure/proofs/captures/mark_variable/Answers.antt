use Rattle.std.proofs.Common.{inl, inr, sym, arith}
use Rattle.qtt_closure.proofs.Marking.{variable_apart, variable_marked}
use Rattle.qtt_closure.proofs.captures.mark_variable.Goals as goal
use Rattle.qtt_closure.proofs.captures.mark_variable.Goals.{else-index-first-via-then-index-first+else-index-first-2, else-index-first-via-else-index-first}

pub returns-then-index-first-2 : goal.returns-then-index-first-2
returns-then-index-first-2 c =
    sym (variable_marked c.args.marks.now c.args.first c.args.index c.if-index-first.true c.if-index-first-2.true)

pub returns-else-index-first : goal.returns-else-index-first
returns-else-index-first c =
    elim c.else-index-first.branch [
      | else-index-first-via-then-index-first+else-index-first-2 w ↦
          sym (variable_apart c.args.marks.now c.args.first c.args.index (inr w.if-index-first-2.false))
      | else-index-first-via-else-index-first w ↦
          sym (variable_apart c.args.marks.now c.args.first c.args.index (inl (omega arith)))
    ]
