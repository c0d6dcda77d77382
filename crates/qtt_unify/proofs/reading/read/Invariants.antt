use Rattle.qtt_term.specs.Globals.{env}
use Rattle.qtt_term.specs.View.{term}
use Rattle.qtt_unify.specs.Unread.{whole, GoesOn, ArePending}
use Rattle.qtt_unify.proofs.reading.read.Given as goal

abbrev pub invariant-loop-read : goal.invariant-loop-read
invariant-loop-read g l = record {
  goes_on : GoesOn (env l.env) l.n (term l.t) l.left (whole l.reading);
  around : ArePending (env l.env) l.reading.around.items;
}

abbrev pub decreases-loop-read : goal.decreases-loop-read
decreases-loop-read g l = l.left
