use Rattle.std.proofs.Common.{◌≡◌}
use Rattle.qtt_term.specs.Globals.{env}
use Rattle.qtt_unify.specs.Unread.{whole, unread, ArePending}
use Rattle.qtt_unify.proofs.reading.one_round.Given as goal

abbrev pub invariant-loop-read : goal.invariant-loop-read
invariant-loop-read g l = record {
  whole : whole l.reading ≡ whole l.initial.reading;
  around : ArePending (env l.env) l.reading.around.items;
}

abbrev pub decreases-loop-read : goal.decreases-loop-read
decreases-loop-read g l = unread l.reading
