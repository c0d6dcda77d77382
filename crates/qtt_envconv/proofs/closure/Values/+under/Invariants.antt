-- Fewer binders are left.
use Rattle.qtt_envconv.proofs.closure.Values.+under.Given as goal

abbrev pub decreases-under : goal.decreases-under
decreases-under l = l.binders
