use Rattle.qtt_erase.proofs.multiplicities.+places.Given as goal

abbrev pub decreases-places : goal.decreases-places
decreases-places l = l.fields
