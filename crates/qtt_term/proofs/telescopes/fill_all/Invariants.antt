use Rattle.std.proofs.Common.{◌≡◌, take, map}
use Rattle.qtt_term.specs.Substitution.{sub}
use Rattle.qtt_term.specs.View.{terms}
use Rattle.qtt_term.specs.Telescopes.{filled}
use Rattle.qtt_term.proofs.telescopes.fill_all.Given as goal

abbrev pub invariant-loop-source : goal.invariant-loop-source
invariant-loop-source l = terms l.all.items ≡ map (sub (filled l.values)) (terms (take l.source-index l.sources))
