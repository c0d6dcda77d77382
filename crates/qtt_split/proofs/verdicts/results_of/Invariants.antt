use Rattle.std.proofs.Common.{◌≡◌, map, take}
use Rattle.qtt_term.specs.Substitution.{sub}
use Rattle.qtt_term.specs.Telescopes.{filled}
use Rattle.qtt_term.specs.View.{terms}
use Rattle.qtt_split.proofs.verdicts.results_of.Given as goal

abbrev pub invariant-loop-target : goal.invariant-loop-target
invariant-loop-target l =
    terms l.results.items ≡ map (sub (filled l.inner.items)) (terms (take l.target-index l.target-items))
