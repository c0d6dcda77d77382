use Rattle.std.proofs.Common.{◌≡◌, ◌++◌, map, drop}
use Rattle.qtt_term.specs.Value.{mults}
use Rattle.qtt_term.specs.View.{term}
use Rattle.qtt_erase.proofs.multiplicities.tele_mults.Given as goal

abbrev pub invariant-loop-field : goal.invariant-loop-field
invariant-loop-field l = l.mults.items ++ mults (map (λ f. (f.0, term f.1)) (drop l.field-index l.fields)) ≡ mults
    (map (λ f. (f.0, term f.1)) l.fields)
