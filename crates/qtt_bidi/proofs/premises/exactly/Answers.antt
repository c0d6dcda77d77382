use Rattle.std.proofs.lemmas.Bool.{eq-eqb, ne_eqb}
use Rattle.qtt_bidi.proofs.Within.{holds, unmet}
use Rattle.qtt_bidi.proofs.premises.exactly.Goals as goal

pub returns-then-expected-found : goal.returns-then-expected-found
returns-then-expected-found c = λ E n. holds _ _ _ (eq-eqb _ _ c.if-expected-found.true)

pub returns : goal.returns
returns c = λ E n. unmet _ _ _ (ne_eqb _ _ c.if-expected-found.false)
