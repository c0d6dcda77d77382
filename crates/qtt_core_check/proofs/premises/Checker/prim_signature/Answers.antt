use Rattle.std.proofs.Common.{◌≡◌, ◌≢◌, ◌∙◌, length, sym, ap, rules}
use Rattle.std.proofs.lemmas.Bool.{eq-eqb, ne_eqb}
use Rattle.qtt_term.specs.Signature.{prim_signature}
use Rattle.qtt_term.specs.Telescopes.{signature}
use Rattle.qtt_core_check.proofs.Scopes.{length-tele}
use Rattle.qtt_core_check.proofs.Within.{holds, unmet}
use Rattle.qtt_core_check.proofs.premises.Checker.prim_signature.Goals as goal

pub returns-then-len-count-clause-gives : goal.returns-then-len-count-clause-gives
returns-then-len-count-clause-gives g c =
    let bs = c.in_ok-signature.signature.arguments.items in
    let s : signature c.in_ok-signature.signature ≡ prim_signature c.args.prim = search rules in
    let l : length (prim_signature c.args.prim).arguments ≡ length bs =
    ap (λ s. length s.arguments) (sym s) ∙ length-tele bs in
    let d : length bs ≢ c.args.count = search rules in
    unmet _ _ (rw l (ne_eqb c.args.count (length bs) (λ e. d (sym e))))

pub returns-clause-gives : goal.returns-clause-gives
returns-clause-gives g c =
    let bs = c.in_ok-signature.signature.arguments.items in
    let s : signature c.in_ok-signature.signature ≡ prim_signature c.args.prim = search rules in
    let l : length (prim_signature c.args.prim).arguments ≡ length bs =
    ap (λ s. length s.arguments) (sym s) ∙ length-tele bs in
    let d : length bs ≡ c.args.count = search rules in
    holds _ _ (rw l (eq-eqb c.args.count (length bs) (sym d)))
