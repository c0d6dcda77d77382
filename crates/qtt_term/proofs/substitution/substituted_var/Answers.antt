use Rattle.std.proofs.Common.{◌≡◌, ◌+◌, ◌-◌, ◌∙◌, IfOk, length, get_or, sym, ap, subst, rules, arith}
use Rattle.std.proofs.lemmas.List.{length-map}
use Rattle.std.proofs.Math.ListN.{get_or-map}
use Rattle.qtt_term.specs.declared.term.Term.{the_lemmas}
use Rattle.qtt_term.specs.Term.{Term}
use Rattle.qtt_term.specs.Substitution.{ren, shift}
use Rattle.qtt_term.specs.Shift.{values_or, term_beyond}
use Rattle.qtt_term.specs.View.{term, terms}
use Rattle.qtt_term.proofs.Moves.{lifts-below, lifts-above, raised-zero, push-below, push-above, term_beyond-raised}
use Rattle.qtt_term.proofs.substitution.substituted_var.Goals as goal

pub returns-then-index-depth : goal.returns-then-index-depth
returns-then-index-depth c =
    let here = sym (lifts-below c.args.depth (values_or c.args.beyond (terms c.args.values.now)) c.args.index
    c.if-index-depth.true) in
    search (rules, the_lemmas, here)

pub returns-then-place-values : goal.returns-then-place-values
returns-then-place-values c =
    let vs = c.args.values.now in
    let d = c.args.depth in
    let value = c.index-values-values.result in
    let above = lifts-above d (values_or c.args.beyond (terms vs)) c.args.index c.if-index-depth.false in
    let P : Term → Type 0 = λ s. IfOk c.shift.result (λ t. term t ≡ s) in
    let at : values_or c.args.beyond (terms vs) (c.args.index - d) ≡ term value =
    push-below (terms vs) (term_beyond c.args.beyond) (c.args.index - d) (term value)
    (omega (arith, length-map vs term))
    ∙ ap (λ n. get_or (terms vs) (n - 1 - (c.args.index - d)) (term value)) (length-map vs term)
    ∙ get_or-map term vs (length vs - 1 - (c.args.index - d)) value
    ∙ ap term (sym c.index-values-values.is) in
    subst P (raised-zero d (term value) ∙ sym (above ∙ ap (ren (shift d)) at)) c.shift.ensures

pub returns-else-place-values : goal.returns-else-place-values
returns-else-place-values c =
    let vs = c.args.values.now in
    let d = c.args.depth in
    let i = c.args.index in
    let above = lifts-above d (values_or c.args.beyond (terms vs)) i c.if-index-depth.false in
    let past = push-above (terms vs) (term_beyond c.args.beyond) (i - d) (omega (arith, length-map vs term)) in
    let place : d + (i - d - length (terms vs)) ≡ i - length vs = omega (arith, length-map vs term) in
    let here = sym (above ∙ ap (ren (shift d)) past ∙ term_beyond-raised c.args.beyond d
    (i - d - length (terms vs)) ∙ ap (term_beyond c.args.beyond) place) in
    search (rules, the_lemmas, here)
