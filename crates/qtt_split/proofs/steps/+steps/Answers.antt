use Rattle.std.proofs.Common.{◌≡◌, ◌∙◌, ◌∷◌, length, map, ap, sym, rules}
use Rattle.qtt_term.specs.declared.term.Term.{the_lemmas}
use Rattle.qtt_term.specs.Term.{Form, node, ◌+++◌}
use Rattle.qtt_term.specs.View.{term, terms, side_by_side}
use Rattle.qtt_unify.specs.View.{all_terms}
use Rattle.qtt_split.specs.declared.steps.Step.TheVariants as code
use Rattle.qtt_split.specs.Ways.{Step, step_of, steps, all_steps}
use Rattle.qtt_split.proofs.Stepping.{steps-con, all-stepped}
use Rattle.qtt_split.proofs.steps.+steps.Goals as goal

pub steps-returns-in_ok-append-in-Con : goal.steps-returns-in_ok-append-in-Con
steps-returns-in_ok-append-in-Con t c =
    let con = c.in-Con.con in
    let qs = c.in-Con.params.items in
    let fs = c.in-Con.fields.items in
    let inner = c.in_ok-inner-in-Con.inner.items in
    let now : c.append.new.self.items ≡ code.Constructor con c.deref.result ∷ inner = search rules in
    let stands : term c.args.target.now ≡ node (Form.con con.family con.place (length (terms qs)))
    (side_by_side (terms qs) +++ side_by_side (terms fs)) = search (rules, the_lemmas) in
    ap (map step_of) now ∙
    ap (λ xs. Step.made_of con (all_terms xs) ∷ map step_of inner) c.deref.ensures.value ∙
    ap (λ ss. Step.made_of con (all_terms qs) ∷ ss)
    (c.in_ok-inner-in-Con.ensures ∙ ap (λ xs. all_steps (all_terms xs) 0) c.deref-in-Con.ensures.value) ∙
    sym (steps-con con (terms qs) (all_terms fs)) ∙
    ap steps (sym stands)

pub all_steps-returns : goal.all_steps-returns
all_steps-returns t c =
    all-stepped c.args.targets.now c.loop-target.target-index c.loop-target.all.items c.loop-target-test.false
    c.loop-target.invariant
