use Rattle.std.proofs.Common.{Some, sym, subst}
use Rattle.std.proofs.lemmas.Bool.{ltb-true, ltb-false}
use Rattle.qtt_syntax.specs.View.{con_of}
use Rattle.qtt_term.specs.declared.rule.Rule.TheVariants as rule
use Rattle.qtt_rules.specs.Refusal.{Cause, at}
use Rattle.qtt_bidi.specs.Answers.{Reaches, Fails}
use Rattle.qtt_bidi.proofs.Within.{on_done}
use Rattle.qtt_module.specs.Families.{refuse_bad}
use Rattle.qtt_module.proofs.Alike.{refused-so}
use Rattle.qtt_module.proofs.Found.{none-there, one-there}
use Rattle.qtt_module.proofs.families.refused_bad.Goals as goal

pub returns-in_default : goal.returns-in_default
returns-in_default c =
    let ds = c.args.declared.now in
    let i = c.args.bad.constructor in
    let none = none-there con_of ds i (ltb-false i _ (sym c.in_default.ensures.lookup.0)) in
    λ E n. subst (λ o. Reaches E n (refuse_bad o c.args.bad.field) tt) (sym none) on_done

pub returns : goal.returns
returns c =
    let ds = c.args.declared.now in
    let i = c.args.bad.constructor in
    let k = c.args.bad.field in
    let x = c.in-Some.constructor.now in
    let l = c.in-Some.ensures.lookup in
    let p = at x.span rule.Families 7 in
    let some = one-there con_of ds i x (ltb-true i _ (sym l.0)) l.1 in
    λ E n.
    subst (λ o. Fails E n (refuse_bad o k) (Cause.not_positive c.in_ok-copy.field-0 c.in_ok-number.field-0) p)
    (sym some)
    (subst (λ j. Fails E n (refuse_bad (Some (con_of x)) k) (Cause.not_positive c.in_ok-copy.field-0 j) p)
    (sym c.in_ok-number.ensures)
    (subst (λ y. Fails E n (refuse_bad (Some (con_of x)) k) (Cause.not_positive y k) p) (sym c.in_ok-copy.ensures)
    (refused-so (Cause.not_positive x.name k) p)))
