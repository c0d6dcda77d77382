use Rattle.std.proofs.Common.{◌∙◌, ◌++◌, map, ap, sym, subst}
use mathlib.Core.Path.{ap₂}
use Rattle.qtt_syntax.specs.View.{shape_of}
use Rattle.qtt_term.specs.Contexts.{part}
use Rattle.qtt_term.specs.Entries.{env}
use Rattle.qtt_term.specs.View.{term}
use Rattle.qtt_bidi.specs.Answers.{Reaches, Refuses}
use Rattle.qtt_bidi.specs.Elaboration.{judge}
use Rattle.qtt_bidi.proofs.Within.{passed}
use Rattle.qtt_split.specs.Calls.{clause_of}
use Rattle.qtt_split.specs.Group.{dots_agree, dots_of}
use Rattle.qtt_split.specs.View.{leaf_of}
use Rattle.qtt_holes.specs.View.{hole}
use Rattle.qtt_module.specs.GroupCalls.{globals_of, dot_of, column_of}
use Rattle.qtt_module.proofs.Siding.{dots-refused, hole-refused, hole-reached, core-refused, core-reached}
use Rattle.qtt_module.proofs.groups.Group.side.Goals as goal

pub returns-in_err-dots_agree : goal.returns-in_err-dots_agree
returns-in_err-dots_agree g c =
    let G = globals_of c.args.self.now in
    let n = c.args.self.now.elaborator.budget in
    let l = leaf_of c.args.leaf.now in
    let e = c.in_err-dots_agree.field-0.0 in
    let ds = ap (map dot_of) c.deref-2.ensures.value ∙ c.in_ok-dots.ensures
    ∙ ap₂ (λ xs ps. map dot_of xs ++ dots_of (map shape_of ps)) c.new.ensures.items c.deref.ensures.value in
    passed _ _ _ _ c.from_residual-in_err-dots_agree.result e c.from_residual-in_err-dots_agree.ensures.1
    (dots-refused (env G) n G (part c.args.self.now.sigma) (clause_of c.args.clause.now) l e
    (subst (λ xs. Refuses (env G) n (dots_agree (judge G) l xs l.dots) e) ds
    (subst (λ xs. Refuses (env G) n (dots_agree (judge G) l (map dot_of c.deref-2.result.now) (map column_of xs)) e)
    c.deref-3.ensures.value c.in_err-dots_agree.ensures)))

pub returns-in_err-hole_at : goal.returns-in_err-hole_at
returns-in_err-hole_at g c =
    let G = globals_of c.args.self.now in
    let n = c.args.self.now.elaborator.budget in
    let p = part c.args.self.now.sigma in
    let x = clause_of c.args.clause.now in
    let l = leaf_of c.args.leaf.now in
    let ds = ap (map dot_of) c.deref-2.ensures.value ∙ c.in_ok-dots.ensures
    ∙ ap₂ (λ xs ps. map dot_of xs ++ dots_of (map shape_of ps)) c.new.ensures.items c.deref.ensures.value in
    let dots = subst (λ xs. Reaches (env G) n (dots_agree (judge G) l xs l.dots) tt) ds
    (subst (λ xs. Reaches (env G) n (dots_agree (judge G) l (map dot_of c.deref-2.result.now) (map column_of xs)) tt)
    c.deref-3.ensures.value c.in_ok-dots_agree.ensures) in
    let e = c.in_err-hole_at.field-0.0 in
    passed _ _ _ _ c.from_residual-in_err-hole_at.result e c.from_residual-in_err-hole_at.ensures.1
    (hole-refused (env G) n G p x l dots e (sym c.has_hole.ensures ∙ c.if-has_hole.true) c.in_err-hole_at.ensures)

pub returns-then-has_hole : goal.returns-then-has_hole
returns-then-has_hole g c =
    let G = globals_of c.args.self.now in
    let n = c.args.self.now.elaborator.budget in
    let p = part c.args.self.now.sigma in
    let x = clause_of c.args.clause.now in
    let l = leaf_of c.args.leaf.now in
    let ds = ap (map dot_of) c.deref-2.ensures.value ∙ c.in_ok-dots.ensures
    ∙ ap₂ (λ xs ps. map dot_of xs ++ dots_of (map shape_of ps)) c.new.ensures.items c.deref.ensures.value in
    let dots = subst (λ xs. Reaches (env G) n (dots_agree (judge G) l xs l.dots) tt) ds
    (subst (λ xs. Reaches (env G) n (dots_agree (judge G) l (map dot_of c.deref-2.result.now) (map column_of xs)) tt)
    c.deref-3.ensures.value c.in_ok-dots_agree.ensures) in
    hole-reached (env G) n G p x l dots (hole c.in_ok-hole_at.field-0) (sym c.has_hole.ensures ∙ c.if-has_hole.true)
    c.in_ok-hole_at.ensures

pub returns-in_err-core_at : goal.returns-in_err-core_at
returns-in_err-core_at g c =
    let G = globals_of c.args.self.now in
    let n = c.args.self.now.elaborator.budget in
    let p = part c.args.self.now.sigma in
    let x = clause_of c.args.clause.now in
    let l = leaf_of c.args.leaf.now in
    let ds = ap (map dot_of) c.deref-2.ensures.value ∙ c.in_ok-dots.ensures
    ∙ ap₂ (λ xs ps. map dot_of xs ++ dots_of (map shape_of ps)) c.new.ensures.items c.deref.ensures.value in
    let dots = subst (λ xs. Reaches (env G) n (dots_agree (judge G) l xs l.dots) tt) ds
    (subst (λ xs. Reaches (env G) n (dots_agree (judge G) l (map dot_of c.deref-2.result.now) (map column_of xs)) tt)
    c.deref-3.ensures.value c.in_ok-dots_agree.ensures) in
    let e = c.in_err-core_at.field-0.0 in
    passed _ _ _ _ c.from_residual-in_err-core_at.result e c.from_residual-in_err-core_at.ensures.1
    (core-refused (env G) n G p x l dots e (sym c.has_hole.ensures ∙ c.if-has_hole.false) c.in_err-core_at.ensures)

pub returns : goal.returns
returns g c =
    let G = globals_of c.args.self.now in
    let n = c.args.self.now.elaborator.budget in
    let p = part c.args.self.now.sigma in
    let x = clause_of c.args.clause.now in
    let l = leaf_of c.args.leaf.now in
    let ds = ap (map dot_of) c.deref-2.ensures.value ∙ c.in_ok-dots.ensures
    ∙ ap₂ (λ xs ps. map dot_of xs ++ dots_of (map shape_of ps)) c.new.ensures.items c.deref.ensures.value in
    let dots = subst (λ xs. Reaches (env G) n (dots_agree (judge G) l xs l.dots) tt) ds
    (subst (λ xs. Reaches (env G) n (dots_agree (judge G) l (map dot_of c.deref-2.result.now) (map column_of xs)) tt)
    c.deref-3.ensures.value c.in_ok-dots_agree.ensures) in
    core-reached (env G) n G p x l dots (term c.in_ok-core_at.field-0) (sym c.has_hole.ensures ∙ c.if-has_hole.false)
    c.in_ok-core_at.ensures
