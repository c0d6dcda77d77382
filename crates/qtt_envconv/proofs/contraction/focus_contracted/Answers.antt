use Rattle.std.proofs.Common.{◌≡◌, length, map, option_map, None, Some, inl, inr, ap, sym, subst, ◌∙◌, arith}
use Rattle.std.proofs.lemmas.Grind.{common_steps}
use Rattle.std.proofs.lemmas.List.{length-map}
use Rattle.std.proofs.lemmas.Result.{IfOk-weaker}
use Rattle.qtt_term.specs.declared.term.Term.{the_lemmas}
use Rattle.qtt_term.specs.Term.{Def, Call}
use Rattle.qtt_term.specs.Contraction.{computed}
use Rattle.qtt_term.specs.Globals.{env}
use Rattle.qtt_term.specs.Question.{head_step}
use Rattle.qtt_term.specs.View.{term, terms, side_by_side}
use Rattle.qtt_envconv.specs.declared.spine.Focus.{Focus}
use Rattle.qtt_envconv.specs.Closures.{values}
use Rattle.qtt_envconv.specs.Shapes.{literal}
use Rattle.qtt_envconv.specs.Frames.{focus, reduct, IsFocus}
use Rattle.qtt_envconv.proofs.Contracting.{definition-steps, literal-rests, others-rest, call-steps, IsDefinition}
use Rattle.qtt_envconv.proofs.contraction.focus_contracted.Goals as goal

pub returns-in_ok-of-in-Some : goal.returns-in_ok-of-in-Some
returns-in_ok-of-in-Some c =
    let E = env c.args.env.now in
    let t = c.in-Closure.closure in
    let is : term t.code.now ≡ Def c.in-Def.id = grind (arith, common_steps, the_lemmas) in
    ap Some c.in_ok-of-in-Some.ensures
    ∙ definition-steps E (values t.values.now) (term t.code.now) c.in-Def.id (Some (term c.in-Some.body.now)) is
    c.in-Some.ensures
    ∙ ap (head_step E) (sym (ap focus c.in-Closure.is))

pub returns-in-None : goal.returns-in-None
returns-in-None c =
    let E = env c.args.env.now in
    let t = c.in-Closure.closure in
    let is : term t.code.now ≡ Def c.in-Def.id = grind (arith, common_steps, the_lemmas) in
    definition-steps E (values t.values.now) (term t.code.now) c.in-Def.id None is c.in-None.ensures
    ∙ ap (head_step E) (sym (ap focus c.in-Closure.is))

pub returns-in_default : goal.returns-in_default
returns-in_default c =
    let E = env c.args.env.now in
    let t = c.in-Closure.closure in
    let none : IsDefinition (term t.code.now) → ⊥ = grind (arith, common_steps, the_lemmas) in
    let P : Focus → Type 0 = IsFocus in
    others-rest E (values t.values.now) (term t.code.now) (subst P c.in-Closure.is c.requires) none
    ∙ ap (head_step E) (sym (ap focus c.in-Closure.is))

pub returns-in-Prim : goal.returns-in-Prim
returns-in-Prim c =
    let E = env c.args.env.now in
    let t = c.in-Call.closure in
    let ls = c.in-Call.literals.items in
    let p = c.in-Prim in
    let is : term t.code.now ≡ Call p.prim (side_by_side (terms p.field-1.items)) =
    grind (arith, common_steps, the_lemmas) in
    let P : Focus → Type 0 = IsFocus in
    IfOk-weaker c.computed.result _ _
    (λ o e. call-steps E (values t.values.now) (term t.code.now) p.prim (side_by_side (terms p.field-1.items))
    (map literal ls) (length ls) (option_map reduct o) is (subst P c.in-Call.is c.requires)
    (sym (length-map ls literal))
    (e ∙ ap (λ xs. computed p.prim (map literal xs)) c.deref.ensures.value)
    ∙ ap (head_step E) (sym (ap focus c.in-Call.is))) c.computed.ensures

pub returns-in-Variable : goal.returns-in-Variable
returns-in-Variable c =
    let E = env c.args.env.now in
    elim c.in-Variable.is [
      | inl (i, is) ↦ ap (head_step E) (sym (ap focus is))
      | inr (l, is) ↦ literal-rests E (literal l) ∙ ap (head_step E) (sym (ap focus is))
    ]
