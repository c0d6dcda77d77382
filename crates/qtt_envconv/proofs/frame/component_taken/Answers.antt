use Rattle.std.proofs.Common.{◌≡◌, length, map, slice_get, ap, sym, ◌∙◌, arith}
use Rattle.std.proofs.lemmas.Grind.{common_steps}
use Rattle.std.proofs.lemmas.List.{length-map}
use Rattle.qtt_term.specs.declared.term.Term.{the_lemmas}
use Rattle.qtt_term.specs.declared.term.Case.{out-Case}
use Rattle.qtt_term.specs.Question.{scrutinee_place}
use Rattle.qtt_term.specs.Term.{Call}
use Rattle.qtt_term.specs.View.{term, terms, branches, side_by_side}
use Rattle.qtt_term.proofs.Components.{case_of}
use Rattle.qtt_envconv.proofs.Framing.{case-takes, call-takes, call-takes_none}
use Rattle.qtt_envconv.proofs.frame.component_taken.Goals as goal

pub returns-in_ok-scrutinee_place-in-Case : goal.returns-in_ok-scrutinee_place-in-Case
returns-in_ok-scrutinee_place-in-Case c =
    let a = out-Case c.deref-in-Case-2.result.now in
    let same = c.deref-in-Case.ensures ∙ sym c.deref-in-Case-2.ensures in
    let is : term c.args.t.now ≡ case_of a.mult a.family (terms a.params.items) a.indices (term a.motive)
    (branches a.branches.items) (term a.scrutinee) =
    grind (arith, common_steps, the_lemmas) in
    case-takes (term c.args.t.now) a.mult a.family (terms a.params.items) a.indices (term a.motive)
    (branches a.branches.items) (term a.scrutinee) c.in_ok-scrutinee_place-in-Case.field-0 is
    (c.in_ok-scrutinee_place-in-Case.ensures
    ∙ ap (λ x. scrutinee_place (length (out-Case x).params.items)
    (map (λ b. b.0) (branches (out-Case x).branches.items)))
    same
    ∙ ap (λ n. scrutinee_place n (map (λ b. b.0) (branches a.branches.items))) (sym (length-map a.params.items term)))

pub returns-in-Some : goal.returns-in-Some
returns-in-Some c =
    let p = c.in-Prim in
    let is : term c.args.t.now ≡ Call p.field-0 (side_by_side (terms p.arguments.items)) =
    grind (arith, common_steps, the_lemmas) in
    call-takes (term c.args.t.now) p.field-0 p.arguments.items c.in-Some.first.now is
    (sym (c.in-Some.ensures.value ∙ ap (λ ts. slice_get ts 0) c.deref-in-Prim.ensures.value))

pub returns-in-None : goal.returns-in-None
returns-in-None c =
    let p = c.in-Prim in
    let is : term c.args.t.now ≡ Call p.field-0 (side_by_side (terms p.arguments.items)) =
    grind (arith, common_steps, the_lemmas) in
    call-takes_none (term c.args.t.now) p.field-0 p.arguments.items is
    (omega (arith, c.in-None.ensures.item.3, ap length c.deref-in-Prim.ensures.value))
