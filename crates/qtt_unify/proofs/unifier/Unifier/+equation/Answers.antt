use Rattle.std.proofs.Common.{◌≡◌, ◌+◌, ◌++◌, ◌&&◌, true, false, eqb, List, [], ◌∷◌, length, None, Ok, Vec, Global, map, sym, subst, ap, ◌∙◌, rules, arith}
use mathlib.Core.Path.{ap₂}
use Rattle.std.proofs.lemmas.Grind.{common_steps}
use Rattle.qtt_term.specs.declared.term.Term as code_term
use Rattle.qtt_term.specs.declared.term.Term.{the_lemmas}
use Rattle.qtt_term.specs.Globals.{env}
use Rattle.qtt_term.specs.Contraction.{as_con}
use Rattle.qtt_term.specs.Premises.{head_of}
use Rattle.qtt_term.specs.Term.{Form, var, node, ◌+++◌, same_id}
use Rattle.qtt_term.specs.View.{term, terms, side_by_side}
use Rattle.qtt_unify.specs.declared.equations.Found as code_found
use Rattle.qtt_unify.specs.Equations.{Found, stuck_at, equation, equations}
use Rattle.qtt_unify.specs.Unread.{con_of}
use Rattle.qtt_unify.specs.View.{all_terms, found, Reaches, Refuses, Gives}
use Rattle.qtt_unify.proofs.Continuing.{EquatedSoFar, one-equated, equated-stopped, targets-equated, results-equated}
use Rattle.qtt_unify.proofs.Equated.{con-refused, con-same, con-apart, con-stuck}
use Rattle.qtt_unify.proofs.Fields.{counted}
use Rattle.qtt_unify.proofs.Within.{on_done, reached, passed, given_as}
use Rattle.qtt_unify.proofs.unifier.Unifier.+equation.Goals as goal

pub equation-returns-in-Var : goal.equation-returns-in-Var
equation-returns-in-Var g t c =
    let E = env c.args.self.now.globals.now in
    let form : term c.args.target.now ≡ var c.in-Var.variable = search (rules, the_lemmas) in
    subst (λ x. Reaches E c.args.self.now.budget (equation tt c.args.depth c.args.fields x (term c.args.index.now))
    (map found c.in_ok-alone-in-Var.field-0.items))
    (sym form)
    (reached on_done
    (ap (λ x. Found.solves c.in-Var.variable x ∷ []) (sym c.in_ok-copy-in-Var.ensures) ∙
    ap (map found) (sym c.in_ok-alone-in-Var.ensures)))

pub equation-returns-then-same_constructor : goal.equation-returns-then-same_constructor
equation-returns-then-same_constructor g t c =
    let E = env c.args.self.now.globals.now in
    let n = c.args.self.now.budget in
    let d = c.args.depth in
    let m = c.args.fields in
    let u = term c.args.index.now in
    let con = c.in-Con.con in
    let ps = c.in-Con.field-1.items in
    let fs = c.in-Con.parts.items in
    let form : term c.args.target.now ≡ node (Form.con con.family con.place (length (terms ps)))
    (side_by_side (terms ps) +++ side_by_side (terms fs)) = search (rules, the_lemmas) in
    let same : term c.args.target.now ≡ con_of con ps fs = form ∙ counted con ps fs in
    let inner : c.in_ok-deeper-in-Con.field-0 ≡ d + m = c.in_ok-deeper-in-Con.ensures in
    let head = c.in_ok-head-in-Con.head in
    let at : Reaches E n (head_of tt (d + m) u) (term head) =
    subst (λ k. Reaches E n (head_of tt k u) (term head)) inner c.in_ok-head-in-Con.ensures in
    let o = c.in-Con-head.other in
    let qs = c.in-Con-head.field-1.items in
    let us = c.in-Con-head.others.items in
    let found_form : term head ≡ node (Form.con o.family o.place (length (terms qs)))
    (side_by_side (terms qs) +++ side_by_side (terms us)) = search (rules, the_lemmas) in
    let there : Reaches E n (head_of tt (d + m) u) (con_of o qs us) = reached at (found_form ∙ counted o qs us) in
    let test : (same_id con.family o.family && eqb con.place o.place) ≡ true =
    sym c.same_constructor.ensures ∙ c.if-same_constructor.true in
    let first : c.deref.result.now ≡ fs = c.deref.ensures.value in
    let second : c.deref-then-same_constructor.result.now ≡ us = c.deref-then-same_constructor.ensures.value in
    let lists : equations {F = ⊥} tt d m (all_terms fs) (all_terms us) 0
    ≡ equations tt d m (all_terms c.deref.result.now) (all_terms c.deref-then-same_constructor.result.now) 0 =
    ap₂ (λ (a b : List code_term.Term). equations {F = ⊥} tt d m (all_terms a) (all_terms b) 0) (sym first) (sym second)
    in
    let view : Vec code_found.Found Global → List Found = λ v. map found v.items in
    let given : Gives E n (equations tt d m (all_terms c.deref.result.now)
    (all_terms c.deref-then-same_constructor.result.now) 0) view c.equations.result = c.equations.ensures in
    given_as E n (equation tt d m (term c.args.target.now) u) (equation tt d m (con_of con ps fs) u) view
    c.equations.result (ap (λ x. equation {F = ⊥} tt d m x u) same)
    (con-same d m con o ps fs qs us u view c.equations.result there test
    (given_as E n (equations tt d m (all_terms fs) (all_terms us) 0)
    (equations tt d m (all_terms c.deref.result.now) (all_terms c.deref-then-same_constructor.result.now) 0) view
    c.equations.result lists given))

pub equation-returns-in-Con : goal.equation-returns-in-Con
equation-returns-in-Con g t c =
    let E = env c.args.self.now.globals.now in
    let n = c.args.self.now.budget in
    let d = c.args.depth in
    let m = c.args.fields in
    let u = term c.args.index.now in
    let con = c.in-Con.con in
    let ps = c.in-Con.field-1.items in
    let fs = c.in-Con.parts.items in
    let form : term c.args.target.now ≡ node (Form.con con.family con.place (length (terms ps)))
    (side_by_side (terms ps) +++ side_by_side (terms fs)) = search (rules, the_lemmas) in
    let same : term c.args.target.now ≡ con_of con ps fs = form ∙ counted con ps fs in
    let inner : c.in_ok-deeper-in-Con.field-0 ≡ d + m = c.in_ok-deeper-in-Con.ensures in
    let head = c.in_ok-head-in-Con.head in
    let at : Reaches E n (head_of tt (d + m) u) (term head) =
    subst (λ k. Reaches E n (head_of tt k u) (term head)) inner c.in_ok-head-in-Con.ensures in
    let none : as_con (term head) ≡ None = search (rules, the_lemmas) in
    given_as _ _ _ _ _ _ (ap (λ x. equation {F = ⊥} tt d m x u) same)
    (con-stuck d m con ps fs u (term head) _ c.stuck.result at none
    (given_as _ _ _ _ _ _ (ap (λ x. stuck_at {F = ⊥} {P = Unit {0}} m x u) (sym same)) c.stuck.ensures))

pub equations-returns-in_err-more : goal.equations-returns-in_err-more
equations-returns-in_err-more g t c =
    passed _ _ _ _ c.from_residual.result c.in_err-more.field-0.0 c.from_residual.ensures.1
    (equated-stopped c.args.targets.now c.args.indices.now c.loop-place.place c.loop-place.found.items
    c.index-targets-place.result c.index-indices-place.result c.in_err-more.field-0.0 c.loop-place-test.true
    (omega arith) c.index-targets-place.is c.index-indices-place.is c.in_err-more.ensures c.loop-place.invariant)

pub equations-loop-place-preserved : goal.equations-loop-place-preserved
equations-loop-place-preserved g t c =
    let now : c.append.new.self.items ≡ c.loop-place.found.items ++ c.in_ok-more.more.items =
    grind (arith, common_steps) in
    subst (λ v. EquatedSoFar (env c.args.self.now.globals.now) c.args.self.now.budget c.args.depth c.args.fields
    c.args.targets.now c.args.indices.now (c.loop-place.place + 1) v) (sym now)
    (one-equated c.args.targets.now c.args.indices.now c.loop-place.place c.loop-place.found.items
    c.in_ok-more.more.items c.index-targets-place.result c.index-indices-place.result c.loop-place-test.true
    (omega arith) c.index-targets-place.is c.index-indices-place.is c.in_ok-more.ensures c.loop-place.invariant)

pub equation-returns-in_err-head-in-Con : goal.equation-returns-in_err-head-in-Con
equation-returns-in_err-head-in-Con g t c =
    let E = env c.args.self.now.globals.now in
    let n = c.args.self.now.budget in
    let d = c.args.depth in
    let m = c.args.fields in
    let u = term c.args.index.now in
    let con = c.in-Con.con in
    let ps = c.in-Con.field-1.items in
    let fs = c.in-Con.parts.items in
    let form : term c.args.target.now ≡ node (Form.con con.family con.place (length (terms ps)))
    (side_by_side (terms ps) +++ side_by_side (terms fs)) = search (rules, the_lemmas) in
    let same : term c.args.target.now ≡ con_of con ps fs = form ∙ counted con ps fs in
    let inner : c.in_ok-deeper-in-Con.field-0 ≡ d + m = c.in_ok-deeper-in-Con.ensures in
    let e = c.in_err-head-in-Con.field-0.0 in
    passed _ _ _ _ c.from_residual-in_err-head-in-Con.result e c.from_residual-in_err-head-in-Con.ensures.1
    (subst (λ x. Refuses E n (equation tt d m x u) e) (sym same)
    (con-refused E n d m con ps fs u e
    (subst (λ k. Refuses E n (head_of tt k u) e) inner c.in_err-head-in-Con.ensures)))

pub equation-returns-in-Con-head : goal.equation-returns-in-Con-head
equation-returns-in-Con-head g t c =
    let E = env c.args.self.now.globals.now in
    let n = c.args.self.now.budget in
    let d = c.args.depth in
    let m = c.args.fields in
    let u = term c.args.index.now in
    let con = c.in-Con.con in
    let ps = c.in-Con.field-1.items in
    let fs = c.in-Con.parts.items in
    let form : term c.args.target.now ≡ node (Form.con con.family con.place (length (terms ps)))
    (side_by_side (terms ps) +++ side_by_side (terms fs)) = search (rules, the_lemmas) in
    let same : term c.args.target.now ≡ con_of con ps fs = form ∙ counted con ps fs in
    let inner : c.in_ok-deeper-in-Con.field-0 ≡ d + m = c.in_ok-deeper-in-Con.ensures in
    let head = c.in_ok-head-in-Con.head in
    let at : Reaches E n (head_of tt (d + m) u) (term head) =
    subst (λ k. Reaches E n (head_of tt k u) (term head)) inner c.in_ok-head-in-Con.ensures in
    let o = c.in-Con-head.other in
    let qs = c.in-Con-head.field-1.items in
    let us = c.in-Con-head.others.items in
    let found_form : term head ≡ node (Form.con o.family o.place (length (terms qs)))
    (side_by_side (terms qs) +++ side_by_side (terms us)) = search (rules, the_lemmas) in
    let there : Reaches E n (head_of tt (d + m) u) (con_of o qs us) = reached at (found_form ∙ counted o qs us) in
    let test : (same_id con.family o.family && eqb con.place o.place) ≡ false =
    sym c.same_constructor.ensures ∙ c.if-same_constructor.false in
    let apart : Reaches E n (equation tt d m (con_of con ps fs) u) (Found.clashes ∷ []) =
    con-apart d m con o ps fs qs us u (λ (x : List Found). x) (Ok (Found.clashes ∷ [])) there test on_done in
    reached (subst (λ x. Reaches E n (equation tt d m x u) (Found.clashes ∷ [])) (sym same) apart)
    (ap (map found) (sym c.in_ok-alone-in-Con-head.ensures))

pub equations-returns-then-place-indices : goal.equations-returns-then-place-indices
equations-returns-then-place-indices g t c =
    results-equated c.args.targets.now c.args.indices.now c.loop-place.place c.loop-place.found.items (omega arith)
    c.loop-place.invariant

pub equations-returns : goal.equations-returns
equations-returns g t c =
    targets-equated c.args.targets.now c.args.indices.now c.loop-place.place c.loop-place.found.items
    c.loop-place-test.false c.loop-place.invariant
