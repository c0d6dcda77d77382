use Rattle.std.proofs.Common.{None, ◌≡◌, ◌+◌, ◌<◌, ◌++◌, ◌∙◌, [], ◌∷◌, length, map, take, get_or, refl, sym, ap, subst, rules, arith}
use Rattle.std.proofs.lemmas.List.{length-map, length-append, take_all, append-nil, take-append-drop}
use Rattle.qtt_usage.specs.Usage.{no_usage, usage_sum, usage_scale}
use Rattle.qtt_term.specs.declared.term.Term.{the_lemmas}
use Rattle.qtt_term.specs.declared.term.Delete.{out-Delete}
use Rattle.qtt_term.specs.Term.{Named, Form, node, ε, Sort, Pi, Lam, App, Fam, Delete, Call, Trap}
use Rattle.qtt_term.specs.Substitution.{sub}
use Rattle.qtt_term.specs.Contexts.{part}
use Rattle.qtt_term.specs.Globals.{env}
use Rattle.qtt_term.specs.Items.{family, constructor}
use Rattle.qtt_term.specs.View.{action, io, term, terms, case, delete, branch, branches, side_by_side}
use Rattle.qtt_term.specs.Infer.{at, inferred, infer}
use Rattle.qtt_term.specs.Telescopes.{tele, filled}
use Rattle.qtt_core_check.specs.Cases.{case_of, params_of, motive_of, branches_ask, scrutinee_asks}
use Rattle.qtt_core_check.specs.Seen.{ctx, judged, Reaches, Refuses, Gives}
use Rattle.qtt_core_check.specs.TwoLists.{con_parts, act_parts}
use Rattle.qtt_term.proofs.Binders.{if-ok}
use Rattle.qtt_core_check.proofs.Within.{on, on_done, fails_here, fails_later, holds, unmet, here, later, passed, reached, tail}
use Rattle.qtt_core_check.proofs.Continuing.{finished}
use Rattle.qtt_core_check.proofs.ArgumentLists.{filled-more, args-none, args-step, args-stop, args-all, values-step}
use Rattle.qtt_core_check.proofs.BranchLists.{entry-at, length-sigs, bodies-at, none-joined, branch-joined, branch-refused, all-joined}
use Rattle.qtt_core_check.proofs.ArgumentRows.{args-filled, applied-refused, applied-reaches}
use Rattle.qtt_core_check.proofs.FormRows.{fam_need, named_need, con_need, fam-asks, named-asks, prim-many, case_term}
use Rattle.qtt_core_check.proofs.Views.{sort-seen}
use Rattle.qtt_core_check.proofs.premises.Checker.+judge.Goals as goal
use mathlib.Core.Path.{ap₂}
use Rattle.qtt_usage.specs.Mult.{𝟘}
use Rattle.qtt_term.specs.declared.rule.Rule.TheVariants as rule
use Rattle.qtt_term.specs.declared.term.Case.{out-Case}
use Rattle.qtt_term.specs.Signature.{fam_at, fam_sig, prim_signature, IntTy, StringTy, HandleTy, IoTy}
use Rattle.qtt_term.specs.Judgement.{ext, erase_binds, sub_binds, scale}
use Rattle.qtt_preserve.proofs.Travel.{length-scale}
use Rattle.qtt_core_check.proofs.Scopes.{length-tele, several-depth}
use Rattle.qtt_core_check.proofs.Families.{found-family}
use Rattle.qtt_core_check.proofs.Places.{length-params, sig-at}
use Rattle.qtt_core_check.proofs.Applied.{given-as, one-uncounted, one-answers, two-refused-first, two-refused-second, two-are, con-uncounted-parts, con-lists, act_need, act-uncounted, act-lists, lit-is, int-is, string-is, handle-is, io-refused, io-is}
use Rattle.qtt_core_check.proofs.CaseRows.{case-unshaped, case-params-refused, case-motive-refused, case-branches-refused, case-scrutinee-refused, case-ends, branch-is-refused, branch-differs, branch-ends}

-- ---- each form goes to its row
pub judge-returns-in-Pi-clause-gives : goal.judge-returns-in-Pi-clause-gives
judge-returns-in-Pi-clause-gives g t c =
    let E = env c.args.self.now.globals.now in let N = c.args.self.now.budget in let p = part c.args.sigma in
    let Γ = ctx c.args.scope.now in
    let form : term c.args.t.now ≡ Pi c.in-Pi.mult (term c.deref.result.now) (term c.deref-in-Pi.result.now) =
    search (rules, the_lemmas) in
    given-as E N _ _ judged c.pi_row.result (ap (infer E p Γ) form) (c.pi_row.ensures.gives p)

pub judge-returns-in-Lam-clause-gives : goal.judge-returns-in-Lam-clause-gives
judge-returns-in-Lam-clause-gives g t c =
    let E = env c.args.self.now.globals.now in let N = c.args.self.now.budget in let p = part c.args.sigma in
    let Γ = ctx c.args.scope.now in
    let form : term c.args.t.now ≡ Lam c.in-Lam.mult (term c.deref-in-Lam.result.now)
    (term c.deref-in-Lam-2.result.now) = search
    (rules, the_lemmas) in
    given-as E N _ _ judged c.lam_row.result (ap (infer E p Γ) form) c.lam_row.ensures.gives

pub judge-returns-in-App-clause-gives : goal.judge-returns-in-App-clause-gives
judge-returns-in-App-clause-gives g t c =
    let E = env c.args.self.now.globals.now in let N = c.args.self.now.budget in let p = part c.args.sigma in
    let Γ = ctx c.args.scope.now in
    let form : term c.args.t.now ≡ App c.in-App.mult (term c.deref-in-App.result.now)
    (term c.deref-in-App-2.result.now) = search
    (rules, the_lemmas) in
    given-as E N _ _ judged c.app_row.result (ap (infer E p Γ) form) c.app_row.ensures.gives

pub judge-returns-in-Fam-clause-gives : goal.judge-returns-in-Fam-clause-gives
judge-returns-in-Fam-clause-gives g t c =
    let E = env c.args.self.now.globals.now in let N = c.args.self.now.budget in let p = part c.args.sigma in
    let Γ = ctx c.args.scope.now in let ts = c.in-Fam.args.items in
    let form : term c.args.t.now ≡ Fam c.in-Fam.id (side_by_side (terms ts)) = search (rules, the_lemmas) in
    given-as E N _ _ judged c.family_row.result (ap (infer E p Γ) form)
    (subst (λ xs. Gives E N (infer E p Γ (Fam c.in-Fam.id (side_by_side
    (terms xs)))) judged c.family_row.result) c.deref-in-Fam.ensures.value c.family_row.ensures.gives)

pub judge-returns-in-Con-clause-gives : goal.judge-returns-in-Con-clause-gives
judge-returns-in-Con-clause-gives g t c =
    let E = env c.args.self.now.globals.now in let N = c.args.self.now.budget in let p = part c.args.sigma in
    let Γ = ctx c.args.scope.now in let ts = c.in-Con.params.items in let ss = c.in-Con.fields.items in
    let form : term c.args.t.now ≡ con_parts c.in-Con.con.family c.in-Con.con.place ts ss =
    search (rules, the_lemmas) in
    let a = c.deref-in-Con.ensures.value in let b = c.deref-in-Con-2.ensures.value in
    given-as E N _ _ judged c.constructor_row.result (ap (infer E p Γ) form)
    (subst (λ xs. Gives E N (infer E p Γ (con_parts c.in-Con.con.family c.in-Con.con.place ts xs)) judged
    c.constructor_row.result) b
    (subst (λ xs. Gives E N (infer E p Γ
    (con_parts c.in-Con.con.family c.in-Con.con.place xs c.deref-in-Con-2.result.now)) judged
    c.constructor_row.result) a c.constructor_row.ensures.gives))

pub judge-returns-in-IoTy-clause-gives : goal.judge-returns-in-IoTy-clause-gives
judge-returns-in-IoTy-clause-gives g t c =
    let E = env c.args.self.now.globals.now in let N = c.args.self.now.budget in let p = part c.args.sigma in
    let Γ = ctx c.args.scope.now in
    let form : term c.args.t.now ≡ IoTy (io c.in-IoTy.field-0) (term c.deref-in-IoTy.result.now) =
    search (rules, the_lemmas) in
    given-as E N _ _ judged c.io_row.result (ap (infer E p Γ) form) (c.io_row.ensures.gives p (io c.in-IoTy.field-0))

pub judge-returns-in-Prim-clause-gives : goal.judge-returns-in-Prim-clause-gives
judge-returns-in-Prim-clause-gives g t c =
    let E = env c.args.self.now.globals.now in let N = c.args.self.now.budget in let p = part c.args.sigma in
    let Γ = ctx c.args.scope.now in let ts = c.in-Prim.args.items in
    let form : term c.args.t.now ≡ Call c.in-Prim.prim (side_by_side (terms ts)) = search (rules, the_lemmas) in
    given-as E N _ _ judged c.primitive_row.result (ap (infer E p Γ) form)
    (subst (λ xs. Gives E N (infer E p Γ (Call c.in-Prim.prim (side_by_side
    (terms xs)))) judged c.primitive_row.result) c.deref-in-Prim.ensures.value c.primitive_row.ensures.gives)

pub judge-returns-in-Act-clause-gives : goal.judge-returns-in-Act-clause-gives
judge-returns-in-Act-clause-gives g t c =
    let E = env c.args.self.now.globals.now in let N = c.args.self.now.budget in let p = part c.args.sigma in
    let Γ = ctx c.args.scope.now in let ts = c.in-Act.types.items in let ss = c.in-Act.args.items in
    let form : term c.args.t.now ≡ act_parts (action c.in-Act.kind) ts ss = search (rules, the_lemmas) in
    let a = c.deref-in-Act.ensures.value in let b = c.deref-in-Act-2.ensures.value in
    given-as E N _ _ judged c.action_row.result (ap (infer E p Γ) form)
    (subst (λ xs. Gives E N (infer E p Γ (act_parts (action c.in-Act.kind) ts xs)) judged c.action_row.result) b
    (subst (λ xs. Gives E N (infer E p Γ (act_parts (action c.in-Act.kind) xs c.deref-in-Act-2.result.now)) judged
    c.action_row.result) a
    c.action_row.ensures.gives))

pub judge-returns-in-Trap-clause-gives : goal.judge-returns-in-Trap-clause-gives
judge-returns-in-Trap-clause-gives g t c =
    let E = env c.args.self.now.globals.now in let N = c.args.self.now.budget in let p = part c.args.sigma in
    let Γ = ctx c.args.scope.now in let form : term c.args.t.now ≡ Trap (term c.deref-in-Trap.result.now) =
    search (rules, the_lemmas) in
    given-as E N _ _ judged c.trap_row.result (ap (infer E p Γ) form) (c.trap_row.ensures.gives p)

pub judge-returns-in-Lit-clause-gives : goal.judge-returns-in-Lit-clause-gives
judge-returns-in-Lit-clause-gives g t c =
    let E = env c.args.self.now.globals.now in let N = c.args.self.now.budget in let p = part c.args.sigma in
    let Γ = ctx c.args.scope.now in
    let form : term c.args.t.now ≡ node (Form.named (Named.lit c.in-Lit.lit)) ε = search (rules, the_lemmas) in
    given-as E N _ _ judged c.lit_row.result (ap (infer E p Γ) form) (finished _ judged c.lit_row.result
    (lit-is Γ p c.in-Lit.lit) c.lit_row.ensures.gives)

pub judge-returns-in-IntTy-clause-gives : goal.judge-returns-in-IntTy-clause-gives
judge-returns-in-IntTy-clause-gives g t c =
    let E = env c.args.self.now.globals.now in let N = c.args.self.now.budget in let p = part c.args.sigma in
    let Γ = ctx c.args.scope.now in let form : term c.args.t.now ≡ IntTy = search (rules, the_lemmas) in
    given-as E N _ _ judged c.plain_row.result (ap (infer E p Γ) form)
    (finished _ judged c.plain_row.result (int-is Γ p) (rw (sort-seen 0) at c.plain_row.ensures.gives))

pub judge-returns-in-StringTy-clause-gives : goal.judge-returns-in-StringTy-clause-gives
judge-returns-in-StringTy-clause-gives g t c =
    let E = env c.args.self.now.globals.now in let N = c.args.self.now.budget in let p = part c.args.sigma in
    let Γ = ctx c.args.scope.now in let form : term c.args.t.now ≡ StringTy = search (rules, the_lemmas) in
    given-as E N _ _ judged c.plain_row-in-StringTy.result (ap (infer E p Γ) form)
    (finished _ judged c.plain_row-in-StringTy.result (string-is Γ p)
    (rw (sort-seen 0) at c.plain_row-in-StringTy.ensures.gives))

pub judge-returns-in-HandleTy-clause-gives : goal.judge-returns-in-HandleTy-clause-gives
judge-returns-in-HandleTy-clause-gives g t c =
    let E = env c.args.self.now.globals.now in let N = c.args.self.now.budget in let p = part c.args.sigma in
    let Γ = ctx c.args.scope.now in let form : term c.args.t.now ≡ HandleTy = search (rules, the_lemmas) in
    given-as E N _ _ judged c.plain_row-in-HandleTy.result (ap (infer E p Γ) form)
    (finished _ judged c.plain_row-in-HandleTy.result (handle-is Γ p)
    (rw (sort-seen 0) at c.plain_row-in-HandleTy.ensures.gives))

-- ---- rows
pub pi_row-returns-in_err-first-clause-gives : goal.pi_row-returns-in_err-first-clause-gives
pi_row-returns-in_err-first-clause-gives g t c =
    λ p.
    passed _ _ _ _ c.from_residual.result c.in_err-first.field-0.0 c.from_residual.ensures.1
    (here _ _ _ _ _ c.in_err-first.ensures)

pub pi_row-returns-in_err-second-clause-gives : goal.pi_row-returns-in_err-second-clause-gives
pi_row-returns-in_err-second-clause-gives g t c =
    λ p.
    passed _ _ _ _ c.from_residual-in_err-second.result c.in_err-second.field-0.0
    c.from_residual-in_err-second.ensures.1
    (later _ _ _ _ _ c.in_ok-first.ensures (here _ _ _ _ _ c.in_err-second.ensures))

pub pi_row-returns-clause-gives : goal.pi_row-returns-clause-gives
pi_row-returns-clause-gives g t c =
    λ p. finished _ judged c.pi_end.result (on _ c.in_ok-first.ensures (on _ c.in_ok-second.ensures on_done))
    c.pi_end.ensures.gives

pub lam_row-returns-in_err-type_of-clause-gives : goal.lam_row-returns-in_err-type_of-clause-gives
lam_row-returns-in_err-type_of-clause-gives g t c =
    passed _ _ _ _ c.from_residual.result c.in_err-type_of.field-0.0 c.from_residual.ensures.1
    (here _ _ _ _ _ c.in_err-type_of.ensures)

pub lam_row-returns-in_err-found-clause-gives : goal.lam_row-returns-in_err-found-clause-gives
lam_row-returns-in_err-found-clause-gives g t c =
    passed _ _ _ _ c.from_residual-in_err-found.result c.in_err-found.field-0.0 c.from_residual-in_err-found.ensures.1
    (later _ _ _ _ _ c.in_ok-type_of.ensures (here _ _ _ _ _ c.in_err-found.ensures.gives))

pub lam_row-returns-clause-gives : goal.lam_row-returns-clause-gives
lam_row-returns-clause-gives g t c =
    tail _ _ _ _ _ c.lam_end.result c.in_ok-type_of.ensures (tail _ _ _ _ _ c.lam_end.result c.in_ok-found.ensures.gives
    c.lam_end.ensures.gives)

pub lam_row-lam_end-requires : goal.lam_row-lam_end-requires
lam_row-lam_end-requires g t c =
    omega (arith, c.in_ok-found.ensures.len)

pub lam_row-returns-clause-len : goal.lam_row-returns-clause-len
lam_row-returns-clause-len g t c =
    if-ok (λ j. length j.uses + 1 ≡ length c.in_ok-found.found.uses)
    (λ j. length j.uses ≡ length (ctx c.args.scope.now)) c.lam_end.result
    (λ j h. omega (arith, h, c.in_ok-found.ensures.len)) c.lam_end.ensures.len

pub app_row-returns-in_err-left-clause-gives : goal.app_row-returns-in_err-left-clause-gives
app_row-returns-in_err-left-clause-gives g t c =
    passed _ _ _ _ c.from_residual.result c.in_err-left.field-0.0 c.from_residual.ensures.1
    (here _ _ _ _ _ c.in_err-left.ensures.gives)

pub app_row-returns-in_err-pi-clause-gives : goal.app_row-returns-in_err-pi-clause-gives
app_row-returns-in_err-pi-clause-gives g t c =
    passed _ _ _ _ c.from_residual-in_err-pi.result c.in_err-pi.field-0.0 c.from_residual-in_err-pi.ensures.1
    (later _ _ _ _ _ c.in_ok-left.ensures.gives (here _ _ _ _ _ c.in_err-pi.ensures))

pub app_row-returns-then-not-same_mult-clause-gives : goal.app_row-returns-then-not-same_mult-clause-gives
app_row-returns-then-not-same_mult-clause-gives g t c =
    fails_later _ c.in_ok-left.ensures.gives
    (fails_later _ c.in_ok-pi.ensures (fails_here _ (unmet _ _ (search rules))))

pub app_row-returns-in_err-used-clause-gives : goal.app_row-returns-in_err-used-clause-gives
app_row-returns-in_err-used-clause-gives g t c =
    let inside = c.under-inside.ensures in
    passed _ _ _ _ c.from_residual-in_err-used.result c.in_err-used.field-0.0 c.from_residual-in_err-used.ensures.1
    (later _ _ _ _ _ c.in_ok-left.ensures.gives (later _ _ _ _ _ c.in_ok-pi.ensures
    (later _ _ _ _ _ (holds _ _ (search rules)) (here _ _ _ _ _ (rw inside at c.in_err-used.ensures.gives)))))

pub app_row-returns-clause-gives : goal.app_row-returns-clause-gives
app_row-returns-clause-gives g t c =
    let inside = c.under-inside.ensures in
    finished _ judged c.app_end.result
    (on _ c.in_ok-left.ensures.gives (on _ c.in_ok-pi.ensures (on _ (holds _ _ (search rules)) (on _
    (rw inside at c.in_ok-used.ensures.gives) on_done))))
    c.app_end.ensures.gives

pub family_row-returns-in_err-signature-clause-gives : goal.family_row-returns-in_err-signature-clause-gives
family_row-returns-in_err-signature-clause-gives g t c =
    let E = env c.args.self.now.globals.now in let N = c.args.self.now.budget in let p = part c.args.sigma in
    let Γ = ctx c.args.scope.now in let f = c.args.id in let ts = c.args.args.now in let asks =
    fam-asks E p Γ f (terms ts) in
    let Θ = erase_binds ((fam_at E f).params ++ (fam_at E f).indices) in let A = Sort (fam_at E f).level in
    let e = c.in_err-signature.field-0.0 in
    given-as E N _ _ judged c.from_residual.result asks
    (passed E N _ judged c.from_residual.result e c.from_residual.ensures.1
    (one-uncounted E N p Γ (fam_need E f) (at rule.Fam 1) Θ A ts (length ts) refl e c.in_err-signature.ensures.gives))

pub family_row-returns-clause-gives : goal.family_row-returns-clause-gives
family_row-returns-clause-gives g t c =
    let E = env c.args.self.now.globals.now in let N = c.args.self.now.budget in let p = part c.args.sigma in
    let Γ = ctx c.args.scope.now in let f = c.args.id in let ts = c.args.args.now in let S =
    c.in_ok-signature.signature in
    let Θ = erase_binds ((fam_at E f).params ++ (fam_at E f).indices) in let A = Sort (fam_at E f).level in
    let found = c.in_ok-signature.ensures in
    given-as E N _ _ judged c.signature_row.result (fam-asks E p Γ f (terms ts))
    (one-answers E N p Γ (fam_need E f) (at rule.Fam 1) Θ A ts (length ts) refl S.arguments.items S.ty
    found.arguments found.ty found.gives
    c.signature_row.result c.signature_row.ensures.gives)

pub family_row-signature_row-requires : goal.family_row-signature_row-requires
family_row-signature_row-requires g t c =
    λ κs within. (search rules, (within, c.in_ok-signature.ensures.len))

pub primitive_row-returns-in_err-signature-clause-gives : goal.primitive_row-returns-in_err-signature-clause-gives
primitive_row-returns-in_err-signature-clause-gives g t c =
    let E = env c.args.self.now.globals.now in let N = c.args.self.now.budget in let p = part c.args.sigma in
    let Γ = ctx c.args.scope.now in let q = c.args.prim in let ts = c.args.args.now in
    let asks = named-asks E p Γ (Named.prim q) (terms ts) (prim-many q) in let Θ = (prim_signature q).arguments in
    let A = (prim_signature q).type in let e = c.in_err-signature.field-0.0 in
    given-as E N _ _ judged c.from_residual.result asks
    (passed E N _ judged c.from_residual.result e c.from_residual.ensures.1
    (one-uncounted E N p Γ (named_need E (Named.prim q)) (at rule.Prim 1) Θ A ts
    (length ts) refl e c.in_err-signature.ensures.gives))

pub primitive_row-returns-clause-gives : goal.primitive_row-returns-clause-gives
primitive_row-returns-clause-gives g t c =
    let E = env c.args.self.now.globals.now in let N = c.args.self.now.budget in let p = part c.args.sigma in
    let Γ = ctx c.args.scope.now in let q = c.args.prim in let ts = c.args.args.now in let S =
    c.in_ok-signature.signature in
    let Θ = (prim_signature q).arguments in let A = (prim_signature q).type in let found = c.in_ok-signature.ensures in
    given-as E N _ _ judged c.signature_row.result (named-asks E p Γ (Named.prim q) (terms ts) (prim-many q))
    (one-answers E N p Γ (named_need E (Named.prim q)) (at rule.Prim 1) Θ A ts (length ts) refl S.arguments.items S.ty
    (ap (λ s. s.arguments) found.signature) (ap (λ s. s.type) found.signature) found.gives
    c.signature_row.result c.signature_row.ensures.gives)

pub primitive_row-signature_row-requires : goal.primitive_row-signature_row-requires
primitive_row-signature_row-requires g t c =
    λ κs within. (search rules, (within, c.in_ok-signature.ensures.len))

pub signature_row-returns-in_err-used-clause-gives : goal.signature_row-returns-in_err-used-clause-gives
signature_row-returns-in_err-used-clause-gives g t c =
    let E = env c.args.self.now.globals.now in let N = c.args.self.now.budget in let p = part c.args.sigma in
    let Γ = ctx c.args.scope.now in let r = at c.args.premise.0 c.args.premise.1 in let S = c.args.signature.now in
    let none = c.new-values.result.items in let d : none ≡ [] = c.new-values.ensures.items in let b =
    c.deref.ensures.value in
    let e = c.in_err-used.field-0.0 in
    passed E N _ judged c.from_residual.result e c.from_residual.ensures.1
    (applied-refused E N p Γ r _ (term S.ty) S.arguments.items none c.args.args.now e refl d
    (rw b at c.in_err-used.ensures.gives))

pub signature_row-returns-clause-gives : goal.signature_row-returns-clause-gives
signature_row-returns-clause-gives g t c =
    let E = env c.args.self.now.globals.now in let N = c.args.self.now.budget in let p = part c.args.sigma in
    let Γ = ctx c.args.scope.now in let r = at c.args.premise.0 c.args.premise.1 in let S = c.args.signature.now in
    let none = c.new-values.result.items in let d : none ≡ [] = c.new-values.ensures.items in let b =
    c.deref.ensures.value in
    let vs = c.arguments.new.values.items in let w = c.deref-2.ensures.value in
    finished _ judged c.applied.result
    (applied-reaches E N p Γ r _ (term S.ty) S.arguments.items none vs c.args.args.now S.ty c.in_ok-used.used refl d
    c.in_ok-used.ensures.values refl (rw b at c.in_ok-used.ensures.gives))
    (rw w at c.applied.ensures.gives)

pub signature_row-arguments-requires : goal.signature_row-arguments-requires
signature_row-arguments-requires g t c =
    let counted : length c.deref.result.now ≡ length c.args.args.now = ap length c.deref.ensures.value ∙ c.requires in
    λ κs within. (search rules, (within, counted))

pub constructor_row-returns-in_err-made-clause-gives : goal.constructor_row-returns-in_err-made-clause-gives
constructor_row-returns-in_err-made-clause-gives g t c =
    let E = env c.args.self.now.globals.now in let N = c.args.self.now.budget in let p = part c.args.sigma in
    let Γ = ctx c.args.scope.now in let f = c.args.con.family in let i = c.args.con.place in let ts =
    c.args.params.now in
    let ss = c.args.fields.now in let k = length ts in let m = length ss in let e = c.in_err-made.field-0.0 in
    passed E N _ judged c.from_residual.result e c.from_residual.ensures.1
    (con-uncounted-parts E N p Γ f i ts ss k m refl refl e c.in_err-made.ensures.gives)

pub constructor_row-returns-in_err-used-clause-gives : goal.constructor_row-returns-in_err-used-clause-gives
constructor_row-returns-in_err-used-clause-gives g t c =
    let E = env c.args.self.now.globals.now in let N = c.args.self.now.budget in let p = part c.args.sigma in
    let Γ = ctx c.args.scope.now in let f = c.args.con.family in let i = c.args.con.place in let ts =
    c.args.params.now in
    let ss = c.args.fields.now in let k = length ts in let m = length ss in let M = c.in_ok-made.made in let bs =
    M.params.items in
    let cs = M.fields.items in let none = c.new-values.result.items in let d : none ≡ [] = c.new-values.ensures.items in
    let asks = con-lists E p Γ f i ts ss k m refl refl M c.in_ok-made.ensures.made bs cs refl refl in
    let z : length bs ≡ length ts = c.in_ok-made.ensures.params in let b = c.deref.ensures.value in let e =
    c.in_err-used.field-0.0 in
    given-as E N _ _ judged c.from_residual-in_err-used.result asks
    (passed E N _ judged c.from_residual-in_err-used.result e c.from_residual-in_err-used.ensures.1
    (two-refused-first E N p Γ (con_need E f i k (k + m)) (at rule.Con 1) (at rule.Con 2) bs cs
    (term M.ty) ts ss none d z c.in_ok-made.ensures.gives e
    (rw b at c.in_err-used.ensures.gives)))

pub constructor_row-returns-in_err-more-clause-gives : goal.constructor_row-returns-in_err-more-clause-gives
constructor_row-returns-in_err-more-clause-gives g t c =
    let E = env c.args.self.now.globals.now in let N = c.args.self.now.budget in let p = part c.args.sigma in
    let Γ = ctx c.args.scope.now in let f = c.args.con.family in let i = c.args.con.place in let ts =
    c.args.params.now in
    let ss = c.args.fields.now in let k = length ts in let m = length ss in let M = c.in_ok-made.made in let bs =
    M.params.items in
    let cs = M.fields.items in let none = c.new-values.result.items in let d : none ≡ [] = c.new-values.ensures.items in
    let asks = con-lists E p Γ f i ts ss k m refl refl M c.in_ok-made.ensures.made bs cs refl refl in
    let z : length bs ≡ length ts = c.in_ok-made.ensures.params in let b = c.deref.ensures.value in
    let vs = c.arguments.new.values.items in let v = c.in_ok-used.ensures.values in let b2 = c.deref-2.ensures.value in
    let h = rw b at c.in_ok-used.ensures.gives in let e = c.in_err-more.field-0.0 in
    given-as E N _ _ judged c.from_residual-in_err-more.result asks
    (passed E N _ judged c.from_residual-in_err-more.result e c.from_residual-in_err-more.ensures.1
    (two-refused-second E N p Γ (con_need E f i k (k + m)) (at rule.Con 1) (at rule.Con 2) bs cs
    (term M.ty) ts ss none d z c.in_ok-made.ensures.gives
    vs c.in_ok-used.used v h e (rw b2 at c.in_err-more.ensures.gives)))

pub constructor_row-returns-clause-gives : goal.constructor_row-returns-clause-gives
constructor_row-returns-clause-gives g t c =
    let E = env c.args.self.now.globals.now in let N = c.args.self.now.budget in let p = part c.args.sigma in
    let Γ = ctx c.args.scope.now in let f = c.args.con.family in let i = c.args.con.place in let ts =
    c.args.params.now in
    let ss = c.args.fields.now in let k = length ts in let m = length ss in let M = c.in_ok-made.made in let bs =
    M.params.items in
    let cs = M.fields.items in let none = c.new-values.result.items in let d : none ≡ [] = c.new-values.ensures.items in
    let asks = con-lists E p Γ f i ts ss k m refl refl M c.in_ok-made.ensures.made bs cs refl refl in
    let z : length bs ≡ length ts = c.in_ok-made.ensures.params in let b = c.deref.ensures.value in
    let vs = c.arguments.new.values.items in let v = c.in_ok-used.ensures.values in let b2 = c.deref-2.ensures.value in
    let h = rw b at c.in_ok-used.ensures.gives in let ws = c.arguments-2.new.values.items in let w =
    c.deref-3.ensures.value in
    let us : c.add.new.self ≡ usage_sum c.in_ok-used.used c.in_ok-more.more = c.add.ensures.uses in
    given-as E N _ _ judged c.applied.result asks
    (finished _ judged c.applied.result
    (two-are E N p Γ (con_need E f i k (k + m)) (at rule.Con 1) (at rule.Con 2) bs cs
    (term M.ty) ts ss none d z c.in_ok-made.ensures.gives
    vs c.in_ok-used.used v h ws c.in_ok-more.more M.ty c.in_ok-more.ensures.len c.in_ok-more.ensures.values refl
    (rw b2 at c.in_ok-more.ensures.gives))
    (rw (w, us) at c.applied.ensures.gives))

pub constructor_row-arguments-requires : goal.constructor_row-arguments-requires
constructor_row-arguments-requires g t c =
    let counted : length c.deref.result.now ≡ length c.args.params.now =
    ap length c.deref.ensures.value ∙ c.in_ok-made.ensures.params in
    λ κs within. (search rules, (within, counted))

pub constructor_row-arguments-requires-2 : goal.constructor_row-arguments-requires-2
constructor_row-arguments-requires-2 g t c =
    let counted : length c.deref-2.result.now ≡ length c.args.fields.now =
    ap length c.deref-2.ensures.value ∙ c.in_ok-made.ensures.fields
    in
    λ κs within. (search rules, (within, counted))

pub io_row-returns-in_err-used-clause-gives : goal.io_row-returns-in_err-used-clause-gives
io_row-returns-in_err-used-clause-gives g t c =
    λ p m.
    let E = env c.args.self.now.globals.now in let N = c.args.self.now.budget in let Γ = ctx c.args.scope.now in
    let e = c.in_err-used.field-0.0 in
    passed E N _ judged c.from_residual.result e c.from_residual.ensures.1
    (io-refused E N p Γ m (term c.args.of.now) e (rw (sort-seen 0) at c.in_err-used.ensures.gives))

pub io_row-returns-clause-gives : goal.io_row-returns-clause-gives
io_row-returns-clause-gives g t c =
    λ p m.
    let E = env c.args.self.now.globals.now in let N = c.args.self.now.budget in let Γ = ctx c.args.scope.now in
    let us = c.in_ok-used.used in
    reached (io-is p Γ m (term c.args.of.now) us c.in_ok-used.ensures.len
    (rw (sort-seen 0) at c.in_ok-used.ensures.gives))
    (sym c.io_end.ensures.gives)

pub action_row-returns-in_err-signature-clause-gives : goal.action_row-returns-in_err-signature-clause-gives
action_row-returns-in_err-signature-clause-gives g t c =
    let E = env c.args.self.now.globals.now in let N = c.args.self.now.budget in let p = part c.args.sigma in
    let Γ = ctx c.args.scope.now in let a = action c.args.kind in let ts = c.args.types.now in let ss =
    c.args.args.now in
    let k = length ts in let m = length ss in let e = c.in_err-signature.field-0.0 in
    passed E N _ judged c.from_residual.result e c.from_residual.ensures.1
    (act-uncounted E N p Γ a ts ss k m refl refl e c.in_err-signature.ensures.gives)

pub action_row-returns-in_err-used-clause-gives : goal.action_row-returns-in_err-used-clause-gives
action_row-returns-in_err-used-clause-gives g t c =
    let E = env c.args.self.now.globals.now in let N = c.args.self.now.budget in let p = part c.args.sigma in
    let Γ = ctx c.args.scope.now in let a = action c.args.kind in let ts = c.args.types.now in let ss =
    c.args.args.now in
    let k = length ts in let m = length ss in let S = c.in_ok-signature.signature in let bs = c.split_at.result.0.now in
    let cs = c.split_at.result.1.now in let front = rw c.deref.ensures.value at c.split_at.ensures.front in
    let back = rw c.deref.ensures.value at c.split_at.ensures.back in
    let split : S.arguments.items ≡ bs ++ cs =
    sym (take-append-drop (length c.args.types.now) S.arguments.items) ∙ sym (ap₂ (λ x y. x ++ y) front back) in
    let none = c.new-values.result.items in let d : none ≡ [] = c.new-values.ensures.items in
    let asks = act-lists E p Γ a ts ss k m refl refl S c.in_ok-signature.ensures.signature bs cs split in
    let z : length bs ≡ length ts = c.split_at.ensures.front_len in let e = c.in_err-used.field-0.0 in
    given-as E N _ _ judged c.from_residual-in_err-used.result asks
    (passed E N _ judged c.from_residual-in_err-used.result e c.from_residual-in_err-used.ensures.1
    (two-refused-first E N p Γ (act_need a k (k + m)) (at rule.Act 1) (at rule.Act 1) bs cs
    (term S.ty) ts ss none d z c.in_ok-signature.ensures.gives e
    c.in_err-used.ensures.gives))

pub action_row-returns-in_err-more-clause-gives : goal.action_row-returns-in_err-more-clause-gives
action_row-returns-in_err-more-clause-gives g t c =
    let E = env c.args.self.now.globals.now in let N = c.args.self.now.budget in let p = part c.args.sigma in
    let Γ = ctx c.args.scope.now in let a = action c.args.kind in let ts = c.args.types.now in let ss =
    c.args.args.now in
    let k = length ts in let m = length ss in let S = c.in_ok-signature.signature in let bs = c.split_at.result.0.now in
    let cs = c.split_at.result.1.now in let front = rw c.deref.ensures.value at c.split_at.ensures.front in
    let back = rw c.deref.ensures.value at c.split_at.ensures.back in
    let split : S.arguments.items ≡ bs ++ cs =
    sym (take-append-drop (length c.args.types.now) S.arguments.items) ∙ sym (ap₂ (λ x y. x ++ y) front back) in
    let none = c.new-values.result.items in let d : none ≡ [] = c.new-values.ensures.items in
    let asks = act-lists E p Γ a ts ss k m refl refl S c.in_ok-signature.ensures.signature bs cs split in
    let z : length bs ≡ length ts = c.split_at.ensures.front_len in let vs = c.arguments.new.values.items in
    let v = c.in_ok-used.ensures.values in let h = c.in_ok-used.ensures.gives in let e = c.in_err-more.field-0.0 in
    given-as E N _ _ judged c.from_residual-in_err-more.result asks
    (passed E N _ judged c.from_residual-in_err-more.result e c.from_residual-in_err-more.ensures.1
    (two-refused-second E N p Γ (act_need a k (k + m)) (at rule.Act 1) (at rule.Act 1) bs cs
    (term S.ty) ts ss none d z c.in_ok-signature.ensures.gives
    vs c.in_ok-used.used v h e c.in_err-more.ensures.gives))

pub action_row-returns-clause-gives : goal.action_row-returns-clause-gives
action_row-returns-clause-gives g t c =
    let E = env c.args.self.now.globals.now in let N = c.args.self.now.budget in let p = part c.args.sigma in
    let Γ = ctx c.args.scope.now in let a = action c.args.kind in let ts = c.args.types.now in let ss =
    c.args.args.now in
    let k = length ts in let m = length ss in let S = c.in_ok-signature.signature in let bs = c.split_at.result.0.now in
    let cs = c.split_at.result.1.now in let front = rw c.deref.ensures.value at c.split_at.ensures.front in
    let back = rw c.deref.ensures.value at c.split_at.ensures.back in
    let split : S.arguments.items ≡ bs ++ cs =
    sym (take-append-drop (length c.args.types.now) S.arguments.items) ∙ sym (ap₂ (λ x y. x ++ y) front back) in
    let none = c.new-values.result.items in let d : none ≡ [] = c.new-values.ensures.items in
    let asks = act-lists E p Γ a ts ss k m refl refl S c.in_ok-signature.ensures.signature bs cs split in
    let z : length bs ≡ length ts = c.split_at.ensures.front_len in let vs = c.arguments.new.values.items in
    let v = c.in_ok-used.ensures.values in let h = c.in_ok-used.ensures.gives in let ws =
    c.arguments-2.new.values.items in
    let w = c.deref-2.ensures.value in let us : c.add.new.self ≡ usage_sum c.in_ok-used.used c.in_ok-more.more =
    c.add.ensures.uses in
    given-as E N _ _ judged c.applied.result asks
    (finished _ judged c.applied.result
    (two-are E N p Γ (act_need a k (k + m)) (at rule.Act 1) (at rule.Act 1) bs cs
    (term S.ty) ts ss none d z c.in_ok-signature.ensures.gives
    vs c.in_ok-used.used v h ws c.in_ok-more.more S.ty c.in_ok-more.ensures.len c.in_ok-more.ensures.values refl
    c.in_ok-more.ensures.gives)
    (rw (w, us) at c.applied.ensures.gives))

pub action_row-arguments-requires : goal.action_row-arguments-requires
action_row-arguments-requires g t c =
    let counted : length c.split_at.result.0.now ≡ length c.args.types.now = c.split_at.ensures.front_len in
    λ κs within. (search rules, (within, counted))

pub action_row-arguments-requires-2 : goal.action_row-arguments-requires-2
action_row-arguments-requires-2 g t c =
    let S = c.in_ok-signature.signature in let bs = c.split_at.result.0.now in let cs = c.split_at.result.1.now in
    let front = rw c.deref.ensures.value at c.split_at.ensures.front in let back =
    rw c.deref.ensures.value at c.split_at.ensures.back in
    let split : S.arguments.items ≡ bs ++ cs =
    sym (take-append-drop (length c.args.types.now) S.arguments.items) ∙ sym (ap₂ (λ x y. x ++ y) front back) in
    let whole : length S.arguments.items ≡ length bs + length cs = ap length split ∙ length-append bs cs in
    let all : length S.arguments.items ≡ length c.args.types.now + length c.args.args.now =
    c.in_ok-signature.ensures.len in
    let some : length bs ≡ length c.args.types.now = c.split_at.ensures.front_len in
    let counted : length cs ≡ length c.args.args.now = omega (arith, whole, all, some) in
    λ κs within. (search rules, (within, counted))

pub trap_row-returns-in_err-type_of-clause-gives : goal.trap_row-returns-in_err-type_of-clause-gives
trap_row-returns-in_err-type_of-clause-gives g t c =
    λ p.
    passed _ _ _ _ c.from_residual.result c.in_err-type_of.field-0.0 c.from_residual.ensures.1
    (here _ _ _ _ _ c.in_err-type_of.ensures)

pub trap_row-returns-clause-gives : goal.trap_row-returns-clause-gives
trap_row-returns-clause-gives g t c =
    λ p.
    let Γ = ctx c.args.scope.now in let copied : term c.args.of.now ≡ term c.in_ok-copy.field-0 = search rules in
    finished _ judged c.plain_row.result (reached (on _ c.in_ok-type_of.ensures on_done) (ap (λ A. inferred A (no_usage
    (length Γ))) copied))
    c.plain_row.ensures.gives

-- ---- premises, arguments, matches and deletions
pub has-returns-in_err-found-clause-gives : goal.has-returns-in_err-found-clause-gives
has-returns-in_err-found-clause-gives g t c =
    passed _ _ _ _ c.from_residual.result c.in_err-found.field-0.0 c.from_residual.ensures.1
    (here _ _ _ _ _ c.in_err-found.ensures.gives)

pub has-returns-in_err-agree-clause-gives : goal.has-returns-in_err-agree-clause-gives
has-returns-in_err-agree-clause-gives g t c =
    passed _ _ _ _ c.from_residual-in_err-agree.result c.in_err-agree.field-0.0 c.from_residual-in_err-agree.ensures.1
    (later _ _ _ _ _ c.in_ok-found.ensures.gives (here _ _ _ _ _ c.in_err-agree.ensures))

pub has-returns-clause-gives : goal.has-returns-clause-gives
has-returns-clause-gives g t c =
    on _ c.in_ok-found.ensures.gives (on _ c.in_ok-agree.ensures on_done)

pub type_of-returns-in_err-found : goal.type_of-returns-in_err-found
type_of-returns-in_err-found g t c =
    passed _ _ _ _ c.from_residual.result c.in_err-found.field-0.0 c.from_residual.ensures.1
    (here _ _ _ _ _ c.in_err-found.ensures.gives)

pub type_of-returns : goal.type_of-returns
type_of-returns g t c =
    tail _ _ _ _ _ c.sort.result c.in_ok-found.ensures.gives c.sort.ensures

pub arguments-loop-place-init : goal.arguments-loop-place-init
arguments-loop-place-init g t c = (
  args-none (part c.args.sigma) (ctx c.args.scope.now) (at c.args.premise.0 c.args.premise.1) c.args.binders.now
      (filled c.args.values.now.items) c.args.args.now c.in_ok-uses.uses
      (c.in_ok-uses.ensures.uses ∙ ap no_usage c.in_ok-depth.ensures),
  sym
      (append-nil (terms c.args.values.now.items)),
)

pub arguments-loop-place-preserved : goal.arguments-loop-place-preserved
arguments-loop-place-preserved g t c =
    let bs = c.args.binders.now in let ts = c.args.args.now in let k = c.loop-place.place in let x =
    c.index-binders-place.result in
    let a = c.index-args-place.result in let old = c.args.values.now.items in let so = c.loop-place.invariant in
    let ty : term c.in_ok-ty.ty ≡ sub (filled c.loop-place.values.items) (term x.1) = search rules in
    let f = filled-more old c.loop-place.values.items (take k ts) so.1 in
    let h : k < length bs = omega (arith, c.loop-place-test.true, c.requires) in
    let e : c.push.new.self.items ≡ c.loop-place.values.items ++ c.in_ok-copy.field-0 ∷ [] = search rules in
    let w : c.add.new.self ≡ usage_sum c.loop-place.uses (usage_scale x.0 c.in_ok-used.used) = search rules in (
      args-step (part c.args.sigma) (ctx c.args.scope.now) (at c.args.premise.0 c.args.premise.1) bs
          (filled old) ts k x a c.loop-place.uses c.in_ok-used.used c.add.new.self h c.requires
          c.index-binders-place.is c.index-args-place.is
          c.in_ok-used.ensures.len w so.0 (rw (c.under-inside.ensures, ty, f) at c.in_ok-used.ensures.gives),
      values-step
          c.loop-place.values.items c.push.new.self.items old c.in_ok-copy.field-0 a ts k c.loop-place-test.true
          c.index-args-place.is e
          c.in_ok-copy.ensures so.1,
    )

pub arguments-returns-in_err-used-clause-gives : goal.arguments-returns-in_err-used-clause-gives
arguments-returns-in_err-used-clause-gives g t c =
    let bs = c.args.binders.now in let ts = c.args.args.now in let k = c.loop-place.place in let x =
    c.index-binders-place.result in
    let a = c.index-args-place.result in let old = c.args.values.now.items in let so = c.loop-place.invariant in
    let ty : term c.in_ok-ty.ty ≡ sub (filled c.loop-place.values.items) (term x.1) = search rules in
    let f = filled-more old c.loop-place.values.items (take k ts) so.1 in
    let h : k < length bs = omega (arith, c.loop-place-test.true, c.requires) in
    passed _ _ _ _ c.from_residual-in_err-used.result c.in_err-used.field-0.0
    c.from_residual-in_err-used.ensures.1 (args-stop
    (part c.args.sigma) (ctx c.args.scope.now) (at c.args.premise.0 c.args.premise.1) bs
    (filled old) ts k x a c.loop-place.uses c.in_err-used.field-0.0 h c.requires c.index-binders-place.is
    c.index-args-place.is so.0 (rw
    (c.under-inside.ensures, ty, f) at c.in_err-used.ensures.gives))

pub arguments-returns-clause-gives : goal.arguments-returns-clause-gives
arguments-returns-clause-gives g t c =
    args-all (part c.args.sigma) (ctx c.args.scope.now) (at c.args.premise.0 c.args.premise.1) c.args.binders.now
    (filled c.args.values.now.items) c.args.args.now c.loop-place.place c.loop-place.uses c.requires
    c.loop-place-test.false
    c.loop-place.invariant.0

pub arguments-returns-clause-values : goal.arguments-returns-clause-values
arguments-returns-clause-values g t c =
    c.loop-place.invariant.1 ∙ ap (λ ts. terms c.args.values.now.items ++ terms ts)
    (take_all c.loop-place.place c.args.args.now c.loop-place-test.false)

pub arguments-returns-clause-len : goal.arguments-returns-clause-len
arguments-returns-clause-len g t c =
    c.loop-place.invariant.0.counted

pub case-returns-in_err-family-clause-gives : goal.case-returns-in_err-family-clause-gives
case-returns-in_err-family-clause-gives g t c =
    let E = env c.args.self.now.globals.now in let N = c.args.self.now.budget in let p = part c.args.sigma in
    let Γ = ctx c.args.scope.now in let K = out-Case c.args.case.now in let ps = K.params.items in let q =
    K.mult in let f = K.family in
    let P = term K.motive in let s = term K.scrutinee in
    let form : case c.args.case.now ≡ case_term q f (terms ps) (K.indices + 1) P (branches K.branches.items) s = search
    (rules, the_lemmas) in
    let same = ap (infer E p Γ) form in let l : c.len.result ≡ length ps =
    c.len.ensures ∙ omega (arith, K.params.ok.0) in
    let e : c.deref.result.now ≡ K.branches.items = c.deref.ensures.value in let r = c.in_err-family.field-0.0 in
    given-as E N _ _ judged c.from_residual.result same
    (passed E N _ judged c.from_residual.result r c.from_residual.ensures.1 (case-unshaped E N p Γ q f ps
    (K.indices + 1) P s K.branches.items c.deref.result.now c.len.result l e r c.in_err-family.ensures.gives))

pub case-returns-in_err-arguments-clause-gives : goal.case-returns-in_err-arguments-clause-gives
case-returns-in_err-arguments-clause-gives g t c =
    let E = env c.args.self.now.globals.now in let N = c.args.self.now.budget in let p = part c.args.sigma in
    let Γ = ctx c.args.scope.now in let K = out-Case c.args.case.now in let ps = K.params.items in let q =
    K.mult in let f = K.family in
    let P = term K.motive in let s = term K.scrutinee in
    let form : case c.args.case.now ≡ case_term q f (terms ps) (K.indices + 1) P (branches K.branches.items) s = search
    (rules, the_lemmas) in
    let same = ap (infer E p Γ) form in let l : c.len.result ≡ length ps =
    c.len.ensures ∙ omega (arith, K.params.ok.0) in
    let e : c.deref.result.now ≡ K.branches.items = c.deref.ensures.value in let F = c.in_ok-family.family.now in
    let S = fam_sig f (family F) in let there = found-family E f (family F) c.in_ok-family.ensures.found in
    let a : length ps ≡ length S.params = sym (length-params F ∙ c.in_ok-family.ensures.params ∙ l) in
    let n : length K.branches.items ≡ length S.constructors =
    ap length (sym e) ∙ c.in_ok-family.ensures.branches ∙ sym (length-sigs f (length (family F).params) 0
    (family F).constructors ∙ length-map F.constructors.items constructor) in
    let Θ = tele c.in_ok-binders.binders.items in let none = c.new-params.result.items in
    let d : none ≡ [] = c.new-params.ensures.items in let v2 = c.deref-2.ensures.value in let v3 =
    c.deref-3.ensures.value in
    let r = c.in_err-arguments.field-0.0 in
    given-as E N _ _ judged c.from_residual-in_err-arguments.result same
    (passed E N _ judged c.from_residual-in_err-arguments.result r c.from_residual-in_err-arguments.ensures.1
    (case-params-refused E N p Γ q f ps (K.indices + 1) P s K.branches.items c.deref.result.now c.len.result l e S
    there a n
    c.in_ok-family.ensures.gives Θ c.in_ok-binders.ensures none d r (rw (v2, v3) at c.in_err-arguments.ensures.gives)))

pub case-returns-in_err-type_of-clause-gives : goal.case-returns-in_err-type_of-clause-gives
case-returns-in_err-type_of-clause-gives g t c =
    let E = env c.args.self.now.globals.now in let N = c.args.self.now.budget in let p = part c.args.sigma in
    let Γ = ctx c.args.scope.now in let K = out-Case c.args.case.now in let ps = K.params.items in let q =
    K.mult in let f = K.family in
    let P = term K.motive in let s = term K.scrutinee in
    let form : case c.args.case.now ≡ case_term q f (terms ps) (K.indices + 1) P (branches K.branches.items) s = search
    (rules, the_lemmas) in
    let same = ap (infer E p Γ) form in let l : c.len.result ≡ length ps =
    c.len.ensures ∙ omega (arith, K.params.ok.0) in
    let e : c.deref.result.now ≡ K.branches.items = c.deref.ensures.value in let F = c.in_ok-family.family.now in
    let S = fam_sig f (family F) in let there = found-family E f (family F) c.in_ok-family.ensures.found in
    let a : length ps ≡ length S.params = sym (length-params F ∙ c.in_ok-family.ensures.params ∙ l) in
    let n : length K.branches.items ≡ length S.constructors =
    ap length (sym e) ∙ c.in_ok-family.ensures.branches ∙ sym (length-sigs f (length (family F).params) 0
    (family F).constructors ∙ length-map F.constructors.items constructor) in
    let Θ = tele c.in_ok-binders.binders.items in let none = c.new-params.result.items in
    let d : none ≡ [] = c.new-params.ensures.items in let v2 = c.deref-2.ensures.value in let v3 =
    c.deref-3.ensures.value in
    let vs = c.arguments.new.values.items in let σ = filled vs in
    let fs = args-filled none vs ps d (rw v3 at c.in_ok-arguments.ensures.values) in let Ξ =
    tele c.in_ok-binders-2.binders.items in
    let v4 = c.deref-4.ensures.value in let v5 = c.deref-5.ensures.value in
    let x : Ξ ≡ sub_binds σ S.motive = rw v5 at c.in_ok-binders-2.ensures in let v6 = c.deref-6.ensures.value in
    let g1 = rw (v2, v3) at c.in_ok-arguments.ensures.gives in let r = c.in_err-type_of.field-0.0 in
    given-as E N _ _ judged c.from_residual-in_err-type_of.result same
    (passed E N _ judged c.from_residual-in_err-type_of.result r c.from_residual-in_err-type_of.ensures.1
    (case-motive-refused E N p Γ q f ps (K.indices + 1) P s K.branches.items c.deref.result.now c.len.result l e S
    there a n
    c.in_ok-family.ensures.gives Θ c.in_ok-binders.ensures none d c.in_ok-arguments.field-0 g1 σ fs Ξ x r
    (rw v6 at c.in_err-type_of.ensures)))

pub case-returns-in_err-joined-clause-gives : goal.case-returns-in_err-joined-clause-gives
case-returns-in_err-joined-clause-gives g t c =
    let E = env c.args.self.now.globals.now in let N = c.args.self.now.budget in let p = part c.args.sigma in
    let Γ = ctx c.args.scope.now in let K = out-Case c.args.case.now in let ps = K.params.items in let q =
    K.mult in let f = K.family in
    let P = term K.motive in let s = term K.scrutinee in
    let form : case c.args.case.now ≡ case_term q f (terms ps) (K.indices + 1) P (branches K.branches.items) s = search
    (rules, the_lemmas) in
    let same = ap (infer E p Γ) form in let l : c.len.result ≡ length ps =
    c.len.ensures ∙ omega (arith, K.params.ok.0) in
    let e : c.deref.result.now ≡ K.branches.items = c.deref.ensures.value in let F = c.in_ok-family.family.now in
    let S = fam_sig f (family F) in let there = found-family E f (family F) c.in_ok-family.ensures.found in
    let a : length ps ≡ length S.params = sym (length-params F ∙ c.in_ok-family.ensures.params ∙ l) in
    let n : length K.branches.items ≡ length S.constructors =
    ap length (sym e) ∙ c.in_ok-family.ensures.branches ∙ sym (length-sigs f (length (family F).params) 0
    (family F).constructors ∙ length-map F.constructors.items constructor) in
    let Θ = tele c.in_ok-binders.binders.items in let none = c.new-params.result.items in
    let d : none ≡ [] = c.new-params.ensures.items in let v2 = c.deref-2.ensures.value in let v3 =
    c.deref-3.ensures.value in
    let vs = c.arguments.new.values.items in let σ = filled vs in
    let fs = args-filled none vs ps d (rw v3 at c.in_ok-arguments.ensures.values) in let Ξ =
    tele c.in_ok-binders-2.binders.items in
    let v4 = c.deref-4.ensures.value in let v5 = c.deref-5.ensures.value in
    let x : Ξ ≡ sub_binds σ S.motive = rw v5 at c.in_ok-binders-2.ensures in let v6 = c.deref-6.ensures.value in
    let g1 = rw (v2, v3) at c.in_ok-arguments.ensures.gives in let g2 = rw v6 at c.in_ok-type_of.ensures in
    let v7 = c.deref-7.ensures.value in let r = c.in_err-joined.field-0.0 in
    given-as E N _ _ judged c.from_residual-in_err-joined.result same
    (passed E N _ judged c.from_residual-in_err-joined.result r c.from_residual-in_err-joined.ensures.1
    (case-branches-refused E N p Γ q f ps (K.indices + 1) P s K.branches.items c.deref.result.now c.len.result l e
    S there a n
    c.in_ok-family.ensures.gives Θ c.in_ok-binders.ensures none d c.in_ok-arguments.field-0 g1 σ fs Ξ x
    c.in_ok-type_of.field-0 g2 r
    (subst (λ xs. Refuses E N
    (branches_ask E p Γ (record { mult = q; id = f; family = S }) σ P S.constructors (map (λ b. b.1)
    (branches xs)) None) r) v7
    (subst (λ xs. Refuses E N
    (branches_ask E p Γ (record { mult = q; id = f; family = S }) (filled xs) P S.constructors (map (λ b. b.1)
    (branches c.deref-7.result.now)) None) r) v4 c.in_err-joined.ensures.gives))))

pub case-returns-in_err-found-clause-gives : goal.case-returns-in_err-found-clause-gives
case-returns-in_err-found-clause-gives g t c =
    let E = env c.args.self.now.globals.now in let N = c.args.self.now.budget in let p = part c.args.sigma in
    let Γ = ctx c.args.scope.now in let K = out-Case c.args.case.now in let ps = K.params.items in let q =
    K.mult in let f = K.family in
    let P = term K.motive in let s = term K.scrutinee in
    let form : case c.args.case.now ≡ case_term q f (terms ps) (K.indices + 1) P (branches K.branches.items) s = search
    (rules, the_lemmas) in
    let same = ap (infer E p Γ) form in let l : c.len.result ≡ length ps =
    c.len.ensures ∙ omega (arith, K.params.ok.0) in
    let e : c.deref.result.now ≡ K.branches.items = c.deref.ensures.value in let F = c.in_ok-family.family.now in
    let S = fam_sig f (family F) in let there = found-family E f (family F) c.in_ok-family.ensures.found in
    let a : length ps ≡ length S.params = sym (length-params F ∙ c.in_ok-family.ensures.params ∙ l) in
    let n : length K.branches.items ≡ length S.constructors =
    ap length (sym e) ∙ c.in_ok-family.ensures.branches ∙ sym (length-sigs f (length (family F).params) 0
    (family F).constructors ∙ length-map F.constructors.items constructor) in
    let Θ = tele c.in_ok-binders.binders.items in let none = c.new-params.result.items in
    let d : none ≡ [] = c.new-params.ensures.items in let v2 = c.deref-2.ensures.value in let v3 =
    c.deref-3.ensures.value in
    let vs = c.arguments.new.values.items in let σ = filled vs in
    let fs = args-filled none vs ps d (rw v3 at c.in_ok-arguments.ensures.values) in let Ξ =
    tele c.in_ok-binders-2.binders.items in
    let v4 = c.deref-4.ensures.value in let v5 = c.deref-5.ensures.value in
    let x : Ξ ≡ sub_binds σ S.motive = rw v5 at c.in_ok-binders-2.ensures in let v6 = c.deref-6.ensures.value in
    let g1 = rw (v2, v3) at c.in_ok-arguments.ensures.gives in let g2 = rw v6 at c.in_ok-type_of.ensures in
    let v7 = c.deref-7.ensures.value in let J = c.in_ok-joined.joined in
    let g3 =
    subst (λ xs. Reaches E N (branches_ask E p Γ (record { mult = q; id = f; family = S }) σ P S.constructors
    (map (λ b. b.1)
    (branches xs)) None) J) v7
    (subst (λ xs. Reaches E N
    (branches_ask E p Γ (record { mult = q; id = f; family = S }) (filled xs) P S.constructors (map (λ b. b.1)
    (branches c.deref-7.result.now)) None) J) v4 c.in_ok-joined.ensures.gives) in
    let r = c.in_err-found.field-0.0 in
    given-as E N _ _ judged c.from_residual-in_err-found.result same
    (passed E N _ judged c.from_residual-in_err-found.result r c.from_residual-in_err-found.ensures.1
    (case-scrutinee-refused E N p Γ q f ps
    (K.indices + 1) P s K.branches.items c.deref.result.now c.len.result l e S there a n c.in_ok-family.ensures.gives Θ
    c.in_ok-binders.ensures none d c.in_ok-arguments.field-0 g1 σ fs Ξ x c.in_ok-type_of.field-0 g2
    c.in_ok-joined.joined g3 r
    (rw c.under.ensures at c.in_err-found.ensures.gives)))

pub case-returns-clause-gives : goal.case-returns-clause-gives
case-returns-clause-gives g t c =
    let E = env c.args.self.now.globals.now in let N = c.args.self.now.budget in let p = part c.args.sigma in
    let Γ = ctx c.args.scope.now in let K = out-Case c.args.case.now in let ps = K.params.items in let q =
    K.mult in let f = K.family in
    let P = term K.motive in let s = term K.scrutinee in
    let form : case c.args.case.now ≡ case_term q f (terms ps) (K.indices + 1) P (branches K.branches.items) s = search
    (rules, the_lemmas) in
    let same = ap (infer E p Γ) form in let l : c.len.result ≡ length ps =
    c.len.ensures ∙ omega (arith, K.params.ok.0) in
    let e : c.deref.result.now ≡ K.branches.items = c.deref.ensures.value in let F = c.in_ok-family.family.now in
    let S = fam_sig f (family F) in let there = found-family E f (family F) c.in_ok-family.ensures.found in
    let a : length ps ≡ length S.params = sym (length-params F ∙ c.in_ok-family.ensures.params ∙ l) in
    let n : length K.branches.items ≡ length S.constructors =
    ap length (sym e) ∙ c.in_ok-family.ensures.branches ∙ sym (length-sigs f (length (family F).params) 0
    (family F).constructors ∙ length-map F.constructors.items constructor) in
    let Θ = tele c.in_ok-binders.binders.items in let none = c.new-params.result.items in
    let d : none ≡ [] = c.new-params.ensures.items in let v2 = c.deref-2.ensures.value in let v3 =
    c.deref-3.ensures.value in
    let vs = c.arguments.new.values.items in let σ = filled vs in
    let fs = args-filled none vs ps d (rw v3 at c.in_ok-arguments.ensures.values) in let Ξ =
    tele c.in_ok-binders-2.binders.items in
    let v4 = c.deref-4.ensures.value in let v5 = c.deref-5.ensures.value in
    let x : Ξ ≡ sub_binds σ S.motive = rw v5 at c.in_ok-binders-2.ensures in let v6 = c.deref-6.ensures.value in
    let g1 = rw (v2, v3) at c.in_ok-arguments.ensures.gives in let g2 = rw v6 at c.in_ok-type_of.ensures in
    let v7 = c.deref-7.ensures.value in let J = c.in_ok-joined.joined in
    let g3 =
    subst (λ xs. Reaches E N (branches_ask E p Γ (record { mult = q; id = f; family = S }) σ P S.constructors
    (map (λ b. b.1)
    (branches xs)) None) J) v7
    (subst (λ xs. Reaches E N
    (branches_ask E p Γ (record { mult = q; id = f; family = S }) (filled xs) P S.constructors (map (λ b. b.1)
    (branches c.deref-7.result.now)) None) J) v4 c.in_ok-joined.ensures.gives) in
    given-as E N _ _ judged c.case_end.result same
    (case-ends E N p Γ q f ps (K.indices + 1) P s K.branches.items c.deref.result.now c.len.result l e S there a n
    c.in_ok-family.ensures.gives Θ c.in_ok-binders.ensures none d c.in_ok-arguments.field-0 g1 σ fs Ξ x
    c.in_ok-type_of.field-0 g2
    c.in_ok-joined.joined g3 (judged c.in_ok-found.found) c.case_end.result
    (rw c.under.ensures at c.in_ok-found.ensures.gives)
    (subst (λ xs. Gives E N (scrutinee_asks Γ (record { mult = q; id = f; family = S }) (filled xs) P s J
    (judged c.in_ok-found.found)) judged c.case_end.result) v4 c.case_end.ensures.gives))

pub branches-loop-place-init : goal.branches-loop-place-init
branches-loop-place-init g t c =
    none-joined _ _ _ _ _ _ _

pub branches-loop-place-preserved : goal.branches-loop-place-preserved
branches-loop-place-preserved g t c =
    let m = c.args.matching.now in let ds = (case_of m).family.constructors in let F = m.family.now in let k =
    c.loop-place.place in
    let x = c.index-branches-place.result in
    let l : length ds ≡ length F.constructors.items = length-sigs m.id (length (family F).params) 0
    (family F).constructors ∙ length-map F.constructors.items constructor in
    let d = entry-at ds k (omega (arith, c.loop-place-test.true, c.requires, l)) in
    let b = bodies-at c.args.branches.now k x c.loop-place-test.true c.index-branches-place.is in
    let bd : term x.body ≡ (branch x).1 = search (rules, the_lemmas) in
    rw (c.with_branch-joined.ensures, bd)
    (branch-joined (part c.args.sigma) (ctx c.args.scope.now) (case_of m) (params_of m)
    (motive_of m) ds (map (λ b. b.1) (branches c.args.branches.now)) k c.loop-place.joined d.entry
    (branch x).1 c.in_ok-used.used d.there b c.in_ok-used.ensures.len c.loop-place.invariant (rw bd at
    (c.in_ok-used.ensures.gives d.entry d.there)))

pub branches-returns-in_err-used-clause-gives : goal.branches-returns-in_err-used-clause-gives
branches-returns-in_err-used-clause-gives g t c =
    let m = c.args.matching.now in let ds = (case_of m).family.constructors in let F = m.family.now in let k =
    c.loop-place.place in
    let x = c.index-branches-place.result in
    let l : length ds ≡ length F.constructors.items = length-sigs m.id (length (family F).params) 0
    (family F).constructors ∙ length-map F.constructors.items constructor in
    let d = entry-at ds k (omega (arith, c.loop-place-test.true, c.requires, l)) in
    let b = bodies-at c.args.branches.now k x c.loop-place-test.true c.index-branches-place.is in
    let bd : term x.body ≡ (branch x).1 = search (rules, the_lemmas) in
    passed _ _ _ _ c.from_residual.result c.in_err-used.field-0.0 c.from_residual.ensures.1
    (branch-refused (part c.args.sigma)
    (ctx c.args.scope.now) (case_of m) (params_of m) (motive_of m) ds (map (λ b. b.1)
    (branches c.args.branches.now)) k c.loop-place.joined d.entry (branch x).1 c.in_err-used.field-0.0 d.there b
    c.loop-place.invariant
    (rw bd at (c.in_err-used.ensures.gives d.entry d.there)))

pub branches-returns-clause-gives : goal.branches-returns-clause-gives
branches-returns-clause-gives g t c =
    let m = c.args.matching.now in let F = m.family.now in
    let l : length (case_of m).family.constructors ≡ length F.constructors.items =
    length-sigs m.id (length (family F).params) 0
    (family F).constructors ∙ length-map F.constructors.items constructor in
    all-joined _ _ _ _ _ (case_of m).family.constructors _ c.loop-place.place c.loop-place.joined (omega
    (arith, c.loop-place-test.false, c.requires, l)) c.loop-place.invariant

pub branches-returns-clause-len : goal.branches-returns-clause-len
branches-returns-clause-len g t c =
    c.loop-place.invariant.counted

pub branch-returns-in_err-found-clause-gives : goal.branch-returns-in_err-found-clause-gives
branch-returns-in_err-found-clause-gives g t c =
    λ d y.
    let E = env c.args.self.now.globals.now in let N = c.args.self.now.budget in let p = part c.args.sigma in
    let Γ = ctx c.args.scope.now in let M = c.args.matching.now in let F = M.family.now in let x =
    c.index-constructor.result.now in
    let i : x ≡ get_or F.constructors.items c.args.place x = c.index-constructor.ensures in
    let n : length (family F).params ≡ length F.params.items = length-params F in
    let D = sig-at M.id F (length (family F).params) c.args.place c.args.place x d c.requires i n refl y in
    let bs = c.in_ok-binders.binders.items in
    let b : tele bs ≡ sub_binds (params_of M) (scale M.mult (tele x.fields.items)) = search rules in
    let Ξ = b ∙ ap (λ d. sub_binds (params_of M) (scale M.mult d.fields)) D in let v = c.deref-2.ensures.value in
    let e = c.in_err-found.field-0.0 in
    passed E N _ _ c.from_residual-in_err-found.result e c.from_residual-in_err-found.ensures.1
    (branch-is-refused E N p Γ (case_of M)
    (params_of M) (motive_of M) d (term c.args.body.now) (tele bs) Ξ e (rw v at c.in_err-found.ensures.gives))

pub branch-returns-in_err-agree-clause-gives : goal.branch-returns-in_err-agree-clause-gives
branch-returns-in_err-agree-clause-gives g t c =
    λ d y.
    let E = env c.args.self.now.globals.now in let N = c.args.self.now.budget in let p = part c.args.sigma in
    let Γ = ctx c.args.scope.now in let M = c.args.matching.now in let F = M.family.now in let x =
    c.index-constructor.result.now in
    let i : x ≡ get_or F.constructors.items c.args.place x = c.index-constructor.ensures in
    let n : length (family F).params ≡ length F.params.items = length-params F in
    let D = sig-at M.id F (length (family F).params) c.args.place c.args.place x d c.requires i n refl y in
    let bs = c.in_ok-binders.binders.items in
    let b : tele bs ≡ sub_binds (params_of M) (scale M.mult (tele x.fields.items)) = search rules in
    let Ξ = b ∙ ap (λ d. sub_binds (params_of M) (scale M.mult d.fields)) D in let v = c.deref-2.ensures.value in
    let e = c.in_err-agree.field-0.0 in
    passed E N _ _ c.from_residual-in_err-agree.result e c.from_residual-in_err-agree.ensures.1
    (branch-differs E N p Γ (case_of M) (params_of M) (motive_of M) d (term c.args.body.now) (tele bs) Ξ
    (judged c.in_ok-found.found)
    (rw v at c.in_ok-found.ensures.gives) (term c.in_ok-wanted.wanted) (c.in_ok-wanted.ensures d y) e
    (rw v at c.in_err-agree.ensures))

pub branch-returns-clause-gives : goal.branch-returns-clause-gives
branch-returns-clause-gives g t c =
    λ d y.
    let E = env c.args.self.now.globals.now in let N = c.args.self.now.budget in let p = part c.args.sigma in
    let Γ = ctx c.args.scope.now in let M = c.args.matching.now in let F = M.family.now in let x =
    c.index-constructor.result.now in
    let i : x ≡ get_or F.constructors.items c.args.place x = c.index-constructor.ensures in
    let n : length (family F).params ≡ length F.params.items = length-params F in
    let D = sig-at M.id F (length (family F).params) c.args.place c.args.place x d c.requires i n refl y in
    let bs = c.in_ok-binders.binders.items in
    let b : tele bs ≡ sub_binds (params_of M) (scale M.mult (tele x.fields.items)) = search rules in
    let Ξ = b ∙ ap (λ d. sub_binds (params_of M) (scale M.mult d.fields)) D in let v = c.deref-2.ensures.value in
    let w = c.deref-3.ensures.value in
    branch-ends E N p Γ (case_of M) (params_of M) (motive_of M) d (term c.args.body.now) (tele bs) Ξ
    (judged c.in_ok-found.found)
    (rw v at c.in_ok-found.ensures.gives) (term c.in_ok-wanted.wanted) (c.in_ok-wanted.ensures d y) c.branch_end.result
    (rw v at c.in_ok-agree.ensures) (rw w at c.branch_end.ensures.gives)

pub delete-returns-then-not-usable-clause-gives : goal.delete-returns-then-not-usable-clause-gives
delete-returns-then-not-usable-clause-gives g t c =
    let d = out-Delete c.args.delete.now in
    let form : delete c.args.delete.now ≡ Delete d.mult (term d.ty) (term d.point) (term d.motive) (term d.branch)
    (term d.scrutinee) = search (rules, the_lemmas) in
    rw form (fails_here _ (unmet _ _ (search rules)))

pub delete-returns-in_err-has-clause-gives : goal.delete-returns-in_err-has-clause-gives
delete-returns-in_err-has-clause-gives g t c =
    let d = out-Delete c.args.delete.now in
    let form : delete c.args.delete.now ≡ Delete d.mult (term d.ty) (term d.point) (term d.motive) (term d.branch)
    (term d.scrutinee) = search (rules, the_lemmas) in
    rw form (passed _ _ _ _ c.from_residual.result c.in_err-has.field-0.0 c.from_residual.ensures.1
    (later _ _ _ _ _ (holds _ _
    (search rules)) (here _ _ _ _ _ (rw (sort-seen 0) at c.in_err-has.ensures.gives))))

pub delete-returns-in_err-has-2-clause-gives : goal.delete-returns-in_err-has-2-clause-gives
delete-returns-in_err-has-2-clause-gives g t c =
    let d = out-Delete c.args.delete.now in
    let form : delete c.args.delete.now ≡ Delete d.mult (term d.ty) (term d.point) (term d.motive) (term d.branch)
    (term d.scrutinee) = search (rules, the_lemmas) in
    rw form (passed _ _ _ _ c.from_residual-in_err-has-2.result c.in_err-has-2.field-0.0
    c.from_residual-in_err-has-2.ensures.1
    (later _ _ _ _ _ (holds _ _ (search rules)) (later _ _ _ _ _ (rw (sort-seen 0) at c.in_ok-has.ensures.gives)
    (here _ _ _ _ _ c.in_err-has-2.ensures.gives))))

pub delete-returns-in_err-type_of-clause-gives : goal.delete-returns-in_err-type_of-clause-gives
delete-returns-in_err-type_of-clause-gives g t c =
    let d = out-Delete c.args.delete.now in
    let form : delete c.args.delete.now ≡ Delete d.mult (term d.ty) (term d.point) (term d.motive) (term d.branch)
    (term d.scrutinee) = search (rules, the_lemmas) in
    rw form (passed _ _ _ _ c.from_residual-in_err-type_of.result c.in_err-type_of.field-0.0
    c.from_residual-in_err-type_of.ensures.1
    (later _ _ _ _ _ (holds _ _ (search rules)) (later _ _ _ _ _ (rw (sort-seen 0) at c.in_ok-has.ensures.gives)
    (later _ _ _ _ _ c.in_ok-has-2.ensures.gives
    (here _ _ _ _ _ (rw c.in_ok-equality.ensures at c.in_err-type_of.ensures))))))

pub delete-returns-in_err-branch-clause-gives : goal.delete-returns-in_err-branch-clause-gives
delete-returns-in_err-branch-clause-gives g t c =
    let d = out-Delete c.args.delete.now in
    let form : delete c.args.delete.now ≡ Delete d.mult (term d.ty) (term d.point) (term d.motive) (term d.branch)
    (term d.scrutinee) = search (rules, the_lemmas) in
    rw form (passed _ _ _ _ c.from_residual-in_err-branch.result c.in_err-branch.field-0.0
    c.from_residual-in_err-branch.ensures.1
    (later _ _ _ _ _ (holds _ _ (search rules)) (later _ _ _ _ _ (rw (sort-seen 0) at c.in_ok-has.ensures.gives)
    (later _ _ _ _ _ c.in_ok-has-2.ensures.gives
    (later _ _ _ _ _ (rw c.in_ok-equality.ensures at c.in_ok-type_of.ensures) (here _ _ _ _ _
    (rw c.in_ok-wanted.ensures at c.in_err-branch.ensures.gives)))))))

pub delete-returns-in_err-used-clause-gives : goal.delete-returns-in_err-used-clause-gives
delete-returns-in_err-used-clause-gives g t c =
    let d = out-Delete c.args.delete.now in
    let form : delete c.args.delete.now ≡ Delete d.mult (term d.ty) (term d.point) (term d.motive) (term d.branch)
    (term d.scrutinee) = search (rules, the_lemmas) in
    rw form (passed _ _ _ _ c.from_residual-in_err-used.result c.in_err-used.field-0.0
    c.from_residual-in_err-used.ensures.1
    (later _ _ _ _ _ (holds _ _ (search rules)) (later _ _ _ _ _ (rw (sort-seen 0) at c.in_ok-has.ensures.gives)
    (later _ _ _ _ _ c.in_ok-has-2.ensures.gives
    (later _ _ _ _ _ (rw c.in_ok-equality.ensures at c.in_ok-type_of.ensures) (later _ _ _ _ _
    (rw c.in_ok-wanted.ensures at c.in_ok-branch.ensures.gives) (here _ _ _ _ _ (rw
    (c.under-inside.ensures, c.in_ok-equality.ensures) at c.in_err-used.ensures.gives))))))))

pub delete-returns-clause-gives : goal.delete-returns-clause-gives
delete-returns-clause-gives g t c =
    let d = out-Delete c.args.delete.now in
    let form : delete c.args.delete.now ≡ Delete d.mult (term d.ty) (term d.point) (term d.motive) (term d.branch)
    (term d.scrutinee) = search (rules, the_lemmas) in
    rw form (finished _ judged c.delete_end.result
    (on _ (holds _ _ (search rules)) (on _ (rw (sort-seen 0) at c.in_ok-has.ensures.gives)
    (on _ c.in_ok-has-2.ensures.gives (on _ (rw c.in_ok-equality.ensures at c.in_ok-type_of.ensures) (on _
    (rw c.in_ok-wanted.ensures at c.in_ok-branch.ensures.gives) (on _ (rw
    (c.under-inside.ensures, c.in_ok-equality.ensures) at c.in_ok-used.ensures.gives) on_done))))))
    c.delete_end.ensures.gives)

pub delete-delete_end-requires : goal.delete-delete_end-requires
delete-delete_end-requires g t c =
    c.in_ok-branch.ensures.len ∙ sym c.in_ok-used.ensures.len

-- ---- what calls within the recursion ask
pub case-arguments-requires : goal.case-arguments-requires
case-arguments-requires g t c =
    let K = out-Case c.args.case.now in let F = c.in_ok-family.family.now in
    let l : c.len.result ≡ length K.params.items = c.len.ensures ∙ omega (arith, K.params.ok.0) in
    let counted : length c.deref-2.result.now ≡ length c.deref-3.result.now =
    ap length c.deref-2.ensures.value ∙ sym (length-tele c.in_ok-binders.binders.items) ∙
    ap length c.in_ok-binders.ensures ∙ length-scale 𝟘
    (family F).params
    ∙ length-params F ∙ c.in_ok-family.ensures.params ∙ l ∙ sym (ap length c.deref-3.ensures.value) in
    λ κs within. (search (rules, the_lemmas), (within, counted))

pub case-branches-requires : goal.case-branches-requires
case-branches-requires g t c =
    let counted : length c.deref-7.result.now ≡ length c.in_ok-family.family.now.constructors.items =
    ap length (c.deref-7.ensures.value ∙ sym c.deref.ensures.value) ∙ c.in_ok-family.ensures.branches in
    λ κs within. (search (rules, the_lemmas), (within, counted))

pub branch-branch_end-requires : goal.branch-branch_end-requires
branch-branch_end-requires g t c =
    let found : length c.in_ok-found.found.uses ≡ length (ext (ctx c.args.scope.now)
    (tele c.deref-2.result.now)) = c.in_ok-found.ensures.len in
    let depth = several-depth (ctx c.args.scope.now) c.deref-2.result.now in
    let same : length c.deref-3.result.now ≡ length c.deref-2.result.now = ap length
    (c.deref-3.ensures.value ∙ sym c.deref-2.ensures.value) in
    omega (arith, found, depth, same)

pub branch-returns-clause-len : goal.branch-returns-clause-len
branch-returns-clause-len g t c =
    let found : length c.in_ok-found.found.uses ≡ length (ext (ctx c.args.scope.now)
    (tele c.deref-2.result.now)) = c.in_ok-found.ensures.len in
    let depth = several-depth (ctx c.args.scope.now) c.deref-2.result.now in
    let same : length c.deref-3.result.now ≡ length c.deref-2.result.now = ap length
    (c.deref-3.ensures.value ∙ sym c.deref-2.ensures.value) in
    if-ok (λ u. length u + length c.deref-3.result.now ≡ length c.in_ok-found.found.uses) (λ u. length u ≡ length
    (ctx c.args.scope.now)) c.branch_end.result
    (λ u h. omega (arith, h, found, depth, same)) c.branch_end.ensures.len
