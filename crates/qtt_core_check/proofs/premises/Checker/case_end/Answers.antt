use Rattle.std.proofs.Common.{◌≡◌, ◌+◌, ◌∙◌, length, drop, sym, ap, subst, rules}
use mathlib.Core.Path.{ap₂}
use Rattle.qtt_usage.specs.Usage.{usage_sum, usage_scale}
use Rattle.qtt_term.specs.declared.rule.Rule.TheVariants as rule
use Rattle.qtt_term.specs.Globals.{env}
use Rattle.qtt_term.specs.Term.{var, ε, ◌▸◌, skip, ◌+++◌}
use Rattle.qtt_term.specs.Substitution.{sub, push}
use Rattle.qtt_term.specs.View.{term, terms, side_by_side}
use Rattle.qtt_term.specs.Infer.{at, inferred, agree, family_of, family_wants, joined_use}
use Rattle.qtt_core_check.specs.Cases.{case_of, params_of, motive_of}
use Rattle.qtt_core_check.specs.Seen.{ctx, judged, Reaches, Refuses}
use Rattle.qtt_core_check.proofs.Within.{on, on_done, here, later, passed, reached}
use Rattle.qtt_core_check.proofs.Matches.{skip-side}
use Rattle.qtt_core_check.proofs.Places.{length-params, wants-number}
use Rattle.qtt_core_check.proofs.premises.Checker.case_end.Goals as goal

pub returns-in_err-args-clause-gives : goal.returns-in_err-args-clause-gives
returns-in_err-args-clause-gives g c =
    let m = c.args.matching.now in
    let F = m.family.now in
    let e = c.in_err-args.field-0.0 in
    let whole : c.in_ok-whole.whole ≡ length F.params.items + length F.indices.items = search rules in
    let k : c.in_ok-whole.whole ≡ length (family_wants (case_of m).family) = whole ∙ sym (wants-number m.id F) in
    let h = subst (λ n. Refuses (env c.args.self.now.globals.now) c.args.self.now.budget
    (family_of (ctx c.args.scope.now) m.id n (term c.args.found.ty) (at rule.Case 6)) e) k
    c.in_err-args.ensures.gives in
    passed _ _ _ judged c.from_residual-in_err-args.result e c.from_residual-in_err-args.ensures.1 (here _ _ _ _ e h)

pub returns-in_err-agree-clause-gives : goal.returns-in_err-agree-clause-gives
returns-in_err-agree-clause-gives g c =
    let m = c.args.matching.now in
    let F = m.family.now in
    let S = (case_of m).family in
    let e = c.in_err-agree.field-0.0 in
    let ts = c.in_ok-args.args.items in
    let whole : c.in_ok-whole.whole ≡ length F.params.items + length F.indices.items = search rules in
    let k : c.in_ok-whole.whole ≡ length (family_wants S) = whole ∙ sym (wants-number m.id F) in
    let h = subst
    (λ n. Reaches (env c.args.self.now.globals.now) c.args.self.now.budget
    (family_of (ctx c.args.scope.now) m.id n (term c.args.found.ty) (at rule.Case 6))
    (side_by_side (terms ts))) k
    c.in_ok-args.ensures.gives in
    let n : c.len-count.result ≡ length F.params.items = search rules in
    let d : terms c.in_ok-indices.indices.items ≡ terms (drop c.len-count.result ts) =
    c.in_ok-indices.ensures ∙
    ap terms (c.split_at.ensures.back ∙ ap (drop c.len-count.result) c.deref.ensures.value) in
    let i : side_by_side (terms c.in_ok-indices.indices.items) ≡ skip (length S.params) (side_by_side (terms ts)) =
    ap side_by_side d ∙ sym (skip-side c.len-count.result ts) ∙ ap (λ k. skip k (side_by_side (terms ts)))
    (n ∙ sym (length-params F)) in
    let t : term c.in_ok-wanted.wanted ≡ sub
    (push (side_by_side (terms c.in_ok-indices.indices.items)) (params_of m)) S.self = search rules in
    let w : term c.in_ok-wanted.wanted ≡ sub
    (push (skip (length S.params) (side_by_side (terms ts))) (params_of m)) S.self =
    t ∙ ap (λ xs. sub (push xs (params_of m)) S.self) i in
    let a = subst (λ A. Refuses (env c.args.self.now.globals.now) c.args.self.now.budget
    (agree (ctx c.args.scope.now) (term c.args.found.ty) A (at rule.Case 6)) e) w c.in_err-agree.ensures in
    passed _ _ _ judged c.from_residual-in_err-agree.result e c.from_residual-in_err-agree.ensures.1
    (later _ _ _ _ e h (here _ _ _ _ e a))

pub returns-clause-gives : goal.returns-clause-gives
returns-clause-gives g c =
    let m = c.args.matching.now in
    let F = m.family.now in
    let S = (case_of m).family in
    let P = motive_of m in
    let s = term c.args.scrutinee.now in
    let ts = c.in_ok-args.args.items in
    let whole : c.in_ok-whole.whole ≡ length F.params.items + length F.indices.items = search rules in
    let k : c.in_ok-whole.whole ≡ length (family_wants S) = whole ∙ sym (wants-number m.id F) in
    let h = subst
    (λ n. Reaches (env c.args.self.now.globals.now) c.args.self.now.budget
    (family_of (ctx c.args.scope.now) m.id n (term c.args.found.ty) (at rule.Case 6))
    (side_by_side (terms ts))) k
    c.in_ok-args.ensures.gives in
    let n : c.len-count.result ≡ length F.params.items = search rules in
    let d : terms c.in_ok-indices.indices.items ≡ terms (drop c.len-count.result ts) =
    c.in_ok-indices.ensures ∙
    ap terms (c.split_at.ensures.back ∙ ap (drop c.len-count.result) c.deref.ensures.value) in
    let i : side_by_side (terms c.in_ok-indices.indices.items) ≡ skip (length S.params) (side_by_side (terms ts)) =
    ap side_by_side d ∙ sym (skip-side c.len-count.result ts) ∙ ap (λ k. skip k (side_by_side (terms ts)))
    (n ∙ sym (length-params F)) in
    let t : term c.in_ok-wanted.wanted ≡ sub
    (push (side_by_side (terms c.in_ok-indices.indices.items)) (params_of m)) S.self = search rules in
    let w : term c.in_ok-wanted.wanted ≡ sub
    (push (skip (length S.params) (side_by_side (terms ts))) (params_of m)) S.self =
    t ∙ ap (λ xs. sub (push xs (params_of m)) S.self) i in
    let a = subst (λ A. Reaches (env c.args.self.now.globals.now) c.args.self.now.budget
    (agree (ctx c.args.scope.now) (term c.args.found.ty) A (at rule.Case 6)) tt) w c.in_ok-agree.ensures in
    let r : term c.in_ok-result_type.field-0 ≡ sub
    (push (side_by_side (terms c.in_ok-indices.indices.items) +++ (s ▸ ε)) var) P = search rules in
    let u = c.match_uses.ensures.uses in
    reached (on _ h (on _ a on_done))
    (ap₂ inferred (sym (r ∙ ap (λ xs. sub (push (xs +++ (s ▸ ε)) var) P) i))
    (sym (u ∙ ap (λ n. usage_sum (usage_scale m.mult c.args.found.uses) (joined_use n c.args.joined))
    c.requires.found)))
