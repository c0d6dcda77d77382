use Rattle.std.proofs.Common.{◌≡◌, [], length, drop, ap, rules, subst, sym}
use Rattle.qtt_syntax.specs.declared.expr.Expr.{the_lemmas}
use Rattle.qtt_syntax.specs.View.{tree_of}
use Rattle.qtt_term.specs.Entries.{entries, env}
use Rattle.qtt_term.specs.Scope.{scope_of, with_index}
use Rattle.qtt_term.specs.View.{term, terms}
use Rattle.qtt_bidi.specs.Answers.{Reaches, Refuses, Gives}
use Rattle.qtt_bidi.proofs.Within.{on_done, here, passed, reached}
use Rattle.qtt_module.specs.declared.binders.Indices.{Indices}
use Rattle.qtt_module.specs.Families.{indices, type_of, pieces}
use Rattle.qtt_module.proofs.Appended.{none-behind, all-kept, terms-long, one-term-more, list-given, list-kept}
use Rattle.qtt_module.proofs.declarer.Declarer.+indices.Goals as goal

pub returns-in_default-clause-kept : goal.returns-in_default-clause-kept
returns-in_default-clause-kept g t c =
    let ts = c.args.before.types.items in
    all-kept (length ts) (terms ts) (terms-long ts)

pub returns-in_err-ty-in-Pi-clause-gives : goal.returns-in_err-ty-in-Pi-clause-gives
returns-in_err-ty-in-Pi-clause-gives g t c =
    let G = entries c.args.self.now.elaborator.globals.now in
    let n = c.args.self.now.elaborator.budget in
    let x = c.args.name.now in
    let S = scope_of c.args.before.context in
    let e = c.in_err-ty-in-Pi.field-0.0 in
    let d : c.deref.result.now ≡ c.in-Pi.domain.value = search rules in
    passed _ _ _ _ c.from_residual.result e c.from_residual.ensures.1
    (subst (λ t. Refuses (env G) n (indices G x S (pieces t)) e) (sym (ap tree_of c.in-Pi.is))
    (here _ _ _ _ _ (rw d at c.in_err-ty-in-Pi.ensures)))

pub returns-in_ok-context-in-Pi-clause-gives : goal.returns-in_ok-context-in-Pi-clause-gives
returns-in_ok-context-in-Pi-clause-gives g t c =
    let G = entries c.args.self.now.elaborator.globals.now in
    let n = c.args.self.now.elaborator.budget in
    let x = c.args.name.now in
    let ts = c.args.before.types.items in
    let S = scope_of c.args.before.context in
    let T = c.in_ok-ty-in-Pi.ty in
    let us = c.push.new.self.items in
    let one = one-term-more ts us T c.in_ok-push-in-Pi.ensures.items in
    let r = c.indices.result in
    let d : c.deref.result.now ≡ c.in-Pi.domain.value = search rules in
    let b : c.deref-in-Pi.result.now ≡ c.in-Pi.codomain.value = search rules in
    let rest = pieces (tree_of c.in-Pi.codomain.value) in
    let inner : Gives (env G) n (indices G x (with_index S) rest) (λ i. drop (length us) (terms i.types.items)) r =
    subst (λ U. Gives (env G) n (indices G x U rest) (λ i. drop (length us) (terms i.types.items)) r)
    c.in_ok-context-in-Pi.ensures.scope
    (subst (λ t. Gives (env G) n (indices G x (scope_of c.in_ok-context-in-Pi.context) (pieces (tree_of t)))
    (λ i. drop (length us) (terms i.types.items)) r) b c.indices.ensures.gives) in
    subst (λ t. Gives (env G) n (indices G x S (pieces t)) (λ i. drop (length ts) (terms i.types.items)) r)
    (sym (ap tree_of c.in-Pi.is))
    (list-given (λ (i : Indices). terms i.types.items) (terms ts) (terms us) (term T) one (length ts) (length us)
    (terms-long ts) (terms-long us) (env G) n (type_of G S x 3 (tree_of c.in-Pi.domain.value))
    (λ T. indices G x (with_index S) rest) r (rw d at c.in_ok-ty-in-Pi.ensures) inner c.indices.ensures.kept)

pub returns-in_ok-context-in-Pi-clause-kept : goal.returns-in_ok-context-in-Pi-clause-kept
returns-in_ok-context-in-Pi-clause-kept g t c =
    let ts = c.args.before.types.items in
    let us = c.push.new.self.items in
    list-kept (λ (i : Indices). terms i.types.items) (terms ts) (terms us) (term c.in_ok-ty-in-Pi.ty)
    (one-term-more ts us c.in_ok-ty-in-Pi.ty c.in_ok-push-in-Pi.ensures.items) (length ts) (length us)
    (terms-long ts) (terms-long us) c.indices.result c.indices.ensures.kept

pub returns-in_default-clause-gives : goal.returns-in_default-clause-gives
returns-in_default-clause-gives g t c =
    let G = entries c.args.self.now.elaborator.globals.now in
    let n = c.args.self.now.elaborator.budget in
    let x = c.args.name.now in
    let ts = c.args.before.types.items in
    let S = scope_of c.args.before.context in
    let none : pieces (tree_of c.args.chain.now) ≡ [] = search (rules, the_lemmas) in
    subst (λ ps. Reaches (env G) n (indices G x S ps) (drop (length ts) (terms ts))) (sym none)
    (reached on_done (sym (none-behind (length ts) (terms ts) (terms-long ts))))
