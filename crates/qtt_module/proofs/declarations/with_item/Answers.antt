use Rattle.std.proofs.Common.{◌≡◌, ◌∙◌, ◌++◌, ◌∷◌, [], IfOk, rules, ap, sym, subst}
use Rattle.qtt_syntax.specs.View.{item_of}
use Rattle.qtt_split.specs.Calls.{clause_of}
use Rattle.qtt_module.specs.declared.declaration.Declaration.TheVariants as variant
use Rattle.qtt_module.specs.Declarations.{declarations}
use Rattle.qtt_module.specs.Declaring.{declared, all_declared, after_clause}
use Rattle.qtt_module.proofs.Declaring.{all-more, clause-behind, family-behind, signature-behind}
use Rattle.qtt_module.proofs.declarations.with_item.Goals as goal

pub returns-in_ok-push-in-Family : goal.returns-in_ok-push-in-Family
returns-in_ok-push-in-Family c is e =
    let ds = c.args.before.items in
    let d = variant.Family c.in-Family.family in
    let now : c.push.new.self.items ≡ ds ++ d ∷ [] = search rules in
    ap all_declared now ∙ all-more ds d ∙ ap (λ xs. xs ++ declared d) e
    ∙ sym (family-behind is c.in-Family.family)
    ∙ ap (λ i. declarations (is ++ item_of i ∷ [])) (sym c.in-Family.is)

pub returns-in_ok-push-in-Signature : goal.returns-in_ok-push-in-Signature
returns-in_ok-push-in-Signature c is e =
    let ds = c.args.before.items in
    let d = variant.Signature c.in-Signature.signature in
    let now : c.push-in-Signature.new.self.items ≡ ds ++ d ∷ [] = search rules in
    ap all_declared now ∙ all-more ds d ∙ ap (λ xs. xs ++ declared d) e
    ∙ sym (signature-behind is c.in-Signature.signature)
    ∙ ap (λ i. declarations (is ++ item_of i ∷ [])) (sym c.in-Signature.is)

pub returns-in-Clause : goal.returns-in-Clause
returns-in-Clause c is e =
    let x = c.in-Clause.clause in
    let so : after_clause (all_declared c.args.before.items) x.name (clause_of x)
    ≡ declarations (is ++ item_of c.args.item ∷ []) =
    ap (λ xs. after_clause xs x.name (clause_of x)) e ∙ sym (clause-behind is x)
    ∙ ap (λ i. declarations (is ++ item_of i ∷ [])) (sym c.in-Clause.is) in
    subst (λ ys. IfOk c.with_clause.result (λ more. all_declared more.items ≡ ys)) so c.with_clause.ensures
