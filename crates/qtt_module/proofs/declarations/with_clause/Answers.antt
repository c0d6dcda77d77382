use Rattle.std.proofs.Common.{◌≡◌, ◌∙◌, ◌++◌, ◌∷◌, [], true, false, rules, ap, sym, refl}
use Rattle.qtt_split.specs.Calls.{clause_of}
use Rattle.qtt_module.specs.declared.declaration.Declaration.TheVariants as variant
use Rattle.qtt_module.specs.Declaring.{declared, all_declared, after_clause, grouped, is_of_group}
use Rattle.qtt_module.proofs.Declaring.{all-more, two-more, one-more, new-group, behind-plain}
use Rattle.qtt_module.proofs.declarations.with_clause.Goals as goal

pub returns-then-is_of_group : goal.returns-then-is_of_group
returns-then-is_of_group c =
    let ds = c.pop.new.self.items in
    let g = c.in-Some-Group.group in
    let x = c.args.clause in
    let was : c.args.before.items ≡ ds ++ variant.Group g ∷ [] = search rules in
    let larger : c.push.new.self.items ≡ g.clauses.items ++ x ∷ [] = search rules in
    let pushed : all_declared c.push-then-is_of_group.new.self.items ≡ all_declared ds ++ grouped c.push.new.self.items
    = search (rules, all-more) in
    let test : is_of_group g.clauses.items x ≡ true =
    ap (λ cs. is_of_group cs x) (sym c.deref.ensures.value) ∙ sym c.is_of_group.ensures ∙ c.if-is_of_group.true in
    pushed ∙ ap (λ cs. all_declared ds ++ grouped cs) larger ∙ one-more ds g.clauses.items x test
    ∙ ap (λ xs. after_clause xs x.name (clause_of x)) (sym (ap all_declared was ∙ all-more ds (variant.Group g)))

pub returns-in_ok-push-in-Some-Group-4 : goal.returns-in_ok-push-in-Some-Group-4
returns-in_ok-push-in-Some-Group-4 c =
    let ds = c.pop.new.self.items in
    let g = c.in-Some-Group.group in
    let x = c.args.clause in
    let was : c.args.before.items ≡ ds ++ variant.Group g ∷ [] = search rules in
    let made : declared c.in_ok-group_of-in-Some-Group.field-0 ≡ grouped (x ∷ []) = search rules in
    let pushed : c.push-in-Some-Group-2.new.self.items
    ≡ (ds ++ variant.Group g ∷ []) ++ c.in_ok-group_of-in-Some-Group.field-0 ∷ [] = search rules in
    let test : is_of_group g.clauses.items x ≡ false =
    ap (λ cs. is_of_group cs x) (sym c.deref.ensures.value) ∙ sym c.is_of_group.ensures ∙ c.if-is_of_group.false in
    ap all_declared pushed ∙ two-more ds (variant.Group g) c.in_ok-group_of-in-Some-Group.field-0
    ∙ ap (λ xs. (all_declared ds ++ grouped g.clauses.items) ++ xs) made
    ∙ new-group ds g.clauses.items x g.some test
    ∙ ap (λ xs. after_clause xs x.name (clause_of x)) (sym (ap all_declared was ∙ all-more ds (variant.Group g)))

pub returns-in_ok-push-in-Some-Family-2 : goal.returns-in_ok-push-in-Some-Family-2
returns-in_ok-push-in-Some-Family-2 c =
    let ds = c.pop.new.self.items in
    let d = variant.Family c.in-Some-Family.family in
    let x = c.args.clause in
    let was : c.args.before.items ≡ ds ++ d ∷ [] = search rules in
    let made : declared c.in_ok-group_of-in-Some-Family.field-0 ≡ grouped (x ∷ []) = search rules in
    let pushed : c.push-in-Some-Family-2.new.self.items
    ≡ (ds ++ d ∷ []) ++ c.in_ok-group_of-in-Some-Family.field-0 ∷ [] = search rules in
    ap all_declared pushed ∙ two-more ds d c.in_ok-group_of-in-Some-Family.field-0
    ∙ ap (λ xs. (all_declared ds ++ declared d) ++ xs) made ∙ behind-plain ds d _ x refl (λ e. refl)
    ∙ ap (λ xs. after_clause xs x.name (clause_of x)) (sym (ap all_declared was ∙ all-more ds d))

pub returns-in_ok-push-in-Some-Signature-2 : goal.returns-in_ok-push-in-Some-Signature-2
returns-in_ok-push-in-Some-Signature-2 c =
    let ds = c.pop.new.self.items in
    let d = variant.Signature c.in-Some-Signature.signature in
    let x = c.args.clause in
    let was : c.args.before.items ≡ ds ++ d ∷ [] = search rules in
    let made : declared c.in_ok-group_of-in-Some-Signature.field-0 ≡ grouped (x ∷ []) = search rules in
    let pushed : c.push-in-Some-Signature-2.new.self.items
    ≡ (ds ++ d ∷ []) ++ c.in_ok-group_of-in-Some-Signature.field-0 ∷ [] = search rules in
    ap all_declared pushed ∙ two-more ds d c.in_ok-group_of-in-Some-Signature.field-0
    ∙ ap (λ xs. (all_declared ds ++ declared d) ++ xs) made ∙ behind-plain ds d _ x refl (λ e. refl)
    ∙ ap (λ xs. after_clause xs x.name (clause_of x)) (sym (ap all_declared was ∙ all-more ds d))
