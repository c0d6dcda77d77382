use Rattle.std.proofs.Common.{◌≡◌, ◌∙◌, ◌++◌, ◌∷◌, [], rules, ap, sym}
use Rattle.qtt_term.specs.Term.{◌+++◌, ◌▸◌}
use Rattle.qtt_term.specs.View.{term}
use Rattle.qtt_unify.specs.View.{all_terms}
use Rattle.qtt_module.proofs.Ordering.{terms-append, behind-one}
use Rattle.qtt_module.proofs.bodies.with_core.Goals as goal

pub returns-in_ok-push-in-Some : goal.returns-in_ok-push-in-Some
returns-in_ok-push-in-Some c ts =
    let us = c.args.before.items in
    let t = c.in_ok-copy-in-Some.field-0 in
    let now : c.push.new.self.items ≡ us ++ t ∷ [] = search rules in
    ap (λ xs. all_terms xs +++ ts) now ∙ ap (λ xs. xs +++ ts) (terms-append us t)
    ∙ behind-one (all_terms us) ts (term t) ∙ ap (λ s. all_terms us +++ (s ▸ ts)) c.in_ok-copy-in-Some.ensures
    ∙ ap (λ xs. all_terms us +++ xs) (sym (c.in-Some.ensures ts))
