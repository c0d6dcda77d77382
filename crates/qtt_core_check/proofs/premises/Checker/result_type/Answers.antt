use Rattle.std.proofs.Common.{◌≡◌, ◌++◌, ◌∙◌, [], ◌∷◌, ap, rules}
use Rattle.std.proofs.lemmas.List.{map-append}
use Rattle.qtt_term.specs.Term.{var}
use Rattle.qtt_term.specs.Substitution.{sub, push}
use Rattle.qtt_term.specs.Shift.{values_in}
use Rattle.qtt_term.specs.View.{term, terms}
use Rattle.qtt_core_check.specs.Cases.{motive_of}
use Rattle.qtt_term.proofs.Binders.{side-joined}
use Rattle.qtt_core_check.proofs.premises.Checker.result_type.Goals as goal

pub returns : goal.returns
returns g c =
    let P = motive_of c.args.matching.now in
    let is = c.args.indices.items in
    let vs = c.push.new.self.items in
    let s = term c.args.scrutinee.now in
    let f : term c.in_ok-subst.field-0 ≡ sub (values_in (terms vs)) P = search rules in
    let e : vs ≡ is ++ c.in_ok-copy.field-0 ∷ [] = search rules in
    let t : term c.in_ok-copy.field-0 ≡ s = search rules in
    f ∙ ap (λ ts. sub (values_in ts) P)
    (ap terms e ∙ map-append term is (c.in_ok-copy.field-0 ∷ []) ∙ ap (λ t. terms is ++ t ∷ []) t)
    ∙ ap (λ ts. sub (push ts var) P) (side-joined (terms is) (s ∷ []))
