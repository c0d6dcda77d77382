use Rattle.std.proofs.Common.{◌≡◌, ◌∙◌, ap, rules}
use Rattle.qtt_term.specs.declared.term.Term.{the_lemmas}
use Rattle.qtt_term.specs.declared.term.Term.TheVariants as form
use Rattle.qtt_term.specs.Term.{Fam, ◌+++◌}
use Rattle.qtt_term.specs.View.{term}
use Rattle.qtt_unify.specs.View.{all_terms}
use Rattle.qtt_split.proofs.Waying.{all-joined}
use Rattle.qtt_split.proofs.frames.scrutinee_type.Goals as goal

pub returns : goal.returns
returns c =
    let f = c.args.aim.now.family in
    let ps = c.in_ok-params.params.items in
    let is = c.args.indices.items in
    let js = c.in_ok-joined.field-0.items in
    let seen : term (form.Fam f c.in_ok-joined.field-0) ≡ Fam f (all_terms js) = search (rules, the_lemmas) in
    seen ∙
    ap (λ xs. Fam f (all_terms xs)) c.in_ok-joined.ensures ∙
    ap (Fam f) (all-joined ps is) ∙
    ap (λ ts. Fam f (ts +++ all_terms is)) c.in_ok-params.ensures
