use Rattle.std.proofs.Common.{◌≡◌, Some, None, refl, sym, ◌∙◌, arith}
use Rattle.std.proofs.lemmas.Grind.{common_steps}
use Rattle.qtt_term.specs.Items.{family}
use Rattle.qtt_term.proofs.Options.{none≢some}
use Rattle.qtt_positive.specs.FirstBad.{first_bad}
use Rattle.qtt_positive.proofs.Decided.{none_bad, first_in_words}
use Rattle.qtt_positive.proofs.fields.positive.Goals as goal

pub returns-in-Some-clause-ok : goal.returns-in-Some-clause-ok
returns-in-Some-clause-ok c =
    let F = c.args.family.now in
    let found : first_bad F.id (family F) ≡ Some (c.loop-constructor.constructor, c.in-Some.field) =
    grind (arith, common_steps) in
    (λ e. absurd (cc e), λ p. absurd (none≢some (sym ((none_bad F.id (family F)).1 p) ∙ found)))

pub returns-in-Some-clause-words : goal.returns-in-Some-clause-words
returns-in-Some-clause-words c =
    let F = c.args.family.now in
    let found : first_bad F.id (family F) ≡ Some (c.loop-constructor.constructor, c.in-Some.field) =
    grind (arith, common_steps) in
    first_in_words F.id (family F) c.loop-constructor.constructor c.in-Some.field found

pub returns-clause-ok : goal.returns-clause-ok
returns-clause-ok c =
    let F = c.args.family.now in
    let none : first_bad F.id (family F) ≡ None = grind (arith, common_steps) in
    (λ e. (none_bad F.id (family F)).0 none, λ p. refl)
