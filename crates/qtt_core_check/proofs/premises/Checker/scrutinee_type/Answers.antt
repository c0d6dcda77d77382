use Rattle.std.proofs.Common.{◌≡◌, ◌++◌, ◌∙◌, ap, rules}
use mathlib.Core.Path.{ap₂}
use Rattle.std.proofs.lemmas.List.{map-append}
use Rattle.qtt_term.specs.Substitution.{sub}
use Rattle.qtt_term.specs.Signature.{self_of}
use Rattle.qtt_term.specs.Items.{family}
use Rattle.qtt_term.specs.View.{term, terms}
use Rattle.qtt_term.specs.Telescopes.{filled}
use Rattle.qtt_core_check.proofs.ArgumentLists.{filled-more}
use Rattle.qtt_core_check.proofs.premises.Checker.scrutinee_type.Goals as goal

pub returns : goal.returns
returns g c =
    let m = c.args.matching.now in
    let vs = c.in_ok-values.values.items in
    let ps = c.in_ok-params.params.items in
    let is = c.in_ok-copy_all.field-0.items in
    let f : term c.in_ok-fill.field-0 ≡ sub (filled vs) (term c.in_ok-family.family) = search rules in
    let s : term c.in_ok-family.family ≡ self_of m.id (family m.family.now) = search rules in
    let j : vs ≡ ps ++ is = search rules in
    let a : terms ps ≡ terms m.params.now = search rules in
    let b : terms is ≡ terms c.args.indices.now = search rules in
    f ∙ ap₂ sub (filled-more m.params.now vs c.args.indices.now
    (ap terms j ∙ map-append term ps is ∙ ap₂ (λ a b. a ++ b) a b)) s
