use Rattle.std.proofs.Common.{◌≡◌, ◌∙◌, length, get_or, ap, rules}
use Rattle.qtt_term.specs.Signature.{con_sig}
use Rattle.qtt_term.specs.Items.{constructor}
use Rattle.qtt_term.specs.Judgement.{branch_type}
use Rattle.qtt_term.specs.View.{term}
use Rattle.qtt_core_check.specs.Cases.{params_of, motive_of}
use Rattle.qtt_core_check.proofs.Places.{sig-at}
use Rattle.qtt_core_check.proofs.premises.Checker.branch_type.Goals as goal

pub returns : goal.returns
returns g c = λ d e.
    let m = c.args.matching.now in
    let F = m.family.now in
    let x = c.index.result.now in
    let i : x ≡ get_or F.constructors.items c.args.place x = search rules in
    let k : c.len.result ≡ length F.params.items = search rules in
    let n : c.in_ok-number.field-0 ≡ c.args.place = search rules in
    let t : term c.in_ok-branch_type.field-0 ≡ branch_type (params_of m)
    (con_sig m.id c.len.result c.in_ok-number.field-0 (constructor x)) (motive_of m) = search rules in
    t ∙ ap (λ d. branch_type (params_of m) d (motive_of m))
    (sig-at m.id F c.len.result c.in_ok-number.field-0 c.args.place x d c.requires i k n e)
