use Rattle.std.proofs.Common.{◌≡◌, length, slice_get, Some, true, refl, ap, sym, ◌∙◌, arith}
use Rattle.std.proofs.lemmas.Grind.{common_steps}
use Rattle.std.proofs.lemmas.Option.{slice_get_read}
use Rattle.qtt_term.specs.declared.term.Case.{out-Case}
use Rattle.qtt_term.specs.Term.{same_id}
use Rattle.qtt_conv.proofs.Contracting.{body-found, body-fits, body-unfit}
use Rattle.qtt_envconv.proofs.contraction.branch_for.Goals as goal

pub returns-then-fields-branch : goal.returns-then-fields-branch
returns-then-fields-branch c =
    let b = c.in_ok-branch.branch.now in
    let a = out-Case c.args.case.now in
    let bs = c.deref.result.now in
    let same : same_id a.family c.args.con.family ≡ true = grind (arith, common_steps) in
    let looked = c.in_ok-branch.ensures.lookup in
    let at : slice_get a.branches.items c.args.con.place ≡ Some b =
    ap (λ xs. slice_get xs c.args.con.place) (sym c.deref.ensures.value)
    ∙ slice_get_read bs (length bs) c.args.con.place b refl looked.3.0 looked.1 in
    body-fits c.args.fields b c.if-fields-branch.true
    ∙ sym (body-found a.family a.branches.items c.args.con c.args.fields b same at)

pub returns-else-fields-branch : goal.returns-else-fields-branch
returns-else-fields-branch c =
    let b = c.in_ok-branch.branch.now in
    let a = out-Case c.args.case.now in
    let bs = c.deref.result.now in
    let same : same_id a.family c.args.con.family ≡ true = grind (arith, common_steps) in
    let looked = c.in_ok-branch.ensures.lookup in
    let at : slice_get a.branches.items c.args.con.place ≡ Some b =
    ap (λ xs. slice_get xs c.args.con.place) (sym c.deref.ensures.value)
    ∙ slice_get_read bs (length bs) c.args.con.place b refl looked.3.0 looked.1 in
    body-unfit c.args.fields b c.if-fields-branch.false
    ∙ sym (body-found a.family a.branches.items c.args.con c.args.fields b same at)
