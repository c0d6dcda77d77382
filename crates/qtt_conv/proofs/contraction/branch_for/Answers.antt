use Rattle.std.proofs.Common.{◌≡◌, slice_get, Some, true, ap, sym, ◌∙◌, arith}
use Rattle.std.proofs.lemmas.Grind.{common_steps}
use Rattle.qtt_term.specs.Term.{same_id}
use Rattle.qtt_conv.proofs.Contracting.{body-found, body-fits, body-unfit}
use Rattle.qtt_conv.proofs.contraction.branch_for.Goals as goal

pub returns-then-fields-branch : goal.returns-then-fields-branch
returns-then-fields-branch c =
    let b = c.in_ok-branch.branch.now in
    let family = c.args.branching.now.family in
    let all = c.args.branching.now.branches.items in
    let same : same_id family c.args.con.family ≡ true = grind (arith, common_steps) in
    let at : slice_get all c.args.con.place ≡ Some b =
    sym (c.in_ok-branch.ensures ∙ ap (λ bs. slice_get bs c.args.con.place) c.deref.ensures.value) in
    body-fits c.args.fields b c.if-fields-branch.true ∙ sym (body-found family all c.args.con c.args.fields b same at)

pub returns-else-fields-branch : goal.returns-else-fields-branch
returns-else-fields-branch c =
    let b = c.in_ok-branch.branch.now in
    let family = c.args.branching.now.family in
    let all = c.args.branching.now.branches.items in
    let same : same_id family c.args.con.family ≡ true = grind (arith, common_steps) in
    let at : slice_get all c.args.con.place ≡ Some b =
    sym (c.in_ok-branch.ensures ∙ ap (λ bs. slice_get bs c.args.con.place) c.deref.ensures.value) in
    body-unfit c.args.fields b c.if-fields-branch.false ∙ sym (body-found family all c.args.con c.args.fields b same at)
