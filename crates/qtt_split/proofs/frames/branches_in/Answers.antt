use Rattle.std.proofs.Common.{◌≡◌, ◌∙◌, ◌+◌, ℕ, length, ap, subst, sym, rules, arith}
use Rattle.std.proofs.lemmas.Grind.{common_steps}
use Rattle.std.proofs.lemmas.List.{length-map}
use Rattle.qtt_term.specs.declared.term.Branch as code_branch
use Rattle.qtt_term.specs.declared.term.Term.{the_lemmas}
use Rattle.qtt_term.specs.Items as items
use Rattle.qtt_term.specs.Term.{Term, ε}
use Rattle.qtt_term.specs.View.{term, branch}
use Rattle.qtt_split.specs.Ways.{aim_of, frame_of, branch_in}
use Rattle.qtt_split.proofs.Framing.{BranchesSoFar, branches_from, one-branch, all-bodies}
use Rattle.qtt_split.proofs.frames.branches_in.Goals as goal

pub loop-place-preserved : goal.loop-place-preserved
loop-place-preserved c =
    let a = aim_of c.args.aim.now in
    let f = frame_of c.args.frame.now in
    let b = term c.args.body.now in
    let i = c.loop-place.place in
    let ds = c.constructors_at-constructors.result.now in
    let d = c.index-constructors-place.result in
    let n = c.in_ok-fields.fields in
    let x : code_branch.Branch = record { fields = n; body = c.in_ok-branch_in.field-0 } in
    let count : n ≡ length (items.constructor d).fields =
    grind (arith, common_steps, length-map d.fields.items items.field, c.len.ensures, c.in_ok-fields.ensures) in
    let seen : branch x ≡ (n, term c.in_ok-branch_in.field-0) = search (rules, the_lemmas) in
    let body : term c.in_ok-branch_in.field-0 ≡ branch_in a f b i n =
    c.in_ok-branch_in.ensures ∙ ap (λ k. branch_in a f b k n) c.in_ok-number.ensures in
    let pair : ℕ × Term → ℕ × Term = λ y. y in
    subst (λ xs. BranchesSoFar a f b ds (i + 1) xs) (sym c.in_ok-push.ensures.items)
    (one-branch a f b ds i c.loop-place.branches.items d x n c.loop-place-test.true c.index-constructors-place.is count
    (seen ∙ ap (λ t. pair (n, t)) body) c.loop-place.invariant)

pub returns-clause-parts : goal.returns-clause-parts
returns-clause-parts c =
    let a = aim_of c.args.aim.now in
    let f = frame_of c.args.frame.now in
    let b = term c.args.body.now in
    all-bodies a f b c.constructors_at-constructors.result.now c.loop-place.place c.loop-place.branches.items
    c.loop-place-test.false c.loop-place.invariant ∙
    ap (λ ds. branches_from a f b 0 ds ε) c.constructors_at-constructors.ensures
