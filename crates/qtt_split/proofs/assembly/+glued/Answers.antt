use Rattle.std.proofs.Common.{◌≡◌, ◌∙◌, ◌++◌, [], ◌∷◌, length, drop, ◌+◌, ap, sym, subst, rules}
use Rattle.qtt_term.specs.declared.term.Branch as code_case_branch
use Rattle.qtt_term.specs.declared.term.Term.{the_lemmas}
use Rattle.qtt_term.specs.Telescopes.{tele}
use Rattle.qtt_term.specs.View.{term, branch}
use Rattle.qtt_unify.specs.View.{all_terms}
use Rattle.qtt_split.specs.declared.tree.Tree as code_tree
use Rattle.qtt_split.specs.Tree.{Tree, lams, leaves, glue}
use Rattle.qtt_split.specs.View.{Seen, tree_of, branch_of, branches_of, splitting_of, branch_terms, split_to}
use Rattle.qtt_split.proofs.Gluing.{GluedSoFar, split-glued, one-glued}
use Rattle.qtt_split.proofs.assembly.+glued.Goals as goal

pub glued-returns-in_ok-term-in-Split-clause-term : goal.glued-returns-in_ok-term-in-Split-clause-term
glued-returns-in_ok-term-in-Split-clause-term t c =
    let s = splitting_of c.in-Split.over in
    let bs = branches_of c.in-Split.branches.items in
    let sides = all_terms c.args.sides.now in
    let made = c.in_ok-parts-in-Split.parts.branches.items in
    let form : tree_of c.args.tree.now ≡ Tree.split s bs = search (rules, code_tree.the_lemmas) in
    let case : term c.in_ok-term-in-Split.term ≡ split_to s (branch_terms made) = c.in_ok-term-in-Split.ensures in
    case ∙
    split-glued s bs sides made
    (rw c.deref.ensures.value at c.in_ok-parts-in-Split.ensures.branches) ∙
    ap (λ T. glue T sides) (sym form)

pub glued_branches-loop-branch-preserved : goal.glued_branches-loop-branch-preserved
glued_branches-loop-branch-preserved t c =
    let x = c.branch-item.result in
    let seen : branch_of x ≡ record { fields = x.fields; again = tele x.again.items; tree = tree_of x.tree } =
    search (rules, code_tree.the_lemmas) in
    let made : code_case_branch.Branch = record { fields = x.fields; body = c.in_ok-bound.field-0 } in
    let now : c.push.new.self.items ≡ c.loop-branch.glued_branches.items ++ made ∷ [] = search rules in
    let one : branch made ≡ (x.fields, term c.in_ok-bound.field-0) = search (rules, the_lemmas) in
    let body : term c.in_ok-bound.field-0 ≡ lams (tele x.again.items) (term c.in_ok-inner.inner.term) = search rules in
    let inner : term c.in_ok-inner.inner.term ≡ glue (tree_of x.tree) (all_terms c.loop-branch.rest.now) =
    c.in_ok-inner.ensures.term in
    let left : c.in_ok-inner.inner.rest.now ≡ drop (length (leaves (tree_of x.tree))) c.loop-branch.rest.now =
    c.in_ok-inner.ensures.rest in
    subst (λ v. GluedSoFar c.args.branches.now c.args.sides.now (c.loop-branch.branch-index + 1) v
    c.in_ok-inner.inner.rest.now) (sym now)
    (one-glued c.args.branches.now c.args.sides.now c.loop-branch.rest.now c.in_ok-inner.inner.rest.now
    c.loop-branch.branch-index x (term c.in_ok-inner.inner.term) made c.loop-branch.glued_branches.items
    c.loop-branch-test.true c.branch-item.is
    (record {
      term = inner ∙ ap (λ (b : Seen). glue b.tree (all_terms c.loop-branch.rest.now)) (sym seen);
      rest = left ∙ ap (λ (b : Seen). drop (length (leaves b.tree)) c.loop-branch.rest.now) (sym seen);
      branch =
          one ∙ ap (λ u. (x.fields, u)) body ∙
          ap (λ (b : Seen). (b.fields, lams b.again (term c.in_ok-inner.inner.term))) (sym seen);
    })
    c.loop-branch.invariant)
