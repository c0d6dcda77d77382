use Rattle.std.proofs.Common.{◌≡◌, get_or, arith}
use Rattle.std.proofs.lemmas.Grind.{common_steps}
use Rattle.qtt_term.specs.View.{term, terms, branch, branches, side_by_side}
use Rattle.qtt_term.proofs.Components.{same_lists, same_front, same_case, same_act, same_at}
use Rattle.qtt_term.specs.declared.term.Term.{the_lemmas}
use Rattle.qtt_term.specs.declared.term.Case.{out-Case}
use Rattle.qtt_term.proofs.equality.+same_term.Goals as goal

pub same_term-returns-then-eq-4 : goal.same_term-returns-then-eq-4
same_term-returns-then-eq-4 t c =
    let lists = same_lists (terms c.in-Fam-Fam.xs.items) (terms c.in-Fam-Fam.ys.items) in
    grind (arith, common_steps, the_lemmas, lists)

pub same_term-returns-then-eq-7 : goal.same_term-returns-then-eq-7
same_term-returns-then-eq-7 t c =
    let lists = same_lists (terms c.in-Prim-Prim.xs.items) (terms c.in-Prim-Prim.ys.items) in
    grind (arith, common_steps, the_lemmas, lists)

pub same_term-returns-then-same_all : goal.same_term-returns-then-same_all
same_term-returns-then-same_all t c =
    let a = c.in-Con-Con in
    let front = same_front (terms a.ps.items) (terms a.qs.items) (side_by_side (terms a.xs.items))
    (side_by_side (terms a.ys.items)) in
    let lists = same_lists (terms a.xs.items) (terms a.ys.items) in
    grind (arith, common_steps, the_lemmas, front, lists)

pub same_term-returns-else-same_all : goal.same_term-returns-else-same_all
same_term-returns-else-same_all t c =
    let a = c.in-Con-Con in
    let front = same_front (terms a.ps.items) (terms a.qs.items) (side_by_side (terms a.xs.items))
    (side_by_side (terms a.ys.items)) in
    grind (arith, common_steps, the_lemmas, front)

pub same_all-returns-then-not-same_term : goal.same_all-returns-then-not-same_term
same_all-returns-then-not-same_term t c =
    let xs = c.args.ones.now in
    let ys = c.args.others.now in
    let i = c.loop-i.i in
    let d = c.index-others-i.result in
    let differ : terms xs ≡ terms ys → term (get_or xs i d) ≡ term (get_or ys i d) =
    λ e. same_at term xs ys i d e (omega arith) (omega arith) in
    grind (arith, common_steps, differ, c.index-others-i.is)

pub same_branches-returns-then-not-same_branch : goal.same_branches-returns-then-not-same_branch
same_branches-returns-then-not-same_branch t c =
    let xs = c.args.ones.now in
    let ys = c.args.others.now in
    let i = c.loop-i.i in
    let d = c.index-others-i.result in
    let differ : branches xs ≡ branches ys → branch (get_or xs i d) ≡ branch (get_or ys i d) =
    λ e. same_at branch xs ys i d e (omega arith) (omega arith) in
    grind (arith, common_steps, differ)

pub same_case-returns-then-same_branches : goal.same_case-returns-then-same_branches
same_case-returns-then-same_branches t c =
    let a = out-Case c.args.one.now in
    let b = out-Case c.args.other.now in
    let parts = same_case a.mult b.mult a.family b.family (terms a.params.items)
    (terms b.params.items) a.indices b.indices (term a.motive) (term b.motive) (branches a.branches.items)
    (branches b.branches.items) (term a.scrutinee) (term b.scrutinee) in
    grind (arith, common_steps, the_lemmas, parts)

pub same_case-returns-else-same_branches : goal.same_case-returns-else-same_branches
same_case-returns-else-same_branches t c =
    let a = out-Case c.args.one.now in
    let b = out-Case c.args.other.now in
    let parts = same_case a.mult b.mult a.family b.family (terms a.params.items)
    (terms b.params.items) a.indices b.indices (term a.motive) (term b.motive) (branches a.branches.items)
    (branches b.branches.items) (term a.scrutinee) (term b.scrutinee) in
    grind (arith, common_steps, the_lemmas, parts)

pub same_term-returns-then-same_all-2 : goal.same_term-returns-then-same_all-2
same_term-returns-then-same_all-2 t c =
    let a = c.in-Act-Act in
    let parts = same_act a.p a.q (terms a.ps.items) (terms a.xs.items) (terms a.qs.items) (terms a.ys.items) in
    grind (arith, common_steps, the_lemmas, parts)

pub same_term-returns-else-same_all-2 : goal.same_term-returns-else-same_all-2
same_term-returns-else-same_all-2 t c =
    let a = c.in-Act-Act in
    let parts = same_act a.p a.q (terms a.ps.items) (terms a.xs.items) (terms a.qs.items) (terms a.ys.items) in
    grind (arith, common_steps, the_lemmas, parts)
