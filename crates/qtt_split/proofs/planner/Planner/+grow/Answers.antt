use Rattle.std.proofs.Common.{◌≡◌, ◌∙◌, ◌+◌, ◌-◌, ◌++◌, suc, [], ◌∷◌, length, map, Ok, Err, rules, ap, sym, subst, arith}
use Rattle.std.proofs.lemmas.List.{length-map}
use Rattle.qtt_term.specs.Entries.{entries, env}
use Rattle.qtt_term.specs.Items.{constructor, field}
use Rattle.qtt_term.specs.Signature.{con_sigs, fam_at, family_at}
use Rattle.qtt_term.specs.Telescopes.{tele}
use Rattle.qtt_unify.specs.View.{binders, solution, verdict}
use Rattle.qtt_split.specs.declared.tree.Branch as code_branch
use Rattle.qtt_split.specs.declared.tree.Tree.{the_lemmas}
use Rattle.qtt_split.specs.Answers.{Reaches, Refuses}
use Rattle.qtt_split.specs.Calls.{group_of}
use Rattle.qtt_split.specs.Ends.{grown_of}
use Rattle.qtt_split.specs.Nodes.{node_of}
use Rattle.qtt_split.specs.Preparations.{grown_branch_of, grown_branches_of, prepared_of, site_in}
use Rattle.qtt_split.specs.Prepared.{Prepared, branch, prepared, grow_below}
use Rattle.qtt_split.specs.Sites.{site_of, signature_in}
use Rattle.qtt_split.specs.Split.{branches, solved_node, solved_again}
use Rattle.qtt_split.specs.View.{Seen, branch_of, deleting_of, tree_of}
use Rattle.qtt_split.proofs.Continued.{prepared-refused, after-prepared, branches-refused, branches-there, branch-refused, branch-there, solved_with, solved-refused, solved-there}
use Rattle.qtt_split.proofs.Joined.{BranchesSoFar, one, none-made, one-made, one-refused, all-made, all-decided}
use Rattle.qtt_split.proofs.Within.{on_done, passed, reached}
use Rattle.qtt_split.proofs.planner.Planner.+grow.Goals as goal

-- ---- one branch
pub branch-returns-in_err-grown-in-Solved : goal.branch-returns-in_err-grown-in-Solved
branch-returns-in_err-grown-in-Solved g t c =
    let E = env (entries c.args.self.now.unifier.globals.now) in
    let n = c.args.self.now.unifier.budget in
    let G = group_of c.args.self.now in
    let W = site_of G c.args.site.now in
    let d = signature_in c.args.self.now c.args.site.now c.args.place c.args.constructor.now in
    let S = map solution c.in-Solved.solved.items in
    let grows = grow_below c.args.splits G in
    let e = c.in_err-grown-in-Solved.field-0.0 in
    let node : node_of c.in_ok-entered-in-Solved.entered.node
    ≡ solved_node W c.args.place d S =
    c.in_ok-entered-in-Solved.ensures.node ∙
    ap (λ xs. solved_node W c.args.place d (map solution xs)) c.deref.ensures.value in
    passed E n _ _ c.from_residual-in_err-grown-in-Solved.result e c.from_residual-in_err-grown-in-Solved.ensures.1
    (subst (λ v. Refuses E n (branch grows W c.args.place d v c.args.left) e) (sym (ap verdict c.in-Solved.is))
    (solved-refused E n grows c.args.left W c.args.place d S e
    (subst (λ N. Refuses E n (grows N c.args.left) e) node c.in_err-grown-in-Solved.ensures)))

pub branch-returns-in_ok-grown-in-Solved : goal.branch-returns-in_ok-grown-in-Solved
branch-returns-in_ok-grown-in-Solved g t c =
    let E = env (entries c.args.self.now.unifier.globals.now) in
    let n = c.args.self.now.unifier.budget in
    let G = group_of c.args.self.now in
    let W = site_of G c.args.site.now in
    let x = c.args.constructor.now in
    let d = signature_in c.args.self.now c.args.site.now c.args.place x in
    let S = map solution c.in-Solved.solved.items in
    let grows = grow_below c.args.splits G in
    let entered = c.in_ok-entered-in-Solved.entered in
    let T = c.in_ok-grown-in-Solved.grown in
    let k = c.in_ok-fields-in-Solved.fields in
    let node : node_of entered.node ≡ solved_node W c.args.place d S =
    c.in_ok-entered-in-Solved.ensures.node ∙
    ap (λ xs. solved_node W c.args.place d (map solution xs)) c.deref.ensures.value in
    let again : tele entered.again.items ≡ solved_again W c.args.place d S =
    c.in_ok-entered-in-Solved.ensures.again ∙
    ap (λ xs. solved_again W c.args.place d (map solution xs)) c.deref.ensures.value in
    let count : k ≡ length x.fields.items = search rules in
    let fields : k ≡ length d.fields = count ∙ sym (length-map x.fields.items field) in
    let made : code_branch.Branch = record { fields = k; again = entered.again; tree = T.tree } in
    let seen : branch_of made ≡ record { fields = k; again = tele entered.again.items; tree = tree_of T.tree } =
    search (rules, the_lemmas) in
    let whole : grown_branch_of (record { branch = made; left = T.left })
    ≡ solved_with E n grows c.args.left W c.args.place d S (grown_of T) =
    ap (λ (b : Seen). record { fields = b.fields; again = b.again; tree = b.tree; left = T.left }) seen ∙
    ap (λ m. record { fields = m; again = tele entered.again.items; tree = tree_of T.tree; left = T.left }) fields ∙
    ap (λ Θ. record { fields = length d.fields; again = Θ; tree = tree_of T.tree; left = T.left }) again in
    subst (λ v. Reaches E n (branch grows W c.args.place d v c.args.left)
    (grown_branch_of (record { branch = made; left = T.left }))) (sym (ap verdict c.in-Solved.is))
    (reached
    (solved-there E n grows c.args.left W c.args.place d S (grown_of T)
    (subst (λ N. Reaches E n (grows N c.args.left) (grown_of T)) node c.in_ok-grown-in-Solved.ensures)) (sym whole))

-- ---- the branches, one after another
pub branches-loop-place-init : goal.branches-loop-place-init
branches-loop-place-init g t c =
    let E = env (entries c.args.self.now.unifier.globals.now) in
    let n = c.args.self.now.unifier.budget in
    let G = group_of c.args.self.now in
    let W = site_of G c.args.site.now in
    let grows = grow_below c.args.splits G in
    let k = length (family_at E W.division.family).params in
    let ds = c.constructors_of-constructors.result.now in
    let none : c.in_ok-branches.branches.items ≡ [] = search rules in
    subst (λ bs. BranchesSoFar E n grows W k ds c.args.verdicts.now c.args.left 0 bs c.args.left) (sym none)
    (none-made E n grows W k ds c.args.verdicts.now c.args.left)

pub branches-returns-in_err-grown : goal.branches-returns-in_err-grown
branches-returns-in_err-grown g t c =
    let E = env (entries c.args.self.now.unifier.globals.now) in
    let n = c.args.self.now.unifier.budget in
    let G = group_of c.args.self.now in
    let W = site_of G c.args.site.now in
    let grows = grow_below c.args.splits G in
    let k = length (family_at E W.division.family).params in
    let ds = c.constructors_of-constructors.result.now in
    let vs = c.args.verdicts.now in
    let i = c.loop-place.place in
    let d = c.index-constructors-place.result in
    let v = c.index-verdicts-place.result in
    let e = c.in_err-grown.field-0.0 in
    passed E n _ _ c.from_residual-in_err-grown.result e c.from_residual-in_err-grown.ensures.1
    (subst (λ xs. Refuses E n (branches grows W 0 (con_sigs W.division.family k 0 xs) (map verdict vs) c.args.left) e)
    c.constructors_of-constructors.ensures
    (one-refused E n grows W k ds vs c.args.left i c.loop-place.branches.items c.loop-place.left d v e
    c.loop-place-test.true c.index-constructors-place.is (omega (arith, c.if-place-verdicts.false))
    c.index-verdicts-place.is
    (subst (λ j. Refuses E n (one E n grows W k j (constructor d) (verdict v) c.loop-place.left) e)
    c.in_ok-number.ensures c.in_err-grown.ensures) c.loop-place.invariant))

pub branches-loop-place-preserved : goal.branches-loop-place-preserved
branches-loop-place-preserved g t c =
    let E = env (entries c.args.self.now.unifier.globals.now) in
    let n = c.args.self.now.unifier.budget in
    let G = group_of c.args.self.now in
    let W = site_of G c.args.site.now in
    let grows = grow_below c.args.splits G in
    let k = length (family_at E W.division.family).params in
    let ds = c.constructors_of-constructors.result.now in
    let vs = c.args.verdicts.now in
    let i = c.loop-place.place in
    let d = c.index-constructors-place.result in
    let v = c.index-verdicts-place.result in
    let b = c.in_ok-grown.grown in
    let bs = c.loop-place.branches.items in
    let now : c.push.new.self.items ≡ bs ++ b.branch ∷ [] = search rules in
    subst (λ cs. BranchesSoFar E n grows W k ds vs c.args.left (i + 1) cs b.left) (sym now)
    (one-made E n grows W k ds vs c.args.left i bs c.loop-place.left d v b c.loop-place-test.true
    c.index-constructors-place.is (omega (arith, c.if-place-verdicts.false)) c.index-verdicts-place.is
    (subst (λ j. Reaches E n (one E n grows W k j (constructor d) (verdict v) c.loop-place.left)
    (grown_branch_of b)) c.in_ok-number.ensures c.in_ok-grown.ensures) c.loop-place.invariant)

pub branches-returns-then-place-verdicts : goal.branches-returns-then-place-verdicts
branches-returns-then-place-verdicts g t c =
    let E = env (entries c.args.self.now.unifier.globals.now) in
    let n = c.args.self.now.unifier.budget in
    let G = group_of c.args.self.now in
    let W = site_of G c.args.site.now in
    let grows = grow_below c.args.splits G in
    let k = length (family_at E W.division.family).params in
    let ds = c.constructors_of-constructors.result.now in
    let vs = c.args.verdicts.now in
    let bs = c.loop-place.branches in
    subst (λ xs. Reaches E n (branches grows W 0 (con_sigs W.division.family k 0 xs) (map verdict vs) c.args.left)
    (grown_branches_of (record { branches = bs; left = c.loop-place.left }))) c.constructors_of-constructors.ensures
    (all-decided E n grows W k ds vs c.args.left c.loop-place.place bs.items c.loop-place.left
    (omega (arith, c.if-place-verdicts.true)) c.loop-place.invariant)

pub branches-returns : goal.branches-returns
branches-returns g t c =
    let E = env (entries c.args.self.now.unifier.globals.now) in
    let n = c.args.self.now.unifier.budget in
    let G = group_of c.args.self.now in
    let W = site_of G c.args.site.now in
    let grows = grow_below c.args.splits G in
    let k = length (family_at E W.division.family).params in
    let ds = c.constructors_of-constructors.result.now in
    let vs = c.args.verdicts.now in
    let bs = c.loop-place.branches in
    subst (λ xs. Reaches E n (branches grows W 0 (con_sigs W.division.family k 0 xs) (map verdict vs) c.args.left)
    (grown_branches_of (record { branches = bs; left = c.loop-place.left }))) c.constructors_of-constructors.ensures
    (all-made E n grows W k ds vs c.args.left c.loop-place.place bs.items c.loop-place.left c.loop-place-test.false
    c.loop-place.invariant)

-- ---- a node
pub grow-returns-then-splits-eq0 : goal.grow-returns-then-splits-eq0
grow-returns-then-splits-eq0 g t c =
    let E = env (entries c.args.self.now.unifier.globals.now) in
    let n = c.args.self.now.unifier.budget in
    let G = group_of c.args.self.now in
    let N = node_of c.args.node in
    subst (λ m. Reaches E n (grow_below m G N c.args.left) (grown_of c.missing.result)) (sym c.if-splits-eq0.true)
    (reached on_done (sym c.missing.ensures))

pub grow-returns-in_err-prepared : goal.grow-returns-in_err-prepared
grow-returns-in_err-prepared g t c =
    let E = env (entries c.args.self.now.unifier.globals.now) in
    let n = c.args.self.now.unifier.budget in
    let G = group_of c.args.self.now in
    let N = node_of c.args.node in
    let e = c.in_err-prepared.field-0.0 in
    let some : c.args.splits ≡ suc (c.args.splits - 1) = omega (arith, c.if-splits-eq0.false) in
    passed E n _ _ c.from_residual.result e c.from_residual.ensures.1
    (subst (λ m. Refuses E n (grow_below m G N c.args.left) e) (sym some)
    (prepared-refused E n G N c.args.left (c.args.splits - 1) e c.in_err-prepared.ensures))

pub grow-returns-in-Ended : goal.grow-returns-in-Ended
grow-returns-in-Ended g t c =
    let E = env (entries c.args.self.now.unifier.globals.now) in
    let n = c.args.self.now.unifier.budget in
    let G = group_of c.args.self.now in
    let N = node_of c.args.node in
    let T = c.in-Ended.grown in
    let some : c.args.splits ≡ suc (c.args.splits - 1) = omega (arith, c.if-splits-eq0.false) in
    let reach : Reaches E n (prepared G N c.args.left) (Prepared.ended (grown_of T)) =
    subst (Reaches E n (prepared G N c.args.left)) (ap (prepared_of G) c.in-Ended.is) c.in_ok-prepared.ensures in
    subst (λ m. Reaches E n (grow_below m G N c.args.left) (grown_of T)) (sym some)
    (after-prepared E n G N c.args.left (c.args.splits - 1) (Prepared.ended (grown_of T)) grown_of (Ok T) reach on_done)

pub grow-returns-in_err-grown-in-Split : goal.grow-returns-in_err-grown-in-Split
grow-returns-in_err-grown-in-Split g t c =
    let E = env (entries c.args.self.now.unifier.globals.now) in
    let n = c.args.self.now.unifier.budget in
    let G = group_of c.args.self.now in
    let N = node_of c.args.node in
    let left = c.args.left in
    let k = c.args.splits - 1 in
    let W = site_in G c.in-Split.node c.in-Split.split in
    let vs = map verdict c.in-Split.split.verdicts.items in
    let e = c.in_err-grown-in-Split.field-0.0 in
    let some : c.args.splits ≡ suc k = omega (arith, c.if-splits-eq0.false) in
    let reach : Reaches E n (prepared G N left) (Prepared.split W vs) =
    subst (Reaches E n (prepared G N left)) (ap (prepared_of G) c.in-Split.is) c.in_ok-prepared.ensures in
    passed E n _ _ c.from_residual-in_err-grown-in-Split.result e c.from_residual-in_err-grown-in-Split.ensures.1
    (subst (λ m. Refuses E n (grow_below m G N left) e) (sym some)
    (after-prepared E n G N left k (Prepared.split W vs) grown_of (Err e) reach
    (branches-refused E n (grow_below k G) left W vs e
    (subst (λ xs. Refuses E n (branches (grow_below k G) W 0 (fam_at E W.division.family).constructors
    (map verdict xs) left) e) c.deref.ensures.value c.in_err-grown-in-Split.ensures))))

pub grow-returns-in_ok-split_tree-in-Split : goal.grow-returns-in_ok-split_tree-in-Split
grow-returns-in_ok-split_tree-in-Split g t c =
    let E = env (entries c.args.self.now.unifier.globals.now) in
    let n = c.args.self.now.unifier.budget in
    let G = group_of c.args.self.now in
    let N = node_of c.args.node in
    let left = c.args.left in
    let k = c.args.splits - 1 in
    let M = c.in-Split.node in
    let W = site_in G M c.in-Split.split in
    let vs = map verdict c.in-Split.split.verdicts.items in
    let B = grown_branches_of c.in_ok-grown-in-Split.grown in
    let T = c.in_ok-split_tree-in-Split.field-0 in
    let some : c.args.splits ≡ suc k = omega (arith, c.if-splits-eq0.false) in
    let reach : Reaches E n (prepared G N left) (Prepared.split W vs) =
    subst (Reaches E n (prepared G N left)) (ap (prepared_of G) c.in-Split.is) c.in_ok-prepared.ensures in
    let made : Reaches E n (branches (grow_below k G) W 0 (fam_at E W.division.family).constructors vs left) B =
    subst (λ xs. Reaches E n (branches (grow_below k G) W 0 (fam_at E W.division.family).constructors
    (map verdict xs) left) B) c.deref.ensures.value c.in_ok-grown-in-Split.ensures in
    subst (λ m. Reaches E n (grow_below m G N left) (grown_of T)) (sym some)
    (after-prepared E n G N left k (Prepared.split W vs) grown_of (Ok T) reach
    (reached (branches-there E n (grow_below k G) left W vs B made)
    (sym (c.in_ok-split_tree-in-Split.ensures G (node_of M) (binders M.context.items)))))

pub grow-returns-in_err-grown-in-Delete : goal.grow-returns-in_err-grown-in-Delete
grow-returns-in_err-grown-in-Delete g t c =
    let E = env (entries c.args.self.now.unifier.globals.now) in
    let n = c.args.self.now.unifier.budget in
    let G = group_of c.args.self.now in
    let N = node_of c.args.node in
    let left = c.args.left in
    let k = c.args.splits - 1 in
    let d = deleting_of c.in-Delete.over in
    let M = node_of c.in-Delete.entered.node in
    let Θ = tele c.in-Delete.entered.again.items in
    let e = c.in_err-grown-in-Delete.field-0.0 in
    let some : c.args.splits ≡ suc k = omega (arith, c.if-splits-eq0.false) in
    let reach : Reaches E n (prepared G N left) (Prepared.delete d M Θ) =
    subst (Reaches E n (prepared G N left)) (ap (prepared_of G) c.in-Delete.is) c.in_ok-prepared.ensures in
    passed E n _ _ c.from_residual-in_err-grown-in-Delete.result e c.from_residual-in_err-grown-in-Delete.ensures.1
    (subst (λ m. Refuses E n (grow_below m G N left) e) (sym some)
    (after-prepared E n G N left k (Prepared.delete d M Θ) grown_of (Err e) reach
    (branch-refused E n (grow_below k G) left d M Θ e c.in_err-grown-in-Delete.ensures)))

pub grow-returns-in_ok-deletion_tree-in-Delete : goal.grow-returns-in_ok-deletion_tree-in-Delete
grow-returns-in_ok-deletion_tree-in-Delete g t c =
    let E = env (entries c.args.self.now.unifier.globals.now) in
    let n = c.args.self.now.unifier.budget in
    let G = group_of c.args.self.now in
    let N = node_of c.args.node in
    let left = c.args.left in
    let k = c.args.splits - 1 in
    let d = deleting_of c.in-Delete.over in
    let M = node_of c.in-Delete.entered.node in
    let Θ = tele c.in-Delete.entered.again.items in
    let B = grown_of c.in_ok-grown-in-Delete.grown in
    let T = c.in_ok-deletion_tree-in-Delete.field-0 in
    let some : c.args.splits ≡ suc k = omega (arith, c.if-splits-eq0.false) in
    let reach : Reaches E n (prepared G N left) (Prepared.delete d M Θ) =
    subst (Reaches E n (prepared G N left)) (ap (prepared_of G) c.in-Delete.is) c.in_ok-prepared.ensures in
    subst (λ m. Reaches E n (grow_below m G N left) (grown_of T)) (sym some)
    (after-prepared E n G N left k (Prepared.delete d M Θ) grown_of (Ok T) reach
    (reached (branch-there E n (grow_below k G) left d M Θ B c.in_ok-grown-in-Delete.ensures)
    (sym c.in_ok-deletion_tree-in-Delete.ensures)))
