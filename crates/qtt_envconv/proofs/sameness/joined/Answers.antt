use Rattle.std.proofs.Common.{◌≡◌, true, refl, sym, ◌∙◌, ap, subst, arith}
use Rattle.qtt_term.specs.Term as t
use Rattle.qtt_term.specs.View.{side_by_side}
use Rattle.qtt_envconv.specs.declared.sameness.Twins.{Twins}
use Rattle.qtt_envconv.specs.Nodes.{nodes}
use Rattle.qtt_envconv.specs.Opened.{opened}
use Rattle.qtt_envconv.specs.Shapes.{form}
use Rattle.qtt_envconv.specs.Twins.{Joins}
use Rattle.qtt_envconv.proofs.Likeness.{forms-differ, counts-differ, paired-next, paired-all, forms-join}
use Rattle.qtt_envconv.proofs.sameness.joined.Goals as goal
use Rattle.qtt_envconv.proofs.sameness.joined.Goals.{then-not-same-via-then-not-same, then-not-same-via-else-not-same+then-len}

pub returns-then-not-same : goal.returns-then-not-same
returns-then-not-same c = λ e.
    let a = c.in-Form-Form in
    let F = form a.shape in
    let G = form a.other in
    let xs = a.lefts.items in
    let ys = a.rights.items in
    let both : t.node F (side_by_side (nodes xs)) ≡ t.node G (side_by_side (nodes ys)) =
    sym (ap opened a.is-0) ∙ e ∙ ap opened a.is-1 in
    elim c.then-not-same.branch [
      | then-not-same-via-then-not-same w ↦
          forms-differ F G (nodes xs) (nodes ys) (λ same. cc (c.same.ensures.1 same, w.if-not-same.true)) both
      | then-not-same-via-else-not-same+then-len w ↦ counts-differ F G xs ys (λ many. omega (arith, many)) both
    ]

pub loop-i-preserved : goal.loop-i-preserved
loop-i-preserved c =
    let p : Twins = record { left = c.left-item.result; right = c.index-right.result.now } in
    paired-next c.deref-left-items.result.now c.in-Form-Form.rights.items c.loop-i.i c.args.rest.now.items
    c.loop-i.rest.items c.push.new.self.items p (omega arith) (omega arith) c.left-item.is c.index-right.ensures
    c.loop-i.invariant c.in_ok-push-in-Form-Form.ensures.items

pub returns-after-loop-i : goal.returns-after-loop-i
returns-after-loop-i c =
    let a = c.in-Form-Form in
    let old = c.args.rest.now.items in
    let new = c.loop-i.rest.items in
    let xs = a.lefts.items in
    let lefts = c.deref-left-items.result.now in
    let is : lefts ≡ xs = c.deref-left-items.ensures.value in
    let pairs = paired-all lefts a.rights.items c.loop-i.i old new (omega arith) (omega arith) c.loop-i.invariant in
    let same = c.if-not-same.ensures.0 refl in
    let joins = forms-join (form a.shape) (form a.other) (nodes lefts) (nodes a.rights.items) old new same pairs in
    subst (λ o. Joins (opened o) (opened c.args.right) old new true) (sym a.is-0)
    (subst (λ o. Joins (t.node (form a.shape) (side_by_side (nodes xs))) (opened o) old new true) (sym a.is-1)
    (subst (λ zs. Joins (t.node (form a.shape) (side_by_side (nodes zs)))
    (t.node (form a.other) (side_by_side (nodes a.rights.items))) old new true) is joins))
