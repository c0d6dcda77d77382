use Rattle.std.proofs.Common.{◌≡◌, ◌∙◌, ap, subst, inl, inr}
use Rattle.qtt_prims.specs.declared.prim.ActKind.{ActKind}
use Rattle.qtt_prims.specs.declared.prim.ActKind.TheVariants as kind
use Rattle.qtt_term.specs.Term.{Io}
use Rattle.qtt_term.specs.View.{action}
use Rattle.qtt_code.specs.Value.{Value, side_by_side}
use Rattle.qtt_value.specs.View.{values}
use Rattle.qtt_run.specs.Deed.{IsPerformed}
use Rattle.qtt_run.proofs.Asking.{pure-parts, bind-parts, put-parts, open-parts, write-parts, close-parts}
use Rattle.qtt_run.proofs.deed.asked.Goals as goal

pub one-requires : goal.one-requires
one-requires c =
    let vs = values c.as_action-kind.result.1.now in
    let at : (k : ActKind) → c.as_action-kind.result.0 ≡ k → IsPerformed (Value.action (action k) (side_by_side vs)) =
    λ k e. subst IsPerformed (c.as_action-kind.ensures ∙ ap (λ k. Value.action (action k) (side_by_side vs)) e)
    c.requires in
    elim c.in-Pure.is [ inl e ↦ pure-parts Io.io vs (at kind.Pure e) | inr e ↦ pure-parts Io.io1 vs (at kind.Pure1 e) ]

pub one-requires-in-PutLine : goal.one-requires-in-PutLine
one-requires-in-PutLine c =
    let vs = values c.as_action-kind.result.1.now in
    let (s, e) = put-parts vs
    (subst IsPerformed (c.as_action-kind.ensures ∙ ap (λ k. Value.action (action k) (side_by_side vs))
    c.in-PutLine.is) c.requires) in (_, e)

pub one-requires-in-Open : goal.one-requires-in-Open
one-requires-in-Open c =
    let vs = values c.as_action-kind.result.1.now in
    let (s, e) = open-parts vs
    (subst IsPerformed (c.as_action-kind.ensures ∙ ap (λ k. Value.action (action k) (side_by_side vs))
    c.in-Open.is) c.requires) in (_, e)

pub two-requires : goal.two-requires
two-requires c =
    let vs = values c.as_action-kind.result.1.now in
    let (n, s, e) = write-parts vs
    (subst IsPerformed (c.as_action-kind.ensures ∙ ap (λ k. Value.action (action k) (side_by_side vs))
    c.in-Write.is) c.requires) in
    (_, _, e)

pub one-requires-in-Close : goal.one-requires-in-Close
one-requires-in-Close c =
    let vs = values c.as_action-kind.result.1.now in
    let (n, e) = close-parts vs
    (subst IsPerformed (c.as_action-kind.ensures ∙ ap (λ k. Value.action (action k) (side_by_side vs))
    c.in-Close.is) c.requires) in
    (_, e)

pub two-requires-in-BindIoIo : goal.two-requires-in-BindIoIo
two-requires-in-BindIoIo c =
    let vs = values c.as_action-kind.result.1.now in
    let at : (k : ActKind) → c.as_action-kind.result.0 ≡ k → IsPerformed (Value.action (action k) (side_by_side vs)) =
    λ k e. subst IsPerformed (c.as_action-kind.ensures ∙ ap (λ k. Value.action (action k) (side_by_side vs)) e)
    c.requires in
    elim c.in-BindIoIo.is [
      | inl e ↦ bind-parts Io.io Io.io vs (at kind.BindIoIo e)
      | inr f ↦ elim f [
        | inl e ↦ bind-parts Io.io Io.io1 vs (at kind.BindIoIo1 e)
        | inr g ↦ elim g [
          | inl e ↦ bind-parts Io.io1 Io.io vs (at kind.BindIo1Io e)
          | inr e ↦ bind-parts Io.io1 Io.io1 vs (at kind.BindIo1Io1 e)
        ]
      ]
    ]
