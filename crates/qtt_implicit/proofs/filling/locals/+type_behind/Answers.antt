-- The type of a name behind one more binder.
use Rattle.std.proofs.Common.{◌≡◌, ◌∙◌, ap, sym, ℕ, suc, ◌+◌, ◌-◌, arith}
use Rattle.qtt_implicit.specs.Moving.{shifted}
use Rattle.qtt_implicit.specs.TextTypes.{local_types, type_tree}
use Rattle.qtt_implicit.specs.Walk.{type_at}
use Rattle.qtt_implicit.proofs.Locals.{first_behind, later_behind, unmet, met}
use Rattle.qtt_implicit.proofs.Standing.{if_ok}
use Rattle.qtt_implicit.proofs.filling.locals.+type_behind.Goals as goal

pub returns-in-None : goal.returns-in-None
returns-in-None t c =
    let T = type_tree c.in-Behind.ty in
    let e : c.args.index ≡ 0 = omega arith in
    if_ok c.moved.result _ _ (λ u h. h
    ∙ ap (λ (k : ℕ). shifted k T) c.in_ok-moved-in-Behind.ensures
    ∙ sym (first_behind c.args.moved c.args.index T (local_types c.in-Behind.older.now) e)
    ∙ sym (ap (λ l. shifted c.args.moved (type_at (local_types l) c.args.index)) c.in-Behind.is)) c.moved.ensures

pub returns-in-Some : goal.returns-in-Some
returns-in-Some t c =
    let T = type_tree c.in-Behind.ty in
    let Γ = local_types c.in-Behind.older.now in
    let e : c.args.index ≡ suc c.in-Some.index = omega arith in
    if_ok c.type_behind.result _ _ (λ u h. h
    ∙ ap (λ (k : ℕ). shifted k (type_at Γ c.in-Some.index)) c.in_ok-moved-in-Behind.ensures
    ∙ sym (later_behind c.args.moved c.args.index c.in-Some.index T Γ e)
    ∙ sym (ap (λ l. shifted c.args.moved (type_at (local_types l) c.args.index)) c.in-Behind.is)) c.type_behind.ensures

pub returns-in-None-checked_sub-2 : goal.returns-in-None-checked_sub-2
returns-in-None-checked_sub-2 t c =
    if_ok c.unknown-in-None-checked_sub-2.result _ _ (λ u h. h
    ∙ sym (ap (shifted c.args.moved) (unmet c.in-Unmet.count c.args.index (local_types c.in-Unmet.older.now)
    (omega arith)))
    ∙ sym (ap (λ l. shifted c.args.moved (type_at (local_types l) c.args.index)) c.in-Unmet.is))
    c.unknown-in-None-checked_sub-2.ensures

pub returns-in-Some-checked_sub-2 : goal.returns-in-Some-checked_sub-2
returns-in-Some-checked_sub-2 t c =
    let e : c.args.index ≡ c.in-Unmet.count + c.in-Some-checked_sub-2.index = omega arith in
    if_ok c.type_behind-in-Some-checked_sub-2.result _ _ (λ u h. h
    ∙ sym (ap (shifted c.args.moved) (met c.in-Unmet.count c.args.index c.in-Some-checked_sub-2.index
    (local_types c.in-Unmet.older.now) e))
    ∙ sym (ap (λ l. shifted c.args.moved (type_at (local_types l) c.args.index)) c.in-Unmet.is))
    c.type_behind-in-Some-checked_sub-2.ensures
