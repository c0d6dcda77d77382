-- A slot that takes what is known, and one that does not take what is not.
use Rattle.std.proofs.Common.{◌≡◌, ◌∙◌, ◌∷◌, Some, ap, sym, subst, arith}
use Rattle.qtt_implicit.specs.Matching.{fill_slot}
use Rattle.qtt_implicit.specs.Slots.{IsSound, shared_tree, slot_list, weight_of}
use Rattle.qtt_implicit.proofs.Standing.{if_ok, known_weight, taken, not_taken}
use Rattle.qtt_implicit.proofs.filling.changing.+with_slot.Goals as goal

pub returns-in_ok-found-in-None : goal.returns-in_ok-found-in-None
returns-in_ok-found-in-None t c =
    let u = shared_tree c.args.text in
    let h = subst IsSound c.in-Empty.is c.requires.slots in
    let k = sym (known_weight c.in_ok-weight-in-None.weight u c.in_ok-weight-in-None.ensures) ∙ c.if-weight.true in
    let e : c.args.index ≡ 0 = omega arith in
    let found = c.in_ok-found-in-None.ensures in
    if_ok c.placed.result _ _ (λ r f. record {
      same =
          ap slot_list f ∙ ap (λ x. Some x ∷ slot_list c.in-Empty.older.now) found.0
          ∙ sym (taken u (slot_list c.in-Empty.older.now) c.args.index e k)
          ∙ sym (ap (λ s. fill_slot c.args.index u (slot_list s)) c.in-Empty.is);
      sound = subst IsSound (sym f) (
        c.in_ok-weight-in-None.ensures ∙ ap weight_of (sym found.0),
        (found.1.0, h),
      );
    }) c.placed.ensures

pub returns-else-weight : goal.returns-else-weight
returns-else-weight t c =
    let u = shared_tree c.args.text in
    let k = sym (known_weight c.in_ok-weight-in-None.weight u c.in_ok-weight-in-None.ensures) ∙ c.if-weight.false in
    let e : c.args.index ≡ 0 = omega arith in
    record {
      same =
          ap slot_list c.in-Empty.is ∙ sym (not_taken u (slot_list c.in-Empty.older.now) c.args.index e k)
          ∙ sym (ap (λ s. fill_slot c.args.index u (slot_list s)) c.in-Empty.is);
      sound = c.requires.slots;
    }
