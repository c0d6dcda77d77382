use Rattle.std.proofs.Common.{◌≡◌, [], ◌∷◌, refl, ◌∙◌}
use Rattle.qtt_term.specs.Items.{family_entry}
use Rattle.qtt_term.specs.PrimItems.{unit_entry, bool_entry, line_entry, eq_entry, prim_families}
use Rattle.qtt_term.specs.Globals.{families}
use Rattle.qtt_term.proofs.PrimGlobals.{is_new, counted, added, three_in, prim_is}
use Rattle.qtt_term.proofs.globals.Globals.prim.Goals as goal

pub add_family-requires-clause-new_ids : goal.add_family-requires-clause-new_ids
add_family-requires-clause-new_ids c =
    is_new c.new-globals.result (family_entry c.in_ok-unit_family.field-0) unit_entry []
    c.new-globals.ensures.families c.new-globals.ensures.definitions
    c.in_ok-unit_family.ensures refl refl refl

pub add_family-requires-4-clause-new_ids : goal.add_family-requires-4-clause-new_ids
add_family-requires-4-clause-new_ids c =
    let three =
    three_in (families c.new-globals.result) (families c.add_family.new.self) (families c.add_family-2.new.self)
    (families c.add_family-3.new.self)
    (family_entry c.in_ok-unit_family.field-0) (family_entry c.in_ok-bool_family.field-0)
    (family_entry c.in_ok-line_family.field-0) c.new-globals.ensures.families
    c.in_ok-add_family.ensures.ok c.in_ok-unit_family.ensures c.in_ok-add_family-2.ensures.ok
    c.in_ok-bool_family.ensures c.in_ok-add_family-3.ensures.ok c.in_ok-line_family.ensures in
    is_new c.add_family-3.new.self (family_entry c.in_ok-eq_family.field-0) eq_entry
    (unit_entry ∷ bool_entry ∷ line_entry ∷ []) three
    (c.add_family-3.ensures.definitions ∙ c.add_family-2.ensures.definitions ∙ c.add_family.ensures.definitions ∙
    c.new-globals.ensures.definitions)
    c.in_ok-eq_family.ensures refl refl refl

all_in : (c : goal.In_ok-add_family-4) → families c.add_family-4.new.self ≡ prim_families
all_in c =
    let three =
    three_in (families c.new-globals.result) (families c.add_family.new.self) (families c.add_family-2.new.self)
    (families c.add_family-3.new.self)
    (family_entry c.in_ok-unit_family.field-0) (family_entry c.in_ok-bool_family.field-0)
    (family_entry c.in_ok-line_family.field-0) c.new-globals.ensures.families
    c.in_ok-add_family.ensures.ok c.in_ok-unit_family.ensures c.in_ok-add_family-2.ensures.ok
    c.in_ok-bool_family.ensures c.in_ok-add_family-3.ensures.ok c.in_ok-line_family.ensures in
    added (families c.add_family-4.new.self) (families c.add_family-3.new.self)
    (unit_entry ∷ bool_entry ∷ line_entry ∷ []) (family_entry c.in_ok-eq_family.field-0) eq_entry
    c.in_ok-add_family-4.ensures.ok c.in_ok-eq_family.ensures three

pub returns-clause-families : goal.returns-clause-families
returns-clause-families c = all_in c

pub returns-clause-env : goal.returns-clause-env
returns-clause-env c =
    prim_is c.add_family-4.new.self (all_in c)
    (c.add_family-4.ensures.definitions ∙ c.add_family-3.ensures.definitions ∙
    c.add_family-2.ensures.definitions ∙ c.add_family.ensures.definitions ∙ c.new-globals.ensures.definitions)

pub add_family-requires-clause-counted : goal.add_family-requires-clause-counted
add_family-requires-clause-counted c =
    counted (family_entry c.in_ok-unit_family.field-0) unit_entry c.in_ok-unit_family.ensures refl

pub add_family-requires-2-clause-counted : goal.add_family-requires-2-clause-counted
add_family-requires-2-clause-counted c =
    counted (family_entry c.in_ok-bool_family.field-0) bool_entry c.in_ok-bool_family.ensures refl

pub add_family-requires-3-clause-counted : goal.add_family-requires-3-clause-counted
add_family-requires-3-clause-counted c =
    counted (family_entry c.in_ok-line_family.field-0) line_entry c.in_ok-line_family.ensures refl

pub add_family-requires-4-clause-counted : goal.add_family-requires-4-clause-counted
add_family-requires-4-clause-counted c =
    counted (family_entry c.in_ok-eq_family.field-0) eq_entry c.in_ok-eq_family.ensures refl
