use Rattle.std.specs.Prelude.{refl}
use Rattle.qtt_names.specs.Answer.{◌>>=◌}
use Rattle.qtt_names.specs.Target.{global, look_up}
use Rattle.qtt_names.specs.Resolved.{filled_item}
use Rattle.qtt_names.proofs.examples.names_as_worked.Goals as goal

pub returns : goal.returns
unfolding filled_item global look_up ◌>>=◌
returns c = record {
  newest_binder_wins = refl;
  unnamed_binder_counts = refl;
  not_in_its_own_signature = refl;
  earlier_signature_is_seen = refl;
  two_imports = refl;
  qualified_name = refl;
  qualified_name_of_another = refl;
  qualified_own_name = refl;
  qualified_later_name = refl;
  qualified_prim = refl;
  constructor_not_in_its_family = refl;
  constructor_behind_its_family = refl;
  family_not_in_its_type = refl;
  index_is_in_no_scope = refl;
  index_counts = refl;
  dot_sees_later_variable = refl;
  wildcard_counts_nothing = refl;
  second_variable = refl;
  first_fault_in_text_order = refl;
  second_item = refl;
  clause_without_signature = refl;
  clauses_of_one_group = refl;
  second_group = refl;
  second_hole = refl;
  bound_name_is_seen_behind = refl;
  let_not_in_its_value = refl;
  signatures_of_prim_are_looked_up = refl;
}
