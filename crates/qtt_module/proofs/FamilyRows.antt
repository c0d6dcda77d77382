-- The worked examples of families, signatures and mains, computed.
use Rattle.std.proofs.Common.{refl}
use Rattle.qtt_term.specs.Contraction.{contract}
use Rattle.qtt_term.specs.Question.{same_form}
use Rattle.qtt_term.specs.Ask.{◌>>=◌, asked_at, on_head, on_answer, within}
use Rattle.qtt_term.specs.Premises.{need}
use Rattle.qtt_term.specs.Infer as core
use Rattle.qtt_bidi.specs.Premises.{fit}
use Rattle.qtt_module.specs.FamilyRows.{FamilyRows, MainRows}

pub family_rows_hold : FamilyRows
unfolding contract same_form ◌>>=◌ on_head on_answer within asked_at need core.agree core.sort_of core.function_of
    core.family_of core.unbound fit
family_rows_hold = record {
  nat_declared = refl;
  vect_declared = refl;
  indices_beside = refl;
  parameter_no_type = refl;
  end_no_sort = refl;
  end_before_indices = refl;
  index_no_type = refl;
  field_no_type = refl;
  field_too_large = refl;
  named_too_large = refl;
  end_arguments = refl;
  end_at_other = refl;
  end_no_family = refl;
  not_positive = refl;
  positive_is_last = refl;
  signature_no_type = refl;
  signature_of_int = refl;
  core_no_type = refl;
  core_ill_typed = refl;
  core_too_large = refl;
}

pub main_rows_hold : MainRows
unfolding contract same_form ◌>>=◌ on_head on_answer within need
main_rows_hold = record {
  right = refl;
  missing = refl;
  at_zero = refl;
  other_type = refl;
  alias_in_one = refl;
  alias_in_none = refl;
}
