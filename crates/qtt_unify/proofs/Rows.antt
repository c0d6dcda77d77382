-- The worked index equations, computed.
use Rattle.std.proofs.Common.{refl}
use Rattle.qtt_term.specs.Contraction.{contract}
use Rattle.qtt_term.specs.Question.{same_form}
use Rattle.qtt_term.specs.Ask.{◌>>=◌, within, on_head, on_answer}
use Rattle.qtt_unify.specs.Equations.{constructor_verdict}
use Rattle.qtt_unify.specs.Deletion.{deletion}
use Rattle.qtt_unify.specs.Problems.{solve}
use Rattle.qtt_unify.specs.Rows.{EquationRows}

pub equation_rows_hold : EquationRows
unfolding contract same_form ◌>>=◌ within on_head on_answer constructor_verdict deletion solve
equation_rows_hold = record {
  solved_by_field = refl;
  zero_clashes = refl;
  sum_sticks = refl;
  sum_spent = refl;
  sum_solves = refl;
  endless_solves = refl;
  linear_point = refl;
  twice = refl;
  split_itself = refl;
  same_point = refl;
  equal_point = refl;
  added_point = refl;
  compared = refl;
  other_point = refl;
  next_point = refl;
  endless_index = refl;
  clash_behind_stuck = refl;
  clash_before_stuck = refl;
  first_stuck = refl;
  spent_behind_clash = refl;
  nested_clash = refl;
  nested_stuck = refl;
  index_as_it_stands = refl;
  vector_index = refl;
  parameters_passed = refl;
  also_in_a_parameter = refl;
  field_solves = refl;
  under_fields = refl;
  vector_under_fields = refl;
}
