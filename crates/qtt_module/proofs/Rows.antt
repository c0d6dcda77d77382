-- The worked examples of modules, computed.
use Rattle.std.proofs.Common.{refl}
use Rattle.qtt_term.specs.Contraction.{contract}
use Rattle.qtt_term.specs.Question.{same_form}
use Rattle.qtt_term.specs.Ask.{◌>>=◌, asked_at, on_head, on_answer, within}
use Rattle.qtt_term.specs.Premises.{need}
use Rattle.qtt_term.specs.Infer as core
use Rattle.qtt_unify.specs.Equations.{constructor_verdict}
use Rattle.qtt_unify.specs.Deletion.{deletion}
use Rattle.qtt_split.specs.Motive.{motive}
use Rattle.qtt_split.specs.Split.{division, level_of, split_by, delete_by, split_at}
use Rattle.qtt_split.specs.Plan.{grow, plan}
use Rattle.qtt_split.specs.Group.{side_at, tree_of, body_holds}
use Rattle.qtt_bidi.specs.Premises.{fit}
use Rattle.qtt_module.specs.Sides.{side_or_hole, end_group, group_of}
use Rattle.qtt_module.specs.Module.{declare, next, in_turn}
use Rattle.qtt_module.specs.Rows.{ModuleRows}

pub module_rows_hold : ModuleRows
unfolding contract same_form ◌>>=◌ on_head on_answer within asked_at need core.agree core.sort_of core.function_of
    core.family_of core.unbound fit constructor_verdict deletion motive division level_of split_by delete_by split_at
    grow plan side_at tree_of body_holds side_or_hole end_group group_of declare next in_turn
module_rows_hold = record {
  says_hello = refl;
  one_hole = refl;
  other_clause = refl;
  hole_and_missing = refl;
  no_clauses = refl;
  items_come_first = refl;
  body_first = refl;
  signatures_first = refl;
  body_last = refl;
  spent_later = refl;
  with_numbers = refl;
  of_zero = refl;
  main_of_hello = refl;
  no_main = refl;
}
