-- The worked examples, computed.
use Rattle.std.proofs.Common.{[], refl}
use Rattle.std.specs.Fmt.{digits}
use Rattle.std.specs.Str.{is_utf8, chars}
use lib.Utf8.{encode}
use Rattle.qtt_term.specs.Contraction.{contract, Conv}
use Rattle.qtt_term.specs.Question.{same_form}
use Rattle.qtt_term.specs.Ask.{◌>>=◌, asked_at, on_head, on_answer, within}
use Rattle.qtt_term.specs.Premises.{need}
use Rattle.qtt_term.specs.Infer as core
use Rattle.qtt_unify.specs.Equations.{constructor_verdict}
use Rattle.qtt_unify.specs.Deletion.{deletion}
use Rattle.qtt_split.specs.Motive.{motive}
use Rattle.qtt_split.specs.Split.{division, level_of, split_by, delete_by, split_at}
use Rattle.qtt_split.specs.Plan.{grow, plan}
use Rattle.qtt_split.specs.Group.{side_at, tree_of, body_holds, body_of}
use Rattle.qtt_split.specs.Relation.{Convs, Solves, Made, MadeBranches}
use Rattle.qtt_split.specs.Rows.{TreeRows, MadeRows}
use Rattle.qtt_split.specs.Bodies.{BodyRows, BodyRunRows}
use Rattle.qtt_split.specs.Refused.{RefusedRows}

pub tree_rows_hold : TreeRows
unfolding contract same_form ◌>>=◌ on_head on_answer within need constructor_verdict deletion motive division level_of
    split_by delete_by split_at grow plan
tree_rows_hold = record {
  of_plus = refl;
  of_append = refl;
  of_pred = refl;
  of_deletion = refl;
  first_end_of_pred = refl;
  patterns_of_pred = refl;
  nothing_missing = refl;
}

pub body_rows_hold : BodyRows
unfolding contract same_form ◌>>=◌ on_head on_answer within asked_at need core.agree core.sort_of core.function_of
    core.family_of core.unbound constructor_verdict deletion motive division level_of split_by delete_by split_at grow
    plan side_at tree_of body_holds body_of
body_rows_hold = record {
  of_plus = refl;
  of_append = refl;
  of_head = refl;
  of_pred = refl;
  of_cast = refl;
  of_deletion = refl;
  of_overlapping = refl;
  of_both = refl;
  two_cores = refl;
  solved_place = refl;
}

pub refused_rows_hold : RefusedRows
unfolding contract same_form ◌>>=◌ on_head on_answer within asked_at need core.agree core.sort_of core.function_of
    core.family_of core.unbound constructor_verdict deletion motive division level_of split_by delete_by split_at grow
    plan side_at tree_of body_holds body_of
refused_rows_hold = record {
  widths_differ = refl;
  fields_too_many = refl;
  opens_once = refl;
  on_no_variable = refl;
  no_such_constructor = refl;
  erased = refl;
  endless_reading = refl;
  cycle = refl;
  compared = refl;
  not_the_point = refl;
  point_reverted = refl;
  parameter_reverted = refl;
  two_leaves = refl;
  by_default = refl;
  not_covered = refl;
  not_reached = refl;
  dot_agrees = refl;
  dot_differs = refl;
  unused = refl;
  unused_field = refl;
  wrong_branch = refl;
  wrong_type = refl;
}

pub body_run_rows_hold : BodyRunRows
unfolding contract digits is_utf8 chars encode
body_run_rows_hold = record { first_of_three = refl; no_clause = refl; false_proof = refl }

pub made_rows_hold : MadeRows
made_rows_hold = record {
  plus_is_made =
      Made.split refl tt Conv.same refl Convs.none refl
      (MadeBranches.solved [] refl Solves.no_target refl (Made.leaf refl refl refl)
      (MadeBranches.solved [] refl Solves.no_target refl (Made.leaf refl refl refl)
      MadeBranches.none));
  append_is_made =
      Made.split refl (tt, tt) Conv.same refl (Convs.more Conv.same Convs.none) refl
      (MadeBranches.solved [] refl (Solves.solution Solves.no_target) refl (Made.leaf refl refl refl)
      (MadeBranches.solved [] refl (Solves.solution Solves.no_target) refl (Made.leaf refl refl refl)
      MadeBranches.none));
}
