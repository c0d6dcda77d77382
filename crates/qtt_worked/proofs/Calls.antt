-- What computes a call from the bytes of a text.
use Rattle.std.specs.Prelude.{⊤}
use Rattle.std.specs.Fmt.{digits}
use Rattle.qtt_names.specs.Answer.{◌>>=◌ as ◌in_names◌}
use Rattle.qtt_names.specs.Target.{look_up, global}
use Rattle.qtt_names.specs.Resolved.{filled_item}
use Rattle.qtt_implicit.specs.Filling.{◌>>=◌ as ◌in_filling◌}
use Rattle.qtt_implicit.specs.Filled.{walk_item}
use Rattle.qtt_term.specs.Contraction.{contract}
use Rattle.qtt_term.specs.Question.{same_form}
use Rattle.qtt_term.specs.Ask.{◌>>=◌ as ◌asked◌, asked_at, on_head, on_answer, within}
use Rattle.qtt_term.specs.Premises.{need}
use Rattle.qtt_term.specs.Infer as core
use Rattle.qtt_split.specs.Plan.{grow, plan}
use Rattle.qtt_split.specs.Group.{side_at, tree_of, body_holds}
use Rattle.qtt_bidi.specs.Premises.{fit}
use Rattle.qtt_core_print.specs.Names.{family_name, definition_name, constructor_name}
use Rattle.qtt_core_print.specs.Printing.{binding, match_head, motive_text}
use Rattle.qtt_holes.specs.HoleText.{hole_text}
use Rattle.qtt_load.specs.Loading.{loaded}
use Rattle.qtt_module.specs.Refused.{◌>>=◌ as ◌in_judging◌}
use Rattle.qtt_module.specs.Sides.{side_or_hole, end_group, group_of}
use Rattle.qtt_module.specs.Module.{declare, next, in_turn}
use Rattle.qtt_build.specs.Built.{all_accepted, built_by_rank}
use Rattle.qtt_build.specs.Build.{◌>>=◌ as ◌in_builds◌, build}
use Rattle.qtt_outcome.specs.Stop.{◌>>=◌ as ◌in_calls◌}
use Rattle.qtt_outcome.specs.Outcome.{put}
use Rattle.qtt_load.specs.Reading.{tree_of_text, tree_of_module}
use Rattle.qtt_outcome.specs.Outcome.{worked}
use Rattle.qtt_worked.proofs.Reading.{on_tokens, on_trees}

unfoldable pub on_calls : ⊤
unfolding digits ◌in_names◌ look_up global filled_item ◌in_filling◌ walk_item contract same_form ◌asked◌ asked_at
    on_head on_answer within need core.agree core.sort_of core.function_of core.family_of core.unbound fit grow plan
    side_at tree_of body_holds family_name definition_name constructor_name binding match_head motive_text hole_text
    loaded ◌in_judging◌ side_or_hole end_group group_of declare next in_turn all_accepted built_by_rank ◌in_builds◌
    build ◌in_calls◌ put
on_calls = tt

unfoldable pub on_texts : ⊤
unfolding on_tokens on_trees on_calls tree_of_text tree_of_module worked
on_texts = tt
