-- Worked examples of vectors: lengths are judged, and no run needs them.
use Rattle.std.specs.Prelude.{◌≡◌, [], ◌∷◌, codes}
use Rattle.qtt_usage.specs.Mult.{𝟙}
use Rattle.qtt_term.specs.Term.{Term, var, Pi}
use Rattle.qtt_term.specs.FullRun.{Event, Verdict, full}
use Rattle.qtt_term.specs.Question.{Answer, compare}
use Rattle.qtt_term.specs.Judgement.{Part}
use Rattle.qtt_term.specs.Ask.{Question, Ending, within}
use Rattle.qtt_term.specs.Infer.{infer}
use Rattle.qtt_term.specs.Programs.{item, io_unit, plus, z, s}
use Rattle.qtt_term.specs.Vectors.{vect, cons, append_type, append_body, total_type, total_body, fifteen, vectors, head_type, head_goal, head_body, judged_head_type}
use Rattle.qtt_term.specs.Rows.{shown, shows_so, default_steps, typed_so}

-- (1 ys : Vect a n) -> Vect a m, under five variables of which a is the oldest
abbrev pub arrow_to : Term → Term
arrow_to m = Pi 𝟙 (vect (var 4) (var 2)) (vect (var 5) m)

pub record VectorRows : Type 0 where
  -- plus Z n and plus (S k) n: delta, beta, beta and iota
  pub append_typed : within vectors 4 (infer vectors Part.run [] append_body) ≡ typed_so append_type
  pub append_in_three : within vectors 3 (infer vectors Part.run [] append_body) ≡
      Ending.spent tt (Question.compared 5 (arrow_to (var 3)) (arrow_to (plus z (var 3))))
  pub total_typed : within vectors 0 (infer vectors Part.run [] total_body) ≡ typed_so total_type
  pub main_typed : within vectors 0 (infer vectors Part.run [] fifteen) ≡ typed_so io_unit
  -- for each of three calls of append a delta, five betas, an iota and a beta; for each of four calls of total a
  -- delta, two betas and an iota; three sums, the number shown, and delta and put of the main
  pub run_ends : shown (full default_steps vectors (item 9) []) ≡
      shows_so Verdict.ended 46 (Event.line (codes "15") ∷ []) []
  -- the goal at a successor: iota and beta
  pub head_typed : within vectors 2 (infer vectors Part.run [] head_body) ≡ typed_so judged_head_type
  pub head_in_one : within vectors 1 (infer vectors Part.run [] head_body) ≡
      Ending.spent tt (Question.compared 6 (var 5) (head_goal 5 (s (var 2)) (cons (var 5) (var 2) (var 1) (var 0))))
  pub head_type_at_two : compare vectors 2 judged_head_type head_type ≡ Answer.equal
  pub head_type_at_one : compare vectors 1 judged_head_type head_type ≡ Answer.spent
