-- The worked examples of readings, computed.
use Rattle.std.proofs.Common.{◌≡◌, ℕ, zero, suc, Option, Some, None, refl, ap, ◌∙◌}
use Rattle.qtt_term.specs.Term.{Form, Term, node, ε, ◌▸◌}
use Rattle.qtt_term.specs.Contraction.{contract}
use Rattle.qtt_term.specs.Question.{Head, either, wrap}
use Rattle.qtt_term.specs.Reading.{read_step, read_from}
use Rattle.qtt_term.specs.Ask.{on_head, within}
use Rattle.qtt_term.specs.Programs.{item, s}
use Rattle.qtt_term.specs.ReadingRows.{w, endless, ReadingRows}
use Rattle.qtt_term.proofs.Reading.{read-on, read-out}

-- S of S and so on of w
abbrev tower : ℕ → Term
tower zero = w
tower (suc k) = s (tower k)

tower-step : (k : ℕ) → read_step endless (tower k) ≡ Some (tower (suc k))
unfolding contract
tower-step zero = refl
tower-step (suc k) =
    ap (λ (o : Option Term). wrap (node (Form.con (item 0) 1 0)) (either (wrap (λ t. t ▸ ε) o) None)) (tower-step k)

tower-spent : (n made k : ℕ) → read_from endless n made (tower k) ≡ Head.spent
tower-spent zero made k = read-out endless made (tower k) (tower (suc k)) (tower-step k)
tower-spent (suc n) made k =
    read-on endless n made (tower k) (tower (suc k)) (tower-step k) ∙ tower-spent n (suc made) (suc k)

pub reading_rows_hold : ReadingRows
unfolding contract on_head within
reading_rows_hold = record {
  numbers_are_plain = refl;
  lines_are_plain = refl;
  vectors_are_not = refl;
  equalities_are_not = refl;
  some_is_not = refl;
  head_in_four = refl;
  sum_in_eight = refl;
  sum_in_seven = refl;
  vector_in_none = refl;
  endless_head = refl;
  endless_reading = λ n. tower-spent n 0 0;
  endless_question = refl;
}
