-- What the code's heads and answers stand for.
use Rattle.qtt_term.specs.declared.convert.Head as code_head
use Rattle.qtt_term.specs.declared.convert.Head.TheVariants as head_variant
use Rattle.qtt_term.specs.declared.convert.Answer as code_answer
use Rattle.qtt_term.specs.declared.convert.Answer.TheVariants as answer_variant
use Rattle.qtt_term.specs.Question.{Head, Answer}
use Rattle.qtt_term.specs.View.{term}

abbrev pub head : code_head.Head → Head
head (head_variant.Done t n) = Head.done (term t) n
head head_variant.Spent = Head.spent

abbrev pub answer : code_answer.Answer → Answer
answer answer_variant.Equal = Answer.equal
answer (answer_variant.Different path) = Answer.different path.items
answer answer_variant.Spent = Answer.spent
