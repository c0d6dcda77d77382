-- The tests of a group of clauses, in the order in which they are made at one place.
use Rattle.std.specs.Prelude.{ℕ}
use Rattle.qtt_base.specs.declared.place.Span.{Span}
use Rattle.qtt_rules.specs.Refusal.{Place}
use Rattle.qtt_rules.specs.Report.{uses_number}
use Rattle.qtt_term.specs.declared.rule.Rule.TheVariants as rule

pub data Test : Type 0 where
  -- each clause has as many patterns as the first; each constructor has as many as it has fields; the type opens so
  -- often
  one_width arities opens : Test
  -- a constructor pattern stands on a variable, whose family has the constructor, and which is not at 0 in the run part
  on_variable of_family usable : Test
  -- the index equations; the comparison of a deletion; then its type and point, or a split's parameters, mention
  -- nothing reverted
  equations deletion endpoints parameters : Test
  -- the level of the goal; the number of leaves
  level leaves : Test
  -- all values are covered, and all clauses are reached; the dot patterns and the uses of a clause; the body, judged
  -- once more
  covered reached dots uses body : Test

abbrev pub number_of : Test → ℕ
number_of Test.one_width = 1
number_of Test.arities = 2
number_of Test.opens = 3
number_of Test.on_variable = 4
number_of Test.of_family = 5
number_of Test.usable = 6
number_of Test.equations = 7
number_of Test.deletion = 8
number_of Test.endpoints = 9
number_of Test.parameters = 10
number_of Test.level = 11
number_of Test.leaves = 12
number_of Test.covered = 13
number_of Test.reached = 14
number_of Test.dots = 15
number_of Test.uses = uses_number
number_of Test.body = 17

abbrev pub at : Span → Test → Place
at s t = record { span = s; rule = rule.Clauses; number = number_of t }
