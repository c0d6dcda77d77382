-- What the making of case trees is given in code, and what its calls ensure.
use Rattle.std.specs.Prelude.{ℕ, map, Result}
use Rattle.qtt_base.specs.declared.place.Span.{Span}
use Rattle.qtt_syntax.specs.declared.module.Clause as code_clause
use Rattle.qtt_syntax.specs.View.{tree_of, shape_of}
use Rattle.qtt_term.specs.declared.rule.Rule.TheVariants as rule
use Rattle.qtt_term.specs.Contexts.{part}
use Rattle.qtt_term.specs.Entries.{entries, env}
use Rattle.qtt_term.specs.Forms.{Function}
use Rattle.qtt_term.specs.Telescopes.{tele}
use Rattle.qtt_term.specs.View.{term}
use Rattle.qtt_rules.specs.declared.detail.Detail.TheVariants as detail
use Rattle.qtt_rules.specs.declared.errors.ElabError.{ElabError}
use Rattle.qtt_rules.specs.declared.errors.ElabError.TheVariants as error
use Rattle.qtt_rules.specs.Asks.{Asks}
use Rattle.qtt_unify.specs.declared.error.UnifyError.{UnifyError}
use Rattle.qtt_unify.specs.declared.error.UnifyError.TheVariants as unify_error
use Rattle.qtt_split.specs.declared.planner.Test as code_test
use Rattle.qtt_split.specs.declared.planner.Test.TheVariants as code
use Rattle.qtt_split.specs.declared.planner.Planner.{Planner}
use Rattle.qtt_split.specs.declared.opening.Opened as code_opened
use Rattle.qtt_split.specs.declared.opening.FunctionType.{FunctionType}
use Rattle.qtt_split.specs.Answers.{Gives}
use Rattle.qtt_split.specs.Node.{Clause}
use Rattle.qtt_split.specs.Plan.{Opened}
use Rattle.qtt_split.specs.Split.{Group}
use Rattle.qtt_split.specs.Tests.{Test, number_of}

abbrev pub test_of : code_test.Test → Test
test_of code.OneWidth = Test.one_width
test_of code.Arities = Test.arities
test_of code.Opens = Test.opens
test_of code.OnVariable = Test.on_variable
test_of code.OfFamily = Test.of_family
test_of code.Usable = Test.usable
test_of code.Equations = Test.equations
test_of code.Deletion = Test.deletion
test_of code.Endpoints = Test.endpoints
test_of code.Parameters = Test.parameters
test_of code.Level = Test.level
test_of code.Leaves = Test.leaves

-- where a question of unification is spent, at a place
abbrev pub told_as : ℕ → Span → code_test.Test → UnifyError → ElabError
told_as b s t (unify_error.Spent q) = error.Refused (detail.BudgetSpent b q) s rule.Clauses (number_of (test_of t))
told_as b s t unify_error.Memory = error.Memory

abbrev pub clause_of : code_clause.Clause → Clause
clause_of c = record { patterns = map shape_of c.patterns.items; side = tree_of c.side; span = c.span }

abbrev pub group_of : {C : Type 0} → Planner C → Group
group_of K = record {
  globals = entries K.unifier.globals.now;
  part = part K.sigma;
  clauses = map clause_of K.clauses.now;
  first = K.first;
  limit = K.limit;
}

abbrev pub function_of : FunctionType → Function
function_of f = record { mult = f.mult; domain = term f.domain; codomain = term f.codomain }

abbrev pub opened_of : code_opened.Opened → Opened
opened_of O = record { binders = tele O.binders.items; goal = term O.goal }

-- a call answers as this list of questions ends within the planner's budget
abbrev pub Answers : {C X A : Type 0} → Planner C → Asks A → (X → A) → Result X ElabError → Type 0
Answers K m view result = Gives (env (entries K.unifier.globals.now)) K.unifier.budget m view result
