-- Closure-converted terms. A function stands in a program under its number; in a term stands a closure, which is
-- that number with the captured values. The variables of a function's body are the captured ones, the outermost
-- first, and then the argument if there is one.
use Rattle.std.specs.Prelude.{ℕ, ◌+◌, List, [], Option, Some, None, cond, eqb, ◌&&◌}
use Rattle.qtt_term.specs.Contraction.{chain}
use Rattle.qtt_erase.specs.Binding.{Tree, ∅, ◌◂◌, ◌◂◂◌, size, push, sub}
use Rattle.qtt_erase.specs.Operator.{Operator, binders_of, Code, Codes}
use Rattle.qtt_erase.specs.Step.{Functions, Bodies, Outcome, next}

-- the number of a function, and how many values it captured, which are its components
pub record Closure : Type 0 where
  pub number : ℕ
  pub captured : ℕ

abbrev pub FlatTerm : Type 0
FlatTerm = Code Closure

abbrev pub FlatTerms : Type 0
FlatTerms = Codes Closure

-- how many variables are captured, how many arguments are taken, 1 or 0, and a body under all of these
pub record Function : Type 0 where
  pub captured : ℕ
  pub takes : ℕ
  pub body : FlatTerm

abbrev pub Program : Type 0
Program = ℕ → Option Function

-- no component of a closure stands under a binder
abbrev pub no_binders : Closure → List ℕ
no_binders c = []

abbrev pub binders : Operator Closure → List ℕ
binders = binders_of no_binders

-- the body, with captured values and arguments in the place of its variables
abbrev pub enter : ℕ → FlatTerms → Function → Option FlatTerm
enter n vs F = cond (eqb n F.takes && eqb (size vs) (F.captured + n))
    (Some (sub binders (push vs Tree.var) F.body)) None

-- captured values are kept as they are
abbrev pub closures : Program → Functions Closure
closures P = record {
  binders = no_binders;
  waiting = λ c. c.captured;
  called = λ c vs a. chain (P c.number) (enter 1 (vs ◂◂ a ◂ ∅));
  forced = λ c vs. chain (P c.number) (enter 0 vs);
}

-- one step of a term of a program, where definitions have these bodies
abbrev pub flat_step : Program → Bodies Closure → FlatTerm → Outcome FlatTerm
flat_step P = next (closures P)
