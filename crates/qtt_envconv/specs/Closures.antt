-- What closures stand for.
use Rattle.std.specs.Prelude.{ℕ}
use Rattle.qtt_term.specs.Term.{Term, var, node}
use Rattle.qtt_term.specs.Substitution.{ren, lift, sub, cons, shift}
use Rattle.qtt_term.specs.View.{term}
use Rattle.qtt_envconv.specs.declared.closure.Values as values_code
use Rattle.qtt_envconv.specs.declared.closure.Values.TheVariants as from
use Rattle.qtt_envconv.specs.declared.closure.Referent as referent_code
use Rattle.qtt_envconv.specs.declared.closure.Referent.TheVariants as to
use Rattle.qtt_envconv.specs.declared.closure.Closure.{Closure}

-- the substitution that values are, and the term that a variable stands for
abbrev mutual
  pub values : values_code.Values → ℕ → Term
  values from.Own = var
  values (from.Bound' r p older) = cons (referent r) (values older)
  values (from.Under' p older) = lift (values older)
  values (from.Moved' by p older) = λ i. ren (shift by) (values older i)

  pub referent : referent_code.Referent → Term
  referent (to.Variable i) = var i
  referent (to.Closure' t p vs) = sub (values vs) (term t.now)

abbrev pub closure : Closure → Term
closure c = sub (values c.values.now) (term c.code.now)

abbrev pub IsForm : Term → Type 0
IsForm (var i) = ⊥
IsForm (node F ts) = Unit {0}

-- not a variable that stands for something else
abbrev pub IsFound : referent_code.Referent → Type 0
IsFound (to.Variable i) = Unit {0}
IsFound (to.Closure' t p vs) = IsForm (term t.now)
