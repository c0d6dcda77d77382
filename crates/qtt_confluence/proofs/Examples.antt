-- The examples hold.
use Rattle.std.proofs.Common.{◌≡◌, refl, subst}
use Rattle.qtt_usage.specs.Mult.{ω}
use Rattle.qtt_term.specs.Term.{PrimTy, Term, ε, Pi}
use Rattle.qtt_term.specs.Substitution.{Closed}
use Rattle.qtt_term.specs.Signature.{Env, IntTy}
use Rattle.qtt_term.specs.Contraction.{BodiesClosed, Step, Steps, Reduces, Conv, contract}
use Rattle.qtt_term.specs.Question.{same_form}
use Rattle.qtt_term.proofs.Options.{some-injective}
use Rattle.qtt_confluence.specs.Examples.{identity_of, arrow_of, ConversionTells, OtherContractions, TwoWays, ComparisonTells}
use Rattle.qtt_confluence.specs.Laws.{DefinitionsTell}
use Rattle.qtt_confluence.proofs.Injective.{prim_ty_injective}

step-identity : (E : Env) (a : Term) → Step E (identity_of a) a
unfolding contract
step-identity E a = Step.here refl

step-arrow : (E : Env) → Step E (arrow_of (identity_of IntTy)) (Pi ω (identity_of IntTy) (identity_of IntTy))
unfolding contract
step-arrow E = Step.here refl

step-arrow_int : (E : Env) → Step E (arrow_of IntTy) (Pi ω IntTy IntTy)
unfolding contract
step-arrow_int E = Step.here refl

int-is-not-string : PrimTy.int ≡ PrimTy.string → ⊥
int-is-not-string e = cc e

conversion-tells : (E : Env) → BodiesClosed E → ConversionTells E
conversion-tells E bodies = record {
  convertible = Conv.by_step (step-identity E IntTy);
  not_the_same = λ e. absurd (cc e);
  not_convertible =
      λ c. int-is-not-string (prim_ty_injective E bodies PrimTy.int PrimTy.string ε ε
      (Conv.thence (Conv.back (Conv.by_step (step-identity E IntTy))) c)).0;
}

other-contractions : (E : Env) → OtherContractions E
unfolding contract
other-contractions E = record {
  deletion = λ A s P b. Step.here refl;
  bodies_closed = λ d b e. subst Closed (some-injective e) tt;
  delta = λ d. Step.here refl;
}

two-ways : (E : Env) → TwoWays E
two-ways E = record {
  outside = step-arrow E;
  inside = Step.inside (Steps.after (Steps.at (step-identity E IntTy)));
  different = λ e. absurd (cc e);
  outside_meets =
      Reduces.then (Step.inside (Steps.at (step-identity E IntTy)))
      (Reduces.then (Step.inside (Steps.after (Steps.at (step-identity E IntTy)))) Reduces.done);
  inside_meets = Reduces.then (step-arrow_int E) Reduces.done;
}

comparison-tells : (E : Env) → ComparisonTells E
unfolding contract same_form
comparison-tells E = record { equal = refl; spent = refl; different = refl }

pub definitions-tell : DefinitionsTell
definitions-tell E bodies = (conversion-tells E bodies, other-contractions E, two-ways E, comparison-tells E)
