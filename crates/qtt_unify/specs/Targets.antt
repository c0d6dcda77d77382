-- The targets of a split: its variable's indices as they are read, and which of their variables an equation may
-- solve.
use Rattle.std.specs.Prelude.{ℕ, zero, suc, Bool, true, false, ◌&&◌, not, cond, eqb, [], Option, Some, None}
use Rattle.qtt_usage.specs.declared.mult.Mult.{Mult}
use Rattle.qtt_usage.specs.Mult.{𝟘, 𝟙, ω}
use Rattle.qtt_term.specs.Term.{Form, Term, Terms, var, node, ε, ◌▸◌}
use Rattle.qtt_term.specs.Signature.{Env, family_at}
use Rattle.qtt_term.specs.Judgement.{Ctx, mult_at}
use Rattle.qtt_term.specs.Reading.{all_occurrences, is_plain}
use Rattle.qtt_term.specs.Ask.{Ask, ◌>>=◌}
use Rattle.qtt_term.specs.Premises.{reading_of}

-- what is split: a variable of a context, whose family is at these parameters and at these indices, which were read
-- as the targets
pub record Scrutinee : Type 0 where
  pub context : Ctx
  pub variable : ℕ
  pub params : Terms
  pub indices : Terms
  pub targets : Terms

-- the readings of indices, which stand under n variables
abbrev pub readings : {F P : Type 0} → P → ℕ → Terms → Ask F P Terms
readings p n ε = Ask.done ε
readings p n (t ▸ ts) = do
  r ← reading_of p n t
  rs ← readings p n ts
  Ask.done (r ▸ rs)

abbrev pub is_linear : Mult → Bool
is_linear 𝟘 = false
is_linear 𝟙 = true
is_linear ω = false

-- a variable that occurs once in all targets, is not linear, is not the one that is split, and occurs in no parameter
abbrev pub is_free : Scrutinee → ℕ → Bool
is_free S i =
    eqb (all_occurrences [] i S.targets) 1 &&
    (not (is_linear (mult_at S.context i)) &&
    (not (eqb i S.variable) && eqb (all_occurrences [] i S.params) 0))

-- built of free variables and of constructors of plain families; what stands at a constructor's parameters does not
-- matter
abbrev mutual
  pub solvable : Env → Scrutinee → Term → Bool
  solvable E S (var i) = is_free S i
  solvable E S (node (Form.con f c k) ts) = is_plain (family_at E f) && all_solvable E S ts k
  solvable E S (node F ts) = false

  -- behind so many
  pub all_solvable : Env → Scrutinee → Terms → ℕ → Bool
  all_solvable E S ε k = true
  all_solvable E S (t ▸ ts) (suc k) = all_solvable E S ts k
  all_solvable E S (t ▸ ts) zero = solvable E S t && all_solvable E S ts zero

-- the first result index whose target is not solvable, and the index of the split variable's type beside it
abbrev pub unsolvable : Env → Scrutinee → Terms → Terms → Terms → Option (Term × Term)
unsolvable E S (t ▸ ts) (i ▸ is) (u ▸ us) = cond (solvable E S t) (unsolvable E S ts is us) (Some (u, i))
unsolvable E S _ _ _ = None
