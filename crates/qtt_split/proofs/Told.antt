-- The patterns of a clause.
use Rattle.std.proofs.Common.{◌≡◌, ℕ, zero, suc, ◌<◌, ◌≤◌, List, [], ◌∷◌, length, get_or, map, refl, ap, arith}
use Rattle.qtt_syntax.specs.declared.module.Clause as code_clause
use Rattle.qtt_syntax.specs.View.{shape_of}
use Rattle.qtt_split.specs.Calls.{clause_of}
use Rattle.qtt_split.specs.Plan.{patterns_at}

pub clause-there : (cs : List code_clause.Clause) (n : ℕ) (c : code_clause.Clause) → n < length cs → c ≡ get_or cs n c →
    map shape_of c.patterns.items ≡ patterns_at (map clause_of cs) n
clause-there [] n c h e = absurd (omega arith)
clause-there (d ∷ cs) zero c h e = ap (λ (x : code_clause.Clause). map shape_of x.patterns.items) e
clause-there (d ∷ cs) (suc n) c h e = clause-there cs n c (omega arith) e

pub no-clause : (cs : List code_clause.Clause) (n : ℕ) → length cs ≤ n → [] ≡ patterns_at (map clause_of cs) n
no-clause [] n h = refl
no-clause (d ∷ cs) zero h = absurd (omega arith)
no-clause (d ∷ cs) (suc n) h = no-clause cs n (omega arith)
