-- The number of constructor patterns in patterns and clauses, one after another.
use Rattle.std.proofs.Common.{◌≡◌, ◌+◌, List, [], ◌∷◌, ◌++◌, refl, ap, arith}
use Rattle.std.proofs.lemmas.Grind.{common_steps}
use Rattle.qtt_syntax.specs.declared.pattern.Pattern.{the_lemmas}
use Rattle.qtt_syntax.specs.Tree.{Shape, shapes}
use Rattle.qtt_split.specs.Node.{Clause, constructors_in, constructors_among, constructors_of, all_constructors}

pub among-fields : (ps : List Shape) → constructors_among (shapes ps) ≡ constructors_of ps
among-fields [] = refl
among-fields (p ∷ ps) = ap (λ n. constructors_in p + n) (among-fields ps)

pub one-pattern : (ps : List Shape) (p : Shape) →
    constructors_of (ps ++ p ∷ []) ≡ constructors_of ps + constructors_in p
one-pattern [] p = omega arith
one-pattern (q ∷ ps) p =
    let so : constructors_of (ps ++ p ∷ []) ≡ constructors_of ps + constructors_in p = one-pattern ps p in
    omega (arith, so)

pub one-clause : (cs : List Clause) (c : Clause) →
    all_constructors (cs ++ c ∷ []) ≡ all_constructors cs + constructors_of c.patterns
one-clause [] c = omega arith
one-clause (d ∷ cs) c =
    let so : all_constructors (cs ++ c ∷ []) ≡ all_constructors cs + constructors_of c.patterns = one-clause cs c in
    omega (arith, so)

pub ruleset numbering = (
  the_lemmas,
  common_steps,
  among-fields,
  one-pattern,
  one-clause,
)
