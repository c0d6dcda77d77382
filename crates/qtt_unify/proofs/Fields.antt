-- The fields of constructors, behind their parameters.
use Rattle.std.proofs.Common.{◌≡◌, ℕ, zero, suc, List, [], ◌∷◌, length, Some, refl, sym, ap, ◌∙◌}
use Rattle.qtt_term.specs.declared.term.Term as code
use Rattle.qtt_term.specs.declared.term.ConId.{ConId}
use Rattle.qtt_term.specs.Term.{Form, Term, Terms, node, ◌+++◌, skip}
use Rattle.qtt_term.specs.Signature.{Env}
use Rattle.qtt_term.specs.Contraction.{Made, as_con}
use Rattle.qtt_term.specs.View.{terms, side_by_side}
use Rattle.qtt_unify.specs.Targets.{Scrutinee, all_solvable}
use Rattle.qtt_unify.specs.Equations.{equations}
use Rattle.qtt_unify.specs.Unread.{con_of}

pub length-terms : (ts : List code.Term) → length (terms ts) ≡ length ts
length-terms [] = refl
length-terms (t ∷ ts) = ap suc (length-terms ts)

skip-front : (ts : List Term) (ss : Terms) → skip (length ts) (side_by_side ts +++ ss) ≡ ss
skip-front [] ss = refl
skip-front (t ∷ ts) ss = skip-front ts ss

solvable-front : (E : Env) (S : Scrutinee) (ps : List Term) (ts : Terms) →
    all_solvable E S (side_by_side ps +++ ts) (length ps) ≡ all_solvable E S ts zero
solvable-front E S [] ts = refl
solvable-front E S (p ∷ ps) ts = solvable-front E S ps ts

pub solvable-behind : (E : Env) (S : Scrutinee) (ps : List code.Term) (ts : Terms) →
    all_solvable E S (side_by_side (terms ps) +++ ts) (length ps) ≡ all_solvable E S ts zero
solvable-behind E S ps ts =
    ap (all_solvable E S (side_by_side (terms ps) +++ ts)) (sym (length-terms ps)) ∙ solvable-front E S (terms ps) ts

equations-front : {F P : Type 0} (p : P) (n m : ℕ) (ps : List Term) (ts us : Terms) →
    equations {F = F} p n m (side_by_side ps +++ ts) us (length ps) ≡ equations p n m ts us zero
equations-front p n m [] ts us = refl
equations-front {F} p n m (q ∷ ps) ts us = equations-front {F = F} p n m ps ts us

pub equations-behind : {F P : Type 0} (p : P) (n m : ℕ) (ps : List code.Term) (ts us : Terms) →
    equations {F = F} p n m (side_by_side (terms ps) +++ ts) us (length ps) ≡ equations p n m ts us zero
equations-behind {F} p n m ps ts us =
    ap (equations {F = F} p n m (side_by_side (terms ps) +++ ts) us) (sym (length-terms ps)) ∙
    equations-front {F = F} p n m (terms ps) ts us

pub as_con-of : (c : ConId) (ps fs : List code.Term) →
    as_con (con_of c ps fs) ≡ Some (Made.made c.family c.place (side_by_side (terms fs)))
as_con-of c ps fs =
    ap (λ n. Some (Made.made c.family c.place (skip n (side_by_side (terms ps) +++ side_by_side (terms fs)))))
    (sym (length-terms ps)) ∙
    ap (λ ts. Some (Made.made c.family c.place ts)) (skip-front (terms ps) (side_by_side (terms fs)))

-- a constructor with its parameters counted as terms
pub counted : (c : ConId) (ps fs : List code.Term) →
    node (Form.con c.family c.place (length (terms ps))) (side_by_side (terms ps) +++ side_by_side (terms fs))
    ≡ con_of c ps fs
counted c ps fs =
    ap (λ n. node (Form.con c.family c.place n) (side_by_side (terms ps) +++ side_by_side (terms fs))) (length-terms ps)
