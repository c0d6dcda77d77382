-- Literals as components.
use Rattle.std.proofs.Common.{◌≡◌, List, [], ◌∷◌, ◌++◌, map, length, refl, sym, ◌∙◌, ap, subst, arith}
use mathlib.Core.Path.{ap₂}
use Rattle.qtt_prims.specs.declared.prim.Primitive.{Primitive}
use Rattle.qtt_prims.specs.declared.lit.Lit.{Lit}
use Rattle.qtt_term.specs.declared.term.Term as code
use Rattle.qtt_term.specs.declared.term.Term.{the_lemmas}
use Rattle.qtt_term.specs.declared.term.Term.TheVariants as code_term
use Rattle.qtt_term.specs.Term.{Term, Terms, ε, ◌▸◌, ◌+++◌, Call}
use Rattle.qtt_term.specs.View.{term, terms, side_by_side}
use Rattle.qtt_term.specs.Contraction.{literal_term}
use Rattle.qtt_conv.specs.Frames.{literal_terms, IsFocus}

-- one literal more
pub literal_pushed : (ls : List Lit) (l : Lit) (ts : Terms) →
    literal_terms (ls ++ l ∷ []) +++ ts ≡ literal_terms ls +++ (literal_term l ▸ ts)
literal_pushed [] l ts = refl
literal_pushed (k ∷ ls) l ts = ap (λ ss. literal_term k ▸ ss) (literal_pushed ls l ts)

literal-seen : (l : Lit) → term (code_term.Lit l) ≡ literal_term l
literal-seen l = grind (arith, the_lemmas)

-- literals, one more term, and others
pub literals_and_others : (ls : List Lit) (t : code.Term) (ts : List code.Term) →
    side_by_side (terms ((map (λ l. code_term.Lit l) ls ++ t ∷ []) ++ ts)) ≡ literal_terms ls +++
    (term t ▸ side_by_side (terms ts))
literals_and_others [] t ts = refl
literals_and_others (l ∷ ls) t ts = ap₂ ◌▸◌ (literal-seen l) (literals_and_others ls t ts)

literals-alone : (ls : List Lit) → literal_terms ls +++ ε ≡ literal_terms ls
literals-alone [] = refl
literals-alone (l ∷ ls) = ap (λ ss. literal_term l ▸ ss) (literals-alone ls)

-- a primitive with nothing behind the literals in front
pub call-is_focus : (p : Primitive) (args : List code.Term) (ls : List Lit) (rest : List code.Term) (t : Term) →
    t ≡ Call p (side_by_side (terms args)) →
    side_by_side (terms args) ≡ literal_terms ls +++ side_by_side (terms rest) → length rest ≡ 0 → IsFocus t
call-is_focus p args ls [] t is parts e = subst IsFocus (sym is) (ls, parts ∙ literals-alone ls)
call-is_focus p args ls (r ∷ rest) t is parts e = absurd (omega arith)
