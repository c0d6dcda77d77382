-- Findings one after the other: the last of what is left is the next.
use Rattle.std.proofs.Common.{◌≡◌, ℕ, false, cond, List, [], ◌∷◌, ◌++◌, map, reverse, sym, ap, ◌∙◌}
use Rattle.std.specs.List.{list_any}
use Rattle.std.proofs.lemmas.List.{map-append, reverse-append, reverse-reverse}
use Rattle.qtt_term.specs.declared.term.Term as code
use Rattle.qtt_term.specs.View.{term}
use Rattle.qtt_unify.specs.declared.equations.Found as code_found
use Rattle.qtt_unify.specs.declared.equations.Found.TheVariants as found_variant
use Rattle.qtt_unify.specs.Equations.{Verdict, is_clash, solution, verdict}
use Rattle.qtt_unify.specs.View.{found, solution as solution_of}

pub record Collecting (inner : ℕ) (all left : List code_found.Found) (s : List (ℕ × code.Term)) : Type 0 where
  pub is : solution inner (map found all) [] ≡ solution inner (map found (reverse left)) (map solution_of s)

pub none-collected : (inner : ℕ) (all left : List code_found.Found) (s : List (ℕ × code.Term)) →
    left ≡ reverse all → s ≡ [] → Collecting inner all left s
none-collected inner all left s e h = record {
  is = ap (λ xs. solution inner (map found xs) []) (sym (ap reverse e ∙ reverse-reverse all)) ∙
      ap (λ r. solution inner (map found (reverse left)) (map solution_of r)) (sym h);
}

last-first : (inner : ℕ) (front left : List code_found.Found) (x : code_found.Found) (s : List (ℕ × code.Term)) →
    left ≡ front ++ x ∷ [] →
    solution inner (map found (reverse left)) (map solution_of s)
    ≡ solution inner (found x ∷ map found (reverse front)) (map solution_of s)
last-first inner front left x s e =
    ap (λ xs. solution inner (map found (reverse xs)) (map solution_of s)) e ∙
    ap (λ xs. solution inner (map found xs) (map solution_of s)) (reverse-append front (x ∷ []))

pub one-solves : (inner : ℕ) (all front left : List code_found.Found) (i : ℕ) (t : code.Term)
    (s r : List (ℕ × code.Term)) → left ≡ front ++ found_variant.Solves i t ∷ [] → r ≡ s ++ (i, t) ∷ [] →
    Collecting inner all left s → Collecting inner all front r
one-solves inner all front left i t s r e h c = record {
  is = c.is ∙ last-first inner front left (found_variant.Solves i t) s e ∙
      ap (λ ss. solution inner (map found (reverse front)) ss)
      (sym (map-append solution_of s ((i, t) ∷ [])) ∙ ap (map solution_of) (sym h));
}

pub one-clashes : (inner : ℕ) (all front left : List code_found.Found) (s : List (ℕ × code.Term)) →
    left ≡ front ++ found_variant.Clashes ∷ [] → Collecting inner all left s → Collecting inner all front s
one-clashes inner all front left s e c = record { is = c.is ∙ last-first inner front left found_variant.Clashes s e }

without_clash : (inner : ℕ) (all : List code_found.Found) (v : Verdict) →
    list_any is_clash (map found all) ≡ false → solution inner (map found all) [] ≡ v →
    v ≡ verdict inner (map found all)
without_clash inner all v e h =
    sym (ap (λ b. cond b Verdict.clash (solution inner (map found all) [])) e ∙ h)

pub one-sticks : (inner : ℕ) (all front left : List code_found.Found) (u t : code.Term) (s : List (ℕ × code.Term)) →
    list_any is_clash (map found all) ≡ false → left ≡ front ++ found_variant.Sticks u t ∷ [] →
    Collecting inner all left s → Verdict.stuck inner (term u) (term t) ≡ verdict inner (map found all)
one-sticks inner all front left u t s n e c =
    without_clash inner all (Verdict.stuck inner (term u) (term t)) n
    (c.is ∙ last-first inner front left (found_variant.Sticks u t) s e)

pub all-collected : (inner : ℕ) (all left : List code_found.Found) (s : List (ℕ × code.Term)) →
    list_any is_clash (map found all) ≡ false → left ≡ [] → Collecting inner all left s →
    Verdict.solved (map solution_of s) ≡ verdict inner (map found all)
all-collected inner all left s n e c =
    without_clash inner all (Verdict.solved (map solution_of s)) n
    (c.is ∙ ap (λ xs. solution inner (map found (reverse xs)) (map solution_of s)) e)
