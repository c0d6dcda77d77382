-- The parts of a pattern's text.
use Rattle.std.proofs.Common.{◌≡◌, ℕ, List, [], ◌∷◌, ◌++◌, length, map, arith, refl, ap, sym, ◌∙◌, append_assoc}
use Rattle.std.proofs.lemmas.List.{append-nil}
use Rattle.qtt_syntax.specs.Tree.{Shape, shapes}
use Rattle.qtt_syntax.specs.View.{shape_of}
use Rattle.qtt_syntax.specs.declared.pattern.Pattern.{Pattern}
use Rattle.qtt_diag.specs.Patterns.{constructed, pattern_text, patterns_text}

-- one more behind the others
pub one_more_pattern : (ps : List Shape) (p : Shape) →
    patterns_text (shapes (ps ++ p ∷ [])) ≡ patterns_text (shapes ps) ++ 32 ∷ pattern_text p
one_more_pattern [] p = ap (λ (v : List ℕ). 32 ∷ v) (append-nil (pattern_text p))
one_more_pattern (q ∷ ps) p =
    ap (λ (v : List ℕ). 32 ∷ (pattern_text q ++ v)) (one_more_pattern ps p) ∙
    ap (λ (v : List ℕ). 32 ∷ v) (sym (append_assoc (pattern_text q) (patterns_text (shapes ps)) (32 ∷ pattern_text p)))

pub bare_constructor : (n : List ℕ) (ps : List Pattern) → length ps ≡ 0 →
    constructed n (patterns_text (shapes (map shape_of ps))) ≡ n
bare_constructor n [] e = refl
bare_constructor n (p ∷ ps) e = absurd (omega (arith, e))

pub constructor_with_arguments : (n : List ℕ) (ps : List Pattern) → (length ps ≡ 0 → ⊥) →
    constructed n (patterns_text (shapes (map shape_of ps))) ≡
    40 ∷ (n ++ (patterns_text (shapes (map shape_of ps)) ++ 41 ∷ []))
constructor_with_arguments n [] e = absurd (e refl)
constructor_with_arguments n (p ∷ ps) e =
    ap (λ (v : List ℕ). 40 ∷ v) (append_assoc n (patterns_text (shapes (map shape_of (p ∷ ps)))) (41 ∷ []))
