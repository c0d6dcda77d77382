-- Names and dots of patterns, one pattern after another.
use Rattle.std.proofs.Common.{◌≡◌, ◌∙◌, ℕ, List, [], ◌∷◌, ◌++◌, refl, sym, ap, append_assoc, append-nil}
use Rattle.std.proofs.lemmas.Grind.{common_steps}
use Rattle.qtt_base.specs.declared.place.Span.{Span}
use Rattle.qtt_syntax.specs.declared.pattern.Pattern.{the_lemmas}
use Rattle.qtt_syntax.specs.Tree.{Tree, Shape, shapes}
use Rattle.qtt_split.specs.Group.{dots_in, dots_among, dots_of}
use Rattle.qtt_module.specs.Sides.{names_in, names_among, names_of}

pub names-of-fields : (ps : List Shape) → names_among (shapes ps) ≡ names_of ps
names-of-fields [] = refl
names-of-fields (p ∷ ps) = ap (λ ns. names_in p ++ ns) (names-of-fields ps)

pub dots-of-fields : (ps : List Shape) → dots_among (shapes ps) ≡ dots_of ps
dots-of-fields [] = refl
dots-of-fields (p ∷ ps) = ap (λ ds. dots_in p ++ ds) (dots-of-fields ps)

pub one-names : (ps : List Shape) (p : Shape) → names_of (ps ++ p ∷ []) ≡ names_of ps ++ names_in p
one-names [] p = append-nil (names_in p)
one-names (q ∷ ps) p =
    ap (λ ns. names_in q ++ ns) (one-names ps p) ∙ sym (append_assoc (names_in q) (names_of ps) (names_in p))

pub one-dots : (ps : List Shape) (p : Shape) → dots_of (ps ++ p ∷ []) ≡ dots_of ps ++ dots_in p
one-dots [] p = append-nil (dots_in p)
one-dots (q ∷ ps) p =
    ap (λ ds. dots_in q ++ ds) (one-dots ps p) ∙ sym (append_assoc (dots_in q) (dots_of ps) (dots_in p))

-- behind what was before
pub names-behind : (before found : List (List ℕ)) (ps : List Shape) (p : Shape) →
    found ≡ before ++ names_of ps → found ++ names_in p ≡ before ++ names_of (ps ++ p ∷ [])
names-behind before found ps p e =
    ap (λ ns. ns ++ names_in p) e ∙ append_assoc before (names_of ps) (names_in p)
    ∙ ap (λ ns. before ++ ns) (sym (one-names ps p))

pub dots-behind : (before found : List (Tree × Span)) (ps : List Shape) (p : Shape) →
    found ≡ before ++ dots_of ps → found ++ dots_in p ≡ before ++ dots_of (ps ++ p ∷ [])
dots-behind before found ps p e =
    ap (λ ds. ds ++ dots_in p) e ∙ append_assoc before (dots_of ps) (dots_in p)
    ∙ ap (λ ds. before ++ ds) (sym (one-dots ps p))

pub ruleset parts = (
  the_lemmas,
  common_steps,
  names-of-fields,
  dots-of-fields,
)
