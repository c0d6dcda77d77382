-- Outlines of the code's terms.
use Rattle.std.proofs.Common.{◌≡◌, ℕ, zero, suc, ◌+◌, ◌<◌, List, [], ◌∷◌, map, length, get_or, Bool, true, false, eqb, refl, sym, ◌∙◌, ap, subst, arith}
use mathlib.Core.Path.{ap₂}
use Rattle.std.proofs.lemmas.Bool.{eq-eqb, eqb-true, and_parts, and_from}
use Rattle.std.proofs.lemmas.Grind.{common_steps}
use Rattle.std.proofs.lemmas.List.{length-map}
use Rattle.qtt_base.specs.declared.place.GlobalId.{GlobalId}
use Rattle.qtt_usage.specs.declared.mult.Mult.{Mult}
use Rattle.qtt_term.specs.declared.term.Term.{the_lemmas}
use Rattle.qtt_term.specs.declared.term.Branch as code_branch
use Rattle.qtt_term.specs.Term.{Form, Term, Terms, var, node, ε, ◌▸◌, ◌+++◌, size}
use Rattle.qtt_term.specs.Question.{same_form, same_outline}
use Rattle.qtt_term.specs.View.{branch, branches, side_by_side}
use Rattle.qtt_term.proofs.Same.{form-is, form-same}
use Rattle.qtt_term.proofs.Components.{case_of, same_action}
use Rattle.qtt_confluence.specs.Heads.{Outline, outline}
use Rattle.qtt_conv.proofs.Contracting.{size-side_by_side}

pub size-append : (ts ss : Terms) → size (ts +++ ss) ≡ size ts + size ss
size-append ε ss = omega arith
size-append (t ▸ ts) ss = let e : size (ts +++ ss) ≡ size ts + size ss = size-append ts ss in omega arith

-- the outline of a Case is that of its fixed parts
case-size : (ps : List Term) (m : Term) (bs : List (ℕ × Term)) (s : Term) →
    size (side_by_side ps +++ (m ▸ (side_by_side (map (λ b. b.1) bs) +++ (s ▸ ε)))) ≡ length ps + suc
    (length (map (λ b. b.0) bs) + 1)
case-size ps m bs s =
    let e = size-append (side_by_side ps) (m ▸ (side_by_side (map (λ b. b.1) bs) +++ (s ▸ ε))) in
    let f = size-append (side_by_side (map (λ b. b.1) bs)) (s ▸ ε) in
    let g = size-side_by_side ps in
    let h = size-side_by_side (map (λ b. b.1) bs) in
    let i = length-map bs (λ b. b.1) in
    let j = length-map bs (λ b. b.0) in
    omega (arith, e, f, g, h, i, j)

pub case-outline : (q : Mult) (f : GlobalId) (ps : List Term) (i : ℕ) (m : Term) (bs : List (ℕ × Term)) (s : Term) →
    outline (case_of q f ps i m bs s) ≡ Outline.form (Form.case q f (length ps) (i + 1) (map (λ b. b.0) bs))
    (length ps + suc (length (map (λ b. b.0) bs) + 1))
case-outline q f ps i m bs s =
    ap (Outline.form (Form.case q f (length ps) (i + 1) (map (λ b. b.0) bs))) (case-size ps m bs s)

-- ---- the numbers of the fields of branches
fields-seen : (b : code_branch.Branch) → (branch b).0 ≡ b.fields
fields-seen b = grind (arith, the_lemmas)

pub fields-at : (xs ys : List code_branch.Branch) (i : ℕ) (x y : code_branch.Branch) → i < length xs →
    i < length ys → x ≡ get_or xs i x → y ≡ get_or ys i y →
    map (λ b. b.0) (branches xs) ≡ map (λ b. b.0) (branches ys) → x.fields ≡ y.fields
fields-at [] ys i x y p q d e h = absurd (omega arith)
fields-at (a ∷ xs) [] i x y p q d e h = absurd (omega arith)
fields-at (a ∷ xs) (b ∷ ys) zero x y p q d e h =
    let firsts : (branch a).0 ≡ (branch b).0 = cc h in
    ap (λ z. z.fields) d ∙ sym (fields-seen a) ∙ firsts ∙ fields-seen b ∙ sym (ap (λ z. z.fields) e)
fields-at (a ∷ xs) (b ∷ ys) (suc i) x y p q d e h =
    let rests : map (λ b. b.0) (branches xs) ≡ map (λ b. b.0) (branches ys) = cc h in
    fields-at xs ys i x y (omega arith) (omega arith) d e rests

-- ---- the tests of outlines
pub outline-tested : (t s : Term) → outline t ≡ outline s → same_outline t s ≡ true
outline-tested (var i) (var j) e = let same_index : i ≡ j = cc e in eq-eqb i j same_index
outline-tested (var i) (node G ss) e = absurd (cc e)
outline-tested (node F ts) (var j) e = absurd (cc e)
outline-tested (node F ts) (node G ss) e =
    let forms : F ≡ G = cc e in
    let sizes : size ts ≡ size ss = cc e in
    and_from (same_form F G) (eqb (size ts) (size ss)) (subst (λ H. same_form F H ≡ true) forms (form-same F))
    (eq-eqb (size ts) (size ss) sizes)

tested-outline : (t s : Term) → same_outline t s ≡ true → outline t ≡ outline s
tested-outline (var i) (var j) e = ap Outline.variable (eqb-true i j e)
tested-outline (var i) (node G ss) e = absurd (cc e)
tested-outline (node F ts) (var j) e = absurd (cc e)
tested-outline (node F ts) (node G ss) e =
    let p = and_parts (same_form F G) (eqb (size ts) (size ss)) e in
    ap₂ Outline.form (form-is F G p.0) (eqb-true (size ts) (size ss) p.1)

pub outline-apart : (t s : Term) → (outline t ≡ outline s → ⊥) → same_outline t s ≡ false
outline-apart t s d = by_test (same_outline t s) refl
  where
    by_test : (b : Bool) → same_outline t s ≡ b → b ≡ false
    by_test true e = absurd (d (tested-outline t s e))
    by_test false e = refl

pub ruleset outlines = (
  the_lemmas,
  common_steps,
  length-map,
  size-side_by_side,
  size-append,
  case-outline,
  same_action,
)
