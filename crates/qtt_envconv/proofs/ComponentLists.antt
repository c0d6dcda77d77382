-- Lists of components.
use Rattle.std.proofs.Common.{◌≡◌, ℕ, ◌+◌, List, [], ◌∷◌, ◌++◌, map, length, refl, ap, ◌∙◌, arith, ◌≤◌, length-append}
use Rattle.std.proofs.lemmas.Grind.{common_steps}
use Rattle.std.proofs.lemmas.List.{length-map}
use Rattle.qtt_base.specs.declared.place.GlobalId.{GlobalId}
use Rattle.qtt_usage.specs.declared.mult.Mult.{Mult}
use Rattle.qtt_term.specs.declared.term.Term as code
use Rattle.qtt_term.specs.declared.term.Term.{the_lemmas}
use Rattle.qtt_term.specs.Term.{Term, Terms, ε, ◌▸◌, ◌+++◌, zeros}
use Rattle.qtt_term.specs.View.{term, terms, side_by_side}
use Rattle.qtt_term.proofs.Components.{case_of}
use Rattle.qtt_envconv.specs.Components.{with_binders, component_list, plain}

pub plain-list : (ts : List code.Term) → with_binders [] (side_by_side (terms ts)) ≡ plain ts
plain-list [] = refl
plain-list (t ∷ ts) = ap (λ cs. (0, term t) ∷ cs) (plain-list ts)

pub front-list : (ps ts : List code.Term) →
    with_binders [] (side_by_side (terms ps) +++ side_by_side (terms ts)) ≡ plain ps ++ plain ts
front-list [] ts = plain-list ts
front-list (p ∷ ps) ts = ap (λ cs. (0, term p) ∷ cs) (front-list ps ts)

-- behind the parameters of a Case
pub parameters-list : (ps : List code.Term) (ns : List ℕ) (ts : Terms) →
    with_binders (zeros (length (terms ps)) ns) (side_by_side (terms ps) +++ ts) ≡ plain ps ++ with_binders ns ts
parameters-list [] ns ts = refl
parameters-list (p ∷ ps) ns ts = ap (λ cs. (0, term p) ∷ cs) (parameters-list ps ns ts)

pub branches-list : (bs : List (ℕ × Term)) (s : Term) →
    with_binders (map (λ b. b.0) bs) (side_by_side (map (λ b. b.1) bs) +++ (s ▸ ε)) ≡ bs ++ (0, s) ∷ []
branches-list [] s = refl
branches-list (b ∷ bs) s = ap (λ cs. b ∷ cs) (branches-list bs s)

pub case-list : (q : Mult) (f : GlobalId) (ps : List code.Term) (i : ℕ) (m : Term) (bs : List (ℕ × Term))
    (s : Term) →
    component_list (case_of q f (terms ps) i m bs s) ≡ ((plain ps ++ (i + 1, m) ∷ []) ++ bs) ++ (0, s) ∷ []
case-list q f ps i m bs s =
    parameters-list ps ((i + 1) ∷ map (λ b. b.0) bs)
    (m ▸ (side_by_side (map (λ b. b.1) bs) +++ (s ▸ ε)))
    ∙ ap (λ cs. plain ps ++ (i + 1, m) ∷ cs) (branches-list bs s)
    ∙ grind (arith, common_steps)

-- ---- how many they are
plain-length : (ts : List code.Term) → length (plain ts) ≡ length ts
plain-length ts = length-map ts (λ t. (0, term t))

pub front-length : (ps ts : List code.Term) →
    length ps ≤ length (with_binders [] (side_by_side (terms ps) +++ side_by_side (terms ts)))
front-length ps ts =
    let lists : length (with_binders [] (side_by_side (terms ps) +++ side_by_side (terms ts))) ≡
    length (plain ps ++ plain ts) = ap length (front-list ps ts) in
    omega (arith, lists, length-append (plain ps) (plain ts), plain-length ps)

pub case-length : (q : Mult) (f : GlobalId) (ps : List code.Term) (i : ℕ) (m : Term) (bs : List (ℕ × Term))
    (s : Term) →
    length (component_list (case_of q f (terms ps) i m bs s)) ≡ length ps + (length bs + 2)
case-length q f ps i m bs s =
    let front : List (ℕ × Term) = plain ps ++ (i + 1, m) ∷ [] in
    let lists : length (component_list (case_of q f (terms ps) i m bs s)) ≡ length ((front ++ bs) ++ (0, s) ∷ []) =
    ap length (case-list q f ps i m bs s) in
    omega (
      arith,
      lists,
      length-append (front ++ bs) ((0, s) ∷ []),
      length-append front bs,
      length-append (plain ps) ((i + 1, m) ∷ []),
      plain-length ps,
    )

pub ruleset component_lists = (the_lemmas, common_steps, plain-list)
