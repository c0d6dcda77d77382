-- Occurrences among the components that lists make.
use Rattle.std.proofs.Common.{◌≡◌, ℕ, zero, suc, ◌<◌, List, [], ◌∷◌, ◌++◌, map, length, get_or, Bool, true, false, ◌||◌, refl, sym, ap, ◌∙◌, arith}
use Rattle.std.proofs.lemmas.Grind.{common_steps}
use Rattle.std.proofs.lemmas.List.{length-map}
use Rattle.std.proofs.Math.ListN.{get_or-map}
use Rattle.qtt_base.specs.declared.place.GlobalId.{GlobalId}
use Rattle.qtt_term.specs.declared.term.Term.{the_lemmas}
use Rattle.qtt_term.specs.declared.term.Branch as code_branch
use Rattle.qtt_term.specs.Term.{Term, Terms, ε, ◌▸◌, ◌+++◌}
use Rattle.qtt_term.specs.View.{branch, branches, side_by_side}
use Rattle.qtt_positive.specs.FirstBad.{occurs, occurs_in}

pub or-false : (a : Bool) → (a || false) ≡ a
or-false true = refl
or-false false = refl

or-true : (a : Bool) → (a || true) ≡ true
or-true true = refl
or-true false = refl

or-assoc : (a b c : Bool) → (a || (b || c)) ≡ ((a || b) || c)
or-assoc true b c = refl
or-assoc false b c = refl

pub occurs_joined : (f : GlobalId) (ts ss : Terms) → occurs_in f (ts +++ ss) ≡ (occurs_in f ts || occurs_in f ss)
occurs_joined f ε ss = refl
occurs_joined f (t ▸ ts) ss =
    ap (λ b. occurs f t || b) (occurs_joined f ts ss) ∙ or-assoc (occurs f t) (occurs_in f ts) (occurs_in f ss)

pub occurs_appended : (f : GlobalId) (ts ss : List Term) →
    occurs_in f (side_by_side (ts ++ ss)) ≡ (occurs_in f (side_by_side ts) || occurs_in f (side_by_side ss))
occurs_appended f [] ss = refl
occurs_appended f (t ∷ ts) ss =
    ap (λ b. occurs f t || b) (occurs_appended f ts ss) ∙ or-assoc (occurs f t) (occurs_in f (side_by_side ts))
    (occurs_in f (side_by_side ss))

-- where it occurs in one, it occurs among all
pub occurs_at : {X : Type 0} (g : GlobalId) (f : X → Term) (xs : List X) (i : ℕ) (d : X) → i < length xs →
    occurs g (f (get_or xs i d)) ≡ true → occurs_in g (side_by_side (map f xs)) ≡ true
occurs_at g f [] i d l h = absurd (omega arith)
occurs_at g f (x ∷ xs) zero d l h = ap (λ b. b || occurs_in g (side_by_side (map f xs))) h
occurs_at g f (x ∷ xs) (suc i) d l h =
    ap (λ b. occurs g (f x) || b) (occurs_at g f xs i d (omega arith) h) ∙ or-true (occurs g (f x))

pub occurs_in_branch : (g : GlobalId) (xs : List code_branch.Branch) (i : ℕ) (x : code_branch.Branch) →
    i < length xs → x ≡ get_or xs i x → occurs g (branch x).1 ≡ true →
    occurs_in g (side_by_side (map (λ b. b.1) (branches xs))) ≡ true
occurs_in_branch g xs i x l e h =
    let bs = branches xs in
    let in_range : i < length bs = omega (arith, length-map xs branch) in
    occurs_at g (λ b. b.1) bs i (branch x) in_range
    (ap (λ b. occurs g b.1) (get_or-map branch xs i x ∙ ap branch (sym e)) ∙ h)

pub ruleset occurring = (
  the_lemmas,
  common_steps,
  length-map,
  or-false,
  occurs_joined,
  occurs_appended,
  occurs_at,
  occurs_in_branch,
)
