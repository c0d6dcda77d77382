-- Components as lists.
use Rattle.std.proofs.Common.{◌≡◌, List, [], ◌∷◌, ◌++◌, refl, ap}
use Rattle.std.proofs.lemmas.Grind.{common_steps}
use Rattle.std.proofs.lemmas.List.{map-append}
use Rattle.qtt_term.specs.declared.term.Term.{the_lemmas}
use Rattle.qtt_term.specs.Term.{Term, Terms, ε, ◌▸◌, ◌+++◌}
use Rattle.qtt_term.specs.View.{side_by_side}

pub side_by_side-append : (xs ys : List Term) → side_by_side (xs ++ ys) ≡ side_by_side xs +++ side_by_side ys
side_by_side-append [] ys = refl
side_by_side-append (x ∷ xs) ys = ap (λ ts. x ▸ ts) (side_by_side-append xs ys)

pub append-associative : (ts ss rs : Terms) → (ts +++ ss) +++ rs ≡ ts +++ (ss +++ rs)
append-associative ε ss rs = refl
append-associative (t ▸ ts) ss rs = ap (λ xs. t ▸ xs) (append-associative ts ss rs)

pub ruleset part_lists = (
  the_lemmas,
  common_steps,
  map-append,
  side_by_side-append,
  append-associative,
)
