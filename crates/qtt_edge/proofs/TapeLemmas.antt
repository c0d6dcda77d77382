-- A list of tapes in memory, seen as the tapes that contracts speak of, after one of them changed.
use Rattle.std.proofs.Common.{◌≡◌, ℕ, zero, suc, ◌<◌, List, [], ◌∷◌, length, map, get_or, slice_set, ap, ◌∙◌, arith}
use Rattle.qtt_prims.specs.Tapes.{Taped, changed}
use Rattle.qtt_edge.specs.Tapes.{IsOpenAt}

pub open_within : (number : ℕ) (tapes : List Taped) → IsOpenAt number tapes → number < length tapes
open_within number [] open_at = absurd open_at
open_within zero (t ∷ ts) open_at = omega arith
open_within (suc number) (t ∷ ts) open_at = let within = open_within number ts open_at in omega arith

pub map-slice_set : {A : Type 0} (view : A → Taped) (change : Taped → Taped) (number : ℕ) (xs : List A)
    (x y : A) → number < length xs → x ≡ get_or xs number x → view y ≡ change (view x) →
    map view (slice_set xs number y) ≡ changed number change (map view xs)
map-slice_set view change number [] x y within was is = absurd (omega arith)
map-slice_set view change zero (z ∷ xs) x y within was is =
    ap (λ t. t ∷ map view xs) (is ∙ ap (λ w. change (view w)) was)
map-slice_set view change (suc number) (z ∷ xs) x y within was is =
    ap (λ ts. view z ∷ ts) (map-slice_set view change number xs x y (omega arith) was is)
