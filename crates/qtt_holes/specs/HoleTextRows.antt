-- Worked examples of the lines of holes.
use Rattle.std.specs.Prelude.{◌≡◌, ℕ, List, [], ◌∷◌, ◌++◌, codes}
use Rattle.qtt_base.specs.declared.place.Span.{Span}
use Rattle.qtt_usage.specs.Mult.{𝟘, 𝟙, ω}
use Rattle.qtt_term.specs.Term.{Term, var}
use Rattle.qtt_term.specs.Signature.{IntTy, HandleTy}
use Rattle.qtt_term.specs.Programs.{io_unit}
use Rattle.qtt_term.specs.Entries.{prim_entries}
use Rattle.qtt_bidi.specs.Programs.{at}
use Rattle.qtt_holes.specs.Hole.{Seen}
use Rattle.qtt_holes.specs.HoleText.{hole_text}
use Rattle.qtt_holes.specs.Rows.{left, is_term, got, line_type}

abbrev pub told : List ℕ → Span → Term → ℕ → List Seen → List ℕ
told n s A k xs =
    hole_text prim_entries (codes "Main") (record { name = n; span = s; goal = A; depth = k; seen = xs })

abbrev pub ended : List ℕ → List ℕ
ended l = l ++ 10 ∷ []

pub record HoleTextRows : Type 0 where
  -- h <- open "a"; h2 <- write h "x"; ?rest
  pub in_do : told (codes "rest") (at 6 3) io_unit 2
      (left 𝟘 (codes "h") (var 1) HandleTy ∷ left 𝟙 (codes "h2") (var 0) HandleTy ∷ [])
      ≡ ended (codes "hole rest Main:6:3 : (IO Unit)") ++ ended (codes "  0 h x0 : Handle") ++
      ended (codes "  1 h2 x1 : Handle")
  -- f x True = ?a
  pub at_leaf : told (codes "a") (at 3 12) IntTy 3 (left 𝟙 (codes "x") (var 0) IntTy ∷ [])
      ≡ ended (codes "hole a Main:3:12 : Int") ++ ended (codes "  1 x x2 : Int")
  pub nothing_in_sight : told (codes "h") (at 5 5) IntTy 0 [] ≡ ended (codes "hole h Main:5:5 : Int")
  -- a name that stands for a term, and one that may be used at will
  pub for_a_term : told (codes "a") (at 3 12) IntTy 1
      (is_term (codes "l") got line_type ∷ left ω (codes "s") (var 0) IntTy ∷ [])
      ≡ ended (codes "hole a Main:3:12 : Int") ++ ended (codes "  - l (Got x0) : Line") ++
      ended (codes "  many s x0 : Int")
