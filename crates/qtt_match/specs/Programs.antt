-- Small clauses over numbers: their patterns, and the families that they name.
use Rattle.std.specs.Prelude.{ℕ, List, [], ◌∷◌, ◌++◌, codes}
use Rattle.qtt_base.specs.declared.place.Span.{Span}
use Rattle.qtt_usage.specs.Mult.{ω}
use Rattle.qtt_syntax.specs.declared.expr.Mark.TheVariants.{Written}
use Rattle.qtt_syntax.specs.declared.expr.Target.{Target}
use Rattle.qtt_syntax.specs.declared.expr.Target.TheVariants.{Local, Global}
use Rattle.qtt_syntax.specs.Tree.{Shape, shapes}
use Rattle.qtt_syntax.specs.Tree.Shape.{variable, wildcard, constructor, dot}
use Rattle.qtt_syntax.specs.Tree.Tree.{name}
use Rattle.qtt_term.specs.Signature.{prim_id, plain_constructor}
use Rattle.qtt_term.specs.Items.{FamilyEntry}
use Rattle.qtt_term.specs.PrimItems.{prim_families}
use Rattle.qtt_term.specs.Programs.{item, nat, nat_family}

-- data Nat : Type where Z : Nat; S : Nat -> Nat, as items 0 to 2 of Main, which is module 1
abbrev pub nat_entry : FamilyEntry
nat_entry = record {
  id = item 0;
  name = codes "Main.Nat";
  family = nat_family;
  constructors =
      record { id = item 1; name = codes "Main.Z"; labels = []; constructor = plain_constructor [] }
      ∷ record {
        id = item 2;
        name = codes "Main.S";
        labels = codes "_" ∷ [];
        constructor = plain_constructor ((ω, nat) ∷ []);
      } ∷ [];
}

-- Prim, and numbers
abbrev pub known : List FamilyEntry
known = prim_families ++ nat_entry ∷ []

-- ---- patterns
abbrev pub here : Span
here = record { line = 1; col = 1; len = 1 }

abbrev pub small : List ℕ → Shape
small x = variable Written x here

abbrev pub any : Shape
any = wildcard Written here

-- .(x) of the innermost variable
abbrev pub dotted : Shape
dotted = dot Written (name (record { path = codes "x"; target = Local 0; span = here })) here

abbrev pub big : Target → List Shape → Shape
big g ps = constructor Written (record { path = []; target = g; span = here }) (shapes ps) here

abbrev pub true_pattern : Shape
true_pattern = big (Global (prim_id 10)) []

abbrev pub refl_pattern : Shape
refl_pattern = big (Global (prim_id 14)) []

abbrev pub zero_pattern : Shape
zero_pattern = big (Global (item 1)) []

abbrev pub suc_pattern : Shape → Shape
suc_pattern p = big (Global (item 2)) (p ∷ [])

-- ---- clauses
-- f True b = ..; f a True = ..; f a b = ..
abbrev pub overlapping : List (List Shape)
overlapping =
    (true_pattern ∷ small (codes "b") ∷ [])
    ∷ (small (codes "a") ∷ true_pattern ∷ [])
    ∷ (small (codes "a") ∷ small (codes "b") ∷ []) ∷ []

-- f n .(n) Refl = ..; f n m p = ..
abbrev pub same_numbers : List (List Shape)
same_numbers =
    (small (codes "n") ∷ dotted ∷ refl_pattern ∷ [])
    ∷ (small (codes "n") ∷ small (codes "m") ∷ small (codes "p") ∷ []) ∷ []

-- half (S (S n)) = ..; half (S Z) = ..
abbrev pub nested : List (List Shape)
nested = (suc_pattern (suc_pattern (small (codes "n"))) ∷ []) ∷ (suc_pattern zero_pattern ∷ []) ∷ []
