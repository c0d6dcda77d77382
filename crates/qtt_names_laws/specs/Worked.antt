-- Worked examples: what names see at places, and texts beside what they resolve to.
use Rattle.std.specs.Prelude.{List, [], ◌∷◌, codes}
use Rattle.qtt_base.specs.declared.place.ModuleId.{ModuleId}
use Rattle.qtt_syntax.specs.declared.expr.Target.TheVariants.{Unknown, Local, Global}
use Rattle.qtt_syntax.specs.declared.expr.Mark.TheVariants.{Written}
use Rattle.qtt_syntax.specs.Tree.{Item}
use Rattle.qtt_syntax.specs.Tree.Tree.{hole}
use Rattle.qtt_syntax.specs.Tree.Shape.{constructor, dot}
use Rattle.qtt_syntax.specs.Tree.Shapes.{no_shape}
use Rattle.qtt_syntax.specs.Tree.Con.{con}
use Rattle.qtt_syntax.specs.Tree.Item.{family}
use Rattle.qtt_names.specs.Answer.{Mistake, mistake}
use Rattle.qtt_names.specs.Examples.{head, type_at, small, one, id_of, lists, trees, main, at, used, sig, equation, int, int_found, binder, own}
use Rattle.qtt_names.specs.PrimNames.{prim_import, prim_id}
use Rattle.qtt_names.specs.Scope.{Imported}
use Rattle.qtt_names_laws.specs.Sight.{Place, Sort, Sees, SeesNothing, SeesMore}
use Rattle.qtt_names_laws.specs.Places.{under}
use Rattle.qtt_names_laws.specs.Resolution.{TextResolves}
use Rattle.qtt_names_laws.specs.Faults.{FirstFault, text_uses}
use Rattle.qtt_names_laws.specs.Heads.{IsItem, TextIs}

abbrev pub home : ModuleId
home = record { 0 = 1 }

-- `lists` has `nil` and `map`, and `trees` has `map`
abbrev pub imports : List Imported
imports = lists ∷ trees ∷ []

-- behind `data D : Type where A : D` and `f : D`, outside all binders
abbrev pub outside : Place
outside = record {
  home = home;
  name = codes "Main";
  earlier = (codes "D", Sort.family) ∷ (codes "A", Sort.constructor) ∷ (codes "f", Sort.definition) ∷ [];
  binders = [];
  imports = prim_import ∷ imports;
}

-- where `lists` is imported twice
abbrev pub repeated : Place
repeated = record outside { imports = prim_import ∷ lists ∷ lists ∷ [] }

-- under `\x nil x =>`
abbrev pub inside : Place
inside = under (under (under outside (codes "x")) (codes "nil")) (codes "x")

pub record SightsAsWorked : Type 0 where
  -- an inner binder hides an outer one, and a binder hides what an import exports
  pub inner_binder : Sees inside (codes "x") (Local 0)
  pub binder_before_import : Sees inside (codes "nil") (Local 1)
  -- own items by their numbers, plain and qualified
  pub own_constructor : Sees inside (codes "A") (own 1)
  pub own_definition : Sees outside (codes "Main.f") (own 2)
  -- an import, plain and qualified, and Prim without an import
  pub exported : Sees outside (codes "nil") (Global (id_of 2 0))
  pub qualified : Sees inside (codes "Data.Lists.nil") (Global (id_of 2 0))
  pub of_two_imports : Sees outside (codes "Trees.map") (Global (id_of 3 0))
  pub of_prim : Sees outside (codes "Prim.Int") (Global (prim_id 0))
  -- two imports export it
  pub two_imports : SeesMore outside (codes "map")
  -- two imports export one thing
  pub one_thing : Sees repeated (codes "map") (Global (id_of 2 1))
  -- an item that stands later, and what another import exports
  pub later_item : SeesNothing outside (codes "g")
  pub later_qualified : SeesNothing outside (codes "Main.g")
  pub another_import : SeesNothing outside (codes "Trees.nil")

abbrev pub Refused : List Item → Mistake → Type 0
Refused items e = FirstFault e (text_uses home imports (main items))

abbrev pub Becomes : List Item → List Item → Type 0
Becomes items found = TextResolves home imports (main items) (main found)

pub record TextsAsWorked : Type 0 where
  -- f : Int, f = \x => \x => x
  pub inner_binder : Becomes
      (int 1 ∷ equation 3 (codes "f") [] (binder 4 (codes "x") (binder 5 (codes "x") (used 6 (codes "x") Unknown)))
      ∷ [])
      (int_found 1 ∷ equation 3 (codes "f") []
      (binder 4 (codes "x") (binder 5 (codes "x") (used 6 (codes "x") (Local 0)))) ∷ [])
  -- f : Int, f = \nil => nil
  pub binder_before_import : Becomes
      (int 1 ∷ equation 3 (codes "f") [] (binder 4 (codes "nil") (used 5 (codes "nil") Unknown)) ∷ [])
      (int_found 1 ∷ equation 3 (codes "f") [] (binder 4 (codes "nil") (used 5 (codes "nil") (Local 0))) ∷ [])
  -- f : Int, g : f
  pub earlier_item : Becomes (int 1 ∷ sig 3 (codes "g") (used 4 (codes "f") Unknown) ∷ [])
      (int_found 1 ∷ sig 3 (codes "g") (used 4 (codes "f") (own 0)) ∷ [])
  -- data D : Type where A : D, f : A
  pub constructor_behind_its_family : Becomes
      (family (codes "D") (at 1) [] (type_at 2) (con (codes "A") (used 4 (codes "D") Unknown) (at 3) ∷ []) (at 1) ∷
      sig 5 (codes "f") (used 6 (codes "A") Unknown) ∷ [])
      (family (codes "D") (at 1) [] (type_at 2) (con (codes "A") (used 4 (codes "D") (own 0)) (at 3) ∷ []) (at 1) ∷
      sig 5 (codes "f") (used 6 (codes "A") (own 1)) ∷ [])
  -- f : Int, f .(x) x = x : a dot pattern sees a variable behind it
  pub dot_sees_later_variable : Becomes
      (int 1 ∷ equation 3 (codes "f") (dot Written (used 5 (codes "x") Unknown) (at 4) ∷ small 6 (codes "x") ∷ [])
      (used 7 (codes "x") Unknown) ∷ [])
      (int_found 1 ∷ equation 3 (codes "f")
      (dot Written (used 5 (codes "x") (Local 0)) (at 4) ∷ small 6 (codes "x") ∷ [])
      (used 7 (codes "x") (Local 0)) ∷ [])
  -- data D : Type where A : D; B : A
  pub constructor_not_in_its_family : Refused
      (family (codes "D") (at 1) [] (type_at 2) (con (codes "A") (used 4 (codes "D") Unknown) (at 3) ∷
      con (codes "B") (used 6 (codes "A") Unknown) (at 5) ∷ []) (at 1) ∷ []) (mistake 10 (codes "A") (at 6))
  -- f : Int, f x x = 1
  pub second_variable : Refused
      (int 1 ∷ equation 3 (codes "f") (small 4 (codes "x") ∷ small 5 (codes "x") ∷ []) (one 6) ∷ [])
      (mistake 12 (codes "x") (at 5))
  -- f : Int, f = 1, g : Int, f = 1
  pub second_group : Refused
      (int 1 ∷ equation 3 (codes "f") [] (one 4) ∷ sig 5 (codes "g") (used 6 (codes "Int") Unknown) ∷
      equation 7 (codes "f") [] (one 8) ∷ []) (mistake 12 (codes "f") (at 7))
  -- f : Int, f = ?h, g : Int, g = ?h
  pub second_hole : Refused
      (int 1 ∷ equation 3 (codes "f") [] (hole (codes "h") (at 4)) ∷ sig 5 (codes "g") (used 6 (codes "Int") Unknown) ∷
      equation 7 (codes "g") [] (hole (codes "h") (at 8)) ∷ []) (mistake 12 (codes "h") (at 8))
  -- f = 1
  pub no_signature : Refused (equation 1 (codes "f") [] (one 2) ∷ []) (mistake 10 (codes "f") (at 1))
  -- g : f, f : Int
  pub later_item : Refused (sig 1 (codes "g") (used 2 (codes "f") Unknown) ∷ int 3 ∷ [])
      (mistake 10 (codes "f") (at 2))
  -- f : map
  pub two_imports : Refused (sig 1 (codes "f") (used 2 (codes "map") Unknown) ∷ []) (mistake 11 (codes "map") (at 2))
  -- f : Int, f : Int
  pub second_item : Refused (int 1 ∷ int 3 ∷ []) (mistake 12 (codes "f") (at 3))
  -- f : Int, f = g, f : Int : the first fault in text order
  pub first_fault : Refused (int 1 ∷ equation 3 (codes "f") [] (used 4 (codes "g") Unknown) ∷ int 5 ∷ [])
      (mistake 10 (codes "g") (at 4))

-- f : Int, f True x = x
pub record HeadsAsWorked : Type 0 where
  pub own_constructor : IsItem outside (own 1)
  pub of_prim : TextIs home imports
      (main (int_found 1 ∷ equation 3 (codes "f")
      (constructor Written (head 4 (codes "True") (Global (prim_id 10))) no_shape (at 4) ∷ small 5 (codes "x") ∷ [])
      (used 6 (codes "x") (Local 0)) ∷ []))
