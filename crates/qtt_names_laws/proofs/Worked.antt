-- The worked examples, by the laws.
use Rattle.std.proofs.Common.{◌≡◌, List, [], ◌∷◌, Ok, Err, codes, refl}
use Rattle.qtt_syntax.specs.declared.expr.Target.TheVariants.{Unknown, Local, Global}
use Rattle.qtt_names.specs.Answer.{◌>>=◌, Mistake, mistake}
use Rattle.qtt_names.specs.Examples.{head, type_at, small, one, main, at, used, sig, equation, int, int_found, binder, own}
use Rattle.qtt_names.specs.PrimNames.{prim_id, scope_of}
use Rattle.qtt_names.specs.Resolved.{filled_item, resolved}
use Rattle.qtt_syntax.specs.declared.expr.Mark.TheVariants.{Written}
use Rattle.qtt_syntax.specs.Tree.{Item}
use Rattle.qtt_syntax.specs.Tree.Tree.{hole}
use Rattle.qtt_syntax.specs.Tree.Shape.{constructor, dot}
use Rattle.qtt_syntax.specs.Tree.Shapes.{no_shape}
use Rattle.qtt_syntax.specs.Tree.Con.{con}
use Rattle.qtt_syntax.specs.Tree.Item.{family}
use Rattle.qtt_names.specs.Target.{global, look_up}
use Rattle.qtt_names_laws.specs.Worked.{home, imports, outside, repeated, inside, SightsAsWorked, TextsAsWorked, HeadsAsWorked, Refused, Becomes}
use Rattle.qtt_names_laws.specs.Heads.{IsItem}
use Rattle.qtt_names_laws.specs.Sight.{names}
use Rattle.qtt_names_laws.proofs.Heads.{pattern_names_are_items}
use Rattle.qtt_names_laws.proofs.Lists.{placed}
use Rattle.qtt_names_laws.proofs.Sights.{means}
use Rattle.qtt_names_laws.proofs.Items.{resolved_by_the_text}

pub sights_as_worked : SightsAsWorked
sights_as_worked = record {
  inner_binder = means inside (codes "x");
  binder_before_import = means inside (codes "nil");
  own_constructor = means inside (codes "A");
  own_definition = means outside (codes "Main.f");
  exported = means outside (codes "nil");
  qualified = means inside (codes "Data.Lists.nil");
  of_two_imports = means outside (codes "Trees.map");
  of_prim = means outside (codes "Prim.Int");
  two_imports = means outside (codes "map");
  one_thing = means repeated (codes "map");
  later_item = means outside (codes "g");
  later_qualified = means outside (codes "Main.g");
  another_import = means outside (codes "Trees.nil");
}

refused : (items : List Item) (e : Mistake) →
    resolved (scope_of home (main items) imports) (main items) ≡ Err e → Refused items e
refused items e q = (resolved_by_the_text.fault home (main items) imports e).0 q

becomes : (items found : List Item) →
    resolved (scope_of home (main items) imports) (main items) ≡ Ok (main found) → Becomes items found
becomes items found q = (resolved_by_the_text.text home (main items) (main found) imports).0 q

pub texts_as_worked : TextsAsWorked
unfolding filled_item global look_up ◌>>=◌
texts_as_worked = record {
  inner_binder = becomes
      (int 1 ∷ equation 3 (codes "f") [] (binder 4 (codes "x") (binder 5 (codes "x") (used 6 (codes "x") Unknown)))
      ∷ [])
      (int_found 1 ∷ equation 3 (codes "f") []
      (binder 4 (codes "x") (binder 5 (codes "x") (used 6 (codes "x") (Local 0)))) ∷ [])
      refl;
  binder_before_import = becomes
      (int 1 ∷ equation 3 (codes "f") [] (binder 4 (codes "nil") (used 5 (codes "nil") Unknown)) ∷ [])
      (int_found 1 ∷ equation 3 (codes "f") [] (binder 4 (codes "nil") (used 5 (codes "nil") (Local 0))) ∷ [])
      refl;
  earlier_item = becomes (int 1 ∷ sig 3 (codes "g") (used 4 (codes "f") Unknown) ∷ [])
      (int_found 1 ∷ sig 3 (codes "g") (used 4 (codes "f") (own 0)) ∷ [])
      refl;
  constructor_behind_its_family = becomes
      (family (codes "D") (at 1) [] (type_at 2) (con (codes "A") (used 4 (codes "D") Unknown) (at 3) ∷ []) (at 1) ∷
      sig 5 (codes "f") (used 6 (codes "A") Unknown) ∷ [])
      (family (codes "D") (at 1) [] (type_at 2) (con (codes "A") (used 4 (codes "D") (own 0)) (at 3) ∷ []) (at 1) ∷
      sig 5 (codes "f") (used 6 (codes "A") (own 1)) ∷ [])
      refl;
  dot_sees_later_variable = becomes
      (int 1 ∷ equation 3 (codes "f") (dot Written (used 5 (codes "x") Unknown) (at 4) ∷ small 6 (codes "x") ∷ [])
      (used 7 (codes "x") Unknown) ∷ [])
      (int_found 1 ∷ equation 3 (codes "f")
      (dot Written (used 5 (codes "x") (Local 0)) (at 4) ∷ small 6 (codes "x") ∷ [])
      (used 7 (codes "x") (Local 0)) ∷ [])
      refl;
  constructor_not_in_its_family = refused
      (family (codes "D") (at 1) [] (type_at 2) (con (codes "A") (used 4 (codes "D") Unknown) (at 3) ∷
      con (codes "B") (used 6 (codes "A") Unknown) (at 5) ∷ []) (at 1) ∷ []) (mistake 10 (codes "A") (at 6))
      refl;
  second_variable = refused
      (int 1 ∷ equation 3 (codes "f") (small 4 (codes "x") ∷ small 5 (codes "x") ∷ []) (one 6) ∷ [])
      (mistake 12 (codes "x") (at 5))
      refl;
  second_group = refused
      (int 1 ∷ equation 3 (codes "f") [] (one 4) ∷ sig 5 (codes "g") (used 6 (codes "Int") Unknown) ∷
      equation 7 (codes "f") [] (one 8) ∷ []) (mistake 12 (codes "f") (at 7))
      refl;
  second_hole = refused
      (int 1 ∷ equation 3 (codes "f") [] (hole (codes "h") (at 4)) ∷ sig 5 (codes "g") (used 6 (codes "Int") Unknown) ∷
      equation 7 (codes "g") [] (hole (codes "h") (at 8)) ∷ []) (mistake 12 (codes "h") (at 8))
      refl;
  no_signature = refused (equation 1 (codes "f") [] (one 2) ∷ []) (mistake 10 (codes "f") (at 1))
      refl;
  later_item = refused (sig 1 (codes "g") (used 2 (codes "f") Unknown) ∷ int 3 ∷ [])
      (mistake 10 (codes "f") (at 2))
      refl;
  two_imports = refused (sig 1 (codes "f") (used 2 (codes "map") Unknown) ∷ []) (mistake 11 (codes "map") (at 2))
      refl;
  second_item = refused (int 1 ∷ int 3 ∷ []) (mistake 12 (codes "f") (at 3))
      refl;
  first_fault = refused (int 1 ∷ equation 3 (codes "f") [] (used 4 (codes "g") Unknown) ∷ int 5 ∷ [])
      (mistake 10 (codes "g") (at 4))
      refl;
}

pub heads_as_worked : HeadsAsWorked
unfolding filled_item global look_up ◌>>=◌
heads_as_worked = record {
  own_constructor = IsItem.own {n = codes "A"} (placed (codes "A") (names outside.earlier));
  of_prim = pattern_names_are_items home
      (main (int 1 ∷ equation 3 (codes "f")
      (constructor Written (head 4 (codes "True") Unknown) no_shape (at 4) ∷ small 5 (codes "x") ∷ [])
      (used 6 (codes "x") Unknown) ∷ []))
      (main (int_found 1 ∷ equation 3 (codes "f")
      (constructor Written (head 4 (codes "True") (Global (prim_id 10))) no_shape (at 4) ∷ small 5 (codes "x") ∷ [])
      (used 6 (codes "x") (Local 0)) ∷ [])) imports refl;
}
