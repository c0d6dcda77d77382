-- Worked examples of what names stand for.
use Rattle.std.specs.Prelude.{◌≡◌, ℕ, suc, pos, false, List, [], ◌∷◌, map, codes, Ok}
use Rattle.qtt_base.specs.declared.place.GlobalId.{GlobalId}
use Rattle.qtt_base.specs.declared.place.Span.{Span}
use Rattle.qtt_usage.specs.declared.mult.Mult.TheVariants as mult
use Rattle.qtt_syntax.specs.declared.expr.Mark.TheVariants.{Written}
use Rattle.qtt_syntax.specs.declared.expr.Named.{Named}
use Rattle.qtt_syntax.specs.declared.expr.Target.{Target}
use Rattle.qtt_syntax.specs.declared.expr.Target.TheVariants.{Unknown, Local, Global}
use Rattle.qtt_syntax.specs.Tree.{Tree, Shape, Item, Module, binders, statements}
use Rattle.qtt_syntax.specs.Tree.Tree.{name, number, universe, hole, pi, lambda, letting, doing}
use Rattle.qtt_syntax.specs.Tree.Annotation.{untyped}
use Rattle.qtt_syntax.specs.Tree.Binder.{plain}
use Rattle.qtt_syntax.specs.Tree.Statement.{bind, run}
use Rattle.qtt_syntax.specs.Tree.Shape.{variable, wildcard, constructor, dot}
use Rattle.qtt_syntax.specs.Tree.Shapes.{no_shape}
use Rattle.qtt_syntax.specs.Tree.Param.{param}
use Rattle.qtt_syntax.specs.Tree.Con.{con}
use Rattle.qtt_syntax.specs.Tree.Item.{family, signature, clause}
use Rattle.qtt_syntax.specs.Tree.Module.{module_text}
use Rattle.qtt_names.specs.Answer.{Answer, unbound, ambiguous, duplicate}
use Rattle.qtt_names.specs.Scope.{Imported}
use Rattle.qtt_names.specs.Target.{look_up}
use Rattle.qtt_names.specs.Resolved.{resolved}
use Rattle.qtt_names.specs.Filled.{filled}
use Rattle.qtt_names.specs.Exports.{Sig}
use Rattle.qtt_names.specs.PrimNames.{prim_id, scope_of}
use Rattle.qtt_names.specs.PrimSigs.{prim_sigs}

-- the place with a number
abbrev pub at : ℕ → Span
at n = record { line = 1; col = n; len = 1 }

-- a used name at a place, with its target
abbrev pub used : ℕ → List ℕ → Target → Tree
used n path t = name (record { path = path; target = t; span = at n })

abbrev pub head : ℕ → List ℕ → Target → Named
head n path t = record { path = path; target = t; span = at n }

-- an item of the module itself, which is number 1 here, and of the imported module 2
abbrev pub own : ℕ → Target
own n = Global (record { «module» = record { 0 = 1 }; item = n })

abbrev pub other : ℕ → Target
other n = Global (record { «module» = record { 0 = 2 }; item = n })

abbrev pub prim : ℕ → Target
prim n = Global (prim_id n)

-- the module Main with these items
abbrev pub main : List Item → Module
main items = module_text (at 1) (codes "Main") (at 2) [] items

abbrev pub id_of : ℕ → ℕ → GlobalId
id_of m n = record { «module» = record { 0 = m }; item = n }

-- `Lists` has `nil` and `map`, and `Trees` has `map`
abbrev pub lists : Imported
lists = record { name = codes "Data.Lists"; items = (codes "nil", id_of 2 0) ∷ (codes "map", id_of 2 1) ∷ [] }

abbrev pub trees : Imported
trees = record { name = codes "Trees"; items = (codes "map", id_of 3 0) ∷ [] }

abbrev pub answer : List Item → Answer Module
answer items = resolved (scope_of (record { 0 = 1 }) (main items) (lists ∷ trees ∷ [])) (main items)

-- `f : t`
abbrev pub sig : ℕ → List ℕ → Tree → Item
sig n f t = signature false mult.Many f (at n) t (at n)

-- `f ps = e`
abbrev pub equation : ℕ → List ℕ → List Shape → Tree → Item
equation n f ps e = clause f ps e (at n)

abbrev pub int : ℕ → Item
int n = sig n (codes "f") (used (suc n) (codes "Int") Unknown)

abbrev pub int_found : ℕ → Item
int_found n = sig n (codes "f") (used (suc n) (codes "Int") (prim 0))

abbrev pub small : ℕ → List ℕ → Shape
small n x = variable Written x (at n)

abbrev pub binder : ℕ → List ℕ → Tree → Tree
binder n x b = lambda (binders (plain (record { name = x; span = at n }) ∷ [])) b (at n)

abbrev pub type_at : ℕ → Tree
type_at n = universe 0 (at n) (at n)

-- data D (a : Type) : (i : a) -> i -> Type where : a parameter is seen, and an index's own name is not
abbrev pub indexed : Tree → Tree → Item
indexed a i = family (codes "D") (at 1) (param mult.Many (codes "a") (type_at 3) (at 2) ∷ [])
    (pi Written mult.Many (codes "i") a (pi Written mult.Many (codes "_") i (type_at 6) (at 5)) (at 4)) [] (at 1)

-- f : Int, f = 1, f = 1: two clauses of one group
abbrev pub one : ℕ → Tree
one n = number (pos 1) (at n)

-- the examples, computed
pub record NameRows : Type 0 where
  -- f = \x => \x => x : the newest binder
  pub newest_binder_wins : answer
      (int 1 ∷ equation 3 (codes "f") [] (binder 4 (codes "x") (binder 5 (codes "x") (used 6 (codes "x") Unknown)))
      ∷ [])
      ≡ Ok (main (int_found 1 ∷ equation 3 (codes "f") []
      (binder 4 (codes "x") (binder 5 (codes "x") (used 6 (codes "x") (Local 0)))) ∷ []))
  -- f = \x => \_ => x : a binder without a name counts
  pub unnamed_binder_counts : answer
      (int 1 ∷ equation 3 (codes "f") [] (binder 4 (codes "x") (binder 5 (codes "_") (used 6 (codes "x") Unknown)))
      ∷ [])
      ≡ Ok (main (int_found 1 ∷ equation 3 (codes "f") []
      (binder 4 (codes "x") (binder 5 (codes "_") (used 6 (codes "x") (Local 1)))) ∷ []))
  -- f : f
  pub not_in_its_own_signature : answer (sig 1 (codes "f") (used 2 (codes "f") Unknown) ∷ []) ≡ unbound
      (codes "f") (at 2)
  -- f : Int, g : f : an earlier signature is seen
  pub earlier_signature_is_seen : answer (int 1 ∷ sig 3 (codes "g") (used 4 (codes "f") Unknown) ∷ []) ≡ Ok
      (main (int_found 1 ∷ sig 3 (codes "g") (used 4 (codes "f") (own 0)) ∷ []))
  -- f : map, which two imports have
  pub two_imports : answer (sig 1 (codes "f") (used 2 (codes "map") Unknown) ∷ []) ≡ ambiguous (codes "map") (at 2)
  -- f : Data.Lists.map
  pub qualified_name : answer (sig 1 (codes "f") (used 2 (codes "Data.Lists.map") Unknown) ∷ []) ≡ Ok
      (main (sig 1 (codes "f") (used 2 (codes "Data.Lists.map") (other 1)) ∷ []))
  -- f : Trees.nil, which another import has
  pub qualified_name_of_another : answer (sig 1 (codes "f") (used 2 (codes "Trees.nil") Unknown) ∷ []) ≡ unbound
      (codes "Trees.nil") (at 2)
  -- f : Int, g : Main.f, and f : Main.g, g : Int : a qualified own name sees earlier items alone
  pub qualified_own_name : answer (int 1 ∷ sig 3 (codes "g") (used 4 (codes "Main.f") Unknown) ∷ []) ≡ Ok
      (main (int_found 1 ∷ sig 3 (codes "g") (used 4 (codes "Main.f") (own 0)) ∷ []))
  pub qualified_later_name : answer (sig 1 (codes "f") (used 2 (codes "Main.g") Unknown) ∷ int 3 ∷ []) ≡ unbound
      (codes "Main.g") (at 2)
  -- f : Prim.Int, without an import of Prim
  pub qualified_prim : answer (sig 1 (codes "f") (used 2 (codes "Prim.Int") Unknown) ∷ []) ≡ Ok
      (main (sig 1 (codes "f") (used 2 (codes "Prim.Int") (prim 0)) ∷ []))
  -- data D : Type where A : D; B : A : a constructor's type sees its family, and no constructor of it
  pub constructor_not_in_its_family :
      answer (family (codes "D") (at 1) [] (type_at 2)
      (con (codes "A") (used 4 (codes "D") Unknown) (at 3) ∷ con (codes "B") (used 6 (codes "A") Unknown)
      (at 5) ∷ []) (at 1) ∷ [])
      ≡ unbound (codes "A") (at 6)
  -- data D : Type where A : D, and f : A : the constructor is item 1
  pub constructor_behind_its_family :
      answer (family (codes "D") (at 1) [] (type_at 2) (con (codes "A") (used 4 (codes "D") Unknown) (at 3) ∷ [])
      (at 1) ∷ sig 5 (codes "f") (used 6 (codes "A") Unknown) ∷ [])
      ≡ Ok (main (family (codes "D") (at 1) [] (type_at 2)
      (con (codes "A") (used 4 (codes "D") (own 0)) (at 3) ∷ []) (at 1) ∷ sig 5 (codes "f")
      (used 6 (codes "A") (own 1)) ∷ []))
  -- data D : D where : a family is not seen in its own type
  pub family_not_in_its_type : answer (family (codes "D") (at 1) [] (used 2 (codes "D") Unknown) [] (at 1) ∷ []) ≡
      unbound (codes "D") (at 2)
  pub index_is_in_no_scope : answer (indexed (used 4 (codes "a") Unknown) (used 5 (codes "i") Unknown) ∷ []) ≡
      unbound (codes "i") (at 5)
  pub index_counts : answer (indexed (used 4 (codes "a") Unknown) (used 5 (codes "a") Unknown) ∷ []) ≡ Ok
      (main (indexed (used 4 (codes "a") (Local 0)) (used 5 (codes "a") (Local 1)) ∷ []))
  -- f .(x) x = x : a dot pattern sees a variable behind it
  pub dot_sees_later_variable :
      answer (int 1 ∷ equation 3 (codes "f")
      (dot Written (used 5 (codes "x") Unknown) (at 4) ∷ small 6 (codes "x") ∷ [])
      (used 7 (codes "x") Unknown) ∷ [])
      ≡ Ok (main (int_found 1 ∷ equation 3 (codes "f")
      (dot Written (used 5 (codes "x") (Local 0)) (at 4) ∷ small 6 (codes "x") ∷ [])
      (used 7 (codes "x") (Local 0)) ∷ []))
  -- f x _ True = x : a wildcard and a constructor count nothing
  pub wildcard_counts_nothing :
      answer (int 1 ∷ equation 3 (codes "f")
      (small 4 (codes "x") ∷ wildcard Written (at 5) ∷ constructor Written
      (head 6 (codes "True") Unknown) no_shape (at 6) ∷ []) (used 7 (codes "x") Unknown) ∷ [])
      ≡ Ok (main (int_found 1 ∷ equation 3 (codes "f")
      (small 4 (codes "x") ∷ wildcard Written (at 5) ∷ constructor Written
      (head 6 (codes "True") (prim 10)) no_shape (at 6) ∷ []) (used 7 (codes "x") (Local 0)) ∷ []))
  -- f x x = 1
  pub second_variable : answer
      (int 1 ∷ equation 3 (codes "f") (small 4 (codes "x") ∷ small 5 (codes "x") ∷ [])
      (used 6 (codes "y") Unknown) ∷ []) ≡ duplicate (codes "x") (at 5)
  -- f x Y x = y : the fault that stands first in the text is given
  pub first_fault_in_text_order :
      answer (int 1 ∷ equation 3 (codes "f")
      (small 4 (codes "x") ∷ constructor Written (head 5 (codes "Y") Unknown) no_shape (at 5) ∷
      small 6 (codes "x") ∷ []) (used 7 (codes "y") Unknown) ∷ [])
      ≡ unbound (codes "Y") (at 5)
  -- f : Int, f : Int
  pub second_item : answer (int 1 ∷ int 3 ∷ []) ≡ duplicate (codes "f") (at 3)
  -- f = 1 without a signature, and the clause of a name that an import has
  pub clause_without_signature : answer (equation 1 (codes "nil") [] (number (pos 1) (at 2)) ∷ []) ≡ unbound
      (codes "nil") (at 1)
  pub clauses_of_one_group :
      answer (int 1 ∷ equation 3 (codes "f") [] (one 4) ∷ equation 5 (codes "f") [] (one 6) ∷ [])
      ≡ Ok (main (int_found 1 ∷ equation 3 (codes "f") [] (one 4) ∷ equation 5 (codes "f") [] (one 6) ∷ []))
  -- f : Int, f = 1, g : Int, f = 1
  pub second_group :
      answer (int 1 ∷ equation 3 (codes "f") [] (one 4) ∷ sig 5 (codes "g") (used 6 (codes "Int") Unknown) ∷
      equation 7 (codes "f") [] (one 8) ∷ [])
      ≡ duplicate (codes "f") (at 7)
  -- f : Int, f = ?h, f = ?h
  pub second_hole :
      answer (int 1 ∷ equation 3 (codes "f") [] (hole (codes "h") (at 4)) ∷ equation 5 (codes "f") []
      (hole (codes "h") (at 6)) ∷ []) ≡ duplicate (codes "h") (at 6)
  -- f = do x <- x; x : a name that a statement binds is seen behind it alone
  pub bound_name_is_seen_behind :
      answer (int 1 ∷ equation 3 (codes "f") []
      (doing (statements (bind (record { name = codes "x"; span = at 4 }) (used 5 (codes "nil") Unknown) ∷
      run (used 6 (codes "x") Unknown) (at 6) ∷ [])) (at 3)) ∷ [])
      ≡ Ok (main (int_found 1 ∷ equation 3 (codes "f") []
      (doing (statements (bind (record { name = codes "x"; span = at 4 }) (used 5 (codes "nil") (other 0)) ∷
      run (used 6 (codes "x") (Local 0)) (at 6) ∷ [])) (at 3)) ∷ []))
  -- f = let x = x in x : what a `let` binds is not seen in its own value
  pub let_not_in_its_value :
      answer (int 1 ∷ equation 3 (codes "f") []
      (letting mult.Many (record { name = codes "x"; span = at 4 }) untyped (used 5 (codes "x") Unknown)
      (used 6 (codes "x") Unknown) (at 3)) ∷ [])
      ≡ unbound (codes "x") (at 5)
  -- in the signatures of Prim each name stands for what a text finds by it
  pub signatures_of_prim_are_looked_up :
      map (λ (s : Sig). filled (look_up (scope_of (record { 0 = 1 }) (main []) []) 0) [] s.type) prim_sigs ≡ map
      (λ (s : Sig). Ok s.type) prim_sigs
