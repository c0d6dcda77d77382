-- Worked examples of modules: the module Main, in lines from 2 on.
use Rattle.std.specs.Prelude.{◌≡◌, ℕ, pos, false, List, [], ◌∷◌, codes, Option, Some, None}
use Rattle.qtt_base.specs.declared.place.GlobalId.{GlobalId}
use Rattle.qtt_base.specs.declared.place.Span.{Span}
use Rattle.qtt_usage.specs.declared.mult.Mult.{Mult}
use Rattle.qtt_usage.specs.Mult.{𝟘, 𝟙, ω}
use Rattle.qtt_syntax.specs.declared.expr.Mark.TheVariants.{Written}
use Rattle.qtt_syntax.specs.Tree.{Tree, Shape, shapes, Item}
use Rattle.qtt_syntax.specs.Tree.Shape.{variable, wildcard, constructor}
use Rattle.qtt_syntax.specs.Tree.Tree.{hole, text}
use Rattle.qtt_syntax.specs.Tree.Con.{con}
use Rattle.qtt_term.specs.declared.rule.Rule.{Rule}
use Rattle.qtt_term.specs.Term.{Form, Term, var, node, Sort, Pi, Def, IntLit, TextLit, ε, Fam}
use Rattle.qtt_term.specs.Signature.{Definition, prim_id, IntTy, StringTy, BoolTy}
use Rattle.qtt_term.specs.Items.{FamilyEntry, DefinitionEntry}
use Rattle.qtt_term.specs.Ask.{Question, Ending, within}
use Rattle.qtt_term.specs.Programs.{item, many, zero_def, io_unit, put}
use Rattle.qtt_term.specs.Entries.{env, prim_entries}
use Rattle.qtt_rules.specs.Refusal.{Cause, Place, Refusal, refused}
use Rattle.qtt_bidi.specs.Programs.{at, here, prim, main, int, digits, types, call, function, arrow, entry, after_prim, nat_entry}
use Rattle.qtt_holes.specs.Hole.{Hole}
use Rattle.qtt_module.specs.Module.{Home, Checked, module_within, check_main}
use Rattle.qtt_syntax.specs.declared.expr.Target.TheVariants as target
use Rattle.qtt_term.specs.declared.rule.Rule.TheVariants as rule
use Rattle.qtt_rules.specs.Refusal as refusal

-- ---- what is asked: a module over Prim alone, where each question has n contractions
abbrev pub home : Home
home = record { id = record { 0 = 1 }; name = codes "Main" }

abbrev pub checks : ℕ → List Item → Ending Refusal Place Checked
checks n is = module_within home n prim_entries is

-- ---- what is answered
-- these families and definitions, with the number of definitions and the main
abbrev pub keeps : List FamilyEntry → List DefinitionEntry → ℕ → Option GlobalId → List Hole → Checked
keeps Fs ds n m hs = record {
  part = record { families = Fs; definitions = ds };
  definitions = n;
  holes = hs;
  main = m;
}

abbrev pub accepts : List FamilyEntry → List DefinitionEntry → ℕ → Option GlobalId → List Hole → Ending Refusal Place
    Checked
accepts Fs ds n m hs = Ending.ok (keeps Fs ds n m hs)

abbrev pub refuses : {A : Type 0} → Cause → Span → Rule → ℕ → Ending Refusal Place A
refuses c s r k = Ending.fails (refused c (refusal.at s r k))

-- ---- items that begin on a line
abbrev pub signs : ℕ → List ℕ → Tree → Item
signs l n t = Item.signature false ω n (at l 1) t (at l 1)

abbrev pub signs_zero : ℕ → List ℕ → Tree → Item
signs_zero l n t = Item.signature false 𝟘 n (at l 3) t (at l 1)

abbrev pub clause : ℕ → List ℕ → List Shape → Tree → Item
clause l n ps e = Item.clause n ps e (at l 1)

abbrev pub x_pattern : ℕ → Shape
x_pattern l = variable Written (codes "x") (at l 3)

abbrev pub truth_pattern : ℕ → ℕ → Shape
truth_pattern n l = constructor Written (record { path = []; target = target.Global (prim_id n); span = at l 5 })
    (shapes []) (at l 5)

-- a definition without a body
abbrev pub signed : Mult → Term → Definition
signed q A = record { mult = q; type = A; body = None }

-- ---- main : IO Unit; main = putLine "a"
abbrev pub hello : List Item
hello =
    signs 2 (codes "main") (call (prim 6 (codes "IO") (at 2 8)) (prim 3 (codes "Unit") (at 2 11) ∷ []) (at 2 8))
    ∷ clause 3 (codes "main") [] (call (prim 27 (codes "putLine") (at 3 8)) (text (codes "a") (at 3 16) ∷ [])
    (at 3 8)) ∷ []

-- ---- f : (1 x : Int) -> Bool -> Int; f x True = ?a; f x False = e
abbrev pub f_type : Tree
f_type = function 𝟙 (codes "x") (int (at 2 10)) (arrow (prim 4 (codes "Bool") (at 2 18)) (int (at 2 26)) (at 2 18))
    (at 2 5)

abbrev pub with_hole : Tree → List Item
with_hole e =
    signs 2 (codes "f") f_type ∷ clause 3 (codes "f") (x_pattern 3 ∷ truth_pattern 10 3 ∷ [])
    (hole (codes "a") (at 3 12))
    ∷ clause 4 (codes "f") (x_pattern 4 ∷ truth_pattern 9 4 ∷ []) e ∷ []

abbrev pub hole_alone : List Item
hole_alone = signs 2 (codes "f") f_type ∷ clause 3 (codes "f") (x_pattern 3 ∷ truth_pattern 10 3 ∷ [])
    (hole (codes "a") (at 3 12)) ∷ []

abbrev pub hole_a : Hole
hole_a = record {
  name = codes "a";
  span = at 3 12;
  goal = IntTy;
  depth = 3;
  seen = record
      { name = codes "x"; type = IntTy; stands = var 0; left = Some 𝟙 } ∷ [];
}

abbrev pub false_missing : List Shape
false_missing =
    wildcard Written (at 3 1) ∷ constructor Written (record {
      path = codes "False";
      target = target.Global (prim_id 9);
      span = at 3 1;
    }) (shapes []) (at 3 1) ∷ []

-- ---- a definition has no contraction before its clauses
abbrev pub t_signed : ℕ → Item
t_signed l = signs l (codes "t") (types (at l 5))

abbrev pub t_given : ℕ → Item
t_given l = clause l (codes "t") [] (int (at l 5))

abbrev pub y_signed : ℕ → Item
y_signed l = signs l (codes "y") (main 0 (codes "t") (at l 5))

abbrev pub y_given : ℕ → Item
y_given l = clause l (codes "y") [] (digits 3 (at l 5))

abbrev pub t_and_y : Ending Refusal Place Checked
t_and_y = accepts [] (entry 0 (codes "t") (many (Sort 0) IntTy) ∷ entry 1 (codes "y")
    (many (Def (item 0)) (IntLit (pos 3))) ∷ []) 2 None []

-- ---- data Nat : Type where Z : Nat; S : Nat -> Nat; then f : Nat; f = Z
abbrev pub nat_name : Span → Tree
nat_name = main 0 (codes "Nat")

abbrev pub numbers : List Item
numbers =
    Item.family (codes "Nat") (at 2 6) [] (types (at 2 12))
    (con (codes "Z") (nat_name (at 3 7)) (at 3 3) ∷ con (codes "S")
    (arrow (nat_name (at 4 7)) (nat_name (at 4 14)) (at 4 7)) (at 4 3) ∷ []) (at 2 1)
    ∷ signs 5 (codes "f") (nat_name (at 5 5)) ∷ clause 6 (codes "f") [] (main 1 (codes "Z") (at 6 5)) ∷ []

-- y : Int, without clauses; and t = "a"
abbrev pub y_less : Item
y_less = signs 2 (codes "y") (int (at 2 5))

abbrev pub t_given_text : Item
t_given_text = clause 4 (codes "t") [] (text (codes "a") (at 4 5))

-- ---- the test of a main, where this is what the module declares
abbrev pub main_of : List DefinitionEntry → Option GlobalId → Ending Refusal Place GlobalId
main_of ds m =
    within (env (after_prim [] ds)) 0 (check_main (after_prim [] ds) (at 1 1)
    (record { part = record { families = []; definitions = ds }; definitions = 1; holes = []; main = m }))

abbrev pub hello_part : List DefinitionEntry
hello_part = entry 0 (codes "main") (many io_unit (put (TextLit (codes "a")))) ∷ []

pub record ModuleRows : Type 0 where
  pub says_hello : checks 0 hello ≡ accepts [] (entry 0 (codes "main") (many io_unit (put (TextLit (codes "a")))) ∷ [])
      1 (Some (item 0)) []
  -- a definition with a hole has no body; the other clauses are judged
  pub one_hole : checks 0 (with_hole (here 0 (codes "x") (at 4 13))) ≡ accepts []
      (entry 0 (codes "f") (signed ω (Pi 𝟙 IntTy (Pi ω BoolTy IntTy))) ∷ []) 1 None (hole_a ∷ [])
  pub other_clause : checks 0 (with_hole (digits 3 (at 4 13))) ≡ refuses (Cause.wrong_usage (Some (codes "x")) 𝟙 𝟘)
      (at 4 3) rule.Clauses 16
  pub hole_and_missing : checks 0 hole_alone ≡ refuses (Cause.missing (codes "f") false_missing) (at 3 1) rule.Clauses
      13
  -- no clauses: told behind the last item
  pub no_clauses : checks 0 (t_signed 2 ∷ y_signed 3 ∷ t_given 4 ∷ []) ≡ refuses (Cause.no_clauses (codes "y")) (at 3 1)
      rule.Clauses 18
  pub items_come_first : checks 0 (y_less ∷ t_signed 3 ∷ t_given_text ∷ []) ≡ refuses
      (Cause.mismatch 0 (Sort 0) StringTy) (at 4 5) rule.Switch 2
  -- bodies in turn
  pub body_first : checks 1 (t_signed 2 ∷ t_given 3 ∷ y_signed 4 ∷ y_given 5 ∷ []) ≡ t_and_y
  pub signatures_first : checks 1 (t_signed 2 ∷ y_signed 3 ∷ t_given 4 ∷ y_given 5 ∷ []) ≡ t_and_y
  pub body_last : checks 9 (t_signed 2 ∷ y_signed 3 ∷ y_given 4 ∷ t_given 5 ∷ []) ≡ refuses
      (Cause.mismatch 0 (Def (item 0)) IntTy) (at 4 5) rule.Switch 2
  pub spent_later : checks 0 (t_signed 2 ∷ t_given 3 ∷ y_signed 4 ∷ y_given 5 ∷ []) ≡ Ending.spent
      (refusal.at (at 5 5) rule.Switch 2) (Question.compared 0 IntTy (Def (item 0)))
  -- items have their numbers: a family, its constructors, then the definition
  pub with_numbers : checks 0 numbers ≡ accepts (nat_entry ∷ [])
      (entry 3 (codes "f") (many (Fam (item 0) ε) (node (Form.con (item 0) 0 0) ε)) ∷ []) 1 None []
  -- a 0 definition is judged in the erased part
  pub of_zero : checks 0 (signs_zero 2 (codes "d") (int (at 2 7)) ∷ clause 3 (codes "d") [] (digits 3 (at 3 5)) ∷ []) ≡
      accepts [] (entry 0 (codes "d") (zero_def IntTy (IntLit (pos 3))) ∷ []) 1 None []
  pub main_of_hello : main_of hello_part (Some (item 0)) ≡ Ending.ok (item 0)
  pub no_main : main_of hello_part None ≡ refuses Cause.wrong_main (at 1 1) rule.Main 1
