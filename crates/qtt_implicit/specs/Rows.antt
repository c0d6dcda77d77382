-- Worked examples of filling.
use Rattle.std.specs.Prelude.{◌≡◌, ℕ, pos, true, List, [], ◌∷◌, ◌++◌, map, flat_map, decimal, bytes_eq, Option, Some, None, Result, Ok, Err, codes}
use Rattle.qtt_base.specs.declared.place.Span.{Span}
use Rattle.qtt_usage.specs.Mult.{ω}
use Rattle.qtt_syntax.specs.declared.expr.Mark.TheVariants.{Written, Braced, Inserted}
use Rattle.qtt_syntax.specs.declared.expr.Named.{Named}
use Rattle.qtt_syntax.specs.declared.expr.Target.{Target}
use Rattle.qtt_syntax.specs.declared.expr.Target.TheVariants as target
use Rattle.qtt_syntax.specs.Tree.{Tree, Binder, Shape, Shapes, Param, Con, Item, Module, arguments, statements, binders}
use Rattle.qtt_syntax.specs.Tree.Tree.{name, apply, letting, lambda, doing}
use Rattle.qtt_syntax.specs.Tree.Annotation.{untyped}
use Rattle.qtt_syntax.specs.Tree.Binder.{plain, typed_binder}
use Rattle.qtt_syntax.specs.Tree.Statement.{bind, run}
use Rattle.qtt_syntax.specs.Tree.Argument.{argument}
use Rattle.qtt_syntax.specs.Tree.Shape.{variable, wildcard, constructor, dot}
use Rattle.qtt_syntax.specs.Tree.Shapes.{no_shape, shape_and}
use Rattle.qtt_syntax.specs.Tree.Param.{param}
use Rattle.qtt_syntax.specs.Tree.Con.{con}
use Rattle.qtt_syntax.specs.Tree.Item.{family, signature, clause}
use Rattle.qtt_syntax.specs.Tree.Module.{module_text}
use Rattle.qtt_syntax.specs.Words.{written}
use Rattle.qtt_syntax.specs.Printing.{expr, printed}
use Rattle.qtt_names.specs.Answer as names
use Rattle.qtt_names.specs.Exports.{Exports, Sig}
use Rattle.qtt_names.specs.PrimNames.{prim_id, scope_of}
use Rattle.qtt_names.specs.Resolved.{resolved}
use Rattle.qtt_implicit.specs.Moving.{Change, nowhere, changed, nodes}
use Rattle.qtt_implicit.specs.Filled.{Refusal, FilledText, Filled, item_nodes, at_start, filled_items, filled}
use Rattle.qtt_implicit.specs.Forget.{text_forgotten}
use Rattle.qtt_implicit.specs.Texts.{at, here, used_at, used, call, int, types, binder, arrow, var, any, con_pattern, typed, equation, main_module, nat, s, vect, numbers, vectors, append_type, total_type, short_program, long_program, with_empty, empty_with, empty_alone, with_id, id_of}

-- ---- reading a text: names are looked up, and then it is filled
abbrev pub looked_up : Module → names.Answer Module
looked_up m = resolved (scope_of (record { 0 = 1 }) m []) m

-- the text with what is filled in, or why it is refused; None where a name is refused before
abbrev pub Outcome : Type 0
Outcome = Result FilledText (Option Refusal)

abbrev pub outcome : Result FilledText Refusal → Outcome
outcome (Ok t) = Ok t
outcome (Err e) = Err (Some e)

abbrev pub filled_names : names.Answer Module → Outcome
filled_names (Ok m) = outcome (filled (record { 0 = 1 }) [] m)
filled_names (Err e) = Err None

abbrev pub reading : Module → Outcome
reading m = filled_names (looked_up m)

abbrev pub text_of : Outcome → Option Module
text_of (Ok t) = Some t.text
text_of (Err e) = None

abbrev pub forgotten_of : Outcome → Option Module
forgotten_of (Ok t) = Some (text_forgotten t.text)
forgotten_of (Err e) = None

abbrev pub refused : Outcome → Option Refusal
refused (Ok t) = None
refused (Err e) = e

abbrev pub module_of : names.Answer Module → Option Module
module_of (Ok m) = Some m
module_of (Err e) = None

-- ---- texts but for places, marks, and the names of local binders: each used name is spelled by what it stands for
abbrev pub spelled : Target → List ℕ
spelled (target.Local i) = codes "x" ++ decimal i
spelled (target.Global id) = codes "g" ++ decimal id.module.0 ++ codes "x" ++ decimal id.item
spelled target.Unknown = codes "_"

abbrev pub outlined_name : Named → Named
outlined_name n = record { path = spelled n.target; target = n.target; span = nowhere }

abbrev pub outline : Change
outline = record { name = λ d n. name (outlined_name n); mark = λ k. Written; span = λ s. nowhere }

abbrev mutual
  pub outlined_shape : Shape → Shape
  outlined_shape (variable k n s) = variable Written (codes "v") nowhere
  outlined_shape (wildcard k s) = wildcard Written nowhere
  outlined_shape (constructor k h ps s) = constructor Written (outlined_name h) (outlined_shapes ps) nowhere
  outlined_shape (dot k e s) = dot Written (changed outline 0 e) nowhere

  pub outlined_shapes : Shapes → Shapes
  outlined_shapes no_shape = no_shape
  outlined_shapes (shape_and p more) = shape_and (outlined_shape p) (outlined_shapes more)

abbrev pub outlined_param : Param → Param
outlined_param (param m n t s) = param m n (changed outline 0 t) nowhere

abbrev pub outlined_con : Con → Con
outlined_con (con n t s) = con n (changed outline 0 t) nowhere

abbrev pub outlined_item : Item → Item
outlined_item (family n ns ps t cs s) = family n nowhere (map outlined_param ps) (changed outline 0 t)
    (map outlined_con cs) nowhere
outlined_item (signature p m n ns t s) = signature p m n nowhere (changed outline 0 t) nowhere
outlined_item (clause n ps side s) = clause n (map outlined_shape ps) (changed outline 0 side) nowhere

abbrev pub outlined : Option Module → Option Module
outlined None = None
outlined (Some (module_text h n ns is items)) = Some (module_text nowhere n nowhere is (map outlined_item items))

abbrev pub print_of : Option Module → List ℕ
print_of None = []
print_of (Some m) = printed m

abbrev pub lines : List (List ℕ) → List ℕ
lines = flat_map (λ l. l ++ 10 ∷ [])

-- the text with what is filled in, as it is printed
abbrev pub filled_program : List ℕ
filled_program = lines (
    codes "module Main"
    ∷ codes "data Nat : Type where"
    ∷ codes "  Z : Nat"
    ∷ codes "  S : Nat -> Nat"
    ∷ codes "plus : Nat -> Nat -> Nat"
    ∷ codes "plus Z m = m"
    ∷ codes "plus (S n) m = S (plus n m)"
    ∷ codes "data Vect (a : Type) : Nat -> Type where"
    ∷ codes "  Nil : Vect a Z"
    ∷ codes "  Cons : {0 k : Nat} -> (1 x : a) -> (1 xs : Vect a k) -> Vect a (S k)"
    ∷ codes "append : {0 a : Type} -> {0 m : Nat} -> {0 n : Nat} -> (1 xs : Vect a m) -> (1 ys : Vect a n) -> Vect a (plus m n)"
    ∷ codes "append '0 '1 '2 Nil ys = ys"
    ∷ codes "append '0 '1 '2 (Cons '3 x xs) ys = Cons {plus '3 '2} x (append {'0} {'3} {'2} xs ys)"
    ∷ codes "total : {0 n : Nat} -> Vect Int n -> Int"
    ∷ codes "total '0 Nil = 0"
    ∷ codes "total '0 (Cons '1 x xs) = addInt x (total {'1} xs)"
    ∷ codes "main : IO Unit"
    ∷ codes "main = putLine (showInt (total {plus (S (S Z)) (S Z)} (append {Int} {S (S Z)} {S Z} (Cons {S Z} 4 (Cons {Z} 5 Nil)) (Cons {Z} 6 Nil))))"
    ∷ [])

pub record VectorRows : Type 0 where
  pub printed_text : print_of (text_of (reading short_program)) ≡ filled_program
  -- it is the text that is written out
  pub same_text : bytes_eq (print_of (outlined (text_of (reading short_program))))
      (print_of (outlined (module_of (looked_up long_program)))) ≡ true
  pub forgotten : forgotten_of (reading short_program) ≡ module_of (looked_up short_program)

-- ---- what is inserted
abbrev pub side_of : Item → Option Tree
side_of (clause n ps side s) = Some side
side_of _ = None

abbrev pub last_side : List Item → Option Tree
last_side [] = None
last_side (i ∷ []) = side_of i
last_side (i ∷ j ∷ more) = last_side (j ∷ more)

abbrev pub side_in : Option Module → Option Tree
side_in None = None
side_in (Some (module_text h n ns is items)) = last_side items

-- the right side of the last clause
abbrev pub last : Module → Option Tree
last m = side_in (text_of (reading m))

abbrev pub prim_at : Span → ℕ → List ℕ → Tree
prim_at s n path = name (record { path = path; target = target.Global (prim_id n); span = s })

abbrev pub own_at : Span → ℕ → List ℕ → Tree
own_at s n path = name (record {
  path = path;
  target = target.Global
      (record { «module» = record { 0 = 1 }; item = n });
  span = s;
})

-- `id {a} x`, `a` inserted
abbrev pub filled_id : Tree → Tree → Tree
filled_id a x = apply (own_at (at 5 5) 0 (codes "id")) (arguments (argument Inserted a ∷ argument Written x ∷ [])) (at 5 5)

-- x : Int; x = t
abbrev pub x_is : Tree → Module
x_is t = with_id (typed (codes "x") (used (codes "Int")) ∷ equation (codes "x") [] t ∷ [])

abbrev pub let_in : List ℕ → Tree → Tree → Tree
let_in n e b = letting ω (record { name = n; span = here }) untyped e b here

-- the right side of the last clause, as it is printed
abbrev pub words_of : Option Tree → List ℕ
words_of None = []
words_of (Some t) = written (expr 0 t)

abbrev pub last_text : Module → List ℕ
last_text m = words_of (last m)

-- m : IO Int; m = t
abbrev pub m_is : Tree → Module
m_is t = with_id (typed (codes "m") (call (codes "IO") (used (codes "Int") ∷ [])) ∷ equation (codes "m") [] t ∷ [])

-- g : (n : Nat) -> Vect Int n -> Int; g p v = t
abbrev pub g_is : Shape → Tree → Module
g_is p t =
    main_module (numbers ++ vectors Braced ∷ append_type Braced ∷ total_type Braced
    ∷ typed (codes "g") (binder Written ω (codes "n") nat (arrow (vect (used (codes "Int")) (used (codes "n"))) (used (codes "Int"))))
    ∷ equation (codes "g") (p ∷ var (codes "v") ∷ []) t ∷ [])

abbrev pub total_v : Tree
total_v = apply (used_at (at 5 5) (codes "total")) (arguments (argument Written (used (codes "v")) ∷ [])) (at 5 5)

-- append {Int} v (append v v)
abbrev pub braces_in_front : Tree
braces_in_front =
    let v = used (codes "v") in
    apply (used (codes "append")) (arguments (argument Braced (used (codes "Int")) ∷ argument Written v
    ∷ argument Written (call (codes "append") (v ∷ v ∷ [])) ∷ [])) here

-- h : (n : Nat) -> (m : Nat) -> Vect Int m -> Int; h n p v = total v
abbrev pub h_of : Shape → Module
h_of p =
    main_module (numbers ++ vectors Braced ∷ total_type Braced
    ∷ typed (codes "h") (binder Written ω (codes "n") nat
    (binder Written ω (codes "m") nat (arrow (vect (used (codes "Int")) (used (codes "m"))) (used (codes "Int")))))
    ∷ equation (codes "h") (var (codes "n") ∷ p ∷ var (codes "v") ∷ []) total_v ∷ [])

abbrev pub dotted : Tree → Shape
dotted t = dot Written t here

-- a binder of a `\` without a type, and with one
abbrev pub id_under : Binder → Tree
id_under b = lambda (binders (b ∷ [])) (id_of (used (codes "y"))) here

abbrev pub y_untyped : Binder
y_untyped = plain (record { name = codes "y"; span = here })

abbrev pub y_typed : Binder
y_typed = typed_binder ω (record { name = codes "y"; span = here }) (used (codes "Int")) here

-- do y <- pure 3; pure (id y)
abbrev pub bound_number : Tree
bound_number =
    doing (statements (bind (record { name = codes "y"; span = here }) (call (codes "pure") (int (pos 3) ∷ []))
    ∷ run (call (codes "pure") (id_of (used (codes "y")) ∷ [])) here ∷ [])) here

-- p : Eq Int (id 3) 3; p = Refl
abbrev pub in_a_type : Module
in_a_type = with_id (typed (codes "p") (call (codes "Eq") (used (codes "Int") ∷ id_of (int (pos 3)) ∷ int (pos 3) ∷ []))
    ∷ equation (codes "p") [] (used (codes "Refl")) ∷ [])

-- id (id (addInt 1) 3)
abbrev pub of_function_applied : Tree
of_function_applied = id_of (apply (used_at (at 5 5) (codes "id"))
    (arguments (argument Written (call (codes "addInt") (int (pos 1) ∷ [])) ∷ argument Written (int (pos 3)) ∷ [])) (at 5 5))

-- module A, which is module 2, has `id`; Main imports it: x : Int; x = id 3
abbrev pub sigs_of : Outcome → List Sig
sigs_of (Ok t) = t.sigs
sigs_of (Err e) = []

abbrev pub exports_of_a : Exports
exports_of_a = record {
  home = record { 0 = 2 };
  name = codes "A";
  items = (codes "id", record { «module» = record { 0 = 2 }; item = 0 }) ∷ [];
  sigs = sigs_of (reading (with_id []));
}

abbrev pub filled_with_a : names.Answer Module → Outcome
filled_with_a (Ok m) = outcome (filled (record { 0 = 1 }) (exports_of_a ∷ []) m)
filled_with_a (Err e) = Err None

abbrev pub importing_a : List Item → Outcome
importing_a items = filled_with_a (resolved (scope_of (record { 0 = 1 }) (main_module items)
    (record { name = codes "A"; items = exports_of_a.items } ∷ [])) (main_module items))

abbrev pub x_in_main : Tree → List Item
x_in_main t = typed (codes "x") (used (codes "Int")) ∷ equation (codes "x") [] t ∷ []

pub record FillingRows : Type 0 where
  pub empty_unsolved : refused (reading (with_empty empty_alone)) ≡ Some (Refusal.unsolved (codes "a") (at 5 5))
  pub empty_given : last_text (with_empty (empty_with (used (codes "Int") ∷ []))) ≡ codes "empty {Int}"
  pub two_braces : refused (reading (with_empty (empty_with (used (codes "Int") ∷ used (codes "Int") ∷ [])))) ≡ Some
      (Refusal.braces 1 2 (at 5 5))
  -- f x = x {Int}
  pub braces_on_local : refused (reading (main_module (typed (codes "f") (arrow (used (codes "Int")) (used (codes "Int")))
      ∷ equation (codes "f") (var (codes "x") ∷ [])
      (apply (used_at (at 5 5) (codes "x")) (arguments (argument Braced (used (codes "Int")) ∷ [])) (at 5 5)) ∷ [])))
      ≡ Some (Refusal.braces 0 1 (at 5 5))
  -- what is inserted stands at the used name
  pub of_number : last (x_is (id_of (int (pos 3)))) ≡ Some (filled_id (prim_at (at 5 5) 0 (codes "Int")) (int (pos 3)))
  pub of_let : last_text (x_is (let_in (codes "y") (int (pos 3)) (id_of (used (codes "y"))))) ≡ codes "let y = 3 in id {Int} y"
  -- of a function that is applied in part
  pub of_function : last_text (x_is (let_in (codes "p") (call (codes "addInt") (int (pos 1) ∷ []))
      (id_of (call (codes "p") (int (pos 2) ∷ [])))))
      ≡ codes "let p = addInt 1 in id {Int} (p 2)"
  -- an argument more than the signature has binders
  pub of_more_arguments : last_text (x_is of_function_applied) ≡ codes "id {Int} (id {Int -> Int} (addInt 1) 3)"
  pub of_bound : last_text (m_is bound_number) ≡ codes "do\n  y <- pure 3\n  pure (id {Int} y)"
  pub of_untyped : refused (reading (x_is (id_under y_untyped))) ≡ Some (Refusal.unsolved (codes "a") (at 5 5))
  pub of_typed : last_text (x_is (id_under y_typed)) ≡ codes "\\(y : Int) => id {Int} y"
  pub in_a_signature : print_of (text_of (reading in_a_type)) ≡ codes "module Main\nid : {0 a : Type} -> a -> a\nid '0 x = x\np : Eq Int (id {Int} 3) 3\np = Refl\n"
  -- a variable pattern stands for itself; `_` is unknown
  pub by_variable : last_text (g_is (var (codes "n")) total_v) ≡ codes "total {n} v"
  pub by_wildcard : refused (reading (g_is any total_v)) ≡ Some (Refusal.unsolved (codes "n") (at 5 5))
  pub by_constructor : last_text (g_is (con_pattern (codes "S") (var (codes "m") ∷ [])) total_v) ≡ codes "total {S m} v"
  pub by_dot : last_text (h_of (dotted (used (codes "n")))) ≡ codes "total {n} v"
  -- of an imported name
  pub imported : words_of (side_in (text_of (importing_a (x_in_main (id_of (int (pos 3))))))) ≡ codes "id {Int} 3"
  pub imported_unsolved : refused (importing_a (x_in_main (used_at (at 5 5) (codes "A.id")))) ≡ Some
      (Refusal.unsolved (codes "a") (at 5 5))
  -- braces fill the first slots, and arguments the others
  pub some_braces : last_text (g_is (var (codes "n")) braces_in_front) ≡ codes "append {Int} {n} {plus n n} v (append {Int} {n} {n} v v)"

-- ---- limits
abbrev pub resolved_items : Option Module → List Item
resolved_items None = []
resolved_items (Some (module_text h n ns is items)) = items

abbrev pub in_limit : Result Filled Refusal → Option Refusal
in_limit (Ok r) = None
in_limit (Err e) = Some e

-- with another limit than the standard one
abbrev pub limited : ℕ → Module → Option Refusal
limited limit m = in_limit (filled_items limit (at_start (record { 0 = 1 }) [])
    (resolved_items (module_of (looked_up m))))

abbrev pub three_times : Tree
three_times = id_of (id_of (id_of (int (pos 3))))

pub record LimitRows : Type 0 where
  pub of_application : nodes (call (codes "f") (int (pos 1) ∷ types ∷ [])) ≡ 4
  pub of_arrow : nodes (arrow nat nat) ≡ 3
  -- three uses of `id` with their argument, and three types that are put in
  pub of_clause : item_nodes (equation (codes "x") [] three_times) ≡ 7
  pub ten_fit : limited 10 (x_is three_times) ≡ None
  pub nine_are_passed : limited 9 (x_is three_times) ≡ Some (Refusal.too_large 10 here)
  -- the item's own nodes are too many: it isn't walked
  pub own_nodes : limited 6 (x_is (id_of (id_of (id_of (id_under y_untyped))))) ≡ Some (Refusal.too_large 7 here)
  -- a pattern is a node, and one is put in for a binder in braces: `id x = x`
  pub of_patterns : item_nodes (equation (codes "id") (var (codes "x") ∷ []) (used (codes "x"))) ≡ 2
