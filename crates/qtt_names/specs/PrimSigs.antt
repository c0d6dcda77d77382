-- The signatures of the items of the module Prim. No text has them: each place is 0:0, of no length.
use Rattle.std.specs.Prelude.{ℕ, List, [], ◌∷◌, ◌++◌, codes}
use Rattle.qtt_base.specs.declared.place.Span.{Span}
use Rattle.qtt_usage.specs.declared.mult.Mult.{Mult}
use Rattle.qtt_usage.specs.Mult.{𝟘, 𝟙, ω}
use Rattle.qtt_syntax.specs.declared.expr.Mark.TheVariants.{Written}
use Rattle.qtt_syntax.specs.declared.expr.Target.{Target}
use Rattle.qtt_syntax.specs.declared.expr.Target.TheVariants.{Local, Global}
use Rattle.qtt_syntax.specs.Tree.{Tree, Argument, arguments}
use Rattle.qtt_syntax.specs.Tree.Tree.{name, universe, apply, pi}
use Rattle.qtt_syntax.specs.Tree.Argument.{argument}
use Rattle.qtt_names.specs.Exports.{Exports, Sig}
use Rattle.qtt_names.specs.PrimNames.{prim_id, prim_name, prim_items}

abbrev pub nowhere : Span
nowhere = record { line = 0; col = 0; len = 0 }

-- ---- types
abbrev pub used : Target → List ℕ → Tree
used to path = name (record { path = path; target = to; span = nowhere })

-- an item of Prim, by its number
abbrev pub item : ℕ → List ℕ → Tree
item n path = used (Global (prim_id n)) path

abbrev pub variable : ℕ → List ℕ → Tree
variable i path = used (Local i) path

abbrev pub types : Tree
types = universe 0 nowhere nowhere

abbrev pub given : Tree → Argument
given t = argument Written t

abbrev pub applied : Tree → List Argument → Tree
applied f ts = apply f (arguments ts) nowhere

-- `(q x : A) -> B`
abbrev pub function : Mult → List ℕ → Tree → Tree → Tree
function q x A B = pi Written q x A B nowhere

-- `A -> B`
abbrev pub arrow : Tree → Tree → Tree
arrow A B = function ω (codes "_") A B

abbrev pub int : Tree
int = item 0 (codes "Int")

abbrev pub string : Tree
string = item 1 (codes "String")

abbrev pub handle : Tree
handle = item 2 (codes "Handle")

abbrev pub unit : Tree
unit = item 3 (codes "Unit")

abbrev pub bool : Tree
bool = item 4 (codes "Bool")

abbrev pub line : Tree
line = item 5 (codes "Line")

abbrev pub io : Tree → Tree
io A = applied (item 6 (codes "IO")) (given A ∷ [])

abbrev pub io1 : Tree → Tree
io1 A = applied (item 7 (codes "IO1")) (given A ∷ [])

-- the type of the binder `a`, behind it
abbrev pub a : Tree
a = variable 0 (codes "a")

-- and behind one more binder
abbrev pub a_behind_one : Tree
a_behind_one = variable 1 (codes "a")

-- `Eq a x x`, behind `a` and `x`
abbrev pub reflexive : Tree
reflexive =
    let x = variable 0 (codes "x") in
    applied (item 13 (codes "Eq")) (given a_behind_one ∷ given x ∷ given x ∷ [])

-- ---- signatures
-- `params` binders in front are those that no text writes
abbrev pub sig : ℕ → Tree → Sig
sig params t = record { braces = 0; params = params; type = t }

-- `(0 a : Type) -> B`
abbrev pub for_types : Tree → Tree
for_types B = function 𝟘 (codes "a") types B

-- `(0 a : Type) -> (0 x : a) -> B`
abbrev pub for_points : Tree → Tree
for_points B = for_types (function 𝟘 (codes "x") a B)

-- `Int -> Int -> A`
abbrev pub of_numbers : Tree → Sig
of_numbers A = sig 0 (arrow int (arrow int A))

-- `String -> String -> A`
abbrev pub of_texts : Tree → Sig
of_texts A = sig 0 (arrow string (arrow string A))

-- `(1 h : Handle) -> A`
abbrev pub of_handle : Tree → Sig
of_handle A = sig 0 (function 𝟙 (codes "h") handle A)

-- `(0 _ : Type) -> Type`
abbrev pub of_type : Sig
of_type = sig 0 (function 𝟘 (codes "_") types types)

-- `(0 a : Type) -> (0 x : a) -> a -> Type`
abbrev pub of_equality : Sig
of_equality = sig 0 (for_points (arrow a_behind_one types))

-- `(0 a : Type) -> a -> IO a`
abbrev pub of_pure : Sig
of_pure = sig 1 (for_types (arrow a (io a_behind_one)))

-- `(0 a : Type) -> (1 x : a) -> IO1 a`
abbrev pub of_pure1 : Sig
of_pure1 = sig 1 (for_types (function 𝟙 (codes "x") a (io1 a_behind_one)))

-- Int, String, Handle, Unit, Bool, Line; IO, IO1
abbrev pub type_sigs : List Sig
type_sigs = sig 0 types ∷ sig 0 types ∷ sig 0 types ∷ sig 0 types ∷ sig 0 types ∷ sig 0 types ∷ of_type ∷ of_type ∷ []

-- MkUnit, False, True, Eof, Got; Eq, Refl
abbrev pub constructor_sigs : List Sig
constructor_sigs =
    sig 0 unit ∷ sig 0 bool ∷ sig 0 bool ∷ sig 0 line ∷ sig 0 (arrow string line) ∷ of_equality ∷
    sig 2 (for_points reflexive) ∷ []

-- addInt, subInt, mulInt, divInt, modInt; eqInt, ltInt
abbrev pub number_sigs : List Sig
number_sigs = of_numbers int ∷ of_numbers int ∷ of_numbers int ∷ of_numbers int ∷ of_numbers int ∷
    of_numbers bool ∷ of_numbers bool ∷ []

-- appendString, eqString, showInt
abbrev pub text_sigs : List Sig
text_sigs = of_texts string ∷ of_texts bool ∷ sig 0 (arrow int string) ∷ []

-- pure, pure1; putLine, getLine; open, write, close
abbrev pub action_sigs : List Sig
action_sigs =
    of_pure ∷ of_pure1 ∷ sig 0 (arrow string (io unit)) ∷ sig 0 (io line)
    ∷ sig 0 (arrow string (io1 handle)) ∷ of_handle (arrow string (io1 handle)) ∷ of_handle (io unit) ∷ []

-- in the order of the items' numbers
abbrev pub prim_sigs : List Sig
prim_sigs = type_sigs ++ constructor_sigs ++ number_sigs ++ text_sigs ++ action_sigs

abbrev pub prim_exports : Exports
prim_exports = record { home = record { 0 = 0 }; name = prim_name; items = prim_items; sigs = prim_sigs }
