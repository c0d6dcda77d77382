-- Small texts with implicit arguments, and the same written out.
use Rattle.std.specs.Prelude.{ℕ, pos, ℤ, false, List, [], ◌∷◌, ◌++◌, map, codes}
use Rattle.qtt_base.specs.declared.place.Span.{Span}
use Rattle.qtt_usage.specs.declared.mult.Mult.{Mult}
use Rattle.qtt_usage.specs.Mult.{𝟘, 𝟙, ω}
use Rattle.qtt_syntax.specs.declared.expr.Mark.{Mark}
use Rattle.qtt_syntax.specs.declared.expr.Mark.TheVariants.{Written, Braced}
use Rattle.qtt_syntax.specs.declared.expr.Named.{Named}
use Rattle.qtt_syntax.specs.declared.expr.Target.TheVariants.{Unknown}
use Rattle.qtt_syntax.specs.Tree.{Tree, Shape, Item, Module, arguments, shapes}
use Rattle.qtt_syntax.specs.Tree.Tree.{name, number, universe, apply, pi}
use Rattle.qtt_syntax.specs.Tree.Argument.{argument}
use Rattle.qtt_syntax.specs.Tree.Shape.{variable, wildcard, constructor}
use Rattle.qtt_syntax.specs.Tree.Param.{param}
use Rattle.qtt_syntax.specs.Tree.Con.{con}
use Rattle.qtt_syntax.specs.Tree.Item.{family, signature, clause}
use Rattle.qtt_syntax.specs.Tree.Module.{module_text}

-- ---- trees; most of them stand at one place
abbrev pub at : ℕ → ℕ → Span
at line col = record { line = line; col = col; len = 1 }

abbrev pub here : Span
here = at 1 1

abbrev pub named_at : Span → List ℕ → Named
named_at s n = record { path = n; target = Unknown; span = s }

abbrev pub used_at : Span → List ℕ → Tree
used_at s n = name (named_at s n)

abbrev pub used : List ℕ → Tree
used = used_at here

abbrev pub call : List ℕ → List Tree → Tree
call f ts = apply (used f) (arguments (map (λ t. argument Written t) ts)) here

abbrev pub int : ℤ → Tree
int z = number z here

abbrev pub types : Tree
types = universe 0 here here

-- `(q x : A) -> B`, `{0 x : A} -> B`, and `A -> B`
abbrev pub binder : Mark → Mult → List ℕ → Tree → Tree → Tree
binder k q x A B = pi k q x A B here

abbrev pub arrow : Tree → Tree → Tree
arrow A B = binder Written ω (codes "_") A B

abbrev pub var : List ℕ → Shape
var n = variable Written n here

abbrev pub any : Shape
any = wildcard Written here

abbrev pub con_pattern : List ℕ → List Shape → Shape
con_pattern n ps = constructor Written (named_at here n) (shapes ps) here

abbrev pub typed : List ℕ → Tree → Item
typed n t = signature false ω n here t here

abbrev pub equation : List ℕ → List Shape → Tree → Item
equation n ps e = clause n ps e here

abbrev pub main_module : List Item → Module
main_module items = module_text here (codes "Main") here [] items

-- ---- numbers and vectors
abbrev pub nat : Tree
nat = used (codes "Nat")

abbrev pub z : Tree
z = used (codes "Z")

abbrev pub s : Tree → Tree
s n = call (codes "S") (n ∷ [])

abbrev pub plus : Tree → Tree → Tree
plus n m = call (codes "plus") (n ∷ m ∷ [])

abbrev pub vect : Tree → Tree → Tree
vect a n = call (codes "Vect") (a ∷ n ∷ [])

-- data Nat : Type where Z : Nat; S : Nat -> Nat
-- plus : Nat -> Nat -> Nat; plus Z m = m; plus (S n) m = S (plus n m)
abbrev pub numbers : List Item
numbers =
    family (codes "Nat") here [] types (con (codes "Z") nat here ∷ con (codes "S") (arrow nat nat) here ∷ []) here
    ∷ typed (codes "plus") (arrow nat (arrow nat nat))
    ∷ equation (codes "plus") (con_pattern (codes "Z") [] ∷ var (codes "m") ∷ []) (used (codes "m"))
    ∷ equation (codes "plus") (con_pattern (codes "S") (var (codes "n") ∷ []) ∷ var (codes "m") ∷ [])
    (s (plus (used (codes "n")) (used (codes "m"))))
    ∷ []

-- in round brackets or in braces, by the mark:
-- data Vect (a : Type) : Nat -> Type where Nil : Vect a Z; Cons : {0 k : Nat} -> (1 x : a) -> (1 xs : Vect a k) ->
-- Vect a (S k)
abbrev pub vectors : Mark → Item
vectors i =
    family (codes "Vect") here (param ω (codes "a") types here ∷ []) (arrow nat types)
    (con (codes "Nil") (vect (used (codes "a")) z) here
    ∷ con (codes "Cons")
    (binder i 𝟘 (codes "k") nat (binder Written 𝟙 (codes "x") (used (codes "a"))
    (binder Written 𝟙 (codes "xs") (vect (used (codes "a")) (used (codes "k"))) (vect (used (codes "a")) (s (used (codes "k")))))))
    here ∷ []) here

-- append : {0 a : Type} -> {0 m : Nat} -> {0 n : Nat} -> (1 xs : Vect a m) -> (1 ys : Vect a n) -> Vect a (plus m n)
abbrev pub append_type : Mark → Item
append_type i =
    typed (codes "append") (binder i 𝟘 (codes "a") types (binder i 𝟘 (codes "m") nat (binder i 𝟘 (codes "n") nat
    (binder Written 𝟙 (codes "xs") (vect (used (codes "a")) (used (codes "m")))
    (binder Written 𝟙 (codes "ys") (vect (used (codes "a")) (used (codes "n")))
    (vect (used (codes "a")) (plus (used (codes "m")) (used (codes "n")))))))))

-- total : {0 n : Nat} -> Vect Int n -> Int
abbrev pub total_type : Mark → Item
total_type i = typed (codes "total") (binder i 𝟘 (codes "n") nat (arrow (vect (used (codes "Int")) (used (codes "n"))) (used (codes "Int"))))

-- main : IO Unit; main = putLine (showInt t)
abbrev pub shows : Tree → List Item
shows t =
    typed (codes "main") (call (codes "IO") (used (codes "Unit") ∷ []))
    ∷ equation (codes "main") [] (call (codes "putLine") (call (codes "showInt") (t ∷ []) ∷ [])) ∷ []

-- append Nil ys = ys; append (Cons x xs) ys = Cons x (append xs ys)
abbrev pub short_append : List Item
short_append =
    equation (codes "append") (con_pattern (codes "Nil") [] ∷ var (codes "ys") ∷ []) (used (codes "ys"))
    ∷ equation (codes "append") (con_pattern (codes "Cons") (var (codes "x") ∷ var (codes "xs") ∷ []) ∷ var (codes "ys") ∷ [])
    (call (codes "Cons") (used (codes "x") ∷ call (codes "append") (used (codes "xs") ∷ used (codes "ys") ∷ []) ∷ [])) ∷ []

-- total Nil = 0; total (Cons x xs) = addInt x (total xs)
abbrev pub short_total : List Item
short_total =
    equation (codes "total") (con_pattern (codes "Nil") [] ∷ []) (int (pos 0))
    ∷ equation (codes "total") (con_pattern (codes "Cons") (var (codes "x") ∷ var (codes "xs") ∷ []) ∷ [])
    (call (codes "addInt") (used (codes "x") ∷ call (codes "total") (used (codes "xs") ∷ []) ∷ [])) ∷ []

abbrev pub short_cons : ℕ → Tree → Tree
short_cons x xs = call (codes "Cons") (int (pos x) ∷ xs ∷ [])

-- total (append (Cons 4 (Cons 5 Nil)) (Cons 6 Nil))
abbrev pub short_sum : Tree
short_sum =
    let nil = used (codes "Nil") in
    call (codes "total") (call (codes "append") (short_cons 4 (short_cons 5 nil) ∷ short_cons 6 nil ∷ []) ∷ [])

abbrev pub short_program : Module
short_program = main_module (numbers ++ vectors Braced ∷ append_type Braced ∷ short_append ++ total_type Braced
    ∷ short_total ++ shows short_sum)

-- append a m n Nil ys = ys; append a m n (Cons k x xs) ys = Cons (plus k n) x (append a k n xs ys)
abbrev pub long_append : List Item
long_append =
    let implicit = λ (ps : List Shape). var (codes "a") ∷ var (codes "m") ∷ var (codes "n") ∷ ps in
    equation (codes "append") (implicit (con_pattern (codes "Nil") [] ∷ var (codes "ys") ∷ [])) (used (codes "ys"))
    ∷ equation (codes "append") (implicit (con_pattern (codes "Cons") (var (codes "k") ∷ var (codes "x") ∷ var (codes "xs") ∷ [])
    ∷ var (codes "ys") ∷ []))
    (call (codes "Cons") (plus (used (codes "k")) (used (codes "n")) ∷ used (codes "x")
    ∷ call (codes "append") (used (codes "a") ∷ used (codes "k") ∷ used (codes "n") ∷ used (codes "xs") ∷ used (codes "ys") ∷ []) ∷ [])) ∷ []

-- total n Nil = 0; total n (Cons k x xs) = addInt x (total k xs)
abbrev pub long_total : List Item
long_total =
    equation (codes "total") (var (codes "n") ∷ con_pattern (codes "Nil") [] ∷ []) (int (pos 0))
    ∷ equation (codes "total") (var (codes "n") ∷ con_pattern (codes "Cons") (var (codes "k") ∷ var (codes "x") ∷ var (codes "xs") ∷ []) ∷ [])
    (call (codes "addInt") (used (codes "x") ∷ call (codes "total") (used (codes "k") ∷ used (codes "xs") ∷ []) ∷ [])) ∷ []

abbrev pub long_cons : Tree → ℕ → Tree → Tree
long_cons k x xs = call (codes "Cons") (k ∷ int (pos x) ∷ xs ∷ [])

-- total (plus (S (S Z)) (S Z)) (append Int (S (S Z)) (S Z) (Cons (S Z) 4 (Cons Z 5 Nil)) (Cons Z 6 Nil))
abbrev pub long_sum : Tree
long_sum =
    let nil = used (codes "Nil") in
    call (codes "total") (plus (s (s z)) (s z)
    ∷ call (codes "append") (used (codes "Int") ∷ s (s z) ∷ s z ∷ long_cons (s z) 4 (long_cons z 5 nil) ∷ long_cons z 6 nil ∷ [])
    ∷ [])

abbrev pub long_program : Module
long_program = main_module (numbers ++ vectors Written ∷ append_type Written ∷ long_append ++ total_type Written
    ∷ long_total ++ shows long_sum)

-- ---- empty : {0 a : Type} -> Int; empty = 0; x : Int; x = t
abbrev pub with_empty : Tree → Module
with_empty t =
    main_module (typed (codes "empty") (binder Braced 𝟘 (codes "a") types (used (codes "Int"))) ∷ equation (codes "empty") [] (int (pos 0))
    ∷ typed (codes "x") (used (codes "Int")) ∷ equation (codes "x") [] t ∷ [])

-- `empty` at line 5, column 5, with arguments in braces
abbrev pub empty_with : List Tree → Tree
empty_with ts = apply (used_at (at 5 5) (codes "empty")) (arguments (map (λ t. argument Braced t) ts)) (at 5 5)

abbrev pub empty_alone : Tree
empty_alone = used_at (at 5 5) (codes "empty")

-- ---- id : {0 a : Type} -> a -> a; id x = x; and more items
abbrev pub with_id : List Item → Module
with_id items =
    main_module (typed (codes "id") (binder Braced 𝟘 (codes "a") types (arrow (used (codes "a")) (used (codes "a"))))
    ∷ equation (codes "id") (var (codes "x") ∷ []) (used (codes "x")) ∷ items)

abbrev pub id_of : Tree → Tree
id_of t = apply (used_at (at 5 5) (codes "id")) (arguments (argument Written t ∷ [])) (at 5 5)
