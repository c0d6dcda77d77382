-- Small programs as environments: what their texts mean in core terms. Items have the numbers that they have in
-- the text.
use Rattle.std.specs.Prelude.{ℕ, zero, suc, pos, List, [], ◌∷◌, codes, Option, Some, None, false, cond, eqb}
use Rattle.qtt_base.specs.declared.place.GlobalId.{GlobalId}
use Rattle.qtt_usage.specs.declared.mult.Mult.{Mult}
use Rattle.qtt_usage.specs.Mult.{𝟘, 𝟙, ω}
use Rattle.qtt_prims.specs.declared.prim.Primitive.TheVariants as prim
use Rattle.qtt_term.specs.Term.{Io, Action, Form, Term, var, node, ε, ◌▸◌, Sort, Pi, Lam, App, Fam, Delete, Def, IntLit, TextLit, Call, Act, Trap}
use Rattle.qtt_term.specs.Signature.{Family, Definition, Env, bool_id, line_id, eq_id, plain_constructor, plain_family, UnitTy, MkUnit, BoolTy, truth, LineTy, EqTy, IntTy, HandleTy, IoTy}
use Rattle.qtt_term.specs.PrimEnvironment.{prim_family}

-- items of the module Main, which is module 1
abbrev pub item : ℕ → GlobalId
item n = record { «module» = record { 0 = 1 }; item = n }

abbrev pub listed : {A : Type 0} → List (ℕ × A) → ℕ → Option A
listed [] n = None
listed (x ∷ xs) n = cond (eqb x.0 n) (Some x.1) (listed xs n)

abbrev pub of_main : {A : Type 0} → List (ℕ × A) → GlobalId → Option A
of_main xs g = cond (eqb g.module.0 1) (listed xs g.item) None

abbrev pub or : {A : Type 0} → Option A → Option A → Option A
or None o = o
or (Some a) o = Some a

-- Prim, with families and definitions of Main
abbrev pub program : List (ℕ × Family) → List (ℕ × Definition) → Env
program fs ds = record { family = λ f. or (of_main fs f) (prim_family f); definition = of_main ds }

abbrev pub many : Term → Term → Definition
many A b = record { mult = ω; type = A; body = Some b }

abbrev pub zero_def : Term → Term → Definition
zero_def A b = record { mult = 𝟘; type = A; body = Some b }

abbrev pub io_unit : Term
io_unit = IoTy Io.io UnitTy

abbrev pub put : Term → Term
put s = Act Action.put_line 0 (s ▸ ε)

abbrev pub shown : Term → Term
shown t = Call prim.ShowInt (t ▸ ε)

abbrev pub divided : Term → Term → Term
divided a b = Call prim.DivInt (a ▸ b ▸ ε)

abbrev pub added : Term → Term → Term
added a b = Call prim.AddInt (a ▸ b ▸ ε)

-- x <- t; k, from IO m to IO n, where x has type A and k gives a B
abbrev pub bound : Io → Io → Term → Term → Term → Term → Mult → Term
bound m n A B t k q = Act (Action.bind m n) 2 (A ▸ B ▸ t ▸ Lam q A k ▸ ε)

-- t; k, both in IO, where k gives a Unit
abbrev pub then_do : Term → Term → Term
then_do t k = bound Io.io Io.io UnitTy UnitTy t k ω

-- h <- t; k, from IO1 Handle to IO Unit
abbrev pub with_handle : Term → Term → Term
with_handle t k = bound Io.io1 Io.io HandleTy UnitTy t k 𝟙

-- main : IO Unit; main = do putLine "hello"
abbrev pub hello : Env
hello = program [] ((0, many io_unit (put (TextLit (codes "hello")))) ∷ [])

-- id : (1 x : Int) -> Int; id x = x; main = putLine (showInt (id 3))
abbrev pub identity : Env
identity =
    program [] ((0, many (Pi 𝟙 IntTy IntTy) (Lam 𝟙 IntTy (var 0)))
    ∷ (1, many io_unit (put (shown (App 𝟙 (Def (item 0)) (IntLit (pos 3)))))) ∷ [])

-- loopy : (0 u : Unit) -> Int; loopy u = loopy u; use : ((0 u : Unit) -> Int) -> IO Unit; use f = putLine "ok";
-- main = use loopy
abbrev pub loops : Env
loops =
    program [] ((0, many (Pi 𝟘 UnitTy IntTy) (Lam 𝟘 UnitTy (App 𝟘 (Def (item 0)) (var 0))))
    ∷ (1, many (Pi ω (Pi 𝟘 UnitTy IntTy) io_unit) (Lam ω (Pi 𝟘 UnitTy IntTy) (put (TextLit (codes "ok")))))
    ∷ (2, many io_unit (App ω (Def (item 1)) (Def (item 0)))) ∷ [])

-- loop : IO Unit; loop = do putLine "x"; loop; main = loop
abbrev pub forever : Env
forever = program [] ((0, many io_unit (then_do (put (TextLit (codes "x"))) (Def (item 0)))) ∷
    (1, many io_unit (Def (item 0))) ∷ [])

-- partial no : Bool -> Int; no True = 1; main = putLine (showInt (addInt a b))
abbrev pub partial_no : Term → Term → Env
partial_no a b =
    program [] ((
      0,
      many (Pi ω BoolTy IntTy)
          (Lam ω BoolTy (node (Form.case ω bool_id 0 1 (0 ∷ 0 ∷ []))
          (IntTy ▸ Trap IntTy ▸ IntLit (pos 1) ▸ var 0 ▸ ε))),
    )
    ∷ (1, many io_unit (put (shown (added a b)))) ∷ [])

abbrev pub one_by_zero : Term
one_by_zero = divided (IntLit (pos 1)) (IntLit (pos 0))

abbrev pub no_of_false : Term
no_of_false = App ω (Def (item 0)) (truth false)

abbrev pub opened_a : Term
opened_a = Act Action.opens 0 (TextLit (codes "a") ▸ ε)

abbrev pub written : Term → Term → Term
written h s = Act Action.writes 0 (h ▸ s ▸ ε)

abbrev pub closed_after : Term → Term
closed_after h = Act Action.closes 0 (h ▸ ε)

-- main = do h <- open "a"; h2 <- write h "x"; h3 <- write h2 "y"; close h3
abbrev pub handles : Env
handles =
    program [] ((
      0,
      many io_unit (with_handle opened_a
          (with_handle (written (var 0) (TextLit (codes "x")))
          (with_handle (written (var 0) (TextLit (codes "y"))) (closed_after (var 0))))),
    ) ∷ [])

-- do h <- open "a"; let q f : Unit -> IO Unit = \u => close h; f MkUnit
abbrev pub closing_function : Mult → Term
closing_function q =
    with_handle opened_a
    (App q (Lam q (Pi ω UnitTy io_unit) (App ω (var 0) MkUnit)) (Lam ω UnitTy (closed_after (var 1))))

abbrev pub closes_by : Mult → Env
closes_by q = program [] ((0, many io_unit (closing_function q)) ∷ [])

-- main = do h <- open "a"; h2 <- write h (showInt (divInt 1 0)); close h2
abbrev pub trapping : Env
trapping =
    program [] ((
      0,
      many io_unit
          (with_handle opened_a (with_handle (written (var 0) (shown one_by_zero)) (closed_after (var 0)))),
    ) ∷ [])

-- step : Line -> IO Unit; main = do l <- getLine; step l; step Eof = pure MkUnit; step (Got s) = do putLine s;
-- main
abbrev pub echo : Env
echo =
    program [] ((
      0,
      many (Pi ω LineTy io_unit) (Lam ω LineTy (node (Form.case ω line_id 0 1 (0 ∷ 1 ∷ []))
          (io_unit ▸ Act (Action.pure Io.io) 1 (UnitTy ▸ MkUnit ▸ ε) ▸ then_do (put (var 0)) (Def (item 1)) ▸
          var 0 ▸ ε))),
    )
    ∷ (
      1,
      many io_unit (bound Io.io Io.io LineTy UnitTy (Act Action.get_line 0 ε)
          (App ω (Def (item 0)) (var 0)) ω),
    ) ∷ [])

-- main = putLine (showInt t)
abbrev pub shows : Term → Env
shows t = program [] ((0, many io_unit (put (shown t))) ∷ [])

-- data Box : Type where MkBox : (0 n : Int) -> (1 s : Int) -> Box; b = MkBox (divInt 1 0) 4; use x = putLine
-- "boxed"; main = use b
abbrev pub box : Term
box = Fam (item 0) ε

abbrev pub boxed : Env
boxed =
    program ((0, plain_family (plain_constructor ((𝟘, IntTy) ∷ (𝟙, IntTy) ∷ []) ∷ [])) ∷ [])
    ((2, many box (node (Form.con (item 0) 0 0) (one_by_zero ▸ IntLit (pos 4) ▸ ε)))
    ∷ (3, many (Pi ω box io_unit) (Lam ω box (put (TextLit (codes "boxed")))))
    ∷ (4, many io_unit (App ω (Def (item 3)) (Def (item 2)))) ∷ [])

-- f : (0 a : Type) -> (0 x : a) -> (p : Eq a x x) -> Int; f a x Refl = 1; main = putLine (showInt (f Int 3 Refl))
abbrev pub deletes : Env
deletes =
    program [] ((
      0,
      many (Pi 𝟘 (Sort 0) (Pi 𝟘 (var 0) (Pi ω (EqTy (var 1) (var 0) (var 0)) IntTy)))
          (Lam 𝟘 (Sort 0) (Lam 𝟘 (var 0)
          (Lam ω (EqTy (var 1) (var 0) (var 0)) (Delete ω (var 2) (var 1) IntTy (IntLit (pos 1)) (var 0))))),
    )
    ∷ (
      1,
      many io_unit (put (shown
          (App ω (App 𝟘 (App 𝟘 (Def (item 0)) IntTy) (IntLit (pos 3)))
          (node (Form.con eq_id 0 2) (IntTy ▸ IntLit (pos 3) ▸ ε))))),
    ) ∷ [])

-- data Nat : Type where Z : Nat; S : Nat -> Nat
abbrev pub nat : Term
nat = Fam (item 0) ε

abbrev pub nat_family : Family
nat_family = plain_family (plain_constructor [] ∷ plain_constructor ((ω, nat) ∷ []) ∷ [])

abbrev pub z : Term
z = node (Form.con (item 0) 0 0) ε

abbrev pub s : Term → Term
s n = node (Form.con (item 0) 1 0) (n ▸ ε)

-- plus : Nat -> Nat -> Nat; plus Z m = m; plus (S n) m = S (plus n m)
abbrev pub plus : Term → Term → Term
plus n m = App ω (App ω (Def (item 3)) n) m

abbrev pub plus_body : Term
plus_body =
    Lam ω nat (Lam ω nat
    (node (Form.case ω (item 0) 0 1 (0 ∷ 1 ∷ [])) (nat ▸ var 0 ▸ s (plus (var 0) (var 1)) ▸ var 1 ▸ ε)))

abbrev pub naturals : Env
naturals = program ((0, nat_family) ∷ []) ((3, many (Pi ω nat (Pi ω nat nat)) plus_body) ∷ [])

-- partial pred : Nat -> Nat; pred (S n) = n; main = let n = pred Z in putLine "n"
abbrev pub pred_body : Term
pred_body = Lam ω nat (node (Form.case ω (item 0) 0 1 (0 ∷ 1 ∷ [])) (nat ▸ Trap nat ▸ var 0 ▸ var 0 ▸ ε))

abbrev pub predecessors : Env
predecessors =
    program ((0, nat_family) ∷ [])
    ((3, many (Pi ω nat nat) pred_body)
    ∷ (4, many io_unit (App ω (Lam ω nat (put (TextLit (codes "n")))) (App ω (Def (item 3)) z))) ∷ [])

-- a1 : Type; a1 = Int; a2 : Type; a2 = a1; and so on; item n is the alias with number n + 1
abbrev pub alias : ℕ → ℕ × Definition
alias zero = (zero, many (Sort 0) IntTy)
alias (suc n) = (suc n, many (Sort 0) (Def (item n)))

abbrev pub aliases_from : ℕ → List (ℕ × Definition)
aliases_from zero = []
aliases_from (suc n) = alias n ∷ aliases_from n

abbrev pub aliases : ℕ → Env
aliases n = program [] (aliases_from n)

-- w : Type; w = w; v : Type; v = v
abbrev pub circles : Env
circles = program [] ((0, many (Sort 0) (Def (item 0))) ∷ (1, many (Sort 0) (Def (item 1))) ∷ [])
