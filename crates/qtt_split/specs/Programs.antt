-- The items, clauses and definitions of the examples. Items of Main have the numbers that they have in the text; places
-- are its lines and columns, and each has length 1 here.
use Rattle.std.specs.Prelude.{ℕ, pos, List, [], ◌∷◌, ◌++◌, map, codes, Option, Some, None, true, false}
use Rattle.qtt_base.specs.declared.place.Span.{Span}
use Rattle.qtt_base.specs.declared.place.GlobalId.{GlobalId}
use Rattle.qtt_base.specs.Limits.{standard}
use Rattle.qtt_usage.specs.Mult.{𝟘, 𝟙, ω}
use Rattle.qtt_syntax.specs.declared.expr.Mark.TheVariants.{Written}
use Rattle.qtt_syntax.specs.declared.expr.Target.TheVariants.{Local, Global}
use Rattle.qtt_syntax.specs.Tree.{Shape, shapes, Tree, arguments}
use Rattle.qtt_syntax.specs.Tree.Shape.{variable, wildcard, constructor, dot}
use Rattle.qtt_syntax.specs.Tree.Tree.{name, number, apply}
use Rattle.qtt_syntax.specs.Tree.Argument.{argument}
use Rattle.qtt_term.specs.Term.{Form, Term, Terms, var, node, ε, ◌▸◌, Sort, Pi, Lam, App, Fam, Def}
use Rattle.qtt_term.specs.Signature.{Tele, bool_id, prim_id, BoolTy, EqTy, IntTy}
use Rattle.qtt_term.specs.Judgement.{Part}
use Rattle.qtt_term.specs.Items.{ConstructorEntry, FamilyEntry, DefinitionEntry}
use Rattle.qtt_term.specs.PrimItems.{prim_families}
use Rattle.qtt_term.specs.Programs.{item, nat, z, s, plus, plus_body}
use Rattle.qtt_term.specs.Vectors.{vect, append_type, head_type}
use Rattle.qtt_term.specs.Entries.{Entries}
use Rattle.qtt_split.specs.Node.{Clause}
use Rattle.qtt_split.specs.Split.{Group}
use Rattle.qtt_split.specs.Group.{Defined}

-- ---- items
abbrev pub con_entry : ℕ → List ℕ → Tele → List (List ℕ) → Terms → ConstructorEntry
con_entry i n Θ labels rs =
    record {
      id = item i;
      name = codes "Main." ++ n;
      labels = labels;
      constructor = record { fields = Θ; results = rs };
    }

abbrev pub family_entry : ℕ → List ℕ → List Term → List Term → List ConstructorEntry → FamilyEntry
family_entry i n Ts Is cs = record {
  id = item i;
  name = codes "Main." ++ n;
  family =
      record {
        params = map (λ T. (𝟘, T)) Ts;
        indices = Is;
        level = 0;
        constructors = map
            (λ (c : ConstructorEntry). c.constructor) cs;
      };
  constructors = cs;
}

-- a definition without a body, and one with a body
abbrev pub signature_of : ℕ → List ℕ → Term → DefinitionEntry
signature_of i n A =
    record { id = item i; name = codes "Main." ++ n; definition = record { mult = ω; type = A; body = None } }

abbrev pub defined_as : ℕ → List ℕ → Term → Term → DefinitionEntry
defined_as i n A b =
    record { id = item i; name = codes "Main." ++ n; definition = record { mult = ω; type = A; body = Some b } }

abbrev pub with_prim : List FamilyEntry → List DefinitionEntry → Entries
with_prim fs ds = record { families = prim_families ++ fs; definitions = ds }

-- ---- places, patterns and expressions
abbrev pub at : ℕ → ℕ → Span
at l c = record { line = l; col = c; len = 1 }

abbrev pub small : List ℕ → Span → Shape
small x p = variable Written x p

abbrev pub any : Span → Shape
any p = wildcard Written p

abbrev pub big : GlobalId → Span → List Shape → Shape
big g p ps = constructor Written (record { path = []; target = Global g; span = p }) (shapes ps) p

abbrev pub dotted : Tree → Span → Shape
dotted e p = dot Written e p

-- the local name with so many others inside it
abbrev pub local : ℕ → Span → Tree
local i p = name (record { path = []; target = Local i; span = p })

abbrev pub global : GlobalId → Span → Tree
global g p = name (record { path = []; target = Global g; span = p })

abbrev pub applied : Tree → Span → List Tree → Tree
applied f p es = apply f (arguments (map (argument Written) es)) p

abbrev pub int : ℕ → Span → Tree
int n p = number (pos n) p

-- at the beginning of a line
abbrev pub clause : ℕ → List Shape → Tree → Clause
clause l ps e = record { patterns = ps; side = e; span = at l 1 }

-- ---- groups, the first clause of which stands on a line
abbrev pub limited : ℕ → ℕ → Entries → Part → List Clause → Group
limited n l K p cs = record { globals = K; part = p; clauses = cs; first = at l 1; limit = n }

abbrev pub group_at : ℕ → Entries → Part → List Clause → Group
group_at = limited standard.leaves

abbrev pub definition : List ℕ → Group → Term → List (Option (List ℕ)) → Defined
definition n G A labels = record { group = G; name = n; type = A; labels = labels; may_miss = false }

abbrev pub partial_definition : List ℕ → Group → Term → Defined
partial_definition n G A = record { group = G; name = n; type = A; labels = []; may_miss = true }

-- a text with one definition f, on lines l and following, over these items
abbrev pub f_of : ℕ → Entries → Term → List Clause → Defined
f_of l K A cs = definition (codes "f") (group_at l K Part.run cs) A []

abbrev pub false_pattern : Span → Shape
false_pattern p = big (prim_id 9) p []

abbrev pub true_pattern : Span → Shape
true_pattern p = big (prim_id 10) p []

abbrev pub refl_pattern : Span → Shape
refl_pattern p = big (prim_id 14) p []

-- ---- data Nat : Type where Z : Nat; S : Nat -> Nat
abbrev pub nat_entry : FamilyEntry
nat_entry =
    family_entry 0 (codes "Nat") [] [] (con_entry 1 (codes "Z") [] [] ε ∷ con_entry 2 (codes "S") ((ω, nat) ∷ [])
    (codes "_" ∷ []) ε ∷ [])

abbrev pub zero_pattern : Span → Shape
zero_pattern p = big (item 1) p []

abbrev pub suc_pattern : Span → Shape → Shape
suc_pattern p q = big (item 2) p (q ∷ [])

-- Nat alone
abbrev pub with_nat : List DefinitionEntry → Entries
with_nat ds = with_prim (nat_entry ∷ []) ds

-- ---- plus : Nat -> Nat -> Nat
abbrev pub binary : Term
binary = Pi ω nat (Pi ω nat nat)

-- plus Z m = m; plus (S n) m = S (plus n m)
abbrev pub plus_clauses : List Clause
plus_clauses =
    clause 6 (zero_pattern (at 6 6) ∷ small (codes "m") (at 6 8) ∷ []) (local 0 (at 6 12))
    ∷ clause 7 (suc_pattern (at 7 6) (small (codes "n") (at 7 9)) ∷ small (codes "m") (at 7 12) ∷ [])
    (applied (global (item 2) (at 7 16)) (at 7 16)
    (applied (global (item 3) (at 7 19)) (at 7 19) (local 1 (at 7 24) ∷ local 0 (at 7 26) ∷ []) ∷ []))
    ∷ []

abbrev pub plus_items : Entries
plus_items = with_nat (signature_of 3 (codes "plus") binary ∷ [])

abbrev pub plus_defined : Defined
plus_defined = definition (codes "plus") (group_at 6 plus_items Part.run plus_clauses) binary []

-- ---- data Vect (a : Type) : Nat -> Type where
-- Nil : Vect a Z; Cons : (0 k : Nat) -> (1 x : a) -> (1 xs : Vect a k) -> Vect a (S k)
abbrev pub vect_entry : FamilyEntry
vect_entry =
    family_entry 4 (codes "Vect") (Sort 0 ∷ []) (nat ∷ [])
    (con_entry 5 (codes "Nil") [] [] (z ▸ ε)
    ∷ con_entry 6 (codes "Cons") ((𝟘, nat) ∷ (𝟙, var 1) ∷ (𝟙, vect (var 2) (var 1)) ∷ [])
    (codes "k" ∷ codes "x" ∷ codes "xs" ∷ []) (s (var 2) ▸ ε)
    ∷ [])

abbrev pub nil_pattern : Span → Shape
nil_pattern p = big (item 5) p []

abbrev pub cons_pattern : Span → Shape → Shape → Shape → Shape
cons_pattern p k x xs = big (item 6) p (k ∷ x ∷ xs ∷ [])

-- Nat, plus and Vect
abbrev pub with_vect : List DefinitionEntry → Entries
with_vect ds = with_prim (nat_entry ∷ vect_entry ∷ []) (defined_as 3 (codes "plus") binary plus_body ∷ ds)

-- ---- append
abbrev pub append_items : Entries
append_items = with_vect (signature_of 7 (codes "append") append_type ∷ [])

-- append a _ n Nil ys = ys; append a _ n (Cons k x xs) ys = Cons (plus k n) x (append a k n xs ys)
abbrev pub append_clauses : List Clause
append_clauses =
    clause 12 (small (codes "a") (at 12 8) ∷ any (at 12 10) ∷ small (codes "n") (at 12 12) ∷ nil_pattern (at 12 14) ∷
    small (codes "ys") (at 12 18) ∷ []) (local 0 (at 12 23))
    ∷ clause 13
    (small (codes "a") (at 13 8) ∷ any (at 13 10) ∷ small (codes "n") (at 13 12)
    ∷ cons_pattern (at 13 15) (small (codes "k") (at 13 20)) (small (codes "x") (at 13 22))
    (small (codes "xs") (at 13 24)) ∷ small (codes "ys") (at 13 28) ∷ [])
    (applied (global (item 6) (at 13 33)) (at 13 33)
    (applied (global (item 3) (at 13 39)) (at 13 39) (local 3 (at 13 44) ∷ local 4 (at 13 46) ∷ []) ∷ local 2 (at 13 49)
    ∷ applied (global (item 7) (at 13 52)) (at 13 52)
    (local 5 (at 13 59) ∷ local 3 (at 13 61) ∷ local 4 (at 13 63) ∷ local 1 (at 13 65) ∷ local 0 (at 13 68) ∷ []) ∷
    []))
    ∷ []

abbrev pub append_defined : Defined
append_defined =
    definition (codes "append") (group_at 12 append_items Part.run append_clauses) append_type
    (map Some (codes "a" ∷ codes "m" ∷ codes "n" ∷ codes "xs" ∷ codes "ys" ∷ []))

-- ---- head a n (Cons k x xs) = x
abbrev pub head_defined : Defined
head_defined =
    f_of 12 (with_vect []) head_type
    (clause 12
    (small (codes "a") (at 12 6) ∷ small (codes "n") (at 12 8)
    ∷ cons_pattern (at 12 11) (small (codes "k") (at 12 16)) (small (codes "x") (at 12 18))
    (small (codes "xs") (at 12 20)) ∷ [])
    (local 1 (at 12 26))
    ∷ [])

-- ---- pred : Nat -> Nat; pred (S n) = n
abbrev pub pred_group : Group
pred_group =
    group_at 6 (with_nat []) Part.run (clause 6 (suc_pattern (at 6 7) (small (codes "n") (at 6 9)) ∷ [])
    (local 0 (at 6 14)) ∷ [])

-- ---- data Same (x : Type) : Type -> Type where MkSame : Same x x
abbrev pub same_of : Term → Term → Term
same_of a b = Fam (item 0) (a ▸ b ▸ ε)

abbrev pub same_items : Entries
same_items =
    with_prim (family_entry 0 (codes "Same") (Sort 0 ∷ []) (Sort 0 ∷ [])
    (con_entry 1 (codes "MkSame") [] [] (var 0 ▸ ε) ∷ []) ∷ []) []

-- cast : (0 a : Type) -> (0 b : Type) -> (p : Same a b) -> a -> b; cast a _ MkSame x = x
abbrev pub cast_defined : Defined
cast_defined =
    f_of 7 same_items (Pi 𝟘 (Sort 0) (Pi 𝟘 (Sort 0) (Pi ω (same_of (var 1) (var 0)) (Pi ω (var 2) (var 2)))))
    (clause 7 (small (codes "a") (at 7 6) ∷ any (at 7 8) ∷ big (item 1) (at 7 10) [] ∷ small (codes "x") (at 7 17) ∷ [])
    (local 0 (at 7 21)) ∷ [])

-- ---- f : (0 a : Type) -> (0 x : a) -> (p : Eq a x x) -> Int; f a x Refl = 1
abbrev pub deletes_defined : Defined
deletes_defined =
    f_of 3 (with_prim [] []) (Pi 𝟘 (Sort 0) (Pi 𝟘 (var 0) (Pi ω (EqTy (var 1) (var 0) (var 0)) IntTy)))
    (clause 3 (small (codes "a") (at 3 3) ∷ small (codes "x") (at 3 5) ∷ refl_pattern (at 3 7) ∷ []) (int 1 (at 3 14)) ∷
    [])

-- ---- f : Bool -> Bool -> Int; f True b = 1; f a True = 2; f a b = 3
abbrev pub overlapping : List Clause
overlapping =
    clause 3 (true_pattern (at 3 3) ∷ small (codes "b") (at 3 8) ∷ []) (int 1 (at 3 12))
    ∷ clause 4 (small (codes "a") (at 4 3) ∷ true_pattern (at 4 5) ∷ []) (int 2 (at 4 12))
    ∷ clause 5 (small (codes "a") (at 5 3) ∷ small (codes "b") (at 5 5) ∷ []) (int 3 (at 5 9))
    ∷ []

abbrev pub two_bools : Term
two_bools = Pi ω BoolTy (Pi ω BoolTy IntTy)

-- ---- both : (1 a : Bool) -> (1 b : Bool) -> Bool; both True b = b; both False True = False; both False False = False
abbrev pub both_defined : Defined
both_defined =
    f_of 3 (with_prim [] []) (Pi 𝟙 BoolTy (Pi 𝟙 BoolTy BoolTy))
    (clause 3 (true_pattern (at 3 6) ∷ small (codes "b") (at 3 11) ∷ []) (local 0 (at 3 15))
    ∷ clause 4 (false_pattern (at 4 6) ∷ true_pattern (at 4 12) ∷ []) (global (prim_id 9) (at 4 19))
    ∷ clause 5 (false_pattern (at 5 6) ∷ false_pattern (at 5 12) ∷ []) (global (prim_id 9) (at 5 20))
    ∷ [])

-- pick : Bool -> (1 h : Int) -> Int; pick True h = h; pick False h = 0
abbrev pub pick_defined : Defined
pick_defined =
    f_of 3 (with_prim [] []) (Pi ω BoolTy (Pi 𝟙 IntTy IntTy))
    (clause 3 (true_pattern (at 3 6) ∷ small (codes "h") (at 3 11) ∷ []) (local 0 (at 3 15))
    ∷ clause 4 (false_pattern (at 4 6) ∷ small (codes "h") (at 4 12) ∷ []) (int 0 (at 4 16))
    ∷ [])

-- ---- f : (n : Nat) -> (m : Nat) -> (p : Eq Nat n m) -> Int; f n .(e) Refl = 1
abbrev pub dotted_with : Tree → Defined
dotted_with e =
    f_of 6 (with_nat []) (Pi ω nat (Pi ω nat (Pi ω (EqTy nat (var 1) (var 0)) IntTy)))
    (clause 6 (small (codes "n") (at 6 3) ∷ dotted e (at 6 5) ∷ refl_pattern (at 6 10) ∷ []) (int 1 (at 6 17)) ∷ [])

-- ---- one clause with two cores
-- fn : Bool -> Type; fn True = Nat -> Nat; fn False = (1 n : Nat) -> Nat
abbrev pub fn : Term → Term
fn b = App ω (Def (item 3)) b

abbrev pub fn_body : Term
fn_body = Lam ω BoolTy (node (Form.case ω bool_id 0 1 (0 ∷ 0 ∷ [])) (Sort 0 ▸ Pi 𝟙 nat nat ▸ Pi ω nat nat ▸ var 0 ▸ ε))

-- f : (c : Bool) -> fn c -> Nat -> Nat; f True g Z = Z; f c g n = g n
abbrev pub applies_defined : Defined
applies_defined =
    f_of 9 (with_nat (defined_as 3 (codes "fn") (Pi ω BoolTy (Sort 0)) fn_body ∷ []))
    (Pi ω BoolTy (Pi ω (fn (var 0)) (Pi ω nat nat)))
    (clause 9 (true_pattern (at 9 3) ∷ small (codes "g") (at 9 8) ∷ zero_pattern (at 9 10) ∷ [])
    (global (item 1) (at 9 14))
    ∷ clause 10 (small (codes "c") (at 10 3) ∷ small (codes "g") (at 10 5) ∷ small (codes "n") (at 10 7) ∷ [])
    (applied (local 1 (at 10 11)) (at 10 11) (local 0 (at 10 13) ∷ []))
    ∷ [])

-- ---- a variable with a solved place
-- data Ix : Nat -> Type where Zero : Ix Z; Other : (c : Nat) -> Ix (plus c c); data P : Type where MkP : (n : Nat) ->
-- Ix n -> P
abbrev pub ix : Term → Term
ix n = Fam (item 4) (n ▸ ε)

abbrev pub pair_type : Term
pair_type = Fam (item 7) ε

abbrev pub ix_entry : FamilyEntry
ix_entry =
    family_entry 4 (codes "Ix") [] (nat ∷ [])
    (con_entry 5 (codes "Zero") [] [] (z ▸ ε) ∷ con_entry 6 (codes "Other") ((ω, nat) ∷ []) (codes "c" ∷ [])
    (plus (var 0) (var 0) ▸ ε) ∷ [])

abbrev pub pair_entry : FamilyEntry
pair_entry =
    family_entry 7 (codes "P") [] [] (con_entry 8 (codes "MkP") ((ω, nat) ∷ (ω, ix (var 0)) ∷ [])
    (codes "n" ∷ codes "_" ∷ []) ε ∷ [])

abbrev pub ix_items : Entries
ix_items =
    with_prim (nat_entry ∷ ix_entry ∷ pair_entry ∷ [])
    (defined_as 3 (codes "plus") binary plus_body ∷ signature_of 9 (codes "f") (Pi ω pair_type pair_type) ∷ [])

-- f : P -> P; f (MkP n Zero) = MkP Z Zero; f y = y
abbrev pub keeps_defined : Defined
keeps_defined =
    f_of 14 ix_items (Pi ω pair_type pair_type)
    (clause 14 (big (item 8) (at 14 4) (small (codes "n") (at 14 8) ∷ big (item 5) (at 14 10) [] ∷ []) ∷ [])
    (applied (global (item 8) (at 14 18)) (at 14 18) (global (item 1) (at 14 22) ∷ global (item 5) (at 14 24) ∷ []))
    ∷ clause 15 (small (codes "y") (at 15 3) ∷ []) (local 0 (at 15 7))
    ∷ [])

-- ---- w : Nat; w = S w
abbrev pub w : Term
w = Def (item 8)

abbrev pub with_w : Entries
with_w = with_vect (defined_as 8 (codes "w") nat (s w) ∷ [])

-- f : Vect Int w -> Int; f (Cons k x xs) = 1
abbrev pub endless_defined : Defined
endless_defined =
    f_of 14 with_w (Pi ω (vect IntTy w) IntTy)
    (clause 14 (cons_pattern (at 14 4) (small (codes "k") (at 14 9)) (small (codes "x") (at 14 11))
    (small (codes "xs") (at 14 13)) ∷ []) (int 1 (at 14 19)) ∷ [])
