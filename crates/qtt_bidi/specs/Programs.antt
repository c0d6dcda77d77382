-- Trees of small texts, and the families and definitions that stand before them. Lengths of places are not told here.
use Rattle.std.specs.Prelude.{ℕ, zero, suc, pos, List, [], ◌∷◌, ◌++◌, map, codes}
use Rattle.qtt_base.specs.declared.place.Span.{Span}
use Rattle.qtt_usage.specs.declared.mult.Mult.{Mult}
use Rattle.qtt_usage.specs.Mult.{𝟙, ω}
use Rattle.qtt_syntax.specs.declared.expr.Local.{Local}
use Rattle.qtt_syntax.specs.declared.expr.Mark.TheVariants.{Written}
use Rattle.qtt_syntax.specs.declared.expr.Target.{Target}
use Rattle.qtt_syntax.specs.declared.expr.Target.TheVariants as target
use Rattle.qtt_syntax.specs.Tree.{Tree, Binder, Statement, arguments, binders, statements}
use Rattle.qtt_syntax.specs.Tree.Tree.{name, number, universe, apply, pi, lambda, doing}
use Rattle.qtt_syntax.specs.Tree.Argument.{argument}
use Rattle.qtt_syntax.specs.Tree.Binder.{plain, typed_binder}
use Rattle.qtt_syntax.specs.Tree.Statement.{bind}
use Rattle.qtt_term.specs.Term.{var, ε, Sort, Pi, Lam, Fam, Def, IntLit}
use Rattle.qtt_term.specs.Signature.{Constructor, Definition, prim_id, plain_constructor, IntTy}
use Rattle.qtt_term.specs.Items.{ConstructorEntry, FamilyEntry, DefinitionEntry}
use Rattle.qtt_term.specs.PrimItems.{prim_families}
use Rattle.qtt_term.specs.Programs.{item, many, zero_def, nat_family, plus_body}
use Rattle.qtt_term.specs.Entries.{Entries}

-- ---- trees
abbrev pub at : ℕ → ℕ → Span
at l c = record { line = l; col = c; len = 1 }

abbrev pub used : Target → List ℕ → Span → Tree
used to x s = name (record { path = x; target = to; span = s })

-- a local name, with so many names inside it
abbrev pub here : ℕ → List ℕ → Span → Tree
here i = used (target.Local i)

-- an item of Prim, and of the module Main, by its number
abbrev pub prim : ℕ → List ℕ → Span → Tree
prim n = used (target.Global (prim_id n))

abbrev pub main : ℕ → List ℕ → Span → Tree
main n = used (target.Global (item n))

abbrev pub int : Span → Tree
int = prim 0 (codes "Int")

abbrev pub string : Span → Tree
string = prim 1 (codes "String")

abbrev pub digits : ℕ → Span → Tree
digits n s = number (pos n) s

-- `Type`
abbrev pub types : Span → Tree
types s = universe 0 s s

-- a function at s and its arguments
abbrev pub call : Tree → List Tree → Span → Tree
call f es s = apply f (arguments (map (λ e. argument Written e) es)) s

-- `(q x : A) -> B`, and `A -> B`
abbrev pub function : Mult → List ℕ → Tree → Tree → Span → Tree
function q x A B s = pi Written q x A B s

abbrev pub arrow : Tree → Tree → Span → Tree
arrow = function ω (codes "_")

abbrev pub named : List ℕ → Span → Local
named x s = record { name = x; span = s }

-- `\x => e`, and `\(q x : A) => e`, where x stands behind the bracket
abbrev pub plainly : List ℕ → Span → Binder
plainly x s = plain (named x s)

abbrev pub typed_as : Mult → List ℕ → Tree → Span → Binder
typed_as q x A s = typed_binder q (named x s) A s

abbrev pub fun : List Binder → Tree → Span → Tree
fun bs e s = lambda (binders bs) e s

abbrev pub block : List Statement → Span → Tree
block ss s = doing (statements ss) s

-- `x <- e` at x, and `e`
abbrev pub binds : List ℕ → Span → Tree → Statement
binds x s e = bind (named x s) e

-- ---- what stands before: Prim, and families and definitions of the module Main, by their numbers
abbrev pub in_main : List ℕ → List ℕ
in_main x = codes "Main." ++ x

abbrev pub entry : ℕ → List ℕ → Definition → DefinitionEntry
entry n x d = record { id = item n; name = in_main x; definition = d }

abbrev pub after_prim : List FamilyEntry → List DefinitionEntry → Entries
after_prim Fs ds = record { families = prim_families ++ Fs; definitions = ds }

abbrev pub constructor_entry : ℕ → List ℕ → List (List ℕ) → Constructor → ConstructorEntry
constructor_entry n x ls c = record { id = item n; name = in_main x; labels = ls; constructor = c }

-- data Nat : Type where Z : Nat; S : Nat -> Nat
abbrev pub nat_entry : FamilyEntry
nat_entry = record {
  id = item 0;
  name = codes "Main.Nat";
  family = nat_family;
  constructors =
      constructor_entry 1 (codes "Z") [] (plain_constructor [])
      ∷ constructor_entry 2 (codes "S") (codes "_" ∷ []) (plain_constructor ((ω, Fam (item 0) ε) ∷ [])) ∷ [];
}

-- with plus : Nat -> Nat -> Nat; plus Z m = m; plus (S n) m = S (plus n m)
abbrev pub naturals : Entries
naturals = after_prim (nat_entry ∷ [])
    (entry 3 (codes "plus") (many (Pi ω (Fam (item 0) ε) (Pi ω (Fam (item 0) ε) (Fam (item 0) ε))) plus_body) ∷ [])

-- id : (1 x : Int) -> Int; id x = x
abbrev pub identity : Entries
identity = after_prim [] (entry 0 (codes "id") (many (Pi 𝟙 IntTy IntTy) (Lam 𝟙 IntTy (var 0))) ∷ [])

-- 0 d : Int; d = 3
abbrev pub erased : Entries
erased = after_prim [] (entry 0 (codes "d") (zero_def IntTy (IntLit (pos 3))) ∷ [])

-- w : Type; w = w; v : Type; v = v; c : w; c = c
abbrev pub circles : Entries
circles =
    after_prim []
    (entry 0 (codes "w") (many (Sort 0) (Def (item 0))) ∷ entry 1 (codes "v") (many (Sort 0) (Def (item 1)))
    ∷ entry 2 (codes "c") (many (Def (item 0)) (Def (item 2))) ∷ [])

-- a1 : Type; a1 = Int; a2 : Type; a2 = a1; and so on up to a11, which is item 10
abbrev pub alias : ℕ → DefinitionEntry
alias zero = entry 0 (codes "a") (many (Sort 0) IntTy)
alias (suc n) = entry (suc n) (codes "a") (many (Sort 0) (Def (item n)))

abbrev pub aliases_onto : ℕ → List DefinitionEntry → List DefinitionEntry
aliases_onto zero ds = ds
aliases_onto (suc n) ds = aliases_onto n (alias n ∷ ds)

abbrev pub aliases : Entries
aliases = after_prim [] (aliases_onto 11 [])
