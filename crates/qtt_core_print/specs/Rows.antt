-- Worked examples of printed terms.
use Rattle.std.specs.Prelude.{◌≡◌, ℕ, pos, negsuc, List, [], ◌∷◌, codes}
use Rattle.qtt_usage.specs.declared.mult.Mult.{Mult}
use Rattle.qtt_usage.specs.Mult.{𝟘, 𝟙, ω}
use Rattle.qtt_term.specs.Term.{Io, Action, Form, Term, var, node, ε, ◌▸◌, Sort, Pi, Lam, App, Fam, Delete, Def, IntLit, TextLit, Act, Trap}
use Rattle.qtt_term.specs.Signature.{UnitTy, MkUnit, EqTy, Refl, IntTy, HandleTy}
use Rattle.qtt_term.specs.Items.{FamilyEntry, DefinitionEntry, signature_entry, given_body}
use Rattle.qtt_term.specs.PrimItems.{prim_families}
use Rattle.qtt_term.specs.Signature.{plain_constructor}
use Rattle.qtt_term.specs.Programs.{item, io_unit, put, shown, bound, nat, nat_family, plus_body, s}
use Rattle.qtt_term.specs.Entries.{Entries}
use Rattle.qtt_core_print.specs.Printing.{text, definition_text}

-- Nat with Z and S are items 0 to 2 of Main, and `plus` is item 3
abbrev pub nat_entry : FamilyEntry
nat_entry = record {
  id = item 0;
  name = codes "Main.Nat";
  family = nat_family;
  constructors =
      record { id = item 1; name = codes "Main.Z"; labels = []; constructor = plain_constructor [] }
      ∷ record {
        id = item 2;
        name = codes "Main.S";
        labels = codes "_" ∷ [];
        constructor = plain_constructor ((ω, nat) ∷ []);
      }
      ∷ [];
}

abbrev pub defined : ℕ → List ℕ → Mult → Term → DefinitionEntry
defined n x q A = signature_entry (item n) x q A

abbrev pub plus_entry : DefinitionEntry
plus_entry = given_body plus_body (defined 3 (codes "Main.plus") ω (Pi ω nat (Pi ω nat nat)))

abbrev pub with_nat : Entries
with_nat = record { families = nat_entry ∷ prim_families; definitions = plus_entry ∷ [] }

abbrev pub only_prim : Entries
only_prim = record { families = prim_families; definitions = [] }

-- id : (1 x : Int) -> Int; id x = x; main : IO Unit; main = putLine (showInt (id 3))
abbrev pub id_entry : DefinitionEntry
id_entry = given_body (Lam 𝟙 IntTy (var 0)) (defined 0 (codes "Main.id") ω (Pi 𝟙 IntTy IntTy))

abbrev pub main_entry : DefinitionEntry
main_entry = given_body (put (shown (App 𝟙 (Def (item 0)) (IntLit (pos 3))))) (defined 1 (codes "Main.main") ω io_unit)

abbrev pub identity : Entries
identity = record { families = prim_families; definitions = id_entry ∷ main_entry ∷ [] }

-- x : Int; 0 p : Int
abbrev pub x_entry : DefinitionEntry
x_entry = defined 0 (codes "Main.x") ω IntTy

abbrev pub p_entry : DefinitionEntry
p_entry = defined 1 (codes "Main.p") 𝟘 IntTy

abbrev pub open_items : Entries
open_items = record { families = prim_families; definitions = x_entry ∷ p_entry ∷ [] }

-- a constructor with one parameter and three fields
abbrev pub vect : FamilyEntry
vect = record {
  id = item 4;
  name = codes "Main.Vect";
  family = nat_family;
  constructors =
      record { id = item 5; name = codes "Main.Nil"; labels = []; constructor = plain_constructor [] }
      ∷ record { id = item 6; name = codes "Main.Cons"; labels = []; constructor = plain_constructor [] } ∷ [];
}

abbrev pub with_vect : Entries
with_vect = record { families = vect ∷ prim_families; definitions = [] }

-- f : (0 a : Type) -> (0 x : a) -> (p : Eq a x x) -> Int; f a x Refl = 1
abbrev pub deletion : Term
deletion =
    Lam 𝟘 (Sort 0) (Lam 𝟘 (var 0) (Lam ω (EqTy (var 1) (var 0) (var 0))
    (Delete ω (var 2) (var 1) IntTy (IntLit (pos 1)) (var 0))))

-- v, w : Nat, and a Case over each
abbrev pub case_of_two : Term
case_of_two = node (Form.case 𝟙 (item 0) 0 1 (0 ∷ 1 ∷ [])) (nat ▸ var 1 ▸ s (var 0) ▸ var 0 ▸ ε)

abbrev pub case_without_branch : Term
case_without_branch = node (Form.case 𝟘 (item 9) 1 2 []) (IntTy ▸ Fam (item 9) (var 0 ▸ ε) ▸ var 0 ▸ ε)

pub record PrintedRows : Type 0 where
  pub id_line : definition_text identity id_entry ≡ codes "Main.id : ((1 x0 : Int) -> Int) = (\\(1 x0 : Int) => x0)"
  pub main_line : definition_text identity main_entry ≡ codes "Main.main : (IO Unit) = (putLine (showInt (Main.id @1 3)))"
  -- without a body, and of a 0 definition
  pub signature_line : definition_text open_items x_entry ≡ codes "Main.x : Int"
  pub zero_line : definition_text open_items p_entry ≡ codes "0 Main.p : Int"
  pub plus_line : definition_text with_nat plus_entry
      ≡ codes "Main.plus : ((x0 : Main.Nat) -> ((x1 : Main.Nat) -> Main.Nat)) = (\\(x0 : Main.Nat) => (\\(x1 : Main.Nat) => (case many x0 motive x2 => Main.Nat { Main.Z => x1; Main.S x2 => (Main.S ((Main.plus x2) x1)) })))"
  -- variables with and without a binder
  pub levels : text with_nat 2 case_of_two ≡ codes "(case 1 x1 motive x2 => Main.Nat { Main.Z => x0; Main.S x2 => (Main.S x2) })"
  pub no_binder : text with_nat 1 (var 1) ≡ codes "x_"
  pub no_branch : text with_nat 1 case_without_branch ≡ codes "(case 0 x0 motive x1 x2 => (_ x2) { })"
  pub delete_text : text only_prim 0 deletion
      ≡ codes "(\\(0 x0 : Type 0) => (\\(0 x1 : x0) => (\\(x2 : (Eq x0 x1 x1)) => (delete many x2 motive x3 => Int { 1 }))))"
  pub trap_text : text with_nat 0 (Trap nat) ≡ codes "(trap Main.Nat)"
  -- applications at 0, at 1 and at many
  pub marked : text with_nat 3 (App 𝟘 (App 𝟙 (App ω (var 2) (var 1)) (var 0)) (Sort 1)) ≡ codes "(((x0 x1) @1 x2) @0 Type 1)"
  -- parameters of a constructor and type arguments of an action stand in braces
  pub parameters : text with_vect 3 (node (Form.con (item 4) 1 1) (IntTy ▸ var 2 ▸ var 1 ▸ var 0 ▸ ε)) ≡ codes "(Main.Cons {Int} x0 x1 x2)"
  pub parameter_alone : text with_vect 0 (node (Form.con (item 4) 0 1) (IntTy ▸ ε)) ≡ codes "(Main.Nil {Int})"
  pub proof : text only_prim 0 (Refl IntTy (IntLit (pos 3))) ≡ codes "(Refl {Int} {3})"
  pub pure_text : text only_prim 0 (Act (Action.pure Io.io) 1 (UnitTy ▸ MkUnit ▸ ε)) ≡ codes "(pure {Unit} MkUnit)"
  pub bind_text : text only_prim 0 (bound Io.io1 Io.io HandleTy UnitTy (Act Action.opens 0 (TextLit (codes "a") ▸ ε))
      (Act Action.closes 0 (var 0 ▸ ε)) 𝟙)
      ≡ codes "(bind1 {Handle} {Unit} (open \"a\") (\\(1 x0 : Handle) => (close x0)))"
  pub input : text only_prim 0 (Act Action.get_line 0 ε) ≡ codes "getLine"
  -- literals, and names that are not there
  pub least : text only_prim 0 (IntLit (negsuc 9223372036854775807)) ≡ codes "-9223372036854775808"
  pub escapes : text only_prim 0 (TextLit (codes "a\"\\\n\tb")) ≡ codes "\"a\\\"\\\\\\n\\tb\""
  pub no_family : text only_prim 0 (Fam (item 0) ε) ≡ codes "_"
  pub no_definition : text only_prim 0 (Def (item 0)) ≡ codes "_"
