-- Worked examples of families, signatures and mains.
use Rattle.std.specs.Prelude.{◌≡◌, ℕ, ◌+◌, pos, List, [], ◌∷◌, codes, Some, None}
use Rattle.qtt_base.specs.declared.place.GlobalId.{GlobalId}
use Rattle.qtt_base.specs.declared.place.Span.{Span}
use Rattle.qtt_usage.specs.declared.mult.Mult.{Mult}
use Rattle.qtt_usage.specs.Mult.{𝟘, 𝟙, ω}
use Rattle.qtt_syntax.specs.Tree.{Tree, Param, Con}
use Rattle.qtt_syntax.specs.Tree.Param.{param}
use Rattle.qtt_syntax.specs.Tree.Con.{con}
use Rattle.qtt_term.specs.Term.{Io, Term, var, ε, ◌▸◌, Sort, App, Fam, Def, IntLit}
use Rattle.qtt_term.specs.Signature.{IntTy, UnitTy, IoTy}
use Rattle.qtt_term.specs.Ask.{Question, Ending, within}
use Rattle.qtt_term.specs.Items.{FamilyEntry, DefinitionEntry, signature_entry}
use Rattle.qtt_term.specs.Programs.{item, many, io_unit, nat, z, s}
use Rattle.qtt_term.specs.Entries.{Entries, env, prim_entries}
use Rattle.qtt_term.specs.Scope.{no_scope}
use Rattle.qtt_rules.specs.Refusal.{Cause}
use Rattle.qtt_bidi.specs.Programs.{at, here, main, int, digits, types, call, function, arrow, entry, after_prim, constructor_entry, nat_entry, naturals}
use Rattle.qtt_bidi.specs.Rows.{Ended, refuses, spends}
use Rattle.qtt_module.specs.Families.{family, signature, accepted}
use Rattle.qtt_term.specs.declared.rule.Rule.TheVariants as rule
use Rattle.qtt_module.specs.Main as test

-- a family of the module Main as item n
abbrev pub declared : Entries → ℕ → List ℕ → List Param → Tree → List Con → Ended FamilyEntry
declared G n x ps t cs = within (env G) 1000 (family G (item n) (codes "Main") x ps t cs)

abbrev pub signed : Entries → ℕ → Tree → Ended DefinitionEntry
signed G n t = within (env G) 1000 (signature G (item 7) (codes "Main") (codes "x") ω t)

-- data D : Type where, and its constructors from line 3 on
abbrev pub plain_data : List Con → Ended FamilyEntry
plain_data = declared prim_entries 0 (codes "D") [] (types (at 2 10))

-- data D (a : Type) : Type where, and its constructors
abbrev pub data_over : List Con → Ended FamilyEntry
data_over = declared prim_entries 0 (codes "D") (param ω (codes "a") (types (at 2 13)) (at 2 8) ∷ []) (types (at 2 21))

abbrev pub d : Span → Tree
d = main 0 (codes "D")

abbrev pub mk : Tree → Con
mk t = con (codes "Mk") t (at 3 3)

-- data Nat : Type where Z : Nat; S : Nat -> Nat
abbrev pub nat_data : Ended FamilyEntry
nat_data =
    declared prim_entries 0 (codes "Nat") [] (types (at 2 12))
    (con (codes "Z") (main 0 (codes "Nat") (at 3 7)) (at 3 3) ∷ con (codes "S")
    (arrow (main 0 (codes "Nat") (at 4 7)) (main 0 (codes "Nat") (at 4 14)) (at 4 7)) (at 4 3) ∷ [])

-- Vect a n, as item 4, where a is the local name i
abbrev pub vect : ℕ → Tree → ℕ → ℕ → Tree
vect i n l c = call (main 4 (codes "Vect") (at l c)) (here i (codes "a") (at l (c + 5)) ∷ n ∷ []) (at l c)

-- data Vect (a : Type) : Nat -> Type where
--   Nil : Vect a Z
--   Cons : (0 k : Nat) -> (1 x : a) -> (1 xs : Vect a k) -> Vect a (S k)
abbrev pub vect_data : Ended FamilyEntry
vect_data =
    declared naturals 4 (codes "Vect") (param ω (codes "a") (types (at 8 16)) (at 8 11) ∷ [])
    (arrow (main 0 (codes "Nat") (at 8 24)) (types (at 8 31)) (at 8 24))
    (con (codes "Nil") (vect 0 (main 1 (codes "Z") (at 9 16)) 9 9) (at 9 3)
    ∷ con (codes "Cons")
    (function 𝟘 (codes "k") (main 0 (codes "Nat") (at 10 15)) (function 𝟙 (codes "x") (here 1 (codes "a") (at 10 30))
    (function 𝟙 (codes "xs") (vect 2 (here 1 (codes "k") (at 10 51)) 10 44)
    (vect 3 (call (main 2 (codes "S") (at 10 66)) (here 2 (codes "k") (at 10 68) ∷ []) (at 10 66)) 10 58) (at 10 36))
    (at 10 23)) (at 10 10)) (at 10 3) ∷ [])

abbrev pub vect_entry : FamilyEntry
vect_entry = record {
  id = item 4;
  name = codes "Main.Vect";
  family = record {
    params = (𝟘, Sort 0) ∷ [];
    indices = nat ∷ [];
    level = 0;
    constructors = record { fields = []; results = z ▸ ε }
        ∷ record {
          fields = (𝟘, nat) ∷ (𝟙, var 1) ∷ (𝟙, Fam (item 4) (var 2 ▸ var 1 ▸ ε)) ∷ [];
          results = s (var 2) ▸
              ε;
        } ∷ [];
  };
  constructors =
      constructor_entry 5 (codes "Nil") [] (record { fields = []; results = z ▸ ε })
      ∷ constructor_entry 6 (codes "Cons") (codes "k" ∷ codes "x" ∷ codes "xs" ∷ [])
      (record {
        fields = (𝟘, nat) ∷ (𝟙, var 1) ∷ (𝟙, Fam (item 4) (var 2 ▸ var 1 ▸ ε)) ∷ [];
        results = s (var 2) ▸
            ε;
      }) ∷ [];
}

-- data P (a : Type) : a -> a -> Type where: each index stands under the parameter alone, and the names count
abbrev pub two_indices : Ended FamilyEntry
two_indices =
    declared prim_entries 0 (codes "P") (param ω (codes "a") (types (at 2 13)) (at 2 8) ∷ [])
    (arrow (here 0 (codes "a") (at 2 21)) (arrow (here 1 (codes "a") (at 2 26)) (types (at 2 31)) (at 2 26)) (at 2 21))
    []

pub record FamilyRows : Type 0 where
  pub nat_declared : nat_data ≡ Ending.ok nat_entry
  pub vect_declared : vect_data ≡ Ending.ok vect_entry
  pub indices_beside : two_indices ≡ Ending.ok (record {
    id = item 0;
    name = codes "Main.P";
    family = record { params = (𝟘, Sort 0) ∷ []; indices = var 0 ∷ var 0 ∷ []; level = 0; constructors = [] };
    constructors = [];
  })
  -- data D (a : 3) : Type where
  pub parameter_no_type : declared prim_entries 0 (codes "D") (param ω (codes "a") (digits 3 (at 2 13)) (at 2 8) ∷ [])
      (types (at 2 18)) [] ≡ refuses (Cause.not_a_type 0 IntTy) (at 2 13) rule.Families 1
  -- data D : Int where: what is kept is the end itself
  pub end_no_sort : declared prim_entries 0 (codes "D") [] (int (at 2 10)) [] ≡ refuses (Cause.not_a_type 0 IntTy)
      (at 2 10) rule.Families 2
  -- data D : 3 -> 4 where: the end is looked at before the indices
  pub end_before_indices : declared prim_entries 0 (codes "D") []
      (arrow (digits 3 (at 2 10)) (digits 4 (at 2 15)) (at 2 10)) [] ≡ refuses (Cause.not_a_type 0 (IntLit (pos 4)))
      (at 2 15) rule.Families 2
  pub index_no_type : declared prim_entries 0 (codes "D") [] (arrow (digits 3 (at 2 10)) (types (at 2 15)) (at 2 10))
      [] ≡ refuses (Cause.not_a_type 0 IntTy) (at 2 10) rule.Families 3
  -- Mk : 3 -> D
  pub field_no_type : plain_data (mk (arrow (digits 3 (at 3 8)) (d (at 3 13)) (at 3 8)) ∷ []) ≡ refuses
      (Cause.not_a_type 0 IntTy) (at 3 8) rule.Families 4
  -- Mk : Type -> D, and Mk : (x : Type) -> D
  pub field_too_large : plain_data (mk (arrow (types (at 3 8)) (d (at 3 16)) (at 3 8)) ∷ []) ≡ refuses
      (Cause.wrong_level 0 1) (at 3 8) rule.Families 5
  pub named_too_large : plain_data (mk (function ω (codes "x") (types (at 3 13)) (d (at 3 22)) (at 3 8)) ∷ []) ≡ refuses
      (Cause.wrong_level 0 1) (at 3 8) rule.Families 5
  -- Mk : D, where D has a parameter, and Mk : D Int
  pub end_arguments : data_over (mk (d (at 3 8)) ∷ []) ≡ refuses (Cause.wrong_arity 1 0) (at 3 8) rule.Family 1
  pub end_at_other : data_over (mk (call (d (at 3 8)) (int (at 3 10) ∷ []) (at 3 8)) ∷ []) ≡ refuses
      (Cause.not_a_family 1 (Fam (item 0) (IntTy ▸ ε))) (at 3 8) rule.Families 6
  -- Mk : Int
  pub end_no_family : plain_data (mk (int (at 3 8)) ∷ []) ≡ refuses (Cause.not_a_family 0 IntTy) (at 3 8) rule.Families
      6
  -- Mk : (D -> Int) -> D: positivity comes after all constructors, here after the end of a second one
  pub not_positive : plain_data (mk (arrow (arrow (d (at 3 9)) (int (at 3 14)) (at 3 9)) (d (at 3 22)) (at 3 8)) ∷ []) ≡
      refuses (Cause.not_positive (codes "Mk") 0) (at 3 3) rule.Families 7
  pub positive_is_last : plain_data (mk (arrow (arrow (d (at 3 9)) (int (at 3 14)) (at 3 9)) (d (at 3 22)) (at 3 8)) ∷
      con (codes "No") (int (at 4 8)) (at 4 3) ∷ [])
      ≡ refuses (Cause.not_a_family 0 IntTy) (at 4 8) rule.Families 6
  -- x : 3, and x : Int
  pub signature_no_type : signed prim_entries 0 (digits 3 (at 2 5)) ≡ refuses (Cause.not_a_type 0 IntTy) (at 2 5)
      rule.Families 8
  pub signature_of_int : signed prim_entries 0 (int (at 2 5)) ≡ Ending.ok
      (signature_entry (item 7) (codes "Main.x") ω IntTy)
  -- a core that is no type, an ill-typed one, and one of too great a level
  pub core_no_type : within (env prim_entries) 0 (accepted prim_entries no_scope (codes "x") None (at 2 5)
      (IntLit (pos 3))) ≡ refuses (Cause.core_refused (codes "x")) (at 2 5) rule.Conversion 2
  pub core_ill_typed : within (env prim_entries) 0 (accepted prim_entries no_scope (codes "x") None (at 2 5)
      (App ω (IntLit (pos 3)) (IntLit (pos 4)))) ≡ refuses (Cause.core_refused (codes "x")) (at 2 5) rule.App 1
  pub core_too_large : within (env prim_entries) 0 (accepted prim_entries no_scope (codes "Mk") (Some 0) (at 2 5)
      (Sort 0)) ≡ refuses (Cause.core_refused (codes "Mk")) (at 2 5) rule.Conversion 2

-- main : t, as item 3
abbrev pub with_main : Mult → Term → Entries
with_main q t = after_prim [] (entry 3 (codes "main") (record { mult = q; type = t; body = None }) ∷ [])

abbrev pub tested : ℕ → Entries → Ended GlobalId
tested n G = within (env G) n (test.main G (at 1 1) (Some (item 3)))

-- main : a; a : Type; a = IO Unit
abbrev pub alias_main : Entries
alias_main = after_prim [] (entry 2 (codes "a") (many (Sort 0) io_unit) ∷ entry 3 (codes "main")
    (record { mult = ω; type = Def (item 2); body = None }) ∷ [])

pub record MainRows : Type 0 where
  pub right : tested 0 (with_main ω io_unit) ≡ Ending.ok (item 3)
  pub missing : within (env prim_entries) 0 (test.main prim_entries (at 1 1) None) ≡ refuses Cause.wrong_main (at 1 1)
      rule.Main 1
  pub at_zero : tested 0 (with_main 𝟘 io_unit) ≡ refuses Cause.wrong_main (at 1 1) rule.Main 1
  pub other_type : tested 0 (with_main ω (IoTy Io.io1 UnitTy)) ≡ refuses Cause.wrong_main (at 1 1) rule.Main 2
  pub alias_in_one : tested 1 alias_main ≡ Ending.ok (item 3)
  pub alias_in_none : tested 0 alias_main ≡ spends (Question.compared 0 (Def (item 2)) io_unit) (at 1 1) rule.Main 2
