-- Worked messages, of each kind.
use Rattle.std.specs.Prelude.{◌≡◌, ℕ, List, [], ◌∷◌, Some, None, codes}
use Rattle.qtt_base.specs.declared.place.Span.{Span}
use Rattle.qtt_base.specs.declared.limits.Quantity.TheVariants.{TextBytes, Clauses}
use Rattle.qtt_usage.specs.Mult.{𝟘, 𝟙, ω}
use Rattle.qtt_syntax.specs.declared.expr.Mark.TheVariants.{Written, Inserted}
use Rattle.qtt_syntax.specs.declared.expr.Target.TheVariants.{Unknown}
use Rattle.qtt_syntax.specs.Tree.{Shape, shapes}
use Rattle.qtt_syntax.specs.Tree.Shape.{variable, wildcard, constructor}
use Rattle.qtt_term.specs.Term.{Term, var, Sort, Pi, Def}
use Rattle.qtt_term.specs.Signature.{EqTy, IntTy, StringTy}
use Rattle.qtt_term.specs.Ask.{Question}
use Rattle.qtt_term.specs.Items.{signature_entry}
use Rattle.qtt_term.specs.PrimItems.{prim_families}
use Rattle.qtt_term.specs.Programs.{item, nat, plus, s, z}
use Rattle.qtt_term.specs.Entries.{Entries}
use Rattle.qtt_core_print.specs.Rows.{with_nat, only_prim}
use Rattle.qtt_rules.specs.Refusal.{Cause}
use Rattle.qtt_diag.specs.Kept.{Detail, Refusal}
use Rattle.qtt_diag.specs.Messages.{message}

abbrev pub at : ℕ → ℕ → Span
at line col = record { line = line; col = col; len = 1 }

-- at a place of the module Main
abbrev pub refused : Entries → ℕ → ℕ → Detail → Refusal
refused N line col d = record { «module» = codes "Main"; span = at line col; detail = d; names = N }

abbrev pub main : ℕ → ℕ → Detail → List ℕ
main line col d = message (refused only_prim line col d)

abbrev pub premise : Cause → Detail
premise c = Detail.premise c

-- `plus x0 Z`, behind one variable
abbrev pub plus_zero : Term
plus_zero = plus (var 0) z

-- v and w are items 1 and 0
abbrev pub circles : Entries
circles = record {
  families = prim_families;
  definitions = signature_entry (item 0) (codes "Main.w") ω (Sort 0) ∷ signature_entry (item 1) (codes "Main.v") ω (Sort 0) ∷ [];
}

abbrev pub pattern : List ℕ → List Shape → Shape
pattern n ps = constructor Written (record { path = n; target = Unknown; span = at 1 1 }) (shapes ps) (at 1 1)

abbrev pub any : Shape
any = wildcard Written (at 1 1)

abbrev pub filled_in : Shape
filled_in = variable Inserted (codes "'0") (at 1 1)

-- S (S n)
abbrev pub twice_successor : Shape
twice_successor =
    pattern (codes "Main.S") (pattern (codes "Main.S") (variable Written (codes "n") (at 1 1) ∷ []) ∷ [])

pub record MessageRows : Type 0 where
  pub broken_byte : main 1 1 Detail.not_utf8 ≡ codes "Main:1:1: 1 NotUtf8"
  pub sign : main 2 1 (Detail.bad_character 35) ≡ codes "Main:2:1: 2 BadCharacter U+0023"
  pub picture : main 2 1 (Detail.bad_character 0x1F600) ≡ codes "Main:2:1: 2 BadCharacter U+1F600"
  pub no_quote : main 3 5 Detail.open_text ≡ codes "Main:3:5: 3 OpenText"
  pub no_comment_end : main 3 5 Detail.open_comment ≡ codes "Main:3:5: 4 OpenComment"
  pub wide : main 3 5 Detail.number_too_wide ≡ codes "Main:3:5: 5 NumberTooWide"
  pub long : main 3 5 Detail.name_too_long ≡ codes "Main:3:5: 6 NameTooLong"
  pub indent : main 3 1 Detail.bad_indent ≡ codes "Main:3:1: 7 BadIndent"
  pub empty_text : main 1 1 (Detail.unexpected (codes "end")) ≡ codes "Main:1:1: 8 Unexpected end"
  pub deep : main 3 205 Detail.too_deep ≡ codes "Main:3:205: 9 TooDeep"
  pub unbound_y : main 3 5 (Detail.unbound (codes "y")) ≡ codes "Main:3:5: 10 Unbound y"
  pub unbound_qualified : main 3 5 (Detail.unbound (codes "A.y")) ≡ codes "Main:3:5: 10 Unbound A.y"
  pub ambiguous_inc : main 5 26 (Detail.ambiguous (codes "inc")) ≡ codes "Main:5:26: 11 Ambiguous inc"
  pub second_x : main 3 5 (Detail.duplicate (codes "x")) ≡ codes "Main:3:5: 12 Duplicate x"
  pub not_positive : main 3 3 (premise (Cause.not_positive (codes "Main.Mk") 0))
      ≡ codes "Main:3:3: 13 NotPositive Mk 0"
  pub needs_type : main 3 5 (premise Cause.needs_type) ≡ codes "Main:3:5: 14 NeedsType"
  pub not_a_function : main 3 5 (premise (Cause.not_a_function 0 IntTy)) ≡ codes "Main:3:5: 15 NotAFunction Int"
  pub text_for_number : main 3 5 (premise (Cause.mismatch 0 IntTy StringTy))
      ≡ codes "Main:3:5: 16 TypeMismatch expected Int found String"
  pub sums :
      message (refused with_nat 9 10
      (premise (Cause.mismatch 1 (EqTy nat plus_zero (var 0)) (EqTy nat plus_zero plus_zero))))
      ≡ codes "Main:9:10: 16 TypeMismatch expected (Eq Main.Nat ((Main.plus x0) Main.Z) x0) found (Eq Main.Nat ((Main.plus x0) Main.Z) ((Main.plus x0) Main.Z))"
  pub quantity : main 3 5 (premise (Cause.wrong_quantity 𝟙 ω))
      ≡ codes "Main:3:5: 17 WrongQuantity expected 1 found many"
  pub dropped : main 4 12 (premise (Cause.wrong_usage (Some (codes "h")) 𝟙 𝟘))
      ≡ codes "Main:4:12: 18 WrongUsage h declared 1 used 0"
  pub closed_twice : main 4 3 (premise (Cause.wrong_usage (Some (codes "h")) 𝟙 ω))
      ≡ codes "Main:4:3: 18 WrongUsage h declared 1 used many"
  pub unnamed : main 4 3 (premise (Cause.wrong_usage None 𝟙 𝟘)) ≡ codes "Main:4:3: 18 WrongUsage _ declared 1 used 0"
  pub no_type : main 2 5 (premise (Cause.not_a_type 0 IntTy)) ≡ codes "Main:2:5: 19 NotAType Int"
  pub too_large : main 3 8 (premise (Cause.wrong_level 0 1)) ≡ codes "Main:3:8: 20 WrongLevel declared 0 found 1"
  pub arity : main 3 5 (premise (Cause.wrong_arity 2 1)) ≡ codes "Main:3:5: 21 WrongArity expected 2 found 1"
  pub no_family : main 3 5 (premise (Cause.not_a_family 1 (Pi ω IntTy (var 1))))
      ≡ codes "Main:3:5: 22 NotAFamily ((x1 : Int) -> x0)"
  pub erased : main 3 7 (premise (Cause.erased_use 1 (var 0))) ≡ codes "Main:3:7: 23 ErasedUse x0"
  pub compared :
      message (refused circles 7 7 (Detail.budget_spent 10 (Question.compared 1 (Def (item 1)) (Def (item 0)))))
      ≡ codes "Main:7:7: 24 BudgetSpent 10 compare Main.v Main.w"
  pub head_asked : message (refused circles 7 7 (Detail.budget_spent 10 (Question.head_of 0 (Def (item 1)))))
      ≡ codes "Main:7:7: 24 BudgetSpent 10 head Main.v"
  pub stuck : message (refused with_nat 6 5 (premise (Cause.pattern_stuck 2 (var 1) (s (var 1)))))
      ≡ codes "Main:6:5: 25 PatternStuck x0 = (Main.S x0)"
  pub dot : message (refused with_nat 6 5 (premise (Cause.dot_mismatch 3 (var 2) z)))
      ≡ codes "Main:6:5: 26 DotMismatch expected x0 found Main.Z"
  pub erased_match : main 3 3 (premise (Cause.erased_match (Some (codes "b")))) ≡ codes "Main:3:3: 27 ErasedMatch b"
  pub missing_zero : main 6 1 (premise (Cause.missing (codes "Main.pred") (pattern (codes "Main.Z") [] ∷ [])))
      ≡ codes "Main:6:1: 28 Missing pred Z"
  pub missing_nested :
      main 6 1 (premise (Cause.missing (codes "f") (filled_in ∷ any ∷ twice_successor ∷ [])))
      ≡ codes "Main:6:1: 28 Missing f _ _ (S (S _))"
  pub no_clauses : main 2 1 (premise (Cause.no_clauses (codes "Main.x"))) ≡ codes "Main:2:1: 29 NoClauses x"
  pub wrong_main : main 1 1 (premise Cause.wrong_main) ≡ codes "Main:1:1: 30 WrongMain"
  pub bytes : main 1 1 (premise (Cause.limit TextBytes 1048577))
      ≡ codes "Main:1:1: 31 Limit bytes of a module text 1048577"
  pub clauses : main 1003 1 (premise (Cause.limit Clauses 1001))
      ≡ codes "Main:1003:1: 31 Limit clauses of a definition 1001"
  pub other_name : main 1 8 (Detail.wrong_module_name (codes "Main") (codes "A.Other"))
      ≡ codes "Main:1:8: 32 WrongModuleName expected Main found A.Other"
  pub ring :
      message (record {
        «module» = codes "A";
        span = at 2 1;
        detail = Detail.cycle (codes "A" ∷ codes "B" ∷ codes "C" ∷ []);
        names = only_prim;
      })
      ≡ codes "A:2:1: 33 Cycle A B C"
  pub unsolved : main 5 5 (Detail.unsolved (codes "a")) ≡ codes "Main:5:5: 34 Unsolved a"
  pub no_action : main 4 3 (premise (Cause.not_an_action 0 IntTy)) ≡ codes "Main:4:3: 35 NotAnAction Int"
  pub unreachable : main 4 1 (premise (Cause.unreachable (codes "Main.f"))) ≡ codes "Main:4:1: 36 Unreachable f"
  pub holes : main 6 3 (Detail.has_holes (codes "rest" ∷ codes "more" ∷ [])) ≡ codes "Main:6:3: 37 HasHoles rest more"
  pub core_refused : main 6 3 (premise (Cause.core_refused (codes "Main.f"))) ≡ codes "Main:6:3: 38 CoreRefused f"
