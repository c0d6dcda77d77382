-- The modules that the grammar gives are as texts are written.
use Rattle.std.proofs.Common.{◌≡◌, ◌+◌, true, false, List, [], ◌∷◌, Some, None, arith, sum_by}
use Rattle.qtt_base.specs.declared.limits.Quantity.TheVariants as quantity
use Rattle.qtt_usage.specs.declared.mult.Mult.TheVariants as mult
use Rattle.qtt_syntax.specs.declared.expr.Local.{Local}
use Rattle.qtt_syntax.specs.Tree.{Tree, Shape, Param, Con, Module}
use Rattle.qtt_phrase.specs.Phrase.{◌or◌, opens}
use Rattle.qtt_grammar.specs.declared.class.Pass.{Pass}
use Rattle.qtt_grammar.specs.Classes.{is_open, is_next, is_close, is_module, is_import, is_data, is_where, is_partial, is_zero, is_left_paren, is_right_paren, is_colon, is_equals, is_name, is_simple, is_big}
use Rattle.qtt_grammar.specs.declared.lexeme.Lexeme.{Lexeme}
use Rattle.qtt_grammar.specs.Limits.{is_full, one_above}
use Rattle.qtt_grammar.specs.Grammar.{of, place, Level, IsZero, mult_of, Place, Entry, start, clauses_before, next_place, param_of, con_of, next_con_of, cons_of, family_of, partial_of, erased_of, signature_of, clause_of, second, import_of, items_of, module_of, IsParam, IsCon, Cons, IsFamily, Partial, Erased, Signing, Equation, Clause, Defining, IsItem, IsEntry, IsModule, IsText, levels}
use Rattle.qtt_grammar.specs.Grammar.Entry.{imported, listed}
use Rattle.qtt_implicit.specs.Moving.{weighed}
use Rattle.qtt_implicit.specs.Laws.{weighed_shape, weighed_param, weighed_con, weighed_item, inserted, misplaced, IsWritten}
use Rattle.qtt_reprint.proofs.Gives.{Each, token_gives, chain_gives, ◌then_gives◌, made_gives, ◌or_gives◌, perhaps_gives}
use Rattle.qtt_forgetting_laws.proofs.Parts.{WrittenTree, WrittenShape, WrittenParam, WrittenCon, WrittenItem, none_weighs}
use Rattle.qtt_forgetting_laws.proofs.Productions.{Any, Holds, symbol, opening, locally, capped, each_of_run, up_to, counted, LevelHolds, levels_hold}

written_family : (ps : List Param) (t : Tree) (cs : List Con) → Each WrittenParam ps → WrittenTree t →
    Each WrittenCon cs →
    sum_by (weighed_param misplaced) ps + (weighed misplaced t + sum_by (weighed_con misplaced) cs) ≡ 0
written_family ps t cs e h f =
    let params = none_weighs (weighed_param misplaced) ps e in
    let cons = none_weighs (weighed_con misplaced) cs f in
    omega (arith, params, h, cons)

written_clause : (ps : List Shape) (side : Tree) → Each WrittenShape ps → WrittenTree side →
    sum_by (weighed_shape misplaced inserted) ps + weighed misplaced side ≡ 0
written_clause ps side e h =
    let patterns = none_weighs (weighed_shape misplaced inserted) ps e in omega (arith, patterns, h)

module _ (pass : Pass) (top inner : Level) (outside : LevelHolds top) (inside : LevelHolds inner) where
  zero_mark : Holds IsZero Any
  zero_mark = perhaps_gives mult.Many tt (token_gives (of is_zero) (λ x. mult_of x.class) (λ x f e. tt))

  -- ---- families

  param_holds : Holds (IsParam pass top inner) WrittenParam
  param_holds =
      made_gives param_of (opening true is_left_paren then_gives zero_mark then_gives locally is_simple then_gives
      symbol is_colon then_gives inside.expr false then_gives symbol is_right_paren)
      (λ a r. r.1.1.1.1.0)

  con_holds : Holds (IsCon pass top inner) WrittenCon
  con_holds = made_gives con_of (locally is_big then_gives symbol is_colon then_gives outside.typing) (λ a r. r.1.1)

  cons_hold : Holds (Cons pass top inner) (Each WrittenCon)
  cons_hold =
      perhaps_gives [] tt (made_gives cons_of
      (con_holds then_gives each_of_run _ _ _ _
      (λ n. made_gives next_con_of
      (symbol is_next then_gives up_to pass quantity.Constructors n con_holds) (λ a r. r.1)) 1)
      (λ a r. (r.0, r.1)))

  family_holds : Holds (IsFamily pass top inner) WrittenItem
  family_holds =
      made_gives family_of (symbol is_data then_gives locally is_big then_gives
      counted pass quantity.Parts 0 (IsParam pass top inner) param_holds then_gives symbol is_colon then_gives
      outside.expr false then_gives symbol is_where then_gives symbol is_open then_gives cons_hold then_gives symbol
      is_close)
      (λ a r. written_family a.1.1.0 a.1.1.1.1.0 a.1.1.1.1.1.1.1.0 r.1.1.0 r.1.1.1.1.0 r.1.1.1.1.1.1.1.0)

  -- ---- signatures and clauses

  partial_holds : Holds (Partial pass top inner) WrittenItem
  partial_holds =
      made_gives partial_of (symbol is_partial then_gives perhaps_gives {R = Any} None tt
      (made_gives Some (symbol is_next) (λ a r. tt)) then_gives zero_mark then_gives locally is_simple then_gives
      symbol is_colon then_gives outside.typing)
      (λ a r. r.1.1.1.1.1)

  erased_holds : Holds (Erased pass top inner) WrittenItem
  erased_holds = made_gives erased_of
      (symbol is_zero then_gives locally is_simple then_gives symbol is_colon then_gives outside.typing)
      (λ a r. r.1.1.1)

  signing_holds : (n : Local) → Holds (Signing pass top inner n) WrittenItem
  signing_holds n = made_gives (signature_of n) (symbol is_colon then_gives outside.typing) (λ a r. r.1)

  equation_holds : (n : Local) → Holds (Equation pass top inner n) WrittenItem
  equation_holds n =
      made_gives (clause_of n) (counted pass quantity.Parts 0 top.pattern outside.pattern then_gives symbol is_equals
      then_gives outside.expr true)
      (λ a r. written_clause a.0 a.1.1 r.0 r.1.1)

  clause_holds : (at : Place) (n : Local) → Holds (Clause pass top inner at n) WrittenItem
  clause_holds at n =
      capped (λ x. one_above quantity.Clauses n.span) (is_full pass quantity.Clauses (clauses_before at n.name))
      (equation_holds n)

  defining_holds : (at : Place) → Holds (Defining pass top inner at) WrittenItem
  defining_holds at = made_gives second
      (chain_gives {S = λ n c. WrittenItem c} (λ n. Signing pass top inner n or Clause pass top inner at n)
      (locally is_simple) (λ n r. signing_holds n or_gives clause_holds at n)) (λ a r. r.1)

  item_holds : (at : Place) → Holds (IsItem pass top inner at) WrittenItem
  item_holds at = family_holds or_gives partial_holds or_gives erased_holds or_gives defining_holds at

  -- ---- modules

  abbrev WrittenEntry : Entry → Type 0
  WrittenEntry (imported j) = Unit {0}
  WrittenEntry (listed i) = WrittenItem i

  entry_holds : (at : Place) → Holds (IsEntry pass top inner at) WrittenEntry
  entry_holds at =
      made_gives second (symbol is_next then_gives
      (made_gives {S = WrittenEntry} import_of
      (token_gives {R = Any} (opens at.at_imports (of is_import)) place (λ x f e. tt) then_gives locally is_name)
      (λ a r. tt) or_gives made_gives {S = WrittenEntry} listed (up_to pass quantity.Items at.items (item_holds at))
      (λ a r. r)))
      (λ a r. r.1)

  written_items : (es : List Entry) → Each WrittenEntry es → Each WrittenItem (items_of es)
  written_items [] e = tt
  written_items (imported j ∷ more) e = written_items more e.1
  written_items (listed i ∷ more) e = (e.0, written_items more e.1)

  pub module_holds : Holds (IsModule pass top inner) IsWritten
  module_holds =
      made_gives module_of (symbol is_open then_gives symbol is_module then_gives locally is_name then_gives
      each_of_run {R = WrittenEntry} (λ _. true) (λ _. true) next_place _ entry_holds start then_gives symbol is_close)
      (λ a r. none_weighs (weighed_item misplaced inserted) (items_of a.1.1.1.0) (written_items a.1.1.1.0 r.1.1.1.0))

any_lexemes : (ls : List Lexeme) → Each (λ (x : Lexeme). Unit {0}) ls
any_lexemes [] = tt
any_lexemes (x ∷ ls) = (tt, any_lexemes ls)

pub written_text : (pass : Pass) (ls : List Lexeme) (t : Module) → IsText pass ls t None → IsWritten t
unfolding IsText
written_text pass ls t h =
    (module_holds pass (levels pass 200) (levels pass 199) (levels_hold pass 200) (levels_hold pass 199)).at ls t
    (any_lexemes ls) h
