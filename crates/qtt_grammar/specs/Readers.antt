-- Reading the grammar.
use Rattle.std.specs.Prelude.{ℕ, zero, suc, Bool, true, false, cond, ◌&&◌, ◌||◌, List, [], ◌∷◌, Option, Some, None}
use Rattle.qtt_base.specs.declared.place.Span.{Span}
use Rattle.qtt_base.specs.declared.limits.Quantity.{Quantity}
use Rattle.qtt_base.specs.declared.limits.Quantity.TheVariants as quantity
use Rattle.qtt_usage.specs.declared.mult.Mult.{Mult}
use Rattle.qtt_usage.specs.declared.mult.Mult.TheVariants as mult
use Rattle.qtt_syntax.specs.declared.expr.Local.{Local}
use Rattle.qtt_syntax.specs.Tree as tree
use Rattle.qtt_syntax.specs.Tree.{Tree, Annotation, Binder, Statement, Shape, Param, Con, Item, Module}
use Rattle.qtt_syntax.specs.Tree.Tree.{name, hole}
use Rattle.qtt_syntax.specs.Tree.Annotation.{untyped}
use Rattle.qtt_syntax.specs.Tree.Binder.{plain}
use Rattle.qtt_phrase.specs.Phrase.{opens}
use Rattle.qtt_phrase.specs.Reading.{Kind, Reader, token_at, chain_at, then_at, making_at, begins, either_at, perhaps_at, all_at, many_at, counted_at, opening_at, placed_at, cap_at}
use Rattle.qtt_phrase.specs.Reading.Kind.{unexpected, too_deep}
use Rattle.qtt_grammar.specs.declared.class.Class.{Class}
use Rattle.qtt_grammar.specs.declared.class.Class.TheVariants as class
use Rattle.qtt_grammar.specs.declared.class.Pass.{Pass}
use Rattle.qtt_grammar.specs.Classes.{is_open, is_next, is_close, is_module, is_import, is_data, is_where, is_do, is_let, is_in, is_partial, is_the, is_zero, is_hole, is_left_paren, is_right_paren, is_dot_paren, is_arrow, is_left_arrow, is_fat_arrow, is_colon, is_equals, is_backslash, is_left_brace, is_right_brace, is_wildcard, is_name, is_simple, is_big, is_constructor, is_bname, is_digit, is_word, is_pattern_word, starts_atom, starts_binder, starts_pattern, starts_item}
use Rattle.qtt_grammar.specs.declared.lexeme.Lexeme.{Lexeme}
use Rattle.qtt_grammar.specs.declared.stop.Excess.{Excess}
use Rattle.qtt_grammar.specs.Limits.{is_full, one_above, excess_of}
use Rattle.qtt_grammar.specs.Grammar.{of, place, local_of, named_of, mult_of, word_of, pattern_word, typed_of, lambda_of, annotation_of, LetParts, let_parts, let_of, after_in, let_statement_of, bind_of, run_of, next_of, do_of, bracket_of, braced_of, written_of, the_of, named_app_of, other_app_of, behind_of, arrow_of, pi_of, implicit_of, standing_of, Line, may_end, may_go, next_line, group_of, nested_of, bracketed_of, dot_of, bare_of, Place, start, Entry, listed, clauses_before, next_place, param_of, con_of, next_con_of, cons_of, family_of, partial_of, erased_of, signature_of, clause_of, second, import_of, module_of}

abbrev pub Reads : Type 0 → Type 0
Reads A = Reader Lexeme Excess A

abbrev pub symbol_at : (Class → Bool) → Reads Span
symbol_at is = token_at (λ _. None) (of is) place

abbrev pub opener_at : Bool → (Class → Bool) → Reads Span
opener_at may is = opening_at may (of is) place

abbrev pub local_at : (Class → Bool) → Reads Local
local_at is = token_at (λ _. None) (of is) local_of

unfoldable pub mark_at : Reads Mult
mark_at = perhaps_at (of is_digit) mult.Many (token_at (λ _. None) (of is_digit) (λ x. mult_of x.class))

-- a Next, where one stands
abbrev pub next_at : Reads (Option Span)
next_at = perhaps_at (of is_next) None (making_at Some (symbol_at is_next))

unfoldable pub zero_at : Reads Mult
zero_at = perhaps_at (of is_zero) mult.Many (token_at (λ _. None) (of is_zero) (λ x. mult_of x.class))

abbrev pub up_to_at : {A : Type 0} → Pass → Quantity → (Lexeme → Bool) → (Lexeme → Kind) → Reads A → ℕ → Reads A
up_to_at pass q is kind p n = cond (is_full pass q n) (cap_at is kind (λ x. one_above q x.place)) p

-- ---- a binder against an expression in brackets

-- a name and ":", or "_", which no expression begins with
abbrev pub named_binder : List Lexeme → Bool
named_binder [] = false
named_binder (x ∷ []) = of is_wildcard x
named_binder (x ∷ y ∷ ls) = of is_wildcard x || (of is_simple x && of is_colon y)

abbrev pub marked_binder : List Lexeme → Bool
marked_binder [] = false
marked_binder (x ∷ ls) = cond (of is_digit x) (named_binder ls) (named_binder (x ∷ ls))

abbrev pub begins_binder : List Lexeme → Bool
begins_binder [] = false
begins_binder (x ∷ ls) = of is_left_paren x && marked_binder ls

-- a name and "<-", or "_"
abbrev pub begins_bind : List Lexeme → Bool
begins_bind [] = false
begins_bind (x ∷ []) = of is_wildcard x
begins_bind (x ∷ y ∷ ls) = of is_wildcard x || (of is_simple x && of is_left_arrow y)

-- ---- nesting levels

pub record LevelReader : Type 0 where
  pub expr : Bool → Reads Tree
  pub statement : Bool → Reads Statement
  pub typing : Reads Tree
  pub binder : Reads Binder
  pub pattern : Reads Shape
  pub other_pattern : Reads Shape
  -- the tokens with which a statement and a pattern begin, and why another one is bad
  pub starts_statement : Bool → Lexeme → Bool
  pub bad_statement : Lexeme → Kind
  pub starts_pattern : Lexeme → Bool
  pub bad_pattern : Lexeme → Kind

-- what begins a statement where another level may open, or where none may
abbrev pub statement_starts : Bool → Bool → Class → Bool
statement_starts may tail class.Backslash = may
statement_starts may tail class.Let = may
statement_starts may tail class.Do = may
statement_starts may tail class.LeftParen = may
statement_starts may tail class.Hole = tail
statement_starts may tail class.The = true
statement_starts may tail class.Wildcard = true
statement_starts may tail c = starts_atom c

abbrev pub bad_start : Bool → Class → Kind
bad_start false class.Backslash = too_deep
bad_start false class.Let = too_deep
bad_start false class.Do = too_deep
bad_start false class.LeftParen = too_deep
bad_start may c = unexpected

abbrev pub pattern_starts : Bool → Class → Bool
pattern_starts may class.LeftParen = may
pattern_starts may class.DotParen = may
pattern_starts may c = starts_pattern c

abbrev pub bad_pattern_start : Bool → Class → Kind
bad_pattern_start false class.LeftParen = too_deep
bad_pattern_start false class.DotParen = too_deep
bad_pattern_start may c = unexpected

-- a pattern of a level, before which there are so many
abbrev pub one_pattern_at : Pass → LevelReader → ℕ → Reads Shape
one_pattern_at pass level = up_to_at pass quantity.Parts level.starts_pattern level.bad_pattern level.pattern

module _ (pass : Pass) (may : Bool) (inner : LevelReader) where
  unfoldable pub typed_at : Reads Binder
  typed_at = making_at typed_of
      (then_at (opener_at may is_left_paren)
      (then_at mark_at (then_at (local_at is_bname)
      (then_at (symbol_at is_colon) (then_at (inner.expr false) (symbol_at is_right_paren))))))

  unfoldable pub binder_at : Reads Binder
  binder_at = either_at (begins (of is_bname)) (making_at plain (local_at is_bname)) typed_at

  unfoldable pub lambda_at : Bool → Reads Tree
  lambda_at tail = making_at lambda_of
      (then_at (opener_at may is_backslash)
      (then_at (then_at inner.binder (many_at (of starts_binder) inner.binder))
      (then_at (symbol_at is_fat_arrow) (inner.expr tail))))

  unfoldable pub annotation_at : Reads Annotation
  annotation_at = perhaps_at (of is_colon) untyped
      (making_at annotation_of (then_at (symbol_at is_colon) (inner.expr false)))

  unfoldable pub let_head_at : Reads LetParts
  let_head_at = making_at let_parts
      (then_at (opener_at may is_let)
      (then_at mark_at (then_at (local_at is_bname)
      (then_at annotation_at (then_at (symbol_at is_equals) (inner.expr false))))))

  unfoldable pub letting_at : Bool → Reads Tree
  letting_at tail = making_at let_of (then_at let_head_at (then_at (symbol_at is_in) (inner.expr tail)))

  unfoldable pub line_at : Bool → Line → Reads Statement
  line_at tail l = making_at next_of
      (then_at (symbol_at is_next)
      (up_to_at pass quantity.Statements (inner.starts_statement tail) inner.bad_statement
      (inner.statement tail) l.0))

  unfoldable pub lines_at : Bool → Line → Reads (List Statement)
  lines_at tail = all_at may_end may_go next_line (λ _. of is_next) (line_at tail)

  abbrev pub block_at : Bool → Reads (Statement × List Statement)
  block_at tail = chain_at (inner.statement tail) (λ s. lines_at tail (1, standing_of s))

  unfoldable pub doing_at : Bool → Reads Tree
  doing_at tail = making_at do_of
      (then_at (opener_at may is_do) (then_at (symbol_at is_open) (then_at (block_at tail) (symbol_at is_close))))

  unfoldable pub bracket_at : Reads Tree
  bracket_at = making_at bracket_of
      (then_at (opener_at may is_left_paren) (then_at (inner.expr false) (symbol_at is_right_paren)))

  unfoldable pub other_atom_at : Reads Tree
  other_atom_at = either_at (begins (of is_word))
      (token_at (excess_of pass) (of is_word) (λ x. word_of x.class x)) bracket_at

  unfoldable pub atom_at : Reads Tree
  atom_at = either_at (begins (of is_name)) (making_at name (token_at (λ _. None) (of is_name) named_of)) other_atom_at

  unfoldable pub atoms_at : Reads (List tree.Argument)
  atoms_at = many_at (of starts_atom) (making_at written_of atom_at)

  unfoldable pub brace_at : Reads tree.Argument
  brace_at = making_at braced_of
      (then_at (opener_at may is_left_brace) (then_at (inner.expr false) (symbol_at is_right_brace)))

  unfoldable pub the_at : Reads Tree
  the_at = making_at the_of (then_at (symbol_at is_the) (then_at atom_at atom_at))

  unfoldable pub named_app_at : Reads Tree
  named_app_at = making_at named_app_of
      (then_at (token_at (λ _. None) (of is_name) named_of)
      (then_at (many_at (of is_left_brace) brace_at) atoms_at))

  unfoldable pub other_app_at : Reads Tree
  other_app_at = making_at other_app_of (placed_at place (then_at other_atom_at atoms_at))

  unfoldable pub app_at : Reads Tree
  app_at = either_at (begins (of is_the)) the_at (either_at (begins (of is_name)) named_app_at other_app_at)

  abbrev pub codomain_at : Reads (Option Tree)
  codomain_at = perhaps_at (of is_arrow) None
      (making_at behind_of (then_at (opener_at may is_arrow) (inner.expr false)))

  unfoldable pub arrow_at : Reads Tree
  arrow_at = making_at arrow_of (then_at (placed_at place app_at) codomain_at)

  unfoldable pub pi_at : Reads Tree
  pi_at = making_at pi_of (then_at typed_at (then_at (opener_at may is_arrow) (inner.expr false)))

  unfoldable pub hole_at : Bool → Reads Tree
  hole_at tail = token_at (λ _. None) (opens tail (of is_hole)) (λ x. hole x.name x.place)

  unfoldable pub other_expr_at : Bool → Reads Tree
  other_expr_at tail = either_at (begins (of is_hole)) (hole_at tail)
      (either_at (begins (of is_backslash)) (lambda_at tail)
      (either_at (begins (of is_do)) (doing_at tail) (either_at begins_binder pi_at arrow_at)))

  unfoldable pub expr_at : Bool → Reads Tree
  expr_at tail = either_at (begins (of is_let)) (letting_at tail) (other_expr_at tail)

  abbrev pub body_at : Bool → Reads (Option Tree)
  body_at tail = perhaps_at (of is_in) None (making_at after_in (then_at (symbol_at is_in) (inner.expr tail)))

  unfoldable pub let_statement_at : Bool → Reads Statement
  let_statement_at tail = making_at let_statement_of (then_at let_head_at (body_at tail))

  unfoldable pub binding_at : Reads Statement
  binding_at = making_at bind_of (then_at (local_at is_bname) (then_at (symbol_at is_left_arrow) (expr_at false)))

  unfoldable pub statement_at : Bool → Reads Statement
  statement_at tail = either_at (begins (of is_let)) (let_statement_at tail)
      (either_at begins_bind binding_at (making_at run_of (placed_at place (other_expr_at tail))))

  unfoldable pub implicit_at : Reads Tree
  implicit_at = making_at implicit_of
      (then_at (opener_at may is_left_brace)
      (then_at (token_at (λ _. None) (of is_zero) (λ x. mult_of x.class))
      (then_at (local_at is_simple)
      (then_at (symbol_at is_colon)
      (then_at (inner.expr false)
      (then_at (symbol_at is_right_brace) (then_at (opener_at may is_arrow) inner.typing)))))))

  unfoldable pub typing_at : Reads Tree
  typing_at = either_at (begins (of is_left_brace)) implicit_at (expr_at false)

  unfoldable pub patterns_at : ℕ → Reads (List Shape)
  patterns_at = counted_at (λ n _. suc n) (of starts_pattern) (one_pattern_at pass inner)

  unfoldable pub inside_at : Reads (Span → Shape)
  inside_at = either_at (begins (of is_constructor))
      (making_at group_of (then_at (token_at (λ _. None) (of is_constructor) named_of) (patterns_at 0)))
      (making_at nested_of inner.other_pattern)

  unfoldable pub bracketed_at : Reads Shape
  bracketed_at = making_at bracketed_of
      (then_at (opener_at may is_left_paren) (then_at inside_at (symbol_at is_right_paren)))

  unfoldable pub dot_at : Reads Shape
  dot_at = making_at dot_of
      (then_at (opener_at may is_dot_paren) (then_at (inner.expr false) (symbol_at is_right_paren)))

  unfoldable pub other_pattern_at : Reads Shape
  other_pattern_at = either_at (begins (of is_pattern_word))
      (token_at (λ _. None) (of is_pattern_word) (λ x. pattern_word x.class x))
      (either_at (begins (of is_dot_paren)) dot_at bracketed_at)

  unfoldable pub pattern_at : Reads Shape
  pattern_at = either_at (begins (of is_constructor))
      (making_at bare_of (token_at (λ _. None) (of is_constructor) named_of)) other_pattern_at

  abbrev pub level_at : LevelReader
  level_at = record {
    expr = expr_at;
    statement = statement_at;
    typing = typing_at;
    binder = binder_at;
    pattern = pattern_at;
    other_pattern = other_pattern_at;
    starts_statement = λ tail x. statement_starts may tail x.class;
    bad_statement = λ x. bad_start may x.class;
    starts_pattern = λ x. pattern_starts may x.class;
    bad_pattern = λ x. bad_pattern_start may x.class;
  }

abbrev pub simple_reader : LevelReader
simple_reader = record {
  expr = λ _. making_at name (token_at (λ _. None) (of is_name) named_of);
  statement = λ _. making_at run_of (placed_at place (making_at name (token_at (λ _. None) (of is_name) named_of)));
  typing = making_at name (token_at (λ _. None) (of is_name) named_of);
  binder = making_at plain (local_at is_bname);
  pattern = token_at (λ _. None) (of is_pattern_word) (λ x. pattern_word x.class x);
  other_pattern = token_at (λ _. None) (of is_pattern_word) (λ x. pattern_word x.class x);
  starts_statement = λ _. of is_name;
  bad_statement = λ x. unexpected;
  starts_pattern = of is_pattern_word;
  bad_pattern = λ x. unexpected;
}

unfoldable pub levels_at : Pass → ℕ → LevelReader
levels_at pass zero = level_at pass false simple_reader
levels_at pass (suc d) = level_at pass true (levels_at pass d)

-- ---- items

abbrev pub starts_equation : Class → Bool
starts_equation class.Equals = true
starts_equation c = starts_pattern c

module _ (pass : Pass) (top inner : LevelReader) where
  unfoldable pub param_at : Reads Param
  param_at = making_at param_of
      (then_at (opener_at true is_left_paren)
      (then_at zero_at (then_at (local_at is_simple)
      (then_at (symbol_at is_colon) (then_at (inner.expr false) (symbol_at is_right_paren))))))

  unfoldable pub params_at : ℕ → Reads (List Param)
  params_at = counted_at (λ n _. suc n) (of is_left_paren)
      (up_to_at pass quantity.Parts (of is_left_paren) (λ _. unexpected) param_at)

  unfoldable pub con_at : Reads Con
  con_at = making_at con_of (then_at (local_at is_big) (then_at (symbol_at is_colon) top.typing))

  unfoldable pub next_con_at : ℕ → Reads Con
  next_con_at n = making_at next_con_of
      (then_at (symbol_at is_next) (up_to_at pass quantity.Constructors (of is_big) (λ _. unexpected) con_at n))

  unfoldable pub more_cons_at : ℕ → Reads (List Con)
  more_cons_at = counted_at (λ n _. suc n) (of is_next) next_con_at

  unfoldable pub cons_at : Reads (List Con)
  cons_at = perhaps_at (of is_big) [] (making_at cons_of (then_at con_at (more_cons_at 1)))

  unfoldable pub family_at : Reads Item
  family_at = making_at family_of
      (then_at (symbol_at is_data)
      (then_at (local_at is_big)
      (then_at (params_at 0)
      (then_at (symbol_at is_colon)
      (then_at (top.expr false)
      (then_at (symbol_at is_where) (then_at (symbol_at is_open) (then_at cons_at (symbol_at is_close)))))))))

  unfoldable pub partial_at : Reads Item
  partial_at = making_at partial_of
      (then_at (symbol_at is_partial)
      (then_at next_at (then_at zero_at
      (then_at (local_at is_simple) (then_at (symbol_at is_colon) top.typing)))))

  unfoldable pub erased_at : Reads Item
  erased_at = making_at erased_of
      (then_at (symbol_at is_zero) (then_at (local_at is_simple) (then_at (symbol_at is_colon) top.typing)))

  unfoldable pub signing_at : Local → Reads Item
  signing_at n = making_at (signature_of n) (then_at (symbol_at is_colon) top.typing)

  unfoldable pub clause_patterns_at : ℕ → Reads (List Shape)
  clause_patterns_at = counted_at (λ n _. suc n) (of starts_pattern) (one_pattern_at pass top)

  unfoldable pub equation_at : Local → Reads Item
  equation_at n = making_at (clause_of n)
      (then_at (clause_patterns_at 0) (then_at (symbol_at is_equals) (top.expr true)))

  unfoldable pub clause_at : Place → Local → Reads Item
  clause_at at n = cond (is_full pass quantity.Clauses (clauses_before at n.name))
      (cap_at (of starts_equation) (λ _. unexpected) (λ _. one_above quantity.Clauses n.span)) (equation_at n)

  unfoldable pub defining_at : Place → Reads Item
  defining_at at = making_at second
      (chain_at (local_at is_simple) (λ n. either_at (begins (of is_colon)) (signing_at n) (clause_at at n)))

  unfoldable pub item_at : Place → Reads Item
  item_at at = either_at (begins (of is_data)) family_at
      (either_at (begins (of is_partial)) partial_at (either_at (begins (of is_zero)) erased_at (defining_at at)))

  unfoldable pub import_at : Place → Reads Entry
  import_at at = making_at import_of
      (then_at (token_at (λ _. None) (opens at.at_imports (of is_import)) place) (local_at is_name))

  unfoldable pub entry_at : Place → Reads Entry
  entry_at at = making_at second
      (then_at (symbol_at is_next)
      (either_at (begins (of is_import)) (import_at at)
      (making_at listed (up_to_at pass quantity.Items (of starts_item) (λ _. unexpected) (item_at at) at.items))))

  unfoldable pub entries_at : Place → Reads (List Entry)
  entries_at = counted_at next_place (of is_next) entry_at

  unfoldable pub module_at : Reads Module
  module_at = making_at module_of
      (then_at (symbol_at is_open)
      (then_at (symbol_at is_module)
      (then_at (local_at is_name) (then_at (entries_at start) (symbol_at is_close)))))

unfoldable pub text_at : Pass → Reads Module
text_at pass = module_at pass (levels_at pass 200) (levels_at pass 199)
