-- With one more nesting level a text is read the same, but where a level was refused, and there it is read
-- further.
use Rattle.std.proofs.Common.{◌≡◌, ℕ, zero, suc, ◌≤◌, Bool, true, false, cond, ◌||◌, List, [], ◌∷◌, ◌++◌, length, Some, None, refl, arith}
use Rattle.qtt_base.specs.declared.place.Span.{Span}
use Rattle.qtt_base.specs.declared.limits.Quantity.{Quantity}
use Rattle.qtt_base.specs.declared.limits.Quantity.TheVariants as quantity
use Rattle.qtt_usage.specs.declared.mult.Mult.TheVariants as mult
use Rattle.qtt_syntax.specs.declared.expr.Local.{Local}
use Rattle.qtt_syntax.specs.Tree.{Item}
use Rattle.qtt_syntax.specs.Tree.Tree.{name, hole}
use Rattle.qtt_syntax.specs.Tree.Annotation.{untyped}
use Rattle.qtt_syntax.specs.Tree.Binder.{plain}
use Rattle.qtt_phrase.specs.Phrase.{opens}
use Rattle.qtt_phrase.specs.Reading.{Kind, Read, begins, then_at, many_at, counted_at, cap_at}
use Rattle.qtt_phrase.specs.Reading.Kind.{unexpected, too_deep}
use Rattle.qtt_phrase.specs.Reading.Read.{got, bad, over}
use Rattle.qtt_phrase.proofs.Chained.{Exact}
use Rattle.qtt_phrase.proofs.Deeper.{left_of, Deepens, CapGrows}
use Rattle.qtt_grammar.specs.declared.class.Class.{Class}
use Rattle.qtt_grammar.specs.declared.class.Pass.{Pass}
use Rattle.qtt_grammar.specs.declared.lexeme.Lexeme.{Lexeme}
use Rattle.qtt_grammar.specs.Classes.{is_open, is_next, is_close, is_module, is_import, is_data, is_where, is_do, is_let, is_in, is_partial, is_the, is_zero, is_hole, is_left_paren, is_right_paren, is_dot_paren, is_arrow, is_left_arrow, is_fat_arrow, is_colon, is_equals, is_backslash, is_left_brace, is_right_brace, is_name, is_simple, is_big, is_constructor, is_bname, is_digit, is_word, is_pattern_word, starts_atom, starts_binder, starts_pattern, starts_item}
use Rattle.qtt_grammar.specs.Limits.{is_full, one_above, excess_of}
use Rattle.qtt_grammar.specs.declared.stop.Excess.{Excess}
use Rattle.qtt_grammar.specs.Grammar.{Says, of, place, local_of, named_of, mult_of, word_of, pattern_word, typed_of, lambda_of, annotation_of, let_parts, let_of, after_in, let_statement_of, bind_of, run_of, next_of, do_of, bracket_of, braced_of, written_of, the_of, named_app_of, other_app_of, behind_of, arrow_of, pi_of, implicit_of, standing_of, Line, may_end, may_go, next_line, group_of, nested_of, bracketed_of, dot_of, bare_of, Place, start, listed, clauses_before, next_place, param_of, con_of, next_con_of, cons_of, family_of, partial_of, erased_of, signature_of, clause_of, second, import_of, module_of}
use Rattle.qtt_grammar.specs.Readers.{Reads, LevelReader, symbol_at, local_at, mark_at, zero_at, up_to_at, begins_binder, begins_bind, statement_starts, bad_start, pattern_starts, bad_pattern_start, typed_at, binder_at, lambda_at, annotation_at, let_head_at, letting_at, line_at, lines_at, doing_at, bracket_at, other_atom_at, atom_at, atoms_at, brace_at, the_at, named_app_at, other_app_at, app_at, arrow_at, pi_at, hole_at, other_expr_at, expr_at, let_statement_at, binding_at, statement_at, implicit_at, typing_at, patterns_at, inside_at, bracketed_at, dot_at, other_pattern_at, pattern_at, level_at, levels_at, simple_reader, starts_equation, param_at, params_at, con_at, next_con_at, more_cons_at, cons_at, family_at, partial_at, erased_at, signing_at, clause_patterns_at, equation_at, clause_at, defining_at, item_at, import_at, entry_at, entries_at, module_at, text_at}
use Rattle.qtt_grammar.proofs.Deeper.{Keeps, Deep, chain, ◌andthen◌, making, either, perhaps, all, token, symbol, placed, capped, opened, behind}
use Rattle.qtt_grammar.proofs.Decide.{each, implies, implied, not, refuted, among}
use Rattle.qtt_grammar.proofs.Inners.{levels_inner}

-- the readers of a level against those of one inside which more may open
pub record LevelDeep (may : Bool) (R S : LevelReader) : Type 0 where
  pub expr : (tail : Bool) → Deep may (R.expr tail) (S.expr tail)
  pub statement : (tail : Bool) → Deep may (R.statement tail) (S.statement tail)
  pub typing : Deep may R.typing S.typing
  pub binder : Deep may R.binder S.binder
  pub pattern : Deep may R.pattern S.pattern
  pub other_pattern : Deep may R.other_pattern S.other_pattern
  pub statements_grow : may ≡ true →
      (tail : Bool) → CapGrows (R.starts_statement tail) (S.starts_statement tail) R.bad_statement S.bad_statement
  pub patterns_grow : may ≡ true → CapGrows R.starts_pattern S.starts_pattern R.bad_pattern S.bad_pattern

mark : {may : Bool} → Deep may mark_at mark_at
unfolding mark_at
mark = perhaps (of is_digit) mult.Many (token (λ _. None) (of is_digit) (λ x. mult_of x.class))

zero_mark : {may : Bool} → Deep may zero_at zero_at
unfolding zero_at
zero_mark = perhaps (of is_zero) mult.Many (token (λ _. None) (of is_zero) (λ x. mult_of x.class))

local : {may : Bool} → (is : Class → Bool) → Deep may (local_at is) (local_at is)
local is = token (λ _. None) (of is) local_of

many : {may : Bool} {A : Type 0} {p q : Reads A} (test : Lexeme → Bool) → Deep may p q →
    Deep may (many_at test p) (many_at test q)
many test d = all {S = Unit {0}} (λ _. true) (λ _. true) (λ _ _. tt) (λ _. test) (λ _. d) tt

counted : {may : Bool} {A S : Type 0} {p q : S → Reads A} (next : S → A → S) (test : Lexeme → Bool) →
    ((s : S) → Deep may (p s) (q s)) → (s : S) → Deep may (counted_at next test p s) (counted_at next test q s)
counted next test d s = all (λ _. true) (λ _. true) next (λ _. test) d s

up_to_case : {A : Type 0} (may b : Bool) (q : Quantity) {is is2 : Lexeme → Bool} {kind kind2 : Lexeme → Kind}
    {p p2 : Reads A} → (may ≡ true → CapGrows is is2 kind kind2) → Deep may p p2 →
    Deep may (cond b (cap_at is kind (λ x. one_above q x.place)) p)
    (cond b (cap_at is2 kind2 (λ x. one_above q x.place)) p2)
up_to_case {A} may true q c d = capped A (λ x. one_above q x.place) c
up_to_case may false q c d = d

up_to : {A : Type 0} {may : Bool} (pass : Pass) (q : Quantity)
    (n : ℕ) {is is2 : Lexeme → Bool} {kind kind2 : Lexeme → Kind} {p p2 : Reads A} →
    (may ≡ true → CapGrows is is2 kind kind2) → Deep may p p2 →
    Deep may (up_to_at pass q is kind p n) (up_to_at pass q is2 kind2 p2 n)
up_to {may} pass q n c d = up_to_case may (is_full pass q n) q c d

-- ---- a level

module _ (pass : Pass) (may : Bool) (R S : LevelReader) (d : LevelDeep may R S) where
  typed : {o : Bool} → Deep o (typed_at pass may R) (typed_at pass true S)
  unfolding typed_at
  typed = making typed_of (opened _ may is_left_paren
      (mark andthen (local is_bname andthen
      (symbol is_colon andthen (d.expr false andthen symbol is_right_paren)))))

  a_binder : {o : Bool} → Deep o (binder_at pass may R) (binder_at pass true S)
  unfolding binder_at
  a_binder = either (begins (of is_bname)) (making plain (local is_bname)) typed

  lambda : {o : Bool} (tail : Bool) → Deep o (lambda_at pass may R tail) (lambda_at pass true S tail)
  unfolding lambda_at
  lambda tail = making lambda_of
      (opened _ may is_backslash
      ((d.binder andthen many (of starts_binder) d.binder) andthen (symbol is_fat_arrow andthen d.expr tail)))

  annotation : Deep may (annotation_at pass may R) (annotation_at pass true S)
  unfolding annotation_at
  annotation = perhaps (of is_colon) untyped (making annotation_of (symbol is_colon andthen d.expr false))

  -- what stands behind the `let`
  let_rest : Deep may (then_at mark_at
      (then_at (local_at is_bname)
      (then_at (annotation_at pass may R) (then_at (symbol_at is_equals) (R.expr false)))))
      (then_at mark_at (then_at (local_at is_bname)
      (then_at (annotation_at pass true S) (then_at (symbol_at is_equals) (S.expr false)))))
  let_rest = mark andthen (local is_bname andthen (annotation andthen (symbol is_equals andthen d.expr false)))

  letting : {o : Bool} (tail : Bool) → Deep o (letting_at pass may R tail) (letting_at pass true S tail)
  unfolding letting_at let_head_at
  letting tail = making let_of (behind _ may is_let let_parts let_rest (symbol is_in andthen d.expr tail))

  line : (tail : Bool) (l : Line) → Deep may (line_at pass may R tail l) (line_at pass true S tail l)
  unfolding line_at
  line tail l = making next_of
      (symbol is_next andthen up_to pass quantity.Statements l.0 (λ e. d.statements_grow e tail)
      (d.statement tail))

  lines : (tail : Bool) (l : Line) → Deep may (lines_at pass may R tail l) (lines_at pass true S tail l)
  unfolding lines_at
  lines tail l = all may_end may_go next_line (λ _. of is_next) (line tail) l

  doing : {o : Bool} (tail : Bool) → Deep o (doing_at pass may R tail) (doing_at pass true S tail)
  unfolding doing_at
  doing tail = making do_of
      (opened _ may is_do (symbol is_open andthen
      (chain (d.statement tail) (λ s. lines tail (1, standing_of s)) andthen symbol is_close)))

  bracket : {o : Bool} → Deep o (bracket_at pass may R) (bracket_at pass true S)
  unfolding bracket_at
  bracket = making bracket_of (opened _ may is_left_paren (d.expr false andthen symbol is_right_paren))

  other_atom : {o : Bool} → Deep o (other_atom_at pass may R) (other_atom_at pass true S)
  unfolding other_atom_at
  other_atom = either (begins (of is_word)) (token (excess_of pass) (of is_word) (λ x. word_of x.class x)) bracket

  atom : {o : Bool} → Deep o (atom_at pass may R) (atom_at pass true S)
  unfolding atom_at
  atom = either (begins (of is_name)) (making name (token (λ _. None) (of is_name) named_of)) other_atom

  atoms : {o : Bool} → Deep o (atoms_at pass may R) (atoms_at pass true S)
  unfolding atoms_at
  atoms = many (of starts_atom) (making written_of atom)

  brace : {o : Bool} → Deep o (brace_at pass may R) (brace_at pass true S)
  unfolding brace_at
  brace = making braced_of (opened _ may is_left_brace (d.expr false andthen symbol is_right_brace))

  the : {o : Bool} → Deep o (the_at pass may R) (the_at pass true S)
  unfolding the_at
  the = making the_of (symbol is_the andthen (atom andthen atom))

  named_app : {o : Bool} → Deep o (named_app_at pass may R) (named_app_at pass true S)
  unfolding named_app_at
  named_app = making named_app_of
      (token (λ _. None) (of is_name) named_of andthen (many (of is_left_brace) brace andthen atoms))

  other_app : {o : Bool} → Deep o (other_app_at pass may R) (other_app_at pass true S)
  unfolding other_app_at
  other_app = making other_app_of (placed (other_atom andthen atoms))

  app : {o : Bool} → Deep o (app_at pass may R) (app_at pass true S)
  unfolding app_at
  app = either (begins (of is_the)) the (either (begins (of is_name)) named_app other_app)

  arrow : {o : Bool} → Deep o (arrow_at pass may R) (arrow_at pass true S)
  unfolding arrow_at
  arrow = making arrow_of (placed app andthen perhaps (of is_arrow) None
      (making behind_of (opened _ may is_arrow (d.expr false))))

  pi : {o : Bool} → Deep o (pi_at pass may R) (pi_at pass true S)
  unfolding pi_at
  pi = making pi_of (typed andthen opened _ may is_arrow (d.expr false))

  a_hole : {o : Bool} (tail : Bool) → Deep o (hole_at pass may R tail) (hole_at pass true S tail)
  unfolding hole_at
  a_hole tail = token (λ _. None) (opens tail (of is_hole)) (λ x. hole x.name x.place)

  other_expr : {o : Bool} (tail : Bool) → Deep o (other_expr_at pass may R tail) (other_expr_at pass true S tail)
  unfolding other_expr_at
  other_expr tail = either (begins (of is_hole)) (a_hole tail)
      (either (begins (of is_backslash)) (lambda tail)
      (either (begins (of is_do)) (doing tail) (either begins_binder pi arrow)))

  an_expr : {o : Bool} (tail : Bool) → Deep o (expr_at pass may R tail) (expr_at pass true S tail)
  unfolding expr_at
  an_expr tail = either (begins (of is_let)) (letting tail) (other_expr tail)

  let_statement : {o : Bool} (tail : Bool) →
      Deep o (let_statement_at pass may R tail) (let_statement_at pass true S tail)
  unfolding let_statement_at let_head_at
  let_statement tail = making let_statement_of
      (behind _ may is_let let_parts let_rest
      (perhaps (of is_in) None (making after_in (symbol is_in andthen d.expr tail))))

  binding : {o : Bool} → Deep o (binding_at pass may R) (binding_at pass true S)
  unfolding binding_at
  binding = making bind_of (local is_bname andthen (symbol is_left_arrow andthen an_expr false))

  a_statement : {o : Bool} (tail : Bool) → Deep o (statement_at pass may R tail) (statement_at pass true S tail)
  unfolding statement_at
  a_statement tail = either (begins (of is_let)) (let_statement tail)
      (either begins_bind binding (making run_of (placed (other_expr tail))))

  implicit : {o : Bool} → Deep o (implicit_at pass may R) (implicit_at pass true S)
  unfolding implicit_at
  implicit = making implicit_of
      (opened _ may is_left_brace
      (token (λ _. None) (of is_zero) (λ x. mult_of x.class) andthen
      (local is_simple andthen
      (symbol is_colon andthen
      (d.expr false andthen (symbol is_right_brace andthen opened _ may is_arrow d.typing))))))

  a_typing : {o : Bool} → Deep o (typing_at pass may R) (typing_at pass true S)
  unfolding typing_at
  a_typing = either (begins (of is_left_brace)) implicit (an_expr false)

  patterns : (n : ℕ) → Deep may (patterns_at pass may R n) (patterns_at pass true S n)
  unfolding patterns_at
  patterns n = counted (λ n _. suc n) (of starts_pattern) (λ m. up_to pass quantity.Parts m d.patterns_grow d.pattern) n

  inside : Deep may (inside_at pass may R) (inside_at pass true S)
  unfolding inside_at
  inside = either (begins (of is_constructor))
      (making group_of (token (λ _. None) (of is_constructor) named_of andthen patterns 0))
      (making nested_of d.other_pattern)

  bracketed : {o : Bool} → Deep o (bracketed_at pass may R) (bracketed_at pass true S)
  unfolding bracketed_at
  bracketed = making bracketed_of (opened _ may is_left_paren (inside andthen symbol is_right_paren))

  dot : {o : Bool} → Deep o (dot_at pass may R) (dot_at pass true S)
  unfolding dot_at
  dot = making dot_of (opened _ may is_dot_paren (d.expr false andthen symbol is_right_paren))

  another_pattern : {o : Bool} → Deep o (other_pattern_at pass may R) (other_pattern_at pass true S)
  unfolding other_pattern_at
  another_pattern = either (begins (of is_pattern_word))
      (token (λ _. None) (of is_pattern_word) (λ x. pattern_word x.class x))
      (either (begins (of is_dot_paren)) dot bracketed)

  a_pattern : {o : Bool} → Deep o (pattern_at pass may R) (pattern_at pass true S)
  unfolding pattern_at
  a_pattern = either (begins (of is_constructor))
      (making bare_of (token (λ _. None) (of is_constructor) named_of)) another_pattern

-- ---- the tokens that begin one too many

abbrev is_deep : Kind → Bool
is_deep unexpected = false
is_deep too_deep = true

statement_more : (may tail : Bool) (x : Lexeme) → statement_starts may tail x.class ≡ true →
    statement_starts true tail x.class ≡ true
statement_more true tail x e = e
statement_more false true x e = among (statement_starts false true) (statement_starts true true) refl x e
statement_more false false x e = among (statement_starts false false) (statement_starts true false) refl x e

statement_same : (may tail : Bool) (x : Lexeme) → statement_starts may tail x.class ≡ false →
    bad_start may x.class ≡ unexpected →
    (statement_starts true tail x.class ≡ false) × (bad_start true x.class ≡ unexpected)
statement_same true tail x e k = (e, k)
statement_same false true x e k = (
  refuted (statement_starts true true x.class)
      (implied (not (statement_starts false true x.class || is_deep (bad_start false x.class)))
      (not (statement_starts true true x.class))
      (each (λ c. implies (not (statement_starts false true c || is_deep (bad_start false c)))
      (not (statement_starts true true c))) refl x.class) (rw (e, k) refl)),
  refl,
)
statement_same false false x e k = (
  refuted (statement_starts true false x.class)
      (implied (not (statement_starts false false x.class || is_deep (bad_start false x.class)))
      (not (statement_starts true false x.class))
      (each (λ c. implies (not (statement_starts false false c || is_deep (bad_start false c)))
      (not (statement_starts true false c))) refl x.class) (rw (e, k) refl)),
  refl,
)

statement_deep : (may tail : Bool) (x : Lexeme) → statement_starts may tail x.class ≡ false →
    bad_start may x.class ≡ too_deep → statement_starts true tail x.class ≡ true
statement_deep true tail x e k = absurd (let h = k in cc)
statement_deep false true x e k =
    implied (is_deep (bad_start false x.class)) (statement_starts true true x.class)
    (each (λ c. implies (is_deep (bad_start false c)) (statement_starts true true c)) refl x.class) (rw k refl)
statement_deep false false x e k =
    implied (is_deep (bad_start false x.class)) (statement_starts true false x.class)
    (each (λ c. implies (is_deep (bad_start false c)) (statement_starts true false c)) refl x.class) (rw k refl)

pattern_more : (may : Bool) (x : Lexeme) → pattern_starts may x.class ≡ true → pattern_starts true x.class ≡ true
pattern_more true x e = e
pattern_more false x e = among (pattern_starts false) (pattern_starts true) refl x e

pattern_same : (may : Bool) (x : Lexeme) → pattern_starts may x.class ≡ false →
    bad_pattern_start may x.class ≡ unexpected →
    (pattern_starts true x.class ≡ false) × (bad_pattern_start true x.class ≡ unexpected)
pattern_same true x e k = (e, k)
pattern_same false x e k = (
  refuted (pattern_starts true x.class)
      (implied (not (pattern_starts false x.class || is_deep (bad_pattern_start false x.class)))
      (not (pattern_starts true x.class))
      (each (λ c. implies (not (pattern_starts false c || is_deep (bad_pattern_start false c)))
      (not (pattern_starts true c))) refl x.class) (rw (e, k) refl)),
  refl,
)

pattern_deep : (may : Bool) (x : Lexeme) → pattern_starts may x.class ≡ false →
    bad_pattern_start may x.class ≡ too_deep → pattern_starts true x.class ≡ true
pattern_deep true x e k = absurd (let h = k in cc)
pattern_deep false x e k =
    implied (is_deep (bad_pattern_start false x.class)) (pattern_starts true x.class)
    (each (λ c. implies (is_deep (bad_pattern_start false c)) (pattern_starts true c)) refl x.class) (rw k refl)

level_deep : (pass : Pass) (may : Bool) (R S : LevelReader) → LevelDeep may R S →
    (o : Bool) → LevelDeep o (level_at pass may R) (level_at pass true S)
level_deep pass may R S d o = record {
  expr = λ tail. an_expr pass may R S d tail;
  statement = λ tail. a_statement pass may R S d tail;
  typing = a_typing pass may R S d;
  binder = a_binder pass may R S d;
  pattern = a_pattern pass may R S d;
  other_pattern = another_pattern pass may R S d;
  statements_grow = λ e tail. record
      { more = statement_more may tail; same = statement_same may tail; deep = statement_deep may tail };
  patterns_grow = λ e. record { more = pattern_more may; same = pattern_same may; deep = pattern_deep may };
}

-- ---- all levels

split_keeps : (us rest : List Lexeme) → length rest ≤ length (us ++ rest)
split_keeps [] rest = omega arith
split_keeps (u ∷ us) rest = omega (arith, split_keeps us rest)

module _ {A : Type 0} {fresh : Excess → Type 0} {P : Says A} {g : Lexeme → Bool} {p : Reads A}
    (ex : Exact fresh P g p) where
  read_keeps : (ls : List Lexeme) (r : Read Lexeme Excess A) → p ls ≡ r → length (left_of r) ≤ length ls
  read_keeps ls (got a rest) e = let s = ex.sound ls a rest e in rw s.parts (split_keeps s.front rest)
  read_keeps ls (bad k rest) e = let s = ex.stuck ls k rest e in rw s.parts (split_keeps s.front rest)
  read_keeps ls (over f rest) e = let s =
      ex.passed ls f rest e in rw s.parts (let h = split_keeps s.front (s.last ∷ rest) in omega (arith, h))

  -- what reads a phrase adds no token
  exact_keeps : Keeps p
  exact_keeps ls = read_keeps ls (p ls) refl

abbrev nowhere : Span
nowhere = record { line = 0; col = 0; len = 0 }

keeping : {A : Type 0} {p q : Reads A} → Keeps q → Deep false p q
keeping k = record { deepens = λ e. absurd (let h = e in cc); keeps = k }

closed_deep : (pass : Pass) (d : ℕ) → LevelDeep false simple_reader (levels_at pass d)
closed_deep pass d =
    let i = levels_inner nowhere pass d in
    record {
      expr = λ tail. keeping (exact_keeps (i.expr tail).exact);
      statement = λ tail. keeping (exact_keeps (i.statement tail).exact);
      typing = keeping (exact_keeps i.typing.exact);
      binder = keeping (exact_keeps i.binder.exact);
      pattern = keeping (exact_keeps i.pattern.exact);
      other_pattern = keeping (exact_keeps i.other_pattern.exact);
      statements_grow = λ e. absurd (let h = e in cc);
      patterns_grow = λ e. absurd (let h = e in cc);
    }

pub levels_deep : (pass : Pass) (d : ℕ) (o : Bool) → LevelDeep o (levels_at pass d) (levels_at pass (suc d))
unfolding levels_at
levels_deep pass zero o = level_deep pass false simple_reader (levels_at pass 0) (closed_deep pass 0) o
levels_deep pass (suc d) o =
    level_deep pass true (levels_at pass d) (levels_at pass (suc d)) (levels_deep pass d true) o

-- ---- items

cap_same : (is : Lexeme → Bool) → CapGrows is is (λ _. unexpected) (λ _. unexpected)
cap_same is = record { more = λ x e. e; same = λ x e k. (e, k); deep = λ x e k. absurd (let h = k in cc) }

module _ (pass : Pass) (T R T2 R2 : LevelReader) (top : LevelDeep true T T2) (inner : LevelDeep true R R2) where
  a_param : Deep true (param_at pass T R) (param_at pass T2 R2)
  unfolding param_at
  a_param = making param_of
      (opened true true is_left_paren
      (zero_mark andthen (local is_simple andthen
      (symbol is_colon andthen (inner.expr false andthen symbol is_right_paren)))))

  params : (n : ℕ) → Deep true (params_at pass T R n) (params_at pass T2 R2 n)
  unfolding params_at
  params n = counted (λ n _. suc n) (of is_left_paren)
      (λ m. up_to pass quantity.Parts m (λ e. cap_same (of is_left_paren)) a_param) n

  a_con : Deep true (con_at pass T R) (con_at pass T2 R2)
  unfolding con_at
  a_con = making con_of (local is_big andthen (symbol is_colon andthen top.typing))

  next_con : (n : ℕ) → Deep true (next_con_at pass T R n) (next_con_at pass T2 R2 n)
  unfolding next_con_at
  next_con n = making next_con_of
      (symbol is_next andthen up_to pass quantity.Constructors n (λ e. cap_same (of is_big)) a_con)

  more_cons : (n : ℕ) → Deep true (more_cons_at pass T R n) (more_cons_at pass T2 R2 n)
  unfolding more_cons_at
  more_cons n = counted (λ n _. suc n) (of is_next) next_con n

  cons : Deep true (cons_at pass T R) (cons_at pass T2 R2)
  unfolding cons_at
  cons = perhaps (of is_big) [] (making cons_of (a_con andthen more_cons 1))

  a_family : Deep true (family_at pass T R) (family_at pass T2 R2)
  unfolding family_at
  a_family = making family_of
      (symbol is_data andthen
      (local is_big andthen
      (params 0 andthen (symbol is_colon andthen
      (top.expr false andthen
      (symbol is_where andthen (symbol is_open andthen (cons andthen symbol is_close))))))))

  a_partial : Deep true (partial_at pass T R) (partial_at pass T2 R2)
  unfolding partial_at
  a_partial = making partial_of
      (symbol is_partial andthen
      (perhaps (of is_next) None (making Some (symbol is_next)) andthen
      (zero_mark andthen (local is_simple andthen (symbol is_colon andthen top.typing)))))

  an_erased : Deep true (erased_at pass T R) (erased_at pass T2 R2)
  unfolding erased_at
  an_erased = making erased_of (symbol is_zero andthen (local is_simple andthen (symbol is_colon andthen top.typing)))

  signing : (n : Local) → Deep true (signing_at pass T R n) (signing_at pass T2 R2 n)
  unfolding signing_at
  signing n = making (signature_of n) (symbol is_colon andthen top.typing)

  equation : (n : Local) → Deep true (equation_at pass T R n) (equation_at pass T2 R2 n)
  unfolding equation_at clause_patterns_at
  equation n = making (clause_of n)
      (counted (λ n _. suc n) (of starts_pattern) (λ m. up_to pass quantity.Parts m top.patterns_grow top.pattern)
      0 andthen (symbol is_equals andthen top.expr true))

  clause_case : (n : Local) (b : Bool) →
      Deep true (cond b (cap_at (of starts_equation) (λ _. unexpected) (λ _. one_above quantity.Clauses n.span))
      (equation_at pass T R n))
      (cond b (cap_at (of starts_equation) (λ _. unexpected) (λ _. one_above quantity.Clauses n.span))
      (equation_at pass T2 R2 n))
  clause_case n true = capped Item (λ _. one_above quantity.Clauses n.span) (λ e. cap_same (of starts_equation))
  clause_case n false = equation n

  a_clause : (at : Place) (n : Local) → Deep true (clause_at pass T R at n) (clause_at pass T2 R2 at n)
  unfolding clause_at
  a_clause at n = clause_case n (is_full pass quantity.Clauses (clauses_before at n.name))

  defining : (at : Place) → Deep true (defining_at pass T R at) (defining_at pass T2 R2 at)
  unfolding defining_at
  defining at = making second (chain (local is_simple) (λ n. either (begins (of is_colon)) (signing n) (a_clause at n)))

  an_item : (at : Place) → Deep true (item_at pass T R at) (item_at pass T2 R2 at)
  unfolding item_at
  an_item at = either (begins (of is_data)) a_family
      (either (begins (of is_partial)) a_partial (either (begins (of is_zero)) an_erased (defining at)))

  an_import : (at : Place) → Deep true (import_at pass T R at) (import_at pass T2 R2 at)
  unfolding import_at
  an_import at = making import_of (token (λ _. None) (opens at.at_imports (of is_import)) place andthen local is_name)

  an_entry : (at : Place) → Deep true (entry_at pass T R at) (entry_at pass T2 R2 at)
  unfolding entry_at
  an_entry at = making second
      (symbol is_next andthen either (begins (of is_import)) (an_import at)
      (making listed (up_to pass quantity.Items at.items (λ e. cap_same (of starts_item)) (an_item at))))

  entries : (at : Place) → Deep true (entries_at pass T R at) (entries_at pass T2 R2 at)
  unfolding entries_at
  entries at = counted next_place (of is_next) an_entry at

  pub a_module : Deep true (module_at pass T R) (module_at pass T2 R2)
  unfolding module_at
  a_module = making module_of
      (symbol is_open andthen
      (symbol is_module andthen (local is_name andthen (entries start andthen symbol is_close))))

-- a text, and one in which one more level may open
pub texts_deepen : (pass : Pass) → Deepens (text_at pass) (module_at pass (levels_at pass 201) (levels_at pass 200))
unfolding text_at
texts_deepen pass = (a_module pass (levels_at pass 200) (levels_at pass 199) (levels_at pass 201)
    (levels_at pass 200) (levels_deep pass 200 true) (levels_deep pass 199 true)).deepens refl
