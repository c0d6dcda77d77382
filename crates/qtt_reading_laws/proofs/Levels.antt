-- What the readers of a level keep. Where the first one of two levels gets a value, the second one gets the same though
-- it counts nothing.
use Rattle.std.proofs.Common.{◌≡◌, ℕ, zero, suc, Bool, true, false, List, [], ◌∷◌, ◌++◌, Option, Some, None, cond, refl}
use Rattle.qtt_base.specs.declared.place.Span.{Span}
use Rattle.qtt_base.specs.declared.limits.Quantity.TheVariants as quantity
use Rattle.qtt_usage.specs.declared.mult.Mult.{Mult}
use Rattle.qtt_usage.specs.declared.mult.Mult.TheVariants as mult
use Rattle.qtt_syntax.specs.declared.expr.Named.{Named}
use Rattle.qtt_syntax.specs.Tree as tree
use Rattle.qtt_syntax.specs.Tree.{Tree, Binder, Statement, Shape, arguments, binders, statements, shapes}
use Rattle.qtt_syntax.specs.Tree.Tree.{name, hole}
use Rattle.qtt_syntax.specs.Tree.Annotation.{untyped}
use Rattle.qtt_syntax.specs.Tree.Binder.{plain, typed_binder}
use Rattle.qtt_phrase.specs.Phrase.{opens}
use Rattle.qtt_phrase.specs.Reading.{begins}
use Rattle.qtt_grammar.specs.declared.class.Class.{Class}
use Rattle.qtt_grammar.specs.declared.class.Class.TheVariants as class
use Rattle.qtt_grammar.specs.declared.class.Pass.{Pass}
use Rattle.qtt_grammar.specs.declared.class.Pass.TheVariants.{Free}
use Rattle.qtt_grammar.specs.declared.lexeme.Lexeme.{Lexeme}
use Rattle.qtt_grammar.specs.declared.stop.Excess.{Excess}
use Rattle.qtt_grammar.specs.Classes.{is_open, is_next, is_close, is_do, is_let, is_in, is_the, is_zero, is_hole, is_left_paren, is_right_paren, is_dot_paren, is_arrow, is_left_arrow, is_fat_arrow, is_colon, is_equals, is_backslash, is_left_brace, is_right_brace, is_name, is_simple, is_constructor, is_bname, is_digit, is_word, is_pattern_word, starts_atom, starts_binder, starts_pattern}
use Rattle.qtt_grammar.specs.Limits.{word_excess, excess_of}
use Rattle.qtt_grammar.specs.Grammar.{of, named_of, mult_of, word_of, pattern_word, typed_of, lambda_of, annotation_of, LetParts, let_parts, let_of, after_in, let_statement_of, bind_of, run_of, next_of, do_of, bracket_of, braced_of, written_of, the_of, app_of, named_app_of, other_app_of, behind_of, arrow_of, pi_of, implicit_of, standing_of, Line, may_end, may_go, next_line, group_of, nested_of, bracketed_of, dot_of, bare_of}
use Rattle.qtt_grammar.specs.Readers.{LevelReader, mark_at, zero_at, begins_binder, begins_bind, typed_at, binder_at, lambda_at, annotation_at, let_head_at, letting_at, line_at, lines_at, doing_at, bracket_at, other_atom_at, atom_at, atoms_at, brace_at, the_at, named_app_at, other_app_at, app_at, arrow_at, pi_at, hole_at, other_expr_at, expr_at, let_statement_at, binding_at, statement_at, implicit_at, typing_at, patterns_at, inside_at, bracketed_at, dot_at, other_pattern_at, pattern_at, level_at, levels_at, simple_reader}
use Rattle.qtt_reading_laws.specs.Standing.{Each, Stands, Annotation_stands, Argument_stands, Arguments_stand, Binder_stands, Binders_stand, Statement_stands, Statements_stand, Shape_stands, Shapes_stand}
use Rattle.qtt_reading_laws.proofs.Keeping.{Fair, Placed_fault, Keeps, weighed, token, symbol, a_local, opener, chain, ◌andthen◌, making, either, perhaps, all, many, counted, placed, up_to}

-- it holds of any value
abbrev pub Any : {A : Type 0} → A → Type 0
Any a = Unit {0}

word_free : (c : Class) (x : Lexeme) → word_excess Free c x ≡ None
word_free class.Text x = refl
word_free class.Universe x = refl
word_free _ x = refl

module _ (P : Span → Type 0) where
  -- ---- the values of the productions

  abbrev Named_stands : Named → Type 0
  Named_stands n = P n.span

  abbrev pub Pair : {A B : Type 0} → (A → Type 0) → (B → Type 0) → A × B → Type 0
  Pair R S c = R c.0 × S c.1

  arguments_stand : (args : List tree.Argument) → Each (Argument_stands P) args → Arguments_stand P (arguments args)
  arguments_stand [] e = tt
  arguments_stand (a ∷ more) e = (e.0, arguments_stand more e.1)

  binders_stand : (bs : List Binder) → Each (Binder_stands P) bs → Binders_stand P (binders bs)
  binders_stand [] e = tt
  binders_stand (b ∷ more) e = (e.0, binders_stand more e.1)

  statements_stand : (ss : List Statement) → Each (Statement_stands P) ss → Statements_stand P (statements ss)
  statements_stand [] e = tt
  statements_stand (s ∷ more) e = (e.0, statements_stand more e.1)

  shapes_stand : (ps : List Shape) → Each (Shape_stands P) ps → Shapes_stand P (shapes ps)
  shapes_stand [] e = tt
  shapes_stand (p ∷ more) e = (e.0, shapes_stand more e.1)

  app_stands : (s : Span) (f : Tree) (args : List tree.Argument) → P s → Stands P f → Each (Argument_stands P) args →
      Stands P (app_of s f args)
  app_stands s f [] h k e = k
  app_stands s f (a ∷ more) h k e = (k, arguments_stand (a ∷ more) e, h)

  each_both : (xs ys : List tree.Argument) → Each (Argument_stands P) xs → Each (Argument_stands P) ys →
      Each (Argument_stands P) (xs ++ ys)
  each_both [] ys e f = f
  each_both (x ∷ xs) ys e f = (e.0, each_both xs ys e.1 f)

  word_stands : (c : Class) (x : Lexeme) → Fair P x → Stands P (word_of c x)
  word_stands class.Text x f = f.0
  word_stands class.Universe x f = (f.1, f.0)
  word_stands _ x f = f.0

  pattern_word_stands : (c : Class) (x : Lexeme) → Fair P x → Shape_stands P (pattern_word c x)
  pattern_word_stands class.Small x f = f.0
  pattern_word_stands _ x f = f.0

  excess_case : (b : Bool) (e : Excess) → P e.place → Placed_fault P (cond b (Some e) None)
  excess_case true e h = h
  excess_case false e h = tt

  word_placed : (pass : Pass) (c : Class) (x : Lexeme) → Fair P x → Placed_fault P (word_excess pass c x)
  word_placed pass class.Text x f = excess_case _ _ f.0
  word_placed pass class.Universe x f = excess_case _ _ f.1
  word_placed pass _ x f = tt

  abbrev Optional : Option Tree → Type 0
  Optional None = Unit {0}
  Optional (Some t) = Stands P t

  -- its place, name, type and value
  abbrev Head_stands : LetParts → Type 0
  Head_stands h = P h.0 × P h.1.1.0.span × Annotation_stands P h.1.1.1.0 × Stands P h.1.1.1.1

  let_statement_stands : (c : LetParts × Option Tree) → Pair Head_stands Optional c →
      Statement_stands P (let_statement_of c)
  let_statement_stands ((s, (m, (n, (t, value)))), None) h = (h.0.1, h.0.2, h.0.3, h.0.0)
  let_statement_stands ((s, (m, (n, (t, value)))), Some body) h =
      ((h.0.1, h.0.2, h.0.3, h.1, h.0.0), h.0.0)

  arrow_stands : (c : (Span × Tree) × Option Tree) → Pair (Pair P (Stands P)) Optional c → Stands P (arrow_of c)
  arrow_stands ((s, t), None) h = h.0.1
  arrow_stands ((s, t), Some u) h = (h.0.1, h.1, h.0.0)

  pi_stands : (c : Binder × (Span × Tree)) → Pair (Binder_stands P) (Pair P (Stands P)) c → Stands P (pi_of c)
  pi_stands (plain n, (s, u)) h = h.1.1
  pi_stands (typed_binder m n t s, (r, u)) h = (h.0.1, h.1.1, h.0.2)

  -- a pattern in brackets, by the place of the first one
  abbrev Group_stands : (Span → Shape) → Type 0
  Group_stands f = (s : Span) → P s → Shape_stands P (f s)

  group_stands : (c : Named × List Shape) → Pair Named_stands (Each (Shape_stands P)) c → Group_stands (group_of c)
  group_stands (n, []) h s g = (h.0, tt, h.0)
  group_stands (n, p ∷ more) h s g = (h.0, shapes_stand (p ∷ more) h.1, g)

  -- ---- a level

  pub record Level_keeps (L M : LevelReader) : Type 0 where
    pub expr : (tail : Bool) → Keeps P (L.expr tail) (M.expr tail) (Stands P)
    pub statement : (tail : Bool) → Keeps P (L.statement tail) (M.statement tail) (Statement_stands P)
    pub typing : Keeps P L.typing M.typing (Stands P)
    pub binder : Keeps P L.binder M.binder (Binder_stands P)
    pub pattern : Keeps P L.pattern M.pattern (Shape_stands P)
    pub other_pattern : Keeps P L.other_pattern M.other_pattern (Shape_stands P)

  a_mark : Keeps P mark_at mark_at Any
  unfolding mark_at
  a_mark = perhaps P (of is_digit) mult.Many tt (token P (of is_digit) (λ x. mult_of x.class) (λ x f. tt))

  pub a_zero : Keeps P zero_at zero_at Any
  unfolding zero_at
  a_zero = perhaps P (of is_zero) mult.Many tt (token P (of is_zero) (λ x. mult_of x.class) (λ x f. tt))

  module _ (pass : Pass) (may : Bool) (L M : LevelReader) (l : Level_keeps L M) where
    pub typed : Keeps P (typed_at pass may L) (typed_at Free may M) (Binder_stands P)
    unfolding typed_at
    typed = making P typed_of (λ c r. (r.1.1.0, r.1.1.1.1.0, r.0))
        (◌andthen◌ P (opener P may is_left_paren)
        (◌andthen◌ P a_mark (◌andthen◌ P (a_local P is_bname)
        (◌andthen◌ P (symbol P is_colon) (◌andthen◌ P (l.expr false) (symbol P is_right_paren))))))

    a_binder : Keeps P (binder_at pass may L) (binder_at Free may M) (Binder_stands P)
    unfolding binder_at
    a_binder = either P (begins (of is_bname)) (making P plain (λ n r. r) (a_local P is_bname)) typed

    pub lambda : (tail : Bool) → Keeps P (lambda_at pass may L tail) (lambda_at Free may M tail) (Stands P)
    unfolding lambda_at
    lambda tail = making P lambda_of (λ c r. ((r.1.0.0, binders_stand c.1.0.1 r.1.0.1), r.1.1.1, r.0))
        (◌andthen◌ P (opener P may is_backslash)
        (◌andthen◌ P (◌andthen◌ P l.binder (many P (of starts_binder) l.binder))
        (◌andthen◌ P (symbol P is_fat_arrow) (l.expr tail))))

    annotation : Keeps P (annotation_at pass may L) (annotation_at Free may M) (Annotation_stands P)
    unfolding annotation_at
    annotation = perhaps P (of is_colon) untyped tt
        (making P annotation_of (λ c r. r.1) (◌andthen◌ P (symbol P is_colon) (l.expr false)))

    let_head : Keeps P (let_head_at pass may L) (let_head_at Free may M) Head_stands
    unfolding let_head_at
    let_head = making P let_parts (λ c r. (r.0, r.1.1.0, r.1.1.1.0, r.1.1.1.1.1))
        (◌andthen◌ P (opener P may is_let)
        (◌andthen◌ P a_mark (◌andthen◌ P (a_local P is_bname)
        (◌andthen◌ P annotation (◌andthen◌ P (symbol P is_equals) (l.expr false))))))

    pub letting : (tail : Bool) → Keeps P (letting_at pass may L tail) (letting_at Free may M tail) (Stands P)
    unfolding letting_at
    letting tail = making P let_of (λ c r. (r.0.1, r.0.2, r.0.3, r.1.1, r.0.0))
        (◌andthen◌ P let_head (◌andthen◌ P (symbol P is_in) (l.expr tail)))

    line : (tail : Bool) (n : Line) →
        Keeps P (line_at pass may L tail n) (line_at Free may M tail n) (Statement_stands P)
    unfolding line_at
    line tail n = making P next_of (λ c r. r.1)
        (◌andthen◌ P (symbol P is_next)
        (up_to P pass quantity.Statements n.0 (L.starts_statement tail) L.bad_statement (l.statement tail)))

    lines : (tail : Bool) (n : Line) →
        Keeps P (lines_at pass may L tail n) (lines_at Free may M tail n) (Each (Statement_stands P))
    unfolding lines_at
    lines tail n = all P may_end may_go next_line (λ _. of is_next) (line tail) n

    pub doing : (tail : Bool) → Keeps P (doing_at pass may L tail) (doing_at Free may M tail) (Stands P)
    unfolding doing_at
    doing tail = making P do_of (λ c r. ((r.1.1.0.0, statements_stand c.1.1.0.1 r.1.1.0.1), r.0))
        (◌andthen◌ P (opener P may is_do)
        (◌andthen◌ P (symbol P is_open)
        (◌andthen◌ P (chain P (l.statement tail) (λ s r. lines tail (1, standing_of s))) (symbol P is_close))))

    bracket : Keeps P (bracket_at pass may L) (bracket_at Free may M) (Stands P)
    unfolding bracket_at
    bracket = making P bracket_of (λ c r. r.1.0)
        (◌andthen◌ P (opener P may is_left_paren) (◌andthen◌ P (l.expr false) (symbol P is_right_paren)))

    other_atom : Keeps P (other_atom_at pass may L) (other_atom_at Free may M) (Stands P)
    unfolding other_atom_at
    other_atom = either P (begins (of is_word))
        (weighed P (excess_of pass) (excess_of Free) (of is_word) (λ x. word_of x.class x)
        (λ x f. word_stands x.class x f) (λ x f. word_placed pass x.class x f) (λ x e. word_free x.class x)) bracket

    atom : Keeps P (atom_at pass may L) (atom_at Free may M) (Stands P)
    unfolding atom_at
    atom = either P (begins (of is_name))
        (making P {R = λ (n : Named). P n.span} name (λ n r. r) (token P (of is_name) named_of (λ x f. f.0))) other_atom

    atoms : Keeps P (atoms_at pass may L) (atoms_at Free may M) (Each (Argument_stands P))
    unfolding atoms_at
    atoms = many P (of starts_atom) (making P written_of (λ t r. r) atom)

    brace : Keeps P (brace_at pass may L) (brace_at Free may M) (Argument_stands P)
    unfolding brace_at
    brace = making P braced_of (λ c r. r.1.0)
        (◌andthen◌ P (opener P may is_left_brace) (◌andthen◌ P (l.expr false) (symbol P is_right_brace)))

    the : Keeps P (the_at pass may L) (the_at Free may M) (Stands P)
    unfolding the_at
    the = making P the_of (λ c r. (r.1.0, r.1.1, r.0)) (◌andthen◌ P (symbol P is_the) (◌andthen◌ P atom atom))

    named_app : Keeps P (named_app_at pass may L) (named_app_at Free may M) (Stands P)
    unfolding named_app_at
    named_app = making P named_app_of
        (λ c r. app_stands c.0.span (name c.0) (c.1.0 ++ c.1.1) r.0 r.0 (each_both c.1.0 c.1.1 r.1.0 r.1.1))
        (◌andthen◌ P {R = λ (n : Named). P n.span} (token P (of is_name) named_of (λ x f. f.0))
        (◌andthen◌ P (many P (of is_left_brace) brace) atoms))

    other_app : Keeps P (other_app_at pass may L) (other_app_at Free may M) (Stands P)
    unfolding other_app_at
    other_app = making P other_app_of (λ c r. app_stands c.0 c.1.0 c.1.1 r.0 r.1.0 r.1.1)
        (placed P (◌andthen◌ P other_atom atoms))

    pub app : Keeps P (app_at pass may L) (app_at Free may M) (Stands P)
    unfolding app_at
    app = either P (begins (of is_the)) the (either P (begins (of is_name)) named_app other_app)

    arrow : Keeps P (arrow_at pass may L) (arrow_at Free may M) (Stands P)
    unfolding arrow_at
    arrow = making P arrow_of (λ c r. arrow_stands c r)
        (◌andthen◌ P (placed P app) (perhaps P {R = Optional} (of is_arrow) None tt
        (making P behind_of (λ c r. r.1) (◌andthen◌ P (opener P may is_arrow) (l.expr false)))))

    pi : Keeps P (pi_at pass may L) (pi_at Free may M) (Stands P)
    unfolding pi_at
    pi = making P pi_of (λ c r. pi_stands c r) (◌andthen◌ P typed (◌andthen◌ P (opener P may is_arrow) (l.expr false)))

    pub a_hole : (tail : Bool) → Keeps P (hole_at pass may L tail) (hole_at Free may M tail) (Stands P)
    unfolding hole_at
    a_hole tail = token P (opens tail (of is_hole)) (λ x. hole x.name x.place) (λ x f. f.0)

    other_expr : (tail : Bool) → Keeps P (other_expr_at pass may L tail) (other_expr_at Free may M tail) (Stands P)
    unfolding other_expr_at
    other_expr tail = either P (begins (of is_hole)) (a_hole tail)
        (either P (begins (of is_backslash)) (lambda tail)
        (either P (begins (of is_do)) (doing tail) (either P begins_binder pi arrow)))

    an_expr : (tail : Bool) → Keeps P (expr_at pass may L tail) (expr_at Free may M tail) (Stands P)
    unfolding expr_at
    an_expr tail = either P (begins (of is_let)) (letting tail) (other_expr tail)

    let_statement : (tail : Bool) →
        Keeps P (let_statement_at pass may L tail) (let_statement_at Free may M tail) (Statement_stands P)
    unfolding let_statement_at
    let_statement tail = making P let_statement_of (λ c r. let_statement_stands c r)
        (◌andthen◌ P let_head (perhaps P {R = Optional} (of is_in) None tt
        (making P after_in (λ c r. r.1) (◌andthen◌ P (symbol P is_in) (l.expr tail)))))

    binding : Keeps P (binding_at pass may L) (binding_at Free may M) (Statement_stands P)
    unfolding binding_at
    binding = making P bind_of (λ c r. (r.0, r.1.1))
        (◌andthen◌ P (a_local P is_bname) (◌andthen◌ P (symbol P is_left_arrow) (an_expr false)))

    a_statement : (tail : Bool) →
        Keeps P (statement_at pass may L tail) (statement_at Free may M tail) (Statement_stands P)
    unfolding statement_at
    a_statement tail = either P (begins (of is_let)) (let_statement tail)
        (either P begins_bind binding (making P run_of (λ c r. (r.1, r.0)) (placed P (other_expr tail))))

    implicit : Keeps P (implicit_at pass may L) (implicit_at Free may M) (Stands P)
    unfolding implicit_at
    implicit = making P implicit_of (λ c r. (r.1.1.1.1.0, r.1.1.1.1.1.1.1, r.0))
        (◌andthen◌ P (opener P may is_left_brace)
        (◌andthen◌ P {R = Any {A = Mult}} (token P (of is_zero) (λ x. mult_of x.class) (λ x f. tt))
        (◌andthen◌ P (a_local P is_simple)
        (◌andthen◌ P (symbol P is_colon)
        (◌andthen◌ P (l.expr false)
        (◌andthen◌ P (symbol P is_right_brace) (◌andthen◌ P (opener P may is_arrow) l.typing)))))))

    a_typing : Keeps P (typing_at pass may L) (typing_at Free may M) (Stands P)
    unfolding typing_at
    a_typing = either P (begins (of is_left_brace)) implicit (an_expr false)

    patterns : (n : ℕ) → Keeps P (patterns_at pass may L n) (patterns_at Free may M n) (Each (Shape_stands P))
    unfolding patterns_at
    patterns n = counted P (λ n _. suc n) (of starts_pattern)
        (λ m. up_to P pass quantity.Parts m L.starts_pattern L.bad_pattern l.pattern) n

    inside : Keeps P (inside_at pass may L) (inside_at Free may M) Group_stands
    unfolding inside_at
    inside = either P (begins (of is_constructor))
        (making P group_of (λ c r. group_stands c r)
        (◌andthen◌ P {R = λ (n : Named). P n.span} (token P (of is_constructor) named_of (λ x f. f.0)) (patterns 0)))
        (making P {S = Group_stands} nested_of (λ p r s g. r) l.other_pattern)

    bracketed : Keeps P (bracketed_at pass may L) (bracketed_at Free may M) (Shape_stands P)
    unfolding bracketed_at
    bracketed = making P bracketed_of (λ c r. r.1.0 c.0 r.0)
        (◌andthen◌ P (opener P may is_left_paren) (◌andthen◌ P inside (symbol P is_right_paren)))

    dot : Keeps P (dot_at pass may L) (dot_at Free may M) (Shape_stands P)
    unfolding dot_at
    dot = making P dot_of (λ c r. (r.1.0, r.0))
        (◌andthen◌ P (opener P may is_dot_paren) (◌andthen◌ P (l.expr false) (symbol P is_right_paren)))

    another_pattern : Keeps P (other_pattern_at pass may L) (other_pattern_at Free may M) (Shape_stands P)
    unfolding other_pattern_at
    another_pattern = either P (begins (of is_pattern_word))
        (token P (of is_pattern_word) (λ x. pattern_word x.class x) (λ x f. pattern_word_stands x.class x f))
        (either P (begins (of is_dot_paren)) dot bracketed)

    a_pattern : Keeps P (pattern_at pass may L) (pattern_at Free may M) (Shape_stands P)
    unfolding pattern_at
    a_pattern = either P (begins (of is_constructor))
        (making P {R = λ (n : Named). P n.span} bare_of (λ n r. (r, tt, r))
        (token P (of is_constructor) named_of (λ x f. f.0))) another_pattern

    pub level : Level_keeps (level_at pass may L) (level_at Free may M)
    level = record {
      expr = an_expr;
      statement = a_statement;
      typing = a_typing;
      binder = a_binder;
      pattern = a_pattern;
      other_pattern = another_pattern;
    }

  a_name : Keeps P (simple_reader.expr false) (simple_reader.expr false) (Stands P)
  a_name = making P {R = λ (n : Named). P n.span} name (λ n r. r) (token P (of is_name) named_of (λ x f. f.0))

  pub simple : Level_keeps simple_reader simple_reader
  simple = record {
    expr = λ tail. a_name;
    statement = λ tail. making P run_of (λ c r. (r.1, r.0)) (placed P a_name);
    typing = a_name;
    binder = making P plain (λ n r. r) (a_local P is_bname);
    pattern = token P (of is_pattern_word) (λ x. pattern_word x.class x) (λ x f. pattern_word_stands x.class x f);
    other_pattern =
        token P (of is_pattern_word) (λ x. pattern_word x.class x) (λ x f. pattern_word_stands x.class x f);
  }

  pub levels : (pass : Pass) (d : ℕ) → Level_keeps (levels_at pass d) (levels_at Free d)
  unfolding levels_at
  levels pass zero = level pass false simple_reader simple_reader simple
  levels pass (suc d) = level pass true (levels_at pass d) (levels_at Free d) (levels pass d)
