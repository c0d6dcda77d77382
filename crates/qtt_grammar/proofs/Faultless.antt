-- Where nothing is counted, no phrase has a fault.
use Rattle.std.proofs.Common.{◌≡◌, ℕ, zero, suc, Bool, true, false, List, [], ◌∷◌, Option, Some, None, refl, sym, ◌∙◌, inl, inr}
use Rattle.qtt_base.specs.declared.limits.Quantity.TheVariants as quantity
use Rattle.qtt_usage.specs.declared.mult.Mult.TheVariants as mult
use Rattle.qtt_syntax.specs.declared.expr.Local.{Local}
use Rattle.qtt_syntax.specs.Tree.Tree.{name, hole}
use Rattle.qtt_syntax.specs.Tree.Annotation.{untyped}
use Rattle.qtt_syntax.specs.Tree.Binder.{plain}
use Rattle.qtt_phrase.specs.Phrase.{Weighed, Token, Chain, ◌then◌, Making, ◌or◌, Many, Run, Perhaps, Placed, opens, first}
use Rattle.qtt_grammar.specs.declared.class.Class.{Class}
use Rattle.qtt_grammar.specs.declared.class.Class.TheVariants as class
use Rattle.qtt_grammar.specs.declared.class.Pass.TheVariants.{Free}
use Rattle.qtt_grammar.specs.declared.lexeme.Lexeme.{Lexeme}
use Rattle.qtt_grammar.specs.declared.stop.Excess.{Excess}
use Rattle.qtt_grammar.specs.Classes.{is_open, is_next, is_close, is_do, is_let, is_in, is_partial, is_the, is_zero, is_hole, is_left_paren, is_right_paren, is_dot_paren, is_arrow, is_left_arrow, is_fat_arrow, is_colon, is_equals, is_backslash, is_left_brace, is_right_brace, is_name, is_simple, is_constructor, is_bname, is_digit, is_word, is_pattern_word}
use Rattle.qtt_grammar.specs.Limits.{word_excess, excess_of}
use Rattle.qtt_grammar.specs.Grammar.{Says, of, place, Symbol, Opening, local_of, named_of, Locally, mult_of, IsMark, IsZero, word_of, pattern_word, Up_to, Counted, typed_of, lambda_of, annotation_of, let_parts, let_of, after_in, let_statement_of, bind_of, run_of, next_of, do_of, bracket_of, braced_of, written_of, the_of, named_app_of, other_app_of, behind_of, arrow_of, pi_of, implicit_of, standing_of, Line, may_end, may_go, next_line, group_of, nested_of, bracketed_of, dot_of, bare_of, Level, Typed, IsBinder, Lambda, IsAnnotation, LetHead, Letting, Lines, Doing, Bracket, OtherAtom, IsAtom, Atoms, Brace, IsApp, Arrow, Pi, Hole, OtherExpr, IsExpr, IsStatement, Implicit, Inside, OtherPattern, Shape_of, Simple_level, levels, param_of, partial_of, erased_of, signature_of, clause_of, second, start, IsParam, Partial, Erased, Signing, Equation, Defining}

pub record Faultless {A : Type 0} (P : Says A) : Type 0 where
  pub at : (us : List Lexeme) (a : A) (o : Option Excess) → P us a o → o ≡ None

pub no_first : (p q : Option Excess) → p ≡ None → q ≡ None → first p q ≡ None
no_first None q e f = f
no_first (Some x) q e f = absurd cc

pub both_none : (p q : Option Excess) → first p q ≡ None → (p ≡ None) × (q ≡ None)
both_none None q e = (refl, e)
both_none (Some x) q e = absurd cc

-- ---- the forms of phrases

pub weighed : {A : Type 0} (faults : Lexeme → Option Excess) (is : Lexeme → Bool) (value : Lexeme → A) →
    ((x : Lexeme) → faults x ≡ None) → Faultless (Weighed faults is value)
weighed faults is value h = record { at = λ us a o m. sym m.4 ∙ h m.0 }

pub tok : {A : Type 0} (is : Lexeme → Bool) (value : Lexeme → A) → Faultless (Token is value)
tok is value = weighed (λ _. None) is value (λ x. refl)

pub symbol : (is : Class → Bool) → Faultless (Symbol is)
symbol is = tok (of is) place

pub opener : (may : Bool) (is : Class → Bool) → Faultless (Opening may is)
opener may is = tok (opens may (of is)) place

pub locally : (is : Class → Bool) → Faultless (Locally is)
locally is = tok (of is) local_of

pub chain : {A B : Type 0} {P : Says A} {Q : A → Says B} → Faultless P →
    ((a : A) → Faultless (Q a)) → Faultless (Chain P Q)
chain p q = record { at = λ us c o m. sym m.7 ∙ no_first m.2 m.3 (p.at m.0 c.0 m.2 m.5) ((q c.0).at m.1 c.1 m.3 m.6) }

pub seq : {A B : Type 0} {P : Says A} {Q : Says B} → Faultless P → Faultless Q → Faultless (P then Q)
seq p q = chain p (λ _. q)

pub make : {A B : Type 0} {P : Says A} (f : A → B) → Faultless P → Faultless (Making f P)
make f p = record { at = λ us b o m. p.at us m.0 o m.1 }

either_case : {A : Type 0} {P Q : Says A} → Faultless P → Faultless Q →
    (us : List Lexeme) (a : A) (o : Option Excess) → (P or Q) us a o → o ≡ None
either_case p q us a o (inl m) = p.at us a o m
either_case p q us a o (inr m) = q.at us a o m

pub either : {A : Type 0} {P Q : Says A} → Faultless P → Faultless Q → Faultless (P or Q)
either p q = record { at = either_case p q }

perhaps_case : {A : Type 0} {P : Says A} (none : A) → Faultless P →
    (us : List Lexeme) (a : A) (o : Option Excess) → Perhaps none P us a o → o ≡ None
perhaps_case none p us a o (inl m) = sym m.2
perhaps_case none p us a o (inr m) = p.at us a o m

pub perhaps : {A : Type 0} {P : Says A} (none : A) → Faultless P → Faultless (Perhaps none P)
perhaps none p = record { at = perhaps_case none p }

placed : {A : Type 0} {P : Says A} → Faultless P → Faultless (Placed place P)
placed p = record { at = λ us c o m. p.at us c.1 o m.4 }

many_case : {A : Type 0} (P : Says A) → Faultless P → (us : List Lexeme) (as' : List A) (o : Option Excess) →
    Many P us as' o → o ≡ None
many_case P p us [] o m = sym m.1
many_case P p us (a ∷ more) o (vs, ws, i, j, e, m, ms, f) =
    sym f ∙ no_first i j (p.at vs a i m) (many_case P p ws more j ms)

many : {A : Type 0} {P : Says A} → Faultless P → Faultless (Many P)
many {P} p = record { at = many_case P p }

run_case : {A S : Type 0} (ends goes : S → Bool) (next : S → A → S) (P : S → Says A) →
    ((s : S) → Faultless (P s)) → (s : S) (us : List Lexeme) (as' : List A) (o : Option Excess) →
    Run ends goes next P s us as' o → o ≡ None
run_case ends goes next P p s us [] o m = sym m.2
run_case ends goes next P p s us (a ∷ more) o (vs, ws, i, j, e, go, m, ms, f) =
    sym f ∙ no_first i j ((p s).at vs a i m) (run_case ends goes next P p (next s a) ws more j ms)

run : {A S : Type 0} (ends goes : S → Bool) (next : S → A → S) (P : S → Says A) (s : S) →
    ((s : S) → Faultless (P s)) → Faultless (Run ends goes next P s)
run ends goes next P s p = record { at = run_case ends goes next P p s }

-- ---- the productions

word_free : (c : Class) (x : Lexeme) → word_excess Free c x ≡ None
word_free class.Text x = refl
word_free class.Universe x = refl
word_free _ x = refl

pub mark : Faultless IsMark
mark = perhaps mult.Many (tok (of is_digit) (λ x. mult_of x.class))

pub zero_mark : Faultless IsZero
zero_mark = perhaps mult.Many (tok (of is_zero) (λ x. mult_of x.class))

pub record FaultlessLevel (L : Level) : Type 0 where
  pub expr : (tail : Bool) → Faultless (L.expr tail)
  pub statement : (tail : Bool) → Faultless (L.statement tail)
  pub typing : Faultless L.typing
  pub binder : Faultless L.binder
  pub pattern : Faultless L.pattern
  pub other_pattern : Faultless L.other_pattern

module _ (may : Bool) (L : Level) (inner : FaultlessLevel L) where
  pub typed : Faultless (Typed Free may L)
  typed = make typed_of (seq (opener may is_left_paren)
      (seq mark (seq (locally is_bname)
      (seq (symbol is_colon) (seq (inner.expr false) (symbol is_right_paren))))))

  binder : Faultless (IsBinder Free may L)
  binder = either (make plain (locally is_bname)) typed

  pub lambda : (tail : Bool) → Faultless (Lambda Free may L tail)
  lambda tail = make lambda_of
      (seq (opener may is_backslash)
      (seq (seq inner.binder (many inner.binder)) (seq (symbol is_fat_arrow) (inner.expr tail))))

  annotation : Faultless (IsAnnotation Free may L)
  annotation = perhaps untyped (make annotation_of (seq (symbol is_colon) (inner.expr false)))

  let_head : Faultless (LetHead Free may L)
  let_head = make let_parts
      (seq (opener may is_let)
      (seq mark (seq (locally is_bname) (seq annotation (seq (symbol is_equals) (inner.expr false))))))

  pub letting : (tail : Bool) → Faultless (Letting Free may L tail)
  letting tail = make let_of (seq let_head (seq (symbol is_in) (inner.expr tail)))

  lines : (tail : Bool) (l : Line) → Faultless (Lines Free may L tail l)
  lines tail l = run may_end may_go next_line
      (λ l. Making next_of (Symbol is_next then Up_to Free quantity.Statements l.0 (L.statement tail))) l
      (λ l. make next_of (seq (symbol is_next) (inner.statement tail)))

  pub doing : (tail : Bool) → Faultless (Doing Free may L tail)
  doing tail = make do_of (seq (opener may is_do)
      (seq (symbol is_open)
      (seq (chain (inner.statement tail) (λ s. lines tail (1, standing_of s))) (symbol is_close))))

  bracket : Faultless (Bracket Free may L)
  bracket = make bracket_of (seq (opener may is_left_paren) (seq (inner.expr false) (symbol is_right_paren)))

  other_atom : Faultless (OtherAtom Free may L)
  other_atom = either (weighed (excess_of Free) (of is_word) (λ x. word_of x.class x) (λ x. word_free x.class x))
      bracket

  atom : Faultless (IsAtom Free may L)
  atom = either (make name (tok (of is_name) named_of)) other_atom

  atoms : Faultless (Atoms Free may L)
  atoms = many (make written_of atom)

  brace : Faultless (Brace Free may L)
  brace = make braced_of (seq (opener may is_left_brace) (seq (inner.expr false) (symbol is_right_brace)))

  pub app : Faultless (IsApp Free may L)
  app = either (make the_of (seq (symbol is_the) (seq atom atom)))
      (either (make named_app_of (seq (tok (of is_name) named_of) (seq (many brace) atoms)))
      (make other_app_of (placed (seq other_atom atoms))))

  arrow : Faultless (Arrow Free may L)
  arrow = make arrow_of (seq (placed app)
      (perhaps None (make behind_of (seq (opener may is_arrow) (inner.expr false)))))

  pi : Faultless (Pi Free may L)
  pi = make pi_of (seq typed (seq (opener may is_arrow) (inner.expr false)))

  pub hole_alone : (tail : Bool) → Faultless (Hole Free may L tail)
  hole_alone tail = tok (opens tail (of is_hole)) (λ x. hole x.name x.place)

  other_expr : (tail : Bool) → Faultless (OtherExpr Free may L tail)
  other_expr tail = either (hole_alone tail) (either (lambda tail) (either (doing tail) (either pi arrow)))

  expr : (tail : Bool) → Faultless (IsExpr Free may L tail)
  expr tail = either (letting tail) (other_expr tail)

  statement : (tail : Bool) → Faultless (IsStatement Free may L tail)
  statement tail =
      either (make let_statement_of
      (seq let_head (perhaps None (make after_in (seq (symbol is_in) (inner.expr tail))))))
      (either (make bind_of (seq (locally is_bname) (seq (symbol is_left_arrow) (expr false))))
      (make run_of (placed (other_expr tail))))

  implicit : Faultless (Implicit Free may L)
  implicit = make implicit_of
      (seq (opener may is_left_brace)
      (seq (tok (of is_zero) (λ x. mult_of x.class))
      (seq (locally is_simple)
      (seq (symbol is_colon)
      (seq (inner.expr false) (seq (symbol is_right_brace) (seq (opener may is_arrow) inner.typing)))))))

  counted : Faultless (Counted Free quantity.Parts 0 L.pattern)
  counted = run (λ _. true) (λ _. true) (λ n _. suc n) (λ n. Up_to Free quantity.Parts n L.pattern) 0
      (λ n. inner.pattern)

  inside : Faultless (Inside Free may L)
  inside = either (make group_of (seq (tok (of is_constructor) named_of) counted)) (make nested_of inner.other_pattern)

  other_pattern : Faultless (OtherPattern Free may L)
  other_pattern =
      either (tok (of is_pattern_word) (λ x. pattern_word x.class x))
      (either (make dot_of (seq (opener may is_dot_paren) (seq (inner.expr false) (symbol is_right_paren))))
      (make bracketed_of (seq (opener may is_left_paren) (seq inside (symbol is_right_paren)))))

  pub level : FaultlessLevel (Shape_of Free may L)
  level = record {
    expr = expr;
    statement = statement;
    typing = either implicit (expr false);
    binder = binder;
    pattern = either (make bare_of (tok (of is_constructor) named_of)) other_pattern;
    other_pattern = other_pattern;
  }

pub simple_level : FaultlessLevel Simple_level
simple_level = record {
  expr = λ _. make name (tok (of is_name) named_of);
  statement = λ _. make run_of (placed (make name (tok (of is_name) named_of)));
  typing = make name (tok (of is_name) named_of);
  binder = make plain (locally is_bname);
  pattern = tok (of is_pattern_word) (λ x. pattern_word x.class x);
  other_pattern = tok (of is_pattern_word) (λ x. pattern_word x.class x);
}

pub all_levels : (d : ℕ) → FaultlessLevel (levels Free d)
unfolding levels
all_levels zero = level false Simple_level simple_level
all_levels (suc d) = level true (levels Free d) (all_levels d)

-- ---- items

module _ (T L : Level) (top : FaultlessLevel T) (inner : FaultlessLevel L) where
  param : Faultless (IsParam Free T L)
  param = make param_of (seq (opener true is_left_paren)
      (seq zero_mark (seq (locally is_simple)
      (seq (symbol is_colon) (seq (inner.expr false) (symbol is_right_paren))))))

  pub params : Faultless (Counted Free quantity.Parts 0 (IsParam Free T L))
  params = run (λ _. true) (λ _. true) (λ n _. suc n) (λ n. Up_to Free quantity.Parts n (IsParam Free T L)) 0
      (λ n. param)

  pub partial_item : Faultless (Partial Free T L)
  partial_item = make partial_of
      (seq (symbol is_partial)
      (seq (perhaps None (make Some (symbol is_next)))
      (seq zero_mark (seq (locally is_simple) (seq (symbol is_colon) top.typing)))))

  pub erased_item : Faultless (Erased Free T L)
  erased_item = make erased_of (seq (symbol is_zero) (seq (locally is_simple) (seq (symbol is_colon) top.typing)))

  signing : (n : Local) → Faultless (Signing Free T L n)
  signing n = make (signature_of n) (seq (symbol is_colon) top.typing)

  patterns : Faultless (Counted Free quantity.Parts 0 T.pattern)
  patterns = run (λ _. true) (λ _. true) (λ n _. suc n) (λ n. Up_to Free quantity.Parts n T.pattern) 0
      (λ n. top.pattern)

  equation : (n : Local) → Faultless (Equation Free T L n)
  equation n = make (clause_of n) (seq patterns (seq (symbol is_equals) (top.expr true)))

  pub defining : Faultless (Defining Free T L start)
  defining = make second (chain (locally is_simple) (λ n. either (signing n) (equation n)))
