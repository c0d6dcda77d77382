-- The trees that the grammar gives are as texts are written.
use Rattle.std.proofs.Common.{ℕ, zero, suc, Bool, true, false, cond, List, [], ◌∷◌, ◌++◌, None, refl, arith}
use Rattle.qtt_base.specs.declared.place.Span.{Span}
use Rattle.qtt_base.specs.declared.limits.Quantity.{Quantity}
use Rattle.qtt_base.specs.declared.limits.Quantity.TheVariants as quantity
use Rattle.qtt_usage.specs.declared.mult.Mult.TheVariants as mult
use Rattle.qtt_syntax.specs.Tree.Tree.{name, hole}
use Rattle.qtt_syntax.specs.Tree.Annotation.{untyped}
use Rattle.qtt_syntax.specs.Tree.Binder.{plain}
use Rattle.qtt_phrase.specs.Phrase.{Token, Run, Above, opens}
use Rattle.qtt_grammar.specs.declared.class.Class.{Class}
use Rattle.qtt_grammar.specs.declared.class.Pass.{Pass}
use Rattle.qtt_grammar.specs.Classes.{is_open, is_next, is_close, is_do, is_let, is_in, is_the, is_zero, is_hole, is_left_paren, is_right_paren, is_dot_paren, is_arrow, is_left_arrow, is_fat_arrow, is_colon, is_equals, is_backslash, is_left_brace, is_right_brace, is_name, is_simple, is_constructor, is_bname, is_digit, is_word, is_pattern_word}
use Rattle.qtt_grammar.specs.declared.lexeme.Lexeme.{Lexeme}
use Rattle.qtt_grammar.specs.declared.stop.Excess.{Excess}
use Rattle.qtt_grammar.specs.Limits.{is_full, one_above, excess_of}
use Rattle.qtt_grammar.specs.Grammar.{Says, of, place, Level, Symbol, Opening, Locally, IsMark, local_of, named_of, mult_of, word_of, typed_of, lambda_of, annotation_of, let_parts, let_of, after_in, let_statement_of, bind_of, run_of, next_of, do_of, bracket_of, braced_of, written_of, the_of, named_app_of, other_app_of, behind_of, arrow_of, pi_of, implicit_of, standing_of, may_end, may_go, next_line, Line, Up_to, Counted, Typed, IsBinder, Lambda, IsAnnotation, LetHead, Letting, Lines, Doing, Bracket, OtherAtom, IsAtom, Atoms, Brace, The, NamedApp, OtherApp, IsApp, Arrow, Pi, Hole, OtherExpr, IsExpr, IsStatement, Implicit, IsTyping, pattern_word, group_of, nested_of, bracketed_of, dot_of, bare_of, Inside, Bracketed, Dot, OtherPattern, IsPattern, Shape_of, Simple_level, levels}
use Rattle.qtt_reprint.proofs.Gives.{Each, Along, Gives, weighed_gives, token_gives, chain_gives, ◌then_gives◌, made_gives, ◌or_gives◌, many_gives, run_gives, perhaps_gives, placed_gives, wider_gives}
use Rattle.qtt_forgetting_laws.proofs.Parts.{WrittenTree, WrittenAnnotation, WrittenBinder, WrittenStatement, WrittenShape, WrittenOption, WrittenHead, BareArgument, BracedArgument, bare_arguments, braces_and_bare, applied, written_binders, written_statements, written_word, written_pattern_word, written_arrow, written_pi, written_let_statement, written_group}

-- any value
abbrev pub Any : {A : Type 0} → A → Type 0
Any a = Unit {0}

-- R holds of each value that tokens say
abbrev pub Holds : {A : Type 0} → Says A → (A → Type 0) → Type 0
Holds P R = Gives (λ (x : Lexeme). Unit {0}) P R

-- ---- tokens and runs

pub symbol : (is : Class → Bool) → Holds (Symbol is) Any
symbol is = token_gives (of is) place (λ x f e. tt)

pub opening : (may : Bool) (is : Class → Bool) → Holds (Opening may is) Any
opening may is = token_gives (opens may (of is)) place (λ x f e. tt)

pub locally : (is : Class → Bool) → Holds (Locally is) Any
locally is = token_gives (of is) local_of (λ x f e. tt)

a_name : (is : Class → Bool) → Holds (Token (of is) named_of) Any
a_name is = token_gives (of is) named_of (λ x f e. tt)

any_mark : Holds IsMark Any
any_mark = perhaps_gives mult.Many tt (token_gives (of is_digit) (λ x. mult_of x.class) (λ x f e. tt))

not_above : {A : Type 0} (fault : Lexeme → Excess) (P : Says A) (ls : List Lexeme) (a : A) → Above fault P ls a None → ⊥
not_above fault P ls a (x, r, o, parts, d, e) = absurd cc

-- where there is one too many, a limit is passed
pub capped : {A : Type 0} {R : A → Type 0} {P : Says A} (fault : Lexeme → Excess) (full : Bool) → Holds P R →
    Holds (cond full (Above fault P) P) R
capped {P} fault true p = record { at = λ ls a fair d. absurd (not_above fault P ls a d) }
capped fault false p = p

each_along : {A S : Type 0} (R : A → Type 0) (ends goes : S → Bool) (next : S → A → S) (s : S) (l : List A) →
    Along ends goes next (λ s a. R a) s l → Each R l
each_along R ends goes next s [] e = tt
each_along R ends goes next s (a ∷ l) (go, (r, e)) = (r, each_along R ends goes next (next s a) l e)

pub each_of_run : {A S : Type 0} {R : A → Type 0} (ends goes : S → Bool) (next : S → A → S) (P : S → Says A) →
    ((s : S) → Holds (P s) R) → (s : S) → Holds (Run ends goes next P s) (Each R)
each_of_run {R} ends goes next P p s =
    wider_gives (λ l e. each_along R ends goes next s l e) (run_gives ends goes next P (λ s a. R a) p s)

module _ (pass : Pass) where
  pub up_to : {A : Type 0} {R : A → Type 0} {P : Says A} (q : Quantity) (n : ℕ) → Holds P R →
      Holds (Up_to pass q n P) R
  up_to q n p = capped (λ x. one_above q x.place) (is_full pass q n) p

  pub counted : {A : Type 0} {R : A → Type 0} (q : Quantity) (n : ℕ) (P : Says A) → Holds P R →
      Holds (Counted pass q n P) (Each R)
  counted q n P p = each_of_run (λ _. true) (λ _. true) (λ n _. suc n) (λ n. Up_to pass q n P) (λ n. up_to q n p) n

-- ---- levels

-- what is given inside a level
pub record LevelHolds (L : Level) : Type 0 where
  pub expr : (tail : Bool) → Holds (L.expr tail) WrittenTree
  pub statement : (tail : Bool) → Holds (L.statement tail) WrittenStatement
  pub typing : Holds L.typing WrittenTree
  pub binder : Holds L.binder WrittenBinder
  pub pattern : Holds L.pattern WrittenShape
  pub other_pattern : Holds L.other_pattern WrittenShape

module _ (pass : Pass) (may : Bool) (inner : Level) (inside : LevelHolds inner) where
  typed_holds : Holds (Typed pass may inner) WrittenBinder
  typed_holds =
      made_gives typed_of (opening may is_left_paren then_gives any_mark then_gives locally is_bname then_gives symbol
      is_colon then_gives inside.expr false then_gives symbol is_right_paren)
      (λ a r. r.1.1.1.1.0)

  binder_holds : Holds (IsBinder pass may inner) WrittenBinder
  binder_holds = made_gives plain (locally is_bname) (λ a r. refl) or_gives typed_holds

  lambda_holds : (tail : Bool) → Holds (Lambda pass may inner tail) WrittenTree
  lambda_holds tail =
      made_gives lambda_of (opening may is_backslash then_gives
      (inside.binder then_gives many_gives inside.binder) then_gives symbol is_fat_arrow then_gives inside.expr tail)
      (λ a r. let more = written_binders a.1.0.1 r.1.0.1 in omega (arith, r.1.0.0, more, r.1.1.1))

  annotation_holds : Holds (IsAnnotation pass may inner) WrittenAnnotation
  annotation_holds = perhaps_gives untyped refl
      (made_gives annotation_of (symbol is_colon then_gives inside.expr false) (λ a r. r.1))

  head_holds : Holds (LetHead pass may inner) WrittenHead
  head_holds =
      made_gives let_parts (opening may is_let then_gives any_mark then_gives locally is_bname then_gives
      annotation_holds then_gives symbol is_equals then_gives inside.expr false)
      (λ a r. (r.1.1.1.0, r.1.1.1.1.1))

  letting_holds : (tail : Bool) → Holds (Letting pass may inner tail) WrittenTree
  letting_holds tail = made_gives let_of (head_holds then_gives symbol is_in then_gives inside.expr tail)
      (λ a r. omega (arith, r.0.0, r.0.1, r.1.1))

  lines_hold : (tail : Bool) (s : Line) → Holds (Lines pass may inner tail s) (Each WrittenStatement)
  lines_hold tail s = each_of_run may_end may_go next_line _
      (λ l. made_gives next_of
      (symbol is_next then_gives up_to pass quantity.Statements l.0 (inside.statement tail)) (λ a r. r.1)) s

  doing_holds : (tail : Bool) → Holds (Doing pass may inner tail) WrittenTree
  doing_holds tail =
      made_gives do_of (opening may is_do then_gives symbol is_open then_gives
      chain_gives (λ s. Lines pass may inner tail (1, standing_of s)) (inside.statement tail)
      (λ s r. lines_hold tail (1, standing_of s)) then_gives symbol is_close)
      (λ a r. let more = written_statements a.1.1.0.1 r.1.1.0.1 in omega (arith, r.1.1.0.0, more))

  -- ---- applications

  bracket_holds : Holds (Bracket pass may inner) WrittenTree
  bracket_holds = made_gives bracket_of
      (opening may is_left_paren then_gives inside.expr false then_gives symbol is_right_paren) (λ a r. r.1.0)

  other_atom_holds : Holds (OtherAtom pass may inner) WrittenTree
  other_atom_holds = weighed_gives (excess_of pass) (of is_word) (λ x. word_of x.class x)
      (λ x f e o. written_word x.class x) or_gives bracket_holds

  atom_holds : Holds (IsAtom pass may inner) WrittenTree
  atom_holds = made_gives name (a_name is_name) (λ a r. refl) or_gives other_atom_holds

  atoms_hold : Holds (Atoms pass may inner) (Each BareArgument)
  atoms_hold = many_gives (made_gives written_of atom_holds (λ a r. (a, (refl, r))))

  brace_holds : Holds (Brace pass may inner) BracedArgument
  brace_holds = made_gives braced_of
      (opening may is_left_brace then_gives inside.expr false then_gives symbol is_right_brace)
      (λ a r. (a.1.0, (refl, r.1.0)))

  the_holds : Holds (The pass may inner) WrittenTree
  the_holds = made_gives the_of (symbol is_the then_gives atom_holds then_gives atom_holds)
      (λ a r. omega (arith, r.1.0, r.1.1))

  named_app_holds : Holds (NamedApp pass may inner) WrittenTree
  named_app_holds = made_gives named_app_of
      (a_name is_name then_gives many_gives brace_holds then_gives atoms_hold)
      (λ a r. applied a.0.span (name a.0) (a.1.0 ++ a.1.1) refl (braces_and_bare a.1.0 a.1.1 r.1.0 r.1.1))

  other_app_holds : Holds (OtherApp pass may inner) WrittenTree
  other_app_holds = made_gives other_app_of (placed_gives (other_atom_holds then_gives atoms_hold))
      (λ a r. applied a.0 a.1.0 a.1.1 r.0 (bare_arguments a.1.1 r.1))

  app_holds : Holds (IsApp pass may inner) WrittenTree
  app_holds = the_holds or_gives named_app_holds or_gives other_app_holds

  -- ---- functions and holes

  arrow_holds : Holds (Arrow pass may inner) WrittenTree
  arrow_holds = made_gives arrow_of
      (placed_gives app_holds then_gives perhaps_gives {R = WrittenOption} None tt
      (made_gives {S = WrittenOption} behind_of (opening may is_arrow then_gives inside.expr false) (λ a r. r.1)))
      (λ a r. written_arrow a.0.0 a.0.1 a.1 r.0 r.1)

  pi_holds : Holds (Pi pass may inner) WrittenTree
  pi_holds = made_gives pi_of (typed_holds then_gives opening may is_arrow then_gives inside.expr false)
      (λ a r. written_pi a.0 a.1.0 a.1.1 r.0 r.1.1)

  hole_holds : (tail : Bool) → Holds (Hole pass may inner tail) WrittenTree
  hole_holds tail = token_gives (opens tail (of is_hole)) (λ x. hole x.name x.place) (λ x f e. refl)

  other_holds : (tail : Bool) → Holds (OtherExpr pass may inner tail) WrittenTree
  other_holds tail = hole_holds tail or_gives lambda_holds tail or_gives doing_holds tail or_gives pi_holds or_gives
      arrow_holds

  expr_holds : (tail : Bool) → Holds (IsExpr pass may inner tail) WrittenTree
  expr_holds tail = letting_holds tail or_gives other_holds tail

  -- ---- statements and types

  statement_holds : (tail : Bool) → Holds (IsStatement pass may inner tail) WrittenStatement
  statement_holds tail =
      made_gives let_statement_of (head_holds then_gives perhaps_gives {R = WrittenOption} None tt
      (made_gives {S = WrittenOption} after_in (symbol is_in then_gives inside.expr tail) (λ a r. r.1)))
      (λ a r. written_let_statement a.0 a.1 r.0 r.1)
      or_gives made_gives bind_of
      (locally is_bname then_gives symbol is_left_arrow then_gives expr_holds false) (λ a r. r.1.1)
      or_gives made_gives run_of (placed_gives (other_holds tail)) (λ a r. r)

  implicit_holds : Holds (Implicit pass may inner) WrittenTree
  implicit_holds =
      made_gives implicit_of (opening may is_left_brace then_gives token_gives {R = Any} (of is_zero)
      (λ x. mult_of x.class) (λ x f e. tt) then_gives locally is_simple then_gives symbol is_colon then_gives
      inside.expr false then_gives symbol is_right_brace then_gives opening may is_arrow then_gives inside.typing)
      (λ a r. omega (arith, r.1.1.1.1.0, r.1.1.1.1.1.1.1))

  typing_holds : Holds (IsTyping pass may inner) WrittenTree
  typing_holds = implicit_holds or_gives expr_holds false

  -- ---- patterns

  inside_holds : Holds (Inside pass may inner) (λ f. (s : Span) → WrittenShape (f s))
  inside_holds =
      made_gives group_of (a_name is_constructor then_gives counted pass quantity.Parts 0 inner.pattern inside.pattern)
      (λ a r s. written_group a.0 a.1 s r.1)
      or_gives made_gives nested_of inside.other_pattern (λ a r s. r)

  bracketed_holds : Holds (Bracketed pass may inner) WrittenShape
  bracketed_holds = made_gives bracketed_of
      (opening may is_left_paren then_gives inside_holds then_gives symbol is_right_paren) (λ a r. r.1.0 a.0)

  dot_holds : Holds (Dot pass may inner) WrittenShape
  dot_holds = made_gives dot_of
      (opening may is_dot_paren then_gives inside.expr false then_gives symbol is_right_paren) (λ a r. r.1.0)

  other_pattern_holds : Holds (OtherPattern pass may inner) WrittenShape
  other_pattern_holds = token_gives (of is_pattern_word) (λ x. pattern_word x.class x)
      (λ x f e. written_pattern_word x.class x) or_gives dot_holds or_gives bracketed_holds

  pattern_holds : Holds (IsPattern pass may inner) WrittenShape
  pattern_holds = made_gives bare_of (a_name is_constructor) (λ a r. refl) or_gives other_pattern_holds

  level_holds : LevelHolds (Shape_of pass may inner)
  level_holds = record {
    expr = expr_holds;
    statement = statement_holds;
    typing = typing_holds;
    binder = binder_holds;
    pattern = pattern_holds;
    other_pattern = other_pattern_holds;
  }

simple_holds : LevelHolds Simple_level
simple_holds = record {
  expr = λ tail. made_gives name (a_name is_name) (λ a r. refl);
  statement = λ tail. made_gives run_of
      (placed_gives {R = WrittenTree} (made_gives name (a_name is_name) (λ a r. refl))) (λ a r. r);
  typing = made_gives name (a_name is_name) (λ a r. refl);
  binder = made_gives plain (locally is_bname) (λ a r. refl);
  pattern = token_gives (of is_pattern_word) (λ x. pattern_word x.class x)
      (λ x f e. written_pattern_word x.class x);
  other_pattern = token_gives (of is_pattern_word) (λ x. pattern_word x.class x)
      (λ x f e. written_pattern_word x.class x);
}

pub levels_hold : (pass : Pass) (d : ℕ) → LevelHolds (levels pass d)
unfolding levels
levels_hold pass zero = level_holds pass false Simple_level simple_holds
levels_hold pass (suc d) = level_holds pass true (levels pass d) (levels_hold pass d)
