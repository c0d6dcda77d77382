-- The trees that the grammar gives have the forms that it asks, and take no more levels than there are.
use Rattle.std.proofs.Common.{◌≡◌, ℕ, zero, suc, ◌≤◌, Bool, true, false, cond, List, [], ◌∷◌, ◌++◌, Option, Some, None, refl, ap, ◌∙◌, arith, codes}
use Rattle.qtt_base.specs.declared.place.Span.{Span}
use Rattle.qtt_base.specs.declared.limits.Quantity.TheVariants as quantity
use Rattle.qtt_usage.specs.declared.mult.Mult.TheVariants as mult
use Rattle.qtt_syntax.specs.declared.expr.Mark.TheVariants.{Written, Braced, Inserted}
use Rattle.qtt_syntax.specs.declared.expr.Target.TheVariants.{Unknown}
use Rattle.qtt_syntax.specs.declared.expr.Named as named_code
use Rattle.qtt_syntax.specs.Tree as tree
use Rattle.qtt_syntax.specs.Tree.{Tree, Binder, Statement, Shape, arguments, binders, statements, shapes}
use Rattle.qtt_syntax.specs.Tree.Tree.{name, number, text, universe, hole, the, apply, pi, lambda, letting, doing}
use Rattle.qtt_syntax.specs.Tree.Annotation.{untyped}
use Rattle.qtt_syntax.specs.Tree.Argument.{argument}
use Rattle.qtt_syntax.specs.Tree.Binder.{plain, typed_binder}
use Rattle.qtt_syntax.specs.Words.{Word}
use Rattle.qtt_syntax.specs.Printing.{is_atom, is_app, is_arrow as is_unnamed}
use Rattle.qtt_phrase.specs.Phrase.{◌then◌, Making, Perhaps, Token, opens}
use Rattle.qtt_phrase.proofs.Exact.{opens_both, Among}
use Rattle.qtt_grammar.specs.declared.class.Class.{Class}
use Rattle.qtt_grammar.specs.declared.class.Class.TheVariants as class
use Rattle.qtt_grammar.specs.declared.class.Pass.{Pass}
use Rattle.qtt_grammar.specs.Classes.{is_open, is_next, is_close, is_do, is_let, is_in, is_the, is_zero, is_hole, is_left_paren, is_right_paren, is_arrow, is_left_arrow, is_fat_arrow, is_colon, is_equals, is_backslash, is_left_brace, is_right_brace, is_name, is_simple, is_bname, is_word, is_digit, is_number, is_bound_or_name, same, is_constructor, is_pattern_word, is_dot_paren}
use Rattle.qtt_grammar.specs.declared.lexeme.Lexeme.{Lexeme}
use Rattle.qtt_grammar.specs.Limits.{is_full, excess_of, number_of, word_excess}
use Rattle.qtt_grammar.specs.Grammar as grammar
use Rattle.qtt_grammar.specs.Grammar.{Says, of, place, Level, Symbol, Locally, IsMark, local_of, named_of, mult_of, word_of, typed_of, lambda_of, annotation_of, let_parts, LetParts, let_of, after_in, let_statement_of, bind_of, run_of, next_of, do_of, bracket_of, braced_of, written_of, the_of, app_of, named_app_of, other_app_of, behind_of, arrow_of, pi_of, implicit_of, ends_in_hole, statement_in_hole, last_in_hole, standing_of, may_end, may_go, next_line, Line, Typed, IsBinder, Lambda, IsAnnotation, LetHead, Letting, Lines, Doing, Bracket, OtherAtom, IsAtom, Atoms, Brace, The, NamedApp, OtherApp, IsApp, Arrow, Pi, Hole, OtherExpr, IsExpr, IsStatement, Implicit, IsTyping, Counted, pattern_word, group_of, nested_of, bracketed_of, dot_of, bare_of, Bracketed, Dot, OtherPattern, IsPattern, Shape_of, Simple_level, levels}
use Rattle.qtt_reprint.specs.Sketch.{named_class}
use Rattle.qtt_grammar.proofs.Decide.{among}
use Rattle.qtt_reprint.proofs.Tokens.{excess_case}
use Rattle.qtt_reprint.proofs.Formed as formed
use Rattle.qtt_reprint.proofs.Formed.{wrapped_need, need, need_annotation, need_arguments, need_binders, need_binder, need_statements, need_statement, need_shape, need_shapes}
use Rattle.qtt_reprint.proofs.Gives.{Each, Along, Gives, weighed_gives, token_gives, chain_gives, ◌then_gives◌, made_gives, ◌or_gives◌, many_gives, run_gives, perhaps_gives, placed_gives, wider_gives, opened_gives, up_to_gives}

-- a token's form is that of its spelling, and its word can be written
pub record IsFair (Fit : Word → Type 0) (x : Lexeme) : Type 0 where
  pub named : is_bound_or_name x.class ≡ true → (named_class x.name ≡ x.class) × Fit (Word.named x.name)
  pub number : is_number x.class ≡ true → Fit (Word.numeral x.number)
  pub text : x.class ≡ class.Text → Fit (Word.quoted x.text)
  pub level : x.class ≡ class.Universe → Fit (Word.type_at (number_of x.number))
  pub hole : is_hole x.class ≡ true → Fit (Word.hole_named x.name)

-- ---- levels

wrapped_most : (b : Bool) (k l : ℕ) → suc k ≤ l → wrapped_need b k ≤ l
wrapped_most true k l h = omega arith
wrapped_most false k l h = h

wrapped_least : (b : Bool) (k l : ℕ) → wrapped_need b k ≤ l → k ≤ l
wrapped_least true k l h = h
wrapped_least false k l h = omega arith

-- what is an atom may stand before an arrow
app_least : (t : Tree) (k l : ℕ) → wrapped_need (is_atom t) k ≤ l → wrapped_need (is_app t) k ≤ l
app_least (the t e s) k l h = omega arith
app_least (apply f args s) k l h = omega arith
app_least (name n) k l h = h
app_least (number z s) k l h = h
app_least (text v s) k l h = h
app_least (universe i ls s) k l h = h
app_least (hole n s) k l h = h
app_least (pi c m n a b s) k l h = h
app_least (lambda bs t s) k l h = h
app_least (letting m n t e b s) k l h = h
app_least (doing ss s) k l h = h

domain_most : (b c : Bool) (k l : ℕ) → suc k ≤ l → cond b (wrapped_need c k) (suc k) ≤ l
domain_most true c k l h = wrapped_most c k l h
domain_most false c k l h = h

pub plain_case : (b : Bool) → (b ≡ true → false ≡ true) → b ≡ false
plain_case true h = absurd (let e = h refl in cc)
plain_case false h = refl

module _ (Fit : Word → Type 0) (wild : Fit (Word.named (codes "_"))) (pass : Pass) where
  abbrev pub Fair : Lexeme → Type 0
  Fair = IsFair Fit

  abbrev pub Holds : {A : Type 0} → Says A → (A → Type 0) → Type 0
  Holds P R = Gives Fair P R

  abbrev pub Formed : Tree → Type 0
  Formed = formed.Formed Fit pass

  abbrev pub Plain : Tree → Type 0
  Plain = formed.Plain

  abbrev pub Named : (Class → Bool) → List ℕ → Type 0
  Named = formed.Named Fit pass

  -- an expression, in tail position or not, that takes at most so many levels
  abbrev pub Expression : Bool → ℕ → Tree → Type 0
  Expression tail l t = Formed t × ((ends_in_hole t ≡ true → tail ≡ true) × (need t ≤ l))

  -- an expression one level inside
  abbrev pub Inside : Bool → ℕ → Tree → Type 0
  Inside tail l t = Formed t × ((ends_in_hole t ≡ true → tail ≡ true) × (suc (need t) ≤ l))

  abbrev Atomic : ℕ → Tree → Type 0
  Atomic l t = Formed t × (Plain t × (wrapped_need (is_atom t) (need t) ≤ l))

  abbrev Applied : ℕ → Tree → Type 0
  Applied l t = Formed t × (Plain t × (wrapped_need (is_app t) (need t) ≤ l))

  pub plain_of : (l : ℕ) (t : Tree) → Inside false l t → Plain t
  plain_of l t i = plain_case (ends_in_hole t) i.1.0

  -- ---- tokens

  pub symbol : (is : Class → Bool) → Holds (Symbol is) (λ s. Unit {0})
  symbol is = token_gives (of is) place (λ x f e. tt)

  pub named_token : (is : Class → Bool) → Among (of is) (of is_bound_or_name) →
      Holds (Token (of is) named_of) (λ n. (n.target ≡ Unknown) × Named is n.path)
  named_token is sub = token_gives (of is) named_of (λ x f e. let g = f.named (sub x e) in (refl, (ap is g.0 ∙ e, g.1)))

  pub locally : (is : Class → Bool) → Among (of is) (of is_bound_or_name) → Holds (Locally is) (λ n. Named is n.name)
  locally is sub = token_gives (of is) local_of (λ x f e. let g = f.named (sub x e) in (ap is g.0 ∙ e, g.1))

  any_mark : Holds IsMark (λ m. Unit {0})
  any_mark = perhaps_gives mult.Many tt (token_gives (of is_digit) (λ x. mult_of x.class) (λ x f e. tt))

  bname_named : Among (of is_bname) (of is_bound_or_name)
  bname_named = among is_bname is_bound_or_name refl

  pub name_named : Among (of is_name) (of is_bound_or_name)
  name_named = among is_name is_bound_or_name refl

  pub simple_named : Among (of is_simple) (of is_bound_or_name)
  simple_named = among is_simple is_bound_or_name refl

  word_formed : (c : Class) (x : Lexeme) (l : ℕ) → x.class ≡ c → is_word c ≡ true → word_excess pass c x ≡ None →
      Fair x → Atomic l (word_of c x)
  word_formed class.Zero x l e w o f = (f.number (ap is_number e), (refl, omega arith))
  word_formed class.One x l e w o f = (f.number (ap is_number e), (refl, omega arith))
  word_formed class.Natural x l e w o f = (f.number (ap is_number e), (refl, omega arith))
  word_formed class.Negative x l e w o f = (f.number (ap is_number e), (refl, omega arith))
  word_formed class.Text x l e w o f = ((excess_case _ _ _ o, f.text e), (refl, omega arith))
  word_formed class.Universe x l e w o f = ((excess_case _ _ _ o, f.level e), (refl, omega arith))
  word_formed _ x l e w o f = absurd cc

  -- ---- the level inside

  -- what is given one level inside a level that has so many
  pub record Inner_gives (inner : Level) (l : ℕ) : Type 0 where
    pub some : 1 ≤ l
    pub expr : (tail : Bool) → Holds (inner.expr tail) (Inside tail l)
    pub statement : (tail : Bool) →
        Holds (inner.statement tail)
        (λ s. formed.Statement_formed Fit pass s ×
        ((statement_in_hole s ≡ true → tail ≡ true) × (suc (need_statement s) ≤ l)))
    pub typing : Holds inner.typing (λ t. formed.Typing_formed Fit pass t × (suc (need t) ≤ l))
    pub binder : Holds inner.binder (λ b. formed.Binder_formed Fit pass b × (suc (need_binder b) ≤ l))
    pub pattern : Holds inner.pattern (λ p. formed.Shape_formed Fit pass p × (suc (need_shape p) ≤ l))
    pub other_pattern : Holds inner.other_pattern (λ p. formed.Shape_formed Fit pass p × (suc (need_shape p) ≤ l))

  -- ---- arguments

  abbrev Written_argument : ℕ → tree.Argument → Type 0
  Written_argument l a = (t : Tree) × ((a ≡ argument Written t) × Atomic l t)

  abbrev Braced_argument : ℕ → tree.Argument → Type 0
  Braced_argument l a = (t : Tree) × ((a ≡ argument Braced t) × Inside false l t)

  abbrev Arguments_fit : Bool → ℕ → List tree.Argument → Type 0
  Arguments_fit b l args = formed.Arguments_formed Fit pass b (arguments args) × (need_arguments (arguments args) ≤ l)

  written_fit : (b : Bool) (l : ℕ) (args : List tree.Argument) → Each (Written_argument l) args → Arguments_fit b l args
  written_fit b l [] e = (tt, omega arith)
  written_fit b l (a ∷ more) ((t, (is, f)), e) = let rest =
      written_fit false l more e in rw is (((f.0, f.1.0), rest.0), omega (arith, f.1.1, rest.1))

  braced_fit : (l : ℕ) (braces atoms : List tree.Argument) → Each (Braced_argument l) braces →
      Each (Written_argument l) atoms → Arguments_fit true l (braces ++ atoms)
  braced_fit l [] atoms e f = written_fit true l atoms f
  braced_fit l (a ∷ more) atoms ((t, (is, g)), e) f = let rest =
      braced_fit l more atoms e f in rw is ((refl, ((g.0, plain_of l t g), rest.0)), omega (arith, g.1.1, rest.1))

  app_fits : (l : ℕ) (s : Span) (f : Tree) (args : List tree.Argument) → Atomic l f →
      Arguments_fit (formed.is_named f) l args → Applied l (app_of s f args)
  app_fits l s f [] h g = (h.0, (h.1.0, app_least f (need f) l h.1.1))
  app_fits l s f (a ∷ more) h g = (((h.0, h.1.0), (refl, g.0)), (refl, omega (arith, h.1.1, g.1)))

  binders_fit : (l : ℕ) (bs : List Binder) → 1 ≤ l →
      Each (λ b. formed.Binder_formed Fit pass b × (suc (need_binder b) ≤ l)) bs →
      formed.Binders_formed Fit pass (binders bs) × (suc (need_binders (binders bs)) ≤ l)
  binders_fit l [] h e = (tt, h)
  binders_fit l (b ∷ more) h e = let rest = binders_fit l more h e.1 in ((e.0.0, rest.0), omega (arith, e.0.1, rest.1))

  abbrev Statement_fits : Bool → ℕ → Statement → Type 0
  Statement_fits tail l s =
      formed.Statement_formed Fit pass s ×
      ((statement_in_hole s ≡ true → tail ≡ true) × (suc (need_statement s) ≤ l))

  statements_fit : (tail : Bool) (l n : ℕ) (s : Statement) (more : List Statement) → Statement_fits tail l s →
      Along may_end may_go next_line
      (λ st u. (is_full pass quantity.Statements st.0 ≡ false) × Statement_fits tail l u)
      (n, standing_of s) more → formed.Statements_formed Fit pass n (statements (s ∷ more)) ×
      ((last_in_hole (statements (s ∷ more)) ≡ true → tail ≡ true) ×
      (suc (need_statements (statements (s ∷ more))) ≤ l))
  statements_fit tail l n s [] f e = ((f.0, e), (f.1.0, omega (arith, f.1.1)))
  statements_fit tail l n s (t ∷ more) f (go, ((full, g), e)) = let rest =
      statements_fit tail l (suc n) t more g e in
      ((f.0, (go, (full, rest.0))), (rest.1.0, omega (arith, f.1.1, rest.1.1)))

  -- what may stand behind an arrow
  abbrev Behind : ℕ → Option Tree → Type 0
  Behind l None = Unit {0}
  Behind l (Some u) = Inside false l u

  arrow_fits : (tail : Bool) (l : ℕ) (s : Span) (t : Tree) (o : Option Tree) → Applied l t → Behind l o →
      Expression tail l (arrow_of ((s, t), o))
  arrow_fits tail l s t None f b =
      (f.0, ((λ e. absurd (let p = f.1.0 in cc)), wrapped_least (is_app t) (need t) l f.1.1))
  arrow_fits tail l s t (Some u) f b =
      (((refl, wild), ((f.0, f.1.0), (b.0, plain_of l u b))), ((λ e. absurd cc), omega (arith, f.1.1, b.1.1)))

  pi_fits : (tail : Bool) (l : ℕ) (b : Binder) (r : Span) (u : Tree) →
      formed.Binder_formed Fit pass b × (need_binder b ≤ l) → Inside false l u →
      Expression tail l (pi_of (b, (r, u)))
  pi_fits tail l (plain n) r u f i = (i.0, ((λ e. absurd (let p = plain_of l u i in cc)), omega (arith, i.1.1)))
  pi_fits tail l (typed_binder m n t s) r u f i = (
    (f.0.0, (f.0.1, (i.0, plain_of l u i))),
    (
      (λ e. absurd cc),
      omega
          (arith, domain_most (is_unnamed Written m n.name) (is_app t) (need t) l f.1, i.1.1),
    ),
  )

  pub zero_of : (c : Class) → is_zero c ≡ true → mult_of c ≡ mult.Zero
  zero_of class.Zero e = refl
  zero_of _ e = absurd cc

  typing_of_formed : (t : Tree) → Formed t → Plain t → formed.Typing_formed Fit pass t
  typing_of_formed (pi Written m n a b s) f p = (f, p)
  typing_of_formed (pi Braced m n a b s) f p = absurd f
  typing_of_formed (pi Inserted m n a b s) f p = absurd f
  typing_of_formed (name n) f p = (f, p)
  typing_of_formed (number z s) f p = (f, p)
  typing_of_formed (text v s) f p = (f, p)
  typing_of_formed (universe i ls s) f p = (f, p)
  typing_of_formed (hole n s) f p = (f, p)
  typing_of_formed (the t e s) f p = (f, p)
  typing_of_formed (apply g args s) f p = (f, p)
  typing_of_formed (lambda bs t s) f p = (f, p)
  typing_of_formed (letting m n t e b s) f p = (f, p)
  typing_of_formed (doing ss s) f p = (f, p)

  constructor_named : Among (of is_constructor) (of is_bound_or_name)
  constructor_named = among is_constructor is_bound_or_name refl

  pattern_formed : (c : Class) (x : Lexeme) (l : ℕ) → x.class ≡ c → is_pattern_word c ≡ true → Fair x →
      formed.Shape_formed Fit pass (pattern_word c x) × (need_shape (pattern_word c x) ≤ l)
  pattern_formed class.Small x l e w f = let g =
      f.named (ap is_bound_or_name e) in ((refl, (ap (same class.Small) (g.0 ∙ e), g.1)), omega arith)
  pattern_formed class.Wildcard x l e w f = (refl, omega arith)
  pattern_formed _ x l e w f = absurd cc

  -- patterns, each below the count
  abbrev pub Parts_hold : ℕ → ℕ → Shape → Type 0
  Parts_hold l n p = (is_full pass quantity.Parts n ≡ false) ×
      (formed.Shape_formed Fit pass p × (suc (need_shape p) ≤ l))

  pub shapes_fit : (l n : ℕ) (ps : List Shape) → 1 ≤ l →
      Along (λ _. true) (λ _. true) (λ k _. suc k) (Parts_hold l) n ps →
      formed.Shapes_formed Fit pass n (shapes ps) × (suc (need_shapes (shapes ps)) ≤ l)
  shapes_fit l n [] h e = (tt, h)
  shapes_fit l n (p ∷ more) h (go, ((full, f), e)) = let rest =
      shapes_fit l (suc n) more h e in ((full, (f.0, rest.0)), omega (arith, f.1, rest.1))

  counted_holds : (l : ℕ) (P : Says Shape) →
      Holds P (λ p. formed.Shape_formed Fit pass p × (suc (need_shape p) ≤ l)) →
      Holds (Counted pass quantity.Parts 0 P) (Along (λ _. true) (λ _. true) (λ k _. suc k) (Parts_hold l) 0)
  counted_holds l P p = run_gives _ _ _ _ _ (λ n. up_to_gives pass quantity.Parts n p) 0

  group_fits : (l : ℕ) (n : named_code.Named) (ps : List Shape) (s : Span) → 1 ≤ l →
      (n.target ≡ Unknown) × Named is_constructor n.path →
      Along (λ _. true) (λ _. true) (λ k _. suc k) (Parts_hold l) 0 ps →
      formed.Shape_formed Fit pass (group_of (n, ps) s) × (need_shape (group_of (n, ps) s) ≤ l)
  group_fits l n [] s h f e = ((refl, (f.0, (f.1, tt))), omega arith)
  group_fits l n (p ∷ ps) s h f e = let all = shapes_fit l 0 (p ∷ ps) h e in ((refl, (f.0, (f.1, all.0))), all.1)

  -- ---- productions

  module _ (may : Bool) (inner : Level) (l : ℕ) (inside : may ≡ true → Inner_gives inner l) where
    typed_holds : Holds (Typed pass may inner) (λ b. formed.Binder_formed Fit pass b × (need_binder b ≤ l))
    typed_holds =
        made_gives typed_of (opened_gives may is_left_paren
        (λ m. any_mark then_gives locally is_bname bname_named then_gives symbol is_colon then_gives
        (inside m).expr false then_gives symbol is_right_paren))
        (λ a r. ((r.1.0, (r.1.1.1.0.0, plain_of l a.1.1.1.1.0 r.1.1.1.0)), r.1.1.1.0.1.1))

    binder_holds : Holds (IsBinder pass may inner) (λ b. formed.Binder_formed Fit pass b × (need_binder b ≤ l))
    binder_holds = made_gives plain (locally is_bname bname_named) (λ a r. (r, omega arith)) or_gives typed_holds

    lambda_holds : (tail : Bool) → Holds (Lambda pass may inner tail) (Expression tail l)
    lambda_holds tail =
        made_gives lambda_of (opened_gives may is_backslash
        (λ m. ((inside m).binder then_gives many_gives (inside m).binder) then_gives symbol is_fat_arrow
        then_gives (inside m).expr tail))
        (λ a r. let more = binders_fit l a.1.0.1 (omega (arith, r.0.0.1)) r.0.1 in
        ((refl, ((r.0.0.0, more.0), r.1.1.0)), (r.1.1.1.0, omega (arith, r.0.0.1, more.1, r.1.1.1.1))))

    -- ---- `let`

    annotation_holds : may ≡ true →
        Holds (IsAnnotation pass may inner)
        (λ t. formed.Annotation_formed Fit pass t × (suc (need_annotation t) ≤ l))
    annotation_holds m = perhaps_gives untyped (tt, (inside m).some)
        (made_gives annotation_of (symbol is_colon then_gives (inside m).expr false)
        (λ a r. ((r.1.0, plain_of l a.1 r.1), r.1.1.1)))

    abbrev Head_holds : LetParts → Type 0
    Head_holds h = (may ≡ true) ×
        (Named is_bname h.1.1.0.name ×
        ((formed.Annotation_formed Fit pass h.1.1.1.0 × (suc (need_annotation h.1.1.1.0) ≤ l)) ×
        Inside false l h.1.1.1.1))

    head_holds : Holds (LetHead pass may inner) Head_holds
    head_holds =
        made_gives let_parts (opened_gives may is_let
        (λ m. wider_gives {S = λ c. (may ≡ true) ×
        (Named is_bname c.1.0.name ×
        ((formed.Annotation_formed Fit pass c.1.1.0 × (suc (need_annotation c.1.1.0) ≤ l)) ×
        Inside false l c.1.1.1.1))} (λ a r. (m, (r.1.0, (r.1.1.0, r.1.1.1.1))))
        (any_mark then_gives locally is_bname bname_named then_gives annotation_holds m then_gives symbol
        is_equals then_gives (inside m).expr false)))
        (λ a r. r)

    letting_holds : (tail : Bool) → Holds (Letting pass may inner tail) (Expression tail l)
    letting_holds tail =
        made_gives let_of (chain_gives (λ _. Symbol is_in then inner.expr tail) head_holds
        (λ h r. symbol is_in then_gives (inside r.0).expr tail))
        (λ a r. (
          (r.0.1.0, (r.0.1.1.0.0, ((r.0.1.1.1.0, plain_of l a.0.1.1.1.1 r.0.1.1.1), r.1.1.0))),
          (r.1.1.1.0, omega (arith, r.0.1.1.0.1, r.0.1.1.1.1.1, r.1.1.1.1)),
        ))

    -- ---- blocks

    lines_holds : (tail : Bool) → may ≡ true →
        (s : Line) → Holds (Lines pass may inner tail s)
        (Along may_end may_go next_line
        (λ st u. (is_full pass quantity.Statements st.0 ≡ false) × Statement_fits tail l u) s)
    lines_holds tail m s = run_gives may_end may_go next_line _ _
        (λ st. made_gives next_of
        (symbol is_next then_gives up_to_gives pass quantity.Statements st.0 ((inside m).statement tail))
        (λ a r. r.1)) s

    doing_holds : (tail : Bool) → Holds (Doing pass may inner tail) (Expression tail l)
    doing_holds tail =
        made_gives do_of (opened_gives may is_do
        (λ m. symbol is_open then_gives chain_gives (λ s. Lines pass may inner tail (1, standing_of s))
        ((inside m).statement tail) (λ s r. lines_holds tail m (1, standing_of s)) then_gives symbol
        is_close))
        (λ a r. let all = statements_fit tail l 1 a.1.1.0.0 a.1.1.0.1 r.1.0.0 r.1.0.1 in (all.0, (all.1.0, all.1.1)))

    -- ---- applications

    bracket_holds : Holds (Bracket pass may inner) (Atomic l)
    bracket_holds = made_gives bracket_of
        (opened_gives may is_left_paren (λ m. (inside m).expr false then_gives symbol is_right_paren))
        (λ a r. (r.0.0, (plain_of l a.1.0 r.0, wrapped_most (is_atom a.1.0) (need a.1.0) l r.0.1.1)))

    other_atom_holds : Holds (OtherAtom pass may inner) (Atomic l)
    other_atom_holds = weighed_gives (excess_of pass) (of is_word) (λ x. word_of x.class x)
        (λ x f e o. word_formed x.class x l refl e o f) or_gives bracket_holds

    atom_holds : Holds (IsAtom pass may inner) (Atomic l)
    atom_holds = made_gives name (named_token is_name name_named) (λ a r. (r, (refl, omega arith))) or_gives
        other_atom_holds

    atoms_hold : Holds (Atoms pass may inner) (Each (Written_argument l))
    atoms_hold = many_gives (made_gives written_of atom_holds (λ a r. (a, (refl, r))))

    brace_holds : Holds (Brace pass may inner) (Braced_argument l)
    brace_holds = made_gives braced_of
        (opened_gives may is_left_brace (λ m. (inside m).expr false then_gives symbol is_right_brace))
        (λ a r. (a.1.0, (refl, r.0)))

    the_holds : Holds (The pass may inner) (Applied l)
    the_holds = made_gives the_of (symbol is_the then_gives atom_holds then_gives atom_holds)
        (λ a r. (((r.1.0.0, r.1.0.1.0), (r.1.1.0, r.1.1.1.0)), (refl, omega (arith, r.1.0.1.1, r.1.1.1.1))))

    named_app_holds : Holds (NamedApp pass may inner) (Applied l)
    named_app_holds = made_gives named_app_of
        (named_token is_name name_named then_gives many_gives brace_holds then_gives atoms_hold)
        (λ a r. app_fits l a.0.span (name a.0) (a.1.0 ++ a.1.1) (r.0, (refl, omega arith))
        (braced_fit l a.1.0 a.1.1 r.1.0 r.1.1))

    other_app_holds : Holds (OtherApp pass may inner) (Applied l)
    other_app_holds = made_gives other_app_of (placed_gives (other_atom_holds then_gives atoms_hold))
        (λ a r. app_fits l a.0 a.1.0 a.1.1 r.0 (written_fit (formed.is_named a.1.0) l a.1.1 r.1))

    app_holds : Holds (IsApp pass may inner) (Applied l)
    app_holds = the_holds or_gives named_app_holds or_gives other_app_holds

    -- ---- functions and holes

    arrow_holds : (tail : Bool) → Holds (Arrow pass may inner) (Expression tail l)
    arrow_holds tail = made_gives arrow_of
        (placed_gives app_holds then_gives perhaps_gives {R = Behind l} None tt
        (made_gives {S = Behind l} behind_of (opened_gives may is_arrow (λ m. (inside m).expr false)) (λ a r. r)))
        (λ a r. arrow_fits tail l a.0.0 a.0.1 a.1 r.0 r.1)

    pi_holds : (tail : Bool) → Holds (Pi pass may inner) (Expression tail l)
    pi_holds tail = made_gives pi_of
        (typed_holds then_gives opened_gives may is_arrow (λ m. (inside m).expr false))
        (λ a r. pi_fits tail l a.0 a.1.0 a.1.1 r.0 r.1)

    hole_holds : (tail : Bool) → Holds (Hole pass may inner tail) (Expression tail l)
    hole_holds tail = token_gives (opens tail (of is_hole)) (λ x. hole x.name x.place)
        (λ x f e. let both = opens_both tail (of is_hole x) e in (f.hole both.1, ((λ h. both.0), omega arith)))

    other_holds : (tail : Bool) → Holds (OtherExpr pass may inner tail) (Expression tail l)
    other_holds tail = hole_holds tail or_gives lambda_holds tail or_gives doing_holds tail or_gives pi_holds tail
        or_gives arrow_holds tail

    expr_holds : (tail : Bool) → Holds (IsExpr pass may inner tail) (Expression tail l)
    expr_holds tail = letting_holds tail or_gives other_holds tail

    -- ---- statements and types

    abbrev After : Bool → Option Tree → Type 0
    After tail None = Unit {0}
    After tail (Some u) = Inside tail l u

    after_fits : (tail : Bool) (h : LetParts) (o : Option Tree) → Head_holds h → After tail o →
        formed.Statement_formed Fit pass (let_statement_of (h, o)) ×
        ((statement_in_hole (let_statement_of (h, o)) ≡ true → tail ≡ true) ×
        (need_statement (let_statement_of (h, o)) ≤ l))
    after_fits tail h None r u = (
      (r.1.0, (r.1.1.0.0, (r.1.1.1.0, plain_of l h.1.1.1.1 r.1.1.1))),
      ((λ e. absurd cc), omega (arith, r.1.1.0.1, r.1.1.1.1.1)),
    )
    after_fits tail h (Some u) r i = (
      (r.1.0, (r.1.1.0.0, ((r.1.1.1.0, plain_of l h.1.1.1.1 r.1.1.1), i.0))),
      (i.1.0, omega (arith, r.1.1.0.1, r.1.1.1.1.1, i.1.1)),
    )

    statement_holds : (tail : Bool) →
        Holds (IsStatement pass may inner tail)
        (λ s. formed.Statement_formed Fit pass s ×
        ((statement_in_hole s ≡ true → tail ≡ true) × (need_statement s ≤ l)))
    statement_holds tail =
        made_gives let_statement_of
        (chain_gives (λ _. Perhaps None (Making after_in (Symbol is_in then inner.expr tail))) head_holds
        (λ h r. perhaps_gives {R = After tail} None tt
        (made_gives {S = After tail} after_in (symbol is_in then_gives (inside r.0).expr tail) (λ a q. q.1))))
        (λ a r. after_fits tail a.0 a.1 r.0 r.1)
        or_gives made_gives bind_of
        (locally is_bname bname_named then_gives symbol is_left_arrow then_gives expr_holds false)
        (λ a r. ((r.0, (r.1.1.0, plain_case (ends_in_hole a.1.1) r.1.1.1.0)), ((λ e. absurd cc), r.1.1.1.1)))
        or_gives made_gives run_of (placed_gives (other_holds tail)) (λ a r. r)

    implicit_holds : Holds (Implicit pass may inner) (λ t. formed.Typing_formed Fit pass t × (need t ≤ l))
    implicit_holds =
        made_gives implicit_of (opened_gives may is_left_brace
        (λ m. token_gives {R = λ k. k ≡ mult.Zero} (of is_zero) (λ x. mult_of x.class)
        (λ x f e. zero_of x.class e) then_gives locally is_simple simple_named then_gives symbol is_colon
        then_gives (inside m).expr false then_gives symbol is_right_brace then_gives opened_gives may is_arrow
        (λ n. (inside n).typing)))
        (λ a r. (
          (r.0, (r.1.0, ((r.1.1.1.0.0, plain_of l a.1.1.1.1.0 r.1.1.1.0), r.1.1.1.1.1.0))),
          omega (arith, r.1.1.1.0.1.1, r.1.1.1.1.1.1),
        ))

    typing_holds : Holds (IsTyping pass may inner) (λ t. formed.Typing_formed Fit pass t × (need t ≤ l))
    typing_holds = implicit_holds or_gives wider_gives
        (λ t r. (typing_of_formed t r.0 (plain_case (ends_in_hole t) r.1.0), r.1.1)) (expr_holds false)

    -- ---- patterns

    abbrev Pattern_holds : Shape → Type 0
    Pattern_holds p = formed.Shape_formed Fit pass p × (need_shape p ≤ l)

    within_holds : may ≡ true → Holds (grammar.Inside pass may inner) (λ f. (s : Span) → Pattern_holds (f s))
    within_holds m =
        made_gives group_of (named_token is_constructor constructor_named then_gives counted_holds l inner.pattern
        (inside m).pattern) (λ a r s. group_fits l a.0 a.1 s (inside m).some r.0 r.1)
        or_gives made_gives nested_of (inside m).other_pattern (λ a r s. (r.0, omega (arith, r.1)))

    bracketed_holds : Holds (Bracketed pass may inner) Pattern_holds
    bracketed_holds = made_gives bracketed_of
        (opened_gives may is_left_paren (λ m. within_holds m then_gives symbol is_right_paren)) (λ a r. r.0 a.0)

    dot_holds : Holds (Dot pass may inner) Pattern_holds
    dot_holds = made_gives dot_of
        (opened_gives may is_dot_paren (λ m. (inside m).expr false then_gives symbol is_right_paren))
        (λ a r. ((refl, (r.0.0, plain_of l a.1.0 r.0)), r.0.1.1))

    other_pattern_holds : Holds (OtherPattern pass may inner) Pattern_holds
    other_pattern_holds = token_gives (of is_pattern_word) (λ x. pattern_word x.class x)
        (λ x f e. pattern_formed x.class x l refl e f) or_gives dot_holds or_gives bracketed_holds

    pattern_holds : Holds (IsPattern pass may inner) Pattern_holds
    pattern_holds = made_gives bare_of (named_token is_constructor constructor_named)
        (λ a r. ((refl, (r.0, (r.1, tt))), omega arith)) or_gives other_pattern_holds

    level_holds : Inner_gives (Shape_of pass may inner) (suc l)
    level_holds = record {
      some = omega arith;
      expr = λ tail. wider_gives (λ t r. (r.0, (r.1.0, omega (arith, r.1.1)))) (expr_holds tail);
      statement = λ tail. wider_gives (λ t r. (r.0, (r.1.0, omega (arith, r.1.1)))) (statement_holds tail);
      typing = wider_gives (λ t r. (r.0, omega (arith, r.1))) typing_holds;
      binder = wider_gives (λ b r. (r.0, omega (arith, r.1))) binder_holds;
      pattern = wider_gives (λ t r. (r.0, omega (arith, r.1))) pattern_holds;
      other_pattern = wider_gives (λ t r. (r.0, omega (arith, r.1))) other_pattern_holds;
    }

  pub levels_hold : (d : ℕ) → Inner_gives (levels pass d) (suc d)
  unfolding levels
  levels_hold zero = level_holds false Simple_level 0 (λ e. absurd cc)
  levels_hold (suc d) = level_holds true (levels pass d) (suc d) (λ e. levels_hold d)
