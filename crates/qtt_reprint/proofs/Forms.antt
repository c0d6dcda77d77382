-- The productions of a level, each said by its printed words where its parts are.
use Rattle.std.proofs.Common.{◌≡◌, ℕ, pos, Bool, true, false, List, [], ◌∷◌, ◌++◌, Option, Some, None, refl, sym, ap, ◌∙◌, codes, eqb}
use Rattle.std.proofs.lemmas.List.{append-nil}
use Rattle.std.proofs.lemmas.Slice.Eq.{bytes_eq-Decides}
use Rattle.std.specs.Cmp.Lexicographic.{pointwise}
use Rattle.qtt_base.specs.declared.place.Span.{Span}
use Rattle.qtt_usage.specs.declared.mult.Mult.{Mult}
use Rattle.qtt_usage.specs.declared.mult.Mult.TheVariants as mult
use Rattle.qtt_syntax.specs.declared.expr.Mark.TheVariants.{Written, Braced}
use Rattle.qtt_syntax.specs.declared.expr.Target.TheVariants.{Unknown}
use Rattle.qtt_syntax.specs.declared.expr.Named as named_code
use Rattle.qtt_syntax.specs.declared.expr.Local.{Local}
use Rattle.qtt_syntax.specs.Tree as tree
use Rattle.qtt_syntax.specs.Tree.{Tree, Annotation, Arguments, Binder, Binders, Statement, Statements, arguments, binders, statements}
use Rattle.qtt_syntax.specs.Tree.Tree.{name, the, apply, pi, lambda, letting, doing}
use Rattle.qtt_syntax.specs.Tree.Annotation.{untyped, typed}
use Rattle.qtt_syntax.specs.Tree.Argument.{argument}
use Rattle.qtt_syntax.specs.Tree.Arguments.{no_argument, argument_and}
use Rattle.qtt_syntax.specs.Tree.Binder.{plain, typed_binder}
use Rattle.qtt_syntax.specs.Tree.Statement.{bind, local, run}
use Rattle.qtt_phrase.specs.Phrase.{◌then◌, Many, Some_of, Placed}
use Rattle.qtt_grammar.specs.declared.class.Class.TheVariants as class
use Rattle.qtt_grammar.specs.declared.class.Pass.{Pass}
use Rattle.qtt_grammar.specs.Classes.{is_open, is_close, is_do, is_let, is_in, is_the, is_left_paren, is_right_paren, is_arrow, is_left_arrow, is_fat_arrow, is_colon, is_equals, is_backslash, is_left_brace, is_right_brace, is_name, is_simple, is_bname}
use Rattle.qtt_grammar.specs.declared.lexeme.Lexeme.{Lexeme}
use Rattle.qtt_grammar.specs.Grammar.{Says, place, Level, typed_of, lambda_of, annotation_of, let_parts, LetParts, let_of, after_in, let_statement_of, bind_of, run_of, do_of, bracket_of, braced_of, the_of, app_of, named_app_of, other_app_of, behind_of, arrow_of, pi_of, implicit_of, Typed, IsBinder, Lambda, IsAnnotation, LetHead, Letting, Block, Doing, Bracket, OtherAtom, IsAtom, Atoms, Brace, IsApp, Arrow, Pi, OtherExpr, IsExpr, IsStatement, Implicit}
use Rattle.qtt_reprint.specs.Sketch.{nowhere, named_class}
use Rattle.qtt_reprint.specs.Unplaced.{bare, bare_local, bare_annotation, bare_argument, bare_arguments, bare_binder, bare_binders, bare_statement, bare_statements}
use Rattle.qtt_reprint.proofs.Prints.{Prints, words_are, ◌then_prints◌, made, first_of, second_of, many_none, nothing, something, placed}
use Rattle.qtt_reprint.proofs.Tokens.{symbol, opening, local_named, locally, any_mark, zero_token, named_token}
use Rattle.qtt_reprint.proofs.Saying.{mark, named, numeral, wrapped, say_mark, say_typed, say_braced}

-- the same tree but for places
abbrev pub Same : Tree → Tree → Type 0
Same t u = bare u ≡ bare t

abbrev pub SameAnnotation : Annotation → Annotation → Type 0
SameAnnotation t u = bare_annotation u ≡ bare_annotation t

abbrev pub SameStatement : Statement → Statement → Type 0
SameStatement s u = bare_statement u ≡ bare_statement s

-- these are the arguments
abbrev pub SameArguments : Arguments → List tree.Argument → Type 0
SameArguments args l = bare_arguments (arguments l) ≡ bare_arguments args

abbrev pub SameBinders : Binders → List Binder → Type 0
SameBinders bs l = bare_binders (binders l) ≡ bare_binders bs

pub record Some_words (ws : List Lexeme) : Type 0 where
  pub head : Lexeme
  pub rest : List Lexeme
  pub are : ws ≡ head ∷ rest

pub placed_words : {A : Type 0} {P : Says A} {R : A → Type 0} {ws : List Lexeme} → Some_words ws → Prints P ws R →
    Prints (Placed place P) ws (λ c. R c.1)
placed_words s p = words_are (sym s.are) (placed (words_are s.are p))

-- there is one
pub record Some_arguments (args : Arguments) : Type 0 where
  pub head : tree.Argument
  pub rest : Arguments
  pub are : args ≡ argument_and head rest

-- this tree is there
abbrev pub Is_behind : Tree → Option Tree → Type 0
Is_behind b o = (v : Tree) × ((o ≡ Some v) × Same b v)

-- ---- what the values are

app_value : (l : List tree.Argument) (s : Span) (f g : Tree) (args : Arguments) → Same g f →
    bare_arguments (arguments l) ≡ bare_arguments args → Some_arguments args →
    bare (app_of s f l) ≡ apply (bare g) (bare_arguments args) nowhere
app_value [] s f g no_argument e h k = absurd (let z = k.are in cc)
app_value [] s f g (argument_and a more) e h k = absurd cc
app_value (a ∷ l) s f g args e h k = let x = e in let y = h in cc

app_none : (l : List tree.Argument) (s : Span) (f : Tree) → l ≡ [] → app_of s f l ≡ f
app_none l s f e = rw e refl

pi_value : (b : Binder) (s : Span) (u : Tree) (m : Mult) (n : List ℕ) (x y : Tree) →
    bare_binder b ≡ typed_binder m (local_named n) x nowhere → bare u ≡ y →
    bare (pi_of (b, (s, u))) ≡ pi Written m n x y nowhere
pi_value (plain l) s u m n x y e f = absurd cc
pi_value (typed_binder k l t r) s u m n x y e f =
    let g : bare_local l ≡ local_named n = cc in
    let h = ap (λ (z : Local). z.name) g in
    cc

pub same_names : (n m : List ℕ) → pointwise eqb n m ≡ true → n ≡ m
same_names n m e = (bytes_eq-Decides n m).0 e

module _ (pass : Pass) (inner : Level) where
  -- ---- binders

  pub typed_words : (m : Mult) (n : List ℕ) (t : Tree) (s : Span) (l : Span) (ws : List Lexeme) →
      is_bname (named_class n) ≡ true → Prints (inner.expr false) ws (Same t) →
      Prints (Typed pass true inner) (say_typed m n ws)
      (λ b. bare_binder b ≡ typed_binder m (local_named n) (bare t) nowhere)
  typed_words m n t s l ws e p =
      made typed_of (opening is_left_paren class.LeftParen refl then_prints any_mark m then_prints locally
      is_bname n e then_prints symbol is_colon class.Colon refl then_prints p then_prints symbol
      is_right_paren class.RightParen refl) (λ a r. let x = r.1.0 in let y = r.1.1.0 in let z =
      r.1.1.1.1.0 in cc)

  pub plain_words : (may : Bool) (n : Local) → is_bname (named_class n.name) ≡ true →
      Prints (IsBinder pass may inner) (named n.name ∷ []) (λ b. bare_binder b ≡ plain (bare_local n))
  plain_words may n e = first_of (made plain (locally is_bname n.name e) (λ a r. let x = r in cc))

  pub lambda_words : (tail : Bool) (bs : Binders) (t : Tree) (s : Span) (us ws : List Lexeme) →
      Prints (Some_of inner.binder) us (λ p. SameBinders bs (p.0 ∷ p.1)) → Prints (inner.expr tail) ws (Same t) →
      Prints (Lambda pass true inner tail) (mark class.Backslash ∷ (us ++ mark class.FatArrow ∷ ws))
      (Same (lambda bs t s))
  lambda_words tail bs t s us ws p q =
      made lambda_of (opening is_backslash class.Backslash refl then_prints p then_prints symbol is_fat_arrow
      class.FatArrow refl then_prints q) (λ a r. let x = r.1.0 in let y = r.1.1.1 in cc)

  -- ---- `let`

  pub untyped_words : (may : Bool) → Prints (IsAnnotation pass may inner) [] (SameAnnotation untyped)
  untyped_words may = nothing untyped refl

  pub annotation_words : (may : Bool) (t : Tree) (ws : List Lexeme) → Prints (inner.expr false) ws (Same t) →
      Prints (IsAnnotation pass may inner) (mark class.Colon ∷ ws) (SameAnnotation (typed t))
  annotation_words may t ws p =
      something (made annotation_of (symbol is_colon class.Colon refl then_prints p) (λ a r. let x = r.1 in cc))

  -- the parts of a `let`
  abbrev pub SameParts : Mult → List ℕ → Annotation → Tree → LetParts → Type 0
  SameParts m n t e h = (h.1.0 ≡ m) ×
      ((bare_local h.1.1.0 ≡ local_named n) × (SameAnnotation t h.1.1.1.0 × Same e h.1.1.1.1))

  pub let_words : (m : Mult) (n : List ℕ) (t : Annotation) (e : Tree) (us ws : List Lexeme) →
      is_bname (named_class n) ≡ true → Prints (IsAnnotation pass true inner) us (SameAnnotation t) →
      Prints (inner.expr false) ws (Same e) →
      Prints (LetHead pass true inner) (mark class.Let ∷ (say_mark m ++ named n ∷ (us ++ mark class.Equals ∷ ws)))
      (SameParts m n t e)
  let_words m n t e us ws h p q =
      made let_parts (opening is_let class.Let refl then_prints any_mark m then_prints locally is_bname n h
      then_prints p then_prints symbol is_equals class.Equals refl then_prints q)
      (λ a r. (r.1.0, (r.1.1.0, (r.1.1.1.0, r.1.1.1.1.1))))

  pub letting_words : (tail : Bool) (m : Mult) (n : Local) (t : Annotation) (e b : Tree) (s : Span)
      (us ws : List Lexeme) → Prints (LetHead pass true inner) us (SameParts m n.name t e) →
      Prints (inner.expr tail) ws (Same b) →
      Prints (Letting pass true inner tail) (us ++ mark class.In ∷ ws) (Same (letting m n t e b s))
  letting_words tail m n t e b s us ws p q =
      made let_of (p then_prints symbol is_in class.In refl then_prints q)
      (λ a r. let x = r.0.0 in let y = r.0.1.0 in let z = r.0.1.1.0 in let u = r.0.1.1.1 in let v = r.1.1 in
      cc)

  -- ---- brackets, braces and blocks

  pub bracket_words : (t : Tree) (ws : List Lexeme) → Prints (inner.expr false) ws (Same t) →
      Prints (Bracket pass true inner) (wrapped false ws) (Same t)
  bracket_words t ws p = made bracket_of
      (opening is_left_paren class.LeftParen refl then_prints p then_prints symbol is_right_paren class.RightParen
      refl) (λ a r. r.1.0)

  pub brace_words : (t : Tree) (ws : List Lexeme) → Prints (inner.expr false) ws (Same t) →
      Prints (Brace pass true inner) (say_braced ws) (λ a. bare_argument a ≡ argument Braced (bare t))
  brace_words t ws p = made braced_of
      (opening is_left_brace class.LeftBrace refl then_prints p then_prints symbol is_right_brace class.RightBrace
      refl) (λ a r. ap (λ (u : Tree). argument Braced u) r.1.0)

  pub doing_words : (tail : Bool) (ss : Statements) (s : Span) (ws : List Lexeme) →
      Prints (Block pass true inner tail) ws (λ p. bare_statements (statements (p.0 ∷ p.1)) ≡ bare_statements ss)
      → Prints (Doing pass true inner tail) (mark class.Do ∷ mark class.Open ∷ (ws ++ mark class.Close ∷ []))
      (Same (doing ss s))
  doing_words tail ss s ws p =
      made do_of (opening is_do class.Do refl then_prints symbol is_open class.Open refl then_prints p then_prints
      symbol is_close class.Close refl) (λ a r. let x = r.1.1.0 in cc)

  -- ---- applications

  module _ (may : Bool) where
    pub the_words : (t e : Tree) (s : Span) (us ws : List Lexeme) → Prints (IsAtom pass may inner) us (Same t) →
        Prints (IsAtom pass may inner) ws (Same e) →
        Prints (IsApp pass may inner) (mark class.The ∷ (us ++ ws)) (Same (the t e s))
    the_words t e s us ws p q =
        first_of (made the_of (symbol is_the class.The refl then_prints p then_prints q)
        (λ a r. let x = r.1.0 in let y = r.1.1 in cc))

    pub named_app_words : (n : named_code.Named) (args : Arguments) (s : Span) (ws : List Lexeme) →
        n.target ≡ Unknown → is_name (named_class n.path) ≡ true → Some_arguments args →
        Prints (Many (Brace pass may inner) then Atoms pass may inner) ws (λ p. SameArguments args (p.0 ++ p.1)) →
        Prints (IsApp pass may inner) (named n.path ∷ ws) (Same (apply (name n) args s))
    named_app_words n args s ws g h k p =
        second_of (first_of (made named_app_of (named_token is_name n g h then_prints p)
        (λ a r. app_value (a.1.0 ++ a.1.1) a.0.span (name a.0) (name n) args (ap name r.0) r.1 k)))

    pub other_app_words : (f : Tree) (args : Arguments) (s : Span) (us ws : List Lexeme) → Some_words (us ++ ws) →
        Some_arguments args → Prints (OtherAtom pass may inner) us (Same f) →
        Prints (Atoms pass may inner) ws (SameArguments args) →
        Prints (IsApp pass may inner) (us ++ ws) (Same (apply f args s))
    other_app_words f args s us ws w k p q =
        second_of (second_of (made other_app_of (placed_words w (p then_prints q))
        (λ a r. app_value a.1.1 a.0 a.1.0 f args r.0 r.1 k)))

    pub name_words : (n : named_code.Named) → n.target ≡ Unknown → is_name (named_class n.path) ≡ true →
        Prints (IsApp pass may inner) (named n.path ∷ []) (Same (name n))
    name_words n g h =
        second_of (first_of (made named_app_of
        (named_token is_name n g h then_prints many_none {R = λ l. l ≡ []} refl then_prints many_none
        {R = λ l. l ≡ []} refl)
        (λ a r. ap bare (app_none (a.1.0 ++ a.1.1) a.0.span (name a.0)
        (let x = r.1.0 in let y = r.1.1 in rw (x, y) refl)) ∙ ap name r.0)))

    pub atom_app_words : (t : Tree) (ws : List Lexeme) → Some_words ws →
        Prints (OtherAtom pass may inner) ws (Same t) → Prints (IsApp pass may inner) ws (Same t)
    atom_app_words t ws w p =
        second_of (second_of (made other_app_of
        (placed_words w (words_are (append-nil ws) (p then_prints many_none {R = λ l. l ≡ []} refl)))
        (λ a r. ap bare (app_none a.1.1 a.0 a.1.0 r.1) ∙ r.0)))

    -- ---- arrows

    pub app_words : (t : Tree) (ws : List Lexeme) → Some_words ws → Prints (IsApp pass may inner) ws (Same t) →
        Prints (Arrow pass may inner) ws (Same t)
    app_words t ws w p =
        made arrow_of (words_are (append-nil ws)
        (placed_words w p then_prints nothing {R = λ o. o ≡ None} None refl))
        (λ a r. arrow_value a.0.0 a.0.1 t a.1 r.0 r.1)
      where
        arrow_value : (s : Span) (u t : Tree) (o : Option Tree) → Same t u → o ≡ None → Same t (arrow_of ((s, u), o))
        arrow_value s u t o e f = rw f e

  pub arrow_words : (a b : Tree) (s : Span) (us ws : List Lexeme) → Some_words us →
      Prints (IsApp pass true inner) us (Same a) → Prints (inner.expr false) ws (Same b) →
      Prints (Arrow pass true inner) (us ++ mark class.Arrow ∷ ws) (Same (pi Written mult.Many (codes "_") a b s))
  arrow_words a b s us ws w p q =
      made arrow_of (placed_words w p then_prints something
      (made {S = λ o. Is_behind b o} behind_of (opening is_arrow class.Arrow refl then_prints q)
      (λ c r. (c.1, (refl, r.1))))) (λ c r. arrow_value c.0.0 c.0.1 c.1 r.0 r.1)
    where
      arrow_value : (s : Span) (u : Tree) (o : Option Tree) → Same a u → Is_behind b o →
          bare (arrow_of ((s, u), o)) ≡ pi Written mult.Many (codes "_") (bare a) (bare b) nowhere
      arrow_value s u o e (v, (f, g)) = rw f (let x = e in let y = g in cc)

  pub pi_words : (m : Mult) (n : List ℕ) (a b : Tree) (s : Span) (us ws : List Lexeme) →
      Prints (Typed pass true inner) us (λ c. bare_binder c ≡ typed_binder m (local_named n) (bare a) nowhere) →
      Prints (inner.expr false) ws (Same b) →
      Prints (Pi pass true inner) (us ++ mark class.Arrow ∷ ws) (Same (pi Written m n a b s))
  pi_words m n a b s us ws p q =
      made pi_of (p then_prints opening is_arrow class.Arrow refl then_prints q)
      (λ c r. pi_value c.0 c.1.0 c.1.1 m n (bare a) (bare b) r.0 r.1.1)

  pub implicit_words : (n : List ℕ) (a b : Tree) (s : Span) (us ws : List Lexeme) →
      is_simple (named_class n) ≡ true → Prints (inner.expr false) us (Same a) → Prints inner.typing ws (Same b) →
      Prints (Implicit pass true inner)
      (mark class.LeftBrace ∷ numeral (pos 0) ∷ named n ∷ mark class.Colon ∷
      (us ++ mark class.RightBrace ∷ mark class.Arrow ∷ ws)) (Same (pi Braced mult.Zero n a b s))
  implicit_words n a b s us ws e p q =
      made implicit_of (opening is_left_brace class.LeftBrace refl then_prints zero_token then_prints locally
      is_simple n e then_prints symbol is_colon class.Colon refl then_prints p then_prints symbol
      is_right_brace class.RightBrace refl then_prints opening is_arrow class.Arrow refl then_prints q)
      (λ c r. let x = r.1.0 in let y = ap (λ (z : Local). z.name) r.1.1.0 in let z = r.1.1.1.1.0 in
      let u = r.1.1.1.1.1.1.1 in cc)

  -- ---- statements

  module _ (may tail : Bool) where
    pub bind_words : (n : Local) (e : Tree) (ws : List Lexeme) → is_bname (named_class n.name) ≡ true →
        Prints (IsExpr pass may inner false) ws (Same e) →
        Prints (IsStatement pass may inner tail) (named n.name ∷ mark class.LeftArrow ∷ ws)
        (SameStatement (bind n e))
    bind_words n e ws h p = second_of
        (first_of (made bind_of
        (locally is_bname n.name h then_prints symbol is_left_arrow class.LeftArrow refl then_prints p)
        (λ a r. let x = r.0 in let y = r.1.1 in cc)))

    pub run_words : (t : Tree) (s : Span) (ws : List Lexeme) → Some_words ws →
        Prints (OtherExpr pass may inner tail) ws (Same t) →
        Prints (IsStatement pass may inner tail) ws (SameStatement (run t s))
    run_words t s ws w p = second_of
        (second_of (made run_of (placed_words w p) (λ a r. ap (λ (u : Tree). run u nowhere) r)))

  pub local_words : (tail : Bool) (m : Mult) (n : Local) (t : Annotation) (e : Tree) (s : Span)
      (us : List Lexeme) → Prints (LetHead pass true inner) us (SameParts m n.name t e) →
      Prints (IsStatement pass true inner tail) us (SameStatement (local m n t e s))
  local_words tail m n t e s us p =
      first_of (made let_statement_of
      (words_are (append-nil us) (p then_prints nothing {R = λ o. o ≡ None} None refl))
      (λ a r. local_value a.0 a.1 r.0 r.1))
    where
      local_value : (h : LetParts) (o : Option Tree) → SameParts m n.name t e h → o ≡ None →
          bare_statement (let_statement_of (h, o)) ≡ local m (bare_local n) (bare_annotation t) (bare e) nowhere
      local_value h o (x, (y, (z, u))) f = rw f cc

  pub let_run_words : (tail : Bool) (m : Mult) (n : Local) (t : Annotation) (e b : Tree) (s r : Span)
      (us ws : List Lexeme) → Prints (LetHead pass true inner) us (SameParts m n.name t e) →
      Prints (inner.expr tail) ws (Same b) →
      Prints (IsStatement pass true inner tail) (us ++ mark class.In ∷ ws)
      (SameStatement (run (letting m n t e b s) r))
  let_run_words tail m n t e b s r us ws p q =
      first_of (made let_statement_of
      (p then_prints something
      (made {S = λ o. Is_behind b o} after_in (symbol is_in class.In refl then_prints q)
      (λ c r. (c.1, (refl, r.1))))) (λ a r. run_value a.0 a.1 r.0 r.1))
    where
      run_value : (h : LetParts) (o : Option Tree) → SameParts m n.name t e h → Is_behind b o →
          bare_statement (let_statement_of (h, o)) ≡ run
          (letting m (bare_local n) (bare_annotation t) (bare e) (bare b) nowhere) nowhere
      run_value h o (x, (y, (z, u))) (v, (f, g)) = rw f cc
