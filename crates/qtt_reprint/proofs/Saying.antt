-- The lexemes of printed trees, one behind the other.
use Rattle.std.proofs.Common.{◌≡◌, ℕ, ◌+◌, ℤ, pos, Bool, true, false, cond, ◌&&◌, List, [], ◌∷◌, ◌++◌, refl, ap, ◌∙◌, append_assoc, codes, nat_eq}
use Rattle.std.proofs.lemmas.Bool.{eqb-true}
use Rattle.qtt_usage.specs.declared.mult.Mult.{Mult}
use Rattle.qtt_usage.specs.declared.mult.Mult.TheVariants.{Zero, One, Many}
use Rattle.qtt_syntax.specs.declared.expr.Mark.{Mark}
use Rattle.qtt_syntax.specs.declared.expr.Mark.TheVariants.{Written, Braced, Inserted}
use Rattle.qtt_syntax.specs.Tree.{Tree, Annotation, Argument, Arguments, Binder, Binders, Statement, Statements, Shape, Shapes}
use Rattle.qtt_syntax.specs.Tree.Tree.{name, number, text, universe, hole, the, apply, pi, lambda, letting, doing}
use Rattle.qtt_syntax.specs.Tree.Annotation.{untyped, typed}
use Rattle.qtt_syntax.specs.Tree.Argument.{argument}
use Rattle.qtt_syntax.specs.Tree.Arguments.{no_argument, argument_and}
use Rattle.qtt_syntax.specs.Tree.Binder.{plain, typed_binder}
use Rattle.qtt_syntax.specs.Tree.Binders.{no_binder, binder_and}
use Rattle.qtt_syntax.specs.Tree.Statement.{bind, local, run}
use Rattle.qtt_syntax.specs.Tree.Statements.{no_statement, statement_and}
use Rattle.qtt_syntax.specs.Tree.Shape.{variable, wildcard, constructor, dot}
use Rattle.qtt_syntax.specs.Tree.Shapes.{no_shape, shape_and}
use Rattle.qtt_syntax.specs.Words.{Word, Printed}
use Rattle.qtt_syntax.specs.Printing as print
use Rattle.qtt_syntax.specs.Printing.{is_atom, is_app, is_arrow, is_number, is_level_0, is_empty, bracketed, atom, broken, parted, ends_open, annotation_open, number_first}
use Rattle.qtt_grammar.specs.declared.class.Class.{Class}
use Rattle.qtt_grammar.specs.declared.class.Class.TheVariants as class
use Rattle.qtt_grammar.specs.Lexeme as lexeme
use Rattle.qtt_grammar.specs.declared.lexeme.Lexeme.{Lexeme}
use Rattle.qtt_grammar.specs.Lexeme.{type_lexeme, text_lexeme}
use Rattle.qtt_reprint.specs.Sketch.{nowhere, word_lexeme, sketched}

abbrev pub mark : Class → Lexeme
mark c = lexeme.sign c nowhere

abbrev pub named : List ℕ → Lexeme
named n = word_lexeme (Word.named n)

abbrev pub numeral : ℤ → Lexeme
numeral z = word_lexeme (Word.numeral z)

-- in brackets, but for what needs none
abbrev pub wrapped : Bool → List Lexeme → List Lexeme
wrapped true ws = ws
wrapped false ws = mark class.LeftParen ∷ (ws ++ mark class.RightParen ∷ [])

abbrev pub say_mark : Mult → List Lexeme
say_mark Zero = numeral (pos 0) ∷ []
say_mark One = numeral (pos 1) ∷ []
say_mark Many = []

-- a binder's name and type
abbrev pub say_binding : Mult → List ℕ → List Lexeme → List Lexeme
say_binding m n ws = say_mark m ++ named n ∷ mark class.Colon ∷ ws

abbrev pub say_typed : Mult → List ℕ → List Lexeme → List Lexeme
say_typed m n ws = mark class.LeftParen ∷
    (say_mark m ++ named n ∷ mark class.Colon ∷ (ws ++ mark class.RightParen ∷ []))

abbrev pub say_braced : List Lexeme → List Lexeme
say_braced ws = mark class.LeftBrace ∷ (ws ++ mark class.RightBrace ∷ [])

abbrev pub say_domain : Mark → Mult → List ℕ → Tree → List Lexeme → List Lexeme
say_domain Written m n a ws = cond (is_arrow Written m n) (wrapped (is_app a) ws) (say_typed m n ws)
say_domain _ m n a ws = mark class.LeftBrace ∷
    (say_mark m ++ named n ∷ mark class.Colon ∷ (ws ++ mark class.RightBrace ∷ []))

abbrev mutual
  pub say : Tree → List Lexeme
  say (name n) = named n.path ∷ []
  say (number z s) = numeral z ∷ []
  say (text v s) = text_lexeme nowhere v ∷ []
  say (universe l ls s) = type_lexeme nowhere l nowhere ∷ []
  say (hole n s) = word_lexeme (Word.hole_named n) ∷ []
  say (the t e s) = mark class.The ∷ (wrapped (is_atom t) (say t) ++ wrapped (is_atom e) (say e))
  say (apply f args s) = wrapped (is_atom f) (say f) ++ say_arguments args
  say (pi k m n a b s) = say_domain k m n a (say a) ++ mark class.Arrow ∷ say b
  say (lambda bs t s) = mark class.Backslash ∷ (say_binders bs ++ mark class.FatArrow ∷ say t)
  say (letting m n t e b s) =
      (mark class.Let ∷ (say_mark m ++ named n.name ∷ (say_annotation t ++ mark class.Equals ∷ say e))) ++ mark
      class.In ∷ say b
  say (doing ss s) = mark class.Do ∷ mark class.Open ∷ (say_statements ss ++ mark class.Close ∷ [])

  pub say_annotation : Annotation → List Lexeme
  say_annotation untyped = []
  say_annotation (typed t) = mark class.Colon ∷ say t

  pub say_arguments : Arguments → List Lexeme
  say_arguments no_argument = []
  say_arguments (argument_and a more) = say_argument a ++ say_arguments more

  pub say_argument : Argument → List Lexeme
  say_argument (argument Written t) = wrapped (is_atom t) (say t)
  say_argument (argument Braced t) = say_braced (say t)
  say_argument (argument Inserted t) = say_braced (say t)

  pub say_binders : Binders → List Lexeme
  say_binders no_binder = []
  say_binders (binder_and b more) = say_binder b ++ say_binders more

  pub say_binder : Binder → List Lexeme
  say_binder (plain n) = named n.name ∷ []
  say_binder (typed_binder m n t s) = say_typed m n.name (say t)

  pub say_statements : Statements → List Lexeme
  say_statements no_statement = []
  say_statements (statement_and s more) = say_statement s ++ say_more more

  pub say_more : Statements → List Lexeme
  say_more no_statement = []
  say_more (statement_and s more) = (mark class.Next ∷ say_statement s) ++ say_more more

  pub say_statement : Statement → List Lexeme
  say_statement (bind n e) = named n.name ∷ mark class.LeftArrow ∷ say e
  say_statement (local m n t e s) =
      mark class.Let ∷ (say_mark m ++ named n.name ∷ (say_annotation t ++ mark class.Equals ∷ say e))
  say_statement (run e s) = say e

abbrev mutual
  pub say_shape : Shape → List Lexeme
  say_shape (variable k n s) = named n ∷ []
  say_shape (wildcard k s) = named (codes "_") ∷ []
  say_shape (constructor k n ps s) = wrapped (is_empty ps) (named n.path ∷ say_shapes ps)
  say_shape (dot k t s) = mark class.DotParen ∷ (say t ++ mark class.RightParen ∷ [])

  pub say_shapes : Shapes → List Lexeme
  say_shapes no_shape = []
  say_shapes (shape_and p more) = say_shape p ++ say_shapes more

-- ---- what stands between words is not seen

pub sketched-append : (ps qs : List Printed) → sketched (ps ++ qs) ≡ sketched ps ++ sketched qs
sketched-append [] qs = refl
sketched-append (Printed.word w ∷ ps) qs = ap (λ (v : List Lexeme). word_lexeme w ∷ v) (sketched-append ps qs)
sketched-append (Printed.blank ∷ ps) qs = sketched-append ps qs
sketched-append (Printed.line n ∷ ps) qs = sketched-append ps qs
sketched-append (Printed.opened ∷ ps) qs = ap (λ (v : List Lexeme). mark class.Open ∷ v) (sketched-append ps qs)
sketched-append (Printed.next ∷ ps) qs = ap (λ (v : List Lexeme). mark class.Next ∷ v) (sketched-append ps qs)
sketched-append (Printed.closed ∷ ps) qs = ap (λ (v : List Lexeme). mark class.Close ∷ v) (sketched-append ps qs)

pub sketched-broken : (c : ℕ) (b : Bool) → sketched (broken c b) ≡ []
sketched-broken c true = refl
sketched-broken c false = refl

pub sketched-parted : (c : ℕ) (b : Bool) → sketched (parted c b) ≡ []
sketched-parted c true = refl
sketched-parted c false = refl

pub sketched-lead : (b : Bool) → sketched (cond b (Printed.blank ∷ []) []) ≡ []
sketched-lead true = refl
sketched-lead false = refl

pub sketched-marked : (m : Mult) → sketched (print.marked m) ≡ say_mark m
sketched-marked Zero = refl
sketched-marked One = refl
sketched-marked Many = refl

pub sketched-bracketed : (b : Bool) (ps : List Printed) (ws : List Lexeme) → sketched ps ≡ ws →
    sketched (bracketed b ps) ≡ wrapped b ws
sketched-bracketed true ps ws e = e
sketched-bracketed false ps ws e =
    ap (λ (v : List Lexeme). mark class.LeftParen ∷ v)
    (sketched-append ps (print.key (codes ")") ∷ []) ∙ ap (λ (v : List Lexeme). v ++ mark class.RightParen ∷ [])
    e)

level_word : (b : Bool) (l : ℕ) → nat_eq l 0 ≡ b →
    word_lexeme (cond b Word.bare_type (Word.type_at l)) ≡ type_lexeme nowhere l nowhere
level_word true l e = rw (eqb-true l 0 e) refl
level_word false l e = refl

-- `Type` is one lexeme with its level
pub sketched-level : (l : ℕ) →
    word_lexeme (cond (nat_eq l 0) Word.bare_type (Word.type_at l)) ≡ type_lexeme nowhere l nowhere
sketched-level l = level_word (nat_eq l 0) l refl

atom_case : (b : Bool) (t : Tree) (c : ℕ) →
    (b ≡ true → is_level_0 t ≡ true) →
    sketched (cond b (Printed.word (Word.type_at 0) ∷ []) (bracketed (is_atom t) (print.expr c t))) ≡ sketched
    (bracketed (is_atom t) (print.expr c t))
atom_case false t c h = refl
atom_case true (universe l ls s) c h = rw (eqb-true l 0 (h refl)) refl
atom_case true (name n) c h = absurd (let e = h refl in cc)
atom_case true (number z s) c h = absurd (let e = h refl in cc)
atom_case true (text v s) c h = absurd (let e = h refl in cc)
atom_case true (hole n s) c h = absurd (let e = h refl in cc)
atom_case true (the t e s) c h = absurd (let e = h refl in cc)
atom_case true (apply f args s) c h = absurd (let e = h refl in cc)
atom_case true (pi k m n a b s) c h = absurd (let e = h refl in cc)
atom_case true (lambda bs t s) c h = absurd (let e = h refl in cc)
atom_case true (letting m n t e b s) c h = absurd (let e = h refl in cc)
atom_case true (doing ss s) c h = absurd (let e = h refl in cc)

both_true : (a b : Bool) → a && b ≡ true → b ≡ true
both_true true b e = e
both_true false b e = absurd cc

pub sketched-atom : (f : Bool) (t : Tree) (c : ℕ) (ws : List Lexeme) → sketched (print.expr c t) ≡ ws →
    sketched (atom f t (print.expr c t)) ≡ wrapped (is_atom t) ws
sketched-atom f t c ws e =
    atom_case (f && is_level_0 t) t c (both_true f (is_level_0 t)) ∙ sketched-bracketed (is_atom t)
    (print.expr c t) ws e

pub sketched-binding : (m : Mult) (n : List ℕ) (ps qs : List Printed) (ws : List Lexeme) → sketched ps ≡ ws →
    sketched (print.binding m n ps ++ qs) ≡ say_mark m ++ named n ∷ mark class.Colon ∷ (ws ++ sketched qs)
sketched-binding m n ps qs ws e = simp (sketched-append, sketched-marked, append_assoc, e)

domain_case : (b : Bool) (m : Mult) (n : List ℕ) (a : Tree) (ps : List Printed) (ws : List Lexeme) →
    sketched ps ≡ ws → sketched (cond b (bracketed (is_app a) ps) (print.in_brackets (print.binding m n ps))) ≡
    cond b (wrapped (is_app a) ws) (say_typed m n ws)
domain_case true m n a ps ws e = sketched-bracketed (is_app a) ps ws e
domain_case false m n a ps ws e =
    ap (λ (v : List Lexeme). mark class.LeftParen ∷ v) (sketched-binding m n ps (print.key (codes ")") ∷ []) ws e)

braces_case : (c : ℕ) (m : Mult) (n : List ℕ) (a : Tree) (ps : List Printed) (ws : List Lexeme) →
    sketched ps ≡ ws → sketched (print.binding m n ps ++ (broken c (ends_open a) ++ print.key (codes "}") ∷ [])) ≡
    say_mark m ++ named n ∷ mark class.Colon ∷ (ws ++ mark class.RightBrace ∷ [])
braces_case c m n a ps ws e =
    sketched-binding m n ps (broken c (ends_open a) ++ print.key (codes "}") ∷ []) ws e ∙
    simp (sketched-append, sketched-broken)

pub sketched-domain : (c : ℕ) (k : Mark) (m : Mult) (n : List ℕ) (a : Tree) (ps : List Printed)
    (ws : List Lexeme) → sketched ps ≡ ws → sketched (print.domain c k m n a ps) ≡ say_domain k m n a ws
sketched-domain c Written m n a ps ws e = domain_case (is_arrow Written m n) m n a ps ws e
sketched-domain c Braced m n a ps ws e =
    ap (λ (v : List Lexeme). mark class.LeftBrace ∷ v) (braces_case c m n a ps ws e)
sketched-domain c Inserted m n a ps ws e =
    ap (λ (v : List Lexeme). mark class.LeftBrace ∷ v) (braces_case c m n a ps ws e)

pub sketched-braced : (c : ℕ) (t : Tree) (ps : List Printed) (ws : List Lexeme) → sketched ps ≡ ws →
    sketched (print.braced c t ps) ≡ say_braced ws
sketched-braced c t ps ws e = simp (sketched-append, sketched-lead, sketched-broken, e)

pub sketched-let : (c : ℕ) (m : Mult) (n : List ℕ) (b : Bool) (ts es : List Printed) (us vs : List Lexeme) →
    sketched ts ≡ us → sketched es ≡ vs → sketched (print.let_head c m n b ts es) ≡ mark class.Let ∷
    (say_mark m ++ named n ∷ (us ++ mark class.Equals ∷ vs))
sketched-let c m n b ts es us vs e f = simp (sketched-append, sketched-marked, sketched-parted, append_assoc, e, f)

pub sketched-in : (c : ℕ) (b : Bool) (ps qs : List Printed) (us vs : List Lexeme) → sketched ps ≡ us →
    sketched qs ≡ vs → sketched (ps ++ (parted c b ++ print.key (codes "in") ∷ Printed.blank ∷ qs)) ≡ us ++ mark
    class.In ∷ vs
sketched-in c b ps qs us vs e f = simp (sketched-append, sketched-parted, e, f)

mutual
  pub says : (c : ℕ) (t : Tree) → sketched (print.expr c t) ≡ say t
  says c (name n) = refl
  says c (number z s) = refl
  says c (text v s) = refl
  says c (universe l ls s) = ap (λ (x : Lexeme). x ∷ []) (sketched-level l)
  says c (hole n s) = refl
  says c (the t e s) = ap (λ (v : List Lexeme). mark class.The ∷ v)
      (sketched-append (atom (is_number e) t (print.expr c t)) (Printed.blank ∷ atom false e (print.expr c e)) ∙
      rw (sketched-atom (is_number e) t c (say t) (says c t), sketched-atom false e c (say e) (says c e)) refl)
  says c (apply f args s) =
      sketched-append (atom (number_first args) f (print.expr c f)) (print.arguments c args) ∙
      rw (sketched-atom (number_first args) f c (say f) (says c f), says_arguments c args) refl
  says c (pi k m n a b s) =
      sketched-append (print.domain c k m n a (print.expr c a))
      (Printed.blank ∷ print.key (codes "->") ∷ Printed.blank ∷ print.expr c b) ∙
      rw (sketched-domain c k m n a (print.expr c a) (say a) (says c a), says c b) refl
  says c (lambda bs t s) = ap (λ (v : List Lexeme). mark class.Backslash ∷ v)
      (sketched-append (print.binders c bs) (print.key (codes "=>") ∷ Printed.blank ∷ print.expr c t) ∙
      rw (says_binders c bs, says c t) refl)
  says c (letting m n t e b s) =
      sketched-in c (ends_open e)
      (print.let_head c m n.name (annotation_open t) (print.annotation c t) (print.expr c e)) (print.expr c b)
      (mark class.Let ∷ (say_mark m ++ named n.name ∷ (say_annotation t ++ mark class.Equals ∷ say e))) (say b)
      (sketched-let c m n.name (annotation_open t) (print.annotation c t) (print.expr c e) (say_annotation t)
      (say e) (says_annotation c t) (says c e)) (says c b)
  says c (doing ss s) = ap (λ (v : List Lexeme). mark class.Do ∷ mark class.Open ∷ v)
      (sketched-append (print.statements (c + 2) ss) (Printed.closed ∷ []) ∙ rw (says_statements (c + 2) ss) refl)

  says_annotation : (c : ℕ) (t : Annotation) → sketched (print.annotation c t) ≡ say_annotation t
  says_annotation c untyped = refl
  says_annotation c (typed t) = ap (λ (v : List Lexeme). mark class.Colon ∷ v) (says c t)

  says_arguments : (c : ℕ) (args : Arguments) → sketched (print.arguments c args) ≡ say_arguments args
  says_arguments c no_argument = refl
  says_arguments c (argument_and a more) =
      sketched-append (print.argument_words c (number_first more) a) (print.arguments c more) ∙
      rw (says_argument c (number_first more) a, says_arguments c more) refl

  says_argument : (c : ℕ) (b : Bool) (a : Argument) → sketched (print.argument_words c b a) ≡ say_argument a
  says_argument c b (argument Written t) = sketched-atom b t c (say t) (says c t)
  says_argument c b (argument Braced t) = sketched-braced c t (print.expr c t) (say t) (says c t)
  says_argument c b (argument Inserted t) = sketched-braced c t (print.expr c t) (say t) (says c t)

  says_binders : (c : ℕ) (bs : Binders) → sketched (print.binders c bs) ≡ say_binders bs
  says_binders c no_binder = refl
  says_binders c (binder_and b more) =
      sketched-append (print.binder c b) (Printed.blank ∷ print.binders c more) ∙
      rw (says_binder c b, says_binders c more) refl

  says_binder : (c : ℕ) (b : Binder) → sketched (print.binder c b) ≡ say_binder b
  says_binder c (plain n) = refl
  says_binder c (typed_binder m n t s) =
      ap (λ (v : List Lexeme). mark class.LeftParen ∷ v)
      (sketched-binding m n.name (print.expr c t) (print.key (codes ")") ∷ []) (say t) (says c t))

  says_statements : (c : ℕ) (ss : Statements) → sketched (print.statements c ss) ≡ say_statements ss
  says_statements c no_statement = refl
  says_statements c (statement_and s more) =
      sketched-append (print.statement c s) (print.more_statements c more) ∙
      rw (says_statement c s, says_more c more) refl

  says_more : (c : ℕ) (ss : Statements) → sketched (print.more_statements c ss) ≡ say_more ss
  says_more c no_statement = refl
  says_more c (statement_and s more) =
      ap (λ (v : List Lexeme). mark class.Next ∷ v)
      (sketched-append (print.statement c s) (print.more_statements c more) ∙
      rw (says_statement c s, says_more c more) refl)

  says_statement : (c : ℕ) (s : Statement) → sketched (print.statement c s) ≡ say_statement s
  says_statement c (bind n e) = ap (λ (v : List Lexeme). named n.name ∷ mark class.LeftArrow ∷ v) (says c e)
  says_statement c (local m n t e s) =
      sketched-let c m n.name (annotation_open t) (print.annotation c t) (print.expr c e) (say_annotation t)
      (say e) (says_annotation c t) (says c e)
  says_statement c (run e s) = says c e

mutual
  pub says_shape : (p : Shape) → sketched (print.pattern p) ≡ say_shape p
  says_shape (variable k n s) = refl
  says_shape (wildcard k s) = refl
  says_shape (constructor k n ps s) =
      sketched-bracketed (is_empty ps) (Printed.word (Word.named n.path) ∷ print.patterns ps)
      (named n.path ∷ say_shapes ps) (ap (λ (v : List Lexeme). named n.path ∷ v) (says_shapes ps))
  says_shape (dot k t s) = ap (λ (v : List Lexeme). mark class.DotParen ∷ v)
      (sketched-append (print.expr 0 t) (print.key (codes ")") ∷ []) ∙ rw (says 0 t) refl)

  pub says_shapes : (ps : Shapes) → sketched (print.patterns ps) ≡ say_shapes ps
  says_shapes no_shape = refl
  says_shapes (shape_and p more) =
      sketched-append (print.pattern p) (print.patterns more) ∙ rw (says_shape p, says_shapes more) refl
