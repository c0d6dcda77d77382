-- The grammar: below each comment with its line stands the phrase for it.
use Rattle.std.specs.Prelude.{ℕ, zero, suc, Bool, true, false, cond, nat_eq, List, [], ◌∷◌, ◌++◌, Option, Some, None, codes}
use Rattle.std.specs.Cmp.Lexicographic.{pointwise}
use Rattle.qtt_base.specs.declared.place.Span.{Span}
use Rattle.qtt_base.specs.declared.limits.Quantity.{Quantity}
use Rattle.qtt_base.specs.declared.limits.Quantity.TheVariants as quantity
use Rattle.qtt_usage.specs.declared.mult.Mult.{Mult}
use Rattle.qtt_usage.specs.declared.mult.Mult.TheVariants as mult
use Rattle.qtt_syntax.specs.declared.expr.Mark.TheVariants.{Written, Braced}
use Rattle.qtt_syntax.specs.declared.expr.Target.TheVariants.{Unknown}
use Rattle.qtt_syntax.specs.declared.expr.Named.{Named}
use Rattle.qtt_syntax.specs.declared.expr.Local.{Local}
use Rattle.qtt_syntax.specs.declared.module.Import.{Import}
use Rattle.qtt_syntax.specs.Tree as tree
use Rattle.qtt_syntax.specs.Tree.{Tree, Annotation, Binder, Statement, Statements, Shape, Param, Con, Item, Module, arguments, binders, statements, shapes}
use Rattle.qtt_syntax.specs.Tree.Tree.{name, number, text, universe, hole, the, apply, pi, lambda, letting, doing}
use Rattle.qtt_syntax.specs.Tree.Annotation.{untyped, typed}
use Rattle.qtt_syntax.specs.Tree.Argument.{argument}
use Rattle.qtt_syntax.specs.Tree.Binder.{plain, typed_binder}
use Rattle.qtt_syntax.specs.Tree.Statement.{bind, local, run}
use Rattle.qtt_syntax.specs.Tree.Statements.{no_statement, statement_and}
use Rattle.qtt_syntax.specs.Tree.Shape.{variable, wildcard, constructor, dot}
use Rattle.qtt_syntax.specs.Tree.Shapes.{no_shape}
use Rattle.qtt_syntax.specs.Tree.Param.{param}
use Rattle.qtt_syntax.specs.Tree.Con.{con}
use Rattle.qtt_syntax.specs.Tree.Item.{family, signature, clause}
use Rattle.qtt_syntax.specs.Tree.Module.{module_text}
use Rattle.qtt_phrase.specs.Phrase.{Phrase, Weighed, Token, Chain, ◌then◌, Making, ◌or◌, Many, Some_of, Run, Above, Perhaps, Placed, opens}
use Rattle.qtt_grammar.specs.declared.class.Class.{Class}
use Rattle.qtt_grammar.specs.declared.class.Class.TheVariants as class
use Rattle.qtt_grammar.specs.declared.class.Pass.{Pass}
use Rattle.qtt_grammar.specs.declared.class.Standing.{Standing}
use Rattle.qtt_grammar.specs.declared.class.Standing.TheVariants.{Before, Within, Last}
use Rattle.qtt_grammar.specs.Classes.{is_open, is_next, is_close, is_module, is_import, is_data, is_where, is_do, is_let, is_in, is_partial, is_the, is_zero, is_hole, is_left_paren, is_right_paren, is_dot_paren, is_arrow, is_left_arrow, is_fat_arrow, is_colon, is_equals, is_backslash, is_left_brace, is_right_brace, is_name, is_simple, is_big, is_constructor, is_bname, is_digit, is_word, is_pattern_word}
use Rattle.qtt_grammar.specs.declared.lexeme.Lexeme.{Lexeme}
use Rattle.qtt_grammar.specs.declared.stop.Excess.{Excess}
use Rattle.qtt_grammar.specs.Limits.{is_full, one_above, number_of, excess_of}

-- marks and tokens that say a value
abbrev pub Says : Type 0 → Type 1
Says A = Phrase Lexeme Excess A

-- ---- single tokens

abbrev pub of : (Class → Bool) → Lexeme → Bool
of is x = is x.class

abbrev pub place : Lexeme → Span
place x = x.place

-- a symbol or a keyword, for which its place stands
abbrev pub Symbol : (Class → Bool) → Says Span
Symbol is = Token (of is) place

-- a token that opens a nesting level, where one may
abbrev pub Opening : Bool → (Class → Bool) → Says Span
Opening may is = Token (opens may (of is)) place

abbrev pub local_of : Lexeme → Local
local_of x = record { name = x.name; span = x.place }

abbrev pub named_of : Lexeme → Named
named_of x = record { path = x.name; target = Unknown; span = x.place }

-- a name that an item or a binder gets
abbrev pub Locally : (Class → Bool) → Says Local
Locally is = Token (of is) local_of

abbrev pub mult_of : Class → Mult
mult_of class.Zero = mult.Zero
mult_of _ = mult.One

-- [mark], where mark = "0" | "1"
abbrev pub IsMark : Says Mult
IsMark = Perhaps mult.Many (Token (of is_digit) (λ x. mult_of x.class))

-- ["0"]
abbrev pub IsZero : Says Mult
IsZero = Perhaps mult.Many (Token (of is_zero) (λ x. mult_of x.class))

abbrev pub word_of : Class → Lexeme → Tree
word_of class.Text x = text x.text x.place
word_of class.Universe x = universe (number_of x.number) x.number_place x.place
word_of _ x = number x.number x.place

abbrev pub hole_of : Lexeme → Tree
hole_of x = hole x.name x.place

abbrev pub pattern_word : Class → Lexeme → Shape
pattern_word class.Small x = variable Written x.name x.place
pattern_word _ x = wildcard Written x.place

-- ---- counts

-- one of them, before which there are n of that quantity
abbrev pub Up_to : {A : Type 0} → Pass → Quantity → ℕ → Says A → Says A
Up_to pass q n P = cond (is_full pass q n) (Above (λ x. one_above q x.place) P) P

-- any number of them, with n before them
abbrev pub Counted : {A : Type 0} → Pass → Quantity → ℕ → Says A → Says (List A)
Counted pass q n P = Run (λ _. true) (λ _. true) (λ n _. suc n) (λ n. Up_to pass q n P) n

-- ---- the values of the productions

abbrev pub typed_of : Span × (Mult × (Local × (Span × (Tree × Span)))) → Binder
typed_of (s, (m, (n, (_, (t, _))))) = typed_binder m n t s

abbrev pub lambda_of : Span × ((Binder × List Binder) × (Span × Tree)) → Tree
lambda_of (s, ((b, more), (_, body))) = lambda (binders (b ∷ more)) body s

abbrev pub annotation_of : Span × Tree → Annotation
annotation_of (_, t) = typed t

-- what a `let` binds: its place, multiplicity, name, type and value
abbrev pub LetParts : Type 0
LetParts = Span × (Mult × (Local × (Annotation × Tree)))

abbrev pub let_parts : Span × (Mult × (Local × (Annotation × (Span × Tree)))) → LetParts
let_parts (s, (m, (n, (t, (_, value))))) = (s, (m, (n, (t, value))))

abbrev pub let_of : LetParts × (Span × Tree) → Tree
let_of ((s, (m, (n, (t, value)))), (_, body)) = letting m n t value body s

abbrev pub after_in : Span × Tree → Option Tree
after_in (_, body) = Some body

abbrev pub let_statement_of : LetParts × Option Tree → Statement
let_statement_of ((s, (m, (n, (t, value)))), None) = local m n t value s
let_statement_of ((s, (m, (n, (t, value)))), Some body) = run (letting m n t value body s) s

abbrev pub bind_of : Local × (Span × Tree) → Statement
bind_of (n, (_, t)) = bind n t

abbrev pub run_of : Span × Tree → Statement
run_of (s, t) = run t s

abbrev pub next_of : Span × Statement → Statement
next_of (_, s) = s

abbrev pub do_of : Span × (Span × ((Statement × List Statement) × Span)) → Tree
do_of (s, (_, ((first, more), _))) = doing (statements (first ∷ more)) s

abbrev pub bracket_of : Span × (Tree × Span) → Tree
bracket_of (_, (t, _)) = t

abbrev pub braced_of : Span × (Tree × Span) → tree.Argument
braced_of (_, (t, _)) = argument Braced t

abbrev pub written_of : Tree → tree.Argument
written_of t = argument Written t

abbrev pub the_of : Span × (Tree × Tree) → Tree
the_of (s, (t, e)) = the t e s

abbrev pub app_of : Span → Tree → List tree.Argument → Tree
app_of s f [] = f
app_of s f (a ∷ more) = apply f (arguments (a ∷ more)) s

abbrev pub named_app_of : Named × (List tree.Argument × List tree.Argument) → Tree
named_app_of (n, (braces, atoms)) = app_of n.span (name n) (braces ++ atoms)

abbrev pub other_app_of : Span × (Tree × List tree.Argument) → Tree
other_app_of (s, (t, atoms)) = app_of s t atoms

abbrev pub behind_of : Span × Tree → Option Tree
behind_of (_, t) = Some t

abbrev pub arrow_of : (Span × Tree) × Option Tree → Tree
arrow_of ((s, t), None) = t
arrow_of ((s, t), Some u) = pi Written mult.Many (codes "_") t u s

abbrev pub pi_of : Binder × (Span × Tree) → Tree
pi_of (plain n, (_, u)) = u
pi_of (typed_binder m n t s, (_, u)) = pi Written m n.name t u s

abbrev pub implicit_of : Span × (Mult × (Local × (Span × (Tree × (Span × (Span × Tree)))))) → Tree
implicit_of (s, (m, (n, (_, (t, (_, (_, u))))))) = pi Braced m n.name t u s

-- a hole stands in tail position
abbrev mutual
  pub ends_in_hole : Tree → Bool
  ends_in_hole (hole n s) = true
  ends_in_hole (lambda bs t s) = ends_in_hole t
  ends_in_hole (letting m n t e b s) = ends_in_hole b
  ends_in_hole (doing ss s) = last_in_hole ss
  ends_in_hole _ = false

  pub last_in_hole : Statements → Bool
  last_in_hole no_statement = false
  last_in_hole (statement_and s no_statement) = statement_in_hole s
  last_in_hole (statement_and s (statement_and t more)) = last_in_hole (statement_and t more)

  pub statement_in_hole : Statement → Bool
  statement_in_hole (bind n t) = false
  statement_in_hole (local m n t e s) = false
  statement_in_hole (run t s) = ends_in_hole t

-- a hole ends the last of them
abbrev pub last_holed : List Statement → Bool
last_holed [] = false
last_holed (s ∷ []) = statement_in_hole s
last_holed (s ∷ t ∷ more) = last_holed (t ∷ more)

abbrev pub standing_of : Statement → Standing
standing_of (bind n t) = Before
standing_of (local m n t e s) = Before
standing_of (run t s) = cond (ends_in_hole t) Last Within

-- where in a block a reader is: how many statements stand before, and how the last one may stand
abbrev pub Line : Type 0
Line = ℕ × Standing

abbrev pub may_end : Line → Bool
may_end (n, Before) = false
may_end (n, _) = true

abbrev pub may_go : Line → Bool
may_go (n, Last) = false
may_go (n, _) = true

abbrev pub next_line : Line → Statement → Line
next_line (n, _) s = (suc n, standing_of s)

-- the pattern in brackets, by the place of the first one
abbrev pub group_of : Named × List Shape → Span → Shape
group_of (n, []) s = constructor Written n no_shape n.span
group_of (n, p ∷ more) s = constructor Written n (shapes (p ∷ more)) s

abbrev pub nested_of : Shape → Span → Shape
nested_of p s = p

abbrev pub bracketed_of : Span × ((Span → Shape) × Span) → Shape
bracketed_of (s, (f, _)) = f s

abbrev pub dot_of : Span × (Tree × Span) → Shape
dot_of (s, (t, _)) = dot Written t s

abbrev pub bare_of : Named → Shape
bare_of n = constructor Written n no_shape n.span

-- ---- nesting levels

-- what stands inside a nesting level; an expression with `true` stands in tail position
pub record Level : Type 1 where
  pub expr : Bool → Says Tree
  pub statement : Bool → Says Statement
  pub typing : Says Tree
  -- a binder of a `\`
  pub binder : Says Binder
  pub pattern : Says Shape
  -- a pattern that doesn't begin with a constructor
  pub other_pattern : Says Shape

-- The productions at a level, where another one may open or not.
module _ (pass : Pass) (may : Bool) (inner : Level) where
  -- "(" [mark] bname ":" expr ")"
  abbrev pub Typed : Says Binder
  Typed = Making typed_of (Opening may is_left_paren then IsMark then Locally is_bname then Symbol is_colon
      then inner.expr false then Symbol is_right_paren)

  -- lbind = bname | "(" [mark] bname ":" expr ")"
  abbrev pub IsBinder : Says Binder
  IsBinder = Making plain (Locally is_bname) or Typed

  -- "\" lbind+ "=>" expr, where the bracket of an lbind opens a level inside that of the "\"
  abbrev pub Lambda : Bool → Says Tree
  Lambda tail = Making lambda_of
      (Opening may is_backslash then Some_of inner.binder then Symbol is_fat_arrow then inner.expr tail)

  -- [":" expr]
  abbrev pub IsAnnotation : Says Annotation
  IsAnnotation = Perhaps untyped (Making annotation_of (Symbol is_colon then inner.expr false))

  -- "let" [mark] bname [":" expr] "=" expr
  abbrev pub LetHead : Says LetParts
  LetHead = Making let_parts
      (Opening may is_let then IsMark then Locally is_bname then IsAnnotation then Symbol is_equals
      then inner.expr false)

  -- "let" [mark] bname [":" expr] "=" expr "in" expr
  abbrev pub Letting : Bool → Says Tree
  Letting tail = Making let_of (LetHead then Symbol is_in then inner.expr tail)

  -- (Next stmt)*
  abbrev pub Lines : Bool → Line → Says (List Statement)
  Lines tail = Run may_end may_go next_line
      (λ l. Making next_of (Symbol is_next then Up_to pass quantity.Statements l.0 (inner.statement tail)))

  -- stmt (Next stmt)*
  abbrev pub Block : Bool → Says (Statement × List Statement)
  Block tail = Chain (inner.statement tail) (λ s. Lines tail (1, standing_of s))

  -- "do" Open stmt (Next stmt)* Close
  abbrev pub Doing : Bool → Says Tree
  Doing tail = Making do_of (Opening may is_do then Symbol is_open then Block tail then Symbol is_close)

  -- "(" expr ")"
  abbrev pub Bracket : Says Tree
  Bracket = Making bracket_of (Opening may is_left_paren then inner.expr false then Symbol is_right_paren)

  -- an atom that is no name: NUMBER | TEXT | "Type" [NUMBER] | "(" expr ")"
  abbrev pub OtherAtom : Says Tree
  OtherAtom = Weighed (excess_of pass) (of is_word) (λ x. word_of x.class x) or Bracket

  -- atom = NAME | NUMBER | TEXT | "Type" [NUMBER] | "(" expr ")"
  abbrev pub IsAtom : Says Tree
  IsAtom = Making name (Token (of is_name) named_of) or OtherAtom

  -- atom*
  abbrev pub Atoms : Says (List tree.Argument)
  Atoms = Many (Making written_of IsAtom)

  -- "{" expr "}"
  abbrev pub Brace : Says tree.Argument
  Brace = Making braced_of (Opening may is_left_brace then inner.expr false then Symbol is_right_brace)

  -- "the" atom atom
  abbrev pub The : Says Tree
  The = Making the_of (Symbol is_the then IsAtom then IsAtom)

  -- NAME ("{" expr "}")+ atom* | NAME atom*
  abbrev pub NamedApp : Says Tree
  NamedApp = Making named_app_of (Token (of is_name) named_of then Many Brace then Atoms)

  -- atom+ that doesn't begin with a name
  abbrev pub OtherApp : Says Tree
  OtherApp = Making other_app_of (Placed place (OtherAtom then Atoms))

  -- app = "the" atom atom | NAME ("{" expr "}")+ atom* | atom+
  abbrev pub IsApp : Says Tree
  IsApp = The or NamedApp or OtherApp

  -- app ["->" expr]
  abbrev pub Arrow : Says Tree
  Arrow = Making arrow_of (Placed place IsApp then Perhaps None
      (Making behind_of (Opening may is_arrow then inner.expr false)))

  -- "(" [mark] bname ":" expr ")" "->" expr
  abbrev pub Pi : Says Tree
  Pi = Making pi_of (Typed then Opening may is_arrow then inner.expr false)

  -- a hole, in tail position
  abbrev pub Hole : Bool → Says Tree
  Hole tail = Token (opens tail (of is_hole)) (λ x. hole x.name x.place)

  -- an expression that is no `let`
  abbrev pub OtherExpr : Bool → Says Tree
  OtherExpr tail = Hole tail or Lambda tail or Doing tail or Pi or Arrow

  -- expr = "\" .. | "let" .. | "do" .. | "(" [mark] bname ":" expr ")" "->" expr | app ["->" expr]
  abbrev pub IsExpr : Bool → Says Tree
  IsExpr tail = Letting tail or OtherExpr tail

  -- "let" [mark] bname [":" expr] "=" expr, or with "in" expr behind it, an expression
  abbrev pub LetStatement : Bool → Says Statement
  LetStatement tail = Making let_statement_of
      (LetHead then Perhaps None (Making after_in (Symbol is_in then inner.expr tail)))

  -- bname "<-" expr
  abbrev pub Binding : Says Statement
  Binding = Making bind_of (Locally is_bname then Symbol is_left_arrow then IsExpr false)

  -- stmt = bname "<-" expr | "let" [mark] bname [":" expr] "=" expr | expr
  abbrev pub IsStatement : Bool → Says Statement
  IsStatement tail = LetStatement tail or Binding or Making run_of (Placed place (OtherExpr tail))

  -- impl = "{" "0" SIMPLE ":" expr "}" "->", and what stands behind it
  abbrev pub Implicit : Says Tree
  Implicit = Making implicit_of
      (Opening may is_left_brace then Token (of is_zero) (λ x. mult_of x.class) then Locally is_simple then Symbol
      is_colon then inner.expr false then Symbol is_right_brace then Opening may is_arrow then inner.typing)

  -- impl* expr
  abbrev pub IsTyping : Says Tree
  IsTyping = Implicit or IsExpr false

  -- BIGQ pat*, or another pattern
  abbrev pub Inside : Says (Span → Shape)
  Inside = Making group_of (Token (of is_constructor) named_of then Counted pass quantity.Parts 0 inner.pattern)
      or Making nested_of inner.other_pattern

  -- "(" BIGQ pat+ ")" | "(" pat ")"
  abbrev pub Bracketed : Says Shape
  Bracketed = Making bracketed_of (Opening may is_left_paren then Inside then Symbol is_right_paren)

  -- ".(" expr ")"
  abbrev pub Dot : Says Shape
  Dot = Making dot_of (Opening may is_dot_paren then inner.expr false then Symbol is_right_paren)

  -- pat = small | "_" | "(" BIGQ pat+ ")" | "(" pat ")" | ".(" expr ")"
  abbrev pub OtherPattern : Says Shape
  OtherPattern = Token (of is_pattern_word) (λ x. pattern_word x.class x) or Dot or Bracketed

  -- pat = small | "_" | BIGQ | "(" BIGQ pat+ ")" | "(" pat ")" | ".(" expr ")"
  abbrev pub IsPattern : Says Shape
  IsPattern = Making bare_of (Token (of is_constructor) named_of) or OtherPattern

  abbrev pub Shape_of : Level
  Shape_of = record {
    expr = IsExpr;
    statement = IsStatement;
    typing = IsTyping;
    binder = IsBinder;
    pattern = IsPattern;
    other_pattern = OtherPattern;
  }

abbrev pub Simple_level : Level
Simple_level = record {
  expr = λ _. Making name (Token (of is_name) named_of);
  statement = λ _. Making run_of (Placed place (Making name (Token (of is_name) named_of)));
  typing = Making name (Token (of is_name) named_of);
  binder = Making plain (Locally is_bname);
  pattern = Token (of is_pattern_word) (λ x. pattern_word x.class x);
  other_pattern = Token (of is_pattern_word) (λ x. pattern_word x.class x);
}

-- At level 0 no other level may open, and so nothing stands inside one.
unfoldable pub levels : Pass → ℕ → Level
levels pass zero = Shape_of pass false Simple_level
levels pass (suc d) = Shape_of pass true (levels pass d)

-- ---- items

-- where among the items a reader is: whether no item stands before, how many do, and the clauses directly before
pub record Place : Type 0 where
  pub at_imports : Bool
  pub items : ℕ
  pub clauses_of : List ℕ
  pub clauses : ℕ

abbrev pub start : Place
start = record { at_imports = true; items = 0; clauses_of = []; clauses = 0 }

pub data Entry : Type 0 where
  imported : Import → Entry
  listed : Item → Entry

abbrev pub same_name : List ℕ → List ℕ → Bool
same_name = pointwise nat_eq

-- the clauses of this name that stand directly before
abbrev pub clauses_before : Place → List ℕ → ℕ
clauses_before at n = cond (same_name at.clauses_of n) at.clauses 0

abbrev pub next_place : Place → Entry → Place
next_place at (imported i) = at
next_place at (listed (family n ns ps t cs s)) =
    record { at_imports = false; items = suc at.items; clauses_of = []; clauses = 0 }
next_place at (listed (signature p m n ns t s)) =
    record { at_imports = false; items = suc at.items; clauses_of = []; clauses = 0 }
next_place at (listed (clause n ps side s)) =
    record { at_imports = false; items = suc at.items; clauses_of = n; clauses = suc (clauses_before at n) }

abbrev pub param_of : Span × (Mult × (Local × (Span × (Tree × Span)))) → Param
param_of (s, (m, (n, (_, (t, _))))) = param m n.name t s

abbrev pub con_of : Local × (Span × Tree) → Con
con_of (n, (_, t)) = con n.name t n.span

abbrev pub next_con_of : Span × Con → Con
next_con_of (_, c) = c

abbrev pub cons_of : Con × List Con → List Con
cons_of (c, more) = c ∷ more

abbrev pub family_of : Span × (Local × (List Param × (Span × (Tree × (Span × (Span × (List Con × Span))))))) → Item
family_of (s, (n, (ps, (_, (t, (_, (_, (cs, _)))))))) = family n.name n.span ps t cs s

abbrev pub partial_of : Span × (Option Span × (Mult × (Local × (Span × Tree)))) → Item
partial_of (s, (_, (m, (n, (_, t))))) = signature true m n.name n.span t s

abbrev pub erased_of : Span × (Local × (Span × Tree)) → Item
erased_of (s, (n, (_, t))) = signature false mult.Zero n.name n.span t s

abbrev pub signature_of : Local → Span × Tree → Item
signature_of n (_, t) = signature false mult.Many n.name n.span t n.span

abbrev pub clause_of : Local → List Shape × (Span × Tree) → Item
clause_of n (ps, (_, side)) = clause n.name ps side n.span

abbrev pub second : {A B : Type 0} → A × B → B
second (_, b) = b

abbrev pub import_of : Span × Local → Entry
import_of (s, n) = imported (record { name = n.name; span = s })

abbrev pub imports_of : List Entry → List Import
imports_of [] = []
imports_of (imported i ∷ more) = i ∷ imports_of more
imports_of (listed i ∷ more) = imports_of more

abbrev pub items_of : List Entry → List Item
items_of [] = []
items_of (imported i ∷ more) = items_of more
items_of (listed i ∷ more) = i ∷ items_of more

abbrev pub module_of : Span × (Span × (Local × (List Entry × Span))) → Module
module_of (_, (s, (n, (entries, _)))) = module_text s n.name n.span (imports_of entries) (items_of entries)

-- The items, where `top` is what stands at the outermost level and `inner` what stands one level inside.
module _ (pass : Pass) (top inner : Level) where
  -- param = "(" ["0"] SIMPLE ":" expr ")"
  abbrev pub IsParam : Says Param
  IsParam = Making param_of
      (Opening true is_left_paren then IsZero then Locally is_simple then Symbol is_colon then inner.expr false
      then Symbol is_right_paren)

  -- con = BIG ":" impl* expr
  abbrev pub IsCon : Says Con
  IsCon = Making con_of (Locally is_big then Symbol is_colon then top.typing)

  -- [con (Next con)*]
  abbrev pub Cons : Says (List Con)
  Cons = Perhaps [] (Making cons_of
      (IsCon then Run (λ _. true) (λ _. true) (λ n _. suc n)
      (λ n. Making next_con_of (Symbol is_next then Up_to pass quantity.Constructors n IsCon)) 1))

  -- "data" BIG param* ":" expr "where" Open [con (Next con)*] Close
  abbrev pub IsFamily : Says Item
  IsFamily = Making family_of
      (Symbol is_data then Locally is_big then Counted pass quantity.Parts 0 IsParam then Symbol is_colon
      then top.expr false then Symbol is_where then Symbol is_open then Cons then Symbol is_close)

  -- "partial" [Next] ["0"] SIMPLE ":" impl* expr
  abbrev pub Partial : Says Item
  Partial = Making partial_of
      (Symbol is_partial then Perhaps None (Making Some (Symbol is_next)) then IsZero then Locally is_simple
      then Symbol is_colon then top.typing)

  -- "0" SIMPLE ":" impl* expr
  abbrev pub Erased : Says Item
  Erased = Making erased_of (Symbol is_zero then Locally is_simple then Symbol is_colon then top.typing)

  -- ":" impl* expr, behind a name
  abbrev pub Signing : Local → Says Item
  Signing n = Making (signature_of n) (Symbol is_colon then top.typing)

  -- pat* "=" expr, behind a name
  abbrev pub Equation : Local → Says Item
  Equation n = Making (clause_of n) (Counted pass quantity.Parts 0 top.pattern then Symbol is_equals then top.expr true)

  -- the same, where so many clauses of the name stand directly before; one above the limit is told at the name
  abbrev pub Clause : Place → Local → Says Item
  Clause at n = cond (is_full pass quantity.Clauses (clauses_before at n.name))
      (Above (λ _. one_above quantity.Clauses n.span) (Equation n)) (Equation n)

  -- SIMPLE ":" impl* expr | SIMPLE pat* "=" expr
  abbrev pub Defining : Place → Says Item
  Defining at = Making second (Chain (Locally is_simple) (λ n. Signing n or Clause at n))

  -- item = "data" .. | ["partial" [Next]] ["0"] SIMPLE ":" impl* expr | SIMPLE pat* "=" expr
  abbrev pub IsItem : Place → Says Item
  IsItem at = IsFamily or Partial or Erased or Defining at

  -- import = "import" NAME, before the first item
  abbrev pub IsImport : Place → Says Entry
  IsImport at = Making import_of (Token (opens at.at_imports (of is_import)) place then Locally is_name)

  -- Next import | Next item
  abbrev pub IsEntry : Place → Says Entry
  IsEntry at = Making second
      (Symbol is_next then (IsImport at or Making listed (Up_to pass quantity.Items at.items (IsItem at))))

  -- module = Open "module" NAME (Next import)* (Next item)* Close
  abbrev pub IsModule : Says Module
  IsModule = Making module_of
      (Symbol is_open then Symbol is_module then Locally is_name then Run (λ _. true)
      (λ _. true) next_place IsEntry start then Symbol is_close)

-- a module's text
unfoldable pub IsText : Pass → Says Module
IsText pass = IsModule pass (levels pass 200) (levels pass 199)
