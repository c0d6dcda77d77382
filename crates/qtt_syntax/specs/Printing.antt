-- The canonical text of a tree, a line of the grammar at a time.
-- In each definition c blanks stand before the column of the enclosing block.
use Rattle.std.specs.Prelude.{ℕ, ◌+◌, pos, negsuc, Bool, true, false, ◌&&◌, nat_eq, if◌then◌else◌, List, [], ◌∷◌, ◌++◌, codes}
use Rattle.std.specs.Cmp.Lexicographic.{pointwise}
use Rattle.qtt_usage.specs.declared.mult.Mult.{Mult}
use Rattle.qtt_usage.specs.declared.mult.Mult.TheVariants.{Zero, One, Many}
use Rattle.qtt_syntax.specs.declared.expr.Mark.{Mark}
use Rattle.qtt_syntax.specs.declared.expr.Mark.TheVariants.{Written, Braced, Inserted}
use Rattle.qtt_syntax.specs.declared.module.Import.{Import}
use Rattle.qtt_syntax.specs.Tree.{Tree, Annotation, Argument, Arguments, Binder, Binders, Statement, Statements, Shape, Shapes, Param, Con, Item, Module, shapes}
use Rattle.qtt_syntax.specs.Tree.Tree.{name, number, text, universe, hole, the, apply, pi, lambda, letting, doing}
use Rattle.qtt_syntax.specs.Tree.Annotation.{untyped, typed}
use Rattle.qtt_syntax.specs.Tree.Argument.{argument}
use Rattle.qtt_syntax.specs.Tree.Arguments.{no_argument, argument_and}
use Rattle.qtt_syntax.specs.Tree.Binder.{plain, typed_binder}
use Rattle.qtt_syntax.specs.Tree.Binders.{no_binder, binder_and}
use Rattle.qtt_syntax.specs.Tree.Statement.{bind, local, run}
use Rattle.qtt_syntax.specs.Tree.Statements.{no_statement, statement_and}
use Rattle.qtt_syntax.specs.Tree.Shape.{variable, wildcard, constructor, dot}
use Rattle.qtt_syntax.specs.Tree.Shapes.{no_shape, shape_and}
use Rattle.qtt_syntax.specs.Tree.Param.{param}
use Rattle.qtt_syntax.specs.Tree.Con.{con}
use Rattle.qtt_syntax.specs.Tree.Item.{family, signature, clause}
use Rattle.qtt_syntax.specs.Tree.Module.{module_text}
use Rattle.qtt_syntax.specs.Words.{Printed, written}
use Rattle.qtt_syntax.specs.Words.Word.{sign, named, numeral, bare_type, type_at, quoted, hole_named}
use Rattle.qtt_syntax.specs.Words.Printed.{word, blank, line, opened, next, closed}

-- a keyword or a symbol
abbrev pub key : List ℕ → Printed
key s = word (sign s)

-- ---- where brackets and line breaks are wanted

abbrev pub is_number : Tree → Bool
is_number (number z s) = true
is_number _ = false

-- a tree that is an atom without brackets
abbrev pub is_atom : Tree → Bool
is_atom (name n) = true
is_atom (number z s) = true
is_atom (text v s) = true
is_atom (universe l ls s) = true
is_atom _ = false

-- a tree that may stand before an arrow without brackets
abbrev pub is_app : Tree → Bool
is_app (the t e s) = true
is_app (apply f args s) = true
is_app t = is_atom t

abbrev pub in_brackets : List Printed → List Printed
in_brackets ws = key (codes "(") ∷ (ws ++ key (codes ")") ∷ [])

-- in brackets where they are needed
abbrev pub bracketed : Bool → List Printed → List Printed
bracketed true ws = ws
bracketed false ws = in_brackets ws

abbrev pub is_level_0 : Tree → Bool
is_level_0 (universe l ls s) = nat_eq l 0
is_level_0 _ = false

-- An atom. `Type` of level 0 is written with its level where a number follows, which it would take.
abbrev pub atom : Bool → Tree → List Printed → List Printed
atom number_follows t ws = if number_follows && is_level_0 t then word (type_at 0) ∷ [] else bracketed (is_atom t) ws

-- the first argument is a number
abbrev pub number_first : Arguments → Bool
number_first (argument_and (argument Written t) more) = is_number t
number_first _ = false

-- a `do` that ends with the expression
abbrev pub ends_open : Tree → Bool
ends_open (doing ss s) = true
ends_open (lambda bs t s) = ends_open t
ends_open (letting m n t e b s) = ends_open b
ends_open (pi k m n a b s) = ends_open b
ends_open _ = false

-- before a symbol that must end an open `do`: a new line, one column right of the enclosing block
abbrev pub broken : ℕ → Bool → List Printed
broken c true = line c ∷ blank ∷ []
broken c false = []

-- the same where one blank stands otherwise
abbrev pub parted : ℕ → Bool → List Printed
parted c true = line c ∷ blank ∷ []
parted c false = blank ∷ []

abbrev pub is_negative : Tree → Bool
is_negative (number (negsuc n) s) = true
is_negative _ = false

abbrev pub app_negative : Tree → Bool
app_negative (apply f args s) = is_negative f
app_negative t = is_negative t

-- a function type without a name for its argument
abbrev pub is_arrow : Mark → Mult → List ℕ → Bool
is_arrow Written Many n = pointwise nat_eq n (codes "_")
is_arrow _ _ n = false

-- an expression whose first token is a negative number
abbrev pub begins_negative : Tree → Bool
begins_negative (pi k m n a b s) = is_arrow k m n && app_negative a
begins_negative t = app_negative t

-- an expression in braces; `{-` would open a comment
abbrev pub braced : ℕ → Tree → List Printed → List Printed
braced c t ws = key (codes "{") ∷
    ((if begins_negative t then blank ∷ [] else []) ++ (ws ++ (broken c (ends_open t) ++ key (codes "}") ∷ [])))

-- ---- binders

-- mark = "0" | "1"
abbrev pub marked : Mult → List Printed
marked Zero = word (numeral (pos 0)) ∷ blank ∷ []
marked One = word (numeral (pos 1)) ∷ blank ∷ []
marked Many = []

-- [mark] bname ":" expr
abbrev pub binding : Mult → List ℕ → List Printed → List Printed
binding m n ws = marked m ++ word (named n) ∷ blank ∷ key (codes ":") ∷ blank ∷ ws

-- what stands before an arrow: app | "(" [mark] bname ":" expr ")" | "{" "0" SIMPLE ":" expr "}"
abbrev pub domain : ℕ → Mark → Mult → List ℕ → Tree → List Printed → List Printed
domain c Written m n a ws = if is_arrow Written m n then bracketed (is_app a) ws else in_brackets (binding m n ws)
domain c _ m n a ws = key (codes "{") ∷ (binding m n ws ++ (broken c (ends_open a) ++ key (codes "}") ∷ []))

-- "let" [mark] bname
abbrev pub let_name : Mult → List ℕ → List Printed
let_name m n = key (codes "let") ∷ blank ∷ (marked m ++ word (named n) ∷ [])

-- "let" [mark] bname [":" expr] "=" expr
abbrev pub let_head : ℕ → Mult → List ℕ → Bool → List Printed → List Printed → List Printed
let_head c m n type_open ts es = let_name m n ++ (ts ++ (parted c type_open ++ key (codes "=") ∷ blank ∷ es))

abbrev pub annotation_open : Annotation → Bool
annotation_open untyped = false
annotation_open (typed t) = ends_open t

-- ---- expressions

abbrev mutual
  pub expr : ℕ → Tree → List Printed
  expr c (name n) = word (named n.path) ∷ []
  expr c (number z s) = word (numeral z) ∷ []
  expr c (text v s) = word (quoted v) ∷ []
  expr c (universe l ls s) = word (if nat_eq l 0 then bare_type else type_at l) ∷ []
  expr c (hole n s) = word (hole_named n) ∷ []
  expr c (the t e s) = key (codes "the") ∷ blank ∷ (atom (is_number e) t (expr c t) ++ blank ∷ atom false e (expr c e))
  expr c (apply f args s) = atom (number_first args) f (expr c f) ++ arguments c args
  expr c (pi k m n a b s) = domain c k m n a (expr c a) ++ blank ∷ key (codes "->") ∷ blank ∷ expr c b
  expr c (lambda bs t s) = key (codes "\\") ∷ (binders c bs ++ key (codes "=>") ∷ blank ∷ expr c t)
  expr c (letting m n t e b s) =
      let_head c m n.name (annotation_open t) (annotation c t) (expr c e) ++
      (parted c (ends_open e) ++ key (codes "in") ∷ blank ∷ expr c b)
  expr c (doing ss s) = key (codes "do") ∷ opened ∷ (statements (c + 2) ss ++ closed ∷ [])

  pub annotation : ℕ → Annotation → List Printed
  annotation c untyped = []
  annotation c (typed t) = blank ∷ key (codes ":") ∷ blank ∷ expr c t

  -- each behind a blank
  pub arguments : ℕ → Arguments → List Printed
  arguments c no_argument = []
  arguments c (argument_and a more) = blank ∷ (argument_words c (number_first more) a ++ arguments c more)

  pub argument_words : ℕ → Bool → Argument → List Printed
  argument_words c number_follows (argument Written t) = atom number_follows t (expr c t)
  argument_words c number_follows (argument Braced t) = braced c t (expr c t)
  argument_words c number_follows (argument Inserted t) = braced c t (expr c t)

  -- each with a blank behind it
  pub binders : ℕ → Binders → List Printed
  binders c no_binder = []
  binders c (binder_and b more) = binder c b ++ blank ∷ binders c more

  pub binder : ℕ → Binder → List Printed
  binder c (plain n) = word (named n.name) ∷ []
  binder c (typed_binder m n t s) = in_brackets (binding m n.name (expr c t))

  -- each on its line
  pub statements : ℕ → Statements → List Printed
  statements c no_statement = []
  statements c (statement_and s more) = line c ∷ (statement c s ++ more_statements c more)

  pub more_statements : ℕ → Statements → List Printed
  more_statements c no_statement = []
  more_statements c (statement_and s more) = next ∷ line c ∷ (statement c s ++ more_statements c more)

  pub statement : ℕ → Statement → List Printed
  statement c (bind n e) = word (named n.name) ∷ blank ∷ key (codes "<-") ∷ blank ∷ expr c e
  statement c (local m n t e s) = let_head c m n.name (annotation_open t) (annotation c t) (expr c e)
  statement c (run e s) = expr c e

-- ---- patterns

abbrev pub is_empty : Shapes → Bool
is_empty no_shape = true
is_empty (shape_and p more) = false

abbrev mutual
  -- small | "_" | BIGQ | "(" BIGQ pat+ ")" | ".(" expr ")"
  pub pattern : Shape → List Printed
  pattern (variable k n s) = word (named n) ∷ []
  pattern (wildcard k s) = word (named (codes "_")) ∷ []
  pattern (constructor k n ps s) = bracketed (is_empty ps) (word (named n.path) ∷ patterns ps)
  pattern (dot k t s) = key (codes ".(") ∷ (expr 0 t ++ key (codes ")") ∷ [])

  -- each behind a blank
  pub patterns : Shapes → List Printed
  patterns no_shape = []
  patterns (shape_and p more) = blank ∷ (pattern p ++ patterns more)

-- ---- items

-- each behind a blank
abbrev pub params : List Param → List Printed
params [] = []
params (param m n t s ∷ more) = blank ∷ (in_brackets (binding m n (expr 0 t)) ++ params more)

-- con = BIG ":" impl* expr
abbrev pub con_words : Con → List Printed
con_words (con n t s) = word (named n) ∷ blank ∷ key (codes ":") ∷ blank ∷ expr 2 t

abbrev pub more_cons : List Con → List Printed
more_cons [] = []
more_cons (k ∷ more) = next ∷ line 2 ∷ (con_words k ++ more_cons more)

-- each on its line
abbrev pub cons : List Con → List Printed
cons [] = []
cons (k ∷ more) = line 2 ∷ (con_words k ++ more_cons more)

abbrev pub partially : Bool → List Printed
partially true = key (codes "partial") ∷ blank ∷ []
partially false = []

abbrev pub item : Item → List Printed
item (family n ns ps t cs s) =
    key (codes "data") ∷ blank ∷ word (named n) ∷ (params ps ++ blank ∷ key (codes ":") ∷ blank ∷ (expr 0 t
    ++ (parted 0 (ends_open t) ++ key (codes "where") ∷ opened ∷ (cons cs ++ closed ∷ []))))
item (signature p m n ns t s) = partially p ++ binding m n (expr 0 t)
item (clause n ps side s) = word (named n) ∷ (patterns (shapes ps) ++ blank ∷ key (codes "=") ∷ blank ∷ expr 0 side)

abbrev pub imports : List Import → List Printed
imports [] = []
imports (i ∷ more) = next ∷ line 0 ∷ key (codes "import") ∷ blank ∷ word (named i.name) ∷ imports more

-- each on its line
abbrev pub items : List Item → List Printed
items [] = []
items (i ∷ more) = next ∷ line 0 ∷ (item i ++ items more)

-- module = "module" NAME (import NAME)* item*, each on its line
abbrev pub module_words : Module → List Printed
module_words (module_text s n ns is ts) =
    opened ∷ key (codes "module") ∷ blank ∷ word (named n) ∷ (imports is ++ (items ts ++ closed ∷ line 0 ∷ []))

-- the bytes of a module's text
abbrev pub printed : Module → List ℕ
printed m = written (module_words m)
