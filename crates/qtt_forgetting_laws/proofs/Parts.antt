-- Trees as texts are written, by their parts.
use Rattle.std.proofs.Common.{◌≡◌, ℕ, true, List, [], ◌∷◌, ◌++◌, Option, Some, None, refl, ap, arith, sum_by}
use Rattle.std.proofs.lemmas.List.Sums.{sum_by-cons}
use Rattle.qtt_base.specs.declared.place.Span.{Span}
use Rattle.qtt_syntax.specs.declared.expr.Mark.TheVariants.{Written, Braced}
use Rattle.qtt_syntax.specs.declared.expr.Named.{Named}
use Rattle.qtt_syntax.specs.Tree.{Tree, Annotation, Argument, Arguments, Binder, Statement, Shape, Param, Con, Item, arguments, binders, statements, shapes}
use Rattle.qtt_syntax.specs.Tree.Tree.{apply}
use Rattle.qtt_syntax.specs.Tree.Argument.{argument}
use Rattle.qtt_syntax.specs.Tree.Binder.{plain, typed_binder}
use Rattle.qtt_grammar.specs.declared.class.Class.{Class}
use Rattle.qtt_grammar.specs.declared.class.Class.TheVariants as class
use Rattle.qtt_grammar.specs.declared.lexeme.Lexeme.{Lexeme}
use Rattle.qtt_grammar.specs.Grammar.{word_of, pattern_word, LetParts, let_statement_of, app_of, arrow_of, pi_of, group_of}
use Rattle.qtt_reprint.proofs.Gives.{Each}
use Rattle.qtt_implicit.specs.Moving.{weighed, weighed_annotation, weighed_arguments, weighed_binder, weighed_binders, weighed_statement, weighed_statements}
use Rattle.qtt_implicit.specs.Laws.{weighed_shape, weighed_shapes, weighed_param, weighed_con, weighed_item, unless, inserted, misplaced, all_written, braces_first, has_argument}

-- ---- parts in which each application has arguments, those in braces in front, and nothing was inserted
abbrev pub WrittenTree : Tree → Type 0
WrittenTree t = weighed misplaced t ≡ 0

abbrev pub WrittenAnnotation : Annotation → Type 0
WrittenAnnotation t = weighed_annotation misplaced t ≡ 0

abbrev pub WrittenArguments : Arguments → Type 0
WrittenArguments xs = (braces_first xs ≡ true) × (weighed_arguments misplaced xs ≡ 0)

abbrev pub WrittenBinder : Binder → Type 0
WrittenBinder b = weighed_binder misplaced b ≡ 0

abbrev pub WrittenStatement : Statement → Type 0
WrittenStatement s = weighed_statement misplaced s ≡ 0

abbrev pub WrittenShape : Shape → Type 0
WrittenShape p = weighed_shape misplaced inserted p ≡ 0

abbrev pub WrittenParam : Param → Type 0
WrittenParam p = weighed_param misplaced p ≡ 0

abbrev pub WrittenCon : Con → Type 0
WrittenCon c = weighed_con misplaced c ≡ 0

abbrev pub WrittenItem : Item → Type 0
WrittenItem i = weighed_item misplaced inserted i ≡ 0

abbrev pub WrittenOption : Option Tree → Type 0
WrittenOption None = Unit {0}
WrittenOption (Some t) = WrittenTree t

-- of the type and the value of a `let`
abbrev pub WrittenHead : LetParts → Type 0
WrittenHead h = WrittenAnnotation h.1.1.1.0 × WrittenTree h.1.1.1.1

-- ---- arguments

-- without braces, and in braces
abbrev pub BareArgument : Argument → Type 0
BareArgument a = (t : Tree) × ((a ≡ argument Written t) × WrittenTree t)

abbrev pub BracedArgument : Argument → Type 0
BracedArgument a = (t : Tree) × ((a ≡ argument Braced t) × WrittenTree t)

all_bare : (xs : List Argument) → Each BareArgument xs →
    (all_written (arguments xs) ≡ true) × (weighed_arguments misplaced (arguments xs) ≡ 0)
all_bare [] e = (refl, refl)
all_bare (a ∷ more) ((t, (is, f)), e) = let rest = all_bare more e in rw is (rest.0, omega (arith, f, rest.1))

pub bare_arguments : (xs : List Argument) → Each BareArgument xs → WrittenArguments (arguments xs)
bare_arguments [] e = (refl, refl)
bare_arguments (a ∷ more) ((t, (is, f)), e) = let rest = all_bare more e in rw is (rest.0, omega (arith, f, rest.1))

pub braces_and_bare : (bs xs : List Argument) → Each BracedArgument bs → Each BareArgument xs →
    WrittenArguments (arguments (bs ++ xs))
braces_and_bare [] xs e f = bare_arguments xs f
braces_and_bare (a ∷ more) xs ((t, (is, g)), e) f =
    let rest = braces_and_bare more xs e f in rw is (rest.0, omega (arith, g, rest.1))

application : (f : Tree) (xs : Arguments) (s : Span) → WrittenTree f → has_argument xs ≡ true → WrittenArguments xs →
    WrittenTree (apply f xs s)
application f xs s h e g =
    let some = ap unless e in
    let first = ap unless g.0 in
    omega (arith, some, first, h, g.1)

pub applied : (s : Span) (f : Tree) (xs : List Argument) → WrittenTree f → WrittenArguments (arguments xs) →
    WrittenTree (app_of s f xs)
applied s f [] h g = h
applied s f (a ∷ more) h g = application f (arguments (a ∷ more)) s h refl g

-- ---- lists

pub written_binders : (bs : List Binder) → Each WrittenBinder bs → weighed_binders misplaced (binders bs) ≡ 0
written_binders [] e = refl
written_binders (b ∷ more) e = let rest = written_binders more e.1 in omega (arith, e.0, rest)

pub written_statements : (ss : List Statement) → Each WrittenStatement ss →
    weighed_statements misplaced (statements ss) ≡ 0
written_statements [] e = refl
written_statements (s ∷ more) e = let rest = written_statements more e.1 in omega (arith, e.0, rest)

written_shapes : (ps : List Shape) → Each WrittenShape ps → weighed_shapes misplaced inserted (shapes ps) ≡ 0
written_shapes [] e = refl
written_shapes (p ∷ more) e = let rest = written_shapes more e.1 in omega (arith, e.0, rest)

-- where each weighs nothing, they do together
pub none_weighs : {A : Type 0} (w : A → ℕ) (xs : List A) → Each (λ x. w x ≡ 0) xs → sum_by w xs ≡ 0
none_weighs w [] e = refl
none_weighs w (x ∷ xs) e =
    let rest = none_weighs w xs e.1 in
    let more = sum_by-cons w x xs in
    omega (arith, more, e.0, rest)

-- ---- the values of productions

pub written_word : (c : Class) (x : Lexeme) → WrittenTree (word_of c x)
written_word class.Text x = refl
written_word class.Universe x = refl
written_word _ x = refl

pub written_pattern_word : (c : Class) (x : Lexeme) → WrittenShape (pattern_word c x)
written_pattern_word class.Small x = refl
written_pattern_word _ x = refl

pub written_arrow : (s : Span) (t : Tree) (o : Option Tree) → WrittenTree t → WrittenOption o →
    WrittenTree (arrow_of ((s, t), o))
written_arrow s t None h k = h
written_arrow s t (Some u) h k = omega (arith, h, k)

pub written_pi : (b : Binder) (s : Span) (u : Tree) → WrittenBinder b → WrittenTree u → WrittenTree (pi_of (b, (s, u)))
written_pi (plain n) s u h k = k
written_pi (typed_binder m n t r) s u h k = omega (arith, h, k)

pub written_let_statement : (h : LetParts) (o : Option Tree) → WrittenHead h → WrittenOption o →
    WrittenStatement (let_statement_of (h, o))
written_let_statement h None r k = omega (arith, r.0, r.1)
written_let_statement h (Some u) r k = omega (arith, r.0, r.1, k)

pub written_group : (n : Named) (ps : List Shape) (s : Span) → Each WrittenShape ps → WrittenShape (group_of (n, ps) s)
written_group n [] s e = refl
written_group n (p ∷ more) s e = written_shapes (p ∷ more) e
