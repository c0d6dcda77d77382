-- The lists and options in the nodes of a tree.
use Rattle.std.proofs.Common.{◌≡◌, List, map, Option, Some, None, refl, ap, sym, ◌∙◌, Vec, Global, Box}
use Rattle.std.proofs.lemmas.Grind.{common_steps}
use Rattle.qtt_base.specs.declared.place.Span.{Span}
use Rattle.qtt_usage.specs.declared.mult.Mult.{Mult}
use Rattle.qtt_syntax.specs.declared.expr.Mark.{Mark}
use Rattle.qtt_syntax.specs.declared.expr.Local.{Local}
use Rattle.qtt_syntax.specs.declared.expr.Named.{Named}
use Rattle.qtt_syntax.specs.declared.expr.Expr.{Expr, the_lemmas, Row_of-Argument, end_of-Argument, more_of-Argument, items-the_row-Argument, items_hidden-the_row-Argument-0, Row_of-Binder, end_of-Binder, more_of-Binder, items-the_row-Binder, items_hidden-the_row-Binder-1, Row_of-Statement, end_of-Statement, more_of-Statement, items-the_row-Statement, items_hidden-the_row-Statement-2}
use Rattle.qtt_syntax.specs.declared.expr.Expr.TheVariants as code
use Rattle.qtt_syntax.specs.declared.expr.Argument as argument_code
use Rattle.qtt_syntax.specs.declared.expr.Binder as binder_code
use Rattle.qtt_syntax.specs.declared.expr.Statement as statement_code
use Rattle.qtt_syntax.specs.declared.expr.Statement.TheVariants as step
use Rattle.qtt_syntax.specs.declared.pattern.Pattern.{Pattern, Row_of-Pattern, end_of-Pattern, more_of-Pattern, items-the_row-Pattern, items_hidden-the_row-Pattern-0}
use Rattle.qtt_syntax.specs.declared.pattern.Pattern.TheVariants as pattern
use Rattle.qtt_syntax.specs.Tree.{Tree, Argument, Binder, Statement, Arguments, Binders, Statements, Shapes, arguments, binders, statements, shapes}
use Rattle.qtt_syntax.specs.Tree.Tree.{apply, lambda, letting, doing}
use Rattle.qtt_syntax.specs.Tree.Arguments.{argument_and}
use Rattle.qtt_syntax.specs.Tree.Binders.{binder_and}
use Rattle.qtt_syntax.specs.Tree.Statement.{local}
use Rattle.qtt_syntax.specs.Tree.Statements.{statement_and}
use Rattle.qtt_syntax.specs.Tree.Shape.{constructor}
use Rattle.qtt_syntax.specs.Tree.Shapes.{shape_and}
use Rattle.qtt_syntax.specs.View.{tree_of, written_type, argument_of, argument_row, binder_of, binder_row, statement_of, statement_row, shape_of, shape_row}

argument_rows : (m : _) (row : Row_of-Argument m) →
    argument_row row ≡ arguments (map argument_of (items-the_row-Argument m row))
argument_rows m end_of-Argument = refl
argument_rows m (more_of-Argument a rest) = ap (argument_and (argument_of a)) (argument_rows _ rest)

binder_rows : (m : _) (row : Row_of-Binder m) → binder_row row ≡ binders (map binder_of (items-the_row-Binder m row))
binder_rows m end_of-Binder = refl
binder_rows m (more_of-Binder b rest) = ap (binder_and (binder_of b)) (binder_rows _ rest)

statement_rows : (m : _) (row : Row_of-Statement m) →
    statement_row row ≡ statements (map statement_of (items-the_row-Statement m row))
statement_rows m end_of-Statement = refl
statement_rows m (more_of-Statement s rest) = ap (statement_and (statement_of s)) (statement_rows _ rest)

shape_rows : (m : _) (row : Row_of-Pattern m) → shape_row row ≡ shapes (map shape_of (items-the_row-Pattern m row))
shape_rows m end_of-Pattern = refl
shape_rows m (more_of-Pattern p rest) = ap (shape_and (shape_of p)) (shape_rows _ rest)

arguments_in : Expr → (n : _) × Row_of-Argument n
arguments_in (code.Apply' p f n row s) = (_, row)
arguments_in _ = (_, end_of-Argument)

binders_in : Expr → (n : _) × Row_of-Binder n
binders_in (code.Lambda' n row p b s) = (_, row)
binders_in _ = (_, end_of-Binder)

statements_in : Expr → (n : _) × Row_of-Statement n
statements_in (code.Do' n row s) = (_, row)
statements_in _ = (_, end_of-Statement)

shapes_in : Pattern → (n : _) × Row_of-Pattern n
shapes_in (pattern.Constructor' k h n row s) = (_, row)
shapes_in _ = (_, end_of-Pattern)

pub apply_view : (f : Box Expr Global) (v : Vec argument_code.Argument Global) (s : Span) →
    tree_of (code.Apply f v s) ≡ apply (tree_of f.value) (arguments (map argument_of v.items)) s
unfolding arguments_in
apply_view f v s = let row =
    arguments_in (code.Apply f v s) in ap (λ (x : Arguments). apply (tree_of f.value) x s)
    (argument_rows row.0 row.1 ∙ ap (λ (xs : List argument_code.Argument). arguments (map argument_of xs))
    (items_hidden-the_row-Argument-0 v))

pub lambda_view : (v : Vec binder_code.Binder Global) (b : Box Expr Global) (s : Span) →
    tree_of (code.Lambda v b s) ≡ lambda (binders (map binder_of v.items)) (tree_of b.value) s
unfolding binders_in
lambda_view v b s = let row =
    binders_in (code.Lambda v b s) in ap (λ (x : Binders). lambda x (tree_of b.value) s)
    (binder_rows row.0 row.1 ∙ ap (λ (xs : List binder_code.Binder). binders (map binder_of xs))
    (items_hidden-the_row-Binder-1 v))

pub do_view : (v : Vec statement_code.Statement Global) (s : Span) →
    tree_of (code.Do v s) ≡ doing (statements (map statement_of v.items)) s
unfolding statements_in
do_view v s = let row = statements_in (code.Do v s) in ap (λ (x : Statements). doing x s)
    (statement_rows row.0 row.1 ∙ ap (λ (xs : List statement_code.Statement). statements (map statement_of xs))
    (items_hidden-the_row-Statement-2 v))

pub constructor_view : (k : Mark) (h : Named) (v : Vec Pattern Global) (s : Span) →
    shape_of (pattern.Constructor k h v s) ≡ constructor k h (shapes (map shape_of v.items)) s
unfolding shapes_in
constructor_view k h v s = let row =
    shapes_in (pattern.Constructor k h v s) in ap (λ (x : Shapes). constructor k h x s)
    (shape_rows row.0 row.1 ∙ ap (λ (xs : List Pattern). shapes (map shape_of xs))
    (items_hidden-the_row-Pattern-0 v))

pub let_view : (m : Mult) (n : Local) (t : Option (Box Expr Global)) (e b : Box Expr Global) (s : Span) →
    tree_of (code.Let m n t e b s) ≡ letting m n (written_type t) (tree_of e.value) (tree_of b.value) s
let_view m n None e b s = refl
let_view m n (Some t) e b s = refl

pub local_view : (m : Mult) (n : Local) (t : Option (Box Expr Global)) (e : Expr) (s : Span) →
    statement_of (step.Let m n t e s) ≡ local m n (written_type t) (tree_of e) s
local_view m n None e s = refl
local_view m n (Some t) e s = refl

-- ---- forms with rows of parts are the same where their parts are
pub same_apply : (f g : Box Expr Global) (v w : Vec argument_code.Argument Global) (s : Span)
    → tree_of f.value ≡ tree_of g.value → map argument_of v.items ≡ map argument_of w.items →
    tree_of (code.Apply f v s) ≡ tree_of (code.Apply g w s)
same_apply f g v w s function row =
    apply_view f v s
    ∙ ap (λ (t : Tree). apply t (arguments (map argument_of v.items)) s) function
    ∙ ap (λ (xs : List Argument). apply (tree_of g.value) (arguments xs) s) row
    ∙ sym (apply_view g w s)

pub same_lambda : (v w : Vec binder_code.Binder Global) (b d : Box Expr Global) (s : Span)
    → map binder_of v.items ≡ map binder_of w.items → tree_of b.value ≡ tree_of d.value →
    tree_of (code.Lambda v b s) ≡ tree_of (code.Lambda w d s)
same_lambda v w b d s row body =
    lambda_view v b s
    ∙ ap (λ (xs : List Binder). lambda (binders xs) (tree_of b.value) s) row
    ∙ ap (λ (t : Tree). lambda (binders (map binder_of w.items)) t s) body
    ∙ sym (lambda_view w d s)

pub same_do : (v w : Vec statement_code.Statement Global) (s : Span)
    → map statement_of v.items ≡ map statement_of w.items → tree_of (code.Do v s) ≡ tree_of (code.Do w s)
same_do v w s row = do_view v s ∙ ap (λ (xs : List Statement). doing (statements xs) s) row ∙ sym (do_view w s)

-- all that the parts of an expression want
pub ruleset rows = (the_lemmas, common_steps, apply_view, lambda_view, do_view, let_view, local_view)
