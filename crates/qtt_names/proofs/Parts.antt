-- The parts of a tree in turn.
use Rattle.std.proofs.Common.{◌≡◌, ℕ, List, [], ◌∷◌, ◌++◌, Ok, Err, refl, ap, sym, ◌∙◌, fold, append_assoc, append-nil, take, length, map, Option, Box, Vec, Global}
use Rattle.std.specs.List.{flat_map}
use Rattle.std.proofs.Math.Seq.{take-append_seam}
use Rattle.std.proofs.lemmas.Grind.{common_steps}
use Rattle.qtt_base.specs.declared.place.Span.{Span}
use Rattle.qtt_usage.specs.declared.mult.Mult.{Mult}
use Rattle.qtt_syntax.specs.declared.expr.Local.{Local}
use Rattle.qtt_syntax.specs.declared.expr.Expr.{Expr, the_lemmas}
use Rattle.qtt_syntax.specs.declared.expr.Expr.TheVariants as code
use Rattle.qtt_syntax.specs.declared.expr.Argument as argument_code
use Rattle.qtt_syntax.specs.declared.expr.Binder as binder_code
use Rattle.qtt_syntax.specs.declared.expr.Statement as statement_code
use Rattle.qtt_syntax.specs.declared.expr.Statement.TheVariants as step
use Rattle.qtt_syntax.specs.View.{tree_of, written_type, argument_of, binder_of, statement_of}
use Rattle.qtt_syntax.specs.Tree.{Tree, Annotation, Argument, Arguments, Binder, Binders, Statement, Statements, arguments, binders, statements}
use Rattle.qtt_syntax.specs.Tree.Tree.{apply, lambda, letting, doing}
use Rattle.qtt_syntax.specs.Tree.Statement.{local}
use Rattle.qtt_syntax.specs.Tree.Arguments.{argument_and}
use Rattle.qtt_syntax.specs.Tree.Binders.{binder_and}
use Rattle.qtt_syntax.specs.Tree.Statements.{statement_and}
use Rattle.qtt_syntax.proofs.Rows.{apply_view, lambda_view, do_view, let_view, local_view}
use Rattle.qtt_names.specs.Answer.{Answer, ◌>>=◌}
use Rattle.qtt_names.specs.InTurn.{in_turn}
use Rattle.qtt_names.specs.Filled.{Names, filled, filled_annotation, filled_argument, filled_arguments, filled_binder, filled_binders, filled_statement, filled_statements, unmoved, behind_binder, behind_statement, binder_name, binder_names, bound_by}
use Rattle.qtt_names.proofs.Steps.{ok_then, err_then, in_turn-one_more}

-- a row of parts is that of their list
pub turned : {A B : Type 0} (row : List A → B) (and : A → B → B) →
    ((a : A) (ys : List A) → row (a ∷ ys) ≡ and a (row ys)) → (r : Answer A) (rest : Answer (List A))
    → (r >>= λ a. (rest >>= λ ys. Ok (row ys)) >>= λ m. Ok (and a m)) ≡
    ((r >>= λ a. rest >>= λ ys. Ok (a ∷ ys)) >>= λ ys. Ok (row ys))
unfolding ◌>>=◌
turned row and cons (Err e) rest = refl
turned row and cons (Ok a) (Err e) = refl
turned row and cons (Ok a) (Ok ys) = ap Ok (sym (cons a ys))

pub arguments_in_turn : (names : Names) (Γ : List (List ℕ)) (xs : List Argument)
    → filled_arguments names Γ (arguments xs) ≡
    (in_turn (filled_argument names) unmoved Γ xs >>= λ ys. Ok (arguments ys))
arguments_in_turn names Γ [] = sym (ok_then [] (λ ys. Ok (arguments ys)))
arguments_in_turn names Γ (x ∷ xs) =
    ap (λ (m : Answer Arguments). filled_argument names Γ x >>= λ a. m >>= λ more. Ok (argument_and a more))
    (arguments_in_turn names Γ xs)
    ∙ turned arguments argument_and (λ a ys. refl) (filled_argument names Γ x)
    (in_turn (filled_argument names) unmoved Γ xs)

pub binders_in_turn : (names : Names) (Γ : List (List ℕ)) (xs : List Binder)
    → filled_binders names Γ (binders xs) ≡ (in_turn (filled_binder names) behind_binder Γ xs >>= λ ys. Ok (binders ys))
binders_in_turn names Γ [] = sym (ok_then [] (λ ys. Ok (binders ys)))
binders_in_turn names Γ (x ∷ xs) =
    ap (λ (m : Answer Binders). filled_binder names Γ x >>= λ b. m >>= λ more. Ok (binder_and b more))
    (binders_in_turn names (behind_binder Γ x) xs)
    ∙ turned binders binder_and (λ b ys. refl) (filled_binder names Γ x)
    (in_turn (filled_binder names) behind_binder (behind_binder Γ x) xs)

pub statements_in_turn : (names : Names) (Γ : List (List ℕ)) (xs : List Statement)
    → filled_statements names Γ (statements xs) ≡
    (in_turn (filled_statement names) behind_statement Γ xs >>= λ ys. Ok (statements ys))
statements_in_turn names Γ [] = sym (ok_then [] (λ ys. Ok (statements ys)))
statements_in_turn names Γ (x ∷ xs) =
    ap (λ (m : Answer Statements). filled_statement names Γ x >>= λ s. m >>= λ more. Ok (statement_and s more))
    (statements_in_turn names (behind_statement Γ x) xs)
    ∙ turned statements statement_and (λ s ys. refl) (filled_statement names Γ x)
    (in_turn (filled_statement names) behind_statement (behind_statement Γ x) xs)

pub behind_arguments : (Γ : List (List ℕ)) (xs : List Argument) → fold unmoved Γ xs ≡ Γ
behind_arguments Γ [] = refl
behind_arguments Γ (x ∷ xs) = behind_arguments Γ xs

pub behind_binders : (Γ : List (List ℕ)) (xs : List Binder) → fold behind_binder Γ xs ≡ Γ ++ binder_names (binders xs)
behind_binders Γ [] = sym (append-nil Γ)
behind_binders Γ (x ∷ xs) =
    behind_binders (behind_binder Γ x) xs ∙ append_assoc Γ (binder_name x ∷ []) (binder_names (binders xs))

behind_statements : (Γ : List (List ℕ)) (xs : List Statement) → fold behind_statement Γ xs ≡ Γ ++ flat_map bound_by xs
behind_statements Γ [] = sym (append-nil Γ)
behind_statements Γ (x ∷ xs) =
    behind_statements (behind_statement Γ x) xs ∙ append_assoc Γ (bound_by x) (flat_map bound_by xs)

-- what binders and statements put behind the locals leaves them
pub take_behind_binders : (Γ : List (List ℕ)) (xs : List Binder) → take (length Γ) (fold behind_binder Γ xs) ≡ Γ
take_behind_binders Γ xs = ap (take (length Γ)) (behind_binders Γ xs) ∙ take-append_seam Γ (binder_names (binders xs))

pub take_behind_statements : (Γ : List (List ℕ)) (xs : List Statement) →
    take (length Γ) (fold behind_statement Γ xs) ≡ Γ
take_behind_statements Γ xs = ap (take (length Γ)) (behind_statements Γ xs) ∙ take-append_seam Γ (flat_map bound_by xs)

-- ---- forms with rows of parts, as the code has them
pub apply_form : (e : Expr) (f : Box Expr Global) (v : Vec argument_code.Argument Global) (s : Span)
    → e ≡ code.Apply f v s → tree_of e ≡ apply (tree_of f.value) (arguments (map argument_of v.items)) s
apply_form e f v s is = ap tree_of is ∙ apply_view f v s

pub lambda_form : (e : Expr) (v : Vec binder_code.Binder Global) (b : Box Expr Global) (s : Span)
    → e ≡ code.Lambda v b s → tree_of e ≡ lambda (binders (map binder_of v.items)) (tree_of b.value) s
lambda_form e v b s is = ap tree_of is ∙ lambda_view v b s

pub let_form : (e : Expr) (m : Mult) (n : Local) (t : Option (Box Expr Global)) (v b : Box Expr Global) (s : Span)
    → e ≡ code.Let m n t v b s → tree_of e ≡ letting m n (written_type t) (tree_of v.value) (tree_of b.value) s
let_form e m n t v b s is = ap tree_of is ∙ let_view m n t v b s

pub do_form : (e : Expr) (v : Vec statement_code.Statement Global) (s : Span) → e ≡ code.Do v s →
    tree_of e ≡ doing (statements (map statement_of v.items)) s
do_form e v s is = ap tree_of is ∙ do_view v s

pub local_form : (e : statement_code.Statement) (m : Mult) (n : Local) (t : Option (Box Expr Global)) (v : Expr)
    (s : Span)
    → e ≡ step.Let m n t v s → statement_of e ≡ local m n (written_type t) (tree_of v) s
local_form e m n t v s is = ap statement_of is ∙ local_view m n t v s

-- ---- forms with rows of parts, whose parts are found
module _ (names : Names) (Γ : List (List ℕ)) where
  pub apply_found : (f g : Tree) (xs ys : List Argument) (s : Span) → filled names Γ f ≡ Ok g →
      in_turn (filled_argument names) unmoved Γ xs ≡ Ok ys
      → filled names Γ (apply f (arguments xs) s) ≡ Ok (apply g (arguments ys) s)
  apply_found f g xs ys s one other = simp (arguments_in_turn, one, other, ok_then)

  pub lambda_found : (xs ys : List Binder) (b d : Tree) (s : Span) →
      in_turn (filled_binder names) behind_binder Γ xs ≡ Ok ys → filled names (fold behind_binder Γ xs) b ≡ Ok d
      → filled names Γ (lambda (binders xs) b s) ≡ Ok (lambda (binders ys) d s)
  lambda_found xs ys b d s one other =
      let inside : filled names (Γ ++ binder_names (binders xs)) b ≡ Ok d =
      ap (λ (Δ : List (List ℕ)). filled names Δ b) (sym (behind_binders Γ xs)) ∙ other in
      simp (binders_in_turn, one, inside, ok_then)

  pub let_found : (m : Mult) (n : Local) (t u : Annotation) (e f b d : Tree) (s : Span)
      → filled_annotation names Γ t ≡ Ok u → filled names Γ e ≡ Ok f → filled names (Γ ++ n.name ∷ []) b ≡ Ok d
      → filled names Γ (letting m n t e b s) ≡ Ok (letting m n u f d s)
  let_found m n t u e f b d s one two three = simp (one, two, three, ok_then)

  pub do_found : (xs ys : List Statement) (s : Span) → in_turn (filled_statement names) behind_statement Γ xs ≡ Ok ys
      → filled names Γ (doing (statements xs) s) ≡ Ok (doing (statements ys) s)
  do_found xs ys s one = simp (statements_in_turn, one, ok_then)

  pub local_found : (m : Mult) (n : Local) (t u : Annotation) (e f : Tree) (s : Span) →
      filled_annotation names Γ t ≡ Ok u → filled names Γ e ≡ Ok f
      → filled_statement names Γ (local m n t e s) ≡ Ok (local m n u f s)
  local_found m n t u e f s one two = simp (one, two, ok_then)

-- all that looking up the parts of an expression wants
pub ruleset parts = (
  the_lemmas,
  common_steps,
  apply_view,
  lambda_view,
  do_view,
  let_view,
  local_view,
  ok_then,
  err_then,
  in_turn-one_more,
  behind_arguments,
  arguments_in_turn,
  binders_in_turn,
  statements_in_turn,
  behind_binders,
  take_behind_binders,
  take_behind_statements,
)
