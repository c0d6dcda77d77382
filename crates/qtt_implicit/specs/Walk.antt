-- Expressions with what is filled in, and their text types.
use Rattle.std.specs.Prelude.{ℕ, zero, suc, ◌+◌, ◌-◌, nat_le, Bool, true, false, if◌then◌else◌, List, [], ◌∷◌, ◌++◌, map, filter, take, drop, reverse, replicate, length, sum_by, Option, Some, None, slice_get, unwrap_or, codes}
use Rattle.qtt_base.specs.declared.place.Span.{Span}
use Rattle.qtt_syntax.specs.declared.expr.Mark.{Mark}
use Rattle.qtt_syntax.specs.declared.expr.Mark.TheVariants.{Written, Braced, Inserted}
use Rattle.qtt_syntax.specs.declared.expr.Named.{Named}
use Rattle.qtt_syntax.specs.declared.expr.Target.{Target}
use Rattle.qtt_syntax.specs.declared.expr.Target.TheVariants as target
use Rattle.qtt_syntax.specs.Tree.{Tree, Annotation, Argument, Arguments, Binder, Binders, Statement, Statements, arguments}
use Rattle.qtt_syntax.specs.Tree.Tree.{name, number, text, universe, hole, the, apply, pi, lambda, letting, doing}
use Rattle.qtt_syntax.specs.Tree.Annotation.{untyped, typed}
use Rattle.qtt_syntax.specs.Tree.Argument.{argument}
use Rattle.qtt_syntax.specs.Tree.Arguments.{no_argument, argument_and}
use Rattle.qtt_syntax.specs.Tree.Binder.{plain, typed_binder}
use Rattle.qtt_syntax.specs.Tree.Binders.{no_binder, binder_and}
use Rattle.qtt_syntax.specs.Tree.Statement.{bind, local, run}
use Rattle.qtt_syntax.specs.Tree.Statements.{no_statement, statement_and}
use Rattle.qtt_names.specs.Target.{same_id}
use Rattle.qtt_names.specs.Exports.{Sig}
use Rattle.qtt_names.specs.PrimNames.{prim_id}
use Rattle.qtt_implicit.specs.Moving.{shifted, placed, nowhere, unknown, nodes}
use Rattle.qtt_implicit.specs.Known.{Known, signature}
use Rattle.qtt_implicit.specs.Filling.{Stop, Filling, done, stop, put, ◌>>=◌}
use Rattle.qtt_implicit.specs.Matching.{Slots, instance, matched, codomains}

-- an expression with what is filled in, and its text type
pub record Walked : Type 0 where
  pub tree : Tree
  pub type : Tree

abbrev pub walked : Tree → Tree → Walked
walked t T = record { tree = t; type = T }

-- an argument, as it was walked
pub record Given : Type 0 where
  pub mark : Mark
  pub tree : Tree
  pub type : Tree

-- ---- local names
-- The text types of the local names, the newest first; each stands where the names are used.
abbrev pub Types : Type 0
Types = List Tree

-- behind a binder of this type
abbrev pub behind : Tree → Types → Types
behind T Γ = map (shifted 1) (T ∷ Γ)

abbrev pub type_at : Types → ℕ → Tree
type_at Γ i = unwrap_or (slice_get Γ i) unknown

-- ---- text types of Prim
abbrev pub prim_type : ℕ → List ℕ → Tree
prim_type n path = name (record { path = path; target = target.Global (prim_id n); span = nowhere })

abbrev pub int : Tree
int = prim_type 0 (codes "Int")

abbrev pub string : Tree
string = prim_type 1 (codes "String")

-- IO or IO1
abbrev pub is_io : Target → Bool
is_io (target.Global id) = if same_id id (prim_id 6) then true else same_id id (prim_id 7)
is_io (target.Local i) = false
is_io target.Unknown = false

-- what an action of this text type gives: T for `IO T` and `IO1 T`
abbrev pub result_type : Tree → Tree
result_type (apply (name n) (argument_and (argument k t) no_argument) s) = if is_io n.target then t else unknown
result_type _ = unknown

-- ---- applications
abbrev pub is_braced : Mark → Bool
is_braced Braced = true
is_braced Written = false
is_braced Inserted = false

abbrev pub given_tree : Given → Tree
given_tree x = x.tree

abbrev pub in_braces : List Given → List Tree
in_braces xs = map given_tree (filter (λ x. is_braced x.mark) xs)

abbrev pub is_written : Mark → Bool
is_written Written = true
is_written Braced = false
is_written Inserted = false

abbrev pub not_in_braces : List Given → List Given
not_in_braces = filter (λ x. is_written x.mark)

abbrev pub given_argument : Given → Argument
given_argument x = argument x.mark x.tree

-- an application, or what is applied where there is no argument
abbrev pub application : Tree → List Argument → Span → Tree
application f [] s = f
application f (x ∷ xs) s = apply f (arguments (x ∷ xs)) s

-- an application of what has no signature
abbrev pub plainly_applied : Tree → Tree → List Given → Span → Walked
plainly_applied f T xs s = walked (application f (map given_argument xs) s) (codomains T (map given_tree xs))

-- what is behind the first k binders of a chain
abbrev pub behind_binders : ℕ → Tree → Tree
behind_binders (suc k) (pi m q n a b s) = behind_binders k b
behind_binders _ t = t

-- the names of the first k binders of a chain
abbrev pub binder_names : ℕ → Tree → List (List ℕ)
binder_names (suc k) (pi m q n a b s) = n ∷ binder_names k b
binder_names _ t = []

-- k slots, of which expressions in braces fill the first ones
abbrev pub slots_of : ℕ → List Tree → List (Option Tree)
slots_of k ts = map (λ t. Some t) ts ++ replicate (k - length ts) None

-- the slots of a signature, which stand for the binders that no text writes and then for those in braces
abbrev pub open_slots : Sig → List Tree → Slots
open_slots S braces = reverse (replicate S.params None ++ slots_of S.braces braces)

-- Each argument in turn is matched with the type of its binder, and stands for it in what follows. The slots, and
-- the text type.
abbrev pub given_to : Slots → Tree → List Given → Slots × Tree
given_to σ (pi k m n a b s) (x ∷ xs) = given_to (Some x.tree ∷ matched a x.type σ) b xs
given_to σ t xs = (σ, codomains (instance σ t) (map given_tree xs))

-- the slots of the binders in braces
abbrev pub brace_slots : Sig → Slots → List (Option Tree)
brace_slots S σ = take S.braces (drop S.params (reverse σ))

-- an argument that fills a slot: in braces where k of them are still to come that were written so, and else inserted
-- at the name's place
abbrev pub slot_argument : Span → ℕ → Tree → Argument
slot_argument s zero t = argument Inserted (placed s t)
slot_argument s (suc k) t = argument Braced t

-- the arguments of the binders in braces; the first one without an expression is unsolved
abbrev pub slot_arguments : Span → ℕ → List (List ℕ) → List (Option Tree) → Filling (List Argument)
slot_arguments s k (x ∷ xs) (None ∷ ts) = stop (Stop.unsolved x s)
slot_arguments s k (x ∷ xs) (Some t ∷ ts) = do
  more ← slot_arguments s (k - 1) xs ts
  done (slot_argument s k t ∷ more)
slot_arguments s k _ _ = done []

abbrev pub few_braces : ℕ → List Tree → Span → Filling (Unit {0})
few_braces most ts s = if nat_le (length ts) most then done tt else stop (Stop.braces most (length ts) s)

abbrev pub is_inserted : Mark → Bool
is_inserted Inserted = true
is_inserted Written = false
is_inserted Braced = false

abbrev pub inserted_nodes : Argument → ℕ
inserted_nodes (argument k t) = if is_inserted k then nodes t else 0

-- the used name at its slots and its arguments
abbrev pub at_slots : Sig → Named → List Given → Span → Slots × Tree → Filling Walked
at_slots S n xs s r = do
  filled ← slot_arguments n.span (length (in_braces xs)) (binder_names S.braces (behind_binders S.params S.type))
      (brace_slots S r.0)
  added ← put (sum_by inserted_nodes filled)
  done (walked (application (name n) (filled ++ map given_argument (not_in_braces xs)) s) r.1)

-- an application of a name with a signature
abbrev pub applied : Sig → Named → List Given → Span → Filling Walked
applied S n xs s = do
  fits ← few_braces S.braces (in_braces xs) n.span
  at_slots S n xs s (given_to (open_slots S (in_braces xs)) (behind_binders (S.params + S.braces) S.type)
      (not_in_braces xs))

abbrev pub applied_global : Option Sig → Named → List Given → Span → Filling Walked
applied_global None n xs s = done (plainly_applied (name n) unknown xs s)
applied_global (Some S) n xs s = applied S n xs s

-- a local name takes no braces
abbrev pub applied_local : Tree → Named → List Given → Span → Filling Walked
applied_local T n xs s = do
  fits ← few_braces 0 (in_braces xs) n.span
  done (plainly_applied (name n) T xs s)

abbrev pub applied_name : Known → Types → Target → Named → List Given → Span → Filling Walked
applied_name K Γ (target.Global id) n xs s = applied_global (signature K id) n xs s
applied_name K Γ (target.Local i) n xs s = applied_local (type_at Γ i) n xs s
applied_name K Γ target.Unknown n xs s = done (plainly_applied (name n) unknown xs s)

-- ---- expressions
-- a part of an expression, and the text types of the local names behind it
pub record Then (A : Type 0) : Type 0 where
  pub part : A
  pub types : Types

abbrev pub with_types : {A : Type 0} → A → Types → Then A
with_types a Γ = record { part = a; types = Γ }

-- a written type, or the text type of the value
abbrev pub let_type : Annotation → Tree → Tree
let_type untyped T = T
let_type (typed t) T = t

abbrev mutual
  -- an application is walked after its arguments
  pub walk : Known → Types → Tree → Filling Walked
  walk K Γ (name n) = applied_name K Γ n.target n [] n.span
  walk K Γ (number z s) = done (walked (number z s) int)
  walk K Γ (text v s) = done (walked (text v s) string)
  walk K Γ (universe l ls s) = done (walked (universe l ls s) unknown)
  walk K Γ (hole n s) = done (walked (hole n s) unknown)
  walk K Γ (the t e s) = do
    t' ← walk K Γ t
    e' ← walk K Γ e
    done (walked (the t'.tree e'.tree s) t'.tree)
  walk K Γ (apply (name n) xs s) = do
    xs' ← walk_arguments K Γ xs
    applied_name K Γ n.target n xs' s
  walk K Γ (apply f xs s) = do
    f' ← walk K Γ f
    xs' ← walk_arguments K Γ xs
    done (plainly_applied f'.tree f'.type xs' s)
  walk K Γ (pi k m n a b s) = do
    a' ← walk K Γ a
    b' ← walk K (behind a'.tree Γ) b
    done (walked (pi k m n a'.tree b'.tree s) unknown)
  walk K Γ (lambda bs b s) = do
    bs' ← walk_binders K Γ bs
    b' ← walk K bs'.types b
    done (walked (lambda bs'.part b'.tree s) unknown)
  walk K Γ (letting m n t e b s) = do
    t' ← walk_annotation K Γ t
    e' ← walk K Γ e
    b' ← walk K (behind (let_type t' e'.type) Γ) b
    done (walked (letting m n t' e'.tree b'.tree s) unknown)
  walk K Γ (doing ss s) = do
    ss' ← walk_statements K Γ ss
    done (walked (doing ss' s) unknown)

  pub walk_annotation : Known → Types → Annotation → Filling Annotation
  walk_annotation K Γ untyped = done untyped
  walk_annotation K Γ (typed t) = do
    t' ← walk K Γ t
    done (typed t'.tree)

  pub walk_argument : Known → Types → Argument → Filling Given
  walk_argument K Γ (argument k t) = do
    t' ← walk K Γ t
    done (record { mark = k; tree = t'.tree; type = t'.type })

  pub walk_arguments : Known → Types → Arguments → Filling (List Given)
  walk_arguments K Γ no_argument = done []
  walk_arguments K Γ (argument_and a more) = do
    a' ← walk_argument K Γ a
    more' ← walk_arguments K Γ more
    done (a' ∷ more')

  pub walk_binder : Known → Types → Binder → Filling (Then Binder)
  walk_binder K Γ (plain n) = done (with_types (plain n) (behind unknown Γ))
  walk_binder K Γ (typed_binder m n t s) = do
    t' ← walk K Γ t
    done (with_types (typed_binder m n t'.tree s) (behind t'.tree Γ))

  pub walk_binders : Known → Types → Binders → Filling (Then Binders)
  walk_binders K Γ no_binder = done (with_types no_binder Γ)
  walk_binders K Γ (binder_and b more) = do
    b' ← walk_binder K Γ b
    more' ← walk_binders K b'.types more
    done (with_types (binder_and b'.part more'.part) more'.types)

  pub walk_statement : Known → Types → Statement → Filling (Then Statement)
  walk_statement K Γ (bind n e) = do
    e' ← walk K Γ e
    done (with_types (bind n e'.tree) (behind (result_type e'.type) Γ))
  walk_statement K Γ (local m n t e s) = do
    t' ← walk_annotation K Γ t
    e' ← walk K Γ e
    done (with_types (local m n t' e'.tree s) (behind (let_type t' e'.type) Γ))
  walk_statement K Γ (run e s) = do
    e' ← walk K Γ e
    done (with_types (run e'.tree s) Γ)

  pub walk_statements : Known → Types → Statements → Filling Statements
  walk_statements K Γ no_statement = done no_statement
  walk_statements K Γ (statement_and s more) = do
    s' ← walk_statement K Γ s
    more' ← walk_statements K s'.types more
    done (statement_and s'.part more')
