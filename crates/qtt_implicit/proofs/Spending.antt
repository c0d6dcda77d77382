-- What is walked has at most the nodes that it had and those that were put in.
use Rattle.std.proofs.Common.{◌≡◌, refl, ap, subst, ℕ, suc, ◌+◌, ◌-◌, ◌≤◌, arith, List, [], ◌∷◌, ◌++◌, map, length, Option, Some, None, Ok, Err, if◌then◌else◌, Bool, true, false, nat_le, sum_by}
use Rattle.qtt_base.specs.declared.place.Span.{Span}
use Rattle.qtt_syntax.specs.declared.expr.Mark.{Mark}
use Rattle.qtt_syntax.specs.declared.expr.Mark.TheVariants.{Written, Braced, Inserted}
use Rattle.qtt_syntax.specs.declared.expr.Named.{Named}
use Rattle.qtt_syntax.specs.declared.expr.Target.{Target}
use Rattle.qtt_syntax.specs.declared.expr.Target.TheVariants as target
use Rattle.qtt_syntax.specs.Tree.{Tree, Annotation, Argument, Arguments, Binder, Binders, Statement, Statements, arguments}
use Rattle.qtt_syntax.specs.Tree.Tree.{name, number, text, universe, hole, the, apply, pi, lambda, letting, doing}
use Rattle.qtt_syntax.specs.Tree.Annotation.{untyped, typed}
use Rattle.qtt_syntax.specs.Tree.Argument.{argument}
use Rattle.qtt_syntax.specs.Tree.Arguments.{no_argument, argument_and}
use Rattle.qtt_syntax.specs.Tree.Binder.{plain, typed_binder}
use Rattle.qtt_syntax.specs.Tree.Binders.{no_binder, binder_and}
use Rattle.qtt_syntax.specs.Tree.Statement.{bind, local, run}
use Rattle.qtt_syntax.specs.Tree.Statements.{no_statement, statement_and}
use Rattle.qtt_names.specs.Exports.{Sig}
use Rattle.qtt_implicit.specs.Moving.{weighed_annotation, weighed_argument, weighed_arguments, weighed_binder, weighed_binders, weighed_statement, weighed_statements, nodes, unknown}
use Rattle.qtt_implicit.specs.Known.{Known, signature}
use Rattle.qtt_implicit.specs.Filling.{Stop, done, put, stop}
use Rattle.qtt_implicit.specs.Walk.{Walked, Given, Then, Types, type_at, walk, walk_annotation, walk_argument, walk_arguments, walk_binder, walk_binders, walk_statement, walk_statements, is_braced, is_written, inserted_nodes, given_tree, given_argument, in_braces, not_in_braces, application, plainly_applied, behind_binders, binder_names, slot_argument, slot_arguments, few_braces, applied, applied_global, applied_name}
use Rattle.qtt_implicit.proofs.Outcomes.{Takes, Spends, then_spends, done_spends, stop_spends, weaker_spends}
use Rattle.qtt_implicit.proofs.SeenSignatures.{sum_more}
use Rattle.qtt_implicit.proofs.FilledSlots.{Begins, AllOpen, begins, open_alone}
use Rattle.qtt_implicit.proofs.Back.{filter_yes, filter_no}

-- ---- nodes
abbrev pub one : Tree → ℕ
one t = 1

abbrev pub row_nodes : Arguments → ℕ
row_nodes = weighed_arguments one

-- the nodes of arguments, as they were walked
abbrev pub given_nodes : List Given → ℕ
given_nodes [] = 0
given_nodes (g ∷ gs) = nodes g.tree + given_nodes gs

abbrev list_nodes : List Argument → ℕ
list_nodes [] = 0
list_nodes (argument k t ∷ xs) = nodes t + list_nodes xs

row_list : (xs : List Argument) → row_nodes (arguments xs) ≡ list_nodes xs
row_list [] = refl
row_list (argument k t ∷ xs) = ap (λ n. nodes t + n) (row_list xs)

list-append : (xs ys : List Argument) → list_nodes (xs ++ ys) ≡ list_nodes xs + list_nodes ys
list-append [] ys = omega arith
list-append (argument k t ∷ xs) ys = let e = list-append xs ys in omega (arith, e)

list_given : (gs : List Given) → list_nodes (map given_argument gs) ≡ given_nodes gs
list_given [] = refl
list_given (g ∷ gs) = ap (λ n. nodes g.tree + n) (list_given gs)

abbrev tree_nodes : List Tree → ℕ
tree_nodes [] = 0
tree_nodes (t ∷ ts) = nodes t + tree_nodes ts

-- those in braces and the others are no more than all
parted : (gs : List Given) → tree_nodes (in_braces gs) + given_nodes (not_in_braces gs) ≤ given_nodes gs
parted [] = omega arith
parted (g ∷ gs) = by g.mark refl (parted gs)
  where
    by : (k : Mark) → g.mark ≡ k →
        tree_nodes (in_braces gs) + given_nodes (not_in_braces gs) ≤ given_nodes gs →
        tree_nodes (in_braces (g ∷ gs)) + given_nodes (not_in_braces (g ∷ gs)) ≤ nodes g.tree + given_nodes gs
    by Written e ih =
        let a = ap (λ (l : List Given). tree_nodes (map given_tree l))
        (filter_no (λ (x : Given). is_braced x.mark) g gs (ap is_braced e)) in
        let b = ap given_nodes (filter_yes (λ (x : Given). is_written x.mark) g gs (ap is_written e)) in
        omega (arith, a, b, ih)
    by Braced e ih =
        let a = ap (λ (l : List Given). tree_nodes (map given_tree l))
        (filter_yes (λ (x : Given). is_braced x.mark) g gs (ap is_braced e)) in
        let b = ap given_nodes (filter_no (λ (x : Given). is_written x.mark) g gs (ap is_written e)) in
        omega (arith, a, b, ih)
    by Inserted e ih =
        let a = ap (λ (l : List Given). tree_nodes (map given_tree l))
        (filter_no (λ (x : Given). is_braced x.mark) g gs (ap is_braced e)) in
        let b = ap given_nodes (filter_no (λ (x : Given). is_written x.mark) g gs (ap is_written e)) in
        omega (arith, a, b, ih)

application_nodes : (f : Tree) (xs : List Argument) (s : Span) →
    nodes (application f xs s) ≤ 1 + (nodes f + list_nodes xs)
application_nodes f [] s = omega arith
application_nodes f (x ∷ xs) s = let e = row_list (x ∷ xs) in omega (arith, e)

pub plainly_nodes : (f T : Tree) (gs : List Given) (s : Span) →
    nodes (plainly_applied f T gs s).tree ≤ 1 + (nodes f + given_nodes gs)
plainly_nodes f T gs s =
    let a = application_nodes f (map given_argument gs) s in
    let b = list_given gs in
    omega (arith, a, b)

-- ---- slots
few_spends : (most : ℕ) (ts : List Tree) (s : Span) →
    Spends (λ (u : Unit {0}) n. (length ts ≤ most) × (n ≡ 0)) (few_braces most ts s)
few_spends most ts s = by (nat_le (length ts) most) refl
  where
    by : (b : Bool) → nat_le (length ts) most ≡ b →
        Spends (λ (u : Unit {0}) n. (length ts ≤ most) × (n ≡ 0))
        (if b then done tt else stop (Stop.braces most (length ts) s))
    by true e = done_spends (grind (arith, e), refl)
    by false e = stop_spends

pub put_spends : (n : ℕ) → Spends (λ (u : Unit {0}) i. i ≡ n) (put n)
put_spends n = record { at = λ left. by left (nat_le n left) refl }
  where
    by : (left : ℕ) (b : Bool) → nat_le n left ≡ b →
        Takes (λ (u : Unit {0}) i. i ≡ n) left (if b then Ok (tt, left - n) else Err Stop.too_large)
    by left true e = (n, grind (arith, e), refl)
    by left false e = tt

abbrev all_inserted : List Argument → ℕ
all_inserted = sum_by inserted_nodes

one_less : (n : ℕ) → n ≡ suc n - 1
one_less n = omega arith

-- those that were written fill the first slots
slots_spend : (s : Span) (ts : List Tree) (xs : List (List ℕ)) (os : List (Option Tree)) → Begins ts os →
    Spends (λ filled n. (list_nodes filled ≤ all_inserted filled + tree_nodes ts) × (n ≡ 0))
    (slot_arguments s (length ts) xs os)
slots_spend s ts [] os b = done_spends (omega arith, refl)
slots_spend s [] (x ∷ xs) [] b = done_spends (omega arith, refl)
slots_spend s [] (x ∷ xs) (None ∷ os) b = stop_spends
slots_spend s [] (x ∷ xs) (Some t ∷ os) b =
    then_spends (slots_spend s [] xs os tt) (λ more n p. done_spends
    (let e = sum_more inserted_nodes (slot_argument s 0 t) more in omega (arith, e, p.0), omega (arith, p.1)))
slots_spend s (t ∷ ts) (x ∷ xs) [] b = absurd b
slots_spend s (t ∷ ts) (x ∷ xs) (None ∷ os) b = let e = b.0 in absurd cc
slots_spend s (t ∷ ts) (x ∷ xs) (Some u ∷ os) b =
    let e = b.0 in
    let same : u ≡ t = cc in
    let equal = ap nodes same in
    then_spends
    (subst (λ (k : ℕ). Spends (λ filled n. (list_nodes filled ≤ all_inserted filled + tree_nodes ts) × (n ≡ 0))
    (slot_arguments s k xs os)) (one_less (length ts)) (slots_spend s ts xs os b.1))
    (λ more n p. done_spends (
      let f = sum_more inserted_nodes (slot_argument s (suc (length ts)) u) more in
          omega (arith, f, equal, p.0),
      omega (arith, p.1),
    ))

open_spends : (s : Span) (k : ℕ) (xs : List (List ℕ)) (os : List (Option Tree)) → AllOpen os →
    Spends (λ filled n. (filled ≡ []) × (n ≡ 0)) (slot_arguments s k xs os)
open_spends s k [] os a = done_spends (refl, refl)
open_spends s k (x ∷ xs) [] a = done_spends (refl, refl)
open_spends s k (x ∷ xs) (None ∷ os) a = stop_spends
open_spends s k (x ∷ xs) (Some t ∷ os) a = absurd a

-- ---- applications
-- an application of a name with these arguments: none is put in where there is none
abbrev AppliedNodes : List Given → Walked → ℕ → Type 0
AppliedNodes gs r n = nodes r.tree ≤ 2 + (given_nodes gs + n)

abbrev AloneNodes : Walked → ℕ → Type 0
AloneNodes r n = nodes r.tree ≤ 1 + n

applied_spends : (S : Sig) (n : Named) (gs : List Given) (s : Span) → Spends (AppliedNodes gs) (applied S n gs s)
applied_spends S n gs s =
    then_spends (few_spends S.braces (in_braces gs) n.span) (λ fits i few.
    then_spends (slots_spend n.span (in_braces gs) (binder_names S.braces (behind_binders S.params S.type)) _
    (begins S (in_braces gs) (behind_binders (S.params + S.braces) S.type) (not_in_braces gs) few.0))
    (λ filled j p. then_spends (put_spends (all_inserted filled)) (λ added k e. done_spends
    (let a = application_nodes (name n) (filled ++ map given_argument (not_in_braces gs)) s in
    let b = list-append filled (map given_argument (not_in_braces gs)) in
    let c = list_given (not_in_braces gs) in
    let d = parted gs in
    omega (arith, a, b, c, d, p.0, e)))))

alone_spends : (S : Sig) (n : Named) (s : Span) → Spends AloneNodes (applied S n [] s)
alone_spends S n s =
    then_spends (few_spends S.braces [] n.span) (λ fits i few.
    then_spends (open_spends n.span 0 (binder_names S.braces (behind_binders S.params S.type)) _
    (open_alone S (behind_binders (S.params + S.braces) S.type)))
    (λ filled j p. then_spends (put_spends (all_inserted filled)) (λ added k e. done_spends
    (let a = ap (λ (l : List Argument). nodes (application (name n) (l ++ []) s)) p.0 in
    omega (arith, a)))))

module _ (K : Known) where
  name_spends : (Γ : Types) (T : Target) (n : Named) → Spends AloneNodes (applied_name K Γ T n [] n.span)
  name_spends Γ (target.Global id) n = by (signature K id)
    where
      by : (o : Option Sig) → Spends AloneNodes (applied_global o n [] n.span)
      by None = done_spends (omega arith)
      by (Some S) = alone_spends S n n.span
  name_spends Γ (target.Local i) n = then_spends (few_spends 0 [] n.span) (λ fits j few. done_spends (omega arith))
  name_spends Γ target.Unknown n = done_spends (omega arith)

  applied_name_spends : (Γ : Types) (T : Target) (n : Named) (gs : List Given) (s : Span) →
      Spends (AppliedNodes gs) (applied_name K Γ T n gs s)
  applied_name_spends Γ (target.Global id) n gs s = by (signature K id)
    where
      by : (o : Option Sig) → Spends (AppliedNodes gs) (applied_global o n gs s)
      by None = done_spends (let a = plainly_nodes (name n) unknown gs s in omega (arith, a))
      by (Some S) = applied_spends S n gs s
  applied_name_spends Γ (target.Local i) n gs s =
      then_spends (few_spends 0 (in_braces gs) n.span) (λ fits j few. done_spends
      (let a = plainly_nodes (name n) (type_at Γ i) gs s in omega (arith, a)))
  applied_name_spends Γ target.Unknown n gs s =
      done_spends (let a = plainly_nodes (name n) unknown gs s in omega (arith, a))

  -- ---- expressions
  abbrev pub Adds : Tree → Walked → ℕ → Type 0
  Adds t r n = nodes r.tree ≤ nodes t + n

  -- an application of a name, where its arguments were walked
  named_spends : (Γ : Types) (n : Named) (xs : Arguments) (s : Span) (gs : List Given) (i : ℕ) →
      given_nodes gs ≤ row_nodes xs + i →
      Spends (λ r j. Adds (apply (name n) xs s) r (i + j)) (applied_name K Γ n.target n gs s)
  named_spends Γ n xs s gs i p =
      weaker_spends (applied_name_spends Γ n.target n gs s) (λ r j q. omega (arith, p, q))

  mutual
    pub spends : (Γ : Types) (t : Tree) → Spends (Adds t) (walk K Γ t)
    spends Γ (name n) = name_spends Γ n.target n
    spends Γ (number z s) = done_spends (omega arith)
    spends Γ (text v s) = done_spends (omega arith)
    spends Γ (universe l ls s) = done_spends (omega arith)
    spends Γ (hole n s) = done_spends (omega arith)
    spends Γ (the t e s) =
        then_spends (spends Γ t) (λ t' i p. then_spends (spends Γ e) (λ e' j q. done_spends (omega (arith, p, q))))
    spends Γ (apply (name n) xs s) =
        then_spends (spends_arguments Γ xs) (λ gs i p. named_spends Γ n xs s gs i p)
    spends Γ (apply f xs s) =
        then_spends (spends Γ f) (λ f' i p. then_spends (spends_arguments Γ xs) (λ gs j q. done_spends
        (let a = plainly_nodes f'.tree f'.type gs s in omega (arith, a, p, q))))
    spends Γ (pi k m n a b s) =
        then_spends (spends Γ a) (λ a' i p. then_spends (spends _ b) (λ b' j q. done_spends (omega (arith, p, q))))
    spends Γ (lambda bs b s) =
        then_spends (spends_binders Γ bs) (λ bs' i p.
        then_spends (spends _ b) (λ b' j q. done_spends (omega (arith, p, q))))
    spends Γ (letting m n t e b s) =
        then_spends (spends_annotation Γ t) (λ t' i p. then_spends (spends Γ e) (λ e' j q.
        then_spends (spends _ b) (λ b' k r. done_spends (omega (arith, p, q, r)))))
    spends Γ (doing ss s) = then_spends (spends_statements Γ ss) (λ ss' i p. done_spends (omega (arith, p)))

    pub spends_annotation : (Γ : Types) (t : Annotation) →
        Spends (λ t' n. weighed_annotation one t' ≤ weighed_annotation one t + n) (walk_annotation K Γ t)
    spends_annotation Γ untyped = done_spends (omega arith)
    spends_annotation Γ (typed t) = then_spends (spends Γ t) (λ t' i p. done_spends (omega (arith, p)))

    spends_argument : (Γ : Types) (a : Argument) →
        Spends (λ (x : Given) n. nodes x.tree ≤ weighed_argument one a + n) (walk_argument K Γ a)
    spends_argument Γ (argument k t) = then_spends (spends Γ t) (λ t' i p. done_spends (omega (arith, p)))

    spends_arguments : (Γ : Types) (xs : Arguments) →
        Spends (λ gs n. given_nodes gs ≤ row_nodes xs + n) (walk_arguments K Γ xs)
    spends_arguments Γ no_argument = done_spends (omega arith)
    spends_arguments Γ (argument_and a more) =
        then_spends (spends_argument Γ a) (λ a' i p.
        then_spends (spends_arguments Γ more) (λ gs j q. done_spends (omega (arith, p, q))))

    spends_binder : (Γ : Types) (b : Binder) →
        Spends (λ (b' : Then Binder) n. weighed_binder one b'.part ≤ weighed_binder one b + n) (walk_binder K Γ b)
    spends_binder Γ (plain n) = done_spends (omega arith)
    spends_binder Γ (typed_binder m n t s) = then_spends (spends Γ t) (λ t' i p. done_spends (omega (arith, p)))

    spends_binders : (Γ : Types) (bs : Binders) →
        Spends (λ (bs' : Then Binders) n. weighed_binders one bs'.part ≤ weighed_binders one bs + n)
        (walk_binders K Γ bs)
    spends_binders Γ no_binder = done_spends (omega arith)
    spends_binders Γ (binder_and b more) =
        then_spends (spends_binder Γ b) (λ b' i p.
        then_spends (spends_binders _ more) (λ more' j q. done_spends (omega (arith, p, q))))

    spends_statement : (Γ : Types) (s : Statement) →
        Spends (λ (s' : Then Statement) n. weighed_statement one s'.part ≤ weighed_statement one s + n)
        (walk_statement K Γ s)
    spends_statement Γ (bind n e) = then_spends (spends Γ e) (λ e' i p. done_spends (omega (arith, p)))
    spends_statement Γ (local m n t e s) =
        then_spends (spends_annotation Γ t) (λ t' i p.
        then_spends (spends Γ e) (λ e' j q. done_spends (omega (arith, p, q))))
    spends_statement Γ (run e s) = then_spends (spends Γ e) (λ e' i p. done_spends (omega (arith, p)))

    spends_statements : (Γ : Types) (ss : Statements) →
        Spends (λ ss' n. weighed_statements one ss' ≤ weighed_statements one ss + n) (walk_statements K Γ ss)
    spends_statements Γ no_statement = done_spends (omega arith)
    spends_statements Γ (statement_and s more) =
        then_spends (spends_statement Γ s) (λ s' i p.
        then_spends (spends_statements _ more) (λ more' j q. done_spends (omega (arith, p, q))))
