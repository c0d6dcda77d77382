-- Where nothing is in braces, what is walked stays as it is.
use Rattle.std.proofs.Common.{◌≡◌, ◌∙◌, refl, ap, sym, subst, ℕ, ◌-◌, arith, List, [], ◌∷◌, ◌++◌, map, length, Option, Some, None, Result, Ok, Err, if◌then◌else◌, Bool, true, false, nat_le, sum_by, eqb, slice_get}
use mathlib.Core.Path.{ap₂}
use Rattle.qtt_base.specs.declared.place.GlobalId.{GlobalId}
use Rattle.qtt_base.specs.declared.place.Span.{Span}
use Rattle.qtt_syntax.specs.declared.expr.Mark.{Mark}
use Rattle.qtt_syntax.specs.declared.expr.Mark.TheVariants.{Written, Braced, Inserted}
use Rattle.qtt_syntax.specs.declared.expr.Named.{Named}
use Rattle.qtt_syntax.specs.declared.expr.Target.{Target}
use Rattle.qtt_syntax.specs.declared.expr.Target.TheVariants as target
use Rattle.qtt_syntax.specs.Tree.{Tree, Annotation, Argument, Arguments, Binder, Binders, Statement, Statements, arguments}
use Rattle.qtt_syntax.specs.Tree.Tree.{name, number, text, universe, hole, the, apply, pi, lambda, letting, doing}
use Rattle.qtt_syntax.specs.Tree.Annotation.{untyped, typed}
use Rattle.qtt_syntax.specs.Tree.Argument.{argument}
use Rattle.qtt_syntax.specs.Tree.Arguments.{no_argument, argument_and}
use Rattle.qtt_syntax.specs.Tree.Binder.{plain, typed_binder}
use Rattle.qtt_syntax.specs.Tree.Binders.{no_binder, binder_and}
use Rattle.qtt_syntax.specs.Tree.Statement.{bind, local, run}
use Rattle.qtt_syntax.specs.Tree.Statements.{no_statement, statement_and}
use Rattle.qtt_names.specs.Exports.{Sig}
use Rattle.qtt_implicit.specs.Moving.{unknown, weighed, weighed_annotation, weighed_argument, weighed_arguments, weighed_binder, weighed_binders, weighed_statement, weighed_statements}
use Rattle.qtt_implicit.specs.Known.{Known, exported, own_signature, signature}
use Rattle.qtt_implicit.specs.Patterns.{braces_of}
use Rattle.qtt_implicit.specs.Filling.{Stop, done, put, stop}
use Rattle.qtt_implicit.specs.Walk.{Walked, Given, Then, Types, type_at, walk, walk_annotation, walk_argument, walk_arguments, walk_binder, walk_binders, walk_statement, walk_statements, is_braced, is_written, inserted_nodes, given_tree, given_argument, in_braces, not_in_braces, application, plainly_applied, behind_binders, binder_names, slot_arguments, few_braces, applied, applied_global, applied_name}
use Rattle.qtt_implicit.specs.Laws.{unless, all_written, has_argument, not_plain, HasNoBraces, braces_seen, name_braces}
use Rattle.qtt_implicit.proofs.Outcomes.{Comes, then_comes, done_comes}
use Rattle.qtt_implicit.proofs.SeenSignatures.{Has, each_at, mapped}
use Rattle.qtt_implicit.proofs.Back.{filter_yes, filter_no}
use Rattle.qtt_implicit.proofs.BackItems.{OwnHave}

-- ---- arguments, as they were walked
abbrev pub row : List Given → Arguments
row gs = arguments (map given_argument gs)

all_in_order : (gs : List Given) → all_written (row gs) ≡ true → (in_braces gs ≡ []) × (not_in_braces gs ≡ gs)
all_in_order [] h = (refl, refl)
all_in_order (g ∷ gs) h = by g.mark refl h (all_in_order gs)
  where
    by : (k : Mark) → g.mark ≡ k → all_written (argument_and (argument k g.tree) (row gs)) ≡ true →
        (all_written (row gs) ≡ true → (in_braces gs ≡ []) × (not_in_braces gs ≡ gs)) →
        (in_braces (g ∷ gs) ≡ []) × (not_in_braces (g ∷ gs) ≡ g ∷ gs)
    by Written e h ih = (
      ap (map given_tree) (filter_no (λ (x : Given). is_braced x.mark) g gs (ap is_braced e)) ∙ (ih h).0,
      filter_yes (λ (x : Given). is_written x.mark) g gs (ap is_written e) ∙ ap (λ (l : List Given). g ∷ l) (ih h).1,
    )
    by Braced e h ih = absurd cc
    by Inserted e h ih = absurd cc

is_so : (b : Bool) → unless b ≡ 0 → b ≡ true
is_so true e = refl
is_so false e = absurd (omega arith)

application_same : (f : Tree) (xs : List Argument) (s : Span) → has_argument (arguments xs) ≡ true →
    application f xs s ≡ apply f (arguments xs) s
application_same f [] s h = absurd cc
application_same f (x ∷ xs) s h = refl

-- ---- nothing is put in
no_braces : (most : ℕ) (ts : List Tree) (s : Span) → ts ≡ [] →
    Comes (λ (u : Unit {0}). Unit {0}) (few_braces most ts s)
no_braces most ts s e = by (nat_le (length ts) most) refl
  where
    by : (b : Bool) → nat_le (length ts) most ≡ b →
        Comes (λ (u : Unit {0}). Unit {0}) (if b then done tt else stop (Stop.braces most (length ts) s))
    by true f = done_comes tt
    by false f = let none = ap length e in absurd (grind (arith, f, none))

no_slots : (s : Span) (k b : ℕ) (T : Tree) (os : List (Option Tree)) → b ≡ 0 →
    Comes (λ filled. filled ≡ []) (slot_arguments s k (binder_names b T) os)
no_slots s k b T os e =
    subst (λ (n : ℕ). Comes (λ filled. filled ≡ []) (slot_arguments s k (binder_names n T) os)) (sym e)
    (done_comes refl)

abbrev so_many : ℕ → Result (Unit {0} × ℕ) Stop
so_many left = Ok (tt, left)

pub nothing_put : (n : ℕ) → n ≡ 0 → Comes (λ (u : Unit {0}). Unit {0}) (put n)
nothing_put n e = record { at = λ left. (tt, by left (nat_le n left) refl, tt) }
  where
    by : (left : ℕ) (b : Bool) → nat_le n left ≡ b →
        (if b then so_many (left - n) else Err Stop.too_large) ≡ so_many left
    by left true f = let g : left - n ≡ left = omega arith in ap so_many g
    by left false f = absurd (grind (arith, f, e))

-- ---- applications
abbrev pub Stays : Tree → Walked → Type 0
Stays t r = r.tree ≡ t

module _ (gs : List Given) (all : all_written (row gs) ≡ true) (some : has_argument (row gs) ≡ true) where
  plainly_stays : (f T : Tree) (s : Span) → Stays (apply f (row gs) s) (plainly_applied f T gs s)
  plainly_stays f T s = application_same f (map given_argument gs) s some

  applied_stays : (S : Sig) → HasNoBraces S → (n : Named) (s : Span) →
      Comes (Stays (apply (name n) (row gs) s)) (applied S n gs s)
  applied_stays S none n s =
      then_comes (no_braces S.braces (in_braces gs) n.span (all_in_order gs all).0) (λ fits u.
      then_comes (no_slots n.span (length (in_braces gs)) S.braces (behind_binders S.params S.type) _ none)
      (λ filled e. then_comes (nothing_put (sum_by inserted_nodes filled) (ap (sum_by inserted_nodes) e))
      (λ added u. done_comes
      (ap₂ (λ (l : List Argument) (ws : List Given). application (name n) (l ++ map given_argument ws) s) e
      (all_in_order gs all).1
      ∙ application_same (name n) (map given_argument gs) s some))))

alone_stays : (S : Sig) → HasNoBraces S → (n : Named) (s : Span) → Comes (Stays (name n)) (applied S n [] s)
alone_stays S none n s =
    then_comes (no_braces S.braces [] n.span refl) (λ fits u.
    then_comes (no_slots n.span 0 S.braces (behind_binders S.params S.type) _ none)
    (λ filled e. then_comes (nothing_put (sum_by inserted_nodes filled) (ap (sum_by inserted_nodes) e))
    (λ added u. done_comes (ap (λ (l : List Argument). application (name n) (l ++ []) s) e))))

-- own items are without braces, and a name sees none in what is imported
pub signature_none : (K : Known) → OwnHave HasNoBraces K.own → (id : GlobalId) → braces_of (exported K.imports id) ≡ 0 →
    Has HasNoBraces (signature K id)
signature_none K own id e = by (eqb id.module.0 K.home.0)
  where
    imported : (o : Option Sig) → braces_of o ≡ 0 → Has HasNoBraces o
    imported None h = tt
    imported (Some S) h = h

    by : (b : Bool) → Has HasNoBraces (if b then own_signature K.own id.item else exported K.imports id)
    by true = mapped HasNoBraces (slice_get K.own id.item)
        (each_at (λ (o : List ℕ × Sig). HasNoBraces o.1) K.own id.item own)
    by false = imported (exported K.imports id) e

module _ (K : Known) (own : OwnHave HasNoBraces K.own) where
  name_stays : (Γ : Types) (T : Target) (n : Named) → braces_seen K.imports T ≡ 0 →
      Comes (Stays (name n)) (applied_name K Γ T n [] n.span)
  name_stays Γ (target.Global id) n unseen = by (signature K id) (signature_none K own id unseen)
    where
      by : (o : Option Sig) → Has HasNoBraces o → Comes (Stays (name n)) (applied_global o n [] n.span)
      by None h = done_comes refl
      by (Some S) h = alone_stays S h n n.span
  name_stays Γ (target.Local i) n unseen = then_comes (no_braces 0 [] n.span refl) (λ fits u. done_comes refl)
  name_stays Γ target.Unknown n unseen = done_comes refl

  applied_name_stays : (gs : List Given) → all_written (row gs) ≡ true → has_argument (row gs) ≡ true →
      (Γ : Types) (T : Target) (n : Named) (s : Span) → braces_seen K.imports T ≡ 0 →
      Comes (Stays (apply (name n) (row gs) s)) (applied_name K Γ T n gs s)
  applied_name_stays gs all some Γ (target.Global id) n s unseen =
      by (signature K id) (signature_none K own id unseen)
    where
      by : (o : Option Sig) → Has HasNoBraces o → Comes (Stays (apply (name n) (row gs) s)) (applied_global o n gs s)
      by None h = done_comes (plainly_stays gs all some (name n) unknown s)
      by (Some S) h = applied_stays gs all some S h n s
  applied_name_stays gs all some Γ (target.Local i) n s unseen =
      then_comes (no_braces 0 (in_braces gs) n.span (all_in_order gs all).0) (λ fits u. done_comes
      (plainly_stays gs all some (name n) (type_at Γ i) s))
  applied_name_stays gs all some Γ target.Unknown n s unseen =
      done_comes (plainly_stays gs all some (name n) unknown s)

  of_name : (Γ : Types) (n : Named) (xs : Arguments) (s : Span) (gs : List Given) → row gs ≡ xs →
      not_plain (apply (name n) xs s) ≡ 0 → braces_seen K.imports n.target ≡ 0 →
      Comes (Stays (apply (name n) xs s)) (applied_name K Γ n.target n gs s)
  of_name Γ n xs s gs e h unseen =
      let all : all_written (row gs) ≡ true = ap all_written e ∙ is_so (all_written xs) (omega (arith, h)) in
      let some : has_argument (row gs) ≡ true = ap has_argument e ∙ is_so (has_argument xs) (omega (arith, h)) in
      subst (λ (ys : Arguments). Comes (Stays (apply (name n) ys s)) (applied_name K Γ n.target n gs s)) e
      (applied_name_stays gs all some Γ n.target n s unseen)

  of_other : (f : Tree) (xs : Arguments) (s : Span) (r : Walked) (gs : List Given) → r.tree ≡ f → row gs ≡ xs →
      not_plain (apply f xs s) ≡ 0 → Stays (apply f xs s) (plainly_applied r.tree r.type gs s)
  of_other f xs s r gs p e h =
      let all : all_written (row gs) ≡ true = ap all_written e ∙ is_so (all_written xs) (omega (arith, h)) in
      let some : has_argument (row gs) ≡ true = ap has_argument e ∙ is_so (has_argument xs) (omega (arith, h)) in
      plainly_stays gs all some r.tree r.type s ∙ ap₂ (λ x y. apply x y s) p e

  -- ---- expressions
  mutual
    pub stays : (Γ : Types) (t : Tree) → weighed not_plain t ≡ 0 →
        weighed (name_braces K.imports) t ≡ 0 → Comes (Stays t) (walk K Γ t)
    stays Γ (name n) h unseen = name_stays Γ n.target n unseen
    stays Γ (number z s) h unseen = done_comes refl
    stays Γ (text v s) h unseen = done_comes refl
    stays Γ (universe l ls s) h unseen = done_comes refl
    stays Γ (hole n s) h unseen = done_comes refl
    stays Γ (the t e s) h unseen =
        then_comes (stays Γ t (omega arith) (omega arith)) (λ t' p.
        then_comes (stays Γ e (omega arith) (omega arith)) (λ e' q. done_comes (ap₂ (λ x y. the x y s) p q)))
    stays Γ (apply (name n) xs s) h unseen =
        then_comes (arguments_stay Γ xs (omega arith) (omega arith))
        (λ gs e. of_name Γ n xs s gs e (omega arith) (omega arith))
    stays Γ (apply f xs s) h unseen =
        then_comes (stays Γ f (omega arith) (omega arith)) (λ f' p.
        then_comes (arguments_stay Γ xs (omega arith) (omega arith)) (λ gs e. done_comes
        (of_other f xs s f' gs p e (omega arith))))
    stays Γ (pi k m n a b s) h unseen =
        then_comes (stays Γ a (omega arith) (omega arith)) (λ a' p.
        then_comes (stays _ b (omega arith) (omega arith)) (λ b' q. done_comes (ap₂ (λ x y. pi k m n x y s) p q)))
    stays Γ (lambda bs b s) h unseen =
        then_comes (binders_stay Γ bs (omega arith) (omega arith)) (λ bs' p.
        then_comes (stays _ b (omega arith) (omega arith)) (λ b' q. done_comes (ap₂ (λ x y. lambda x y s) p q)))
    stays Γ (letting m n t e b s) h unseen =
        then_comes (annotation_stays Γ t (omega arith) (omega arith)) (λ t' p.
        then_comes (stays Γ e (omega arith) (omega arith)) (λ e' q.
        then_comes (stays _ b (omega arith) (omega arith)) (λ b' r. done_comes
        (ap (λ x. letting m n x e'.tree b'.tree s) p ∙ ap₂ (λ x y. letting m n t x y s) q r))))
    stays Γ (doing ss s) h unseen =
        then_comes (statements_stay Γ ss (omega arith) (omega arith)) (λ ss' p. done_comes (ap (λ x. doing x s) p))

    annotation_stays : (Γ : Types) (t : Annotation) → weighed_annotation not_plain t ≡ 0 →
        weighed_annotation (name_braces K.imports) t ≡ 0 →
        Comes (λ t'. t' ≡ t) (walk_annotation K Γ t)
    annotation_stays Γ untyped h unseen = done_comes refl
    annotation_stays Γ (typed t) h unseen = then_comes (stays Γ t h unseen) (λ t' p. done_comes (ap typed p))

    argument_stays : (Γ : Types) (a : Argument) → weighed_argument not_plain a ≡ 0 →
        weighed_argument (name_braces K.imports) a ≡ 0 →
        Comes (λ x. given_argument x ≡ a) (walk_argument K Γ a)
    argument_stays Γ (argument k t) h unseen = then_comes (stays Γ t h unseen) (λ t' p. done_comes (ap (argument k) p))

    arguments_stay : (Γ : Types) (xs : Arguments) → weighed_arguments not_plain xs ≡ 0 →
        weighed_arguments (name_braces K.imports) xs ≡ 0 →
        Comes (λ gs. row gs ≡ xs) (walk_arguments K Γ xs)
    arguments_stay Γ no_argument h unseen = done_comes refl
    arguments_stay Γ (argument_and a more) h unseen =
        then_comes (argument_stays Γ a (omega arith) (omega arith)) (λ a' p.
        then_comes (arguments_stay Γ more (omega arith) (omega arith)) (λ gs q. done_comes (ap₂ argument_and p q)))

    binder_stays : (Γ : Types) (b : Binder) → weighed_binder not_plain b ≡ 0 →
        weighed_binder (name_braces K.imports) b ≡ 0 →
        Comes (λ (b' : Then Binder). b'.part ≡ b) (walk_binder K Γ b)
    binder_stays Γ (plain n) h unseen = done_comes refl
    binder_stays Γ (typed_binder m n t s) h unseen =
        then_comes (stays Γ t h unseen) (λ t' p. done_comes (ap (λ x. typed_binder m n x s) p))

    binders_stay : (Γ : Types) (bs : Binders) → weighed_binders not_plain bs ≡ 0 →
        weighed_binders (name_braces K.imports) bs ≡ 0 →
        Comes (λ (bs' : Then Binders). bs'.part ≡ bs) (walk_binders K Γ bs)
    binders_stay Γ no_binder h unseen = done_comes refl
    binders_stay Γ (binder_and b more) h unseen =
        then_comes (binder_stays Γ b (omega arith) (omega arith)) (λ b' p.
        then_comes (binders_stay _ more (omega arith) (omega arith)) (λ more' q. done_comes (ap₂ binder_and p q)))

    statement_stays : (Γ : Types) (s : Statement) → weighed_statement not_plain s ≡ 0 →
        weighed_statement (name_braces K.imports) s ≡ 0 →
        Comes (λ (s' : Then Statement). s'.part ≡ s) (walk_statement K Γ s)
    statement_stays Γ (bind n e) h unseen = then_comes (stays Γ e h unseen) (λ e' p. done_comes (ap (bind n) p))
    statement_stays Γ (local m n t e s) h unseen =
        then_comes (annotation_stays Γ t (omega arith) (omega arith)) (λ t' p.
        then_comes (stays Γ e (omega arith) (omega arith)) (λ e' q. done_comes (ap₂ (λ x y. local m n x y s) p q)))
    statement_stays Γ (run e s) h unseen = then_comes (stays Γ e h unseen) (λ e' p. done_comes (ap (λ x. run x s) p))

    statements_stay : (Γ : Types) (ss : Statements) → weighed_statements not_plain ss ≡ 0 →
        weighed_statements (name_braces K.imports) ss ≡ 0 →
        Comes (λ ss'. ss' ≡ ss) (walk_statements K Γ ss)
    statements_stay Γ no_statement h unseen = done_comes refl
    statements_stay Γ (statement_and s more) h unseen =
        then_comes (statement_stays Γ s (omega arith) (omega arith)) (λ s' p.
        then_comes (statements_stay _ more (omega arith) (omega arith)) (λ more' q. done_comes (ap₂ statement_and p q)))
