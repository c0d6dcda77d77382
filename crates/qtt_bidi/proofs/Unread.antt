-- Elaboration asks for no reading.
use Rattle.std.proofs.Common.{ℕ, List, [], ◌∷◌, Option, Some, None, slice_get}
use Rattle.qtt_base.specs.declared.place.Span.{Span}
use Rattle.qtt_usage.specs.declared.mult.Mult.{Mult}
use Rattle.qtt_syntax.specs.declared.expr.Local.{Local}
use Rattle.qtt_syntax.specs.declared.expr.Target.{Target}
use Rattle.qtt_syntax.specs.declared.expr.Target.TheVariants as target
use Rattle.qtt_syntax.specs.Tree.{Tree, Annotation, Arguments, Binder, Binders, Statements}
use Rattle.qtt_syntax.specs.Tree.Tree.{name, number, text, universe, hole, the, apply, pi, lambda, letting, doing}
use Rattle.qtt_syntax.specs.Tree.Annotation.{untyped, typed}
use Rattle.qtt_syntax.specs.Tree.Argument.{argument}
use Rattle.qtt_syntax.specs.Tree.Arguments.{no_argument, argument_and}
use Rattle.qtt_syntax.specs.Tree.Binder.{plain, typed_binder}
use Rattle.qtt_syntax.specs.Tree.Binders.{no_binder, binder_and}
use Rattle.qtt_syntax.specs.Tree.Statement.{bind, local, run}
use Rattle.qtt_syntax.specs.Tree.Statements.{no_statement, statement_and}
use Rattle.qtt_term.specs.declared.term.ConId.{ConId}
use Rattle.qtt_term.specs.Term.{Io, Term, var, node}
use Rattle.qtt_term.specs.Signature.{Tele, ConSig}
use Rattle.qtt_term.specs.Judgement.{Part, under}
use Rattle.qtt_term.specs.Ask.{Ask, asked_at, NoReading}
use Rattle.qtt_term.specs.Entries.{Entries, env}
use Rattle.qtt_term.specs.Scope.{Scope, with_name}
use Rattle.qtt_term.specs.Forms.{Function, as_sort, as_function}
use Rattle.qtt_term.specs.Premises.{found}
use Rattle.qtt_rules.specs.Refusal.{Place, Refusal}
use Rattle.qtt_rules.specs.Asks.{Asks}
use Rattle.qtt_rules.specs.Judged.{Judged, Mode}
use Rattle.qtt_core_check.proofs.Unread.{both, needs, finds}
use Rattle.qtt_core_check.proofs.Unread as core
use Rattle.qtt_bidi.specs.Meaning.{Meaning, meaning, exact}
use Rattle.qtt_bidi.specs.Premises.{as_family, as_action, as_action_of, fit}
use Rattle.qtt_bidi.specs.Elaboration.{Written, none_written, switched, is_type, stands_for, local_row, con_row, pure_row, global_row, name_row, let_row, bind_row, by_function, judge, arguments, applied, synthesised_lambda, checked_lambda, written_domain, valued, statement_place, statements}

-- ---- parts
at_once : {F P G Q A B : Type 0} (q : Q) (m : Ask F P A) (k : A → Ask G Q B) (r : F → Ask G Q B) → NoReading m →
    ((a : A) → NoReading (k a)) → ((f : F) → NoReading (r f)) → NoReading (asked_at q m k r)
unfolding asked_at
at_once q (Ask.done a) k r n u v = u a
at_once q (Ask.fail f) k r n u v = v f
at_once q (Ask.head p d t g) k r n u v = λ h. at_once q (g h) k r (n h) u v
at_once q (Ask.read p d t g) k r n u v = absurd n
at_once q (Ask.compare p d t s m w) k r n u v = (at_once q m k r n.0 u v, at_once q w k r n.1 u v)

heads : {X : Type 0} (view : Term → Option X) (r : Refusal) (h : Term) → NoReading {P = Place} (found (view h) r)
heads view r h = finds Place (view h) r

fitting : (p : Part) (n : Option (List ℕ)) (q : Mult) (us : List Mult) (l : Place) → NoReading (fit p n q us l)
unfolding fit
fitting Part.erased n q us l = tt
fitting Part.run n q us l = needs _ _ _

-- ---- rows
switching : (S : Scope) (m : Mode) (s : Span) (M : Asks Judged) → NoReading M → NoReading (switched S m s M)
switching S Mode.synth s M u = u
switching S (Mode.check A) s M u = both _ _ u (λ j. both _ _ (tt, tt) (λ v. tt))

typing : (S : Scope) (M : Asks Judged) (l : Place) → NoReading M → NoReading (is_type S M l)
typing S M l u = both _ _ u (λ j. both _ _ (heads as_sort _) (λ v. tt))

standing : (G : Entries) (p : Part) (S : Scope) (s : Span) (t A : Term) → NoReading (stands_for G p S s t A)
standing G p S s (var i) A = both _ _ (needs _ _ _) (λ v. tt)
standing G Part.run S s (node F ts) A =
    at_once _ _ _ _ (core.unread (env G) (node F ts) Part.run S.vars) (λ j. tt) (λ f. tt)
standing G Part.erased S s (node F ts) A = tt

locally : (G : Entries) (p : Part) (S : Scope) (s : Span) (o : Option (Term × Term)) → NoReading (local_row G p S s o)
locally G p S s None = tt
locally G p S s (Some x) = standing G p S s x.0 x.1

abbrev Unread : Written → Type 0
Unread w = (Θ : Tele) (σ : ℕ → Term) → NoReading (w.checked Θ σ)

constructing : (S : Scope) (m : Mode) (s : Span) (c : ConId) (k : ℕ) (o : Option ConSig) (w : Written) → Unread w →
    NoReading (con_row S m s c k o w)
constructing S m s c k None w u = tt
constructing S Mode.synth s c k (Some d) w u = both _ _ (needs _ _ _)
    (λ a. both _ _ (needs _ _ _) (λ b. both _ _ (u _ _) (λ g. tt)))
constructing S (Mode.check A) s c k (Some d) w u =
    both _ _ (heads (as_family c.family) _)
    (λ xs. both _ _ (needs _ _ _) (λ b. both _ _ (u _ _) (λ g. both _ _ (tt, tt) (λ v. tt))))

purely : (S : Scope) (m : Mode) (s : Span) (i : Io) (w : Written) → Unread w → NoReading (pure_row S m s i w)
purely S Mode.synth s i w u = tt
purely S (Mode.check A) s i w u = both _ _ (heads (as_action_of i) _)
    (λ B. both _ _ (needs _ _ _) (λ b. both _ _ (u _ _) (λ g. tt)))

globally : (G : Entries) (p : Part) (S : Scope) (m : Mode) (s : Span) (x : Meaning) (w : Written) → Unread w →
    NoReading (global_row G p S m s x w)
globally G p S m s (Meaning.definition d) w u = switching S m s _ (both _ _ (needs _ _ _) (λ v. tt))
globally G p S m s (Meaning.family f) w u = switching S m s _ (both _ _ (needs _ _ _) (λ v. both _ _ (u _ _) (λ g. tt)))
globally G p S m s (Meaning.constructor c) w u = constructing S m s c _ _ w u
globally G p S m s (Meaning.listed r n) w u = switching S m s _
    (both _ _ (needs _ _ _) (λ v. both _ _ (u _ _) (λ g. tt)))
globally G p S m s (Meaning.pure i) w u = purely S m s i w u

naming : (G : Entries) (p : Part) (S : Scope) (m : Mode) (s : Span) (t : Target) → NoReading (name_row G p S m s t)
naming G p S m s target.Unknown = tt
naming G p S m s (target.Local i) = switching S m s _ (locally G p S s (slice_get S.names i))
naming G p S m s (target.Global id) = globally G p S m s (meaning G id) (none_written S) (λ Θ σ. tt)

letting_in : (p : Part) (S : Scope) (m : Mode) (q : Mult) (x : Local) (value : Asks Judged)
    (body : Scope → Mode → Asks Judged) → NoReading value →
    ((T : Scope) (n : Mode) → NoReading (body T n)) → NoReading (let_row p S m q x value body)
letting_in p S m q x value body u v =
    both _ _ u (λ e. both _ _ (v _ _) (λ b. both _ _ (fitting p _ q b.uses _) (λ f. tt)))

binding : (p : Part) (S : Scope) (m : Mode) (s r : Span) (x : Option Local) (action : Asks Judged)
    (rest : Scope → Mode → Asks Judged) → NoReading action →
    ((T : Scope) (n : Mode) → NoReading (rest T n)) → NoReading (bind_row p S m s r x action rest)
binding p S Mode.synth s r x action rest u v = tt
binding p S (Mode.check A) s r x action rest u v =
    both _ _ (heads as_action _)
    (λ B. both _ _ u (λ e. both _ _ (heads as_action _)
    (λ C. both _ _ (v _ _) (λ k. both _ _ (fitting p _ _ k.uses _) (λ f. tt)))))

by_one : (o : Option Meaning) (f : Meaning → Asks Judged) (g : Unit {0} → Asks Judged) →
    ((x : Meaning) → NoReading (f x)) → NoReading (g tt) → NoReading (by_function o f g)
by_one None f g u v = v
by_one (Some x) f g u v = u x

-- ---- the rules
mutual
  pub unread : (e : Tree) (G : Entries) (p : Part) (S : Scope) (m : Mode) → NoReading (judge G p S m e)
  unread (name n) G p S m = naming G p S m n.span n.target
  unread (number z s) G p S m = switching S m s _ tt
  unread (text v s) G p S m = switching S m s _ tt
  unread (universe l ls s) G p S m = switching S m s _ tt
  unread (hole n s) G p S m = tt
  unread (pi k q x A B s) G p S m = switching S m s _
      (both _ _ (typing S _ _ (unread A G Part.erased S Mode.synth))
      (λ D. both _ _ (typing (with_name q D.core S) _ _ (unread B G Part.erased (with_name q D.core S) Mode.synth))
      (λ C. tt)))
  unread (lambda bs e s) G p S Mode.synth = both _ _ (needs _ _ _)
      (λ v. binders_unread bs G p S _ (λ T. unread e G p T Mode.synth))
  unread (lambda bs e s) G p S (Mode.check A) = checked_unread bs G p S s A _ (λ T B. unread e G p T (Mode.check B))
  unread (apply f es s) G p S m = by_one (exact G f) _ _
      (λ x. globally G p S m s x _ (λ Θ σ. arguments_unread es G p S Θ σ))
      (switching S m s _ (both _ _ (unread f G p S Mode.synth) (λ j. applied_unread es G p S s j)))
  unread (letting q x A e b s) G p S m =
      letting_in p S m q x _ _ (valued_unread A G S _ (λ n. unread e G (under p q) S n)) (λ T n. unread b G p T n)
  unread (doing ss s) G p S m = statements_unread ss G p S m s
  unread (the A e s) G p S m = switching S m s _
      (both _ _ (typing S _ _ (unread A G Part.erased S Mode.synth)) (λ D. unread e G p S (Mode.check D.core)))

  arguments_unread : (es : Arguments) (G : Entries) (p : Part) (S : Scope) (Θ : Tele) (σ : ℕ → Term) →
      NoReading (arguments G p S Θ σ es)
  arguments_unread no_argument G p S [] σ = tt
  arguments_unread no_argument G p S (b ∷ Θ) σ = tt
  arguments_unread (argument_and (argument k e) es) G p S [] σ = tt
  arguments_unread (argument_and (argument k e) es) G p S (b ∷ Θ) σ =
      both _ _ (unread e G (under p b.0) S (Mode.check _)) (λ a. both _ _ (arguments_unread es G p S Θ _) (λ g. tt))

  applied_unread : (es : Arguments) (G : Entries) (p : Part) (S : Scope) (s : Span) (f : Judged) →
      NoReading (applied G p S s f es)
  applied_unread no_argument G p S s f = tt
  applied_unread (argument_and (argument k e) es) G p S s f =
      both _ _ (heads as_function _)
      (λ F. both _ _ (unread e G (under p F.mult) S (Mode.check F.domain)) (λ a. applied_unread es G p S s _))

  binders_unread : (bs : Binders) (G : Entries) (p : Part) (S : Scope) (body : Scope → Asks Judged) →
      ((T : Scope) → NoReading (body T)) →
      NoReading (synthesised_lambda G p S bs body)
  binders_unread no_binder G p S body u = u S
  binders_unread (binder_and (plain x) bs) G p S body u = tt
  binders_unread (binder_and (typed_binder q x A s) bs) G p S body u =
      both _ _ (typing S _ _ (unread A G Part.erased S Mode.synth))
      (λ D. both _ _ (binders_unread bs G p _ body u) (λ b. both _ _ (fitting p _ q b.uses _) (λ f. tt)))

  checked_unread : (bs : Binders) (G : Entries) (p : Part) (S : Scope) (s : Span) (A : Term)
      (body : Scope → Term → Asks Judged) → ((T : Scope) (B : Term) → NoReading (body T B)) →
      NoReading (checked_lambda G p S s A bs body)
  checked_unread no_binder G p S s A body u = u S A
  checked_unread (binder_and x bs) G p S s A body u =
      both _ _ (heads as_function _)
      (λ F. both _ _ (domain_unread x G S s F)
      (λ d. both _ _ (checked_unread bs G p _ s F.codomain body u)
      (λ b. both _ _ (fitting p _ F.mult b.uses _) (λ f. tt))))

  domain_unread : (x : Binder) (G : Entries) (S : Scope) (s : Span) (F : Function) →
      NoReading (written_domain G S s F x)
  domain_unread (plain x) G S s F = tt
  domain_unread (typed_binder q x A r) G S s F =
      both _ _ (needs _ _ _)
      (λ v. both _ _ (typing S _ _ (unread A G Part.erased S Mode.synth)) (λ D. (tt, tt)))

  valued_unread : (A : Annotation) (G : Entries) (S : Scope) (value : Mode → Asks Judged) →
      ((n : Mode) → NoReading (value n)) → NoReading (valued G S A value)
  valued_unread untyped G S value u = u Mode.synth
  valued_unread (typed A) G S value u = both _ _ (typing S _ _ (unread A G Part.erased S Mode.synth))
      (λ D. u (Mode.check D.core))

  statements_unread : (ss : Statements) (G : Entries) (p : Part) (S : Scope) (m : Mode) (s : Span) →
      NoReading (statements G p S m s ss)
  statements_unread no_statement G p S m s = tt
  statements_unread (statement_and (run e r) no_statement) G p S m s = unread e G p S m
  statements_unread (statement_and (bind x e) no_statement) G p S m s = tt
  statements_unread (statement_and (local q x A e r) no_statement) G p S m s = tt
  statements_unread (statement_and (run e r) (statement_and t ss)) G p S m s =
      binding p S m s _ None _ _ (unread e G p S Mode.synth) (λ T n. statements_unread (statement_and t ss) G p T n _)
  statements_unread (statement_and (bind x e) (statement_and t ss)) G p S m s =
      binding p S m s _ (Some x) _ _ (unread e G p S Mode.synth)
      (λ T n. statements_unread (statement_and t ss) G p T n _)
  statements_unread (statement_and (local q x A e r) (statement_and t ss)) G p S m s =
      letting_in p S m q x _ _ (valued_unread A G S _ (λ n. unread e G (under p q) S n))
      (λ T n. statements_unread (statement_and t ss) G p T n (statement_place t))
