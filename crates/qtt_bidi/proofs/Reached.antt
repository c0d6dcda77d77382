-- What has a derivation by the rules is what elaboration ends with.
use Rattle.std.proofs.Common.{◌≡◌, ℕ, suc, Bool, true, false, List, [], ◌∷◌, length, Option, Some, refl, ap, sym, subst, T}
use Rattle.std.proofs.lemmas.Bool.{eq-eqb}
use Rattle.qtt_base.specs.declared.place.Span.{Span}
use Rattle.qtt_usage.specs.declared.mult.Mult.{Mult}
use Rattle.qtt_syntax.specs.Tree.{Tree, Annotation, Arguments, Binder, Binders, Statements}
use Rattle.qtt_syntax.specs.Tree.Arguments.{no_argument}
use Rattle.qtt_term.specs.declared.term.ConId.{ConId}
use Rattle.qtt_term.specs.declared.rule.Rule.{Rule}
use Rattle.qtt_term.specs.Term.{Io, Action, Act, Form, Term, Terms, var, node, ◌▸◌, ◌+++◌, Sort, Fam}
use Rattle.qtt_term.specs.Substitution.{sub, push, cons, closed}
use Rattle.qtt_term.specs.Signature.{Tele, ConSig, IoTy, mult_of, fam_at, signature}
use Rattle.qtt_term.specs.Contraction.{Conv}
use Rattle.qtt_term.specs.Judgement.{Part}
use Rattle.qtt_term.specs.Infer.{use_at}
use Rattle.qtt_term.specs.Ask.{◌>>=◌, HeadIs, Ends}
use Rattle.qtt_term.specs.Entries.{Entries, env}
use Rattle.qtt_term.specs.Scope.{Scope, depth}
use Rattle.qtt_term.specs.Forms.{front}
use Rattle.qtt_term.proofs.Same.{mult-same}
use Rattle.qtt_rules.specs.Refusal.{Place}
use Rattle.qtt_rules.specs.Asks.{Asks}
use Rattle.qtt_rules.specs.Judged.{Judged, judged, Mode}
use Rattle.qtt_core_check.proofs.Answered.{ends-then}
use Rattle.qtt_core_check.proofs.NeverFails.{test-usable}
use Rattle.qtt_bidi.specs.Premises.{fit}
use Rattle.qtt_bidi.specs.Meaning.{Meaning}
use Rattle.qtt_bidi.specs.Elaboration.{Classified, Given, Written, none_written, switched, is_type, stands_for, local_row, listed_row, con_row, constructor_at, param_count, pure_row, global_row, name_row, all_typed, by_function, argument_count, judge, arguments, applied, synthesised_lambda, checked_lambda, written_domain, valued, statements}
use Rattle.qtt_bidi.specs.Rules.{Fits, Accepted, Calls, Acts, Found, Elaborates, IsType, Checked, Applied, FoundLambda, CheckedLambda, Agrees, Valued, Runs}
use Rattle.qtt_bidi.proofs.Endings.{Gives, held, agreed, found_head, asks}
use Rattle.qtt_bidi.proofs.Heads.{head_sort, head_function, head_family, head_action, head_result}

-- ---- tests
so_true : (b : Bool) → T b → b ≡ true
so_true true t = refl
so_true false t = absurd t

so_fit : {E : _} (p : Part) (n : Option (List ℕ)) (q : Mult) (us : List Mult) (l : Place) → Fits p q us →
    Gives E (fit p n q us l) tt
unfolding fit
so_fit Part.erased n q us l f = Ends.is_done
so_fit Part.run n q us l f = held _ _ (so_true _ f)

-- ---- rows
-- what is found, in the mode of the whole
data Turned (G : Entries) : Mode → Judged → Judged → Type 0 where
  as_found : {j : Judged} → Turned G Mode.synth j j
  as_checked : {j : Judged} {A : Term} → Conv (env G) j.type A → Turned G (Mode.check A) j (judged A j.core j.uses)

turning : (G : Entries) (S : Scope) (m : Mode) (s : Span) (M : Asks Judged) {j k : Judged} → Turned G m j k →
    Gives (env G) M j → Gives (env G) (switched S m s M) k
turning G S Mode.synth s M Turned.as_found x = x
turning G S (Mode.check A) s M (Turned.as_checked {j = j} c) x =
    ends-then M _ x (ends-then _ _ (agreed _ j.type A _ c) Ends.is_done)

pub typed_so : (G : Entries) (S : Scope) (M : Asks Judged) (l : Place) {j : Judged} {k : ℕ} → Gives (env G) M j →
    HeadIs (env G) j.type (Sort k) →
    Gives (env G) (is_type S M l) (record { core = j.core; level = k })
typed_so G S M l {j} {k} x h = ends-then M _ x (ends-then _ _ (found_head _ _ _ j.type _ k (head_sort h)) Ends.is_done)

listed_so : (E : _) (S : Scope) (s : Span) (r : Rule) (F : Form) (Θ : Tele) (A : Term) (w : Written) {g : Given} →
    length Θ ≡ w.count → Gives E (w.checked Θ closed) g →
    Gives E (listed_row S s r F Θ A w) (judged (sub (push g.cores closed) A) (node F g.cores) g.uses)
listed_so E S s r F Θ A w n x = ends-then _ _ (held _ _ (eq-eqb _ _ n)) (ends-then _ _ x Ends.is_done)

-- a name of this meaning with these arguments is judged by the row of the meaning
calling : (G : Entries) (p : Part) (S : Scope)
    (m : Mode) {e : Tree} {x : Meaning} {es : Arguments} {Θ : Tele} {σ : ℕ → Term} {g : Given} (k : Judged) →
    Calls G e x es →
    Checked G p S Θ σ es g → Gives (env G) (arguments G p S Θ σ es) g → length Θ ≡ argument_count es →
    ((s : Span) (w : Written) → length Θ ≡ w.count → Gives (env G) (w.checked Θ σ) g →
    Gives (env G) (global_row G p S m s x w) k) →
    Gives (env G) (judge G p S m e) k
calling G p S m k (Calls.alone {n = n} {id = id} {m = x} t e) c a l row =
    subst (λ z. Gives (env G) (name_row G p S m n.span z) k) (sym t)
    (subst (λ z. Gives (env G) (global_row G p S m n.span z (none_written S)) k) (sym e)
    (row n.span (none_written S) l (nothing c)))
  where
    nothing : {Θ : Tele} {σ : ℕ → Term} {g : Given} → Checked G p S Θ σ no_argument g →
        Gives (env G) ((none_written S).checked Θ σ) g
    nothing Checked.none = Ends.is_done
calling G p S m {es = es} k (Calls.to_arguments {f = f} {s = s} e) c a l row =
    subst (λ o. Gives (env G)
    (by_function o (λ x. global_row G p S m s x
    (record { count = argument_count es; checked = λ Θ σ. arguments G p S Θ σ es }))
    (λ u. switched S m s (judge G p S Mode.synth f >>= λ j. applied G p S s j es))) k) (sym e)
    (row s (record { count = argument_count es; checked = λ Θ σ. arguments G p S Θ σ es }) l a)

counted : {G : Entries} {p : Part} {S : Scope} {Θ : Tele} {σ : ℕ → Term} {es : Arguments} {g : Given} →
    Checked G p S Θ σ es g → length Θ ≡ argument_count es
counted Checked.none = refl
counted (Checked.more d c) = ap suc (counted c)

all_have : {G : Entries} {p : Part} {S : Scope} {bs : Binders} {e : Tree} {j : Judged} → FoundLambda G p S bs e j →
    all_typed bs ≡ true
all_have (FoundLambda.found_body d) = refl
all_have (FoundLambda.found_binder t d f) = all_have d

con_synth_so : (G : Entries) (S : Scope) (s : Span) (c : ConId) (d : ConSig) (w : Written) {g : Given} →
    constructor_at G c ≡ Some d → param_count G c ≡ 0 → length d.fields ≡ w.count →
    Gives (env G) (w.checked d.fields closed) g →
    Gives (env G) (con_row S Mode.synth s c (param_count G c) (constructor_at G c) w)
    (judged (sub (push g.cores closed) d.result) (node (Form.con c.family c.place 0) g.cores) g.uses)
con_synth_so G S s c d w {g} h k n x =
    subst (λ o. Gives (env G) (con_row S Mode.synth s c (param_count G c) o w)
    (judged (sub (push g.cores closed) d.result) (node (Form.con c.family c.place 0) g.cores) g.uses)) (sym h)
    (ends-then _ _ (held _ _ (eq-eqb _ _ k)) (ends-then _ _ (held _ _ (eq-eqb _ _ n)) (ends-then _ _ x Ends.is_done)))

con_check_so : (G : Entries) (S : Scope) (s : Span) (c : ConId) (d : ConSig) (A : Term) (xs : Terms)
    (w : Written) {g : Given} → constructor_at G c ≡ Some d → HeadIs (env G) A (Fam c.family xs) →
    length d.fields ≡ w.count →
    Gives (env G) (w.checked d.fields (push (front (param_count G c) xs) closed)) g →
    Conv (env G) (sub (push (front (param_count G c) xs +++ g.cores) closed) d.result) A →
    Gives (env G) (con_row S (Mode.check A) s c (param_count G c) (constructor_at G c) w)
    (judged A (node (Form.con c.family c.place (param_count G c)) (front (param_count G c) xs +++ g.cores)) g.uses)
con_check_so G S s c d A xs w {g} h k n x v =
    subst (λ o. Gives (env G) (con_row S (Mode.check A) s c (param_count G c) o w)
    (judged A (node (Form.con c.family c.place (param_count G c)) (front (param_count G c) xs +++ g.cores)) g.uses))
    (sym h)
    (ends-then _ _ (found_head _ _ _ A _ xs (head_family k))
    (ends-then _ _ (held _ _ (eq-eqb _ _ n)) (ends-then _ _ x (ends-then _ _ (agreed _ _ A _ v) Ends.is_done))))

pure_so : (G : Entries) (S : Scope) (s : Span) (i : Io) (A B : Term) (w : Written) {g : Given} →
    HeadIs (env G) A (IoTy i B) → 1 ≡ w.count → Gives (env G) (w.checked ((mult_of i, var 0) ∷ []) (cons B closed)) g →
    Gives (env G) (pure_row S (Mode.check A) s i w) (judged A (Act (Action.pure i) 1 (B ▸ g.cores)) g.uses)
pure_so G S s i A B w h n x = ends-then _ _ (found_head _ _ _ A _ B (head_result h))
    (ends-then _ _ (held _ _ (eq-eqb _ _ n)) (ends-then _ _ x Ends.is_done))

accepted_so : (G : Entries) (p : Part) (S : Scope) (s : Span) (F : Form) (ts : Terms) (A : Term) (us : List Mult) →
    Accepted G p S (node F ts) us →
    Gives (env G) (stands_for G p S s (node F ts) A) (judged A (node F ts) us)
accepted_so G Part.run S s F ts A us a = asks _ _ _ _ a.1 Ends.is_done
accepted_so G Part.erased S s F ts A us a =
    subst (λ u. Gives (env G) (stands_for G Part.erased S s (node F ts) A) (judged A (node F ts) u)) (sym a)
    Ends.is_done

mutual
  ends_found : {G : Entries} {p : Part} {S : Scope} {e : Tree} {j k : Judged} → Found G p S e j → (m : Mode) →
      Turned G m j k → Gives (env G) (judge G p S m e) k
  ends_found {G} {p} {S} {k = k} (Found.variable {n = n} {i = i} {k = v} {A = A} t e u) m w =
      subst (λ z. Gives (env G) (name_row G p S m n.span z) k) (sym t)
      (turning G S m n.span _ w
      (subst (λ o. Gives (env G) (local_row G p S n.span o) (judged A (var v) (use_at p (depth S) v))) (sym e)
      (ends-then _ _ (held _ _ (test-usable p _ u)) Ends.is_done)))
  ends_found {G} {p} {S} {k = k} (Found.stands {n = n} {F = F} {ts = ts} {A = A} {us = us} t e a) m w =
      subst (λ z. Gives (env G) (name_row G p S m n.span z) k) (sym t)
      (turning G S m n.span _ w
      (subst (λ o. Gives (env G) (local_row G p S n.span o) (judged A (node F ts) us)) (sym e)
      (accepted_so G p S n.span F ts A us a)))
  ends_found {G} {p} {S} {k = k} (Found.global {n = n} t e u) m w =
      subst (λ z. Gives (env G) (name_row G p S m n.span z) k) (sym t)
      (subst (λ z. Gives (env G) (global_row G p S m n.span z (none_written S)) k) (sym e)
      (turning G S m n.span _ w (ends-then _ _ (held _ _ (test-usable p _ u)) Ends.is_done)))
  ends_found {G} {p} {S} (Found.sort {s = s}) m w = turning G S m s _ w Ends.is_done
  ends_found {G} {p} {S} (Found.function_type {s = s} d c) m w =
      turning G S m s _ w (ends-then _ _ (ends_type d _) (ends-then _ _ (ends_type c _) Ends.is_done))
  ends_found {G} {p} {S} {k = k} (Found.application {f = f} {es = es} {s = s} e d a) m w =
      subst (λ o. Gives (env G)
      (by_function o (λ x. global_row G p S m s x
      (record { count = argument_count es; checked = λ Θ σ. arguments G p S Θ σ es }))
      (λ u. switched S m s (judge G p S Mode.synth f >>= λ j. applied G p S s j es))) k) (sym e)
      (turning G S m s _ w (ends-then _ _ (ends d) (ends_applied a s)))
  ends_found {G} {p} {S} {k = k} (Found.family {f = f} c a) m w =
      calling G p S m k c a (ends_checked a) (counted a)
      (λ s v n x. turning G S m s _ w (listed_so _ S s _ (Form.fam f) _ (Sort (fam_at (env G) f).level) v n x))
  ends_found {G} {p} {S} {k = k} (Found.listed {n = h} c a) m w =
      calling G p S m k c a (ends_checked a) (counted a)
      (λ s v n x. turning G S m s _ w (listed_so _ S s _ (Form.named h) _ (signature (env G) h).type v n x))
  ends_found {G} {p} {S} (Found.ascribed {s = s} d e) m w = turning G S m s _ w (ends-then _ _ (ends_type d _) (ends e))
  ends_found {G} {p} {S} (Found.integer {s = s}) m w = turning G S m s _ w Ends.is_done
  ends_found {G} {p} {S} (Found.string {s = s}) m w = turning G S m s _ w Ends.is_done

  pub ends : {G : Entries} {p : Part} {S : Scope} {m : Mode} {e : Tree} {j : Judged} → Elaborates G p S m e j →
      Gives (env G) (judge G p S m e) j
  ends (Elaborates.found d) = ends_found d Mode.synth Turned.as_found
  ends (Elaborates.switch {A = A} d c) = ends_found d (Mode.check A) (Turned.as_checked c)
  ends (Elaborates.lam_synth d) = ends-then _ _ (held _ _ (all_have d)) (ends_synthesised d)
  ends (Elaborates.lam_check {s = s} d) = ends_lambda d s
  ends {G} {p} {S} {j = j} (Elaborates.con_synth c h k a) =
      calling G p S Mode.synth j c a (ends_checked a) (counted a) (λ s v n x. con_synth_so G S s _ _ v h k n x)
  ends {G} {p} {S} {j = j} (Elaborates.con_check {A = A} c h y a v) =
      calling G p S (Mode.check A) j c a (ends_checked a) (counted a)
      (λ s w n x. con_check_so G S s _ _ A _ w h y n x v)
  ends {G} {p} {S} {j = j} (Elaborates.pure {A = A} c h a) =
      calling G p S (Mode.check A) j c a (ends_checked a) (counted a) (λ s w n x. pure_so G S s _ A _ w h n x)
  ends {p = p} (Elaborates.let_in v b f) = ends-then _ _ (ends_value v)
      (ends-then _ _ (ends b) (ends-then _ _ (so_fit p _ _ _ _ f) Ends.is_done))
  ends (Elaborates.block {s = s} d) = ends_runs d s

  ends_type : {G : Entries} {S : Scope} {e : Tree} {D : Classified} → IsType G S e D → (l : Place) →
      Gives (env G) (is_type S (judge G Part.erased S Mode.synth e) l) D
  ends_type {G} {S} (IsType.classified d h) l = typed_so G S _ l (ends d) h

  ends_checked : {G : Entries} {p : Part} {S : Scope} {Θ : Tele} {σ : ℕ → Term} {es : Arguments} {g : Given} →
      Checked G p S Θ σ es g → Gives (env G) (arguments G p S Θ σ es) g
  ends_checked Checked.none = Ends.is_done
  ends_checked (Checked.more d c) = ends-then _ _ (ends d) (ends-then _ _ (ends_checked c) Ends.is_done)

  ends_applied : {G : Entries} {p : Part} {S : Scope} {f : Judged} {es : Arguments} {j : Judged} →
      Applied G p S f es j → (s : Span) → Gives (env G) (applied G p S s f es) j
  ends_applied Applied.itself s = Ends.is_done
  ends_applied {S = S} {f = f} (Applied.to h d a) s =
      ends-then _ _ (found_head _ _ _ f.type _ _ (head_function h)) (ends-then _ _ (ends d) (ends_applied a s))

  ends_synthesised : {G : Entries} {p : Part} {S : Scope} {bs : Binders} {e : Tree} {j : Judged} →
      FoundLambda G p S bs e j → Gives (env G) (synthesised_lambda G p S bs (λ T. judge G p T Mode.synth e)) j
  ends_synthesised (FoundLambda.found_body d) = ends d
  ends_synthesised {p = p} (FoundLambda.found_binder t d f) =
      ends-then _ _ (ends_type t _) (ends-then _ _ (ends_synthesised d)
      (ends-then _ _ (so_fit p _ _ _ _ f) Ends.is_done))

  ends_lambda : {G : Entries} {p : Part} {S : Scope} {A : Term} {bs : Binders} {e : Tree} {j : Judged} →
      CheckedLambda G p S A bs e j → (s : Span) →
      Gives (env G) (checked_lambda G p S s A bs (λ T B. judge G p T (Mode.check B) e)) j
  ends_lambda (CheckedLambda.checked_body d) s = ends d
  ends_lambda {p = p} {S = S} {A = A} (CheckedLambda.checked_binder h a d f) s =
      ends-then _ _ (found_head _ _ _ A _ _ (head_function h))
      (ends-then _ _ (ends_domain a s _)
      (ends-then _ _ (ends_lambda d s) (ends-then _ _ (so_fit p _ _ _ _ f) Ends.is_done)))

  ends_domain : {G : Entries} {S : Scope} {q : Mult} {A : Term} {b : Binder} → Agrees G S q A b →
      (s : Span) (B : Term) → Gives (env G) (written_domain G S s (record { mult = q; domain = A; codomain = B }) b) tt
  ends_domain Agrees.without_type s B = Ends.is_done
  ends_domain {S = S} {q = q} {A = A} (Agrees.with_type t c) s B =
      ends-then _ _ (held _ _ (mult-same q)) (ends-then _ _ (ends_type t _) (agreed _ _ A _ c))

  ends_value : {G : Entries} {p : Part} {S : Scope} {A : Annotation} {e : Tree} {j : Judged} → Valued G p S A e j →
      Gives (env G) (valued G S A (λ n. judge G p S n e)) j
  ends_value (Valued.without_annotation d) = ends d
  ends_value (Valued.with_annotation t d) = ends-then _ _ (ends_type t _) (ends d)

  ends_runs : {G : Entries} {p : Part} {S : Scope} {m : Mode} {ss : Statements} {j : Judged} → Runs G p S m ss j →
      (s : Span) → Gives (env G) (statements G p S m s ss) j
  ends_runs (Runs.last d) s = ends d
  ends_runs {p = p} {S = S} {m = Mode.check T} (Runs.act Acts.binds h d k r f) s =
      ends-then _ _ (found_head _ _ _ T _ _ (head_action h))
      (ends-then _ _ (ends d) (ends-then _ _ (found_head _ _ _ _ _ _ (head_action k))
      (ends-then _ _ (ends_runs r _) (ends-then _ _ (so_fit p _ _ _ _ f) Ends.is_done))))
  ends_runs {p = p} {S = S} {m = Mode.check T} (Runs.act Acts.runs h d k r f) s =
      ends-then _ _ (found_head _ _ _ T _ _ (head_action h))
      (ends-then _ _ (ends d) (ends-then _ _ (found_head _ _ _ _ _ _ (head_action k))
      (ends-then _ _ (ends_runs r _) (ends-then _ _ (so_fit p _ _ _ _ f) Ends.is_done))))
  ends_runs {p = p} (Runs.let_then v b f) s = ends-then _ _ (ends_value v)
      (ends-then _ _ (ends_runs b _) (ends-then _ _ (so_fit p _ _ _ _ f) Ends.is_done))
