-- What the equations of a constructor say: a clash, or solutions.
use Rattle.std.proofs.Common.{◌≡◌, ℕ, List, [], ◌∷◌, ◌++◌, map, Some, refl, sym, ap, subst, ◌⊎◌, inl, inr}
use mathlib.Core.Path.{ap₂}
use Rattle.qtt_base.specs.declared.place.GlobalId.{GlobalId}
use Rattle.qtt_term.specs.Term.{Form, Term, Terms, var, node, ε, ◌▸◌, skip}
use Rattle.qtt_term.specs.Signature.{Env}
use Rattle.qtt_term.specs.Contraction as contraction
use Rattle.qtt_term.specs.Contraction.{as_con, Conv}
use Rattle.qtt_term.specs.Ask.{Ask, ◌>>=◌, Ending, Ends, HeadIs}
use Rattle.qtt_term.specs.Premises.{reading_of}
use Rattle.qtt_rules.specs.Refusal.{Place, Refusal}
use Rattle.qtt_unify.specs.Targets.{Scrutinee, readings}
use Rattle.qtt_unify.specs.Equations.{Found, Verdict, constructor_verdict}
use Rattle.qtt_unify.specs.Unification.{Equation, Equations, HasClash, as_found, Concludes, HasVerdict}
use Rattle.qtt_term.proofs.Options.{some-injective}
use Rattle.qtt_unify.proofs.Endings.{parts, ended}
use Rattle.qtt_unify.proofs.Relation.{equations_are_the_relation}
use Rattle.qtt_split.specs.Relation.{Convs, Clash, Solves}
use Rattle.qtt_clause_laws.proofs.Asked.{head-conv, reading-conv}

-- ---- the head of a result index
data AsCon : Term → contraction.Made → Type 0 where
  as_con_is : {f : GlobalId} {c k : ℕ} {ts : Terms} →
      AsCon (node (Form.con f c k) ts) (contraction.Made.made f c (skip k ts))

as-con : (t : Term) (m : contraction.Made) → as_con t ≡ Some m → AsCon t m
as-con (node (Form.con f c k) ts) m e = subst (AsCon (node (Form.con f c k) ts)) (some-injective e) AsCon.as_con_is
as-con _ m e = absurd (cc e)

-- it is a constructor with these fields
record FoundCon (E : Env) (u : Term) (f : GlobalId) (c : ℕ) (us : Terms) : Type 0 where
  params : ℕ
  components : Terms
  conv : Conv E u (node (Form.con f c params) components)
  fields : skip params components ≡ us

found-con : {E : Env} {u h : Term} {f : GlobalId} {c : ℕ} {us : Terms} → HeadIs E u h →
    AsCon h (contraction.Made.made f c us) → FoundCon E u f c us
found-con x (AsCon.as_con_is {k = k} {ts = ts}) =
    record { params = k; components = ts; conv = head-conv x; fields = refl }

con-of : {E : Env} {u h : Term} {f : GlobalId} {c : ℕ} {us : Terms} → HeadIs E u h →
    as_con h ≡ Some (contraction.Made.made f c us) → FoundCon E u f c us
con-of {h = h} {f} {c} {us} x e = found-con x (as-con h (contraction.Made.made f c us) e)

-- ---- a clash
clash-parts : (xs ys : List Found) → HasClash (xs ++ ys) → HasClash xs ⊎ HasClash ys
clash-parts [] ys h = inr h
clash-parts (x ∷ xs) ys HasClash.clash_here = inl HasClash.clash_here
clash-parts (x ∷ xs) ys (HasClash.clash_behind h) = elim (clash-parts xs ys h) [
  | inl k ↦ inl (HasClash.clash_behind k)
  | inr k ↦ inr k
]

clash-of-one : {i : ℕ} {u : Term} → HasClash (Found.solves i u ∷ []) → ⊥
clash-of-one (HasClash.clash_behind h) = elim h [ ]

stuck-no-clash : {t u : Term} → HasClash (Found.sticks u t ∷ []) → ⊥
stuck-no-clash (HasClash.clash_behind h) = elim h [ ]

mutual
  one-clash : {E : Env} {m : ℕ} {t u : Term} {xs : List Found} (ts us : Terms) → Equation E m t u xs → HasClash xs →
      Clash E (t ▸ ts) (u ▸ us)
  one-clash ts us Equation.solution h = absurd (clash-of-one h)
  one-clash {E} ts us (Equation.injectivity {f = f} {c = c} {k = k} {ts = vs} {u = u} x e q) h =
      let r = con-of x e in
      Clash.of_fields {k = k} r.conv (subst (Clash E (skip k vs)) (sym r.fields) (all-clash q h))
  one-clash ts us (Equation.conflict x e n) h = Clash.conflict (con-of x e).conv n
  one-clash ts us (Equation.no_constructor x e) h = absurd (stuck-no-clash h)
  one-clash ts us (Equation.other_target e) h = absurd (stuck-no-clash h)

  all-clash : {E : Env} {m : ℕ} {ts us : Terms} {xs : List Found} → Equations E m ts us xs → HasClash xs →
      Clash E ts us
  all-clash Equations.no_target h = elim h [ ]
  all-clash Equations.no_result h = elim h [ ]
  all-clash (Equations.and_more {ts = ts} {us = us} {xs = xs} {ys = ys} q qs) h = elim (clash-parts xs ys h) [
    | inl k ↦ one-clash ts us q k
    | inr k ↦ Clash.later (all-clash qs k)
  ]

-- ---- solutions
record Halves (xs ys : List Found) (ss : List (ℕ × Term)) : Type 0 where
  first : List (ℕ × Term)
  others : List (ℕ × Term)
  whole : first ++ others ≡ ss
  first_is : xs ≡ map as_found first
  others_are : ys ≡ map as_found others

halves : (xs ys : List Found) (ss : List (ℕ × Term)) → xs ++ ys ≡ map as_found ss → Halves xs ys ss
halves [] ys ss e = record { first = []; others = ss; whole = refl; first_is = refl; others_are = e }
halves (x ∷ xs) ys [] e = absurd (cc e)
halves (x ∷ xs) ys (s ∷ ss) e =
    let here : x ≡ as_found s = cc e in
    let r = halves xs ys ss (cc e) in
    record {
      first = s ∷ r.first;
      others = r.others;
      whole = ap (λ ss. s ∷ ss) r.whole;
      first_is = cc (here, r.first_is);
      others_are = r.others_are;
    }

-- one variable is solved
solved-one : {i : ℕ} {u : Term} (ss : List (ℕ × Term)) → Found.solves i u ∷ [] ≡ map as_found ss → (i, u) ∷ [] ≡ ss
solved-one [] e = absurd (cc e)
solved-one (s ∷ []) e = let a : _ ≡ s.0 = cc e in let b : _ ≡ s.1 = cc e in ap₂ (λ (i : ℕ) (u : Term). (i, u) ∷ []) a b
solved-one (s ∷ r ∷ ss) e = absurd (cc e)

no-solution : {x : Found} (ss : List (ℕ × Term)) → x ∷ [] ≡ map as_found ss →
    ((i : ℕ) (u : Term) → x ≡ Found.solves i u → ⊥) → ⊥
no-solution [] e h = cc e
no-solution (s ∷ ss) e h = h s.0 s.1 (cc e)

mutual
  one-solves : {E : Env} {m : ℕ} {t u : Term} {xs : List Found} {ts us : Terms} {rs : List (ℕ × Term)} →
      Equation E m t u xs → (ss : List (ℕ × Term)) → xs ≡ map as_found ss → Solves E ts us rs →
      Solves E (t ▸ ts) (u ▸ us) (ss ++ rs)
  one-solves {E} {ts = ts} {us} {rs} (Equation.solution {i = i} {u = u}) ss e k =
      subst (λ ss. Solves E (var i ▸ ts) (u ▸ us) (ss ++ rs)) (solved-one ss e) (Solves.solution k)
  one-solves {E} (Equation.injectivity {f = f} {c = c} {k = n} {ts = vs} {u = u} x e q) ss d k =
      let r = con-of x e in
      Solves.injectivity {k = n} r.conv
      (subst (λ ws. Solves E (skip n vs) ws ss) (sym r.fields) (all-solve q ss d)) k
  one-solves (Equation.conflict x e n) ss d k = absurd (no-solution ss d (λ i u q. cc q))
  one-solves (Equation.no_constructor x e) ss d k = absurd (no-solution ss d (λ i u q. cc q))
  one-solves (Equation.other_target e) ss d k = absurd (no-solution ss d (λ i u q. cc q))

  all-solve : {E : Env} {m : ℕ} {ts us : Terms} {xs : List Found} → Equations E m ts us xs →
      (ss : List (ℕ × Term)) → xs ≡ map as_found ss → Solves E ts us ss
  all-solve Equations.no_target [] e = Solves.no_target
  all-solve Equations.no_target (s ∷ ss) e = absurd (cc e)
  all-solve Equations.no_result [] e = Solves.no_result
  all-solve Equations.no_result (s ∷ ss) e = absurd (cc e)
  all-solve {E} {ts = ts} {us} (Equations.and_more {xs = xs} {ys = ys} q qs) ss e =
      let r = halves xs ys ss e in
      subst (Solves E _ _) r.whole (one-solves q r.first r.first_is (all-solve qs r.others r.others_are))

-- ---- a constructor
pub data Judged (E : Env) (ts us : Terms) : Verdict → Type 0 where
  clash : Clash E ts us → Judged E ts us Verdict.clash
  solved : {s : List (ℕ × Term)} → Solves E ts us s → Judged E ts us (Verdict.solved s)
  stuck : {n : ℕ} {u t : Term} → Judged E ts us (Verdict.stuck n u t)

judged : {E : Env} {S : Scrutinee} {m : ℕ} {us : Terms} {v : Verdict} → HasVerdict E S m us v →
    Judged E S.targets us v
judged (HasVerdict.not_solvable e) = Judged.stuck
judged (HasVerdict.by_equations e q (Concludes.all_solve ss d)) = Judged.solved (all-solve q ss d)
judged (HasVerdict.by_equations e q (Concludes.one_clashes h)) = Judged.clash (all-clash q h)
judged (HasVerdict.by_equations e q (Concludes.first_stuck ss ys h d)) = Judged.stuck

pub verdict-judged : {E : Env} (p : Place) (S : Scrutinee) (m : ℕ) (us : Terms) (v : Verdict) →
    Ends E (constructor_verdict {F = Refusal} E p S m us) (Ending.ok v) → Judged E S.targets us v
verdict-judged {E} p S m us v e =
    judged (((equations_are_the_relation Refusal Place).constructors E p S m us v).0 e)

-- ---- readings
read-one : {E : Env} (p : Place) (d : ℕ) (t r : Term) →
    Ends E (reading_of {F = Refusal} p d t) (Ending.ok r) → Conv E t r
read-one {E} p d t r (Ends.has_reading {r = g} x xs) = subst (Conv E t) (ended g r xs) (reading-conv x)

pub read-all : {E : Env} (p : Place) (d : ℕ) (ts rs : Terms) →
    Ends E (readings {F = Refusal} p d ts) (Ending.ok rs) → Convs E ts rs
read-all {E} p d ε rs e = subst (Convs E ε) (ended ε rs e) Convs.none
read-all {E} p d (t ▸ ts) rs e =
    let a = parts (reading_of p d t) (λ r. readings p d ts >>= λ qs. Ask.done (r ▸ qs)) rs e in
    let b = parts (readings p d ts) (λ qs. Ask.done (a.mid ▸ qs)) rs a.after in
    subst (Convs E (t ▸ ts)) (ended (a.mid ▸ b.mid) rs b.after)
    (Convs.more (read-one p d t a.mid a.first) (read-all p d ts b.mid b.first))
