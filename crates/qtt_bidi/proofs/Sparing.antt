-- What is declared 0 is used nowhere in what is derived.
use Rattle.std.proofs.Common.{◌≡◌, ℕ, zero, suc, Bool, true, false, ◌&&◌, cond, List, [], ◌∷◌, length, drop, Option, Some, None, refl, sym, subst, ap, ◌∙◌}
use mathlib.Core.Path.{ap₂}
use Rattle.qtt_usage.specs.declared.mult.Mult.{Mult}
use Rattle.qtt_usage.specs.Mult.{𝟘, ◌⊕◌, ◌⊙◌, join}
use Rattle.qtt_usage.specs.Uses.{Key, Use, nat_unit, outs}
use Rattle.qtt_usage.specs.Usage.{usage_at, usage_sum, usage_scale, usage_unit, no_usage}
use Rattle.qtt_usage.proofs.Mults.{⊙-zero}
use Rattle.qtt_usage.proofs.UsageLemmas.{none_at}
use Rattle.qtt_syntax.specs.declared.expr.Local.{Local}
use Rattle.qtt_syntax.specs.Tree.{Tree, Annotation, Arguments, Binders, Statements}
use Rattle.qtt_term.specs.Term.{Form, Term, Terms, node, ε, ◌▸◌}
use Rattle.qtt_term.specs.Signature.{Env, Tele, mult_of}
use Rattle.qtt_term.specs.Judgement as core
use Rattle.qtt_term.specs.Judgement.{Ctx, InScope, mult_at, ext, Part, under, Usable, share, sum_of, join_of, has_branch}
use Rattle.qtt_term.specs.Accepted.{Accepts, AcceptsAll, is_dead, live, own_of}
use Rattle.qtt_term.specs.Environment.{ResultsCounted}
use Rattle.qtt_term.specs.Infer.{use_at}
use Rattle.qtt_term.specs.Entries.{Entries, env}
use Rattle.qtt_term.specs.Scope.{Scope, depth}
use Rattle.qtt_rules.specs.Judged.{Judged, Mode}
use Rattle.qtt_core_check.proofs.Sound.{sound}
use Rattle.qtt_bidi.specs.Elaboration.{Given, bound}
use Rattle.qtt_bidi.specs.Rules.{Accepted, Found, Elaborates, Checked, Applied, FoundLambda, CheckedLambda, Valued, Runs}
use Rattle.qtt_bidi.specs.Laws.{ErasedIsUnused}

-- ---- uses, entry by entry
sum-spares : (us ws : List Mult) (i : ℕ) → usage_at us i ≡ 𝟘 → usage_at ws i ≡ 𝟘 →
    usage_at (usage_sum us ws) i ≡ 𝟘
sum-spares [] ws i e f = refl
sum-spares (u ∷ us) [] i e f = refl
sum-spares (u ∷ us) (w ∷ ws) zero e f = ap₂ (λ u w. u ⊕ w) e f
sum-spares (u ∷ us) (w ∷ ws) (suc i) e f = sum-spares us ws i e f

scale-spares : (q : Mult) (us : List Mult) (i : ℕ) → usage_at us i ≡ 𝟘 → usage_at (usage_scale q us) i ≡ 𝟘
scale-spares q [] i e = refl
scale-spares q (u ∷ us) zero e = ap (λ u. q ⊙ u) e ∙ ⊙-zero q
scale-spares q (u ∷ us) (suc i) e = scale-spares q us i e

drop-spares : (us : List Mult) (i : ℕ) → usage_at us (suc i) ≡ 𝟘 → usage_at (drop 1 us) i ≡ 𝟘
drop-spares [] i e = refl
drop-spares (u ∷ us) i e = e

none-spares : (n i : ℕ) → usage_at (no_usage n) i ≡ 𝟘
none-spares n i = none_at n (Key.v i)

unusable : (q : Mult) → q ≡ 𝟘 → Usable Part.run q → ⊥
unusable q e u = subst (λ q. Usable Part.run q) e u

unit-spares : (Γ : Ctx) (k i : ℕ) → Usable Part.run (mult_at Γ k) → mult_at Γ i ≡ 𝟘 →
    usage_at (usage_unit (length Γ) k) i ≡ 𝟘
unit-spares [] k i u e = elim u [ ]
unit-spares (b ∷ Γ) zero zero u e = absurd (unusable b.0 e u)
unit-spares (b ∷ Γ) zero (suc i) u e = none-spares (length Γ) i
unit-spares (b ∷ Γ) (suc k) zero u e = refl
unit-spares (b ∷ Γ) (suc k) (suc i) u e = unit-spares Γ k i u e

use-spares : (p : Part) (Γ : Ctx) (k i : ℕ) → Usable p (mult_at Γ k) → mult_at Γ i ≡ 𝟘 →
    usage_at (use_at p (length Γ) k) i ≡ 𝟘
use-spares Part.run Γ k i u e = unit-spares Γ k i u e
use-spares Part.erased Γ k i u e = none-spares (length Γ) i

-- ---- what the core judgement accepts
abbrev Spared : ℕ → List core.Judged → Type 0
Spared i [] = Unit {0}
Spared i (j ∷ js) = (share j (Key.v i) ≡ 𝟘) × Spared i js

kept-spared : (i : ℕ) (dead : Bool) (j : core.Judged) (js : List core.Judged) → share j (Key.v i) ≡ 𝟘 → Spared i js →
    Spared i (cond dead js (j ∷ js))
kept-spared i true j js e h = h
kept-spared i false j js e h = (e, h)

live-spared : (i : ℕ) (ts : Terms) (js : List core.Judged) → Spared i js → Spared i (live ts js)
live-spared i ε js h = tt
live-spared i (t ▸ ts) [] h = tt
live-spared i (t ▸ ts) (j ∷ js) h =
    kept-spared i (j.branch && is_dead t) j (live ts js) h.0 (live-spared i ts js h.1)

either-sum : (b : Bool) (x y : Mult) → x ≡ 𝟘 → y ≡ 𝟘 → cond b y (x ⊕ y) ≡ 𝟘
either-sum true x y e f = f
either-sum false x y e f = ap₂ (λ x y. x ⊕ y) e f

sum-spared : (i : ℕ) (js : List core.Judged) → Spared i js → sum_of js (Key.v i) ≡ 𝟘
sum-spared i [] h = refl
sum-spared i (j ∷ js) h = either-sum j.branch (share j (Key.v i)) (sum_of js (Key.v i)) h.0 (sum-spared i js h.1)

either-join : (b c : Bool) (x y : Mult) → x ≡ 𝟘 → y ≡ 𝟘 → cond b (cond c (join x y) x) y ≡ 𝟘
either-join true true x y e f = ap₂ join e f
either-join true false x y e f = e
either-join false c x y e f = f

join-spared : (i : ℕ) (js : List core.Judged) → Spared i js → join_of js (Key.v i) ≡ 𝟘
join-spared i [] h = refl
join-spared i (j ∷ js) h =
    either-join j.branch (has_branch js) (share j (Key.v i)) (join_of js (Key.v i)) h.0 (join-spared i js h.1)

own-spared : (F : Form) (i : ℕ) → own_of F (Key.v i) ≡ 𝟘
own-spared (Form.sort l) i = refl
own-spared (Form.pi q) i = refl
own-spared (Form.lam q) i = refl
own-spared (Form.app q) i = refl
own-spared (Form.fam f) i = refl
own-spared (Form.con f n k) i = refl
own-spared (Form.case q f k m ns) i = refl
own-spared (Form.delete q) i = refl
own-spared (Form.named n) i = refl
own-spared Form.trap i = refl
own-spared (Form.tape n) i = refl

-- behind further binders
outs-spare : (Θ : Tele) (Γ : Ctx) (u : Use) (i : ℕ) →
    ((k : ℕ) → InScope (ext Γ Θ) k → mult_at (ext Γ Θ) k ≡ 𝟘 → u (Key.v k) ≡ 𝟘) →
    InScope Γ i → mult_at Γ i ≡ 𝟘 → outs (length Θ) u (Key.v i) ≡ 𝟘
outs-spare [] Γ u i h s e = h i s e
outs-spare (b ∷ Θ) Γ u i h s e = outs-spare Θ (b ∷ Γ) u (suc i) h s e

variable-spares : (Γ : Ctx) (k i : ℕ) → Usable Part.run (mult_at Γ k) → mult_at Γ i ≡ 𝟘 → nat_unit k i ≡ 𝟘
variable-spares Γ zero zero u e = absurd (unusable (mult_at Γ zero) e u)
variable-spares Γ zero (suc i) u e = refl
variable-spares Γ (suc k) zero u e = refl
variable-spares [] (suc k) (suc i) u e = elim u [ ]
variable-spares (b ∷ Γ) (suc k) (suc i) u e = variable-spares Γ k i u e

module _ {E : Env} where
  mutual
    accepts-spares : (p : Part) {Γ : Ctx} {t A : Term} {u : Use} → Accepts E p Γ t A u → (i : ℕ) → InScope Γ i →
        mult_at Γ i ≡ 𝟘 → u (Key.v i) ≡ 𝟘
    accepts-spares Part.run {Γ} (Accepts.variable {i = k} within usable uses) i s e =
        uses (Key.v i) s ∙ variable-spares Γ k i usable e
    accepts-spares Part.erased (Accepts.variable within usable uses) i s e = uses (Key.v i) s
    accepts-spares Part.run (Accepts.by_rule {F = F} {ts = ts} {js = js} r small hs uses) i s e =
        let h = live-spared i ts js (all-spare Part.run hs i s e) in
        uses (Key.v i) s ∙ ap₂ (λ x y. x ⊕ y) (own-spared F i)
        (ap₂ (λ x y. x ⊕ y) (sum-spared i (live ts js) h) (join-spared i (live ts js) h))
    accepts-spares Part.erased (Accepts.by_rule r small hs uses) i s e = uses (Key.v i) s
    accepts-spares p (Accepts.conversion h c) i s e = accepts-spares p h i s e

    all-spare : (p : Part) {Γ : Ctx} {ns : List ℕ} {ts : Terms} {js : List core.Judged} →
        AcceptsAll E p Γ ns ts js → (i : ℕ) → InScope Γ i → mult_at Γ i ≡ 𝟘 → Spared i js
    all-spare p AcceptsAll.none i s e = tt
    all-spare p {Γ} (AcceptsAll.more {j = j} {js = js} n h fit hs) i s e = (
      ap (λ u. j.mult ⊙ u) (outs-spare j.binds Γ j.uses i (λ k. accepts-spares (under p j.mult) h k) s e)
          ∙ ⊙-zero j.mult,
      all-spare p hs i s e,
    )

-- what is true of the variables in scope is true of all
past-end : (Γ : Ctx) (us : List Mult) (i : ℕ) → length us ≡ length Γ → (InScope Γ i → usage_at us i ≡ 𝟘) →
    usage_at us i ≡ 𝟘
past-end Γ [] i k h = refl
past-end [] (u ∷ us) i k h = absurd (cc k)
past-end (b ∷ Γ) (u ∷ us) zero k h = h tt
past-end (b ∷ Γ) (u ∷ us) (suc i) k h = past-end Γ us i (cc k) h

-- ---- what is elaborated
module _ (G : Entries) (counted : ResultsCounted (env G)) where
  accepted-spares : (p : Part) (S : Scope) (t : Term) (us : List Mult) → Accepted G p S t us → (i : ℕ) →
      mult_at S.vars i ≡ 𝟘 → usage_at us i ≡ 𝟘
  accepted-spares Part.erased S t us a i e = subst (λ us. usage_at us i ≡ 𝟘) (sym a) (none-spares (depth S) i)
  accepted-spares Part.run S t us (A, ends) i e =
      let d = (sound (env G) counted).accepts_uses Part.run S.vars t (record { type = A; uses = us }) ends in
      past-end S.vars us i d.counted (λ s. sym (d.variables i) ∙ accepts-spares Part.run d.holds i s e)

  bound-mult : (x : Option Local) (q : Mult) (A : Term) (S : Scope) (i : ℕ) → mult_at S.vars i ≡ 𝟘 →
      mult_at (bound x q A S).vars (suc i) ≡ 𝟘
  bound-mult None q A S i e = e
  bound-mult (Some x) q A S i e = e

  mutual
    found-spares : {p : Part} {S : Scope} {e : Tree} {j : Judged} → Found G p S e j → (i : ℕ) →
        mult_at S.vars i ≡ 𝟘 → usage_at j.uses i ≡ 𝟘
    found-spares {p} {S} (Found.variable {k = k} t s u) i e = use-spares p S.vars k i u e
    found-spares {p} {S} (Found.stands {F = F} {ts = ts} {us = us} t s a) i e =
        accepted-spares p S (node F ts) us a i e
    found-spares {S = S} (Found.global t m u) i e = none-spares (depth S) i
    found-spares {S = S} Found.sort i e = none-spares (depth S) i
    found-spares {S = S} (Found.function_type a b) i e = none-spares (depth S) i
    found-spares (Found.application x d a) i e = applied-spares a i e (spares d i e)
    found-spares (Found.family c a) i e = checked-spares a i e
    found-spares (Found.listed c a) i e = checked-spares a i e
    found-spares (Found.ascribed a d) i e = spares d i e
    found-spares {S = S} Found.integer i e = none-spares (depth S) i
    found-spares {S = S} Found.string i e = none-spares (depth S) i

    spares : {p : Part} {S : Scope} {m : Mode} {e : Tree} {j : Judged} → Elaborates G p S m e j → (i : ℕ) →
        mult_at S.vars i ≡ 𝟘 → usage_at j.uses i ≡ 𝟘
    spares (Elaborates.found f) i e = found-spares f i e
    spares (Elaborates.switch f c) i e = found-spares f i e
    spares (Elaborates.lam_synth l) i e = found-lambda-spares l i e
    spares (Elaborates.lam_check l) i e = checked-lambda-spares l i e
    spares (Elaborates.con_synth h t k a) i e = checked-spares a i e
    spares (Elaborates.con_check h t x a s) i e = checked-spares a i e
    spares (Elaborates.pure c h a) i e = checked-spares a i e
    spares (Elaborates.let_in {q = q} {v = v} {j = j} w b f) i e =
        sum-spares (drop 1 j.uses) (usage_scale q v.uses) i (drop-spares j.uses i (spares b (suc i) e))
        (scale-spares q v.uses i (valued-spares w i e))
    spares (Elaborates.block r) i e = runs-spare r i e

    checked-spares : {p : Part} {S : Scope} {Θ : Tele} {σ : ℕ → Term} {es : Arguments} {r : Given} →
        Checked G p S Θ σ es r → (i : ℕ) → mult_at S.vars i ≡ 𝟘 → usage_at r.uses i ≡ 𝟘
    checked-spares {S = S} Checked.none i e = none-spares (depth S) i
    checked-spares (Checked.more {q = q} {a = a} {g = g} d more) i e =
        sum-spares (usage_scale q a.uses) g.uses i (scale-spares q a.uses i (spares d i e)) (checked-spares more i e)

    applied-spares : {p : Part} {S : Scope} {f j : Judged} {es : Arguments} → Applied G p S f es j → (i : ℕ) →
        mult_at S.vars i ≡ 𝟘 → usage_at f.uses i ≡ 𝟘 → usage_at j.uses i ≡ 𝟘
    applied-spares Applied.itself i e k = k
    applied-spares (Applied.to {f = f} {a = a} {q = q} h d more) i e k =
        applied-spares more i e
        (sum-spares f.uses (usage_scale q a.uses) i k (scale-spares q a.uses i (spares d i e)))

    found-lambda-spares : {p : Part} {S : Scope} {bs : Binders} {e : Tree} {j : Judged} → FoundLambda G p S bs e j →
        (i : ℕ) → mult_at S.vars i ≡ 𝟘 → usage_at j.uses i ≡ 𝟘
    found-lambda-spares (FoundLambda.found_body d) i e = spares d i e
    found-lambda-spares (FoundLambda.found_binder {j = j} t l f) i e =
        drop-spares j.uses i (found-lambda-spares l (suc i) e)

    checked-lambda-spares : {p : Part} {S : Scope} {A : Term} {bs : Binders} {e : Tree} {j : Judged} →
        CheckedLambda G p S A bs e j → (i : ℕ) → mult_at S.vars i ≡ 𝟘 → usage_at j.uses i ≡ 𝟘
    checked-lambda-spares (CheckedLambda.checked_body d) i e = spares d i e
    checked-lambda-spares (CheckedLambda.checked_binder {j = j} h a l f) i e =
        drop-spares j.uses i (checked-lambda-spares l (suc i) e)

    valued-spares : {p : Part} {S : Scope} {A : Annotation} {e : Tree} {j : Judged} → Valued G p S A e j → (i : ℕ) →
        mult_at S.vars i ≡ 𝟘 → usage_at j.uses i ≡ 𝟘
    valued-spares (Valued.without_annotation d) i e = spares d i e
    valued-spares (Valued.with_annotation t d) i e = spares d i e

    runs-spare : {p : Part} {S : Scope} {m : Mode} {ss : Statements} {j : Judged} → Runs G p S m ss j → (i : ℕ) →
        mult_at S.vars i ≡ 𝟘 → usage_at j.uses i ≡ 𝟘
    runs-spare (Runs.last d) i e = spares d i e
    runs-spare {S = S} (Runs.act {x = x} {A = A} {m = m} {j = j} {k = k} a h d y r f) i e =
        sum-spares j.uses (drop 1 k.uses) i (spares d i e)
        (drop-spares k.uses i (runs-spare r (suc i) (bound-mult x (mult_of m) A S i e)))
    runs-spare (Runs.let_then {q = q} {v = v} {j = j} w r f) i e =
        sum-spares (drop 1 j.uses) (usage_scale q v.uses) i (drop-spares j.uses i (runs-spare r (suc i) e))
        (scale-spares q v.uses i (valued-spares w i e))

pub erased-is-unused : ErasedIsUnused
erased-is-unused G counted p S m e j d i k = spares G counted d i k
