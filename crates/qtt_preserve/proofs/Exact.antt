-- A term has a type with a use at most u exactly where it has it with some exact use that is at most u.
use Rattle.std.proofs.Common.{◌≡◌, ℕ, suc, Bool, true, false, cond, List, [], ◌∷◌, length, refl, sym, ◌∙◌, ap}
use Rattle.qtt_usage.specs.declared.mult.Mult.{Mult}
use Rattle.qtt_usage.specs.Mult.{𝟘, 𝟙, ω, ◌⊕◌, ◌⊙◌, join, ◌≼◌}
use Rattle.qtt_usage.specs.Uses.{Key, Use, unit, zero_use, out, outs}
use Rattle.qtt_usage.proofs.Mults.{≼-refl, ≼-trans, ⊕-mono, ⊙-mono-right, join-mono}
use Rattle.qtt_term.specs.Term.{Form, Term, Terms}
use Rattle.qtt_term.specs.Signature.{Tele, ConSig, FamSig, Env}
use Rattle.qtt_term.specs.Contraction.{Conv}
use Rattle.qtt_term.specs.Judgement.{KeyIn, Ctx, ext, Part, under, InRun, AtMost, Judged, BindersFit, share, sum_of, join_of, has_branch, total, Args, ParamsThenArgs, Branches, Cases, Rule, UseIs, Typed, TypedAll}
use Rattle.qtt_preserve.specs.Within.{Has, HasAll}
use Rattle.qtt_preserve.proofs.Uses.{≼-of}
use Rattle.qtt_preserve.proofs.Travel.{has_as, in_run₂, always}

within : (p : Part) (Γ : Ctx) (w u : Use) → UseIs p Γ w u → InRun p (AtMost Γ w u)
within Part.run Γ w u h = λ x s. ≼-of (sym (h x s))
within Part.erased Γ w u h = tt

mutual
  pub typed-has : {E : Env} {p : Part} {Γ : Ctx} {t A : Term} {u : Use} → Typed E p Γ t A u → Has E p Γ t A u
  typed-has {p = p} {Γ = Γ} {u = u} (Typed.variable {i = i} s m e) =
      Has.at_var s m Conv.same (within p Γ (unit (Key.v i)) u e)
  typed-has {p = p} {Γ = Γ} {u = u} (Typed.by_rule {js = js} {own = own} r hs e) =
      Has.at_node r (all-has hs) Conv.same (within p Γ (total own js) u e)
  typed-has {E} {p = p} {u = u} (Typed.conversion {B = B} h c) =
      has_as E B u (typed-has h) c (always p λ x s. ≼-refl (u x))

  all-has : {E : Env} {p : Part} {Γ : Ctx} {ns : List ℕ} {ts : Terms} {js : List Judged} →
      TypedAll E p Γ ns ts js → HasAll E p Γ ns ts js
  all-has TypedAll.none = HasAll.none
  all-has (TypedAll.more e h f hs) = HasAll.more e (typed-has h) f (all-has hs)

-- the same at smaller uses
data Reused (p : Part) (Γ : Ctx) : List Judged → List Judged → Type 0 where
  none : Reused p Γ [] []
  more : {j : Judged} {w : Use} {js ks : List Judged} → InRun (under p j.mult) (AtMost (ext Γ j.binds) w j.uses) →
      Reused p Γ js ks →
      Reused p Γ (j ∷ js) (record j { uses = w } ∷ ks)

at_most-out : (Γ : Ctx) (b : Mult × Term) (w u : Use) → AtMost (b ∷ Γ) w u → AtMost Γ (out w) (out u)
at_most-out Γ b w u h (Key.v i) s = h (Key.v (suc i)) s
at_most-out Γ b w u h (Key.h i) s = h (Key.h i) s

at_most-outs : (Γ : Ctx) (Θ : Tele) (w u : Use) → AtMost (ext Γ Θ) w u →
    AtMost Γ (outs (length Θ) w) (outs (length Θ) u)
at_most-outs Γ [] w u h = h
at_most-outs Γ (b ∷ Θ) w u h = at_most-out Γ b (outs (length Θ) w) (outs (length Θ) u) (at_most-outs (b ∷ Γ) Θ w u h)

fit-less : (Γ : Ctx) (Θ : Tele) (w u : Use) → AtMost (ext Γ Θ) w u → BindersFit Θ u → BindersFit Θ w
fit-less Γ [] w u h f = tt
fit-less Γ (b ∷ Θ) w u h f = (
  ≼-trans (outs (length Θ) w (Key.v 0)) (outs (length Θ) u (Key.v 0)) b.0
      (at_most-outs (b ∷ Γ) Θ w u h (Key.v 0) tt) f.0,
  fit-less (b ∷ Γ) Θ w u h f.1,
)

share-less : (Γ : Ctx) (j : Judged) (w : Use) → InRun (under Part.run j.mult) (AtMost (ext Γ j.binds) w j.uses) →
    AtMost Γ (share (record j { uses = w })) (share j)
share-less Γ j w h x s = go j.mult h
  where
    go : (m : Mult) → InRun (under Part.run m) (AtMost (ext Γ j.binds) w j.uses) →
        m ⊙ outs (length j.binds) w x ≼ m ⊙ outs (length j.binds) j.uses x
    go 𝟘 k = tt
    go 𝟙 k = at_most-outs Γ j.binds w j.uses k x s
    go ω k = ⊙-mono-right ω (outs (length j.binds) w x) _ (at_most-outs Γ j.binds w j.uses k x s)

less_sum : (b : Bool) (c d e f : Mult) → c ≼ e → d ≼ f → cond b d (c ⊕ d) ≼ cond b f (e ⊕ f)
less_sum true c d e f h k = k
less_sum false c d e f h k = ⊕-mono c e d f h k

less_join : (b a : Bool) (c d e f : Mult) → c ≼ e → d ≼ f →
    cond b (cond a (join c d) c) d ≼ cond b (cond a (join e f) e) f
less_join false a c d e f h k = k
less_join true true c d e f h k = join-mono c e d f h k
less_join true false c d e f h k = h

reused-branch : {p : Part} {Γ : Ctx} {js ks : List Judged} → Reused p Γ js ks → has_branch ks ≡ has_branch js
reused-branch Reused.none = refl
reused-branch (Reused.more {j = j} h r) = ap (cond j.branch true) (reused-branch r)

reused-sum : {Γ : Ctx} {js ks : List Judged} → Reused Part.run Γ js ks → AtMost Γ (sum_of ks) (sum_of js)
reused-sum Reused.none = λ x s. tt
reused-sum {Γ} (Reused.more {j = j} {w = w} {js = js} {ks = ks} h r) = λ x s.
    less_sum j.branch (share (record j { uses = w }) x) (sum_of ks x) (share j x) (sum_of js x)
    (share-less Γ j w h x s) (reused-sum r x s)

reused-join : {Γ : Ctx} {js ks : List Judged} → Reused Part.run Γ js ks → AtMost Γ (join_of ks) (join_of js)
reused-join Reused.none = λ x s. tt
reused-join {Γ} (Reused.more {j = j} {w = w} {js = js} {ks = ks} h r) = λ x s.
    rw (reused-branch r) (less_join j.branch (has_branch js) (share (record j { uses = w }) x) (join_of ks x)
    (share j x) (join_of js x) (share-less Γ j w h x s) (reused-join r x s))

reused-total : (p : Part) {Γ : Ctx} {js ks : List Judged} (own : Use) → Reused p Γ js ks →
    InRun p (AtMost Γ (total own ks) (total own js))
reused-total Part.erased own r = tt
reused-total Part.run {Γ} {js} {ks} own r = λ x s.
    ⊕-mono (own x) (own x) _ _ (≼-refl (own x))
    (⊕-mono (sum_of ks x) (sum_of js x) (join_of ks x) (join_of js x) (reused-sum r x s) (reused-join r x s))

-- no rule looks at uses
pub data ButForUses : List Judged → List Judged → Type 0 where
  none : ButForUses [] []
  more : {j : Judged} {w : Use} {js ks : List Judged} → ButForUses js ks →
      ButForUses (j ∷ js) (record j { uses = w } ∷ ks)

but-reused : {p : Part} {Γ : Ctx} {js ks : List Judged} → Reused p Γ js ks → ButForUses js ks
but-reused Reused.none = ButForUses.none
but-reused (Reused.more h r) = ButForUses.more (but-reused r)

args-uses : {Θ : Tele} {σ : ℕ → Term} {ts : Terms} {js ks : List Judged} → Args Θ σ ts js → ButForUses js ks →
    Args Θ σ ts ks
args-uses Args.none ButForUses.none = Args.none
args-uses (Args.more a) (ButForUses.more r) = Args.more (args-uses a r)

params-uses : {Ξ Θ : Tele} {σ : ℕ → Term} {ts : Terms} {js ks : List Judged} {S R : Term} →
    ParamsThenArgs Ξ Θ σ ts js S R → ButForUses js ks → ParamsThenArgs Ξ Θ σ ts ks S R
params-uses (ParamsThenArgs.param a) (ButForUses.more r) = ParamsThenArgs.param (params-uses a r)
params-uses (ParamsThenArgs.done a) r = ParamsThenArgs.done (args-uses a r)

branches-uses : {S : FamSig} {q : Mult} {σ : ℕ → Term} {P : Term} {cs : List ConSig} {ns : List ℕ} {ts : Terms}
    {js ks : List Judged} {R : Term} →
    Branches S q σ P cs ns ts js R → ButForUses js ks → Branches S q σ P cs ns ts ks R
branches-uses (Branches.each e b) (ButForUses.more r) = Branches.each e (branches-uses b r)
branches-uses (Branches.scrutinee is e) (ButForUses.more ButForUses.none) = Branches.scrutinee is e

cases-uses : {S : FamSig} {q : Mult} {Θ : Tele} {σ : ℕ → Term} {k m : ℕ} {ns : List ℕ} {ts : Terms}
    {js ks : List Judged} {R : Term} →
    Cases S q Θ σ k m ns ts js R → ButForUses js ks → Cases S q Θ σ k m ns ts ks R
cases-uses (Cases.param a) (ButForUses.more r) = Cases.param (cases-uses a r)
cases-uses (Cases.motive a) (ButForUses.more r) = Cases.motive (branches-uses a r)

pub rule-uses : {E : Env} {p : Part} {F : Form} {ts : Terms} {js ks : List Judged} {R : Term} {own : Use} →
    Rule E p F ts js R own → ButForUses js ks → Rule E p F ts ks R own
rule-uses Rule.sort ButForUses.none = Rule.sort
rule-uses Rule.pi (ButForUses.more (ButForUses.more ButForUses.none)) = Rule.pi
rule-uses Rule.lam (ButForUses.more (ButForUses.more ButForUses.none)) = Rule.lam
rule-uses Rule.app (ButForUses.more (ButForUses.more ButForUses.none)) = Rule.app
rule-uses Rule.trap (ButForUses.more ButForUses.none) = Rule.trap
rule-uses Rule.tape ButForUses.none = Rule.tape
rule-uses (Rule.fam there a) r = Rule.fam there (params-uses a r)
rule-uses (Rule.con i a) r = Rule.con i (params-uses a r)
rule-uses (Rule.named there m a) r = Rule.named there m (args-uses a r)
rule-uses (Rule.case there m a) r = Rule.case there m (cases-uses a r)
rule-uses (Rule.delete m)
    (ButForUses.more (ButForUses.more (ButForUses.more (ButForUses.more (ButForUses.more ButForUses.none))))) =
    Rule.delete m

pub exact_use : Part → Use → Use
exact_use Part.run w = w
exact_use Part.erased w = zero_use

is-exact : (p : Part) (Γ : Ctx) (w : Use) → UseIs p Γ w (exact_use p w)
unfolding exact_use
is-exact Part.run Γ w = λ x s. refl
is-exact Part.erased Γ w = λ x s. refl

exact-within : (p : Part) (Γ : Ctx) (w u : Use) → InRun p (AtMost Γ w u) → InRun p (AtMost Γ (exact_use p w) u)
unfolding exact_use
exact-within Part.run Γ w u h = h
exact-within Part.erased Γ w u h = tt

mutual
  pub has-typed : {E : Env} {p : Part} {Γ : Ctx} {t A : Term} {u : Use} → Has E p Γ t A u →
      (w : Use) × Typed E p Γ t A w × InRun p (AtMost Γ w u)
  has-typed {p = p} {Γ = Γ} {u = u} (Has.at_var {i = i} s m c f) = (
    exact_use p (unit (Key.v i)),
    Typed.conversion (Typed.variable s m (is-exact p Γ (unit (Key.v i)))) c,
    exact-within p Γ (unit (Key.v i)) u f,
  )
  has-typed {p = p} {Γ = Γ} {u = u} (Has.at_node {js = js} {own = own} r hs c f) =
      let (ks, ts, m) = has-all hs in (
        exact_use p (total own ks),
        Typed.conversion (Typed.by_rule (rule-uses r (but-reused m)) ts (is-exact p Γ (total own ks))) c,
        exact-within p Γ (total own ks) u
            (in_run₂ p (λ a b x s. ≼-trans (total own ks x) (total own js x) (u x) (a x s) (b x s))
            (reused-total p own m) f),
      )

  has-all : {E : Env} {p : Part} {Γ : Ctx} {ns : List ℕ} {ts : Terms} {js : List Judged} → HasAll E p Γ ns ts js →
      (ks : List Judged) × TypedAll E p Γ ns ts ks × Reused p Γ js ks
  has-all HasAll.none = ([], TypedAll.none, Reused.none)
  has-all {p = p} {Γ = Γ} (HasAll.more {j = j} e h f hs) =
      let (w, t, k) = has-typed h in
      let (ks, ts, r) = has-all hs in (
        record j { uses = w } ∷ ks,
        TypedAll.more e t (in_run₂ (under p j.mult) (λ a b. fit-less Γ j.binds w j.uses a b) k f) ts,
        Reused.more k r,
      )

use-as : (p : Part) (Γ : Ctx) (z w u : Use) → ((x : Key) → KeyIn Γ x → u x ≡ w x) → UseIs p Γ z w → UseIs p Γ z u
use-as Part.run Γ z w u h e = λ x s. h x s ∙ e x s
use-as Part.erased Γ z w u h e = λ x s. h x s ∙ e x s

-- only the uses of the context's variables and of tapes matter
pub typed-as : {E : Env} {p : Part} {Γ : Ctx} {t A : Term} {w : Use} (u : Use) → Typed E p Γ t A w →
    ((x : Key) → KeyIn Γ x → u x ≡ w x) → Typed E p Γ t A u
typed-as {p = p} {Γ = Γ} {w = w} u (Typed.variable {i = i} s m e) h =
    Typed.variable s m (use-as p Γ (unit (Key.v i)) w u h e)
typed-as {p = p} {Γ = Γ} {w = w} u (Typed.by_rule {js = js} {own = own} r hs e) h =
    Typed.by_rule r hs (use-as p Γ (total own js) w u h e)
typed-as u (Typed.conversion d c) h = Typed.conversion (typed-as u d h) c
