-- A term of the run part has no erased use.
use Rattle.std.proofs.Common.{◌≡◌, ℕ, zero, suc, List, [], ◌∷◌, length, Some, None, refl, subst, arith}
use Rattle.qtt_base.specs.declared.place.GlobalId.{GlobalId}
use Rattle.qtt_usage.specs.declared.mult.Mult.{Mult}
use Rattle.qtt_usage.specs.Mult.{𝟘, 𝟙, ω, ◌⊙◌}
use Rattle.qtt_usage.specs.Uses.{Use}
use Rattle.qtt_term.specs.Term.{Named, Form, Term, Terms, binders, zeros, first, rest}
use Rattle.qtt_term.specs.Substitution.{lift}
use Rattle.qtt_term.specs.Signature.{Tele, Constructor, ConSig, Env, con_sigs, fam_at, family_at}
use Rattle.qtt_term.specs.Value.{mults, field_mults}
use Rattle.qtt_term.specs.Judgement.{Ctx, InScope, mult_at, ext, sub_binds, scale, IsCon, Part, under, Usable, Judged, Args, ParamsThenArgs, Branches, Cases, Rule, Typed}
use Rattle.qtt_term.specs.Environment.{WellFormed}
use Rattle.qtt_erase.specs.Erasure.{Slot, Slots, argument_slot, field_slot, field_slots, extend, slot_at, Fate, arguments, without, branches, fates}
use Rattle.qtt_erase.specs.ErasedUse.{IsFilled, NamesNoZero, NoErasedUse, NoErasedUses, Erasable}
use Rattle.qtt_preserve.specs.Within.{Has, HasAll}
use Rattle.qtt_preserve.proofs.Exact.{typed-has}
use Rattle.qtt_preserve.proofs.Sound.{sound_of}

-- ---- a binder that may be used has a filled slot
abbrev Fills : Mult → Slot → Type 0
Fills m s = Usable Part.run m → IsFilled s

abbrev FillAll : Tele → List Slot → Type 0
FillAll [] [] = Unit {0}
FillAll [] (s ∷ ss) = ⊥
FillAll (b ∷ Θ) [] = ⊥
FillAll (b ∷ Θ) (s ∷ ss) = Fills b.0 s × FillAll Θ ss

abbrev Filled : Ctx → Slots → Type 0
Filled Γ Δ = (i : ℕ) → InScope Γ i → Fills (mult_at Γ i) (slot_at Δ i)

argument-fills : (q : Mult) → Fills q (argument_slot q)
argument-fills 𝟘 h = absurd h
argument-fills 𝟙 h = tt
argument-fills ω h = tt

field-fills : (q m : Mult) → Fills (q ⊙ m) (field_slot q m)
field-fills 𝟘 𝟘 h = absurd h
field-fills 𝟘 𝟙 h = absurd h
field-fills 𝟘 ω h = absurd h
field-fills 𝟙 𝟘 h = absurd h
field-fills 𝟙 𝟙 h = tt
field-fills 𝟙 ω h = tt
field-fills ω 𝟘 h = absurd h
field-fills ω 𝟙 h = tt
field-fills ω ω h = tt

fields-fill : (q : Mult) (σ : ℕ → Term) (Θ : Tele) (n : ℕ) → n ≡ length (sub_binds σ (scale q Θ)) →
    FillAll (sub_binds σ (scale q Θ)) (field_slots q (mults Θ) n)
fields-fill q σ [] zero e = tt
fields-fill q σ [] (suc n) e = absurd (omega (arith, e))
fields-fill q σ (b ∷ Θ) zero e = absurd (omega (arith, e))
fields-fill q σ (b ∷ Θ) (suc n) e = (field-fills q b.0, fields-fill q (lift σ) Θ n (omega (arith, e)))

filled-more : (Γ : Ctx) (Δ : Slots) (b : Mult × Term) (s : Slot) → Fills b.0 s → Filled Γ Δ → Filled (b ∷ Γ) (s ∷ Δ)
filled-more Γ Δ b s h g zero i = h
filled-more Γ Δ b s h g (suc n) i = g n i

filled-ext : (Θ : Tele) (ss : List Slot) (Γ : Ctx) (Δ : Slots) → FillAll Θ ss → Filled Γ Δ →
    Filled (ext Γ Θ) (extend Δ ss)
filled-ext [] [] Γ Δ h g = g
filled-ext [] (s ∷ ss) Γ Δ h g = absurd h
filled-ext (b ∷ Θ) [] Γ Δ h g = absurd h
filled-ext (b ∷ Θ) (s ∷ ss) Γ Δ h g = filled-ext Θ ss (b ∷ Γ) (s ∷ Δ) h.1 (filled-more Γ Δ b s h.0 g)

-- ---- a component that stays is judged in the run part, and its binders have their slots
abbrev Stays : Judged → ℕ → List Slot → Type 0
Stays j n ss = Usable Part.run j.mult × (n ≡ length j.binds → FillAll j.binds ss)

abbrev StayAll : List ℕ → List Judged → List Fate → Type 0
StayAll ns js [] = Unit {0}
StayAll ns [] (f ∷ fs) = Unit {0}
StayAll ns (j ∷ js) (None ∷ fs) = StayAll (rest ns) js fs
StayAll ns (j ∷ js) (Some ss ∷ fs) = Stays j (first ns) ss × StayAll (rest ns) js fs

args-stay : {Θ : Tele} {σ : ℕ → Term} {ts : Terms} {js : List Judged} (ns : List ℕ) → Args Θ σ ts js →
    StayAll ns js (arguments (mults Θ))
args-stay ns Args.none = tt
args-stay ns (Args.more {q = 𝟘} a) = args-stay (rest ns) a
args-stay ns (Args.more {q = 𝟙} a) = ((tt, λ e. tt), args-stay (rest ns) a)
args-stay ns (Args.more {q = ω} a) = ((tt, λ e. tt), args-stay (rest ns) a)

params-stay : {Ξ Θ : Tele} {σ : ℕ → Term} {ts : Terms} {js : List Judged} {S R : Term} (ns : List ℕ) →
    ParamsThenArgs Ξ Θ σ ts js S R →
    StayAll ns js (without (length Θ) (arguments (mults Ξ)))
params-stay ns (ParamsThenArgs.param a) = params-stay (rest ns) a
params-stay ns (ParamsThenArgs.done a) = args-stay ns a

con-fields : (f : GlobalId) (k m : ℕ) (ds : List Constructor) (n : ℕ) (c : ConSig) → IsCon (con_sigs f k m ds) n c →
    mults c.fields ≡ field_mults ds n
con-fields f k m [] n c h = elim h [ ]
con-fields f k m (d ∷ ds) zero c IsCon.here = refl
con-fields f k m (d ∷ ds) (suc n) c (IsCon.there h) = con-fields f k (suc m) ds n c h

branches-stay : (E : Env) (f : GlobalId) (q : Mult) {σ : ℕ → Term} {P : Term} (k m : ℕ)
    (ds : List Constructor) {ns : List ℕ} {ts : Terms}
    {js : List Judged} {R : Term} →
    Usable Part.run q → Branches (fam_at E f) q σ P (con_sigs f k m ds) ns ts js R → StayAll ns js (branches q ds ns)
branches-stay E f q k m [] used (Branches.scrutinee is e) = ((used, λ e. tt), tt)
branches-stay E f q {σ} k m (d ∷ ds) used (Branches.each {n = n} e b) =
    ((tt, fields-fill q σ d.fields n), branches-stay E f q k (suc m) ds used b)

cases-stay : (E : Env) (f : GlobalId) (q : Mult) {Θ : Tele} {σ : ℕ → Term} {k m : ℕ} {ns : List ℕ} {ts : Terms}
    {js : List Judged}
    {R : Term} →
    Usable Part.run q → Cases (fam_at E f) q Θ σ k m ns ts js R → StayAll (zeros k (m ∷ ns)) js
    (without k (None ∷ branches q (family_at E f).constructors ns))
cases-stay E f q used (Cases.param a) = cases-stay E f q used a
cases-stay E f q used (Cases.motive a) =
    branches-stay E f q (length (family_at E f).params) 0 (family_at E f).constructors used a

rule-stays : {E : Env} {F : Form} {ts : Terms} {js : List Judged} {R : Term} {own : Use} →
    Rule E Part.run F ts js R own →
    StayAll (binders F) js (fates E F)
rule-stays Rule.sort = tt
rule-stays Rule.pi = tt
rule-stays (Rule.lam {q = q}) = ((tt, λ e. (argument-fills q, tt)), tt)
rule-stays (Rule.app {q = 𝟘}) = ((tt, λ e. tt), tt)
rule-stays (Rule.app {q = 𝟙}) = ((tt, λ e. tt), ((tt, λ e. tt), tt))
rule-stays (Rule.app {q = ω}) = ((tt, λ e. tt), ((tt, λ e. tt), tt))
rule-stays (Rule.fam there a) = tt
rule-stays {E} {js = js} (Rule.con {f = f} {n = n} {c = c} is a) =
    subst (λ ms. StayAll [] js (without (length (fam_at E f).params) (arguments ms)))
    (con-fields f (length (family_at E f).params) 0 (family_at E f).constructors n c is) (params-stay [] a)
rule-stays {E} (Rule.case {q = q} {f = f} there used a) = cases-stay E f q used a
rule-stays (Rule.delete used) = ((tt, λ e. tt), ((used, λ e. tt), tt))
rule-stays (Rule.named {n = Named.def d} there used a) = tt
rule-stays (Rule.named {n = Named.lit l} there used a) = tt
rule-stays (Rule.named {n = Named.prim_ty p} there used a) = tt
rule-stays (Rule.named {n = Named.prim p} there used a) = args-stay [] a
rule-stays (Rule.named {n = Named.act x k} there used a) = args-stay [] a
rule-stays Rule.trap = tt
rule-stays Rule.tape = tt

rule-names : {E : Env} {F : Form} {ts : Terms} {js : List Judged} {R : Term} {own : Use} →
    Rule E Part.run F ts js R own → NamesNoZero E F
rule-names Rule.sort = tt
rule-names Rule.pi = tt
rule-names Rule.lam = tt
rule-names Rule.app = tt
rule-names (Rule.fam there a) = tt
rule-names (Rule.con is a) = tt
rule-names (Rule.case there used a) = tt
rule-names (Rule.delete used) = tt
rule-names (Rule.named {n = Named.def d} there used a) = used
rule-names (Rule.named {n = Named.lit l} there used a) = tt
rule-names (Rule.named {n = Named.prim_ty p} there used a) = tt
rule-names (Rule.named {n = Named.prim p} there used a) = tt
rule-names (Rule.named {n = Named.act x k} there used a) = tt
rule-names Rule.trap = tt
rule-names Rule.tape = tt

run-under : (p : Part) (m : Mult) → p ≡ Part.run → Usable Part.run m → under p m ≡ Part.run
run-under p 𝟘 e h = absurd h
run-under p 𝟙 e h = e
run-under p ω e h = e

mutual
  clean : {E : Env} {p : Part} {Γ : Ctx} {t A : Term} {u : Use} → Has E p Γ t A u → p ≡ Part.run →
      (Δ : Slots) → Filled Γ Δ →
      NoErasedUse E Δ t
  clean {Γ = Γ} (Has.at_var {i = i} s m c f) e Δ h = h i s (subst (λ p. Usable p (mult_at Γ i)) e m)
  clean {E} (Has.at_node {F = F} {ts = ts} {js = js} {R = R} {own = own} r hs c f) e Δ h =
      let run : Rule E Part.run F ts js R own = subst (λ p. Rule E p F ts js R own) e r in
      (rule-names run, all-clean hs e Δ (fates E F) (rule-stays run) h)

  all-clean : {E : Env} {p : Part} {Γ : Ctx} {ns : List ℕ} {ts : Terms} {js : List Judged} →
      HasAll E p Γ ns ts js → p ≡ Part.run →
      (Δ : Slots) (fs : List Fate) → StayAll ns js fs → Filled Γ Δ → NoErasedUses E Δ fs ts
  all-clean HasAll.none e Δ fs s h = tt
  all-clean (HasAll.more n d f hs) e Δ [] s h = tt
  all-clean (HasAll.more n d f hs) e Δ (None ∷ fs) s h = all-clean hs e Δ fs s h
  all-clean {p = p} {Γ = Γ} (HasAll.more {j = j} n d f hs) e Δ (Some ss ∷ fs) s h = (
    clean d (run-under p j.mult e s.0.0) (extend Δ ss) (filled-ext j.binds ss Γ Δ (s.0.1 n) h),
    all-clean hs e Δ fs s.1 h,
  )

pub has-clean : {E : Env} {t A : Term} {u : Use} → Has E Part.run [] t A u → NoErasedUse E [] t
has-clean h = clean h refl [] (λ i s. absurd s)

pub typed-clean : (E : Env) (t A : Term) (u : Use) → Typed E Part.run [] t A u → NoErasedUse E [] t
typed-clean E t A u h = has-clean (typed-has h)

pub bodies-clean : (E : Env) → WellFormed E → Erasable E
bodies-clean E w = record
    { equality = w.prims.equalities; bodies = λ d b used e. has-clean ((sound_of w).typed d b e Part.run used) }
