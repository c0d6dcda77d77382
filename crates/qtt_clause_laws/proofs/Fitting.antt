-- Typed values for the variables of a node, and what stands for them in a branch.
use Rattle.std.proofs.Common.{◌≡◌, ℕ, zero, suc, List, [], ◌∷◌, length, Bool, true, false, cond, eqb, refl, sym, ◌∙◌, ap, subst}
use Rattle.std.proofs.lemmas.Bool.{eqb-true}
use mathlib.Core.Path.{ap₂, subst₂, fun_ext}
use Rattle.qtt_base.specs.declared.place.GlobalId.{GlobalId}
use Rattle.qtt_usage.specs.declared.mult.Mult.{Mult}
use Rattle.qtt_usage.specs.Mult.{𝟘, 𝟙, ω, ◌⊙◌}
use Rattle.qtt_usage.specs.Uses.{Use, zero_use}
use Rattle.qtt_term.specs.declared.term.ConId.{ConId}
use Rattle.qtt_term.specs.Term.{Form, Term, Terms, var, node, ε, ◌▸◌, size, ◌+++◌, Sort}
use Rattle.qtt_term.specs.Substitution.{ren, sub, subs, lift, cons, push, shift, above, closed}
use Rattle.qtt_term.specs.Signature.{Tele, Env}
use Rattle.qtt_term.specs.Contraction.{BodiesClosed, Conv}
use Rattle.qtt_term.specs.Judgement.{Ctx, InScope, type_at, ext, Part, under, Judged, sub_binds, scale, Args, Rule}
use Rattle.qtt_term.specs.Value.{Value}
use Rattle.qtt_term.proofs.Subst.{sub-sub, sub-ren, cons-ren, push-shift, subs-append}
use Rattle.qtt_confluence.specs.Injective as injective
use Rattle.qtt_confluence.specs.Injective.{Rigid}
use Rattle.qtt_confluence.proofs.Confluence.{convs-same, convs-back, conv-fill, conv-inside}
use Rattle.qtt_confluence.proofs.Injective.{rigid_injective}
use Rattle.qtt_confluence.proofs.Families.{newest-are}
use Rattle.qtt_preserve.specs.Within.{Has, HasAll}
use Rattle.qtt_preserve.proofs.Iota.{find_fields, args-size}
use Rattle.qtt_preserve.proofs.Travel.{has_as}
use Rattle.qtt_term.specs.Entries.{Entries, env}
use Rattle.qtt_split.specs.Branch.{put, put_all, made, raised, stands, bound_again, again}
use Rattle.qtt_split.specs.Relation.{AllInScope}
use Rattle.qtt_split.specs.Laws.{Deep, AllDeep, with_reverted}
use Rattle.qtt_clause_laws.specs.OneSplit.{Hold}
use Rattle.qtt_clause_laws.proofs.Steps.{deep-value, AllValues}
use Rattle.qtt_clause_laws.proofs.Shown.{Pairs, Opens, SolutionsOpen, Holds}
use Rattle.qtt_clause_laws.proofs.Deciding.{con-fields}
use Rattle.qtt_clause_laws.proofs.OneSplit.{convs-skip}

-- ---- typed values
pub record Whole (E : Env) (v : Term) : Type 0 where
  pub type : Term
  pub has : Has E Part.erased [] v type zero_use
  pub deep : Deep E v

-- a solution and the value that stands where it is meant
pub record Same (E : Env) (t v : Term) : Type 0 where
  pub conv : Conv E t v
  pub type : Term
  pub has : Has E Part.erased [] v type zero_use

from-under : {E : Env} {Γ : Ctx} {t A : Term} {u : Use} (q : Mult) → Has E (under Part.erased q) Γ t A u →
    Has E Part.erased Γ t A u
from-under 𝟘 h = h
from-under 𝟙 h = h
from-under ω h = h

at-zero : {E : Env} {t A : Term} {u : Use} → Has E Part.erased [] t A u → Has E Part.erased [] t A zero_use
at-zero {E} {A = A} h = has_as E A zero_use h Conv.same tt

pub deep-is : {E : Env} {v : Term} → Deep E v → Value E v
deep-is (Deep.whole v h) = v
deep-is (Deep.plain v h) = v

-- ---- a value where a constructor is meant
value-rigid : {E : Env} {F : Form} {ts : Terms} → Value E (node F ts) → Rigid F
value-rigid Value.sort = tt
value-rigid Value.pi = tt
value-rigid Value.fam = tt
value-rigid Value.prim_ty = tt
value-rigid Value.lam = tt
value-rigid Value.lit = tt
value-rigid Value.tape = tt
value-rigid (Value.con h) = tt
value-rigid (Value.act h) = tt

fields-same : {E : Env} {Θ : Tele} {τ : ℕ → Term} {ts fs : Terms} {js : List Judged} → Args Θ τ fs js →
    HasAll E Part.erased [] [] fs js → injective.Convs E ts fs → Pairs (Same E) ts fs
fields-same Args.none HasAll.none injective.Convs.none = Pairs.none
fields-same (Args.more {q = q} {T = T} {σ = τ} h) (HasAll.more z ha f hs) (injective.Convs.more c cs) =
    Pairs.more (record { conv = c; type = sub τ T; has = at-zero (from-under q ha) }) (fields-same h hs cs)

opened-at : (K : Entries) (f : GlobalId) (c k : ℕ) (ts xs : Terms) {A : Term} → injective.Convs (env K) ts xs →
    Has (env K) Part.erased [] (node (Form.con f c k) xs) A zero_use →
    Opens K (Same (env K)) f c k ts (Pairs (Same (env K))) (node (Form.con f c k) xs)
opened-at K f c k ts xs cs (Has.at_node {js = js} {R = R} (Rule.con {c = con} i a) hs cv fu) =
    let l = find_fields a hs in
    record {
      own = k;
      arguments = xs;
      is = refl;
      sized = args-size l.args ∙ ap length (con-fields K f c i);
      fields = fields-same l.args l.has (convs-skip k cs);
    }

pub same-opens : (K : Entries) → BodiesClosed (env K) → SolutionsOpen K (Same (env K))
same-opens K bodies f c k ts (var i) r (Deep.plain v h) = elim v [ ]
same-opens K bodies f c k ts (node G xs) r d =
    let s = rigid_injective (env K) bodies (Form.con f c k) G ts xs tt (value-rigid (deep-is d)) r.conv in
    subst (λ F. Opens K (Same (env K)) f c k ts (Pairs (Same (env K))) (node F xs)) s.0
    (opened-at K f c k ts xs s.1 (subst (λ F. Has (env K) Part.erased [] (node F xs) r.type zero_use) (sym s.0) r.has))

-- ---- typed values for a context
abbrev pub AllWhole : Env → (ℕ → Term) → Type 0
AllWhole E σ = (i : ℕ) → Whole E (σ i)

abbrev pub Fit : Env → Ctx → (ℕ → Term) → Type 0
Fit E Γ σ = (i : ℕ) → InScope Γ i → Has E Part.erased [] (σ i) (sub σ (type_at Γ i)) zero_use

whole-cons : {E : Env} (a : Term) (σ : ℕ → Term) → Whole E a → AllWhole E σ → AllWhole E (cons a σ)
whole-cons a σ w h zero = w
whole-cons a σ w h (suc i) = h i

pub whole-closed : {E : Env} → AllWhole E closed
whole-closed i = record {
  type = Sort 1;
  has = Has.at_node Rule.sort HasAll.none Conv.same tt;
  deep = Deep.plain
      Value.sort (λ f c k ts e. cc e);
}

fit-cons : {E : Env} (Γ : Ctx) (q : Mult) (A : Term) (a : Term) (σ : ℕ → Term) → Fit E Γ σ →
    Has E Part.erased [] a (sub σ A) zero_use → Fit E ((q, A) ∷ Γ) (cons a σ)
fit-cons {E} Γ q A a σ g h zero s = subst (λ B. Has E Part.erased [] a B zero_use) (sym (cons-ren σ a A)) h
fit-cons {E} Γ q A a σ g h (suc i) s = subst (λ B. Has E Part.erased [] (σ i) B zero_use)
    (sym (cons-ren σ a (type_at Γ i))) (g i s)

pub whole-fields : {E : Env} {Θ : Tele} {τ : ℕ → Term} {fs : Terms} {js : List Judged} → Args Θ τ fs js →
    HasAll E Part.erased [] [] fs js → AllDeep E fs → (σ : ℕ → Term) → AllWhole E σ → AllWhole E (push fs σ)
whole-fields Args.none HasAll.none d σ h = h
whole-fields (Args.more {q = q} {T = T} {σ = τ} {a = a} k) (HasAll.more z ha f hs) (AllDeep.more d ds) σ h =
    whole-fields k hs ds (cons a σ) (whole-cons a σ (record
    { type = sub τ T; has = at-zero (from-under q ha); deep = d }) h)

pub whole-reverted : {E : Env} (rs : List (Mult × ℕ)) (σ π : ℕ → Term) → AllWhole E σ → AllWhole E π →
    AllWhole E (with_reverted σ rs π)
whole-reverted [] σ π h k = k
whole-reverted (b ∷ rs) σ π h k = whole-reverted rs σ (cons (σ b.1) π) h (whole-cons (σ b.1) π (h b.1) k)

pub all-values : {E : Env} (rs : List (Mult × ℕ)) (σ : ℕ → Term) → AllWhole E σ → AllValues E σ rs
all-values [] σ h = tt
all-values (b ∷ rs) σ h = (deep-value (h b.1).deep, all-values rs σ h)

-- the arguments of a telescope
pub fit-args : {E : Env} {Θ : Tele} {τ : ℕ → Term} {fs : Terms} {js : List Judged} → Args Θ τ fs js →
    HasAll E Part.erased [] [] fs js → (Γ : Ctx) → Fit E Γ τ → Fit E (ext Γ Θ) (push fs τ)
fit-args Args.none HasAll.none Γ g = g
fit-args (Args.more {q = q} {T = T} {σ = τ} {a = a} h) (HasAll.more z ha f hs) Γ g =
    fit-args h hs ((q, T) ∷ Γ) (fit-cons Γ q T a τ g (at-zero (from-under q ha)))

pub fit-fields : {E : Env} {Θ : Tele} {τ : ℕ → Term} {fs : Terms} {js : List Judged} → BodiesClosed E →
    Args Θ τ fs js → HasAll E Part.erased [] [] fs js →
    (q : Mult) (Γ : Ctx) (σ π : ℕ → Term) → Fit E Γ σ → ((i : ℕ) → Conv E (τ i) (sub σ (π i))) →
    Fit E (ext Γ (sub_binds π (scale q Θ))) (push fs σ)
fit-fields bodies Args.none HasAll.none q Γ σ π g c = g
fit-fields {E} bodies (Args.more {q = n} {T = T} {σ = τ} {a = a} {u = u} h) (HasAll.more z ha f hs) q Γ σ π g c =
    fit-fields bodies h hs q ((q ⊙ n, sub π T) ∷ Γ) (cons a σ) (lift π)
    (fit-cons Γ (q ⊙ n) (sub π T) a σ g (has_as E (sub σ (sub π T)) zero_use (from-under n ha)
    (subst (Conv E (sub τ T)) (sym (sub-sub σ π T)) (conv-fill bodies T τ (λ i. sub σ (π i)) c)) tt))
    convs
  where
    convs : (i : ℕ) → Conv E (cons a τ i) (sub (cons a σ) (lift π i))
    convs zero = Conv.same
    convs (suc i) = subst (λ B. Conv E (τ i) B) (sym (cons-ren σ a (π i))) (c i)

-- ---- what stands for each variable is convertible to its value
abbrev pub Agrees : Env → (π δ σ : ℕ → Term) → Type 0
Agrees E π δ σ = (i : ℕ) → Conv E (sub π (δ i)) (σ i)

pub put-agrees : {E : Env} (π σ δ : ℕ → Term) (x : ℕ) (t : Term) → Conv E (sub π t) (σ x) → Agrees E π δ σ →
    Agrees E π (put x t δ) σ
put-agrees {E} π σ δ x t h k i = go (eqb i x) refl
  where
    go : (b : Bool) → eqb i x ≡ b → Conv E (sub π (cond b t (δ i))) (σ i)
    go true e = subst (λ j. Conv E (sub π t) (σ j)) (sym (eqb-true i x e)) h
    go false e = k i

pub again-agrees : {E : Env} (rs : List (Mult × ℕ)) (π σ δ : ℕ → Term) → Agrees E π δ σ →
    Agrees E (with_reverted σ rs π) (bound_again rs δ) σ
again-agrees [] π σ δ h = h
again-agrees {E} (b ∷ rs) π σ δ h =
    again-agrees rs (cons (σ b.1) π) σ (put b.1 (var 0) (λ i. ren suc (δ i)))
    (put-agrees (cons (σ b.1) π) σ (λ i. ren suc (δ i)) b.1 (var 0) Conv.same
    (λ i. subst (λ t. Conv E t (σ i)) (sym (cons-ren π (σ b.1) (δ i))) (h i)))

solved-agrees : {E : Env} (π σ δ : ℕ → Term) {s : List (ℕ × Term)} → Hold E σ π s → Agrees E π δ σ →
    Agrees E π (put_all s δ) σ
solved-agrees π σ δ Hold.none h = h
solved-agrees π σ δ (Hold.more {i = x} {u = u} {s = s} r g) h =
    put-agrees π σ (put_all s δ) x u r (solved-agrees π σ δ g h)

subs-raised : (π : ℕ → Term) (n : ℕ) (ps : Terms) → subs [] π (raised n ps) ≡ subs [] (λ i. π (shift n i)) ps
subs-raised π n ε = refl
subs-raised π n (p ▸ ps) = ap₂ ◌▸◌ (sub-ren p π (shift n)) (subs-raised π n ps)

push-behind : (fs : Terms) (σ : ℕ → Term) (n : ℕ) → size fs ≡ n → (λ i. push fs σ (shift n i)) ≡ σ
push-behind fs σ n z = fun_ext λ i. ap (λ n. push fs σ (shift n i)) (sym z) ∙ push-shift fs σ i

convs-append : {E : Env} {ts ss rs qs : Terms} → injective.Convs E ts ss → injective.Convs E rs qs →
    injective.Convs E (ts +++ rs) (ss +++ qs)
convs-append injective.Convs.none k = k
convs-append (injective.Convs.more h hs) k = injective.Convs.more h (convs-append hs k)

sub-made : (c : ConId) (ps fs : Terms) (σ : ℕ → Term) (n : ℕ) → size fs ≡ n →
    sub (push fs σ) (made c ps n) ≡ node (Form.con c.family c.place (size ps)) (subs [] σ ps +++ fs)
sub-made c ps fs σ n z =
    ap (node (Form.con c.family c.place (size ps)))
    (subs-append (raised n ps) (above 0 n) (push fs σ) ∙ ap₂ ◌+++◌
    (subs-raised (push fs σ) n ps ∙ ap (λ ρ. subs [] ρ ps) (push-behind fs σ n z)) (newest-are fs σ n z))

pub split-agrees : {E : Env} (c : ConId) (x k : ℕ) (ps own fs : Terms) (s : List (ℕ × Term)) (σ : ℕ → Term) (n : ℕ) →
    size fs ≡ n → k ≡ size ps →
    σ x ≡ node (Form.con c.family c.place k) (own +++ fs) → injective.Convs E own (subs [] σ ps) →
    Hold E σ (push fs σ) s → Agrees E (push fs σ) (stands x (made c ps n) s n) σ
split-agrees {E} c x k ps own fs s σ n z w e p h =
    put-agrees (push fs σ) σ (put_all s (λ i. var (shift n i))) x (made c ps n)
    (subst₂ (Conv E) (sym (sub-made c ps fs σ n z)) (sym
    (e ∙ ap (λ k. node (Form.con c.family c.place k) (own +++ fs)) w))
    (conv-inside (convs-append (convs-back p) (convs-same fs))))
    (solved-agrees (push fs σ) σ (λ i. var (shift n i)) h
    (λ i. subst (λ t. Conv E t (σ i)) (sym (ap (λ ρ. ρ i) (push-behind fs σ n z))) Conv.same))

pub fit-again : {E : Env} → BodiesClosed E → (Γ Δ : Ctx) (rs : List (Mult × ℕ)) (σ π δ : ℕ → Term) → Fit E Γ σ →
    Fit E Δ π → Agrees E π δ σ → AllInScope Γ rs →
    Fit E (ext Δ (again Γ rs δ)) (with_reverted σ rs π)
fit-again bodies Γ Δ [] σ π δ g h k s = h
fit-again {E} bodies Γ Δ (b ∷ rs) σ π δ g h k s =
    fit-again bodies Γ ((b.0, sub δ (type_at Γ b.1)) ∷ Δ) rs σ (cons (σ b.1) π) (put b.1 (var 0) (λ i. ren suc (δ i)))
    g
    (fit-cons Δ b.0 (sub δ (type_at Γ b.1)) (σ b.1) π h
    (has_as E (sub π (sub δ (type_at Γ b.1))) zero_use (g b.1 s.0)
    (Conv.back (subst (λ t. Conv E t (sub σ (type_at Γ b.1))) (sym (sub-sub π δ (type_at Γ b.1)))
    (conv-fill bodies (type_at Γ b.1) (λ i. sub π (δ i)) σ k))) tt))
    (put-agrees (cons (σ b.1) π) σ (λ i. ren suc (δ i)) b.1 (var 0) Conv.same
    (λ i. subst (λ t. Conv E t (σ i)) (sym (cons-ren π (σ b.1) (δ i))) (k i))) s.1

-- solutions of typed values
pub hold-holds : {K : Entries} {σ π : ℕ → Term} {s : List (ℕ × Term)} → AllWhole (env K) σ → Hold (env K) σ π s →
    Holds K (Same (env K)) σ π s
hold-holds w Hold.none = Holds.none
hold-holds w (Hold.more {i = i} c h) = Holds.more (record { conv = c; type = (w i).type; has = (w i).has })
    (hold-holds w h)

pub same-moved : {E : Env} → BodiesClosed E → (π σ δ : ℕ → Term) → Agrees E π δ σ → (u v : Term) → Same E (sub σ u) v →
    Same E (sub π (sub δ u)) v
same-moved {E} bodies π σ δ k u v r = record {
  conv = Conv.thence (subst (λ t. Conv E t (sub σ u)) (sym (sub-sub π δ u))
      (conv-fill bodies u (λ i. sub π (δ i)) σ k)) r.conv;
  type = r.type;
  has = r.has;
}
