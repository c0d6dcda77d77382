-- A Case of a constructor, contracted with all fields at once.
use Rattle.std.proofs.Common.{◌≡◌, ℕ, zero, suc, Bool, true, false, cond, List, [], ◌∷◌, length, refl, sym, ◌∙◌, ap, subst, arith}
use mathlib.Core.Path.{fun_ext, ap₂}
use Rattle.qtt_base.specs.declared.place.GlobalId.{GlobalId}
use Rattle.qtt_usage.specs.declared.mult.Mult.{Mult}
use Rattle.qtt_usage.specs.Mult.{𝟘, 𝟙, ω, ◌⊕◌, ◌⊙◌, join, ◌≼◌}
use Rattle.qtt_usage.specs.Uses.{Key, Use, unit, zero_use, out, outs}
use Rattle.qtt_usage.proofs.Mults.{≼-refl, ≼-trans, ⊕-zero, ⊕-comm, ⊕-mono, ⊙-zero, ⊙-assoc, ⊙-⊕, ⊙-mono, ⊙-mono-right, ≼-join-left, ≼-join-right}
use Rattle.qtt_term.specs.Term.{Form, zeros, Term, Terms, var, node, ε, ◌▸◌, size, skip, ◌+++◌}
use Rattle.qtt_term.specs.Substitution.{ren, sub, subs, lift, lifts, cons, push, shift, closed}
use Rattle.qtt_term.specs.Signature.{Tele, ConSig, FamSig, Env, fam_at}
use Rattle.qtt_term.specs.Contraction.{BodiesClosed, Conv}
use Rattle.qtt_term.specs.Judgement.{IsCon, Ctx, mult_at, type_at, ext, Part, under, InRun, AtMost, Usable, Judged, BindersFit, sum_of, join_of, has_branch, total, sub_binds, scale, Args, ParamsThenArgs, branch_type, Branches, Cases, Rule}
use Rattle.qtt_term.proofs.Subst.{sub-sub, sub-id, cons-ren, push-then_sub, push-lifts, push-shift, subs-after}
use Rattle.qtt_confluence.proofs.Families.{Split, FamilyInjective}
use Rattle.qtt_confluence.proofs.Root.{ScrutineeAt, BranchAt, Picks}
use Rattle.qtt_confluence.proofs.Confluence.{convs-same, conv-fill, convs-fill, push-conv}
use Rattle.qtt_preserve.specs.Within.{Has, HasAll}
use Rattle.qtt_preserve.specs.Through.{through, tapes_of, dot}
use Rattle.qtt_preserve.proofs.Uses.{≼-of, through-same}
use Rattle.qtt_preserve.proofs.Travel.{in_run₃, has_as, usable-under, erase, raise, always}
use Rattle.qtt_preserve.proofs.Substitution.{has_var, Fills, substitution}

-- ---- what a Case's derivation says of the branch that is picked and of the scrutinee
pub record Scrutinee (E : Env) (p : Part) (Γ : Ctx) (S : FamSig) (q : Mult) (σ : ℕ → Term) (P s R : Term)
    (js : List Judged) : Type 0 where
  pub indices : Terms
  pub uses : Use
  pub has : Has E (under p q) Γ s (sub (push indices σ) S.self) uses
  pub sized : size (indices +++ (s ▸ ε)) ≡ length S.motive
  pub result : sub (push (indices +++ (s ▸ ε)) var) P ≡ R
  pub counted : (x : Key) → q ⊙ uses x ≼ sum_of js x

find_last : {E : Env} {p : Part} {Γ : Ctx} {S : FamSig} {q : Mult} {σ : ℕ → Term} {P : Term} {cs : List ConSig}
    {ns : List ℕ} {ts : Terms} {js : List Judged} {R s : Term} →
    Branches S q σ P cs ns ts js R → ScrutineeAt ns ts s → HasAll E p Γ ns ts js → Scrutinee E p Γ S q σ P s R js
find_last (Branches.scrutinee is {w = w} e) ScrutineeAt.end (HasAll.more d h f HasAll.none) =
    record { indices = is; uses = w; has = h; sized = e; result = refl; counted = λ x. ≼-of (sym (⊕-zero _)) }
find_last (Branches.each e b) (ScrutineeAt.later l) (HasAll.more d h f hs) =
    let r = find_last b l hs in
    record { indices = r.indices; uses = r.uses; has = r.has; sized = r.sized; result = r.result; counted = r.counted }

pub record Picked (E : Env) (p : Part) (Γ : Ctx) (S : FamSig) (q : Mult) (σ : ℕ → Term) (P : Term)
    (cs : List ConSig) (c n : ℕ) (b s R : Term) (js : List Judged) : Type 0 where
  pub con : ConSig
  pub is_con : IsCon cs c con
  pub sized : size con.targets ≡ length S.motive
  pub uses : Use
  pub has : Has E p (ext Γ (sub_binds σ (scale q con.fields))) b (branch_type σ con P) uses
  pub fit : InRun p (BindersFit (sub_binds σ (scale q con.fields)) uses)
  pub scrutinee : Scrutinee E p Γ S q σ P s R js
  pub counted : (x : Key) → outs (length (sub_binds σ (scale q con.fields))) uses x ≼ join_of js x

-- a use that is among the branches' uses
join_in : (c : Bool) (a b : Mult) → b ≼ cond c b a → b ≼ cond c (join a b) a
join_in true a b h = ≼-join-right a b
join_in false a b h = h

some_branch : {S : FamSig} {q : Mult} {σ : ℕ → Term} {P : Term} {cs : List ConSig} {ns : List ℕ} {ts : Terms}
    {js : List Judged} {R : Term} {c n : ℕ} {b s : Term} →
    Branches S q σ P cs ns ts js R → BranchAt c ns ts n b s → has_branch js ≡ true
some_branch (Branches.each e h) b = refl
some_branch (Branches.scrutinee is e) b = elim b [ ]

find_branch : {E : Env} {p : Part} {Γ : Ctx} {S : FamSig} {q : Mult} {σ : ℕ → Term} {P : Term} {cs : List ConSig}
    {ns : List ℕ} {ts : Terms} {js : List Judged} {R s b : Term} {c n : ℕ} →
    Branches S q σ P cs ns ts js R → BranchAt c ns ts n b s → HasAll E p Γ ns ts js →
    Picked E p Γ S q σ P cs c n b s R js
find_branch (Branches.scrutinee is e) b h = elim b [ ]
find_branch {σ = σ} {P = P} (Branches.each {c = k} {js = js} {w = w} e b) (BranchAt.here l) (HasAll.more d h f hs) =
    let r = find_last b l hs in
    record {
      con = k;
      is_con = IsCon.here;
      sized = e;
      uses = w;
      has = h;
      fit = f;
      scrutinee = record {
        indices = r.indices;
        uses = r.uses;
        has = r.has;
        sized = r.sized;
        result = r.result;
        counted = r.counted;
      };
      counted = λ x. left (has_branch js) (outs (length (sub_binds σ (scale _ k.fields))) w x) (join_of js x);
    }
  where
    left : (c : Bool) (a b : Mult) → a ≼ cond c (join a b) a
    left true a b = ≼-join-left a b
    left false a b = ≼-refl a
find_branch {σ = σ} {P = P} (Branches.each {c = k} {js = js} {w = w} e b) (BranchAt.later l) (HasAll.more d h f hs) =
    let r = find_branch b l hs in
    record {
      con = r.con;
      is_con = IsCon.there r.is_con;
      sized = r.sized;
      uses = r.uses;
      has = r.has;
      fit = r.fit;
      scrutinee = record {
        indices = r.scrutinee.indices;
        uses = r.scrutinee.uses;
        has = r.scrutinee.has;
        sized = r.scrutinee.sized;
        result = r.scrutinee.result;
        counted = r.scrutinee.counted;
      };
      counted = λ x. ≼-trans _ (join_of js x) _ (r.counted x)
          (right (has_branch js) (outs (length (sub_binds σ (scale _ k.fields))) w x) (join_of js x)
          (some_branch b l));
    }
  where
    right : (c : Bool) (a b : Mult) → c ≡ true → b ≼ cond c (join a b) a
    right c a b e = rw e (≼-join-right a b)

pub record Cased (E : Env) (p : Part) (Γ : Ctx) (S : FamSig) (q : Mult) (Θ : Tele) (σ : ℕ → Term) (ts : Terms)
    (c n : ℕ) (b s R : Term) (js : List Judged) : Type 0 where
  pub params : ℕ → Term
  pub motive : Term
  pub others : Terms
  pub split : Split Θ σ ts params (motive ▸ others)
  pub picked : Picked E p Γ S q params motive S.constructors c n b s R js

find_case : {E : Env} {p : Part} {Γ : Ctx} {S : FamSig} {q : Mult} {Θ : Tele} {σ : ℕ → Term} {k m : ℕ}
    {ns : List ℕ} {ts : Terms} {js : List Judged} {R s b : Term} {c n : ℕ} →
    Cases S q Θ σ k m ns ts js R → Picks c k ns ts n b s → HasAll E p Γ (zeros k (m ∷ ns)) ts js →
    Cased E p Γ S q Θ σ ts c n b s R js
find_case (Cases.param h) (Picks.param k) (HasAll.more d ha f hs) =
    let r = find_case h k hs in
    let k = r.picked in
    record {
      params = r.params;
      motive = r.motive;
      others = r.others;
      split = Split.skip r.split;
      picked =
          record {
            con = k.con;
            is_con = k.is_con;
            sized = k.sized;
            uses = k.uses;
            has = k.has;
            fit = k.fit;
            scrutinee =
                record {
                  indices = k.scrutinee.indices;
                  uses = k.scrutinee.uses;
                  has = k.scrutinee.has;
                  sized = k.scrutinee.sized;
                  result = k.scrutinee.result;
                  counted = k.scrutinee.counted;
                };
            counted = k.counted;
          };
    }
find_case (Cases.motive {σ = σ} {P = P} {ts = ts} h) (Picks.motive k) (HasAll.more d ha f hs) =
    let k = find_branch h k hs in
    record {
      params = σ;
      motive = P;
      others = ts;
      split = Split.done;
      picked =
          record {
            con = k.con;
            is_con = k.is_con;
            sized = k.sized;
            uses = k.uses;
            has = k.has;
            fit = k.fit;
            scrutinee =
                record {
                  indices = k.scrutinee.indices;
                  uses = k.scrutinee.uses;
                  has = k.scrutinee.has;
                  sized = k.scrutinee.sized;
                  result = k.scrutinee.result;
                  counted = k.scrutinee.counted;
                };
            counted = k.counted;
          };
    }

-- ---- what a constructor's derivation says of its fields
pub record Fielded (E : Env) (p : Part) (Γ : Ctx) (Ξ Θ : Tele) (σ : ℕ → Term) (ts fs : Terms) (js : List Judged)
    (S R : Term) : Type 0 where
  pub params : ℕ → Term
  pub split : Split Θ σ ts params fs
  pub asked : List Judged
  pub args : Args Ξ params fs asked
  pub has : HasAll E p Γ [] fs asked
  pub result : sub (push fs params) S ≡ R
  pub counted : (x : Key) → sum_of asked x ≼ sum_of js x

pub find_fields : {E : Env} {p : Part} {Γ : Ctx} {Ξ Θ : Tele} {σ : ℕ → Term} {ts : Terms} {js : List Judged}
    {S R : Term} →
    ParamsThenArgs Ξ Θ σ ts js S R → HasAll E p Γ [] ts js → Fielded E p Γ Ξ Θ σ ts (skip (length Θ) ts) js S R
find_fields (ParamsThenArgs.param h) (HasAll.more d ha f hs) =
    let r = find_fields h hs in
    record {
      params = r.params;
      split = Split.skip r.split;
      asked = r.asked;
      args = r.args;
      has = r.has;
      result = r.result;
      counted = r.counted;
    }
find_fields (ParamsThenArgs.done {σ = σ} {js = js} h) hs =
    record {
      params = σ;
      split = Split.done;
      asked = js;
      args = h;
      has = hs;
      result = refl;
      counted = λ x. ≼-refl (sum_of js x);
    }

pub no_branch : {Θ : Tele} {σ : ℕ → Term} {ts : Terms} {js : List Judged} → Args Θ σ ts js →
    (x : Key) → join_of js x ≡ 𝟘
no_branch Args.none x = refl
no_branch (Args.more h) x = no_branch h x

pub no_branches : {Ξ Θ : Tele} {σ : ℕ → Term} {ts : Terms} {js : List Judged} {S R : Term} →
    ParamsThenArgs Ξ Θ σ ts js S R → (x : Key) → join_of js x ≡ 𝟘
no_branches (ParamsThenArgs.param h) x = no_branches h x
no_branches (ParamsThenArgs.done h) x = no_branch h x

pub is_con-one : {cs : List ConSig} {n : ℕ} {c d : ConSig} → IsCon cs n c → IsCon cs n d → c ≡ d
is_con-one IsCon.here IsCon.here = refl
is_con-one (IsCon.there h) (IsCon.there k) = is_con-one h k

-- ---- the fields in the place of the branch's variables
abbrev pub cons_use : Use → (ℕ → Use) → ℕ → Use
cons_use y M zero = y
cons_use y M (suc i) = M i

abbrev pub push_uses : List Judged → (ℕ → Use) → ℕ → Use
push_uses [] M = M
push_uses (j ∷ js) M = push_uses js (cons_use j.uses M)

under-scaled : {E : Env} {Γ : Ctx} {t A : Term} {u : Use} (p : Part) (q m : Mult) → Usable p q →
    Has E (under p m) Γ t A u → Has E (under p (q ⊙ m)) Γ t A u
under-scaled Part.run 𝟘 m s h = elim s [ ]
under-scaled Part.erased 𝟘 m s h = erase h
under-scaled p 𝟙 m s h = h
under-scaled p ω 𝟘 s h = h
under-scaled p ω 𝟙 s h = h
under-scaled p ω ω s h = h

fill_args : {E : Env} {p : Part} {Γ : Ctx} {Θ : Tele} {τ : ℕ → Term} {fs : Terms} {js : List Judged} →
    (bodies : BodiesClosed E) → Args Θ τ fs js → HasAll E p Γ [] fs js → (q : Mult) → Usable p q →
    (Γ₀ : Ctx) (σ π : ℕ → Term) (M : ℕ → Use) → Fills E bodies p Γ₀ Γ σ M →
    ((i : ℕ) → Conv E (τ i) (sub σ (π i))) →
    Fills E bodies p (ext Γ₀ (sub_binds π (scale q Θ))) Γ (push fs σ) (push_uses js M)
fill_args bodies Args.none HasAll.none q m Γ₀ σ π M g c = g
fill_args {E} {p} {Γ} bodies (Args.more {q = n} {T = T} {σ = τ} {a = a} {u = u} h)
    (HasAll.more d ha f hs) q m Γ₀ σ π M g c =
    fill_args bodies h hs q m ((q ⊙ n, sub π T) ∷ Γ₀) (cons a σ) (lift π) (cons_use u M) fills convs
  where
    fills : Fills E bodies p ((q ⊙ n, sub π T) ∷ Γ₀) Γ (cons a σ) (cons_use u M)
    fills zero s =
        has_as E (sub (cons a σ) (ren suc (sub π T))) u (under-scaled p q n m ha)
        (subst (λ B. Conv E (sub τ T) B) (sym (cons-ren σ a (sub π T) ∙ sub-sub σ π T))
        (conv-fill bodies T τ (λ i. sub σ (π i)) c))
        (always (under p (q ⊙ n)) λ x s. ≼-refl (u x))
    fills (suc i) s =
        subst (λ B. Has E (under p (mult_at Γ₀ i)) Γ (σ i) B (M i)) (sym (cons-ren σ a (type_at Γ₀ i))) (g i s)

    convs : (i : ℕ) → Conv E (cons a τ i) (sub (cons a σ) (lift π i))
    convs zero = Conv.same
    convs (suc i) = subst (λ B. Conv E (τ i) B) (sym (cons-ren σ a (π i))) (c i)

rearranged : (t z d e : Mult) → (t ⊕ (z ⊕ d)) ⊕ e ≡ (t ⊕ d) ⊕ (z ⊕ e)
rearranged t z d e = grind arith

tapes-out : (w : Use) (x : Key) → tapes_of w x ≡ tapes_of (out w) x
tapes-out w (Key.v i) = refl
tapes-out w (Key.h i) = refl

fill_uses : {Θ : Tele} {τ : ℕ → Term} {fs : Terms} {js : List Judged} → Args Θ τ fs js →
    (q : Mult) (Γ₀ : Ctx) (π : ℕ → Term) (M : ℕ → Use) (w : Use) → BindersFit (sub_binds π (scale q Θ)) w → (x : Key) →
    through (ext Γ₀ (sub_binds π (scale q Θ))) (push_uses js M) w x ≼ through Γ₀ M
    (outs (length (sub_binds π (scale q Θ))) w) x ⊕ q ⊙ sum_of js x
fill_uses Args.none q Γ₀ π M w f x = ≼-of (sym (ap (λ n. through Γ₀ M w x ⊕ n) (⊙-zero q) ∙ ⊕-zero (through Γ₀ M w x)))
fill_uses (Args.more {q = m} {T = T} {Θ = Θ} {js = js} {u = y} h) q Γ₀ π M w f x =
    ≼-trans _ (through ((q ⊙ m, sub π T) ∷ Γ₀) (cons_use y M) o x ⊕ q ⊙ sum_of js x) _
    (fill_uses h q ((q ⊙ m, sub π T) ∷ Γ₀) (lift π) (cons_use y M) w f.1 x)
    (≼-trans _ ((tapes_of (out o) x ⊕ ((q ⊙ m) ⊙ y x ⊕ dot Γ₀ (λ i. o (Key.v (suc i))) (λ i. M i x))) ⊕ q ⊙ sum_of
    js x) _
    (⊕-mono _ (tapes_of (out o) x ⊕ ((q ⊙ m) ⊙ y x ⊕ dot Γ₀ (λ i. o (Key.v (suc i))) (λ i. M i x))) _ (q ⊙ sum_of js x)
    (⊕-mono _ (tapes_of (out o) x) _ ((q ⊙ m) ⊙ y x ⊕ dot Γ₀ (λ i. o (Key.v (suc i))) (λ i. M i x))
    (≼-of (tapes-out o x))
    (⊕-mono (o (Key.v 0) ⊙ y x) ((q ⊙ m) ⊙ y x) _ _ (⊙-mono (o (Key.v 0)) (q ⊙ m) (y x) f.0)
    (≼-refl (dot Γ₀ (λ i. o (Key.v (suc i))) (λ i. M i x)))))
    (≼-refl (q ⊙ sum_of js x)))
    (≼-of (rearranged (tapes_of (out o) x) ((q ⊙ m) ⊙ y x) _ _
    ∙ ap (λ n. through Γ₀ M (out o) x ⊕ n)
    (ap (λ n. n ⊕ q ⊙ sum_of js x) (⊙-assoc q m (y x)) ∙ sym (⊙-⊕ q (m ⊙ y x) (sum_of js x))))))
  where
    o : Use
    o = outs (length (sub_binds (lift π) (scale q Θ))) w

-- ---- the branch's type
pub args-size : {Θ : Tele} {σ : ℕ → Term} {ts : Terms} {js : List Judged} → Args Θ σ ts js → size ts ≡ length Θ
args-size Args.none = refl
args-size (Args.more h) = ap suc (args-size h)

branch_type-fill : (fs : Terms) (π : ℕ → Term) (c : ConSig) (P : Term) → size fs ≡ length c.fields →
    sub (push fs var) (branch_type π c P) ≡ sub (push (subs [] (push fs π) c.targets) var) P
branch_type-fill fs π c P e =
    ap (λ n. sub (push fs var) (sub (push (subs [] (lifts n π) c.targets) (λ i. var (shift n i))) P)) (sym e)
    ∙ sub-sub (push fs var) (push (subs [] (lifts (size fs) π) c.targets) (λ i. var (shift (size fs) i))) P
    ∙ ap (λ f. sub f P) (push-then_sub (subs [] (lifts (size fs) π) c.targets) (push fs var)
    (λ i. var (shift (size fs) i)))
    ∙ ap₂ (λ A f. sub (push A f) P)
    (subs-after c.targets [] (push fs var) (lifts (size fs) π) ∙ ap (λ f. subs [] f c.targets)
    (push-lifts fs var π ∙ ap (push fs) (fun_ext λ i. sub-id (π i))))
    (fun_ext λ i. push-shift fs var i)

iota_total : (w n q y g s j u : Mult) → w ≼ n ⊕ q ⊙ g → n ≼ j → g ≼ y → q ⊙ y ≼ s → s ⊕ j ≼ u → w ≼ u
iota_total w n q y g s j u a b c d e =
    ≼-trans w (n ⊕ q ⊙ g) u a
    (≼-trans _ (j ⊕ s) u (⊕-mono n j _ _ b (≼-trans (q ⊙ g) (q ⊙ y) s (⊙-mono-right q g y c) d))
    (≼-trans (j ⊕ s) (s ⊕ j) u (≼-of (⊕-comm j s)) e))

identity_fills : (E : Env) (bodies : BodiesClosed E) (p : Part) (Γ : Ctx) →
    Fills E bodies p Γ Γ var (λ i. unit (Key.v i))
identity_fills E bodies p Γ i s =
    subst (λ B. Has E (under p (mult_at Γ i)) Γ (var i) B (unit (Key.v i))) (sym (sub-id (type_at Γ i)))
    (has_var E bodies (under p (mult_at Γ i)) Γ i s (usable-under p (mult_at Γ i)))

iota_of : {E : Env} {p : Part} {Γ : Ctx} {q : Mult} {f : GlobalId} {c n : ℕ} {ts xs fs : Terms} {b C : Term}
    {u : Use} {js ks : List Judged} {R Q : Term} →
    BodiesClosed E → FamilyInjective E → Usable p q →
    (r : Cased E p Γ (fam_at E f) q (fam_at E f).params closed ts c n b
    (node (Form.con f c (length (fam_at E f).params)) xs) R js) →
    Fielded E p Γ r.picked.con.fields (fam_at E f).params closed xs fs ks r.picked.con.result Q →
    Conv E Q (sub (push r.picked.scrutinee.indices r.params) (fam_at E f).self) → ((x : Key) → join_of ks x ≡ 𝟘) →
    InRun p (AtMost Γ (total zero_use ks) r.picked.scrutinee.uses) → Conv E R C →
    InRun p (AtMost Γ (total zero_use js) u) →
    Has E p Γ (sub (push fs var) b) C u
iota_of {E} {p} {Γ} {q} {f} {c} {n} {ts} {xs} {fs} {b} {C} {u} {js} {ks} {R} {Q} bodies inj m r l cq nb fq cv fu =
    has_as E C u
    (substitution E bodies g.has Γ (push fs var) (push_uses l.asked (λ i. unit (Key.v i)))
    (fill_args bodies l.args l.has q m Γ var π (λ i. unit (Key.v i)) (identity_fills E bodies p Γ)
    (λ i. subst (λ B. Conv E (l.params i) B) (sym (sub-id (π i))) (same.0 i))))
    (subst (λ B. Conv E B C) (sym (branch_type-fill fs π g.con P (args-size l.args)))
    (Conv.thence (conv-fill bodies P _ _
    (push-conv (convs-fill bodies g.con.targets [] (push fs π) (push fs l.params)
    (push-conv (convs-same fs) π l.params (λ i. Conv.back (same.0 i)))) var var (λ i. Conv.same)))
    (Conv.thence (conv-fill bodies P _ _ same.1) (subst (λ B. Conv E B C) (sym g.scrutinee.result) cv))))
    (in_run₃ p (λ a fit d x s.
    iota_total _ _ q (g.scrutinee.uses x) (sum_of l.asked x) (sum_of js x) (join_of js x) (u x)
    (≼-trans _ (through Γ (λ i. unit (Key.v i)) o x ⊕ q ⊙ sum_of l.asked x) _
    (fill_uses l.args q Γ π (λ i. unit (Key.v i)) g.uses fit x)
    (⊕-mono _ (o x) (q ⊙ sum_of l.asked x) _ (through-same Γ o x s) (≼-refl (q ⊙ sum_of l.asked x))))
    (g.counted x)
    (≼-trans (sum_of l.asked x) (sum_of ks x) _ (l.counted x)
    (subst (λ z. z ≼ g.scrutinee.uses x) (ap (λ z. sum_of ks x ⊕ z) (nb x) ∙ ⊕-zero (sum_of ks x)) (a x s)))
    (g.scrutinee.counted x) (d x s)) fq g.fit fu)
  where
    g : Picked E p Γ (fam_at E f) q r.params r.motive (fam_at E f).constructors c n b
        (node (Form.con f c (length (fam_at E f).params)) xs) R js
    g = r.picked

    π : ℕ → Term
    π = r.params

    P : Term
    P = r.motive

    o : Use
    o = outs (length (sub_binds π (scale q g.con.fields))) g.uses

    same : ((i : ℕ) → Conv E (l.params i) (π i)) ×
        ((i : ℕ) → Conv E (push (subs [] (push fs l.params) g.con.targets) var i)
        (push (g.scrutinee.indices +++ (node (Form.con f c (length (fam_at E f).params)) xs ▸ ε)) var i))
    same = inj f c g.con g.is_con xs fs l.params l.split ts (P ▸ r.others) π r.split
        (args-size l.args) g.scrutinee.indices g.scrutinee.sized
        (subst (λ B. Conv E B (sub (push g.scrutinee.indices π) (fam_at E f).self)) (sym l.result) cq)

iota_con : {E : Env} {p : Part} {Γ : Ctx} {q : Mult} {f : GlobalId} {c l n : ℕ} {ts xs : Terms} {b C T : Term}
    {u : Use} {js : List Judged} {R : Term} →
    BodiesClosed E → FamilyInjective E → Usable p q →
    (r : Cased E p Γ (fam_at E f) q (fam_at E f).params closed ts c n b (node (Form.con f c l) xs) R js) →
    Conv E R C → InRun p (AtMost Γ (total zero_use js) u) →
    T ≡ sub (push r.picked.scrutinee.indices r.params) (fam_at E f).self →
    Has E p Γ (node (Form.con f c l) xs) T r.picked.scrutinee.uses →
    Has E p Γ (sub (push (skip l xs) var) b) C u
iota_con {E} {p} {Γ} {f = f} {xs = xs} bodies inj m r cv fu e
    (Has.at_node {js = ks} {R = Q} (Rule.con {c = d} i h) hs cq fq) =
    iota_of bodies inj m r
    (subst (λ d. Fielded E p Γ d.fields (fam_at E f).params closed xs (skip (length (fam_at E f).params) xs) ks
    d.result Q) (is_con-one i r.picked.is_con) (find_fields h hs))
    (subst (λ B. Conv E Q B) e cq) (no_branches h) fq cv fu

pub has_iota : {E : Env} {p : Part} {Γ : Ctx} {q : Mult} {f : GlobalId} {c k l m n : ℕ} {ns : List ℕ}
    {ts xs : Terms} {b C : Term} {u : Use} →
    BodiesClosed E → FamilyInjective E → Picks c k ns ts n b (node (Form.con f c l) xs) →
    Has E p Γ (node (Form.case q f k m ns) ts) C u → Has E p Γ (sub (push (skip l xs) var) b) C u
has_iota {p = p} {q = q} bodies inj k (Has.at_node (Rule.case there m h) hs cv fu) =
    let r = find_case h k hs in
    iota_con bodies inj m r cv fu refl (raise p q m r.picked.scrutinee.has)
