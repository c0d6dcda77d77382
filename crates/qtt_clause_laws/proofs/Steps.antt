-- Full steps along a tree that was assembled to a term.
use Rattle.std.proofs.Common.{◌≡◌, ℕ, zero, suc, List, [], ◌∷◌, length, refl, sym, ◌∙◌, ap, subst, Some}
use mathlib.Core.Path.{fun_ext}
use Rattle.qtt_base.specs.declared.place.GlobalId.{GlobalId}
use Rattle.qtt_usage.specs.declared.mult.Mult.{Mult}
use Rattle.qtt_usage.specs.Mult.{𝟘, 𝟙, ω}
use Rattle.qtt_term.specs.Term.{Form, zeros, Term, Terms, var, node, ε, ◌▸◌, size, skip, ◌+++◌, Lam, App, Delete, Named, Def}
use Rattle.qtt_term.specs.Substitution.{ren, sub, subs, lift, lifts, cons, push, inst}
use Rattle.qtt_term.specs.Signature.{Tele, Env, definition_at, eq_id}
use Rattle.qtt_term.specs.Contraction.{contract}
use Rattle.qtt_term.specs.Value.{kept}
use Rattle.qtt_term.specs.Judgement.{Ctx, type_at}
use Rattle.qtt_term.specs.FullStep.{Outcome, Outcomes, full_step, full_steps}
use Rattle.qtt_term.proofs.Subst.{sub-sub, sub-var, push-lifts}
use Rattle.qtt_term.proofs.Evaluation.{value-kept}
use Rattle.qtt_confluence.proofs.Root.{ScrutineeAt, BranchAt, Picks, Root, contracts}
use Rattle.qtt_split.specs.Tree.{Splitting, Deleting, Tree, Branches, leaves, lams, apps, field_counts, glue, glued}
use Rattle.qtt_split.specs.Branch.{put, again}
use Rattle.qtt_split.specs.Laws.{Deep, AllDeep, Reaches, applied_to, with_reverted}

pub deep-value : {E : Env} {t : Term} → Deep E t → full_step E t ≡ Outcome.value
deep-value (Deep.whole v h) = value-kept v
deep-value (Deep.plain v h) = value-kept v

pub reaches-join : {E : Env} {t s r : Term} → Reaches E t s → Reaches E s r → Reaches E t r
reaches-join Reaches.there k = k
reaches-join (Reaches.by_step e h) k = Reaches.by_step e (reaches-join h k)

-- ---- a function and its arguments
app-step : (E : Env) (q : Mult) (f g a : Term) → full_step E f ≡ Outcome.step g →
    full_step E (App q f a) ≡ Outcome.step (App q g a)
app-step E q f g a e = rw e refl

app-reaches : {E : Env} {q : Mult} {f g a : Term} → Reaches E f g → Reaches E (App q f a) (App q g a)
app-reaches Reaches.there = Reaches.there
app-reaches {E} {q} {a = a} (Reaches.by_step {t = t} {s = s} e h) =
    Reaches.by_step (app-step E q t s a e) (app-reaches h)

beta-step : (E : Env) (q : Mult) (A b a : Term) → full_step E a ≡ Outcome.value →
    full_step E (App q (Lam q A b) a) ≡ Outcome.step (inst b a)
beta-step E 𝟘 A b a e = let e' : contract E (Form.app 𝟘) (Lam 𝟘 A b ▸ a ▸ ε) ≡ Some (inst b a) =
    contracts Root.by_beta in rw e' refl
beta-step E 𝟙 A b a e = let e' : contract E (Form.app 𝟙) (Lam 𝟙 A b ▸ a ▸ ε) ≡ Some (inst b a) =
    contracts Root.by_beta in rw (e, e') refl
beta-step E ω A b a e = let e' : contract E (Form.app ω) (Lam ω A b ▸ a ▸ ε) ≡ Some (inst b a) =
    contracts Root.by_beta in rw (e, e') refl

fill-push : (fs : Terms) (σ : ℕ → Term) (n : ℕ) (b : Term) → size fs ≡ n →
    sub (push fs var) (sub (lifts n σ) b) ≡ sub (push fs σ) b
fill-push fs σ n b e =
    ap (λ n. sub (push fs var) (sub (lifts n σ) b)) (sym e) ∙ sub-sub (push fs var) (lifts (size fs) σ) b
    ∙ ap (λ ρ. sub ρ b) (push-lifts fs var σ ∙ ap (push fs) (fun_ext λ i. sub-var (σ i)))

inst-lift : (π : ℕ → Term) (b a : Term) → inst (sub (lift π) b) a ≡ sub (cons a π) b
inst-lift π b a = fill-push (a ▸ ε) π 1 b refl

-- applied to what σ gives for these variables
abbrev pub given : Term → List (Mult × ℕ) → (ℕ → Term) → Term
given t [] σ = t
given t (b ∷ rs) σ = given (App b.0 t (σ b.1)) rs σ

abbrev pub AllValues : Env → (ℕ → Term) → List (Mult × ℕ) → Type 0
AllValues E σ [] = Unit {0}
AllValues E σ (b ∷ rs) = (full_step E (σ b.1) ≡ Outcome.value) × AllValues E σ rs

given-reaches : {E : Env} {f g : Term} (rs : List (Mult × ℕ)) (σ : ℕ → Term) → Reaches E f g →
    Reaches E (given f rs σ) (given g rs σ)
given-reaches [] σ h = h
given-reaches (b ∷ rs) σ h = given-reaches rs σ (app-reaches h)

sub-apps : (σ : ℕ → Term) (t : Term) (rs : List (Mult × ℕ)) → sub σ (apps t rs) ≡ given (sub σ t) rs σ
sub-apps σ t [] = refl
sub-apps σ t (b ∷ rs) = sub-apps σ (App b.0 t (var b.1)) rs

-- the new binders of the reverted variables get their values
again-reaches : {E : Env} (Γ : Ctx) (rs : List (Mult × ℕ)) (δ : ℕ → Term) (b : Term) (σ π : ℕ → Term) →
    AllValues E σ rs →
    Reaches E (given (sub π (lams (again Γ rs δ) b)) rs σ) (sub (with_reverted σ rs π) b)
again-reaches Γ [] δ b σ π v = Reaches.there
again-reaches {E} Γ (r ∷ rs) δ b σ π v =
    reaches-join (given-reaches rs σ (Reaches.by_step (beta-step E r.0 (sub π (sub δ (type_at Γ r.1)))
    (sub (lift π) (lams (again Γ rs δ') b)) (σ r.1) v.0) Reaches.there))
    (subst (λ t. Reaches E (given t rs σ) (sub (with_reverted σ rs (cons (σ r.1) π)) b))
    (sym (inst-lift π (lams (again Γ rs δ') b) (σ r.1)))
    (again-reaches Γ rs δ' b σ (cons (σ r.1) π) v.1))
  where
    δ' : ℕ → Term
    δ' = put r.1 (var 0) (λ i. ren suc (δ i))

pub applied-reaches : {E : Env} {f g : Term} (Θ : Tele) (vs : Terms) → Reaches E f g →
    Reaches E (applied_to f Θ vs) (applied_to g Θ vs)
applied-reaches (b ∷ Θ) (v ▸ vs) h = applied-reaches Θ vs (app-reaches h)
applied-reaches [] vs h = h
applied-reaches (b ∷ Θ) ε h = h

pub body-reaches : {E : Env} (Θ : Tele) (b : Term) (π : ℕ → Term) (vs : Terms) → size vs ≡ length Θ → AllDeep E vs →
    Reaches E (applied_to (sub π (lams Θ b)) Θ vs) (sub (push vs π) b)
body-reaches [] b π ε z d = Reaches.there
body-reaches [] b π (v ▸ vs) z d = absurd (cc z)
body-reaches (c ∷ Θ) b π ε z d = absurd (cc z)
body-reaches {E} (c ∷ Θ) b π (v ▸ vs) z (AllDeep.more d ds) =
    reaches-join (applied-reaches Θ vs (Reaches.by_step
    (beta-step E c.0 (sub π c.1) (sub (lift π) (lams Θ b)) v (deep-value d)) Reaches.there))
    (subst (λ t. Reaches E (applied_to t Θ vs) (sub (push vs (cons v π)) b)) (sym (inst-lift π (lams Θ b) v))
    (body-reaches Θ b (cons v π) vs (cc z) ds))

-- ---- a definition
pub definition-step : (E : Env) (d : GlobalId) (b : Term) → (definition_at E d).body ≡ Some b →
    full_step E (Def d) ≡ Outcome.step b
definition-step E d b h =
    let e : contract E (Form.named (Named.def d)) ε ≡ Some b = contracts (Root.by_delta h) in rw e refl

-- ---- a Case
scrutinee-values : (E : Env) {ns : List ℕ} {ts : Terms} {s : Term} → ScrutineeAt ns ts s →
    full_step E s ≡ Outcome.value →
    full_steps E (kept (length ns) (𝟙 ∷ [])) ts ≡ Outcomes.values
scrutinee-values E ScrutineeAt.end e = rw e refl
scrutinee-values E (ScrutineeAt.later h) e = rw (scrutinee-values E h e) refl

branch-values : (E : Env) {c n : ℕ} {ns : List ℕ} {ts : Terms} {b s : Term} → BranchAt c ns ts n b s →
    full_step E s ≡ Outcome.value →
    full_steps E (kept (length ns) (𝟙 ∷ [])) ts ≡ Outcomes.values
branch-values E (BranchAt.here h) e = rw (scrutinee-values E h e) refl
branch-values E (BranchAt.later h) e = rw (branch-values E h e) refl

pick-values : (E : Env) {c k n : ℕ} {ns : List ℕ} {ts : Terms} {b s : Term} → Picks c k ns ts n b s →
    full_step E s ≡ Outcome.value →
    full_steps E (kept k (𝟘 ∷ kept (length ns) (𝟙 ∷ []))) ts ≡ Outcomes.values
pick-values E (Picks.motive h) e = rw (branch-values E h e) refl
pick-values E (Picks.param h) e = rw (pick-values E h e) refl

case-step : (E : Env) (q : Mult) (m : ℕ) {f : GlobalId} {c l k n : ℕ} {ns : List ℕ} {ts xs : Terms} {b : Term} →
    Picks c k ns ts n b (node (Form.con f c l) xs) → size (skip l xs) ≡ n →
    full_step E (node (Form.con f c l) xs) ≡ Outcome.value →
    full_step E (node (Form.case q f k m ns) ts) ≡ Outcome.step (sub (push (skip l xs) var) b)
case-step E q m {f} {c} {l} {k} {n} {ns} {ts} {xs} {b} h z e =
    let e' : contract E (Form.case q f k m ns) ts ≡ Some (sub (push (skip l xs) var) b) =
    contracts (Root.by_iota h z) in rw (pick-values E h e, e') refl

-- branch c of these, with the right sides from which its leaves take theirs
pub data GluedAt : ℕ → Branches → Terms → ℕ → Tele → Tree → Terms → Type 0 where
  here : {n : ℕ} {Θ : Tele} {T : Tree} {bs : Branches} {sides : Terms} →
      GluedAt zero (Branches.branch_and n Θ T bs) sides n Θ T sides
  behind : {c n m : ℕ} {Θ Ξ : Tele} {T U : Tree} {bs : Branches} {sides ss : Terms} →
      GluedAt c bs (skip (length (leaves U)) sides) n Θ T ss →
      GluedAt (suc c) (Branches.branch_and m Ξ U bs) sides n Θ T ss

glued-scrutinee : (bs : Branches) (sides : Terms) (σ : ℕ → Term) (x : ℕ) →
    ScrutineeAt (field_counts bs) (subs (field_counts bs) σ (glued bs sides (var x ▸ ε))) (σ x)
glued-scrutinee Branches.no_branch sides σ x = ScrutineeAt.end
glued-scrutinee (Branches.branch_and n Θ T bs) sides σ x =
    ScrutineeAt.later (glued-scrutinee bs (skip (length (leaves T)) sides) σ x)

glued-branch : {c n : ℕ} {bs : Branches} {Θ : Tele} {T : Tree} {sides ss : Terms} (σ : ℕ → Term) (x : ℕ) →
    GluedAt c bs sides n Θ T ss →
    BranchAt c (field_counts bs) (subs (field_counts bs) σ (glued bs sides (var x ▸ ε))) n
    (sub (lifts n σ) (lams Θ (glue T ss))) (σ x)
glued-branch σ x (GluedAt.here {T = T} {bs = bs} {sides = sides}) =
    BranchAt.here (glued-scrutinee bs (skip (length (leaves T)) sides) σ x)
glued-branch σ x (GluedAt.behind h) = BranchAt.later (glued-branch σ x h)

picks-params : {c n : ℕ} {ns : List ℕ} {b s : Term} (m : ℕ) (P : Term) (ts : Terms) (σ : ℕ → Term) (ps : Terms) →
    BranchAt c ns (subs ns σ ts) n b s →
    Picks c (size ps) ns (subs (zeros (size ps) (m ∷ ns)) σ (ps +++ (P ▸ ts))) n b s
picks-params m P ts σ ε h = Picks.motive h
picks-params m P ts σ (p ▸ ps) h = Picks.param (picks-params m P ts σ ps h)

pub split-reaches : {E : Env} (w : Splitting) {c k n : ℕ} {xs : Terms} {bs : Branches} {T : Tree} {sides ss : Terms}
    (Γ : Ctx) (δ σ : ℕ → Term) →
    σ w.variable ≡ node (Form.con w.family c k) xs → full_step E (σ w.variable) ≡ Outcome.value →
    size (skip k xs) ≡ n →
    GluedAt c bs sides n (again Γ w.reverted δ) T ss → AllValues E σ w.reverted →
    Reaches E (sub σ (glue (Tree.split w bs) sides)) (sub (with_reverted σ w.reverted (push (skip k xs) σ))
    (glue T ss))
split-reaches {E} w {c} {k} {n} {xs} {bs} {T} {sides} {ss} Γ δ σ e v z b a =
    subst (λ t. Reaches E t (sub (with_reverted σ w.reverted (push (skip k xs) σ)) (glue T ss)))
    (sym (sub-apps σ (node (Form.case w.mult w.family (size w.params) (suc w.indices) (field_counts bs)) ts)
    w.reverted))
    (reaches-join (given-reaches w.reverted σ (Reaches.by_step step Reaches.there))
    (again-reaches Γ w.reverted δ (glue T ss) σ (push (skip k xs) σ) a))
  where
    ts : Terms
    ts = w.params +++ (w.motive ▸ glued bs sides (var w.variable ▸ ε))

    body : Term
    body = lams (again Γ w.reverted δ) (glue T ss)

    picked : Picks c (size w.params) (field_counts bs) (subs (zeros (size w.params) (suc w.indices ∷ field_counts bs))
        σ ts) n (sub (lifts n σ) body) (node (Form.con w.family c k) xs)
    picked = picks-params (suc w.indices) w.motive (glued bs sides (var w.variable ▸ ε)) σ w.params
        (subst (BranchAt c (field_counts bs) (subs (field_counts bs) σ (glued bs sides (var w.variable ▸ ε))) n
        (sub (lifts n σ) body)) e (glued-branch σ w.variable b))

    step : full_step E (node (Form.case w.mult w.family (size w.params) (suc w.indices) (field_counts bs))
        (subs (zeros (size w.params) (suc w.indices ∷ field_counts bs)) σ ts)) ≡
        Outcome.step (sub (push (skip k xs) σ) body)
    step = case-step E w.mult (suc w.indices) picked z (subst (λ t. full_step E t ≡ Outcome.value) e v)
        ∙ ap Outcome.step (fill-push (skip k xs) σ n body z)

-- ---- a Delete
delete-step : (E : Env) (q : Mult) (A s P b : Term) (l : ℕ) (xs : Terms) →
    full_step E (node (Form.con eq_id 0 l) xs) ≡ Outcome.value →
    full_step E (Delete q A s P b (node (Form.con eq_id 0 l) xs)) ≡ Outcome.step b
delete-step E q A s P b l xs e =
    let e' : contract E (Form.delete q) (A ▸ s ▸ P ▸ b ▸ node (Form.con eq_id 0 l) xs ▸ ε) ≡ Some b =
    contracts Root.by_deletion in rw (e, e') refl

pub delete-reaches : {E : Env} (w : Deleting) {l : ℕ} {xs : Terms} (T : Tree) (sides : Terms) (Γ : Ctx)
    (δ σ : ℕ → Term) →
    σ w.variable ≡ node (Form.con eq_id 0 l) xs → full_step E (σ w.variable) ≡ Outcome.value →
    AllValues E σ w.reverted →
    Reaches E (sub σ (glue (Tree.delete w (again Γ w.reverted δ) T) sides))
    (sub (with_reverted σ w.reverted σ) (glue T sides))
delete-reaches {E} w {l} {xs} T sides Γ δ σ e v a =
    subst (λ t. Reaches E t (sub (with_reverted σ w.reverted σ) (glue T sides)))
    (sym (sub-apps σ (Delete w.mult w.type w.point w.motive (lams (again Γ w.reverted δ) (glue T sides))
    (var w.variable)) w.reverted))
    (reaches-join (given-reaches w.reverted σ (Reaches.by_step step Reaches.there))
    (again-reaches Γ w.reverted δ (glue T sides) σ σ a))
  where
    body : Term
    body = sub σ (lams (again Γ w.reverted δ) (glue T sides))

    step : full_step E (Delete w.mult (sub σ w.type) (sub σ w.point) (sub (lift σ) w.motive) body (σ w.variable)) ≡
        Outcome.step body
    step = subst (λ t. full_step E (Delete w.mult (sub σ w.type) (sub σ w.point) (sub (lift σ) w.motive) body t) ≡
        Outcome.step body) (sym e)
        (delete-step E w.mult (sub σ w.type) (sub σ w.point) (sub (lift σ) w.motive) body l xs
        (subst (λ t. full_step E t ≡ Outcome.value) e v))
