-- The core judgement: a term has a type in a context with exactly this use, in the run part or in the erased part
-- (Atkey 2018, with use vectors; the join of branches and the rules of Case and Delete are this language's own).
use Rattle.std.specs.Prelude.{◌≡◌, ℕ, zero, suc, max, Bool, true, false, cond, List, [], ◌∷◌, length}
use Rattle.qtt_base.specs.declared.place.GlobalId.{GlobalId}
use Rattle.qtt_usage.specs.declared.mult.Mult.{Mult}
use Rattle.qtt_usage.specs.Mult.{𝟘, 𝟙, ω, ◌⊕◌, ◌⊙◌, join, ◌≼◌}
use Rattle.qtt_usage.specs.Uses.{Key, Use, zero_use, unit, outs}
use Rattle.qtt_term.specs.Term.{Named, Form, binders, first, rest, Term, Terms, var, node, ε, ◌▸◌, size, ◌+++◌, Sort, Pi}
use Rattle.qtt_term.specs.Substitution.{ren, sub, subs, lift, lifts, cons, push, inst, shift, closed}
use Rattle.qtt_term.specs.Signature.{Tele, ConSig, FamSig, Env, There, NamedThere, signature, fam_at, EqTy, Refl, HandleTy}
use Rattle.qtt_term.specs.Contraction.{Conv}

-- ---- contexts, the newest variable first
abbrev pub Ctx : Type 0
Ctx = List (Mult × Term)

abbrev pub InScope : Ctx → ℕ → Type 0
InScope [] i = ⊥
InScope (b ∷ Γ) zero = Unit {0}
InScope (b ∷ Γ) (suc i) = InScope Γ i

abbrev pub mult_at : Ctx → ℕ → Mult
mult_at [] i = 𝟘
mult_at (b ∷ Γ) zero = b.0
mult_at (b ∷ Γ) (suc i) = mult_at Γ i

abbrev pub type_at : Ctx → ℕ → Term
type_at [] i = var i
type_at (b ∷ Γ) zero = ren suc b.1
type_at (b ∷ Γ) (suc i) = ren suc (type_at Γ i)

-- a context with further binders, the outermost first
abbrev pub ext : Ctx → Tele → Ctx
ext Γ [] = Γ
ext Γ (b ∷ Θ) = ext (b ∷ Γ) Θ

abbrev pub sub_binds : (ℕ → Term) → Tele → Tele
sub_binds σ [] = []
sub_binds σ (b ∷ Θ) = (b.0, sub σ b.1) ∷ sub_binds (lift σ) Θ

-- binders at q times their multiplicities
abbrev pub scale : Mult → Tele → Tele
scale q [] = []
scale q (b ∷ Θ) = (q ⊙ b.0, b.1) ∷ scale q Θ

abbrev pub erase_binds : Tele → Tele
erase_binds = scale 𝟘

-- entry n of a list of constructors
pub data IsCon : List ConSig → ℕ → ConSig → Type 0 where
  here : {c : ConSig} {cs : List ConSig} → IsCon (c ∷ cs) zero c
  there : {c d : ConSig} {cs : List ConSig} {n : ℕ} → IsCon cs n c → IsCon (d ∷ cs) (suc n) c

-- ---- parts and uses
pub data Part : Type 0 where
  run erased : Part

-- what stands under multiplicity q: erased where q is 0 or the whole is erased
abbrev pub under : Part → Mult → Part
under p 𝟘 = Part.erased
under p 𝟙 = p
under p ω = p

-- in the erased part nothing is asked
abbrev pub InRun : Part → Type 0 → Type 0
InRun Part.run P = P
InRun Part.erased P = Unit {0}

-- in the run part what is declared 0 may not be used
abbrev pub Usable : Part → Mult → Type 0
Usable Part.run 𝟘 = ⊥
Usable _ _ = Unit {0}

abbrev pub KeyIn : Ctx → Key → Type 0
KeyIn Γ (Key.v i) = InScope Γ i
KeyIn Γ (Key.h i) = Unit {0}

-- the order on the uses of a context: entry by entry, at its variables and at every tape
abbrev pub AtMost : Ctx → Use → Use → Type 0
AtMost Γ u w = (x : Key) → KeyIn Γ x → u x ≼ w x

-- u is this use in the run part, and zero in the erased part
abbrev pub UseIs : Part → Ctx → Use → Use → Type 0
UseIs Part.run Γ w u = (x : Key) → KeyIn Γ x → u x ≡ w x
UseIs Part.erased Γ w u = (x : Key) → KeyIn Γ x → u x ≡ 𝟘

-- ---- what a rule asks of a component: binders, a type, a multiplicity, whether it is one of several branches,
-- and its use
pub record Judged : Type 0 where
  pub binds : Tele
  pub type : Term
  pub mult : Mult
  pub branch : Bool
  pub uses : Use

abbrev pub judged : Tele → Term → Mult → Use → Judged
judged Θ A q u = record { binds = Θ; type = A; mult = q; branch = false; uses = u }

abbrev pub branch : Tele → Term → Use → Judged
branch Θ A u = record { binds = Θ; type = A; mult = 𝟙; branch = true; uses = u }

-- the uses of the binders fit their multiplicities
abbrev pub BindersFit : Tele → Use → Type 0
BindersFit [] u = Unit {0}
BindersFit (b ∷ Θ) u = (outs (length Θ) u (Key.v 0) ≼ b.0) × BindersFit Θ u

abbrev pub share : Judged → Use
share j x = j.mult ⊙ outs (length j.binds) j.uses x

-- the uses of the components that are no branches
abbrev pub sum_of : List Judged → Use
sum_of [] x = 𝟘
sum_of (j ∷ js) x = cond j.branch (sum_of js x) (share j x ⊕ sum_of js x)

abbrev pub has_branch : List Judged → Bool
has_branch [] = false
has_branch (j ∷ js) = cond j.branch true (has_branch js)

-- the join of the branches' uses, zero over none
abbrev pub join_of : List Judged → Use
join_of [] x = 𝟘
join_of (j ∷ js) x = cond j.branch (cond (has_branch js) (join (share j x) (join_of js x)) (share j x)) (join_of js x)

-- the use of a form: its own, the sum of its components', and the join of its branches'
abbrev pub total : Use → List Judged → Use
total own js x = own x ⊕ (sum_of js x ⊕ join_of js x)

-- ---- arguments of a telescope, σ being what stands for the variables before it
pub data Args : Tele → (ℕ → Term) → Terms → List Judged → Type 0 where
  none : {σ : ℕ → Term} → Args [] σ ε []
  more : {q : Mult} {T : Term} {Θ : Tele} {σ : ℕ → Term} {a : Term} {ts : Terms} {js : List Judged} {u : Use} →
      Args Θ (cons a σ) ts js → Args ((q, T) ∷ Θ) σ (a ▸ ts) (judged [] (sub σ T) q u ∷ js)

-- the same after erased parameters; the last index is S with all of them in their places
pub data ParamsThenArgs (Ξ : Tele) : Tele → (ℕ → Term) → Terms → List Judged → Term → Term → Type 0 where
  param : {q : Mult} {T : Term} {Θ : Tele} {σ : ℕ → Term} {a : Term} {ts : Terms} {js : List Judged} {u : Use}
      {S R : Term} →
      ParamsThenArgs Ξ Θ (cons a σ) ts js S R →
      ParamsThenArgs Ξ ((q, T) ∷ Θ) σ (a ▸ ts) (judged [] (sub σ T) 𝟘 u ∷ js) S R
  done : {σ : ℕ → Term} {ts : Terms} {js : List Judged} {S : Term} → Args Ξ σ ts js →
      ParamsThenArgs Ξ [] σ ts js S (sub (push ts σ) S)

-- the type of a branch: the motive at the constructor's result indices and its Con
abbrev pub branch_type : (ℕ → Term) → ConSig → Term → Term
branch_type σ c P = sub (push (subs [] (lifts (length c.fields) σ) c.targets) (λ i. var (shift (length c.fields) i))) P

-- one branch for each constructor, under its fields at q times their multiplicities; then the scrutinee, of the
-- family at the parameters and some indices; the last index is the motive at these indices and the scrutinee
pub data Branches (S : FamSig) (q : Mult) (σ : ℕ → Term) (P : Term) : List ConSig → List ℕ → Terms → List Judged →
    Term → Type 0 where
  each : {c : ConSig} {cs : List ConSig} {n : ℕ} {ns : List ℕ} {b : Term} {ts : Terms} {js : List Judged}
      {w : Use} {R : Term} →
      size c.targets ≡ length S.motive → Branches S q σ P cs ns ts js R →
      Branches S q σ P (c ∷ cs) (n ∷ ns) (b ▸ ts) (branch (sub_binds σ (scale q c.fields)) (branch_type σ c P) w ∷ js) R
  scrutinee : {s : Term} (is : Terms) {w : Use} → size (is +++ (s ▸ ε)) ≡ length S.motive →
      Branches S q σ P [] [] (s ▸ ε) (judged [] (sub (push is σ) S.self) q w ∷ []) (sub (push (is +++ (s ▸ ε)) var) P)

-- erased parameters, the erased motive, which has a Sort as type, branches and the scrutinee; with how many
-- parameters there are, and the binders of motive and branches
pub data Cases (S : FamSig) (q : Mult) : Tele → (ℕ → Term) → ℕ → ℕ → List ℕ → Terms → List Judged → Term → Type 0 where
  param : {r : Mult} {T : Term} {Θ : Tele} {σ : ℕ → Term} {k m : ℕ} {ns : List ℕ} {a : Term} {ts : Terms}
      {js : List Judged} {u : Use} {R : Term} →
      Cases S q Θ (cons a σ) k m ns ts js R →
      Cases S q ((r, T) ∷ Θ) σ (suc k) m ns (a ▸ ts) (judged [] (sub σ T) 𝟘 u ∷ js) R
  motive : {σ : ℕ → Term} {ns : List ℕ} {P : Term} {ts : Terms} {js : List Judged} {u : Use} {l : ℕ} {R : Term} →
      Branches S q σ P S.constructors ns ts js R →
      Cases S q [] σ zero (length S.motive) ns (P ▸ ts) (judged (sub_binds σ S.motive) (Sort l) 𝟘 u ∷ js) R

-- ---- the rules but for variables and conversion: form, components, what is asked of each component, type, and
-- use of its own
pub data Rule (E : Env) (p : Part) : Form → Terms → List Judged → Term → Use → Type 0 where
  sort : {l : ℕ} → Rule E p (Form.sort l) ε [] (Sort (suc l)) zero_use
  pi : {q : Mult} {A B : Term} {i j : ℕ} {u w : Use} →
      Rule E p (Form.pi q) (A ▸ B ▸ ε) (judged [] (Sort i) 𝟘 u ∷ judged ((q, A) ∷ []) (Sort j) 𝟘 w ∷ [])
      (Sort (max i j)) zero_use
  lam : {q : Mult} {A B b : Term} {i : ℕ} {u w : Use} →
      Rule E p (Form.lam q) (A ▸ b ▸ ε) (judged [] (Sort i) 𝟘 u ∷ judged ((q, A) ∷ []) B 𝟙 w ∷ []) (Pi q A B) zero_use
  app : {q : Mult} {A B f a : Term} {u w : Use} →
      Rule E p (Form.app q) (f ▸ a ▸ ε) (judged [] (Pi q A B) 𝟙 u ∷ judged [] A q w ∷ []) (inst B a) zero_use
  fam : {f : GlobalId} {ts : Terms} {js : List Judged} {R : Term} → There (E.family f) →
      ParamsThenArgs (erase_binds (fam_at E f).indices) (fam_at E f).params closed ts js (Sort (fam_at E f).level) R →
      Rule E p (Form.fam f) ts js R zero_use
  con : {f : GlobalId} {n : ℕ} {c : ConSig} {ts : Terms} {js : List Judged} {R : Term} →
      IsCon (fam_at E f).constructors n c →
      ParamsThenArgs c.fields (fam_at E f).params closed ts js c.result R →
      Rule E p (Form.con f n (length (fam_at E f).params)) ts js R zero_use
  case : {q : Mult} {f : GlobalId} {k m : ℕ} {ns : List ℕ} {ts : Terms} {js : List Judged} {R : Term} →
      There (E.family f) → Usable p q →
      Cases (fam_at E f) q (fam_at E f).params closed k m ns ts js R → Rule E p (Form.case q f k m ns) ts js R zero_use
  delete : {q : Mult} {A s P b e : Term} {l : ℕ} {u₁ u₂ u₃ u₄ u₅ : Use} → Usable p q →
      Rule E p (Form.delete q) (A ▸ s ▸ P ▸ b ▸ e ▸ ε)
      (judged [] (Sort 0) 𝟘 u₁ ∷ judged [] A 𝟘 u₂ ∷ judged ((q, EqTy A s s) ∷ []) (Sort l) 𝟘 u₃ ∷
      judged [] (inst P (Refl A s)) 𝟙 u₄ ∷ judged [] (EqTy A s s) q u₅ ∷ [])
      (inst P e) zero_use
  named : {n : Named} {ts : Terms} {js : List Judged} → NamedThere E n → Usable p (signature E n).mult →
      Args (signature E n).arguments closed ts js →
      Rule E p (Form.named n) ts js (sub (push ts closed) (signature E n).type) zero_use
  -- a Trap may use anything, since a run that reaches it is over
  trap : {A : Term} {i : ℕ} {u any : Use} → Rule E p Form.trap (A ▸ ε) (judged [] (Sort i) 𝟘 u ∷ []) A any
  tape : {n : ℕ} → Rule E p (Form.tape n) ε [] HandleTy (unit (Key.h n))

-- ---- the judgement
mutual
  pub data Typed (E : Env) : Part → Ctx → Term → Term → Use → Type 0 where
    variable : {p : Part} {Γ : Ctx} {i : ℕ} {u : Use} →
        InScope Γ i → Usable p (mult_at Γ i) → UseIs p Γ (unit (Key.v i)) u → Typed E p Γ (var i) (type_at Γ i) u
    by_rule : {p : Part} {Γ : Ctx} {F : Form} {ts : Terms} {u : Use} {js : List Judged} {R : Term} {own : Use} →
        Rule E p F ts js R own → TypedAll E p Γ (binders F) ts js → UseIs p Γ (total own js) u →
        Typed E p Γ (node F ts) R u
    conversion : {p : Part} {Γ : Ctx} {t A B : Term} {u : Use} → Typed E p Γ t A u → Conv E A B → Typed E p Γ t B u

  -- each component as the rule asks, in its part, under its binders, whose uses fit in the run part
  pub data TypedAll (E : Env) : Part → Ctx → List ℕ → Terms → List Judged → Type 0 where
    none : {p : Part} {Γ : Ctx} {ns : List ℕ} → TypedAll E p Γ ns ε []
    more : {p : Part} {Γ : Ctx} {ns : List ℕ} {t : Term} {ts : Terms} {j : Judged} {js : List Judged} →
        first ns ≡ length j.binds →
        Typed E (under p j.mult) (ext Γ j.binds) t j.type j.uses → InRun (under p j.mult) (BindersFit j.binds j.uses) →
        TypedAll E p Γ (rest ns) ts js → TypedAll E p Γ ns (t ▸ ts) (j ∷ js)

-- is a type: has some Sort in the erased part
abbrev pub IsType : Env → Ctx → Term → Type 0
IsType E Γ A = (l : ℕ) × Typed E Part.erased Γ A (Sort l) zero_use
