-- A step keeps type and use.
use Rattle.std.proofs.Common.{◌≡◌, ℕ, zero, suc, Bool, true, false, cond, List, [], ◌∷◌, length, Some, refl, sym, ◌∙◌, ap, subst, arith, ℤ}
use mathlib.Core.Path.{ap₂, subst₂}
use Rattle.qtt_base.specs.declared.place.GlobalId.{GlobalId}
use Rattle.qtt_usage.specs.declared.mult.Mult.{Mult}
use Rattle.qtt_usage.specs.Mult.{𝟘, 𝟙, ω, ◌⊕◌, ◌⊙◌, join, ◌≼◌}
use Rattle.qtt_usage.specs.Uses.{Key, Use, zero_use, out}
use Rattle.qtt_usage.proofs.Mults.{≼-refl, ≼-trans, ⊕-zero, ⊕-mono, ⊙-mono}
use Rattle.qtt_prims.specs.declared.answer.PrimAnswer.{PrimAnswer}
use Rattle.qtt_prims.specs.declared.answer.PrimAnswer.TheVariants as answer
use Rattle.qtt_prims.specs.Apply.{apply, of_numbers, of_number, of_texts}
use Rattle.qtt_prims.specs.declared.lit.Lit.{Lit}
use Rattle.qtt_prims.specs.declared.prim.Primitive.{Primitive}
use Rattle.qtt_prims.specs.declared.lit.Lit.TheVariants as literal
use Rattle.qtt_prims.specs.declared.prim.Primitive.TheVariants as prim
use Rattle.qtt_term.specs.Signature.{eq_id, eq_family, EqTy, Refl, IntTy, StringTy, family_at, definition_at, family_of, Tele, Family, truth, BoolTy, fam_sig, ConSig, FamSig, Env, signature, prim_signature}
use Rattle.qtt_term.specs.Contraction.{answer_term, computed, BodiesClosed, Step, Conv}
use Rattle.qtt_term.specs.Term.{Named, Form, binders, rest, Term, Terms, var, node, ε, ◌▸◌, size, ◌+++◌, Sort, Pi, Lam, App}
use Rattle.qtt_term.specs.Substitution.{sub, cons, push, inst, closed}
use Rattle.qtt_term.specs.Environment.{HasPrim}
use Rattle.qtt_term.specs.Value.{kept, demanded}
use Rattle.qtt_term.specs.Judgement.{IsCon, Ctx, mult_at, type_at, Part, under, InRun, AtMost, Judged, judged, share, sum_of, join_of, has_branch, total, Args, ParamsThenArgs, Branches, Cases, Rule}
use Rattle.qtt_term.proofs.Closed.{closed-kept}
use Rattle.qtt_term.proofs.Evaluation.{Move, Moves}
use Rattle.qtt_term.proofs.Subst.{sub-id, cons-ren}
use Rattle.qtt_term.proofs.Options.{none≢some, some-injective}
use Rattle.qtt_confluence.specs.Injective.{Convs, PiInjective}
use Rattle.qtt_confluence.proofs.Injective.{pi_injective, fam_injective}
use Rattle.qtt_confluence.proofs.Root.{Root, view}
use Rattle.qtt_confluence.proofs.Confluence.{convs-same, conv-inside, conv-sub, conv-fill, conv-inst, push-conv}
use Rattle.qtt_confluence.proofs.Families.{family_injective}
use Rattle.qtt_preserve.specs.Within.{Has, HasAll}
use Rattle.qtt_preserve.specs.Through.{through}
use Rattle.qtt_preserve.proofs.Plain.{no-use, literal_has}
use Rattle.qtt_preserve.proofs.Travel.{in_run₂, raise, in_run, in_run₃, has_as, usable-under, always}
use Rattle.qtt_preserve.proofs.Sound.{BodiesTyped, Sound}
use Rattle.qtt_preserve.proofs.Uses.{≼-of, one_row, through-one, through-zero}
use Rattle.qtt_preserve.proofs.Substitution.{has_var, Fills, substitution}
use Rattle.qtt_preserve.proofs.Iota.{has_iota, no_branch}

pub substitution_of_one : {E : Env} (bodies : BodiesClosed E) {p : Part} {Γ : Ctx} {q : Mult} {A b B a : Term}
    {w y : Use} →
    Has E p ((q, A) ∷ Γ) b B w → Has E (under p q) Γ a A y →
    Has E p Γ (inst b a) (inst B a) (λ x. out w x ⊕ w (Key.v 0) ⊙ y x)
substitution_of_one {E} bodies {p} {Γ} {q} {A} {b} {B} {a} {w} {y} hb ha =
    has_as E (inst B a) (λ x. out w x ⊕ w (Key.v 0) ⊙ y x)
    (substitution E bodies hb Γ (cons a var) (one_row y) fill)
    Conv.same (always p (through-one Γ (q, A) w y))
  where
    fill : Fills E bodies p ((q, A) ∷ Γ) Γ (cons a var) (one_row y)
    fill zero s = rw (cons-ren var a A, sub-id A) ha
    fill (suc i) s = rw (cons-ren var a (type_at Γ i), sub-id (type_at Γ i))
        (has_var E bodies (under p (mult_at Γ i)) Γ i s (usable-under p (mult_at Γ i)))

pub inversion_lam : {E : Env} {p : Part} {Γ : Ctx} {q : Mult} {A b C : Term} {u : Use} → Has E p Γ (Lam q A b) C u →
    (i : ℕ) × (B : Term) × (z : Use) × (w : Use) × Has E Part.erased Γ A (Sort i) z × Has E p ((q, A) ∷ Γ) b B w
    × InRun p (w (Key.v 0) ≼ q) × Conv E (Pi q A B) C × InRun p (AtMost Γ (out w) u)
inversion_lam {p = p} {u = u}
    (Has.at_node (Rule.lam {B = B} {i = i} {u = z} {w = w})
    (HasAll.more e hA fA (HasAll.more d hb fb HasAll.none)) c f) = (
      i,
      B,
      z,
      w,
      hA,
      hb,
      in_run p (λ k. k.0) fb,
      c,
      in_run p (λ k x s. ≼-trans (out w x) _ (u x) (≼-of (sym (⊕-zero _ ∙ ⊕-zero (out w x)))) (k x s)) f,
    )

pub inversion_app : {E : Env} {p : Part} {Γ : Ctx} {q : Mult} {f a C : Term} {u : Use} → Has E p Γ (App q f a) C u →
    (A : Term) × (B : Term) × (w : Use) × (y : Use) × Has E p Γ f (Pi q A B) w × Has E (under p q) Γ a A y
    × Conv E (inst B a) C × InRun p (AtMost Γ (λ x. w x ⊕ q ⊙ y x) u)
inversion_app {p = p} {q = q} {u = u}
    (Has.at_node (Rule.app {A = A} {B = B} {u = w} {w = y})
    (HasAll.more e hf ff (HasAll.more d ha fa HasAll.none)) c g) = (
      A,
      B,
      w,
      y,
      hf,
      ha,
      c,
      in_run p
          (λ k x s. ≼-trans (w x ⊕ q ⊙ y x) _ (u x)
          (≼-of (ap (λ n. w x ⊕ n) (sym (⊕-zero (q ⊙ y x))) ∙ sym (⊕-zero (w x ⊕ (q ⊙ y x ⊕ 𝟘))))) (k x s)) g,
    )

has_beta : {E : Env} {p : Part} {Γ : Ctx} {q : Mult} {A b a C : Term} {u : Use} → BodiesClosed E → PiInjective E →
    Has E p Γ (App q (Lam q A b) a) C u → Has E p Γ (inst b a) C u
has_beta {E} {p} {Γ} {q} {A} {b} {a} {C} {u} bodies inj h =
    let (D, F, w, y, hf, ha, c, k) = inversion_app h in
    let (i, B, z, v, hA, hb, fit, d, l) = inversion_lam hf in
    let same : (q ≡ q) × Conv E A D × Conv E B F = inj q q A B D F d in
    has_as E C u
    (substitution_of_one bodies hb (has_as E A y ha (Conv.back same.1) (always (under p q) λ x s. ≼-refl (y x))))
    (Conv.thence (conv-sub bodies same.2 (cons a var)) c)
    (in_run₃ p (λ m n r x s. ≼-trans (out v x ⊕ v (Key.v 0) ⊙ y x) (w x ⊕ q ⊙ y x) (u x)
    (⊕-mono (out v x) (w x) _ _ (n x s) (⊙-mono (v (Key.v 0)) q (y x) m)) (r x s)) fit l k)

-- ---- what is asked of components, at convertible types
pub data Retyped (E : Env) : List Judged → List Judged → Type 0 where
  none : Retyped E [] []
  more : {j : Judged} {B : Term} {js ks : List Judged} → Conv E j.type B → Retyped E js ks →
      Retyped E (j ∷ js) (record j { type = B } ∷ ks)

retype : {E : Env} {p : Part} {Γ : Ctx} {ns : List ℕ} {ts : Terms} {js ks : List Judged} → Retyped E js ks →
    HasAll E p Γ ns ts js → HasAll E p Γ ns ts ks
retype Retyped.none HasAll.none = HasAll.none
retype {E} {p} (Retyped.more {B = B} c r) (HasAll.more {j = j} e h f hs) =
    HasAll.more e (has_as E B j.uses h c (always (under p j.mult) λ x s. ≼-refl (j.uses x))) f (retype r hs)

retyped-sum : {E : Env} {js ks : List Judged} → Retyped E js ks → sum_of js ≡ sum_of ks
retyped-sum Retyped.none = refl
retyped-sum (Retyped.more {j = j} c r) = ap (λ w x. cond j.branch (w x) (share j x ⊕ w x)) (retyped-sum r)

retyped-branch : {E : Env} {js ks : List Judged} → Retyped E js ks → has_branch js ≡ has_branch ks
retyped-branch Retyped.none = refl
retyped-branch (Retyped.more {j = j} c r) = ap (cond j.branch true) (retyped-branch r)

retyped-join : {E : Env} {js ks : List Judged} → Retyped E js ks → join_of js ≡ join_of ks
retyped-join Retyped.none = refl
retyped-join (Retyped.more {j = j} c r) =
    ap₂ (λ d w x. cond j.branch (cond d (join (share j x) (w x)) (share j x)) (w x)) (retyped-branch r) (retyped-join r)

retyped-total : {E : Env} {js ks : List Judged} (own : Use) → Retyped E js ks → total own js ≡ total own ks
retyped-total own r = ap₂ (λ s j x. own x ⊕ (s x ⊕ j x)) (retyped-sum r) (retyped-join r)

conv-cons : {E : Env} {a b : Term} {σ τ : ℕ → Term} → Conv E a b → ((i : ℕ) → Conv E (σ i) (τ i)) →
    (i : ℕ) → Conv E (cons a σ i) (cons b τ i)
conv-cons c h zero = c
conv-cons c h (suc i) = h i

args-conv : {E : Env} (bodies : BodiesClosed E) {Θ : Tele} {σ τ : ℕ → Term} {ts ss : Terms} {js : List Judged} →
    Args Θ σ ts js → Convs E ts ss → ((i : ℕ) → Conv E (σ i) (τ i)) →
    (ks : List Judged) × Args Θ τ ss ks × Retyped E js ks
args-conv bodies Args.none Convs.none h = ([], Args.none, Retyped.none)
args-conv bodies {σ = σ} {τ = τ} (Args.more {q = q} {T = T} {u = u} a) (Convs.more c k) h =
    let (ks, b, r) = args-conv bodies a k (conv-cons c h) in
    (judged [] (sub τ T) q u ∷ ks, Args.more b, Retyped.more (conv-fill bodies T σ τ h) r)

params-conv : {E : Env} (bodies : BodiesClosed E) {Ξ Θ : Tele} {σ τ : ℕ → Term} {ts ss : Terms} {js : List Judged}
    {S R : Term} → ParamsThenArgs Ξ Θ σ ts js S R → Convs E ts ss →
    ((i : ℕ) → Conv E (σ i) (τ i)) →
    (ks : List Judged) × (Q : Term) × ParamsThenArgs Ξ Θ τ ss ks S Q × Retyped E js ks × Conv E R Q
params-conv bodies {σ = σ} {τ = τ} (ParamsThenArgs.param {T = T} {u = u} a) (Convs.more c k) h =
    let (ks, Q, b, r, d) = params-conv bodies a k (conv-cons c h) in
    (judged [] (sub τ T) 𝟘 u ∷ ks, Q, ParamsThenArgs.param b, Retyped.more (conv-fill bodies T σ τ h) r, d)
params-conv bodies {σ = σ} {τ = τ} {ts = ts} {ss = ss} (ParamsThenArgs.done {S = S} a) k h =
    let (ks, b, r) = args-conv bodies a k h in
    (ks, sub (push ss τ) S, ParamsThenArgs.done b, r, conv-fill bodies S (push ts σ) (push ss τ) (push-conv k σ τ h))

-- ---- a contraction in the place of evaluation
module _ {E : Env} where
  mutual
    move-conv : {t s : Term} → Move E t s → Conv E t s
    move-conv (Move.here e) = Conv.by_step (Step.here e)
    move-conv (Move.inside h) = conv-inside (moves-conv h)

    moves-conv : {ms : List Mult} {ts ss : Terms} → Moves E ms ts ss → Convs E ts ss
    moves-conv (Moves.at {ts = ts} m h) = Convs.more (move-conv h) (convs-same ts)
    moves-conv (Moves.after h) = Convs.more Conv.same (moves-conv h)

-- ---- rules whose components contract
rule-app : {E : Env} {p : Part} {Γ : Ctx} {q : Mult} {ts ss : Terms} {js : List Judged} {R C : Term} {own u : Use}
    → BodiesClosed E →
    Rule E p (Form.app q) ts js R own → Convs E ts ss → HasAll E p Γ [] ss js → Conv E R C →
    InRun p (AtMost Γ (total own js) u) →
    Has E p Γ (node (Form.app q) ss) C u
rule-app bodies (Rule.app {B = B}) (Convs.more d (Convs.more e Convs.none)) hs c f =
    Has.at_node Rule.app hs (Conv.thence (Conv.back (conv-inst bodies B e)) c) f

size-append : (is : Terms) (s t : Term) → size (is +++ (s ▸ ε)) ≡ size (is +++ (t ▸ ε))
size-append ε s t = refl
size-append (i ▸ is) s t = ap suc (size-append is s t)

convs-append : {E : Env} (is : Terms) {s t : Term} → Conv E s t → Convs E (is +++ (s ▸ ε)) (is +++ (t ▸ ε))
convs-append ε c = Convs.more c Convs.none
convs-append (i ▸ is) c = Convs.more Conv.same (convs-append is c)

branches-last : {E : Env} {S : FamSig} {q : Mult} {σ : ℕ → Term} {P : Term} {cs : List ConSig} {ns : List ℕ}
    {ts ss : Terms} {js : List Judged} {R : Term} → BodiesClosed E →
    Branches S q σ P cs ns ts js R → Moves E (kept (length ns) (𝟙 ∷ [])) ts ss →
    (Q : Term) × Branches S q σ P cs ns ss js Q × Conv E R Q
branches-last {P = P} bodies (Branches.scrutinee {s = s} is e) (Moves.at {s = t} m k) = (
  sub (push (is +++ (t ▸ ε)) var) P,
  Branches.scrutinee is (size-append is t s ∙ e),
  conv-fill bodies P _ _ (push-conv (convs-append is (move-conv k)) var var (λ i. Conv.same)),
)
branches-last bodies (Branches.scrutinee is e) (Moves.after k) = elim k [ ]
branches-last bodies (Branches.each e b) (Moves.at m k) = absurd m
branches-last bodies (Branches.each e b) (Moves.after k) =
    let (Q, c, d) = branches-last bodies b k in (Q, Branches.each e c, d)

cases-last : {E : Env} {S : FamSig} {q : Mult} {Θ : Tele} {σ : ℕ → Term} {k m : ℕ} {ns : List ℕ} {ts ss : Terms}
    {js : List Judged} {R : Term} → BodiesClosed E →
    Cases S q Θ σ k m ns ts js R → Moves E (kept k (𝟘 ∷ kept (length ns) (𝟙 ∷ []))) ts ss →
    (Q : Term) × Cases S q Θ σ k m ns ss js Q × Conv E R Q
cases-last bodies (Cases.param a) (Moves.after k) = let (Q, b, d) = cases-last bodies a k in (Q, Cases.param b, d)
cases-last bodies (Cases.param a) (Moves.at m k) = absurd m
cases-last bodies (Cases.motive a) (Moves.after k) = let (Q, b, d) = branches-last bodies a k in (Q, Cases.motive b, d)
cases-last bodies (Cases.motive a) (Moves.at m k) = absurd m

delete-last : {E : Env} {p : Part} {q : Mult} {ts ss : Terms} {js : List Judged} {R : Term} {own : Use} →
    BodiesClosed E →
    Rule E p (Form.delete q) ts js R own → Moves E (kept 4 (𝟙 ∷ [])) ts ss →
    (Q : Term) × Rule E p (Form.delete q) ss js Q own × Conv E R Q
delete-last bodies (Rule.delete {P = P} m)
    (Moves.after (Moves.after (Moves.after (Moves.after (Moves.at {s = d} x k))))) =
    (inst P d, Rule.delete m, conv-inst bodies P (move-conv k))
delete-last bodies (Rule.delete m) (Moves.at x k) = absurd x
delete-last bodies (Rule.delete m) (Moves.after (Moves.at x k)) = absurd x
delete-last bodies (Rule.delete m) (Moves.after (Moves.after (Moves.at x k))) = absurd x
delete-last bodies (Rule.delete m) (Moves.after (Moves.after (Moves.after (Moves.at x k)))) = absurd x
delete-last bodies (Rule.delete m) (Moves.after (Moves.after (Moves.after (Moves.after (Moves.after k))))) = elim k [ ]

rule-moves : {E : Env} {p : Part} {Γ : Ctx} {F : Form} {ts ss : Terms} {js : List Judged} {R C : Term}
    {own u : Use} → BodiesClosed E →
    Rule E p F ts js R own → Moves E (demanded E F) ts ss → HasAll E p Γ (binders F) ss js → Conv E R C →
    InRun p (AtMost Γ (total own js) u) →
    Has E p Γ (node F ss) C u
rule-moves bodies Rule.sort k hs c f = elim k [ ]
rule-moves bodies Rule.pi k hs c f = elim k [ ]
rule-moves bodies Rule.lam k hs c f = elim k [ ]
rule-moves bodies Rule.trap k hs c f = elim k [ ]
rule-moves bodies Rule.tape k hs c f = elim k [ ]
rule-moves bodies (Rule.fam there a) k hs c f = elim k [ ]
rule-moves bodies (Rule.app {q = q}) k hs c f = rule-app bodies Rule.app (moves-conv k) hs c f
rule-moves {p = p} {Γ = Γ} {u = u} bodies (Rule.con i a) k hs c f =
    let (ks, Q, b, r, d) = params-conv bodies a (moves-conv k) (λ i. Conv.same) in
    Has.at_node (Rule.con i b) (retype r hs) (Conv.thence (Conv.back d) c)
    (subst (λ w. InRun p (AtMost Γ w u)) (retyped-total zero_use r) f)
rule-moves {E} {p} {Γ} {ts = ts} {ss = ss} {u = u} bodies (Rule.named {n = n} there m a) k hs c f =
    let (ks, b, r) = args-conv bodies a (moves-conv k) (λ i. Conv.same) in
    Has.at_node (Rule.named there m b) (retype r hs)
    (Conv.thence (Conv.back
    (conv-fill bodies (signature E n).type (push ts closed) (push ss closed)
    (push-conv (moves-conv k) closed closed (λ i. Conv.same)))) c)
    (subst (λ w. InRun p (AtMost Γ w u)) (retyped-total zero_use r) f)
rule-moves bodies (Rule.case there m a) k hs c f =
    let (Q, b, d) = cases-last bodies a k in
    Has.at_node (Rule.case there m b) hs (Conv.thence (Conv.back d) c) f
rule-moves bodies (Rule.delete m) k hs c f =
    let (Q, b, d) = delete-last bodies (Rule.delete m) k in
    Has.at_node b hs (Conv.thence (Conv.back d) c) f

args-none : {Θ : Tele} {σ : ℕ → Term} {js : List Judged} → Args Θ σ ε js → js ≡ []
args-none Args.none = refl

has_delta : {E : Env} {p : Part} {Γ : Ctx} {d : GlobalId} {b C : Term} {u : Use} → BodiesClosed E →
    BodiesTyped E → (definition_at E d).body ≡ Some b →
    Has E p Γ (node (Form.named (Named.def d)) ε) C u → Has E p Γ b C u
has_delta {E} {p} {Γ} {d} {b} {C} {u} bodies typed e (Has.at_node (Rule.named there m a) hs c f) =
    has_as E C u
    (subst₂ (λ t A. Has E p Γ t A (through [] M zero_use)) (closed-kept b (bodies d b e) var)
    (sub-id (sub closed (definition_at E d).type))
    (substitution E bodies (typed d b e p m) Γ var M (λ i s. elim s [ ])))
    c
    (in_run p (λ a x s. ≼-trans (through [] M zero_use x) 𝟘 (u x) (≼-of (ap (λ w. w x) (through-zero [] M)))
    (a x s)) (subst (λ js. InRun p (AtMost Γ (total zero_use js) u)) (args-none a) f))
  where
    M : ℕ → Use
    M i = zero_use

-- ---- the answers of primitives
pub rule-con : {E : Env} {p : Part} {f : GlobalId} {n : ℕ} {F : Family} {c : ConSig} {ts : Terms}
    {js : List Judged} {R : Term} → family_at E f ≡ F → IsCon (fam_sig f F).constructors n c →
    ParamsThenArgs c.fields F.params closed ts js c.result R →
    Rule E p (Form.con f n (length F.params)) ts js R zero_use
rule-con {E} {p} {f} {n} {F} {c} {ts} {js} {R} e i a =
    subst (λ F. IsCon (fam_sig f F).constructors n c → ParamsThenArgs c.fields F.params closed ts js c.result R →
    Rule E p (Form.con f n (length F.params)) ts js R zero_use)
    e (λ i a. Rule.con i a) i a

truth-has : {E : Env} (p : Part) (Γ : Ctx) → HasPrim E → (b : Bool) → Has E p Γ (truth b) BoolTy zero_use
truth-has p Γ h false = Has.at_node (rule-con (ap family_of h.truths) IsCon.here (ParamsThenArgs.done Args.none))
    HasAll.none Conv.same (no-use p Γ)
truth-has p Γ h true = Has.at_node
    (rule-con (ap family_of h.truths) (IsCon.there IsCon.here) (ParamsThenArgs.done Args.none)) HasAll.none
    Conv.same (no-use p Γ)

-- what a primitive answers has this type
abbrev Answered : Env → Part → Ctx → Term → PrimAnswer → Type 0
Answered E q Γ A a = (t : Term) → answer_term a ≡ Some t → Has E q Γ t A zero_use

of_numbers-is : (P : PrimAnswer → Type 0) (g : ℤ → ℤ → PrimAnswer) → P answer.IllTyped → ((x y : ℤ) → P (g x y)) →
    (ls : List Lit) → P (of_numbers g ls)
of_numbers-is P g n h (literal.Int x ∷ literal.Int y ∷ []) = h x y
of_numbers-is P g n h _ = n

of_number-is : (P : PrimAnswer → Type 0) (g : ℤ → PrimAnswer) → P answer.IllTyped → ((x : ℤ) → P (g x)) →
    (ls : List Lit) → P (of_number g ls)
of_number-is P g n h (literal.Int x ∷ []) = h x
of_number-is P g n h _ = n

of_texts-is : (P : PrimAnswer → Type 0) (g : List ℕ → List ℕ → PrimAnswer) → P answer.IllTyped →
    ((x y : List ℕ) → P (g x y)) → (ls : List Lit) → P (of_texts g ls)
of_texts-is P g n h (literal.Text x ∷ literal.Text y ∷ []) = h x y
of_texts-is P g n h _ = n

module _ {E : Env} (q : Part) (Γ : Ctx) (prims : HasPrim E) where
  no_answer : (A : Term) → Answered E q Γ A answer.IllTyped
  no_answer A t e = absurd (none≢some e)

  number_has : (z : ℤ) → Answered E q Γ IntTy (answer.Value (literal.Int z))
  number_has z t e = subst (λ t. Has E q Γ t IntTy zero_use) (some-injective e) (literal_has q Γ (literal.Int z))

  text_has : (s : List ℕ) → Answered E q Γ StringTy (answer.Value (literal.Text s))
  text_has s t e = subst (λ t. Has E q Γ t StringTy zero_use) (some-injective e) (literal_has q Γ (literal.Text s))

  answer_has : (b : Bool) → Answered E q Γ BoolTy (answer.Truth b)
  answer_has b t e = subst (λ t. Has E q Γ t BoolTy zero_use) (some-injective e) (truth-has q Γ prims b)

  quotient_has : (b : Bool) (z : ℤ) → Answered E q Γ IntTy (cond b answer.DivisionByZero (answer.Value (literal.Int z)))
  quotient_has true z t e = absurd (none≢some e)
  quotient_has false z t e = number_has z t e

  pub answer-typed : (p : Primitive) (ls : List Lit) → Answered E q Γ (prim_signature p).type (apply p ls)
  answer-typed prim.AddInt ls = of_numbers-is (Answered E q Γ IntTy) _ (no_answer IntTy) (λ x y. number_has _) ls
  answer-typed prim.SubInt ls = of_numbers-is (Answered E q Γ IntTy) _ (no_answer IntTy) (λ x y. number_has _) ls
  answer-typed prim.MulInt ls = of_numbers-is (Answered E q Γ IntTy) _ (no_answer IntTy) (λ x y. number_has _) ls
  answer-typed prim.DivInt ls = of_numbers-is (Answered E q Γ IntTy) _ (no_answer IntTy) (λ x y. quotient_has _ _) ls
  answer-typed prim.ModInt ls = of_numbers-is (Answered E q Γ IntTy) _ (no_answer IntTy) (λ x y. quotient_has _ _) ls
  answer-typed prim.EqInt ls = of_numbers-is (Answered E q Γ BoolTy) _ (no_answer BoolTy) (λ x y. answer_has _) ls
  answer-typed prim.LtInt ls = of_numbers-is (Answered E q Γ BoolTy) _ (no_answer BoolTy) (λ x y. answer_has _) ls
  answer-typed prim.AppendString ls =
      of_texts-is (Answered E q Γ StringTy) _ (no_answer StringTy) (λ x y. text_has _) ls
  answer-typed prim.EqString ls = of_texts-is (Answered E q Γ BoolTy) _ (no_answer BoolTy) (λ x y. answer_has _) ls
  answer-typed prim.ShowInt ls = of_number-is (Answered E q Γ StringTy) _ (no_answer StringTy) (λ x. text_has _) ls

answer-type-closed : (p : Primitive) (σ : ℕ → Term) → sub σ (prim_signature p).type ≡ (prim_signature p).type
answer-type-closed prim.AddInt σ = refl
answer-type-closed prim.SubInt σ = refl
answer-type-closed prim.MulInt σ = refl
answer-type-closed prim.DivInt σ = refl
answer-type-closed prim.ModInt σ = refl
answer-type-closed prim.EqInt σ = refl
answer-type-closed prim.LtInt σ = refl
answer-type-closed prim.AppendString σ = refl
answer-type-closed prim.EqString σ = refl
answer-type-closed prim.ShowInt σ = refl

abbrev AllMany : Tele → Type 0
AllMany [] = Unit {0}
AllMany (b ∷ Θ) = (b.0 ≡ ω) × AllMany Θ

many-more : (m y r : Mult) → m ≡ ω → 𝟘 ≼ r → 𝟘 ≼ m ⊙ y ⊕ r
many-more m y r e h = grind arith

many-sum : {Θ : Tele} {σ : ℕ → Term} {ts : Terms} {js : List Judged} → Args Θ σ ts js → AllMany Θ →
    (x : Key) → 𝟘 ≼ sum_of js x
many-sum Args.none m x = tt
many-sum (Args.more {q = q} {js = js} {u = u} a) m x = many-more q (u x) (sum_of js x) m.0 (many-sum a m.1 x)

prim-many : (p : Primitive) → AllMany (prim_signature p).arguments
prim-many prim.AddInt = (refl, (refl, tt))
prim-many prim.SubInt = (refl, (refl, tt))
prim-many prim.MulInt = (refl, (refl, tt))
prim-many prim.DivInt = (refl, (refl, tt))
prim-many prim.ModInt = (refl, (refl, tt))
prim-many prim.EqInt = (refl, (refl, tt))
prim-many prim.LtInt = (refl, (refl, tt))
prim-many prim.AppendString = (refl, (refl, tt))
prim-many prim.EqString = (refl, (refl, tt))
prim-many prim.ShowInt = (refl, tt)

has_prim : {E : Env} {q : Part} {Γ : Ctx} {p : Primitive} {ts : Terms} (ls : List Lit) {t C : Term} {u : Use} →
    HasPrim E → computed p ls ≡ Some t →
    Has E q Γ (node (Form.named (Named.prim p)) ts) C u → Has E q Γ t C u
has_prim {E} {q} {Γ} {p} {ts} ls {t} {C} {u} prims e (Has.at_node {js = js} (Rule.named there m a) hs c f) =
    has_as E C u (answer-typed q Γ prims p ls t e) (subst (λ A. Conv E A C) (answer-type-closed p (push ts closed)) c)
    (in_run q (λ k x s. ≼-trans 𝟘 (total zero_use js x) (u x)
    (subst (λ z. 𝟘 ≼ sum_of js x ⊕ z) (sym (no_branch a x))
    (subst (λ z. 𝟘 ≼ z) (sym (⊕-zero (sum_of js x))) (many-sum a (prim-many p) x))) (k x s)) f)

-- ---- a Delete of Refl
-- a Con of Refl at this family: its components, its type, and that it uses nothing
abbrev IsRefl : ℕ → Terms → List Judged → Term → Type 0
IsRefl l xs js R = (A : Term) × (s : Term) × (xs ≡ A ▸ s ▸ ε) × (R ≡ EqTy A s s) × (l ≡ 2) ×
    ((x : Key) → total zero_use js x ≡ 𝟘)

refl-parts : {c : ConSig} {xs : Terms} {js : List Judged} {R : Term} →
    IsCon (fam_sig eq_id eq_family).constructors 0 c →
    ParamsThenArgs c.fields eq_family.params closed xs js c.result R → IsRefl 2 xs js R
refl-parts IsCon.here (ParamsThenArgs.param {a = A}
    (ParamsThenArgs.param {a = s} (ParamsThenArgs.done Args.none))) = (A, s, refl, refl, refl, λ x. refl)

refl-at : {F : Family} {c : ConSig} {xs : Terms} {js : List Judged} {R : Term} → F ≡ eq_family →
    IsCon (fam_sig eq_id F).constructors 0 c →
    ParamsThenArgs c.fields F.params closed xs js c.result R → IsRefl (length F.params) xs js R
refl-at {c = c} {xs = xs} {js = js} {R = R} e i a =
    subst (λ F. IsCon (fam_sig eq_id F).constructors 0 c →
    ParamsThenArgs c.fields F.params closed xs js c.result R → IsRefl (length F.params) xs js R)
    (sym e) (λ i a. refl-parts i a) i a

pub refl-proof : {E : Env} {p : Part} {Γ : Ctx} {l : ℕ} {xs : Terms} {A s : Term} {u : Use} → BodiesClosed E →
    HasPrim E →
    Has E p Γ (node (Form.con eq_id 0 l) xs) (EqTy A s s) u →
    Conv E (node (Form.con eq_id 0 l) xs) (Refl A s) × InRun p (AtMost Γ zero_use u)
refl-proof {E} {p} {Γ} {l} {xs} {A} {s} {u} bodies prims (Has.at_node {js = js} {R = R} (Rule.con i a) hs c f) =
    let (B, t, x, r, k, z) = refl-at (ap family_of prims.equalities) i a in (
      same-refl B t x k (subst (λ R. Conv E R (EqTy A s s)) r c),
      in_run p (λ d y o. subst (λ m. m ≼ u y) (z y) (d y o)) f,
    )
  where
    same-refl : (B t : Term) → xs ≡ B ▸ t ▸ ε → l ≡ 2 → Conv E (EqTy B t t) (EqTy A s s) →
        Conv E (node (Form.con eq_id 0 l) xs) (Refl A s)
    same-refl B t x k d = rw (x, k) (both (fam_injective E bodies eq_id eq_id _ _ d).1)
      where
        both : Convs E (B ▸ t ▸ t ▸ ε) (A ▸ s ▸ s ▸ ε) → Conv E (Refl B t) (Refl A s)
        both (Convs.more h (Convs.more g (Convs.more e Convs.none))) =
            conv-inside (Convs.more h (Convs.more g Convs.none))

delete_use : (b e q u : Mult) → 𝟘 ≼ e → (b ⊕ (q ⊙ e ⊕ 𝟘)) ⊕ 𝟘 ≼ u → b ≼ u
delete_use b e q u h k = grind arith

has_deletion : {E : Env} {p : Part} {Γ : Ctx} {q : Mult} {A s P b C : Term} {l : ℕ} {xs : Terms} {u : Use} →
    BodiesClosed E → HasPrim E →
    Has E p Γ (node (Form.delete q) (A ▸ s ▸ P ▸ b ▸ node (Form.con eq_id 0 l) xs ▸ ε)) C u → Has E p Γ b C u
has_deletion {E} {p} {Γ} {q} {P = P} {C = C} {u = u} bodies prims
    (Has.at_node (Rule.delete {u₄ = w} {u₅ = y} m)
    (HasAll.more e₁ h₁ f₁
    (HasAll.more e₂ h₂ f₂ (HasAll.more e₃ h₃ f₃ (HasAll.more e₄ hb f₄ (HasAll.more e₅ he f₅ HasAll.none))))) c
    f) =
    let r = refl-proof bodies prims (raise p q m he) in
    has_as E C u hb (Conv.thence (conv-inst bodies P (Conv.back r.0)) c)
    (in_run₂ p (λ z d x o. delete_use (w x) (y x) q (u x) (z x o) (d x o)) r.1 f)

-- ---- the whole
has_root : {E : Env} {p : Part} {Γ : Ctx} {F : Form} {ts : Terms} {t C : Term} {u : Use} → Sound E →
    Root E F ts t → Has E p Γ (node F ts) C u → Has E p Γ t C u
has_root w Root.by_beta h = has_beta w.bodies (pi_injective _ w.bodies) h
has_root w (Root.by_iota k e) h = has_iota w.bodies (family_injective _ w.bodies) k h
has_root w (Root.by_delta e) h = has_delta w.bodies w.typed e h
has_root w Root.by_deletion h = has_deletion w.bodies w.prims h
has_root w (Root.by_prim {ls = ls} d e) h = has_prim ls w.prims e h

mutual
  pub preservation : {E : Env} {t s : Term} → Move E t s → Sound E → (p : Part) (Γ : Ctx) (A : Term) (u : Use) →
      Has E p Γ t A u → Has E p Γ s A u
  preservation {E} (Move.here {F = F} {ts = ts} {t = t} e) w p Γ A u h = has_root w (view E F ts t e) h
  preservation (Move.inside k) w p Γ A u (Has.at_node {F = F} r hs c f) =
      rule-moves w.bodies r k (preserve_all k w p Γ (binders F) _ hs) c f

  preserve_all : {E : Env} {ms : List Mult} {ts ss : Terms} → Moves E ms ts ss → Sound E →
      (p : Part) (Γ : Ctx) (ns : List ℕ) (js : List Judged) →
      HasAll E p Γ ns ts js → HasAll E p Γ ns ss js
  preserve_all (Moves.at m k) w p Γ ns js (HasAll.more e h f hs) = HasAll.more e (preservation k w _ _ _ _ h) f hs
  preserve_all (Moves.after k) w p Γ ns js (HasAll.more e h f hs) =
      HasAll.more e h f (preserve_all k w p Γ (rest ns) _ hs)
