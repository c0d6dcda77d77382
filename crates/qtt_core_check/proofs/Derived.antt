-- A term with the type and the uses that are inferred.
use Rattle.std.proofs.Common.{◌≡◌, ℕ, true, false, cond, List, [], length, drop, refl, sym, ◌∙◌, subst}
use Rattle.qtt_usage.specs.declared.mult.Mult.{Mult}
use Rattle.qtt_usage.specs.Mult.{𝟘, 𝟙, ω}
use Rattle.qtt_usage.specs.Uses.{Key, Use, zero_use, outs}
use Rattle.qtt_usage.specs.Usage.{use_of}
use Rattle.qtt_term.specs.Term.{Form, binders, Term, Terms, node, Sort}
use Rattle.qtt_term.specs.Signature.{Tele, Env}
use Rattle.qtt_term.specs.Contraction.{Conv}
use Rattle.qtt_term.specs.Judgement.{Ctx, ext, Part, under, InRun, Judged, BindersFit, total, Rule}
use Rattle.qtt_term.specs.Environment.{NoTape}
use Rattle.qtt_term.specs.Accepted.{is_dead, live, own_of, IsSmall, Accepts, AcceptsAll}
use Rattle.qtt_term.specs.Ask.{Ending, Ends}
use Rattle.qtt_term.specs.Infer.{Premise, Inferred, infer, has, type_of, unbound, binders_fit, mults_onto}
use Rattle.qtt_core_check.proofs.Parts.{parts, ended, holding, agreeing, head-conv, sort-found}
use Rattle.qtt_core_check.proofs.Lists.{IsNothing, Counts, length-open, nothing-open, opened_at, outs-as, binders-fit}

abbrev pub IsErased : Part → Type 0
IsErased Part.run = ⊥
IsErased Part.erased = Unit {0}

pub erased-under : (p : Part) (q : Mult) → IsErased p → IsErased (under p q)
erased-under p 𝟘 e = tt
erased-under p 𝟙 e = e
erased-under p ω e = e

-- the uses of variables are the list's, and of tapes where none stands in the term; in the erased part they are
-- zero
pub record Derived (E : Env) (p : Part) (Γ : Ctx) (t A : Term) (us : List Mult) : Type 0 where
  pub use_of_term : Use
  pub accepted : Accepts E p Γ t A use_of_term
  pub counts : (x : Key) → Counts (NoTape t) x → use_of_term x ≡ use_of us x
  pub counted : length us ≡ length Γ
  pub nothing : IsErased p → IsNothing us

-- what an answer for a term gives
abbrev pub Gives : Env → Term → Type 0
Gives E t = (p : Part) (Γ : Ctx) (j : Inferred) → Ends E (infer E p Γ t) (Ending.ok j) → Derived E p Γ t j.type j.uses

pub retyped : {E : Env} {p : Part} {Γ : Ctx} {t A B : Term} {us : List Mult} → Derived E p Γ t A us → Conv E A B →
    Derived E p Γ t B us
retyped d c = record {
  use_of_term = d.use_of_term;
  accepted = Accepts.conversion d.accepted c;
  counts = d.counts;
  counted = d.counted;
  nothing = d.nothing;
}

abbrev pub IsRun : Part → Type 0
IsRun Part.run = Unit {0}
IsRun Part.erased = ⊥

pub by-run-rule : {E : Env} (p : Part) {Γ : Ctx} {F : Form} {ts : Terms} {js : List Judged} {R : Term} {own : Use}
    {us : List Mult} →
    Rule E p F ts js R own → IsSmall F → AcceptsAll E p Γ (binders F) ts js → length us ≡ length Γ →
    (IsErased p → IsNothing us) →
    (IsRun p → (x : Key) → Counts (NoTape (node F ts)) x → total (own_of F) (live ts js) x ≡ use_of us x) →
    Derived E p Γ (node F ts) R us
by-run-rule Part.run {F = F} {ts = ts} {js = js} r s hs l n c = record {
  use_of_term = total (own_of F) (live ts js);
  accepted = Accepts.by_rule r s hs (λ x s. refl);
  counts = c tt;
  counted = l;
  nothing = n;
}
by-run-rule Part.erased r s hs l n c = record {
  use_of_term = zero_use;
  accepted = Accepts.by_rule r s hs (λ x s. refl);
  counts = λ x k. sym (n tt x);
  counted = l;
  nothing = n;
}

pub by-rule : {E : Env} (p : Part) {Γ : Ctx} {F : Form} {ts : Terms} {js : List Judged} {R : Term} {own : Use}
    {us : List Mult} →
    Rule E p F ts js R own → IsSmall F → AcceptsAll E p Γ (binders F) ts js → length us ≡ length Γ →
    (IsErased p → IsNothing us) →
    ((x : Key) → Counts (NoTape (node F ts)) x → total (own_of F) (live ts js) x ≡ use_of us x) →
    Derived E p Γ (node F ts) R us
by-rule p r s hs l n c = by-run-rule p r s hs l n (λ i. c)

-- ---- components
pub had : {E : Env} (p : Part) (Γ : Ctx) (t A : Term) (r : Premise) (us : List Mult) → Gives E t →
    Ends E (has Γ (infer E p Γ t) A r) (Ending.ok us) →
    Derived E p Γ t A us
had {E} p Γ t A r us g x =
    let a = parts _ _ _ x in
    let b = parts _ _ _ a.after in
    subst (Derived E p Γ t A) (ended _ _ b.after)
    (retyped (g p Γ a.mid a.first) (agreeing Γ a.mid.type A r b.mid b.first))

pub type-had : {E : Env} (Γ : Ctx) (t : Term) (r : Premise) (l : ℕ) → Gives E t →
    Ends E (type_of Γ (infer E Part.erased Γ t) r) (Ending.ok l) →
    (u : Use) × Accepts E Part.erased Γ t (Sort l) u
type-had Γ t r l g x =
    let a = parts _ _ _ x in
    let d = g Part.erased Γ a.mid a.first in
    (d.use_of_term, Accepts.conversion d.accepted (head-conv (sort-found Γ a.mid.type r l a.after)))

-- a component under binders, whose uses fit where it is not dead, with the uses of older variables
pub record Opened (E : Env) (p : Part) (Γ : Ctx) (Θ : Tele) (t A : Term) (us : List Mult) : Type 0 where
  pub use_of_term : Use
  pub accepted : Accepts E p (ext Γ Θ) t A use_of_term
  pub fit : InRun p (is_dead t ≡ false → BindersFit Θ use_of_term)
  pub counts : (x : Key) → Counts (NoTape t) x → outs (length Θ) use_of_term x ≡ use_of us x
  pub counted : length us ≡ length Γ
  pub nothing : IsErased p → IsNothing us

opened-at : {E : Env} (p : Part) (Γ : Ctx) (Θ : Tele) (t A : Term) (us : List Mult) →
    (d : Derived E p (ext Γ Θ) t A us) →
    InRun p (is_dead t ≡ false → BindersFit Θ d.use_of_term) → Opened E p Γ Θ t A (drop (length Θ) us)
opened-at p Γ Θ t A us d f = record {
  use_of_term = d.use_of_term;
  accepted = d.accepted;
  fit = f;
  counts = λ x c. outs-as (length Θ) d.use_of_term (use_of us) x d.counts c ∙ sym (opened_at Θ us x);
  counted = length-open Γ Θ us d.counted;
  nothing = λ e. nothing-open Θ us (d.nothing e);
}

pub opened : {E : Env} (p : Part) (Γ : Ctx) (Θ : Tele) (t A : Term) (us ws : List Mult) (r : Premise) →
    Derived E p (ext Γ Θ) t A us →
    Ends E (unbound p Θ t us r) (Ending.ok ws) → Opened E p Γ Θ t A ws
unfolding unbound
opened {E} Part.run Γ Θ t A us ws r d x =
    let a = parts _ _ _ x in
    subst (Opened E Part.run Γ Θ t A) (ended _ _ a.after) (opened-at Part.run Γ Θ t A us d (λ alive.
    binders-fit Θ us d.use_of_term
    (subst (λ b. cond b true (binders_fit (mults_onto [] Θ) us) ≡ true) alive (holding _ r a.mid a.first))
    (λ i. d.counts (Key.v i) tt)))
opened {E} Part.erased Γ Θ t A us ws r d x = subst (Opened E Part.erased Γ Θ t A) (ended _ _ x)
    (opened-at Part.erased Γ Θ t A us d tt)
