-- Answers for lists of arguments.
use Rattle.std.proofs.Common.{◌≡◌, ℕ, zero, suc, true, ◌&&◌, eqb, List, [], ◌∷◌, ◌++◌, length, Option, Some, None, slice_get, refl, sym, ◌∙◌, ap, subst}
use mathlib.Core.Path.{ap₂}
use Rattle.std.proofs.lemmas.Bool.{eqb-true, and_parts}
use Rattle.qtt_base.specs.declared.place.GlobalId.{GlobalId}
use Rattle.qtt_usage.specs.declared.mult.Mult.{Mult}
use Rattle.qtt_usage.specs.Mult.{𝟘, ◌⊕◌, ◌⊙◌}
use Rattle.qtt_usage.specs.Uses.{Key, zero_use}
use Rattle.qtt_usage.specs.Usage.{usage_sum, usage_scale, no_usage, use_of}
use Rattle.qtt_usage.proofs.Mults.{⊕-zero}
use Rattle.qtt_usage.proofs.UsageLemmas.{none_at, sum_at, scale_at}
use Rattle.qtt_term.specs.Term.{Named, Form, Term, Terms, node, ε, ◌▸◌, size, Sort, Fam}
use Rattle.qtt_term.specs.Substitution.{sub, cons, push, closed}
use Rattle.qtt_term.specs.Signature.{Tele, ConSig, Env, There, NamedThere, type_arguments, signature, fam_at}
use Rattle.qtt_term.specs.Judgement.{Ctx, IsCon, Part, under, Judged, judged, sum_of, total, scale, erase_binds, Args, ParamsThenArgs, Rule}
use Rattle.qtt_term.specs.Accepted.{live, AcceptsAll}
use Rattle.qtt_term.specs.Environment.{NoTapes}
use Rattle.qtt_term.specs.Ask.{Ask, ◌>>=◌, Ending, Ends}
use Rattle.qtt_term.specs.Infer.{Premise, at, Inferred, inferred, is_there, usable, named_there, Wanted, wanted, family_wants, constructor_wants, arguments, constructor_at, rule_of}
use Rattle.qtt_term.specs.Premises.{need}
use Rattle.qtt_term.specs.declared.rule.Rule.TheVariants as rule
use Rattle.qtt_term.proofs.Options.{some-injective}
use Rattle.qtt_term.proofs.Binders.{scale-append}
use Rattle.qtt_preserve.proofs.Travel.{always}
use Rattle.qtt_preserve.proofs.Iota.{no_branch}
use Rattle.qtt_core_check.proofs.Parts.{parts, ended, never, holding}
use Rattle.qtt_core_check.proofs.Lists.{IsNothing, Counts, counts-in, length-sum, length-scaled, length-none, nothing-sum, nothing-scaled}
use Rattle.qtt_core_check.proofs.Derived.{IsErased, erased-under, Derived, Gives, by-rule, had}
use Rattle.qtt_core_check.proofs.Forms.{is-usable, nothing-used}

abbrev pub AllGive : Env → Terms → Type 0
AllGive E ε = Unit {0}
AllGive E (t ▸ ts) = Gives E t × AllGive E ts

-- what is wanted, as a telescope
abbrev pub tele_of : List Wanted → Tele
tele_of [] = []
tele_of (w ∷ ws) = (w.mult, w.type) ∷ tele_of ws

pub tele_of-wanted : (r : Premise) (Θ : Tele) → tele_of (wanted r Θ) ≡ Θ
tele_of-wanted r [] = refl
tele_of-wanted r (b ∷ Θ) = ap (λ Θ. b ∷ Θ) (tele_of-wanted r Θ)

pub length-wanted : (r : Premise) (Θ : Tele) → length (wanted r Θ) ≡ length Θ
length-wanted r [] = refl
length-wanted r (b ∷ Θ) = ap suc (length-wanted r Θ)

pub tele_of-append : (ws vs : List Wanted) → tele_of (ws ++ vs) ≡ tele_of ws ++ tele_of vs
tele_of-append [] vs = refl
tele_of-append (w ∷ ws) vs = ap (λ Θ. (w.mult, w.type) ∷ Θ) (tele_of-append ws vs)

pub record Argued (E : Env) (p : Part) (Γ : Ctx) (Θ : Tele) (σ : ℕ → Term) (ts : Terms) (us : List Mult) : Type 0 where
  pub judged_so : List Judged
  pub args : Args Θ σ ts judged_so
  pub accepted : AcceptsAll E p Γ [] ts judged_so
  pub counts : (x : Key) → Counts (NoTapes ts) x → sum_of judged_so x ≡ use_of us x
  pub counted : length us ≡ length Γ
  pub nothing : IsErased p → IsNothing us

no-arguments : {E : Env} (p : Part) (Γ : Ctx) (σ : ℕ → Term) → Argued E p Γ [] σ ε (no_usage (length Γ))
no-arguments p Γ σ = record {
  judged_so = [];
  args = Args.none;
  accepted = AcceptsAll.none;
  counts = λ x c. sym (none_at (length Γ) x);
  counted = length-none (length Γ);
  nothing = λ i. nothing-used (length Γ);
}

one-more : {E : Env} (p : Part) (Γ : Ctx) (q : Mult) (T : Term) (Θ : Tele) (σ : ℕ → Term) (a : Term) (ts : Terms)
    (us ws : List Mult) →
    Derived E (under p q) Γ a (sub σ T) us → Argued E p Γ Θ (cons a σ) ts ws →
    Argued E p Γ ((q, T) ∷ Θ) σ (a ▸ ts) (usage_sum (usage_scale q us) ws)
one-more p Γ q T Θ σ a ts us ws d r =
    let l = length-scaled q us ∙ d.counted in
    record {
      judged_so = judged [] (sub σ T) q d.use_of_term ∷ r.judged_so;
      args = Args.more r.args;
      accepted = AcceptsAll.more refl d.accepted (always (under p q) (λ e. tt)) r.accepted;
      counts = λ x c.
          ap₂ (λ m n. q ⊙ m ⊕ n) (d.counts x (counts-in (λ n. n.0) x c)) (r.counts x (counts-in (λ n. n.1) x c))
          ∙ sym (sum_at (usage_scale q us) ws x (l ∙ sym r.counted) ∙ ap (λ m. m ⊕ use_of ws x) (scale_at q us x));
      counted = length-sum (usage_scale q us) ws (length Γ) l r.counted;
      nothing = λ i. nothing-sum (usage_scale q us) ws (l ∙ sym r.counted)
          (nothing-scaled q us (d.nothing (erased-under p q i))) (r.nothing i);
    }

pub argued : {E : Env} (ts : Terms) → AllGive E ts →
    (p : Part) (Γ : Ctx) (ws : List Wanted) (σ : ℕ → Term) (us : List Mult) → size ts ≡ length ws →
    Ends E (arguments E p Γ ws σ ts) (Ending.ok us) → Argued E p Γ (tele_of ws) σ ts us
argued {E} ε g p Γ [] σ us s x = subst (Argued E p Γ [] σ ε) (ended _ _ x) (no-arguments p Γ σ)
argued ε g p Γ (w ∷ ws) σ us s x = absurd (cc s)
argued (t ▸ ts) g p Γ [] σ us s x = absurd (cc s)
argued {E} (t ▸ ts) g p Γ (w ∷ ws) σ us s x =
    let a = parts _ _ _ x in
    let b = parts _ _ _ a.after in
    subst (Argued E p Γ (tele_of (w ∷ ws)) σ (t ▸ ts)) (ended _ _ b.after)
    (one-more p Γ w.mult w.type (tele_of ws) σ t ts a.mid b.mid
    (had (under p w.mult) Γ t (sub σ w.type) _ a.mid g.0 a.first)
    (argued ts g.1 p Γ ws (cons t σ) b.mid (cc s) b.first))

-- arguments are no branches, so that each has its part in the use of a form
live-args : {Θ : Tele} {σ : ℕ → Term} {ts : Terms} {js : List Judged} → Args Θ σ ts js → live ts js ≡ js
live-args Args.none = refl
live-args (Args.more {q = q} {T = T} {σ = σ} {u = u} a) = ap (λ js. judged [] (sub σ T) q u ∷ js) (live-args a)

total-args : {Θ : Tele} {σ : ℕ → Term} {ts : Terms} {js : List Judged} → Args Θ σ ts js → (x : Key) →
    total zero_use (live ts js) x ≡ sum_of js x
total-args {js = js} a x =
    ap (λ ks. total zero_use ks x) (live-args a) ∙ ap (λ m. sum_of js x ⊕ m) (no_branch a x) ∙ ⊕-zero (sum_of js x)

-- erased parameters first
params-first : (Ξ Θ : Tele) (σ : ℕ → Term) (ts : Terms) (js : List Judged) (S : Term) → Args (scale 𝟘 Θ ++ Ξ) σ ts js →
    ParamsThenArgs Ξ Θ σ ts js S (sub (push ts σ) S)
params-first Ξ [] σ ts js S a = ParamsThenArgs.done a
params-first Ξ (b ∷ Θ) σ ε js S a = elim a [ ]
params-first Ξ (b ∷ Θ) σ (t ▸ ts) [] S a = elim a [ ]
params-first Ξ (b ∷ Θ) σ (t ▸ ts) (j ∷ js) S (Args.more a) =
    ParamsThenArgs.param (params-first Ξ Θ (cons t σ) ts js S a)

-- ---- forms with arguments
pub is-there : {A : Type 0} (o : Option A) → is_there o ≡ true → There o
is-there None e = cc e
is-there (Some a) e = tt

is-con : (cs : List ConSig) (n : ℕ) (c : ConSig) → slice_get cs n ≡ Some c → IsCon cs n c
is-con [] n c e = absurd (cc e)
is-con (d ∷ cs) zero c e = subst (IsCon (d ∷ cs) zero) (some-injective e) IsCon.here
is-con (d ∷ cs) (suc n) c e = IsCon.there (is-con cs n c e)

is-named : (E : Env) (n : Named) → named_there E n ≡ true → NamedThere E n
is-named E (Named.def d) e = is-there (E.definition d) e
is-named E (Named.lit l) e = tt
is-named E (Named.prim_ty r) e = tt
is-named E (Named.prim r) e = tt
is-named E (Named.act a k) e = eqb-true k (type_arguments a) e

module _ {E : Env} where
  fam-derived : (p : Part) (Γ : Ctx) (f : GlobalId) (ts : Terms) (us : List Mult) → There (E.family f) →
      Argued E p Γ (scale 𝟘 (fam_at E f).params ++ scale 𝟘 (fam_at E f).indices) closed ts us →
      Derived E p Γ (Fam f ts) (Sort (fam_at E f).level) us
  fam-derived p Γ f ts us h r =
      by-rule p (Rule.fam h
      (params-first (erase_binds (fam_at E f).indices) (fam_at E f).params closed ts r.judged_so
      (Sort (fam_at E f).level) r.args)) tt r.accepted r.counted r.nothing
      (λ x c. total-args r.args x ∙ r.counts x (counts-in (λ n. n.1) x c))

  pub fam-gives : (f : GlobalId) (ts : Terms) → AllGive E ts → Gives E (Fam f ts)
  fam-gives f ts g p Γ j x =
      let a = parts _ _ _ x in
      let b = parts _ _ _ a.after in
      let S = fam_at E f in
      let (h, s) = and_parts (is_there (E.family f)) (eqb (size ts) (length (family_wants (fam_at E f))))
      (holding _ _ a.mid a.first) in
      let r = argued ts g p Γ (family_wants (fam_at E f)) closed b.mid (eqb-true (size ts) _ s) b.first in
      subst (λ j. Derived E p Γ (Fam f ts) j.type j.uses) (ended _ _ b.after)
      (fam-derived p Γ f ts b.mid (is-there (E.family f) h)
      (subst (λ Θ. Argued E p Γ Θ closed ts b.mid)
      (tele_of-wanted _ (erase_binds ((fam_at E f).params ++ (fam_at E f).indices))
      ∙ scale-append 𝟘 (fam_at E f).params (fam_at E f).indices) r))

  con-derived : (p : Part) (Γ : Ctx) (f : GlobalId) (n : ℕ) (c : ConSig) (ts : Terms) (us : List Mult) →
      IsCon (fam_at E f).constructors n c →
      Argued E p Γ (scale 𝟘 (fam_at E f).params ++ c.fields) closed ts us →
      Derived E p Γ (node (Form.con f n (length (fam_at E f).params)) ts) (sub (push ts closed) c.result) us
  con-derived p Γ f n c ts us h r =
      by-rule p (Rule.con h (params-first c.fields (fam_at E f).params closed ts r.judged_so c.result r.args)) tt
      r.accepted r.counted r.nothing
      (λ x k. total-args r.args x ∙ r.counts x (counts-in (λ n. n.1) x k))

  con-found : (f : GlobalId) (n k : ℕ) (ts : Terms) → AllGive E ts →
      (p : Part) (Γ : Ctx) (j : Inferred) (o : Option ConSig) →
      slice_get (fam_at E f).constructors n ≡ o →
      Ends E (constructor_at o
      (λ c. need (eqb k (length (fam_at E f).params) && eqb (size ts) (length (constructor_wants (fam_at E f) c)))
      (at rule.Con 1)
      >>= (λ s. arguments E p Γ (constructor_wants (fam_at E f) c) closed ts >>=
      (λ u. Ask.done (inferred (sub (push ts closed) c.result) u))))) (Ending.ok j) →
      Derived E p Γ (node (Form.con f n k) ts) j.type j.uses
  con-found f n k ts g p Γ j None e x = absurd (never x)
  con-found f n k ts g p Γ j (Some c) e x =
      let a = parts _ _ _ x in
      let b = parts _ _ _ a.after in
      let (h, s) = and_parts (eqb k (length (fam_at E f).params))
      (eqb (size ts) (length (constructor_wants (fam_at E f) c))) (holding _ _ a.mid a.first) in
      let r = argued ts g p Γ (constructor_wants (fam_at E f) c) closed b.mid (eqb-true (size ts) _ s) b.first in
      subst (λ j. Derived E p Γ (node (Form.con f n k) ts) j.type j.uses) (ended _ _ b.after)
      (subst (λ k. Derived E p Γ (node (Form.con f n k) ts) (sub (push ts closed) c.result) b.mid)
      (sym (eqb-true k _ h))
      (con-derived p Γ f n c ts b.mid (is-con (fam_at E f).constructors n c e)
      (subst (λ Θ. Argued E p Γ Θ closed ts b.mid)
      (tele_of-append (wanted (at rule.Con 1) (erase_binds (fam_at E f).params)) (wanted (at rule.Con 2) c.fields)
      ∙ ap₂ (λ a b. a ++ b) (tele_of-wanted _ (erase_binds (fam_at E f).params)) (tele_of-wanted _ c.fields)) r)))

  pub con-gives : (f : GlobalId) (n k : ℕ) (ts : Terms) → AllGive E ts → Gives E (node (Form.con f n k) ts)
  con-gives f n k ts g p Γ j x = con-found f n k ts g p Γ j (slice_get (fam_at E f).constructors n) refl x

  pub named-gives : (n : Named) (ts : Terms) → AllGive E ts → Gives E (node (Form.named n) ts)
  named-gives n ts g p Γ j x =
      let a = parts _ _ _ x in
      let b = parts _ _ _ a.after in
      let (h, w) = and_parts (named_there E n)
      (usable p (signature E n).mult && eqb (size ts) (length (signature E n).arguments))
      (holding _ _ a.mid a.first) in
      let (m, s) = and_parts (usable p (signature E n).mult) (eqb (size ts) (length (signature E n).arguments)) w in
      let r = argued ts g p Γ (wanted (at (rule_of n) 1) (signature E n).arguments) closed b.mid
      (eqb-true (size ts) _ s ∙ sym (length-wanted _ (signature E n).arguments)) b.first in
      let q = subst (λ Θ. Argued E p Γ Θ closed ts b.mid) (tele_of-wanted _ (signature E n).arguments) r in
      subst (λ j. Derived E p Γ (node (Form.named n) ts) j.type j.uses) (ended _ _ b.after)
      (by-rule p (Rule.named (is-named E n h) (is-usable p (signature E n).mult m) q.args) tt q.accepted q.counted
      q.nothing
      (λ x k. total-args q.args x ∙ q.counts x (counts-in (λ n. n.1) x k)))
