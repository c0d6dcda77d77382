-- A term that is accepted is typed: what its dead parts use is chosen. And a typed term is accepted, where its
-- Sorts are small and no Trap stands in what is judged in the run part.
use Rattle.std.proofs.Common.{◌≡◌, ℕ, suc, Bool, true, false, cond, ◌&&◌, List, [], ◌∷◌, length, Option, Some, None, refl, sym, ◌∙◌, ap}
use mathlib.Core.Path.{ap₂}
use Rattle.qtt_usage.specs.declared.mult.Mult.{Mult}
use Rattle.qtt_usage.specs.Mult.{𝟘, 𝟙, ω, ◌⊕◌, ◌⊙◌, join}
use Rattle.qtt_usage.specs.Uses.{Key, Use, zero_use, out, outs}
use Rattle.qtt_usage.proofs.Mults.{⊕-zero}
use Rattle.qtt_term.specs.Term.{Form, binders, first, rest, Term, Terms, node, ε, ◌▸◌, size, Lam, Trap}
use Rattle.qtt_term.specs.Signature.{Tele, Env}
use Rattle.qtt_term.specs.Judgement.{Ctx, ext, Part, under, InRun, UseIs, Judged, judged, branch, BindersFit, sum_of, has_branch, join_of, total, Rule, Typed, TypedAll}
use Rattle.qtt_term.specs.Accepted.{is_dead, live, own_of, Accepts, AcceptsAll}
use Rattle.qtt_preserve.proofs.Facts.{dead_terms_use_anything_holds}
use Rattle.qtt_preserve.proofs.Exact.{ButForUses, rule-uses}
use Rattle.qtt_preserve.proofs.Travel.{in_run}
use Rattle.qtt_core_check.specs.Trapless.{NoTrap, NoTraps}
use Rattle.qtt_core_check.specs.SmallSorts.{SmallSorts, AllSmallSorts}
use Rattle.qtt_core_check.proofs.Asked.{SameAsked, rule-asked, rule-own}
use Rattle.qtt_core_check.proofs.OneUse.{UsesAgree, agree-out, of-form, own-is}
use Rattle.qtt_core_check.proofs.Lists.{fill, fill-out, fill-fits}
use Rattle.qtt_core_check.proofs.Derived.{IsRun}
use Rattle.qtt_core_check.proofs.Joins.{whole, met, live-whole, spare, dead-whole, live-branch, dead-branch}

-- ---- the use that a component is given: where it is dead in the run part, its binders as often as they may be, and
-- d of what is older
abbrev chosen : Part → Bool → Tele → Use → Use → Use
chosen Part.run true Θ u d = fill Θ d
chosen Part.run false Θ u d = u
chosen Part.erased dead Θ u d = u

chosen-typed : {E : Env} (r : Part) (Γ : Ctx) (Θ : Tele) (t A : Term) (u d : Use) (b : Bool) → is_dead t ≡ b →
    Typed E r (ext Γ Θ) t A u →
    Typed E r (ext Γ Θ) t A (chosen r b Θ u d)
chosen-typed {E} Part.run Γ Θ t A u d true e h = dead_terms_use_anything_holds E (ext Γ Θ) t A u (fill Θ d) e h
chosen-typed Part.run Γ Θ t A u d false e h = h
chosen-typed Part.erased Γ Θ t A u d b e h = h

chosen-fits : (r : Part) (Θ : Tele) (t : Term) (u d : Use) (b : Bool) → is_dead t ≡ b →
    InRun r (is_dead t ≡ false → BindersFit Θ u) →
    InRun r (BindersFit Θ (chosen r b Θ u d))
chosen-fits Part.run Θ t u d true e f = fill-fits Θ d
chosen-fits Part.run Θ t u d false e f = f e
chosen-fits Part.erased Θ t u d b e f = tt

chosen-share : (p : Part) → IsRun p → (q : Mult) (Θ : Tele) (u d : Use) (b : Bool) (x : Key) →
    q ⊙ outs (length Θ) (chosen (under p q) b Θ u d) x ≡ q ⊙ cond b (d x) (outs (length Θ) u x)
chosen-share Part.run r 𝟘 Θ u d b x = refl
chosen-share Part.run r 𝟙 Θ u d true x = fill-out Θ d x
chosen-share Part.run r 𝟙 Θ u d false x = refl
chosen-share Part.run r ω Θ u d true x = ap (λ m. ω ⊙ m) (fill-out Θ d x)
chosen-share Part.run r ω Θ u d false x = refl
chosen-share Part.erased r q Θ u d b x = absurd r

-- components with uses so chosen, after branches that make the join J: their sum and their join are those of the
-- live ones
record Chosen (E : Env) (p : Part) (Γ : Ctx) (ns : List ℕ) (ts : Terms) (js : List Judged)
    (J : Option Use) : Type 0 where
  judged_so : List Judged
  typed : TypedAll E p Γ ns ts judged_so
  alike : ButForUses js judged_so
  sums : IsRun p → (x : Key) → sum_of judged_so x ≡ sum_of (live ts js) x
  joins : IsRun p → (x : Key) → whole J (has_branch judged_so) (join_of judged_so x) x ≡ whole J
      (has_branch (live ts js)) (join_of (live ts js) x) x

either-way : (b : Bool) (m : Mult) → cond b m m ≡ m
either-way true m = refl
either-way false m = refl

module _ {E : Env} (p : Part) (Γ : Ctx) {ns : List ℕ} (t : Term) {ts : Terms} {Θ : Tele} {A : Term} {u : Use}
    {js : List Judged} where
  component-chosen : {q : Mult} (J : Option Use) → first ns ≡ length Θ → Typed E (under p q) (ext Γ Θ) t A u →
      InRun (under p q) (is_dead t ≡ false → BindersFit Θ u) →
      Chosen E p Γ (rest ns) ts js J → Chosen E p Γ ns (t ▸ ts) (judged Θ A q u ∷ js) J
  component-chosen {q} J i h f r = record {
    judged_so = judged Θ A q (chosen (under p q) (is_dead t) Θ u (outs (length Θ) u)) ∷ r.judged_so;
    typed =
        TypedAll.more i (chosen-typed (under p q) Γ Θ t A u (outs (length Θ) u) (is_dead t) refl h)
        (chosen-fits (under p q) Θ t u (outs (length Θ) u) (is_dead t) refl f) r.typed;
    alike = ButForUses.more r.alike;
    sums = λ i x.
        ap₂ (λ m n. m ⊕ n)
        (chosen-share p i q Θ u (outs (length Θ) u) (is_dead t) x
        ∙ ap (λ m. q ⊙ m) (either-way (is_dead t) (outs (length Θ) u x))) (r.sums i x);
    joins = r.joins;
  }

  live-chosen : (J : Option Use) → is_dead t ≡ false → first ns ≡ length Θ → Typed E p (ext Γ Θ) t A u →
      InRun p (is_dead t ≡ false → BindersFit Θ u) →
      Chosen E p Γ (rest ns) ts js (Some (met J (outs (length Θ) u))) → Chosen E p Γ ns (t ▸ ts) (branch Θ A u ∷ js) J
  live-chosen J e i h f r = record {
    judged_so = branch Θ A u ∷ r.judged_so;
    typed = TypedAll.more i h (in_run p (λ f. f e) f) r.typed;
    alike = ButForUses.more r.alike;
    sums = λ i x. r.sums i x ∙ sym (ap (λ L. sum_of L x) (live-branch t ts Θ A u js e));
    joins = λ i x.
        live-whole J (outs (length Θ) u) (has_branch r.judged_so) (join_of r.judged_so x) x ∙ r.joins i x
        ∙ sym (ap (λ L. whole J (has_branch L) (join_of L x) x) (live-branch t ts Θ A u js e)
        ∙ live-whole J (outs (length Θ) u) (has_branch (live ts js)) (join_of (live ts js) x) x);
  }

  dead-chosen : (J : Option Use) → is_dead t ≡ true → first ns ≡ length Θ → Typed E p (ext Γ Θ) t A u →
      InRun p (is_dead t ≡ false → BindersFit Θ u) →
      Chosen E p Γ (rest ns) ts js J → Chosen E p Γ ns (t ▸ ts) (branch Θ A u ∷ js) J
  dead-chosen J e i h f r =
      let d : Use = λ x. spare J (has_branch r.judged_so) (join_of r.judged_so x) x in
      record {
        judged_so = branch Θ A (chosen p true Θ u d) ∷ r.judged_so;
        typed = TypedAll.more i (chosen-typed p Γ Θ t A u d true e h) (chosen-fits p Θ t u d true e f) r.typed;
        alike = ButForUses.more r.alike;
        sums = λ i x. r.sums i x ∙ sym (ap (λ L. sum_of L x) (dead-branch t ts Θ A u js e));
        joins = λ i x.
            ap (λ k. whole J true (cond (has_branch r.judged_so) (join k (join_of r.judged_so x)) k) x)
            (chosen-share p i 𝟙 Θ u d true x)
            ∙ dead-whole J (has_branch r.judged_so) (join_of r.judged_so x) x ∙ r.joins i x
            ∙ sym (ap (λ L. whole J (has_branch L) (join_of L x) x) (dead-branch t ts Θ A u js e));
      }

  branch-chosen : (J : Option Use) (b : Bool) → is_dead t ≡ b → first ns ≡ length Θ → Typed E p (ext Γ Θ) t A u →
      InRun p (is_dead t ≡ false → BindersFit Θ u) →
      ((J : Option Use) → Chosen E p Γ (rest ns) ts js J) → Chosen E p Γ ns (t ▸ ts) (branch Θ A u ∷ js) J
  branch-chosen J true e i h f r = dead-chosen J e i h f (r J)
  branch-chosen J false e i h f r = live-chosen J e i h f (r (Some (met J (outs (length Θ) u))))

same-use : {E : Env} (p : Part) (Γ : Ctx) {ns : List ℕ} {ts : Terms} {js : List Judged} (own u : Use) →
    (o : Chosen E p Γ ns ts js None) →
    UseIs p Γ (total own (live ts js)) u → UseIs p Γ (total own o.judged_so) u
same-use Part.run Γ own u o e = λ x s. e x s
    ∙ sym (ap (λ m. own x ⊕ m) (ap₂ (λ m n. m ⊕ n) (o.sums tt x) (o.joins tt x)))
same-use Part.erased Γ own u o e = e

mutual
  pub typed-of : {E : Env} {p : Part} {Γ : Ctx} {t A : Term} {u : Use} → Accepts E p Γ t A u → Typed E p Γ t A u
  typed-of (Accepts.variable s m e) = Typed.variable s m e
  typed-of {p = p} {Γ = Γ} {u = u} (Accepts.by_rule {F = F} r s hs e) =
      let o = choose None (rule-asked r r) hs in
      Typed.by_rule (rule-uses (rule-own r) o.alike) o.typed (same-use p Γ (own_of F) u o e)
  typed-of (Accepts.conversion h c) = Typed.conversion (typed-of h) c

  choose : {E : Env} {p : Part} {Γ : Ctx} {ns : List ℕ} {ts : Terms} {js ks : List Judged} (J : Option Use) →
      SameAsked js ks →
      AcceptsAll E p Γ ns ts js → Chosen E p Γ ns ts js J
  choose J SameAsked.none AcceptsAll.none =
      record { judged_so = []; typed = TypedAll.none; alike = ButForUses.none; sums = λ r x. refl; joins = λ r x. refl }
  choose {p = p} {Γ = Γ} J (SameAsked.component a) (AcceptsAll.more {t = t} i h f hs) =
      component-chosen p Γ t J i (typed-of h) f (choose J a hs)
  choose {p = p} {Γ = Γ} J (SameAsked.branches a) (AcceptsAll.more {t = t} i h f hs) =
      branch-chosen p Γ t J (is_dead t) refl i (typed-of h) f (λ J. choose J a hs)

-- ---- where no Trap stands
and-false : (b : Bool) → (b && false) ≡ false
and-false true = refl
and-false false = refl

not-dead : (t : Term) → NoTrap t → is_dead t ≡ false
not-dead (Trap A) n = absurd (n.0 tt)
not-dead (Lam q A b) n = not-dead b n.1.1.0
not-dead _ n = refl

all-live : (ts : Terms) (js : List Judged) → NoTraps ts → length js ≡ size ts → live ts js ≡ js
all-live ε [] n e = refl
all-live ε (j ∷ js) n e = absurd (cc e)
all-live (t ▸ ts) [] n e = absurd (cc e)
all-live (t ▸ ts) (j ∷ js) n e =
    ap (λ d. cond d (live ts js) (j ∷ live ts js)) (ap (λ b. j.branch && b) (not-dead t n.0) ∙ and-false j.branch)
    ∙ ap (λ js. j ∷ js) (all-live ts js n.1 (cc e))

all-judged : {E : Env} {p : Part} {Γ : Ctx} {ns : List ℕ} {ts : Terms} {js : List Judged} → TypedAll E p Γ ns ts js →
    length js ≡ size ts
all-judged TypedAll.none = refl
all-judged (TypedAll.more i h f hs) = ap suc (all-judged hs)

pub trapless-under : (N : Type 0) (p : Part) (q : Mult) → InRun p N → InRun (under p q) N
trapless-under N p 𝟘 n = tt
trapless-under N p 𝟙 n = n
trapless-under N p ω n = n

live-use : {E : Env} (p : Part) {Γ : Ctx} {F : Form} {ts : Terms} {js : List Judged} {R : Term} {own : Use}
    (u : Use) → Rule E p F ts js R own →
    TypedAll E p Γ (binders F) ts js → InRun p (NoTrap (node F ts)) → UseIs p Γ (total own js) u →
    UseIs p Γ (total (own_of F) (live ts js)) u
live-use Part.run {F = F} {ts = ts} {js = js} u r hs n e = λ x s.
    e x s ∙ ap₂ (λ m ks. m ⊕ (sum_of ks x ⊕ join_of ks x)) (own-is r n.0 x) (sym (all-live ts js n.1 (all-judged hs)))
live-use Part.erased u r hs n e = e

mutual
  pub accepted-of : {E : Env} {p : Part} {Γ : Ctx} {t A : Term} {u : Use} → Typed E p Γ t A u → SmallSorts t →
      InRun p (NoTrap t) → Accepts E p Γ t A u
  accepted-of (Typed.variable i m e) s n = Accepts.variable i m e
  accepted-of {p = p} {u = u} (Typed.by_rule r hs e) s n =
      Accepts.by_rule r s.0 (all-accepted hs s.1 (in_run p (λ n. n.1) n)) (live-use p u r hs n e)
  accepted-of (Typed.conversion h c) s n = Accepts.conversion (accepted-of h s n) c

  all-accepted : {E : Env} {p : Part} {Γ : Ctx} {ns : List ℕ} {ts : Terms} {js : List Judged} →
      TypedAll E p Γ ns ts js → AllSmallSorts ts →
      InRun p (NoTraps ts) → AcceptsAll E p Γ ns ts js
  all-accepted TypedAll.none s n = AcceptsAll.none
  all-accepted {p = p} (TypedAll.more {j = j} i h f hs) s n =
      AcceptsAll.more i (accepted-of h s.0 (trapless-under _ p j.mult (in_run p (λ n. n.0) n)))
      (in_run (under p j.mult) (λ f e. f) f)
      (all-accepted hs s.1 (in_run p (λ n. n.1) n))

-- ---- what is dead uses nothing
pub zero-when-erased : {E : Env} {Γ : Ctx} {t A : Term} {u : Use} → Accepts E Part.erased Γ t A u →
    UsesAgree Γ u zero_use
zero-when-erased (Accepts.variable s m e) = e
zero-when-erased (Accepts.by_rule r s hs e) = e
zero-when-erased (Accepts.conversion h c) = zero-when-erased h

trap-idle : {E : Env} {A R : Term} {js : List Judged} {own : Use} → Rule E Part.run Form.trap (A ▸ ε) js R own →
    (x : Key) → total zero_use (live (A ▸ ε) js) x ≡ 𝟘
trap-idle Rule.trap x = refl

out-zero : (x : Key) → out zero_use x ≡ 𝟘
out-zero (Key.v i) = refl
out-zero (Key.h i) = refl

lam-idle : {E : Env} {Γ : Ctx} {q : Mult} {A b R : Term} {js : List Judged} {own : Use} →
    Rule E Part.run (Form.lam q) (A ▸ b ▸ ε) js R own →
    AcceptsAll E Part.run Γ (0 ∷ 1 ∷ []) (A ▸ b ▸ ε) js →
    ((C : Term) (w : Use) → Accepts E Part.run ((q, A) ∷ Γ) b C w → UsesAgree ((q, A) ∷ Γ) w zero_use) →
    UsesAgree Γ (total zero_use (live (A ▸ b ▸ ε) js)) zero_use
lam-idle {Γ = Γ} {q = q} {A = A} (Rule.lam {B = B} {w = w})
    (AcceptsAll.more d hA f (AcceptsAll.more e hb g AcceptsAll.none)) o x s =
    ⊕-zero _ ∙ ⊕-zero (out w x) ∙ agree-out Γ (q, A) w zero_use (o B w hb) x s ∙ out-zero x

dead-idle : {E : Env} (t : Term) → is_dead t ≡ true → (Γ : Ctx) (A : Term) (u : Use) → Accepts E Part.run Γ t A u →
    UsesAgree Γ u zero_use
dead-idle (Trap B) e Γ A u h x s = let a = of-form h in a.uses x s ∙ trap-idle a.rule x
dead-idle (Lam q B b) e Γ A u h x s =
    let a = of-form h in a.uses x s ∙ lam-idle a.rule a.components (λ C w k. dead-idle b e ((q, B) ∷ Γ) C w k) x s
dead-idle _ e Γ A u h x s = absurd (cc e)

pub dead-uses-nothing : {E : Env} (p : Part) (Γ : Ctx) (t A : Term) (u : Use) → is_dead t ≡ true →
    Accepts E p Γ t A u → UsesAgree Γ u zero_use
dead-uses-nothing Part.run Γ t A u e h = dead-idle t e Γ A u h
dead-uses-nothing Part.erased Γ t A u e h = zero-when-erased h
