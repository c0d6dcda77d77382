-- A term that is accepted has one use in the run part, and so has a typed term in which no Trap stands.
use Rattle.std.proofs.Common.{◌≡◌, ℕ, suc, List, [], ◌∷◌, length, refl, sym, ◌∙◌, ap}
use Rattle.qtt_usage.specs.declared.mult.Mult.{Mult}
use Rattle.qtt_usage.specs.Mult.{𝟘, 𝟙, ω, ◌⊙◌}
use Rattle.qtt_usage.specs.Uses.{Key, Use, unit, out, outs}
use Rattle.qtt_term.specs.Term.{Form, binders, Term, Terms, var, node, ε, ◌▸◌}
use Rattle.qtt_term.specs.Signature.{Tele, Env}
use Rattle.qtt_term.specs.Contraction.{Conv}
use Rattle.qtt_term.specs.Judgement.{Ctx, KeyIn, ext, Part, under, UseIs, Judged, total, Rule, Typed, TypedAll}
use Rattle.qtt_term.specs.Accepted.{live, own_of, IsSmall, Accepts, AcceptsAll}
use Rattle.qtt_preserve.proofs.Inverted.{inverted}
use Rattle.qtt_core_check.specs.Trapless.{IsTrap, NoTrap, NoTraps}
use Rattle.qtt_core_check.proofs.Asked.{SameAsked, rule-asked, SharesAgree, totals-agree, live-agree}

-- two uses that are equal in a context
abbrev pub UsesAgree : Ctx → Use → Use → Type 0
UsesAgree Γ u w = (x : Key) → KeyIn Γ x → u x ≡ w x

pub agree-out : (Γ : Ctx) (b : Mult × Term) (u w : Use) → UsesAgree (b ∷ Γ) u w → UsesAgree Γ (out u) (out w)
agree-out Γ b u w h (Key.v i) s = h (Key.v (suc i)) s
agree-out Γ b u w h (Key.h i) s = h (Key.h i) s

agree-outs : (Γ : Ctx) (Θ : Tele) (u w : Use) → UsesAgree (ext Γ Θ) u w →
    UsesAgree Γ (outs (length Θ) u) (outs (length Θ) w)
agree-outs Γ [] u w h = h
agree-outs Γ (b ∷ Θ) u w h = agree-out Γ b (outs (length Θ) u) (outs (length Θ) w) (agree-outs (b ∷ Γ) Θ u w h)

-- the share of a component, whose use counts in the run part alone
at-share : (J : Part → Use → Use → Type 0) (Γ : Ctx) (Θ : Tele) (q : Mult) (u w : Use) →
    (J Part.run u w → UsesAgree (ext Γ Θ) u w) → J (under Part.run q) u w →
    (x : Key) → KeyIn Γ x → q ⊙ outs (length Θ) u x ≡ q ⊙ outs (length Θ) w x
at-share J Γ Θ 𝟘 u w o h x s = refl
at-share J Γ Θ 𝟙 u w o h x s = agree-outs Γ Θ u w (o h) x s
at-share J Γ Θ ω u w o h x s = ap (λ m. ω ⊙ m) (agree-outs Γ Θ u w (o h) x s)

-- ---- accepted terms
abbrev pub OneAccepted : Env → Term → Type 0
OneAccepted E t = (Γ : Ctx) (A B : Term) (u w : Use) → Accepts E Part.run Γ t A u → Accepts E Part.run Γ t B w →
    UsesAgree Γ u w

abbrev AllOneAccepted : Env → Terms → Type 0
AllOneAccepted E ε = Unit {0}
AllOneAccepted E (t ▸ ts) = OneAccepted E t × AllOneAccepted E ts

-- what a derivation of a form ends with, but for conversion
pub record FormAccepted (E : Env) (p : Part) (Γ : Ctx) (F : Form) (ts : Terms) (A : Term) (u : Use) : Type 0 where
  pub judged_so : List Judged
  pub type : Term
  pub own : Use
  pub rule : Rule E p F ts judged_so type own
  pub small : IsSmall F
  pub components : AcceptsAll E p Γ (binders F) ts judged_so
  pub conv : Conv E type A
  pub uses : UseIs p Γ (total (own_of F) (live ts judged_so)) u

pub of-form : {E : Env} {p : Part} {Γ : Ctx} {F : Form} {ts : Terms} {A : Term} {u : Use} →
    Accepts E p Γ (node F ts) A u → FormAccepted E p Γ F ts A u
of-form (Accepts.by_rule {js = js} {R = R} {own = own} r s hs e) =
    record { judged_so = js; type = R; own = own; rule = r; small = s; components = hs; conv = Conv.same; uses = e }
of-form (Accepts.conversion h c) =
    let a = of-form h in
    record {
      judged_so = a.judged_so;
      type = a.type;
      own = a.own;
      rule = a.rule;
      small = a.small;
      components =
          a.components;
      conv = Conv.thence a.conv c;
      uses = a.uses;
    }

module _ (E : Env) where
  accepted-shares : {Γ : Ctx} {ns : List ℕ} {ts : Terms} {js ks : List Judged} → SameAsked js ks →
      AcceptsAll E Part.run Γ ns ts js → AcceptsAll E Part.run Γ ns ts ks →
      AllOneAccepted E ts → (x : Key) → KeyIn Γ x → SharesAgree x js ks
  accepted-shares SameAsked.none AcceptsAll.none AcceptsAll.none o x s = SharesAgree.none
  accepted-shares {Γ} (SameAsked.component {Θ = Θ} {A = A} {B = B} {q = q} {u = u} {w = w} a)
      (AcceptsAll.more {t = t} i h f hs) (AcceptsAll.more j k g ks) o x s =
      SharesAgree.more
      (at-share (λ p u w. Accepts E p (ext Γ Θ) t A u × Accepts E p (ext Γ Θ) t B w) Γ Θ q u w
      (λ c. o.0 (ext Γ Θ) A B u w c.0 c.1) (h, k) x s)
      (accepted-shares a hs ks o.1 x s)
  accepted-shares {Γ} (SameAsked.branches {Θ = Θ} {A = A} {B = B} {u = u} {w = w} a)
      (AcceptsAll.more {t = t} i h f hs) (AcceptsAll.more j k g ks) o x s =
      SharesAgree.more (agree-outs Γ Θ u w (o.0 (ext Γ Θ) A B u w h k) x s) (accepted-shares a hs ks o.1 x s)

  variable-use : {Γ : Ctx} {i : ℕ} {A : Term} {u : Use} → Accepts E Part.run Γ (var i) A u →
      UsesAgree Γ u (unit (Key.v i))
  variable-use (Accepts.variable h m e) = e
  variable-use (Accepts.conversion h c) = variable-use h

  mutual
    pub one-accepted : (t : Term) → OneAccepted E t
    one-accepted (var i) Γ A B u w h k x s = variable-use h x s ∙ sym (variable-use k x s)
    one-accepted (node F ts) Γ A B u w h k x s =
        let a = of-form h in
        let b = of-form k in
        a.uses x s
        ∙ totals-agree (own_of F) (own_of F) refl
        (live-agree ts (accepted-shares (rule-asked a.rule b.rule) a.components b.components
        (all-one-accepted ts) x s))
        ∙ sym (b.uses x s)

    all-one-accepted : (ts : Terms) → AllOneAccepted E ts
    all-one-accepted ε = tt
    all-one-accepted (t ▸ ts) = (one-accepted t, all-one-accepted ts)

-- ---- typed terms in which no Trap stands
abbrev pub OneUse : Env → Term → Type 0
OneUse E t = NoTrap t → (Γ : Ctx) (A B : Term) (u w : Use) → Typed E Part.run Γ t A u → Typed E Part.run Γ t B w →
    UsesAgree Γ u w

abbrev AllOneUse : Env → Terms → Type 0
AllOneUse E ε = Unit {0}
AllOneUse E (t ▸ ts) = OneUse E t × AllOneUse E ts

-- of its own a form uses what its rule says, where it is no Trap
pub own-is : {E : Env} {p : Part} {F : Form} {ts : Terms} {js : List Judged} {R : Term} {own : Use} →
    Rule E p F ts js R own → (IsTrap F → ⊥) →
    (x : Key) → own x ≡ own_of F x
own-is Rule.sort n x = refl
own-is Rule.pi n x = refl
own-is Rule.lam n x = refl
own-is Rule.app n x = refl
own-is (Rule.fam h a) n x = refl
own-is (Rule.con i a) n x = refl
own-is (Rule.case h u a) n x = refl
own-is (Rule.delete u) n x = refl
own-is (Rule.named h u a) n x = refl
own-is Rule.trap n x = absurd (n tt)
own-is Rule.tape n x = refl

module _ (E : Env) where
  typed-shares : {Γ : Ctx} {ns : List ℕ} {ts : Terms} {js ks : List Judged} → SameAsked js ks →
      TypedAll E Part.run Γ ns ts js → TypedAll E Part.run Γ ns ts ks →
      AllOneUse E ts → NoTraps ts → (x : Key) → KeyIn Γ x → SharesAgree x js ks
  typed-shares SameAsked.none TypedAll.none TypedAll.none o n x s = SharesAgree.none
  typed-shares {Γ} (SameAsked.component {Θ = Θ} {A = A} {B = B} {q = q} {u = u} {w = w} a)
      (TypedAll.more {t = t} i h f hs) (TypedAll.more j k g ks) o n x s =
      SharesAgree.more
      (at-share (λ p u w. Typed E p (ext Γ Θ) t A u × Typed E p (ext Γ Θ) t B w) Γ Θ q u w
      (λ c. o.0 n.0 (ext Γ Θ) A B u w c.0 c.1) (h, k) x s)
      (typed-shares a hs ks o.1 n.1 x s)
  typed-shares {Γ} (SameAsked.branches {Θ = Θ} {A = A} {B = B} {u = u} {w = w} a) (TypedAll.more {t = t} i h f hs)
      (TypedAll.more j k g ks) o n x s =
      SharesAgree.more (agree-outs Γ Θ u w (o.0 n.0 (ext Γ Θ) A B u w h k) x s) (typed-shares a hs ks o.1 n.1 x s)

  mutual
    pub one-use : (t : Term) → OneUse E t
    one-use (var i) n Γ A B u w h k x s =
        let inv = inverted E Part.run Γ in (inv.variable i A u h).3 x s ∙ sym ((inv.variable i B w k).3 x s)
    one-use (node F ts) n Γ A B u w h k x s =
        let (js, R, own, r, hs, c, e) = (inverted E Part.run Γ).form F ts A u h in
        let (ks, T, any, z, ls, d, g) = (inverted E Part.run Γ).form F ts B w k in
        e x s ∙ totals-agree own any (own-is r n.0 x ∙ sym (own-is z n.0 x))
        (typed-shares (rule-asked r z) hs ls (all-one-use ts) n.1 x s) ∙ sym (g x s)

    all-one-use : (ts : Terms) → AllOneUse E ts
    all-one-use ε = tt
    all-one-use (t ▸ ts) = (one-use t, all-one-use ts)
