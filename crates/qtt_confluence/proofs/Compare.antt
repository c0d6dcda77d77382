-- Rigid heads, and what Different says.
use Rattle.std.proofs.Common.{◌≡◌, ℕ, zero, suc, List, [], ◌∷◌, ◌++◌, refl, sym, ap, subst, Option, Some, None, Bool, true, false, cond, not, ◌&&◌, eqb, eq-eqb, ◌⊎◌, inl, inr}
use Rattle.std.proofs.lemmas.Bool.{eqb-true, and_parts}
use Rattle.qtt_prims.specs.declared.lit.Lit.{Lit}
use Rattle.qtt_term.specs.Term.{Named, Form, Term, Terms, var, node, ε, ◌▸◌, size}
use Rattle.qtt_term.specs.Signature.{Env}
use Rattle.qtt_term.specs.Contraction.{BodiesClosed, as_lit, contract, Step, Steps, Conv}
use Rattle.qtt_term.specs.Question.{either, wrap, argument_step, scrutinee_place, asked, head_step, step_at, arguments_step, same_form, same, same_outline, Item, beside, components, Move, of_heads, move, Answer, follow, answer, weight_of, within_count, compare}
use Rattle.qtt_term.proofs.Same.{form-is, form-same, same-is}
use Rattle.qtt_term.proofs.Options.{none≢some, some-injective}
use Rattle.qtt_confluence.specs.Heads.{IsHead, Outline, outline, parts}
use Rattle.qtt_confluence.specs.Injective.{Convs}
use Rattle.qtt_confluence.proofs.Parallel.{Par, ParMany}
use Rattle.qtt_confluence.proofs.Confluence.{conv-inside, convs-same, convs-back, convs-thence, pars-convs, conv-meet}
use Rattle.qtt_confluence.proofs.Heads.{stays, no-root}

-- ---- a step toward the head is a contraction
pub either-some : {A : Type 0} (o p : Option A) (a : A) → either o p ≡ Some a → (o ≡ Some a) ⊎ (p ≡ Some a)
either-some None p a e = inr e
either-some (Some b) p a e = inl e

pub wrap-some : {A B : Type 0} (g : A → B) (o : Option A) (b : B) → wrap g o ≡ Some b →
    (a : A) × (o ≡ Some a) × (g a ≡ b)
wrap-some g None b e = absurd (none≢some e)
wrap-some g (Some a) b e = (a, refl, some-injective e)

asked-steps : (E : Env) (F : Form) (ts ss : Terms) → ((n : ℕ) → step_at E ts n ≡ Some ss → Steps E ts ss) →
    (arguments_step E ts ≡ Some ss → Steps E ts ss) →
    asked F (step_at E ts) (arguments_step E ts) ≡ Some ss → Steps E ts ss
asked-steps E (Form.app q) ts ss one more h = one 0 h
asked-steps E (Form.case q f k m ns) ts ss one more h = one (scrutinee_place k ns) h
asked-steps E (Form.delete q) ts ss one more h = one 4 h
asked-steps E (Form.named (Named.prim p)) ts ss one more h = more h
asked-steps E (Form.named (Named.def d)) ts ss one more h = absurd (none≢some h)
asked-steps E (Form.named (Named.lit l)) ts ss one more h = absurd (none≢some h)
asked-steps E (Form.named (Named.prim_ty t)) ts ss one more h = absurd (none≢some h)
asked-steps E (Form.named (Named.act a k)) ts ss one more h = absurd (none≢some h)
asked-steps E _ ts ss one more h = absurd (none≢some h)

node-step : (E : Env) (F : Form) (ts : Terms) (s : Term) (o : Option Terms) →
    (contract E F ts ≡ Some s) ⊎ (wrap (node F) o ≡ Some s) →
    ((ss : Terms) → o ≡ Some ss → Steps E ts ss) → Step E (node F ts) s
node-step E F ts s o (inl r) k = Step.here r
node-step E F ts s o (inr r) k = let w =
    wrap-some (node F) o s r in subst (Step E (node F ts)) w.2 (Step.inside (k w.0 w.1))

argument-steps : (E : Env) (t : Term) (ts ss : Terms) (o : Option Lit) →
    argument_step o t ts (head_step E t) (arguments_step E ts) ≡ Some ss →
    ((s : Term) → head_step E t ≡ Some s → Step E t s) →
    ((rs : Terms) → arguments_step E ts ≡ Some rs → Steps E ts rs) → Steps E (t ▸ ts) ss
argument-steps E t ts ss None r one more =
    let w = wrap-some (λ s. s ▸ ts) (head_step E t) ss r in subst (Steps E (t ▸ ts)) w.2 (Steps.at (one w.0 w.1))
argument-steps E t ts ss (Some l) r one more =
    let w = wrap-some (λ ss. t ▸ ss) (arguments_step E ts) ss r in subst (Steps E (t ▸ ts)) w.2
    (Steps.after (more w.0 w.1))

mutual
  pub head-steps : (E : Env) (t s : Term) → head_step E t ≡ Some s → Step E t s
  head-steps E (var i) s h = absurd (none≢some h)
  head-steps E (node F ts) s h =
      node-step E F ts s (asked F (step_at E ts) (arguments_step E ts))
      (either-some (contract E F ts) (wrap (node F) (asked F (step_at E ts) (arguments_step E ts))) s h)
      (λ ss k. asked-steps E F ts ss (λ n k. at-steps E ts ss n k) (λ k. args-steps E ts ss k) k)

  at-steps : (E : Env) (ts ss : Terms) (n : ℕ) → step_at E ts n ≡ Some ss → Steps E ts ss
  at-steps E ε ss n h = absurd (none≢some h)
  at-steps E (t ▸ ts) ss zero h =
      let w = wrap-some (λ s. s ▸ ts) (head_step E t) ss h in subst (Steps E (t ▸ ts)) w.2
      (Steps.at (head-steps E t w.0 w.1))
  at-steps E (t ▸ ts) ss (suc n) h =
      let w = wrap-some (λ ss. t ▸ ss) (step_at E ts n) ss h in subst (Steps E (t ▸ ts)) w.2
      (Steps.after (at-steps E ts w.0 n w.1))

  args-steps : (E : Env) (ts ss : Terms) → arguments_step E ts ≡ Some ss → Steps E ts ss
  args-steps E ε ss h = absurd (none≢some h)
  args-steps E (t ▸ ts) ss h =
      argument-steps E t ts ss (as_lit t) h (λ s k. head-steps E t s k) (λ rs k. args-steps E ts rs k)

-- ---- heads that are convertible are so in each component
data Within (E : Env) : Term → Term → Type 0 where
  in_var : {i : ℕ} → Within E (var i) (var i)
  in_node : {F : Form} {ts ss : Terms} → Convs E ts ss → Within E (node F ts) (node F ss)

within-refl : {E : Env} (t : Term) → Within E t t
within-refl (var i) = Within.in_var
within-refl (node F ts) = Within.in_node (convs-same ts)

within-flip : {E : Env} {t s : Term} → Within E t s → Within E s t
within-flip Within.in_var = Within.in_var
within-flip (Within.in_node h) = Within.in_node (convs-back h)

within-join : {E : Env} {t s r : Term} → Within E t s → Within E s r → Within E t r
within-join Within.in_var Within.in_var = Within.in_var
within-join (Within.in_node h) (Within.in_node k) = Within.in_node (convs-thence h k)

module _ (E : Env) where
  par-within : (t s : Term) → Par (contract E) t s → head_step E t ≡ None → Within E t s
  par-within t s Par.pvar h = Within.in_var
  par-within t s (Par.pnode hs) h = Within.in_node (pars-convs hs)
  par-within t s (Par.proot {F} {ts} {ss} hs r) h = absurd (no-root E F ts ss s hs h r)

  many-within : {t s : Term} → ParMany (contract E) t s → head_step E t ≡ None → Within E t s
  many-within {t} ParMany.pdone h = within-refl t
  many-within {t} (ParMany.pthen {s = s} k ks) h = within-join (par-within t s k h) (many-within ks (stays E t s k h).0)

  heads-within : BodiesClosed E → (t s : Term) → head_step E t ≡ None → head_step E s ≡ None → Conv E t s → Within E t s
  heads-within bodies t s h k r =
      let m = conv-meet bodies r in
      within-join (many-within m.1 h) (within-flip (many-within m.2 k))

-- ---- the tests
convs-size : {E : Env} {ts ss : Terms} → Convs E ts ss → size ts ≡ size ss
convs-size Convs.none = refl
convs-size (Convs.more h hs) = ap suc (convs-size hs)

within-outline : {E : Env} {t s : Term} → Within E t s → same_outline t s ≡ true
within-outline (Within.in_var {i}) = eq-eqb i i refl
within-outline (Within.in_node {F} {ts} {ss} h) = rw (form-same F, eq-eqb (size ts) (size ss) (convs-size h)) refl

within-agree : {E : Env} {t s : Term} → Within E t s → (outline t ≡ outline s) × Convs E (parts t) (parts s)
within-agree Within.in_var = (refl, Convs.none)
within-agree (Within.in_node {F} h) = (ap (Outline.form F) (convs-size h), h)

pub agree : (E : Env) → BodiesClosed E → (t s : Term) → IsHead E t → IsHead E s → Conv E t s →
    (outline t ≡ outline s) × Convs E (parts t) (parts s)
agree E bodies t s h k c = within-agree (heads-within E bodies t s h k c)

-- ---- items
abbrev AllConv : Env → List Item → Type 0
AllConv E [] = Unit {0}
AllConv E (i ∷ is) = Conv E i.left i.right × AllConv E is

all-append : (E : Env) (is js : List Item) → AllConv E is → AllConv E js → AllConv E (is ++ js)
all-append E [] js h k = k
all-append E (i ∷ is) js h k = (h.0, all-append E is js h.1 k)

beside-conv : (E : Env) (path : List ℕ) (k : ℕ) (ts ss : Terms) → Convs E ts ss → AllConv E (beside path k ts ss)
beside-conv E path k ts ss Convs.none = tt
beside-conv E path k ts ss (Convs.more {ts = ts'} {ss = ss'} h hs) = (h, beside-conv E path (suc k) ts' ss' hs)

components-conv : (E : Env) (path : List ℕ) (t s : Term) → Within E t s → AllConv E (components path t s)
components-conv E path t s Within.in_var = tt
components-conv E path t s (Within.in_node {ts = ts} {ss = ss} h) = beside-conv E path 0 ts ss h

abbrev Holds : Env → Move → Type 0
Holds E (Move.splits js) = AllConv E js
Holds E (Move.contracts j) = Conv E j.left j.right
Holds E Move.differs = ⊥

cond-holds : (E : Env) (b : Bool) (x y : Move) → Holds E x → Holds E y → Holds E (cond b x y)
cond-holds E true x y h k = h
cond-holds E false x y h k = k

of_heads-holds : (E : Env) → BodiesClosed E → (a b : Option Term) (i : Item) → head_step E i.left ≡ a →
    head_step E i.right ≡ b →
    Conv E i.left i.right → Holds E (of_heads a b i)
of_heads-holds E bodies (Some t) b i h k c = Conv.thence (Conv.back (Conv.by_step (head-steps E i.left t h))) c
of_heads-holds E bodies None (Some s) i h k c = Conv.thence c (Conv.by_step (head-steps E i.right s k))
of_heads-holds E bodies None None i h k c =
    let w = heads-within E bodies i.left i.right h k c in
    subst (λ b. Holds E (cond b (Move.splits (components i.path i.left i.right)) Move.differs)) (sym (within-outline w))
    (components-conv E i.path i.left i.right w)

move-holds : (E : Env) → BodiesClosed E → (i : Item) → Conv E i.left i.right → Holds E (move E i)
move-holds E bodies i c =
    cond-holds E (not i.tested && same i.left i.right) (Move.splits [])
    (of_heads (head_step E i.left) (head_step E i.right) i) tt
    (of_heads-holds E bodies (head_step E i.left) (head_step E i.right) i refl refl c)

abbrev NeverDiffers : Env → (List Item → Answer) → Type 0
NeverDiffers E g = (is : List Item) → AllConv E is → (p : List ℕ) → g is ≡ Answer.different p → ⊥

follow-holds : (E : Env) (x : Move) (i : Item) (is : List Item) (again next : List Item → Answer) → Holds E x →
    AllConv E is →
    NeverDiffers E again → NeverDiffers E next →
    (p : List ℕ) → follow x i is again next ≡ Answer.different p → ⊥
follow-holds E (Move.splits js) i is again next h hs r n p d = r (js ++ is) (all-append E js is h hs) p d
follow-holds E (Move.contracts j) i is again next h hs r n p d = n (j ∷ is) (h, hs) p d
follow-holds E Move.differs i is again next h hs r n p d = absurd h

answer-holds : (E : Env) → BodiesClosed E → (next : List Item → Answer) → NeverDiffers E next →
    (s : ℕ) → NeverDiffers E (answer E next s)
answer-holds E bodies next n s [] h p d = cc d
answer-holds E bodies next n zero (i ∷ is) h p d = cc d
answer-holds E bodies next n (suc s) (i ∷ is) h p d =
    follow-holds E (move E i) i is (λ js. answer E next s js) next (move-holds E bodies i h.0) h.1
    (answer-holds E bodies next n s) n p d

within-holds : (E : Env) → BodiesClosed E → (n : ℕ) → NeverDiffers E (within_count E n)
within-holds E bodies zero is h p d =
    answer-holds E bodies (λ js. Answer.spent) (λ js k q e. cc e) (weight_of is) is h p d
within-holds E bodies (suc n) is h p d =
    answer-holds E bodies (within_count E n) (within-holds E bodies n) (weight_of is) is h p d

pub apart : (E : Env) → BodiesClosed E → (n : ℕ) (t s : Term) (p : List ℕ) →
    compare E n t s ≡ Answer.different p → Conv E t s → ⊥
apart E bodies n t s p d c = within-holds E bodies n _ (c, tt) p d

-- ---- where the answer is Equal
beside-convs : (E : Env) (path : List ℕ) (k : ℕ) (ts ss : Terms) → size ts ≡ size ss →
    AllConv E (beside path k ts ss) → Convs E ts ss
beside-convs E path k ε ε e h = Convs.none
beside-convs E path k (t ▸ ts) (s ▸ ss) e h = Convs.more h.0 (beside-convs E path (suc k) ts ss (cc e) h.1)
beside-convs E path k ε (s ▸ ss) e h = absurd (cc e)
beside-convs E path k (t ▸ ts) ε e h = absurd (cc e)

components-conv-back : (E : Env) (path : List ℕ) (t s : Term) → same_outline t s ≡ true →
    AllConv E (components path t s) → Conv E t s
components-conv-back E path (var i) (var j) e h = subst (λ s. Conv E (var i) s) (ap var (eqb-true i j e)) Conv.same
components-conv-back E path (node F ts) (node G ss) e h =
    let a = and_parts (same_form F G) (eqb (size ts) (size ss)) e in
    subst (λ G. Conv E (node F ts) (node G ss)) (form-is F G a.0)
    (conv-inside (beside-convs E path 0 ts ss (eqb-true (size ts) (size ss) a.1) h))
components-conv-back E path (var i) (node G ss) e h = absurd (cc e)
components-conv-back E path (node F ts) (var j) e h = absurd (cc e)

-- what a move leaves to show
abbrev Leaves : Env → Item → Move → Type 0
Leaves E i (Move.splits js) = AllConv E js → Conv E i.left i.right
Leaves E i (Move.contracts j) = Conv E j.left j.right → Conv E i.left i.right
Leaves E i Move.differs = Unit {0}

outline-leaves : (E : Env) (i : Item) (b : Bool) → same_outline i.left i.right ≡ b →
    Leaves E i (cond b (Move.splits (components i.path i.left i.right)) Move.differs)
outline-leaves E i true e = λ h. components-conv-back E i.path i.left i.right e h
outline-leaves E i false e = tt

of_heads-leaves : (E : Env) (a b : Option Term) (i : Item) → head_step E i.left ≡ a → head_step E i.right ≡ b →
    Leaves E i (of_heads a b i)
of_heads-leaves E (Some t) b i h k = λ c. Conv.thence (Conv.by_step (head-steps E i.left t h)) c
of_heads-leaves E None (Some s) i h k = λ c. Conv.thence c (Conv.back (Conv.by_step (head-steps E i.right s k)))
of_heads-leaves E None None i h k = outline-leaves E i (same_outline i.left i.right) refl

same-leaves : (E : Env) (i : Item) (a b : Bool) (x : Move) → same i.left i.right ≡ b → Leaves E i x →
    Leaves E i (cond (a && b) (Move.splits []) x)
same-leaves E i false b x e h = h
same-leaves E i true false x e h = h
same-leaves E i true true x e h = λ u. subst (λ s. Conv E i.left s) (same-is i.left i.right e) Conv.same

move-leaves : (E : Env) (i : Item) → Leaves E i (move E i)
move-leaves E i =
    same-leaves E i (not i.tested) (same i.left i.right) (of_heads (head_step E i.left) (head_step E i.right) i) refl
    (of_heads-leaves E (head_step E i.left) (head_step E i.right) i refl refl)

all-front : (E : Env) (is js : List Item) → AllConv E (is ++ js) → AllConv E is × AllConv E js
all-front E [] js h = (tt, h)
all-front E (i ∷ is) js h = let r = all-front E is js h.1 in ((h.0, r.0), r.1)

abbrev Proves : Env → (List Item → Answer) → Type 0
Proves E g = (is : List Item) → g is ≡ Answer.equal → AllConv E is

follow-proves : (E : Env) (x : Move) (i : Item) (is : List Item) (again next : List Item → Answer) →
    Leaves E i x → Proves E again →
    Proves E next →
    follow x i is again next ≡ Answer.equal → AllConv E (i ∷ is)
follow-proves E (Move.splits js) i is again next h r n d = let a = all-front E js is (r (js ++ is) d) in (h a.0, a.1)
follow-proves E (Move.contracts j) i is again next h r n d = let a = n (j ∷ is) d in (h a.0, a.1)
follow-proves E Move.differs i is again next h r n d = absurd (cc d)

answer-proves : (E : Env) (next : List Item → Answer) → Proves E next → (s : ℕ) → Proves E (answer E next s)
answer-proves E next n s [] d = tt
answer-proves E next n zero (i ∷ is) d = absurd (cc d)
answer-proves E next n (suc s) (i ∷ is) d =
    follow-proves E (move E i) i is (λ js. answer E next s js) next (move-leaves E i) (answer-proves E next n s) n d

within-proves : (E : Env) (n : ℕ) → Proves E (within_count E n)
within-proves E zero is d = answer-proves E (λ js. Answer.spent) (λ js e. absurd (cc e)) (weight_of is) is d
within-proves E (suc n) is d = answer-proves E (within_count E n) (within-proves E n) (weight_of is) is d

pub convertible : (E : Env) (n : ℕ) (t s : Term) → compare E n t s ≡ Answer.equal → Conv E t s
convertible E n t s d = (within-proves E n _ d).0
