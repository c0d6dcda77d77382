-- The head of a term with its frames.
use Rattle.std.proofs.Common.{◌≡◌, ℕ, zero, suc, ◌+◌, ◌<◌, List, [], ◌∷◌, ◌++◌, map, length, Option, Some, None, refl, sym, ◌∙◌, ap, subst, arith}
use Rattle.qtt_usage.specs.declared.mult.Mult.{Mult}
use Rattle.qtt_base.specs.declared.place.GlobalId.{GlobalId}
use Rattle.qtt_prims.specs.declared.lit.Lit.{Lit}
use Rattle.qtt_term.specs.Term.{Named, Form, Term, Terms, var, node, ε, ◌▸◌, size, skip}
use Rattle.qtt_term.specs.Signature.{Env}
use Rattle.qtt_term.specs.Substitution.{sub}
use Rattle.qtt_term.specs.Contraction.{chain, as_lam, beta, as_con, scrutinee, select, iota, deletion, as_lit, literals, literal_term, computed, contract}
use Rattle.qtt_term.specs.Question.{either, wrap, scrutinee_place, asked, head_step, step_at, arguments_step}
use Rattle.qtt_term.proofs.Options.{none≢some}
use Rattle.qtt_envconv.specs.declared.frame.Frame.{Frame}
use Rattle.qtt_envconv.specs.Closures.{closure}
use Rattle.qtt_envconv.specs.Shapes.{literal}
use Rattle.qtt_envconv.specs.Nodes.{put, over, put_in, over_in}
use Rattle.qtt_envconv.specs.Frames.{plug, plug_all, TakesAt, Takes, IsFrame, AreFrames, IsCall, IsCallOf, Fits, Waits, contracted, behind, all_behind, IsNoValue, HasStopped}

-- ---- options
wrap-wrap : {A B C : Type 0} (g : B → C) (h : A → B) (o : Option A) → wrap g (wrap h o) ≡ wrap (λ a. g (h a)) o
wrap-wrap g h None = refl
wrap-wrap g h (Some a) = refl

either-no_first : {A : Type 0} (o p : Option A) → o ≡ None → either o p ≡ p
either-no_first None p e = refl
either-no_first (Some a) p e = absurd (none≢some (sym e))

-- ---- terms in the place of components
pub put-size : (k : ℕ) (s : Term) (ts : Terms) → size (put k s ts) ≡ size ts
put-size k s ε = refl
put-size zero s (t ▸ ts) = refl
put-size (suc k) s (t ▸ ts) = ap suc (put-size k s ts)

pub over-size : (ls : List Lit) (ts : Terms) → size (over ls ts) ≡ size ts
over-size [] ts = refl
over-size (l ∷ ls) ε = refl
over-size (l ∷ ls) (t ▸ ts) = ap suc (over-size ls ts)

step_at-put : (E : Env) (ts : Terms) (k : ℕ) (t : Term) → k < size ts →
    step_at E (put k t ts) k ≡ wrap (λ s. put k s ts) (head_step E t)
step_at-put E ε k t e = absurd (omega arith)
step_at-put E (u ▸ ts) zero t e = refl
step_at-put E (u ▸ ts) (suc k) t e =
    ap (wrap (λ ss. u ▸ ss)) (step_at-put E ts k t (omega arith)) ∙ wrap-wrap _ _ (head_step E t)

-- ---- a primitive behind literals
argument_step-put : (E : Env) (ls : List Lit) (ts : Terms) (t : Term) → length ls < size ts → as_lit t ≡ None →
    arguments_step E (put (length ls) t (over ls ts)) ≡ wrap (λ s. put (length ls) s (over ls ts)) (head_step E t)
argument_step-put E ls ε t e h = absurd (omega arith)
argument_step-put E [] (u ▸ ts) t e h = rw h refl
argument_step-put E (l ∷ ls) (u ▸ ts) t e h =
    ap (wrap (λ ss. literal_term l ▸ ss)) (argument_step-put E ls ts t (omega arith) h)
    ∙ wrap-wrap _ _ (head_step E t)

literals-put : (k : ℕ) (ts : Terms) (t : Term) → k < size ts → as_lit t ≡ None → literals (put k t ts) ≡ None
literals-put k ε t e h = absurd (omega arith)
literals-put zero (u ▸ ts) t e h = rw h refl
literals-put (suc k) (u ▸ ts) t e h = by (as_lit u) (literals-put k ts t (omega arith) h)
  where
    by : (o : Option Lit) → literals (put k t ts) ≡ None →
        chain o (λ l. chain (literals (put k t ts)) (λ ls. Some (l ∷ ls))) ≡ None
    by None none = refl
    by (Some l) none = rw none refl

-- ---- the contraction around a term that is no value
beta-waits : (q : Mult) (ts : Terms) (t : Term) → as_lam t ≡ None → beta q (put 0 t ts) ≡ None
beta-waits q ε t h = refl
beta-waits q (g ▸ ε) t h = refl
beta-waits q (g ▸ a ▸ ε) t h = rw h refl
beta-waits q (g ▸ a ▸ b ▸ ts) t h = refl

skip-put : (n k m : ℕ) (t : Term) (ts : Terms) → m ≡ n + k → skip n (put m t ts) ≡ put k t (skip n ts)
skip-put zero k m t ts e = ap (λ i. put i t ts) (omega (arith, e))
skip-put (suc n) k m t ε e = refl
skip-put (suc n) k zero t (u ▸ ts) e = absurd (omega (arith, e))
skip-put (suc n) k (suc m) t (u ▸ ts) e = skip-put n k m t ts (omega (arith, e))

place-behind : (n : ℕ) (ns : List ℕ) → scrutinee_place n ns ≡ n + suc (length ns)
place-behind zero ns = omega arith
place-behind (suc n) ns = let e = place-behind n ns in omega (arith, e)

scrutinee-put : (ns : List ℕ) (ts : Terms) (t : Term) → as_con t ≡ None →
    chain (scrutinee ns (put (length ns) t ts)) as_con ≡ None
scrutinee-put [] ε t h = refl
scrutinee-put [] (u ▸ ε) t h = h
scrutinee-put [] (u ▸ v ▸ ts) t h = refl
scrutinee-put (n ∷ ns) ε t h = refl
scrutinee-put (n ∷ ns) (u ▸ ts) t h = scrutinee-put ns ts t h

chain-chain : {A B C : Type 0} (o : Option A) (g : A → Option B) (h : B → Option C) → chain o g ≡ None →
    chain o (λ a. chain (g a) h) ≡ None
chain-chain None g h e = refl
chain-chain (Some a) g h e = ap (λ o. chain o h) e

iota-waits : (f : GlobalId) (ns : List ℕ) (ts : Terms) (t : Term) → as_con t ≡ None →
    iota f ns (put (suc (length ns)) t ts) ≡ None
iota-waits f ns ε t h = refl
iota-waits f ns (P ▸ ts) t h =
    chain-chain (scrutinee ns (put (length ns) t ts)) as_con (select f ns (put (length ns) t ts))
    (scrutinee-put ns ts t h)

deletion-waits : (ts : Terms) (t : Term) → as_con t ≡ None → deletion (put 4 t ts) ≡ None
deletion-waits ε t h = refl
deletion-waits (a ▸ ε) t h = refl
deletion-waits (a ▸ b ▸ ε) t h = refl
deletion-waits (a ▸ b ▸ c ▸ ε) t h = refl
deletion-waits (a ▸ b ▸ c ▸ d ▸ ε) t h = refl
deletion-waits (a ▸ b ▸ c ▸ d ▸ e ▸ ε) t h = rw h refl
deletion-waits (a ▸ b ▸ c ▸ d ▸ e ▸ f ▸ ts) t h = refl

-- ---- forms that take the head of a component
form-waits : (E : Env) (F : Form) (ts : Terms) (ls : List Lit) (k : ℕ) (t : Term) → TakesAt F ts ls k → IsNoValue t →
    contract E F (put k t (over ls ts)) ≡ None
unfolding contract
form-waits E (Form.app q) ts ls k t (none, first, two) v =
    ap (λ n. beta q (put n t (over ls ts))) first ∙ beta-waits q (over ls ts) t v.0
form-waits E (Form.case q f n m ns) ts ls k t (none, place, last) v =
    ap (iota f ns) (skip-put n (suc (length ns)) k t (over ls ts) (place ∙ place-behind n ns))
    ∙ iota-waits f ns (skip n (over ls ts)) t v.1
form-waits E (Form.delete q) ts ls k t (none, fifth, five) v =
    ap (λ n. deletion (put n t (over ls ts))) fifth ∙ deletion-waits (over ls ts) t v.1
form-waits E (Form.named (Named.prim p)) ts ls k t (place, within) v =
    ap (λ o. chain o (computed p))
    (literals-put k (over ls ts) t (subst (λ n. k < n) (sym (over-size ls ts)) within) v.2)
form-waits E (Form.sort l) ts ls k t h v = absurd h
form-waits E (Form.pi q) ts ls k t h v = absurd h
form-waits E (Form.lam q) ts ls k t h v = absurd h
form-waits E (Form.fam f) ts ls k t h v = absurd h
form-waits E (Form.con f c n) ts ls k t h v = absurd h
form-waits E (Form.named (Named.def d)) ts ls k t h v = absurd h
form-waits E (Form.named (Named.lit l)) ts ls k t h v = absurd h
form-waits E (Form.named (Named.prim_ty p)) ts ls k t h v = absurd h
form-waits E (Form.named (Named.act a n)) ts ls k t h v = absurd h
form-waits E Form.trap ts ls k t h v = absurd h
form-waits E (Form.tape n) ts ls k t h v = absurd h

within : (n : ℕ) (ls : List Lit) (ts : Terms) (k : ℕ) → size ts ≡ n → k < n → k < size (over ls ts)
within n ls ts k e h = subst (λ m. k < m) (sym (over-size ls ts ∙ e)) h

-- the step inside a component whose head is taken
form-asks : (E : Env) (F : Form) (ts : Terms) (ls : List Lit) (k : ℕ) (t : Term) → TakesAt F ts ls k →
    (IsCall (node F ts) → as_lit t ≡ None) →
    asked F (step_at E (put k t (over ls ts))) (arguments_step E (put k t (over ls ts))) ≡ wrap
    (λ s. put k s (over ls ts)) (head_step E t)
form-asks E (Form.app q) ts ls k t (none, first, two) h =
    subst (λ n. step_at E (put n t (over ls ts)) 0 ≡ wrap (λ s. put n s (over ls ts)) (head_step E t)) (sym first)
    (step_at-put E (over ls ts) 0 t (within 2 ls ts 0 two (omega arith)))
form-asks E (Form.case q f n m ns) ts ls k t (none, place, last) h =
    subst (λ i. step_at E (put k t (over ls ts)) i ≡ wrap (λ s. put k s (over ls ts)) (head_step E t)) place
    (step_at-put E (over ls ts) k t (within (suc k) ls ts k last (omega arith)))
form-asks E (Form.delete q) ts ls k t (none, fifth, five) h =
    subst (λ n. step_at E (put n t (over ls ts)) 4 ≡ wrap (λ s. put n s (over ls ts)) (head_step E t)) (sym fifth)
    (step_at-put E (over ls ts) 4 t (within 5 ls ts 4 five (omega arith)))
form-asks E (Form.named (Named.prim p)) ts ls k t (place, below) h =
    subst (λ n. arguments_step E (put n t (over ls ts)) ≡ wrap (λ s. put n s (over ls ts)) (head_step E t)) (sym place)
    (argument_step-put E ls ts t (subst (λ n. n < size ts) place below) (h tt))
form-asks E (Form.sort l) ts ls k t h g = absurd h
form-asks E (Form.pi q) ts ls k t h g = absurd h
form-asks E (Form.lam q) ts ls k t h g = absurd h
form-asks E (Form.fam f) ts ls k t h g = absurd h
form-asks E (Form.con f c n) ts ls k t h g = absurd h
form-asks E (Form.named (Named.def d)) ts ls k t h g = absurd h
form-asks E (Form.named (Named.lit l)) ts ls k t h g = absurd h
form-asks E (Form.named (Named.prim_ty p)) ts ls k t h g = absurd h
form-asks E (Form.named (Named.act a n)) ts ls k t h g = absurd h
form-asks E Form.trap ts ls k t h g = absurd h
form-asks E (Form.tape n) ts ls k t h g = absurd h

-- ---- terms that take the head of a component
term-waits : (E : Env) (c : Term) (ls : List Lit) (k : ℕ) (t : Term) → Takes c ls k → IsNoValue t →
    contracted E (put_in k t (over_in ls c)) ≡ None
term-waits E (var i) ls k t h v = absurd h
term-waits E (node F ts) ls k t h v = form-waits E F ts ls k t h v

term-contracts : (E : Env) (s r : Term) → contracted E s ≡ Some r → head_step E s ≡ Some r
term-contracts E (var i) r e = absurd (none≢some e)
term-contracts E (node F ts) r e =
    ap (λ o. either o (wrap (node F) (asked F (step_at E ts) (arguments_step E ts)))) e

term-inside : (E : Env) (c : Term) (ls : List Lit) (k : ℕ) (t : Term) → Takes c ls k →
    (IsCall c → as_lit t ≡ None) → contracted E (put_in k t (over_in ls c)) ≡ None →
    head_step E (put_in k t (over_in ls c)) ≡ wrap (λ s. put_in k s (over_in ls c)) (head_step E t)
term-inside E (var i) ls k t h g e = absurd h
term-inside E (node F ts) ls k t h g e =
    either-no_first _ _ e ∙ ap (wrap (node F)) (form-asks E F ts ls k t h g) ∙ wrap-wrap _ _ (head_step E t)

no_value : (F : Form) (ts us : Terms) (ls : List Lit) (k : ℕ) → TakesAt F ts ls k → IsNoValue (node F us)
no_value (Form.app q) ts us ls k h = (refl, refl, refl)
no_value (Form.case q f n m ns) ts us ls k h = (refl, refl, refl)
no_value (Form.delete q) ts us ls k h = (refl, refl, refl)
no_value (Form.named (Named.prim p)) ts us ls k h = (refl, refl, refl)
no_value (Form.sort l) ts us ls k h = absurd h
no_value (Form.pi q) ts us ls k h = absurd h
no_value (Form.lam q) ts us ls k h = absurd h
no_value (Form.fam f) ts us ls k h = absurd h
no_value (Form.con f c n) ts us ls k h = absurd h
no_value (Form.named (Named.def d)) ts us ls k h = absurd h
no_value (Form.named (Named.lit l)) ts us ls k h = absurd h
no_value (Form.named (Named.prim_ty p)) ts us ls k h = absurd h
no_value (Form.named (Named.act a n)) ts us ls k h = absurd h
no_value Form.trap ts us ls k h = absurd h
no_value (Form.tape n) ts us ls k h = absurd h

term-no_value : (c : Term) (ls : List Lit) (k : ℕ) (t : Term) → Takes c ls k → IsNoValue (put_in k t (over_in ls c))
term-no_value (var i) ls k t h = absurd h
term-no_value (node F ts) ls k t h = no_value F ts (put k t (over ls ts)) ls k h

-- ---- what contracts toward its head is no value
pub contracting-no_value : (E : Env) (t s : Term) → head_step E t ≡ Some s → IsNoValue t
unfolding contract
contracting-no_value E (var i) s e = absurd (none≢some e)
contracting-no_value E (node (Form.sort l) ts) s e = absurd (none≢some e)
contracting-no_value E (node (Form.pi q) ts) s e = absurd (none≢some e)
contracting-no_value E (node (Form.lam q) ts) s e = absurd (none≢some e)
contracting-no_value E (node (Form.app q) ts) s e = (refl, refl, refl)
contracting-no_value E (node (Form.fam f) ts) s e = absurd (none≢some e)
contracting-no_value E (node (Form.con f c k) ts) s e = absurd (none≢some e)
contracting-no_value E (node (Form.case q f k m ns) ts) s e = (refl, refl, refl)
contracting-no_value E (node (Form.delete q) ts) s e = (refl, refl, refl)
contracting-no_value E (node (Form.named (Named.def d)) ts) s e = (refl, refl, refl)
contracting-no_value E (node (Form.named (Named.lit l)) ts) s e = absurd (none≢some e)
contracting-no_value E (node (Form.named (Named.prim_ty p)) ts) s e = absurd (none≢some e)
contracting-no_value E (node (Form.named (Named.prim p)) ts) s e = (refl, refl, refl)
contracting-no_value E (node (Form.named (Named.act a k)) ts) s e = absurd (none≢some e)
contracting-no_value E (node Form.trap ts) s e = absurd (none≢some e)
contracting-no_value E (node (Form.tape n) ts) s e = absurd (none≢some e)

-- ---- frames
pub plugged-no_value : (f : Frame) (t : Term) → IsFrame f → IsNoValue (plug f t)
plugged-no_value f t h = term-no_value (closure f.closure) (map literal f.literals.items) f.place t h.1

frame-waits : (E : Env) (f : Frame) (t : Term) → IsFrame f → IsNoValue t → contracted E (plug f t) ≡ None
frame-waits E f t h v = term-waits E (closure f.closure) (map literal f.literals.items) f.place t h.1 v

step-inside : (E : Env) (f : Frame) (t : Term) → IsFrame f → Fits f t → contracted E (plug f t) ≡ None →
    head_step E (plug f t) ≡ wrap (plug f) (head_step E t)
step-inside E f t h fits e = term-inside E (closure f.closure) (map literal f.literals.items) f.place t h.1 fits e

-- a frame around a head that does not contract makes a head
pub frame-stops : (E : Env) (f : Frame) (t : Term) → IsFrame f → Fits f t → contracted E (plug f t) ≡ None →
    head_step E t ≡ None → HasStopped E (plug f t)
frame-stops E f t h fits e none =
    (step-inside E f t h fits e ∙ ap (wrap (plug f)) none, plugged-no_value f t h)

pub stopped-stops : (E : Env) (f : Frame) (t : Term) → IsFrame f → HasStopped E t → HasStopped E (plug f t)
stopped-stops E f t h s = frame-stops E f t h (λ c. s.1.2) (frame-waits E f t h s.1) s.0

-- steps of the innermost term are steps of the whole
pub step-plugged : (E : Env) (fs : List Frame) (t s : Term) → AreFrames fs → head_step E t ≡ Some s →
    head_step E (plug_all fs t) ≡ Some (plug_all fs s)
step-plugged E [] t s h e = e
step-plugged E (f ∷ fs) t s h e =
    let inner = step-plugged E fs t s h.1 e in
    let v = contracting-no_value E (plug_all fs t) (plug_all fs s) inner in
    step-inside E f (plug_all fs t) h.0 (λ c. v.2) (frame-waits E f (plug_all fs t) h.0 v) ∙ ap (wrap (plug f)) inner

pub frame-steps : (E : Env) (fs : List Frame) (s r : Term) → AreFrames fs → contracted E s ≡ Some r →
    head_step E (plug_all fs s) ≡ Some (plug_all fs r)
frame-steps E fs s r h e = step-plugged E fs s r h (term-contracts E s r e)

-- frames around what has stopped make a head
pub plugged-stops : (E : Env) (fs : List Frame) (t : Term) → AreFrames fs → HasStopped E t →
    HasStopped E (plug_all fs t)
plugged-stops E [] t h s = s
plugged-stops E (f ∷ fs) t h s = stopped-stops E f (plug_all fs t) h.0 (plugged-stops E fs t h.1 s)

-- ---- frames that are taken off and put on
pub plug_all-push : (fs : List Frame) (f : Frame) (t : Term) → plug_all (fs ++ f ∷ []) t ≡ plug_all fs (plug f t)
plug_all-push [] f t = refl
plug_all-push (g ∷ fs) f t = ap (plug g) (plug_all-push fs f t)

pub plug_all-last : (fs : List Frame) (f : Frame) (t : Term) (all : List Frame) → all ≡ fs ++ f ∷ [] →
    plug_all all t ≡ plug_all fs (plug f t)
plug_all-last fs f t all is = ap (λ gs. plug_all gs t) is ∙ plug_all-push fs f t

pub frames-push : (fs : List Frame) (f : Frame) (all : List Frame) → all ≡ fs ++ f ∷ [] → AreFrames fs → IsFrame f →
    AreFrames all
frames-push fs f all is hs h = subst AreFrames (sym is) (go fs hs)
  where
    go : (gs : List Frame) → AreFrames gs → AreFrames (gs ++ f ∷ [])
    go [] u = (h, u)
    go (g ∷ gs) (k, ks) = (k, go gs ks)

pub frames-pop : (fs : List Frame) (f : Frame) (all : List Frame) → all ≡ fs ++ f ∷ [] → AreFrames all →
    AreFrames fs × IsFrame f
frames-pop fs f all is hs = go fs (subst AreFrames is hs)
  where
    go : (gs : List Frame) → AreFrames (gs ++ f ∷ []) → AreFrames gs × IsFrame f
    go [] (h, u) = (u, h)
    go (g ∷ gs) (k, ks) = let rest = go gs ks in ((k, rest.0), rest.1)

pub behind-push : (fs : List Frame) (f : Frame) (all : List Frame) → all ≡ fs ++ f ∷ [] →
    all_behind all ≡ all_behind fs + behind f
behind-push fs f all is = ap all_behind is ∙ go fs
  where
    go : (gs : List Frame) → all_behind (gs ++ f ∷ []) ≡ all_behind gs + behind f
    go [] = omega arith
    go (g ∷ gs) = let e = go gs in omega (arith, e)

-- ---- what is no literal waits in any frame
pub waits-no_literal : (fs : List Frame) (t : Term) → as_lit t ≡ None → Waits fs t
waits-no_literal fs t e = λ gs f is call. e

pub call-no_literal : (n : ℕ) (ls : List Lit) (σ : ℕ → Term) (t : Term) → IsCallOf n t →
    as_lit (over_in ls (sub σ t)) ≡ None
call-no_literal n ls σ (var i) h = absurd h
call-no_literal n ls σ (node (Form.sort l) ts) h = absurd h
call-no_literal n ls σ (node (Form.pi q) ts) h = absurd h
call-no_literal n ls σ (node (Form.lam q) ts) h = absurd h
call-no_literal n ls σ (node (Form.app q) ts) h = absurd h
call-no_literal n ls σ (node (Form.fam f) ts) h = absurd h
call-no_literal n ls σ (node (Form.con f c k) ts) h = absurd h
call-no_literal n ls σ (node (Form.case q f k m ns) ts) h = absurd h
call-no_literal n ls σ (node (Form.delete q) ts) h = absurd h
call-no_literal n ls σ (node (Form.named (Named.def d)) ts) h = absurd h
call-no_literal n ls σ (node (Form.named (Named.lit l)) ts) h = absurd h
call-no_literal n ls σ (node (Form.named (Named.prim_ty p)) ts) h = absurd h
call-no_literal n ls σ (node (Form.named (Named.prim p)) ts) h = refl
call-no_literal n ls σ (node (Form.named (Named.act a k)) ts) h = absurd h
call-no_literal n ls σ (node Form.trap ts) h = absurd h
call-no_literal n ls σ (node (Form.tape k) ts) h = absurd h

-- ---- one literal more
over-push : (ls : List Lit) (l : Lit) (ts : Terms) →
    put (length ls) (literal_term l) (over ls ts) ≡ over (ls ++ l ∷ []) ts
over-push [] l ε = refl
over-push [] l (t ▸ ts) = refl
over-push (k ∷ ls) l ε = refl
over-push (k ∷ ls) l (t ▸ ts) = ap (λ ss. literal_term k ▸ ss) (over-push ls l ts)

pub over_in-push : (ls : List Lit) (l : Lit) (t : Term) (n : ℕ) → n ≡ length ls →
    put_in n (literal_term l) (over_in ls t) ≡ over_in (ls ++ l ∷ []) t
over_in-push ls l (var i) n e = refl
over_in-push ls l (node F ts) n e =
    ap (λ k. node F (put k (literal_term l) (over ls ts))) e ∙ ap (node F) (over-push ls l ts)
