-- Steps of terms that are taken apart, and heads within a count.
use Rattle.std.proofs.Common.{◌≡◌, ℕ, zero, suc, ◌+◌, ◌<◌, List, [], ◌∷◌, ◌++◌, map, Some, None, refl, sym, ◌∙◌, ap, subst, arith}
use Rattle.qtt_term.specs.Term.{Term, Terms, node, ε, ◌▸◌, ◌+++◌}
use Rattle.qtt_term.specs.Signature.{Env}
use Rattle.qtt_term.specs.Contraction.{as_lit, contract}
use Rattle.qtt_term.specs.Question.{either, wrap, asked, step_at, arguments_step, head_step, Head, head_from, weight, weights}
use Rattle.qtt_term.specs.View.{term, terms, branches, side_by_side}
use Rattle.qtt_conv.specs.declared.frame.Frame.{Frame}
use Rattle.qtt_conv.specs.declared.frame.Frame.TheVariants as frame
use Rattle.qtt_conv.specs.Frames.{literal_terms, form_of, parts_of, plug, plug_all, Fits}
use Rattle.qtt_conv.specs.Spines.{Waits}
use Rattle.qtt_conv.proofs.Plugging.{plug_all-push, plugged-is_no_value, step-inside, step-plugged, head-plugged}

-- ---- the innermost frame
last-same : {A : Type 0} (xs ys : List A) (x y : A) → xs ++ x ∷ [] ≡ ys ++ y ∷ [] → x ≡ y
last-same [] [] x y e = cc
last-same [] (z ∷ []) x y e = absurd (cc e)
last-same [] (z ∷ w ∷ ys) x y e = absurd (cc e)
last-same (z ∷ []) [] x y e = absurd (cc e)
last-same (z ∷ w ∷ xs) [] x y e = absurd (cc e)
last-same (z ∷ xs) (w ∷ ys) x y e = last-same xs ys x y (cc e)

pub waits-push : (fs : List Frame) (f : Frame) (t : Term) (all : List Frame) → all ≡ fs ++ f ∷ [] → Fits f t →
    Waits all t
waits-push fs f t all is fits = λ gs g e. subst (λ h. Fits h t) (last-same fs gs f g (sym is ∙ e)) fits

pub waits-none : (t : Term) (all : List Frame) → all ≡ [] → Waits all t
waits-none t all is = λ gs g e. absurd (no_push gs g (sym e ∙ is))
  where
    no_push : (gs : List Frame) (g : Frame) → gs ++ g ∷ [] ≡ [] → ⊥
    no_push [] g h = cc h
    no_push (k ∷ gs) g h = cc h

fits-no_literal : (f : Frame) (t : Term) → as_lit t ≡ None → Fits f t
fits-no_literal (frame.Argument q a) t e = tt
fits-no_literal (frame.Case c) t e = tt
fits-no_literal (frame.Delete d) t e = tt
fits-no_literal (frame.Prim p ls ts) t e = e

pub waits-no_literal : (fs : List Frame) (t : Term) → as_lit t ≡ None → Waits fs t
waits-no_literal fs t e = λ gs g d. fits-no_literal g t e

pub waits-plugged : (fs : List Frame) (f : Frame) (t s : Term) → s ≡ plug f t → Waits fs s
waits-plugged fs f t s e = waits-no_literal fs s (ap as_lit e ∙ (plugged-is_no_value f t).lit)

-- ---- frames that are taken off and put on
pub plug_all-last : (fs : List Frame) (f : Frame) (t : Term) (all : List Frame) → all ≡ fs ++ f ∷ [] →
    plug_all all t ≡ plug_all fs (plug f t)
plug_all-last fs f t all is = ap (λ gs. plug_all gs t) is ∙ plug_all-push fs f t

pub plug_all-none : (t : Term) (all : List Frame) → all ≡ [] → plug_all all t ≡ t
plug_all-none t all is = ap (λ gs. plug_all gs t) is

weights-append : (ts ss : Terms) → weights (ts +++ ss) ≡ weights ts + weights ss
weights-append ε ss = omega arith
weights-append (t ▸ ts) ss = let e : weights (ts +++ ss) ≡ weights ts + weights ss = weights-append ts ss in omega arith

heavier : (f : Frame) (t : Term) → weight t < weight (plug f t)
heavier (frame.Argument q a) t = omega arith
heavier (frame.Case c) t =
    let bs : Terms = side_by_side (map (λ b. b.1) (branches c.value.branches.items)) in
    let d = weights-append (side_by_side (terms c.value.params.items)) (term c.value.motive ▸ (bs +++ (t ▸ ε))) in
    let e = weights-append bs (t ▸ ε) in
    omega (arith, d, e)
heavier (frame.Delete d) t = omega arith
heavier (frame.Prim p ls ts) t =
    let d = weights-append (literal_terms ls.items) (t ▸ side_by_side (terms ts.items)) in
    omega (arith, d)

pub component-lighter : (f : Frame) (t s : Term) → plug f t ≡ s → weight t < weight s
component-lighter f t s e = subst (λ r. weight t < weight r) e (heavier f t)

-- ---- a step of the innermost frame
pub frame-steps : (E : Env) (fs : List Frame) (f : Frame) (t r : Term) (all : List Frame) → all ≡ fs ++ f ∷ [] →
    contract E (form_of f) (parts_of f t) ≡ Some r →
    head_step E (plug_all all t) ≡ Some (plug_all fs r)
frame-steps E fs f t r all is e =
    ap (head_step E) (plug_all-last fs f t all is) ∙ step-plugged E fs (plug f t) r
    (ap (λ o. either o (wrap (node (form_of f))
    (asked (form_of f) (step_at E (parts_of f t)) (arguments_step E (parts_of f t))))) e)

pub frame-stuck : (E : Env) (fs : List Frame) (f : Frame) (t : Term) (all : List Frame) → all ≡ fs ++ f ∷ [] →
    Fits f t → contract E (form_of f) (parts_of f t) ≡ None → head_step E t ≡ None →
    head_step E (plug_all all t) ≡ None
frame-stuck E fs f t all is fits e h =
    ap (head_step E) (plug_all-last fs f t all is)
    ∙ head-plugged E fs (plug f t) (plugged-is_no_value f t) (step-inside E f t fits e ∙ ap (wrap (plug f)) h)

-- ---- heads within a count
pub head_from-ends : (E : Env) (n made : ℕ) (t : Term) → head_step E t ≡ None → head_from E n made t ≡ Head.done t made
head_from-ends E zero made t e = rw (e, head_from) refl
head_from-ends E (suc n) made t e = rw (e, head_from) refl

pub head_from-spent : (E : Env) (n made : ℕ) (t s : Term) → n ≡ 0 → head_step E t ≡ Some s →
    head_from E n made t ≡ Head.spent
head_from-spent E zero made t s z e = rw (e, head_from) refl
head_from-spent E (suc n) made t s z e = absurd (omega arith)

pub head_from-goes : (E : Env) (n k made : ℕ) (t s : Term) → n ≡ suc k → head_step E t ≡ Some s →
    head_from E n made t ≡ head_from E k (suc made) s
head_from-goes E zero k made t s z e = absurd (omega arith)
head_from-goes E (suc n) k made t s z e = rw (e, head_from) (ap (λ m. head_from E m (suc made) s) (omega arith))
