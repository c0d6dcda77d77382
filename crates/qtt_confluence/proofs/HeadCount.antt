-- The head within a count of contractions.
use Rattle.std.proofs.Common.{◌≡◌, ◌↔◌, ℕ, zero, suc, ◌+◌, ◌≤◌, refl, sym, ◌∙◌, ap, Option, Some, None, ◌⊎◌, inl, inr, arith}
use mathlib.Core.Path.{subst₂}
use Rattle.qtt_term.specs.Term.{Term}
use Rattle.qtt_term.specs.Signature.{Env}
use Rattle.qtt_term.specs.Contraction.{Reduces}
use Rattle.qtt_term.specs.Question.{head_step, Head, head_from, head}
use Rattle.qtt_confluence.specs.Heads.{IsHead, Toward}
use Rattle.qtt_confluence.specs.Laws.{HeadIsExact}
use Rattle.qtt_confluence.proofs.Compare.{head-steps}

from-head : (E : Env) (n made : ℕ) (t : Term) → IsHead E t → head_from E n made t ≡ Head.done t made
from-head E zero made t h = rw (h, head_from) refl
from-head E (suc n) made t h = rw (h, head_from) refl

from-found : (E : Env) (n made k : ℕ) (t h : Term) → Toward E k t h → IsHead E h → k ≤ n →
    head_from E n made t ≡ Head.done h (made + k)
from-found E n made k t h Toward.here p l = from-head E n made t p ∙ ap (Head.done t) (omega arith)
from-found E zero made k t h (Toward.onward d w) p l = absurd (omega arith)
from-found E (suc n) made k t h (Toward.onward {n = j} {s = s} d w) p l =
    rw (d, head_from) (from-found E n (suc made) j s h w p (omega arith) ∙ ap (Head.done h) (omega arith))

from-spent : (E : Env) (n made : ℕ) (t s : Term) → Toward E (suc n) t s → head_from E n made t ≡ Head.spent
from-spent E zero made t s (Toward.onward d w) = rw (d, head_from) refl
from-spent E (suc n) made t s (Toward.onward {s = r} d w) = rw (d, head_from) (from-spent E n (suc made) r s w)

-- the head within n contractions, or n + 1 contractions
abbrev Ends : Env → ℕ → Term → Type 0
Ends E n t = ((k : ℕ) × (h : Term) × Toward E k t h × IsHead E h × (k ≤ n)) ⊎ ((s : Term) × Toward E (suc n) t s)

ends-now : (E : Env) (t : Term) (o : Option Term) → head_step E t ≡ o → Ends E zero t
ends-now E t None e = inl (0, t, Toward.here, e, omega arith)
ends-now E t (Some s) e = inr (s, Toward.onward e Toward.here)

ends-after : (E : Env) (n : ℕ) (t s : Term) → head_step E t ≡ Some s → Ends E n s → Ends E (suc n) t
ends-after E n t s d (inl (k, h, w, p, l)) = inl (suc k, h, Toward.onward d w, p, omega arith)
ends-after E n t s d (inr (r, w)) = inr (r, Toward.onward d w)

ends-later : (E : Env) (n : ℕ) (t : Term) (o : Option Term) → head_step E t ≡ o →
    ((s : Term) → Ends E n s) → Ends E (suc n) t
ends-later E n t None e later = inl (0, t, Toward.here, e, omega arith)
ends-later E n t (Some s) e later = ends-after E n t s e (later s)

ends : (E : Env) (n : ℕ) (t : Term) → Ends E n t
ends E zero t = ends-now E t (head_step E t) refl
ends E (suc n) t = ends-later E n t (head_step E t) refl (λ s. ends E n s)

abbrev Found : Env → ℕ → ℕ → Term → Term → Type 0
Found E n k t h = Toward E k t h × IsHead E h × (k ≤ n)

is-found : (E : Env) (n k : ℕ) (t h : Term) → Found E n k t h → head E n t ≡ Head.done h k
is-found E n k t h (w, p, l) = from-found E n 0 k t h w p l ∙ ap (Head.done h) (omega arith)

found-at : (E : Env) (n k : ℕ) (t h : Term) → head E n t ≡ Head.done h k → Ends E n t → Found E n k t h
found-at E n k t h e (inl (j, g, w, p, l)) =
    let d : Head.done g j ≡ Head.done h k = sym (is-found E n j t g (w, p, l)) ∙ e in
    let same_head : g ≡ h = cc d in
    let same_count : j ≡ k = cc d in
    subst₂ (λ k h. Found E n k t h) same_count same_head (w, p, l)
found-at E n k t h e (inr (s, w)) =
    let d : Head.spent ≡ Head.done h k = sym (from-spent E n 0 t s w) ∙ e in absurd (cc d)

pub found : (E : Env) (n k : ℕ) (t h : Term) → (head E n t ≡ Head.done h k) ↔ (Toward E k t h × IsHead E h × (k ≤ n))
found E n k t h = (λ e. found-at E n k t h e (ends E n t), is-found E n k t h)

spent-at : (E : Env) (n : ℕ) (t : Term) → head E n t ≡ Head.spent → Ends E n t → (s : Term) × Toward E (suc n) t s
spent-at E n t e (inl (j, g, w, p, l)) =
    let d : Head.done g j ≡ Head.spent = sym (is-found E n j t g (w, p, l)) ∙ e in absurd (cc d)
spent-at E n t e (inr r) = r

pub spent : (E : Env) (n : ℕ) (t : Term) → (head E n t ≡ Head.spent) ↔ ((s : Term) × Toward E (suc n) t s)
spent E n t = (λ e. spent-at E n t e (ends E n t), λ r. from-spent E n 0 t r.0 r.1)

pub toward-reduces : {E : Env} {k : ℕ} {t h : Term} → Toward E k t h → Reduces E t h
toward-reduces Toward.here = Reduces.done
toward-reduces {E} (Toward.onward {t = t} {s = s} d w) = Reduces.then (head-steps E t s d) (toward-reduces w)

pub head-is_exact : HeadIsExact
head-is_exact = record {
  found = found;
  spent = spent;
  reduces = λ E n k t h e. toward-reduces ((found E n k t h).0 e).0;
}
