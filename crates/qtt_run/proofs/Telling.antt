-- What the output and the tapes hold after events.
use Rattle.std.proofs.Common.{◌≡◌, ℕ, zero, suc, Bool, true, false, cond, List, [], ◌∷◌, ◌++◌, length, Option, Some, None, option_map, refl, sym, ◌∙◌, ap, append-nil, append_assoc}
use Rattle.qtt_prims.specs.Tapes.{Taped, changed}
use Rattle.qtt_edge.specs.Sink.{Adds}
use Rattle.qtt_edge.specs.Tapes.{IsOpenAt}
use Rattle.qtt_term.specs.FullRun.{Event, at_open, closes_from, tape_list, text_of}
use Rattle.qtt_term.proofs.Options.{none≢some, some-injective, chain-some, cond-some}

-- ---- output
pub text-append : (es ds : List Event) → text_of (es ++ ds) ≡ text_of es ++ text_of ds
text-append [] ds = refl
text-append (Event.line s ∷ es) ds =
    ap (λ bs. s ++ 10 ∷ bs) (text-append es ds) ∙ sym (append_assoc s (10 ∷ text_of es) (text_of ds))
text-append (Event.opened s ∷ es) ds = text-append es ds
text-append (Event.wrote h s ∷ es) ds = text-append es ds
text-append (Event.closed_tape h ∷ es) ds = text-append es ds

-- an event that puts no line
pub text-same : (es : List Event) (e : Event) → text_of (e ∷ []) ≡ [] → text_of (es ++ e ∷ []) ≡ text_of es
text-same es e q = text-append es (e ∷ []) ∙ ap (λ bs. text_of es ++ bs) q ∙ append-nil (text_of es)

one-closes-text : (b : Bool) (h : ℕ) (ts : List Taped) → text_of (closes_from (suc h) ts) ≡ [] →
    text_of (cond b (Event.closed_tape h ∷ closes_from (suc h) ts) (closes_from (suc h) ts)) ≡ []
one-closes-text true h ts e = e
one-closes-text false h ts e = e

closes-text : (h : ℕ) (ts : List Taped) → text_of (closes_from h ts) ≡ []
closes-text h [] = refl
closes-text h (t ∷ ts) = one-closes-text t.is_open h ts (closes-text (suc h) ts)

nil-front : (xs ys : List ℕ) → xs ++ ys ≡ [] → xs ≡ []
nil-front [] ys e = refl
nil-front (x ∷ xs) ys e = absurd (cc e)

-- closes put no line, nor do the first of them
pub text-closes : (es ds later : List Event) (h : ℕ) (ts : List Taped) → closes_from h ts ≡ ds ++ later →
    text_of (es ++ ds) ≡ text_of es
text-closes es ds later h ts e =
    let n : text_of ds ≡ [] =
    nil-front (text_of ds) (text_of later)
    (sym (text-append ds later) ∙ ap text_of (sym e) ∙ closes-text h ts) in
    text-append es ds ∙ ap (λ bs. text_of es ++ bs) n ∙ append-nil (text_of es)

pub adds-then : (a b c : Option (List ℕ)) (xs ys : List ℕ) → Adds a b xs → Adds b c ys → Adds a c (xs ++ ys)
adds-then None b c xs ys p q = q ∙ ap (λ o. option_map (λ held. held ++ ys) o) p
adds-then (Some a) b c xs ys p q =
    q ∙ ap (λ o. option_map (λ held. held ++ ys) o) p ∙ ap (λ l. Some l) (append_assoc a xs ys)

-- ---- tapes
pub told-append : (ts : List Taped) (es ds : List Event) → tape_list ts (es ++ ds) ≡ tape_list (tape_list ts es) ds
told-append ts [] ds = refl
told-append ts (Event.line s ∷ es) ds = told-append ts es ds
told-append ts (Event.opened s ∷ es) ds = told-append _ es ds
told-append ts (Event.wrote h s ∷ es) ds = told-append _ es ds
told-append ts (Event.closed_tape h ∷ es) ds = told-append _ es ds

pub told-more : (es : List Event) (ts us : List Taped) (e : Event) → tape_list [] es ≡ ts → tape_list ts (e ∷ []) ≡ us →
    tape_list [] (es ++ e ∷ []) ≡ us
told-more es ts us e p q = told-append [] es (e ∷ []) ∙ ap (λ ts. tape_list ts (e ∷ [])) p ∙ q

pub open-changed : (h : ℕ) (g : Taped → Taped) (T U : List Taped) → at_open h g T ≡ Some U → changed h g T ≡ U
open-changed h g [] U e = absurd (none≢some e)
open-changed zero g (t ∷ T) U e = some-injective (cond-some t.is_open (Some (g t ∷ T)) U e).1
open-changed (suc h) g (t ∷ T) U e =
    let r = chain-some (at_open h g T) (λ us. Some (t ∷ us)) U e in ap (λ us. t ∷ us)
    (open-changed h g T r.0 r.1) ∙ some-injective r.2

pub open-at : (h : ℕ) (g : Taped → Taped) (T U : List Taped) → at_open h g T ≡ Some U → IsOpenAt h T
open-at h g [] U e = absurd (none≢some e)
open-at zero g (t ∷ T) U e = (cond-some t.is_open (Some (g t ∷ T)) U e).0
open-at (suc h) g (t ∷ T) U e =
    let r = chain-some (at_open h g T) (λ us. Some (t ∷ us)) U e in open-at h g T r.0 r.1

pub changed-length : (h : ℕ) (g : Taped → Taped) (T : List Taped) → length (changed h g T) ≡ length T
changed-length h g [] = refl
changed-length zero g (t ∷ T) = refl
changed-length (suc h) g (t ∷ T) = ap suc (changed-length h g T)

pub tells-then : (a t s : Option (List Taped)) (ts : List Taped) (f : List Taped → List Taped) →
    t ≡ option_map (λ _. ts) a →
    s ≡ option_map f t → s ≡ option_map (λ _. f ts) a
tells-then None t s ts f p q = q ∙ ap (λ o. option_map f o) p
tells-then (Some a) t s ts f p q = q ∙ ap (λ o. option_map f o) p
