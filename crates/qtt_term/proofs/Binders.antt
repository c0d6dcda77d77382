-- Telescopes and variables that lists make, one more element at a time.
use Rattle.std.proofs.Common.{◌≡◌, ℕ, zero, suc, ◌+◌, ◌-◌, ◌<◌, ◌≤◌, Bool, true, false, cond, nat_lt, List, [], ◌∷◌, ◌++◌, length, map, take, get_or, append_assoc, Result, Ok, Err, IfOk, refl, sym, ap, ◌∙◌, arith, rules}
use Rattle.std.proofs.lemmas.Bool.{ltb-true, ltb-false}
use Rattle.std.proofs.lemmas.Grind.{common_steps}
use Rattle.std.proofs.lemmas.List.{length-map, length-append, length-take, map-append, take_all, take_more}
use mathlib.Core.Path.{ap₂, fun_ext}
use Rattle.qtt_usage.specs.declared.mult.Mult.{Mult}
use Rattle.qtt_usage.specs.Mult.{𝟘, 𝟙, ω, ◌⊙◌}
use Rattle.qtt_term.specs.declared.term.Term as code
use Rattle.qtt_term.specs.declared.term.Term.{the_lemmas}
use Rattle.qtt_term.specs.declared.term.Term.TheVariants as form
use Rattle.qtt_term.specs.Term.{Term, Terms, var, ε, ◌▸◌, ◌+++◌}
use Rattle.qtt_term.specs.Substitution.{ren, sub, subs, lift, lifts, cons, push, shift, above, closed}
use Rattle.qtt_term.specs.Shift.{raised, values_in}
use Rattle.qtt_term.specs.Signature.{Tele, index_binders}
use Rattle.qtt_term.specs.Judgement.{scale, sub_binds, erase_binds}
use Rattle.qtt_term.specs.View.{term, terms, side_by_side}
use Rattle.qtt_term.proofs.Subst.{sub-ren}
use Rattle.qtt_term.proofs.Moves.{shift-add, lifts-below, lifts-above, push-above, push-below, raised-zero, subs_side_by_side}
use Rattle.qtt_term.specs.Telescopes.{tele, filled}

-- ---- variables
pub var-seen : (i : ℕ) → term (form.Var i) ≡ var i
var-seen i = search (rules, the_lemmas)

pub side-more : (vs : List Term) (t : Term) (ss : Terms) →
    side_by_side (vs ++ t ∷ []) +++ ss ≡ side_by_side vs +++ (t ▸ ss)
side-more [] t ss = refl
side-more (v ∷ vs) t ss = ap (λ ts. v ▸ ts) (side-more vs t ss)

pub side-none : (vs : List Term) → side_by_side vs +++ ε ≡ side_by_side vs
side-none [] = refl
side-none (v ∷ vs) = ap (λ ts. v ▸ ts) (side-none vs)

pub side-joined : (vs ws : List Term) → side_by_side (vs ++ ws) ≡ side_by_side vs +++ side_by_side ws
side-joined [] ws = refl
side-joined (v ∷ vs) ws = ap (λ ts. v ▸ ts) (side-joined vs ws)

above-at : (m n k j : ℕ) → n - k ≡ suc j → above m (n - k) ≡ var (m + j) ▸ above m j
above-at m n k j e = ap (above m) e ∙ ap (λ i. var i ▸ above m j) (shift-add m j)

-- one more of so many variables
pub variables-more : (vs : List Term) (m n k : ℕ) (t : Term) (A : Terms) → k < n → t ≡ var (m + (n - 1 - k)) →
    side_by_side vs +++ above m (n - k) ≡ A → side_by_side (vs ++ t ∷ []) +++ above m (n - (k + 1)) ≡ A
variables-more vs m n k t A h e so =
    let s : n - k ≡ suc (n - 1 - k) = omega arith in
    let j : n - (k + 1) ≡ n - 1 - k = omega arith in
    side-more vs t (above m (n - (k + 1))) ∙ ap₂ (λ s i. side_by_side vs +++ (s ▸ above m i)) e j
    ∙ ap (λ ts. side_by_side vs +++ ts) (sym (above-at m n k (n - 1 - k) s)) ∙ so

-- ---- telescopes
pub scale-append : (q : Mult) (Θ Ξ : Tele) → scale q (Θ ++ Ξ) ≡ scale q Θ ++ scale q Ξ
scale-append q [] Ξ = refl
scale-append q (b ∷ Θ) Ξ = ap (λ Θ. (q ⊙ b.0, b.1) ∷ Θ) (scale-append q Θ Ξ)

one-times : (q : Mult) → 𝟙 ⊙ q ≡ q
one-times 𝟘 = refl
one-times 𝟙 = refl
one-times ω = refl

pub scale-one : (Θ : Tele) → scale 𝟙 Θ ≡ Θ
scale-one [] = refl
scale-one (b ∷ Θ) = ap₂ (λ q Θ. (q, b.1) ∷ Θ) (one-times b.0) (scale-one Θ)

pub erased-params : (ts : List Term) →
    erase_binds (map {B = Mult × Term} (λ t. (𝟘, t)) ts) ≡ map {B = Mult × Term} (λ t. (𝟘, t)) ts
erased-params [] = refl
erased-params (t ∷ ts) = ap (λ Θ. (𝟘, t) ∷ Θ) (erased-params ts)

pub code-params : (ts : List code.Term) →
    map {B = Mult × Term} (λ t. (𝟘, t)) (terms ts) ≡ map {B = Mult × Term} (λ t. (𝟘, term t)) ts
code-params [] = refl
code-params (t ∷ ts) = ap (λ Θ. (𝟘, term t) ∷ Θ) (code-params ts)

index-more : (n : ℕ) (ts : List Term) (t : Term) →
    index_binders n (ts ++ t ∷ []) ≡ index_binders n ts ++ (ω, ren (shift (n + length ts)) t) ∷ []
index-more n [] t = let e : n ≡ n + 0 = omega arith in ap (λ k. (ω, ren (shift k) t) ∷ []) e
index-more n (s ∷ ts) t =
    let e : suc n + length ts ≡ n + length (s ∷ ts) = omega arith in
    ap (λ Θ. (ω, ren (shift n) s) ∷ Θ)
    (index-more (suc n) ts t ∙ ap (λ k. index_binders (suc n) ts ++ (ω, ren (shift k) t) ∷ []) e)

pub indices-more : (q : Mult) (ts : List Term) (t : Term) →
    scale q (index_binders 0 (ts ++ t ∷ [])) ≡ scale q (index_binders 0 ts) ++ (q ⊙ ω, ren (shift (length ts)) t) ∷ []
indices-more q ts t =
    let e : 0 + length ts ≡ length ts = omega arith in
    ap (scale q) (index-more 0 ts t ∙ ap (λ k. index_binders 0 ts ++ (ω, ren (shift k) t) ∷ []) e)
    ∙ scale-append q (index_binders 0 ts) ((ω, ren (shift (length ts)) t) ∷ [])

lifts-out : (n : ℕ) (σ : ℕ → Term) → lifts n (lift σ) ≡ lifts (n + 1) σ
lifts-out n σ = let e : suc n ≡ n + 1 = omega arith in ap (λ k. lifts k σ) e

pub binds-more : (σ : ℕ → Term) (q : Mult) (Θ : Tele) (b : Mult × Term) →
    sub_binds σ (scale q (Θ ++ b ∷ [])) ≡ sub_binds σ (scale q Θ) ++ (q ⊙ b.0, sub (lifts (length Θ) σ) b.1) ∷ []
binds-more σ q [] b = refl
binds-more σ q (c ∷ Θ) b =
    ap (λ Ξ. (q ⊙ c.0, sub σ c.1) ∷ Ξ) (binds-more (lift σ) q Θ b)

-- ---- values under further binders
push-past : (m k : ℕ) (τ : ℕ → Term) (j : ℕ) → push (above m k) τ (k + j) ≡ τ j
push-past m zero τ j = let e : 0 + j ≡ j = omega arith in ap τ e
push-past m (suc k) τ j =
    let e : suc k + j ≡ k + suc j = omega arith in
    ap (push (above m k) (cons (var (shift m k)) τ)) e ∙ push-past m k (cons (var (shift m k)) τ) (suc j)

push-newest : (m k : ℕ) (τ : ℕ → Term) (i : ℕ) → i < k → push (above m k) τ i ≡ var (shift m i)
push-newest m zero τ i h = absurd (omega arith)
push-newest m (suc k) τ i h = by_place (push-newest m k (cons (var (shift m k)) τ) i) (nat_lt i k) refl
  where
    by_place : (i < k → push (above m k) (cons (var (shift m k)) τ) i ≡ var (shift m i)) → (b : Bool) → nat_lt i k ≡ b →
        push (above m k) (cons (var (shift m k)) τ) i ≡ var (shift m i)
    by_place older true e = older (ltb-true i k e)
    by_place older false e =
        let past : k ≤ i = ltb-false i k e in
        let here : i ≡ k + 0 = omega arith in
        let same : k ≡ i = omega arith in
        ap (push (above m k) (cons (var (shift m k)) τ)) here ∙ push-past m k (cons (var (shift m k)) τ) 0 ∙
        ap (λ j. var (shift m j)) same

pub push-append : (ts ss : Terms) (σ : ℕ → Term) → push (ts +++ ss) σ ≡ push ss (push ts σ)
push-append ε ss σ = refl
push-append (t ▸ ts) ss σ = push-append ts ss (cons t σ)

cons-with : (f : Term → Term) (a : Term) (σ : ℕ → Term) → cons (f a) (λ i. f (σ i)) ≡ (λ i. f (cons a σ i))
cons-with f a σ = fun_ext go
  where
    go : (i : ℕ) → cons (f a) (λ i. f (σ i)) i ≡ f (cons a σ i)
    go zero = refl
    go (suc i) = refl

push-with : (f : Term → Term) (vs : List Term) (σ : ℕ → Term) →
    push (side_by_side (map f vs)) (λ i. f (σ i)) ≡ (λ i. f (push (side_by_side vs) σ i))
push-with f [] σ = refl
push-with f (v ∷ vs) σ = ap (push (side_by_side (map f vs))) (cons-with f v σ) ∙ push-with f vs (cons v σ)

raised-values : (n : ℕ) (vs : List Term) →
    push (side_by_side (map (ren (shift n)) vs)) closed ≡ (λ i. ren (shift n) (push (side_by_side vs) closed i))
raised-values n vs = push-with (ren (shift n)) vs closed

pub under-binders : (n : ℕ) (vs ws all : List code.Term) →
    terms all ≡ map (ren (shift n)) (terms vs) ++ terms ws → side_by_side (terms ws) ≡ above 0 n →
    filled all ≡ lifts n (filled vs)
under-binders n vs ws all e d =
    ap (λ ts. push (side_by_side ts) closed) e
    ∙ ap (λ ts. push ts closed)
    (side-joined (map (ren (shift n)) (terms vs)) (terms ws) ∙
    ap (λ ts. side_by_side (map (ren (shift n)) (terms vs)) +++ ts) d)
    ∙ push-append (side_by_side (map (ren (shift n)) (terms vs))) (above 0 n) closed
    ∙ ap (push (above 0 n)) (raised-values n (terms vs))
    ∙ fun_ext at
  where
    by_place : (i : ℕ) (b : Bool) → nat_lt i n ≡ b →
        push (above 0 n) (λ i. ren (shift n) (filled vs i)) i ≡ lifts n (filled vs) i
    by_place i true e =
        let h : i < n = ltb-true i n e in
        push-newest 0 n (λ i. ren (shift n) (filled vs i)) i h ∙ sym (lifts-below n (filled vs) i h)
    by_place i false e =
        let h : n ≤ i = ltb-false i n e in
        let s : i ≡ n + (i - n) = omega arith in
        ap (push (above 0 n) (λ i. ren (shift n) (filled vs i))) s ∙ push-past 0 n
        (λ i. ren (shift n) (filled vs i)) (i - n) ∙ sym (lifts-above n (filled vs) i h)

    at : (i : ℕ) → push (above 0 n) (λ i. ren (shift n) (filled vs i)) i ≡ lifts n (filled vs) i
    at i = by_place i (nat_lt i n) refl

-- ---- the motive of a branch
pub branch-motive : (vs : List Term) (n : ℕ) (P : Term) →
    sub (values_in vs) (ren (raised (length vs) n) P) ≡ sub (push (side_by_side vs) (λ i. var (shift n i))) P
unfolding raised
branch-motive vs n P = sub-ren P (values_in vs) (raised (length vs) n) ∙ ap (λ σ. sub σ P) (fun_ext at)
  where
    by_place : (i : ℕ) (b : Bool) → nat_lt i (length vs) ≡ b →
        push (side_by_side vs) var (cond b i (i + n)) ≡ push (side_by_side vs) (λ i. var (shift n i)) i
    by_place i true e =
        let h : i < length vs = ltb-true i (length vs) e in
        push-below vs var i (var 0) h ∙ sym (push-below vs (λ i. var (shift n i)) i (var 0) h)
    by_place i false e =
        let h : length vs ≤ i = ltb-false i (length vs) e in
        let s : i + n - length vs ≡ n + (i - length vs) = omega arith in
        push-above vs var (i + n) (omega arith) ∙ ap var s ∙ ap var (sym (shift-add n (i - length vs))) ∙
        sym (push-above vs (λ i. var (shift n i)) i h)

    at : (i : ℕ) → push (side_by_side vs) var (cond (nat_lt i (length vs)) i (i + n)) ≡ push (side_by_side vs)
        (λ i. var (shift n i)) i
    at i = by_place i (nat_lt i (length vs)) refl

pub filled-targets : (σ : ℕ → Term) (ts : List Term) (Ts : Terms) → side_by_side ts ≡ Ts →
    side_by_side (map (sub σ) ts) ≡ subs [] σ Ts
filled-targets σ ts Ts e = sym (subs_side_by_side σ ts) ∙ ap (subs [] σ) e

-- ---- one more element of the code's lists
pub length-push : {A : Type 0} (vs ws : List A) (x : A) (k : ℕ) → ws ≡ vs ++ x ∷ [] → length vs ≡ k → length ws ≡ k + 1
length-push vs ws x k e h = ap length e ∙ length-append vs (x ∷ []) ∙ ap (λ n. n + 1) h

terms-push : (vs ws : List code.Term) (x : code.Term) → ws ≡ vs ++ x ∷ [] → terms ws ≡ terms vs ++ term x ∷ []
terms-push vs ws x e = ap terms e ∙ map-append term vs (x ∷ [])

tele-push : (bs cs : List (Mult × code.Term)) (q : Mult) (x : code.Term) → cs ≡ bs ++ (q, x) ∷ [] →
    tele cs ≡ tele bs ++ (q, term x) ∷ []
tele-push bs cs q x e = ap tele e ∙ map-append (λ b. (b.0, term b.1)) bs ((q, x) ∷ [])

taken-more : {A : Type 0} (xs : List A) (x : A) (k : ℕ) → k < length xs → x ≡ get_or xs k x →
    take (k + 1) xs ≡ take k xs ++ x ∷ []
taken-more xs x k h e = take_more xs k x h ∙ ap (λ y. take k xs ++ y ∷ []) (sym e)

length-taken : {A : Type 0} (xs : List A) (k : ℕ) → k < length xs → length (take k xs) ≡ k
length-taken xs k h = length-take k xs ∙ omega arith

pub variables-step : (vs ws : List code.Term) (x : code.Term) (m n k i : ℕ) (A : Terms) → k < n →
    ws ≡ vs ++ x ∷ [] → term x ≡ var i → i ≡ m + (n - 1 - k) →
    side_by_side (terms vs) +++ above m (n - k) ≡ A → side_by_side (terms ws) +++ above m (n - (k + 1)) ≡ A
variables-step vs ws x m n k i A h e s j so =
    ap (λ ts. side_by_side ts +++ above m (n - (k + 1))) (terms-push vs ws x e)
    ∙ variables-more (terms vs) m n k (term x) A h (s ∙ ap var j) so

pub variables-all : (vs : List code.Term) (m n k : ℕ) (A : Terms) → n ≤ k →
    side_by_side (terms vs) +++ above m (n - k) ≡ A → side_by_side (terms vs) ≡ A
variables-all vs m n k A h so =
    let e : n - k ≡ 0 = omega arith in
    sym (side-none (terms vs)) ∙ ap (λ j. side_by_side (terms vs) +++ above m j) (sym e) ∙ so

pub indices-step : (bs cs ds : List (Mult × code.Term)) (q r : Mult) (ts : List code.Term) (x y : code.Term)
    (k : ℕ) → k < length ts → x ≡ get_or ts k x →
    cs ≡ bs ++ (r, y) ∷ [] → r ≡ q ⊙ ω → term y ≡ ren (raised 0 k) (term x) →
    tele bs ≡ tele ds ++ scale q (index_binders 0 (terms (take k ts))) →
    tele cs ≡ tele ds ++ scale q (index_binders 0 (terms (take (k + 1) ts)))
indices-step bs cs ds q r ts x y k h i e m s so =
    let l : length (terms (take k ts)) ≡ k = length-map (take k ts) term ∙ length-taken ts k h in
    tele-push bs cs r y e
    ∙ ap₂ (λ Θ b. Θ ++ b ∷ []) so
    (ap₂ (λ r t. (r, t)) m (s ∙ raised-zero k (term x) ∙ ap (λ n. ren (shift n) (term x)) (sym l)))
    ∙ append_assoc (tele ds) (scale q (index_binders 0 (terms (take k ts))))
    ((q ⊙ ω, ren (shift (length (terms (take k ts)))) (term x)) ∷ [])
    ∙ ap (λ Θ. tele ds ++ Θ) (sym (indices-more q (terms (take k ts)) (term x)))
    ∙ ap (λ us. tele ds ++ scale q (index_binders 0 us))
    (sym (ap terms (taken-more ts x k h i) ∙ map-append term (take k ts) (x ∷ [])))

pub binds-step : (all new : List (Mult × code.Term)) (σ : ℕ → Term) (q r : Mult) (bs : List (Mult × code.Term))
    (x : Mult × code.Term) (y : code.Term) (k : ℕ) →
    k < length bs → x ≡ get_or bs k x → new ≡ all ++ (r, y) ∷ [] → r ≡ q ⊙ x.0 → term y ≡ sub (lifts k σ) (term x.1) →
    tele all ≡ sub_binds σ (scale q (tele (take k bs))) → tele new ≡ sub_binds σ (scale q (tele (take (k + 1) bs)))
binds-step all new σ q r bs x y k h i e m s so =
    let l : length (tele (take k bs)) ≡ k = length-map (take k bs) (λ b. (b.0, term b.1)) ∙ length-taken bs k h in
    tele-push all new r y e
    ∙ ap₂ (λ Θ b. Θ ++ b ∷ []) so (ap₂ (λ r t. (r, t)) m (s ∙ ap (λ n. sub (lifts n σ) (term x.1)) (sym l)))
    ∙ sym (binds-more σ q (tele (take k bs)) (x.0, term x.1))
    ∙ ap (λ Θ. sub_binds σ (scale q Θ))
    (sym (ap tele (taken-more bs x k h i) ∙ map-append (λ b. (b.0, term b.1)) (take k bs) (x ∷ [])))

pub params-seen : (ts : List code.Term) →
    erase_binds (map {B = Mult × Term} (λ t. (𝟘, t)) (terms ts)) ≡ map {B = Mult × Term} (λ t. (𝟘, term t)) ts
params-seen ts = erased-params (terms ts) ∙ code-params ts

pub if-ok : {A B : Type 0} (P Q : A → Type 0) (r : Result A B) → ((a : A) → P a → Q a) → IfOk r P → IfOk r Q
if-ok P Q (Ok a) f h = f a h
if-ok P Q (Err e) f h = tt

pub raised-step : (vs ws : List code.Term) (x y : code.Term) (ts : List code.Term) (by k : ℕ) → k < length ts →
    x ≡ get_or ts k x → ws ≡ vs ++ y ∷ [] →
    term y ≡ ren (raised 0 by) (term x) → terms vs ≡ map (ren (shift by)) (terms (take k ts)) →
    terms ws ≡ map (ren (shift by)) (terms (take (k + 1) ts))
raised-step vs ws x y ts by k h i e s so =
    terms-push vs ws y e ∙ ap₂ (λ us t. us ++ t ∷ []) so (s ∙ raised-zero by (term x))
    ∙ sym (map-append (ren (shift by)) (terms (take k ts)) (term x ∷ []))
    ∙ ap (map (ren (shift by))) (sym (ap terms (taken-more ts x k h i) ∙ map-append term (take k ts) (x ∷ [])))

pub under-seen : (vs raised ws all : List code.Term) (by n k : ℕ) → by ≡ n → length vs ≤ k →
    terms raised ≡ map (ren (shift by)) (terms (take k vs)) →
    side_by_side (terms ws) ≡ above 0 n → all ≡ raised ++ ws → filled all ≡ lifts n (filled vs)
under-seen vs raised ws all by n k e h r d a =
    let t : take k vs ≡ vs = take_all k vs h in
    under-binders n vs ws all
    (ap terms a ∙ map-append term raised ws ∙ ap (λ ts. ts ++ terms ws)
    (r ∙ ap₂ (λ b us. map (ren (shift b)) (terms us)) e t)) d

-- the branch of a constructor
pub branch-seen : (vs : List code.Term) (σ : ℕ → Term) (ts : List code.Term) (Ts : Terms) (m n : ℕ) (P : Term) →
    terms vs ≡ map (sub σ) (terms ts) → side_by_side (terms ts) ≡ Ts →
    m ≡ length vs → sub (values_in (terms vs)) (ren (raised m n) P) ≡ sub (push (subs [] σ Ts) (λ i. var (shift n i))) P
branch-seen vs σ ts Ts m n P e d l =
    ap (λ m. sub (values_in (terms vs)) (ren (raised m n) P)) (l ∙ sym (length-map vs term)) ∙ branch-motive
    (terms vs) n P
    ∙ ap (λ ss. sub (push ss (λ i. var (shift n i))) P) (ap side_by_side e ∙ filled-targets σ (terms ts) Ts d)

pub ruleset binders = (
  the_lemmas,
  common_steps,
  length-map,
  raised-zero,
  side-joined,
  scale-append,
  scale-one,
  params-seen,
)
