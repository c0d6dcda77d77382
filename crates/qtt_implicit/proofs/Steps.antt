-- One filling after another: what the first one answers, and then the second.
use Rattle.std.proofs.Common.{◌≡◌, ◌∙◌, ap, sym, subst, ℕ, Result, Ok, Err}
use Rattle.qtt_implicit.specs.Filling.{Stop, Filling, goes_on}
use Rattle.qtt_syntax.specs.Tree.{Tree, Binders, Statements}
use Rattle.qtt_implicit.specs.Known.{Known}
use Rattle.qtt_implicit.specs.Meeting.{IsStop, Meets}
use Rattle.qtt_implicit.specs.Walk.{Then, Types, Walked, walk, walk_binders, walk_statements}
use Rattle.std.specs.Result.{IsErrAnd}
use Rattle.qtt_implicit.specs.declared.filling.stop.Stop as stop_code
use Rattle.qtt_implicit.specs.declared.filling.stop.Stop.TheVariants as code

-- where the first gave a value, the second decides
pub goes_after : {A B : Type 0} {o : Result (A × ℕ) Stop} {a : A} {l : ℕ} (f : A → Filling B)
    {r : Result (B × ℕ) Stop} → o ≡ Ok (a, l) → f a l ≡ r → goes_on o f ≡ r
goes_after {A} {B} {o} {a} {l} f {r} e h = ap (λ x. goes_on x f) e ∙ h

pub stops_after : {A B : Type 0} (x : stop_code.Stop) {o : Result (A × ℕ) Stop} {a : A} {l : ℕ} (f : A → Filling B) →
    o ≡ Ok (a, l) → IsStop x (f a l) → IsStop x (goes_on o f)
stops_after {A} {B} x {o} {a} {l} f e h = subst (IsStop x) (sym (ap (λ r. goes_on r f) e)) h

pub meets_after : {A B X : Type 0} (view : X → B) (x : Result X stop_code.Stop) (left : ℕ) {o : Result (A × ℕ) Stop}
    {a : A} {l : ℕ} (f : A → Filling B) → o ≡ Ok (a, l) → Meets view x (f a l) left → Meets view x (goes_on o f) left
meets_after {A} {B} {X} view x left {o} {a} {l} f e h =
    subst (λ r. Meets view x r left) (sym (ap (λ r. goes_on r f) e)) h

-- the same fact at an equal answer
pub stop_at : {A : Type 0} (x : stop_code.Stop) {o p : Result (A × ℕ) Stop} → o ≡ p → IsStop x p → IsStop x o
stop_at x e h = subst (IsStop x) (sym e) h

-- what a `?` hands on
pub exits : {A X : Type 0} (view : X → A) (r : Result X stop_code.Stop) (x : stop_code.Stop) (o : Result (A × ℕ) Stop)
    (left : ℕ) → IsErrAnd r (λ e. e ≡ x) → IsStop x o → Meets view r o left
exits view (Ok v) x o left e h = absurd e
exits view (Err e) x o left same h = subst (λ z. IsStop z o) (sym same) h

-- want of memory
pub wanting : {A X : Type 0} (view : X → A) (r : Result X stop_code.Stop) (o : Result (A × ℕ) Stop) (left : ℕ) →
    IsErrAnd r (λ e. e ≡ code.Memory) → Meets view r o left
wanting view (Ok v) o left e = absurd e
wanting view (Err e) o left same = subst (λ z. IsStop z o) (sym same) tt

-- the same answer, by an equal value
pub done_at : {A : Type 0} {a b : A} {l : ℕ} → b ≡ a → (let r : Result (A × ℕ) Stop = Ok (a, l) in r) ≡ Ok (b, l)
done_at {A} {a} {b} {l} e = ap (λ (x : A). let r : Result (A × ℕ) Stop = Ok (x, l) in r) (sym e)

pub meets_at : {A X : Type 0} (view : X → A) (r : Result X stop_code.Stop) (left : ℕ) {o p : Result (A × ℕ) Stop} →
    o ≡ p → Meets view r p left → Meets view r o left
meets_at view r left e h = subst (λ z. Meets view r z left) (sym e) h

-- an answer among other local names
pub walk_at : (K : Known) (t : Tree) (l : ℕ) {Γ Δ : Types} {r : Result (Walked × ℕ) Stop} → Γ ≡ Δ → walk K Γ t l ≡ r →
    walk K Δ t l ≡ r
walk_at K t l e h = ap (λ (g : Types). walk K g t l) (sym e) ∙ h

pub walk_stops_at : (x : stop_code.Stop) (K : Known) (t : Tree) (l : ℕ) {Γ Δ : Types} → Γ ≡ Δ →
    IsStop x (walk K Γ t l) → IsStop x (walk K Δ t l)
walk_stops_at x K t l e h = subst (λ (g : Types). IsStop x (walk K g t l)) e h

pub binders_at : (K : Known) (bs : Binders) (l : ℕ) {Γ Δ : Types} {r : Result (Then Binders × ℕ) Stop} → Γ ≡ Δ →
    walk_binders K Γ bs l ≡ r → walk_binders K Δ bs l ≡ r
binders_at K bs l e h = ap (λ (g : Types). walk_binders K g bs l) (sym e) ∙ h

pub binders_stop_at : (x : stop_code.Stop) (K : Known) (bs : Binders) (l : ℕ) {Γ Δ : Types} → Γ ≡ Δ →
    IsStop x (walk_binders K Γ bs l) → IsStop x (walk_binders K Δ bs l)
binders_stop_at x K bs l e h = subst (λ (g : Types). IsStop x (walk_binders K g bs l)) e h

pub statements_at : (K : Known) (ss : Statements) (l : ℕ) {Γ Δ : Types} {r : Result (Statements × ℕ) Stop} → Γ ≡ Δ →
    walk_statements K Γ ss l ≡ r → walk_statements K Δ ss l ≡ r
statements_at K ss l e h = ap (λ (g : Types). walk_statements K g ss l) (sym e) ∙ h

pub statements_stop_at : (x : stop_code.Stop) (K : Known) (ss : Statements) (l : ℕ) {Γ Δ : Types} → Γ ≡ Δ →
    IsStop x (walk_statements K Γ ss l) → IsStop x (walk_statements K Δ ss l)
statements_stop_at x K ss l e h = subst (λ (g : Types). IsStop x (walk_statements K g ss l)) e h
