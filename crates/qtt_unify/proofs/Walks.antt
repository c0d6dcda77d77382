-- Targets one after the other.
use Rattle.std.proofs.Common.{◌≡◌, ℕ, zero, suc, ◌+◌, ◌-◌, ◌<◌, ◌≤◌, true, false, cond, ◌&&◌, List, [], ◌∷◌, map, length, get_or, drop, Some, None, refl, sym, ◌∙◌, ap, arith}
use Rattle.std.proofs.lemmas.List.{get_or-reverse, length-reverse, length-map}
use Rattle.qtt_usage.specs.declared.mult.Mult.{Mult}
use Rattle.qtt_usage.specs.Mult.{𝟘}
use Rattle.qtt_term.specs.declared.term.Term as code
use Rattle.qtt_term.specs.Term.{Term, Terms, ε, ◌▸◌}
use Rattle.qtt_term.specs.Signature.{Env}
use Rattle.qtt_term.specs.Judgement.{Ctx, mult_at}
use Rattle.qtt_term.specs.View.{term}
use Rattle.qtt_unify.specs.Targets.{Scrutinee, solvable, all_solvable, unsolvable}
use Rattle.qtt_unify.specs.View.{all_terms, binders}
use Rattle.qtt_unify.proofs.Continuing.{at-drop, past-drop}

-- ---- whether all are solvable
pub record SolvableSoFar (E : Env) (S : Scrutinee) (ts : List code.Term) (i : ℕ) : Type 0 where
  pub is : all_solvable E S (all_terms ts) 0 ≡ all_solvable E S (all_terms (drop i ts)) 0

pub one-solvable : {E : Env} {S : Scrutinee} (ts : List code.Term) (i : ℕ) (t : code.Term) → i < length ts →
    t ≡ get_or ts i t → true ≡ solvable E S (term t) → SolvableSoFar E S ts i → SolvableSoFar E S ts (i + 1)
one-solvable {E} {S} ts i t h e s w = record {
  is = w.is ∙ ap (λ us. all_solvable E S us 0) (at-drop ts i t h e) ∙
      ap (λ b. b && all_solvable E S (all_terms (drop (i + 1) ts)) 0) (sym s);
}

pub one-unsolvable : {E : Env} {S : Scrutinee} (ts : List code.Term) (i : ℕ) (t : code.Term) → i < length ts →
    t ≡ get_or ts i t → false ≡ solvable E S (term t) → SolvableSoFar E S ts i →
    false ≡ all_solvable E S (all_terms ts) 0
one-unsolvable {E} {S} ts i t h e s w =
    sym (w.is ∙ ap (λ us. all_solvable E S us 0) (at-drop ts i t h e) ∙
    ap (λ b. b && all_solvable E S (all_terms (drop (i + 1) ts)) 0) (sym s))

pub all-solvable : {E : Env} {S : Scrutinee} (ts : List code.Term) (i : ℕ) → length ts ≤ i →
    SolvableSoFar E S ts i → true ≡ all_solvable E S (all_terms ts) 0
all-solvable {E} {S} ts i h w = sym (w.is ∙ ap (λ us. all_solvable E S us 0) (past-drop ts i h))

-- ---- the first that is not
pub record NoneSoFar (E : Env) (S : Scrutinee) (ts js us : List code.Term) (i : ℕ) : Type 0 where
  pub is : unsolvable E S (all_terms ts) (all_terms js) (all_terms us)
      ≡ unsolvable E S (all_terms (drop i ts)) (all_terms (drop i js)) (all_terms (drop i us))

at-place : (E : Env) (S : Scrutinee) (ts js us : List code.Term) (k : ℕ) (t i u : code.Term) → k < length ts →
    k < length js → k < length us → t ≡ get_or ts k t → i ≡ get_or js k i → u ≡ get_or us k u →
    unsolvable E S (all_terms (drop k ts)) (all_terms (drop k js)) (all_terms (drop k us))
    ≡ cond (solvable E S (term t))
    (unsolvable E S (all_terms (drop (k + 1) ts)) (all_terms (drop (k + 1) js)) (all_terms (drop (k + 1) us)))
    (Some (term u, term i))
at-place E S ts js us k t i u h l m e f g =
    ap (λ xs. unsolvable E S xs (all_terms (drop k js)) (all_terms (drop k us))) (at-drop ts k t h e) ∙
    ap (λ xs. unsolvable E S (term t ▸ all_terms (drop (k + 1) ts)) xs (all_terms (drop k us))) (at-drop js k i l f) ∙
    ap (λ xs. unsolvable E S (term t ▸ all_terms (drop (k + 1) ts)) (term i ▸ all_terms (drop (k + 1) js)) xs)
    (at-drop us k u m g)

pub one-more : {E : Env} {S : Scrutinee} (ts js us : List code.Term) (k : ℕ) (t i u : code.Term) → k < length ts →
    k < length js → k < length us → t ≡ get_or ts k t → i ≡ get_or js k i → u ≡ get_or us k u →
    true ≡ solvable E S (term t) → NoneSoFar E S ts js us k → NoneSoFar E S ts js us (k + 1)
one-more {E} {S} ts js us k t i u h l m e f g s w = record {
  is = w.is ∙ at-place E S ts js us k t i u h l m e f g ∙
      ap (λ b. cond b (unsolvable E S (all_terms (drop (k + 1) ts)) (all_terms (drop (k + 1) js))
      (all_terms (drop (k + 1) us))) (Some (term u, term i))) (sym s);
}

at-any : (xs : List code.Term) (k : ℕ) → k < length xs → (x : code.Term) × (x ≡ get_or xs k x)
at-any [] k h = absurd (omega arith)
at-any (x ∷ xs) zero h = (x, refl)
at-any (x ∷ xs) (suc k) h = at-any xs k (omega arith)

pub one-passed : {E : Env} {S : Scrutinee} (ts js us : List code.Term) (k : ℕ) (t : code.Term) → k < length ts →
    k < length js → k < length us → t ≡ get_or ts k t → true ≡ solvable E S (term t) → NoneSoFar E S ts js us k →
    NoneSoFar E S ts js us (k + 1)
one-passed ts js us k t h l m e s w =
    let i = at-any js k l in
    let u = at-any us k m in
    one-more ts js us k t i.0 u.0 h l m e i.1 u.1 s w

pub first-found : {E : Env} {S : Scrutinee} (ts js us : List code.Term) (k : ℕ) (t i u : code.Term) → k < length ts →
    k < length js → k < length us → t ≡ get_or ts k t → i ≡ get_or js k i → u ≡ get_or us k u →
    false ≡ solvable E S (term t) → NoneSoFar E S ts js us k →
    Some (term u, term i) ≡ unsolvable E S (all_terms ts) (all_terms js) (all_terms us)
first-found {E} {S} ts js us k t i u h l m e f g s w =
    sym (w.is ∙ at-place E S ts js us k t i u h l m e f g ∙
    ap (λ b. cond b (unsolvable E S (all_terms (drop (k + 1) ts)) (all_terms (drop (k + 1) js))
    (all_terms (drop (k + 1) us))) (Some (term u, term i))) (sym s))

none-beside : (E : Env) (S : Scrutinee) (ts js us : Terms) →
    (ts ≡ ε → unsolvable E S ts js us ≡ None) × (js ≡ ε → unsolvable E S ts js us ≡ None)
    × (us ≡ ε → unsolvable E S ts js us ≡ None)
none-beside E S ε js us = (λ e. refl, λ e. refl, λ e. refl)
none-beside E S (t ▸ ts) ε us = (λ e. refl, λ e. refl, λ e. refl)
none-beside E S (t ▸ ts) (i ▸ js) ε = (λ e. refl, λ e. refl, λ e. refl)
none-beside E S (t ▸ ts) (i ▸ js) (u ▸ us) = (λ e. absurd (cc e), λ e. absurd (cc e), λ e. absurd (cc e))

pub targets-end : {E : Env} {S : Scrutinee} (ts js us : List code.Term) (k : ℕ) → length ts ≤ k →
    NoneSoFar E S ts js us k → None ≡ unsolvable E S (all_terms ts) (all_terms js) (all_terms us)
targets-end {E} {S} ts js us k h w =
    sym (w.is ∙ (none-beside E S (all_terms (drop k ts)) (all_terms (drop k js)) (all_terms (drop k us))).0
    (past-drop ts k h))

pub indices-end : {E : Env} {S : Scrutinee} (ts js us : List code.Term) (k : ℕ) → length js ≤ k →
    NoneSoFar E S ts js us k → None ≡ unsolvable E S (all_terms ts) (all_terms js) (all_terms us)
indices-end {E} {S} ts js us k h w =
    sym (w.is ∙ (none-beside E S (all_terms (drop k ts)) (all_terms (drop k js)) (all_terms (drop k us))).1
    (past-drop js k h))

pub results-end : {E : Env} {S : Scrutinee} (ts js us : List code.Term) (k : ℕ) → length us ≤ k →
    NoneSoFar E S ts js us k → None ≡ unsolvable E S (all_terms ts) (all_terms js) (all_terms us)
results-end {E} {S} ts js us k h w =
    sym (w.is ∙ (none-beside E S (all_terms (drop k ts)) (all_terms (drop k js)) (all_terms (drop k us))).2
    (past-drop us k h))

-- ---- multiplicities
mult-got : (Γ : Ctx) (i : ℕ) (d : Mult × Term) → i < length Γ → mult_at Γ i ≡ (get_or Γ i d).0
mult-got [] i d h = absurd (omega arith)
mult-got (b ∷ Γ) zero d h = refl
mult-got (b ∷ Γ) (suc i) d h = mult-got Γ i d (omega arith)

mult-past : (Γ : Ctx) (i : ℕ) → length Γ ≤ i → mult_at Γ i ≡ 𝟘
mult-past [] i h = refl
mult-past (b ∷ Γ) zero h = absurd (omega arith)
mult-past (b ∷ Γ) (suc i) h = mult-past Γ i (omega arith)

abbrev bound : Mult × code.Term → Mult × Term
bound b = (b.0, term b.1)

at-map : (bs : List (Mult × code.Term)) (i : ℕ) (d : Mult × code.Term) →
    get_or (map bound bs) i (bound d) ≡ bound (get_or bs i d)
at-map [] i d = refl
at-map (b ∷ bs) zero d = refl
at-map (b ∷ bs) (suc i) d = at-map bs i d

length-binders : (bs : List (Mult × code.Term)) → length (binders bs) ≡ length bs
length-binders bs = length-reverse (map bound bs) ∙ length-map bs bound

pub mult-of : (bs : List (Mult × code.Term)) (i : ℕ) (b : Mult × code.Term) → i < length bs →
    b ≡ get_or bs (length bs - 1 - i) b → b.0 ≡ mult_at (binders bs) i
mult-of bs i b h e =
    let l : length (map bound bs) ≡ length bs = length-map bs bound in
    let k : i < length (map bound bs) = omega (arith, l) in
    let j : i < length (binders bs) = omega (arith, length-binders bs) in
    ap (λ x. x.0) e ∙
    sym (mult-got (binders bs) i (bound b) j ∙
    ap (λ x. x.0) (get_or-reverse (map bound bs) i (bound b) k ∙
    ap (λ n. get_or (map bound bs) (n - 1 - i) (bound b)) l ∙ at-map bs (length bs - 1 - i) b))

pub mult-past_all : (bs : List (Mult × code.Term)) (i : ℕ) → length bs ≤ i → 𝟘 ≡ mult_at (binders bs) i
mult-past_all bs i h = sym (mult-past (binders bs) i (omega (arith, length-binders bs)))

pub depth-of : (bs : List (Mult × code.Term)) → length bs ≡ length (binders bs)
depth-of bs = sym (length-binders bs)
