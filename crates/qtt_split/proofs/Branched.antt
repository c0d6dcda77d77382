-- What becomes of a node's variables in a branch, and of what was seen of them.
use Rattle.std.proofs.Common.{◌≡◌, ◌∙◌, ℕ, zero, suc, ◌+◌, ◌<◌, ◌≤◌, true, false, cond, eqb, List, [], ◌∷◌, length, get_or, map, drop, refl, sym, ap}
use Rattle.std.proofs.lemmas.Bool.{eq-eqb}
use Rattle.std.proofs.lemmas.List.{drop_more, drop_all}
use Rattle.qtt_usage.specs.declared.mult.Mult.{Mult}
use Rattle.qtt_term.specs.declared.term.ConId.{ConId}
use Rattle.qtt_term.specs.declared.term.Term as code
use Rattle.qtt_term.specs.Term.{Term}
use Rattle.qtt_term.specs.Substitution.{shift}
use Rattle.qtt_term.specs.View.{term}
use Rattle.qtt_unify.specs.View.{solution}
use Rattle.qtt_split.specs.declared.sights.Seen as code_seen
use Rattle.qtt_split.specs.Branch.{put, put_all, rebound, solved_sights, field_sights, seen_as}
use Rattle.qtt_split.specs.Plan.{start_sights}
use Rattle.qtt_split.specs.Seen.{Seen, Sights, sights, seen_by, all_seen_by, oldest_first}
use Rattle.qtt_split.specs.Sights.{seen_of, sights_of}
use Rattle.qtt_split.proofs.Substituted.{put-along}

-- ---- solved variables
pub one-solved : (s : List (ℕ × code.Term)) (k : ℕ) (x : ℕ × code.Term) (δ σ τ : ℕ → Term) → k < length s →
    x ≡ get_or s k x → ((i : ℕ) → σ i ≡ put_all (map solution (drop (k + 1) s)) δ i) →
    ((i : ℕ) → τ i ≡ put x.0 (term x.1) σ i) → (i : ℕ) → τ i ≡ put_all (map solution (drop k s)) δ i
one-solved s k x δ σ τ h e so now i =
    now i ∙ put-along x.0 (term x.1) σ (put_all (map solution (drop (k + 1) s)) δ) so i ∙
    ap (λ xs. put_all (map solution xs) δ i) (sym (drop_more s k x h ∙ ap (λ y. y ∷ drop (k + 1) s) (sym e)))

pub none-solved : (s : List (ℕ × code.Term)) (k : ℕ) (δ : ℕ → Term) → length s ≤ k → (i : ℕ) →
    δ i ≡ put_all (map solution (drop k s)) δ i
none-solved s k δ h i = ap (λ xs. put_all (map solution xs) δ i) (sym (drop_all k s h))

-- what is seen of a variable that those before place k do not solve
abbrev pub seen_past : List (ℕ × code.Term) → ℕ → (ℕ → Seen) → ℕ → Seen
seen_past s k δ i = put_all (solved_sights (map solution (drop k s))) δ i

pub first-solved : (s : List (ℕ × code.Term)) (k : ℕ) (x : ℕ × code.Term) (δ : ℕ → Seen) (i : ℕ) → k < length s →
    x ≡ get_or s k x → eqb i x.0 ≡ true → seen_past s k δ i ≡ Seen.by_equation (term x.1)
first-solved s k x δ i h e d =
    ap (λ xs. put_all (solved_sights (map solution xs)) δ i)
    (drop_more s k x h ∙ ap (λ y. y ∷ drop (k + 1) s) (sym e)) ∙
    ap (λ b. cond b (Seen.by_equation (term x.1)) (seen_past s (k + 1) δ i)) d

pub not-solved : (s : List (ℕ × code.Term)) (k : ℕ) (x : ℕ × code.Term) (δ : ℕ → Seen) (i : ℕ) → k < length s →
    x ≡ get_or s k x → eqb i x.0 ≡ false → seen_past s k δ i ≡ seen_past s (k + 1) δ i
not-solved s k x δ i h e d =
    ap (λ xs. put_all (solved_sights (map solution xs)) δ i)
    (drop_more s k x h ∙ ap (λ y. y ∷ drop (k + 1) s) (sym e)) ∙
    ap (λ b. cond b (Seen.by_equation (term x.1)) (seen_past s (k + 1) δ i)) d

pub past-all : (s : List (ℕ × code.Term)) (k : ℕ) (δ : ℕ → Seen) (i : ℕ) → length s ≤ k → seen_past s k δ i ≡ δ i
past-all s k δ i h = ap (λ xs. put_all (solved_sights (map solution xs)) δ i) (drop_all k s h)

-- ---- variables that are bound again
-- what becomes of one of them
abbrev pub rebound_at : {A : Type 0} → A → (A → A) → List (Mult × ℕ) → ℕ → A → A
rebound_at new deeper [] i a = a
rebound_at new deeper (b ∷ rs) i a = rebound_at new deeper rs i (cond (eqb i b.1) new (deeper a))

pub rebound-at : {A : Type 0} (new : A) (deeper : A → A) (rs : List (Mult × ℕ)) (δ : ℕ → A) (i : ℕ) →
    rebound new deeper rs δ i ≡ rebound_at new deeper rs i (δ i)
rebound-at new deeper [] δ i = refl
rebound-at new deeper (b ∷ rs) δ i = rebound-at new deeper rs (put b.1 new (λ j. deeper (δ j))) i

pub one-rebound : {A : Type 0} (new : A) (deeper : A → A) (rs : List (Mult × ℕ)) (k : ℕ) (d : Mult × ℕ) (i : ℕ)
    (a c : A) → k < length rs → c ≡ cond (eqb i (get_or rs k d).1) new (deeper a) →
    rebound_at new deeper (drop k rs) i a ≡ rebound_at new deeper (drop (k + 1) rs) i c
one-rebound new deeper rs k d i a c h f =
    ap (λ xs. rebound_at new deeper xs i a) (drop_more rs k d h) ∙
    ap (rebound_at new deeper (drop (k + 1) rs) i) (sym f)

pub all-rebound : {A : Type 0} (new : A) (deeper : A → A) (rs : List (Mult × ℕ)) (k i : ℕ) (a : A) → length rs ≤ k →
    rebound_at new deeper (drop k rs) i a ≡ a
all-rebound new deeper rs k i a h = ap (λ xs. rebound_at new deeper xs i a) (drop_all k rs h)

-- ---- sights
pub fields-open : (n : ℕ) → field_sights n ≡ start_sights (oldest_first n)
fields-open zero = refl
fields-open (suc n) = ap (Sights.sight_and (Seen.open_at n)) (fields-open n)

-- one by one
pub each-seen : (ρ : ℕ → Seen) (δ : ℕ → Term) (ss : List code_seen.Seen) →
    sights (map (λ s. seen_by ρ δ (seen_of s)) ss) ≡ all_seen_by ρ δ (sights_of ss)
each-seen ρ δ [] = refl
each-seen ρ δ (s ∷ ss) = ap (Sights.sight_and (seen_by ρ δ (seen_of s))) (each-seen ρ δ ss)

-- ---- under the fields alone
pub split-seen : (x : ℕ) (c : ConId) (s : List (ℕ × Term)) (n i : ℕ) → i ≡ x →
    seen_as x c s n i ≡ Seen.made_of c (start_sights (oldest_first n))
split-seen x c s n i e =
    ap (λ b. cond b (Seen.made_of c (field_sights n)) (put_all (solved_sights s) (λ j. Seen.open_at (shift n j)) i))
    (eq-eqb i x e) ∙
    ap (Seen.made_of c) (fields-open n)

pub not-split : (x : ℕ) (c : ConId) (s : List (ℕ × Term)) (n i : ℕ) → eqb i x ≡ false →
    seen_as x c s n i ≡ put_all (solved_sights s) (λ j. Seen.open_at (shift n j)) i
not-split x c s n i e =
    ap (λ b. cond b (Seen.made_of c (field_sights n)) (put_all (solved_sights s) (λ j. Seen.open_at (shift n j)) i)) e
