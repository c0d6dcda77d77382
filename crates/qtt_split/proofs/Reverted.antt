-- Variables that are bound again, one after another.
use Rattle.std.proofs.Common.{◌≡◌, ◌∙◌, ℕ, ◌+◌, ◌<◌, ◌≤◌, Bool, true, false, cond, ◌||◌, ◌&&◌, not, List, [], ◌∷◌, ◌++◌, length, get_or, drop, refl, sym, ap, append_assoc}
use Rattle.std.proofs.lemmas.List.{drop_more, drop_all}
use Rattle.qtt_usage.specs.declared.mult.Mult.{Mult}
use Rattle.qtt_term.specs.Term.{Term}
use Rattle.qtt_term.specs.Judgement.{Ctx, mult_at, type_at}
use Rattle.qtt_term.specs.Reading.{mentions}
use Rattle.qtt_unify.specs.Targets.{is_linear}
use Rattle.qtt_split.specs.Branch.{is_among, mentions_some, reverted}
use Rattle.qtt_split.specs.Reverting.{goes_along}

-- ---- the same variables are touched
reverted-along : (Γ : Ctx) (stay xs ys vs : List ℕ) → ((t : Term) → mentions_some xs t ≡ mentions_some ys t) →
    reverted Γ stay xs vs ≡ reverted Γ stay ys vs
reverted-along Γ stay xs ys [] same = refl
reverted-along Γ stay xs ys (v ∷ vs) same =
    ap (λ b. cond (not (is_among v stay) && (is_linear (mult_at Γ v) || b))
    ((mult_at Γ v, v) ∷ reverted Γ stay (v ∷ xs) vs) (reverted Γ stay xs vs)) (same (type_at Γ v)) ∙
    ap (λ rs. cond (goes_along Γ stay ys v) ((mult_at Γ v, v) ∷ rs) (reverted Γ stay xs vs))
    (reverted-along Γ stay (v ∷ xs) (v ∷ ys) vs (λ t. ap (λ b. mentions v t || b) (same t))) ∙
    ap (λ rs. cond (goes_along Γ stay ys v) ((mult_at Γ v, v) ∷ reverted Γ stay (v ∷ ys) vs) rs)
    (reverted-along Γ stay xs ys vs same)

or-turned : (a b : Bool) → (a || b) ≡ (b || a)
or-turned true true = refl
or-turned true false = refl
or-turned false true = refl
or-turned false false = refl

or-none : (a : Bool) → (a || false) ≡ a
or-none true = refl
or-none false = refl

or-later : (a b c : Bool) → (a || (b || c)) ≡ (b || (a || c))
or-later true true c = refl
or-later true false c = refl
or-later false true c = refl
or-later false false c = refl

one-touched : (v : ℕ) (xs : List ℕ) (t : Term) → mentions_some (v ∷ xs) t ≡ mentions_some (xs ++ v ∷ []) t
one-touched v [] t = refl
one-touched v (x ∷ xs) t =
    or-later (mentions v t) (mentions x t) (mentions_some xs t) ∙
    ap (λ b. mentions x t || b) (one-touched v xs t)

-- ---- those so far
pub record RevertedSoFar (Γ : Ctx) (stay touched vs : List ℕ) (i : ℕ) (found : List (Mult × ℕ)) (xs : List ℕ) : Type 0
  where
    pub is : reverted Γ stay touched vs ≡ found ++ reverted Γ stay xs (drop i vs)

pub none-reverted : (Γ : Ctx) (stay touched vs xs : List ℕ) → xs ≡ touched →
    RevertedSoFar Γ stay touched vs 0 [] xs
none-reverted Γ stay touched vs xs e = record { is = ap (λ ys. reverted Γ stay ys vs) (sym e) }

there : (Γ : Ctx) (stay xs vs : List ℕ) (i v d : ℕ) → i < length vs → v ≡ get_or vs i d →
    reverted Γ stay xs (drop i vs)
    ≡ cond (goes_along Γ stay xs v) ((mult_at Γ v, v) ∷ reverted Γ stay (v ∷ xs) (drop (i + 1) vs))
    (reverted Γ stay xs (drop (i + 1) vs))
there Γ stay xs vs i v d h e =
    ap (reverted Γ stay xs) (drop_more vs i d h ∙ ap (λ x. x ∷ drop (i + 1) vs) (sym e))

pub one-reverted : (Γ : Ctx) (stay touched vs : List ℕ) (i : ℕ) (found : List (Mult × ℕ)) (xs : List ℕ) (v d : ℕ) →
    i < length vs → v ≡ get_or vs i d → goes_along Γ stay xs v ≡ true → RevertedSoFar Γ stay touched vs i found xs →
    RevertedSoFar Γ stay touched vs (i + 1) (found ++ (mult_at Γ v, v) ∷ []) (xs ++ v ∷ [])
one-reverted Γ stay touched vs i found xs v d h e along so = record {
  is =
      so.is ∙
      ap (λ rs. found ++ rs) (there Γ stay xs vs i v d h e ∙
      ap (λ b. cond b ((mult_at Γ v, v) ∷ reverted Γ stay (v ∷ xs) (drop (i + 1) vs))
      (reverted Γ stay xs (drop (i + 1) vs))) along ∙
      ap (λ rs. (mult_at Γ v, v) ∷ rs)
      (reverted-along Γ stay (v ∷ xs) (xs ++ v ∷ []) (drop (i + 1) vs) (one-touched v xs))) ∙
      sym (append_assoc found ((mult_at Γ v, v) ∷ []) (reverted Γ stay (xs ++ v ∷ []) (drop (i + 1) vs)));
}

pub not-reverted : (Γ : Ctx) (stay touched vs : List ℕ) (i : ℕ) (found : List (Mult × ℕ)) (xs : List ℕ) (v d : ℕ) →
    i < length vs → v ≡ get_or vs i d → goes_along Γ stay xs v ≡ false → RevertedSoFar Γ stay touched vs i found xs →
    RevertedSoFar Γ stay touched vs (i + 1) found xs
not-reverted Γ stay touched vs i found xs v d h e stays so = record {
  is =
      so.is ∙
      ap (λ rs. found ++ rs) (there Γ stay xs vs i v d h e ∙
      ap (λ b. cond b ((mult_at Γ v, v) ∷ reverted Γ stay (v ∷ xs) (drop (i + 1) vs))
      (reverted Γ stay xs (drop (i + 1) vs))) stays);
}

pub all-reverted : (Γ : Ctx) (stay touched vs : List ℕ) (i : ℕ) (found : List (Mult × ℕ)) (xs : List ℕ) →
    length vs ≤ i → RevertedSoFar Γ stay touched vs i found xs → found ≡ reverted Γ stay touched vs
all-reverted Γ stay touched vs i found xs h so =
    sym (so.is ∙ ap (λ us. found ++ reverted Γ stay xs us) (drop_all i vs h) ∙ append-none found)
  where
    append-none : (rs : List (Mult × ℕ)) → rs ++ [] ≡ rs
    append-none [] = refl
    append-none (r ∷ rs) = ap (λ us. r ∷ us) (append-none rs)
