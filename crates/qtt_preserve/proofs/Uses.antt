-- A use taken through a matrix: it keeps sums, products and the order, and the join up to the order.
use Rattle.std.proofs.Common.{◌≡◌, ℕ, zero, suc, Bool, true, false, cond, List, [], ◌∷◌, length, map, refl, sym, ◌∙◌, ap, subst}
use mathlib.Core.Path.{fun_ext, ap₂}
use Rattle.qtt_usage.specs.declared.mult.Mult.{Mult}
use Rattle.qtt_usage.specs.Mult.{𝟘, ◌⊕◌, ◌⊙◌, join, ◌≼◌}
use Rattle.qtt_usage.specs.Uses.{Key, Use, unit, nat_unit, zero_use, out, outs}
use Rattle.qtt_usage.proofs.Mults.{⊕-zero, ⊕-comm, ⊙-zero, ⊙-one, ⊕-swap, ⊙-⊕, ⊕-⊙, ⊙-assoc, ≼-refl, ≼-trans, ⊕-mono, ⊙-mono, join-mono, join-law', join-sum}
use Rattle.qtt_term.specs.Term.{Term}
use Rattle.qtt_term.specs.Substitution.{sub, lift, lifts}
use Rattle.qtt_term.specs.Judgement.{Ctx, InScope, ext, Judged, share, sum_of, join_of, has_branch, total, BindersFit, AtMost, sub_binds}
use Rattle.qtt_preserve.specs.Through.{dot, tapes_of, through}

-- ---- the order at every key, and what else carries uses under binders
infix 40 ◌≼ᵤ◌
abbrev pub ◌≼ᵤ◌ : Use → Use → Type 0
u ≼ᵤ w = (x : Key) → u x ≼ w x

-- a use with one more variable, which is not used
abbrev pub wk_use : Use → Use
wk_use u (Key.v zero) = 𝟘
wk_use u (Key.v (suc i)) = u (Key.v i)
wk_use u (Key.h i) = u (Key.h i)

abbrev pub lift_uses : (ℕ → Use) → ℕ → Use
lift_uses M zero = unit (Key.v 0)
lift_uses M (suc i) = wk_use (M i)

abbrev pub lifts_uses : ℕ → (ℕ → Use) → ℕ → Use
lifts_uses zero M = M
lifts_uses (suc n) M = lifts_uses n (lift_uses M)

-- what is asked of a component, after a substitution
abbrev pub sub_judged : Ctx → (ℕ → Term) → (ℕ → Use) → Judged → Judged
sub_judged Γ σ M j = record {
  binds = sub_binds σ j.binds;
  type = sub (lifts (length j.binds) σ) j.type;
  mult = j.mult;
  branch = j.branch;
  uses = through (ext Γ j.binds) (lifts_uses (length j.binds) M) j.uses;
}

pub ≼-of : {a b : Mult} → a ≡ b → a ≼ b
≼-of {a} e = subst (λ c. a ≼ c) e (≼-refl a)

dot-⊕ : (Γ : Ctx) (a a' b : ℕ → Mult) → dot Γ (λ i. a i ⊕ a' i) b ≡ dot Γ a b ⊕ dot Γ a' b
dot-⊕ [] a a' b = refl
dot-⊕ (c ∷ Γ) a a' b =
    rw (dot-⊕ Γ (λ i. a (suc i)) (λ i. a' (suc i)) (λ i. b (suc i)), ⊕-⊙ (a 0) (a' 0) (b 0)) (⊕-swap (a 0 ⊙ b 0) _ _ _)

dot-⊙ : (Γ : Ctx) (q : Mult) (a b : ℕ → Mult) → dot Γ (λ i. q ⊙ a i) b ≡ q ⊙ dot Γ a b
dot-⊙ [] q a b = sym (⊙-zero q)
dot-⊙ (c ∷ Γ) q a b =
    rw (dot-⊙ Γ q (λ i. a (suc i)) (λ i. b (suc i)), ⊙-assoc q (a 0) (b 0)) (sym (⊙-⊕ q (a 0 ⊙ b 0) _))

dot-join : (Γ : Ctx) (a a' b : ℕ → Mult) → join (dot Γ a b) (dot Γ a' b) ≼ dot Γ (λ i. join (a i) (a' i)) b
dot-join [] a a' b = tt
dot-join (c ∷ Γ) a a' b =
    ≼-trans _ (join (a 0) (a' 0) ⊙ b 0 ⊕ join (dot Γ (λ i. a (suc i)) (λ i. b (suc i)))
    (dot Γ (λ i. a' (suc i)) (λ i. b (suc i)))) _
    (join-law' _ _ (a 0) (a' 0) (b 0))
    (⊕-mono (join (a 0) (a' 0) ⊙ b 0) _ _ _ (≼-refl (join (a 0) (a' 0) ⊙ b 0))
    (dot-join Γ (λ i. a (suc i)) (λ i. a' (suc i)) (λ i. b (suc i))))

dot-mono : (Γ : Ctx) (a a' b : ℕ → Mult) → ((i : ℕ) → InScope Γ i → a i ≼ a' i) → dot Γ a b ≼ dot Γ a' b
dot-mono [] a a' b h = tt
dot-mono (c ∷ Γ) a a' b h =
    ⊕-mono (a 0 ⊙ b 0) _ _ _ (⊙-mono (a 0) (a' 0) (b 0) (h 0 tt))
    (dot-mono Γ (λ i. a (suc i)) (λ i. a' (suc i)) (λ i. b (suc i)) (λ i. h (suc i)))

dot-no-row : (Γ : Ctx) (b : ℕ → Mult) → dot Γ (λ i. 𝟘) b ≡ 𝟘
dot-no-row [] b = refl
dot-no-row (c ∷ Γ) b = dot-no-row Γ (λ i. b (suc i))

dot-no-column : (Γ : Ctx) (a : ℕ → Mult) → dot Γ a (λ i. 𝟘) ≡ 𝟘
dot-no-column [] a = refl
dot-no-column (c ∷ Γ) a = rw (⊙-zero (a 0), dot-no-column Γ (λ i. a (suc i)))

dot-unit : (Γ : Ctx) (i : ℕ) (b : ℕ → Mult) → InScope Γ i → dot Γ (nat_unit i) b ≡ b i
dot-unit [] i b s = elim s [ ]
dot-unit (c ∷ Γ) zero b s = rw (dot-no-row Γ (λ i. b (suc i))) (⊕-zero (b 0))
dot-unit (c ∷ Γ) (suc i) b s = dot-unit Γ i (λ i. b (suc i)) s

-- the column that picks entry j
dot-pick : (Γ : Ctx) (a : ℕ → Mult) (j : ℕ) → InScope Γ j → dot Γ a (λ i. nat_unit i j) ≡ a j
dot-pick [] a j s = elim s [ ]
dot-pick (c ∷ Γ) a zero s = rw (⊙-one (a 0), dot-no-column Γ (λ i. a (suc i))) (⊕-zero (a 0))
dot-pick (c ∷ Γ) a (suc j) s = rw (⊙-zero (a 0)) (dot-pick Γ (λ i. a (suc i)) j s)

tapes-⊕ : (u w : Use) (x : Key) → tapes_of (λ y. u y ⊕ w y) x ≡ tapes_of u x ⊕ tapes_of w x
tapes-⊕ u w (Key.v i) = refl
tapes-⊕ u w (Key.h i) = refl

tapes-⊙ : (q : Mult) (u : Use) (x : Key) → tapes_of (λ y. q ⊙ u y) x ≡ q ⊙ tapes_of u x
tapes-⊙ q u (Key.v i) = sym (⊙-zero q)
tapes-⊙ q u (Key.h i) = refl

tapes-join : (u w : Use) (x : Key) → join (tapes_of u x) (tapes_of w x) ≼ tapes_of (λ y. join (u y) (w y)) x
tapes-join u w (Key.v i) = tt
tapes-join u w (Key.h i) = ≼-refl (join (u (Key.h i)) (w (Key.h i)))

tapes-mono : (Γ : Ctx) (u w : Use) → AtMost Γ u w → tapes_of u ≼ᵤ tapes_of w
tapes-mono Γ u w k (Key.v i) = tt
tapes-mono Γ u w k (Key.h i) = k (Key.h i) tt

module _ (Γ : Ctx) (M : ℕ → Use) where
  pub through-⊕ : (u w : Use) → through Γ M (λ y. u y ⊕ w y) ≡ (λ x. through Γ M u x ⊕ through Γ M w x)
  through-⊕ u w = fun_ext λ x. rw (tapes-⊕ u w x, dot-⊕ Γ (λ i. u (Key.v i)) (λ i. w (Key.v i)) (λ i. M i x))
      (⊕-swap (tapes_of u x) _ _ _)

  pub through-⊙ : (q : Mult) (u : Use) → through Γ M (λ y. q ⊙ u y) ≡ (λ x. q ⊙ through Γ M u x)
  through-⊙ q u = fun_ext λ x. rw (tapes-⊙ q u x, dot-⊙ Γ q (λ i. u (Key.v i)) (λ i. M i x))
      (sym (⊙-⊕ q (tapes_of u x) _))

  pub through-join : (u w : Use) →
      (λ x. join (through Γ M u x) (through Γ M w x)) ≼ᵤ through Γ M (λ y. join (u y) (w y))
  through-join u w x =
      ≼-trans _ (join (tapes_of u x) (tapes_of w x) ⊕ join (dot Γ (λ i. u (Key.v i)) (λ i. M i x))
      (dot Γ (λ i. w (Key.v i)) (λ i. M i x))) _
      (join-sum (tapes_of u x) _ _ _)
      (⊕-mono _ (tapes_of (λ y. join (u y) (w y)) x) _ _ (tapes-join u w x)
      (dot-join Γ (λ i. u (Key.v i)) (λ i. w (Key.v i)) (λ i. M i x)))

  pub through-mono : (u w : Use) → AtMost Γ u w → through Γ M u ≼ᵤ through Γ M w
  through-mono u w k x =
      ⊕-mono (tapes_of u x) (tapes_of w x) _ _ (tapes-mono Γ u w k x)
      (dot-mono Γ (λ i. u (Key.v i)) (λ i. w (Key.v i)) (λ i. M i x) (λ i. k (Key.v i)))

  pub through-zero : through Γ M zero_use ≡ zero_use
  through-zero = fun_ext λ x. go x
    where
      go : (x : Key) → through Γ M zero_use x ≡ 𝟘
      go (Key.v i) = dot-no-row Γ (λ j. M j (Key.v i))
      go (Key.h i) = dot-no-row Γ (λ j. M j (Key.h i))

  pub through-var : (i : ℕ) → InScope Γ i → through Γ M (unit (Key.v i)) ≡ M i
  through-var i s = fun_ext λ x. go x
    where
      go : (x : Key) → through Γ M (unit (Key.v i)) x ≡ M i x
      go (Key.v j) = dot-unit Γ i (λ k. M k (Key.v j)) s
      go (Key.h j) = dot-unit Γ i (λ k. M k (Key.h j)) s

  pub through-tape : (i : ℕ) → through Γ M (unit (Key.h i)) ≡ unit (Key.h i)
  through-tape i = fun_ext λ x. go x
    where
      go : (x : Key) → through Γ M (unit (Key.h i)) x ≡ unit (Key.h i) x
      go (Key.v j) = dot-no-row Γ (λ k. M k (Key.v j))
      go (Key.h j) = rw (dot-no-row Γ (λ k. M k (Key.h j))) (⊕-zero (nat_unit i j))

  -- each variable as the one above it
  pub through-above : (b : Mult × Term) (u : Use) → AtMost (b ∷ Γ) (through Γ (λ i. unit (Key.v (suc i))) u) (wk_use u)
  through-above b u (Key.v zero) s = ≼-of (dot-no-column Γ (λ i. u (Key.v i)))
  through-above b u (Key.v (suc j)) s = ≼-of (dot-pick Γ (λ i. u (Key.v i)) j s)
  through-above b u (Key.h j) s = ≼-of (rw (dot-no-column Γ (λ i. u (Key.v i))) (⊕-zero (u (Key.h j))))

  -- under one binder
  pub through-out : (b : Mult × Term) (u : Use) → out (through (b ∷ Γ) (lift_uses M) u) ≡ through Γ M (out u)
  through-out b u = fun_ext λ x. go x
    where
      go : (x : Key) → out (through (b ∷ Γ) (lift_uses M) u) x ≡ through Γ M (out u) x
      go (Key.v i) = rw (⊙-zero (u (Key.v 0)))
      go (Key.h i) = rw (⊙-zero (u (Key.v 0)))

  pub through-bound : (b : Mult × Term) (u : Use) → through (b ∷ Γ) (lift_uses M) u (Key.v 0) ≡ u (Key.v 0)
  through-bound b u = rw (dot-no-column Γ (λ i. u (Key.v (suc i))), ⊙-one (u (Key.v 0))) (⊕-zero (u (Key.v 0)))

pub through-same : (Γ : Ctx) (w : Use) → AtMost Γ (through Γ (λ i. unit (Key.v i)) w) w
through-same Γ w (Key.v j) s = ≼-of (dot-pick Γ (λ i. w (Key.v i)) j s)
through-same Γ w (Key.h j) s = ≼-of (rw (dot-no-column Γ (λ i. w (Key.v i))) (⊕-zero (w (Key.h j))))

-- one term for variable 0, and each other variable as the one below it
abbrev pub one_row : Use → ℕ → Use
one_row y zero = y
one_row y (suc i) = unit (Key.v i)

pub through-one : (Γ : Ctx) (b : Mult × Term) (w y : Use) →
    AtMost Γ (through (b ∷ Γ) (one_row y) w) (λ x. out w x ⊕ w (Key.v 0) ⊙ y x)
through-one Γ b w y (Key.v j) s =
    ≼-of (rw (dot-pick Γ (λ i. w (Key.v (suc i))) j s) (⊕-comm (w (Key.v 0) ⊙ y (Key.v j)) (w (Key.v (suc j)))))
through-one Γ b w y (Key.h j) s =
    ≼-of (rw (dot-no-column Γ (λ i. w (Key.v (suc i))), ⊕-zero (w (Key.v 0) ⊙ y (Key.h j))) refl)

-- under several
pub through-outs : (Γ : Ctx) (M : ℕ → Use) (Θ : List (Mult × Term)) (u : Use) →
    outs (length Θ) (through (ext Γ Θ) (lifts_uses (length Θ) M) u) ≡ through Γ M (outs (length Θ) u)
through-outs Γ M [] u = refl
through-outs Γ M (b ∷ Θ) u = ap out (through-outs (b ∷ Γ) (lift_uses M) Θ u) ∙ through-out Γ M b (outs (length Θ) u)

pub length-sub_binds : (σ : ℕ → Term) (Θ : List (Mult × Term)) → length (sub_binds σ Θ) ≡ length Θ
length-sub_binds σ [] = refl
length-sub_binds σ (b ∷ Θ) = ap suc (length-sub_binds (lift σ) Θ)

pub through-fit : (Γ : Ctx) (σ : ℕ → Term) (M : ℕ → Use) (Θ : List (Mult × Term)) (u : Use) → BindersFit Θ u →
    BindersFit (sub_binds σ Θ) (through (ext Γ Θ) (lifts_uses (length Θ) M) u)
through-fit Γ σ M [] u f = tt
through-fit Γ σ M (b ∷ Θ) u f = (
  rw (length-sub_binds (lift σ) Θ, through-outs (b ∷ Γ) (lift_uses M) Θ u, through-bound Γ M b (outs (length Θ) u)) f.0,
  through-fit (b ∷ Γ) (lift σ) (lift_uses M) Θ u f.1,
)

module _ (Γ : Ctx) (σ : ℕ → Term) (M : ℕ → Use) where
  share-sub : (j : Judged) → share (sub_judged Γ σ M j) ≡ through Γ M (share j)
  share-sub j =
      ap (λ n x. j.mult ⊙ outs n (through (ext Γ j.binds) (lifts_uses (length j.binds) M) j.uses) x)
      (length-sub_binds σ j.binds)
      ∙ ap (λ u x. j.mult ⊙ u x) (through-outs Γ M j.binds j.uses)
      ∙ sym (through-⊙ Γ M j.mult (outs (length j.binds) j.uses))

  sum_step : (b : Bool) (u w u' w' : Use) → u' ≡ through Γ M u → w' ≡ through Γ M w →
      (λ x. cond b (w' x) (u' x ⊕ w' x)) ≡ through Γ M (λ x. cond b (w x) (u x ⊕ w x))
  sum_step true u w u' w' d e = e
  sum_step false u w u' w' d e = ap₂ (λ f g x. f x ⊕ g x) d e ∙ sym (through-⊕ Γ M u w)

  sum-sub : (js : List Judged) → sum_of (map (sub_judged Γ σ M) js) ≡ through Γ M (sum_of js)
  sum-sub [] = sym (through-zero Γ M)
  sum-sub (j ∷ js) = sum_step j.branch (share j) (sum_of js) _ _ (share-sub j) (sum-sub js)

  branch-sub : (js : List Judged) → has_branch (map (sub_judged Γ σ M) js) ≡ has_branch js
  branch-sub [] = refl
  branch-sub (j ∷ js) = ap (cond j.branch true) (branch-sub js)

  join_step : (b c : Bool) (u w u' w' : Use) → u' ≡ through Γ M u → w' ≼ᵤ through Γ M w →
      (λ x. cond b (cond c (join (u' x) (w' x)) (u' x)) (w' x)) ≼ᵤ through Γ M
      (λ x. cond b (cond c (join (u x) (w x)) (u x)) (w x))
  join_step false c u w u' w' d k x = k x
  join_step true false u w u' w' d k x = ≼-of (ap (λ f. f x) d)
  join_step true true u w u' w' d k x =
      ≼-trans _ (join (through Γ M u x) (through Γ M w x)) _
      (join-mono (u' x) (through Γ M u x) _ _ (≼-of (ap (λ f. f x) d)) (k x)) (through-join Γ M u w x)

  join-sub : (js : List Judged) → join_of (map (sub_judged Γ σ M) js) ≼ᵤ through Γ M (join_of js)
  join-sub [] = λ x. ≼-of (ap (λ f. f x) (sym (through-zero Γ M)))
  join-sub (j ∷ js) =
      rw (branch-sub js) (join_step j.branch (has_branch js) (share j) (join_of js) _ _ (share-sub j) (join-sub js))

  pub total-sub : (js : List Judged) (own own' : Use) → own' ≼ᵤ through Γ M own →
      total own' (map (sub_judged Γ σ M) js) ≼ᵤ through Γ M (total own js)
  total-sub js own own' k x =
      ≼-trans _ (through Γ M own x ⊕ (through Γ M (sum_of js) x ⊕ through Γ M (join_of js) x)) _
      (⊕-mono (own' x) (through Γ M own x) _ _ (k x)
      (⊕-mono (sum_of (map (sub_judged Γ σ M) js) x) (through Γ M (sum_of js) x) _ _
      (≼-of (ap (λ f. f x) (sum-sub js))) (join-sub js x)))
      (≼-of (ap (λ f. f x) (sym
      (through-⊕ Γ M own (λ y. sum_of js y ⊕ join_of js y) ∙ ap (λ f y. through Γ M own y ⊕ f y)
      (through-⊕ Γ M (sum_of js) (join_of js))))))
