-- Looking up one part after another.
use Rattle.std.proofs.Common.{◌≡◌, ℕ, ◌<◌, List, [], ◌∷◌, ◌++◌, Ok, Err, refl, ap, sym, ◌∙◌, arith, fold, map, take, drop, length, get_or, ◌+◌}
use Rattle.std.proofs.lemmas.List.{map-append}
use Rattle.std.proofs.lemmas.Grind.{common_steps}
use Rattle.qtt_names.specs.Answer.{Answer, Mistake, ◌>>=◌}
use Rattle.qtt_names.specs.InTurn.{in_turn}

pub ok_then : {A B : Type 0} (a : A) (k : A → Answer B) → (Ok a >>= k) ≡ k a
unfolding ◌>>=◌
ok_then a k = refl

pub err_then : {A B : Type 0} (e : Mistake) (k : A → Answer B) → (Err e >>= k) ≡ Err e
unfolding ◌>>=◌
err_then e k = refl

then_ok : {A : Type 0} (x : Answer A) → (x >>= λ a. Ok a) ≡ x
unfolding ◌>>=◌
then_ok (Ok a) = refl
then_ok (Err e) = refl

joined : {B : Type 0} (b : B) (one other : Answer (List B))
    → ((one >>= λ bs. other >>= λ cs. Ok (bs ++ cs)) >>= λ ds. Ok (b ∷ ds)) ≡
    ((one >>= λ bs. Ok (b ∷ bs)) >>= λ bs. other >>= λ cs. Ok (bs ++ cs))
unfolding ◌>>=◌
joined b (Err e) other = refl
joined b (Ok bs) (Err e) = refl
joined b (Ok bs) (Ok cs) = refl

-- a list that a loop goes along: what it has passed, what it is at, and what is left
split : {A C : Type 0} (view : C → A) (xs : List C) (i : ℕ) (x : C) → i < length xs → x ≡ get_or xs i x
    → map view xs ≡ map view (take i xs) ++ view x ∷ map view (drop (i + 1) xs)
split view xs i x lt here =
    let parts : xs ≡ take i xs ++ x ∷ drop (i + 1) xs = grind (arith, common_steps, lt, here) in
    ap (map view) parts ∙ map-append view (take i xs) (x ∷ drop (i + 1) xs)

module _ {S A B : Type 0} (each : S → A → Answer B) (next : S → A → S) where
  -- what stands behind others is looked up behind them
  in_turn-append : (s : S) (xs ys : List A)
      → in_turn each next s (xs ++ ys) ≡
      (in_turn each next s xs >>= λ bs. in_turn each next (fold next s xs) ys >>= λ cs. Ok (bs ++ cs))
  unfolding ◌>>=◌
  in_turn-append s [] ys = sym
      (ok_then [] (λ bs. in_turn each next s ys >>= λ cs. Ok (bs ++ cs)) ∙ then_ok (in_turn each next s ys))
  in_turn-append s (x ∷ xs) ys = by (each s x) (in_turn-append (next s x) xs ys)
    where
      by : (r : Answer B) → in_turn each next (next s x) (xs ++ ys) ≡
          (in_turn each next (next s x) xs >>= λ bs. in_turn each next (fold next (next s x) xs) ys >>= λ cs. Ok
          (bs ++ cs))
          → (r >>= λ b. in_turn each next (next s x) (xs ++ ys) >>= λ bs. Ok (b ∷ bs)) ≡
          ((r >>= λ b. in_turn each next (next s x) xs >>= λ bs. Ok (b ∷ bs)) >>= λ bs. in_turn each next
          (fold next (next s x) xs) ys >>= λ cs. Ok (bs ++ cs))
      by (Err e) ih = refl
      by (Ok b) ih = ap (λ (r : Answer (List B)). r >>= λ bs. Ok (b ∷ bs)) ih ∙
          joined b (in_turn each next (next s x) xs) (in_turn each next (fold next (next s x) xs) ys)

  -- the last of several is looked up behind the others
  pub in_turn-one_more : (s : S) (xs : List A) (a : A)
      → in_turn each next s (xs ++ a ∷ []) ≡
      (in_turn each next s xs >>= λ bs. each (fold next s xs) a >>= λ b. Ok (bs ++ b ∷ []))
  unfolding ◌>>=◌
  in_turn-one_more s xs a = in_turn-append s xs (a ∷ []) ∙ by (in_turn each next s xs) (each (fold next s xs) a)
    where
      by : (r : Answer (List B)) (q : Answer B) →
          (r >>= λ bs. (q >>= λ b. Ok [] >>= λ cs. Ok (b ∷ cs)) >>= λ cs. Ok (bs ++ cs)) ≡
          (r >>= λ bs. q >>= λ b. Ok (bs ++ b ∷ []))
      by (Err e) q = refl
      by (Ok bs) (Err e) = refl
      by (Ok bs) (Ok b) = refl

  -- along a list: what has been passed, what it is at, and what is left
  pub in_turn-at : {C : Type 0} (view : C → A) (s : S) (xs : List C) (i : ℕ) (x : C) → i < length xs → x ≡ get_or xs i x
      → in_turn each next s (map view xs)
      ≡ (in_turn each next s (map view (take i xs)) >>= λ bs. in_turn each next
      (fold next s (map view (take i xs))) (view x ∷ map view (drop (i + 1) xs)) >>= λ cs. Ok (bs ++ cs))
  in_turn-at view s xs i x lt here =
      ap (in_turn each next s) (split view xs i x lt here) ∙ in_turn-append s (map view (take i xs))
      (view x ∷ map view (drop (i + 1) xs))

-- all that looking up one part after another wants
pub ruleset steps = (common_steps, ok_then, err_then, in_turn-one_more)
