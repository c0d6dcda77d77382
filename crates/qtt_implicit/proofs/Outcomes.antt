-- What holds of what filling answers.
use Rattle.std.proofs.Common.{◌≡◌, ◌∙◌, refl, ap, ℕ, ◌+◌, arith, Result, Ok, Err}
use Rattle.qtt_implicit.specs.Filling.{Stop, Filling, done, stop, goes_on, ◌>>=◌}

-- ---- what holds of the value, where there is one
abbrev pub Gives : {A : Type 0} → (A → Type 0) → Result (A × ℕ) Stop → Type 0
Gives P (Ok r) = P r.0
Gives P (Err s) = Unit {0}

pub record Always {A : Type 0} (P : A → Type 0) (m : Filling A) : Type 0 where
  pub at : (left : ℕ) → Gives P (m left)

pub then_always : {A B : Type 0} {P : A → Type 0} {Q : B → Type 0} {m : Filling A} {k : A → Filling B} →
    Always P m → ((a : A) → P a → Always Q (k a)) → Always Q (m >>= k)
unfolding ◌>>=◌
then_always {A} {B} {P} {Q} {m} {k} h next = record { at = λ left. go (m left) (h.at left) }
  where
    go : (r : Result (A × ℕ) Stop) → Gives P r → Gives Q (goes_on r k)
    go (Ok r) p = (next r.0 p).at r.1
    go (Err s) p = tt

pub done_always : {A : Type 0} {P : A → Type 0} {a : A} → P a → Always P (done a)
done_always p = record { at = λ left. p }

pub stop_always : {A : Type 0} {P : A → Type 0} {s : Stop} → Always P (stop s)
stop_always = record { at = λ left. tt }

-- ---- what holds of the value and of how many nodes are put in, where there is a value
abbrev pub Takes : {A : Type 0} → (A → ℕ → Type 0) → ℕ → Result (A × ℕ) Stop → Type 0
Takes P left (Ok r) = (n : ℕ) × (r.1 + n ≡ left) × P r.0 n
Takes P left (Err s) = Unit {0}

pub record Spends {A : Type 0} (P : A → ℕ → Type 0) (m : Filling A) : Type 0 where
  pub at : (left : ℕ) → Takes P left (m left)

pub then_spends : {A B : Type 0} {P : A → ℕ → Type 0} {Q : B → ℕ → Type 0} {m : Filling A} {k : A → Filling B} →
    Spends P m → ((a : A) (n : ℕ) → P a n → Spends (λ b i. Q b (n + i)) (k a)) → Spends Q (m >>= k)
unfolding ◌>>=◌
then_spends {A} {B} {P} {Q} {m} {k} h next = record { at = λ left. go left (m left) (h.at left) }
  where
    last : (left n l : ℕ) (r : Result (B × ℕ) Stop) → l + n ≡ left → Takes (λ b i. Q b (n + i)) l r → Takes Q left r
    last left n l (Ok r) e (i, f, q) = (n + i, omega arith, q)
    last left n l (Err s) e t = tt

    go : (left : ℕ) (r : Result (A × ℕ) Stop) → Takes P left r → Takes Q left (goes_on r k)
    go left (Ok r) (n, e, p) = last left n r.1 (k r.0 r.1) e ((next r.0 n p).at r.1)
    go left (Err s) p = tt

pub done_spends : {A : Type 0} {P : A → ℕ → Type 0} {a : A} → P a 0 → Spends P (done a)
done_spends p = record { at = λ left. (0, omega arith, p) }

pub stop_spends : {A : Type 0} {P : A → ℕ → Type 0} {s : Stop} → Spends P (stop s)
stop_spends = record { at = λ left. tt }

-- the same, by what follows of it
pub weaker_spends : {A : Type 0} {P Q : A → ℕ → Type 0} {m : Filling A} → Spends P m →
    ((a : A) (n : ℕ) → P a n → Q a n) → Spends Q m
weaker_spends {A} {P} {Q} {m} h next = record { at = λ left. go left (m left) (h.at left) }
  where
    go : (left : ℕ) (r : Result (A × ℕ) Stop) → Takes P left r → Takes Q left r
    go left (Ok r) (n, e, p) = (n, e, next r.0 n p)
    go left (Err s) p = tt

-- ---- a value comes, without a node that is put in
pub record Comes {A : Type 0} (P : A → Type 0) (m : Filling A) : Type 0 where
  pub at : (left : ℕ) → (a : A) × (m left ≡ Ok (a, left)) × P a

pub then_comes : {A B : Type 0} {P : A → Type 0} {Q : B → Type 0} {m : Filling A} {k : A → Filling B} →
    Comes P m → ((a : A) → P a → Comes Q (k a)) → Comes Q (m >>= k)
unfolding ◌>>=◌
then_comes {A} {B} {P} {Q} {m} {k} h next = record { at = λ left. go left (h.at left) }
  where
    go : (left : ℕ) → (a : A) × (m left ≡ Ok (a, left)) × P a → (b : B) × (goes_on (m left) k ≡ Ok (b, left)) × Q b
    go left (a, e, p) = let r = (next a p).at left in
        (r.0, ap (λ (x : Result (A × ℕ) Stop). goes_on x k) e ∙ r.1, r.2)

pub done_comes : {A : Type 0} {P : A → Type 0} {a : A} → P a → Comes P (done a)
done_comes {A} {P} {a} p = record { at = λ left. (a, refl, p) }
