-- Variables of a context that pass a test, the oldest first.
use Rattle.std.proofs.Common.{◌≡◌, ◌∙◌, ℕ, suc, Bool, true, false, cond, List, [], ◌∷◌, ◌++◌, sym, ap, append_assoc}
use Rattle.std.specs.List.{filter}
use Rattle.qtt_split.specs.Seen.{oldest_first}

pub chosen-more : (p : ℕ → Bool) (n : ℕ) (front : List ℕ) → p n ≡ true →
    front ++ filter p (oldest_first (suc n)) ≡ (front ++ n ∷ []) ++ filter p (oldest_first n)
chosen-more p n front e =
    let rest = filter p (oldest_first n) in
    ap (λ b. front ++ cond b (n ∷ rest) rest) e ∙ sym (append_assoc front (n ∷ []) rest)

pub chosen-same : (p : ℕ → Bool) (n : ℕ) → p n ≡ false → filter p (oldest_first (suc n)) ≡ filter p (oldest_first n)
chosen-same p n e = let rest = filter p (oldest_first n) in ap (λ b. cond b (n ∷ rest) rest) e
