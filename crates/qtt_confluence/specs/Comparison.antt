-- The comparison as relations, in which nothing but the count of contractions limits it.
use Rattle.std.specs.Prelude.{◌≡◌, ℕ, zero, suc, ◌-◌, List, [], ◌∷◌, ◌++◌, true, false}
use Rattle.qtt_term.specs.Term.{Term, Terms, ε, ◌▸◌}
use Rattle.qtt_term.specs.Signature.{Env}
use Rattle.qtt_term.specs.Question.{Head, head, same, same_outline, Item, Move, move, Answer}
use Rattle.qtt_confluence.specs.Heads.{parts}

-- ---- by recursion
-- what a comparison comes to: with how many contractions left the terms are equal, where they differ, or that the
-- count is spent
pub data Comparison : Type 0 where
  equal : ℕ → Comparison
  different : List ℕ → Comparison
  spent : Comparison

abbrev pub answered : Comparison → Answer
answered (Comparison.equal left) = Answer.equal
answered (Comparison.different path) = Answer.different path
answered Comparison.spent = Answer.spent

-- the heads of t and of s, each within what is left of the count, and how many contractions are left after them
pub record Heads (E : Env) (n : ℕ) (t s h g : Term) (left : ℕ) : Type 0 where
  pub others : same t s ≡ false
  pub made : ℕ
  pub left_head : head E n t ≡ Head.done h made
  pub made_after : ℕ
  pub right_head : head E (n - made) s ≡ Head.done g made_after
  pub rest : left ≡ n - made - made_after

-- terms that are the same are equal. Otherwise the head of t is taken, then that of s, then the forms and fixed
-- parts of the heads are compared, and then their components from left to right, all under the one count of n
-- contractions
mutual
  pub data Compares (E : Env) : ℕ → Term → Term → Comparison → Type 0 where
    are_same : {n : ℕ} {t s : Term} → same t s ≡ true → Compares E n t s (Comparison.equal n)
    left_spent : {n : ℕ} {t s : Term} → same t s ≡ false → head E n t ≡ Head.spent → Compares E n t s Comparison.spent
    right_spent : {n j : ℕ} {t s h : Term} → same t s ≡ false → head E n t ≡ Head.done h j →
        head E (n - j) s ≡ Head.spent →
        Compares E n t s Comparison.spent
    outlines_differ : {n m : ℕ} {t s h g : Term} → Heads E n t s h g m → same_outline h g ≡ false →
        Compares E n t s (Comparison.different [])
    by_components : {n m : ℕ} {t s h g : Term} {r : Comparison} → Heads E n t s h g m → same_outline h g ≡ true →
        ComparesAll E m 0 (parts h) (parts g) r → Compares E n t s r

  -- components, numbered from k: the first that is not equal is the answer
  pub data ComparesAll (E : Env) : ℕ → ℕ → Terms → Terms → Comparison → Type 0 where
    none : {n k : ℕ} → ComparesAll E n k ε ε (Comparison.equal n)
    next : {n m k : ℕ} {t s : Term} {ts ss : Terms} {r : Comparison} → Compares E n t s (Comparison.equal m) →
        ComparesAll E m (suc k) ts ss r →
        ComparesAll E n k (t ▸ ts) (s ▸ ss) r
    differs : {n k : ℕ} {t s : Term} {ts ss : Terms} {path : List ℕ} → Compares E n t s (Comparison.different path) →
        ComparesAll E n k (t ▸ ts) (s ▸ ss) (Comparison.different (k ∷ path))
    is_spent : {n k : ℕ} {t s : Term} {ts ss : Terms} → Compares E n t s Comparison.spent →
        ComparesAll E n k (t ▸ ts) (s ▸ ss) Comparison.spent

-- ---- item by item

-- n contractions may be made for these items; the first of them gives way to others, takes one contraction, or
-- differs
pub data Compared (E : Env) : ℕ → List Item → Answer → Type 0 where
  all_equal : {n : ℕ} → Compared E n [] Answer.equal
  split : {n : ℕ} {i : Item} {is js : List Item} {a : Answer} → move E i ≡ Move.splits js →
      Compared E n (js ++ is) a → Compared E n (i ∷ is) a
  contract : {n : ℕ} {i j : Item} {is : List Item} {a : Answer} → move E i ≡ Move.contracts j →
      Compared E n (j ∷ is) a → Compared E (suc n) (i ∷ is) a
  none_left : {i j : Item} {is : List Item} → move E i ≡ Move.contracts j → Compared E zero (i ∷ is) Answer.spent
  differ : {n : ℕ} {i : Item} {is : List Item} → move E i ≡ Move.differs →
      Compared E n (i ∷ is) (Answer.different i.path)
