-- The count of contractions alone limits a comparison: what is done between two contractions takes from the
-- weight of the left terms.
use Rattle.std.proofs.Common.{◌≡◌, ◌≢◌, ℕ, zero, suc, ◌+◌, ◌≤◌, ◌<◌, List, [], ◌∷◌, ◌++◌, refl, sym, subst, Option, Some, None, Bool, true, false, cond, not, ◌&&◌, arith}
use Rattle.qtt_term.specs.Term.{Term, Terms, var, node, ε, ◌▸◌}
use Rattle.qtt_term.specs.Signature.{Env}
use Rattle.qtt_term.specs.Question.{head_step, same, same_outline, Item, beside, components, Move, of_heads, move, Answer, weight, weights, weight_of, follow, answer, within_count}
use Rattle.qtt_confluence.specs.Comparison.{Compared}
use Rattle.qtt_confluence.specs.Laws.{CountAloneLimits}

-- ---- weights
pub weight-positive : (t : Term) → 0 < weight t
weight-positive (var i) = omega arith
weight-positive (node F ts) = omega arith

pub weight-append : (is js : List Item) → weight_of (is ++ js) ≡ weight_of is + weight_of js
weight-append [] js = omega arith
weight-append (i ∷ is) js = let e : weight_of (is ++ js) ≡ weight_of is + weight_of js =
    weight-append is js in omega arith

pub beside-light : (path : List ℕ) (k : ℕ) (ts ss : Terms) → weight_of (beside path k ts ss) ≤ weights ts
beside-light path k ε ss = omega arith
beside-light path k (t ▸ ts) ε = omega arith
beside-light path k (t ▸ ts) (s ▸ ss) =
    let h : weight_of (beside path (suc k) ts ss) ≤ weights ts = beside-light path (suc k) ts ss in omega arith

components-light : (path : List ℕ) (t s : Term) → weight_of (components path t s) < weight t
components-light path (var i) s = omega arith
components-light path (node F ts) (var j) = omega arith
components-light path (node F ts) (node G ss) = let h : weight_of (beside path 0 ts ss) ≤ weights ts =
    beside-light path 0 ts ss in omega arith

-- items that an item gives way to weigh less
abbrev Lighter : Item → Move → Type 0
Lighter i (Move.splits js) = weight_of js < weight i.left
Lighter i _ = Unit {0}

cond-lighter : (i : Item) (b : Bool) (m n : Move) → Lighter i m → Lighter i n → Lighter i (cond b m n)
cond-lighter i true m n h k = h
cond-lighter i false m n h k = k

of_heads-lighter : (a b : Option Term) (i : Item) → Lighter i (of_heads a b i)
of_heads-lighter (Some t) b i = tt
of_heads-lighter None (Some s) i = tt
of_heads-lighter None None i =
    cond-lighter i (same_outline i.left i.right) (Move.splits (components i.path i.left i.right)) Move.differs
    (components-light i.path i.left i.right) tt

move-lighter : (E : Env) (i : Item) → Lighter i (move E i)
move-lighter E i =
    cond-lighter i (not i.tested && same i.left i.right) (Move.splits [])
    (of_heads (head_step E i.left) (head_step E i.right) i)
    (weight-positive i.left) (of_heads-lighter (head_step E i.left) (head_step E i.right) i)

-- ---- what is answered is compared
follow-compared : (E : Env) (n : ℕ) (i : Item) (is : List Item) (again next : List Item → Answer) (m : Move) →
    move E i ≡ m → Lighter i m →
    ((js : List Item) → weight_of js < weight i.left → Compared E n (js ++ is) (again (js ++ is))) →
    ((j : Item) → move E i ≡ Move.contracts j → Compared E n (i ∷ is) (next (j ∷ is))) →
    Compared E n (i ∷ is) (follow m i is again next)
follow-compared E n i is again next (Move.splits js) e l h k = Compared.split e (h js l)
follow-compared E n i is again next (Move.contracts j) e l h k = k j e
follow-compared E n i is again next Move.differs e l h k = Compared.differ e

answer-compared : (E : Env) (n : ℕ) (next : List Item → Answer) →
    ((i j : Item) (is : List Item) → move E i ≡ Move.contracts j → Compared E n (i ∷ is) (next (j ∷ is))) →
    (s : ℕ) (is : List Item) → weight_of is ≤ s → Compared E n is (answer E next s is)
answer-compared E n next k s [] l = Compared.all_equal
answer-compared E n next k zero (i ∷ is) l = let p : 0 < weight i.left = weight-positive i.left in absurd (omega arith)
answer-compared E n next k (suc s) (i ∷ is) l =
    follow-compared E n i is (λ js. answer E next s js) next (move E i) refl (move-lighter E i)
    (λ js h. answer-compared E n next k s (js ++ is)
    (let e : weight_of (js ++ is) ≡ weight_of js + weight_of is = weight-append js is in omega arith))
    (λ j e. k i j is e)

pub within-compared : (E : Env) (n : ℕ) (is : List Item) → Compared E n is (within_count E n is)
within-compared E zero is =
    answer-compared E zero (λ js. Answer.spent) (λ i j is e. Compared.none_left e) (weight_of is) is (omega arith)
within-compared E (suc n) is =
    answer-compared E (suc n) (within_count E n) (λ i j is e. Compared.contract e (within-compared E n (j ∷ is)))
    (weight_of is) is (omega arith)

-- ---- items are compared in one way
abbrev AfterContraction : Env → ℕ → List Item → Answer → Type 0
AfterContraction E zero is a = a ≡ Answer.spent
AfterContraction E (suc n) is a = Compared E n is a

abbrev After : Env → ℕ → Item → List Item → Answer → Move → Type 0
After E n i is a (Move.splits js) = Compared E n (js ++ is) a
After E n i is a (Move.contracts j) = AfterContraction E n (j ∷ is) a
After E n i is a Move.differs = a ≡ Answer.different i.path

after : {E : Env} {n : ℕ} {i : Item} {is : List Item} {a : Answer} → Compared E n (i ∷ is) a →
    After E n i is a (move E i)
after {E} {n} {i} {is} {a} (Compared.split e h) = subst (After E n i is a) (sym e) h
after {E} {n} {i} {is} {a} (Compared.contract e h) = subst (After E n i is a) (sym e) h
after {E} {n} {i} {is} {a} (Compared.none_left e) = subst (After E n i is a) (sym e) refl
after {E} {n} {i} {is} {a} (Compared.differ e) = subst (After E n i is a) (sym e) refl

after-none : {E : Env} {n : ℕ} {a : Answer} → Compared E n [] a → a ≡ Answer.equal
after-none Compared.all_equal = refl

pub one-answer : {E : Env} {n : ℕ} {is : List Item} {a b : Answer} → Compared E n is a → Compared E n is b → a ≡ b
one-answer Compared.all_equal k = sym (after-none k)
one-answer {E} {n} {b = b} (Compared.split {i = i} {is = is} e h) k =
    one-answer h (subst (After E n i is b) e (after k))
one-answer {E} {b = b} (Compared.contract {n = n} {i = i} {is = is} e h) k =
    one-answer h (subst (After E (suc n) i is b) e (after k))
one-answer {E} {b = b} (Compared.none_left {i = i} {is = is} e) k = sym (subst (After E zero i is b) e (after k))
one-answer {E} {n} {b = b} (Compared.differ {i = i} {is = is} e) k = sym (subst (After E n i is b) e (after k))

-- ---- an answer stands under a greater count
more : {E : Env} {n : ℕ} {is : List Item} {a : Answer} → Compared E n is a → a ≢ Answer.spent →
    (m : ℕ) → n ≤ m → Compared E m is a
more Compared.all_equal s m l = Compared.all_equal
more (Compared.split e h) s m l = Compared.split e (more h s m l)
more (Compared.contract e h) s zero l = absurd (omega arith)
more (Compared.contract e h) s (suc m) l = Compared.contract e (more h s m (omega arith))
more (Compared.none_left e) s m l = absurd (s refl)
more (Compared.differ e) s m l = Compared.differ e

pub count-alone_limits : CountAloneLimits
count-alone_limits = record {
  exact = λ E n is a. (
    λ e. subst (Compared E n is) e (within-compared E n is),
    λ h. one-answer (within-compared E n is) h,
  );
  stands = λ E n m t s l d. one-answer (within-compared E m _) (more (within-compared E n _) d m l);
}
