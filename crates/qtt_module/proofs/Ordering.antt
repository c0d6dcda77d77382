-- The cores of right sides in tree order.
use Rattle.std.proofs.Common.{◌≡◌, ◌∙◌, ℕ, zero, suc, ◌+◌, ◌-◌, ◌<◌, ◌≤◌, true, false, eqb, List, [], ◌∷◌, ◌++◌, length, refl, sym, ap, arith}
use Rattle.qtt_term.specs.declared.term.Term as code
use Rattle.qtt_term.specs.Term.{Term, Terms, ε, ◌▸◌, ◌+++◌}
use Rattle.qtt_term.specs.View.{term}
use Rattle.qtt_split.specs.Group.{Numbered, with_number, in_order}
use Rattle.qtt_split.specs.Tree.{Leaf}
use Rattle.qtt_unify.specs.View.{all_terms}

-- from leaf k on, where so many leaves are left
abbrev pub from_leaf : ℕ → ℕ → Numbered Term → Terms
from_leaf k zero es = ε
from_leaf k (suc n) es = with_number k es (from_leaf (suc k) n es)

pub in-order : (k : ℕ) (ls : List Leaf) (es : Numbered Term) → in_order k ls es ≡ from_leaf k (length ls) es
in-order k [] es = refl
in-order k (l ∷ ls) es = ap (with_number k es) (in-order (suc k) ls es)

pub terms-append : (ts : List code.Term) (t : code.Term) → all_terms (ts ++ t ∷ []) ≡ all_terms ts +++ (term t ▸ ε)
terms-append [] t = refl
terms-append (s ∷ ts) t = ap (λ us. term s ▸ us) (terms-append ts t)

pub behind-one : (ts us : Terms) (t : Term) → (ts +++ (t ▸ ε)) +++ us ≡ ts +++ (t ▸ us)
behind-one ε us t = refl
behind-one (s ▸ ts) us t = ap (λ ws. s ▸ ws) (behind-one ts us t)

behind-none : (ts : Terms) → ts +++ ε ≡ ts
behind-none ε = refl
behind-none (s ▸ ts) = ap (λ ws. s ▸ ws) (behind-none ts)

-- those of the first k leaves are in order
pub record OrderedSoFar (count : ℕ) (es : Numbered Term) (k : ℕ) (ts : List code.Term) : Type 0 where
  pub is : from_leaf 0 count es ≡ all_terms ts +++ from_leaf k (count - k) es

pub none-ordered : (count : ℕ) (es : Numbered Term) → OrderedSoFar count es 0 []
none-ordered count es = record { is = let z : count ≡ count - 0 = omega arith in ap (λ n. from_leaf 0 n es) z }

module _ (count : ℕ) (es : Numbered Term) (k : ℕ) (ts : List code.Term) (h : k < count)
    (so : OrderedSoFar count es k ts) where
  left : count - k ≡ suc (count - (k + 1))
  left = omega arith

  next : suc k ≡ k + 1
  next = omega arith

  turn : from_leaf 0 count es ≡ all_terms ts +++ with_number k es (from_leaf (k + 1) (count - (k + 1)) es)
  turn =
      so.is ∙ ap (λ n. all_terms ts +++ from_leaf k n es) left
      ∙ ap (λ j. all_terms ts +++ with_number k es (from_leaf j (count - (k + 1)) es)) next

  pub one-ordered : (more : List code.Term) →
      ((us : Terms) → all_terms more +++ us ≡ all_terms ts +++ with_number k es us) →
      OrderedSoFar count es (k + 1) more
  one-ordered more e = record { is = turn ∙ sym (e (from_leaf (k + 1) (count - (k + 1)) es)) }

pub all-ordered : (count : ℕ) (es : Numbered Term) (k : ℕ) (ts : List code.Term) (ls : List Leaf) → count ≤ k →
    length ls ≡ count → OrderedSoFar count es k ts → all_terms ts ≡ in_order 0 ls es
all-ordered count es k ts ls h e so =
    let none : count - k ≡ 0 = omega arith in
    sym (behind-none (all_terms ts)) ∙ ap (λ n. all_terms ts +++ from_leaf k n es) (sym none) ∙ sym so.is
    ∙ ap (λ n. from_leaf 0 n es) (sym e) ∙ sym (in-order 0 ls es)

-- ---- the core at a leaf
pub another-leaf : (k : ℕ) (e : ℕ × Term) (es : Numbered Term) (us : Terms) → eqb e.0 k ≡ false →
    with_number k (e ∷ es) us ≡ with_number k es us
another-leaf k e es us d = rw d refl

pub its-leaf : (k : ℕ) (e : ℕ × Term) (es : Numbered Term) (us : Terms) → eqb e.0 k ≡ true →
    with_number k (e ∷ es) us ≡ e.1 ▸ us
its-leaf k e es us d = rw d refl
