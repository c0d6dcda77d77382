-- How the comparison goes on from its first pair.
use Rattle.std.proofs.Common.{◌≡◌, ℕ, zero, suc, ◌+◌, ◌-◌, ◌<◌, ◌≤◌, List, [], ◌∷◌, ◌++◌, Option, Some, None, Bool, true, false, cond, eqb, refl, sym, ◌∙◌, ap, subst, arith}
use Rattle.std.proofs.lemmas.Bool.{eqb-true, and_parts}
use Rattle.std.proofs.lemmas.List.{length-map}
use Rattle.qtt_term.specs.Term.{Term, var, node, ε, ◌▸◌, size}
use Rattle.qtt_term.specs.Signature.{Env}
use Rattle.qtt_term.specs.Question.{head_step, Head, head, same, same_form, same_outline, Item, beside, components, Move, of_heads, move, Answer, weight, weights, within_count}
use Rattle.qtt_term.specs.View.{term, terms, side_by_side}
use Rattle.qtt_term.proofs.Same.{same-is, term-same}
use Rattle.qtt_confluence.specs.Heads.{IsHead, Toward, parts}
use Rattle.qtt_confluence.specs.Comparison.{Compared}
use Rattle.qtt_confluence.proofs.Facts.{head_is_exact, count_alone_limits}
use Rattle.qtt_conv.specs.declared.pair.Outcome.{Outcome}
use Rattle.qtt_conv.specs.declared.pair.Outcome.TheVariants as outcome
use Rattle.qtt_conv.specs.Pairs.{LeadsTo, HeadsLeadTo}
use Rattle.qtt_conv.proofs.Contracting.{size-side_by_side}

abbrev item : Bool → List ℕ → Term → Term → Item
item b path t s = record { tested = b; path = path; left = t; right = s }

-- ---- moves
of_heads-tested : (a b : Option Term) (path : List ℕ) (t s : Term) →
    of_heads a b (item false path t s) ≡ of_heads a b (item true path t s)
of_heads-tested (Some t) b path l r = refl
of_heads-tested None (Some s) path l r = refl
of_heads-tested None None path l r = refl

as_tested : (E : Env) (path : List ℕ) (t s : Term) → same t s ≡ false →
    move E (item false path t s) ≡ move E (item true path t s)
as_tested E path t s d =
    ap (λ b. cond b (Move.splits []) (of_heads (head_step E t) (head_step E s) (item false path t s))) d ∙
    of_heads-tested (head_step E t) (head_step E s) path t s

left-moves : (E : Env) (path : List ℕ) (t r s : Term) → head_step E t ≡ Some s →
    move E (item true path t r) ≡ Move.contracts (item true path s r)
left-moves E path t r s e = ap (λ o. of_heads o (head_step E r) (item true path t r)) e

right-moves : (E : Env) (path : List ℕ) (h r s : Term) → IsHead E h → head_step E r ≡ Some s →
    move E (item true path h r) ≡ Move.contracts (item true path h s)
right-moves E path h r s p e =
    ap (λ o. of_heads o (head_step E r) (item true path h r)) p ∙ ap (λ o. of_heads None o (item true path h r)) e

heads-move : (E : Env) (path : List ℕ) (h g : Term) → IsHead E h → IsHead E g →
    move E (item true path h g) ≡ cond (same_outline h g) (Move.splits (components path h g)) Move.differs
heads-move E path h g p q =
    ap (λ o. of_heads o (head_step E g) (item true path h g)) p ∙ ap (λ o. of_heads None o (item true path h g)) q

-- ---- comparisons
untested : {E : Env} {n : ℕ} {path : List ℕ} {t s : Term} {is : List Item} {a : Answer} → same t s ≡ false →
    Compared E n (item true path t s ∷ is) a →
    Compared E n (item false path t s ∷ is) a
untested {E} {path = path} {t} {s} d (Compared.split e h) = Compared.split (as_tested E path t s d ∙ e) h
untested {E} {path = path} {t} {s} d (Compared.contract e h) = Compared.contract (as_tested E path t s d ∙ e) h
untested {E} {path = path} {t} {s} d (Compared.none_left e) = Compared.none_left (as_tested E path t s d ∙ e)
untested {E} {path = path} {t} {s} d (Compared.differ e) = Compared.differ (as_tested E path t s d ∙ e)

left-goes : {E : Env} {n k : ℕ} {path : List ℕ} {t h r : Term} {is : List Item} {a : Answer} → Toward E k t h →
    (m : ℕ) → m ≡ k + n →
    Compared E n (item true path h r ∷ is) a → Compared E m (item true path t r ∷ is) a
left-goes {E} {n} {path = path} {h = h} {r = r} {is = is} {a = a} Toward.here m e c =
    let same_count : n ≡ m = omega arith in subst (λ i. Compared E i (item true path h r ∷ is) a) same_count c
left-goes (Toward.onward d w) zero e c = absurd (omega arith)
left-goes {E} {path = path} {t = t} {r = r} (Toward.onward {s = s} d w) (suc m) e c =
    Compared.contract (left-moves E path t r s d) (left-goes w m (omega arith) c)

right-goes : {E : Env} {n k : ℕ} {path : List ℕ} {h r g : Term} {is : List Item} {a : Answer} → IsHead E h →
    Toward E k r g → (m : ℕ) → m ≡ k + n →
    Compared E n (item true path h g ∷ is) a → Compared E m (item true path h r ∷ is) a
right-goes {E} {n} {path = path} {h = h} {g = g} {is = is} {a = a} p Toward.here m e c =
    let same_count : n ≡ m = omega arith in subst (λ i. Compared E i (item true path h g ∷ is) a) same_count c
right-goes p (Toward.onward d w) zero e c = absurd (omega arith)
right-goes {E} {path = path} {h = h} {r = r} p (Toward.onward {s = s} d w) (suc m) e c =
    Compared.contract (right-moves E path h r s p d) (right-goes p w m (omega arith) c)

left-spends : {E : Env} {n : ℕ} {path : List ℕ} {t h r : Term} {is : List Item} → Toward E (suc n) t h →
    Compared E n (item true path t r ∷ is) Answer.spent
left-spends {E} {n = zero} {path} {t} {r = r} (Toward.onward {s = s} d w) =
    Compared.none_left (left-moves E path t r s d)
left-spends {E} {n = suc n} {path} {t} {r = r} (Toward.onward {s = s} d w) =
    Compared.contract (left-moves E path t r s d) (left-spends w)

right-spends : {E : Env} {n : ℕ} {path : List ℕ} {h r g : Term} {is : List Item} → IsHead E h →
    Toward E (suc n) r g → Compared E n (item true path h r ∷ is) Answer.spent
right-spends {E} {n = zero} {path} {h} {r = r} p (Toward.onward {s = s} d w) =
    Compared.none_left (right-moves E path h r s p d)
right-spends {E} {n = suc n} {path} {h} {r = r} p (Toward.onward {s = s} d w) =
    Compared.contract (right-moves E path h r s p d) (right-spends p w)

-- ---- pairs
counted : {E : Env} {n : ℕ} {is : List Item} {a : Answer} → Compared E n is a → within_count E n is ≡ a
counted {E} {n} {is} {a} h = (count_alone_limits.exact E n is a).1 h

compares : (E : Env) (n : ℕ) (is : List Item) → Compared E n is (within_count E n is)
compares E n is = (count_alone_limits.exact E n is (within_count E n is)).0 refl

-- terms that are the same are done with
pub pair-same : (E : Env) (n : ℕ) (path : List ℕ) (t s : Term) (is : List Item) → same t s ≡ true →
    within_count E n (item false path t s ∷ is) ≡ within_count E n is
pair-same E n path t s is e =
    counted (Compared.split (ap
    (λ b. cond b (Move.splits []) (of_heads (head_step E t) (head_step E s) (item false path t s))) e)
    (compares E n is))

pub left-spent : (E : Env) (n : ℕ) (path : List ℕ) (t s : Term) (is : List Item) → same t s ≡ false →
    head E n t ≡ Head.spent →
    within_count E n (item false path t s ∷ is) ≡ Answer.spent
left-spent E n path t s is d e = counted (untested d (left-spends ((head_is_exact.spent E n t).0 e).1))

pub right-spent : (E : Env) (n j : ℕ) (path : List ℕ) (t s h : Term) (is : List Item) → same t s ≡ false →
    head E n t ≡ Head.done h j → head E (n - j) s ≡ Head.spent →
    within_count E n (item false path t s ∷ is) ≡ Answer.spent
right-spent E n j path t s h is d e f =
    let (w, p, l) = (head_is_exact.found E n j t h).0 e in
    counted (untested d (left-goes w n (omega arith) (right-spends p ((head_is_exact.spent E (n - j) s).0 f).1)))

-- both heads: what is left of the count
pub heads-found : (E : Env) (n j k : ℕ) (path : List ℕ) (t s h g : Term) (is : List Item) (a : Answer) →
    same t s ≡ false → head E n t ≡ Head.done h j → head E (n - j) s ≡ Head.done g k →
    (IsHead E h → IsHead E g → Compared E (n - (j + k)) (item true path h g ∷ is) a) →
    within_count E n (item false path t s ∷ is) ≡ a
heads-found E n j k path t s h g is a d e f c =
    let (w, p, l) = (head_is_exact.found E n j t h).0 e in
    let (v, q, m) = (head_is_exact.found E (n - j) k s g).0 f in
    counted (untested d (left-goes w n (omega arith) (right-goes p v (n - j) (omega arith) (c p q))))

components-beside : (path : List ℕ) (h g : Term) → components path h g ≡ beside path 0 (parts h) (parts g)
components-beside path (var i) g = refl
components-beside path (node F ε) (var j) = refl
components-beside path (node F (t ▸ ts)) (var j) = refl
components-beside path (node F ts) (node G ss) = refl

pub pair-splits : (E : Env) (n j k : ℕ) (path : List ℕ) (t s h g : Term) (is : List Item) → same t s ≡ false →
    head E n t ≡ Head.done h j → head E (n - j) s ≡ Head.done g k → same_outline h g ≡ true →
    within_count E n (item false path t s ∷ is) ≡ within_count E (n - (j + k)) (beside path 0 (parts h) (parts g) ++ is)
pair-splits E n j k path t s h g is d e f o =
    heads-found E n j k path t s h g is _ d e f
    (λ p q. Compared.split (heads-move E path h g p q ∙
    ap (λ b. cond b (Move.splits (components path h g)) Move.differs) o ∙ ap Move.splits
    (components-beside path h g))
    (compares E (n - (j + k)) (beside path 0 (parts h) (parts g) ++ is)))

pub pair-differs : (E : Env) (n j k : ℕ) (path : List ℕ) (t s h g : Term) (is : List Item) → same t s ≡ false →
    head E n t ≡ Head.done h j → head E (n - j) s ≡ Head.done g k → same_outline h g ≡ false →
    within_count E n (item false path t s ∷ is) ≡ Answer.different path
pair-differs E n j k path t s h g is d e f o =
    heads-found E n j k path t s h g is _ d e f
    (λ p q. Compared.differ (heads-move E path h g p q ∙
    ap (λ b. cond b (Move.splits (components path h g)) Move.differs) o))

-- a head after no contraction is the term itself, which weighs more than its components
lighter : (r : Term) → weights (parts r) < weight r
lighter (var i) = omega arith
lighter (node F ts) = omega arith

toward-none : {E : Env} {k : ℕ} {t h : Term} → Toward E k t h → k ≡ 0 → weights (parts h) < weight t
toward-none {t = t} Toward.here e = lighter t
toward-none (Toward.onward d w) e = absurd (omega arith)

pub parts-lighter : (E : Env) (n : ℕ) (t h : Term) (j : ℕ) → head E n t ≡ Head.done h j → j ≡ 0 →
    weights (parts h) < weight t
parts-lighter E n t h j e z = toward-none ((head_is_exact.found E n j t h).0 e).0 z

pub made-within : (E : Env) (n : ℕ) (t h : Term) (j : ℕ) → head E n t ≡ Head.done h j → j ≤ n
made-within E n t h j e = ((head_is_exact.found E n j t h).0 e).2

-- ---- what one pair leads to
pub same-apart : (t s : Term) → (t ≡ s → ⊥) → same t s ≡ false
same-apart t s d = by_test (same t s) refl
  where
    by_test : (b : Bool) → same t s ≡ b → b ≡ false
    by_test true e = absurd (d (same-is t s e))
    by_test false e = refl

pub same-together : (t s : Term) → t ≡ s → same t s ≡ true
same-together t s e = subst (λ r. same t r ≡ true) e (term-same t)

parts-size : (h g : Term) → same_outline h g ≡ true → size (parts h) ≡ size (parts g)
parts-size (var i) (var j) e = refl
parts-size (var i) (node G ss) e = absurd (cc e)
parts-size (node F ts) (var j) e = absurd (cc e)
parts-size (node F ts) (node G ss) e =
    eqb-true (size ts) (size ss) (and_parts (same_form F G) (eqb (size ts) (size ss)) e).1

pub heads-lead : (E : Env) (n j k : ℕ) (t u h g : Term) (o : Outcome) → same t u ≡ false →
    head E n t ≡ Head.done h j → head E (n - j) u ≡ Head.done g k → HeadsLeadTo (j + k) h g o → LeadsTo E n t u o
heads-lead E n j k t u h g outcome.Same d e f w = absurd w
heads-lead E n j k t u h g (outcome.Splits made ls rs) d e f (same_heads, counts, lefts, rights) =
    let left_within = made-within E n t h j e in
    let right_within = made-within E (n - j) u g k f in
    record {
      within = omega arith;
      goes_on = λ path is.
          pair-splits E n j k path t u h g is d e f same_heads
          ∙ ap (λ m. within_count E (n - m) (beside path 0 (parts h) (parts g) ++ is)) (sym counts)
          ∙ sym (ap (λ ts. within_count E (n - made) (beside path 0 ts (side_by_side (terms rs.items)) ++ is)) lefts
          ∙ ap (λ ts. within_count E (n - made) (beside path 0 (parts h) ts ++ is)) rights);
      as_many =
          sym (length-map ls.items term) ∙ sym (size-side_by_side (terms ls.items)) ∙ ap size lefts ∙
          parts-size h g same_heads
          ∙ sym (ap size rights) ∙ size-side_by_side (terms rs.items) ∙ length-map rs.items term;
      lighter = λ z. subst (λ ts. weights ts < weight t) (sym lefts) (parts-lighter E n t h j e (omega arith));
    }
heads-lead E n j k t u h g outcome.Differs d e f w = λ path is. pair-differs E n j k path t u h g is d e f w
heads-lead E n j k t u h g outcome.Spent d e f w = absurd w
