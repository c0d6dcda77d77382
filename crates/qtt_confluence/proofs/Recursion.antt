-- The comparison by recursion is that of items: heads first, then components, under one count.
use Rattle.std.proofs.Common.{◌≡◌, ℕ, zero, suc, ◌-◌, ◌≤◌, ◌<◌, List, [], ◌∷◌, ◌++◌, Some, None, Bool, true, false, cond, not, ◌&&◌, eqb, nat_lt, refl, sym, ap, ◌∙◌, subst, append_assoc, arith}
use Rattle.std.proofs.lemmas.Bool.{and_parts, eqb-true, ltb-true, ltb-false}
use Rattle.std.proofs.lemmas.List.{append-nil}
use Rattle.qtt_term.specs.Term.{Term, Terms, var, node, ε, ◌▸◌, size}
use Rattle.qtt_term.specs.Signature.{Env}
use Rattle.qtt_term.specs.Question.{head_step, Head, head, same, same_form, same_outline, Item, beside, components, Move, of_heads, move, Answer, weight, weights, compare}
use Rattle.qtt_confluence.specs.Heads.{IsHead, Toward, parts}
use Rattle.qtt_confluence.specs.Comparison.{Comparison, answered, Heads, Compares, ComparesAll, Compared}
use Rattle.qtt_confluence.specs.Laws.{ComparesByRecursion}
use Rattle.qtt_confluence.proofs.HeadCount.{found, spent}
use Rattle.qtt_confluence.proofs.Count.{within-compared, one-answer, weight-positive}

abbrev item : Bool → List ℕ → Term → Term → Item
item b path t s = record { tested = b; path = path; left = t; right = s }

-- ---- the moves of an item
-- terms that were tested, or are not the same
abbrev Apart : Bool → Term → Term → Type 0
Apart b t s = not b && same t s ≡ false

apart-move : (E : Env) (b : Bool) (path : List ℕ) (t s : Term) → Apart b t s →
    move E (item b path t s) ≡ of_heads (head_step E t) (head_step E s) (item b path t s)
apart-move E b path t s e =
    ap (λ c. cond c (Move.splits []) (of_heads (head_step E t) (head_step E s) (item b path t s))) e

apart : (b : Bool) (t s : Term) → same t s ≡ false → Apart b t s
apart true t s e = refl
apart false t s e = e

left-moves : (E : Env) (b : Bool) (path : List ℕ) (t s r : Term) → Apart b t s → head_step E t ≡ Some r →
    move E (item b path t s) ≡ Move.contracts (item true path r s)
left-moves E b path t s r e d = apart-move E b path t s e ∙ ap (λ o. of_heads o (head_step E s) (item b path t s)) d

right-moves : (E : Env) (b : Bool) (path : List ℕ) (t s r : Term) → Apart b t s → IsHead E t → head_step E s ≡ Some r →
    move E (item b path t s) ≡ Move.contracts (item true path t r)
right-moves E b path t s r e h d =
    apart-move E b path t s e ∙ ap (λ o. of_heads o (head_step E s) (item b path t s)) h ∙
    ap (λ o. of_heads None o (item b path t s)) d

heads-move : (E : Env) (b : Bool) (path : List ℕ) (t s : Term) (c : Bool) → Apart b t s → IsHead E t →
    IsHead E s → same_outline t s ≡ c →
    move E (item b path t s) ≡ cond c (Move.splits (components path t s)) Move.differs
heads-move E b path t s c e h k o =
    apart-move E b path t s e ∙ ap (λ x. of_heads x (head_step E s) (item b path t s)) h ∙
    ap (λ x. of_heads None x (item b path t s)) k
    ∙ ap (λ x. cond x (Move.splits (components path t s)) Move.differs) o

same-move : (E : Env) (path : List ℕ) (t s : Term) → same t s ≡ true → move E (item false path t s) ≡ Move.splits []
same-move E path t s e = ap
    (λ c. cond c (Move.splits []) (of_heads (head_step E t) (head_step E s) (item false path t s))) e

-- ---- on the way to the heads
-- after as many contractions of the left as lead to its head
left-way : {E : Env} {j : ℕ} {t h : Term} → Toward E j t h → (n : ℕ) → j ≤ n →
    (b : Bool) (path : List ℕ) (s : Term) (is : List Item) (a : Answer) →
    Apart b t s → ((c : Bool) → Apart c h s → Compared E (n - j) (item c path h s ∷ is) a) →
    Compared E n (item b path t s ∷ is) a
left-way {E} (Toward.here {t = t}) n l b path s is a e k =
    let same_count : n - 0 ≡ n =
    omega arith in subst (λ (m : ℕ). Compared E m (item b path t s ∷ is) a) same_count (k b e)
left-way {E} (Toward.onward d w) zero l b path s is a e k = absurd (omega arith)
left-way {E} (Toward.onward {n = j} {t = t} {s = r} {r = h} d w) (suc n) l b path s is a e k =
    Compared.contract (left-moves E b path t s r e d) (left-way w n (omega arith) true path s is a refl
    (λ c f. subst (λ (m : ℕ). Compared E m (item c path h s ∷ is) a) (counted n j) (k c f)))
  where
    counted : (n j : ℕ) → suc n - suc j ≡ n - j
    counted n j = omega arith

right-way : {E : Env} {j : ℕ} {s g : Term} → Toward E j s g → (n : ℕ) → j ≤ n →
    (b : Bool) (path : List ℕ) (t : Term) (is : List Item) (a : Answer) →
    IsHead E t → Apart b t s → ((c : Bool) → Apart c t g → Compared E (n - j) (item c path t g ∷ is) a) →
    Compared E n (item b path t s ∷ is) a
right-way {E} (Toward.here {t = s}) n l b path t is a h e k =
    let same_count : n - 0 ≡ n =
    omega arith in subst (λ (m : ℕ). Compared E m (item b path t s ∷ is) a) same_count (k b e)
right-way {E} (Toward.onward d w) zero l b path t is a h e k = absurd (omega arith)
right-way {E} (Toward.onward {n = j} {t = s} {s = r} {r = g} d w) (suc n) l b path t is a h e k =
    Compared.contract (right-moves E b path t s r e h d) (right-way w n (omega arith) true path t is a h refl
    (λ c f. subst (λ (m : ℕ). Compared E m (item c path t g ∷ is) a) (counted n j) (k c f)))
  where
    counted : (n j : ℕ) → suc n - suc j ≡ n - j
    counted n j = omega arith

-- one contraction more than there may be
left-stops : {E : Env} (n : ℕ) {t r : Term} → Toward E (suc n) t r →
    (b : Bool) (path : List ℕ) (s : Term) (is : List Item) → Apart b t s →
    Compared E n (item b path t s ∷ is) Answer.spent
left-stops {E} zero (Toward.onward {t = t} {s = r} d w) b path s is e =
    Compared.none_left (left-moves E b path t s r e d)
left-stops {E} (suc n) (Toward.onward {t = t} {s = r} d w) b path s is e =
    Compared.contract (left-moves E b path t s r e d) (left-stops n w true path s is refl)

right-stops : {E : Env} (n : ℕ) {s r : Term} → Toward E (suc n) s r →
    (b : Bool) (path : List ℕ) (t : Term) (is : List Item) → IsHead E t → Apart b t s →
    Compared E n (item b path t s ∷ is) Answer.spent
right-stops {E} zero (Toward.onward {t = s} {s = r} d w) b path t is h e =
    Compared.none_left (right-moves E b path t s r e h d)
right-stops {E} (suc n) (Toward.onward {t = s} {s = r} d w) b path t is h e =
    Compared.contract (right-moves E b path t s r e h d) (right-stops n w true path t is h refl)

-- at the heads
at-heads : {E : Env} {n m : ℕ} {t s h g : Term} → Heads E n t s h g m → (path : List ℕ) (is : List Item) (a : Answer) →
    ((b : Bool) → Apart b h g → IsHead E h → IsHead E g → Compared E m (item b path h g ∷ is) a) →
    Compared E n (item false path t s ∷ is) a
at-heads {E} {n} {m} {t} {s} {h} {g} w path is a k =
    let left = (found E n w.made t h).0 w.left_head in
    let right = (found E (n - w.made) w.made_after s g).0 w.right_head in
    left-way left.0 n left.2 false path s is a (apart false t s w.others) (λ b e.
    right-way right.0 (n - w.made) right.2 b path h is a left.1 e (λ c f.
    subst (λ (x : ℕ). Compared E x (item c path h g ∷ is) a) w.rest (k c f left.1 right.1)))

-- ---- what the recursion comes to is what the items are compared to
-- the items behind go on where the first is equal, with what is left
abbrev Goes : Env → List ℕ → List Item → Answer → Comparison → Type 0
Goes E path is a (Comparison.equal m) = Compared E m is a
Goes E path is a (Comparison.different p) = a ≡ Answer.different (path ++ p)
Goes E path is a Comparison.spent = a ≡ Answer.spent

parts-items : (path : List ℕ) (h g : Term) → same_outline h g ≡ true →
    components path h g ≡ beside path 0 (parts h) (parts g)
parts-items path (var i) (var j) e = refl
parts-items path (node F ts) (node G ss) e = refl
parts-items path (var i) (node G ss) e = refl
parts-items path (node F ts) (var j) e = absurd (cc e)

mutual
  compared : {E : Env} {n : ℕ} {t s : Term} {r : Comparison} → Compares E n t s r →
      (path : List ℕ) (is : List Item) (a : Answer) → Goes E path is a r →
      Compared E n (item false path t s ∷ is) a
  compared {E} {n} {t} {s} (Compares.are_same e) path is a k = Compared.split (same-move E path t s e) k
  compared {E} {n} {t} {s} (Compares.left_spent e d) path is a k =
      let w = (spent E n t).0 d in
      subst (Compared E n (item false path t s ∷ is)) (sym k) (left-stops n w.1 false path s is (apart false t s e))
  compared {E} {n} {t} {s} (Compares.right_spent {j = j} {h = h} e d f) path is a k =
      let w = (found E n j t h).0 d in
      let v = (spent E (n - j) s).0 f in
      subst (Compared E n (item false path t s ∷ is)) (sym k)
      (left-way w.0 n w.2 false path s is Answer.spent (apart false t s e)
      (λ b x. right-stops (n - j) v.1 b path h is w.1 x))
  compared {E} {n} {t} {s} (Compares.outlines_differ {m = m} {h = h} {g = g} w o) path is a k =
      at-heads w path is a (λ b e h_head g_head. subst (Compared E m (item b path h g ∷ is))
      (sym (k ∙ ap Answer.different (append-nil path)))
      (Compared.differ (heads-move E b path h g false e h_head g_head o)))
  compared {E} {n} {t} {s} {r} (Compares.by_components {m = m} {h = h} {g = g} w o c) path is a k =
      at-heads w path is a (λ b e h_head g_head. Compared.split (heads-move E b path h g true e h_head g_head o)
      (subst (λ js. Compared E m (js ++ is) a) (sym (parts-items path h g o)) (all-compared c path is a k)))

  all-compared : {E : Env} {n k : ℕ} {ts ss : Terms} {r : Comparison} → ComparesAll E n k ts ss r →
      (path : List ℕ) (is : List Item) (a : Answer) →
      Goes E path is a r → Compared E n (beside path k ts ss ++ is) a
  all-compared ComparesAll.none path is a g = g
  all-compared {k = k} (ComparesAll.next c d) path is a g = compared c (path ++ k ∷ []) _ a (all-compared d path is a g)
  all-compared {k = k} (ComparesAll.differs {path = p} c) path is a g =
      compared c (path ++ k ∷ []) _ a (g ∙ ap Answer.different (sym (append_assoc path (k ∷ []) p)))
  all-compared {k = k} (ComparesAll.is_spent c) path is a g = compared c (path ++ k ∷ []) _ a g

-- ---- the recursion ends
-- no more contractions are left than there were
abbrev AtMost : ℕ → Comparison → Type 0
AtMost n (Comparison.equal m) = m ≤ n
AtMost n (Comparison.different path) = Unit {0}
AtMost n Comparison.spent = Unit {0}

at_most-more : (m n : ℕ) (r : Comparison) → m ≤ n → AtMost m r → AtMost n r
at_most-more m n (Comparison.equal k) l h = omega arith
at_most-more m n (Comparison.different path) l h = tt
at_most-more m n Comparison.spent l h = tt

abbrev Ends : Env → ℕ → Term → Term → Type 0
Ends E n t s = (r : Comparison) × Compares E n t s r × AtMost n r

abbrev AllEnd : Env → ℕ → ℕ → Terms → Terms → Type 0
AllEnd E n k ts ss = (r : Comparison) × ComparesAll E n k ts ss r × AtMost n r

-- the first of the components, and then the others
first-ends : {E : Env} {n k : ℕ} {t s : Term} {ts ss : Terms} → Ends E n t s →
    ((m : ℕ) → m ≤ n → AllEnd E m (suc k) ts ss) → AllEnd E n k (t ▸ ts) (s ▸ ss)
first-ends {n = n} (Comparison.equal m, c, l) later =
    let x = later m l in (x.0, ComparesAll.next c x.1, at_most-more m n x.0 l x.2)
first-ends {k = k} (Comparison.different path, c, l) later =
    (Comparison.different (k ∷ path), ComparesAll.differs c, tt)
first-ends (Comparison.spent, c, l) later = (Comparison.spent, ComparesAll.is_spent c, tt)

all-end : (E : Env) (b w : ℕ) → ((n : ℕ) (t s : Term) → n ≤ b → weight t ≤ w → Ends E n t s) →
    (ts ss : Terms) (n k : ℕ) →
    n ≤ b → weights ts ≤ w → size ts ≡ size ss → AllEnd E n k ts ss
all-end E b w one ε ε n k l g e = (Comparison.equal n, ComparesAll.none, omega arith)
all-end E b w one ε (s ▸ ss) n k l g e = absurd (omega arith)
all-end E b w one (t ▸ ts) ε n k l g e = absurd (omega arith)
all-end E b w one (t ▸ ts) (s ▸ ss) n k l g e =
    first-ends (one n t s l (omega arith))
    (λ m p. all-end E b w one ts ss m (suc k) (omega arith) (omega arith) (omega arith))

none-made : {E : Env} {j : ℕ} {t h : Term} → Toward E j t h → j ≡ 0 → h ≡ t
none-made Toward.here e = refl
none-made (Toward.onward d w) e = absurd (omega arith)

sizes-agree : (h g : Term) → same_outline h g ≡ true → size (parts h) ≡ size (parts g)
sizes-agree (var i) (var j) e = refl
sizes-agree (node F ts) (node G ss) e =
    eqb-true (size ts) (size ss) (and_parts (same_form F G) (eqb (size ts) (size ss)) e).1
sizes-agree (var i) (node G ss) e = absurd (cc e)
sizes-agree (node F ts) (var j) e = absurd (cc e)

parts-lighter : (t : Term) → suc (weights (parts t)) ≤ weight t
parts-lighter (var i) = omega arith
parts-lighter (node F ts) = omega arith

-- where fewer contractions, and as many on lighter terms, come to something
module _ (E : Env) (b w : ℕ) (fewer : (n : ℕ) (t s : Term) → n < b → Ends E n t s)
    (lighter : (n : ℕ) (t s : Term) → n ≤ b → weight t ≤ w → Ends E n t s) (n : ℕ) (t s : Term) (l : n ≤ b)
    (g : weight t ≤ suc w) where
  -- the components of the heads
  components-end : (h g m : ℕ) (u v : Term) → head E n t ≡ Head.done u h → same_outline u v ≡ true →
      m ≡ n - h - g → AllEnd E m 0 (parts u) (parts v)
  components-end i j m u v d o e = by_count (nat_lt m b) refl
    where
      way : Toward E i t u × IsHead E u × (i ≤ n)
      way = (found E n i t u).0 d

      light : i ≡ 0 → weights (parts u) ≤ w
      light z =
          let same_weight : weight u ≡ weight t = ap weight (none-made way.0 z) in
          let p : suc (weights (parts u)) ≤ weight u = parts-lighter u in
          omega arith

      by_count : (c : Bool) → nat_lt m b ≡ c → AllEnd E m 0 (parts u) (parts v)
      by_count true f =
          let p : m < b = ltb-true m b f in
          all-end E m (weights (parts u)) (λ k x y q r. fewer k x y (omega arith)) (parts u) (parts v) m 0
          (omega arith) (omega arith) (sizes-agree u v o)
      by_count false f =
          let p : b ≤ m = ltb-false m b f in
          let i_in : i ≤ n = way.2 in
          all-end E b w lighter (parts u) (parts v) m 0 (omega arith) (light (omega arith)) (sizes-agree u v o)

  outlines-end : (m : ℕ) (u v : Term) (hs : Heads E n t s u v m) (c : Bool) → same_outline u v ≡ c → Ends E n t s
  outlines-end m u v hs false o = (Comparison.different [], Compares.outlines_differ hs o, tt)
  outlines-end m u v hs true o =
      let x = components-end hs.made hs.made_after m u v hs.left_head o hs.rest in
      let p : m ≡ n - hs.made - hs.made_after = hs.rest in
      (x.0, Compares.by_components hs o x.1, at_most-more m n x.0 (omega arith) x.2)

  right-ends : (i : ℕ) (u : Term) (o : Head) → same t s ≡ false → head E n t ≡ Head.done u i →
      head E (n - i) s ≡ o → Ends E n t s
  right-ends i u Head.spent e d f = (Comparison.spent, Compares.right_spent e d f, tt)
  right-ends i u (Head.done v j) e d f =
      outlines-end (n - i - j) u v
      (record { others = e; made = i; left_head = d; made_after = j; right_head = f; rest = refl })
      (same_outline u v) refl

  left-ends : (o : Head) → same t s ≡ false → head E n t ≡ o → Ends E n t s
  left-ends Head.spent e d = (Comparison.spent, Compares.left_spent e d, tt)
  left-ends (Head.done u i) e d = right-ends i u (head E (n - i) s) e d refl

  test-ends : (c : Bool) → same t s ≡ c → Ends E n t s
  test-ends true e = (Comparison.equal n, Compares.are_same e, omega arith)
  test-ends false e = left-ends (head E n t) e refl

by-weight : (E : Env) (b : ℕ) → ((n : ℕ) (t s : Term) → n < b → Ends E n t s) →
    (w n : ℕ) (t s : Term) → n ≤ b → weight t ≤ w → Ends E n t s
by-weight E b fewer zero n t s l g = let p : 0 < weight t = weight-positive t in absurd (omega arith)
by-weight E b fewer (suc w) n t s l g = test-ends E b w fewer (by-weight E b fewer w) n t s l g (same t s) refl

by-count : (E : Env) (b n : ℕ) (t s : Term) → n < b → Ends E n t s
by-count E zero n t s p = absurd (omega arith)
by-count E (suc b) n t s p = by-weight E b (by-count E b) (weight t) n t s (omega arith) (omega arith)

ends : (E : Env) (n : ℕ) (t s : Term) → Ends E n t s
ends E n t s = by-count E (suc n) n t s (omega arith)

-- ---- so both are the same
goes-alone : (E : Env) (r : Comparison) → Goes E [] [] (answered r) r
goes-alone E (Comparison.equal m) = Compared.all_equal
goes-alone E (Comparison.different path) = refl
goes-alone E Comparison.spent = refl

answers : {E : Env} {n : ℕ} {t s : Term} {r : Comparison} → Compares E n t s r → compare E n t s ≡ answered r
answers {E} {n} {t} {s} {r} c =
    one-answer (within-compared E n (item false [] t s ∷ [])) (compared c [] [] (answered r) (goes-alone E r))

pub compares-by_recursion : ComparesByRecursion
compares-by_recursion E n t s a =
    (λ e. let x = ends E n t s in (x.0, x.1, sym (answers x.1) ∙ e), λ x. answers x.1 ∙ x.2)
