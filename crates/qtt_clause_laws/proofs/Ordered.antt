-- The right sides of a group, clause by clause, are those of its leaves in tree order.
use Rattle.std.proofs.Common.{◌≡◌, ℕ, zero, suc, ◌+◌, ◌≤◌, ◌<◌, List, [], ◌∷◌, ◌++◌, map, length, Bool, true, false, cond, eqb, Some, slice_get, refl, sym, ◌∙◌, ap, subst, arith, ◌⊎◌, inl, inr}
use Rattle.std.proofs.lemmas.Bool.{eq-eqb, eqb-true}
use Rattle.qtt_term.specs.Term.{Term, Terms, var, ε, ◌▸◌}
use Rattle.qtt_term.specs.Signature.{Env, ConSig}
use Rattle.qtt_term.specs.Judgement.{Ctx, Part}
use Rattle.qtt_term.specs.Ask.{Ask, ◌>>=◌}
use Rattle.qtt_term.specs.Entries.{Entries}
use Rattle.qtt_split.specs.Tree.{Leaf, Splitting, Tree, Branches, leaves}
use Rattle.qtt_split.specs.Node.{Clause, Row, Node, Settled, settle_all, Decision, decide}
use Rattle.qtt_split.specs.Branch.{moved_row}
use Rattle.qtt_split.specs.Plan.{start_rows}
use Rattle.qtt_rules.specs.Judged.{Judged as Answered, Judges, Mode}
use Rattle.qtt_split.specs.Group.{scope_at, side_at, sides_of, all_sides, with_number, in_order}
use Rattle.qtt_split.specs.Relation.{RightSides, gives, Made, MadeBranches}
use Rattle.qtt_split.specs.Laws.{Replies}
use Rattle.qtt_clause_laws.specs.Planned.{right_sides}
use Rattle.qtt_clause_laws.proofs.Answering.{Answering}
use Rattle.qtt_clause_laws.proofs.Grown.{SidesOf}
use Rattle.qtt_clause_laws.proofs.Deciding.{decide-columns, decide-goes, decide-sticks, row-of}

-- ---- each leaf is of a clause that there is
abbrev pub RowsBelow : ℕ → List Row → Type 0
RowsBelow m [] = Unit {0}
RowsBelow m (r ∷ rows) = (r.clause < m) × RowsBelow m rows

decides-below : (K : Entries) (m : ℕ) (rows : List Row) → RowsBelow m rows → (q : Row) (others : List Row) →
    decide K rows ≡ Decision.decides q others → RowsBelow m (q ∷ others)
decides-below K m [] b q others e = absurd (cc e)
decides-below K m (r ∷ rows) b q others e = go (decides-below K m rows b.1 q others) (settle_all K r.columns) refl
  where
    go : (decide K rows ≡ Decision.decides q others → RowsBelow m (q ∷ others)) → (o : Settled) →
        settle_all K r.columns ≡ o → RowsBelow m (q ∷ others)
    go ih (Settled.columns cs) d =
        let a = row-of (sym (decide-columns K r rows cs d) ∙ e) in
        (subst (λ (q : Row). q.clause < m) a.0 b.0, subst (RowsBelow m) a.1 b.1)
    go ih Settled.goes d = ih (sym (decide-goes K r rows d) ∙ e)
    go ih (Settled.sticks s t) d = absurd (cc (sym (decide-sticks K r rows s t d) ∙ e))

moved-below : (m : ℕ) (δ : ℕ → Term) (rows : List Row) → RowsBelow m rows → RowsBelow m (map (moved_row δ) rows)
moved-below m δ [] b = tt
moved-below m δ (r ∷ rows) b = (b.0, moved-below m δ rows b.1)

-- variables below m, up to these
data SidesBelow (m : ℕ) (left : Terms) : Terms → Type 0 where
  none : SidesBelow m left left
  next : {i : ℕ} {ts : Terms} → i < m → SidesBelow m left ts → SidesBelow m left (var i ▸ ts)

sides-join : {m : ℕ} {ss ts rs : Terms} → SidesBelow m ss ts → SidesBelow m rs ss → SidesBelow m rs ts
sides-join SidesBelow.none k = k
sides-join (SidesBelow.next h hs) k = SidesBelow.next h (sides-join hs k)

abbrev clause_of : RightSides
clause_of = gives (λ N r. var r.clause)

module _ (K : Entries) (m : ℕ) where
  mutual
    sides-below : {N : Node} {T : Tree} {sides left : Terms} → Made K clause_of N T sides left → RowsBelow m N.rows →
        SidesBelow m left sides
    sides-below (Made.none_left d) b = SidesBelow.none
    sides-below (Made.leaf {N = N} {r = r} {rows = rows} {sides = sides} d x e) b =
        subst (λ t. SidesBelow m sides (t ▸ sides)) (sym e)
        (SidesBelow.next (decides-below K m N.rows b r rows d).0 SidesBelow.none)
    sides-below (Made.split {N = N} {r = r} {rows = rows} d ir ct pf cs zi h) b =
        all-below h (decides-below K m N.rows b r rows d)
    sides-below (Made.delete {N = N} {r = r} {rows = rows} d ir ct ci e h) b =
        sides-below h (moved-below m _ (r ∷ rows) (decides-below K m N.rows b r rows d))

    all-below : {N : Node} {w : Splitting} {ts : Terms} {c : ℕ} {ds : List ConSig} {bs : Branches}
        {sides left : Terms} → MadeBranches K clause_of N w ts c ds bs sides left → RowsBelow m N.rows →
        SidesBelow m left sides
    all-below MadeBranches.none b = SidesBelow.none
    all-below (MadeBranches.clashes e c h) b = all-below h b
    all-below {N} (MadeBranches.solved names e s t made h) b =
        sides-join (sides-below made (moved-below m _ N.rows b)) (all-below h b)

abbrev pub LeavesBelow : ℕ → List Leaf → Type 0
LeavesBelow m [] = Unit {0}
LeavesBelow m (l ∷ ls) = (l.clause < m) × LeavesBelow m ls

leaves-of : (m : ℕ) (ls : List Leaf) → SidesBelow m ε (right_sides (λ (l : Leaf). var l.clause) ls ε) →
    LeavesBelow m ls
leaves-of m [] h = tt
leaves-of m (l ∷ ls) (SidesBelow.next h hs) = (h, leaves-of m ls hs)

pub leaves-below : (K : Entries) (m : ℕ) (N : Node) (T : Tree) →
    Made K clause_of N T (right_sides (λ (l : Leaf). var l.clause) (leaves T) ε) ε → RowsBelow m N.rows →
    LeavesBelow m (leaves T)
leaves-below K m N T h b = leaves-of m (leaves T) (sides-below K m h b)

pub start-below : (Γ : Ctx) (k : ℕ) (cs : List Clause) (m : ℕ) → k + length cs ≤ m → RowsBelow m (start_rows Γ k cs)
start-below Γ k [] m h = tt
start-below Γ k (c ∷ cs) m h = let h' : k + suc (length cs) ≤ m = h in
    (omega arith, start-below Γ (suc k) cs m (omega arith))

-- ---- a leaf at its place
pub data At : List Leaf → ℕ → Leaf → Type 0 where
  here : {l : Leaf} {ls : List Leaf} → At (l ∷ ls) zero l
  behind : {l k : Leaf} {ls : List Leaf} {j : ℕ} → At ls j l → At (k ∷ ls) (suc j) l

pub at-below : {m : ℕ} {ls : List Leaf} {j : ℕ} {l : Leaf} → LeavesBelow m ls → At ls j l → l.clause < m
at-below b At.here = b.0
at-below b (At.behind h) = at-below b.1 h

pub at-get : {ls : List Leaf} {j : ℕ} {l : Leaf} → At ls j l → slice_get ls j ≡ Some l
at-get At.here = refl
at-get (At.behind h) = at-get h

pub there-is : {A : Type 0} (xs : List A) (i : ℕ) → i < length xs → (x : A) × (slice_get xs i ≡ Some x)
there-is [] i h = absurd (omega arith)
there-is (x ∷ xs) zero h = (x, refl)
there-is (x ∷ xs) (suc i) h = let h' : suc i < suc (length xs) = h in there-is xs i (omega arith)

-- ---- numbered sides
eqb-false : (a b : ℕ) → (a ≡ b → ⊥) → eqb a b ≡ false
eqb-false a b h = go (eqb a b) refl
  where
    go : (c : Bool) → eqb a b ≡ c → c ≡ false
    go true e = absurd (h (eqb-true a b e))
    go false e = refl

abbrev AllFrom : ℕ → List (ℕ × Term) → Type 0
AllFrom k [] = Unit {0}
AllFrom k (e ∷ es) = (k ≤ e.0) × AllFrom k es

from-less : (k m : ℕ) (es : List (ℕ × Term)) → m ≤ k → AllFrom k es → AllFrom m es
from-less k m [] h a = tt
from-less k m (e ∷ es) h a = (omega arith, from-less k m es h a.1)

passed : (k : ℕ) (es more : List (ℕ × Term)) (ts : Terms) → AllFrom (suc k) es →
    with_number k (es ++ more) ts ≡ with_number k more ts
passed k [] more ts a = refl
passed k (e ∷ es) more ts a =
    ap (λ b. cond b (e.1 ▸ ts) (with_number k (es ++ more) ts)) (eqb-false e.0 k (λ q. absurd (omega arith)))
    ∙ passed k es more ts a.1

-- ---- the sides of a clause at its leaves
-- t is the core of the right side of c at l
pub record SideIs (says : Replies) (judge : Judges) (p : Part) (c : Clause) (l : Leaf) (t : Term) : Type 0 where
  pub judged : Answered
  pub answered : says (judge p (scope_at l) (Mode.check l.goal) c.side) judged
  pub core : t ≡ judged.core

-- the side with number j
pub record Listed (R : Term → Type 0) (j : ℕ) (es : List (ℕ × Term)) : Type 0 where
  pub term : Term
  pub side : R term
  pub there : (ts : Terms) → with_number j es ts ≡ term ▸ ts

module _ (E : Env) (W : Answering E) (judge : Judges) (p : Part) where
  abbrev IsSide : Clause → Leaf → Term → Type 0
  IsSide c l t = SideIs W.says judge p c l t

  side-is : (c : Clause) (l : Leaf) (t : Term) → W.says (side_at judge p c l) t → IsSide c l t
  unfolding side_at
  side-is c l t e =
      let a = W.bound _ _ t e in
      let b = W.bound (judge p (scope_at l) (Mode.check l.goal) c.side) _ t a.after in
      let d = W.bound _ _ t b.after in
      record { judged = b.mid; answered = b.first; core = sym (W.only _ t d.after) }

  record Next (m : ℕ) (c : Clause) (k : ℕ) (l : Leaf) (ls : List Leaf) (es : List (ℕ × Term)) : Type 0 where
    term : Term
    side : IsSide c l term
    others : List (ℕ × Term)
    asked : W.says (sides_of (side_at judge p) m c (suc k) ls) others
    is : es ≡ (k, term) ∷ others

  tested : (m : ℕ) (c : Clause) (k : ℕ) (l : Leaf) (ls : List Leaf) (es : List (ℕ × Term)) (b : Bool) →
      W.says (elim b [
        | true ↦ (side_at judge p c l >>= λ t. sides_of (side_at judge p) m c (suc k) ls >>= λ ts.
            Ask.done ((k, t) ∷ ts))
        | false ↦ sides_of (side_at judge p) m c (suc k) ls
      ]) es → ((b ≡ true) × Next m c k l ls es) ⊎ ((b ≡ false) × W.says (sides_of (side_at judge p) m c (suc k) ls) es)
  tested m c k l ls es true e =
      let a = W.bound (side_at judge p c l) _ es e in
      let b = W.bound (sides_of (side_at judge p) m c (suc k) ls) _ es a.after in
      inl (
        refl,
        record {
          term = a.mid;
          side = side-is c l a.mid a.first;
          others = b.mid;
          asked = b.first;
          is = sym (W.only _ es b.after);
        },
      )
  tested m c k l ls es false e = inr (refl, e)

  from-there : (m : ℕ) (c : Clause) (k : ℕ) (ls : List Leaf) (es : List (ℕ × Term)) →
      W.says (sides_of (side_at judge p) m c k ls) es → AllFrom k es
  from-there m c k [] es e = subst (AllFrom k) (W.only [] es e) tt
  from-there m c k (l ∷ ls) es e = elim (tested m c k l ls es (eqb l.clause m) e) [
    | inl h ↦ subst (AllFrom k) (sym h.1.is)
        (omega arith, from-less (suc k) k h.1.others (omega arith) (from-there m c (suc k) ls h.1.others h.1.asked))
    | inr h ↦ from-less (suc k) k es (omega arith) (from-there m c (suc k) ls es h.1)
  ]

  -- the sides of one clause, before others
  record Block (m : ℕ) (c : Clause) (k : ℕ) (l : Leaf) (es : List (ℕ × Term)) : Type 0 where
    own : l.clause ≡ m → (more : List (ℕ × Term)) → Listed (IsSide c l) k (es ++ more)
    other : (l.clause ≡ m → ⊥) → (more : List (ℕ × Term)) (ts : Terms) →
        with_number k (es ++ more) ts ≡ with_number k more ts

  block : (m : ℕ) (c : Clause) (k : ℕ) (ls : List Leaf) (es : List (ℕ × Term)) →
      W.says (sides_of (side_at judge p) m c k ls) es → {j : ℕ} {l : Leaf} → At ls j l → Block m c (k + j) l es
  block m c k [] es e a = elim a [ ]
  block m c k (l ∷ ls) es e At.here = elim (tested m c k l ls es (eqb l.clause m) e) [
    | inl h ↦ subst (λ i. Block m c i l es) (omega arith) (subst (Block m c k l) (sym h.1.is) (record {
      own = λ q more. record {
        term = h.1.term;
        side = h.1.side;
        there = λ ts. ap (λ b. cond b (h.1.term ▸ ts) (with_number k (h.1.others ++ more) ts)) (eq-eqb k k refl);
      };
      other = λ q. absurd (q (eqb-true l.clause m h.0));
    }))
    | inr h ↦ subst (λ i. Block m c i l es) (omega arith) (record {
      own = λ q. absurd (cc (sym (eq-eqb l.clause m q) ∙ h.0));
      other = λ q more ts. passed k es more ts (from-there m c (suc k) ls es h.1);
    })
  ]
  block m c k (l' ∷ ls) es e (At.behind {l = l} {j = j} a) = elim (tested m c k l' ls es (eqb l'.clause m) e) [
    | inl h ↦ (let b = block m c (suc k) ls h.1.others h.1.asked a in
        let skipped : (more : List (ℕ × Term)) (ts : Terms) →
        with_number (suc k + j) ((k, h.1.term) ∷ h.1.others ++ more) ts ≡
        with_number (suc k + j) (h.1.others ++ more) ts
        = λ more ts. ap (λ b. cond b (h.1.term ▸ ts) (with_number (suc k + j) (h.1.others ++ more) ts))
        (eqb-false k (suc k + j) (λ q. absurd (omega arith))) in
        subst (λ i. Block m c i l es) (omega arith) (subst (Block m c (suc k + j) l) (sym h.1.is) (record {
          own = λ q more. (let r = b.own q more in
              record { term = r.term; side = r.side; there = λ ts. skipped more ts ∙ r.there ts });
          other = λ q more ts. skipped more ts ∙ b.other q more ts;
        })))
    | inr h ↦ subst (λ i. Block m c i l es) (omega arith) (block m c (suc k) ls es h.1 a)
  ]

  pub numbered : (m : ℕ) (cs : List Clause) (ls : List Leaf) (es : List (ℕ × Term)) →
      W.says (all_sides (side_at judge p) m cs ls) es → {j : ℕ} {l : Leaf} → At ls j l →
      (i : ℕ) (c : Clause) → slice_get cs i ≡ Some c → l.clause ≡ m + i → Listed (IsSide c l) j es
  numbered m [] ls es e a i c g q = absurd (cc g)
  numbered m (c' ∷ cs) ls es e {j} {l} a zero c g q =
      let x = W.bound (sides_of (side_at judge p) m c' 0 ls) _ es e in
      let y = W.bound (all_sides (side_at judge p) (suc m) cs ls) _ es x.after in
      let b = block m c' 0 ls x.mid x.first a in
      let q' : l.clause ≡ m = omega arith in
      let same : c' ≡ c = cc g in
      let at : 0 + j ≡ j = omega arith in
      subst (Listed (IsSide c l) j) (W.only _ es y.after)
      (subst (λ c. Listed (IsSide c l) j (x.mid ++ y.mid)) same
      (subst (λ j. Listed (IsSide c' l) j (x.mid ++ y.mid)) at (b.own q' y.mid)))
  numbered m (c' ∷ cs) ls es e {j} {l} a (suc i) c g q =
      let x = W.bound (sides_of (side_at judge p) m c' 0 ls) _ es e in
      let y = W.bound (all_sides (side_at judge p) (suc m) cs ls) _ es x.after in
      let b = block m c' 0 ls x.mid x.first a in
      let at : 0 + j ≡ j = omega arith in
      let r = numbered (suc m) cs ls y.mid y.first a i c g (omega arith) in
      subst (Listed (IsSide c l) j) (W.only _ es y.after)
      (record {
        term = r.term;
        side = r.side;
        there = λ ts. ap (λ j. with_number j (x.mid ++ y.mid) ts) (sym at)
            ∙ b.other (λ r. absurd (omega arith)) y.mid ts ∙ ap (λ j. with_number j y.mid ts) at ∙ r.there ts;
      })

pub ordered : (R : Leaf → Term → Type 0) (es : List (ℕ × Term)) (k : ℕ) (ls : List Leaf) →
    ((j : ℕ) (l : Leaf) → At ls j l → Listed (R l) (k + j) es) → SidesOf R ls (in_order k ls es) ε
ordered R es k [] h = SidesOf.none
ordered R es k (l ∷ ls) h =
    let at : k + 0 ≡ k = omega arith in
    let r = h 0 l At.here in
    let here : with_number k es (in_order (suc k) ls es) ≡ r.term ▸ in_order (suc k) ls es =
    ap (λ j. with_number j es (in_order (suc k) ls es)) (sym at) ∙ r.there (in_order (suc k) ls es) in
    subst (λ ts. SidesOf R (l ∷ ls) ts ε) (sym here)
    (SidesOf.more r.side (ordered R es (suc k) ls
    (λ j l a. let at : k + suc j ≡ suc k + j = omega arith in
    subst (λ j. Listed (R l) j es) at (h (suc j) l (At.behind a)))))
