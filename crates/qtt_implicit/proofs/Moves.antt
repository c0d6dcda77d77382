-- Laws of moving, and of names that stand for other trees.
use Rattle.std.proofs.Common.{◌≡◌, ◌∙◌, refl, ap, sym, subst, inl, inr, ◌⊎◌, ℕ, zero, suc, ◌+◌, ◌-◌, ◌<◌, ◌≤◌, arith, Bool, true, false, List, [], ◌∷◌, Option, Some, None, nat_lt, if◌then◌else◌, slice_get}
use mathlib.Core.Path.{ap₂}
use Rattle.qtt_base.specs.declared.place.Span.{Span}
use Rattle.qtt_syntax.specs.declared.expr.Mark.{Mark}
use Rattle.qtt_syntax.specs.declared.expr.Named.{Named}
use Rattle.qtt_syntax.specs.declared.expr.Target.{Target}
use Rattle.qtt_syntax.specs.declared.expr.Target.TheVariants as target
use Rattle.qtt_syntax.specs.Tree.{Tree}
use Rattle.qtt_syntax.specs.Tree.Tree.{name, number, text, universe, hole, the, apply, pi, lambda, letting, doing}
use Rattle.qtt_implicit.specs.Moving.{Change, kept, at_binder, shifted_name, shifted, replaced_name, replaced, changed, placed, unknown_weight, stands_for_nothing, weighed, nodes}
use Rattle.qtt_implicit.specs.Matching.{Slots, newest, instance, slot_tree}
use Rattle.qtt_implicit.specs.Slots.{moving, replacing, beyond, slot_value, stands, seen, moved_rest, moved_slot, moved_slots, weight, one_node, weight_of, global_of, Form, form}
use Rattle.qtt_implicit.specs.Forgetting.{renumbering}
use Rattle.qtt_implicit.specs.declared.filling.slots.Rest.{Rest}
use Rattle.qtt_implicit.specs.declared.filling.slots.Rest.TheVariants as rest
use Rattle.qtt_implicit.proofs.RenumberedTrees.{named, unmoved, shifted_binder}
use Rattle.qtt_implicit.proofs.Changing.{Composed, composed, same_depths, alike, weighs_same}

-- ---- tests of numbers
pub below : (i d : ℕ) → i < d → nat_lt i d ≡ true
below i d h = by (nat_lt i d) refl
  where
    by : (b : Bool) → nat_lt i d ≡ b → b ≡ true
    by true e = refl
    by false e = absurd (grind (arith, e, h))

pub not_below : (i d : ℕ) → d ≤ i → nat_lt i d ≡ false
not_below i d h = by (nat_lt i d) refl
  where
    by : (b : Bool) → nat_lt i d ≡ b → b ≡ false
    by true e = absurd (grind (arith, e, h))
    by false e = refl

pub side : (i d : ℕ) → (i < d) ⊎ (d ≤ i)
side i d = by (nat_lt i d) refl
  where
    by : (b : Bool) → nat_lt i d ≡ b → (i < d) ⊎ (d ≤ i)
    by true e = inl (grind (arith, e))
    by false e = inr (grind (arith, e))

-- ---- nothing is changed
pub same_tree : (c : Change) → ((d : ℕ) (n : Named) → c.name d n ≡ name n) → ((m : Mark) → c.mark m ≡ m) →
    ((s : Span) → c.span s ≡ s) → (d : ℕ) (t : Tree) → changed c d t ≡ t
same_tree c names marks spans d t =
    alike c (renumbering (λ i. i)) (λ e n. names e n ∙ sym (unmoved (λ i. i) (λ i. refl) e (name n))) marks spans d t
    ∙ unmoved (λ i. i) (λ i. refl) d t

-- a change of names alone
abbrev pub naming : (ℕ → Named → Tree) → Change
naming f = record { name = f; mark = kept; span = kept }

at_itself : (p : List ℕ) (i j : ℕ) (s : Span) → i ≡ j →
    at_binder i (named p (target.Local j) s) ≡ name (named p (target.Local j) s)
at_itself p i j s e = ap (λ (k : ℕ). at_binder k (named p (target.Local j) s)) e

-- ---- moving
unmoved_name : (d : ℕ) (p : List ℕ) (t : Target) (s : Span) →
    shifted_name 0 d (named p t s) t ≡ name (named p t s)
unmoved_name d p (target.Local i) s = by (nat_lt i d)
  where
    by : (b : Bool) →
        (if b then name (named p (target.Local i) s) else at_binder (i + 0) (named p (target.Local i) s)) ≡
        name (named p (target.Local i) s)
    by true = refl
    by false = at_itself p (i + 0) i s (omega arith)
unmoved_name d p (target.Global id) s = refl
unmoved_name d p target.Unknown s = refl

pub shifted_none : (t : Tree) → shifted 0 t ≡ t
shifted_none =
    same_tree (moving 0) (λ d n. unmoved_name d n.path n.target n.span) (λ m. refl) (λ s. refl) 0

moved_twice : (m d j e : ℕ) → j ≤ d → (p : List ℕ) (t : Target) (s : Span) →
    changed (moving m) (e + j) (shifted_name d e (named p t s) t) ≡ shifted_name (d + m) e (named p t s) t
moved_twice m d j e h p (target.Local i) s = by (side i e)
  where
    n : Named
    n = named p (target.Local i) s

    by : (i < e) ⊎ (e ≤ i) →
        changed (moving m) (e + j) (if nat_lt i e then name (named p (target.Local i) s)
        else at_binder (i + d) (named p (target.Local i) s)) ≡
        (if nat_lt i e then name (named p (target.Local i) s)
        else at_binder (i + (d + m)) (named p (target.Local i) s))
    by (inl l) =
        let a = below i e l in
        let b = below i (e + j) (omega arith) in
        rw (a, b) refl
    by (inr l) =
        let a = not_below i e l in
        let b = not_below (i + d) (e + j) (omega arith) in
        rw (a, b) (ap (λ (k : ℕ). at_binder k (named p (target.Local i) s)) (omega arith))
moved_twice m d j e h p (target.Global id) s = refl
moved_twice m d j e h p target.Unknown s = refl

pub moves : (m d j : ℕ) → j ≤ d → Composed (moving m) (moving d) (moving (d + m)) j 0 0
moves m d j h = record {
  names = λ e n. by e n;
  marks = λ k. refl;
  spans = λ s. refl;
}
  where
    by : (e : ℕ) (n : Named) →
        changed (moving m) (e + j) ((moving d).name (e + 0) n) ≡ (moving (d + m)).name (e + 0) n
    by e n =
        let same : e ≡ e + 0 = omega arith in
        let P : ℕ → Type 0 = λ x. changed (moving m) (e + j) ((moving d).name x n) ≡ (moving (d + m)).name x n in
        subst P same (moved_twice m d j e h n.path n.target n.span)

pub shifted_twice : (m d : ℕ) (t : Tree) → shifted m (shifted d t) ≡ shifted (d + m) t
shifted_twice m d t =
    composed (moving m) (moving d) (moving (d + m)) 0 0 0 (moves m d 0 (omega arith)) 0 0 0 (same_depths 0) t

pub shifted_under : (m d : ℕ) (t : Tree) → changed (moving m) d (shifted d t) ≡ shifted (d + m) t
shifted_under m d t =
    composed (moving m) (moving d) (moving (d + m)) d 0 0 (moves m d d (omega arith)) d 0 0
    (record { inside = 0; first = omega arith; second = omega arith; third = omega arith }) t

-- ---- names that stand for others
-- a change of names at a name that is free, and at one that is not
pub bound_stays : (σ : ℕ → Named → Tree) (d i : ℕ) (n : Named) → i < d → replaced_name σ d n (target.Local i) ≡ name n
bound_stays σ d i n h = let e = below i d h in rw e refl

pub free_stands : (σ : ℕ → Named → Tree) (d i : ℕ) (n : Named) → d ≤ i →
    replaced_name σ d n (target.Local i) ≡ shifted d (σ (i - d) n)
free_stands σ d i n h = let e = not_below i d h in rw e refl

at_zero : (c h : Change) (σ : ℕ → Named → Tree) →
    ((d : ℕ) (n : Named) → changed c d ((replacing σ).name d n) ≡ h.name d n) →
    (d : ℕ) (n : Named) → changed c (d + 0) ((replacing σ).name (d + 0) n) ≡ h.name (d + 0) n
at_zero c h σ all d n = all (d + 0) n

moved_name : (m d : ℕ) (σ : ℕ → Named → Tree) (p : List ℕ) (t : Target) (s : Span) →
    changed (moving m) d (replaced_name σ d (named p t s) t) ≡
    replaced_name (λ i n. shifted m (σ i n)) d (named p t s) t
moved_name m d σ p (target.Local i) s = by (side i d)
  where
    by : (i < d) ⊎ (d ≤ i) →
        changed (moving m) d (replaced_name σ d (named p (target.Local i) s) (target.Local i)) ≡
        replaced_name (λ i n. shifted m (σ i n)) d (named p (target.Local i) s) (target.Local i)
    by (inl l) = let a = below i d l in rw (a, a) refl
    by (inr l) =
        let n = named p (target.Local i) s in
        let x = σ (i - d) n in
        ap (changed (moving m) d) (free_stands σ d i n l)
        ∙ shifted_under m d x
        ∙ ap (λ (k : ℕ). shifted k x) (omega arith)
        ∙ sym (shifted_twice d m x)
        ∙ sym (free_stands (λ i n. shifted m (σ i n)) d i n l)
moved_name m d σ p (target.Global id) s = refl
moved_name m d σ p target.Unknown s = refl

pub moved_standing : (m : ℕ) (σ : ℕ → Named → Tree) →
    Composed (moving m) (replacing σ) (replacing (λ i n. shifted m (σ i n))) 0 0 0
moved_standing m σ = record {
  names = λ d n. moved_name m (d + 0) σ n.path n.target n.span;
  marks = λ k. refl;
  spans = λ s. refl;
}

-- where two give the same for each name, they replace alike
same_name_of : (σ τ : ℕ → Named → Tree) → ((i : ℕ) (n : Named) → σ i n ≡ τ i n) → (d : ℕ) (n : Named) (t : Target) →
    replaced_name σ d n t ≡ replaced_name τ d n t
same_name_of σ τ h d n (target.Local i) =
    ap (λ (x : Tree). if nat_lt i d then name n else shifted d x) (h (i - d) n)
same_name_of σ τ h d n (target.Global id) = refl
same_name_of σ τ h d n target.Unknown = refl

pub same_standing : (σ τ : ℕ → Named → Tree) → ((i : ℕ) (n : Named) → σ i n ≡ τ i n) → (d : ℕ) (t : Tree) →
    changed (replacing σ) d t ≡ changed (replacing τ) d t
same_standing σ τ h =
    alike (replacing σ) (replacing τ) (λ d n. same_name_of σ τ h d n n.target) (λ m. refl) (λ s. refl)

beyond_moved : (m : ℕ) (r : Rest) (i : ℕ) (n : Named) → beyond (moved_rest m r) i n ≡ shifted m (beyond r i n)
beyond_moved m rest.Unknown i n = refl
beyond_moved m (rest.Outer k) i n =
    ap (λ (j : ℕ). at_binder j n) (omega arith) ∙ sym (shifted_binder m (i + k) n)

slot_moved : (m : ℕ) (o : Option Tree) → slot_value (moved_slot m o) ≡ shifted m (slot_value o)
slot_moved m None = refl
slot_moved m (Some t) = refl

pub stands_moved : (m : ℕ) (r : Rest) (σ : Slots) (i : ℕ) (n : Named) →
    stands (moved_rest m r) (moved_slots m σ) i n ≡ shifted m (stands r σ i n)
stands_moved m r [] i n = beyond_moved m r i n
stands_moved m r (o ∷ σ) zero n = slot_moved m o
stands_moved m r (o ∷ σ) (suc i) n = stands_moved m r σ i n

-- ---- a plain tree
plain_name : (d : ℕ) (p : List ℕ) (t : Target) (s : Span) →
    replaced_name (stands (rest.Outer 0) []) d (named p t s) t ≡ name (named p t s)
plain_name d p (target.Local i) s = by (side i d)
  where
    by : (i < d) ⊎ (d ≤ i) →
        replaced_name (stands (rest.Outer 0) []) d (named p (target.Local i) s) (target.Local i) ≡
        name (named p (target.Local i) s)
    by (inl l) = bound_stays (stands (rest.Outer 0) []) d i (named p (target.Local i) s) l
    by (inr l) =
        free_stands (stands (rest.Outer 0) []) d i (named p (target.Local i) s) l
        ∙ shifted_binder d (i - d + 0) (named p (target.Local i) s)
        ∙ at_itself p (i - d + 0 + d) i s (omega arith)
plain_name d p (target.Global id) s = refl
plain_name d p target.Unknown s = refl

pub plain_standing : (d : ℕ) (t : Tree) → changed (replacing (stands (rest.Outer 0) [])) d t ≡ t
plain_standing =
    same_tree (replacing (stands (rest.Outer 0) [])) (λ d n. plain_name d n.path n.target n.span) (λ m. refl)
    (λ s. refl)

pub seen_plain : (t : Tree) → seen (rest.Outer 0) 0 [] t ≡ t
seen_plain t = shifted_none (replaced (stands (rest.Outer 0) []) t) ∙ plain_standing 0 t

pub seen_moved : (r : Rest) (m k : ℕ) (σ : Slots) (t : Tree) → shifted k (seen r m σ t) ≡ seen r (m + k) σ t
seen_moved r m k σ t = shifted_twice k m (replaced (stands r σ) t)

-- ---- instances of a signature's types
pub stands_unknown : (σ : Slots) (i : ℕ) (n : Named) → slot_tree (slice_get σ i) ≡ stands rest.Unknown σ i n
stands_unknown [] i n = refl
stands_unknown (None ∷ σ) zero n = refl
stands_unknown (Some t ∷ σ) zero n = refl
stands_unknown (o ∷ σ) (suc i) n = stands_unknown σ i n

pub instance_seen : (σ : Slots) (t : Tree) → instance σ t ≡ seen rest.Unknown 0 σ t
instance_seen σ t =
    same_standing (λ i n. slot_tree (slice_get σ i)) (stands rest.Unknown σ) (stands_unknown σ) 0 t
    ∙ sym (shifted_none (replaced (stands rest.Unknown σ) t))

-- ---- codomains
newest_moved : (x : Tree) (d e : ℕ) (p : List ℕ) (t : Target) (s : Span) →
    changed (replacing (newest x)) (e + d) (shifted_name (suc d) e (named p t s) t) ≡ shifted_name d e (named p t s) t
newest_moved x d e p (target.Local i) s = by (side i e)
  where
    n : Named
    n = named p (target.Local i) s

    by : (i < e) ⊎ (e ≤ i) →
        changed (replacing (newest x)) (e + d) (shifted_name (suc d) e (named p (target.Local i) s) (target.Local i)) ≡
        shifted_name d e (named p (target.Local i) s) (target.Local i)
    by (inl l) =
        let a = below i e l in
        let b = below i (e + d) (omega arith) in
        rw (a, b) refl
    by (inr l) =
        let a = not_below i e l in
        let b = not_below (i + suc d) (e + d) (omega arith) in
        let m : Named = named p (target.Local (i + suc d)) s in
        let c : i + suc d - (e + d) ≡ suc (i - e) = omega arith in
        rw (a, b, c)
        (shifted_binder (e + d) (i - e) (named p (target.Local (i + suc d)) s)
        ∙ ap (λ (k : ℕ). at_binder k (named p (target.Local i) s)) (omega arith))
newest_moved x d e p (target.Global id) s = refl
newest_moved x d e p target.Unknown s = refl

newest_moves : (x : Tree) (d : ℕ) → Composed (replacing (newest x)) (moving (suc d)) (moving d) d 0 0
newest_moves x d = record {
  names = λ e n. by e n;
  marks = λ k. refl;
  spans = λ s. refl;
}
  where
    by : (e : ℕ) (n : Named) →
        changed (replacing (newest x)) (e + d) ((moving (suc d)).name (e + 0) n) ≡ (moving d).name (e + 0) n
    by e n =
        let same : e ≡ e + 0 = omega arith in
        let P : ℕ → Type 0 = λ y. changed (replacing (newest x)) (e + d) ((moving (suc d)).name y n) ≡
        (moving d).name y n in
        subst P same (newest_moved x d e n.path n.target n.span)

newest_behind : (x : Tree) (d : ℕ) (t : Tree) → changed (replacing (newest x)) d (shifted (suc d) t) ≡ shifted d t
newest_behind x d t =
    composed (replacing (newest x)) (moving (suc d)) (moving d) d 0 0 (newest_moves x d) d 0 0
    (record { inside = 0; first = omega arith; second = omega arith; third = omega arith }) t

newest_stands : (x : Tree) (r : Rest) (σ : Slots) (d : ℕ) (p : List ℕ) (t : Target) (s : Span) →
    changed (replacing (newest x)) d (replaced_name (stands r σ) (suc d) (named p t s) t) ≡
    replaced_name (stands r (Some x ∷ σ)) d (named p t s) t
newest_stands x r σ d p (target.Local i) s = by (side i d) (side i (suc d))
  where
    n : Named
    n = named p (target.Local i) s

    by : (i < d) ⊎ (d ≤ i) → (i < suc d) ⊎ (suc d ≤ i) →
        changed (replacing (newest x)) d
        (replaced_name (stands r σ) (suc d) (named p (target.Local i) s) (target.Local i)) ≡
        replaced_name (stands r (Some x ∷ σ)) d (named p (target.Local i) s) (target.Local i)
    by (inl l) h =
        let a = below i d l in
        let b = below i (suc d) (omega arith) in
        rw (b, a) refl
    by (inr l) (inl m) =
        let a = not_below i d l in
        let b = below i (suc d) m in
        let c : i - d ≡ 0 = omega arith in
        rw (b, a, c) refl
    by (inr l) (inr m) =
        let n = named p (target.Local i) s in
        let c : i - d ≡ suc (i - suc d) = omega arith in
        ap (changed (replacing (newest x)) d) (free_stands (stands r σ) (suc d) i n m)
        ∙ newest_behind x d (stands r σ (i - suc d) n)
        ∙ sym (ap (λ (k : ℕ). shifted d (stands r (Some x ∷ σ) k n)) c)
        ∙ sym (free_stands (stands r (Some x ∷ σ)) d i n l)
newest_stands x r σ d p (target.Global id) s = refl
newest_stands x r σ d p target.Unknown s = refl

newest_standing : (x : Tree) (r : Rest) (σ : Slots) →
    Composed (replacing (newest x)) (replacing (stands r σ)) (replacing (stands r (Some x ∷ σ))) 0 1 0
newest_standing x r σ = record {
  names = λ d n. by d n;
  marks = λ k. refl;
  spans = λ s. refl;
}
  where
    by : (d : ℕ) (n : Named) →
        changed (replacing (newest x)) (d + 0) ((replacing (stands r σ)).name (d + 1) n) ≡
        (replacing (stands r (Some x ∷ σ))).name (d + 0) n
    by d n =
        let same : d ≡ d + 0 = omega arith in
        let next : suc d ≡ d + 1 = omega arith in
        let P : ℕ → ℕ → Type 0 = λ y z. changed (replacing (newest x)) y ((replacing (stands r σ)).name z n) ≡
        (replacing (stands r (Some x ∷ σ))).name y n in
        subst (λ (y : ℕ). P y (d + 1)) same
        (subst (λ (z : ℕ). P d z) next (newest_stands x r σ d n.path n.target n.span))

-- what an argument gives to the codomain of a function's type
pub codomain_seen : (r : Rest) (m : ℕ) (σ : Slots) (x b : Tree) →
    replaced (newest x) (changed (moving m) 1 (changed (replacing (stands r σ)) 1 b)) ≡
    seen (moved_rest m r) 0 (Some x ∷ moved_slots m σ) b
codomain_seen r m σ x b =
    ap (replaced (newest x))
    (composed (moving m) (replacing (stands r σ)) (replacing (λ i n. shifted m (stands r σ i n))) 0 0 0
    (moved_standing m (stands r σ)) 1 1 1 (same_depths 1) b
    ∙ sym (same_standing (stands (moved_rest m r) (moved_slots m σ)) (λ i n. shifted m (stands r σ i n))
    (stands_moved m r σ) 1 b))
    ∙ composed (replacing (newest x)) (replacing (stands (moved_rest m r) (moved_slots m σ)))
    (replacing (stands (moved_rest m r) (Some x ∷ moved_slots m σ))) 0 1 0
    (newest_standing x (moved_rest m r) (moved_slots m σ)) 0 1 0
    (record { inside = 0; first = omega arith; second = omega arith; third = omega arith }) b
    ∙ sym (shifted_none (replaced (stands (moved_rest m r) (Some x ∷ moved_slots m σ)) b))

-- ---- weights
-- a name stays a name, and known where it was
abbrev pub KeepsNames : Change → Type 0
KeepsNames c =
    (d : ℕ) (n : Named) →
    (m : Named) × ((c.name d n ≡ name m) × (stands_for_nothing m.target ≡ stands_for_nothing n.target))

module _ (c : Change) (k : KeepsNames c) where
  unknown_same : (d : ℕ) (t : Tree) → unknown_weight (changed c d t) ≡ unknown_weight t
  unknown_same d (name n) = let (m, (e, h)) = k d n in ap unknown_weight e ∙ h
  unknown_same d (number z s) = refl
  unknown_same d (text v s) = refl
  unknown_same d (universe l ls s) = refl
  unknown_same d (hole n s) = refl
  unknown_same d (the t e s) = refl
  unknown_same d (apply f xs s) = refl
  unknown_same d (pi q m n a b s) = refl
  unknown_same d (lambda bs b s) = refl
  unknown_same d (letting m n t e b s) = refl
  unknown_same d (doing ss s) = refl

  pub nodes_kept : (d : ℕ) (t : Tree) → weighed one_node (changed c d t) ≡ weighed one_node t
  nodes_kept =
      weighs_same c one_node (λ d n. let (m, (e, h)) = k d n in ap (weighed one_node) e) (λ d t. refl)

  pub unknowns_kept : (d : ℕ) (t : Tree) → weighed unknown_weight (changed c d t) ≡ weighed unknown_weight t
  unknowns_kept =
      weighs_same c unknown_weight (λ d n. let (m, (e, h)) = k d n in ap (weighed unknown_weight) e ∙ h) unknown_same

  pub weight_kept : (d : ℕ) (t : Tree) → weight_of (changed c d t) ≡ weight_of t
  weight_kept d t = ap₂ weight (nodes_kept d t) (unknowns_kept d t)

moving_keeps : (k d : ℕ) (p : List ℕ) (t : Target) (s : Span) →
    (m : Named) × ((shifted_name k d (named p t s) t ≡ name m) × (stands_for_nothing m.target ≡ stands_for_nothing t))
moving_keeps k d p (target.Local i) s = by (nat_lt i d)
  where
    by : (b : Bool) → (m : Named) × (((if b then name (named p (target.Local i) s)
        else at_binder (i + k) (named p (target.Local i) s)) ≡ name m) × (stands_for_nothing m.target ≡ 0))
    by true = (named p (target.Local i) s, (refl, refl))
    by false = (named p (target.Local (i + k)) s, (refl, refl))
moving_keeps k d p (target.Global id) s = (named p (target.Global id) s, (refl, refl))
moving_keeps k d p target.Unknown s = (named p target.Unknown s, (refl, refl))

pub weight_shifted : (k : ℕ) (t : Tree) → weight_of (shifted k t) ≡ weight_of t
weight_shifted k t = weight_kept (moving k) (λ d n. moving_keeps k d n.path n.target n.span) 0 t

placing_keeps : (s : Span) → KeepsNames (record {
  name = λ d n. name (record { path = n.path; target = n.target; span = s });
  mark = kept;
  span = λ t. s;
})
placing_keeps s d n = (record { path = n.path; target = n.target; span = s }, (refl, refl))

pub nodes_placed : (s : Span) (t : Tree) → nodes (placed s t) ≡ nodes t
nodes_placed s t = nodes_kept (record {
  name = λ d n. name (record { path = n.path; target = n.target; span = s });
  mark = kept;
  span = λ u. s;
}) (placing_keeps s) 0 t

-- ---- forms
form_moved_name : (k d : ℕ) (n : Named) (t : Target) → global_of n.target ≡ global_of t →
    form (shifted_name k d n t) ≡ Form.named (global_of t)
form_moved_name k d n (target.Local i) e = by (nat_lt i d)
  where
    by : (b : Bool) → form (if b then name n else at_binder (i + k) n) ≡ Form.named None
    by true = ap Form.named e
    by false = refl
form_moved_name k d n (target.Global id) e = ap Form.named e
form_moved_name k d n target.Unknown e = ap Form.named e

pub form_moved : (k d : ℕ) (t : Tree) → form (changed (moving k) d t) ≡ form t
form_moved k d (name n) = form_moved_name k d n n.target refl
form_moved k d (number z s) = refl
form_moved k d (text v s) = refl
form_moved k d (universe l ls s) = refl
form_moved k d (hole n s) = refl
form_moved k d (the t e s) = refl
form_moved k d (apply f xs s) = refl
form_moved k d (pi q m n a b s) = refl
form_moved k d (lambda bs b s) = refl
form_moved k d (letting m n t e b s) = refl
form_moved k d (doing ss s) = refl
