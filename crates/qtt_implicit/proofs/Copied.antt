-- What copies of trees are.
use Rattle.std.proofs.Common.{◌≡◌, ◌∙◌, refl, ap, sym, subst, ℕ, ◌+◌, ◌-◌, ◌<◌, ◌≤◌, arith, List, Option, None}
use Rattle.qtt_base.specs.declared.place.Span.{Span}
use Rattle.qtt_syntax.specs.declared.expr.Mark.{Mark}
use Rattle.qtt_syntax.specs.declared.expr.Named.{Named}
use Rattle.qtt_syntax.specs.declared.expr.Target.{Target}
use Rattle.qtt_syntax.specs.declared.expr.Target.TheVariants as target
use Rattle.qtt_syntax.specs.declared.expr.Local.{Local}
use Rattle.qtt_usage.specs.declared.mult.Mult.{Mult}
use Rattle.qtt_syntax.specs.Tree.{Tree, Annotation, Arguments, Binders, Statements}
use Rattle.qtt_syntax.specs.Tree.Tree.{name, the, apply, pi, lambda, letting}
use Rattle.qtt_syntax.specs.Tree.Argument.{argument}
use Rattle.qtt_syntax.specs.Tree.Arguments.{argument_and}
use Rattle.qtt_syntax.specs.Tree.Binder.{plain, typed_binder}
use Rattle.qtt_syntax.specs.Tree.Binders.{binder_and}
use Rattle.qtt_syntax.specs.Tree.Statement.{bind, local, run}
use Rattle.qtt_syntax.specs.Tree.Statements.{statement_and}
use Rattle.qtt_implicit.specs.Moving.{Change, at_binder, shifted, replaced_name, changed, changed_binders, count}
use Rattle.qtt_implicit.specs.Matching.{Slots}
use Rattle.qtt_implicit.specs.Forgetting.{renumbering}
use Rattle.qtt_implicit.specs.Slots.{moving, replacing, stands, seen}
use Rattle.qtt_implicit.specs.Copies.{placing, span_at}
use Rattle.qtt_implicit.specs.declared.filling.slots.Rest.{Rest}
use Rattle.qtt_implicit.proofs.RenumberedTrees.{named, unmoved, shifted_binder}
use Rattle.qtt_implicit.proofs.Changing.{composed, count_changed}
use Rattle.qtt_implicit.proofs.Moves.{same_tree, below, free_stands, bound_stays, shifted_under, seen_moved}

-- ---- places

-- places are changed alike behind any binders
pub placed_anywhere : (p : Option Span) (d e : ℕ) (t : Tree) → changed (placing p) d t ≡ changed (placing p) e t
placed_anywhere p d e t =
    sym (unmoved (λ i. i) (λ i. refl) 0 (changed (placing p) d t))
    ∙ composed (renumbering (λ i. i)) (placing p) (placing p) 0 d e
    (record {
      names = λ x n. unmoved (λ i. i) (λ i. refl) (x + 0)
          (name (record { path = n.path; target = n.target; span = span_at p n.span }));
      marks = λ m. refl;
      spans = λ s. refl;
    }) 0 d e (record { inside = 0; first = omega arith; second = omega arith; third = omega arith }) t

-- no place is changed
pub not_placed : (d : ℕ) (t : Tree) → changed (placing None) d t ≡ t
not_placed d t = same_tree (placing None) (λ e n. refl) (λ m. refl) (λ s. refl) d t

-- ---- what stands in a slot
pub copied_seen : (p : Option Span) (m d : ℕ) (r : Rest) (k : ℕ) (σ : Slots) (t : Tree) →
    changed (placing p) d (changed (moving m) d (shifted d (seen r k σ t))) ≡
    changed (placing p) 0 (changed (moving (k + (d + m))) 0 (changed (replacing (stands r σ)) 0 t))
copied_seen p m d r k σ t =
    placed_anywhere p d 0 (changed (moving m) d (shifted d (seen r k σ t)))
    ∙ ap (changed (placing p) 0) (shifted_under m d (seen r k σ t) ∙ seen_moved r k (d + m) σ t)

pub copied_beyond : (p : Option Span) (m d k i : ℕ) (n : Named) →
    changed (placing p) d (changed (moving m) d (shifted d (at_binder (i + k) n))) ≡
    name (record { path = n.path; target = target.Local ((i + k) + (d + m)); span = span_at p n.span })
copied_beyond p m d k i n =
    ap (changed (placing p) d) (shifted_under m d (at_binder (i + k) n) ∙ shifted_binder (d + m) (i + k) n)

-- ---- names
pub copied_bound : (p : Option Span) (m d i : ℕ) (σ : ℕ → Named → Tree) (n : Named) → n.target ≡ target.Local i →
    i < d →
    changed (placing p) d (changed (moving m) d (replaced_name σ d n (target.Local i))) ≡
    name (record { path = n.path; target = target.Local i; span = span_at p n.span })
copied_bound p m d i σ n e h =
    let b = below i d h in
    ap (λ (t : Tree). changed (placing p) d (changed (moving m) d t)) (bound_stays σ d i n h)
    ∙ ap (changed (placing p) d) (still n.path n.target n.span e)
    ∙ ap (λ (t : Target). name (record { path = n.path; target = t; span = span_at p n.span })) e
  where
    still : (q : List ℕ) (t : Target) (s : Span) → t ≡ target.Local i →
        changed (moving m) d (name (named q t s)) ≡ name (named q t s)
    still q (target.Local j) s f =
        let same : j ≡ i = cc in
        let b = below j d (subst (λ (x : ℕ). x < d) (sym same) h) in
        rw b refl
    still q (target.Global id) s f = refl
    still q target.Unknown s f = refl

pub copied_free : (p : Option Span) (m d i : ℕ) (σ : ℕ → Named → Tree) (n : Named) → d ≤ i →
    changed (placing p) d (changed (moving m) d (replaced_name σ d n (target.Local i))) ≡
    changed (placing p) d (changed (moving m) d (shifted d (σ (i - d) n)))
copied_free p m d i σ n h =
    ap (λ (t : Tree). changed (placing p) d (changed (moving m) d t)) (free_stands σ d i n h)

-- ---- depths behind binders and statements, of which the first changes change none
pub count_twice : (f g : Change) (d e : ℕ) (bs : Binders) →
    count (changed_binders f d (changed_binders g e bs)) ≡ count bs
count_twice f g d e bs = count_changed f d (changed_binders g e bs) ∙ count_changed g e bs

-- the body of a `\`
pub lambda_body : (f g h : Change) (d e : ℕ) (bs : Binders) (t : Tree) → e ≡ d + count bs →
    changed f e (changed g e (changed h e t)) ≡
    changed f (d + count (changed_binders g d (changed_binders h d bs)))
    (changed g (d + count (changed_binders h d bs)) (changed h (d + count bs) t))
lambda_body f g h d e bs t p =
    ap (λ (k : ℕ). changed f k (changed g k (changed h k t))) p
    ∙ sym (ap (λ (k : ℕ). changed f (d + k) (changed g (d + count bs) (changed h (d + count bs) t)))
    (count_twice g h d d bs))
    ∙ sym (ap (λ (k : ℕ). changed f (d + count (changed_binders g d (changed_binders h d bs)))
    (changed g (d + k) (changed h (d + count bs) t))) (count_changed h d bs))

-- ---- forms whose parts are the same
pub the_same : {t u e f : Tree} {s r : Span} → t ≡ u → e ≡ f → s ≡ r → the t e s ≡ the u f r
the_same p q o = cc

pub apply_same : {t u : Tree} {xs ys : Arguments} {s r : Span} → t ≡ u → xs ≡ ys → s ≡ r → apply t xs s ≡ apply u ys r
apply_same p q o = cc

pub pi_same : (k : Mark) (m : Mult) (n : List ℕ) {a b c d : Tree} {s r : Span} → a ≡ c → b ≡ d → s ≡ r →
    pi k m n a b s ≡ pi k m n c d r
pi_same k m n p q o = cc

pub lambda_same : {xs ys : Binders} {t u : Tree} {s r : Span} → xs ≡ ys → t ≡ u → s ≡ r → lambda xs t s ≡ lambda ys u r
lambda_same p q o = cc

pub letting_same : (m : Mult) {n l : Local} {t u : Annotation} {a b c d : Tree} {s r : Span} → n ≡ l → t ≡ u → a ≡ c →
    b ≡ d → s ≡ r → letting m n t a b s ≡ letting m l u c d r
letting_same m e f p q o = cc

pub argument_same : (k : Mark) {t u : Tree} {xs ys : Arguments} → t ≡ u → xs ≡ ys →
    argument_and (argument k t) xs ≡ argument_and (argument k u) ys
argument_same k p q = cc

pub plain_same : {n l : Local} {xs ys : Binders} → n ≡ l → xs ≡ ys →
    binder_and (plain n) xs ≡ binder_and (plain l) ys
plain_same p q = cc

pub typed_same : (m : Mult) {n l : Local} {t u : Tree} {s r : Span} {xs ys : Binders} →
    n ≡ l → t ≡ u → s ≡ r → xs ≡ ys →
    binder_and (typed_binder m n t s) xs ≡ binder_and (typed_binder m l u r) ys
typed_same m e p o q = cc

pub bind_same : {n l : Local} {t u : Tree} {xs ys : Statements} → n ≡ l → t ≡ u → xs ≡ ys →
    statement_and (bind n t) xs ≡ statement_and (bind l u) ys
bind_same e p q = cc

pub local_same : (m : Mult) {n l : Local} {a b : Annotation} {t u : Tree} {s r : Span} {xs ys : Statements} → n ≡ l →
    a ≡ b → t ≡ u → s ≡ r → xs ≡ ys → statement_and (local m n a t s) xs ≡ statement_and (local m l b u r) ys
local_same m e f p o q = cc

pub run_same : {t u : Tree} {s r : Span} {xs ys : Statements} → t ≡ u → s ≡ r → xs ≡ ys →
    statement_and (run t s) xs ≡ statement_and (run u r) ys
run_same p o q = cc
