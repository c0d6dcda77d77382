-- What stands for variables: terms for the newest ones, and each other raised.
use Rattle.std.proofs.Common.{◌≡◌, ◌∙◌, ℕ, zero, suc, ◌+◌, ◌-◌, ◌<◌, ◌≤◌, Bool, true, false, cond, eqb, nat_lt, List, [], ◌∷◌, length, get_or, set, map, refl, sym, ap, arith}
use mathlib.Core.Path.{fun_ext}
use Rattle.std.proofs.lemmas.Bool.{ltb-true, ltb-false, eqb-true, eq-eqb, ne_eqb, false≢true}
use Rattle.std.proofs.lemmas.List.{length-map, length-set, get_or-map, get_or-set_same, get_or-set_other}
use Rattle.qtt_term.specs.declared.term.Term as code
use Rattle.qtt_term.specs.Term.{Term, var}
use Rattle.qtt_term.specs.Substitution.{ren, sub, push, shift, cons}
use Rattle.qtt_term.specs.Shift.{raised, values_in}
use Rattle.qtt_term.specs.View.{term, terms, side_by_side}
use Rattle.qtt_term.proofs.Moves.{push-above, push-below, shift-add, raised-zero}
use Rattle.qtt_term.proofs.Subst.{sub-ren, sub-along}
use Rattle.qtt_split.specs.Branch.{put}
use Rattle.qtt_split.specs.Substitution.{values_or_raised}

pub value-below : (vs : List code.Term) (by i : ℕ) (d : Term) → i < length vs →
    values_or_raised vs by i ≡ get_or (terms vs) (length vs - 1 - i) d
value-below vs by i d h =
    let l : length (terms vs) ≡ length vs = length-map vs term in
    push-below (terms vs) (λ j. var (length vs + by + j)) i d (omega arith) ∙
    ap (λ n. get_or (terms vs) (n - 1 - i) d) l

pub value-above : (vs : List code.Term) (by i : ℕ) → length vs ≤ i → values_or_raised vs by i ≡ var (by + i)
value-above vs by i h =
    let l : length (terms vs) ≡ length vs = length-map vs term in
    let e : length vs + by + (i - length (terms vs)) ≡ by + i = omega arith in
    push-above (terms vs) (λ j. var (length vs + by + j)) i (omega arith) ∙ ap var e

pub one-deeper : (t : Term) → ren (shift 1) t ≡ ren suc t
one-deeper t = ap (λ ρ. ren ρ t) (fun_ext (λ (i : ℕ). shift-one i))
  where
    shift-one : (i : ℕ) → shift 1 i ≡ suc i
    shift-one i = refl

-- ---- a term under them
through : (vs : List code.Term) (by i : ℕ) →
    push (side_by_side (terms vs)) var (raised (length vs) (length vs + by) i) ≡ values_or_raised vs by i
unfolding raised
through vs by i = by_place (nat_lt i (length vs)) refl
  where
    by_place : (b : Bool) → nat_lt i (length vs) ≡ b →
        push (side_by_side (terms vs)) var (cond (nat_lt i (length vs)) i (i + (length vs + by)))
        ≡ values_or_raised vs by i
    by_place true e =
        let h : i < length vs = ltb-true i (length vs) e in
        let l : length (terms vs) ≡ length vs = length-map vs term in
        ap (λ b. push (side_by_side (terms vs)) var (cond b i (i + (length vs + by)))) e ∙
        push-below (terms vs) var i (var 0) (omega arith) ∙
        ap (λ n. get_or (terms vs) (n - 1 - i) (var 0)) l ∙
        sym (value-below vs by i (var 0) h)
    by_place false e =
        let h : length vs ≤ i = ltb-false i (length vs) e in
        let l : length (terms vs) ≡ length vs = length-map vs term in
        let k : i + (length vs + by) - length (terms vs) ≡ by + i = omega arith in
        ap (λ b. push (side_by_side (terms vs)) var (cond b i (i + (length vs + by)))) e ∙
        push-above (terms vs) var (i + (length vs + by)) (omega arith) ∙ ap var k ∙
        sym (value-above vs by i h)

pub applied : (vs : List code.Term) (by n k : ℕ) (t r u : Term) → n ≡ length vs → k ≡ n + by →
    r ≡ ren (raised n k) t → u ≡ sub (values_in (terms vs)) r → u ≡ sub (values_or_raised vs by) t
applied vs by n k t r u e f g h =
    let whole : k ≡ length vs + by = omega arith in
    h ∙ ap (sub (values_in (terms vs)))
    (g ∙ ap (λ x. ren (raised x k) t) e ∙ ap (λ x. ren (raised (length vs) x) t) whole) ∙
    sub-ren t (values_in (terms vs)) (raised (length vs) (length vs + by)) ∙
    sub-along (λ i. push (side_by_side (terms vs)) var (raised (length vs) (length vs + by) i))
    (values_or_raised vs by) t
    (through vs by)

-- ---- room for one more
pub roomier : (vs : List code.Term) (by : ℕ) (v : code.Term) → term v ≡ var (length vs + by) →
    (i : ℕ) → values_or_raised (v ∷ vs) by i ≡ values_or_raised vs by i
roomier vs by v e i = by_place (nat_lt i (length vs)) refl
  where
    σ : ℕ → Term
    σ = λ j. var (length (v ∷ vs) + by + j)

    cons-at : (k : ℕ) → cons (term v) σ k ≡ var (length vs + by + k)
    cons-at zero = let z : length vs + by ≡ length vs + by + 0 = omega arith in e ∙ ap var z
    cons-at (suc k) =
        let s : suc (length vs) + by + k ≡ length vs + by + suc k = omega arith in ap var s

    by_place : (b : Bool) → nat_lt i (length vs) ≡ b →
        push (side_by_side (terms vs)) (cons (term v) σ) i ≡ values_or_raised vs by i
    by_place true d =
        let h : i < length vs = ltb-true i (length vs) d in
        let l : length (terms vs) ≡ length vs = length-map vs term in
        push-below (terms vs) (cons (term v) σ) i (var 0) (omega arith) ∙
        sym (push-below (terms vs) (λ j. var (length vs + by + j)) i (var 0) (omega arith))
    by_place false d =
        let h : length vs ≤ i = ltb-false i (length vs) d in
        let l : length (terms vs) ≡ length vs = length-map vs term in
        push-above (terms vs) (cons (term v) σ) i (omega arith) ∙ cons-at (i - length (terms vs)) ∙
        sym (push-above (terms vs) (λ j. var (length vs + by + j)) i (omega arith))

-- ---- one value changed
pub placed : (vs : List code.Term) (by x : ℕ) (v : code.Term) → x < length vs → (i : ℕ) →
    values_or_raised (set vs (length vs - 1 - x) v) by i ≡ put x (term v) (values_or_raised vs by) i
placed vs by x v h i = by_place (nat_lt i (length vs)) refl (eqb i x) refl
  where
    ws : List code.Term
    ws = set vs (length vs - 1 - x) v

    len : length ws ≡ length vs
    len = length-set vs (length vs - 1 - x) v

    by_place : (a : Bool) → nat_lt i (length vs) ≡ a → (b : Bool) → eqb i x ≡ b →
        values_or_raised ws by i ≡ cond (eqb i x) (term v) (values_or_raised vs by i)
    by_place false d b e =
        let k : length vs ≤ i = ltb-false i (length vs) d in
        let far : eqb i x ≡ false = ne_eqb i x (λ p. omega arith) in
        value-above ws by i (omega (arith, len)) ∙ sym (value-above vs by i k) ∙
        sym (ap (λ c. cond c (term v) (values_or_raised vs by i)) far)
    by_place true d true e =
        let k : i < length vs = ltb-true i (length vs) d in
        let same : i ≡ x = eqb-true i x e in
        let place : length ws - 1 - i ≡ length vs - 1 - x = omega (arith, len) in
        value-below ws by i (term v) (omega (arith, len)) ∙
        get_or-map term ws (length ws - 1 - i) v (term v) (omega (arith, len)) ∙
        ap term (ap (λ n. get_or ws n v) place ∙ get_or-set_same vs (length vs - 1 - x) v v (omega arith)) ∙
        sym (ap (λ c. cond c (term v) (values_or_raised vs by i)) e)
    by_place true d false e =
        let k : i < length vs = ltb-true i (length vs) d in
        let far : i ≡ x → ⊥ = λ p. false≢true (sym e ∙ eq-eqb i x p) in
        let place : length ws - 1 - i ≡ length vs - 1 - i = omega (arith, len) in
        value-below ws by i (term v) (omega (arith, len)) ∙
        get_or-map term ws (length ws - 1 - i) v (term v) (omega (arith, len)) ∙
        ap term (ap (λ n. get_or ws n v) place ∙
        get_or-set_other vs (length vs - 1 - x) (length vs - 1 - i) v v (λ p. far (omega arith))) ∙
        sym (get_or-map term vs (length vs - 1 - i) v (term v) (omega arith)) ∙ sym (value-below vs by i (term v) k) ∙
        sym (ap (λ c. cond c (term v) (values_or_raised vs by i)) e)

-- ---- no values, and values under one binder more
pub unmoved : (vs : List code.Term) (by i : ℕ) → vs ≡ [] → values_or_raised vs by i ≡ var (shift by i)
unmoved vs by i e =
    let z : 0 + by + i ≡ by + i = omega arith in
    ap (λ us. values_or_raised us by i) e ∙ ap var (z ∙ sym (shift-add by i))

pub deeper : (vs ws : List code.Term) (by i : ℕ) → terms ws ≡ map (ren (raised 0 1)) (terms vs) →
    values_or_raised ws (by + 1) i ≡ ren suc (values_or_raised vs by i)
deeper vs ws by i e = by_place (nat_lt i (length vs)) refl
  where
    len : length ws ≡ length vs
    len =
        sym (length-map ws term) ∙ ap length e ∙ length-map (terms vs) (ren (raised 0 1)) ∙ length-map vs term

    by_place : (b : Bool) → nat_lt i (length vs) ≡ b →
        values_or_raised ws (by + 1) i ≡ ren suc (values_or_raised vs by i)
    by_place true d =
        let h : i < length vs = ltb-true i (length vs) d in
        let l : length (terms vs) ≡ length vs = length-map vs term in
        let k = length vs - 1 - i in
        let n : length ws - 1 - i ≡ k = omega (arith, len) in
        value-below ws (by + 1) i (ren (raised 0 1) (var 0)) (omega (arith, len)) ∙
        ap (λ us. get_or us (length ws - 1 - i) (ren (raised 0 1) (var 0))) e ∙
        ap (λ m. get_or (map (ren (raised 0 1)) (terms vs)) m (ren (raised 0 1) (var 0))) n ∙
        get_or-map (ren (raised 0 1)) (terms vs) k (var 0) (ren (raised 0 1) (var 0)) (omega (arith, l)) ∙
        raised-zero 1 (get_or (terms vs) k (var 0)) ∙ one-deeper (get_or (terms vs) k (var 0)) ∙
        ap (ren suc) (sym (value-below vs by i (var 0) h))
    by_place false d =
        let h : length vs ≤ i = ltb-false i (length vs) d in
        let s : by + 1 + i ≡ suc (by + i) = omega arith in
        value-above ws (by + 1) i (omega (arith, len)) ∙ ap var s ∙ ap (ren suc) (sym (value-above vs by i h))

pub put-along : (x : ℕ) (t : Term) (σ τ : ℕ → Term) → ((i : ℕ) → σ i ≡ τ i) → (i : ℕ) → put x t σ i ≡ put x t τ i
put-along x t σ τ e i = ap (λ u. cond (eqb i x) t u) (e i)

pub far-deeper : (vs ws : List code.Term) (by n i : ℕ) → terms ws ≡ map (ren (raised 0 n)) (terms vs) →
    values_or_raised ws (by + n) i ≡ ren (shift n) (values_or_raised vs by i)
far-deeper vs ws by n i e = by_place (nat_lt i (length vs)) refl
  where
    len : length ws ≡ length vs
    len =
        sym (length-map ws term) ∙ ap length e ∙ length-map (terms vs) (ren (raised 0 n)) ∙ length-map vs term

    by_place : (b : Bool) → nat_lt i (length vs) ≡ b →
        values_or_raised ws (by + n) i ≡ ren (shift n) (values_or_raised vs by i)
    by_place true d =
        let h : i < length vs = ltb-true i (length vs) d in
        let l : length (terms vs) ≡ length vs = length-map vs term in
        let k = length vs - 1 - i in
        let m : length ws - 1 - i ≡ k = omega (arith, len) in
        value-below ws (by + n) i (ren (raised 0 n) (var 0)) (omega (arith, len)) ∙
        ap (λ us. get_or us (length ws - 1 - i) (ren (raised 0 n) (var 0))) e ∙
        ap (λ j. get_or (map (ren (raised 0 n)) (terms vs)) j (ren (raised 0 n) (var 0))) m ∙
        get_or-map (ren (raised 0 n)) (terms vs) k (var 0) (ren (raised 0 n) (var 0)) (omega (arith, l)) ∙
        raised-zero n (get_or (terms vs) k (var 0)) ∙
        ap (ren (shift n)) (sym (value-below vs by i (var 0) h))
    by_place false d =
        let h : length vs ≤ i = ltb-false i (length vs) d in
        let s : by + n + i ≡ n + (by + i) = omega arith in
        value-above ws (by + n) i (omega (arith, len)) ∙ ap var (s ∙ sym (shift-add n (by + i))) ∙
        ap (ren (shift n)) (sym (value-above vs by i h))
