-- Renaming and substitution of the components that lists make, and under further binders.
use Rattle.std.proofs.Common.{◌≡◌, ℕ, zero, suc, ◌+◌, ◌-◌, ◌<◌, ◌≤◌, List, [], ◌∷◌, Bool, true, false, nat_lt, cond, get_or, map, length, refl, sym, ap, ◌∙◌, zero-add, arith}
use Rattle.std.proofs.lemmas.Bool.{ltb-true, ltb-false}
use Rattle.std.proofs.lemmas.Grind.{common_steps}
use Rattle.std.proofs.lemmas.List.{length-map}
use mathlib.Core.Path.{fun_ext}
use Rattle.qtt_usage.specs.declared.mult.Mult.{Mult}
use Rattle.qtt_term.specs.declared.term.Term.{the_lemmas}
use Rattle.qtt_term.specs.Term.{zeros, Term, Terms, var, ◌▸◌, ◌+++◌, Pi, Lam}
use Rattle.qtt_term.specs.Substitution.{ren, rens, lift_ren, lifts_ren, sub, subs, lift, lifts, cons, push, shift}
use Rattle.qtt_term.specs.declared.substitution.Beyond.{Beyond}
use Rattle.qtt_term.specs.declared.substitution.Beyond.TheVariants as beyond
use Rattle.qtt_term.specs.Shift.{raised, ren_branch, sub_branch, term_beyond}
use Rattle.qtt_term.specs.View.{side_by_side}
use Rattle.qtt_term.proofs.Subst.{ren-is-sub, lifts-shift}

-- ---- under further binders
pub lifts_ren-lifts_ren : (m n : ℕ) (ρ : ℕ → ℕ) → lifts_ren n (lifts_ren m ρ) ≡ lifts_ren (m + n) ρ
lifts_ren-lifts_ren zero n ρ = ap (λ k. lifts_ren k ρ) (sym (zero-add n))
lifts_ren-lifts_ren (suc m) n ρ =
    let e : suc (m + n) ≡ suc m + n = omega arith in
    lifts_ren-lifts_ren m n (lift_ren ρ) ∙ ap (λ k. lifts_ren k ρ) e

pub lifts-lifts : (m n : ℕ) (σ : ℕ → Term) → lifts n (lifts m σ) ≡ lifts (m + n) σ
lifts-lifts zero n σ = ap (λ k. lifts k σ) (sym (zero-add n))
lifts-lifts (suc m) n σ =
    let e : suc (m + n) ≡ suc m + n = omega arith in
    lifts-lifts m n (lift σ) ∙ ap (λ k. lifts k σ) e

pub ren_under : (m n : ℕ) (ρ : ℕ → ℕ) (t : Term) → ren (lifts_ren n (lifts_ren m ρ)) t ≡ ren (lifts_ren (m + n) ρ) t
ren_under m n ρ t = ap (λ f. ren f t) (lifts_ren-lifts_ren m n ρ)

pub ren_under_one : (m : ℕ) (ρ : ℕ → ℕ) (t : Term) → ren (lift_ren (lifts_ren m ρ)) t ≡ ren (lifts_ren (m + 1) ρ) t
ren_under_one m ρ t = ren_under m 1 ρ t

pub sub_under : (m n : ℕ) (σ : ℕ → Term) (t : Term) → sub (lifts n (lifts m σ)) t ≡ sub (lifts (m + n) σ) t
sub_under m n σ t = ap (λ f. sub f t) (lifts-lifts m n σ)

pub sub_under_one : (m : ℕ) (σ : ℕ → Term) (t : Term) → sub (lift (lifts m σ)) t ≡ sub (lifts (m + 1) σ) t
sub_under_one m σ t = sub_under m 1 σ t

pub ren-Pi : (m : ℕ) (ρ : ℕ → ℕ) (q : Mult) (A B : Term) →
    ren (lifts_ren m ρ) (Pi q A B) ≡ Pi q (ren (lifts_ren m ρ) A) (ren (lifts_ren (m + 1) ρ) B)
ren-Pi m ρ q A B = ap (Pi q (ren (lifts_ren m ρ) A)) (ren_under_one m ρ B)

pub ren-Lam : (m : ℕ) (ρ : ℕ → ℕ) (q : Mult) (A b : Term) →
    ren (lifts_ren m ρ) (Lam q A b) ≡ Lam q (ren (lifts_ren m ρ) A) (ren (lifts_ren (m + 1) ρ) b)
ren-Lam m ρ q A b = ap (Lam q (ren (lifts_ren m ρ) A)) (ren_under_one m ρ b)

pub sub-Pi : (m : ℕ) (σ : ℕ → Term) (q : Mult) (A B : Term) →
    sub (lifts m σ) (Pi q A B) ≡ Pi q (sub (lifts m σ) A) (sub (lifts (m + 1) σ) B)
sub-Pi m σ q A B = ap (Pi q (sub (lifts m σ) A)) (sub_under_one m σ B)

pub sub-Lam : (m : ℕ) (σ : ℕ → Term) (q : Mult) (A b : Term) →
    sub (lifts m σ) (Lam q A b) ≡ Lam q (sub (lifts m σ) A) (sub (lifts (m + 1) σ) b)
sub-Lam m σ q A b = ap (Lam q (sub (lifts m σ) A)) (sub_under_one m σ b)

-- ---- the components of lists
pub rens_side_by_side : (ρ : ℕ → ℕ) (ts : List Term) → rens [] ρ (side_by_side ts) ≡ side_by_side (map (ren ρ) ts)
rens_side_by_side ρ [] = refl
rens_side_by_side ρ (t ∷ ts) = ap (λ ss. ren ρ t ▸ ss) (rens_side_by_side ρ ts)

pub rens_joined : (ρ : ℕ → ℕ) (ts : List Term) (ss : Terms) →
    rens [] ρ (side_by_side ts +++ ss) ≡ side_by_side (map (ren ρ) ts) +++ rens [] ρ ss
rens_joined ρ [] ss = refl
rens_joined ρ (t ∷ ts) ss = ap (λ rs. ren ρ t ▸ rs) (rens_joined ρ ts ss)

pub rens_behind : (ρ : ℕ → ℕ) (ts : List Term) (ns : List ℕ) (ss : Terms) →
    rens (zeros (length ts) ns) ρ (side_by_side ts +++ ss) ≡ side_by_side (map (ren ρ) ts) +++ rens ns ρ ss
rens_behind ρ [] ns ss = refl
rens_behind ρ (t ∷ ts) ns ss = ap (λ rs. ren ρ t ▸ rs) (rens_behind ρ ts ns ss)

pub rens_branches : (ρ : ℕ → ℕ) (bs : List (ℕ × Term)) (ss : Terms) →
    rens (map (λ b. b.0) bs) ρ (side_by_side (map (λ b. b.1) bs) +++ ss) ≡ side_by_side
    (map (λ b. b.1) (map (ren_branch ρ) bs)) +++ rens [] ρ ss
rens_branches ρ [] ss = refl
rens_branches ρ (b ∷ bs) ss = ap (λ rs. ren (lifts_ren b.0 ρ) b.1 ▸ rs) (rens_branches ρ bs ss)

pub ren_branches-binders : (ρ : ℕ → ℕ) (bs : List (ℕ × Term)) →
    map (λ b. b.0) (map (ren_branch ρ) bs) ≡ map (λ b. b.0) bs
ren_branches-binders ρ [] = refl
ren_branches-binders ρ (b ∷ bs) = ap (λ ns. b.0 ∷ ns) (ren_branches-binders ρ bs)

pub subs_side_by_side : (σ : ℕ → Term) (ts : List Term) → subs [] σ (side_by_side ts) ≡ side_by_side (map (sub σ) ts)
subs_side_by_side σ [] = refl
subs_side_by_side σ (t ∷ ts) = ap (λ ss. sub σ t ▸ ss) (subs_side_by_side σ ts)

pub subs_joined : (σ : ℕ → Term) (ts : List Term) (ss : Terms) →
    subs [] σ (side_by_side ts +++ ss) ≡ side_by_side (map (sub σ) ts) +++ subs [] σ ss
subs_joined σ [] ss = refl
subs_joined σ (t ∷ ts) ss = ap (λ rs. sub σ t ▸ rs) (subs_joined σ ts ss)

pub subs_behind : (σ : ℕ → Term) (ts : List Term) (ns : List ℕ) (ss : Terms) →
    subs (zeros (length ts) ns) σ (side_by_side ts +++ ss) ≡ side_by_side (map (sub σ) ts) +++ subs ns σ ss
subs_behind σ [] ns ss = refl
subs_behind σ (t ∷ ts) ns ss = ap (λ rs. sub σ t ▸ rs) (subs_behind σ ts ns ss)

pub subs_branches : (σ : ℕ → Term) (bs : List (ℕ × Term)) (ss : Terms) →
    subs (map (λ b. b.0) bs) σ (side_by_side (map (λ b. b.1) bs) +++ ss) ≡ side_by_side
    (map (λ b. b.1) (map (sub_branch σ) bs)) +++ subs [] σ ss
subs_branches σ [] ss = refl
subs_branches σ (b ∷ bs) ss = ap (λ rs. sub (lifts b.0 σ) b.1 ▸ rs) (subs_branches σ bs ss)

pub sub_branches-binders : (σ : ℕ → Term) (bs : List (ℕ × Term)) →
    map (λ b. b.0) (map (sub_branch σ) bs) ≡ map (λ b. b.0) bs
sub_branches-binders σ [] = refl
sub_branches-binders σ (b ∷ bs) = ap (λ ns. b.0 ∷ ns) (sub_branches-binders σ bs)

-- all that a function which moves a term wants
pub ruleset moves = (
  the_lemmas,
  common_steps,
  length-map,
  ren_under,
  ren_under_one,
  sub_under,
  sub_under_one,
  rens_side_by_side,
  rens_joined,
  rens_behind,
  rens_branches,
  ren_branches-binders,
  subs_side_by_side,
  subs_joined,
  subs_behind,
  subs_branches,
  sub_branches-binders,
)

-- ---- variables
pub shift-add : (n i : ℕ) → shift n i ≡ n + i
shift-add zero i = sym (zero-add i)
shift-add (suc n) i =
    let e : suc (n + i) ≡ suc n + i = omega arith in
    ap suc (shift-add n i) ∙ e

lifts_ren-suc : (n : ℕ) (ρ : ℕ → ℕ) (i : ℕ) → lifts_ren (suc n) ρ i ≡ lift_ren (lifts_ren n ρ) i
lifts_ren-suc n ρ i =
    let e : suc n ≡ n + 1 = omega arith in
    ap (λ k. lifts_ren k ρ i) e ∙ ap (λ f. f i) (sym (lifts_ren-lifts_ren n 1 ρ))

lifts-suc : (n : ℕ) (σ : ℕ → Term) (i : ℕ) → lifts (suc n) σ i ≡ lift (lifts n σ) i
lifts-suc n σ i =
    let e : suc n ≡ n + 1 = omega arith in
    ap (λ k. lifts k σ i) e ∙ ap (λ f. f i) (sym (lifts-lifts n 1 σ))

pub lifts_ren-below : (n : ℕ) (ρ : ℕ → ℕ) (i : ℕ) → i < n → lifts_ren n ρ i ≡ i
lifts_ren-below zero ρ i h = absurd (omega arith)
lifts_ren-below (suc n) ρ zero h = lifts_ren-suc n ρ zero
lifts_ren-below (suc n) ρ (suc i) h = lifts_ren-suc n ρ (suc i) ∙ ap suc (lifts_ren-below n ρ i (omega arith))

pub lifts-below : (n : ℕ) (σ : ℕ → Term) (i : ℕ) → i < n → lifts n σ i ≡ var i
lifts-below zero σ i h = absurd (omega arith)
lifts-below (suc n) σ zero h = lifts-suc n σ zero
lifts-below (suc n) σ (suc i) h = lifts-suc n σ (suc i) ∙ ap (ren suc) (lifts-below n σ i (omega arith))

lifts_ren-shift : (n : ℕ) (ρ : ℕ → ℕ) (i : ℕ) → lifts_ren n ρ (shift n i) ≡ shift n (ρ i)
lifts_ren-shift zero ρ i = refl
lifts_ren-shift (suc n) ρ i = lifts_ren-suc n ρ (suc (shift n i)) ∙ ap suc (lifts_ren-shift n ρ i)

-- a variable behind n others
behind : (n i : ℕ) → n ≤ i → shift n (i - n) ≡ i
behind n i h =
    let e : n + (i - n) ≡ i = omega arith in
    shift-add n (i - n) ∙ e

pub lifts_ren-above : (n by i : ℕ) → n ≤ i → lifts_ren n (shift by) i ≡ i + by
lifts_ren-above n by i h =
    let e : n + (by + (i - n)) ≡ i + by = omega arith in
    ap (lifts_ren n (shift by)) (sym (behind n i h)) ∙ lifts_ren-shift n (shift by) (i - n)
    ∙ shift-add n (shift by (i - n)) ∙ ap (λ k. n + k) (shift-add by (i - n)) ∙ e

pub lifts-above : (n : ℕ) (σ : ℕ → Term) (i : ℕ) → n ≤ i → lifts n σ i ≡ ren (shift n) (σ (i - n))
lifts-above n σ i h =
    ap (lifts n σ) (sym (behind n i h)) ∙ lifts-shift n σ (i - n) ∙ sym (ren-is-sub (shift n) (σ (i - n)))

pub raised-lifts : (from by : ℕ) → lifts_ren from (shift by) ≡ raised from by
unfolding raised
raised-lifts from by = fun_ext go
  where
    at_test : (i : ℕ) (b : Bool) → nat_lt i from ≡ b → lifts_ren from (shift by) i ≡ cond b i (i + by)
    at_test i true e = lifts_ren-below from (shift by) i (ltb-true i from e)
    at_test i false e = lifts_ren-above from by i (ltb-false i from e)

    go : (i : ℕ) → lifts_ren from (shift by) i ≡ cond (nat_lt i from) i (i + by)
    go i = at_test i (nat_lt i from) refl

-- room at the front alone
pub raised-zero : (by : ℕ) (t : Term) → ren (raised 0 by) t ≡ ren (shift by) t
raised-zero by t = ap (λ f. ren f t) (sym (raised-lifts 0 by))

-- ---- values for the newest variables
pub push-above : (vs : List Term) (σ : ℕ → Term) (i : ℕ) → length vs ≤ i →
    push (side_by_side vs) σ i ≡ σ (i - length vs)
push-above [] σ i h =
    let e : i ≡ i - 0 = omega arith in
    ap σ e
push-above (v ∷ vs) σ i h =
    let e : i - length vs ≡ suc (i - length (v ∷ vs)) = omega arith in
    push-above vs (cons v σ) i (omega arith) ∙ ap (cons v σ) e

push-next : (v : Term) (vs : List Term) (σ : ℕ → Term) (i : ℕ) (d : Term) → i < length (v ∷ vs) →
    (i < length vs → push (side_by_side vs) (cons v σ) i ≡ get_or vs (length vs - 1 - i) d) →
    push (side_by_side vs) (cons v σ) i ≡ get_or (v ∷ vs) (length (v ∷ vs) - 1 - i) d
push-next v vs σ i d h below = by_place (nat_lt i (length vs)) refl
  where
    by_place : (b : Bool) → nat_lt i (length vs) ≡ b →
        push (side_by_side vs) (cons v σ) i ≡ get_or (v ∷ vs) (length (v ∷ vs) - 1 - i) d
    by_place true e =
        let at : i < length vs = ltb-true i (length vs) e in
        let k : suc (length vs - 1 - i) ≡ length (v ∷ vs) - 1 - i = omega arith in
        below at ∙ ap (λ n. get_or (v ∷ vs) n d) k
    by_place false e =
        let past : length vs ≤ i = ltb-false i (length vs) e in
        let none : i - length vs ≡ 0 = omega arith in
        let here : 0 ≡ length (v ∷ vs) - 1 - i = omega arith in
        push-above vs (cons v σ) i past ∙ ap (cons v σ) none ∙ ap (λ n. get_or (v ∷ vs) n d) here

pub push-below : (vs : List Term) (σ : ℕ → Term) (i : ℕ) (d : Term) → i < length vs →
    push (side_by_side vs) σ i ≡ get_or vs (length vs - 1 - i) d
push-below [] σ i d h = absurd (omega arith)
push-below (v ∷ vs) σ i d h = push-next v vs σ i d h (λ below. push-below vs (cons v σ) i d below)

pub term_beyond-raised : (b : Beyond) (n i : ℕ) → ren (shift n) (term_beyond b i) ≡ term_beyond b (n + i)
term_beyond-raised beyond.Kept n i = ap var (shift-add n i)
term_beyond-raised beyond.Unbound n i = refl
