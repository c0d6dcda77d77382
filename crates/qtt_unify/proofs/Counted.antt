-- Occurrences of a variable in the components that lists make.
use Rattle.std.proofs.Common.{◌≡◌, ℕ, zero, suc, ◌+◌, ◌-◌, ◌<◌, Bool, true, false, cond, eqb, ◌||◌, List, [], ◌∷◌, ◌++◌, map, length, refl, sym, ap, ◌∙◌, arith}
use Rattle.std.proofs.lemmas.Grind.{common_steps}
use Rattle.std.proofs.lemmas.List.{length-map}
use Rattle.std.proofs.lemmas.Bool.{eqb-true}
use Rattle.qtt_usage.specs.declared.mult.Mult.{Mult}
use Rattle.qtt_term.specs.declared.term.Term.{the_lemmas}
use Rattle.qtt_term.specs.Term.{zeros, Term, Terms, ε, ◌▸◌, ◌+++◌, Delete}
use Rattle.qtt_term.specs.Reading.{occurrences, all_occurrences, mentions, mentions_newest}
use Rattle.qtt_term.specs.View.{side_by_side}
use Rattle.qtt_unify.specs.Frequency.{how_often, both, is_never}

pub both-add : (m n : ℕ) → how_often (m + n) ≡ both (how_often m) (how_often n)
both-add zero n = let e : 0 + n ≡ n = omega arith in ap how_often e
both-add (suc zero) zero = refl
both-add (suc zero) (suc zero) = refl
both-add (suc zero) (suc (suc n)) = let e : suc zero + suc (suc n) ≡ suc (suc (suc n)) = omega arith in ap how_often e
both-add (suc (suc m)) n = let e : suc (suc m) + n ≡ suc (suc (m + n)) = omega arith in ap how_often e

-- one more component
more : (t a b c : ℕ) → a ≡ b + c → t + a ≡ t + b + c
more t a b c e = omega arith

pub all_joined : (i : ℕ) (ts ss : Terms) →
    all_occurrences [] i (ts +++ ss) ≡ all_occurrences [] i ts + all_occurrences [] i ss
all_joined i ε ss = omega arith
all_joined i (t ▸ ts) ss =
    more (occurrences (0 + i) t) (all_occurrences [] i (ts +++ ss)) (all_occurrences [] i ts) (all_occurrences [] i ss)
    (all_joined i ts ss)

pub all_appended : (i : ℕ) (ts ss : List Term) →
    all_occurrences [] i (side_by_side (ts ++ ss))
    ≡ all_occurrences [] i (side_by_side ts) + all_occurrences [] i (side_by_side ss)
all_appended i [] ss = omega arith
all_appended i (t ∷ ts) ss =
    more (occurrences (0 + i) t) (all_occurrences [] i (side_by_side (ts ++ ss)))
    (all_occurrences [] i (side_by_side ts)) (all_occurrences [] i (side_by_side ss)) (all_appended i ts ss)

pub all_behind : (i : ℕ) (ts : List Term) (ns : List ℕ) (ss : Terms) →
    all_occurrences (zeros (length ts) ns) i (side_by_side ts +++ ss)
    ≡ all_occurrences [] i (side_by_side ts) + all_occurrences ns i ss
all_behind i [] ns ss = omega arith
all_behind i (t ∷ ts) ns ss =
    more (occurrences (0 + i) t) (all_occurrences (zeros (length ts) ns) i (side_by_side ts +++ ss))
    (all_occurrences [] i (side_by_side ts)) (all_occurrences ns i ss) (all_behind i ts ns ss)

abbrev of_branches : ℕ → List (ℕ × Term) → ℕ
of_branches i bs = all_occurrences (map (λ b. b.0) bs) i (side_by_side (map (λ b. b.1) bs))

pub all_branches : (i : ℕ) (bs : List (ℕ × Term)) (ss : Terms) →
    all_occurrences (map (λ b. b.0) bs) i (side_by_side (map (λ b. b.1) bs) +++ ss)
    ≡ all_occurrences (map (λ b. b.0) bs) i (side_by_side (map (λ b. b.1) bs)) + all_occurrences [] i ss
all_branches i [] ss = omega arith
all_branches i (b ∷ bs) ss =
    more (occurrences (b.0 + i) b.1)
    (all_occurrences (map (λ c. c.0) bs) i (side_by_side (map (λ c. c.1) bs) +++ ss))
    (of_branches i bs) (all_occurrences [] i ss) (all_branches i bs ss)

pub branches_appended : (i : ℕ) (bs cs : List (ℕ × Term)) →
    all_occurrences (map (λ b. b.0) (bs ++ cs)) i (side_by_side (map (λ b. b.1) (bs ++ cs)))
    ≡ all_occurrences (map (λ b. b.0) bs) i (side_by_side (map (λ b. b.1) bs))
    + all_occurrences (map (λ b. b.0) cs) i (side_by_side (map (λ b. b.1) cs))
branches_appended i [] cs = omega arith
branches_appended i (b ∷ bs) cs =
    more (occurrences (b.0 + i) b.1) (of_branches i (bs ++ cs)) (of_branches i bs) (of_branches i cs)
    (branches_appended i bs cs)

-- of the variable itself
pub occurrences-here : (i : ℕ) (t : Term) → occurrences (0 + i) t ≡ occurrences i t
occurrences-here i t = let e : 0 + i ≡ i = omega arith in ap (λ j. occurrences j t) e

pub delete-counted : (i : ℕ) (q : Mult) (A s P b e : Term) →
    how_often (occurrences i (Delete q A s P b e))
    ≡ both (both (both (both (how_often (occurrences i A)) (how_often (occurrences i s)))
    (how_often (occurrences (1 + i) P))) (how_often (occurrences i b))) (how_often (occurrences i e))
delete-counted i q A s P b e =
    let k = occurrences i A in
    let l = occurrences i s in
    let m = occurrences (1 + i) P in
    let n = occurrences i b in
    let o = occurrences i e in
    let sum : occurrences i (Delete q A s P b e) ≡ k + l + m + n + o =
    omega (arith, occurrences-here i A, occurrences-here i s, occurrences-here i b, occurrences-here i e) in
    ap how_often sum ∙ both-add (k + l + m + n) o ∙
    ap (λ x. both x (how_often o)) (both-add (k + l + m) n ∙
    ap (λ x. both x (how_often n)) (both-add (k + l) m ∙ ap (λ x. both x (how_often m)) (both-add k l)))

-- ---- the newest variables
never-mentioned : (n : ℕ) → is_never (how_often n) ≡ true → cond (eqb n 0) false true ≡ false
never-mentioned zero e = refl
never-mentioned (suc zero) e = absurd (cc e)
never-mentioned (suc (suc n)) e = absurd (cc e)

eqb-more : (n : ℕ) → eqb (suc n) 0 ≡ false
eqb-more n = by_test (eqb (suc n) 0) refl
  where
    by_test : (b : Bool) → eqb (suc n) 0 ≡ b → b ≡ false
    by_test false e = refl
    by_test true e = let d = eqb-true (suc n) 0 e in absurd (omega arith)

once-mentioned : (n : ℕ) → is_never (how_often n) ≡ false → cond (eqb n 0) false true ≡ true
once-mentioned zero e = absurd (cc e)
once-mentioned (suc zero) e = refl
once-mentioned (suc (suc n)) e = ap (λ b. cond b false true) (eqb-more (suc n))

pub newest-more : (i : ℕ) (t : Term) → false ≡ mentions_newest i t →
    is_never (how_often (occurrences i t)) ≡ true → false ≡ mentions_newest (i + 1) t
newest-more i t h e =
    let s : suc i ≡ i + 1 = omega arith in
    sym (ap (λ b. b || mentions_newest i t) (never-mentioned (occurrences i t) e) ∙ sym h) ∙
    ap (λ j. mentions_newest j t) s

newest-there : (i k : ℕ) (t : Term) → is_never (how_often (occurrences i t)) ≡ false →
    mentions_newest (suc k + i) t ≡ true
newest-there i zero t e =
    let s : suc zero + i ≡ suc i = omega arith in
    ap (λ j. mentions_newest j t) s ∙
    ap (λ b. b || mentions_newest i t) (once-mentioned (occurrences i t) e)
newest-there i (suc k) t e =
    let s : suc (suc k) + i ≡ suc (suc k + i) = omega arith in
    ap (λ j. mentions_newest j t) s ∙ ap (λ b. mentions (suc k + i) t || b) (newest-there i k t e) ∙
    or-last (mentions (suc k + i) t)
  where
    or-last : (b : Bool) → (b || true) ≡ true
    or-last true = refl
    or-last false = refl

pub newest-found : (i n : ℕ) (t : Term) → i < n → is_never (how_often (occurrences i t)) ≡ false →
    true ≡ mentions_newest n t
newest-found i n t h e =
    let s : suc (n - 1 - i) + i ≡ n = omega arith in
    sym (ap (λ j. mentions_newest j t) (sym s) ∙ newest-there i (n - 1 - i) t e)

-- all that a function which counts occurrences wants
pub ruleset counting = (
  the_lemmas,
  common_steps,
  length-map,
  both-add,
  all_joined,
  all_appended,
  all_behind,
  all_branches,
  branches_appended,
  occurrences-here,
)
