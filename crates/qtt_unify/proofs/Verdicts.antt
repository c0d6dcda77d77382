-- What the findings of equations come to.
use Rattle.std.proofs.Common.{◌≡◌, ℕ, Bool, true, false, cond, List, [], ◌∷◌, ◌++◌, map, refl, sym, ◌∙◌, ap, subst, append_assoc}
use Rattle.std.proofs.lemmas.List.{append-nil}
use Rattle.std.specs.List.{list_any}
use Rattle.qtt_term.specs.Term.{Term}
use Rattle.qtt_unify.specs.Equations.{Found, Verdict, is_clash, solution, verdict}
use Rattle.qtt_unify.specs.Unification.{HasClash, as_found, Concludes}
use Rattle.qtt_unify.specs.Laws.{OneVerdict}

-- ---- clashes
clash-there : (xs : List Found) → list_any is_clash xs ≡ true → HasClash xs
clash-there [] e = absurd (cc e)
clash-there (Found.solves i u ∷ xs) e = HasClash.clash_behind (clash-there xs e)
clash-there (Found.clashes ∷ xs) e = HasClash.clash_here
clash-there (Found.sticks u t ∷ xs) e = HasClash.clash_behind (clash-there xs e)

there-clash : (xs : List Found) → HasClash xs → list_any is_clash xs ≡ true
there-clash [] h = elim h [ ]
there-clash (Found.solves i u ∷ xs) (HasClash.clash_behind h) = there-clash xs h
there-clash (Found.clashes ∷ xs) h = refl
there-clash (Found.sticks u t ∷ xs) (HasClash.clash_behind h) = there-clash xs h

no_clash : (xs : List Found) → list_any is_clash xs ≡ false → HasClash xs → ⊥
no_clash xs e h = let d : true ≡ false = sym (there-clash xs h) ∙ e in cc d

none-there : (xs : List Found) → (HasClash xs → ⊥) → list_any is_clash xs ≡ false
none-there xs none = by_test (list_any is_clash xs) refl
  where
    by_test : (b : Bool) → list_any is_clash xs ≡ b → b ≡ false
    by_test false e = refl
    by_test true e = absurd (none (clash-there xs e))

-- ---- the computed verdict
-- solutions before those of a verdict
abbrev after : List (ℕ × Term) → Verdict → Verdict
after s (Verdict.solved r) = Verdict.solved (s ++ r)
after s v = v

after-append : (s r : List (ℕ × Term)) (v : Verdict) → after (s ++ r) v ≡ after s (after r v)
after-append s r (Verdict.solved t) = ap Verdict.solved (append_assoc s r t)
after-append s r Verdict.clash = refl
after-append s r (Verdict.stuck n u t) = refl

solution-after : (n : ℕ) (xs : List Found) (s : List (ℕ × Term)) → solution n xs s ≡ after s (solution n xs [])
solution-after n [] s = ap Verdict.solved (sym (append-nil s))
solution-after n (Found.solves i u ∷ xs) s =
    solution-after n xs (s ++ (i, u) ∷ []) ∙ after-append s ((i, u) ∷ []) (solution n xs []) ∙
    ap (after s) (sym (solution-after n xs ((i, u) ∷ [])))
solution-after n (Found.clashes ∷ xs) s = solution-after n xs s
solution-after n (Found.sticks u t ∷ xs) s = refl

with_one : (n i : ℕ) (u : Term) (xs : List Found) (v : Verdict) → Concludes n xs v →
    Concludes n (Found.solves i u ∷ xs) (after ((i, u) ∷ []) v)
with_one n i u xs v (Concludes.all_solve ss e) =
    Concludes.all_solve ((i, u) ∷ ss) (ap (λ ys. Found.solves i u ∷ ys) e)
with_one n i u xs v (Concludes.one_clashes h) = Concludes.one_clashes (HasClash.clash_behind h)
with_one n i u xs v (Concludes.first_stuck ss ys {u = w} {t} none e) =
    Concludes.first_stuck ((i, u) ∷ ss) ys behind (ap (λ zs. Found.solves i u ∷ zs) e)
  where
    behind : HasClash (Found.solves i u ∷ xs) → ⊥
    behind (HasClash.clash_behind h) = none h

without_clash : (n : ℕ) (xs : List Found) → list_any is_clash xs ≡ false → Concludes n xs (solution n xs [])
without_clash n [] e = Concludes.all_solve [] refl
without_clash n (Found.solves i u ∷ xs) e =
    subst (λ v. Concludes n (Found.solves i u ∷ xs) v) (sym (solution-after n xs ((i, u) ∷ [])))
    (with_one n i u xs (solution n xs []) (without_clash n xs e))
without_clash n (Found.clashes ∷ xs) e = absurd (cc e)
without_clash n (Found.sticks u t ∷ xs) e =
    Concludes.first_stuck [] xs (λ h. no_clash (Found.sticks u t ∷ xs) e h) refl

concluded : (n : ℕ) (xs : List Found) → Concludes n xs (verdict n xs)
concluded n xs = by_test (list_any is_clash xs) refl
  where
    by_test : (b : Bool) → list_any is_clash xs ≡ b → Concludes n xs (cond b Verdict.clash (solution n xs []))
    by_test true e = Concludes.one_clashes (clash-there xs e)
    by_test false e = without_clash n xs e

-- ---- and it alone
all_solve-none : (ss : List (ℕ × Term)) → list_any is_clash (map as_found ss) ≡ false
all_solve-none [] = refl
all_solve-none (s ∷ ss) = all_solve-none ss

solution-all : (n : ℕ) (ss : List (ℕ × Term)) → solution n (map as_found ss) [] ≡ Verdict.solved ss
solution-all n [] = refl
solution-all n (s ∷ ss) =
    solution-after n (map as_found ss) ((s.0, s.1) ∷ []) ∙ ap (after (s ∷ [])) (solution-all n ss)

solution-stuck : (n : ℕ) (ss : List (ℕ × Term)) (u t : Term) (ys : List Found) →
    solution n (map as_found ss ++ Found.sticks u t ∷ ys) [] ≡ Verdict.stuck n u t
solution-stuck n [] u t ys = refl
solution-stuck n (s ∷ ss) u t ys =
    solution-after n (map as_found ss ++ Found.sticks u t ∷ ys) ((s.0, s.1) ∷ []) ∙
    ap (after (s ∷ [])) (solution-stuck n ss u t ys)

without : (n : ℕ) (xs : List Found) (v : Verdict) → list_any is_clash xs ≡ false → solution n xs [] ≡ v →
    verdict n xs ≡ v
without n xs v e h = ap (λ b. cond b Verdict.clash (solution n xs [])) e ∙ h

alone : (n : ℕ) (xs : List Found) (v : Verdict) → Concludes n xs v → verdict n xs ≡ v
alone n xs v (Concludes.all_solve ss e) =
    without n xs (Verdict.solved ss) (ap (list_any is_clash) e ∙ all_solve-none ss)
    (ap (λ ys. solution n ys []) e ∙ solution-all n ss)
alone n xs v (Concludes.one_clashes h) = ap (λ b. cond b Verdict.clash (solution n xs [])) (there-clash xs h)
alone n xs v (Concludes.first_stuck ss ys {u} {t} none e) =
    without n xs (Verdict.stuck n u t) (none-there xs none) (ap (λ ys. solution n ys []) e ∙ solution-stuck n ss u t ys)

pub one_verdict : OneVerdict
one_verdict = record { computed = λ n xs. concluded n xs; alone = λ n xs v c. alone n xs v c }
