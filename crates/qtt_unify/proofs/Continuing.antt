-- Lists of questions of which a part is answered.
use Rattle.std.proofs.Common.{◌≡◌, ℕ, zero, suc, ◌+◌, ◌<◌, ◌≤◌, List, [], ◌∷◌, ◌++◌, map, length, get_or, drop, append_assoc, refl, sym, ◌∙◌, ap, subst, arith}
use Rattle.std.proofs.lemmas.List.{append-nil, map-append}
use Rattle.std.proofs.Math.Seq.{drop-cons}
use Rattle.qtt_term.specs.declared.term.Term as code
use Rattle.qtt_term.specs.Term.{Term, Terms, ε, ◌▸◌, ◌+++◌}
use Rattle.qtt_term.specs.Signature.{Env}
use Rattle.qtt_term.specs.Ask.{Ask, ◌>>=◌, Ending, within}
use Rattle.qtt_term.specs.Premises.{reading_of}
use Rattle.qtt_term.specs.View.{term, terms, side_by_side}
use Rattle.qtt_unify.specs.declared.error.UnifyError.{UnifyError}
use Rattle.qtt_unify.specs.declared.error.UnifyError.TheVariants as error
use Rattle.qtt_unify.specs.declared.equations.Found as code_found
use Rattle.qtt_unify.specs.Targets.{readings}
use Rattle.qtt_unify.specs.Equations.{equation, equations}
use Rattle.qtt_unify.specs.View.{Asks, all_terms, found, Reaches, Refuses}
use Rattle.qtt_unify.proofs.Within.{onward, within-then}

-- what is left of a list, and what its answer makes of the whole's
pub record Continues (E : Env) (n : ℕ) {A B : Type 0} (m : Asks A) (rest : Asks B) (f : B → A) : Type 0 where
  pub is : within E n m ≡ onward (within E n rest) (λ b. Ending.ok (f b))

abbrev Ended : Type 0 → Type 0
Ended A = Ending ⊥ (Unit {0}) A

onward-ok : {A : Type 0} (e : Ended A) → e ≡ onward e (λ a. Ending.ok a)
onward-ok (Ending.ok a) = refl
onward-ok (Ending.fails f) = absurd f
onward-ok (Ending.spent p q) = refl

onward-same : {A B : Type 0} (e : Ended B) (f g : B → A) → ((b : B) → f b ≡ g b) →
    onward e (λ b. Ending.ok (f b)) ≡ onward e (λ b. Ending.ok (g b))
onward-same (Ending.ok b) f g h = ap Ending.ok (h b)
onward-same (Ending.fails x) f g h = absurd x
onward-same (Ending.spent p q) f g h = refl

onward-onward : {A B C : Type 0} (e : Ended C) (g : C → B) (f : B → A) →
    onward (onward e (λ c. Ending.ok (g c))) (λ b. Ending.ok (f b))
    ≡ onward e (λ c. Ending.ok (f (g c)))
onward-onward (Ending.ok c) g f = refl
onward-onward (Ending.fails x) g f = absurd x
onward-onward (Ending.spent p q) g f = refl

pub whole-left : {A : Type 0} (E : Env) (n : ℕ) (m : Asks A) → Continues E n m m (λ a. a)
whole-left E n m = record { is = onward-ok (within E n m) }

pub left-as : {A B : Type 0} {E : Env} {n : ℕ} {m : Asks A} {rest : Asks B} (f g : B → A) → ((b : B) → f b ≡ g b) →
    Continues E n m rest f → Continues E n m rest g
left-as {E = E} {n} {rest = rest} f g h c = record { is = c.is ∙ onward-same (within E n rest) f g h }

-- a part of what is left is answered, and the answers are put together
pub then-left : {A B C D : Type 0} {E : Env} {n : ℕ} {m : Asks A} (first : Asks C) (rest : Asks D) (f : B → A)
    (g : C → D → B) (c : C) → Reaches E n first c →
    Continues E n m (first >>= λ x. rest >>= λ d. Ask.done (g x d)) f → Continues E n m rest (λ d. f (g c d))
unfolding within
then-left {E = E} {n} first rest f g c r k = record {
  is = k.is ∙
      ap (λ e. onward e (λ b. Ending.ok (f b)))
      (within-then E n first (λ x. rest >>= λ d. Ask.done (g x d)) ∙
      ap (λ e. onward e (λ x. within E n (rest >>= λ d. Ask.done (g x d)))) r.is ∙
      within-then E n rest (λ d. Ask.done (g c d))) ∙
      onward-onward (within E n rest) (g c) f;
}

pub stops-left : {A B C : Type 0} {E : Env} {n : ℕ} {m : Asks A} (first : Asks C) (k : C → Asks B) (f : B → A)
    (e : UnifyError) → Refuses E n first e → Continues E n m (first >>= k) f → Refuses E n m e
stops-left {E = E} {n} first k f (error.Spent q) r c = record {
  is = c.is ∙ ap (λ e. onward e (λ b. Ending.ok (f b)))
      (within-then E n first k ∙ ap (λ e. onward e (λ x. within E n (k x))) r.is);
}
stops-left first k f error.Memory r c = tt

pub none-left : {A B : Type 0} {E : Env} {n : ℕ} {m : Asks A} (f : B → A) (b : B) →
    Continues E n m (Ask.done b) f → Reaches E n m (f b)
unfolding within
none-left f b c = record { is = c.is }

-- ---- lists of terms
pub all_terms-more : (ts : List code.Term) (t : code.Term) (ss : Terms) →
    all_terms ts +++ (term t ▸ ss) ≡ all_terms (ts ++ t ∷ []) +++ ss
all_terms-more [] t ss = refl
all_terms-more (x ∷ ts) t ss = ap (λ us. term x ▸ us) (all_terms-more ts t ss)

side-nil : (ts : List Term) → side_by_side ts +++ ε ≡ side_by_side ts
side-nil [] = refl
side-nil (t ∷ ts) = ap (λ us. t ▸ us) (side-nil ts)

-- what is behind the first i
pub at-drop : (xs : List code.Term) (i : ℕ) (x : code.Term) → i < length xs → x ≡ get_or xs i x →
    all_terms (drop i xs) ≡ term x ▸ all_terms (drop (i + 1) xs)
at-drop xs i x h e =
    ap all_terms (drop-cons xs i x h) ∙
    ap (λ y. term y ▸ all_terms (drop (suc i) xs)) (sym e) ∙
    (let s : suc i ≡ i + 1 = omega arith in ap (λ j. term x ▸ all_terms (drop j xs)) s)

pub past-drop : (xs : List code.Term) (i : ℕ) → length xs ≤ i → all_terms (drop i xs) ≡ ε
past-drop [] zero h = refl
past-drop [] (suc i) h = refl
past-drop (x ∷ xs) zero h = absurd (omega arith)
past-drop (x ∷ xs) (suc i) h = past-drop xs i (omega arith)

-- ---- readings
pub record ReadSoFar (E : Env) (n d : ℕ) (xs : List code.Term) (i : ℕ) (found : List code.Term) : Type 0 where
  pub left : Continues E n (readings tt d (all_terms xs)) (readings tt d (all_terms (drop i xs)))
      (λ rs. all_terms found +++ rs)

pub none-read : (E : Env) (n d : ℕ) (xs : List code.Term) → ReadSoFar E n d xs 0 []
none-read E n d xs = record { left = whole-left E n (readings tt d (all_terms xs)) }

pub one-read : {E : Env} {n d : ℕ} (xs : List code.Term) (i : ℕ) (found : List code.Term) (x r : code.Term) →
    i < length xs → x ≡ get_or xs i x → Reaches E n (reading_of tt d (term x)) (term r) →
    ReadSoFar E n d xs i found → ReadSoFar E n d xs (i + 1) (found ++ r ∷ [])
one-read {E} {n} {d} xs i found x r h e a s = record {
  left = left-as (λ rs. all_terms found +++ (term r ▸ rs)) (λ rs. all_terms (found ++ r ∷ []) +++ rs)
      (λ rs. all_terms-more found r rs)
      (then-left (reading_of tt d (term x)) (readings tt d (all_terms (drop (i + 1) xs)))
      (λ rs. all_terms found +++ rs) (λ y rs. y ▸ rs) (term r) a
      (subst (λ ts. Continues E n (readings tt d (all_terms xs)) (readings tt d ts) (λ rs. all_terms found +++ rs))
      (at-drop xs i x h e) s.left));
}

pub read-stopped : {E : Env} {n d : ℕ} (xs : List code.Term) (i : ℕ) (found : List code.Term) (x : code.Term)
    (r : UnifyError) → i < length xs → x ≡ get_or xs i x → Refuses E n (reading_of tt d (term x)) r →
    ReadSoFar E n d xs i found → Refuses E n (readings tt d (all_terms xs)) r
read-stopped {E} {n} {d} xs i found x r h e a s =
    stops-left (reading_of tt d (term x)) (λ y. readings tt d (all_terms (drop (i + 1) xs)) >>= λ rs. Ask.done (y ▸ rs))
    (λ rs. all_terms found +++ rs) r a
    (subst (λ ts. Continues E n (readings tt d (all_terms xs)) (readings tt d ts) (λ rs. all_terms found +++ rs))
    (at-drop xs i x h e) s.left)

pub all-read : {E : Env} {n d : ℕ} (xs : List code.Term) (i : ℕ) (found : List code.Term) → length xs ≤ i →
    ReadSoFar E n d xs i found → Reaches E n (readings tt d (all_terms xs)) (all_terms found)
all-read {E} {n} {d} xs i found h s =
    subst (λ ts. Reaches E n (readings tt d (all_terms xs)) ts) (side-nil (terms found))
    (none-left (λ rs. all_terms found +++ rs) ε
    (subst (λ ts. Continues E n (readings tt d (all_terms xs)) (readings tt d ts) (λ rs. all_terms found +++ rs))
    (past-drop xs i h) s.left))

-- ---- equations
pub record EquatedSoFar (E : Env) (n d m : ℕ) (ts us : List code.Term) (i : ℕ) (xs : List code_found.Found) : Type 0
  where
    pub left : Continues E n (equations tt d m (all_terms ts) (all_terms us) 0)
        (equations tt d m (all_terms (drop i ts)) (all_terms (drop i us)) 0) (λ ys. map found xs ++ ys)

pub none-equated : (E : Env) (n d m : ℕ) (ts us : List code.Term) → EquatedSoFar E n d m ts us 0 []
none-equated E n d m ts us = record { left = whole-left E n (equations tt d m (all_terms ts) (all_terms us) 0) }

left-of : {E : Env} {n d m : ℕ} (ts us : List code.Term) (i : ℕ) (xs : List code_found.Found) (ss rs : Terms) →
    all_terms (drop i ts) ≡ ss → all_terms (drop i us) ≡ rs → EquatedSoFar E n d m ts us i xs →
    Continues E n (equations tt d m (all_terms ts) (all_terms us) 0) (equations tt d m ss rs 0)
    (λ ys. map found xs ++ ys)
left-of {E} {n} {d} {m} ts us i xs ss rs e h s =
    subst (λ vs. Continues E n (equations tt d m (all_terms ts) (all_terms us) 0) (equations tt d m ss vs 0)
    (λ ys. map found xs ++ ys)) h
    (subst (λ vs. Continues E n (equations tt d m (all_terms ts) (all_terms us) 0)
    (equations tt d m vs (all_terms (drop i us)) 0) (λ ys. map found xs ++ ys)) e s.left)

pub one-equated : {E : Env} {n d m : ℕ} (ts us : List code.Term) (i : ℕ) (xs more : List code_found.Found)
    (t u : code.Term) → i < length ts → i < length us → t ≡ get_or ts i t → u ≡ get_or us i u →
    Reaches E n (equation tt d m (term t) (term u)) (map found more) → EquatedSoFar E n d m ts us i xs →
    EquatedSoFar E n d m ts us (i + 1) (xs ++ more)
one-equated {E} {n} {d} {m} ts us i xs more t u h k e f a s = record {
  left = left-as (λ ys. map found xs ++ (map found more ++ ys)) (λ ys. map found (xs ++ more) ++ ys)
      (λ ys. sym (append_assoc (map found xs) (map found more) ys) ∙ ap (λ zs. zs ++ ys)
      (sym (map-append found xs more)))
      (then-left (equation tt d m (term t) (term u))
      (equations tt d m (all_terms (drop (i + 1) ts)) (all_terms (drop (i + 1) us)) 0)
      (λ ys. map found xs ++ ys) (λ ys zs. ys ++ zs) (map found more) a
      (left-of ts us i xs _ _ (at-drop ts i t h e) (at-drop us i u k f) s));
}

pub equated-stopped : {E : Env} {n d m : ℕ} (ts us : List code.Term) (i : ℕ) (xs : List code_found.Found)
    (t u : code.Term) (r : UnifyError) → i < length ts → i < length us → t ≡ get_or ts i t → u ≡ get_or us i u →
    Refuses E n (equation tt d m (term t) (term u)) r → EquatedSoFar E n d m ts us i xs →
    Refuses E n (equations tt d m (all_terms ts) (all_terms us) 0) r
equated-stopped {E} {n} {d} {m} ts us i xs t u r h k e f a s =
    stops-left (equation tt d m (term t) (term u))
    (λ ys. equations tt d m (all_terms (drop (i + 1) ts)) (all_terms (drop (i + 1) us)) 0 >>= λ zs. Ask.done (ys ++ zs))
    (λ ys. map found xs ++ ys) r a
    (left-of ts us i xs _ _ (at-drop ts i t h e) (at-drop us i u k f) s)

equated-end : {E : Env} {n : ℕ} (d m : ℕ) (ts us : List code.Term) (xs : List code_found.Found) →
    Continues E n (equations tt d m (all_terms ts) (all_terms us) 0) (Ask.done []) (λ ys. map found xs ++ ys) →
    Reaches E n (equations tt d m (all_terms ts) (all_terms us) 0) (map found xs)
equated-end {E} {n} d m ts us xs c =
    subst (λ ys. Reaches E n (equations tt d m (all_terms ts) (all_terms us) 0) ys) (append-nil (map found xs))
    (none-left (λ ys. map found xs ++ ys) [] c)

no-targets : {P : Type 0} (p : P) (d m : ℕ) (us : Terms) → equations {F = ⊥} p d m ε us 0 ≡ Ask.done []
no-targets p d m us = refl

no-results : {P : Type 0} (p : P) (d m : ℕ) (ts : Terms) → equations {F = ⊥} p d m ts ε 0 ≡ Ask.done []
no-results p d m ε = refl
no-results p d m (t ▸ ts) = refl

-- no target is left, or no result is beside it
pub targets-equated : {E : Env} {n d m : ℕ} (ts us : List code.Term) (i : ℕ) (xs : List code_found.Found) →
    length ts ≤ i → EquatedSoFar E n d m ts us i xs →
    Reaches E n (equations tt d m (all_terms ts) (all_terms us) 0) (map found xs)
targets-equated {d = d} {m} ts us i xs h s =
    equated-end d m ts us xs (left-of ts us i xs _ _ (past-drop ts i h) refl s)

pub results-equated : {E : Env} {n d m : ℕ} (ts us : List code.Term) (i : ℕ) (xs : List code_found.Found) →
    length us ≤ i → EquatedSoFar E n d m ts us i xs →
    Reaches E n (equations tt d m (all_terms ts) (all_terms us) 0) (map found xs)
results-equated {E} {n} {d} {m} ts us i xs h s =
    equated-end d m ts us xs
    (subst (λ k. Continues E n (equations tt d m (all_terms ts) (all_terms us) 0) k (λ ys. map found xs ++ ys))
    (no-results tt d m (all_terms (drop i ts))) (left-of ts us i xs _ _ refl (past-drop us i h) s))
