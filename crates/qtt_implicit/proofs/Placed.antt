-- Tables of the places of written variables.
use Rattle.std.proofs.Common.{◌≡◌, ◌∙◌, ap, sym, refl, subst, ℕ, zero, suc, ◌+◌, ◌-◌, arith, List, [], ◌∷◌, ◌++◌, length, get_or, append_assoc, nat_lt, if◌then◌else◌, Bool, true, false, ◌≤◌}
use Rattle.std.proofs.lemmas.List.{get_or_append_left, get_or_at, append-nil, length-append}
use Rattle.qtt_syntax.specs.declared.expr.Mark.{Mark}
use Rattle.qtt_syntax.specs.declared.expr.Mark.TheVariants.{Written, Braced, Inserted}
use Rattle.qtt_implicit.specs.Walk.{is_inserted}
use Rattle.qtt_implicit.specs.Patterns.{place_among}

-- the places among ms, and among whatever stands behind
pub record IsTable (t : List ℕ) (k : ℕ) (ms : List Mark) : Type 0 where
  pub at : (rest : List Mark) (i : ℕ) → place_among (ms ++ rest) i ≡
      (if nat_lt i (length t) then get_or t i 0 else k + place_among rest (i - length t))

pub no_table : IsTable [] 0 []
no_table = record { at = λ rest i. by rest i (nat_lt i 0) refl }
  where
    by : (rest : List Mark) (i : ℕ) (b : Bool) → nat_lt i 0 ≡ b →
        place_among rest i ≡ (if b then get_or [] i 0 else 0 + place_among rest (i - 0))
    by rest i true e = absurd (grind (arith, e))
    by rest i false e =
        let here : i - 0 ≡ i = omega arith in
        let same = ap (λ (j : ℕ). place_among rest j) here in
        omega (arith, same)

pub inserted_more : (t : List ℕ) (k : ℕ) (ms : List Mark) (m : Mark) → is_inserted m ≡ true →
    IsTable t k ms → IsTable t (k + 1) (ms ++ m ∷ [])
inserted_more t k ms Written e h = absurd cc
inserted_more t k ms Braced e h = absurd cc
inserted_more t k ms Inserted e h = record {
  at = λ rest i.
      ap (λ (l : List Mark). place_among l i) (append_assoc ms (Inserted ∷ []) rest)
      ∙ h.at (Inserted ∷ rest) i ∙ by rest i (nat_lt i (length t));
}
  where
    by : (rest : List Mark) (i : ℕ) (b : Bool) →
        (if b then get_or t i 0 else k + suc (place_among rest (i - length t))) ≡
        (if b then get_or t i 0 else k + 1 + place_among rest (i - length t))
    by rest i true = refl
    by rest i false = omega arith

written_first : (m : Mark) → is_inserted m ≡ false → (rest : List Mark) → place_among (m ∷ rest) 0 ≡ 0
written_first Written e rest = refl
written_first Braced e rest = refl
written_first Inserted e rest = absurd cc

written_then : (m : Mark) → is_inserted m ≡ false → (rest : List Mark) (j : ℕ) →
    place_among (m ∷ rest) (suc j) ≡ suc (place_among rest j)
written_then Written e rest j = refl
written_then Braced e rest j = refl
written_then Inserted e rest j = absurd cc

pub written_more : (t : List ℕ) (k : ℕ) (ms : List Mark) (m : Mark) → is_inserted m ≡ false →
    IsTable t k ms → IsTable (t ++ k ∷ []) (k + 1) (ms ++ m ∷ [])
written_more t k ms m e h = record {
  at = λ rest i.
      ap (λ (l : List Mark). place_among l i) (append_assoc ms (m ∷ []) rest)
      ∙ h.at (m ∷ rest) i ∙ by rest i (nat_lt i (length t)) refl (nat_lt i (length (t ++ k ∷ []))) refl;
}
  where
    behind : (rest : List Mark) (i j : ℕ) → i - length t ≡ j → length t ≤ i →
        (c : Bool) → nat_lt i (length (t ++ k ∷ [])) ≡ c →
        k + place_among (m ∷ rest) j ≡
        (if c then get_or (t ++ k ∷ []) i 0 else k + 1 + place_among rest (i - length (t ++ k ∷ [])))
    behind rest i zero f g true p =
        let first = written_first m e rest in
        let here = get_or_at t k [] 0 i (omega arith) in
        omega (arith, first, here)
    behind rest i zero f g false p = absurd (grind (arith, length-append, p, f, g))
    behind rest i (suc j) f g true p = absurd (grind (arith, length-append, p, f, g))
    behind rest i (suc j) f g false p =
        let then_next = written_then m e rest j in
        let size = length-append t (k ∷ []) in
        let same : i - length (t ++ k ∷ []) ≡ j = omega (arith, size, f) in
        let moved = ap (λ (n : ℕ). place_among rest n) same in
        omega (arith, then_next, moved)

    by : (rest : List Mark) (i : ℕ) (b : Bool) → nat_lt i (length t) ≡ b →
        (c : Bool) → nat_lt i (length (t ++ k ∷ [])) ≡ c →
        (if b then get_or t i 0 else k + place_among (m ∷ rest) (i - length t)) ≡
        (if c then get_or (t ++ k ∷ []) i 0 else k + 1 + place_among rest (i - length (t ++ k ∷ [])))
    by rest i true f true g = sym (get_or_append_left t (k ∷ []) 0 i (grind (arith, f)))
    by rest i true f false g = absurd (grind (arith, length-append, f, g))
    by rest i false f c g = behind rest i (i - length t) refl (grind (arith, f)) c g

-- the two steps of a loop
pub inserted_step : (t u : List ℕ) (k l : ℕ) (ms ns : List Mark) (m : Mark) → u ≡ t → l ≡ k + 1 → ns ≡ ms ++ m ∷ [] →
    is_inserted m ≡ true → IsTable t k ms → IsTable u l ns
inserted_step t u k l ms ns m e f g h table =
    subst (λ (v : List ℕ). IsTable v l ns) (sym e)
    (subst (λ (n : ℕ). IsTable t n ns) (sym f)
    (subst (λ (v : List Mark). IsTable t (k + 1) v) (sym g) (inserted_more t k ms m h table)))

pub written_step : (t u : List ℕ) (k l : ℕ) (ms ns : List Mark) (m : Mark) → u ≡ t ++ k ∷ [] → l ≡ k + 1 →
    ns ≡ ms ++ m ∷ [] → is_inserted m ≡ false → IsTable t k ms → IsTable u l ns
written_step t u k l ms ns m e f g h table =
    subst (λ (v : List ℕ). IsTable v l ns) (sym e)
    (subst (λ (n : ℕ). IsTable (t ++ k ∷ []) n ns) (sym f)
    (subst (λ (v : List Mark). IsTable (t ++ k ∷ []) (k + 1) v) (sym g) (written_more t k ms m h table)))

pub table_is : (ms : List Mark) (t : List ℕ) (k m : ℕ) → IsTable t k ms → m + length t ≡ k →
    (i : ℕ) → (if nat_lt i (length t) then get_or t i 0 else i + m) ≡ place_among ms i
table_is ms t k m h e i =
    by (nat_lt i (length t)) refl ∙ sym (h.at [] i) ∙ ap (λ (l : List Mark). place_among l i) (append-nil ms)
  where
    by : (b : Bool) → nat_lt i (length t) ≡ b →
        (if b then get_or t i 0 else i + m) ≡ (if b then get_or t i 0 else k + (i - length t))
    by true f = refl
    by false f = let g : length t ≤ i = grind (arith, f) in omega arith
