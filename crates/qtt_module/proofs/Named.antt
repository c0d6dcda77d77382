-- The name of an item within a module's: its parts are theirs.
use Rattle.std.proofs.Common.{◌≡◌, ℕ, ◌<◌, ◌==◌, Bool, true, false, cond, ◌||◌, List, [], ◌∷◌, ◌++◌, length, nat_lt, refl, ap, ◌∙◌, arith, append_assoc}
use Rattle.std.specs.List.{list_any, onto_first}
use Rattle.std.proofs.lemmas.List.Folds.{list_any-append}
use Rattle.std.proofs.lemmas.List.Splits.{length-slice_split}
use Rattle.qtt_base.specs.Parts.{parts, has_long_part}
use Rattle.qtt_module.specs.Families.{qualified}

onto-front : (b : ℕ) (ps qs : List (List ℕ)) → 0 < length ps → onto_first b (ps ++ qs) ≡ onto_first b ps ++ qs
onto-front b [] qs h = absurd (omega (arith, h))
onto-front b (p ∷ ps) qs h = refl

parts-behind : (M n : List ℕ) → parts (M ++ 46 ∷ n) ≡ parts M ++ parts n
parts-behind [] n = refl
parts-behind (b ∷ M) n = by (b == 46) (parts-behind M n)
  where
    some : 0 < length (parts M)
    some = omega (arith, length-slice_split (λ b. b == 46) M)

    by : (c : Bool) → parts (M ++ 46 ∷ n) ≡ parts M ++ parts n →
        cond c ([] ∷ parts (M ++ 46 ∷ n)) (onto_first b (parts (M ++ 46 ∷ n))) ≡
        cond c ([] ∷ parts M) (onto_first b (parts M)) ++ parts n
    by true e = ap (λ ps. [] ∷ ps) e
    by false e = ap (onto_first b) e ∙ onto-front b (parts M) (parts n) some

pub short_within : (M n : List ℕ) → has_long_part M ≡ false → has_long_part n ≡ false →
    has_long_part (qualified M n) ≡ false
short_within M n h k =
    let long : List ℕ → Bool = λ part. nat_lt 255 (length part) in
    ap has_long_part (append_assoc M (46 ∷ []) n) ∙ ap (list_any long) (parts-behind M n)
    ∙ list_any-append long (parts M) (parts n) ∙ ap (λ c. c || list_any long (parts n)) h ∙ k
