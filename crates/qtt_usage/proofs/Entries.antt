-- Loops that change a list entry by entry.
use Rattle.std.proofs.Common.{◌≡◌, ℕ, zero, suc, ◌+◌, ◌<◌, List, [], ◌∷◌, length, map, set, get_or, refl, ◌∙◌, ap, add-one, arith}
use Rattle.std.specs.List.{zip}

-- the list with its first n entries combined with those of another
abbrev pub combined : {A B : Type 0} → (A → B → A) → ℕ → List A → List B → List A
combined f zero us ws = us
combined f (suc n) [] ws = []
combined f (suc n) (u ∷ us) [] = u ∷ us
combined f (suc n) (u ∷ us) (w ∷ ws) = f u w ∷ combined f n us ws

module _ {A B : Type 0} (f : A → B → A) where
  get_or-combined : (n : ℕ) (us : List A) (ws : List B) (d : A) → get_or (combined f n us ws) n d ≡ get_or us n d
  get_or-combined zero us ws d = refl
  get_or-combined (suc n) [] ws d = refl
  get_or-combined (suc n) (u ∷ us) [] d = refl
  get_or-combined (suc n) (u ∷ us) (w ∷ ws) d = get_or-combined n us ws d

  set-combined : (n : ℕ) (us : List A) (ws : List B) (d : A) (e : B) → n < length us → length us ≡ length ws
      → set (combined f n us ws) n (f (get_or us n d) (get_or ws n e)) ≡ combined f (suc n) us ws
  set-combined n [] ws d e h k = absurd (omega arith)
  set-combined n (u ∷ us) [] d e h k = absurd (omega arith)
  set-combined zero (u ∷ us) (w ∷ ws) d e h k = refl
  set-combined (suc n) (u ∷ us) (w ∷ ws) d e h k =
      ap (λ r. f u w ∷ r) (set-combined n us ws d e (omega arith) (omega arith))

  -- one more entry is combined where the loop writes it
  pub set_one_more : (n : ℕ) (us : List A) (ws : List B) (xs : List A) (d : A) (e : B) → xs ≡ combined f n us ws
      → n < length us → length us ≡ length ws → set xs n (f (get_or xs n d) (get_or ws n e)) ≡ combined f (n + 1) us ws
  set_one_more n us ws xs d e x h k = rw (x, get_or-combined n us ws d, add-one) (set-combined n us ws d e h k)

  combined-length : (us : List A) (ws : List B) → length us ≡ length ws
      → combined f (length us) us ws ≡ map (λ p. f p.0 p.1) (zip us ws)
  combined-length [] ws k = refl
  combined-length (u ∷ us) [] k = absurd (omega arith)
  combined-length (u ∷ us) (w ∷ ws) k = ap (λ r. f u w ∷ r) (combined-length us ws (omega arith))

  -- at the end all are
  pub all_combined : (n : ℕ) (us : List A) (ws : List B) (xs : List A) → xs ≡ combined f n us ws → n ≡ length us
      → length us ≡ length ws → xs ≡ map (λ p. f p.0 p.1) (zip us ws)
  all_combined n us ws xs x h k = x ∙ ap (λ m. combined f m us ws) h ∙ combined-length us ws k

-- a list beside itself
pub map-zip_self : {A B : Type 0} (f : A → B) (us : List A) → map (λ p. f p.0) (zip us us) ≡ map f us
map-zip_self f [] = refl
map-zip_self f (u ∷ us) = ap (λ r. f u ∷ r) (map-zip_self f us)
