-- What stands at a place of a list, seen through a function.
use Rattle.std.proofs.Common.{◌≡◌, ℕ, zero, suc, ◌<◌, ◌≤◌, List, [], ◌∷◌, length, map, get_or, Some, None, slice_get, refl, sym, ap, ◌∙◌, arith}
use Rattle.std.proofs.lemmas.List.{length-map}
use Rattle.std.proofs.lemmas.Option.{slice_get-get_or, slice_get_past}

module _ {A B : Type 0} (f : A → B) where
  at-map : (xs : List A) (i : ℕ) (d : A) → get_or (map f xs) i (f d) ≡ f (get_or xs i d)
  at-map [] i d = refl
  at-map (x ∷ xs) zero d = refl
  at-map (x ∷ xs) (suc i) d = at-map xs i d

  pub none-there : (xs : List A) (i : ℕ) → length xs ≤ i → slice_get (map f xs) i ≡ None
  none-there xs i h = slice_get_past (map f xs) i (omega (arith, length-map xs f))

  pub one-there : (xs : List A) (i : ℕ) (x : A) → i < length xs → x ≡ get_or xs i x →
      slice_get (map f xs) i ≡ Some (f x)
  one-there xs i x h e =
      slice_get-get_or (map f xs) i (f x) (omega (arith, length-map xs f)) ∙ ap Some (at-map xs i x ∙ ap f (sym e))
