-- The first signature of a name, looked for one by one.
use Rattle.std.proofs.Common.{◌≡◌, ◌∙◌, ℕ, ◌+◌, ◌<◌, true, false, cond, bytes_eq, List, ◌∷◌, map, drop, length, get_or, Option, Some, sym, ap}
use Rattle.std.proofs.lemmas.List.{drop_more}
use Rattle.qtt_module.specs.declared.signed.Signed as code_signed
use Rattle.qtt_module.specs.GivenBodies.{signed_of}
use Rattle.qtt_module.specs.Module.{Signed, signed_as}

module _ (n : List ℕ) (xs : List code_signed.Signed) (i : ℕ) (x : code_signed.Signed) (is : x ≡ get_or xs i x)
    (there : i < length xs)
    (so : signed_as n (map signed_of xs) ≡ signed_as n (map signed_of (drop i xs))) where
  abbrev rest : Option Signed
  rest = signed_as n (map signed_of (drop (i + 1) xs))

  here : signed_as n (map signed_of xs) ≡ cond (bytes_eq x.name n) (Some (signed_of x)) rest
  here =
      so ∙ ap (λ ys. signed_as n (map signed_of ys))
      (drop_more xs i x there ∙ ap (λ y. y ∷ drop (i + 1) xs) (sym is))

  pub found : bytes_eq x.name n ≡ true → Some (signed_of x) ≡ signed_as n (map signed_of xs)
  found h = sym (here ∙ ap (λ b. cond b (Some (signed_of x)) rest) h)

  pub passed : bytes_eq x.name n ≡ false → signed_as n (map signed_of xs) ≡ rest
  passed h = here ∙ ap (λ b. cond b (Some (signed_of x)) rest) h
