-- Signatures for which clauses came, one after another.
use Rattle.std.proofs.Common.{◌≡◌, ◌∙◌, ℕ, zero, suc, ◌+◌, ◌<◌, Bool, true, cond, bytes_eq, List, [], ◌∷◌, length, map, set, get_or, refl, sym, ap, arith}
use Rattle.std.proofs.lemmas.List.{length-map, map-set, get_or-map}
use Rattle.qtt_holes.proofs.Left.{changed, one-more}
use Rattle.qtt_module.specs.declared.signed.Signed as code_signed
use Rattle.qtt_module.specs.GivenBodies.{signed_of}
use Rattle.qtt_module.specs.Module.{Signed, with_clauses}

length-changed : {A : Type 0} (f : A → A) (n : ℕ) (xs : List A) → length (changed f n xs) ≡ length xs
length-changed f zero xs = refl
length-changed f (suc n) [] = refl
length-changed f (suc n) (x ∷ xs) = ap suc (length-changed f n xs)

pub mark-one : (n : List ℕ) (xs : List code_signed.Signed) (zs : List Signed) (i : ℕ) (x : code_signed.Signed)
    (b : Bool) → map signed_of xs ≡ changed (with_clauses n) i zs → i < length xs →
    b ≡ cond (bytes_eq n (get_or xs i x).name) true (get_or xs i x).has_clauses →
    map signed_of (set xs i (record {
      id = (get_or xs i x).id;
      name = (get_or xs i x).name;
      place = (get_or xs i x).place;
      labels = (get_or xs i x).labels;
      may_miss = (get_or xs i x).may_miss;
      has_clauses = b;
    })) ≡ changed (with_clauses n) (i + 1) zs
mark-one n xs zs i x b e h k =
    let y = signed_of (get_or xs i x) in
    let l : i < length zs =
    omega (arith, h, ap length e, length-map xs signed_of, length-changed (with_clauses n) i zs) in
    map-set signed_of xs i _
    ∙ ap (set (map signed_of xs) i) (ap (λ b. record {
      id = y.id;
      name = y.name;
      place = y.place;
      labels = y.labels;
      may_miss = y.may_miss;
      has_clauses = b;
    }) k ∙ ap (with_clauses n) (sym (get_or-map signed_of xs i x (signed_of x) h)))
    ∙ one-more (with_clauses n) i zs (map signed_of xs) (signed_of x) e l
