-- Own items by their names.
use Rattle.std.proofs.Common.{◌≡◌, ℕ, suc, ◌+◌, ◌<◌, Bool, true, false, cond, List, [], ◌∷◌, ◌++◌, map, length, slice_index_or, Option, Some, None, refl, sym, ap, ◌∙◌, subst, arith, Bor, Result, Ok, Err}
use Rattle.std.specs.Prelude.{option_map, find, is_some}
use Rattle.std.specs.Option.{option_or, option_copied}
use Rattle.std.specs.Result.{is_err, OnOk}
use Rattle.std.specs.Str.{bytes_eq}
use Rattle.std.proofs.lemmas.Bool.{and_parts, eqb-true}
use mathlib.Core.Path.{ap₂}
use Rattle.qtt_names.specs.Exports.{Sig}
use Rattle.qtt_names.specs.Scope.{same_name}
use Rattle.qtt_implicit.specs.Signatures.{signature_of}
use Rattle.qtt_implicit.specs.OwnItems.{named_among, own_of, place_named}
use Rattle.qtt_implicit.specs.declared.filling.own_items.OwnItem.{OwnItem}

same-is : (a b : List ℕ) → same_name a b ≡ true → a ≡ b
same-is [] [] e = refl
same-is [] (y ∷ ys) e = absurd (cc e)
same-is (x ∷ xs) [] e = absurd (cc e)
same-is (x ∷ xs) (y ∷ ys) e =
    let d = and_parts _ _ e in
    ap₂ (λ p q. p ∷ q) (eqb-true x y d.0) (same-is xs ys d.1)

-- one item more
behind : (own : List OwnItem) (o : OwnItem) (q : List ℕ) → place_named (own ++ o ∷ []) q ≡
    option_or (place_named own q) (cond (same_name o.name.now q) (Some (length own)) None)
behind [] o q = refl
behind (p ∷ own) o q = by_test (same_name p.name.now q) (place_named own q) (behind own o q)
  where
    later : (r : Option ℕ) (t : Bool) → option_map suc (option_or r (cond t (Some (length own)) None)) ≡
        option_or (option_map suc r) (cond t (Some (suc (length own))) None)
    later (Some k) t = refl
    later None true = refl
    later None false = refl

    by_test : (t : Bool) (r : Option ℕ) → place_named (own ++ o ∷ []) q ≡
        option_or r (cond (same_name o.name.now q) (Some (length own)) None) →
        cond t (Some 0) (option_map suc (place_named (own ++ o ∷ []) q)) ≡
        option_or (cond t (Some 0) (option_map suc r)) (cond (same_name o.name.now q) (Some (suc (length own))) None)
    by_test true r e = refl
    by_test false r e = ap (option_map suc) e ∙ later r (same_name o.name.now q)

or-nothing : (r : Option ℕ) → option_or r None ≡ r
or-nothing None = refl
or-nothing (Some k) = refl

-- a name that stands there already keeps its place
pub there-stays : (own : List OwnItem) (o : OwnItem) (q : List ℕ) → is_some (place_named own o.name.now) ≡ true →
    place_named own q ≡ place_named (own ++ o ∷ []) q
there-stays own o q there = by_test (same_name o.name.now q) refl ∙ sym (behind own o q)
  where
    or-there : (r s : Option ℕ) → is_some r ≡ true → r ≡ option_or r s
    or-there None s e = absurd (cc e)
    or-there (Some k) s e = refl

    by_test : (t : Bool) → same_name o.name.now q ≡ t → place_named own q ≡
        option_or (place_named own q) (cond (same_name o.name.now q) (Some (length own)) None)
    by_test true e = or-there _ _ (subst (λ n. is_some (place_named own n) ≡ true)
        (same-is o.name.now q e) there)
    by_test false e =
        sym (or-nothing (place_named own q)) ∙
        sym (ap (λ t. option_or (place_named own q) (cond t (Some (length own)) None)) e)

-- a new name takes the next place
pub new-next : (own : List OwnItem) (o : OwnItem) (q : List ℕ) (new : Option ℕ) →
    is_some (place_named own o.name.now) ≡ false →
    new ≡ cond (bytes_eq o.name.now q) (Some (length own)) (place_named own q) → new ≡ place_named (own ++ o ∷ []) q
new-next own o q new absent is = is ∙ by_test (same_name o.name.now q) refl ∙ sym (behind own o q)
  where
    nothing : (r : Option ℕ) → is_some r ≡ false → r ≡ None
    nothing None e = refl
    nothing (Some k) e = absurd (cc e)

    by_test : (t : Bool) → same_name o.name.now q ≡ t →
        cond (bytes_eq o.name.now q) (Some (length own)) (place_named own q) ≡
        option_or (place_named own q) (cond (same_name o.name.now q) (Some (length own)) None)
    by_test true e =
        let front = subst (λ n. place_named own n ≡ None) (same-is o.name.now q e) (nothing _ absent) in
        ap (λ t. cond t (Some (length own)) (place_named own q)) e ∙
        sym (ap (λ r. option_or r (cond (same_name o.name.now q) (Some (length own)) None)) front ∙
        ap (λ t. cond t (Some (length own)) None) e)
    by_test false e =
        ap (λ t. cond t (Some (length own)) (place_named own q)) e ∙ sym (or-nothing (place_named own q)) ∙
        sym (ap (λ t. option_or (place_named own q) (cond t (Some (length own)) None)) e)

-- what stands at the place of a name
abbrev pub Stands : List OwnItem → List ℕ → Option ℕ → Type 0
Stands own q None = named_among (map own_of own) q ≡ None
Stands own q (Some p) = (p < length own) ×
    ((d : OwnItem) → named_among (map own_of own) q ≡ Some (signature_of (slice_index_or own p d).sig))

pub stands : (own : List OwnItem) (q : List ℕ) → Stands own q (place_named own q)
stands [] q = refl
stands (o ∷ own) q =
    by_test (same_name o.name.now q) refl (place_named own q) (stands own q)
  where
    there : (t : Bool) → same_name o.name.now q ≡ t → named_among (map own_of (o ∷ own)) q ≡
        option_map (λ (p : List ℕ × Sig). p.1)
        (cond t (Some (own_of o)) (find (λ (p : List ℕ × Sig). same_name p.0 q) (map own_of own)))
    there t e = ap (λ b. option_map (λ (p : List ℕ × Sig). p.1)
        (cond b (Some (own_of o)) (find (λ (p : List ℕ × Sig). same_name p.0 q) (map own_of own)))) e

    by_test : (t : Bool) → same_name o.name.now q ≡ t → (r : Option ℕ) → Stands own q r →
        Stands (o ∷ own) q (cond t (Some 0) (option_map suc r))
    by_test true e r s = (omega arith, λ d. there true e)
    by_test false e None s = there false e ∙ s
    by_test false e (Some p) s = (omega (arith, s.0), λ d. there false e ∙ s.1 d)

pub some-copied : (o : Option (Bor ℕ)) → is_some o ≡ is_some (option_copied o)
some-copied None = refl
some-copied (Some n) = refl

pub what-is_ok : {A E : Type 0} (r : Result A E) (P : Type 0) → is_err r ≡ false → OnOk r P → P
what-is_ok (Ok a) P e p = p
what-is_ok (Err x) P e p = absurd (cc e)
