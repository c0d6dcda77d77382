-- Signatures that a text sees, each with a property.
use Rattle.std.proofs.Common.{◌≡◌, refl, ℕ, zero, suc, ◌+◌, arith, List, [], ◌∷◌, ◌++◌, All, Option, Some, None, option_map, if◌then◌else◌, Bool, true, false, eqb, slice_get, find, option_and_then, fold, sum_by}
use Rattle.qtt_base.specs.declared.place.GlobalId.{GlobalId}
use Rattle.qtt_names.specs.Exports.{Exports, Sig}
use Rattle.qtt_names.specs.Scope.{same_name}
use Rattle.qtt_implicit.specs.Known.{Known, exported, own_signature, signature, signature_named}
use Rattle.qtt_implicit.specs.Filled.{with_own}
use Rattle.qtt_implicit.specs.Laws.{EachSig}

abbrev pub Each : {A : Type 0} → (A → Type 0) → List A → Type 0
Each P [] = Unit {0}
Each P (x ∷ xs) = P x × Each P xs

pub each_of : {A : Type 0} (P : A → Type 0) (xs : List A) → All P xs → Each P xs
each_of P [] h = tt
each_of P (x ∷ xs) h = (h 0 x (omega arith), each_of P xs (λ k d lt. h (suc k) d (omega arith)))

pub all_of : {A : Type 0} (P : A → Type 0) (xs : List A) → Each P xs → All P xs
all_of P [] h = λ k d lt. absurd (omega arith)
all_of P (x ∷ xs) h = by (all_of P xs h.1)
  where
    by : All P xs → All P (x ∷ xs)
    by ih zero d lt = h.0
    by ih (suc k) d lt = ih k d (omega arith)

pub each-append : {A : Type 0} (P : A → Type 0) (xs ys : List A) → Each P xs → Each P ys → Each P (xs ++ ys)
each-append P [] ys a b = b
each-append P (x ∷ xs) ys a b = (a.0, each-append P xs ys a.1 b)

abbrev pub Has : {A : Type 0} → (A → Type 0) → Option A → Type 0
Has P None = Unit {0}
Has P (Some x) = P x

pub each_at : {A : Type 0} (P : A → Type 0) (xs : List A) (i : ℕ) → Each P xs → Has P (slice_get xs i)
each_at P [] i h = tt
each_at P (x ∷ xs) zero h = h.0
each_at P (x ∷ xs) (suc i) h = each_at P xs i h.1

pub each_found : {A : Type 0} (P : A → Type 0) (p : A → Bool) (xs : List A) → Each P xs → Has P (find p xs)
each_found P p [] h = tt
each_found P p (x ∷ xs) h = by (p x) refl (each_found P p xs h.1)
  where
    by : (b : Bool) → p x ≡ b → Has P (find p xs) → Has P (find p (x ∷ xs))
    by true e ih = rw e h.0
    by false e ih = rw e ih

-- ---- sums
fold_from : {A : Type 0} (f : A → ℕ) (a : ℕ) (xs : List A) → fold (λ b x. b + f x) a xs ≡ a + sum_by f xs
fold_from f a [] = omega arith
fold_from f a (x ∷ xs) =
    let one = fold_from f (a + f x) xs in
    let other = fold_from f (0 + f x) xs in
    omega (arith, one, other)

pub sum_more : {A : Type 0} (f : A → ℕ) (x : A) (xs : List A) → sum_by f (x ∷ xs) ≡ f x + sum_by f xs
sum_more f x xs = let e = fold_from f (0 + f x) xs in omega (arith, e)

-- ---- what is seen
abbrev pub sig_in : List ℕ × Sig → Sig
sig_in o = o.1

-- each signature has the property
pub record Sees (P : Sig → Type 0) (K : Known) : Type 0 where
  pub own : Each (λ (o : List ℕ × Sig). P o.1) K.own
  pub imports : Each (λ (e : Exports). Each P e.sigs) K.imports

module _ (P : Sig → Type 0) where
  pub mapped : (o : Option (List ℕ × Sig)) → Has (λ (o : List ℕ × Sig). P o.1) o →
      Has P (option_map (λ (o : List ℕ × Sig). o.1) o)
  mapped None h = tt
  mapped (Some o) h = h

  through : (o : Option Exports) (n : ℕ) → Has (λ (e : Exports). Each P e.sigs) o →
      Has P (option_and_then (λ (e : Exports). slice_get e.sigs n) o)
  through None n h = tt
  through (Some e) n h = each_at P e.sigs n h

  pub seen : (K : Known) → Sees P K → (id : GlobalId) → Has P (signature K id)
  seen K s id = by (eqb id.module.0 K.home.0)
    where
      by : (b : Bool) → Has P (if b then own_signature K.own id.item else exported K.imports id)
      by true = mapped (slice_get K.own id.item) (each_at (λ (o : List ℕ × Sig). P o.1) K.own id.item s.own)
      by false = through (find (λ (e : Exports). eqb e.home.0 id.module.0) K.imports) id.item
          (each_found (λ (e : Exports). Each P e.sigs) (λ (e : Exports). eqb e.home.0 id.module.0) K.imports s.imports)

  pub seen_named : (K : Known) → Sees P K → (n : List ℕ) → Has P (signature_named K n)
  seen_named K s n = mapped (find (λ (o : List ℕ × Sig). same_name o.0 n) K.own)
      (each_found (λ (o : List ℕ × Sig). P o.1) (λ (o : List ℕ × Sig). same_name o.0 n) K.own s.own)

  pub sees_more : (K : Known) (own : List (List ℕ × Sig)) → Sees P K → Each (λ (o : List ℕ × Sig). P o.1) own →
      Sees P (with_own own K)
  sees_more K own s h = record {
    own = each-append (λ (o : List ℕ × Sig). P o.1) K.own own s.own h;
    imports = s.imports;
  }

  pub imports_seen : (imports : List Exports) → EachSig P imports → Each (λ (e : Exports). Each P e.sigs) imports
  imports_seen imports h = by imports (each_of (λ (e : Exports). All P e.sigs) imports h)
    where
      by : (imports : List Exports) → Each (λ (e : Exports). All P e.sigs) imports →
          Each (λ (e : Exports). Each P e.sigs) imports
      by [] h = tt
      by (e ∷ es) h = (each_of P e.sigs h.0, by es h.1)
