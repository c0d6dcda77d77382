-- What is left of variables, and of the names in sight.
use Rattle.std.proofs.Common.{◌≡◌, ℕ, zero, suc, ◌+◌, ◌-◌, ◌<◌, ◌≤◌, Bool, true, false, List, [], ◌∷◌, ◌++◌, length, map, reverse, set, get_or, Option, Some, slice_get, refl, sym, ap, ◌∙◌, arith, add-one}
use Rattle.std.specs.Prelude.{cond}
use Rattle.std.proofs.lemmas.List.{map-append, reverse-append, length-map, map-set, get_or-map}
use Rattle.std.proofs.lemmas.Grind.{common_steps}
use Rattle.qtt_base.specs.declared.place.Span.{Span}
use Rattle.qtt_usage.specs.declared.mult.Mult.{Mult}
use Rattle.qtt_usage.specs.Mult.{𝟘}
use Rattle.qtt_usage.specs.Usage.{usage_at}
use Rattle.qtt_term.specs.Term.{Term}
use Rattle.qtt_term.specs.View.{term}
use Rattle.qtt_term.specs.Judgement.{Ctx, Part, mult_at}
use Rattle.qtt_holes.specs.declared.hole.Seen as code_seen
use Rattle.qtt_holes.specs.View.{seen}
use Rattle.qtt_holes.specs.Calls.{untold, told, untold_sight}
use Rattle.qtt_holes.specs.Hole.{Seen, Hole, left_of, all_left, left_at, is_written, sight, in_sight}

-- ---- variables
none-left : (p : Part) (u : Mult) → left_of p 𝟘 u ≡ 𝟘
none-left Part.erased u = refl
none-left Part.run u = refl

pub all-left-at : (p : Part) (Γ : Ctx) (us : List Mult) (i : ℕ) →
    usage_at (all_left p Γ us) i ≡ left_of p (mult_at Γ i) (usage_at us i)
all-left-at p [] us i = sym (none-left p (usage_at us i))
all-left-at p (x ∷ Γ) [] zero = refl
all-left-at p (x ∷ Γ) [] (suc i) = all-left-at p Γ [] i
all-left-at p (x ∷ Γ) (u ∷ us) zero = refl
all-left-at p (x ∷ Γ) (u ∷ us) (suc i) = all-left-at p Γ us i

pub use-before : (us ws : List Mult) (i : ℕ) (d : Mult) → i < length us → usage_at (us ++ ws) i ≡ get_or us i d
use-before [] ws i d h = let no : ⊥ = omega (arith, h) in absurd no
use-before (u ∷ us) ws zero d h = refl
use-before (u ∷ us) ws (suc i) d h = use-before us ws i d (omega (arith, h))

pub use-behind : (us ws : List Mult) (i : ℕ) → length us ≤ i → usage_at (us ++ ws) i ≡ usage_at ws (i - length us)
use-behind [] ws i h = let e : i ≡ i - 0 = omega arith in ap (usage_at ws) e
use-behind (u ∷ us) ws zero h = let no : ⊥ = omega (arith, h) in absurd no
use-behind (u ∷ us) ws (suc i) h =
    let e : i - length us ≡ suc i - length (u ∷ us) = omega arith in
    use-behind us ws i (omega (arith, h)) ∙ ap (usage_at ws) e

pub use-got : (us : List Mult) (i : ℕ) (u : Mult) → slice_get us i ≡ Some u → u ≡ usage_at us i
use-got [] i u h = absurd (cc h)
use-got (w ∷ us) zero u h = cc h
use-got (w ∷ us) (suc i) u h = use-got us i u h

pub use-past : (us : List Mult) (i : ℕ) → length us ≤ i → usage_at us i ≡ 𝟘
use-past [] i h = refl
use-past (u ∷ us) zero h = let no : ⊥ = omega (arith, h) in absurd no
use-past (u ∷ us) (suc i) h = use-past us i (omega (arith, h))

-- what is left of a variable that was bound before the walk began
pub left-behind : (p : Part) (Γ : Ctx) (us ws : List Mult) (i : ℕ) → length ws ≤ i →
    usage_at (ws ++ all_left p Γ us) i ≡ left_of p (mult_at Γ (i - length ws)) (usage_at us (i - length ws))
left-behind p Γ us ws i h = use-behind ws (all_left p Γ us) i h ∙ all-left-at p Γ us (i - length ws)

pub ruleset left = (common_steps, use-before, use-got, use-past, left-behind)

-- ---- names in sight
map-reverse : {A B : Type 0} (f : A → B) (xs : List A) → map f (reverse xs) ≡ reverse (map f xs)
map-reverse f [] = refl
map-reverse f (x ∷ xs) =
    ap (map f) (reverse-append (x ∷ []) xs)
    ∙ map-append f (reverse xs) (x ∷ [])
    ∙ ap (λ ys. ys ++ f x ∷ []) (map-reverse f xs)
    ∙ sym (reverse-append (f x ∷ []) (map f xs))

told-by : (us : List Mult) (b : Bool) (x y : Seen) (xs ys : List Seen) → told us (untold x) ≡ y →
    map (told us) (map untold xs) ≡ ys → map (told us) (map untold (cond b (x ∷ xs) xs)) ≡ cond b (y ∷ ys) ys
told-by us true x y xs ys e h = ap (λ z. z ∷ map (told us) (map untold xs)) e ∙ ap (λ zs. y ∷ zs) h
told-by us false x y xs ys e h = h

told-sight : (us : List Mult) (ns : List (List ℕ)) (xs : List (Term × Term)) →
    map (told us) (map untold (sight [] ns xs)) ≡ sight us ns xs
told-sight us [] xs = refl
told-sight us (n ∷ ns) [] = refl
told-sight us (n ∷ ns) (x ∷ xs) = told-by us (is_written n) _ _ _ _ refl (told-sight us ns xs)

pub told-all : (us : List Mult) (ns : List (List ℕ)) (xs : List (Term × Term)) →
    map (told us) (untold_sight ns xs) ≡ in_sight us ns xs
told-all us ns xs =
    ap (map (told us)) (map-reverse untold (sight [] ns xs))
    ∙ map-reverse (told us) (map untold (sight [] ns xs))
    ∙ ap reverse (told-sight us ns xs)

-- ---- a list whose first n entries are changed
abbrev pub changed : {A : Type 0} → (A → A) → ℕ → List A → List A
changed f zero xs = xs
changed f (suc n) [] = []
changed f (suc n) (x ∷ xs) = f x ∷ changed f n xs

module _ {A : Type 0} (f : A → A) where
  at-changed : (n : ℕ) (xs : List A) (d : A) → get_or (changed f n xs) n d ≡ get_or xs n d
  at-changed zero xs d = refl
  at-changed (suc n) [] d = refl
  at-changed (suc n) (x ∷ xs) d = at-changed n xs d

  set-changed : (n : ℕ) (xs : List A) (d : A) → n < length xs →
      set (changed f n xs) n (f (get_or xs n d)) ≡ changed f (suc n) xs
  set-changed n [] d h = let no : ⊥ = omega (arith, h) in absurd no
  set-changed zero (x ∷ xs) d h = refl
  set-changed (suc n) (x ∷ xs) d h = ap (λ ys. f x ∷ ys) (set-changed n xs d (omega (arith, h)))

  pub one-more : (n : ℕ) (xs ys : List A) (d : A) → ys ≡ changed f n xs → n < length xs →
      set ys n (f (get_or ys n d)) ≡ changed f (n + 1) xs
  one-more n xs ys d e h = rw (e, at-changed n xs d, add-one) (set-changed n xs d h)

  whole : (xs : List A) → changed f (length xs) xs ≡ map f xs
  whole [] = refl
  whole (x ∷ xs) = ap (λ ys. f x ∷ ys) (whole xs)

  pub all-changed : (n : ℕ) (xs ys : List A) → ys ≡ changed f n xs → n ≡ length xs → ys ≡ map f xs
  all-changed n xs ys e h = e ∙ ap (λ m. changed f m xs) h ∙ whole xs

length-changed : {A : Type 0} (f : A → A) (n : ℕ) (xs : List A) → length (changed f n xs) ≡ length xs
length-changed f zero xs = refl
length-changed f (suc n) [] = refl
length-changed f (suc n) (x ∷ xs) = ap suc (length-changed f n xs)

-- it is told what is left of one name more
pub tell-one : (us : List Mult) (xs : List code_seen.Seen) (zs : List Seen) (i : ℕ) (x : code_seen.Seen)
    (l : Option Mult) → map seen xs ≡ changed (told us) i zs → i < length xs →
    l ≡ left_at us (term (get_or xs i x).stands) →
    map seen (set xs i (record {
      name = (get_or xs i x).name;
      ty = (get_or xs i x).ty;
      stands = (get_or xs i x).stands;
      left = l;
    })) ≡ changed (told us) (i + 1) zs
tell-one us xs zs i x l e h k =
    let y = get_or xs i x in
    let n : i < length zs =
    omega (arith, h, ap length e, length-map xs seen, length-changed (told us) i zs) in
    map-set seen xs i _
    ∙ ap (set (map seen xs) i) (ap (λ l. record { name = y.name; type = term y.ty; stands = term y.stands; left = l }) k
    ∙ ap (told us) (sym (get_or-map seen xs i x (seen x) h)))
    ∙ one-more (told us) i zs (map seen xs) (seen x) e n

-- ---- holes
abbrev pub made : List ℕ → Span → Term → ℕ → List Seen → Hole
made n s A k xs = record { name = n; span = s; goal = A; depth = k; seen = xs }

pub same-made : {n m : List ℕ} {s r : Span} {A B : Term} {k l : ℕ} {xs ys : List Seen} → n ≡ m → s ≡ r → A ≡ B →
    k ≡ l → xs ≡ ys → made n s A k xs ≡ made m r B l ys
same-made {n} {m} {s} {r} {A} {B} {k} {l} {xs} {ys} a b c d e =
    ap (λ n. made n s A k xs) a ∙ ap (λ s. made m s A k xs) b ∙ ap (λ A. made m r A k xs) c
    ∙ ap (λ k. made m r B k xs) d ∙ ap (made m r B l) e
