-- Names among others, and lists in which each name stands once.
use Rattle.std.proofs.Common.{◌≡◌, suc, ◌≤◌, Bool, true, false, ◌||◌, cond, List, [], ◌∷◌, length, Option, Some, None, refl, sym, ap, ◌∙◌, subst, ◌⊎◌, inl, inr, arith}
use Rattle.std.proofs.lemmas.Bool.{and_parts, and_from, eqb-true, eq-eqb, or_cases}
use mathlib.Core.Path.{ap₂}
use Rattle.qtt_graph.specs.Graph.{Name, same_name, is_among}

pub none≢some : {A : Type 0} {a : A} → None ≡ Some a → ⊥
none≢some e = absurd (cc e)

abbrev value_or : {A : Type 0} → A → Option A → A
value_or a None = a
value_or a (Some b) = b

pub some-injective : {A : Type 0} {a b : A} → Some a ≡ Some b → a ≡ b
some-injective {a = a} e = ap (value_or a) e

pub same-is : (a b : Name) → same_name a b ≡ true → a ≡ b
same-is [] [] e = refl
same-is [] (y ∷ ys) e = absurd (cc e)
same-is (x ∷ xs) [] e = absurd (cc e)
same-is (x ∷ xs) (y ∷ ys) e =
    let d = and_parts _ _ e in
    ap₂ (λ p q. p ∷ q) (eqb-true x y d.0) (same-is xs ys d.1)

pub same-self : (a : Name) → same_name a a ≡ true
same-self [] = refl
same-self (x ∷ xs) = and_from _ _ (eq-eqb x x refl) (same-self xs)

pub same-as : (a b : Name) → a ≡ b → same_name a b ≡ true
same-as a b e = subst (λ c. same_name a c ≡ true) e (same-self a)

or-left : (p q : Bool) → p ≡ true → (p || q) ≡ true
or-left true q e = refl
or-left false q e = absurd (cc e)

or-right : (p q : Bool) → q ≡ true → (p || q) ≡ true
or-right true q e = refl
or-right false q e = e

neither : (p q : Bool) → (p || q) ≡ false → (p ≡ false) × (q ≡ false)
neither false q e = (refl, e)
neither true q e = absurd (cc e)

-- ---- among others
pub in-head : (a b : Name) (ns : List Name) → a ≡ b → is_among (b ∷ ns) a ≡ true
in-head a b ns e = or-left (same_name a b) _ (same-as a b e)

pub in-tail : (a b : Name) (ns : List Name) → is_among ns a ≡ true → is_among (b ∷ ns) a ≡ true
in-tail a b ns i = or-right (same_name a b) _ i

pub in-cases : (a b : Name) (ns : List Name) → is_among (b ∷ ns) a ≡ true → (a ≡ b) ⊎ (is_among ns a ≡ true)
in-cases a b ns i = by_part (or_cases (same_name a b) (is_among ns a) i)
  where
    by_part : (same_name a b ≡ true) ⊎ (is_among ns a ≡ true) → (a ≡ b) ⊎ (is_among ns a ≡ true)
    by_part (inl e) = inl (same-is a b e)
    by_part (inr e) = inr e

-- ---- each once
abbrev pub Once : List Name → Type 0
Once [] = Unit {0}
Once (a ∷ more) = (is_among more a ≡ false) × Once more

abbrev pub AllAmong : List Name → List Name → Type 0
AllAmong ns [] = Unit {0}
AllAmong ns (a ∷ more) = (is_among ns a ≡ true) × AllAmong ns more

-- without the first one of this name
abbrev removed : Name → List Name → List Name
removed a [] = []
removed a (b ∷ bs) = cond (same_name a b) bs (b ∷ removed a bs)

removed-length : (a : Name) (ns : List Name) → is_among ns a ≡ true → length ns ≡ suc (length (removed a ns))
removed-length a [] i = absurd (cc i)
removed-length a (b ∷ bs) i = by_test (removed-length a bs) (same_name a b) refl
  where
    by_test : (is_among bs a ≡ true → length bs ≡ suc (length (removed a bs))) → (t : Bool) → same_name a b ≡ t →
        length (b ∷ bs) ≡ suc (length (removed a (b ∷ bs)))
    by_test later true e = ap (λ t. suc (length (cond t bs (b ∷ removed a bs)))) (sym e)
    by_test later false e =
        let behind = subst (λ t. (t || is_among bs a) ≡ true) e i in
        ap suc (later behind) ∙ ap (λ t. suc (length (cond t bs (b ∷ removed a bs)))) (sym e)

removed-keeps : (a b : Name) (ns : List Name) → is_among ns b ≡ true → same_name a b ≡ false →
    is_among (removed a ns) b ≡ true
removed-keeps a b [] i n = i
removed-keeps a b (c ∷ cs) i n =
    by_test (λ j. removed-keeps a b cs j n) (same_name a c) refl (in-cases b c cs i)
  where
    by_test : (is_among cs b ≡ true → is_among (removed a cs) b ≡ true) → (t : Bool) → same_name a c ≡ t → (b ≡ c) ⊎
        (is_among cs b ≡ true) →
        is_among (removed a (c ∷ cs)) b ≡ true
    by_test kept true e (inl same) = absurd (cc (sym n ∙ subst (λ d. same_name a d ≡ true) (sym same) e))
    by_test kept true e (inr later) = subst (λ t. is_among (cond t cs (c ∷ removed a cs)) b ≡ true) (sym e) later
    by_test kept false e (inl same) =
        subst (λ t. is_among (cond t cs (c ∷ removed a cs)) b ≡ true) (sym e) (in-head b c (removed a cs) same)
    by_test kept false e (inr later) =
        subst (λ t. is_among (cond t cs (c ∷ removed a cs)) b ≡ true) (sym e)
        (in-tail b c (removed a cs) (kept later))

all-but : (a : Name) (ns xs : List Name) → is_among xs a ≡ false → AllAmong ns xs → AllAmong (removed a ns) xs
all-but a ns [] n i = tt
all-but a ns (b ∷ bs) n i =
    let d = neither _ _ n in
    (removed-keeps a b ns i.0 d.0, all-but a ns bs d.1 i.1)

-- a list in which each stands once is no longer than one that has them all
pub once-fits : (xs ns : List Name) → Once xs → AllAmong ns xs → length xs ≤ length ns
once-fits [] ns o i = omega arith
once-fits (a ∷ xs) ns o i =
    let shorter = once-fits xs (removed a ns) o.1 (all-but a ns xs o.0 i.1) in
    let one = removed-length a ns i.0 in
    omega (arith, shorter, one)
