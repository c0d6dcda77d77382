-- Names that are known, and those that imports mention.
use Rattle.std.proofs.Common.{◌≡◌, Bool, true, false, ◌&&◌, ◌||◌, cond, List, [], ◌∷◌, ◌++◌, refl, sym, ap, ◌∙◌, subst, ◌⊎◌, inl, inr, append_assoc}
use Rattle.std.specs.Prelude.{not}
use Rattle.std.proofs.lemmas.Bool.{and_parts, and_from, or_cases, eqb-true, eq-eqb}
use Rattle.std.proofs.lemmas.List.{append-nil}
use mathlib.Core.Path.{ap₂}
use Rattle.qtt_syntax.specs.declared.module.Import.{Import}
use Rattle.qtt_graph.specs.Graph.{Name, same_name, is_among, counts, all_differ, is_there, all_there}
use Rattle.qtt_load.specs.Loading.{mentioned, noted}

pub same-is : (a b : Name) → same_name a b ≡ true → a ≡ b
same-is [] [] e = refl
same-is [] (y ∷ ys) e = absurd (cc e)
same-is (x ∷ xs) [] e = absurd (cc e)
same-is (x ∷ xs) (y ∷ ys) e =
    let d = and_parts _ _ e in
    ap₂ (λ p q. p ∷ q) (eqb-true x y d.0) (same-is xs ys d.1)

pub same-self : (a : Name) → same_name a a ≡ true
same-self [] = refl
same-self (x ∷ xs) = and_from _ _ (eq-eqb x x refl) (same-self xs)

pub same-turned : (a b : Name) → same_name a b ≡ true → same_name b a ≡ true
same-turned a b e = subst (λ c. same_name c a ≡ true) (same-is a b e) (same-self a)

-- what is not true is false
not-true : (t : Bool) → (t ≡ true → ⊥) → t ≡ false
not-true false n = refl
not-true true n = absurd (n refl)

pub true≢false : {t : Bool} → t ≡ true → t ≡ false → ⊥
true≢false e d = absurd (cc (sym e ∙ d))

pub or-left : (p q : Bool) → p ≡ true → (p || q) ≡ true
or-left true q e = refl
or-left false q e = absurd (cc e)

pub or-right : (p q : Bool) → q ≡ true → (p || q) ≡ true
or-right true q e = refl
or-right false q e = e

pub neither : (p q : Bool) → (p || q) ≡ false → (p ≡ false) × (q ≡ false)
neither false q e = (refl, e)
neither true q e = absurd (cc e)

pub not-parts : (p q : Bool) → (p && not q) ≡ true → (p ≡ true) × (q ≡ false)
not-parts true false e = (refl, refl)
not-parts true true e = absurd (cc e)
not-parts false q e = absurd (cc e)

pub not-false : (q : Bool) → not q ≡ true → q ≡ false
not-false false e = refl
not-false true e = absurd (cc e)

false-not : (q : Bool) → q ≡ false → not q ≡ true
false-not false e = refl
false-not true e = absurd (cc e)

-- ---- among names
in-front : (a : Name) (xs ys : List Name) → is_among xs a ≡ true → is_among (xs ++ ys) a ≡ true
in-front a [] ys i = absurd (cc i)
in-front a (x ∷ xs) ys i = by_case (in-front a xs ys) (or_cases (same_name a x) (is_among xs a) i)
  where
    by_case : (is_among xs a ≡ true → is_among (xs ++ ys) a ≡ true) →
        (same_name a x ≡ true) ⊎ (is_among xs a ≡ true) → is_among (x ∷ xs ++ ys) a ≡ true
    by_case later (inl e) = or-left (same_name a x) _ e
    by_case later (inr j) = or-right (same_name a x) _ (later j)

pub among-parts : (a : Name) (xs ys : List Name) → is_among (xs ++ ys) a ≡ true →
    (is_among xs a ≡ true) ⊎ (is_among ys a ≡ true)
among-parts a [] ys i = inr i
among-parts a (x ∷ xs) ys i = by_case (among-parts a xs ys) (or_cases (same_name a x) (is_among (xs ++ ys) a) i)
  where
    by_rest : (is_among xs a ≡ true) ⊎ (is_among ys a ≡ true) →
        (is_among (x ∷ xs) a ≡ true) ⊎ (is_among ys a ≡ true)
    by_rest (inl j) = inl (or-right (same_name a x) _ j)
    by_rest (inr j) = inr j

    by_case : (is_among (xs ++ ys) a ≡ true → (is_among xs a ≡ true) ⊎ (is_among ys a ≡ true)) →
        (same_name a x ≡ true) ⊎ (is_among (xs ++ ys) a ≡ true) →
        (is_among (x ∷ xs) a ≡ true) ⊎ (is_among ys a ≡ true)
    by_case later (inl e) = inl (or-left (same_name a x) _ e)
    by_case later (inr j) = by_rest (later j)

in-back : (a : Name) (xs ys : List Name) → is_among ys a ≡ true → is_among (xs ++ ys) a ≡ true
in-back a [] ys i = i
in-back a (x ∷ xs) ys i = or-right (same_name a x) _ (in-back a xs ys i)

pub in-head : (a : Name) (ns : List Name) → is_among (a ∷ ns) a ≡ true
in-head a ns = or-left (same_name a a) _ (same-self a)

not-behind : (a b : Name) (ns : List Name) → is_among ns a ≡ false → same_name a b ≡ false →
    is_among (ns ++ b ∷ []) a ≡ false
not-behind a b [] i n = ap (λ t. t || false) n
not-behind a b (x ∷ xs) i n =
    let d = neither _ _ i in
    ap₂ (λ p q. p || q) d.0 (not-behind a b xs d.1 n)

-- ---- names that differ
differ-behind : (a : Name) (ns : List Name) → all_differ ns ≡ true → is_among ns a ≡ false →
    all_differ (ns ++ a ∷ []) ≡ true
differ-behind a [] d n = refl
differ-behind a (x ∷ xs) d n =
    let parts = and_parts _ _ d in
    let apart = neither _ _ n in
    let turned : same_name x a ≡ false =
    not-true (same_name x a) (λ e. true≢false (same-turned x a e) apart.0) in
    and_from _ _
    (false-not (is_among (xs ++ a ∷ []) x) (not-behind x a xs (not-false (is_among xs x) parts.0) turned))
    (differ-behind a xs parts.1 apart.1)

pub differ-front : (a : Name) (xs ys : List Name) → all_differ (xs ++ a ∷ ys) ≡ true → is_among xs a ≡ false
differ-front a [] ys d = refl
differ-front a (x ∷ xs) ys d =
    let parts = and_parts _ _ d in
    let apart : same_name a x ≡ false =
    not-true (same_name a x) (λ e.
    true≢false (in-back x xs (a ∷ ys) (subst (λ n. is_among (a ∷ ys) n ≡ true) (same-is a x e) (in-head a ys)))
    (not-false (is_among (xs ++ a ∷ ys) x) parts.0)) in
    ap₂ (λ p q. p || q) apart (differ-front a xs ys parts.1)

-- ---- what imports mention
abbrev pub is_new : List Name → Import → Bool
is_new known i = counts i && not (is_among known i.name)

pub mentioned-differ : (known : List Name) (is : List Import) → all_differ known ≡ true →
    all_differ (known ++ mentioned known is) ≡ true
mentioned-differ known [] d = subst (λ ns. all_differ ns ≡ true) (sym (append-nil known)) d
mentioned-differ known (i ∷ more) d =
    by_test (mentioned-differ (known ++ i.name ∷ []) more) (mentioned-differ known more d) (is_new known i) refl
  where
    by_test : (all_differ (known ++ i.name ∷ []) ≡ true →
        all_differ ((known ++ i.name ∷ []) ++ mentioned (known ++ i.name ∷ []) more) ≡ true) →
        all_differ (known ++ mentioned known more) ≡ true → (t : Bool) → is_new known i ≡ t →
        all_differ (known ++ cond t (i.name ∷ mentioned (known ++ i.name ∷ []) more) (mentioned known more)) ≡ true
    by_test with_it without true e =
        subst (λ ns. all_differ ns ≡ true)
        (append_assoc known (i.name ∷ []) (mentioned (known ++ i.name ∷ []) more))
        (with_it (differ-behind i.name known d (not-parts (counts i) (is_among known i.name) e).1))
    by_test with_it without false e = without

-- an import that is not new is known
known-there : (ns : List Name) (i : Import) → is_new ns i ≡ false → is_there ns i ≡ true
known-there ns i n = by_test (counts i) (is_among ns i.name) n
  where
    by_test : (p q : Bool) → (p && not q) ≡ false → cond p q true ≡ true
    by_test false q e = refl
    by_test true true e = refl
    by_test true false e = absurd (cc e)

among-there : (ns : List Name) (i : Import) → is_among ns i.name ≡ true → is_there ns i ≡ true
among-there ns i e = by_test (counts i)
  where
    by_test : (p : Bool) → cond p (is_among ns i.name) true ≡ true
    by_test true = e
    by_test false = refl

there-front : (xs ys : List Name) (i : Import) → is_there xs i ≡ true → is_there (xs ++ ys) i ≡ true
there-front xs ys i e = by_test (counts i) e
  where
    by_test : (p : Bool) → cond p (is_among xs i.name) true ≡ true → cond p (is_among (xs ++ ys) i.name) true ≡ true
    by_test true e = in-front i.name xs ys e
    by_test false e = refl

pub all-there-front : (xs ys : List Name) (is : List Import) → all_there xs is ≡ true → all_there (xs ++ ys) is ≡ true
all-there-front xs ys [] e = refl
all-there-front xs ys (i ∷ more) e =
    let parts = and_parts _ _ e in
    and_from _ _ (there-front xs ys i parts.0) (all-there-front xs ys more parts.1)

pub mentioned-there : (known : List Name) (is : List Import) → all_there (known ++ mentioned known is) is ≡ true
mentioned-there known [] = refl
mentioned-there known (i ∷ more) =
    by_test (mentioned-there (known ++ i.name ∷ []) more) (mentioned-there known more) (is_new known i) refl
  where
    by_test : all_there ((known ++ i.name ∷ []) ++ mentioned (known ++ i.name ∷ []) more) more ≡ true →
        all_there (known ++ mentioned known more) more ≡ true → (t : Bool) → is_new known i ≡ t →
        all_there (known ++ cond t (i.name ∷ mentioned (known ++ i.name ∷ []) more) (mentioned known more))
        (i ∷ more) ≡ true
    by_test with_it without true e =
        let behind = mentioned (known ++ i.name ∷ []) more in
        let among = in-back i.name known (i.name ∷ behind) (in-head i.name behind) in
        and_from _ _ (among-there (known ++ i.name ∷ behind) i among)
        (subst (λ ns. all_there ns more ≡ true) (append_assoc known (i.name ∷ []) behind) with_it)
    by_test with_it without false e =
        and_from _ _ (there-front known (mentioned known more) i (known-there known i e)) without

-- ---- notes, import by import
pub mentioned-step : (known : List Name) (i : Import) (more : List Import) →
    known ++ mentioned known (i ∷ more) ≡ noted known i ++ mentioned (noted known i) more
mentioned-step known i more = by_test (is_new known i)
  where
    by_test : (t : Bool) →
        known ++ cond t (i.name ∷ mentioned (known ++ i.name ∷ []) more) (mentioned known more) ≡
        cond t (known ++ i.name ∷ []) known ++ mentioned (cond t (known ++ i.name ∷ []) known) more
    by_test true = sym (append_assoc known (i.name ∷ []) (mentioned (known ++ i.name ∷ []) more))
    by_test false = refl

pub noted-prim : (known : List Name) (i : Import) → counts i ≡ false → noted known i ≡ known
noted-prim known i e = ap (λ t. cond (t && not (is_among known i.name)) (known ++ i.name ∷ []) known) e

pub noted-inserted : (known : List Name) (i : Import) → counts i ≡ true →
    cond (is_among known i.name) known (known ++ i.name ∷ []) ≡ noted known i
noted-inserted known i e =
    by_test (is_among known i.name) ∙
    sym (ap (λ t. cond (t && not (is_among known i.name)) (known ++ i.name ∷ []) known) e)
  where
    by_test : (t : Bool) → cond t known (known ++ i.name ∷ []) ≡ cond (not t) (known ++ i.name ∷ []) known
    by_test true = refl
    by_test false = refl
