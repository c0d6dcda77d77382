-- Environments of programs that gain items of Main.
use Rattle.std.proofs.Common.{◌≡◌, ℕ, Bool, true, false, ◌&&◌, cond, eqb, List, [], ◌∷◌, map, reverse, ◌++◌, Option, Some, None, option_map, is_none, Result, Ok, Err, IfOk, refl, sym, ◌∙◌, ap, subst, arith}
use Rattle.std.proofs.lemmas.Bool.{and_parts}
use Rattle.std.proofs.lemmas.Bool.Decides.{nat_tests}
use Rattle.std.proofs.lemmas.List.{map_push, reverse-append}
use mathlib.Core.Path.{fun_ext, ap₂}
use Rattle.qtt_base.specs.declared.place.GlobalId.{GlobalId}
use Rattle.qtt_usage.specs.Mult.{ω}
use Rattle.qtt_term.specs.declared.globals.Globals.{Globals}
use Rattle.qtt_term.specs.Term.{Term, same_id}
use Rattle.qtt_term.specs.Signature.{Family, Definition, Env}
use Rattle.qtt_term.specs.Keyed.{with_id, inserted}
use Rattle.qtt_term.specs.Items.{FamilyEntry, DefinitionEntry, family_id, definition_id, signature_entry, given_body, with_body, constructor_of}
use Rattle.qtt_term.specs.Globals.{families, definitions, env, IsAbsent}
use Rattle.qtt_term.specs.PrimItems.{prim_families}
use Rattle.qtt_term.specs.PrimEnvironment.{prim_env, prim_family}
use Rattle.qtt_term.specs.Programs.{item, listed, of_main, or, program, many}
use Rattle.qtt_term.proofs.Order.{with_id-inserted, with_id-changed, has_id, none_is}

and-right : (a b : Bool) → a && b ≡ true → b ≡ true
and-right a b e = (and_parts a b e).1

-- an id with no item has no definition
pub absent-definition : (g : Globals) (id : GlobalId) → IsAbsent g id → with_id definition_id id (definitions g) ≡ None
absent-definition g id a =
    none_is (with_id definition_id id (definitions g))
    (and-right (is_none (constructor_of (families g) id)) _
    (and-right (is_none (with_id family_id id (families g))) _ a))

-- and no family
pub absent-family : (g : Globals) (id : GlobalId) → IsAbsent g id → with_id family_id id (families g) ≡ None
absent-family g id a = none_is (with_id family_id id (families g))
    (and_parts (is_none (with_id family_id id (families g))) _ a).0

self-test : (n : ℕ) → eqb n n ≡ true
self-test n = grind (arith, nat_tests)

test-swap : (m n : ℕ) → eqb m n ≡ eqb n m
test-swap m n = grind (arith, nat_tests)

id-swap : (a b : GlobalId) → same_id a b ≡ same_id b a
id-swap a b = grind (arith, nat_tests)

-- the item of a number, among those of Main
item-first : {A : Type 0} (n : ℕ) (d : GlobalId) (a o : Option A) (xs : Option A) →
    (same_id (item n) d ≡ false → o ≡ cond (eqb d.module.0 1) xs None) →
    cond (same_id (item n) d) a o ≡ cond (eqb d.module.0 1) (cond (eqb n d.item) a xs) None
item-first n d a o xs h = by_tests (eqb 1 d.module.0) (eqb d.module.0 1) (eqb n d.item) (test-swap 1 d.module.0) h
  where
    by_tests : (l m t : Bool) → l ≡ m → (l && t ≡ false → o ≡ cond m xs None) →
        cond (l && t) a o ≡ cond m (cond t a xs) None
    by_tests true true true e h = refl
    by_tests true true false e h = h refl
    by_tests false false t e h = h refl
    by_tests true false t e h = absurd (cc e)
    by_tests false true t e h = absurd (cc e)

-- a definition that gets its body, and the others as they were
bodied : (n : ℕ) (b : Term) (S : DefinitionEntry) (d : GlobalId) (o : Option DefinitionEntry) → S.id ≡ item n →
    ((X : DefinitionEntry) → o ≡ Some X → X.id ≡ d) →
    option_map (λ e. e.definition)
    (option_map (λ D. cond (same_id D.id (item n)) (given_body b D) D) (cond (same_id S.id d) (Some S) o)) ≡
    cond (same_id (item n) d) (Some ((given_body b S).definition)) (option_map (λ e. e.definition) o)
bodied n b S d o i h =
    ap (λ c. option_map (λ e. e.definition)
    (option_map (λ D. cond (same_id D.id (item n)) (given_body b D) D) (cond (same_id c d) (Some S) o))) i
    ∙ by_test (same_id (item n) d) refl
  where
    own : same_id S.id (item n) ≡ true
    own = ap (λ c. same_id c (item n)) i ∙ self-test n

    others : (p : Option DefinitionEntry) → ((X : DefinitionEntry) → p ≡ Some X → X.id ≡ d) →
        same_id (item n) d ≡ false →
        option_map (λ e. e.definition) (option_map (λ D. cond (same_id D.id (item n)) (given_body b D) D) p) ≡
        option_map (λ e. e.definition) p
    others None k t = refl
    others (Some X) k t =
        ap (λ c. Some ((cond c (given_body b X) X).definition))
        (ap (λ c. same_id c (item n)) (k X refl) ∙ id-swap d (item n) ∙ t)

    by_test : (t : Bool) → same_id (item n) d ≡ t →
        option_map (λ e. e.definition)
        (option_map (λ D. cond (same_id D.id (item n)) (given_body b D) D) (cond t (Some S) o)) ≡
        cond t (Some ((given_body b S).definition)) (option_map (λ e. e.definition) o)
    by_test true e = ap (λ c. Some ((cond c (given_body b S) S).definition)) own
    by_test false e = others o h e

-- one definition more
pub defined : (old mid new : Globals) (n : ℕ) (name : List ℕ) (A b : Term) → IsAbsent old (item n) →
    definitions mid ≡ inserted definition_id (signature_entry (item n) name ω A) (definitions old) →
    families mid ≡ families old →
    definitions new ≡ with_body (item n) b (definitions mid) → families new ≡ families mid →
    (fs : List (ℕ × Family)) (ds : List (ℕ × Definition)) → env old ≡ program fs ds →
    env new ≡ program fs ((n, many A b) ∷ ds)
defined old mid new n name A b a dm fm dn fn fs ds e =
    ap₂ (λ f d. record { family = f; definition = d })
    (fun_ext λ f. ap (λ Fs. option_map (λ x. x.family) (with_id family_id f Fs)) (fn ∙ fm) ∙ ap (λ E. E.family f) e)
    (fun_ext λ d. ap (λ Ds. option_map (λ x. x.definition) (with_id definition_id d Ds))
    (dn ∙ ap (with_body (item n) b) dm) ∙ at d)
  where
    at : (d : GlobalId) → option_map (λ x. x.definition)
        (with_id definition_id d
        (with_body (item n) b (inserted definition_id (signature_entry (item n) name ω A) (definitions old)))) ≡
        of_main ((n, many A b) ∷ ds) d
    at d =
        ap (option_map (λ x. x.definition))
        (with_id-changed definition_id (item n) (given_body b) d
        (inserted definition_id (signature_entry (item n) name ω A) (definitions old)) (λ D. refl)
        ∙ ap (option_map (λ D. cond (same_id D.id (item n)) (given_body b D) D))
        (with_id-inserted definition_id (signature_entry (item n) name ω A) (definitions old) d
        (absent-definition old (item n) a)))
        ∙ bodied n b (signature_entry (item n) name ω A) d (with_id definition_id d (definitions old)) refl
        (λ X s. has_id definition_id d (definitions old) X s)
        ∙ item-first n d (Some (many A b))
        (option_map (λ x. x.definition) (with_id definition_id d (definitions old))) (listed ds d.item)
        (λ t. ap (λ E. E.definition d) e)

-- one family more
pub family-added : (old new : Globals) (F : FamilyEntry) (n : ℕ) → F.id ≡ item n → IsAbsent old (item n) →
    families new ≡ inserted family_id F (families old) → definitions new ≡ definitions old →
    (fs : List (ℕ × Family)) (ds : List (ℕ × Definition)) → env old ≡ program fs ds →
    env new ≡ program ((n, F.family) ∷ fs) ds
family-added old new F n i a fn dn fs ds e =
    ap₂ (λ f d. record { family = f; definition = d })
    (fun_ext λ f. ap (λ Fs. option_map (λ x. x.family) (with_id family_id f Fs)) fn ∙ at f)
    (fun_ext λ d. ap (λ Ds. option_map (λ x. x.definition) (with_id definition_id d Ds)) dn ∙
    ap (λ E. E.definition d) e)
  where
    absent : with_id family_id F.id (families old) ≡ None
    absent = ap (λ c. with_id family_id c (families old)) i ∙ absent-family old (item n) a

    by_test : (l m t : Bool) (xs prims : Option Family) → l ≡ m →
        cond (l && t) (Some F.family) (or (cond m xs None) prims) ≡ or (cond m (cond t (Some F.family) xs) None) prims
    by_test true true true xs prims q = refl
    by_test true true false xs prims q = refl
    by_test false false t xs prims q = refl
    by_test true false t xs prims q = absurd (cc q)
    by_test false true t xs prims q = absurd (cc q)

    mapped : (c : Bool) (o : Option FamilyEntry) →
        option_map (λ x. x.family) (cond c (Some F) o) ≡ cond c (Some F.family) (option_map (λ x. x.family) o)
    mapped true o = refl
    mapped false o = refl

    at : (f : GlobalId) → option_map (λ x. x.family) (with_id family_id f (inserted family_id F (families old))) ≡
        (program ((n, F.family) ∷ fs) ds).family f
    at f =
        ap (option_map (λ x. x.family)) (with_id-inserted family_id F (families old) f absent)
        ∙ mapped (same_id F.id f) (with_id family_id f (families old))
        ∙ ap₂ (λ c o. cond (same_id c f) (Some F.family) o) i (ap (λ E. E.family f) e)
        ∙ by_test (eqb 1 f.module.0) (eqb f.module.0 1) (eqb n f.item) (listed fs f.item) (prim_family f)
        (test-swap 1 f.module.0)

same-choice : {A : Type 0} (c : Bool) (a : A) → cond c a a ≡ a
same-choice true a = refl
same-choice false a = refl

-- the families of Prim alone
pub prim-program : prim_env ≡ program [] []
prim-program =
    ap₂ (λ f d. record { family = f; definition = d })
    (fun_ext λ f. sym (ap (λ o. or o (prim_family f)) (same-choice (eqb f.module.0 1) None)))
    (fun_ext λ d. sym (same-choice (eqb d.module.0 1) None))

-- the same for an id that is the item's
pub defined-at : (old mid new : Globals) (n : ℕ) (id : GlobalId) (name : List ℕ) (A b : Term) → id ≡ item n →
    IsAbsent old id →
    definitions mid ≡ inserted definition_id (signature_entry id name ω A) (definitions old) →
    families mid ≡ families old →
    definitions new ≡ with_body id b (definitions mid) → families new ≡ families mid →
    (fs : List (ℕ × Family)) (ds : List (ℕ × Definition)) → env old ≡ program fs ds →
    env new ≡ program fs ((n, many A b) ∷ ds)
defined-at old mid new n id name A b i a dm fm dn fn =
    defined old mid new n name A b (subst (IsAbsent old) i a)
    (dm ∙ ap (λ c. inserted definition_id (signature_entry c name ω A) (definitions old)) i) fm
    (dn ∙ ap (λ c. with_body c b (definitions mid)) i) fn

-- a list with one more at its end, turned round
pub reverse-more : {A B : Type 0} (f : A → B) (xs : List A) (x : A) →
    reverse (map f (xs ++ x ∷ [])) ≡ f x ∷ reverse (map f xs)
reverse-more f xs x = ap reverse (map_push f xs x) ∙ reverse-append (map f xs) (f x ∷ [])

-- what holds of an answer, where it follows from what is known
pub if_ok-then : {A E : Type 0} {P Q : A → Type 0} (r : Result A E) → IfOk r P → ((a : A) → P a → Q a) → IfOk r Q
if_ok-then (Ok a) h f = f a h
if_ok-then (Err e) h f = tt

-- a program with one family, over Prim
pub first-family : (old new : Globals) (F : FamilyEntry) → F.id ≡ item 0 → IsAbsent old (item 0) →
    families new ≡ inserted family_id F (families old) →
    definitions new ≡ definitions old → env old ≡ prim_env → env new ≡ program ((0, F.family) ∷ []) []
first-family old new F i a fn dn e = family-added old new F 0 i a fn dn [] [] (e ∙ prim-program)

-- Prim alone has no item of Main
pub prim-lacks : (g : Globals) (n : ℕ) → families g ≡ prim_families → definitions g ≡ [] → IsAbsent g (item n)
prim-lacks g n fs ds =
    ap₂ (λ Fs xs. is_none (with_id family_id (item n) Fs) &&
    (is_none (constructor_of Fs (item n)) && is_none (with_id definition_id (item n) xs))) fs ds

-- a program of two items
pub two-listed : {X : Type 0} (f : X → ℕ × Definition) (E : Env) (xs : List X) (a b : X) (p q : ℕ × Definition) →
    E ≡ program [] (reverse (map f xs)) → xs ≡ a ∷ b ∷ [] → f a ≡ p → f b ≡ q → E ≡ program [] (q ∷ p ∷ [])
two-listed f E xs a b p q e i h k =
    e ∙ ap (λ ys. program [] (reverse (map f ys))) i ∙ ap₂ (λ r s. program [] (s ∷ r ∷ [])) h k

-- of three
pub three-listed : {X : Type 0} (fs : List (ℕ × Family)) (f : X → ℕ × Definition) (E : Env) (xs : List X) (a b c : X)
    (p q r : ℕ × Definition) → E ≡ program fs (reverse (map f xs)) → xs ≡ a ∷ b ∷ c ∷ [] → f a ≡ p → f b ≡ q →
    f c ≡ r → E ≡ program fs (r ∷ q ∷ p ∷ [])
three-listed fs f E xs a b c p q r e i h k l =
    e ∙ ap (λ ys. program fs (reverse (map f ys))) i ∙ ap₂ (λ x yz. program fs (reverse (x ∷ yz))) h
    (ap₂ (λ y z. y ∷ z ∷ []) k l)

-- of four
pub four-listed : {X : Type 0} (fs : List (ℕ × Family)) (f : X → ℕ × Definition) (E : Env) (xs : List X) (a b c d : X)
    (p q r s : ℕ × Definition) → E ≡ program fs (reverse (map f xs)) → xs ≡ a ∷ b ∷ c ∷ d ∷ [] → f a ≡ p →
    f b ≡ q → f c ≡ r → f d ≡ s →
    E ≡ program fs (s ∷ r ∷ q ∷ p ∷ [])
four-listed fs f E xs a b c d p q r s e i h k l m =
    e ∙ ap (λ ys. program fs (reverse (map f ys))) i
    ∙ ap₂ (λ x ys. program fs (reverse (x ∷ ys))) h (ap₂ (λ y zs. y ∷ zs) k (ap₂ (λ y z. y ∷ z ∷ []) l m))
