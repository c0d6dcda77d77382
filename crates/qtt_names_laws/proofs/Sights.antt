-- What a name sees is what is looked up.
use Rattle.std.proofs.Common.{◌≡◌, ◌≢◌, ℕ, Bool, true, false, cond, List, take, reverse, position, Option, Some, None, Ok, Err, refl, sym, ap, ◌∙◌, subst, arith, inl, inr, ◌⊎◌}
use Rattle.qtt_base.specs.declared.place.ModuleId.{ModuleId}
use Rattle.qtt_syntax.specs.declared.expr.Named.{Named}
use Rattle.qtt_syntax.specs.declared.expr.Target.{Target}
use Rattle.qtt_syntax.specs.declared.expr.Target.TheVariants.{Unknown, Local, Global}
use Rattle.qtt_syntax.specs.Tree.{Module}
use Rattle.qtt_syntax.specs.Tree.Module.{module_text}
use Rattle.qtt_names.specs.Answer.{Answer, unbound, ambiguous}
use Rattle.qtt_names.specs.declared.scope.OwnItem.{OwnItem}
use Rattle.qtt_names.specs.declared.target.Found.{Found}
use Rattle.qtt_names.specs.declared.target.Found.TheVariants.{Nothing, One, Several}
use Rattle.qtt_names.specs.PrimNames.{scope_of}
use Rattle.qtt_names.specs.Scope.{Imported, same_name, entry_of, own_items, module_name}
use Rattle.qtt_names.specs.Target as code
use Rattle.qtt_names.specs.Target.{split_at_dot, imported, if_earlier, own_or, local_or, with_target, global, look_up, target, by_parts}
use Rattle.qtt_names_laws.specs.Sight.{Place, First, Absent, names, IsPlain, IsQualified, own_item, Sees, SeesNothing, SeesMore}
use Rattle.qtt_names_laws.specs.Places.{items_of, name_of}
use Rattle.qtt_names_laws.specs.Resolution.{seeing}
use Rattle.qtt_names_laws.specs.Laws.{place, NamesSeeByTheText, SightIsAFunction}
use Rattle.qtt_names_laws.proofs.Lists.{same, same_from, apart, apart_from, Placed, placed, first_is, absent_is}
use Rattle.qtt_names_laws.proofs.Splits.{Split, split_is, split_at}
use Rattle.qtt_names_laws.proofs.Imports.{Have, have, imported_is}
use Rattle.qtt_names_laws.proofs.Own.{Owned, own_is}

-- ---- looking up at a place

abbrev pub own_first : Place → Option ℕ → Found → Found
own_first p None other = other
own_first p (Some i) other = One (Global (own_item p i))

abbrev pub own_at : Place → List ℕ → Option ℕ
own_at p n = position (same_name n) (names p.earlier)

abbrev pub parts : Place → List ℕ → Option (List ℕ × List ℕ) → Found
parts p path None = own_first p (own_at p path) (imported p.imports None path)
parts p path (Some s) =
    cond (same_name p.name s.0) (own_first p (own_at p s.1) Nothing) (imported p.imports (Some s.0) s.1)

abbrev pub answer : Place → List ℕ → Found
answer p path = local_or (position (same_name path) p.binders) (parts p path (split_at_dot path))

-- what an answer says
abbrev pub Means : Place → List ℕ → Found → Type 0
Means p path Nothing = SeesNothing p path
Means p path (One t) = Sees p path t
Means p path Several = SeesMore p path

module _ (p : Place) (path : List ℕ) where
  -- where no binder has the name
  outside : Absent path p.binders → answer p path ≡ parts p path (split_at_dot path)
  outside a = ap (λ (o : Option ℕ). local_or o (parts p path (split_at_dot path))) (absent_is path p.binders a)

  plainly : Absent path p.binders → IsPlain path →
      answer p path ≡ own_first p (own_at p path) (imported p.imports None path)
  plainly a s = outside a ∙ ap (parts p path) (split_at path None s)

  in_part : {m n : List ℕ} → Absent path p.binders → IsQualified path m n →
      answer p path ≡ cond (same_name p.name m) (own_first p (own_at p n) Nothing) (imported p.imports (Some m) n)
  in_part {m} {n} a s = outside a ∙ ap (parts p path) (split_at path (Some (m, n)) s)

  in_own : {n : List ℕ} → Absent path p.binders → IsQualified path p.name n →
      answer p path ≡ own_first p (own_at p n) Nothing
  in_own {n} a s =
      in_part a s ∙
      ap (λ (t : Bool). cond t (own_first p (own_at p n) Nothing) (imported p.imports (Some p.name) n))
      (same_from p.name p.name refl)

  in_import : {m n : List ℕ} → Absent path p.binders → IsQualified path m n → p.name ≢ m →
      answer p path ≡ imported p.imports (Some m) n
  in_import {m} {n} a s d =
      in_part a s ∙
      ap (λ (t : Bool). cond t (own_first p (own_at p n) Nothing) (imported p.imports (Some m) n))
      (apart_from p.name m d)

  own_there : (n : List ℕ) (i : ℕ) (other : Found) → First n (names p.earlier) i →
      own_first p (own_at p n) other ≡ One (Global (own_item p i))
  own_there n i other h = ap (λ (o : Option ℕ). own_first p o other) (first_is n (names p.earlier) i h)

  own_absent : (n : List ℕ) (other : Found) → Absent n (names p.earlier) → own_first p (own_at p n) other ≡ other
  own_absent n other h = ap (λ (o : Option ℕ). own_first p o other) (absent_is n (names p.earlier) h)

  -- what a name sees is answered
  sees_answer : (t : Target) → Sees p path t → answer p path ≡ One t
  sees_answer _ (Sees.binder {i = i} h) =
      ap (λ (o : Option ℕ). local_or o (parts p path (split_at_dot path))) (first_is path p.binders i h)
  sees_answer _ (Sees.own {i = i} a s h) = plainly a s ∙ own_there path i _ h
  sees_answer _ (Sees.imported {id = id} a s o h) =
      plainly a s ∙ own_absent path _ o ∙ imported_is None path p.imports (One (Global id)) h
  sees_answer _ (Sees.own_qualified {n = n} {i = i} a s h) = in_own a s ∙ own_there n i Nothing h
  sees_answer _ (Sees.imported_qualified {m = m} {n = n} {id = id} a s d h) =
      in_import a s d ∙ imported_is (Some m) n p.imports (One (Global id)) h

  nothing_answer : SeesNothing p path → answer p path ≡ Nothing
  nothing_answer (SeesNothing.plain a s o h) =
      plainly a s ∙ own_absent path _ o ∙ imported_is None path p.imports Nothing h
  nothing_answer (SeesNothing.own_qualified {n = n} a s o) = in_own a s ∙ own_absent n Nothing o
  nothing_answer (SeesNothing.imported_qualified {m = m} {n = n} a s d h) =
      in_import a s d ∙ imported_is (Some m) n p.imports Nothing h

  more_answer : SeesMore p path → answer p path ≡ Several
  more_answer (SeesMore.plain a s o h) =
      plainly a s ∙ own_absent path _ o ∙ imported_is None path p.imports Several h
  more_answer (SeesMore.qualified {m = m} {n = n} a s d h) =
      in_import a s d ∙ imported_is (Some m) n p.imports Several h

  -- and what is answered is seen
  plain_means : Absent path p.binders → IsPlain path → (o : Option ℕ) → Placed path (names p.earlier) o →
      (f : Found) → Have None path p.imports f → Means p path (own_first p o f)
  plain_means a s (Some i) h f k = Sees.own a s h
  plain_means a s None h Nothing k = SeesNothing.plain a s h k
  plain_means a s None h (One Unknown) k = absurd k
  plain_means a s None h (One (Local i)) k = absurd k
  plain_means a s None h (One (Global id)) k = Sees.imported a s h k
  plain_means a s None h Several k = SeesMore.plain a s h k

  own_means : {m n : List ℕ} → Absent path p.binders → IsQualified path m n → p.name ≡ m → (o : Option ℕ) →
      Placed n (names p.earlier) o → Means p path (own_first p o Nothing)
  own_means {n = n} a s e (Some i) h = Sees.own_qualified a (subst (λ (l : List ℕ). IsQualified path l n) (sym e) s) h
  own_means {n = n} a s e None h =
      SeesNothing.own_qualified a (subst (λ (l : List ℕ). IsQualified path l n) (sym e) s) h

  import_means : {m n : List ℕ} → Absent path p.binders → IsQualified path m n → p.name ≢ m → (f : Found) →
      Have (Some m) n p.imports f → Means p path f
  import_means a s d Nothing k = SeesNothing.imported_qualified a s d k
  import_means a s d (One Unknown) k = absurd k
  import_means a s d (One (Local i)) k = absurd k
  import_means a s d (One (Global id)) k = Sees.imported_qualified a s d k
  import_means a s d Several k = SeesMore.qualified a s d k

  parts_mean : Absent path p.binders → (o : Option (List ℕ × List ℕ)) → Split path o → Means p path (parts p path o)
  parts_mean a None s =
      plain_means a s (own_at p path) (placed path (names p.earlier)) (imported p.imports None path)
      (have None path p.imports)
  parts_mean a (Some q) s = by (same_name p.name q.0) refl
    where
      by : (t : Bool) → same_name p.name q.0 ≡ t →
          Means p path (cond t (own_first p (own_at p q.1) Nothing) (imported p.imports (Some q.0) q.1))
      by true e = own_means a s (same p.name q.0 e) (own_at p q.1) (placed q.1 (names p.earlier))
      by false e =
          import_means a s (apart p.name q.0 e) (imported p.imports (Some q.0) q.1) (have (Some q.0) q.1 p.imports)

  pub means : Means p path (answer p path)
  means = by (position (same_name path) p.binders) (placed path p.binders)
    where
      by : (o : Option ℕ) → Placed path p.binders o → Means p path (local_or o (parts p path (split_at_dot path)))
      by (Some i) h = Sees.binder h
      by None h = parts_mean h (split_at_dot path) (split_is path)

  pub answered : (f : Found) → Means p path f → answer p path ≡ f
  answered Nothing h = nothing_answer h
  answered (One t) h = sees_answer t h
  answered Several h = more_answer h

  alike : (f g : Found) → Means p path f → Means p path g → f ≡ g
  alike f g h k = sym (answered f h) ∙ answered g k

-- ---- the laws

pub sight_is_a_function : SightIsAFunction
sight_is_a_function = record {
  some = λ p path. by p path (answer p path) (means p path);
  same = λ p path t u h k. same_target t u (alike p path (One t) (One u) h k);
  not_nothing = λ p path t h k. absurd (cc (alike p path (One t) Nothing h k));
  not_more = λ p path t h k. absurd (cc (alike p path (One t) Several h k));
  not_both = λ p path h k. absurd (cc (alike p path Nothing Several h k));
}
  where
    by : (p : Place) (path : List ℕ) (f : Found) → Means p path f →
        ((t : Target) × Sees p path t) ⊎ SeesNothing p path ⊎ SeesMore p path
    by p path Nothing h = inr (inl h)
    by p path (One t) h = inl (t, h)
    by p path Several h = inr (inr h)

    same_target : (t u : Target) → One t ≡ One u → t ≡ u
    same_target t u e = cc

module _ (home : ModuleId) (m : Module) (imports : List Imported) (k : ℕ) (Γ : List (List ℕ)) where
  -- the own item of the code is the one at the place
  own_agrees : (n : List ℕ) (other : Found) → own_or (scope_of home m imports)
      (code.own_item (scope_of home m imports) k n) other ≡
      own_first (place home m imports k Γ) (own_at (place home m imports k Γ) n) other
  own_agrees n other = by (if_earlier k (entry_of n (own_items m))) (own_is m k n)
    where
      by : (o : Option OwnItem) → Owned n (take k (items_of m)) 0 o →
          own_or (scope_of home m imports) o other ≡
          own_first (place home m imports k Γ) (position (same_name n) (names (take k (items_of m)))) other
      by None h =
          sym (ap (λ (o : Option ℕ). own_first (place home m imports k Γ) o other)
          (absent_is n (names (take k (items_of m))) h))
      by (Some item) h =
          let e : item.number ≡ h.place = omega arith in
          ap (λ (i : ℕ). One (Global (record { «module» = home; item = i }))) e ∙
          sym (ap (λ (o : Option ℕ). own_first (place home m imports k Γ) o other)
          (first_is n (names (take k (items_of m))) h.place h.first))

  one_name : (m : Module) → module_name m ≡ name_of m
  one_name (module_text h n ns is items) = refl

  parts_agree : (path : List ℕ) (o : Option (List ℕ × List ℕ)) →
      by_parts (scope_of home m imports) k path o ≡ parts (place home m imports k Γ) path o
  parts_agree path None = own_agrees path _
  parts_agree path (Some q) =
      ap (λ (l : List ℕ). cond (same_name l q.0)
      (own_or (scope_of home m imports) (code.own_item (scope_of home m imports) k q.1) Nothing)
      (imported (place home m imports k Γ).imports (Some q.0) q.1)) (one_name m) ∙
      ap (λ (f : Found). cond (same_name (name_of m) q.0) f
      (imported (place home m imports k Γ).imports (Some q.0) q.1)) (own_agrees q.1 Nothing)

  pub agree : (path : List ℕ) → target (scope_of home m imports) k Γ path ≡ answer (place home m imports k Γ) path
  unfolding global
  agree path = ap (local_or (position (same_name path) (reverse Γ))) (parts_agree path (split_at_dot path))

  pub looked_up : (n : Named) → look_up (scope_of home m imports) k Γ n ≡
      with_target n (answer (place home m imports k Γ) n.path)
  unfolding look_up
  looked_up n = ap (with_target n) (agree n.path)

-- an answer tells what was found
target_in : Answer Named → Target
target_in (Ok n) = n.target
target_in (Err m) = Unknown

kind_in : Answer Named → ℕ
kind_in (Ok n) = 0
kind_in (Err m) = m.kind

found_one : (n : Named) (f : Found) (t : Target) → with_target n f ≡ Ok (seeing n t) → f ≡ One t
unfolding target_in
found_one n Nothing t e = absurd (cc e)
found_one n (One u) t e = ap One (ap target_in e)
found_one n Several t e = absurd (cc e)

eleven_is_not_ten : ◌≡◌ {A = ℕ} 11 10 → ⊥
eleven_is_not_ten e = omega arith

found_nothing : (n : Named) (f : Found) → with_target n f ≡ unbound n.path n.span → f ≡ Nothing
unfolding kind_in
found_nothing n Nothing e = refl
found_nothing n (One u) e = absurd (cc e)
found_nothing n Several e = absurd (eleven_is_not_ten (ap kind_in e))

found_more : (n : Named) (f : Found) → with_target n f ≡ ambiguous n.path n.span → f ≡ Several
unfolding kind_in
found_more n Nothing e = absurd (eleven_is_not_ten (sym (ap kind_in e)))
found_more n (One u) e = absurd (cc e)
found_more n Several e = refl

meaning : (p : Place) (path : List ℕ) (f : Found) → answer p path ≡ f → Means p path f
meaning p path f e = subst (Means p path) e (means p path)

pub names_see_by_the_text : NamesSeeByTheText
names_see_by_the_text = record {
  one = λ home m imports k Γ n t. (
    λ e. meaning (place home m imports k Γ) n.path (One t)
        (found_one n _ t (sym (looked_up home m imports k Γ n) ∙ e)),
    λ h. looked_up home m imports k Γ n ∙ ap (with_target n) (answered (place home m imports k Γ) n.path (One t) h),
  );
  nothing = λ home m imports k Γ n. (
    λ e. meaning (place home m imports k Γ) n.path Nothing
        (found_nothing n _ (sym (looked_up home m imports k Γ n) ∙ e)),
    λ h. looked_up home m imports k Γ n ∙ ap (with_target n) (answered (place home m imports k Γ) n.path Nothing h),
  );
  more = λ home m imports k Γ n. (
    λ e. meaning (place home m imports k Γ) n.path Several
        (found_more n _ (sym (looked_up home m imports k Γ n) ∙ e)),
    λ h. looked_up home m imports k Γ n ∙ ap (with_target n) (answered (place home m imports k Γ) n.path Several h),
  );
}
