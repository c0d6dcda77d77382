-- A module's part put among items of other modules: each id of the module is that of the part, and the others are as
-- they were.
use Rattle.std.proofs.Common.{◌≡◌, Bool, true, false, not, cond, List, [], ◌∷◌, map, Option, Some, None, option_map, is_none, refl, sym, ap, ◌∙◌, arith}
use Rattle.std.specs.List.{list_all, filter}
use Rattle.std.proofs.lemmas.Bool.{and_from}
use Rattle.std.proofs.lemmas.Bool.Decides.{nat_tests}
use mathlib.Core.Path.{fun_ext, ap₂}
use Rattle.qtt_base.specs.declared.place.GlobalId.{GlobalId}
use Rattle.qtt_base.specs.declared.place.ModuleId.{ModuleId}
use Rattle.qtt_term.specs.Term.{same_id}
use Rattle.qtt_term.specs.Signature.{Family, Definition}
use Rattle.qtt_term.specs.Question.{either}
use Rattle.qtt_term.specs.Keyed.{is_of, id_before, with_id, inserted, all_inserted, ids_differ}
use Rattle.qtt_term.specs.Items.{FamilyEntry, DefinitionEntry, family_id, definition_id}
use Rattle.qtt_term.specs.Entries.{Entries, env}
use Rattle.qtt_term.proofs.Options.{none≢some}
use Rattle.qtt_term.proofs.Same.{same_id-is}
use Rattle.qtt_term.proofs.Order.{absent_first, found_first, found_behind, has_id, filter_yes, filter_no, with_id-inserted, with_id-changed, with_id-all_inserted, either-none, changed, can_insert_all}
use Rattle.qtt_module.specs.Module.{part_at}
use Rattle.qtt_accepted.specs.Texts.{adopted}
use Rattle.qtt_accepted.proofs.Added.{no-entry}
use Rattle.qtt_accepted.proofs.Beside.{beside, Lacks}

-- ---- ids
pub id-swapped : (a b : GlobalId) → same_id a b ≡ false → same_id b a ≡ false
id-swapped a b e = grind (arith, nat_tests)

-- an id of the module is another than one of another module
pub other-module : (m : ModuleId) (a b : GlobalId) → is_of (Some m) a ≡ true → is_of (Some m) b ≡ false →
    same_id a b ≡ false
other-module m a b e f = grind (arith, nat_tests)

pub other-first : (m : ModuleId) (a b : GlobalId) → is_of (Some m) a ≡ false → is_of (Some m) b ≡ true →
    same_id a b ≡ false
other-first m a b e f = id-swapped b a (other-module m b a f e)

-- ---- elements of a module
-- no two of the module have one id
abbrev pub Once : {X : Type 0} → (X → GlobalId) → ModuleId → List X → Type 0
Once key m [] = Unit {0}
Once key m (x ∷ xs) = (is_of (Some m) (key x) ≡ true → with_id key (key x) xs ≡ None) × Once key m xs

module _ {X : Type 0} (key : X → GlobalId) (m : ModuleId) where
  abbrev pub own : X → Bool
  own x = is_of (Some m) (key x)

  found-own : (id : GlobalId) (xs : List X) →
      with_id key id (filter own xs) ≡ cond (is_of (Some m) id) (with_id key id xs) None
  found-own id [] = by_test (is_of (Some m) id)
    where
      by_test : (b : Bool) → ◌≡◌ {A = Option X} None (cond b None None)
      by_test true = refl
      by_test false = refl
  found-own id (x ∷ xs) = by_tests (own x) (same_id (key x) id) refl refl (found-own id xs)
    where
      by_tests : (b c : Bool) → own x ≡ b → same_id (key x) id ≡ c →
          with_id key id (filter own xs) ≡ cond (is_of (Some m) id) (with_id key id xs) None →
          with_id key id (filter own (x ∷ xs)) ≡ cond (is_of (Some m) id) (with_id key id (x ∷ xs)) None
      by_tests true true e f rest =
          ap (with_id key id) (filter_yes own x xs e) ∙ ap (λ c. cond c (Some x) (with_id key id (filter own xs))) f
          ∙ sym (ap (λ b. cond b (with_id key id (x ∷ xs)) None)
          (ap (is_of (Some m)) (sym (same_id-is (key x) id f)) ∙ e)
          ∙ ap (λ c. cond c (Some x) (with_id key id xs)) f)
      by_tests true false e f rest =
          ap (with_id key id) (filter_yes own x xs e) ∙ found_behind key id x (filter own xs) f ∙ rest
          ∙ sym (ap (λ o. cond (is_of (Some m) id) o None) (found_behind key id x xs f))
      by_tests false true e f rest =
          let other = ap (is_of (Some m)) (sym (same_id-is (key x) id f)) ∙ e in
          ap (with_id key id) (filter_no own x xs e) ∙ rest ∙ ap (λ b. cond b (with_id key id xs) None) other
          ∙ sym (ap (λ b. cond b (with_id key id (x ∷ xs)) None) other)
      by_tests false false e f rest =
          ap (with_id key id) (filter_no own x xs e) ∙ rest
          ∙ sym (ap (λ o. cond (is_of (Some m) id) o None) (found_behind key id x xs f))

  -- an id that is not there is none of those that are filtered
  none-of : (a : GlobalId) (xs : List X) → with_id key a xs ≡ None →
      list_all (λ b. not (same_id a b)) (map key (filter own xs)) ≡ true
  none-of a [] e = refl
  none-of a (x ∷ xs) e =
      let (f, g) = absent_first key a x xs e in by_test (own x) refl f (none-of a xs g)
    where
      by_test : (b : Bool) → own x ≡ b → same_id (key x) a ≡ false →
          list_all (λ b. not (same_id a b)) (map key (filter own xs)) ≡ true →
          list_all (λ b. not (same_id a b)) (map key (filter own (x ∷ xs))) ≡ true
      by_test true e f rest =
          ap (λ ys. list_all (λ b. not (same_id a b)) (map key ys)) (filter_yes own x xs e)
          ∙ and_from (not (same_id a (key x))) (list_all (λ b. not (same_id a b)) (map key (filter own xs)))
          (ap not (id-swapped (key x) a f)) rest
      by_test false e f rest =
          ap (λ ys. list_all (λ b. not (same_id a b)) (map key ys)) (filter_no own x xs e) ∙ rest

  own-differ : (xs : List X) → Once key m xs → ids_differ (map key (filter own xs)) ≡ true
  own-differ [] h = refl
  own-differ (x ∷ xs) h = by_test (own x) refl (own-differ xs h.1)
    where
      by_test : (b : Bool) → own x ≡ b → ids_differ (map key (filter own xs)) ≡ true →
          ids_differ (map key (filter own (x ∷ xs))) ≡ true
      by_test true e rest =
          ap (λ ys. ids_differ (map key ys)) (filter_yes own x xs e)
          ∙ and_from (list_all (λ b. not (same_id (key x) b)) (map key (filter own xs)))
          (ids_differ (map key (filter own xs))) (none-of (key x) xs (h.0 e)) rest
      by_test false e rest = ap (λ ys. ids_differ (map key ys)) (filter_no own x xs e) ∙ rest

  abbrev pub NoneIn : List X → Type 0
  NoneIn xs = (id : GlobalId) → is_of (Some m) id ≡ true → with_id key id xs ≡ None

  own-absent : (xs ys : List X) → NoneIn ys →
      list_all (λ x. is_none (with_id key (key x) ys)) (filter own xs) ≡ true
  own-absent [] ys h = refl
  own-absent (x ∷ xs) ys h = by_test (own x) refl (own-absent xs ys h)
    where
      by_test : (b : Bool) → own x ≡ b →
          list_all (λ x. is_none (with_id key (key x) ys)) (filter own xs) ≡ true →
          list_all (λ x. is_none (with_id key (key x) ys)) (filter own (x ∷ xs)) ≡ true
      by_test true e rest =
          ap (list_all (λ x. is_none (with_id key (key x) ys))) (filter_yes own x xs e)
          ∙ and_from (is_none (with_id key (key x) ys))
          (list_all (λ x. is_none (with_id key (key x) ys)) (filter own xs)) (ap is_none (h (key x) e)) rest
      by_test false e rest =
          ap (list_all (λ x. is_none (with_id key (key x) ys))) (filter_no own x xs e) ∙ rest

  -- the module's elements, put among those of others
  pub adopted-found : (xs ys : List X) → Once key m xs → NoneIn ys → (id : GlobalId) →
      with_id key id (all_inserted key (filter own xs) ys) ≡ cond (is_of (Some m) id) (with_id key id xs)
      (with_id key id ys)
  adopted-found xs ys once none id =
      with_id-all_inserted key (filter own xs) ys id
      (can_insert_all key (filter own xs) ys (own-differ xs once) (own-absent xs ys none))
      ∙ ap (λ o. either o (with_id key id ys)) (found-own id xs) ∙ by_test (is_of (Some m) id) refl
    where
      by_test : (b : Bool) → is_of (Some m) id ≡ b →
          either (cond b (with_id key id xs) None) (with_id key id ys) ≡ cond b (with_id key id xs) (with_id key id ys)
      by_test true e = ap (either (with_id key id xs)) (none id e) ∙ either-none (with_id key id xs)
      by_test false e = refl

  pub once-none : (xs : List X) → NoneIn xs → Once key m xs
  once-none [] none = tt
  once-none (x ∷ xs) none = (
    λ e. absurd (none≢some (sym (none (key x) e) ∙ found_first key (key x) x xs refl)),
    once-none xs (λ i e. (absent_first key i x xs (none i e)).1),
  )

  -- ---- growth
  pub once-inserted : (x : X) (xs : List X) → with_id key (key x) xs ≡ None → Once key m xs →
      Once key m (inserted key x xs)
  once-inserted x [] e h = ((λ t. refl), tt)
  once-inserted x (y ∷ ys) e h =
      let (f, g) = absent_first key (key x) y ys e in
      let behind = with_id-inserted key x ys (key y) g
      ∙ ap (λ b. cond b (Some x) (with_id key (key y) ys)) (id-swapped (key y) (key x) f) in
      by_order behind (once-inserted x ys g h.1) (id_before (key x) (key y))
    where
      by_order : with_id key (key y) (inserted key x ys) ≡ with_id key (key y) ys → Once key m (inserted key x ys) →
          (b : Bool) → Once key m (cond b (x ∷ y ∷ ys) (y ∷ inserted key x ys))
      by_order f rest true = ((λ t. e), h)
      by_order f rest false = ((λ t. f ∙ h.0 t), rest)

  module _ (id : GlobalId) (f : X → X) (keeps : (x : X) → key (f x) ≡ key x) where
    same-key : (x : X) → key (changed key id f x) ≡ key x
    same-key x = by_test (same_id (key x) id)
      where
        by_test : (b : Bool) → key (cond b (f x) x) ≡ key x
        by_test true = keeps x
        by_test false = refl

    pub once-changed : (xs : List X) → Once key m xs → Once key m (map (changed key id f) xs)
    once-changed [] h = tt
    once-changed (x ∷ xs) h = (
      λ e.
          ap (λ i. with_id key i (map (changed key id f) xs)) (same-key x)
          ∙ with_id-changed key id f (key x) xs keeps
          ∙ ap (option_map (changed key id f)) (h.0 (sym (ap (is_of (Some m)) (same-key x)) ∙ e)),
      once-changed xs h.1,
    )

    pub absent-unchanged : (xs : List X) (i : GlobalId) → with_id key i xs ≡ None →
        with_id key i (map (changed key id f) xs) ≡ None
    absent-unchanged xs i e = with_id-changed key id f i xs keeps ∙ ap (option_map (changed key id f)) e

    pub others-unchanged : (xs : List X) (i : GlobalId) → same_id i id ≡ false →
        with_id key i (map (changed key id f) xs) ≡ with_id key i xs
    others-unchanged xs i e =
        with_id-changed key id f i xs keeps ∙ by_element (with_id key i xs) refl
      where
        by_element : (o : Option X) → with_id key i xs ≡ o → option_map (changed key id f) o ≡ o
        by_element None h = refl
        by_element (Some x) h =
            ap (λ b. Some (cond b (f x) x)) (ap (λ j. same_id j id) (has_id key i xs x h) ∙ e)

-- ---- environments
mapped : {X A : Type 0} (f : X → A) (b : Bool) (o p : Option X) →
    option_map f (cond b o p) ≡ cond b (option_map f o) (option_map f p)
mapped f true o p = refl
mapped f false o p = refl

module _ (m : ModuleId) (G H : Entries) where
  abbrev of_family : FamilyEntry → Family
  of_family F = F.family

  abbrev of_definition : DefinitionEntry → Definition
  of_definition D = D.definition

  -- the module's part of H, put among what stands in G
  pub adopted-beside : Once family_id m H.families → Once definition_id m H.definitions → Lacks m (env G) →
      env (adopted G (part_at m H)) ≡ beside m (env H) (env G)
  adopted-beside families definitions lacks =
      ap₂ (λ fs ds. record { family = fs; definition = ds }) (fun_ext family-so) (fun_ext definition-so)
    where
      family-so : (f : GlobalId) → (env (adopted G (part_at m H))).family f ≡ (beside m (env H) (env G)).family f
      family-so f =
          ap (option_map of_family)
          (adopted-found family_id m H.families G.families families
          (λ i e. no-entry of_family (with_id family_id i G.families) (lacks.families i e)) f)
          ∙ mapped of_family (is_of (Some m) f) (with_id family_id f H.families) (with_id family_id f G.families)

      definition-so : (d : GlobalId) →
          (env (adopted G (part_at m H))).definition d ≡ (beside m (env H) (env G)).definition d
      definition-so d =
          ap (option_map of_definition)
          (adopted-found definition_id m H.definitions G.definitions definitions
          (λ i e. no-entry of_definition (with_id definition_id i G.definitions) (lacks.definitions i e)) d)
          ∙ mapped of_definition (is_of (Some m) d) (with_id definition_id d H.definitions)
          (with_id definition_id d G.definitions)
