-- The families of Prim, as they come into an environment.
use Rattle.std.proofs.Common.{◌≡◌, ◌<◌, ◌^◌, List, [], ◌∷◌, length, Option, Some, None, option_map, is_none, Bool, true, false, ◌&&◌, cond, eqb, refl, sym, ap, ◌∙◌, arith, lit<}
use Rattle.std.specs.List.{list_all}
use Rattle.std.proofs.lemmas.List.{length-map}
use Rattle.std.proofs.lemmas.Bool.Decides.{nat_tests}
use mathlib.Core.Path.{fun_ext, ap₂}
use Rattle.qtt_base.specs.declared.place.GlobalId.{GlobalId}
use Rattle.qtt_term.specs.declared.globals.Globals.{Globals}
use Rattle.qtt_term.specs.declared.items.Family as code_family
use Rattle.qtt_term.specs.Term.{same_id}
use Rattle.qtt_term.specs.Signature.{Family, bool_id, line_id, eq_id, bool_family, line_family, eq_family}
use Rattle.qtt_term.specs.PrimEnvironment.{prim_env, prim_family}
use Rattle.qtt_term.specs.Keyed.{with_id, inserted, ids_differ}
use Rattle.qtt_term.specs.Items.{FamilyEntry, DefinitionEntry, family_entry, constructor_entry, family_id, definition_id, constructor_of, ids, results_counted}
use Rattle.qtt_term.specs.PrimItems.{unit_entry, bool_entry, line_entry, eq_entry, prim_families}
use Rattle.qtt_term.specs.Globals.{families, definitions, env, IsNew}
use Rattle.qtt_term.specs.Entries.{EntriesAreTheEnvironment}

absent_in : List FamilyEntry → List DefinitionEntry → GlobalId → Bool
absent_in Fs ds id = is_none (with_id family_id id Fs) &&
    (is_none (constructor_of Fs id) && is_none (with_id definition_id id ds))

-- a family that is new to families that are known
pub is_new : (g : Globals) (F E : FamilyEntry) (Fs : List FamilyEntry) → families g ≡ Fs → definitions g ≡ [] →
    F ≡ E → ids_differ (ids E) ≡ true →
    list_all (λ id. eqb id.module.0 E.id.module.0) (ids E) ≡ true →
    list_all (λ id. is_none (with_id family_id id Fs) && (is_none (constructor_of Fs id) && true))
    (ids E) ≡ true → IsNew g F
unfolding absent_in
is_new g F E Fs fs ds e differ one absent = record {
  differ = ap (λ X. ids_differ (ids X)) e ∙ differ;
  one_module = ap (λ X. list_all (λ id. eqb id.module.0 X.id.module.0) (ids X)) e ∙ one;
  absent =
      ap (λ X. list_all (absent_in (families g) (definitions g)) (ids X)) e ∙
      ap (λ Gs. list_all (absent_in Gs (definitions g)) (ids E)) fs
      ∙ ap (λ xs. list_all (absent_in Fs xs) (ids E)) ds ∙ absent;
}

-- a family with few constructors
pub few : (F : code_family.Family) (E : FamilyEntry) → family_entry F ≡ E → length E.constructors < 3 →
    length F.constructors.items < 2 ^ 32
few F E e lt =
    let count : length F.constructors.items ≡ length E.constructors =
    sym (length-map F.constructors.items constructor_entry) ∙ ap (λ X. length X.constructors) e in
    let small : 3 < 2 ^ 32 = lit< tt in
    omega (arith, count, small)

pub counted : (F E : FamilyEntry) → F ≡ E → results_counted E.family ≡ true → results_counted F.family ≡ true
counted F E e h = ap (λ X. results_counted X.family) e ∙ h

-- the families after one more
pub added : (new old Fs : List FamilyEntry) (F E : FamilyEntry) → new ≡ inserted family_id F old → F ≡ E →
    old ≡ Fs → new ≡ inserted family_id E Fs
added new old Fs F E e f g = e ∙ ap (λ X. inserted family_id X old) f ∙ ap (inserted family_id E) g

id-swap : (a b : GlobalId) → same_id a b ≡ same_id b a
id-swap a b = grind (arith, nat_tests)

first_is : (E : FamilyEntry) (f : GlobalId) (o : Option FamilyEntry) (r : Option Family) →
    option_map (λ e. e.family) o ≡ r →
    option_map (λ e. e.family) (cond (same_id E.id f) (Some E) o) ≡ cond (same_id f E.id) (Some E.family) r
first_is E f o r h = by_test (same_id E.id f) ∙ ap (λ b. cond b (Some E.family) r) (id-swap E.id f)
  where
    by_test : (b : Bool) → option_map (λ e. e.family) (cond b (Some E) o) ≡ cond b (Some E.family) r
    by_test true = refl
    by_test false = h

-- they are the environment of Prim
prim-at : (f : GlobalId) → option_map (λ e. e.family) (with_id family_id f prim_families) ≡ prim_family f
prim-at f =
    first_is unit_entry f (with_id family_id f (bool_entry ∷ line_entry ∷ eq_entry ∷ []))
    (cond (same_id f bool_id) (Some bool_family)
    (cond (same_id f line_id) (Some line_family) (cond (same_id f eq_id) (Some eq_family) None)))
    (first_is bool_entry f (with_id family_id f (line_entry ∷ eq_entry ∷ []))
    (cond (same_id f line_id) (Some line_family) (cond (same_id f eq_id) (Some eq_family) None))
    (first_is line_entry f (with_id family_id f (eq_entry ∷ []))
    (cond (same_id f eq_id) (Some eq_family) None) (first_is eq_entry f None None refl)))

pub prim_is : (g : Globals) → families g ≡ prim_families → definitions g ≡ [] → env g ≡ prim_env
prim_is g fs ds =
    ap₂ (λ a b. record { family = a; definition = b })
    (fun_ext λ f. ap (λ Fs. option_map (λ e. e.family) (with_id family_id f Fs)) fs ∙ prim-at f)
    (fun_ext λ d. ap (λ xs. option_map (λ e. e.definition) (with_id definition_id d xs)) ds)

pub entries-are_the_environment : EntriesAreTheEnvironment
entries-are_the_environment = record {
  of_code = λ g. refl;
  prim = ap (λ a. record { family = a; definition = λ d. None }) (fun_ext prim-at);
}

pub three_in : (f0 f1 f2 f3 : List FamilyEntry) (U B L : FamilyEntry) → f0 ≡ [] → f1 ≡ inserted family_id U f0 →
    U ≡ unit_entry → f2 ≡ inserted family_id B f1 → B ≡ bool_entry →
    f3 ≡ inserted family_id L f2 → L ≡ line_entry → f3 ≡ unit_entry ∷ bool_entry ∷ line_entry ∷ []
three_in f0 f1 f2 f3 U B L e0 e1 u e2 b e3 l =
    added f3 f2 (unit_entry ∷ bool_entry ∷ []) L line_entry e3 l
    (added f2 f1 (unit_entry ∷ []) B bool_entry e2 b (added f1 f0 [] U unit_entry e1 u e0))
