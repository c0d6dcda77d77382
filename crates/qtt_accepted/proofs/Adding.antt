-- What a module's items add: each is under an id of the module, once, and what stood before stands as it was.
use Rattle.std.proofs.Common.{◌≡◌, ℕ, true, List, length, map, ◌⊎◌, inl, inr, Some, None, option_map, refl, sym, ap, subst, ◌∙◌, arith}
use Rattle.std.proofs.lemmas.Bool.{eqb-true, eq-eqb}
use Rattle.qtt_base.specs.declared.place.GlobalId.{GlobalId}
use Rattle.qtt_term.specs.Term.{same_id}
use Rattle.qtt_term.specs.Signature.{Family, Definition}
use Rattle.qtt_term.specs.Keyed.{is_of, with_id}
use Rattle.qtt_term.specs.Items.{FamilyEntry, DefinitionEntry, family_id, definition_id, given_body}
use Rattle.qtt_term.specs.Entries.{Entries, env, with_family, with_definition}
use Rattle.qtt_module.specs.Declarations.{Declaration}
use Rattle.qtt_module.specs.Sides.{Given}
use Rattle.qtt_module.specs.Module.{Home, item_of, Signed, Stage, start, after_family, after_signature, after_group, with_clauses}
use Rattle.qtt_module.specs.ModuleRules.{Declares, DeclaresAll}
use Rattle.qtt_accepted.specs.Members.{Among}
use Rattle.qtt_accepted.specs.Stages.{FreshFrom}
use Rattle.qtt_accepted.proofs.Added.{Added, apart, no-entry}
use Rattle.qtt_accepted.proofs.Adopted.{Once, other-module, other-first, once-none, once-inserted, once-changed, absent-unchanged, others-unchanged}
use Rattle.qtt_accepted.proofs.Beside.{Adds, Lacks}
use Rattle.qtt_accepted.proofs.Families.{family-entry}
use Rattle.qtt_accepted.proofs.Signed.{definition-added}
use Rattle.qtt_accepted.proofs.Stages.{at-end, in-image, hit, other-item}
use Rattle.qtt_accepted.proofs.Turns.{family-id, signature-id, named_so}

abbrev of_family : FamilyEntry → Family
of_family F = F.family

abbrev of_definition : DefinitionEntry → Definition
of_definition D = D.definition

-- ---- ids of the module
pub its-item : (M : Home) (n : ℕ) → is_of (Some M.id) (item_of M n) ≡ true
its-item M n = eq-eqb M.id.0 M.id.0 refl

pub is-item : (M : Home) (i : GlobalId) → is_of (Some M.id) i ≡ true → item_of M i.item ≡ i
is-item M i e =
    ap (λ (k : ℕ). record { «module» = record { 0 = k }; item = i.item }) (sym (eqb-true i.module.0 M.id.0 e))

-- where all its items are new none of its ids is there
pub fresh-lacks : (M : Home) (G : Entries) → FreshFrom M 0 G → Lacks M.id (env G)
fresh-lacks M G f = record {
  families = λ i e. ap (env G).family (sym (is-item M i e)) ∙ (f i.item (omega arith)).0;
  definitions = λ i e. ap (env G).definition (sym (is-item M i e)) ∙ (f i.item (omega arith)).1;
}

-- ---- what holds between two items
pub record AddsItems (M : Home) (G : Entries) (S : Stage) : Type 0 where
  pub adds : Adds M.id (env G) (env S.globals)
  pub families_once : Once family_id M.id S.globals.families
  pub definitions_once : Once definition_id M.id S.globals.definitions
  pub fresh : FreshFrom M S.next S.globals
  pub signed : (x : Signed) → Among x S.signed → is_of (Some M.id) x.id ≡ true

module _ (M : Home) (G : Entries) where
  pub starts-adding : FreshFrom M 0 G → AddsItems M G (start G)
  starts-adding f =
      let lacks = fresh-lacks M G f in
      record {
        adds = record { families = λ i e. refl; definitions = λ i e. refl };
        families_once = once-none family_id M.id G.families
            (λ i e. no-entry of_family (with_id family_id i G.families) (lacks.families i e));
        definitions_once = once-none definition_id M.id G.definitions
            (λ i e. no-entry of_definition (with_id definition_id i G.definitions) (lacks.definitions i e));
        fresh = f;
        signed = λ x a. elim a [ ];
      }

  of-module : {n : ℕ} {i : GlobalId} → i ≡ item_of M n → is_of (Some M.id) i ≡ true
  of-module {n} {i} e = ap (is_of (Some M.id)) e ∙ its-item M n

  -- ---- a family
  module _ (S : Stage) (a : AddsItems M G S) (F : FamilyEntry) (count : ℕ) (i : F.id ≡ item_of M S.next) where
    new-family : (env S.globals).family F.id ≡ None
    new-family = ap (env S.globals).family i ∙ (a.fresh S.next (omega arith)).0

    family-added : Added F.id F.family (env S.globals).family (env (with_family F S.globals)).family
    family-added = family-entry S.globals F new-family

    adds-family : AddsItems M G (after_family F count S)
    adds-family = record {
      adds = record {
        families = λ f e.
            sym (apart family-added f (other-module M.id F.id f (of-module i) e)) ∙ a.adds.families f e;
        definitions = a.adds.definitions;
      };
      families_once = once-inserted family_id M.id F S.globals.families
          (no-entry of_family (with_id family_id F.id S.globals.families) new-family) a.families_once;
      definitions_once = a.definitions_once;
      fresh = λ n l. (
        sym (apart family-added (item_of M n)
            (ap (λ z. same_id z (item_of M n)) i ∙ other-item M S.next n (λ s. absurd (omega (arith, l, s)))))
            ∙ (a.fresh n (omega (arith, l))).0,
        (a.fresh n (omega (arith, l))).1,
      );
      signed = a.signed;
    }

  -- ---- a signature
  module _ (S : Stage) (a : AddsItems M G S) (D : DefinitionEntry) (x : Signed) (i : D.id ≡ item_of M S.next)
      (j : x.id ≡ item_of M S.next) where
    new-definition : (env S.globals).definition D.id ≡ None
    new-definition = ap (env S.globals).definition i ∙ (a.fresh S.next (omega arith)).1

    signature-added : Added D.id D.definition (env S.globals).definition
        (env (with_definition D S.globals)).definition
    signature-added = definition-added S.globals D new-definition

    of-signed : (y : Signed) → Among y S.signed ⊎ (y ≡ x) → is_of (Some M.id) y.id ≡ true
    of-signed y (inl b) = a.signed y b
    of-signed y (inr e) = of-module (ap (λ (z : Signed). z.id) e ∙ j)

    adds-signature : AddsItems M G (after_signature D x S)
    adds-signature = record {
      adds = record {
        families = a.adds.families;
        definitions = λ d e.
            sym (apart signature-added d (other-module M.id D.id d (of-module i) e)) ∙ a.adds.definitions d e;
      };
      families_once = a.families_once;
      definitions_once = once-inserted definition_id M.id D S.globals.definitions
          (no-entry of_definition (with_id definition_id D.id S.globals.definitions) new-definition)
          a.definitions_once;
      fresh = λ n l. (
        (a.fresh n (omega (arith, l))).0,
        sym (apart signature-added (item_of M n)
            (ap (λ z. same_id z (item_of M n)) i ∙ other-item M S.next n (λ s. absurd (omega (arith, l, s)))))
            ∙ (a.fresh n (omega (arith, l))).1,
      );
      signed = λ y b. of-signed y (at-end y x S.signed b);
    }

  -- ---- a group of clauses
  signed-behind : (S : Stage) (n : List ℕ) → AddsItems M G S → (y : Signed) →
      Among y (map (with_clauses n) S.signed) → is_of (Some M.id) y.id ≡ true
  signed-behind S n a y b =
      let r = in-image (with_clauses n) S.signed y b in
      subst (λ (z : Signed). is_of (Some M.id) z.id ≡ true) r.is (a.signed r.source r.among)

  adds-group : (S : Stage) → AddsItems M G S → (n : List ℕ) (d : GlobalId) → is_of (Some M.id) d ≡ true →
      (g : Given) → AddsItems M G (after_group n d g S)
  adds-group S a n d its (Given.holes hs) = record {
    adds = a.adds;
    families_once = a.families_once;
    definitions_once = a.definitions_once;
    fresh = a.fresh;
    signed = signed-behind S n a;
  }
  adds-group S a n d its (Given.body b) = record {
    adds = record {
      families = a.adds.families;
      definitions = λ i e.
          ap (option_map of_definition)
          (others-unchanged definition_id M.id d (given_body b) (λ D. refl) S.globals.definitions i
          (other-first M.id i d e its)) ∙ a.adds.definitions i e;
    };
    families_once = a.families_once;
    definitions_once = once-changed definition_id M.id d (given_body b) (λ D. refl) S.globals.definitions
        a.definitions_once;
    fresh = λ k l. (
      (a.fresh k l).0,
      ap (option_map of_definition)
          (absent-unchanged definition_id M.id d (given_body b) (λ D. refl) S.globals.definitions (item_of M k)
          (no-entry of_definition (with_id definition_id (item_of M k) S.globals.definitions) (a.fresh k l).1)),
    );
    signed = signed-behind S n a;
  }

  -- ---- items in turn
  adds-one : {S T : Stage} {d : Declaration} → Declares M S d T → AddsItems M G S → AddsItems M G T
  adds-one {S} (Declares.family {cs = cs} {F = F} f) a = adds-family S a F (length cs) (family-id f)
  adds-one {S} (Declares.signature {d = d} s) a = adds-signature S a d _ (signature-id s).id refl
  adds-one {S} (Declares.group {n = n} {x = x} {g = g} e h) a =
      adds-group S a n x.id (a.signed x (hit (named_so n) S.signed x e).among) g

  pub adds-all : {S T : Stage} {ds : List Declaration} → DeclaresAll M S ds T → AddsItems M G S → AddsItems M G T
  adds-all (DeclaresAll.last h) a = a
  adds-all (DeclaresAll.more d ds) a = adds-all ds (adds-one d a)
