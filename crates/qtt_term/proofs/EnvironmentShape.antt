-- The test of whether an environment is in shape.
use Rattle.std.proofs.Common.{◌≡◌, ◌↔◌, ℕ, List, [], ◌∷◌, map, length, Option, Some, None, option_map, IsTrue, Bool, true, false, ◌&&◌, cond, eqb, refl, sym, ap, ◌∙◌, subst}
use mathlib.Core.Path.{ap₂}
use Rattle.std.specs.List.{list_all}
use Rattle.std.proofs.lemmas.Bool.{and_parts, and_from}
use Rattle.std.proofs.lemmas.List.Folds.{list_all-map}
use Rattle.qtt_base.specs.declared.place.GlobalId.{GlobalId}
use Rattle.qtt_usage.specs.declared.mult.Mult.{Mult}
use Rattle.qtt_usage.specs.Mult.{𝟘}
use Rattle.qtt_term.specs.declared.globals.Globals.{Globals}
use Rattle.qtt_term.specs.declared.term.Term as code
use Rattle.qtt_term.specs.declared.items.Constructor as code_constructor
use Rattle.qtt_term.specs.declared.items.Definition as code_definition
use Rattle.qtt_term.specs.declared.items.Family as code_family
use Rattle.qtt_term.specs.Term.{Term, same_id}
use Rattle.qtt_term.specs.Signature.{Constructor, Family, Definition, Env}
use Rattle.qtt_term.specs.Environment.{HasPrim}
use Rattle.qtt_term.specs.Keyed.{id_before, ascends, with_id}
use Rattle.qtt_term.specs.Items.{field, constructor, family, definition, family_entry, definition_entry, family_id, definition_id}
use Rattle.qtt_term.specs.Globals.{env, families, definitions}
use Rattle.qtt_term.specs.Shape.{in_shape, all_in_shape, constructor_in_shape, family_in_shape, definition_in_shape, EnvInShape}
use Rattle.qtt_term.specs.View.{term, terms, side_by_side}
use Rattle.qtt_term.proofs.Components.{same_lists}
use Rattle.qtt_term.proofs.Order.{before-differs, found_first, found_behind, has_id}
use Rattle.qtt_term.proofs.Tests.{all-counted}

-- ---- items
side-all : (E : Env) (ts : List Term) → all_in_shape E (side_by_side ts) ≡ list_all (in_shape E) ts
side-all E [] = refl
side-all E (t ∷ ts) = ap (λ b. in_shape E t && b) (side-all E ts)

pub constructor-tests : (E : Env) (c : code_constructor.Constructor) (a b : Bool) →
    a ≡ list_all (λ v. in_shape E (term v.1)) c.fields.items →
    b ≡ all_in_shape E (side_by_side (terms c.result.items)) →
    (a && b) ≡ constructor_in_shape E (constructor c)
constructor-tests E c a b d e =
    ap₂ (λ a b. a && b) (d ∙ sym (list_all-map (λ b. in_shape E b.1) field c.fields.items)) e

pub family-tests : (E : Env) (F : code_family.Family) (a b c d : Bool) →
    a ≡ all_in_shape E (side_by_side (terms F.params.items)) →
    b ≡ all_in_shape E (side_by_side (terms F.indices.items)) →
    c ≡ list_all (λ c. constructor_in_shape E (constructor c)) F.constructors.items →
    d ≡ list_all (λ c. eqb (length c.result.items) (length F.indices.items)) F.constructors.items →
    (a && (b && (c && d))) ≡ family_in_shape E (family F)
family-tests E F a b c d ea eb ec ed =
    let params = ea ∙ side-all E (terms F.params.items)
    ∙ sym (list_all-map {X = Mult × Term} (λ b. in_shape E b.1) (λ t. (𝟘, t)) (terms F.params.items)) in
    let constructors = ec ∙ sym (list_all-map (constructor_in_shape E) constructor F.constructors.items) in
    ap₂ (λ a b. a && b) params
    (ap₂ (λ a b. a && b) (eb ∙ side-all E (terms F.indices.items))
    (ap₂ (λ a b. a && b) constructors (ed ∙ sym (all-counted F))))

-- ---- the families of Prim
unerased : (ts : List Term) → map (λ b. b.1) (map {B = Mult × Term} (λ t. (𝟘, t)) ts) ≡ ts
unerased [] = refl
unerased (t ∷ ts) = ap (λ ts. t ∷ ts) (unerased ts)

abbrev family_with : List Term → List Term → ℕ → List Constructor → Family
family_with ps is l cs = record { params = map (λ t. (𝟘, t)) ps; indices = is; level = l; constructors = cs }

pub header-is : (F : code_family.Family) (ps is : List code.Term) (l a b : Bool) →
    IsTrue l ↔ (F.level ≡ 0) → IsTrue a ↔ (terms F.params.items ≡ terms ps) →
    IsTrue b ↔ (terms F.indices.items ≡ terms is) →
    IsTrue (l && (a && b)) ↔ (family F ≡ family_with (terms ps) (terms is) 0 (map constructor F.constructors.items))
header-is F ps is l a b el ea eb = (to, from)
  where
    cs : List Constructor
    cs = map constructor F.constructors.items

    to : IsTrue (l && (a && b)) → family F ≡ family_with (terms ps) (terms is) 0 cs
    to h =
        let p = and_parts l (a && b) h in
        let q = and_parts a b p.1 in
        ap₂ (λ ps is. family_with ps is F.level cs) (ea.0 q.0) (eb.0 q.1)
        ∙ ap (λ n. family_with (terms ps) (terms is) n cs) (el.0 p.0)

    from : family F ≡ family_with (terms ps) (terms is) 0 cs → IsTrue (l && (a && b))
    from e =
        and_from l (a && b) (el.1 (ap (λ F. F.level) e))
        (and_from a b
        (ea.1 (sym (unerased (terms F.params.items)) ∙ ap (λ F. map (λ b. b.1) F.params) e ∙ unerased (terms ps)))
        (eb.1 (ap (λ F. F.indices) e)))

pub constructor-is : (c : code_constructor.Constructor) (fs : List (Mult × code.Term)) (ts : List code.Term)
    (a b : Bool) → IsTrue a ↔ (map field c.fields.items ≡ map field fs) →
    IsTrue b ↔ (terms c.result.items ≡ terms ts) →
    IsTrue (a && b) ↔ (constructor c ≡ record { fields = map field fs; results = side_by_side (terms ts) })
constructor-is c fs ts a b ea eb = (to, from)
  where
    made : Constructor
    made = record { fields = map field fs; results = side_by_side (terms ts) }

    to : IsTrue (a && b) → constructor c ≡ made
    to h =
        let p = and_parts a b h in
        ap₂ (λ fs ts. record { fields = fs; results = side_by_side ts }) (ea.0 p.0) (eb.0 p.1)

    from : constructor c ≡ made → IsTrue (a && b)
    from e =
        and_from a b (ea.1 (ap (λ c. c.fields) e))
        (eb.1 (same_lists (terms c.result.items) (terms ts) (ap (λ c. c.results) e)))

-- ---- all items
-- what a test says of all elements it says of each that is found
all-found : {X : Type 0} (key : X → GlobalId) (p : X → Bool) (xs : List X) → list_all p xs ≡ true →
    (id : GlobalId) (x : X) → with_id key id xs ≡ Some x → p x ≡ true
all-found key p [] h id x e = absurd (cc e)
all-found {X} key p (y ∷ ys) h id x e =
    by_test (same_id (key y) id) refl
    (all-found key p ys (and_parts (p y) (list_all p ys) h).1 id x)
  where
    by_test : (b : Bool) → same_id (key y) id ≡ b → (with_id key id ys ≡ Some x → p x ≡ true) → p x ≡ true
    by_test true t later =
        let first : Some y ≡ Some x = sym (ap (λ b. cond b (Some y) (with_id key id ys)) t) ∙ e in
        let same : y ≡ x = cc first in
        subst (λ x. p x ≡ true) same (and_parts (p y) (list_all p ys) h).0
    by_test false t later = later (sym (found_behind key id y ys t) ∙ e)

before-found : {X : Type 0} (key : X → GlobalId) (y x : X) (ys : List X) (id : GlobalId) →
    list_all (λ z. id_before (key y) (key z)) ys ≡ true → with_id key id ys ≡ Some x →
    with_id key id (y ∷ ys) ≡ Some x
before-found key y x ys id h e =
    let before = all-found key (λ z. id_before (key y) (key z)) ys h id x e in
    let same = has_id key id ys x e in
    found_behind key id y ys (subst (λ k. same_id (key y) k ≡ false) same (before-differs (key y) (key x) before)) ∙ e

-- and in the order of ids each is found
found-all : {X : Type 0} (key : X → GlobalId) (p : X → Bool) (xs : List X) → ascends key xs ≡ true →
    ((id : GlobalId) (x : X) → with_id key id xs ≡ Some x → p x ≡ true) → list_all p xs ≡ true
found-all key p [] up h = refl
found-all key p (y ∷ ys) up h =
    let (first, later) = and_parts (list_all (λ z. id_before (key y) (key z)) ys) (ascends key ys) up in
    and_from (p y) (list_all p ys) (h (key y) y (found_first key (key y) y ys refl))
    (found-all key p ys later (λ id x e. h id x (before-found key y x ys id first e)))

mapped : {X Y : Type 0} (f : X → Y) (o : Option X) (y : Y) → option_map f o ≡ Some y →
    (x : X) × (o ≡ Some x) × (f x ≡ y)
mapped f None y e = absurd (cc e)
mapped f (Some x) y e = (x, refl, cc e)

module _ (g : Globals) where
  families-are : list_all (λ e. family_in_shape (env g) e.family) (families g) ≡ true →
      (f : GlobalId) (F : Family) → (env g).family f ≡ Some F → IsTrue (family_in_shape (env g) F)
  families-are h f F e =
      let (x, d, s) = mapped (λ e. e.family) (with_id family_id f (families g)) F e in
      subst (λ F. family_in_shape (env g) F ≡ true) s
      (all-found family_id (λ e. family_in_shape (env g) e.family) (families g) h f x d)

  definitions-are : list_all (λ e. definition_in_shape (env g) e.definition) (definitions g) ≡ true →
      (d : GlobalId) (D : Definition) → (env g).definition d ≡ Some D → IsTrue (definition_in_shape (env g) D)
  definitions-are h d D e =
      let (x, t, s) = mapped (λ e. e.definition) (with_id definition_id d (definitions g)) D e in
      subst (λ D. definition_in_shape (env g) D ≡ true) s
      (all-found definition_id (λ e. definition_in_shape (env g) e.definition) (definitions g) h d x t)

  pub environment-is : (Fs : List code_family.Family) (Ds : List code_definition.Definition) (a b c : Bool) →
      map family_entry Fs ≡ families g → map definition_entry Ds ≡ definitions g →
      IsTrue a ↔ HasPrim (env g) → b ≡ list_all (λ F. family_in_shape (env g) (family F)) Fs →
      c ≡ list_all (λ d. definition_in_shape (env g) (definition d)) Ds → IsTrue (a && (b && c)) ↔ EnvInShape (env g)
  environment-is Fs Ds a b c eF eD ea eb ec = (to, from)
    where
      all_families : b ≡ list_all (λ e. family_in_shape (env g) e.family) (families g)
      all_families = eb ∙ sym (list_all-map (λ e. family_in_shape (env g) e.family) family_entry Fs)
          ∙ ap (list_all (λ e. family_in_shape (env g) e.family)) eF

      all_definitions : c ≡ list_all (λ e. definition_in_shape (env g) e.definition) (definitions g)
      all_definitions = ec ∙ sym (list_all-map (λ e. definition_in_shape (env g) e.definition) definition_entry Ds)
          ∙ ap (list_all (λ e. definition_in_shape (env g) e.definition)) eD

      to : IsTrue (a && (b && c)) → EnvInShape (env g)
      to h =
          let p = and_parts a (b && c) h in
          let q = and_parts b c p.1 in
          record {
            prims = ea.0 p.0;
            families = families-are (sym all_families ∙ q.0);
            definitions = definitions-are (sym all_definitions ∙ q.1);
          }

      from : EnvInShape (env g) → IsTrue (a && (b && c))
      from h =
          and_from a (b && c) (ea.1 h.prims)
          (and_from b c
          (all_families ∙ found-all family_id (λ e. family_in_shape (env g) e.family) (families g) g.families_ascend
          (λ id x e. h.families id x.family (ap (option_map (λ e. e.family)) e)))
          (all_definitions ∙ found-all definition_id (λ e. definition_in_shape (env g) e.definition) (definitions g)
          g.definitions_ascend
          (λ id x e. h.definitions id x.definition (ap (option_map (λ e. e.definition)) e))))
