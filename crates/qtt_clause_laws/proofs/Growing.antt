-- How environments become larger.
use Rattle.std.proofs.Common.{◌≡◌, List, [], ◌∷◌, ◌++◌, Option, Some, None, option_map, Bool, true, false, cond, refl, sym, ◌∙◌, ap, subst}
use Rattle.qtt_base.specs.declared.place.GlobalId.{GlobalId}
use Rattle.qtt_syntax.specs.Tree.{Shape, Shapes}
use Rattle.qtt_syntax.specs.Tree.Shape.{variable, wildcard, constructor, dot}
use Rattle.qtt_syntax.specs.Tree.Shapes.{no_shape, shape_and}
use Rattle.qtt_term.specs.Term.{Term, same_id}
use Rattle.qtt_term.specs.Signature.{Family, Definition, Env, There, definition_of, definition_at}
use Rattle.qtt_term.specs.Keyed.{with_id, inserted}
use Rattle.qtt_term.specs.Items.{FamilyEntry, DefinitionEntry, family_id, definition_id, given_body}
use Rattle.qtt_term.specs.Entries.{Entries, env, with_family, with_definition, with_body}
use Rattle.qtt_term.proofs.Same.{same_id-is}
use Rattle.qtt_term.proofs.Order.{with_id-inserted, with_id-changed}
use Rattle.qtt_preserve.specs.Grows.{FamilyGrows, DefinitionGrows, Grows, FamiliesStay}
use Rattle.qtt_match.specs.Constructors.{named_constructor}
use Rattle.qtt_split.specs.Node.{Clause}
use Rattle.qtt_clause_laws.specs.Larger.{NamedAlike, AllNamedAlike, PatternsAlike, ClausesAlike, Larger, EnvironmentsAreLarger}
use Rattle.qtt_clause_laws.proofs.Columns.{append-assoc}

-- ---- names over the same families
module _ (K L : Entries) (e : K.families ≡ L.families) where
  mutual
    named-same : (p : Shape) → NamedAlike K L p
    named-same (variable m n s) = tt
    named-same (wildcard m s) = tt
    named-same (dot m x s) = tt
    named-same (constructor m h ps s) = (ap (λ Fs. named_constructor Fs h.target) e, all-named-same ps)

    all-named-same : (ps : Shapes) → AllNamedAlike K L ps
    all-named-same no_shape = tt
    all-named-same (shape_and p ps) = (named-same p, all-named-same ps)

  patterns-same : (ps : List Shape) → PatternsAlike K L ps
  patterns-same [] = tt
  patterns-same (p ∷ ps) = (named-same p, patterns-same ps)

  clauses-same : (cs : List Clause) → ClausesAlike K L cs
  clauses-same [] = tt
  clauses-same (c ∷ cs) = (patterns-same c.patterns, clauses-same cs)

-- ---- one after another
module _ (K L M : Entries) where
  mutual
    named-thence : (p : Shape) → NamedAlike K L p → NamedAlike L M p → NamedAlike K M p
    named-thence (variable m n s) h k = tt
    named-thence (wildcard m s) h k = tt
    named-thence (dot m x s) h k = tt
    named-thence (constructor m g ps s) h k = (h.0 ∙ k.0, all-named-thence ps h.1 k.1)

    all-named-thence : (ps : Shapes) → AllNamedAlike K L ps → AllNamedAlike L M ps → AllNamedAlike K M ps
    all-named-thence no_shape h k = tt
    all-named-thence (shape_and p ps) h k = (named-thence p h.0 k.0, all-named-thence ps h.1 k.1)

  patterns-thence : (ps : List Shape) → PatternsAlike K L ps → PatternsAlike L M ps → PatternsAlike K M ps
  patterns-thence [] h k = tt
  patterns-thence (p ∷ ps) h k = (named-thence p h.0 k.0, patterns-thence ps h.1 k.1)

  clauses-thence : (cs : List Clause) → ClausesAlike K L cs → ClausesAlike L M cs → ClausesAlike K M cs
  clauses-thence [] h k = tt
  clauses-thence (c ∷ cs) h k = (patterns-thence c.patterns h.0 k.0, clauses-thence cs h.1 k.1)

append-nothing : {A : Type 0} (xs : List A) → xs ++ [] ≡ xs
append-nothing [] = refl
append-nothing (x ∷ xs) = ap (λ ys. x ∷ ys) (append-nothing xs)

family-same : (F : Family) → FamilyGrows F F
family-same F = record {
  params = refl;
  indices = refl;
  level = refl;
  added = [];
  constructors = append-nothing F.constructors;
}

definition-same : (A : Definition) → DefinitionGrows A A
definition-same A = record { mult = refl; type = refl; body = λ b h. h }

grows-thence : {D E F : Env} → Grows D E → Grows E F → Grows D F
grows-thence g h = record {
  families = λ f A e.
      (let x = g.families f A e in
      let y = h.families f x.0 x.1 in (
        y.0,
        y.1,
        record {
          params = x.2.params ∙ y.2.params;
          indices = x.2.indices ∙ y.2.indices;
          level = x.2.level ∙ y.2.level;
          added = x.2.added ++ y.2.added;
          constructors = sym (append-assoc A.constructors x.2.added y.2.added)
              ∙ ap (λ cs. cs ++ y.2.added) x.2.constructors ∙ y.2.constructors;
        },
      ));
  definitions = λ d A e.
      (let x = g.definitions d A e in
      let y = h.definitions d x.0 x.1 in (
        y.0,
        y.1,
        record {
          mult = x.2.mult ∙ y.2.mult;
          type = x.2.type ∙ y.2.type;
          body = λ b k. y.2.body b (x.2.body b k);
        },
      ));
}

some-there : {A : Type 0} (o q : Option A) → There o → o ≡ q → There q
some-there o q h e = subst There e h

stays-thence : (D E F : Env) → FamiliesStay D E → FamiliesStay E F → FamiliesStay D F
stays-thence D E F g h = λ f k. g f k ∙ h f (some-there (D.family f) (E.family f) k (g f k))

-- ---- what is found by its id
found-id : {X : Type 0} (key : X → GlobalId) (id : GlobalId) (xs : List X) (x : X) → with_id key id xs ≡ Some x →
    same_id (key x) id ≡ true
found-id key id [] x e = absurd (cc e)
found-id {X} key id (y ∷ ys) x e = by-test (same_id (key y) id) refl (found-id key id ys x) e
  where
    by-test : (b : Bool) → same_id (key y) id ≡ b → (with_id key id ys ≡ Some x → same_id (key x) id ≡ true) →
        cond b (Some y) (with_id key id ys) ≡ Some x → same_id (key x) id ≡ true
    by-test true q k f = subst (λ z. same_id (key z) id ≡ true) (cc f) q
    by-test false q k f = k f

kept : {X : Type 0} (key : X → GlobalId) (x : X) (xs : List X) (id : GlobalId) (y : X) →
    with_id key (key x) xs ≡ None → with_id key id xs ≡ Some y → with_id key id (inserted key x xs) ≡ Some y
kept {X} key x xs id y n e =
    with_id-inserted key x xs id n ∙ by-test (same_id (key x) id) refl
  where
    by-test : (b : Bool) → same_id (key x) id ≡ b → cond b (Some x) (with_id key id xs) ≡ Some y
    by-test true q = absurd (cc (sym n ∙ ap (λ i. with_id key i xs) (same_id-is (key x) id q) ∙ e))
    by-test false q = e

family-there : (o : Option FamilyEntry) → There (option_map (λ (e : FamilyEntry). e.family) o) →
    (F : FamilyEntry) × (o ≡ Some F)
family-there (Some F) h = (F, refl)
family-there None h = absurd h

mapped : {X Y : Type 0} (g : X → Y) (o : Option X) (y : Y) → option_map g o ≡ Some y →
    (x : X) × (o ≡ Some x) × (g x ≡ y)
mapped g None y e = absurd (cc e)
mapped g (Some x) y e = (x, refl, cc e)

-- ---- the ways to grow
itself : (K : Entries) (cs : List Clause) → Larger K K cs
itself K cs = record {
  grows = record {
    families = λ f F e. (F, e, family-same F);
    definitions = λ d A e. (A, e, definition-same A);
  };
  stays = λ f h. refl;
  names = clauses-same K K refl cs;
}

thence : (K L M : Entries) (cs : List Clause) → Larger K L cs → Larger L M cs → Larger K M cs
thence K L M cs g h = record {
  grows = grows-thence g.grows h.grows;
  stays = stays-thence (env K) (env L) (env M) g.stays h.stays;
  names = clauses-thence K L M cs g.names h.names;
}

definition_added : (K : Entries) (D : DefinitionEntry) (cs : List Clause) →
    with_id definition_id D.id K.definitions ≡ None → Larger K (with_definition D K) cs
definition_added K D cs n = record {
  grows = record {
    families = λ f F e. (F, e, family-same F);
    definitions = λ d A e.
        (let m = mapped (λ (x : DefinitionEntry). x.definition) (with_id definition_id d K.definitions) A e in (
          A,
          ap (option_map (λ (x : DefinitionEntry). x.definition)) (kept definition_id D K.definitions d m.0 n m.1)
              ∙ ap Some m.2,
          definition-same A,
        ));
  };
  stays = λ f h. refl;
  names = clauses-same K (with_definition D K) refl cs;
}

family_added : (K : Entries) (F : FamilyEntry) (cs : List Clause) → with_id family_id F.id K.families ≡ None →
    ClausesAlike K (with_family F K) cs → Larger K (with_family F K) cs
family_added K F cs n a = record {
  grows = record {
    families = λ f A e.
        (let m = mapped (λ (x : FamilyEntry). x.family) (with_id family_id f K.families) A e in (
          A,
          ap (option_map (λ (x : FamilyEntry). x.family)) (kept family_id F K.families f m.0 n m.1) ∙ ap Some m.2,
          family-same A,
        ));
    definitions = λ d A e. (A, e, definition-same A);
  };
  stays = λ f h.
      (let m = family-there (with_id family_id f K.families) h in
      ap (option_map (λ (x : FamilyEntry). x.family)) (m.1 ∙ sym (kept family_id F K.families f m.0 n m.1)));
  names = a;
}

given-grows : (b : Term) (d : GlobalId) (x : DefinitionEntry) → (same_id x.id d ≡ true → x.definition.body ≡ None) →
    (t : Bool) → same_id x.id d ≡ t →
    DefinitionGrows x.definition (cond t (given_body b x) x).definition
given-grows b d x h true e = record { mult = refl; type = refl; body = λ c k. absurd (cc (sym (h e) ∙ k)) }
given-grows b d x h false e = definition-same x.definition

body_added : (K : Entries) (d : GlobalId) (b : Term) (cs : List Clause) → (definition_at (env K) d).body ≡ None →
    Larger K (with_body d b K) cs
body_added K d b cs n = record {
  grows = record {
    families = λ f F e. (F, e, family-same F);
    definitions = λ i A e.
        (let m = mapped (λ (x : DefinitionEntry). x.definition) (with_id definition_id i K.definitions) A e in
        let is : same_id m.0.id i ≡ true = found-id definition_id i K.definitions m.0 m.1 in
        let bare : same_id m.0.id d ≡ true → m.0.definition.body ≡ None = λ q.
        ap (λ o. (definition_of (option_map (λ (x : DefinitionEntry). x.definition) o)).body)
        (sym m.1 ∙ ap (λ j. with_id definition_id j K.definitions)
        (sym (same_id-is m.0.id i is) ∙ same_id-is m.0.id d q)) ∙ n in (
          (cond (same_id m.0.id d) (given_body b m.0) m.0).definition,
          ap (option_map (λ (x : DefinitionEntry). x.definition))
              (with_id-changed definition_id d (given_body b) i K.definitions (λ D. refl)
              ∙ ap (option_map (λ (D : DefinitionEntry). cond (same_id D.id d) (given_body b D) D)) m.1),
          subst (λ A. DefinitionGrows A (cond (same_id m.0.id d) (given_body b m.0) m.0).definition) m.2
              (given-grows b d m.0 bare (same_id m.0.id d) refl),
        ));
  };
  stays = λ f h. refl;
  names = clauses-same K (with_body d b K) refl cs;
}

pub environments_are_larger : EnvironmentsAreLarger
environments_are_larger = record {
  itself = itself;
  thence = thence;
  body_added = body_added;
  definition_added = definition_added;
  family_added = family_added;
}
