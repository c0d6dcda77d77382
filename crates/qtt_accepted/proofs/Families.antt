-- An accepted family keeps the environment well formed.
use Rattle.std.proofs.Common.{◌≡◌, ℕ, false, List, [], ◌∷◌, ◌++◌, length, Some, None, refl, sym, ap, subst, ◌∙◌, option_map, map, ◌+◌, arith}
use Rattle.qtt_base.specs.declared.place.GlobalId.{GlobalId}
use Rattle.qtt_syntax.specs.Tree.{Tree, Param, Con}
use Rattle.qtt_term.specs.Term.{Form, Term, Terms, var, node, ε, ◌▸◌, same_id, skip}
use Rattle.qtt_term.specs.Signature.{Tele, Family, Definition, Env}
use Rattle.qtt_term.specs.Judgement.{Ctx, ext, IsType}
use Rattle.qtt_term.specs.Keyed.{with_id}
use Rattle.qtt_term.specs.Items.{ConstructorEntry, FamilyEntry, family_id}
use Rattle.qtt_term.specs.Positivity.{GoodFields, GoodConstructors}
use Rattle.qtt_term.specs.Environment.{NoTape, NoTapes, Types, TypesBeside, TypesUpTo, ConstructorFormed, ConstructorsFormed, FamilyFormed, WellFormed}
use Rattle.qtt_term.proofs.Options.{none≢some, some-injective, cond-some}
use Rattle.qtt_term.proofs.Order.{with_id-inserted}
use Rattle.qtt_term.specs.Entries.{Entries, env, with_family}
use Rattle.qtt_term.specs.Scope.{Scope, no_scope, depth}
use Rattle.qtt_core_check.proofs.Sound.{results-counted}
use Rattle.qtt_module.proofs.Declared.{family_so}
use Rattle.qtt_module.specs.Families.{Piece, Opened, Head, as_results, heading, family_with}
use Rattle.qtt_module.specs.FamilyRules.{TypeOf, FieldType, Parameters, Indices, Fields, Constructs, ConstructsAll, DeclaresFamily}
use Rattle.qtt_preserve.specs.Grows.{FamilyGrows, DefinitionGrows, Grows, FamiliesStay, CaseIn, CasesIn, AllCasesIn}
use Rattle.qtt_preserve.proofs.Grow.{typed-grows, judged-grows, family-formed-grows, definition-formed-grows}
use Rattle.qtt_accepted.specs.Tapeless.{Tapeless, NamesTapeless}
use Rattle.qtt_accepted.specs.Laws.{FamiliesKeepForm}
use Rattle.qtt_accepted.proofs.Tapes.{skip-clean}
use Rattle.qtt_accepted.proofs.Formed.{well-formed-tapeless, again-typed}
use Rattle.qtt_accepted.proofs.Results.{Reaches, parameters-reach, result-formed}
use Rattle.qtt_accepted.proofs.Elaborated.{with-name, type-of, elaborated}
use Rattle.qtt_accepted.proofs.Positive.{good_no_case}
use Rattle.qtt_accepted.proofs.Added.{Added, Comes, seen-id, kept, apart, stays, itself, no-entry, mapped, prims-stay}

-- ---- one more family
pub family-entry : (G : Entries) (F : FamilyEntry) → (env G).family F.id ≡ None →
    Added F.id F.family (env G).family (env (with_family F G)).family
family-entry G F e = record {
  is_new = e;
  all = λ x.
      ap (option_map (λ (d : FamilyEntry). d.family))
      (with_id-inserted family_id F G.families x
      (no-entry (λ (d : FamilyEntry). d.family) (with_id family_id F.id G.families) e))
      ∙ mapped (λ (d : FamilyEntry). d.family) (same_id F.id x) F (with_id family_id x G.families);
}

-- ---- what is judged over a well-formed environment
module _ (G : Entries) (w : WellFormed (env G)) where
  clean : Tapeless (env G)
  clean = well-formed-tapeless (env G) w

  record OfType (Γ : Ctx) (T : Term) : Type 0 where
    is_type : IsType (env G) Γ T
    no_tape : NoTape T

  of-type : {S : Scope} {t : Tree} {T : Term} → TypeOf G S t T → NamesTapeless S.names → OfType S.vars T
  of-type {S = S} (TypeOf.type_of {D = D} x a) h =
      let n = type-of G clean x h in
      record {
        is_type = (
          a.level,
          again-typed (env G) (results-counted (env G) w) S.vars D.core a.found a.level n
              a.accepted a.is_sort,
        );
        no_tape = n;
      }

  record OfParameters (S : Scope) (r : Opened) : Type 0 where
    types : Types (env G) S.vars r.binds
    vars : r.scope.vars ≡ ext S.vars r.binds
    names : NamesTapeless r.scope.names

  of-parameters : {S : Scope} {ps : List Param} {r : Opened} → Parameters G S ps r → NamesTapeless S.names →
      OfParameters S r
  of-parameters Parameters.none h = record { types = Types.none; vars = refl; names = h }
  of-parameters {S = S} (Parameters.more {T = T} x xs) h =
      let a = of-type x h in
      let r = of-parameters xs (with-name T S.names a.no_tape h) in
      record { types = Types.more a.is_type a.no_tape r.types; vars = r.vars; names = r.names }

  of-indices : {S : Scope} {xs : List Piece} {Ts : List Term} → Indices G S xs Ts → NamesTapeless S.names → TypesBeside
      (env G) S.vars Ts
  of-indices Indices.none h = TypesBeside.none
  of-indices (Indices.more x xs) h =
      let a = of-type x h in TypesBeside.more a.is_type a.no_tape
      (of-indices xs (record { term = (λ x. x, tt); type = (λ x. x, tt) }, h))

  record OfFields (l : ℕ) (S : Scope) (r : Opened) : Type 0 where
    types : TypesUpTo (env G) l S.vars r.binds
    names : NamesTapeless r.scope.names

  of-fields : {l : ℕ} {S : Scope} {xs : List Piece} {r : Opened} → Fields G l S xs r → NamesTapeless S.names → OfFields
      l S r
  of-fields Fields.none h = record { types = TypesUpTo.none; names = h }
  of-fields {S = S} (Fields.more (FieldType.field_type {D = D} x i a) xs) h =
      let n = type-of G clean x h in
      let r = of-fields xs (with-name D.core S.names n h) in
      record {
        types = TypesUpTo.more (again-typed (env G) (results-counted (env G) w) S.vars D.core a.found a.level n
            a.accepted a.is_sort) a.within n r.types;
        names = r.names;
      }

  family-added : (F : FamilyEntry) → (env G).family F.id ≡ None →
      Added F.id F.family (env G).family (env (with_family F G)).family
  family-added F e = family-entry G F e

pub as-it-is : (F : Family) → FamilyGrows F F
as-it-is F = record {
  params = refl;
  indices = refl;
  level = refl;
  added = [];
  constructors = nothing-behind
      F.constructors;
}
  where
    nothing-behind : {X : Type 0} (xs : List X) → xs ++ [] ≡ xs
    nothing-behind [] = refl
    nothing-behind (x ∷ xs) = ap (λ ys. x ∷ ys) (nothing-behind xs)

as-defined : (A : Definition) → DefinitionGrows A A
as-defined A = record { mult = refl; type = refl; body = λ b x. x }

module _ (G : Entries) (w : WellFormed (env G)) (F : FamilyEntry) (e : (env G).family F.id ≡ None) where
  pub family-grows : Grows (env G) (env (with_family F G))
  family-grows = record {
    families = λ f A h. (A, kept (family-added G w F e) f A h, as-it-is A);
    definitions = λ d A h. (A, h, as-defined A);
  }

  pub families-stay : FamiliesStay (env G) (env (with_family F G))
  families-stay f t = stays (family-added G w F e) f t

  pub family-keeps : FamilyFormed (env (with_family F G)) F.id F.family → WellFormed (env (with_family F G))
  family-keeps n = record {
    prims = prims-stay (env G) (env (with_family F G)) families-stay w.prims;
    families = λ f A h. formed f A (seen-id (family-added G w F e) f A h);
    definitions = λ d A h. definition-formed-grows family-grows families-stay (w.definitions d A h);
  }
    where
      formed : (f : GlobalId) (A : Family) → Comes ((env G).family f ≡ Some A) ((F.id ≡ f) × (F.family ≡ A)) →
          FamilyFormed (env (with_family F G)) f A
      formed f A (Comes.old h) = family-formed-grows family-grows families-stay (w.families f A h)
      formed f A (Comes.new h) = subst (λ A. FamilyFormed (env (with_family F G)) f A) h.1
          (subst (λ f. FamilyFormed (env (with_family F G)) f F.family) h.0 n)

  pub params-grow : {Γ : Ctx} {Θ : Tele} → Types (env G) Γ Θ → Types (env (with_family F G)) Γ Θ
  params-grow Types.none = Types.none
  params-grow (Types.more h n hs) = Types.more (h.0, judged-grows family-grows families-stay h.1) n (params-grow hs)

  pub indices-grow : {Γ : Ctx} {Ts : List Term} → TypesBeside (env G) Γ Ts → TypesBeside (env (with_family F G)) Γ Ts
  indices-grow TypesBeside.none = TypesBeside.none
  indices-grow (TypesBeside.more h n hs) = TypesBeside.more (h.0, judged-grows family-grows families-stay h.1) n
      (indices-grow hs)

-- ---- Cases of fewer families
form-weaker : (P Q : GlobalId → Type 0) → ((g : GlobalId) → P g → Q g) → (F : Form) → CaseIn P F → CaseIn Q F
form-weaker P Q i (Form.case q g k m ns) h = i g h
form-weaker P Q i (Form.sort l) h = tt
form-weaker P Q i (Form.pi q) h = tt
form-weaker P Q i (Form.lam q) h = tt
form-weaker P Q i (Form.app q) h = tt
form-weaker P Q i (Form.fam g) h = tt
form-weaker P Q i (Form.con g c k) h = tt
form-weaker P Q i (Form.delete q) h = tt
form-weaker P Q i (Form.named n) h = tt
form-weaker P Q i Form.trap h = tt
form-weaker P Q i (Form.tape n) h = tt

mutual
  weaker : (P Q : GlobalId → Type 0) → ((g : GlobalId) → P g → Q g) → (t : Term) → CasesIn P t → CasesIn Q t
  weaker P Q i (var n) h = tt
  weaker P Q i (node F ts) h = (form-weaker P Q i F h.0, all-weaker P Q i ts h.1)

  all-weaker : (P Q : GlobalId → Type 0) → ((g : GlobalId) → P g → Q g) → (ts : Terms) → AllCasesIn P ts → AllCasesIn Q
      ts
  all-weaker P Q i ε h = tt
  all-weaker P Q i (t ▸ ts) h = (weaker P Q i t h.0, all-weaker P Q i ts h.1)

-- ---- from the family without constructors to the whole one
module _ (D E : Env) (f : GlobalId) (g : Grows D E) (others : (x : GlobalId) → same_id f x ≡ false → D.family x ≡
    E.family x) where
  fields-grow : {l : ℕ} {Γ : Ctx} {Θ : Tele} → TypesUpTo D l Γ Θ → GoodFields f Θ → TypesUpTo E l Γ Θ
  fields-grow TypesUpTo.none p = TypesUpTo.none
  fields-grow (TypesUpTo.more {T = T} h i n hs) p =
      TypesUpTo.more (typed-grows g h (weaker (λ x. same_id f x ≡ false) (λ x. D.family x ≡ E.family x) others T
      (good_no_case f T p.0))) i n (fields-grow hs p.1)

results-clean : (f : GlobalId) (k m : ℕ) (t : Term) (us : Terms) → as_results f k m t ≡ Some us → NoTape t → NoTapes us
results-clean f k m (node (Form.fam g) ts) us e h =
    let r = cond-some _ (Some (skip k ts)) us e in subst NoTapes (some-injective r.1) (skip-clean k ts h.1)
results-clean f k m _ us e h = absurd (none≢some e)

-- constructors that were judged over H, where their family A stands without them
module _ (H : Entries) (v : WellFormed (env H)) (E : Env) (F : Head) (all : List ConstructorEntry) (g : Grows (env H) E)
    (others : (x : GlobalId) → same_id F.id x ≡ false → (env H).family x ≡ E.family x) (A : Family)
    (there : (env H).family F.id ≡ Some A) (params : A.params ≡ F.params.binds) (indices : A.indices ≡ F.indices)
    (names : NamesTapeless F.params.scope.names) (vars : F.params.scope.vars ≡ ext [] F.params.binds)
    (reached : Reaches no_scope F.params) where
  deep : depth F.params.scope ≡ length F.params.binds
  deep = let c : depth F.params.scope ≡ length F.params.binds + 0 = reached.count in omega (arith, c)

  constructor-formed : {k : ℕ} {c : Con} {d : ConstructorEntry} → Constructs H F k c d →
      GoodFields F.id d.constructor.fields → ConstructorFormed E (family_with F all).family d.constructor
  constructor-formed {k = k} (Constructs.constructs {n = n} {s = s} {r = r} {j = j} {us = us} fs e a) p =
      let o = of-fields H v fs names in
      let q = result-formed H v F all A there params indices deep reached.names reached.variables {k = k}
      (Constructs.constructs {n = n} {s = s} fs e a) in
      record {
        fields = subst (λ Γ. TypesUpTo E F.level Γ r.binds) vars (fields-grow (env H) E F.id g others o.types p);
        one_each = q.one_each;
        results = q.results;
        no_tapes =
            results-clean F.id (length F.params.binds) (length r.binds) j.core us a
            (elaborated H (clean H v) e o.names tt).core;
      }

  constructors-formed : {k : ℕ} {cs : List Con} {ds : List ConstructorEntry} → ConstructsAll H F k cs ds →
      GoodConstructors F.id (map (λ (d : ConstructorEntry). d.constructor) ds) →
      ConstructorsFormed E (family_with F all).family (map (λ (d : ConstructorEntry). d.constructor) ds)
  constructors-formed ConstructsAll.none p = ConstructorsFormed.none
  constructors-formed (ConstructsAll.more x xs) p =
      ConstructorsFormed.more (constructor-formed x p.0) (constructors-formed xs p.1)

-- ---- the whole
module _ (G : Entries) (w : WellFormed (env G)) (F : Head) (ds : List ConstructorEntry) (e : (env G).family F.id ≡ None)
  where
    constructors-come : Grows (env (with_family (family_with F []) G)) (env (with_family (family_with F ds) G))
    constructors-come = record {
      families = λ x A h. grown x A (seen-id (family-added G w (family_with F []) e) x A h);
      definitions = λ d A h. (A, h, as-defined A);
    }
      where
        grown : (x : GlobalId) (A : Family) → Comes ((env G).family x ≡ Some A)
            ((F.id ≡ x) × ((family_with F []).family ≡ A)) →
            (B : Family) × ((env (with_family (family_with F ds) G)).family x ≡ Some B) × FamilyGrows A B
        grown x A (Comes.old h) = (A, kept (family-added G w (family_with F ds) e) x A h, as-it-is A)
        grown x A (Comes.new h) = (
          (family_with F ds).family,
          subst (λ y. (env (with_family (family_with F ds) G)).family y ≡ Some (family_with F ds).family) h.0
              (itself (family-added G w (family_with F ds) e)),
          subst (λ A. FamilyGrows A (family_with F ds).family) h.1
              (record {
                params = refl;
                indices = refl;
                level = refl;
                added = (family_with F ds).family.constructors;
                constructors = refl;
              }),
        )

    others-same : (x : GlobalId) → same_id F.id x ≡ false → (env (with_family (family_with F []) G)).family x ≡
        (env (with_family (family_with F ds) G)).family x
    others-same x t = sym (apart (family-added G w (family_with F []) e) x t) ∙ apart
        (family-added G w (family_with F ds) e) x t

declared : (G : Entries) (f : GlobalId) (M n : List ℕ) (ps : List Param) (t : Tree) (cs : List Con) (F : FamilyEntry) →
    WellFormed (env G) → (env G).family f ≡ None →
    DeclaresFamily G f M n ps t cs F → WellFormed (env (with_family F G))
declared G f M n _ t cs _ w e (DeclaresFamily.declares {P = P} {l = l} {Ts = Ts} {ds = ds} p x h i c g) =
    family-keeps G w whole e (record {
      params = params-grow G w whole e of-params.types;
      indices = indices-grow G w whole e are-indices;
      constructors = constructors-formed (with_family bare G) bare-keeps (env (with_family whole G)) F ds
          (constructors-come G w F ds e) (others-same G w F ds e) bare.family (itself (family-added G w bare e)) refl
          refl
          of-params.names of-params.vars (parameters-reach G w p tt tt) c g;
      positive = g;
    })
  where
    F : Head
    F = heading f M n P Ts l

    bare : FamilyEntry
    bare = family_with F []

    whole : FamilyEntry
    whole = family_with F ds

    of-params : OfParameters G w no_scope P
    of-params = of-parameters G w p tt

    are-indices : TypesBeside (env G) (ext [] P.binds) Ts
    are-indices = subst (λ Γ. TypesBeside (env G) Γ Ts) of-params.vars (of-indices G w i of-params.names)

    bare-keeps : WellFormed (env (with_family bare G))
    bare-keeps = family-keeps G w bare e (record {
      params = params-grow G w bare e of-params.types;
      indices = indices-grow G w bare e are-indices;
      constructors = ConstructorsFormed.none;
      positive = tt;
    })

pub families_keep_form_holds : FamiliesKeepForm
families_keep_form_holds G f M n ps t cs F w e x = declared G f M n ps t cs F w e (family_so G f M n ps t cs F x)
