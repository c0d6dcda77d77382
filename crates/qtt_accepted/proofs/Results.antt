-- The results of an accepted constructor: a term for each index of its family, over parameters and fields alone.
use Rattle.std.proofs.Common.{◌≡◌, ℕ, zero, suc, ◌+◌, ◌&&◌, List, [], ◌∷◌, ◌++◌, length, Option, Some, None, refl, sym, ap, subst, ◌∙◌, arith}
use Rattle.std.proofs.lemmas.Bool.{and_parts}
use Rattle.qtt_base.specs.declared.place.GlobalId.{GlobalId}
use Rattle.qtt_usage.specs.declared.mult.Mult.{Mult}
use Rattle.qtt_usage.specs.Mult.{𝟘}
use Rattle.qtt_syntax.specs.Tree.{Param, Con}
use Rattle.qtt_term.specs.Term.{Form, Term, Terms, node, ε, ◌▸◌, size, skip, Fam, same_id}
use Rattle.qtt_term.specs.Substitution.{above, Below, AllBelow}
use Rattle.qtt_term.specs.Signature.{Constructor, Definition, Family, Env, family_of, definition_of, index_binders, fam_at}
use Rattle.qtt_term.specs.Contraction.{BodiesClosed}
use Rattle.qtt_term.specs.Question.{sames}
use Rattle.qtt_term.specs.Environment.{DefinitionFormed, WellFormed}
use Rattle.qtt_term.specs.Items.{ConstructorEntry}
use Rattle.qtt_term.proofs.Options.{none≢some, some-injective, cond-some}
use Rattle.qtt_term.proofs.Same.{same_id-is}
use Rattle.qtt_term.specs.Entries.{Entries, env}
use Rattle.qtt_term.specs.Scope.{Scope, depth, with_name}
use Rattle.qtt_term.specs.Forms.{front}
use Rattle.qtt_preserve.proofs.Sound.{typed-below}
use Rattle.qtt_preserve.proofs.Travel.{length-scale}
use Rattle.qtt_bidi.specs.Elaboration.{family_telescope}
use Rattle.qtt_module.specs.Families.{Piece, Opened, opened, behind, Head, as_results, family_with}
use Rattle.qtt_module.specs.FamilyRules.{TypeOf, FieldType, Parameters, Fields, Constructs}
use Rattle.qtt_accepted.specs.Scoped.{TypesClosed, NamesBelow, NamesAreVariables}
use Rattle.qtt_accepted.proofs.Below.{In, skip-below}
use Rattle.qtt_accepted.proofs.Staying.{with-name, type-below, elaborated}
use Rattle.qtt_accepted.proofs.Counted.{with-variable, elaborated-counts}

-- ---- a well-formed environment
type-closed : (E : Env) (o : Option Definition) → ((D : Definition) → o ≡ Some D → DefinitionFormed E D) →
    AllBelow [] 0 ((definition_of o).type ▸ ε)
type-closed E None h = (tt, tt)
type-closed E (Some D) h = (typed-below (h D refl).is_type.1, tt)

pub types-closed : (E : Env) → WellFormed E → TypesClosed E
types-closed E w d = (type-closed E (E.definition d) (w.definitions d)).0

body-closed : (E : Env) (o : Option Definition) → ((D : Definition) → o ≡ Some D → DefinitionFormed E D) →
    (b : Term) → (definition_of o).body ≡ Some b → AllBelow [] 0 (b ▸ ε)
body-closed E None h b e = absurd (none≢some e)
body-closed E (Some D) h b e = ((h D refl).closed b e, tt)

pub bodies-closed : (E : Env) → WellFormed E → BodiesClosed E
bodies-closed E w d b e = (body-closed E (E.definition d) (w.definitions d) b e).0

-- ---- scopes behind binders
pub record Reaches (S : Scope) (r : Opened) : Type 0 where
  pub count : depth r.scope ≡ length r.binds + depth S
  pub names : NamesBelow (depth r.scope) r.scope.names
  pub variables : NamesAreVariables r.scope.names

at-once : (S : Scope) → NamesBelow (depth S) S.names → NamesAreVariables S.names → Reaches S (opened S)
at-once S h v = record { count = omega arith; names = h; variables = v }

one-more : (q : Mult) (T : Term) (S : Scope) (r : Opened) → Reaches (with_name q T S) r → Reaches S (behind q T r)
one-more q T S r x = record {
  count = (let e : depth r.scope ≡ length r.binds + suc (depth S) = x.count in omega arith);
  names = x.names;
  variables = x.variables;
}

module _ (G : Entries) (w : WellFormed (env G)) where
  pub parameters-reach : {S : Scope} {ps : List Param} {r : Opened} → Parameters G S ps r →
      NamesBelow (depth S) S.names → NamesAreVariables S.names → Reaches S r
  parameters-reach {S = S} Parameters.none h v = at-once S h v
  parameters-reach {S = S} (Parameters.more {r = r} (TypeOf.type_of {D = D} x a) xs) h v =
      one-more 𝟘 D.core S r
      (parameters-reach xs (with-name (depth S) D.core S.names
      (type-below G (bodies-closed (env G) w) (types-closed (env G) w) x h) h) (with-variable D.core S.names v))

  pub fields-reach : {l : ℕ} {S : Scope} {xs : List Piece} {r : Opened} → Fields G l S xs r →
      NamesBelow (depth S) S.names → NamesAreVariables S.names → Reaches S r
  fields-reach {S = S} Fields.none h v = at-once S h v
  fields-reach {S = S} (Fields.more {x = y} {r = r} (FieldType.field_type {D = D} x i a) xs) h v =
      one-more y.mult D.core S r
      (fields-reach xs (with-name (depth S) D.core S.names
      (type-below G (bodies-closed (env G) w) (types-closed (env G) w) x h) h) (with-variable D.core S.names v))

-- ---- results
length-joined : {X : Type 0} (xs ys : List X) → length (xs ++ ys) ≡ length xs + length ys
length-joined [] ys = omega arith
length-joined (x ∷ xs) ys =
    let e : length (xs ++ ys) ≡ length xs + length ys = length-joined xs ys in omega arith

length-binders : (n : ℕ) (Ts : List Term) → length (index_binders n Ts) ≡ length Ts
length-binders n [] = refl
length-binders n (T ∷ Ts) = ap suc (length-binders (suc n) Ts)

pub telescope-length : (G : Entries) (f : GlobalId) (A : Family) → (env G).family f ≡ Some A →
    length (family_telescope G f) ≡ length A.params + length A.indices
telescope-length G f A e =
    length-scale 𝟘 ((fam_at (env G) f).params ++ (fam_at (env G) f).indices)
    ∙ length-joined (fam_at (env G) f).params (fam_at (env G) f).indices
    ∙ ap (λ o. length (family_of o).params + length (index_binders 0 (family_of o).indices)) e
    ∙ ap (λ k. length A.params + k) (length-binders 0 A.indices)

size-skip : (k n : ℕ) (ts : Terms) → size ts ≡ k + n → size (skip k ts) ≡ n
size-skip zero n ts e = omega (arith, e)
size-skip (suc k) n ε e = absurd (omega (arith, e))
size-skip (suc k) n (t ▸ ts) e = size-skip k n ts (omega (arith, e))

record Behind (f : GlobalId) (k : ℕ) (t : Term) (us : Terms) : Type 0 where
  all : Terms
  whole : t ≡ Fam f all
  results : us ≡ skip k all

behind-params : (f : GlobalId) (k m : ℕ) (t : Term) (us : Terms) → as_results f k m t ≡ Some us → Behind f k t us
behind-params f k m (node (Form.fam g) ts) us e =
    let r = cond-some (same_id f g && sames (front k ts) (above m k)) (Some (skip k ts)) us e in
    let i = and_parts (same_id f g) (sames (front k ts) (above m k)) r.0 in
    record { all = ts; whole = ap (λ h. Fam h ts) (sym (same_id-is f g i.0)); results = sym (some-injective r.1) }
behind-params f k m _ us e = absurd (none≢some e)

-- a constructor's result has a term for each index, in which no variables are free but parameters and fields
pub record ResultFormed (F : Family) (c : Constructor) : Type 0 where
  pub one_each : size c.results ≡ length F.indices
  pub results : AllBelow [] (length F.params + length c.fields) c.results

-- of a constructor that was judged over H, where its family stands
module _ (H : Entries) (w : WellFormed (env H)) (F : Head) (all : List ConstructorEntry) (A : Family)
    (there : (env H).family F.id ≡ Some A) (params : A.params ≡ F.params.binds) (indices : A.indices ≡ F.indices)
    (deep : depth F.params.scope ≡ length F.params.binds)
    (names : NamesBelow (depth F.params.scope) F.params.scope.names)
    (variables : NamesAreVariables F.params.scope.names) where
  pub result-formed : {k : ℕ} {c : Con} {d : ConstructorEntry} → Constructs H F k c d →
      ResultFormed (family_with F all).family d.constructor
  result-formed (Constructs.constructs {r = r} {j = j} {us = us} fs e a) =
      let o = fields-reach H w fs names variables in
      let b = behind-params F.id (length F.params.binds) (length r.binds) j.core us a in
      let n = elaborated-counts e o.variables F.id b.all b.whole in
      let t = telescope-length H F.id A there in
      let s = n ∙ t ∙ ap (λ Θ. length Θ + length A.indices) params
      ∙ ap (λ Ts. length F.params.binds + length Ts) indices in
      let h = (elaborated H (bodies-closed (env H) w) (types-closed (env H) w) e o.names tt).core in
      let i : In (depth r.scope) b.all = subst (Below (depth r.scope)) b.whole h in
      record {
        one_each = ap size b.results ∙ size-skip (length F.params.binds) (length F.indices) b.all s;
        results =
            subst (λ us. AllBelow [] (length F.params.binds + length r.binds) us) (sym b.results)
            (subst (λ z. In z (skip (length F.params.binds) b.all)) (widths (depth r.scope) (length r.binds) o.count)
            (skip-below (depth r.scope) (length F.params.binds) b.all i));
      }
    where
      widths : (n k : ℕ) → n ≡ k + depth F.params.scope → n ≡ length F.params.binds + k
      widths n k e = omega (arith, e, deep)
