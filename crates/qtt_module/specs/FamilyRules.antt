-- The declaration of families and signatures as a relation, rule by rule.
use Rattle.std.specs.Prelude.{◌≡◌, ℕ, suc, ◌≤◌, List, [], ◌∷◌, length, Option, Some, None}
use Rattle.qtt_base.specs.declared.place.GlobalId.{GlobalId}
use Rattle.qtt_base.specs.declared.place.Span.{Span}
use Rattle.qtt_usage.specs.declared.mult.Mult.{Mult}
use Rattle.qtt_usage.specs.Mult.{𝟘}
use Rattle.qtt_syntax.specs.Tree.{Tree, Param, Con}
use Rattle.qtt_syntax.specs.Tree.Param.{param}
use Rattle.qtt_syntax.specs.Tree.Con.{con}
use Rattle.qtt_term.specs.Term.{Term, Terms, Sort}
use Rattle.qtt_term.specs.Judgement.{Part}
use Rattle.qtt_term.specs.Positivity.{Positive}
use Rattle.qtt_term.specs.Ask.{Ending, HeadIs, Ends}
use Rattle.qtt_term.specs.Infer.{Inferred, infer}
use Rattle.qtt_term.specs.Items.{ConstructorEntry, FamilyEntry, DefinitionEntry, signature_entry}
use Rattle.qtt_term.specs.Entries.{Entries, env, with_family}
use Rattle.qtt_term.specs.Scope.{Scope, no_scope, with_name, with_index}
use Rattle.qtt_rules.specs.Judged.{Judged, Mode}
use Rattle.qtt_bidi.specs.Elaboration.{Classified}
use Rattle.qtt_bidi.specs.Rules.{Elaborates, IsType}
use Rattle.qtt_module.specs.Families.{Piece, pieces, end_of, labels, Opened, behind, opened, behind_indices, as_results, qualified, item_behind, Head, heading, family_with}

abbrev pub UpTo : Option ℕ → ℕ → Type 0
UpTo None l = Unit {0}
UpTo (Some k) l = l ≤ k

-- the core judgement accepts a type in the erased part, of a level up to the bound
pub record Again (G : Entries) (S : Scope) (bound : Option ℕ) (A : Term) : Type 0 where
  pub found : Inferred
  pub level : ℕ
  pub accepted : Ends (env G) (infer (env G) Part.erased S.vars A) (Ending.ok found)
  pub is_sort : HeadIs (env G) found.type (Sort level)
  pub within : UpTo bound level

pub data TypeOf (G : Entries) (S : Scope) (e : Tree) : Term → Type 0 where
  type_of : {D : Classified} → IsType G S e D → Again G S None D.core → TypeOf G S e D.core

-- in a family of level l
pub data FieldType (G : Entries) (l : ℕ) (S : Scope) (e : Tree) : Term → Type 0 where
  field_type : {D : Classified} → IsType G S e D → D.level ≤ l → Again G S (Some l) D.core → FieldType G l S e D.core

pub data Parameters (G : Entries) : Scope → List Param → Opened → Type 0 where
  none : {S : Scope} → Parameters G S [] (opened S)
  more : {S : Scope} {q : Mult} {x : List ℕ} {A : Tree} {s : Span} {ps : List Param} {T : Term} {r : Opened} →
      TypeOf G S A T → Parameters G (with_name 𝟘 T S) ps r → Parameters G S (param q x A s ∷ ps) (behind 𝟘 T r)

-- each under the parameters alone
pub data Indices (G : Entries) : Scope → List Piece → List Term → Type 0 where
  none : {S : Scope} → Indices G S [] []
  more : {S : Scope} {x : Piece} {xs : List Piece} {T : Term} {Ts : List Term} →
      TypeOf G S x.type T → Indices G (with_index S) xs Ts → Indices G S (x ∷ xs) (T ∷ Ts)

pub data Fields (G : Entries) (l : ℕ) : Scope → List Piece → Opened → Type 0 where
  none : {S : Scope} → Fields G l S [] (opened S)
  more : {S : Scope} {x : Piece} {xs : List Piece} {T : Term} {r : Opened} →
      FieldType G l S x.type T → Fields G l (with_name x.mult T S) xs r → Fields G l S (x ∷ xs) (behind x.mult T r)

-- constructor k of a family: its fields, and an end that is this family at its parameters and some results
pub data Constructs (G : Entries) (F : Head) (k : ℕ) : Con → ConstructorEntry → Type 0 where
  constructs : {n : List ℕ} {t : Tree} {s : Span} {r : Opened} {j : Judged} {us : Terms} →
      Fields G F.level F.params.scope (pieces t) r → Elaborates G Part.erased r.scope Mode.synth (end_of t) j →
      as_results F.id (length F.params.binds) (length r.binds) j.core ≡ Some us →
      Constructs G F k (con n t s) (record {
        id = item_behind F.id k;
        name = qualified F.home n;
        labels = labels t;
        constructor = record { fields = r.binds; results = us };
      })

pub data ConstructsAll (G : Entries) (F : Head) : ℕ → List Con → List ConstructorEntry → Type 0 where
  none : {k : ℕ} → ConstructsAll G F k [] []
  more : {k : ℕ} {c : Con} {cs : List Con} {d : ConstructorEntry} {ds : List ConstructorEntry} →
      Constructs G F k c d → ConstructsAll G F (suc k) cs ds → ConstructsAll G F k (c ∷ cs) (d ∷ ds)

-- constructors are judged while the family has none
pub data DeclaresFamily (G : Entries) (f : GlobalId) (M n : List ℕ) : List Param → Tree → List Con → FamilyEntry → Type
    0 where
  declares : {ps : List Param} {t : Tree} {cs : List Con} {P : Opened} {j : Judged} {l : ℕ} {Ts : List Term}
      {ds : List ConstructorEntry} →
      Parameters G no_scope ps P → Elaborates G Part.erased (behind_indices (pieces t) P.scope) Mode.synth (end_of t)
      j → j.core ≡ Sort l →
      Indices G P.scope (pieces t) Ts →
      ConstructsAll (with_family (family_with (heading f M n P Ts l) []) G) (heading f M n P Ts l) 0 cs ds →
      Positive f (family_with (heading f M n P Ts l) ds).family →
      DeclaresFamily G f M n ps t cs (family_with (heading f M n P Ts l) ds)

pub data DeclaresSignature (G : Entries) (d : GlobalId) (M n : List ℕ) (q : Mult) (t : Tree) : DefinitionEntry → Type 0
  where
    signed : {T : Term} → TypeOf G no_scope t T → DeclaresSignature G d M n q t (signature_entry d (qualified M n) q T)
