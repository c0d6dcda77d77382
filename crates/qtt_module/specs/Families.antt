-- Families and signatures: their parts are types, judged in the order of the text.
use Rattle.std.specs.Prelude.{ℕ, suc, ◌+◌, Bool, true, ◌&&◌, not, nat_lt, cond, List, [], ◌∷◌, ◌++◌, map, length, codes, Option, Some, None, slice_get}
use Rattle.qtt_base.specs.declared.place.GlobalId.{GlobalId}
use Rattle.qtt_base.specs.declared.place.Span.{Span}
use Rattle.qtt_usage.specs.declared.mult.Mult.{Mult}
use Rattle.qtt_usage.specs.Mult.{𝟘}
use Rattle.qtt_syntax.specs.Tree.{Tree, Param, Con}
use Rattle.qtt_syntax.specs.Tree.Tree.{pi}
use Rattle.qtt_syntax.specs.Tree.Param.{param}
use Rattle.qtt_syntax.specs.Tree.Con.{con}
use Rattle.qtt_term.specs.Term.{Form, Term, Terms, node, skip, same_id}
use Rattle.qtt_term.specs.Substitution.{above}
use Rattle.qtt_term.specs.Signature.{Tele}
use Rattle.qtt_term.specs.Judgement.{Part}
use Rattle.qtt_term.specs.Question.{sames}
use Rattle.qtt_term.specs.Infer.{Inferred, infer}
use Rattle.qtt_term.specs.Items.{ConstructorEntry, FamilyEntry, DefinitionEntry, signature_entry}
use Rattle.qtt_term.specs.Ask.{Ask, ◌>>=◌, asked_at}
use Rattle.qtt_term.specs.Entries.{Entries, env, with_family}
use Rattle.qtt_term.specs.Scope.{Scope, no_scope, depth, with_name, with_index}
use Rattle.qtt_term.specs.Forms.{as_sort, front}
use Rattle.qtt_rules.specs.Refusal.{Cause, at}
use Rattle.qtt_rules.specs.Asks.{Asks, refuse, need, found, head_as}
use Rattle.qtt_rules.specs.Judged.{Mode}
use Rattle.qtt_positive.specs.FirstBad.{first_bad}
use Rattle.qtt_bidi.specs.Elaboration.{place, is_type, judge}
use Rattle.qtt_term.specs.declared.rule.Rule.TheVariants as rule

-- ---- chains of binders, for indices, fields and arguments
pub record Piece : Type 0 where
  pub mult : Mult
  pub name : List ℕ
  pub type : Tree
  pub span : Span

abbrev pub pieces : Tree → List Piece
pieces (pi k q x A B s) = record { mult = q; name = x; type = A; span = s } ∷ pieces B
pieces _ = []

-- what stands behind a chain's binders
abbrev pub end_of : Tree → Tree
end_of (pi k q x A B s) = end_of B
end_of e = e

-- the names of a chain's binders, `_` where one has none
abbrev pub labels : Tree → List (List ℕ)
labels t = map (λ x. x.name) (pieces t)

-- ---- types, each judged once more after its premises
abbrev pub is_within : Option ℕ → ℕ → Bool
is_within None l = true
is_within (Some k) l = not (nat_lt k l)

-- The last judgement of a type of the item n: the core judgement accepts it in the erased part, and the head of what
-- that finds is a Sort, for a field of level at most its family's (38). A refusal keeps the premise of the core
-- judgement that is false, or Conversion 2 where only what is tested behind it is.
abbrev pub accepted : Entries → Scope → List ℕ → Option ℕ → Span → Term → Asks (Unit {0})
accepted G S n bound s A =
    asked_at (at s rule.Conversion 1) (infer (env G) Part.erased S.vars A)
    (λ (j : Inferred). do
      l ← head_as as_sort (λ d t. Cause.core_refused n) (depth S) j.type (at s rule.Conversion 2)
      need (is_within bound l) (Cause.core_refused n) (at s rule.Conversion 2))
    (λ x. refuse (Cause.core_refused n) (at s x.rule x.number))

-- a type of a parameter, an index or a definition of the item n, as premise k of Families
abbrev pub type_of : Entries → Scope → List ℕ → ℕ → Tree → Asks Term
type_of G S n k A = do
  D ← is_type S (judge G Part.erased S Mode.synth A) (at (place A) rule.Families k)
  again ← accepted G S n None (place A) D.core
  Ask.done D.core

-- a field's type of the constructor n, at a binder that stands at s, in a family of level l
abbrev pub field_type : Entries → Scope → List ℕ → ℕ → Span → Tree → Asks Term
field_type G S n l s A = do
  D ← is_type S (judge G Part.erased S Mode.synth A) (at (place A) rule.Families 4)
  low ← need (not (nat_lt l D.level)) (Cause.wrong_level l D.level) (at s rule.Families 5)
  again ← accepted G S n (Some l) (place A) D.core
  Ask.done D.core

-- binders, and the scope behind them
pub record Opened : Type 0 where
  pub binds : Tele
  pub scope : Scope

abbrev pub behind : Mult → Term → Opened → Opened
behind q T r = record { binds = (q, T) ∷ r.binds; scope = r.scope }

abbrev pub opened : Scope → Opened
opened S = record { binds = []; scope = S }

-- marks on parameters change nothing: each is at 0
abbrev pub parameters : Entries → List ℕ → Scope → List Param → Asks Opened
parameters G n S [] = Ask.done (opened S)
parameters G n S (param q x A s ∷ ps) = do
  T ← type_of G S n 1 A
  r ← parameters G n (with_name 𝟘 T S) ps
  Ask.done (behind 𝟘 T r)

-- the names of indices count, but nothing stands for them
abbrev pub behind_indices : List Piece → Scope → Scope
behind_indices [] S = S
behind_indices (x ∷ xs) S = behind_indices xs (with_index S)

-- indices, in the parameters alone
abbrev pub indices : Entries → List ℕ → Scope → List Piece → Asks (List Term)
indices G n S [] = Ask.done []
indices G n S (x ∷ xs) = do
  T ← type_of G S n 3 x.type
  Ts ← indices G n (with_index S) xs
  Ask.done (T ∷ Ts)

abbrev pub fields : Entries → List ℕ → ℕ → Scope → List Piece → Asks Opened
fields G n l S [] = Ask.done (opened S)
fields G n l S (x ∷ xs) = do
  T ← field_type G S n l x.span x.type
  r ← fields G n l (with_name x.mult T S) xs
  Ask.done (behind x.mult T r)

-- the level of a family: the end of its type is a Sort as it stands
abbrev pub level : Entries → Scope → Tree → Asks ℕ
level G S e = do
  j ← judge G Part.erased S Mode.synth e
  found (as_sort j.core) (Cause.not_a_type (depth S) j.core) (at (place e) rule.Families 2)

-- the results of a constructor behind m fields: its end is family f at its k parameters, in order, as it stands
abbrev pub as_results : GlobalId → ℕ → ℕ → Term → Option Terms
as_results f k m (node (Form.fam g) ts) = cond (same_id f g && sames (front k ts) (above m k)) (Some (skip k ts)) None
as_results f k m _ = None

-- ---- families
abbrev pub qualified : List ℕ → List ℕ → List ℕ
qualified M n = M ++ codes "." ++ n

-- item k of the same module behind this one
abbrev pub item_behind : GlobalId → ℕ → GlobalId
item_behind f k = record { «module» = f.module; item = f.item + suc k }

-- what the constructors of a family are judged by: its id and module's name, its parameters with the scope behind them,
-- and its level
pub record Head : Type 0 where
  pub id : GlobalId
  pub home : List ℕ
  pub name : List ℕ
  pub params : Opened
  pub indices : List Term
  pub level : ℕ

abbrev pub heading : GlobalId → List ℕ → List ℕ → Opened → List Term → ℕ → Head
heading f M n P Ts l = record { id = f; home = M; name = n; params = P; indices = Ts; level = l }

-- constructor k: 4 each field's type is a type (19), 5 of level at most the family's (20); 6 the end is the family at
-- its parameters (22)
abbrev pub constructor : Entries → Head → ℕ → Con → Asks ConstructorEntry
constructor G F k (con n t s) = do
  r ← fields G n F.level F.params.scope (pieces t)
  j ← judge G Part.erased r.scope Mode.synth (end_of t)
  us ← found (as_results F.id (length F.params.binds) (length r.binds) j.core)
      (Cause.not_a_family (depth r.scope) j.core) (at (place (end_of t)) rule.Families 6)
  Ask.done (record {
    id = item_behind F.id k;
    name = qualified F.home n;
    labels = labels t;
    constructor = record { fields = r.binds; results = us };
  })

abbrev pub constructors : Entries → Head → ℕ → List Con → Asks (List ConstructorEntry)
constructors G F k [] = Ask.done []
constructors G F k (c ∷ cs) = do
  d ← constructor G F k c
  ds ← constructors G F (suc k) cs
  Ask.done (d ∷ ds)

abbrev pub family_with : Head → List ConstructorEntry → FamilyEntry
family_with F ds = record {
  id = F.id;
  name = qualified F.home F.name;
  family = record {
    params = F.params.binds;
    indices = F.indices;
    level = F.level;
    constructors = map
        (λ d. d.constructor) ds;
  };
  constructors = ds;
}

-- a field that is not good for the family is refused at its constructor (13)
abbrev pub refuse_bad : Option Con → ℕ → Asks (Unit {0})
refuse_bad None k = Ask.done tt
refuse_bad (Some (con n t s)) k = refuse (Cause.not_positive n k) (at s rule.Families 7)

abbrev pub none_bad : List Con → Option (ℕ × ℕ) → Asks (Unit {0})
none_bad cs None = Ask.done tt
none_bad cs (Some x) = refuse_bad (slice_get cs x.0) x.1

-- Families: 1 each parameter's type is a type (19); 2 the end behind the indices is a Sort (19); 3 each index's type is
-- a type in the parameters alone (19); then, constructor by constructor, while the family has no constructors: 4 each
-- field's type is a type (19), 5 of level at most the family's (20); 6 the end is this family at its parameters (22);
-- and 7 each field is good for the family (13)
abbrev pub family : Entries → GlobalId → List ℕ → List ℕ → List Param → Tree → List Con → Asks FamilyEntry
family G f M n ps t cs = do
  P ← parameters G n no_scope ps
  l ← level G (behind_indices (pieces t) P.scope) (end_of t)
  Ts ← indices G n P.scope (pieces t)
  let F : Head = heading f M n P Ts l
  ds ← constructors (with_family (family_with F []) G) F 0 cs
  good ← none_bad cs (first_bad f (family_with F ds).family)
  Ask.done (family_with F ds)

-- ---- signatures
-- Families: 8 a signature's type is a type (19)
abbrev pub signature : Entries → GlobalId → List ℕ → List ℕ → Mult → Tree → Asks DefinitionEntry
signature G d M n q t = do
  T ← type_of G no_scope n 8 t
  Ask.done (signature_entry d (qualified M n) q T)
