-- Definitions by clauses in a whole build: each body goes on as the clauses that were written for it.
use Rattle.std.specs.Prelude.{◌≡◌, ◌⊎◌, ℕ, true, List, [], ◌∷◌, length, Some}
use Rattle.qtt_base.specs.declared.place.GlobalId.{GlobalId}
use Rattle.qtt_base.specs.declared.place.ModuleId.{ModuleId}
use Rattle.qtt_usage.specs.Uses.{Use}
use Rattle.qtt_syntax.specs.Tree.{Module}
use Rattle.qtt_names.specs.Exports.{Exports}
use Rattle.qtt_term.specs.declared.term.ConId.{ConId}
use Rattle.qtt_term.specs.Term.{Term, Terms, size, Def}
use Rattle.qtt_term.specs.Signature.{Tele, There, definition_at}
use Rattle.qtt_term.specs.Contraction.{Conv}
use Rattle.qtt_term.specs.Judgement.{Part, Typed}
use Rattle.qtt_term.specs.Environment.{WellFormed}
use Rattle.qtt_term.specs.Keyed.{is_of}
use Rattle.qtt_term.specs.Items.{FamilyEntry, constructor_in}
use Rattle.qtt_term.specs.Entries.{Entries, env, prim_entries}
use Rattle.qtt_split.specs.Node.{Clause}
use Rattle.qtt_split.specs.Group.{Defined}
use Rattle.qtt_split.specs.Laws.{AllDeep, applied_to, answers}
use Rattle.qtt_clause_laws.specs.Larger.{Larger}
use Rattle.qtt_clause_laws.specs.Named.{ClausesNamed}
use Rattle.qtt_clause_laws.specs.Accepted.{AcceptedBody, Defines, GoesOnAs}
use Rattle.qtt_bidi.specs.Elaboration.{judge}
use Rattle.qtt_module.specs.Declarations.{Declaration, declarations}
use Rattle.qtt_module.specs.Text.{Accepted, home_of, items_in}
use Rattle.qtt_module.specs.TextCalls.{DeclaresText}
use Rattle.qtt_accepted.specs.Members.{Among}
use Rattle.qtt_accepted.specs.Stages.{FreshFrom, Marked}
use Rattle.qtt_accepted.specs.Texts.{adopted, StandsIn}

-- ---- constructors of an environment
-- each has an id of its family's module, and none has that of another
pub record ConstructorsApart (G : Entries) : Type 0 where
  pub own : (F : FamilyEntry) → Among F G.families → (g : GlobalId) → There (constructor_in F g) →
      is_of (Some F.id.module) g ≡ true
  pub apart : (F H : FamilyEntry) → Among F G.families → Among H G.families → (g : GlobalId) (c d : ConId) →
      constructor_in F g ≡ Some c → constructor_in H g ≡ Some d → c ≡ d

-- ---- definitions
-- a definition is that of a group of these declarations, under its name
pub data IsGroupOf (D : Defined) : List Declaration → Type 0 where
  here : {c : Clause} {cs : List Clause} {ds : List Declaration} → D.group.clauses ≡ c ∷ cs →
      IsGroupOf D (Declaration.group D.name c cs ∷ ds)
  behind : {d : Declaration} {ds : List Declaration} → IsGroupOf D ds → IsGroupOf D (d ∷ ds)

-- a body was accepted as that of a group of these declarations, in an environment of which this one is a larger one,
-- in which a definition has it
pub record IsByClauses (ds : List Declaration) (E : Entries) (d : GlobalId) (body : Term) : Type 0 where
  pub defined : Defined
  pub group : IsGroupOf defined ds
  pub named : ClausesNamed defined.group.globals defined.group.clauses
  pub accepted : AcceptedBody (answers (env defined.group.globals)) (judge defined.group.globals) defined body
  pub larger : Larger defined.group.globals E defined.group.clauses
  pub defines : Defines (env E) d defined.type body

-- so each typed application of it to values, one for each pattern of a clause, goes on as the first clause that fits
abbrev pub GoesOnByClauses : {ds : List Declaration} {E : Entries} {d : GlobalId} {body : Term} →
    IsByClauses ds E d body → Type 0
GoesOnByClauses {E = E} {d = d} by_clauses =
    let made = by_clauses.accepted.made in
    (Θ : Tele) (vs : Terms) → size vs ≡ length made.opened.binders → AllDeep (env E) vs → size vs ≡ length Θ →
    (C : Term) (u : Use) → Typed (env E) Part.run [] (applied_to (Def d) Θ vs) C u →
    GoesOnAs made E (Conv (env E)) (applied_to (Def d) Θ vs) vs

abbrev pub ClausesAreFollowed : Type 0
ClausesAreFollowed = (ds : List Declaration) (E : Entries) (d : GlobalId) (body : Term) → WellFormed (env E) →
    (by_clauses : IsByClauses ds E d body) → GoesOnByClauses by_clauses

-- the families of the one are among those of the other
abbrev pub FamiliesInside : Entries → Entries → Type 0
FamiliesInside G H = (F : FamilyEntry) → Among F G.families → Among F H.families

-- it is so still where more stands
abbrev pub ByClausesStay : Type 0
ByClausesStay = (ds : List Declaration) (H L : Entries) (d : GlobalId) (body : Term) → StandsIn (env H) (env L) →
    FamiliesInside H L → ConstructorsApart L → IsByClauses ds H d body → IsByClauses ds L d body

-- Prim's constructors keep apart
abbrev pub PrimIsApart : Type 0
PrimIsApart = ConstructorsApart prim_entries

-- ---- an accepted text, beside others that were judged over the same environment
-- what it was judged over stands among them, under ids of other modules, and constructors keep apart
pub record IsPutAmong (id : ModuleId) (m : Module) (G H : Entries) : Type 0 where
  pub stands : StandsIn (env G) (env H)
  pub inside : FamiliesInside G H
  pub before : ConstructorsApart G
  pub among : ConstructorsApart H
  pub fresh : FreshFrom (home_of id m) 0 H

-- once its part is adopted constructors still keep apart, and each body is one that was there, or by the text's clauses
pub record JoinsByClauses {id : ModuleId} {asked : List ℕ} {imports : List Exports} {G : Entries} {m : Module}
    {A : Accepted} (x : DeclaresText id asked imports G m A) (H : Entries) : Type 0 where
  pub apart : ConstructorsApart (adopted H A.checked.part)
  pub inside : FamiliesInside H (adopted H A.checked.part)
  pub bodies : (d : GlobalId) (b : Term) → (definition_at (env (adopted H A.checked.part)) d).body ≡ Some b →
      ((definition_at (env H) d).body ≡ Some b)
      ⊎ IsByClauses (declarations (items_in x.filled.text)) (adopted H A.checked.part) d b

abbrev pub TextsGoByClauses : Type 0
TextsGoByClauses = (id : ModuleId) (asked : List ℕ) (imports : List Exports) (G H : Entries) (m : Module)
    (A : Accepted) → WellFormed (env G) → Marked (declarations (items_in m)) → IsPutAmong id m G H →
    (x : DeclaresText id asked imports G m A) → JoinsByClauses x H
