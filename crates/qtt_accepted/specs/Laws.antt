-- What elaboration keeps of the environment's form.
use Rattle.std.specs.Prelude.{◌≡◌, ◌≢◌, ℕ, List, [], ◌∷◌, Some, None, false, ◌++◌}
use Rattle.qtt_base.specs.declared.place.GlobalId.{GlobalId}
use Rattle.qtt_usage.specs.declared.mult.Mult.{Mult}
use Rattle.qtt_usage.specs.Mult.{𝟙}
use Rattle.qtt_syntax.specs.Tree.{Tree, Param, Con, Item}
use Rattle.qtt_term.specs.Term.{Term, same_id}
use Rattle.qtt_term.specs.Signature.{Definition, Env}
use Rattle.qtt_term.specs.Contraction.{BodiesClosed}
use Rattle.qtt_term.specs.Judgement.{Part}
use Rattle.qtt_term.specs.Positivity.{Good}
use Rattle.qtt_term.specs.Environment.{NoTape, part_of, WellFormed, Complete}
use Rattle.qtt_term.specs.Items.{FamilyEntry, DefinitionEntry}
use Rattle.qtt_term.specs.Ask.{Ending, Ends}
use Rattle.qtt_term.specs.Entries.{Entries, env, prim_entries, with_family, with_definition, with_body}
use Rattle.qtt_term.specs.Scope.{Scope, depth}
use Rattle.qtt_rules.specs.Judged.{Judged, Mode}
use Rattle.qtt_split.specs.Group.{Defined, body_holds}
use Rattle.qtt_bidi.specs.Elaboration.{judge}
use Rattle.qtt_holes.specs.Hole.{Hole}
use Rattle.qtt_module.specs.Families.{family, signature}
use Rattle.qtt_module.specs.Declarations.{declarations}
use Rattle.qtt_module.specs.Sides.{Given, group_of}
use Rattle.qtt_module.specs.Module.{Home, Stage, start, InTurn}
use Rattle.qtt_preserve.specs.Grows.{CasesIn}
use Rattle.qtt_accepted.specs.Stages.{FreshFrom, WellNamed}
use Rattle.qtt_accepted.specs.Scoped.{TypesClosed, NamesBelow, ModeBelow, JudgedBelow}
use Rattle.qtt_accepted.specs.Tapeless.{Tapeless, NamesTapeless, ModeTapeless, JudgedTapeless}

-- where no Tape stands in the environment, the scope and the mode, none stands in what elaboration gives
abbrev pub ElaborationMakesNoTape : Type 0
ElaborationMakesNoTape = (G : Entries) (p : Part) (S : Scope) (m : Mode) (e : Tree) (j : Judged) → Tapeless (env G) →
    NamesTapeless S.names → ModeTapeless m →
    Ends (env G) (judge G p S m e) (Ending.ok j) → JudgedTapeless j

abbrev pub WellFormedIsTapeless : Type 0
WellFormedIsTapeless = (E : Env) → WellFormed E → Tapeless E

-- a field's type that is good for a family holds no Case of it
abbrev pub GoodFieldsHoldNoCase : Type 0
GoodFieldsHoldNoCase = (f : GlobalId) (T : Term) → Good f T → CasesIn (λ g. same_id f g ≡ false) T

-- a signature that is accepted, under an id that is new and no mark 1, keeps the environment well formed
abbrev pub SignaturesKeepForm : Type 0
SignaturesKeepForm = (G : Entries) (d : GlobalId) (M n : List ℕ) (q : Mult) (t : Tree) (D : DefinitionEntry) →
    WellFormed (env G) → (env G).definition d ≡ None → q ≢ 𝟙 →
    Ends (env G) (signature G d M n q t) (Ending.ok D) → WellFormed (env (with_definition D G))

-- a family that is accepted, under an id that is new, keeps the environment well formed
abbrev pub FamiliesKeepForm : Type 0
FamiliesKeepForm = (G : Entries) (f : GlobalId) (M n : List ℕ) (ps : List Param) (t : Tree) (cs : List Con)
    (F : FamilyEntry) → WellFormed (env G) → (env G).family f ≡ None →
    Ends (env G) (family G f M n ps t cs) (Ending.ok F) → WellFormed (env (with_family F G))

-- a body in which no Tape stands, and which is accepted for a definition that has none, keeps the environment well
-- formed
abbrev pub BodiesKeepForm : Type 0
BodiesKeepForm = (D : Defined) (d : GlobalId) (A : Definition) (b : Term) → WellFormed (env D.group.globals) →
    (env D.group.globals).definition d ≡ Some A → A.body ≡ None →
    D.type ≡ A.type → D.group.part ≡ part_of A.mult → NoTape b → Ends (env D.group.globals) (body_holds D b)
    (Ending.ok tt) → WellFormed (env (with_body d b D.group.globals))

-- where no variable is free in the types and bodies of definitions, and names and mode stay in the scope, what
-- elaboration gives stays there
abbrev pub ElaborationStaysInScope : Type 0
ElaborationStaysInScope = (G : Entries) (p : Part) (S : Scope) (m : Mode) (e : Tree) (j : Judged) →
    BodiesClosed (env G) → TypesClosed (env G) → NamesBelow (depth S) S.names → ModeBelow (depth S) m →
    Ends (env G) (judge G p S m e) (Ending.ok j) → JudgedBelow (depth S) j

-- no Tape stands in the body that an accepted group of clauses gives
abbrev pub GroupsMakeNoTape : Type 0
GroupsMakeNoTape = (D : Defined) (b : Term) → Tapeless (env D.group.globals) → NoTape D.type →
    Ends (env D.group.globals) (group_of D) (Ending.ok (Given.body b)) → NoTape b

-- an accepted module keeps the environment well formed; and complete, where it has no hole
pub record ModulesKeepForm : Type 0 where
  pub formed : (M : Home) (G : Entries) (is : List Item) (S : Stage) → WellFormed (env G) → FreshFrom M 0 G →
      WellNamed (declarations is) → InTurn M (start G) (declarations is) (Ending.ok S) → WellFormed (env S.globals)
  pub complete : (M : Home) (G : Entries) (is : List Item) (S : Stage) → WellFormed (env G) → FreshFrom M 0 G →
      WellNamed (declarations is) → InTurn M (start G) (declarations is) (Ending.ok S) → Complete (env G) →
      S.holes ≡ [] → Complete (env S.globals)

-- ---- builds
-- modules in turn over Prim, each with its number and name, under ids that are new; what they declare, and their holes
pub data Build : List (Home × List Item) → Entries → List Hole → Type 0 where
  prim : Build [] prim_entries []
  next : {ms : List (Home × List Item)} {G : Entries} {hs : List Hole} {M : Home} {is : List Item} {S : Stage} →
      Build ms G hs → FreshFrom M 0 G → WellNamed (declarations is) →
      InTurn M (start G) (declarations is) (Ending.ok S) → Build ((M, is) ∷ ms) S.globals (hs ++ S.holes)

-- what an accepted build declares is well formed; and complete, where it has no hole
pub record BuildsAreFormed : Type 0 where
  pub formed : (ms : List (Home × List Item)) (G : Entries) (hs : List Hole) → Build ms G hs → WellFormed (env G)
  pub complete : (ms : List (Home × List Item)) (G : Entries) → Build ms G [] → Complete (env G)
