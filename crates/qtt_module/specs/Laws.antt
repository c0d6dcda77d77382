-- The laws that the functions of this crate ensure.
use Rattle.std.specs.Prelude.{◌≡◌, ◌↔◌, ℕ, List, Option}
use Rattle.qtt_base.specs.declared.place.GlobalId.{GlobalId}
use Rattle.qtt_base.specs.declared.place.Span.{Span}
use Rattle.qtt_usage.specs.declared.mult.Mult.{Mult}
use Rattle.qtt_syntax.specs.Tree.{Tree, Param, Con, Item}
use Rattle.qtt_term.specs.Ask.{Question, Ending, Ends, NoReading}
use Rattle.qtt_term.specs.Items.{FamilyEntry, DefinitionEntry}
use Rattle.qtt_term.specs.Entries.{Entries, env}
use Rattle.qtt_rules.specs.Refusal.{Place, Refusal}
use Rattle.qtt_split.specs.Group.{Defined}
use Rattle.qtt_module.specs.Families.{Head, constructors, family, signature}
use Rattle.qtt_module.specs.FamilyRules.{DeclaresFamily, DeclaresSignature}
use Rattle.qtt_module.specs.Sides.{Given, group_of}
use Rattle.qtt_module.specs.GroupRules.{GivesGroup}
use Rattle.qtt_module.specs.Declarations.{Declaration, declarations}
use Rattle.qtt_module.specs.Module.{Home, Stage, start, declare, InTurn, Checked, module_within, Accepts, Refuses, Spends}
use Rattle.qtt_module.specs.Main.{main}
use Rattle.qtt_module.specs.ModuleRules.{Declares, DeclaresAll, DeclaresModule, IsMain}

-- without a bound the premises of families and signatures end with an answer exactly where the rules derive it
pub record DeclarationsAreDerived : Type 0 where
  pub family : (G : Entries) (f : GlobalId) (M n : List ℕ) (ps : List Param) (t : Tree) (cs : List Con)
      (F : FamilyEntry) → Ends (env G) (family G f M n ps t cs) (Ending.ok F) ↔ DeclaresFamily G f M n ps t cs F
  pub signature : (G : Entries) (d : GlobalId) (M n : List ℕ) (q : Mult) (t : Tree) (D : DefinitionEntry) →
      Ends (env G) (signature G d M n q t) (Ending.ok D) ↔ DeclaresSignature G d M n q t D

-- without a bound the premises of a group of clauses end with what the rules derive
abbrev pub GroupsAreDerived : Type 0
GroupsAreDerived = (D : Defined) (g : Given) →
    Ends (env D.group.globals) (group_of D) (Ending.ok g) ↔ GivesGroup D g

-- without a bound the items of a module in turn end with what the rules derive, and so a module is accepted exactly
-- where it declares this
pub record ModulesAreDerived : Type 0 where
  pub item : (M : Home) (S : Stage) (d : Declaration) (T : Stage) →
      Ends (env S.globals) (declare M S d) (Ending.ok T) ↔ Declares M S d T
  pub items : (M : Home) (S : Stage) (ds : List Declaration) (T : Stage) →
      InTurn M S ds (Ending.ok T) ↔ DeclaresAll M S ds T
  pub whole : (M : Home) (G : Entries) (is : List Item) (C : Checked) → Accepts M G is C ↔ DeclaresModule M G is C

-- without a bound the test of a main ends with a definition exactly where it is the program's main
abbrev pub MainsAreDerived : Type 0
MainsAreDerived = (G : Entries) (s : Span) (o : Option GlobalId) (d : GlobalId) →
    Ends (env G) (main G s o) (Ending.ok d) ↔ IsMain G o d

-- constructors ask for no reading, so it makes no difference to them that their family stands already
abbrev pub ConstructorsAskForNoReading : Type 0
ConstructorsAskForNoReading = (G : Entries) (F : Head) (k : ℕ) (cs : List Con) → NoReading (constructors G F k cs)

-- what a module is answered within a budget is so without one; and what is spent is the first question that is not
-- answered
pub record AnswersAreSo : Type 0 where
  pub accepted : (M : Home) (n : ℕ) (G : Entries) (is : List Item) (C : Checked) →
      module_within M n G is ≡ Ending.ok C → Accepts M G is C
  pub refused : (M : Home) (n : ℕ) (G : Entries) (is : List Item) (r : Refusal) →
      module_within M n G is ≡ Ending.fails r → Refuses M G is r
  pub spent : (M : Home) (n : ℕ) (G : Entries) (is : List Item) (p : Place) (q : Question) →
      module_within M n G is ≡ Ending.spent p q → Spends M n (start G) (declarations is) p q
