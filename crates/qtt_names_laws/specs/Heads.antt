-- The names of constructor patterns: what they stand for in a text whose names have their targets.
use Rattle.std.specs.Prelude.{◌≡◌, ℕ, List, [], ◌∷◌, Option, Ok}
use Rattle.qtt_base.specs.declared.place.GlobalId.{GlobalId}
use Rattle.qtt_base.specs.declared.place.ModuleId.{ModuleId}
use Rattle.qtt_syntax.specs.declared.expr.Target.{Target}
use Rattle.qtt_syntax.specs.declared.expr.Target.TheVariants.{Global}
use Rattle.qtt_syntax.specs.Tree.{Shape, Shapes, Item, Module}
use Rattle.qtt_syntax.specs.Tree.Shape.{variable, wildcard, constructor, dot}
use Rattle.qtt_syntax.specs.Tree.Shapes.{no_shape, shape_and}
use Rattle.qtt_syntax.specs.Tree.Item.{family, signature, clause}
use Rattle.qtt_syntax.specs.Tree.Module.{module_text}
use Rattle.qtt_names.specs.PrimNames.{scope_of}
use Rattle.qtt_names.specs.Resolved.{resolved}
use Rattle.qtt_names.specs.Scope.{Imported}
use Rattle.qtt_names_laws.specs.Sight.{Place, First, names, Exported, own_item}
use Rattle.qtt_names_laws.specs.Places.{declares, after_all}
use Rattle.qtt_names_laws.specs.Resolution.{start}

-- the target is an own item that stands before the place, or one that an import exports
pub data IsItem (p : Place) : Target → Type 0 where
  own : {n : List ℕ} {i : ℕ} → First n (names p.earlier) i → IsItem p (Global (own_item p i))
  exported : {within : Option (List ℕ)} {n : List ℕ} {id : GlobalId} → Exported within n id p.imports →
      IsItem p (Global id)

abbrev mutual
  -- each constructor name of a pattern is one
  pub HeadsAre : Place → Shape → Type 0
  HeadsAre p (variable k n s) = Unit {0}
  HeadsAre p (wildcard k s) = Unit {0}
  HeadsAre p (constructor k h ps s) = IsItem p h.target × AllHeadsAre p ps
  HeadsAre p (dot k e s) = Unit {0}

  pub AllHeadsAre : Place → Shapes → Type 0
  AllHeadsAre p no_shape = Unit {0}
  AllHeadsAre p (shape_and a more) = HeadsAre p a × AllHeadsAre p more

abbrev pub PatternsAre : Place → List Shape → Type 0
PatternsAre p [] = Unit {0}
PatternsAre p (a ∷ more) = HeadsAre p a × PatternsAre p more

abbrev pub ItemIs : Place → Item → Type 0
ItemIs p (clause n ps e s) = PatternsAre p ps
ItemIs p (family n ns ps t cs s) = Unit {0}
ItemIs p (signature q m n ns t s) = Unit {0}

abbrev pub after_item : Place → Item → Place
after_item p (clause n ps e s) = p
after_item p (family n ns ps t cs s) = after_all p (declares (family n ns ps t cs s))
after_item p (signature q m n ns t s) = after_all p (declares (signature q m n ns t s))

-- each item at its place
abbrev pub ItemsAre : Place → List Item → Type 0
ItemsAre p [] = Unit {0}
ItemsAre p (i ∷ more) = ItemIs p i × ItemsAre (after_item p i) more

abbrev pub TextIs : ModuleId → List Imported → Module → Type 0
TextIs home imports (module_text h n ns is items) = ItemsAre (start home n imports).place items

-- Each constructor name in a pattern of a text with targets stands for an own item before it, or for an exported one.
abbrev pub PatternNamesAreItems : Type 0
PatternNamesAreItems = (home : ModuleId) (m n : Module) (imports : List Imported) →
    resolved (scope_of home m imports) m ≡ Ok n → TextIs home imports n
