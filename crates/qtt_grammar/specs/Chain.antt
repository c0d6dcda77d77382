-- The limit on indices and fields: they are the binders of the chain that a type is.
use Rattle.std.specs.Prelude.{◌≡◌, ℕ, suc, cond, List, [], ◌∷◌, Option, Some, None}
use Rattle.qtt_base.specs.declared.limits.Quantity.TheVariants as quantity
use Rattle.qtt_syntax.specs.Tree.{Tree, Con, Item, Module}
use Rattle.qtt_syntax.specs.Tree.Tree.{pi}
use Rattle.qtt_syntax.specs.Tree.Con.{con}
use Rattle.qtt_syntax.specs.Tree.Item.{family}
use Rattle.qtt_syntax.specs.Tree.Module.{module_text}
use Rattle.qtt_phrase.specs.Phrase.{first}
use Rattle.qtt_grammar.specs.declared.class.Pass.TheVariants.{Counts, Free}
use Rattle.qtt_grammar.specs.declared.stop.Excess.{Excess}
use Rattle.qtt_grammar.specs.Limits.{is_full, one_above}
use Rattle.qtt_grammar.specs.Grammar.{Says, IsText}

-- the first binder of a chain that is one too many, where so many stand before the chain
abbrev pub chain_excess : ℕ → Tree → Option Excess
chain_excess n (pi k m x domain codomain s) =
    cond (is_full Counts quantity.Parts n) (Some (one_above quantity.Parts s)) (chain_excess (suc n) codomain)
chain_excess n _ = None

-- the first field that is one too many
abbrev pub fields_excess : List Con → Option Excess
fields_excess [] = None
fields_excess (con n type s ∷ more) = first (chain_excess 0 type) (fields_excess more)

-- the first index or field of a family that is one too many
abbrev pub item_excess : Item → Option Excess
item_excess (family n ns params type cons s) = first (chain_excess 0 type) (fields_excess cons)
item_excess _ = None

abbrev pub items_excess : List Item → Option Excess
items_excess [] = None
items_excess (i ∷ more) = first (item_excess i) (items_excess more)

abbrev pub module_excess : Module → Option Excess
module_excess (module_text s n ns imports items) = items_excess items

-- a module's text whose first index or field that is one too many is this one, or that has none
abbrev pub IsChained : Says (Unit {0})
IsChained ts _ o = (t : Module) × IsText Free ts t None × (module_excess t ≡ o)
