-- Items with what is filled in, and the own items that they add, in code.
use Rattle.std.specs.Prelude.{◌≡◌, ℕ, List, [], Result, Ok, Err}
use Rattle.qtt_syntax.specs.Tree.{Item}
use Rattle.qtt_names.specs.Exports.{Sig}
use Rattle.qtt_implicit.specs.Filled.{Grown, Params, with_own}
use Rattle.qtt_implicit.specs.Filling.{Stop}
use Rattle.qtt_implicit.specs.Items.{clause_tree, param_row}
use Rattle.qtt_implicit.specs.Known.{Known}
use Rattle.qtt_implicit.specs.Meeting.{IsStop}
use Rattle.qtt_implicit.specs.TextTypes.{local_types}
use Rattle.qtt_implicit.specs.declared.filling.items.ClauseNode.{ClauseNode}
use Rattle.qtt_implicit.specs.declared.filling.families.Params as params_code
use Rattle.qtt_implicit.specs.declared.filling.stop.Stop as stop_code

abbrev pub grown : Item → List (List ℕ × Sig) → Grown
grown i own = record { item = i; own = own }

-- a clause adds no own item
abbrev pub grown_clause : ClauseNode → Grown
grown_clause c = grown (clause_tree c) []

-- an item that adds own items to those that were known, or the same stop
abbrev pub Grows : {X : Type 0} → (X → Item) → Known → Result X stop_code.Stop → Known → Result (Grown × ℕ) Stop → ℕ →
    Type 0
Grows view K (Ok x) L o left =
    (own : List (List ℕ × Sig)) × (o ≡ Ok (grown (view x) own, left)) × (L ≡ with_own own K)
Grows view K (Err e) L o left = IsStop e o

abbrev pub params_of : params_code.Params → Params
params_of p = record { params = param_row p.params.now; types = local_types p.locals.now }
