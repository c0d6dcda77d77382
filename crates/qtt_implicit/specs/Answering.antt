-- What filling a text answers in code.
use Rattle.std.specs.Prelude.{◌≡◌, ℕ, List, map, Result, Ok, Err}
use Rattle.qtt_syntax.specs.Tree.{Item}
use Rattle.qtt_syntax.specs.View.{item_of, module_of}
use Rattle.qtt_syntax.specs.declared.module.Item as item_code
use Rattle.std.specs.Global.{Global}
use Rattle.std.specs.Prelude.{Vec}
use Rattle.qtt_names.specs.Exports.{Sig, sig_of}
use Rattle.qtt_implicit.specs.Filled.{Filled, FilledText, Grown, Refusal, item_nodes, walk_item, with_own}
use Rattle.qtt_implicit.specs.Filling.{Filling, put, ◌>>=◌}
use Rattle.qtt_implicit.specs.Growing.{grown}
use Rattle.qtt_implicit.specs.Known.{Known}
use Rattle.qtt_implicit.specs.Signatures.{signature_of}
use Rattle.qtt_implicit.specs.declared.filling.own_items.OwnItem.{OwnItem}
use Rattle.qtt_implicit.specs.declared.filling.texts.FilledText as text_code
use Rattle.qtt_implicit.specs.declared.filling.texts.ImplicitError.{ImplicitError}
use Rattle.qtt_implicit.specs.declared.filling.texts.ImplicitError.TheVariants as code

-- the same refusal; want of memory alone is free
abbrev pub IsRefusal : {A : Type 0} → ImplicitError → Result A Refusal → Type 0
IsRefusal (code.Unsolved n s) o = o ≡ Err (Refusal.unsolved n s)
IsRefusal (code.Braces k m s) o = o ≡ Err (Refusal.braces k m s)
IsRefusal (code.TooLarge n s) o = o ≡ Err (Refusal.too_large n s)
IsRefusal code.Memory o = Unit {0}

abbrev pub filled_text_of : text_code.FilledText → FilledText
filled_text_of t = record { text = module_of t.text; sigs = map sig_of t.sigs.items }

-- the same text with the same signatures, or the same refusal
abbrev pub Answers : Result text_code.FilledText ImplicitError → Result FilledText Refusal → Type 0
Answers (Ok t) o = o ≡ Ok (filled_text_of t)
Answers (Err e) o = IsRefusal e o

-- ---- items
-- an item, whose own nodes are put in first
abbrev pub counted_item : Known → Item → Filling Grown
counted_item K i = put (item_nodes i) >>= λ added. walk_item K i

-- an item that adds own items to those that were known, or the same refusal
abbrev pub Fills : Known → Result item_code.Item ImplicitError → Known → Result Grown Refusal → Type 0
Fills K (Ok i) L o = (own : List (List ℕ × Sig)) × (o ≡ Ok (grown (item_of i) own)) × (L ≡ with_own own K)
Fills K (Err e) L o = IsRefusal e o

-- all items, and all own items that are known behind them, or the same refusal
abbrev pub FillsAll : Result (Vec item_code.Item Global) ImplicitError → Known → Result Filled Refusal → Type 0
FillsAll (Ok is) L o = o ≡ Ok (record { items = map item_of is.items; own = L.own })
FillsAll (Err e) L o = IsRefusal e o

abbrev pub sig_of_own : OwnItem → Sig
sig_of_own o = signature_of o.sig
