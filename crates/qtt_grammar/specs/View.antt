-- What the code's readers answer.
use Rattle.std.specs.Prelude.{◌≡◌, ℕ, zero, suc, ◌<◌, ◌==◌, nat_lt, Bool, List, [], ◌∷◌, ◌++◌, length, map, Result, Ok, Err}
use Rattle.std.specs.Borrow.{Bor}
use Rattle.qtt_base.specs.declared.place.Span.{Span}
use Rattle.qtt_phrase.specs.Reading.{Kind, Read, ◌>>=◌}
use Rattle.qtt_phrase.specs.Reading.Kind.{unexpected, too_deep}
use Rattle.qtt_phrase.specs.Reading.Read.{got, bad, over}
use Rattle.qtt_grammar.specs.declared.class.Pass.{Pass}
use Rattle.qtt_grammar.specs.declared.stop.Excess.{Excess}
use Rattle.qtt_grammar.specs.declared.stop.Reason.{Reason}
use Rattle.qtt_grammar.specs.declared.stop.Reason.TheVariants as reason
use Rattle.qtt_grammar.specs.declared.stop.Stop.{Stop}
use Rattle.qtt_grammar.specs.declared.stop.Stop.TheVariants as stop
use Rattle.qtt_syntax.specs.View.{tree_of, written_type, item_of}
use Rattle.qtt_syntax.specs.Tree.{Item}
use Rattle.qtt_syntax.specs.declared.module.Import.{Import}
use Rattle.qtt_syntax.specs.declared.expr.Expr.{Expr}
use Rattle.qtt_grammar.specs.Grammar.{LetParts, Place, Entry, imported, listed, imports_of, items_of}
use Rattle.qtt_grammar.specs.declared.body.Body.{Body}
use Rattle.qtt_grammar.specs.declared.body.Entry as code
use Rattle.qtt_grammar.specs.declared.body.Entry.TheVariants as entry
use Rattle.qtt_grammar.specs.declared.block.LetHead.{LetHead}
use Rattle.qtt_grammar.specs.declared.lexeme.Lexeme.{Lexeme}
use Rattle.qtt_grammar.specs.Readers.{LevelReader, simple_reader, levels_at}

abbrev pub kind_of : Reason → Kind
kind_of reason.Unexpected = unexpected
kind_of reason.TooDeep = too_deep

abbrev pub Fails : {A : Type 0} → Stop → Read Lexeme Excess A → Type 0
Fails stop.Memory read = Unit {0}
Fails (stop.Bad r rest) read = read ≡ bad (kind_of r) rest.now
Fails (stop.Over e rest) read = read ≡ over e rest.now

-- What a function returned, shown so, is what reading gives, unless memory ran out.
abbrev pub Gives : {X A : Type 0} → (X → Read Lexeme Excess A) → Result X Stop → Read Lexeme Excess A → Type 0
Gives shown (Ok x) read = read ≡ shown x
Gives shown (Err e) read = Fails e read

-- the lexemes that are still to be read
abbrev pub Rest : Type 0
Rest = Bor (List Lexeme)

-- the same for a value, shown so, and the lexemes behind it
abbrev pub Answers : {X A : Type 0} → (X → A) → Result (X × Rest) Stop → Read Lexeme Excess A → Type 0
Answers shown = Gives (λ x. got (shown x.0) x.1.now)

-- the same with these in front of the list that is read
abbrev pub with_front : {A : Type 0} → List A → Read Lexeme Excess (List A) → Read Lexeme Excess (List A)
with_front front read = read >>= λ more rest. got (front ++ more) rest

-- the first one and those behind it
abbrev pub both : {A : Type 0} → A × List A → List A
both (a, more) = a ∷ more

-- the place of the first lexeme
abbrev pub first_place_at : List Lexeme → Read Lexeme Excess Span
first_place_at [] = bad unexpected []
first_place_at (x ∷ ls) = got x.place (x ∷ ls)

-- the readers of the level below
unfoldable pub below : Pass → ℕ → LevelReader
below pass zero = simple_reader
below pass (suc d) = levels_at pass d

-- a reader of a level inside which so many others may open
abbrev pub inside : {R : Type 0} → (Pass → Bool → LevelReader → R) → Pass → ℕ → R
inside reader pass n = reader pass (nat_lt 0 n) (below pass n)

-- a reader of items at a level
abbrev pub within : {R : Type 0} → (Pass → LevelReader → LevelReader → R) → Pass → ℕ → R
within reader pass n = reader pass (levels_at pass n) (below pass n)

-- a function reads the expressions of each level below n: it may be called there, and
abbrev pub MayReadBelow : ℕ → (ℕ → Bool → Rest → Type 0) → Type 0
MayReadBelow n may = (m : ℕ) (tail : Bool) (rest : Rest) → m < n → may m tail rest

-- answers what the level's reader gives
abbrev pub ReadsBelow : Pass → ℕ → (ℕ → Bool → Rest → Result (Expr × Rest) Stop → Type 0) → Type 0
ReadsBelow pass n gives =
    (m : ℕ) (tail : Bool) (rest : Rest) (answer : Result (Expr × Rest) Stop) → m < n → gives m tail rest answer →
    Answers tree_of answer ((levels_at pass m).expr tail rest.now)

-- what a `let` binds
abbrev pub let_parts_of : LetHead → LetParts
let_parts_of h = (h.span, (h.mult, (h.name, (written_type h.ty, tree_of h.value))))

-- ---- what stands behind a header

abbrev pub entry_of : code.Entry → Entry
entry_of (entry.Import i) = imported i
entry_of (entry.Item i) = listed (item_of i)

-- where among the items a reader is behind these
abbrev pub place_of : Body → Place
place_of b = record {
  at_imports = length b.items.items == 0;
  items = length b.items.items;
  clauses_of = b.clauses_of;
  clauses = b.clauses;
}

-- imports and items apart
abbrev pub Parts : Type 0
Parts = List Import × List Item

abbrev pub parts_of : List Entry → Parts
parts_of es = (imports_of es, items_of es)

abbrev pub body_of : Body → Parts
body_of b = (b.imports.items, map item_of b.items.items)

-- further entries behind those
abbrev pub joined_body : Parts → List Entry → Parts
joined_body (is, ts) es = (is ++ imports_of es, ts ++ items_of es)

-- the same with these in front of the entries that are read
abbrev pub with_body : Parts → Read Lexeme Excess (List Entry) → Read Lexeme Excess Parts
with_body front read = read >>= λ es rest. got (joined_body front es) rest
