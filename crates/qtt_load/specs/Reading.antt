-- What reading a module gives: its tree, or why there is none.
use Rattle.std.specs.Prelude.{ℕ, ◌+◌, Bool, ◌&&◌, not, nat_lt, if◌then◌else◌, List, length, codes, Option, Some, None, Result, Ok, Err}
use Rattle.qtt_base.specs.Limits.{standard}
use Rattle.qtt_base.specs.declared.limits.Quantity.TheVariants.{TextBytes}
use Rattle.qtt_base.specs.declared.place.Span.{Span}
use Rattle.qtt_lexer.specs.Lexed.{Mistake, lexed}
use Rattle.qtt_layout.specs.Rules.{laid}
use Rattle.qtt_syntax.specs.Tree.{Module}
use Rattle.qtt_syntax.specs.Tree.Module.{module_text}
use Rattle.qtt_grammar.specs.Parsed.{parsed}
use Rattle.qtt_graph.specs.Graph.{Name, same_name}
use Rattle.qtt_rules.specs.Refusal.{Cause}
use Rattle.qtt_diag.specs.Fault.{fault_detail}
use Rattle.qtt_diag.specs.Kept.{Detail}

-- why a module is not read: there is no text of its name, or the text is refused at a place, where this is kept
pub data Why : Type 0 where
  absent : Why
  refused : Span → Detail → Why

-- a value, or why there is none
abbrev pub Reading : Type 0 → Type 0
Reading A = Result A Why

infixl 10 ◌>>=◌
-- the one, and then the other with its value; why the first of the two has none is why both have none
abbrev pub ◌>>=◌ : {A B : Type 0} → Reading A → (A → Reading B) → Reading B
Ok a >>= k = k a
Err w >>= k = Err w

-- 1:1
abbrev pub front : Span
front = record { line = 1; col = 1; len = 0 }

-- ---- a text's first fault

-- what is kept of it; of each fault of a text that is something, by the laws of faults
abbrev pub kept : Option Detail → Detail
kept None = Detail.premise Cause.unread
kept (Some d) = d

abbrev pub of_fault : Mistake → Why
of_fault m = Why.refused m.span (kept (fault_detail m.kind m.word m.count))

abbrev pub staged : {A : Type 0} → Result A Mistake → Reading A
staged (Ok a) = Ok a
staged (Err m) = Err (of_fault m)

-- ---- faults of whole texts

-- a text of more bytes than a module's may have
abbrev pub too_long : Why
too_long = Why.refused front (Detail.premise (Cause.limit TextBytes (standard.text_bytes + 1)))

-- the text has few enough bytes
abbrev pub fits : List ℕ → Reading (Unit {0})
fits text = if nat_lt standard.text_bytes (length text) then Err too_long else Ok tt

-- the header's name is not the asked one, or is Prim
abbrev pub wrong_name : (asked found : Name) → Span → Why
wrong_name asked found span = Why.refused span (Detail.wrong_module_name asked found)

-- the name is the asked one, and not Prim
abbrev pub is_asked : Name → Name → Bool
is_asked asked n = same_name n asked && not (same_name n (codes "Prim"))

-- the header has such a name
abbrev pub has_name : Name → Module → Reading (Unit {0})
has_name asked (module_text h n ns is items) = if is_asked asked n then Ok tt else Err (wrong_name asked n ns)

-- ---- a text

-- the tree of a text
unfoldable pub tree_of_text : List ℕ → Reading Module
tree_of_text text = do
  u ← fits text
  tokens ← staged (lexed text)
  marks ← staged (laid tokens)
  staged (parsed marks)

-- the tree of the text of the module of this name
unfoldable pub tree_of_module : Name → List ℕ → Reading Module
tree_of_module asked text = do
  m ← tree_of_text text
  u ← has_name asked m
  Ok m

-- the module of this name, where this is its text, or it has none
abbrev pub read_text : Name → Option (List ℕ) → Reading Module
read_text asked None = Err Why.absent
read_text asked (Some text) = tree_of_module asked text

-- the bytes of the text of each name that has one
abbrev pub Texts : Type 0
Texts = Name → Option (List ℕ)

abbrev pub read_in : Texts → Name → Reading Module
read_in texts a = read_text a (texts a)
