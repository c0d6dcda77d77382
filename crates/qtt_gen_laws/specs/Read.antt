-- Generated texts are read: lexed, laid out and parsed, as the trees that they were printed from.
use Rattle.std.specs.Prelude.{◌≡◌, ℕ, ◌-◌, ◌≤◌, ◌^◌, List, [], ◌∷◌, ◌++◌, map, flat_map, length, Ok}
use Rattle.qtt_base.specs.Limits.{standard}
use Rattle.qtt_lexer.specs.Lexed.{lexed}
use Rattle.qtt_lexer.specs.declared.token.Token.{Token}
use Rattle.qtt_layout.specs.Rules.{laid}
use Rattle.qtt_layout.specs.declared.laid.Laid.{Laid}
use Rattle.qtt_syntax.specs.Printing.{printed}
use Rattle.qtt_syntax.specs.Tree.{Module}
use Rattle.qtt_syntax.specs.Tree.Module.{module_text}
use Rattle.qtt_grammar.specs.Parsed.{parsed}
use Rattle.qtt_reprint.specs.Unplaced.{bare_module}
use Rattle.qtt_gen.specs.Generated.{below, generated}
use Rattle.qtt_gen.specs.Canonical.{module_tree, main_tree}

-- the name in a text's header
abbrev pub header_name : Module → List ℕ
header_name (module_text h n ns is items) = n

-- the text of a module of this name was printed from this tree, and each stage of reading it gives its value and no
-- fault, the last one the same tree but for places, with the name in its header
pub record IsReadAs (name text : List ℕ) (t : Module) : Type 0 where
  pub from : text ≡ printed t
  pub few : length text ≤ standard.text_bytes
  pub tokens : List Token
  pub are_lexed : lexed text ≡ Ok tokens
  pub marks : List Laid
  pub are_laid : laid tokens ≡ Ok marks
  pub tree : Module
  pub is_parsed : parsed marks ≡ Ok tree
  pub same : bare_module tree ≡ bare_module t
  pub named : header_name tree ≡ name

abbrev pub trees_of : ℕ → List Module
trees_of i = map (module_tree i) (below 4)

-- the trees of the modules of a number, in the order of their texts
abbrev pub generated_trees : ℕ → List Module
generated_trees n = flat_map trees_of (below n) ++ main_tree (n - 1) ∷ []

-- each text is read as the tree in its place
abbrev pub AreReadAs : List (List ℕ × List ℕ) → List Module → Type 0
AreReadAs [] [] = Unit {0}
AreReadAs (m ∷ ms) (t ∷ ts) = IsReadAs m.0 m.1 t × AreReadAs ms ts
AreReadAs [] (t ∷ ts) = ⊥
AreReadAs (m ∷ ms) [] = ⊥

-- Up to the number from which a constant, as 4 i + j for i = 2 ^ 61 and j = 0, is none of 64 bits.
abbrev pub GeneratedTextsAreRead : Type 0
GeneratedTextsAreRead = (n : ℕ) → n ≤ 2 ^ 61 → AreReadAs (generated n) (generated_trees n)
