-- Worked examples of texts as they are written.
use Rattle.std.specs.Prelude.{◌≡◌, ℕ, false, List, [], ◌∷◌, codes, Ok}
use Rattle.qtt_base.specs.declared.place.Span.{Span}
use Rattle.qtt_usage.specs.Mult.{ω}
use Rattle.qtt_lexer.specs.declared.token.TokenKind.{TokenKind}
use Rattle.qtt_lexer.specs.declared.token.TokenKind.TheVariants as kind
use Rattle.qtt_layout.specs.declared.laid.Laid.{Laid}
use Rattle.qtt_layout.specs.declared.laid.Laid.TheVariants.{Open, Next, Close, Tok}
use Rattle.qtt_syntax.specs.declared.expr.Mark.TheVariants.{Written, Braced, Inserted}
use Rattle.qtt_syntax.specs.declared.expr.Target.TheVariants.{Unknown}
use Rattle.qtt_syntax.specs.Tree.{Tree, Argument, Item, Module, arguments}
use Rattle.qtt_syntax.specs.Tree.Tree.{name, apply}
use Rattle.qtt_syntax.specs.Tree.Argument.{argument}
use Rattle.qtt_syntax.specs.Tree.Shape.{variable}
use Rattle.qtt_syntax.specs.Tree.Item.{signature, clause}
use Rattle.qtt_syntax.specs.Tree.Module.{module_text}
use Rattle.qtt_grammar.specs.Parsed.{parsed}
use Rattle.qtt_implicit.specs.Laws.{weighed_text, inserted, misplaced, IsWritten}

abbrev pub header_at : Span
header_at = record { line = 1; col = 1; len = 6 }

abbrev pub name_at : Span
name_at = record { line = 1; col = 8; len = 4 }

abbrev pub at : ℕ → Span
at col = record { line = 2; col = col; len = 1 }

abbrev pub token : TokenKind → Span → List ℕ → Laid
token k s text = Tok (record { kind = k; span = s; text = text })

abbrev pub word : ℕ → List ℕ → Laid
word col n = token (kind.Name n) (at col) n

-- module Main
-- x : f {a} b
abbrev pub marks : List Laid
marks =
    Open header_at ∷ token kind.Module header_at (codes "module") ∷ token (kind.Name (codes "Main")) name_at (codes "Main")
    ∷ Next (at 1) ∷ word 1 (codes "x") ∷ token kind.Colon (at 3) (codes ":") ∷ word 5 (codes "f")
    ∷ token kind.LeftBrace (at 7) (codes "{") ∷ word 8 (codes "a") ∷ token kind.RightBrace (at 9) (codes "}")
    ∷ word 11 (codes "b") ∷ Close (at 12) ∷ []

abbrev pub used : ℕ → List ℕ → Tree
used col n = name (record { path = n; target = Unknown; span = at col })

-- a text with this item
abbrev pub text_of : Item → Module
text_of i = module_text header_at (codes "Main") name_at [] (i ∷ [])

-- the type of `x` is `f` applied to these
abbrev pub applied_to : List Argument → Module
applied_to xs = text_of (signature false ω (codes "x") (at 1) (apply (used 5 (codes "f")) (arguments xs) (at 5)) (at 1))

-- how many of its applications and variables no text writes
abbrev pub unwritten : Module → ℕ
unwritten = weighed_text misplaced inserted

-- x : f {a} b
abbrev pub braces_then_name : Module
braces_then_name = applied_to (argument Braced (used 8 (codes "a")) ∷ argument Written (used 11 (codes "b")) ∷ [])

pub record WrittenRows : Type 0 where
  pub is_read : parsed marks ≡ Ok braces_then_name
  pub braces_in_front : IsWritten braces_then_name
  -- f b {a}
  pub braces_behind : unwritten
      (applied_to (argument Written (used 7 (codes "b")) ∷ argument Braced (used 10 (codes "a")) ∷ [])) ≡ 1
  -- f, applied to nothing
  pub no_argument : unwritten (applied_to []) ≡ 1
  -- f a, where the argument was inserted
  pub inserted_argument : unwritten (applied_to (argument Inserted (used 5 (codes "a")) ∷ [])) ≡ 1
  -- x y = y, where the variable was inserted
  pub inserted_variable : unwritten
      (text_of (clause (codes "x") (variable Inserted (codes "y") (at 1) ∷ []) (used 7 (codes "y")) (at 1))) ≡ 1
