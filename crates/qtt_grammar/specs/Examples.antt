-- Worked examples of reading, with one nesting level.
use Rattle.std.specs.Prelude.{◌≡◌, ℕ, false, List, [], ◌∷◌, codes}
use Rattle.qtt_base.specs.declared.place.Span.{Span}
use Rattle.qtt_usage.specs.declared.mult.Mult.TheVariants as mult
use Rattle.qtt_syntax.specs.declared.expr.Mark.TheVariants.{Written}
use Rattle.qtt_syntax.specs.declared.expr.Target.TheVariants.{Unknown}
use Rattle.qtt_syntax.specs.Tree.{Tree, binders}
use Rattle.qtt_syntax.specs.Tree.Tree.{name, pi, lambda}
use Rattle.qtt_syntax.specs.Tree.Binder.{typed_binder}
use Rattle.qtt_syntax.specs.Tree.Item.{signature}
use Rattle.qtt_syntax.specs.Tree.Module.{module_text}
use Rattle.qtt_phrase.specs.Reading.Read.{got, bad}
use Rattle.qtt_phrase.specs.Reading.Kind.{unexpected, too_deep}
use Rattle.qtt_grammar.specs.declared.class.Class.TheVariants as class
use Rattle.qtt_grammar.specs.declared.class.Pass.TheVariants.{Counts}
use Rattle.qtt_grammar.specs.declared.lexeme.Lexeme.{Lexeme}
use Rattle.qtt_grammar.specs.Lexeme.{sign, word}
use Rattle.qtt_grammar.specs.Readers.{module_at, levels_at}

-- the place with a number
abbrev pub at : ℕ → Span
at n = record { line = 1; col = n; len = 1 }

abbrev pub name_of : ℕ → List ℕ → Tree
name_of n path = name (record { path = path; target = Unknown; span = at n })

-- a header and a signature
abbrev pub signed : List Lexeme
signed = sign class.Open (at 1) ∷ sign class.Module (at 1) ∷ word class.Big (at 2) (codes "Main") ∷
    sign class.Next (at 3) ∷ word class.Small (at 3) (codes "x") ∷ sign class.Colon (at 4) ∷ word class.Big (at 5)
    (codes "Int") ∷ sign class.Close (at 6) ∷ []

-- an arrow's right side is a nesting level
abbrev pub arrows : List Lexeme
arrows = word class.Small (at 1) (codes "a") ∷ sign class.Arrow (at 2) ∷ word class.Small (at 3) (codes "b") ∷
    sign class.Arrow (at 4) ∷ word class.Small (at 5) (codes "c") ∷ []

abbrev pub bound_in_brackets : List Lexeme
bound_in_brackets = sign class.Backslash (at 1) ∷ sign class.LeftParen (at 2) ∷ word class.Small (at 3)
    (codes "a") ∷ sign class.Colon (at 4) ∷ word class.Small (at 5) (codes "b") ∷ sign class.RightParen (at 6) ∷
    sign class.FatArrow (at 7) ∷ word class.Small (at 8) (codes "c") ∷ []

-- the examples, computed
pub record ReadingRows : Type 0 where
  pub reads_signature : module_at Counts (levels_at Counts 1) (levels_at Counts 0) signed ≡ got
      (module_text (at 1) (codes "Main") (at 2) []
      (signature false mult.Many (codes "x") (at 3) (name_of 5 (codes "Int")) (at 3) ∷ [])) []
  -- a header alone ends too soon where its name would stand
  pub wants_name : module_at Counts (levels_at Counts 1) (levels_at Counts 0)
      (sign class.Open (at 1) ∷ sign class.Module (at 1) ∷ sign class.Close (at 2) ∷ []) ≡ bad unexpected
      (sign class.Close (at 2) ∷ [])
  pub arrow_too_deep : (levels_at Counts 1).expr false arrows ≡ bad too_deep
      (sign class.Arrow (at 4) ∷ word class.Small (at 5) (codes "c") ∷ [])
  pub arrows_to_the_right : (levels_at Counts 2).expr false arrows ≡ got
      (pi Written mult.Many (codes "_") (name_of 1 (codes "a"))
      (pi Written mult.Many (codes "_") (name_of 3 (codes "b")) (name_of 5 (codes "c")) (at 3)) (at 1)) []
  -- the bracket of a binder of a `\` is a nesting level inside the `\`
  pub bracket_too_deep : (more : List Lexeme) →
      (levels_at Counts 1).expr false (sign class.Backslash (at 1) ∷ sign class.LeftParen (at 2) ∷ more) ≡ bad
      too_deep (sign class.LeftParen (at 2) ∷ more)
  pub bracket_inside_function : (levels_at Counts 2).expr false bound_in_brackets ≡ got
      (lambda (binders (typed_binder mult.Many (record { name = codes "a"; span = at 3 }) (name_of 5 (codes "b"))
      (at 2) ∷ [])) (name_of 8 (codes "c")) (at 1)) []
