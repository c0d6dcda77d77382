-- Worked examples of the limit on indices and fields.
use Rattle.std.specs.Prelude.{◌≡◌, ℕ, zero, suc, List, [], ◌∷◌, Some, None, codes}
use Rattle.qtt_base.specs.declared.limits.Quantity.TheVariants as quantity
use Rattle.qtt_usage.specs.declared.mult.Mult.TheVariants as mult
use Rattle.qtt_syntax.specs.declared.expr.Mark.TheVariants.{Written}
use Rattle.qtt_syntax.specs.Tree.{Tree}
use Rattle.qtt_syntax.specs.Tree.Tree.{pi}
use Rattle.qtt_phrase.specs.Reading.Read.{got, over}
use Rattle.qtt_grammar.specs.declared.class.Class.TheVariants as class
use Rattle.qtt_grammar.specs.declared.lexeme.Lexeme.{Lexeme}
use Rattle.qtt_grammar.specs.Lexeme.{sign, word}
use Rattle.qtt_grammar.specs.Limits.{one_above}
use Rattle.qtt_grammar.specs.Examples.{at, name_of}
use Rattle.qtt_grammar.specs.Chain.{chain_excess}
use Rattle.qtt_grammar.specs.ChainReaders.{chains_at}

-- so many arrows; each stands at the number of those behind it
abbrev pub arrows : ℕ → Tree
arrows zero = name_of 0 (codes "A")
arrows (suc n) = pi Written mult.Many (codes "_") (name_of n (codes "A")) (arrows n) (at n)

abbrev pub a : ℕ → Lexeme
a n = word class.Small (at n) (codes "a")

-- the examples, computed
pub record ChainRows : Type 0 where
  pub hundred_binders : chain_excess 0 (arrows 100) ≡ None
  pub binder_behind_hundred : chain_excess 0 (arrows 101) ≡ Some (one_above quantity.Parts (at 0))
  -- behind 99 binders `a -> a` is a hundredth one
  pub hundredth : (chains_at 1).expr 99 (a 1 ∷ sign class.Arrow (at 2) ∷ a 3 ∷ []) ≡ got None []
  -- behind 100 binders its arrow settles that one is too many, whatever stands behind it
  pub settled_by_arrow : (more : List Lexeme) →
      (chains_at 1).expr 100 (a 1 ∷ sign class.Arrow (at 2) ∷ more) ≡ over (one_above quantity.Parts (at 1)) more
  -- so does a binder's colon, whatever its type is
  pub settled_by_colon : (more : List Lexeme) →
      (chains_at 1).expr 100 (sign class.LeftParen (at 1) ∷ a 2 ∷ sign class.Colon (at 3) ∷ more) ≡ over
      (one_above quantity.Parts (at 1)) more
  -- an arrow in brackets is one too many if the type ends behind them
  pub left_open_by_bracket : (chains_at 2).expr 100
      (sign class.LeftParen (at 1) ∷ a 2 ∷ sign class.Arrow (at 3) ∷ a 4 ∷ sign class.RightParen (at 5) ∷ []) ≡ got
      (Some (one_above quantity.Parts (at 2))) []
  -- with an arrow behind the bracket, the bracket is where the binder begins
  pub settled_behind_bracket : (more : List Lexeme) →
      (chains_at 2).expr 100
      (sign class.LeftParen (at 1) ∷ a 2 ∷ sign class.Arrow (at 3) ∷ a 4 ∷ sign class.RightParen (at 5) ∷
      sign class.Arrow (at 6) ∷ more) ≡ over (one_above quantity.Parts (at 1)) more
