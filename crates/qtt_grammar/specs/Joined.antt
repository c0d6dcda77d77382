-- A text read twice: with all limits but that on indices and fields, and for that one.
use Rattle.std.specs.Prelude.{cond, List, [], ◌∷◌}
use Rattle.qtt_phrase.specs.Reading.{Read}
use Rattle.qtt_phrase.specs.Reading.Read.{got, bad, over}
use Rattle.qtt_syntax.specs.Tree.{Module}
use Rattle.qtt_grammar.specs.declared.class.Pass.TheVariants.{Counts}
use Rattle.qtt_grammar.specs.declared.lexeme.Lexeme.{Lexeme}
use Rattle.qtt_grammar.specs.declared.stop.Excess.{Excess}
use Rattle.qtt_grammar.specs.Readers.{text_at}
use Rattle.qtt_grammar.specs.ChainReaders.{text_chain_at}
use Rattle.qtt_grammar.specs.Outcome.{Outcome, is_before}
use Rattle.qtt_grammar.specs.Outcome.Outcome.{tree, passed, stopped}

-- Of two limits that are passed the one at the earlier place is told; an index or field that is one too many
-- is told before a bad token.
abbrev pub joined : Read Lexeme Excess Module → Read Lexeme Excess (Unit {0}) → Read Lexeme Excess Module
joined (over e rest) (over f more) = cond (is_before e.place f.place) (over e rest) (over f more)
joined (got t rest) (over f more) = over f more
joined (bad k rest) (over f more) = over f more
joined read (got a more) = read
joined read (bad k more) = read

-- what reading tells of whole texts
abbrev pub outcome_of : Read Lexeme Excess Module → Outcome
outcome_of (got t []) = tree t
outcome_of (got t (x ∷ rest)) = stopped (x ∷ rest)
outcome_of (bad k rest) = stopped rest
outcome_of (over e rest) = passed e

abbrev pub read_whole : List Lexeme → Read Lexeme Excess Module
read_whole ls = joined (text_at Counts ls) (text_chain_at ls)
