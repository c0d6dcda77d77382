-- What the code's readers of chains answer.
use Rattle.std.specs.Prelude.{ℕ, zero, suc, Bool, true, false, not, nat_lt}
use Rattle.qtt_phrase.specs.Reading.{making_at, run_at}
use Rattle.qtt_grammar.specs.declared.class.Class.{Class}
use Rattle.qtt_grammar.specs.declared.class.Class.TheVariants as class
use Rattle.qtt_grammar.specs.declared.class.Pass.TheVariants.{Free}
use Rattle.qtt_grammar.specs.Classes.{is_big}
use Rattle.qtt_grammar.specs.Grammar.{of}
use Rattle.qtt_grammar.specs.Readers.{Reads, LevelReader, levels_at}
use Rattle.qtt_grammar.specs.View.{below}
use Rattle.qtt_grammar.specs.ChainReaders.{ChainReader, ignored, con_chain_at, simple_chain, chains_at}

-- the chains of the level below
unfoldable pub chains_below : ℕ → ChainReader
chains_below zero = simple_chain
chains_below (suc d) = chains_at d

-- a reader of chains at a level inside which so many others may open
abbrev pub chained : {R : Type 0} → (Bool → LevelReader → ChainReader → R) → ℕ → R
chained reader n = reader (nat_lt 0 n) (below Free n) (chains_below n)

-- a reader of items at a level
abbrev pub chained_within : {R : Type 0} → (LevelReader → LevelReader → ChainReader → R) → ℕ → R
chained_within reader n = reader (levels_at Free n) (below Free n) (chains_at n)

-- at most so many constructors up to the end of their block
abbrev pub cons_from : ℕ → ℕ → Reads (Unit {0})
cons_from left n = making_at ignored
    (run_at (λ b. b) not (λ _ b. b) (λ _. of is_big) (λ _. chained_within con_chain_at left) n false)

-- what begins an expression in which no binder of a chain stands
abbrev pub starts_form : Class → Bool
starts_form class.Let = true
starts_form class.Hole = true
starts_form class.Backslash = true
starts_form class.Do = true
starts_form _ = false
