-- Reading the chains of types for the first binder that is one too many.
use Rattle.std.specs.Prelude.{ℕ, zero, suc, Bool, true, false, cond, not, List, [], ◌∷◌, Option, None}
use Rattle.qtt_base.specs.declared.place.Span.{Span}
use Rattle.qtt_base.specs.declared.limits.Quantity.TheVariants as quantity
use Rattle.qtt_usage.specs.declared.mult.Mult.{Mult}
use Rattle.qtt_syntax.specs.declared.expr.Local.{Local}
use Rattle.qtt_syntax.specs.Tree.{Tree}
use Rattle.qtt_phrase.specs.Phrase.{opens}
use Rattle.qtt_phrase.specs.Reading.{token_at, chain_at, then_at, making_at, begins, either_at, perhaps_at, all_at, counted_at, placed_at, cap_at}
use Rattle.qtt_phrase.specs.Reading.Kind.{unexpected, too_deep}
use Rattle.qtt_phrase.specs.Reading.Read.{bad, over}
use Rattle.qtt_grammar.specs.declared.class.Class.{Class}
use Rattle.qtt_grammar.specs.declared.class.Class.TheVariants as class
use Rattle.qtt_grammar.specs.declared.class.Pass.TheVariants.{Counts, Free}
use Rattle.qtt_grammar.specs.declared.lexeme.Lexeme.{Lexeme}
use Rattle.qtt_grammar.specs.declared.stop.Excess.{Excess}
use Rattle.qtt_grammar.specs.Classes.{is_open, is_next, is_close, is_module, is_import, is_data, is_where, is_do, is_let, is_partial, is_zero, is_hole, is_arrow, is_colon, is_backslash, is_left_brace, is_right_brace, is_wildcard, is_name, is_simple, is_big, is_digit}
use Rattle.qtt_grammar.specs.Limits.{is_full, one_above}
use Rattle.qtt_grammar.specs.Grammar.{of, place, mult_of, start, second}
use Rattle.qtt_grammar.specs.Readers.{Reads, LevelReader, symbol_at, opener_at, local_at, up_to_at, begins_binder, typed_at, lambda_at, letting_at, doing_at, hole_at, app_at, levels_at, simple_reader, params_at, partial_at, erased_at, defining_at}
use Rattle.qtt_grammar.specs.Chain.{chain_excess}

-- What is one too many if the type ends there: so long as nothing stands behind a bracket, its binders may be the
-- chain's.
abbrev pub Pending : Type 0
Pending = Option Excess

-- no binder of a chain stands there
abbrev pub unchained_at : {A : Type 0} → Reads A → Reads Pending
unchained_at = making_at (λ _. None)

abbrev pub behind_type : Span × (Mult × (Local × (Span × (Tree × (Span × (Span × Pending)))))) → Pending
behind_type (_, (_, (_, (_, (_, (_, (_, d))))))) = d

-- what stands behind a name and its colon, or behind `_`
abbrev pub behind_name : List Lexeme → List Lexeme
behind_name [] = []
behind_name (x ∷ []) = []
behind_name (x ∷ y ∷ ls) = cond (of is_wildcard x) (y ∷ ls) ls

-- what stands behind the tokens that tell a binder from an expression
abbrev pub behind_binder : List Lexeme → List Lexeme
behind_binder [] = []
behind_binder (x ∷ ls) = cond (of is_digit x) (behind_name ls) (behind_name (x ∷ ls))

-- a binder that is one too many
abbrev pub extra_binder_at : Bool → Reads Pending
extra_binder_at may [] = bad unexpected []
extra_binder_at may (x ∷ ls) =
    cond may (over (one_above quantity.Parts x.place) (behind_binder ls)) (bad too_deep (x ∷ ls))

-- the chains of a level, where so many binders stand before them
pub record ChainReader : Type 0 where
  pub expr : ℕ → Reads Pending
  pub typing : ℕ → Reads Pending

module _ (may : Bool) (inner : LevelReader) (chains : ChainReader) where
  abbrev pub codomain_chain_at : ℕ → Reads Pending
  codomain_chain_at n = making_at second (then_at (opener_at may is_arrow) (chains.expr (suc n)))

  unfoldable pub pi_chain_at : ℕ → Reads Pending
  pi_chain_at n = making_at second (then_at (typed_at Free may inner) (codomain_chain_at n))

  -- "->" and what stands behind it, for a binder that stands there
  unfoldable pub codomain_at_place : ℕ → Span → Reads Pending
  codomain_at_place n s = cond (is_full Counts quantity.Parts n)
      (cap_at (opens may (of is_arrow)) (λ _. too_deep) (λ _. one_above quantity.Parts s)) (codomain_chain_at n)

  unfoldable pub arrow_chain_at : ℕ → Reads Pending
  arrow_chain_at n = making_at second
      (chain_at (placed_at place (app_at Free may inner))
      (λ c. perhaps_at (of is_arrow) (chain_excess n c.1) (codomain_at_place n c.0)))

  unfoldable pub binder_chain_at : ℕ → Reads Pending
  binder_chain_at n = either_at begins_binder
      (cond (is_full Counts quantity.Parts n) (extra_binder_at may) (pi_chain_at n)) (arrow_chain_at n)

  unfoldable pub expr_chain_at : ℕ → Reads Pending
  expr_chain_at n = either_at (begins (of is_let)) (unchained_at (letting_at Free may inner false))
      (either_at (begins (of is_hole)) (unchained_at (hole_at Free may inner false))
      (either_at (begins (of is_backslash)) (unchained_at (lambda_at Free may inner false))
      (either_at (begins (of is_do)) (unchained_at (doing_at Free may inner false)) (binder_chain_at n))))

  unfoldable pub implicit_chain_at : ℕ → Reads Pending
  implicit_chain_at n = up_to_at Counts quantity.Parts (opens may (of is_left_brace)) (λ _. too_deep)
      (making_at behind_type
      (then_at (opener_at may is_left_brace)
      (then_at (token_at (λ _. None) (of is_zero) (λ x. mult_of x.class))
      (then_at (local_at is_simple)
      (then_at (symbol_at is_colon)
      (then_at (inner.expr false)
      (then_at (symbol_at is_right_brace) (then_at (opener_at may is_arrow) (chains.typing (suc n)))))))))) n

  unfoldable pub typing_chain_at : ℕ → Reads Pending
  typing_chain_at n = either_at (begins (of is_left_brace)) (implicit_chain_at n) (expr_chain_at n)

  abbrev pub chain_level_at : ChainReader
  chain_level_at = record { expr = expr_chain_at; typing = typing_chain_at }

abbrev pub simple_chain : ChainReader
simple_chain = record {
  expr = λ n. unchained_at (simple_reader.expr false);
  typing = λ n. unchained_at simple_reader.typing;
}

unfoldable pub chains_at : ℕ → ChainReader
chains_at zero = chain_level_at false simple_reader simple_chain
chains_at (suc d) = chain_level_at true (levels_at Free d) (chains_at d)

-- ---- items

-- what may stand behind the type of a constructor
abbrev pub ends_con : Class → Bool
ends_con class.Next = true
ends_con class.Close = true
ends_con _ = false

-- a chain, and the token behind it, which settles what the chain leaves open
abbrev pub settled_at : {A : Type 0} → (Lexeme → Bool) → (Lexeme → A) → Reads Pending → Reads A
settled_at is value p = making_at second (chain_at p (λ d. token_at (λ _. d) is value))

abbrev pub ignored : {A : Type 0} → A → Unit {0}
ignored _ = tt

module _ (top inner : LevelReader) (chains : ChainReader) where
  -- a constructor and the token behind it: whether it is the last one
  unfoldable pub con_chain_at : Reads Bool
  con_chain_at = making_at second
      (then_at (local_at is_big)
      (making_at second (then_at (symbol_at is_colon)
      (settled_at (of ends_con) (of is_close) (chains.typing 0)))))

  unfoldable pub cons_chain_at : Reads (Unit {0})
  cons_chain_at = either_at (begins (of is_close)) (making_at ignored (symbol_at is_close))
      (making_at ignored (all_at (λ b. b) not (λ _ b. b) (λ _. of is_big) (λ _. con_chain_at) false))

  unfoldable pub family_chain_at : Reads (Unit {0})
  family_chain_at = making_at ignored
      (then_at (symbol_at is_data)
      (then_at (local_at is_big)
      (then_at (params_at Free top inner 0)
      (then_at (symbol_at is_colon)
      (then_at (settled_at (of is_where) place (chains.expr 0)) (then_at (symbol_at is_open) cons_chain_at))))))

  unfoldable pub item_chain_at : Reads (Unit {0})
  item_chain_at = either_at (begins (of is_data)) family_chain_at
      (either_at (begins (of is_partial)) (making_at ignored (partial_at Free top inner))
      (either_at (begins (of is_zero)) (making_at ignored (erased_at Free top inner))
      (making_at ignored (defining_at Free top inner start))))

  -- an import or an item, where imports may stand or not: whether they may still
  unfoldable pub entry_chain_at : Bool → Reads Bool
  entry_chain_at b = making_at second
      (then_at (symbol_at is_next)
      (either_at (begins (of is_import))
      (making_at (λ _. b) (then_at (token_at (λ _. None) (opens b (of is_import)) place) (local_at is_name)))
      (making_at (λ _. false) item_chain_at)))

  unfoldable pub module_chain_at : Reads (Unit {0})
  module_chain_at = making_at ignored
      (then_at (symbol_at is_open)
      (then_at (symbol_at is_module)
      (then_at (local_at is_name)
      (then_at (making_at ignored (counted_at (λ _ b. b) (of is_next) entry_chain_at true))
      (symbol_at is_close)))))

unfoldable pub text_chain_at : Reads (Unit {0})
text_chain_at = module_chain_at (levels_at Free 200) (levels_at Free 199) (chains_at 200)
