-- The chains of types as phrases: a binder that is one too many is the fault of its tokens, where they settle
-- it; what a bracket leaves open is the value, and a fault of the token behind the type.
use Rattle.std.specs.Prelude.{ℕ, zero, suc, Bool, true, false, cond, not, List, None}
use Rattle.qtt_base.specs.declared.limits.Quantity.TheVariants as quantity
use Rattle.qtt_base.specs.declared.place.Span.{Span}
use Rattle.qtt_phrase.specs.Phrase.{Weighed, Token, Chain, ◌then◌, Making, ◌or◌, Run, Above, Perhaps, Placed, opens}
use Rattle.qtt_grammar.specs.declared.class.Pass.TheVariants.{Counts, Free}
use Rattle.qtt_grammar.specs.declared.lexeme.Lexeme.{Lexeme}
use Rattle.qtt_grammar.specs.Classes.{is_open, is_next, is_close, is_module, is_import, is_data, is_where, is_zero, is_arrow, is_colon, is_left_brace, is_right_brace, is_name, is_simple, is_big}
use Rattle.qtt_grammar.specs.Limits.{is_full, one_above}
use Rattle.qtt_grammar.specs.Grammar.{Says, of, place, Symbol, Opening, Locally, mult_of, Up_to, Counted, Level, Typed, Lambda, Letting, Doing, IsApp, Hole, Simple_level, levels, second, start, IsParam, Partial, Erased, Defining}
use Rattle.qtt_grammar.specs.Chain.{chain_excess}
use Rattle.qtt_grammar.specs.ChainReaders.{Pending, behind_type, ends_con, ignored}

-- the chains of a level, where so many binders stand before them
pub record Chains : Type 1 where
  pub expr : ℕ → Says Pending
  pub typing : ℕ → Says Pending

abbrev pub Unchained : {A : Type 0} → Says A → Says Pending
Unchained P = Making (λ _. None) P

module _ (may : Bool) (L : Level) (C : Chains) where
  -- "->" and the chain behind it
  abbrev pub Codomain : ℕ → Says Pending
  Codomain n = Making second (Opening may is_arrow then C.expr (suc n))

  abbrev pub PiStep : ℕ → Says Pending
  PiStep n = Making second (Typed Free may L then Codomain n)

  abbrev pub PiChain : ℕ → Says Pending
  PiChain n = Up_to Counts quantity.Parts n (PiStep n)

  -- the same behind what stands at a place
  abbrev pub CodomainAt : ℕ → Span → Says Pending
  CodomainAt n s = cond (is_full Counts quantity.Parts n) (Above (λ _. one_above quantity.Parts s) (Codomain n))
      (Codomain n)

  abbrev pub ArrowChain : ℕ → Says Pending
  ArrowChain n = Making second
      (Chain (Placed place (IsApp Free may L)) (λ c. Perhaps (chain_excess n c.1) (CodomainAt n c.0)))

  abbrev pub BinderChain : ℕ → Says Pending
  BinderChain n = PiChain n or ArrowChain n

  abbrev pub ExprChain : ℕ → Says Pending
  ExprChain n = Unchained (Letting Free may L false) or Unchained (Hole Free may L false) or Unchained
      (Lambda Free may L false) or Unchained (Doing Free may L false) or BinderChain n

  abbrev pub ImplicitStep : ℕ → Says Pending
  ImplicitStep n = Making behind_type
      (Opening may is_left_brace then Token (of is_zero) (λ x. mult_of x.class) then Locally is_simple then Symbol
      is_colon then L.expr false then Symbol is_right_brace then Opening may is_arrow then C.typing (suc n))

  abbrev pub TypingChain : ℕ → Says Pending
  TypingChain n = Up_to Counts quantity.Parts n (ImplicitStep n) or ExprChain n

  abbrev pub ChainLevel : Chains
  ChainLevel = record { expr = ExprChain; typing = TypingChain }

abbrev pub Simple_chain : Chains
Simple_chain = record { expr = λ n. Unchained (Simple_level.expr false); typing = λ n. Unchained Simple_level.typing }

unfoldable pub chains : ℕ → Chains
chains zero = ChainLevel false Simple_level Simple_chain
chains (suc d) = ChainLevel true (levels Free d) (chains d)

-- ---- items

-- a chain, and the token behind it, which settles what the chain leaves open
abbrev pub Settled : {A : Type 0} → (Lexeme → Bool) → (Lexeme → A) → Says Pending → Says A
Settled is value P = Making second (Chain P (λ d. Weighed (λ _. d) is value))

module _ (T L : Level) (C : Chains) where
  abbrev pub ConChain : Says Bool
  ConChain = Making second (Locally is_big then Making second
      (Symbol is_colon then Settled (of ends_con) (of is_close) (C.typing 0)))

  abbrev pub ConRun : Bool → Says (List Bool)
  ConRun = Run (λ b. b) not (λ _ b. b) (λ _. ConChain)

  abbrev pub ConsChain : Says (Unit {0})
  ConsChain = Making ignored (Symbol is_close) or Making ignored (ConRun false)

  abbrev pub FamilyChain : Says (Unit {0})
  FamilyChain = Making ignored
      (Symbol is_data then Locally is_big then Counted Free quantity.Parts 0
      (IsParam Free T L) then Symbol is_colon then Settled (of is_where) place
      (C.expr 0) then Symbol is_open then ConsChain)

  abbrev pub ItemChain : Says (Unit {0})
  ItemChain = FamilyChain or Making ignored (Partial Free T L) or Making ignored
      (Erased Free T L) or Making ignored (Defining Free T L start)

  abbrev pub ImportAt : Bool → Says Bool
  ImportAt b = Making (λ _. b) (Token (opens b (of is_import)) place then Locally is_name)

  abbrev pub EntryChain : Bool → Says Bool
  EntryChain b = Making second (Symbol is_next then (ImportAt b or Making (λ _. false) ItemChain))

  abbrev pub EntryRun : Bool → Says (List Bool)
  EntryRun = Run (λ _. true) (λ _. true) (λ _ b. b) EntryChain

  abbrev pub ModuleChain : Says (Unit {0})
  ModuleChain = Making ignored
      (Symbol is_open then Symbol is_module then Locally is_name then Making ignored
      (EntryRun true) then Symbol is_close)

unfoldable pub TextChain : Says (Unit {0})
TextChain = ModuleChain (levels Free 200) (levels Free 199) (chains 200)
