-- The laws of the layout by columns.
use Rattle.std.specs.Prelude.{◌≡◌, ◌↔◌, ◌⊎◌, ℕ, List, Ok, Err}
use Rattle.qtt_lexer.specs.Lexed.{Mistake, lexed}
use Rattle.qtt_lexer.specs.declared.token.Token.{Token}
use Rattle.qtt_layout.specs.Rules.{laid}
use Rattle.qtt_layout.specs.declared.laid.Laid.{Laid}
use Rattle.qtt_layout_laws.specs.Words.{HasEnd}
use Rattle.qtt_layout_laws.specs.Texts.{LaysOut, Refuses}
use Rattle.qtt_layout_laws.specs.Openings.{OpensAsSaid}

-- Tokens up to an end, as each text has them, have the marks with which blocks lay them out, and are refused where
-- blocks refuse them.
pub record LayoutIsByColumns : Type 0 where
  pub marks : (ts : List Token) (ms : List Laid) → HasEnd ts → (laid ts ≡ Ok ms) ↔ LaysOut ts ms
  pub refusals : (ts : List Token) (m : Mistake) → HasEnd ts → (laid ts ≡ Err m) ↔ Refuses ts m
  pub texts : (text : List ℕ) (ts : List Token) → lexed text ≡ Ok ts → HasEnd ts

-- Blocks lay tokens out or refuse them, never both, and in one way.
pub record LayoutHasOneAnswer : Type 0 where
  pub some : (ts : List Token) → HasEnd ts → ((ms : List Laid) × LaysOut ts ms) ⊎ ((m : Mistake) × Refuses ts m)
  pub not_both : (ts : List Token) (ms : List Laid) (m : Mistake) → LaysOut ts ms → Refuses ts m → ⊥
  pub one_layout : (ts : List Token) (ms ns : List Laid) → LaysOut ts ms → LaysOut ts ns → ms ≡ ns
  pub one_refusal : (ts : List Token) (m n : Mistake) → Refuses ts m → Refuses ts n → m ≡ n

-- In the marks of tokens blocks open where the words say so.
abbrev pub LayoutOpensBlocks : Type 0
LayoutOpensBlocks = (ts : List Token) (ms : List Laid) → HasEnd ts → laid ts ≡ Ok ms → OpensAsSaid ms
