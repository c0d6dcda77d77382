-- The readers of chains of the level below, and of expressions in which no chain begins.
use Rattle.std.proofs.Common.{◌≡◌, ◌<◌, ◌-◌, ℕ, zero, suc, Bool, true, false, List, [], ◌∷◌, refl, ap, ◌∙◌, sym, arith}
use Rattle.std.proofs.lemmas.Bool.Decides.{nat_tests}
use Rattle.std.specs.Prelude.{nat_lt}
use Rattle.qtt_base.specs.declared.place.Span.{Span}
use Rattle.qtt_base.specs.declared.limits.Quantity.TheVariants as quantity
use Rattle.qtt_phrase.specs.Phrase.{opens}
use Rattle.qtt_phrase.specs.Reading.{begins, cap_at}
use Rattle.qtt_phrase.specs.Reading.Kind.{too_deep}
use Rattle.qtt_grammar.specs.declared.stop.Stop.{Stop}
use Rattle.qtt_grammar.specs.Classes.{is_arrow, is_left_brace}
use Rattle.qtt_grammar.specs.Limits.{is_full, one_above}
use Rattle.qtt_grammar.specs.declared.class.Pass.TheVariants.{Counts, Free}
use Rattle.qtt_grammar.specs.declared.lexeme.Lexeme.{Lexeme}
use Rattle.qtt_grammar.specs.declared.class.Class.{Class}
use Rattle.qtt_grammar.specs.declared.class.Class.TheVariants as class
use Rattle.qtt_grammar.specs.Grammar.{of}
use Rattle.qtt_grammar.specs.Readers.{LevelReader, begins_binder, levels_at, expr_at, other_expr_at}
use Rattle.qtt_grammar.specs.View.{Fails, below}
use Rattle.qtt_grammar.specs.ChainReaders.{Pending, ChainReader, unchained_at, extra_binder_at, codomain_at_place, implicit_chain_at, chain_level_at, chains_at, binder_chain_at, expr_chain_at}
use Rattle.qtt_grammar.specs.ChainView.{starts_form, chains_below}
use Rattle.qtt_grammar.proofs.Below.{level_is}

pub chains_below_is : (n : ℕ) → 0 < n → chains_below n ≡ chains_at (n - 1)
unfolding chains_below
chains_below_is zero h = absurd (omega arith)
chains_below_is (suc n) h = let e : suc n - 1 ≡ n = omega arith in rw e refl

pub chain_level_is : (n : ℕ) → chains_at n ≡ chain_level_at (nat_lt 0 n) (below Free n) (chains_below n)
unfolding below chains_below chains_at
chain_level_is zero = refl
chain_level_is (suc n) = let e : nat_lt 0 (suc n) ≡ true = grind (arith, nat_tests) in rw e refl

module _ (may : Bool) (R : LevelReader) (K : ChainReader) (before : ℕ) where
  form_case : (c : Class) (x : Lexeme) (ls : List Lexeme) → x.class ≡ c → starts_form c ≡ true →
      expr_chain_at may R K before (x ∷ ls) ≡ unchained_at (expr_at Free may R false) (x ∷ ls)
  unfolding expr_chain_at expr_at other_expr_at
  form_case class.Let x ls e h = rw e refl
  form_case class.Hole x ls e h = rw e refl
  form_case class.Backslash x ls e h = rw e refl
  form_case class.Do x ls e h = rw e refl
  form_case _ x ls e h = absurd cc

  form_at : (ls : List Lexeme) → begins (of starts_form) ls ≡ true →
      expr_chain_at may R K before ls ≡ unchained_at (expr_at Free may R false) ls
  form_at [] h = absurd cc
  form_at (x ∷ ls) h = form_case x.class x ls refl h

  chain_case : (c : Class) (x : Lexeme) (ls : List Lexeme) → x.class ≡ c → starts_form c ≡ false →
      expr_chain_at may R K before (x ∷ ls) ≡ binder_chain_at may R K before (x ∷ ls)
  unfolding expr_chain_at
  chain_case class.Let x ls e h = absurd cc
  chain_case class.Hole x ls e h = absurd cc
  chain_case class.Backslash x ls e h = absurd cc
  chain_case class.Do x ls e h = absurd cc
  chain_case _ x ls e h = rw e refl

  chain_empty : expr_chain_at may R K before [] ≡ binder_chain_at may R K before []
  unfolding expr_chain_at
  chain_empty = refl

  chain_at_binder : (ls : List Lexeme) → begins (of starts_form) ls ≡ false →
      expr_chain_at may R K before ls ≡ binder_chain_at may R K before ls
  chain_at_binder [] h = chain_empty
  chain_at_binder (x ∷ ls) h = chain_case x.class x ls refl h

-- an expression in which no binder of a chain stands
pub form_is : (n before : ℕ) (ls : List Lexeme) → begins (of starts_form) ls ≡ true →
    (chains_at n).expr before ls ≡ unchained_at ((levels_at Free n).expr false) ls
form_is n before ls h = ap (λ (k : ChainReader). k.expr before ls) (chain_level_is n) ∙ form_at (nat_lt 0 n)
    (below Free n) (chains_below n) before ls h ∙
    sym (ap (λ (r : LevelReader). unchained_at (r.expr false) ls) (level_is Free n))

-- every other one
pub chain_is : (n before : ℕ) (ls : List Lexeme) → begins (of starts_form) ls ≡ false →
    (chains_at n).expr before ls ≡ binder_chain_at (nat_lt 0 n) (below Free n) (chains_below n) before ls
chain_is n before ls h = ap (λ (k : ChainReader). k.expr before ls) (chain_level_is n) ∙ chain_at_binder
    (nat_lt 0 n) (below Free n) (chains_below n) before ls h

-- ---- what stops at a binder that is one too many

module _ (may : Bool) (R : LevelReader) (K : ChainReader) (n : ℕ) (ls : List Lexeme) (e : Stop)
    (full : is_full Counts quantity.Parts n ≡ true) where
  pub binder_stops : begins_binder ls ≡ true → Fails {A = Pending} e (extra_binder_at may ls) →
      Fails e (binder_chain_at may R K n ls)
  unfolding binder_chain_at
  binder_stops b h = rw (b, full) h

  pub codomain_stops : (s : Span) →
      Fails {A = Pending} e
      (cap_at (opens may (of is_arrow)) (λ _. too_deep) (λ _. one_above quantity.Parts s) ls) →
      Fails e (codomain_at_place may R K n s ls)
  unfolding codomain_at_place
  codomain_stops s h = rw full h

  pub implicit_stops : Fails {A = Pending} e
      (cap_at (opens may (of is_left_brace)) (λ _. too_deep) (λ x. one_above quantity.Parts x.place) ls) →
      Fails e (implicit_chain_at may R K n ls)
  unfolding implicit_chain_at
  implicit_stops h = rw full h
