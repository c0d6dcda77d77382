-- The printed words of a text's tree say the same tree.
use Rattle.std.proofs.Common.{◌≡◌, ℕ, List, [], ◌∷◌, map, None, sym, ◌∙◌, subst, codes}
use Rattle.qtt_syntax.specs.Tree.{Module}
use Rattle.qtt_syntax.specs.Words.{Word}
use Rattle.qtt_syntax.specs.Printing.{module_words}
use Rattle.qtt_grammar.specs.declared.class.Pass.{Pass}
use Rattle.qtt_grammar.specs.declared.lexeme.Lexeme.{Lexeme}
use Rattle.qtt_grammar.specs.Grammar.{Level, Shape_of, IsModule, IsText, levels}
use Rattle.qtt_reprint.specs.Sketch.{unplaced, sketched}
use Rattle.qtt_reprint.specs.Spelled.{HaveForms}
use Rattle.qtt_reprint.specs.Unplaced.{bare_module}
use Rattle.qtt_reprint.proofs.Prints.{Prints}
use Rattle.qtt_reprint.proofs.Gives.{Each}
use Rattle.qtt_reprint.proofs.Formed as formed
use Rattle.qtt_reprint.proofs.Allowed.{IsFair, levels_hold}
use Rattle.qtt_reprint.proofs.ItemsAllowed.{module_holds}
use Rattle.qtt_reprint.proofs.ItemsShown as shown
use Rattle.qtt_reprint.proofs.ItemsShown.{say_module, says_module}
use Rattle.qtt_reprint.proofs.Shown.{may_at, inner_at, levels_are}

module _ (Fit : Word → Type 0) (wild : Fit (Word.named (codes "_"))) (pass : Pass) (l i : ℕ) where
  pub formed_module : (ls : List Lexeme) (t : Module) → Each (IsFair Fit) ls →
      IsModule pass (levels pass l) (levels pass i) ls t None → formed.Module_formed Fit pass l i t
  formed_module ls t fair d =
      (module_holds Fit wild pass (levels pass l) (levels pass i) l i (levels_hold Fit wild pass l)
      (levels_hold Fit wild pass i)).at ls t fair d

  pub shown_module : (t : Module) → formed.Module_formed Fit pass l i t →
      Prints (IsModule pass (levels pass l) (levels pass i)) (say_module t) (λ u. bare_module u ≡ bare_module t)
  shown_module t f =
      let P : Level → Level → Type 0 =
      λ top inner. Prints (IsModule pass top inner) (say_module t) (λ u. bare_module u ≡ bare_module t) in
      subst (λ (top : Level). P top (levels pass i)) (sym (levels_are pass l))
      (subst (λ (inner : Level). P (Shape_of pass (may_at l) (inner_at pass l)) inner)
      (sym (levels_are pass i)) (shown.module_words Fit pass l i t f))

  pub read_again : (ls ms : List Lexeme) (t : Module) → Each (IsFair Fit) ls →
      IsModule pass (levels pass l) (levels pass i) ls t None → map unplaced ms ≡ sketched (module_words t) →
      (u : Module) × IsModule pass (levels pass l) (levels pass i) ms u None × (bare_module u ≡ bare_module t)
  read_again ls ms t fair d e = let p =
      (shown_module t (formed_module ls t fair d)).at ms (e ∙ says_module t) in (p.0, p.1, p.2)

abbrev Any_word : Word → Type 0
Any_word w = Unit {0}

fair_forms : (ls : List Lexeme) → HaveForms ls → Each (IsFair Any_word) ls
fair_forms [] h = tt
fair_forms (x ∷ ls) h = (
  record {
    named = λ e. (h.0 e, tt);
    number = λ e. tt;
    text = λ e. tt;
    level = λ e. tt;
    hole = λ e. tt;
  },
  fair_forms ls h.1,
)

pub words_read_again : (pass : Pass) (ls ms : List Lexeme) (t : Module) → HaveForms ls → IsText pass ls t None →
    map unplaced ms ≡ sketched (module_words t) →
    (u : Module) × IsText pass ms u None × (bare_module u ≡ bare_module t)
unfolding IsText
words_read_again pass ls ms t h d e = read_again Any_word tt pass 200 199 ls ms t (fair_forms ls h) d e
