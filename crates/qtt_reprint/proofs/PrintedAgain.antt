-- The printed text of a text's tree is read as the same tree.
use Rattle.std.proofs.Common.{◌≡◌, ℕ, List, [], ◌∷◌, map, None, Ok, refl, ap, ◌∙◌}
use Rattle.std.specs.Str.{chars}
use Rattle.qtt_lexer.specs.Place.{start, place_after}
use Rattle.qtt_lexer.specs.Lexed.{lexed}
use Rattle.qtt_lexer.specs.declared.token.Token.{Token}
use Rattle.qtt_layout.specs.Laws.{tokens_in, kept}
use Rattle.qtt_layout.specs.Marks.{counted}
use Rattle.qtt_layout.specs.Rules as rules
use Rattle.qtt_layout.specs.Rules.{counted_of, laid}
use Rattle.qtt_layout.specs.declared.laid.Laid.{Laid}
use Rattle.qtt_syntax.specs.Tree.{Module}
use Rattle.qtt_syntax.specs.Tree.Module.{module_text}
use Rattle.qtt_syntax.specs.Words.{written}
use Rattle.qtt_syntax.specs.Words.Printed.{opened}
use Rattle.qtt_syntax.specs.Printing.{module_words, printed}
use Rattle.qtt_grammar.specs.declared.class.Pass.{Pass}
use Rattle.qtt_grammar.specs.declared.lexeme.Lexeme.{Lexeme}
use Rattle.qtt_grammar.specs.Lexeme.{lexemes}
use Rattle.qtt_grammar.specs.Grammar.{IsText}
use Rattle.qtt_reprint.specs.Sketch.{unplaced, sketched}
use Rattle.qtt_reprint.specs.Unplaced.{bare_module}
use Rattle.qtt_reprint.proofs.Formed as formed
use Rattle.qtt_reprint.proofs.Gives.{Each}
use Rattle.qtt_reprint.proofs.Allowed.{IsFair}
use Rattle.qtt_reprint.proofs.Again.{formed_module, shown_module}
use Rattle.qtt_reprint.proofs.ItemsShown.{says_module}
use Rattle.qtt_reprint.proofs.FairTexts.{wild, fair_text}
use Rattle.qtt_reprint.proofs.Steps.{Fit, block_at, Goes}
use Rattle.qtt_reprint.proofs.Steps.Left.{free}
use Rattle.qtt_reprint.proofs.Steps.Mode.{fresh}
use Rattle.qtt_reprint.proofs.Steps.State.{at}
use Rattle.qtt_reprint.proofs.WrittenItems.{Finished, behind_open, module_goes}
use Rattle.qtt_reprint.proofs.LexedTexts.{whole_tokens, printed_lexed}
use Rattle.qtt_reprint.proofs.LaidWords.{words_laid}
use Rattle.qtt_reprint.proofs.LaidLexemes.{shown_open, each_counts, open_lexemes, lexemes_shown}

-- tokens that are laid out with the marks of printed words, which are those words for the grammar
record Laid_out (t : Module) (us : List Token) : Type 0 where
  marks : List Laid
  laid : laid us ≡ Ok marks
  words : map unplaced (lexemes marks) ≡ sketched (module_words t)

opens_module : (t : Module) → opened ∷ behind_open t ≡ module_words t
opens_module (module_text s n ns is ts) = refl

laid_by : (us : List Token) (ms : List Laid) → rules.put_from rules.start us ≡ Ok ms → counted ms ≡ ms → laid us ≡ Ok ms
unfolding laid
laid_by us ms e f = ap counted_of e ∙ ap Ok f

laid_out : (t : Module) → Goes (at free fresh (block_at 1 0 ∷ []) 0) (behind_open t) Finished →
    Laid_out t (whole_tokens (behind_open t))
laid_out t g =
    let ps = behind_open t in
    let s = at free fresh (block_at 1 0 ∷ []) 0 in
    let x = words_laid ps g.last g.runs g.is (place_after start (chars (written ps))) in
    record {
      marks = x.marks;
      laid = laid_by (whole_tokens ps) x.marks x.put
          (shown_open ps x.marks x.shown (λ ns h. each_counts ps s g.last g.runs g.is ns h));
      words = open_lexemes ps x.marks x.shown (λ ns h. lexemes_shown ps s g.last g.runs ns h) ∙
          ap sketched (opens_module t);
    }

-- The printed text of a tree is lexed and laid out, and read as the same tree in each pass in which the grammar allows
-- the tree.
pub record IsReadAgain (t : Module) : Type 0 where
  pub tokens : List Token
  pub are_lexed : lexed (printed t) ≡ Ok tokens
  pub marks : List Laid
  pub are_laid : laid tokens ≡ Ok marks
  pub is_text : (pass : Pass) → formed.Module_formed Fit pass 200 199 t →
      (u : Module) × IsText pass (lexemes marks) u None × (bare_module u ≡ bare_module t)

says_text : (pass : Pass) (ms : List Laid) (t : Module) → formed.Module_formed Fit pass 200 199 t →
    map unplaced (lexemes ms) ≡ sketched (module_words t) →
    (u : Module) × IsText pass (lexemes ms) u None × (bare_module u ≡ bare_module t)
unfolding IsText
says_text pass ms t f e =
    let p = (shown_module Fit wild pass 200 199 t f).at (lexemes ms) (e ∙ says_module t) in (p.0, p.1, p.2)

-- a tree that the grammar allows, of words that can be written
pub formed_read_again : (pass : Pass) (t : Module) → formed.Module_formed Fit pass 200 199 t → IsReadAgain t
formed_read_again pass t f =
    let g = module_goes wild pass 200 199 t f in
    let x = laid_out t g in
    record {
      tokens = whole_tokens (behind_open t);
      are_lexed = printed_lexed t g;
      marks = x.marks;
      are_laid = x.laid;
      is_text = λ q h. says_text q x.marks t h x.words;
    }

text_formed : (pass : Pass) (ls : List Lexeme) (t : Module) → Each (IsFair Fit) ls → IsText pass ls t None
    → formed.Module_formed Fit pass 200 199 t
unfolding IsText
text_formed pass ls t f d = formed_module Fit wild pass 200 199 ls t f d

pub printed_read_again : (pass : Pass) (bytes : List ℕ) (ts : List Token) (ms : List Laid) (t : Module) →
    lexed bytes ≡ Ok ts
    → tokens_in ms ≡ kept ts → IsText pass (lexemes ms) t None
    → (us : List Token) × (ns : List Laid) × (u : Module) × (lexed (printed t) ≡ Ok us) ×
    (laid us ≡ Ok ns) × IsText pass (lexemes ns) u None × (bare_module u ≡ bare_module t)
printed_read_again pass bytes ts ms t h e d =
    let f = text_formed pass (lexemes ms) t (fair_text bytes ts ms h e) d in
    let g = formed_read_again pass t f in
    let r = g.is_text pass f in
    (g.tokens, g.marks, r.0, g.are_lexed, g.are_laid, r.1, r.2)
