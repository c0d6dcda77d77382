-- The printed text of a text's tree is parsed as the same tree.
use Rattle.std.proofs.Common.{◌≡◌, ℕ, suc, Bool, true, false, cond, List, [], ◌∷◌, map, Option, Some, None, Ok, refl, sym, ap, subst, ◌∙◌}
use Rattle.qtt_base.specs.declared.place.Span.{Span}
use Rattle.qtt_base.specs.declared.limits.Quantity.{Quantity}
use Rattle.qtt_base.specs.declared.limits.Quantity.TheVariants as quantity
use Rattle.qtt_lexer.specs.Lexed.{lexed}
use Rattle.qtt_lexer.specs.declared.token.Token.{Token}
use Rattle.qtt_layout.specs.Rules.{laid}
use Rattle.qtt_layout.specs.declared.laid.Laid.{Laid}
use Rattle.qtt_phrase.specs.Phrase.{first}
use Rattle.qtt_phrase.proofs.Chained.{nothing}
use Rattle.qtt_phrase.proofs.Whole.{whole, over_settles}
use Rattle.qtt_syntax.specs.Tree.{Tree, Con, Item, Module}
use Rattle.qtt_syntax.specs.Tree.Tree.{name, number, text, universe, hole, the, apply, pi, lambda, letting, doing}
use Rattle.qtt_syntax.specs.Tree.Con.{con}
use Rattle.qtt_syntax.specs.Tree.Item.{family, signature, clause}
use Rattle.qtt_syntax.specs.Tree.Module.{module_text}
use Rattle.qtt_grammar.specs.declared.class.Pass.{Pass}
use Rattle.qtt_grammar.specs.declared.class.Pass.TheVariants.{Counts, Free}
use Rattle.qtt_grammar.specs.declared.lexeme.Lexeme.{Lexeme}
use Rattle.qtt_grammar.specs.declared.stop.Excess.{Excess}
use Rattle.qtt_grammar.specs.Chain.{chain_excess, fields_excess, item_excess, items_excess, module_excess, IsChained}
use Rattle.qtt_grammar.specs.ChainReaders.{text_chain_at}
use Rattle.qtt_grammar.specs.Grammar.{IsText}
use Rattle.qtt_grammar.specs.Lexeme.{lexemes}
use Rattle.qtt_grammar.specs.Limits.{is_full, one_above}
use Rattle.qtt_grammar.specs.Outcome.{Exceeds, Never}
use Rattle.qtt_grammar.specs.Parsed.{parsed}
use Rattle.qtt_grammar.proofs.ChainModules.{chained_exact, chained_some}
use Rattle.qtt_grammar.proofs.Texts.{nowhere}
use Rattle.qtt_reprint.specs.Sketch as sketch
use Rattle.qtt_reprint.specs.Unplaced.{bare, bare_con, bare_item, bare_module}
use Rattle.qtt_reprint.proofs.Again.{formed_module}
use Rattle.qtt_reprint.proofs.FairTexts.{wild, fair_text}
use Rattle.qtt_reprint.proofs.Formed as formed
use Rattle.qtt_reprint.proofs.PrintedAgain.{formed_read_again}
use Rattle.qtt_reprint.proofs.Steps.{Fit}
use Rattle.qtt_reading_laws.specs.Printed.{IsParsedAgain}
use Rattle.qtt_reading_laws.proofs.Items.{text_free}
use Rattle.qtt_reading_laws.proofs.Kept.{laid_tokens}
use Rattle.qtt_reading_laws.proofs.Outcomes.{tree_read, tree_told}
use Rattle.qtt_reading_laws.proofs.Words.{printed_alike}

-- ---- no index or field is one too many, wherever the tree stands

-- a fault without its place
abbrev unplaced : Option Excess → Option Excess
unplaced None = None
unplaced (Some e) = Some (record { quantity = e.quantity; count = e.count; place = sketch.nowhere })

cond_unplaced : (b : Bool) (q : Quantity) (s : Span) (o p : Option Excess) → p ≡ unplaced o →
    cond b (Some (one_above q sketch.nowhere)) p ≡ unplaced (cond b (Some (one_above q s)) o)
cond_unplaced true q s o p e = refl
cond_unplaced false q s o p e = e

first_unplaced : (o p q r : Option Excess) → q ≡ unplaced o → r ≡ unplaced p → first q r ≡ unplaced (first o p)
first_unplaced None p q r e f = ap (λ (z : Option Excess). first z r) e ∙ f
first_unplaced (Some x) p q r e f = ap (λ (z : Option Excess). first z r) e

chain_unplaced : (n : ℕ) (t : Tree) → chain_excess n (bare t) ≡ unplaced (chain_excess n t)
chain_unplaced n (pi k m x a b s) =
    cond_unplaced (is_full Counts quantity.Parts n) quantity.Parts s (chain_excess (suc n) b)
    (chain_excess (suc n) (bare b)) (chain_unplaced (suc n) b)
chain_unplaced n (name m) = refl
chain_unplaced n (number z s) = refl
chain_unplaced n (text v s) = refl
chain_unplaced n (universe l ls s) = refl
chain_unplaced n (hole m s) = refl
chain_unplaced n (the t e s) = refl
chain_unplaced n (apply f args s) = refl
chain_unplaced n (lambda bs t s) = refl
chain_unplaced n (letting m x t e b s) = refl
chain_unplaced n (doing ss s) = refl

fields_unplaced : (cs : List Con) → fields_excess (map bare_con cs) ≡ unplaced (fields_excess cs)
fields_unplaced [] = refl
fields_unplaced (con n t s ∷ more) =
    first_unplaced (chain_excess 0 t) (fields_excess more) (chain_excess 0 (bare t))
    (fields_excess (map bare_con more)) (chain_unplaced 0 t) (fields_unplaced more)

item_unplaced : (i : Item) → item_excess (bare_item i) ≡ unplaced (item_excess i)
item_unplaced (family n ns ps t cs s) =
    first_unplaced (chain_excess 0 t) (fields_excess cs) (chain_excess 0 (bare t)) (fields_excess (map bare_con cs))
    (chain_unplaced 0 t) (fields_unplaced cs)
item_unplaced (signature p m n ns t s) = refl
item_unplaced (clause n ps side s) = refl

items_unplaced : (ts : List Item) → items_excess (map bare_item ts) ≡ unplaced (items_excess ts)
items_unplaced [] = refl
items_unplaced (i ∷ more) =
    first_unplaced (item_excess i) (items_excess more) (item_excess (bare_item i))
    (items_excess (map bare_item more)) (item_unplaced i) (items_unplaced more)

module_unplaced : (t : Module) → module_excess (bare_module t) ≡ unplaced (module_excess t)
module_unplaced (module_text s n ns is ts) = items_unplaced ts

none_placed : (o : Option Excess) → unplaced o ≡ None → o ≡ None
none_placed None e = refl
none_placed (Some x) e = absurd (let h = e in cc)

same_excess : (t u : Module) → bare_module u ≡ bare_module t → module_excess t ≡ None → module_excess u ≡ None
same_excess t u e none =
    none_placed (module_excess u)
    (sym (module_unplaced u) ∙ ap module_excess e ∙ module_unplaced t ∙ ap unplaced none)

-- ---- what a text exceeds, its tree does

excess_by : (ls : List Lexeme) (o : Option Excess) → IsChained ls tt o → Never (Exceeds ls) → o ≡ None
excess_by ls None m never = refl
excess_by ls (Some e) m never =
    let w = whole IsChained nothing text_chain_at (chained_exact nowhere) (chained_some nowhere) ls tt (Some e) m in
    absurd (never e
    (over_settles IsChained nothing text_chain_at (chained_exact nowhere) (chained_some nowhere) ls e w.0 w.1))

never_exceeds : (ls : List Lexeme) (u : Module) → IsText Free ls u None → module_excess u ≡ None → Never (Exceeds ls)
never_exceeds ls u m none e s =
    absurd (let h =
    s.each s.rest tt None (subst (λ (z : List Lexeme). IsChained z tt None) s.parts (u, m, none)) in cc)

-- ---- printed again

text_formed : (pass : Pass) (bytes : List ℕ) (ts : List Token) (ms : List Laid) (t : Module) → lexed bytes ≡ Ok ts →
    laid ts ≡ Ok ms → IsText pass (lexemes ms) t None → formed.Module_formed Fit pass 200 199 t
unfolding IsText
text_formed pass bytes ts ms t l k d =
    formed_module Fit wild pass 200 199 (lexemes ms) t (fair_text bytes ts ms l (laid_tokens ts ms k)) d

pub parsed_again : (bytes : List ℕ) (ts : List Token) (ms : List Laid) (t : Module) → lexed bytes ≡ Ok ts →
    laid ts ≡ Ok ms → parsed ms ≡ Ok t → IsParsedAgain t
parsed_again bytes ts ms t l k p =
    let h = tree_read (lexemes ms) t p in
    let free = text_free (lexemes ms) t h.text in
    let none = excess_by (lexemes ms) (module_excess t) (t, free, refl) h.within in
    let f = text_formed Counts bytes ts ms t l k h.text in
    let g = text_formed Free bytes ts ms t l k free in
    let r = formed_read_again Counts t f in
    let x = r.is_text Counts f in
    let y = r.is_text Free g in
    record {
      tokens = r.tokens;
      are_lexed = r.are_lexed;
      marks = r.marks;
      are_laid = r.are_laid;
      tree = x.0;
      is_parsed = tree_told (lexemes r.marks) x.0 (record {
        text = x.1;
        within = never_exceeds (lexemes r.marks) y.0 y.1 (same_excess t y.0 y.2 none);
      });
      same = x.2;
      prints_alike = printed_alike t x.0 x.2;
    }
