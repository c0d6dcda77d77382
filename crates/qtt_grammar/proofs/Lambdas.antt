-- Functions with their binders.
use Rattle.std.proofs.Common.{◌≡◌, ◌∙◌, ℕ, Bool, List, map, Vec, Global, Box, ap, sym}
use Rattle.std.specs.Prelude.{nat_lt}
use Rattle.qtt_base.specs.declared.place.Span.{Span}
use Rattle.qtt_syntax.specs.declared.expr.Binder as code
use Rattle.qtt_syntax.specs.declared.expr.Expr.{Expr}
use Rattle.qtt_syntax.specs.declared.expr.Expr.TheVariants as expr_code
use Rattle.qtt_syntax.specs.Tree.{Tree, Binder, binders}
use Rattle.qtt_syntax.specs.Tree.Tree.{lambda}
use Rattle.qtt_syntax.specs.View.{tree_of, binder_of}
use Rattle.qtt_syntax.proofs.Rows.{lambda_view}
use Rattle.qtt_phrase.specs.Reading.{making_at, then_at, many_at}
use Rattle.qtt_phrase.specs.Reading.Read.{got}
use Rattle.qtt_grammar.specs.declared.class.Pass.{Pass}
use Rattle.qtt_grammar.specs.declared.lexeme.Lexeme.{Lexeme}
use Rattle.qtt_grammar.specs.Classes.{is_backslash, is_fat_arrow, starts_binder}
use Rattle.qtt_grammar.specs.Grammar.{of}
use Rattle.qtt_grammar.specs.Readers.{symbol_at, opener_at, lambda_at}
use Rattle.qtt_grammar.specs.View.{below, inside, both}
use Rattle.qtt_grammar.proofs.Loops.{apart}

-- a `\` with its binders
pub lambda_got : (pass : Pass) (n : ℕ) (tail : Bool) (ls : List Lexeme) (s : Span) (r : List Lexeme)
    (v : Vec code.Binder Global) (t : List Lexeme) (q : Span) (u : List Lexeme) (b : Expr) (x : Box Expr Global)
    (w : List Lexeme) → opener_at (nat_lt 0 n) is_backslash ls ≡ got s r →
    making_at both (then_at (below pass n).binder (many_at (of starts_binder) (below pass n).binder)) r ≡ got
    (map binder_of v.items) t → symbol_at is_fat_arrow t ≡ got q u →
    (below pass n).expr tail u ≡ got (tree_of b) w → x.value ≡ b →
    inside lambda_at pass n tail ls ≡ got (tree_of (expr_code.Lambda v x s)) w
unfolding lambda_at
lambda_got pass n tail ls s r v t q u b x w h i j k e =
    let p = apart (then_at (below pass n).binder (many_at (of starts_binder) (below pass n).binder)) r
    (map binder_of v.items) t i in
    rw (h, p.read, j, k) (ap (λ (xs : List Binder). got (lambda (binders xs) (tree_of b) s) w) p.joins ∙
    ap (λ (z : Expr). got (lambda (binders (map binder_of v.items)) (tree_of z) s) w) (sym e) ∙
    ap (λ (z : Tree). got z w) (sym (lambda_view v x s)))
