use Rattle.std.proofs.Common.{◌≡◌, Ok, arith}
use Rattle.std.proofs.lemmas.Result.{err_from_is_err_and}
use Rattle.qtt_lexer.specs.Lexed.{lexed}
use Rattle.qtt_layout.specs.Rules.{laid}
use Rattle.qtt_syntax.specs.View.{module_of}
use Rattle.qtt_load.specs.Reading.{staged, too_long}
use Rattle.qtt_load.specs.Answer.{items_seen}
use Rattle.qtt_load.proofs.Stages.{says_so, by_fault, at_tokens, at_marks, at_tree, too_long_text}
use Rattle.qtt_load.proofs.text.tree_of_text.Goals as goal

pub returns-then-text-gt-MAX_TEXT : goal.returns-then-text-gt-MAX_TEXT
returns-then-text-gt-MAX_TEXT c =
    says_so module_of c.too_long.result too_long _ c.too_long.ensures (too_long_text c.args.text.now (omega arith))

pub returns-in_err-tokens : goal.returns-in_err-tokens
returns-in_err-tokens c =
    let p = err_from_is_err_and c.from_residual.result c.from_residual.ensures.1 in
    rw (p.1, p.2, at_tokens c.args.text.now (omega arith))
    (by_fault items_seen module_of c.in_err-tokens.field-0.0 (staged (lexed c.args.text.now)) _ c.in_err-tokens.ensures)

pub returns-in_err-marks : goal.returns-in_err-marks
returns-in_err-marks c =
    let p = err_from_is_err_and c.from_residual-in_err-marks.result c.from_residual-in_err-marks.ensures.1 in
    rw (p.1, p.2, at_marks c.args.text.now c.in_ok-tokens.tokens.items (omega arith) c.in_ok-tokens.ensures)
    (by_fault items_seen module_of c.in_err-marks.field-0.0 (staged (laid c.in_ok-tokens.tokens.items)) _
    (rw c.deref.ensures.value at c.in_err-marks.ensures))

pub returns : goal.returns
returns c =
    let tokens = c.in_ok-tokens.tokens.items in
    let marks = c.in_ok-marks.marks.items in
    let lay : staged (laid tokens) ≡ Ok marks = rw c.deref.ensures.value at c.in_ok-marks.ensures in
    rw (at_tree c.args.text.now tokens marks (omega arith) c.in_ok-tokens.ensures lay)
    (rw c.deref-2.ensures.value at c.tree.ensures)
