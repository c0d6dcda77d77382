use Rattle.std.proofs.Common.{◌≡◌, ◌∙◌, List, subst}
use Rattle.qtt_grammar.specs.declared.lexeme.Lexeme.{Lexeme}
use Rattle.qtt_grammar.specs.Lexeme.{lexemes}
use Rattle.qtt_grammar.specs.Joined.{read_whole}
use Rattle.qtt_grammar.specs.Parsed.{whole, Gives}
use Rattle.qtt_grammar.proofs.Parses.{text_told, tree_told, limit_told, bad_told, fault_told}
use Rattle.qtt_grammar.proofs.parser.parse.Goals as goal

pub returns-clause-text : goal.returns-clause-text
returns-clause-text c =
    let e : c.as_slice.result.now ≡ lexemes c.args.laid.now = c.as_slice.ensures.value ∙ c.in_ok-lexemes.ensures in
    let g = subst (λ (ls : List Lexeme). Gives c.parse_lexemes.result (whole (read_whole ls))) e
    c.parse_lexemes.ensures in
    text_told (lexemes c.args.laid.now) c.parse_lexemes.result g

pub returns-clause-texts : goal.returns-clause-texts
returns-clause-texts c =
    let e : c.as_slice.result.now ≡ lexemes c.args.laid.now = c.as_slice.ensures.value ∙ c.in_ok-lexemes.ensures in
    let g = subst (λ (ls : List Lexeme). Gives c.parse_lexemes.result (whole (read_whole ls))) e
    c.parse_lexemes.ensures in
    tree_told (lexemes c.args.laid.now) c.parse_lexemes.result g

pub returns-clause-fault : goal.returns-clause-fault
returns-clause-fault c =
    let e : c.as_slice.result.now ≡ lexemes c.args.laid.now = c.as_slice.ensures.value ∙ c.in_ok-lexemes.ensures in
    let g = subst (λ (ls : List Lexeme). Gives c.parse_lexemes.result (whole (read_whole ls))) e
    c.parse_lexemes.ensures in
    fault_told (lexemes c.args.laid.now) c.parse_lexemes.result g

pub returns-clause-limit : goal.returns-clause-limit
returns-clause-limit c =
    let e : c.as_slice.result.now ≡ lexemes c.args.laid.now = c.as_slice.ensures.value ∙ c.in_ok-lexemes.ensures in
    let g = subst (λ (ls : List Lexeme). Gives c.parse_lexemes.result (whole (read_whole ls))) e
    c.parse_lexemes.ensures in
    limit_told (lexemes c.args.laid.now) c.parse_lexemes.result g

pub returns-clause-bad : goal.returns-clause-bad
returns-clause-bad c =
    let e : c.as_slice.result.now ≡ lexemes c.args.laid.now = c.as_slice.ensures.value ∙ c.in_ok-lexemes.ensures in
    let g = subst (λ (ls : List Lexeme). Gives c.parse_lexemes.result (whole (read_whole ls))) e
    c.parse_lexemes.ensures in
    bad_told (lexemes c.args.laid.now) c.parse_lexemes.result g
