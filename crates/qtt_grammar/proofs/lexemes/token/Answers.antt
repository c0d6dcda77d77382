use Rattle.std.proofs.Common.{rules, ◌≡◌, ◌∙◌, w64, to_z, of_z, FitsSigned}
use Rattle.std.proofs.lemmas.Int.{to_z-of_z}
use Rattle.qtt_grammar.specs.Lexeme.{token_lexeme}
use Rattle.qtt_grammar.proofs.TokenPlaces.{token_parts}
use Rattle.qtt_grammar.proofs.lexemes.token.Goals as goal

pub returns : goal.returns
returns c =
    let t = c.args.token.now in
    let f : FitsSigned w64 c.number_of.result = search rules in
    let n : to_z w64 (of_z w64 c.number_of.result) ≡ (token_lexeme t.kind t.span t.text).number =
    to_z-of_z w64 c.number_of.result f ∙ c.number_of.ensures in
    rw (c.class_of.ensures, c.in_ok-name_of.ensures, c.in_ok-text_of.ensures, c.in_ok-copy.ensures, n)
    (token_parts t.kind t.span t.text t.text)
