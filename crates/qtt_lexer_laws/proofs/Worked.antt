-- The worked examples, computed.
use Rattle.std.specs.Prelude.{pos, [], ◌∷◌, ◌++◌, codes, refl}
use lib.Utf8.{encode}
use Rattle.std.specs.Str.{chars, is_utf8}
use Rattle.std.specs.Str.Lossy.{utf8_valid_len}
use Rattle.qtt_lexer.specs.Lexed.{lexed, tokens_from}
use Rattle.qtt_lexer.specs.Piece.{piece_at, name_tail, name_at, hole_at, number_at, quoted, comment_tail, symbol_at, reserved}
use Rattle.qtt_lexer.specs.declared.token.TokenKind.TheVariants.{Name, Arrow, Hole, Number, LeftBrace, End}
use Rattle.unicode_ident.proofs.Computing.{unicode_ident}
use Rattle.qtt_lexer_laws.specs.Cuts.{HasTokens}
use Rattle.qtt_lexer_laws.specs.Examples.{at, fault, token}
use Rattle.qtt_lexer_laws.specs.Flaws.{FirstFault}
use Rattle.qtt_lexer_laws.proofs.Texts.{tokens_stand, fault_stands}

-- lexing of a closed text computes
unfoldable reading : Unit {0}
unfolding chars comment_tail encode hole_at is_utf8 lexed name_at name_tail number_at piece_at quoted reserved
    symbol_at tokens_from unicode_ident utf8_valid_len
reading = tt

pub tokens : HasTokens (239 ∷ 187 ∷ 191 ∷ codes "x->?y\n{--}07{")
    (token (Name (codes "x")) (at 1 1 1) (codes "x") ∷ token Arrow (at 1 2 2) (codes "->")
    ∷ token (Hole (codes "y")) (at 1 4 2) (codes "?y") ∷ token (Number (pos 7)) (at 2 5 2) (codes "07")
    ∷ token LeftBrace (at 2 7 1) (codes "{") ∷ token End (at 2 8 0) [] ∷ [])
unfolding reading
tokens = tokens_stand (239 ∷ 187 ∷ 191 ∷ codes "x->?y\n{--}07{") _ refl

pub not_utf8 : FirstFault (codes "(\n" ++ 255 ∷ []) (fault 1 (at 2 1 0) [])
unfolding reading
not_utf8 = fault_stands (codes "(\n" ++ 255 ∷ []) _ refl

pub not_utf8_in_a_text : FirstFault (codes "( \"ab" ++ 255 ∷ codes "\"") (fault 1 (at 1 6 0) [])
unfolding reading
not_utf8_in_a_text = fault_stands (codes "( \"ab" ++ 255 ∷ codes "\"") _ refl

pub not_utf8_in_a_comment : FirstFault (codes "( {- " ++ 195 ∷ codes "-}") (fault 1 (at 1 6 0) [])
unfolding reading
not_utf8_in_a_comment = fault_stands (codes "( {- " ++ 195 ∷ codes "-}") _ refl

pub bad_character : FirstFault (codes "( ^") (fault 2 (at 1 3 1) (codes "^"))
unfolding reading
bad_character = fault_stands (codes "( ^") _ refl

pub bad_question : FirstFault (codes "(\n?(") (fault 2 (at 2 1 1) (codes "?"))
unfolding reading
bad_question = fault_stands (codes "(\n?(") _ refl

pub qualified_hole : FirstFault (codes "( ?a.b") (fault 2 (at 1 3 1) (codes "?"))
unfolding reading
qualified_hole = fault_stands (codes "( ?a.b") _ refl

pub bad_escape : FirstFault (codes " \"(\\q") (fault 2 (at 1 4 1) (codes "\\"))
unfolding reading
bad_escape = fault_stands (codes " \"(\\q") _ refl

pub line_ends : FirstFault (codes "(\n\"(\n\"") (fault 3 (at 2 1 1) [])
unfolding reading
line_ends = fault_stands (codes "(\n\"(\n\"") _ refl

pub input_ends : FirstFault (codes "\t\"(") (fault 3 (at 1 9 1) [])
unfolding reading
input_ends = fault_stands (codes "\t\"(") _ refl

pub open_comment : FirstFault (codes " {- {- -}") (fault 4 (at 1 2 2) [])
unfolding reading
open_comment = fault_stands (codes " {- {- -}") _ refl

pub too_great : FirstFault (codes "(9223372036854775808)") (fault 5 (at 1 2 19) [])
unfolding reading
too_great = fault_stands (codes "(9223372036854775808)") _ refl

pub too_small : FirstFault (codes "(-9223372036854775809)") (fault 5 (at 1 2 20) [])
unfolding reading
too_small = fault_stands (codes "(-9223372036854775809)") _ refl
