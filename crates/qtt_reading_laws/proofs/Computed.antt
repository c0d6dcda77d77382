-- What computes small texts.
use Rattle.std.proofs.Common.{◌≡◌, ℕ, List, [], ◌∷◌, ◌++◌, length, codes, Ok, refl, sym, ap, subst, arith}
use Rattle.std.specs.Prelude.{⊤}
use Rattle.std.specs.Char.{encode_utf8}
use Rattle.std.specs.Str.{chars, is_utf8}
use Rattle.std.specs.Str.Lossy.{utf8_valid_len}
use Rattle.ucd_table.specs.Rows.{in_ranges}
use Rattle.ucd_derived.specs.XidStartRanges.{xid_start_ranges}
use Rattle.ucd_derived.specs.XidContinueRanges.{xid_continue_ranges}
use Rattle.unicode_ident.specs.Ident.{is_xid_start, is_xid_continue}
use Rattle.qtt_lexer.specs.Lexed.{tokens_from, lexed}
use Rattle.qtt_lexer.specs.Piece.{name_tail, reserved, name_at, hole_at, number_at, quoted, comment_tail, symbol_at, piece_at}
use Rattle.qtt_lexer.specs.Place.{start, place_behind, place_after}
use Rattle.qtt_lexer.specs.declared.token.Token.{Token}
use Rattle.qtt_lexer.specs.declared.token.TokenKind.TheVariants as kind
use Rattle.qtt_layout.specs.Rules.{put_from, laid}
use Rattle.qtt_reading_laws.specs.Examples.{at, header, ended}

names_on_literals : ⊤
unfolding is_xid_start is_xid_continue in_ranges xid_start_ranges xid_continue_ranges
names_on_literals = tt

pieces_on_literals : ⊤
unfolding piece_at name_at name_tail reserved hole_at number_at quoted comment_tail symbol_at
pieces_on_literals = tt

lexed_on_literals : ⊤
unfolding lexed tokens_from utf8_valid_len chars is_utf8 encode_utf8 pieces_on_literals names_on_literals
lexed_on_literals = tt

abbrev pub header_tokens : List Token
header_tokens =
    record { kind = kind.Module; span = at 1 6; text = codes "module" } ∷
    record { kind = kind.Name (codes "Main"); span = at 8 4; text = codes "Main" } ∷
    record { kind = kind.End; span = at 12 0; text = [] } ∷ []

pub header_lexed : lexed (codes "module Main") ≡ Ok header_tokens
unfolding lexed_on_literals
header_lexed = refl

pub header_laid : laid header_tokens ≡ Ok (header ++ ended 12)
unfolding laid put_from
header_laid = refl

pub beyond : (before behind : List ℕ) → 97 ∷ [] ≡ before ++ behind → 3 ≡ (place_after start before).col → ⊥
beyond [] behind e f = omega (arith, f)
beyond (c ∷ []) behind e f =
    let same : 97 ≡ c = (let g = e in cc) in
    let two : 3 ≡ 2 = subst (λ (z : ℕ). 3 ≡ (place_behind start z).col) (sym same) f in
    omega (arith, two)
beyond (c ∷ d ∷ more) behind e f = let g = ap length e in omega (arith, g)
