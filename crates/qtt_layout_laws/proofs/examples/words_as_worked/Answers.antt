use Rattle.std.proofs.Common.{◌≡◌, ◌≢◌, true, false, refl, arith}
use Rattle.qtt_lexer.specs.declared.token.TokenKind.TheVariants as kind
use Rattle.qtt_layout.specs.declared.role.Role.TheVariants as role
use Rattle.qtt_layout_laws.specs.Blocks.{IsOpener, Ends, Block, Within, Behind}
use Rattle.qtt_layout_laws.specs.Examples.{first_word, later_word}
use Rattle.qtt_layout_laws.proofs.RoleFacts.{opener_role, semicolon_role, bracket_role, end_role}
use Rattle.qtt_layout_laws.proofs.examples.words_as_worked.Goals as goal

stays : Ends (first_word kind.Wildcard 5 1) (later_word kind.RightParen 7 2) → ⊥
stays (Ends.at_end k) = let g : role.RightBracket ≡ role.End = end_role k in absurd cc
stays (Ends.at_line f lt) = let g : false ≡ true = f in absurd cc
stays (Ends.at_bracket k pos le) = absurd (omega (arith, le))

goes : Ends (first_word kind.Wildcard 5 1) (first_word kind.Wildcard 5 1) → ⊥
goes (Ends.at_end k) = let g : role.Plain ≡ role.End = end_role k in absurd cc
goes (Ends.at_line f lt) = absurd (omega (arith, lt))
goes (Ends.at_bracket k pos le) = let g : role.Plain ≡ role.RightBracket = bracket_role k in absurd cc

no_opener : IsOpener kind.Wildcard → ⊥
no_opener o = let g : role.Plain ≡ role.Opener = opener_role o in absurd cc

no_semicolon : kind.Wildcard ≢ kind.Semicolon
no_semicolon k = let g : role.Plain ≡ role.Semicolon = semicolon_role k in absurd cc

pub returns : goal.returns
returns c = record {
  begins_block =
      record { is_no_end = λ k. let g : role.Plain ≡ role.End = end_role k in absurd cc; is_deeper = omega arith };
  begins_none = λ h. let lt = h.is_deeper in absurd (omega (arith, lt));
  begins_item = record { is_first = refl; is_aligned = refl };
  goes_on = λ h. let e = h.is_aligned in absurd (omega (arith, e));
  ends_at_line = Ends.at_line refl (omega arith);
  ends_at_bracket = Ends.at_bracket refl (omega arith) (omega arith);
  stays_in_bracket = stays;
  ends_at_end = Ends.at_end refl;
  one_item = Block.filled goes (Within.word no_semicolon no_opener (Behind.ends (Ends.at_line refl (omega arith))));
}
