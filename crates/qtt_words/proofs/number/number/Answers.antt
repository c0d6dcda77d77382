use Rattle.std.proofs.Common.{◌≡◌, ◌∙◌, ap, ◌<◌, ◌^◌, ℕ, true, sym, arith, rules, List, length, nat_le, leb-true, None, Err}
use Rattle.std.specs.Char.{is_ascii_digit}
use Rattle.std.specs.List.{list_all}
use Rattle.std.specs.Str.Parse.{ParsesUnsigned, digits_value}
use Rattle.std.proofs.lemmas.Bool.{and_parts, cond-false, false_from_ne_true}
use Rattle.std.proofs.lemmas.Str.Parse.{IsNumeralModel, numerals_by_value, parse_digits}
use Rattle.qtt_words.specs.Asked.{is_number, number}
use Rattle.qtt_words.proofs.number.number.Goals as goal

digits : IsNumeralModel (λ ds. list_all is_ascii_digit ds ≡ true) (digits_value 10)
digits = numerals_by_value _ (search rules)

-- digits that the parser refuses are none, or write a number that is too large
too_large : {E : Type 0} (n most : ℕ) (text : List ℕ) (e : E) → most < 2 ^ 64 → list_all is_ascii_digit text ≡ true
    → ParsesUnsigned 64 10 text (Err e) → None ≡ number n most text
too_large n most text e fits all h = sym (cond-false _ _ _ (false_from_ne_true _ (λ t.
    let parts = and_parts (is_number n text) _ t in
    let some = and_parts (nat_le 1 (length text)) _ parts.0 in
    let bounds = and_parts (nat_le 1 (digits_value 10 text)) _ parts.1 in
    let low = leb-true 1 (length text) some.0 in
    let high = leb-true (digits_value 10 text) most bounds.1 in
    parse_digits digits 64 text (Err e) h all (low, omega arith))))

pub returns-in-Err : goal.returns-in-Err
returns-in-Err c =
    let all : list_all is_ascii_digit c.args.text.now ≡ true =
    sym (c.are_digits.ensures ∙ ap (list_all is_ascii_digit) c.as_bytes.ensures.value) ∙ c.if-not-are_digits.false in
    too_large c.args.digits c.args.most c.args.text.now c.in-Err.field-0 (omega (arith, c.ranges.most.fits)) all
    c.in-Err.ensures.value.0
