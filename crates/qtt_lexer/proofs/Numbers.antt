-- Numbers that are too wide, kept as the greatest that fits.
use Rattle.std.proofs.Common.{◌≡◌, ℕ, ◌-◌, ◌^◌, ◌<◌, List, take, ◌∙◌, min, Bool, true, false, ap, arith}
use Rattle.std.proofs.lemmas.Bool.Decides.{nat_tests}
use Rattle.std.proofs.lemmas.List.{get_or-take, length-take}
use Rattle.std.proofs.lemmas.List.Sums.{prefix_len_passes}
use Rattle.std.specs.List.{prefix_len, AllPass}
use Rattle.std.specs.Char.{is_ascii_digit}
use Rattle.qtt_lexer.specs.Piece.{number_of}

pub number_of-capped : (negative : Bool) (n value : ℕ) →
    number_of negative n (min value (2 ^ 64 - 1)) ≡ number_of negative n value
number_of-capped true n value = grind (arith, nat_tests)
number_of-capped false n value = grind (arith, nat_tests)

-- the first of the characters, as long as they are digits
pub digits_pass : (cs : List ℕ) (n : ℕ) → n ≡ prefix_len is_ascii_digit cs → AllPass is_ascii_digit (take n cs)
digits_pass cs n e k d h =
    let within : k < n = omega (arith, h, length-take n cs) in
    ap is_ascii_digit (get_or-take n cs k d within)
    ∙ prefix_len_passes is_ascii_digit cs k d (omega (arith, within, e))
