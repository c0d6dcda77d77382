-- A number in upper-case hexadecimal digits, filled up to four.
use Rattle.std.proofs.Common.{◌≡◌, ℕ, ◌-◌, true, false, List, [], ◌++◌, replicate, length, ap, ◌∙◌, arith}
use Rattle.std.proofs.lemmas.List.{append-nil}
use Rattle.std.specs.Fmt.{char_count, digits, format_spec, padded_integral}
use Rattle.qtt_diag.specs.Messages.{hexadecimal}

pub four_digits : (n p : ℕ) → padded_integral (format_spec 32 0 4 4 p) false [] (digits 16 true n) ≡ hexadecimal n
unfolding padded_integral char_count
four_digits n p =
    let ds = digits 16 true n in
    let e : 4 - length ds - 0 - char_count [] ≡ 4 - length ds = omega arith in
    ap (λ (k : ℕ). replicate k 48 ++ (ds ++ [])) e ∙
    ap (λ (v : List ℕ). replicate (4 - length ds) 48 ++ v) (append-nil ds)
