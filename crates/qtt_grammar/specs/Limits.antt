-- What is counted, and what is kept where a count is above its limit.
use Rattle.std.specs.Prelude.{ℕ, suc, ℤ, pos, negsuc, Bool, true, false, cond, ◌&&◌, nat_lt, nat_le, length, Option, Some, None}
use Rattle.qtt_base.specs.declared.place.Span.{Span}
use Rattle.qtt_base.specs.declared.limits.Quantity.{Quantity}
use Rattle.qtt_base.specs.declared.limits.Quantity.TheVariants.{LiteralBytes, TypeNumber}
use Rattle.qtt_base.specs.Limits.{standard, limit_of}
use Rattle.qtt_grammar.specs.declared.class.Class.{Class}
use Rattle.qtt_grammar.specs.declared.class.Class.TheVariants as class
use Rattle.qtt_grammar.specs.declared.class.Pass.{Pass}
use Rattle.qtt_grammar.specs.declared.class.Pass.TheVariants.{Counts, Free}
use Rattle.qtt_grammar.specs.declared.stop.Excess.{Excess}
use Rattle.qtt_grammar.specs.declared.lexeme.Lexeme.{Lexeme}

abbrev pub counts : Pass → Bool
counts Counts = true
counts Free = false

-- so many of them are there that one more is above the limit
abbrev pub is_full : Pass → Quantity → ℕ → Bool
is_full pass quantity n = counts pass && nat_le (limit_of standard quantity) n

-- one more than the limit
abbrev pub one_above : Quantity → Span → Excess
one_above quantity place = record { quantity = quantity; count = suc (limit_of standard quantity); place = place }

abbrev pub number_of : ℤ → ℕ
number_of (pos n) = n
number_of (negsuc n) = 0

-- a text's bytes, and the number after `Type`, which is kept as it is written
abbrev pub word_excess : Pass → Class → Lexeme → Option Excess
word_excess pass class.Text x =
    cond (counts pass && nat_lt (limit_of standard LiteralBytes) (length x.text))
    (Some (one_above LiteralBytes x.place)) None
word_excess pass class.Universe x =
    cond (counts pass && nat_lt (limit_of standard TypeNumber) (number_of x.number))
    (Some (record { quantity = TypeNumber; count = number_of x.number; place = x.number_place })) None
word_excess pass _ x = None

abbrev pub excess_of : Pass → Lexeme → Option Excess
excess_of pass x = word_excess pass x.class x
