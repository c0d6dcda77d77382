-- Use vectors: how often each variable of a context and each tape (an open file handle) is used.
use Rattle.std.specs.Prelude.{ℕ, zero, suc}
use Rattle.qtt_usage.specs.declared.mult.Mult.{Mult}
use Rattle.qtt_usage.specs.Mult.{𝟘, 𝟙}

-- what is used: a variable by its de Bruijn index, or a tape by its number
pub data Key : Type 0 where
  v h : ℕ → Key

abbrev pub Use : Type 0
Use = Key → Mult

abbrev pub zero_use : Use
zero_use x = 𝟘

abbrev pub nat_unit : ℕ → ℕ → Mult
nat_unit zero zero = 𝟙
nat_unit zero (suc j) = 𝟘
nat_unit (suc i) zero = 𝟘
nat_unit (suc i) (suc j) = nat_unit i j

-- 1 at one key
abbrev pub unit : Key → Use
unit (Key.v i) (Key.v j) = nat_unit i j
unit (Key.v i) (Key.h j) = 𝟘
unit (Key.h i) (Key.v j) = 𝟘
unit (Key.h i) (Key.h j) = nat_unit i j

-- a use without the newest variable
abbrev pub out : Use → Use
out u (Key.v i) = u (Key.v (suc i))
out u (Key.h i) = u (Key.h i)

abbrev pub outs : ℕ → Use → Use
outs zero u = u
outs (suc n) u = out (outs n u)
