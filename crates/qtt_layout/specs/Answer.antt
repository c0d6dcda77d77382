-- The answer of `blocks`.
use Rattle.std.specs.Prelude.{◌≡◌, List, Result, Ok, Err, Vec}
use Rattle.std.specs.Global.{Global}
use Rattle.qtt_lexer.specs.Lexed.{Mistake, seen}
use Rattle.qtt_layout.specs.Written.{written}
use Rattle.qtt_layout.specs.declared.errors.LayoutError.{LayoutError}
use Rattle.qtt_layout.specs.declared.errors.LayoutError.TheVariants as errors
use Rattle.qtt_layout.specs.declared.laid.Laid.{Laid}
use Rattle.qtt_layout.specs.declared.marks.Marks.{Marks}

-- the error is want of memory, or keeps this fault
abbrev pub Refuses : LayoutError → Result (List Laid) Mistake → Type 0
Refuses errors.Memory outcome = Unit {0}
Refuses (errors.Fault fault) outcome = outcome ≡ Err (seen fault)

-- the answer is exactly these tokens and marks or this fault, unless memory ran out
abbrev pub Gives : Result (Vec Laid Global) LayoutError → Result (List Laid) Mistake → Type 0
Gives (Ok marks) outcome = outcome ≡ Ok marks.items
Gives (Err e) outcome = Refuses e outcome

-- what comes of further marks behind those so far
abbrev pub written_of : Marks → Result (List Laid) Mistake → Result (List Laid) Mistake
written_of marks (Ok rest) = Ok (written marks rest)
written_of marks (Err m) = Err m
