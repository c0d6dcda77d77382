-- What the code's binders, values and signatures stand for.
use Rattle.std.specs.Prelude.{ℕ, List, map}
use Rattle.qtt_usage.specs.declared.mult.Mult.{Mult}
use Rattle.qtt_usage.specs.Mult.{ω}
use Rattle.qtt_term.specs.declared.term.Term as code
use Rattle.qtt_term.specs.declared.signatures.Signature as code_signature
use Rattle.qtt_term.specs.Term.{Term}
use Rattle.qtt_term.specs.Shift.{signature_values}
use Rattle.qtt_term.specs.View.{term, terms}
use Rattle.qtt_term.specs.Signature.{Tele, Signature}

abbrev pub tele : List (Mult × code.Term) → Tele
tele bs = map (λ b. (b.0, term b.1)) bs

-- values for the variables of a closed telescope, the last of them for variable 0
abbrev pub filled : List code.Term → ℕ → Term
filled vs = signature_values (terms vs)

abbrev pub signature : code_signature.Signature → Signature
signature s = record { arguments = tele s.arguments.items; type = term s.ty; mult = ω }
