use Rattle.std.proofs.Common.{◌≡◌, ℕ, List, [], map, reverse}
use Rattle.qtt_term.specs.Globals.{env}
use Rattle.qtt_term.specs.Programs.{many, program}
use Rattle.qtt_term.specs.Signature.{Family}
use Rattle.qtt_term.specs.View.{term}
use Rattle.qtt_programs.proofs.building.define_all.Given as goal

-- the definitions so far, the last of them first
abbrev pub invariant-loop-new : goal.invariant-loop-new
invariant-loop-new l =
    (fs : List (ℕ × Family)) → env l.fn.globals ≡ program fs [] →
    env l.globals ≡ program fs (reverse (map (λ x. (x.number, many (term x.ty) (term x.body))) l.yielded))
