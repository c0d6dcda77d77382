use Rattle.std.proofs.Common.{◌≡◌, ℕ, List, sym, ap, ◌∙◌}
use Rattle.std.specs.List.{slice_get}
use Rattle.std.specs.Str.{chars}
use Rattle.qtt_diag.proofs.Spelled.{no_character, first_character}
use Rattle.qtt_diag.proofs.fault.character_spelled.Goals as goal

pub returns-in_default : goal.returns-in_default
returns-in_default c = sym (no_character c.args.word.now c.in_default.ensures.cases.0)

pub returns : goal.returns
returns c =
    let read : c.chars.result.rest.now ≡ c.args.word.now = c.chars.ensures.rest ∙ c.in-Ok.ensures.cases.0 in
    let valid = c.in-Ok.ensures.cases.1 in
    c.next.ensures.steps.2 ∙ ap (λ (t : List ℕ). slice_get (chars t) 0) read ∙
    sym (first_character c.args.word.now valid)
