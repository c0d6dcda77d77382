use Rattle.std.proofs.Common.{◌≡◌, ◌∙◌, sym, ap, rules}
use Rattle.qtt_term.specs.Substitution.{ren}
use Rattle.qtt_term.specs.Shift.{raised}
use Rattle.qtt_term.specs.View.{term}
use Rattle.qtt_rules.specs.Judged.{Mode}
use Rattle.qtt_bidi.specs.Elaboration.{lifted}
use Rattle.qtt_bidi.specs.Seen.{mode_of}
use Rattle.qtt_bidi.proofs.Scopes.{raised-one}
use Rattle.qtt_bidi.proofs.judged.Mode.lifted.Goals as goal

pub returns-in_ok-shift-in-Check : goal.returns-in_ok-shift-in-Check
returns-in_ok-shift-in-Check c =
    let A = term c.in-Check.ty in
    let s : term c.in_ok-shift-in-Check.field-0 ≡ ren (raised 0 1) A = search rules in
    ap Mode.check (s ∙ raised-one A) ∙ sym (ap (λ m. lifted (mode_of m)) c.in-Check.is)
