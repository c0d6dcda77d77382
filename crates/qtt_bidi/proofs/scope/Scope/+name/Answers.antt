use Rattle.std.proofs.Common.{◌≡◌, ◌+◌, ◌∷◌, ◌∙◌, Some, option_map, slice_get, sym, ap, suc, rules}
use mathlib.Core.Path.{ap₂}
use Rattle.qtt_term.specs.Term.{var}
use Rattle.qtt_term.specs.Substitution.{ren, shift}
use Rattle.qtt_term.specs.Shift.{raised}
use Rattle.qtt_term.specs.Scope.{with_name, shifted}
use Rattle.qtt_term.specs.View.{term}
use Rattle.qtt_term.proofs.Moves.{raised-zero}
use Rattle.qtt_core_check.proofs.Views.{var-seen}
use Rattle.qtt_bidi.specs.Seen.{locals, risen}
use Rattle.qtt_bidi.proofs.Scopes.{name-newest}
use Rattle.qtt_bidi.proofs.scope.Scope.+name.Goals as goal

pub returns-in_ok-shift-in-Named : goal.returns-in_ok-shift-in-Named
returns-in_ok-shift-in-Named t c =
    let A = term c.in-Named.ty.now in
    let S = locals c.in-Named.outer.now in
    let k = c.args.above in
    let more = c.in_ok-above_it-in-Named.above_it in
    let n : more ≡ k + 1 = search rules in
    let s : term c.in_ok-shift-in-Named.field-0 ≡ ren (raised 0 more) A = search rules in
    let e : locals c.args.self.now ≡ with_name c.in-Named.field-1 A S = ap locals c.in-Named.is in
    ap Some (ap₂ (λ a b. (a, b)) (var-seen k) (s ∙ raised-zero more A ∙ ap (λ m. ren (shift m) A) n)
    ∙ sym (name-newest k A))
    ∙ ap (λ i. option_map (risen k) (slice_get ((var 0, ren suc A) ∷ shifted S.names) i)) (sym c.if-index-eq0.true)
    ∙ ap (λ T. option_map (risen k) (slice_get T.names c.args.index)) (sym e)
