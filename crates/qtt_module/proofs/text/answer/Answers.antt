use Rattle.std.proofs.Common.{◌≡◌, ℕ, map, Ok, refl, sym, ap}
use mathlib.Core.Path.{ap₂}
use Rattle.qtt_base.specs.declared.place.ModuleId.{ModuleId}
use Rattle.qtt_syntax.specs.Tree.{Module}
use Rattle.qtt_syntax.specs.View.{item_of, module_of}
use Rattle.qtt_names.specs.Exports.{exports_of, sig_of}
use Rattle.qtt_implicit.specs.Answering.{filled_text_of}
use Rattle.qtt_implicit.specs.Filled.{FilledText}
use Rattle.qtt_term.specs.Entries.{Entries, entries}
use Rattle.qtt_module.specs.Declarations.{declarations}
use Rattle.qtt_module.specs.Module.{Checked, checked}
use Rattle.qtt_module.specs.Prepared.{prepared}
use Rattle.qtt_module.specs.Refused.{Answer, ◌>>=◌}
use Rattle.qtt_module.specs.Stages.{home, stage_of}
use Rattle.qtt_module.specs.Text.{Accepted, accepted, home_of, items_in, items_in_turn}
use Rattle.qtt_module.specs.TextCalls.{accepted_of}
use Rattle.qtt_module.proofs.Preparing.{first-refused, then-gives}
use Rattle.qtt_module.proofs.Telling.{turn-ok, turn-refused}
use Rattle.qtt_module.proofs.text.answer.Goals as goal

-- behind the items, and behind what is filled in
abbrev behind_items : ModuleId → Module → FilledText → Checked → Answer Accepted
behind_items id m f C = Ok (accepted id m f.sigs C)

abbrev behind_text : ModuleId → ℕ → Entries → Module → FilledText → Answer Accepted
behind_text id n G m f = items_in_turn (home_of id m) n G (items_in f.text) >>= behind_items id m f

pub returns-in_err-filled : goal.returns-in_err-filled
returns-in_err-filled g c =
    let J = c.args.judge.now in
    let m = module_of c.args.text.now in
    first-refused filled_text_of accepted_of
    (prepared J.«module» c.args.asked.now (map exports_of c.args.imports.now) m)
    (behind_text J.«module» J.budget (entries c.args.globals.now) m) c.from_residual.result c.in_err-filled.field-0.0
    c.from_residual.ensures.1 c.in_err-filled.ensures

pub returns-in_err-stage : goal.returns-in_err-stage
returns-in_err-stage g c =
    let J = c.args.judge.now in
    let m = module_of c.args.text.now in
    let n = J.budget in
    let G = entries c.args.globals.now in
    let K = entries c.in_ok-copy.field-0 in
    let F = c.in_ok-filled.field-0 in
    let r = c.from_residual-in_err-stage.result in
    let e = c.in_err-stage.field-0.0 in
    let js = map item_of F.text.items.items in
    let named : home J ≡ home_of J.«module» m = ap (λ x. record { id = J.«module»; name = x }) c.requires in
    let same : K ≡ G = ap₂ (λ Fs ds. record { families = Fs; definitions = ds })
    c.in_ok-copy.ensures.families c.in_ok-copy.ensures.definitions in
    then-gives filled_text_of accepted_of (prepared J.«module» c.args.asked.now (map exports_of c.args.imports.now) m)
    (behind_text J.«module» n G m) F r c.in_ok-filled.ensures
    (first-refused (λ (C : Checked). C) accepted_of (items_in_turn (home_of J.«module» m) n G js)
    (behind_items J.«module» m (filled_text_of F)) r e c.from_residual-in_err-stage.ensures.1
    (turn-refused n (home J) (home_of J.«module» m) K G js js named same refl stage_of e
    (c.in_err-stage.ensures (declarations js) refl)))

pub returns : goal.returns
returns g c =
    let J = c.args.judge.now in
    let m = module_of c.args.text.now in
    let n = J.budget in
    let G = entries c.args.globals.now in
    let K = entries c.in_ok-copy.field-0 in
    let F = c.in_ok-filled.field-0 in
    let M = home_of J.«module» m in
    let S = stage_of c.in_ok-stage.stage in
    let js = map item_of F.text.items.items in
    let named : home J ≡ M = ap (λ x. record { id = J.«module»; name = x }) c.requires in
    let same : K ≡ G = ap₂ (λ Fs ds. record { families = Fs; definitions = ds })
    c.in_ok-copy.ensures.families c.in_ok-copy.ensures.definitions in
    let kept : accepted J.«module» m (map sig_of F.sigs.items) (checked M S) ≡ accepted_of c.in_ok-checked.field-0 =
    sym c.in_ok-checked.ensures in
    then-gives filled_text_of accepted_of (prepared J.«module» c.args.asked.now (map exports_of c.args.imports.now) m)
    (behind_text J.«module» n G m) F (Ok c.in_ok-checked.field-0) c.in_ok-filled.ensures
    (then-gives (λ (C : Checked). C) accepted_of (items_in_turn M n G js) (behind_items J.«module» m (filled_text_of F))
    (checked M S) (Ok c.in_ok-checked.field-0)
    (turn-ok n (home J) M K G js js named same refl S (c.in_ok-stage.ensures (declarations js) refl))
    (ap (λ (A : Accepted). Ok A) kept))
