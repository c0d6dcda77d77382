use Rattle.std.proofs.Common.{List, flat_map, map, refl, ap, ◌∙◌}
use Rattle.qtt_term.specs.Entries.{entries}
use Rattle.qtt_module.specs.declared.checked.Checked.{Checked}
use Rattle.qtt_module.specs.TextCalls.{accepted_of}
use Rattle.qtt_outcome.specs.Outcome.{checked_text}
use Rattle.qtt_cli.proofs.Written.{written-on, written-all}
use Rattle.qtt_cli.proofs.texts.check_text.Goals as goal

pub loop-checked-preserved : goal.loop-checked-preserved
loop-checked-preserved c =
    let told = checked_text (entries c.args.built.now.env) in
    let F = λ (cs : List Checked). flat_map told (map accepted_of cs) in
    let all = c.deref-checked-items.result.now in
    let one = c.checked-item.result in
    written-on F all c.loop-checked.checked-index one (told (accepted_of one)) refl c.loop-checked-test.true
    c.checked-item.is c.loop-checked.text.items c.put_module.new.text.items (F all) c.in_ok-put_module.ensures
    c.loop-checked.invariant

pub returns : goal.returns
returns c =
    let told = checked_text (entries c.args.built.now.env) in
    let F = λ (cs : List Checked). flat_map told (map accepted_of cs) in
    let all = c.deref-checked-items.result.now in
    written-all F all c.loop-checked.checked-index refl c.loop-checked-test.false c.loop-checked.text.items (F all)
    c.loop-checked.invariant
    ∙ ap F c.deref-checked-items.ensures.value
