use Rattle.qtt_term.specs.declared.rule.Rule.TheVariants as rule
use Rattle.qtt_diag.specs.Kept.{detail}
use Rattle.qtt_load.specs.Reading.{Why}
use Rattle.qtt_load.proofs.Texts.{reads-front, told-as}
use Rattle.qtt_load.proofs.module.read_module.Goals as goal

pub returns-in-Ok-tree_of_module-clause-read : goal.returns-in-Ok-tree_of_module-clause-read
returns-in-Ok-tree_of_module-clause-read g c =
    reads-front (g.V.Vault.texts c.args.vault.now) c.args.name.now c.in-Ok.text _
    (rw c.as_str.ensures.value at c.in-Ok.ensures.reads)
    (rw c.deref.ensures.value at c.in-Ok-tree_of_module.ensures)

pub returns-in-Err-Refused-clause-read : goal.returns-in-Err-Refused-clause-read
returns-in-Err-Refused-clause-read g c =
    let span = c.in-Err-Refused.span in
    let d = detail c.in-Err-Refused.detail in
    let made = c.in_ok-refusal-in-Err-Refused.refusal in
    let told = c.in_ok-refusal-in-Err-Refused.ensures in (
      (
        Why.refused span d,
        reads-front (g.V.Vault.texts c.args.vault.now) c.args.name.now c.in-Ok.text _
            (rw c.as_str.ensures.value at c.in-Ok.ensures.reads)
            (rw c.deref.ensures.value at (rw c.in-Err-Refused.field-0-is at c.in-Err-Refused.ensures)),
        told-as made rule.Text c.args.name.now c.in_ok-copy-in-Err-Refused.field-0 span d told.kept
            c.in_ok-copy-in-Err-Refused.ensures told.named,
      ),
      told.numbered,
    )
