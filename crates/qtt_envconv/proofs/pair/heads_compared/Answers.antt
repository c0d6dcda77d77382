use Rattle.std.proofs.Common.{◌≡◌, length, refl, ap, ◌∙◌, sym, arith}
use Rattle.std.proofs.lemmas.Grind.{common_steps}
use Rattle.qtt_confluence.specs.Heads.{parts}
use Rattle.qtt_envconv.specs.Nodes.{node}
use Rattle.qtt_envconv.specs.Opened.{opened}
use Rattle.qtt_envconv.proofs.Leading.{forms-same, forms-apart, variable-form-apart, form-variable-apart}
use Rattle.qtt_envconv.proofs.pair.heads_compared.Goals as goal
use Rattle.qtt_envconv.proofs.pair.heads_compared.Goals.{else-same-via-then-same+else-len, else-same-via-else-same}
use Rattle.qtt_envconv.proofs.pair.heads_compared.Goals.{in_default-via-in-Variable+in_default, in_default-via-in-Form+in_default}

pub returns-then-len : goal.returns-then-len
returns-then-len c = λ E l r.
    let ls = c.in-Form-Form.lefts.items in
    let rs = c.in-Form-Form.rights.items in
    let left = ap opened (sym c.in-Form-Form.is-0) ∙ c.in_ok-opened.ensures.means in
    let right = ap opened (sym c.in-Form-Form.is-1) ∙ c.in_ok-j.ensures.means in
    let as_many : length ls ≡ length rs = grind (arith, common_steps) in (
      forms-same c.in-Form-Form.shape c.in-Form-Form.other ls rs (node c.args.left) (node c.args.right) left right
          (c.if-same.ensures.0 refl) as_many,
      refl,
      ap parts left,
      ap parts right,
      rw c.in-Form-Form.is-0 at (c.in_ok-opened.ensures.ready E l),
      rw c.in-Form-Form.is-1 at (c.in_ok-j.ensures.ready E r),
    )

pub returns-in-Form-Form : goal.returns-in-Form-Form
returns-in-Form-Form c = λ E l r.
    let ls = c.in-Form-Form.lefts.items in
    let rs = c.in-Form-Form.rights.items in
    let left = ap opened (sym c.in-Form-Form.is-0) ∙ c.in_ok-opened.ensures.means in
    let right = ap opened (sym c.in-Form-Form.is-1) ∙ c.in_ok-j.ensures.means in
    forms-apart c.in-Form-Form.shape c.in-Form-Form.other ls rs (node c.args.left) (node c.args.right) left right
    (λ same_forms as_many.
    elim c.else-same.branch [
      | else-same-via-then-same+else-len w ↦ grind (arith, common_steps, as_many)
      | else-same-via-else-same w ↦ absurd (cc (w.if-same.ensures.1 same_forms))
    ])

pub returns : goal.returns
returns c = λ E l r.
    elim c.in_default.branch [
      | in_default-via-in-Variable+in_default w ↦
          variable-form-apart w.in_default.field-0-0 w.in_default.field-0-1 w.in_default.field-1-1.items
          (node c.args.left) (node c.args.right)
          (ap opened (sym w.in_default.is-0) ∙ c.in_ok-opened.ensures.means)
          (ap opened (sym w.in_default.is-1) ∙ c.in_ok-j.ensures.means)
      | in_default-via-in-Form+in_default w ↦
          form-variable-apart w.in_default.field-0-0 w.in_default.field-1-0.items w.in_default.field-0-1
          (node c.args.left) (node c.args.right)
          (ap opened (sym w.in_default.is-0) ∙ c.in_ok-opened.ensures.means)
          (ap opened (sym w.in_default.is-1) ∙ c.in_ok-j.ensures.means)
    ]
