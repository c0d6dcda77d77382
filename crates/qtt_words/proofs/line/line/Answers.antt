use Rattle.std.proofs.Common.{◌≡◌, ◌∙◌, ap, ap₂, codes, rules, true}
use Rattle.std.proofs.lemmas.Result.{IfOk-weaker}
use Rattle.clap.specs.Words.{app_of, rule_of, with_rule}
use Rattle.clap.specs.Simple.{app_of_fields, on_top}
use Rattle.qtt_words.specs.Clap.{flat, needed, with_long}
use Rattle.qtt_words.proofs.line.line.Goals as goal

pub returns : goal.returns
returns c =
    let start : app_of c.disable_help_flag.result ≡ flat =
    ap app_of_fields c.disable_help_flag.ensures
    ∙ ap (λ f. app_of_fields (record f { disable_help_flag = true })) c.no_binary_name.ensures
    ∙ ap (on_top (λ s. record s { no_binary_name = true; disable_help_flag = true })) c.new.ensures.app in
    let command : rule_of c.positional.result ≡ needed (codes "COMMAND") = search rules in
    let operand : rule_of c.positional-2.result ≡ needed (codes "MODULE") = search rules in
    let steps : rule_of c.option.result ≡ with_long (codes "steps") = search rules in
    let budget : rule_of c.option-2.result ≡ with_long (codes "budget") = search rules in
    let jobs : rule_of c.option-3.result ≡ with_long (codes "jobs") = search rules in
    let first : app_of c.in_ok-arg.field-0 ≡ with_rule flat (needed (codes "COMMAND")) =
    c.in_ok-arg.ensures.shape c.positional.ensures.local ∙ ap₂ with_rule start command in
    let second = c.in_ok-arg-2.ensures.shape c.positional-2.ensures.local ∙ ap₂ with_rule first operand in
    let third = c.in_ok-arg-3.ensures.shape c.option.ensures.local ∙ ap₂ with_rule second steps in
    let fourth = c.in_ok-arg-4.ensures.shape c.option-2.ensures.local ∙ ap₂ with_rule third budget in
    IfOk-weaker c.arg-5.result _ _
    (λ line h. h.shape c.option-3.ensures.local ∙ ap₂ with_rule fourth jobs) c.arg-5.ensures
