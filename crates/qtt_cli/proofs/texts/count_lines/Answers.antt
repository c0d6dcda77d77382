use Rattle.std.proofs.Common.{length, map, sym, ap, ◌∙◌}
use Rattle.std.proofs.lemmas.List.{length-map}
use Rattle.std.proofs.lemmas.Result.{IfOk-weaker}
use Rattle.qtt_module.specs.TextCalls.{accepted_of}
use Rattle.qtt_cli.specs.Texts.{count_lines}
use Rattle.qtt_cli.proofs.Written.{definitions-of}
use Rattle.qtt_cli.proofs.texts.count_lines.Goals as goal

pub returns : goal.returns
returns c =
    let order = c.args.order.now in
    let n = c.args.contractions in
    IfOk-weaker c.counts_text.result _ _
    (λ text e. e
    ∙ ap (λ m. count_lines m c.definitions.result n) (sym (length-map order accepted_of))
    ∙ ap (λ d. count_lines (length (map accepted_of order)) d n) (c.definitions.ensures ∙ sym (definitions-of order)))
    c.counts_text.ensures
