use Rattle.std.proofs.Common.{◌≡◌, Some, option_map, find, map, true, false, sym, ap, ◌∙◌}
use Rattle.qtt_gen.specs.Seen.{seen}
use Rattle.qtt_gen_load.specs.Texts.{text_in}
use Rattle.qtt_cli.specs.Views.{is_of}
use Rattle.qtt_cli.proofs.Found.{found-here, found-later}
use Rattle.qtt_cli.proofs.generated.GeneratedVault.text.Goals as goal

pub returns-then-eq : goal.returns-then-eq
returns-then-eq c =
    let name = c.args.name.now in
    let item = c.loop-found-item.result in
    let items = c.deref-found-items.result.now in
    let same : is_of name (seen item) ≡ true =
    ap (λ n. is_of name (n, item.1.items)) (sym c.as_str.ensures.value) ∙ sym c.eq.ensures ∙ c.if-eq.true in
    ap Some c.deref.ensures.value
    ∙ sym (ap (option_map text_in) (found-here seen (is_of name) items c.loop-found.found-index item
    c.loop-found-test.true c.loop-found-item.is same))
    ∙ ap (option_map text_in) c.loop-found.invariant
    ∙ ap (λ ms. option_map text_in (find (is_of name) (map seen ms))) c.deref-found-items.ensures.value

pub loop-found-preserved : goal.loop-found-preserved
loop-found-preserved c =
    let name = c.args.name.now in
    let item = c.loop-found-item.result in
    let items = c.deref-found-items.result.now in
    let other : is_of name (seen item) ≡ false =
    ap (λ n. is_of name (n, item.1.items)) (sym c.as_str.ensures.value) ∙ sym c.eq.ensures ∙ c.if-eq.false in
    sym (found-later seen (is_of name) items c.loop-found.found-index item c.loop-found-test.true
    c.loop-found-item.is other) ∙ c.loop-found.invariant
