use Rattle.std.proofs.Common.{◌≡◌, map, ap, sym, ◌∙◌}
use Rattle.std.proofs.lemmas.Simd.{map-map}
use Rattle.qtt_term.specs.Items.{constructor_entry}
use Rattle.qtt_term.specs.View.{terms}
use Rattle.qtt_term.proofs.items.Family.copy.Goals as goal

pub returns : goal.returns
returns c =
    let new = c.in_ok-copy_constructors.field-0.items in
    let old = c.args.self.now.constructors.items in
    let entries : map constructor_entry new ≡ map constructor_entry old =
    c.in_ok-copy_constructors.ensures ∙ ap (map constructor_entry) c.deref-3.ensures.value in
    let constructors =
    sym (map-map (λ e. e.constructor) constructor_entry new) ∙ ap (map (λ e. e.constructor)) entries ∙
    map-map (λ e. e.constructor) constructor_entry old in
    let params : terms c.in_ok-copy_all.field-0.items ≡ terms c.args.self.now.params.items =
    c.in_ok-copy_all.ensures ∙ ap terms c.deref.ensures.value in
    let indices : terms c.in_ok-copy_all-2.field-0.items ≡ terms c.args.self.now.indices.items =
    c.in_ok-copy_all-2.ensures ∙ ap terms c.deref-2.ensures.value in
    cc (c.in_ok-copy.ensures)
