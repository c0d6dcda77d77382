-- The items, from what is seen at the start, and the signatures of what they add.
use Rattle.std.proofs.Common.{◌∙◌, ap, sym, List, [], ◌∷◌, map, Result}
use Rattle.qtt_base.specs.declared.place.ModuleId.{ModuleId}
use Rattle.qtt_syntax.specs.Tree.{Item, Module}
use Rattle.qtt_syntax.specs.Tree.Module.{module_text}
use Rattle.qtt_syntax.specs.View.{item_of}
use Rattle.qtt_names.specs.Exports.{Exports, exports_of}
use Rattle.qtt_implicit.specs.Answering.{sig_of_own}
use Rattle.qtt_implicit.specs.Filled.{Filled, Refusal, filled_items, with_items}
use Rattle.qtt_implicit.specs.Known.{Known}
use Rattle.qtt_implicit.specs.KnownItems.{known_of}
use Rattle.qtt_implicit.proofs.FilledTexts.{same_text, sigs_of_own, text_exit, text_refused}
use Rattle.qtt_implicit.proofs.Growth.{refusal_at}
use Rattle.qtt_implicit.proofs.filling.texts.filled_in.Goals as goal

-- what is seen at the start, where this comes first
abbrev seeing : ModuleId → List Exports → Exports → Known
seeing home imports first = record { home = home; own = []; imports = first ∷ imports }

pub returns-in_err-items : goal.returns-in_err-items
returns-in_err-items c =
    let t = c.args.text.now in
    let K = known_of c.in_ok-known.known in
    let f : List Item → Module = λ is. module_text t.header t.name t.name_span t.imports.items is in
    let start = c.in_ok-known.ensures ∙ ap (seeing c.args.module (map exports_of c.args.imports.now)) c.requires in
    text_exit _ _ _ c.from_residual-in_err-items.ensures.1
    (refusal_at _ (ap (λ (k : Known). with_items f (filled_items 1000000 k (map item_of t.items.items))) (sym start)
    ∙ ap (λ xs. with_items f (filled_items 1000000 K (map item_of xs))) (sym c.deref.ensures.value))
    (text_refused _ f _ c.in_err-items.ensures))

pub returns : goal.returns
returns c =
    let t = c.args.text.now in
    let K = known_of c.in_ok-known.known in
    let f : List Item → Module = λ is. module_text t.header t.name t.name_span t.imports.items is in
    let start = c.in_ok-known.ensures ∙ ap (seeing c.args.module (map exports_of c.args.imports.now)) c.requires in
    ap (λ (k : Known). with_items f (filled_items 1000000 k (map item_of t.items.items))) (sym start)
    ∙ ap (λ xs. with_items f (filled_items 1000000 K (map item_of xs))) (sym c.deref.ensures.value)
    ∙ ap (λ (o : Result Filled Refusal). with_items f o) c.in_ok-items.ensures
    ∙ same_text _ _ _ _ _ _ _ _ _ (sym c.in_ok-copy.ensures)
    (sym c.deref-2.ensures.value ∙ sym c.in_ok-copied_imports.ensures)
    (sigs_of_own _ ∙ ap (map sig_of_own) (sym c.deref-3.ensures.value) ∙ sym c.in_ok-written_sigs.ensures)
