-- The first import of this number.
use Rattle.std.proofs.Common.{◌∙◌, ◌∷◌, ap, sym, map, drop, suc, slice_get, eq-eqb}
use Rattle.std.proofs.Math.Seq.{drop-cons}
use Rattle.qtt_implicit.specs.Known.{exported}
use Rattle.qtt_implicit.specs.KnownItems.{import_of}
use Rattle.qtt_implicit.specs.Signatures.{signature_of}
use Rattle.qtt_implicit.proofs.KnownItems.{found_first}
use Rattle.qtt_implicit.proofs.filling.lookup.exported.Goals as goal

pub returns-then-import-id : goal.returns-then-import-id
returns-then-import-id c =
    let xs = c.args.imports.now in
    let i = c.loop-import.import-index in
    let x = c.import-item.result in
    let id = c.args.id in
    let others = drop (suc i) xs in
    let e = drop-cons xs i x c.loop-import-test.true ∙ ap (λ y. y ∷ others) (sym c.import-item.is) in
    c.numbered.ensures
    ∙ ap (λ ss. slice_get (map signature_of ss) id.item) c.deref.ensures.value
    ∙ sym (found_first (import_of x) (map import_of others) id (eq-eqb _ _ c.if-import-id.true))
    ∙ sym (ap (λ l. exported (map import_of l) id) e)
    ∙ sym c.loop-import.invariant
