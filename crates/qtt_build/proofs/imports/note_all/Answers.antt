use Rattle.std.proofs.Common.{◌+◌, List, ◌++◌, ◌∷◌, drop, sym, ap, ◌∙◌}
use Rattle.std.proofs.lemmas.List.{append-nil, at_drop_more, at_drop_all}
use Rattle.qtt_syntax.specs.declared.module.Import.{Import}
use Rattle.qtt_graph.specs.Graph.{Name}
use Rattle.qtt_load.specs.Loading.{mentioned}
use Rattle.qtt_build.proofs.Mentioned.{mentioned-step}
use Rattle.qtt_build.proofs.imports.note_all.Goals as goal

pub loop-import-preserved : goal.loop-import-preserved
loop-import-preserved c =
    let known = c.loop-import.known.keys in
    let imports = c.args.imports.now in
    let at = c.loop-import.import-index in
    let import = c.import-item.result in
    let rest = drop (at + 1) imports in
    let all = λ (is : List Import). known ++ mentioned known is in
    ap (λ (ks : List Name). ks ++ mentioned ks rest) c.in_ok-note.ensures ∙
    sym (mentioned-step known import rest) ∙
    ap (λ (i : Import). all (i ∷ rest)) c.import-item.is ∙
    sym (at_drop_more all imports at import c.loop-import-test.true) ∙ c.loop-import.invariant

pub returns : goal.returns
returns c =
    let known = c.loop-import.known.keys in
    let all = λ (is : List Import). known ++ mentioned known is in
    sym (append-nil known) ∙
    sym (at_drop_all all c.args.imports.now c.loop-import.import-index c.loop-import-test.false) ∙
    c.loop-import.invariant
