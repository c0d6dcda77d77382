use Rattle.std.proofs.Common.{◌≡◌, ◌∙◌, sym, ap, Bool, true, false, ◌&&◌, refl}
use Rattle.std.specs.List.{list_all}
use Rattle.std.proofs.lemmas.List.{take_all}
use Rattle.std.proofs.lemmas.List.Folds.{list_all_at}
use Rattle.qtt_syntax.specs.declared.module.ModuleText.{ModuleText}
use Rattle.qtt_graph.specs.Graph.{names, all_there, all_differ}
use Rattle.qtt_graph.specs.Modules.{graph_of}
use Rattle.qtt_graph.proofs.NamePlaces.{all-there-behind}
use Rattle.qtt_graph.proofs.places.Places.is_whole.Goals as goal

and-false : (b : Bool) → (b && false) ≡ false
and-false true = refl
and-false false = refl

and-true : (b : Bool) → (b && true) ≡ b
and-true true = refl
and-true false = refl

pub returns-then-not-all_there : goal.returns-then-not-all_there
returns-then-not-all_there c =
    let texts = c.args.self.now.texts.now in
    let ns = names (graph_of texts) in
    let test = λ (t : ModuleText). all_there ns t.imports.items in
    let here = ap test (sym c.text-item.is) ∙ ap (all_there ns) (sym c.deref.ensures.value) ∙
    sym c.all_there.ensures ∙ c.if-not-all_there.true in
    let none = list_all_at test texts c.loop-text.text-index c.text-item.result c.loop-text-test.true here in
    sym (ap (λ b. all_differ ns && b) (all-there-behind texts ns ∙ none) ∙ and-false (all_differ ns))

pub returns : goal.returns
returns c =
    let self = c.args.self.now in
    let texts = self.texts.now in
    let ns = names (graph_of texts) in
    let test = λ (t : ModuleText). all_there ns t.imports.items in
    let all = ap (list_all test) (sym (take_all c.loop-text.text-index texts c.loop-text-test.false)) ∙
    c.loop-text.invariant in
    self.told ∙ sym (ap (λ b. all_differ ns && b) (all-there-behind texts ns ∙ all) ∙ and-true (all_differ ns))
