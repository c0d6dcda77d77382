use Rattle.std.proofs.Common.{◌∙◌, sym, ap, ℕ, List, Option, Some, None}
use Rattle.std.proofs.lemmas.List.{append-nil}
use Rattle.qtt_graph.specs.Graph.{names}
use Rattle.qtt_graph.specs.Modules.{graph_of}
use Rattle.qtt_graph.proofs.NamePlaces.{row-step}
use Rattle.qtt_graph.proofs.places.Places.all_imported.Goals.{in-Some+in_ok-push, in_default}
use Rattle.qtt_graph.proofs.places.Places.all_imported.Goals as goal

pub loop-import-preserved : goal.loop-import-preserved
loop-import-preserved c =
    let step = λ (o : Option ℕ) (after : List ℕ). row-step (names
    (graph_of c.args.self.now.texts.now)) c.args.imports.now
    c.loop-import.import-index c.import-item.result o c.loop-import.row.items after c.loop-import-test.true
    c.import-item.is c.loop-import.invariant in
    elim c.match-imported.branch [
      | in-Some+in_ok-push w ↦
          step (Some w.in-Some.place) _ (sym w.in-Some.is ∙ c.imported.ensures)
          (ap (λ v. v.items) w.row-is ∙ w.in_ok-push.ensures.items)
      | in_default w ↦
          step None _ (sym w.in_default.is ∙ c.imported.ensures)
          (ap (λ v. v.items) w.row-is ∙ sym (append-nil c.loop-import.row.items))
    ]
