use Rattle.std.proofs.Common.{◌≡◌, sym, subst, IfOk}
use Rattle.qtt_graph.proofs.NamePlaces.{name-there}
use Rattle.qtt_graph.proofs.modules.Modules.name.Goals as goal

pub returns : goal.returns
returns c =
    let texts = c.args.self.now.texts.now in
    let is = name-there texts c.args.place c.index-self-place.result c.requires.there in
    subst (λ a. IfOk c.copy.result (λ n. n ≡ a)) (sym is) c.copy.ensures
