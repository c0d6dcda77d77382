-- The modules that imports mention, import by import.
use Rattle.std.proofs.Common.{◌≡◌, Bool, true, false, ◌&&◌, cond, List, [], ◌∷◌, ◌++◌, refl, sym, append_assoc}
use Rattle.std.specs.Prelude.{not}
use Rattle.qtt_syntax.specs.declared.module.Import.{Import}
use Rattle.qtt_graph.specs.Graph.{Name, is_among, counts}
use Rattle.qtt_load.specs.Loading.{mentioned, noted}

pub mentioned-step : (known : List Name) (i : Import) (more : List Import) →
    known ++ mentioned known (i ∷ more) ≡ noted known i ++ mentioned (noted known i) more
mentioned-step known i more = by_test (counts i && not (is_among known i.name))
  where
    by_test : (t : Bool) →
        known ++ cond t (i.name ∷ mentioned (known ++ i.name ∷ []) more) (mentioned known more) ≡
        cond t (known ++ i.name ∷ []) known ++ mentioned (cond t (known ++ i.name ∷ []) known) more
    by_test true = sym (append_assoc known (i.name ∷ []) (mentioned (known ++ i.name ∷ []) more))
    by_test false = refl
