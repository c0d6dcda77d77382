-- What the code's sights stand for.
use Rattle.std.specs.Prelude.{List, map}
use Rattle.qtt_term.specs.View.{term}
use Rattle.qtt_split.specs.declared.sights.Seen as code
use Rattle.qtt_split.specs.declared.sights.Seen.TheOpen.{Seen-F}
use Rattle.qtt_split.specs.Seen.{Seen, Sights, sights}

abbrev pub seen_step : Seen-F Seen → Seen
seen_step (Seen-F.OpenAt i) = Seen.open_at i
seen_step (Seen-F.ByEquation t) = Seen.by_equation (term t)
seen_step (Seen-F.MadeOf c ss) = Seen.made_of c (sights ss.items)

abbrev pub seen_of : code.Seen → Seen
seen_of = code.fold-Seen Seen seen_step

abbrev pub sights_of : List code.Seen → Sights
sights_of ss = sights (map seen_of ss)
