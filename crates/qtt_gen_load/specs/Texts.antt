-- Generated texts by the names of their modules.
use Rattle.std.specs.Prelude.{ℕ, List, find, option_map, bytes_eq}
use Rattle.qtt_graph.specs.Graph.{Name}
use Rattle.qtt_gen.specs.Generated.{generated}
use Rattle.qtt_load.specs.Reading.{Texts}

abbrev pub text_in : Name × List ℕ → List ℕ
text_in x = x.1

-- the first of each name
abbrev pub texts_in : List (Name × List ℕ) → Texts
texts_in texts a = option_map text_in (find (λ (x : Name × List ℕ). bytes_eq x.0 a) texts)

abbrev pub generated_texts : ℕ → Texts
generated_texts n = texts_in (generated n)
