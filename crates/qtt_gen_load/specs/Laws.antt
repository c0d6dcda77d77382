-- The laws of the loading of generated modules.
use Rattle.std.specs.Prelude.{◌≡◌, ℕ, ◌≤◌, List, codes, Ok, Err}
use Rattle.qtt_syntax.specs.Tree.{Module}
use Rattle.qtt_graph.specs.Graph.{Name}
use Rattle.qtt_load.specs.Reading.{read_in}
use Rattle.qtt_load.specs.Loading.{Stop, loaded}
use Rattle.qtt_gen_load.specs.Texts.{generated_texts}

-- loading the Main of generated modules never lacks a module
abbrev pub GeneratedAreThere : Type 0
GeneratedAreThere = (n : ℕ) (a : Name) → 1 ≤ n → n ≤ 200 →
    loaded (read_in (generated_texts n)) (codes "Main") ≡ Err (Stop.absent a) → ⊥

-- nor does it stop for another reason: each module is read, and they are few enough
abbrev pub GeneratedAreLoaded : Type 0
GeneratedAreLoaded = (n : ℕ) → 1 ≤ n → n ≤ 200 →
    (ms : List Module) × (loaded (read_in (generated_texts n)) (codes "Main") ≡ Ok ms)
