-- What holds of all generated modules.
use Rattle.std.specs.Prelude.{◌≡◌, ℕ, ◌+◌, ◌*◌, length}
use Rattle.qtt_syntax.specs.Printing.{printed}
use Rattle.qtt_gen.specs.Generated.{generated, module_text, main_text}
use Rattle.qtt_gen.specs.Canonical.{module_tree, main_tree}

-- four for each number, and Main
abbrev pub Counted : Type 0
Counted = (n : ℕ) → length (generated n) ≡ 4 * n + 1

-- each text is what the printer writes of its tree
pub record Canonical : Type 0 where
  pub of_module : (i j : ℕ) → module_text i j ≡ printed (module_tree i j)
  pub of_main : (i : ℕ) → main_text i ≡ printed (main_tree i)
