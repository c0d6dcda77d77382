-- What a vault in memory tells.
use Rattle.std.specs.Prelude.{ℕ, List, Option, Some, option_map}
use Rattle.std.specs.BTreeMap.{get_by_text}
use Rattle.qtt_edge.specs.declared.memory.map_vault.MapVault.{MapVault}

-- the bytes of the text of each name
abbrev pub told_texts : {P : Type 0} → MapVault P → Option (List ℕ → Option (List ℕ))
told_texts vault = Some (λ name. option_map (λ text. text.items) (get_by_text vault.texts name))
