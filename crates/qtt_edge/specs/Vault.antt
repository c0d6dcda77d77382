-- What a vault answers of a text.
use Rattle.std.specs.Prelude.{◌≡◌, ℕ, Bool, true, false, List, take, Option, Some, None, option_map, Result, Ok, Err, Vec}
use Rattle.std.specs.declared.alloc.Global.{Global}
use Rattle.qtt_edge.specs.declared.vault.VaultError.{VaultError}
use Rattle.qtt_edge.specs.declared.vault.VaultError.TheVariants.{Absent, Failed, Memory}

-- whether it is said that no text of that name is there
abbrev pub is_absent : {A : Type 0} → Result A VaultError → Bool
is_absent (Ok text) = false
is_absent (Err Absent) = true
is_absent (Err Failed) = false
is_absent (Err Memory) = false

-- where the texts are told: the first bytes of the text of that name, or Absent where there is none
abbrev pub Reads : Option (List ℕ → Option (List ℕ)) → List ℕ → ℕ → Result (Vec ℕ Global) VaultError → Type 0
Reads None name max result = Unit {0}
Reads (Some texts) name max (Ok text) = option_map (take max) (texts name) ≡ Some text.items
Reads (Some texts) name max (Err Absent) = texts name ≡ None
Reads (Some texts) name max (Err Failed) = Unit {0}
Reads (Some texts) name max (Err Memory) = Unit {0}
