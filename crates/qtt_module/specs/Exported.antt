-- What a module gives to those that import it, by its text.
use Rattle.std.specs.Prelude.{ℕ, suc, Bool, cond, is_some, List, [], ◌∷◌, ◌++◌, map}
use Rattle.qtt_base.specs.declared.place.GlobalId.{GlobalId}
use Rattle.qtt_base.specs.declared.place.ModuleId.{ModuleId}
use Rattle.qtt_syntax.specs.Tree.{Module}
use Rattle.qtt_names.specs.declared.scope.OwnItem.{OwnItem}
use Rattle.qtt_names.specs.Scope.{entry_of, own_items, module_name}
use Rattle.qtt_names.specs.Exports.{Exports, Sig}

-- an own item's name, with its id
abbrev pub own_export : ModuleId → List ℕ × OwnItem → List ℕ × GlobalId
own_export home x = (x.0, record { «module» = home; item = x.1.number })

-- The own items by their names: an importer does not see which of them are definitions.
abbrev pub exports : ModuleId → Module → List Sig → Exports
exports home m sigs =
    record { home = home; name = module_name m; items = map (own_export home) (own_items m); sigs = sigs }

-- ---- the same, an item at a time
-- an id is added behind those that are known, unless its name is one of theirs
abbrev pub with_export : List (List ℕ × GlobalId) → List ℕ → GlobalId → List (List ℕ × GlobalId)
with_export known n id = cond (is_some (entry_of n known)) known (known ++ (n, id) ∷ [])

-- the names that a module declares, added with their ids, from its item k on
abbrev pub with_exports : List (List ℕ × GlobalId) → ModuleId → ℕ → List (List ℕ × Bool) → List (List ℕ × GlobalId)
with_exports known home k [] = known
with_exports known home k (d ∷ more) =
    with_exports (with_export known d.0 (record { «module» = home; item = k })) home (suc k) more
