-- What a module's declarations are asked: fresh ids, marks, and names that are taken once. Numbers of items, the
-- grammar and the names of a module give it.
use Rattle.std.specs.Prelude.{◌≡◌, ◌≢◌, ℕ, ◌≤◌, Bool, true, ◌&&◌, not, List, [], ◌∷◌, None, bytes_eq, IsTrue}
use Rattle.std.specs.List.{list_any}
use Rattle.qtt_usage.specs.Mult.{𝟙}
use Rattle.qtt_term.specs.Entries.{Entries, env}
use Rattle.qtt_module.specs.Declarations.{Declaration}
use Rattle.qtt_module.specs.Module.{Home, item_of}

-- no item of the module from this number on stands there
abbrev pub FreshFrom : Home → ℕ → Entries → Type 0
FreshFrom M k G = (n : ℕ) → k ≤ n →
    ((env G).family (item_of M n) ≡ None) × ((env G).definition (item_of M n) ≡ None)

-- a signature is marked 0 or has no mark
abbrev pub Marked : List Declaration → Type 0
Marked [] = Unit {0}
Marked (Declaration.family n ps t cs ∷ ds) = Marked ds
Marked (Declaration.signature b q n s t ∷ ds) = (q ≢ 𝟙) × Marked ds
Marked (Declaration.group n c cs ∷ ds) = Marked ds

-- the names of the groups of clauses
abbrev pub group_names : List Declaration → List (List ℕ)
group_names [] = []
group_names (Declaration.family n ps t cs ∷ ds) = group_names ds
group_names (Declaration.signature b q n s t ∷ ds) = group_names ds
group_names (Declaration.group n c cs ∷ ds) = n ∷ group_names ds

-- the names of the signatures
abbrev pub signature_names : List Declaration → List (List ℕ)
signature_names [] = []
signature_names (Declaration.family n ps t cs ∷ ds) = signature_names ds
signature_names (Declaration.signature b q n s t ∷ ds) = n ∷ signature_names ds
signature_names (Declaration.group n c cs ∷ ds) = signature_names ds

abbrev pub is_among : List ℕ → List (List ℕ) → Bool
is_among n ns = list_any (bytes_eq n) ns

-- no two are the same
abbrev pub all_differ : List (List ℕ) → Bool
all_differ [] = true
all_differ (n ∷ ns) = not (is_among n ns) && all_differ ns

pub record WellNamed (ds : List Declaration) : Type 0 where
  pub marked : Marked ds
  pub groups : IsTrue (all_differ (group_names ds))
  pub signatures : IsTrue (all_differ (signature_names ds))
