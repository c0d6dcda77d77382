-- What a module declares, item by item: the clauses of one name that stand one after another are one group.
use Rattle.std.specs.Prelude.{ℕ, Bool, cond, List, [], ◌∷◌, bytes_eq}
use Rattle.qtt_base.specs.declared.place.Span.{Span}
use Rattle.qtt_usage.specs.declared.mult.Mult.{Mult}
use Rattle.qtt_syntax.specs.Tree.{Tree, Param, Con, Item}
use Rattle.qtt_split.specs.Node.{Clause}

pub data Declaration : Type 0 where
  family : List ℕ → List Param → Tree → List Con → Declaration
  -- a definition that may miss values, or not; the place is that of its name
  signature : Bool → Mult → List ℕ → Span → Tree → Declaration
  -- the first clause, and those behind it
  group : List ℕ → Clause → List Clause → Declaration

abbrev pub with_clause : List ℕ → Clause → List Declaration → List Declaration
with_clause n c (Declaration.group m d ds ∷ more) =
    cond (bytes_eq n m) (Declaration.group n c (d ∷ ds) ∷ more)
    (Declaration.group n c [] ∷ Declaration.group m d ds ∷ more)
with_clause n c more = Declaration.group n c [] ∷ more

abbrev pub declarations : List Item → List Declaration
declarations [] = []
declarations (Item.family n r ps t cs s ∷ is) = Declaration.family n ps t cs ∷ declarations is
declarations (Item.signature b q n r t s ∷ is) = Declaration.signature b q n r t ∷ declarations is
declarations (Item.clause n ps e s ∷ is) = with_clause n (record { patterns = ps; side = e; span = s })
    (declarations is)
