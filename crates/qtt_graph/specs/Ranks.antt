-- Ranks of modules: one more than the greatest of a module's imports, or 0.
use Rattle.std.specs.Prelude.{ℕ, zero, suc, max, ◌==◌, Bool, false, List, [], ◌∷◌, map, filter, length, if◌then◌else◌, Option, Some, None, option_map, unwrap_or, Result, Ok, Err}
use Rattle.std.specs.Option.{option_map_or, option_and_then}
use Rattle.qtt_graph.specs.Graph.{Name, Graph, same_name, below, names, in_byte_order}
use Rattle.qtt_graph.specs.Ring.{ring}

-- one more than the greatest, where all are known
abbrev pub one_above : List (Option ℕ) → Option ℕ
one_above [] = Some 0
one_above (r ∷ rs) = option_and_then (λ n. option_map (max (suc n)) (one_above rs)) r

-- the rank of a module, where no way of imports from it is longer than so many modules
abbrev pub rank_within : Graph → ℕ → Name → Option ℕ
rank_within g zero a = None
rank_within g (suc n) a = one_above (map (rank_within g n) (below g a))

-- without a ring no way passes more modules than there are
abbrev pub rank : Graph → Name → Option ℕ
rank g a = rank_within g (length g) a

abbrev pub has_rank : Graph → ℕ → Name → Bool
has_rank g r a = option_map_or (λ n. n == r) (rank g a) false

-- the modules of a rank, in byte order
abbrev pub of_rank : Graph → ℕ → List Name
of_rank g r = filter (has_rank g r) (in_byte_order (names g))

-- in front of others, unless it is empty
abbrev pub put_first : {A : Type 0} → List A → List (List A) → List (List A)
put_first [] more = more
put_first (a ∷ bs) more = (a ∷ bs) ∷ more

-- the modules of the n ranks from r on; a rank without modules is left out
abbrev pub by_rank : Graph → ℕ → ℕ → List (List Name)
by_rank g r zero = []
by_rank g r (suc n) = put_first (of_rank g r) (by_rank g (suc r) n)

-- the place of a name among others
abbrev pub place_among : List Name → Name → Option ℕ
place_among [] a = None
place_among (n ∷ ns) a = if same_name a n then Some 0 else option_map suc (place_among ns a)

-- the place of a module in the list
abbrev pub place : Graph → Name → ℕ
place g a = unwrap_or (place_among (names g) a) 0

abbrev pub ranked : Graph → List (List ℕ)
ranked g = map (map (place g)) (by_rank g 0 (length g))

abbrev pub unless : Option (List Name) → List (List ℕ) → Result (List (List ℕ)) (List Name)
unless None rs = Ok rs
unless (Some way) rs = Err way

-- the places of the modules by rank, and within a rank in byte order of their names; or the ring that is told
abbrev pub ranks : Graph → Result (List (List ℕ)) (List Name)
ranks g = unless (ring g) (ranked g)
