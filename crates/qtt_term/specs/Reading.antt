-- The reading of an index: its head, and at each constructor of a plain family the readings of its fields, all under
-- one count of contractions. (With a count for each head, the reading of `w : Nat; w = S w` would never end.)
use Rattle.std.specs.Prelude.{ℕ, zero, suc, ◌+◌, Bool, true, false, ◌&&◌, ◌||◌, cond, eqb, List, [], ◌∷◌, Option, Some, None}
use Rattle.std.specs.List.{list_all}
use Rattle.qtt_term.specs.Term.{Form, binders, first, rest, Term, Terms, var, node, ε, ◌▸◌}
use Rattle.qtt_term.specs.Signature.{Tele, Constructor, Family, Env, family_at}
use Rattle.qtt_term.specs.Question.{Head, either, wrap, head_step}

-- ---- occurrences of a variable
abbrev mutual
  pub occurrences : ℕ → Term → ℕ
  occurrences i (var j) = cond (eqb i j) 1 0
  occurrences i (node F ts) = all_occurrences (binders F) i ts

  pub all_occurrences : List ℕ → ℕ → Terms → ℕ
  all_occurrences ns i ε = 0
  all_occurrences ns i (t ▸ ts) = occurrences (first ns + i) t + all_occurrences (rest ns) i ts

abbrev pub mentions : ℕ → Term → Bool
mentions i t = cond (eqb (occurrences i t) 0) false true

-- one of the newest n variables
abbrev pub mentions_newest : ℕ → Term → Bool
mentions_newest zero t = false
mentions_newest (suc n) t = mentions n t || mentions_newest n t

-- ---- plain families: no indices, and no field's type mentions an earlier field
-- behind n fields
abbrev pub plain_fields : ℕ → Tele → Bool
plain_fields n [] = true
plain_fields n (b ∷ Θ) = cond (mentions_newest n b.1) false (plain_fields (suc n) Θ)

abbrev pub no_indices : List Term → Bool
no_indices [] = true
no_indices (T ∷ Ts) = false

abbrev pub is_plain : Family → Bool
is_plain F = no_indices F.indices && list_all (λ (c : Constructor). plain_fields 0 c.fields) F.constructors

-- ---- one contraction toward the reading; none where it is read
-- what stands behind so many parameters, where the family is plain
abbrev pub at_fields : Bool → (ℕ → Option Terms) → ℕ → Option Terms
at_fields true behind k = behind k
at_fields false behind k = None

-- the fields of a constructor of a plain family
abbrev pub in_fields : Env → Form → (ℕ → Option Terms) → Option Terms
in_fields E (Form.con f c k) behind = at_fields (is_plain (family_at E f)) behind k
in_fields E _ behind = None

-- toward the head of the term, and then in the fields from left to right
abbrev mutual
  pub read_step : Env → Term → Option Term
  read_step E (var i) = None
  read_step E (node F ts) = either (head_step E (node F ts)) (wrap (node F) (in_fields E F (fields_step E ts)))

  -- in the first of them that is not read, behind so many
  pub fields_step : Env → Terms → ℕ → Option Terms
  fields_step E ε k = None
  fields_step E (t ▸ ts) (suc k) = wrap (λ ss. t ▸ ss) (fields_step E ts k)
  fields_step E (t ▸ ts) zero =
      either (wrap (λ s. s ▸ ts) (read_step E t)) (wrap (λ ss. t ▸ ss) (fields_step E ts zero))

-- the reading where so many more contractions may be made after so many
abbrev pub read_from : Env → ℕ → ℕ → Term → Head
read_from E zero made t = elim (read_step E t) [ None ↦ Head.done t made | Some s ↦ Head.spent ]
read_from E (suc n) made t = elim (read_step E t) [ None ↦ Head.done t made | Some s ↦ read_from E n (suc made) s ]

-- the reading of t within n contractions
abbrev pub read : Env → ℕ → Term → Head
read E n t = read_from E n 0 t
