-- The code of a term's components, in the words of the code's lists.
use Rattle.std.specs.Prelude.{ℕ, ◌+◌, List, [], ◌∷◌, ◌++◌, map}
use Rattle.qtt_base.specs.declared.place.GlobalId.{GlobalId}
use Rattle.qtt_closure.specs.Flat.{FlatTerm}
use Rattle.qtt_code.specs.Instruction.{Position, Instr}
use Rattle.qtt_lower.specs.Lowering.{joins, join_width, width, code}

-- ---- terms, one behind the other
abbrev pub all_width : List FlatTerm → ℕ
all_width [] = 0
all_width (t ∷ ts) = width Position.inner t + all_width ts

abbrev pub all_code : (GlobalId → ℕ) → ℕ → ℕ → ℕ → List FlatTerm → List Instr
all_code e c d p [] = []
all_code e c d p (t ∷ ts) = code e c Position.inner d p t ++ all_code e c d (p + width Position.inner t) ts

-- ---- branches, each with what follows it
abbrev pub field_counts : List (ℕ × FlatTerm) → List ℕ
field_counts = map (λ b. b.0)

abbrev pub branch_width : Position → ℕ × FlatTerm → List (ℕ × FlatTerm) → ℕ
branch_width o b bs = width o b.1 + join_width o b.0 (field_counts bs)

abbrev pub branches_width : Position → List (ℕ × FlatTerm) → ℕ
branches_width o [] = 0
branches_width o (b ∷ bs) = branch_width o b bs + branches_width o bs

-- the places of branches, the first of them at place p
abbrev pub branches_places : Position → ℕ → List (ℕ × FlatTerm) → List ℕ
branches_places o p [] = []
branches_places o p (b ∷ bs) = p ∷ branches_places o (p + branch_width o b bs) bs

abbrev pub branches_code : (GlobalId → ℕ) → ℕ → Position → ℕ → ℕ → ℕ → List (ℕ × FlatTerm) → List Instr
branches_code e c o d p end [] = []
branches_code e c o d p end (b ∷ bs) =
    code e c o (b.0 + d) p b.1 ++ joins o b.0 (field_counts bs) end ++ branches_code e c o d
    (p + branch_width o b bs) end bs

-- a switch to branches, the first of them at place p, and these
abbrev pub switch_code : (GlobalId → ℕ) → ℕ → Position → ℕ → ℕ → List (ℕ × FlatTerm) → List Instr
switch_code e c o d p bs = Instr.switch (branches_places o p bs) ∷ branches_code e c o d p (p + branches_width o bs) bs
