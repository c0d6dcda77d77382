-- Programs. Each definition that is not 0 has a block, in the order of modules and items; after it come its inner
-- functions.
use Rattle.std.specs.Prelude.{ℕ, suc, List, [], ◌∷◌, ◌++◌, length, Option, Some, None, cond, slice_get, sum_by}
use Rattle.qtt_base.specs.declared.place.GlobalId.{GlobalId}
use Rattle.qtt_term.specs.Term.{same_id}
use Rattle.qtt_term.specs.Keyed.{with_id}
use Rattle.qtt_term.specs.Signature.{Env}
use Rattle.qtt_erase.specs.Step.{Bodies}
use Rattle.qtt_erase.specs.Lean.{Abstraction, Lean}
use Rattle.qtt_erase.specs.Erasure.{erased_bodies}
use Rattle.qtt_closure.specs.Flat as flat
use Rattle.qtt_closure.specs.Flat.{Closure, Function}
use Rattle.qtt_closure.specs.Conversion.{after, conversion, flat as flat_term}
use Rattle.qtt_code.specs.Instruction.{Block, Program}
use Rattle.qtt_lower.specs.Lowering.{blocks}

-- a definition with its erased body
pub record Body : Type 0 where
  pub id : GlobalId
  pub term : Lean

-- those of the definitions that have an erased body, which are those that are not 0
abbrev pub with_body : GlobalId → Option Lean → List Body → List Body
with_body d None bs = bs
with_body d (Some t) bs = record { id = d; term = t } ∷ bs

abbrev pub bodies : Env → List GlobalId → List Body
bodies E [] = []
bodies E (d ∷ ds) = with_body d (erased_bodies E d) (bodies E ds)

-- ---- the functions of definitions
-- the number behind those of one definition, which have the numbers from n on
abbrev pub numbers_end : ℕ → Lean → ℕ
numbers_end n t = after (suc n) t

-- of all
abbrev pub functions_from : ℕ → List Body → List Function
functions_from n [] = []
functions_from n (b ∷ bs) = conversion n b.term ++ functions_from (numbers_end n b.term) bs

abbrev pub flat_program : List Body → flat.Program
flat_program bs = slice_get (functions_from 0 bs)

-- ---- the bodies of definitions, erased and converted
abbrev pub lean_bodies : List Body → Bodies Abstraction
lean_bodies [] d = None
lean_bodies (b ∷ bs) d = cond (same_id b.id d) (Some b.term) (lean_bodies bs d)

abbrev pub flat_bodies_from : ℕ → List Body → Bodies Closure
flat_bodies_from n [] d = None
flat_bodies_from n (b ∷ bs) d =
    cond (same_id b.id d) (Some (flat_term (suc n) [] b.term)) (flat_bodies_from (numbers_end n b.term) bs d)

abbrev pub flat_bodies : List Body → Bodies Closure
flat_bodies bs = flat_bodies_from 0 bs

-- ---- the first block of each definition
pub record Base : Type 0 where
  pub id : GlobalId
  pub block : ℕ

abbrev pub bases_from : ℕ → List Body → List Base
bases_from n [] = []
bases_from n (b ∷ bs) = record { id = b.id; block = n } ∷ bases_from (numbers_end n b.term) bs

abbrev pub bases : List Body → List Base
bases bs = bases_from 0 bs

abbrev pub base_id : Base → GlobalId
base_id b = b.id

abbrev pub block_of : Option Base → ℕ
block_of None = 0
block_of (Some b) = b.block

-- 0 for what is not there
abbrev pub entry : List Base → GlobalId → ℕ
entry bs d = block_of (with_id base_id d bs)

-- ---- the blocks of all
abbrev pub lowered : (GlobalId → ℕ) → ℕ → Body → List Block
lowered e n b = blocks e b.id (conversion n b.term)

abbrev pub program_from : (GlobalId → ℕ) → ℕ → List Body → Program
program_from e n [] = []
program_from e n (b ∷ bs) = lowered e n b ++ program_from e (numbers_end n b.term) bs

abbrev pub program : List Body → Program
program bs = program_from (entry (bases bs)) 0 bs

abbrev pub code_length : Block → ℕ
code_length B = length B.code

-- the number of instructions
abbrev pub instructions : Program → ℕ
instructions P = sum_by code_length P
