-- The worked runs of code.
use Rattle.std.proofs.Common.{◌≡◌, ℕ, [], ◌∷◌, refl}
use Rattle.qtt_term.specs.Signature.{Env}
use Rattle.qtt_term.specs.Contraction.{contract}
use Rattle.qtt_term.specs.FullRun.{full}
use Rattle.qtt_term.specs.Programs.{item, handles, trapping}
use Rattle.qtt_term.specs.Rows.{default_steps}
use Rattle.qtt_preserve.specs.Examples.{IsProgram}
use Rattle.qtt_preserve.proofs.Worked.{handles_is_program, trapping_is_program}
use Rattle.qtt_run.specs.Code.{Lists, code, first_block}
use Rattle.qtt_run.specs.CodeRun.{Seen, seen_of, Runs, start}
use Rattle.qtt_run.specs.Rows.{CodeRows}
use Rattle.qtt_run.proofs.Listing.{one-listed}
use Rattle.qtt_run.proofs.EndToEnd.{code-runs-as-full-runs}

-- what is seen of the full run is seen of the code's
as-full : (E : Env) → IsProgram E → Lists E (item 0 ∷ []) →
    (bound : ℕ) (r : Seen) → r ≡ seen_of (full bound E (item 0) []) →
    Runs (code E (item 0 ∷ [])) bound 0 (start (first_block E (item 0 ∷ []) (item 0)) []) r
as-full E p l bound r e = (code-runs-as-full-runs E p.formed p.complete (item 0 ∷ []) l (item 0) p.main bound [] r).1 e

pub code-rows-hold : CodeRows
unfolding contract
code-rows-hold = record {
  handles_end = as-full handles handles_is_program (one-listed _) default_steps _ refl;
  handles_in_thirteen = as-full handles handles_is_program (one-listed _) 13 _ refl;
  trapping_in_five = as-full trapping trapping_is_program (one-listed _) 5 _ refl;
  trapping_in_four = as-full trapping trapping_is_program (one-listed _) 4 _ refl;
}
