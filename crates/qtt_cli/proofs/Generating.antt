-- Programs of generated modules.
use Rattle.std.proofs.Common.{◌≡◌, ◌∙◌, ℕ, codes, Option, Some, Ok, ap, subst, arith}
use Rattle.qtt_edge.specs.Counts.{Rose}
use Rattle.qtt_graph.specs.Graph.{Name}
use Rattle.qtt_load.specs.Reading.{Texts}
use Rattle.qtt_cli.specs.declared.generated.GeneratedVault.{GeneratedVault}
use Rattle.qtt_cli.specs.declared.program.Runnable.{Runnable}
use Rattle.qtt_cli.specs.Commands.{program_for}
use Rattle.qtt_cli.specs.Stops.{Comes, AnswersOver}
use Rattle.qtt_cli.specs.Views.{program_of, told}

-- a count that stays at 0 does not rise
pub never-rises : Rose 0 0 → ⊥
never-rises h = omega (arith, h)

pub generated-program : (f : Texts) (n : ℕ) (vault : GeneratedVault) (root : Name) (p : Runnable) →
    told vault ≡ Some f → root ≡ codes "Main" → AnswersOver (told vault) (program_for root n) program_of (Ok p) →
    program_for (codes "Main") n f ≡ Ok (program_of p)
generated-program f n vault root p holds is a =
    let all : Comes (Some f) (program_for (codes "Main") n) (Ok (program_of p)) =
    subst (λ (t : Option Texts). Comes t (program_for (codes "Main") n) (Ok (program_of p))) holds
    (subst (λ (m : Name). Comes (told vault) (program_for m n) (Ok (program_of p))) is a) in
    ap (program_for (codes "Main") n) all.1 ∙ all.2
