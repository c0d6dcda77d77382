-- What a build answers, read in the relation.
use Rattle.std.proofs.Common.{◌≡◌, ℕ, Option, Some, None, Result, Ok, Err, sym, subst}
use Rattle.std.specs.Prelude.{IfSome}
use Rattle.qtt_graph.specs.Graph.{Name}
use Rattle.qtt_load.specs.Reading.{Texts, read_in}
use Rattle.qtt_module.specs.Refused.{refused_of}
use Rattle.qtt_build.specs.declared.built.Built as code
use Rattle.qtt_build.specs.declared.errors.BuildError.{BuildError}
use Rattle.qtt_build.specs.declared.errors.BuildError.TheVariants as error
use Rattle.qtt_build.specs.Build.{Stop, build}
use Rattle.qtt_build.specs.Laws.{BuildLaws}
use Rattle.qtt_build.specs.Answer.{built_of, Comes, IsStopped, Tells, IsBuild, IsMeant, IsComplete}

module _ (laws : BuildLaws) (told : Option Texts) (root : Name) (n : ℕ) where
  stops : (s : Stop) → Comes told root n (Err s) → Tells told (λ texts. IsStopped texts root n s)
  stops s c =
      let x = laws.judged.stopped (read_in c.0) root n s c.2 in
      (c.0, c.1, record { refuses = x; false_so = laws.refusals c.0 root n s x })

  pub meant : (r : Result code.Built BuildError) → IsBuild told root n r → IsMeant told root n r
  meant (Ok b) h =
      let d = laws.judged.built (read_in h.0.0) root n (built_of b) h.0.2 in (
        h.0.0,
        h.0.1,
        record {
          declares = d;
          formed = laws.forms.formed h.0.0 root (built_of b) d;
          clauses = laws.clauses h.0.0 root (built_of b) d;
        },
      )
  meant (Err (error.Refused r)) h = stops (Stop.refused (refused_of r)) h
  meant (Err (error.Absent a)) h = stops (Stop.absent a) h
  meant (Err error.VaultFault) h = tt
  meant (Err error.Memory) h = tt

-- of texts that are told it is these
of-told : (texts other : Texts) → IfSome (Some texts) (λ f. f ≡ other) → other ≡ texts
of-told texts other e = sym e

pub complete : BuildLaws → (told : Option Texts) (root : Name) (n : ℕ) (r : Result code.Built BuildError) →
    IsBuild told root n r → IsComplete told root r
complete laws None root n r h = tt
complete laws (Some texts) root n (Ok b) h = λ B d.
    let e = subst (λ f. build (read_in f) root n ≡ Ok (built_of b)) (of-told texts h.0.0 h.0.1) h.0.2 in
    laws.once.one texts root (built_of b) B (laws.judged.built (read_in texts) root n (built_of b) e) d
complete laws (Some texts) root n (Err (error.Refused r)) h = λ B d.
    let s = Stop.refused (refused_of r) in
    let e = subst (λ f. build (read_in f) root n ≡ Err s) (of-told texts h.0 h.1) h.2 in
    laws.once.spent texts root n s B (laws.judged.stopped (read_in texts) root n s e) d
complete laws (Some texts) root n (Err (error.Absent a)) h = λ B d.
    let s = Stop.absent a in
    let e = subst (λ f. build (read_in f) root n ≡ Err s) (of-told texts h.0 h.1) h.2 in
    laws.once.spent texts root n s B (laws.judged.stopped (read_in texts) root n s e) d
complete laws (Some texts) root n (Err error.VaultFault) h = λ B d. tt
complete laws (Some texts) root n (Err error.Memory) h = λ B d. tt
