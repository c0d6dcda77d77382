-- The program of a build: its holes, its main and its code, one behind the other.
use Rattle.std.proofs.Common.{◌≡◌, ◌∙◌, ◌||◌, ℕ, zero, suc, Bool, true, false, cond, List, [], ◌∷◌, find, Some, None, Result, Ok, Err, IfOk, refl, sym, ap, subst}
use Rattle.std.specs.List.{list_any}
use Rattle.std.proofs.lemmas.Bool.Decides.{Decides-eqb}
use Rattle.std.proofs.lemmas.Slice.Eq.{slice_eq-Decides}
use Rattle.qtt_base.specs.declared.place.GlobalId.{GlobalId}
use Rattle.qtt_term.specs.declared.globals.Globals.{Globals}
use Rattle.qtt_term.specs.Globals.{env}
use Rattle.qtt_term.specs.Environment.{WellFormed, Complete, IsMain}
use Rattle.qtt_code.specs.Instruction.{Program}
use Rattle.qtt_lower.specs.declared.program.Compiled.{Compiled}
use Rattle.qtt_lower.specs.Whole.{IsProgramOf}
use Rattle.qtt_run.specs.Program.{IsCodeOfMain}
use Rattle.qtt_graph.specs.Graph.{Name, same_name}
use Rattle.qtt_load.specs.Reading.{Texts, read_in}
use Rattle.qtt_module.specs.Text.{Accepted}
use Rattle.qtt_build.specs.Built.{Built, is_named}
use Rattle.qtt_build.specs.Build.{build}
use Rattle.qtt_build.specs.Answer.{StandsAt, built_of}
use Rattle.qtt_build.specs.declared.built.Built as built
use Rattle.qtt_outcome.specs.Stop.{Answer, ◌>>=◌, no_holes, main_of, code_of, Runnable, runnable}
use Rattle.qtt_outcome.specs.Headline.{MainsMayRun}
use Rattle.qtt_outcome.proofs.Answers.{both}
use Rattle.qtt_cli.specs.declared.program.Runnable as code
use Rattle.qtt_cli.specs.declared.stop.Stop.{Stop}
use Rattle.qtt_cli.specs.Commands.{over_build}
use Rattle.qtt_cli.specs.Stops.{Gives}
use Rattle.qtt_cli.specs.Views.{code_program, program_of}
use Rattle.qtt_cli.proofs.Answered.{gives-stop, gives-behind}

-- ---- the named module
pub not-lacking : (p : Accepted → Bool) (As : List Accepted) → list_any p As ≡ true → find p As ≡ None → ⊥
not-lacking p [] there none = absurd (cc there)
not-lacking p (A ∷ As) there none = by (p A) (not-lacking p As) there none
  where
    by : (t : Bool) → (list_any p As ≡ true → find p As ≡ None → ⊥) → (t || list_any p As) ≡ true →
        cond t (Some A) (find p As) ≡ None → ⊥
    by true later there none = absurd (cc none)
    by false later there none = later there none

-- ---- one behind the other
module _ (root : Name) (n : ℕ) (B : Built) where
  abbrev with_code : GlobalId → Program → Answer Runnable
  with_code main P = Ok (record { main = main; program = P })

  abbrev behind_main : GlobalId → Answer Runnable
  behind_main main = code_of root B >>= with_code main

  abbrev in_build : Runnable → Answer (Built × Runnable)
  in_build x = Ok (B, x)

  abbrev behind_holes : Unit {0} → Answer (Built × Runnable)
  behind_holes u = runnable n root B >>= in_build

  pub holes-refused : (s : Stop) → Gives (λ (u : Unit {0}). u) (Err s) (no_holes B) →
      Gives program_of (Err s) (over_build root n B)
  holes-refused s g = gives-stop (no_holes B) behind_holes (λ (u : Unit {0}). u) program_of s g

  pub main-refused : (u : Unit {0}) (s : Stop) → no_holes B ≡ Ok u →
      Gives (λ (d : GlobalId). d) (Err s) (main_of n B root) → Gives program_of (Err s) (over_build root n B)
  main-refused u s none g =
      gives-behind (no_holes B) behind_holes u program_of (Err s) none
      (gives-stop (runnable n root B) in_build (λ (x : Runnable). x) program_of s
      (gives-stop (main_of n B root) behind_main (λ (d : GlobalId). d) (λ (x : Runnable). x) s g))

  pub code-refused : (u : Unit {0}) (main : GlobalId) (s : Stop) → no_holes B ≡ Ok u → main_of n B root ≡ Ok main →
      Gives code_program (Err s) (code_of root B) → Gives program_of (Err s) (over_build root n B)
  code-refused u main s none is g =
      gives-behind (no_holes B) behind_holes u program_of (Err s) none
      (gives-stop (runnable n root B) in_build (λ (x : Runnable). x) program_of s
      (gives-behind (main_of n B root) behind_main main (λ (x : Runnable). x) (Err s) is
      (gives-stop (code_of root B) (with_code main) code_program (λ (x : Runnable). x) s g)))

  pub program-given : (u : Unit {0}) (main : GlobalId) (P : Program) → no_holes B ≡ Ok u → main_of n B root ≡ Ok main →
      code_of root B ≡ Ok P → over_build root n B ≡ Ok (B, record { main = main; program = P })
  program-given u main P none is code =
      let x : Runnable = record { main = main; program = P } in
      let coded : behind_main main ≡ Ok x =
      gives-behind (code_of root B) (with_code main) P (λ (y : Runnable). y) (Ok x) code refl in
      let run : runnable n root B ≡ Ok x =
      gives-behind (main_of n B root) behind_main main (λ (y : Runnable). y) (Ok x) is coded in
      gives-behind (no_holes B) behind_holes u (λ (p : Built × Runnable). p) (Ok (B, x)) none
      (gives-behind (runnable n root B) in_build x (λ (p : Built × Runnable). p) (Ok (B, x)) run refl)

  -- the program of a build without a hole may be run
  pub main-given : MainsMayRun → (texts : Texts) → build (read_in texts) root n ≡ Ok B → (x : Runnable) (C : Built) →
      over_build root n B ≡ Ok (C, x) → no_holes B ≡ Ok tt × (main_of n B root ≡ Ok x.main)
  main-given may texts is x C e =
      let h = both (no_holes B) behind_holes (C, x) e in
      let y = both (runnable n root B) in_build (C, x) h.later in
      let pair : (B, y.value) ≡ (C, x) = (let g : Ok (B, y.value) ≡ Ok (C, x) = y.later in cc g) in
      let m = both (main_of n B root) behind_main y.value y.first in
      let c = both (code_of root B) (with_code m.value) y.value m.later in
      let made : record { main = m.value; program = c.value } ≡ y.value =
      (let g : Ok (record { main = m.value; program = c.value }) ≡ Ok y.value = c.later in cc g) in (
        h.first,
        m.first ∙ ap (λ (z : Runnable). Ok z.main) made ∙ ap (λ (q : Built × Runnable). Ok q.1.main) pair,
      )

-- ---- the named module stands in a build
same-self : (n : Name) → same_name n n ≡ true
same-self n = (slice_eq-Decides Decides-eqb n n (same_name n n) refl).1 refl

pub stands-there : (As : List Accepted) (root : Name) (k : ℕ) → StandsAt As root k → list_any (is_named root) As ≡ true
stands-there [] root k s = absurd (cc s)
stands-there (A ∷ As) root zero s =
    let e : A.exports.name ≡ root = (let g : Some A.exports.name ≡ Some root = s in cc g) in
    ap (λ n. same_name n root || list_any (is_named root) As) e
    ∙ ap (λ t. t || list_any (is_named root) As) (same-self root)
stands-there (A ∷ As) root (suc k) s = by (is_named root A) (stands-there As root k s)
  where
    by : (t : Bool) → list_any (is_named root) As ≡ true → (t || list_any (is_named root) As) ≡ true
    by true e = refl
    by false e = e

-- ---- what is given may be run
pub code-given : MainsMayRun →
    ((g : Globals) (c : Compiled) (main : GlobalId) → IsProgramOf g c → WellFormed (env g) → Complete (env g) →
    IsMain (env g) main → IsCodeOfMain c main (env g)) →
    (texts : Texts) (root : Name) (n : ℕ) (b : built.Built) → build (read_in texts) root n ≡ Ok (built_of b) →
    (r : Result code.Runnable Stop) → Gives program_of r (over_build root n (built_of b)) →
    IfOk r (λ p. p.built ≡ b) → IfOk r (λ p. IsProgramOf b.env p.compiled) →
    IfOk r (λ p. IsCodeOfMain p.compiled p.main (env p.built.env))
code-given may compiled texts root n b is (Err s) g same program = tt
code-given may compiled texts root n b is (Ok p) g same program =
    let B = built_of b in
    let x : Runnable = record { main = p.main; program = code_program p.compiled } in
    let m = main-given root n B may texts is x (built_of p.built) g in
    let run = may texts root n B tt p.main is m.0 m.1 in
    subst (λ (c : built.Built). IsCodeOfMain p.compiled p.main (env c.env)) (sym same)
    (compiled b.env p.compiled p.main program run.formed run.complete run.is_main)
