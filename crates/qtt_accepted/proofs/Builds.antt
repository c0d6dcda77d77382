-- What an accepted build declares is well formed and, without a hole, complete.
use Rattle.std.proofs.Common.{◌≡◌, List, [], ◌∷◌, ◌++◌, refl, sym, subst}
use Rattle.qtt_syntax.specs.Tree.{Item}
use Rattle.qtt_term.specs.Environment.{WellFormed, Complete}
use Rattle.qtt_term.specs.Entries.{Entries, env}
use Rattle.qtt_term.proofs.Options.{none≢some}
use Rattle.qtt_term.proofs.PrimFormed.{prim_formed}
use Rattle.qtt_term.proofs.PrimGlobals.{entries-are_the_environment}
use Rattle.qtt_holes.specs.Hole.{Hole}
use Rattle.qtt_module.specs.Module.{Home}
use Rattle.qtt_accepted.specs.Laws.{Build, BuildsAreFormed}
use Rattle.qtt_accepted.proofs.Completing.{front-empty, modules_keep_form_holds}

back-empty : {A : Type 0} (xs ys : List A) → xs ++ ys ≡ [] → ys ≡ []
back-empty [] ys e = e
back-empty (x ∷ xs) ys e = absurd (cc e)

formed : {ms : List (Home × List Item)} {G : Entries} {hs : List Hole} → Build ms G hs → WellFormed (env G)
formed Build.prim = subst WellFormed (sym entries-are_the_environment.prim) prim_formed
formed (Build.next {G = G} {M = M} {is = is} {S = S} b f n x) =
    modules_keep_form_holds.formed M G is S (formed b) f n x

complete : {ms : List (Home × List Item)} {G : Entries} {hs : List Hole} → Build ms G hs → hs ≡ [] → Complete (env G)
complete Build.prim e = λ d D h u. absurd (none≢some h)
complete (Build.next {G = G} {hs = hs} {M = M} {is = is} {S = S} b f n x) e =
    modules_keep_form_holds.complete M G is S (formed b) f n x (complete b (front-empty hs S.holes e))
    (back-empty hs S.holes e)

pub builds_are_formed_holds : BuildsAreFormed
builds_are_formed_holds = record { formed = λ ms G hs b. formed b; complete = λ ms G b. complete b refl }
