-- What an answer of the walk says: that a hole is derived, that a failure is one without a bound and with convertible
-- terms, and has no derivation, and which question is spent.
use Rattle.std.proofs.Common.{◌≡◌, ℕ, List, Result, Ok, Err, subst}
use Rattle.qtt_syntax.specs.Tree.{Tree}
use Rattle.qtt_term.specs.Term.{Term}
use Rattle.qtt_term.specs.Contraction.{BodiesClosed}
use Rattle.qtt_term.specs.Judgement.{Part}
use Rattle.qtt_term.specs.Ask.{Ending, Ends, within}
use Rattle.qtt_term.specs.FirstSpent.{FirstSpent, Says}
use Rattle.qtt_term.specs.Entries.{Entries, env}
use Rattle.qtt_term.specs.Scope.{Scope}
use Rattle.qtt_confluence.proofs.Endings.{says, one-ending}
use Rattle.qtt_conclusions.specs.Conclusions.{Concludes}
use Rattle.qtt_conclusions.proofs.Heads.{conclude}
use Rattle.qtt_rules.specs.declared.errors.ElabError.{ElabError}
use Rattle.qtt_rules.specs.declared.errors.ElabError.TheVariants as error
use Rattle.qtt_rules.specs.Refusal.{Cause, Place, Refusal, at, refused}
use Rattle.qtt_rules.specs.Report.{Report}
use Rattle.qtt_bidi.specs.Answers.{Kept, kept, Tells, Refuses, Gives}
use Rattle.qtt_bidi.specs.Elaborated.{WherePremise, WhereFails, WhereQuestion, WhereSpent}
use Rattle.qtt_holes.specs.declared.hole.Hole as code_hole
use Rattle.qtt_holes.specs.Answered.{FindsHole}
use Rattle.qtt_holes.specs.Hole.{Hole}
use Rattle.qtt_holes.specs.Rules.{HasHole}
use Rattle.qtt_holes.specs.View.{hole}
use Rattle.qtt_holes.specs.Walk.{walk}
use Rattle.qtt_holes.proofs.Walked.{walk_so}
use Rattle.qtt_holes.proofs.Walking.{so_walk}

module _ (G : Entries) (n : ℕ) (p : Part) (S : Scope) (ns : List (List ℕ)) (rs : List Report) (e : Tree) (A : Term)
    (bodies : BodiesClosed (env G)) where
  abbrev FailsSo : Cause → Place → Type 0
  FailsSo c w = Ends (env G) (walk G p S ns rs e A) (Ending.fails (refused c w))

  abbrev IsFalseSo : Cause → Place → Type 0
  IsFalseSo c w = Concludes (env G) (walk G p S ns rs e A) (Ending.fails (refused c w))

  abbrev HasNone : Cause → Place → Type 0
  HasNone c w = (h : Hole) → HasHole G p S ns rs e A h → ⊥

  -- what an ending within a budget says
  ending : (r : Ending Refusal Place Hole) → within (env G) n (walk G p S ns rs e A) ≡ r →
      Says (env G) n (walk G p S ns rs e A) r
  ending r h = subst (λ r. Says (env G) n (walk G p S ns rs e A) r) h (says (env G) n (walk G p S ns rs e A))

  underived : (c : Cause) (w : Place) → FailsSo c w → HasNone c w
  underived c w x h d =
      let e : ◌≡◌ {A = Ending Refusal Place Hole} (Ending.fails (refused c w)) (Ending.ok h) =
      one-ending (env G) bodies (walk G p S ns rs e A) (Ending.fails (refused c w)) (Ending.ok h) x
      (so_walk G p S ns rs e A h d) in cc e

  failed-so : (k : Kept) (w : Place) → Tells (env G) n (walk G p S ns rs e A) w k → WherePremise k w FailsSo
  failed-so (Kept.premise c) w h = ending (Ending.fails (refused c w)) h.is
  failed-so (Kept.question_of b q) w h = tt
  failed-so Kept.nothing w h = tt

  false-so : (k : Kept) (w : Place) → WherePremise k w FailsSo → WherePremise k w IsFalseSo
  false-so (Kept.premise c) w h = conclude bodies h
  false-so (Kept.question_of b q) w h = tt
  false-so Kept.nothing w h = tt

  has-none : (k : Kept) (w : Place) → WherePremise k w FailsSo → WherePremise k w HasNone
  has-none (Kept.premise c) w h = underived c w h
  has-none (Kept.question_of b q) w h = tt
  has-none Kept.nothing w h = tt

  spent-so : (k : Kept) (w : Place) → Tells (env G) n (walk G p S ns rs e A) w k →
      WhereQuestion k w (λ w q. FirstSpent (env G) n (walk G p S ns rs e A) w q)
  spent-so (Kept.premise c) w h = tt
  spent-so (Kept.question_of b q) w h = ending (Ending.spent w q) h.is
  spent-so Kept.nothing w h = tt

  refusal-is-so : (r : ElabError) → Refuses (env G) n (walk G p S ns rs e A) r →
      WhereFails r FailsSo × WhereFails r IsFalseSo × WhereFails r HasNone
      × WhereSpent r (λ w q. FirstSpent (env G) n (walk G p S ns rs e A) w q)
  refusal-is-so (error.Refused d s r k) h =
      let f = failed-so (kept d) (at s r k) h in
      (f, false-so (kept d) (at s r k) f, has-none (kept d) (at s r k) f, spent-so (kept d) (at s r k) h)
  refusal-is-so error.Memory h = (tt, tt, tt, tt)

  -- the call's answer, and what it says
  pub answered : (r : Result code_hole.Hole ElabError) → Gives (env G) n (walk G p S ns rs e A) hole r →
      FindsHole G n p S ns rs e A r
  answered (Ok x) h = record {
    gives = h;
    sound = walk_so G p S ns rs e A (hole x) (ending (Ending.ok (hole x)) h.is);
    failed = tt;
    false_so = tt;
    underived = tt;
    spent = tt;
  }
  answered (Err r) h =
      let so = refusal-is-so r h in
      record { gives = h; sound = tt; failed = so.0; false_so = so.1; underived = so.2; spent = so.3 }
