-- Uses before a hole: tests of them, and what a walk has found behind a binder.
use Rattle.std.proofs.Common.{◌≡◌, ℕ, true, false, List, [], ◌∷◌, ◌++◌, map, drop, Option, Vec, Global, sym, ap, ◌∙◌}
use mathlib.Core.Path.{ap₂}
use Rattle.qtt_usage.specs.declared.mult.Mult.{Mult}
use Rattle.qtt_usage.specs.Usage.{usage_at, usage_sum}
use Rattle.qtt_term.specs.Signature.{Env}
use Rattle.qtt_term.specs.declared.rule.Rule.TheVariants as rule
use Rattle.qtt_term.specs.Judgement.{Ctx, Part, mult_at}
use Rattle.qtt_term.specs.Scope.{Scope}
use Rattle.qtt_rules.specs.Refusal.{Cause, Place, at}
use Rattle.qtt_rules.specs.Report.{Report, uses_number}
use Rattle.qtt_bidi.specs.Answers.{Reaches, Fails}
use Rattle.qtt_bidi.proofs.Within.{on_done, holds, unmet}
use Rattle.qtt_holes.specs.declared.hole.Seen as code_seen
use Rattle.qtt_holes.specs.declared.walker.Found.{Found}
use Rattle.qtt_holes.specs.Calls.{told, fitting_before, tests_use, Stands}
use Rattle.qtt_holes.specs.Hole.{fits_before, left_of, all_left}
use Rattle.qtt_holes.specs.View.{seen}
use Rattle.qtt_holes.specs.Walk.{Walked, fit_before, passed, used_too, hole_of}
use Rattle.qtt_holes.proofs.Left.{told-all, made, same-made}
use Rattle.qtt_term.specs.View.{term}

module _ {E : Env} {n : ℕ} (x : Option (List ℕ)) (q u : Mult) (us : List Mult) (w : Place) where
  pub fits : (p : Part) → fitting_before p u q ≡ true → Reaches E n (fit_before p x q (u ∷ us) w) tt
  fits Part.erased f = on_done
  fits Part.run f = holds _ _ _ f

  pub unfit : (p : Part) → fitting_before p u q ≡ false →
      Fails E n (fit_before p x q (u ∷ us) w) (Cause.wrong_usage x q u) w
  unfit Part.erased f = absurd (cc f)
  unfit Part.run f = unmet _ _ _ f

module _ {E : Env} {n : ℕ} (Γ : Ctx) (us : List Mult) (r : Report) (q u : Mult) (a : u ≡ usage_at us r.variable)
    (b : q ≡ mult_at Γ r.variable) where
  pub use-passes : fits_before u q ≡ true → Reaches E n (tests_use Γ us r) tt
  use-passes h = holds _ _ _ (ap₂ fits_before (sym a) (sym b) ∙ h)

  pub use-told : (x : Option (List ℕ)) → x ≡ r.name → fits_before u q ≡ false →
      Fails E n (tests_use Γ us r) (Cause.wrong_usage x q u) (at r.place rule.Clauses uses_number)
  use-told x e h =
      let k : fits_before (usage_at us r.variable) (mult_at Γ r.variable) ≡ false =
      ap₂ fits_before (sym a) (sym b) ∙ h in
      rw (e, a, b) (unmet _ _ _ k)

pub stands-passed : (p : Part) (q u : Mult) (us : List Mult) (v : Vec Mult Global) (f : Found) (w : Walked) →
    f.uses ≡ u ∷ us → v.items ≡ f.left.items ++ left_of p q u ∷ [] → Stands w f →
    Stands (passed p q w) (record f { uses = us; left = v })
stands-passed p q u us v f w e l s = record {
  name = s.name;
  span = s.span;
  goal = s.goal;
  depth = s.depth;
  seen = s.seen;
  uses = ap (drop 1) (sym e ∙ s.uses);
  left = l ∙ ap₂ (λ vs u. vs ++ left_of p q u ∷ []) s.left (ap (λ us. usage_at us 0) (sym e ∙ s.uses));
}

pub stands-used : (us ws : List Mult) (f : Found) (w : Walked) → ws ≡ usage_sum us f.uses → Stands w f →
    Stands (used_too us w) (record f { uses = ws })
stands-used us ws f w e s = record {
  name = s.name;
  span = s.span;
  goal = s.goal;
  depth = s.depth;
  seen = s.seen;
  uses = e ∙ ap (usage_sum us) s.uses;
  left = s.left;
}

-- once it is told what is left of each name in sight, it is the hole
pub hole-so : (p : Part) (S : Scope) (w : Walked) (f : Found) (xs : List code_seen.Seen) → Stands w f →
    map seen xs ≡ map (told (f.left.items ++ all_left p S.vars f.uses)) (map seen f.seen.items) →
    made f.name f.span (term f.goal) f.depth (map seen xs) ≡ hole_of p S w
hole-so p S w f xs s e =
    same-made s.name s.span s.goal s.depth
    (e ∙ ap₂ (λ us ys. map (told us) ys) (ap₂ (λ l us. l ++ all_left p S.vars us) s.left s.uses) s.seen
    ∙ told-all (w.left ++ all_left p S.vars w.uses) w.names w.scope.names)
