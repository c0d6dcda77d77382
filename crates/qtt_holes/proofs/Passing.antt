-- Tests of uses: of binders on the way to a hole, and of what is reported at a leaf.
use Rattle.std.proofs.Common.{◌≡◌, ℕ, Bool, true, false, List, [], ◌∷◌, Option, refl, T}
use Rattle.std.proofs.lemmas.List.Elements.{All-nil, All-cons, All-head, All-tail}
use Rattle.qtt_usage.specs.declared.mult.Mult.{Mult}
use Rattle.qtt_term.specs.Judgement.{Ctx, Part}
use Rattle.qtt_term.specs.Ask.{Ends}
use Rattle.qtt_rules.specs.Refusal.{Place}
use Rattle.qtt_rules.specs.Report.{Report, uses_pass}
use Rattle.qtt_core_check.proofs.Parts.{parts}
use Rattle.qtt_core_check.proofs.Answered.{ends-then as joined}
use Rattle.qtt_bidi.proofs.Endings.{Gives, holding, held}
use Rattle.qtt_holes.specs.Walk.{fit_before}
use Rattle.qtt_holes.specs.Rules.{FitsBefore, Passes, UsesPass}

pub true_so : (b : Bool) → b ≡ true → T b
true_so true e = tt
true_so false e = absurd (cc e)

pub so_true : (b : Bool) → T b → b ≡ true
so_true true t = refl
so_true false t = absurd t

pub fit_so : {E : _} (p : Part) (n : Option (List ℕ)) (q : Mult) (us : List Mult) (l : Place) (u : Unit {0}) →
    Gives E (fit_before p n q us l) u → FitsBefore p q us
fit_so Part.erased n q us l u x = tt
fit_so Part.run n q us l u x = true_so _ (holding _ _ u x)

pub so_fit : {E : _} (p : Part) (n : Option (List ℕ)) (q : Mult) (us : List Mult) (l : Place) → FitsBefore p q us →
    Gives E (fit_before p n q us l) tt
so_fit Part.erased n q us l f = Ends.is_done
so_fit Part.run n q us l f = held _ _ (so_true _ f)

pub uses_so : {E : _} (test : Mult → Mult → Bool) (p : Part) (Γ : Ctx) (us : List Mult) (rs : List Report)
    (u : Unit {0}) → Gives E (uses_pass test p Γ us rs) u → UsesPass test p Γ us rs
uses_so test Part.erased Γ us rs u x = tt
uses_so test Part.run Γ us [] u x = All-nil (Passes test Γ us)
uses_so test Part.run Γ us (r ∷ rs) u x =
    let f = parts _ _ _ x in
    All-cons (Passes test Γ us) r rs (true_so _ (holding _ _ f.mid f.first)) (uses_so test Part.run Γ us rs u f.after)

pub so_uses : {E : _} (test : Mult → Mult → Bool) (p : Part) (Γ : Ctx) (us : List Mult) (rs : List Report) →
    UsesPass test p Γ us rs → Gives E (uses_pass test p Γ us rs) tt
so_uses test Part.erased Γ us rs h = Ends.is_done
so_uses test Part.run Γ us [] h = Ends.is_done
so_uses test Part.run Γ us (r ∷ rs) h =
    joined _ _ (held _ _ (so_true _ (All-head (Passes test Γ us) r rs h)))
    (so_uses test Part.run Γ us rs (All-tail (Passes test Γ us) r rs h))
