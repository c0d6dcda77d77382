-- What the judgement of a module answers within a budget is so without one.
use Rattle.std.proofs.Common.{◌≡◌, ℕ, List, [], ◌∷◌, refl, subst}
use Rattle.qtt_syntax.specs.Tree.{Item}
use Rattle.qtt_term.specs.Ask.{Question, Ending, within}
use Rattle.qtt_term.specs.FirstSpent.{Says}
use Rattle.qtt_term.specs.Entries.{Entries, env}
use Rattle.qtt_confluence.proofs.Endings.{says}
use Rattle.qtt_rules.specs.Refusal.{Place, Refusal}
use Rattle.qtt_module.specs.Declarations.{Declaration, declarations}
use Rattle.qtt_module.specs.Module.{Home, Stage, start, declare, all_have_clauses, next, in_turn, InTurn, Spends, Checked, as_checked, Accepts, Refuses}
use Rattle.qtt_module.specs.Laws.{AnswersAreSo}

-- ---- items in turn
abbrev TurnSays : Home → ℕ → Stage → List Declaration → Ending Refusal Place Stage → Type 0
TurnSays M n S ds (Ending.ok T) = InTurn M S ds (Ending.ok T)
TurnSays M n S ds (Ending.fails r) = InTurn M S ds (Ending.fails r)
TurnSays M n S ds (Ending.spent p q) = Spends M n S ds p q

last-says : (M : Home) (n : ℕ) (S : Stage) (o : Ending Refusal Place Stage) →
    Says (env S.globals) n (all_have_clauses S) o → TurnSays M n S [] o
last-says M n S (Ending.ok T) x = InTurn.last x
last-says M n S (Ending.fails r) x = InTurn.last x
last-says M n S (Ending.spent p q) x = Spends.at_end x

next-says : (M : Home) (n : ℕ) (S : Stage) (d : Declaration) (ds : List Declaration) (o : Ending Refusal Place Stage) →
    within (env S.globals) n (declare M S d) ≡ o → Says (env S.globals) n (declare M S d) o →
    ((T : Stage) → TurnSays M n T ds (in_turn M n T ds)) → TurnSays M n S (d ∷ ds) (next o (λ T. in_turn M n T ds))
unfolding next
next-says M n S d ds (Ending.ok T) e x rest = through (in_turn M n T ds) (rest T)
  where
    through : (o : Ending Refusal Place Stage) → TurnSays M n T ds o → TurnSays M n S (d ∷ ds) o
    through (Ending.ok U) y = InTurn.passes x y
    through (Ending.fails r) y = InTurn.passes x y
    through (Ending.spent p q) y = Spends.behind e y
next-says M n S d ds (Ending.fails r) e x rest = InTurn.stops x
next-says M n S d ds (Ending.spent p q) e x rest = Spends.here x

turn-says : (M : Home) (n : ℕ) (ds : List Declaration) (S : Stage) → TurnSays M n S ds (in_turn M n S ds)
unfolding in_turn
turn-says M n [] S =
    last-says M n S (within (env S.globals) n (all_have_clauses S)) (says (env S.globals) n (all_have_clauses S))
turn-says M n (d ∷ ds) S =
    next-says M n S d ds (within (env S.globals) n (declare M S d)) refl (says (env S.globals) n (declare M S d))
    (λ T. turn-says M n ds T)

-- ---- the whole
accepted-so : (M : Home) (n : ℕ) (G : Entries) (is : List Item) (C : Checked) (o : Ending Refusal Place Stage) →
    TurnSays M n (start G) (declarations is) o → as_checked M o ≡ Ending.ok C → Accepts M G is C
accepted-so M n G is C (Ending.ok S) x e = record { stage = S; ends = x; is_checked = cc e }
accepted-so M n G is C (Ending.fails r) x e = absurd (cc e)
accepted-so M n G is C (Ending.spent p q) x e = absurd (cc e)

refused-so : (M : Home) (n : ℕ) (G : Entries) (is : List Item) (r : Refusal) (o : Ending Refusal Place Stage) →
    TurnSays M n (start G) (declarations is) o → as_checked M o ≡ Ending.fails r → Refuses M G is r
refused-so M n G is r (Ending.ok S) x e = absurd (cc e)
refused-so M n G is r (Ending.fails s) x e = let d : s ≡ r = cc e in subst (λ z. Refuses M G is z) d x
refused-so M n G is r (Ending.spent p q) x e = absurd (cc e)

spent-so : (M : Home) (n : ℕ) (G : Entries) (is : List Item) (p : Place) (q : Question)
    (o : Ending Refusal Place Stage) → TurnSays M n (start G) (declarations is) o → as_checked M o ≡ Ending.spent p q →
    Spends M n (start G) (declarations is) p q
spent-so M n G is p q (Ending.ok S) x e = absurd (cc e)
spent-so M n G is p q (Ending.fails s) x e = absurd (cc e)
spent-so M n G is p q (Ending.spent r u) x e =
    let d : r ≡ p = cc e in
    let f : u ≡ q = cc e in
    subst (λ z. Spends M n (start G) (declarations is) z q) d
    (subst (λ z. Spends M n (start G) (declarations is) r z) f x)

pub answers_are_so_holds : AnswersAreSo
answers_are_so_holds = record {
  accepted = λ M n G is C e.
      accepted-so M n G is C (in_turn M n (start G) (declarations is)) (turn-says M n (declarations is) (start G)) e;
  refused = λ M n G is r e.
      refused-so M n G is r (in_turn M n (start G) (declarations is)) (turn-says M n (declarations is) (start G)) e;
  spent = λ M n G is p q e.
      spent-so M n G is p q (in_turn M n (start G) (declarations is)) (turn-says M n (declarations is) (start G)) e;
}
