-- Over a well-formed environment a text declares one thing alone, and one that is refused for another cause than a
-- budget declares nothing: its items have one ending.
use Rattle.std.proofs.Common.{◌≡◌, inr, inl, ◌⊎◌, ◌∙◌, ℕ, true, List, Ok, Err, sym, ap, subst}
use Rattle.qtt_base.specs.declared.place.ModuleId.{ModuleId}
use Rattle.qtt_syntax.specs.Tree.{Module}
use Rattle.qtt_names.specs.Exports.{Exports}
use Rattle.qtt_implicit.specs.Filled.{FilledText}
use Rattle.qtt_term.specs.Ask.{Ending}
use Rattle.qtt_term.specs.Contraction.{BodiesClosed}
use Rattle.qtt_term.specs.Environment.{WellFormed}
use Rattle.qtt_term.specs.Entries.{Entries, env}
use Rattle.qtt_confluence.proofs.Endings.{one-ending}
use Rattle.qtt_preserve.proofs.Facts.{bodies_closed_holds}
use Rattle.qtt_rules.specs.Refusal.{Place, Refusal}
use Rattle.qtt_diag.specs.Kept.{Detail}
use Rattle.qtt_module.specs.Declarations.{Declaration, declarations}
use Rattle.qtt_module.specs.Module.{Home, Stage, start, declare, all_have_clauses, Checked, checked, Accepts, InTurn}
use Rattle.qtt_module.specs.Prepared.{prepared}
use Rattle.qtt_module.specs.Refused.{Refused, Answer}
use Rattle.qtt_module.specs.Text.{Accepted, accepted, home_of, items_in}
use Rattle.qtt_module.specs.TextCalls.{DeclaresText, RefusesText}
use Rattle.qtt_module.proofs.Turned.{so_module}
use Rattle.qtt_accepted.specs.Stages.{FreshFrom, Marked, WellNamed, all_differ, group_names}
use Rattle.qtt_accepted.specs.Texts.{IsSpent, TextsDeclareOnce}
use Rattle.qtt_accepted.proofs.Groups.{groups_make_no_tape_holds}
use Rattle.qtt_accepted.proofs.Stages.{Formed}
use Rattle.qtt_accepted.proofs.Texts.{texts_are_well_named_holds}
use Rattle.qtt_accepted.proofs.Turns.{behind-marks, behind-names, step, starts}

-- ---- items in turn
module _ (M : Home) where
  closed : {S : Stage} {ds : List Declaration} → Formed M S ds → BodiesClosed (env S.globals)
  closed {S} f = bodies_closed_holds (env S.globals) f.well

  pub one-turn : {S : Stage} {ds : List Declaration} {e r : Ending Refusal Place Stage} → InTurn M S ds e →
      InTurn M S ds r → Formed M S ds → Marked ds → all_differ (group_names ds) ≡ true → e ≡ r
  one-turn {S = S} (InTurn.last x) (InTurn.last y) f m differ =
      one-ending (env S.globals) (closed f) (all_have_clauses S) _ _ x y
  one-turn {S = S} {r = r} (InTurn.passes {T = T} {d = d} {ds = ds} x xs) (InTurn.passes {T = U} y ys) f m differ =
      let same : ◌≡◌ {A = Ending Refusal Place Stage} (Ending.ok T) (Ending.ok U) =
      one-ending (env S.globals) (closed f) (declare M S d) _ _ x y in
      let stage : T ≡ U = cc same in
      one-turn xs (subst (λ Z. InTurn M Z ds r) (sym stage) ys)
      (step groups_make_no_tape_holds M S T d ds f m differ x) (behind-marks d ds m) (behind-names d ds differ)
  one-turn {S = S} (InTurn.passes {T = T} {d = d} x xs) (InTurn.stops {r = q} y) f m differ =
      let same : ◌≡◌ {A = Ending Refusal Place Stage} (Ending.ok T) (Ending.fails q) =
      one-ending (env S.globals) (closed f) (declare M S d) _ _ x y in
      absurd (cc same)
  one-turn {S = S} (InTurn.stops {d = d} {r = q} x) (InTurn.passes {T = U} y ys) f m differ =
      let same : ◌≡◌ {A = Ending Refusal Place Stage} (Ending.fails q) (Ending.ok U) =
      one-ending (env S.globals) (closed f) (declare M S d) _ _ x y in
      absurd (cc same)
  one-turn {S = S} (InTurn.stops {d = d} x) (InTurn.stops y) f m differ =
      one-ending (env S.globals) (closed f) (declare M S d) _ _ x y

-- ---- a text
module _ (id : ModuleId) (asked : List ℕ) (imports : List Exports) (G : Entries) (m : Module)
    (w : WellFormed (env G)) (fresh : FreshFrom (home_of id m) 0 G) (marked : Marked (declarations (items_in m))) where
  abbrev M : Home
  M = home_of id m

  abbrev items : FilledText → List Declaration
  items f = declarations (items_in f.text)

  one-filled : (f g : FilledText) → prepared id asked imports m ≡ Ok f → prepared id asked imports m ≡ Ok g → f ≡ g
  one-filled f g e h = let s : ◌≡◌ {A = Answer FilledText} (Ok f) (Ok g) = sym e ∙ h in cc s

  module _ (f : FilledText) (e : prepared id asked imports m ≡ Ok f) where
    named : WellNamed (items f)
    named = texts_are_well_named_holds id asked imports m f e marked

    ending-of : {a b : Ending Refusal Place Stage} → InTurn M (start G) (items f) a → InTurn M (start G) (items f) b →
        a ≡ b
    ending-of x y = one-turn M x y (starts M G (items f) w fresh) named.marked named.groups

  accepts : (A : Accepted) (d : DeclaresText id asked imports G m A) →
      Accepts M G (items_in d.filled.text) A.checked
  accepts A d = so_module M G (items_in d.filled.text) A.checked d.declares

  one-so : (A B : Accepted) → DeclaresText id asked imports G m A → DeclaresText id asked imports G m B → A ≡ B
  one-so A B a b =
      let x = accepts A a in
      let y = accepts B b in
      let texts : b.filled ≡ a.filled = one-filled b.filled a.filled b.reads a.reads in
      let ends : InTurn M (start G) (items a.filled) (Ending.ok y.stage) =
      subst (λ (f : FilledText). InTurn M (start G) (items f) (Ending.ok y.stage)) texts y.ends in
      let same : ◌≡◌ {A = Ending Refusal Place Stage} (Ending.ok x.stage) (Ending.ok y.stage) =
      ending-of a.filled a.reads x.ends ends in
      let stages : x.stage ≡ y.stage = cc same in
      let kept : A.checked ≡ B.checked = sym x.is_checked ∙ ap (checked M) stages ∙ y.is_checked in
      a.gives ∙ ap (λ (C : Checked). accepted id m a.filled.sigs C) kept
      ∙ ap (λ (f : FilledText). accepted id m f.sigs B.checked) (sym texts) ∙ sym b.gives

  none-so : (n : ℕ) (r : Refused) (A : Accepted) → RefusesText id n asked imports G m r →
      (IsSpent r.kept.detail → ⊥) → DeclaresText id asked imports G m A → ⊥
  none-so n r A (RefusesText.not_read e) other d =
      let s : ◌≡◌ {A = Answer FilledText} (Err r) (Ok d.filled) = sym e ∙ d.reads in absurd (cc s)
  none-so n r A (RefusesText.premise {f = f} {r = q} e x) other d =
      let y = accepts A d in
      let texts : d.filled ≡ f = one-filled d.filled f d.reads e in
      let ends : InTurn M (start G) (items f) (Ending.ok y.stage) =
      subst (λ (g : FilledText). InTurn M (start G) (items g) (Ending.ok y.stage)) texts y.ends in
      let same : ◌≡◌ {A = Ending Refusal Place Stage} (Ending.fails q) (Ending.ok y.stage) =
      ending-of f e x ends in
      absurd (cc same)
  none-so n r A (RefusesText.question e s) other d = absurd (other IsSpent.spent)

-- ---- refusals
-- it keeps a question that took more than its budget, or it does not
pub spent-or-not : (d : Detail) → IsSpent d ⊎ (IsSpent d → ⊥)
spent-or-not (Detail.budget_spent n q) = inl IsSpent.spent
spent-or-not Detail.not_utf8 = inr (λ s. elim s [ ])
spent-or-not (Detail.bad_character c) = inr (λ s. elim s [ ])
spent-or-not Detail.open_text = inr (λ s. elim s [ ])
spent-or-not Detail.open_comment = inr (λ s. elim s [ ])
spent-or-not Detail.number_too_wide = inr (λ s. elim s [ ])
spent-or-not Detail.name_too_long = inr (λ s. elim s [ ])
spent-or-not Detail.bad_indent = inr (λ s. elim s [ ])
spent-or-not (Detail.unexpected w) = inr (λ s. elim s [ ])
spent-or-not Detail.too_deep = inr (λ s. elim s [ ])
spent-or-not (Detail.unbound n) = inr (λ s. elim s [ ])
spent-or-not (Detail.ambiguous n) = inr (λ s. elim s [ ])
spent-or-not (Detail.duplicate n) = inr (λ s. elim s [ ])
spent-or-not (Detail.premise c) = inr (λ s. elim s [ ])
spent-or-not (Detail.wrong_module_name n m) = inr (λ s. elim s [ ])
spent-or-not (Detail.cycle ms) = inr (λ s. elim s [ ])
spent-or-not (Detail.unsolved n) = inr (λ s. elim s [ ])
spent-or-not (Detail.has_holes ns) = inr (λ s. elim s [ ])

pub texts_declare_once_holds : TextsDeclareOnce
texts_declare_once_holds = record {
  decided = spent-or-not;
  one = λ id asked imports G m A B w fresh marked a b. one-so id asked imports G m w fresh marked A B a b;
  none = λ id n asked imports G m r A w fresh marked x other d.
      none-so id asked imports G m w fresh marked n r A x other d;
}
