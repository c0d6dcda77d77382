-- What the answers to a module's text, and to its main, mean.
use Rattle.std.proofs.Common.{◌≡◌, ◌∙◌, ℕ, ◌⊎◌, inl, inr, List, Ok, Err, refl, sym, ap, subst}
use Rattle.qtt_base.specs.declared.place.GlobalId.{GlobalId}
use Rattle.qtt_base.specs.declared.place.ModuleId.{ModuleId}
use Rattle.qtt_syntax.specs.Tree.{Item, Module}
use Rattle.qtt_names.specs.Exports.{Exports}
use Rattle.qtt_implicit.specs.Filled.{FilledText}
use Rattle.qtt_term.specs.Contraction.{BodiesClosed}
use Rattle.qtt_term.specs.Ask.{Ending, Ends, within}
use Rattle.qtt_term.specs.Entries.{Entries, env}
use Rattle.qtt_term.specs.FirstSpent.{Says}
use Rattle.qtt_confluence.proofs.Endings.{says, one-ending}
use Rattle.qtt_rules.specs.Refusal.{Place, Refusal}
use Rattle.qtt_diag.specs.Kept.{Detail}
use Rattle.qtt_module.specs.Declarations.{declarations}
use Rattle.qtt_module.specs.Module.{Home, start, Checked, module_within, check_main}
use Rattle.qtt_module.specs.ModuleRules.{IsMain}
use Rattle.qtt_module.specs.Refused.{Refused, Answer, ◌>>=◌, refused_at, judged}
use Rattle.qtt_module.specs.Prepared.{prepared}
use Rattle.qtt_module.specs.Text.{Accepted, accepted, home_of, items_in, items_in_turn, judged_text, standing_in_turn}
use Rattle.qtt_module.specs.TextCalls.{DeclaresText, RefusesText, TextsAreJudged, RefusesMain, MainsAreJudged, judged_main}
use Rattle.qtt_module.proofs.Answers.{answers_are_so_holds}
use Rattle.qtt_module.proofs.Mains.{main_so, so_main}
use Rattle.qtt_module.proofs.Turned.{module_so}

-- ---- a value, and then another
record Both {A B : Type 0} (m : Answer A) (k : A → Answer B) (b : B) : Type 0 where
  value : A
  first : m ≡ Ok value
  later : k value ≡ Ok b

record Later {A B : Type 0} (m : Answer A) (k : A → Answer B) (r : Refused) : Type 0 where
  value : A
  first : m ≡ Ok value
  later : k value ≡ Err r

both : {A B : Type 0} (m : Answer A) (k : A → Answer B) (b : B) → m >>= k ≡ Ok b → Both m k b
unfolding ◌>>=◌
both (Ok a) k b h = record { value = a; first = refl; later = h }
both (Err r) k b h = absurd (cc h)

either : {A B : Type 0} (m : Answer A) (k : A → Answer B) (r : Refused) → m >>= k ≡ Err r →
    (m ≡ Err r) ⊎ Later m k r
unfolding ◌>>=◌
either (Ok a) k r h = inr (record { value = a; first = refl; later = h })
either (Err s) k r h = let e : s ≡ r = cc h in inl (ap (λ (r : Refused). Err r) e)

-- ---- items
ended-ok : {A : Type 0} (M : List ℕ) (n : ℕ) (G : Entries) (o : Ending Refusal Place A) (a : A) →
    judged M n G o ≡ Ok a → o ≡ Ending.ok a
ended-ok M n G (Ending.ok b) a h = let e : b ≡ a = cc h in ap Ending.ok e
ended-ok M n G (Ending.fails r) a h = absurd (cc h)
ended-ok M n G (Ending.spent p q) a h = absurd (cc h)

module _ (id : ModuleId) (n : ℕ) (asked : List ℕ) (imports : List Exports) (G : Entries) (m : Module) where
  abbrev M : Home
  M = home_of id m

  abbrev items : FilledText → List Item
  items f = items_in f.text

  abbrev ends-with : FilledText → Checked → Answer Accepted
  ends-with f C = Ok (accepted id m f.sigs C)

  abbrev behind : FilledText → Answer Accepted
  behind f = items_in_turn M n G (items f) >>= ends-with f

  accepted-so : (A : Accepted) → judged_text id n asked imports G m ≡ Ok A → DeclaresText id asked imports G m A
  accepted-so A h = by (both (prepared id asked imports m) behind A h)
    where
      last : (f : FilledText) → prepared id asked imports m ≡ Ok f →
          Both (items_in_turn M n G (items f)) (ends-with f) A → DeclaresText id asked imports G m A
      last f e y =
          let same : accepted id m f.sigs y.value ≡ A = cc y.later in
          let own : y.value ≡ A.checked = ap (λ (A : Accepted). A.checked) same in
          let ok : module_within M n G (items f) ≡ Ending.ok A.checked =
          ended-ok M.name n _ (module_within M n G (items f)) y.value y.first ∙ ap Ending.ok own in
          record {
            filled = f;
            reads = e;
            declares = module_so M G (items f) A.checked (answers_are_so_holds.accepted M n G (items f) A.checked ok);
            gives = sym same ∙ ap (accepted id m f.sigs) own;
          }

      by : Both (prepared id asked imports m) behind A → DeclaresText id asked imports G m A
      by x = last x.value x.first (both (items_in_turn M n G (items x.value)) (ends-with x.value) A x.later)

  abbrev stands : FilledText → Entries
  stands f = standing_in_turn M n (start G) (declarations (items f))

  -- a refusal of its items
  items-refused : (f : FilledText) → prepared id asked imports m ≡ Ok f → (o : Ending Refusal Place Checked) →
      module_within M n G (items f) ≡ o → (r : Refused) → judged M.name n (stands f) o ≡ Err r →
      RefusesText id n asked imports G m r
  items-refused f e (Ending.ok C) w r h = absurd (cc h)
  items-refused f e (Ending.fails s) w r h =
      let same : refused_at M.name (stands f) s.place (Detail.premise s.cause) ≡ r = cc h in
      subst (RefusesText id n asked imports G m) same
      (RefusesText.premise e (answers_are_so_holds.refused M n G (items f) s w))
  items-refused f e (Ending.spent p q) w r h =
      let same : refused_at M.name (stands f) p (Detail.budget_spent n q) ≡ r = cc h in
      subst (RefusesText id n asked imports G m) same
      (RefusesText.question e (answers_are_so_holds.spent M n G (items f) p q w))

  refused-so : (r : Refused) → judged_text id n asked imports G m ≡ Err r → RefusesText id n asked imports G m r
  refused-so r h = by (either (prepared id asked imports m) behind r h)
    where
      last : (f : FilledText) → prepared id asked imports m ≡ Ok f →
          (items_in_turn M n G (items f) ≡ Err r) ⊎ Later (items_in_turn M n G (items f)) (ends-with f) r →
          RefusesText id n asked imports G m r
      last f e (inl x) = items-refused f e (module_within M n G (items f)) refl r x
      last f e (inr x) = absurd (cc x.later)

      by : (prepared id asked imports m ≡ Err r) ⊎ Later (prepared id asked imports m) behind r →
          RefusesText id n asked imports G m r
      by (inl x) = RefusesText.not_read x
      by (inr x) = last x.value x.first (either (items_in_turn M n G (items x.value)) (ends-with x.value) r x.later)

pub texts_are_judged_holds : TextsAreJudged
texts_are_judged_holds = record { accepted = accepted-so; refused = refused-so }

-- ---- a main
module _ (n : ℕ) (G : Entries) (A : Accepted) (bodies : BodiesClosed (env G)) where
  abbrev ending : Ending Refusal Place GlobalId
  ending = within (env G) n (check_main G A.header A.checked)

  ends-so : (o : Ending Refusal Place GlobalId) → ending ≡ o → Says (env G) n (check_main G A.header A.checked) o
  ends-so o e =
      subst (Says (env G) n (check_main G A.header A.checked)) e
      (says (env G) n (check_main G A.header A.checked))

  given-so : (d : GlobalId) → judged_main n G A ≡ Ok d → IsMain G A.checked.main d
  given-so d h =
      main_so G A.header A.checked.main d (ends-so (Ending.ok d) (ended-ok A.exports.name n G ending d h))

  none-is : (r : Refusal) → Ends (env G) (check_main G A.header A.checked) (Ending.fails r) → (d : GlobalId) →
      IsMain G A.checked.main d → ⊥
  none-is r x d y =
      let e : ◌≡◌ {A = Ending Refusal Place GlobalId} (Ending.fails r) (Ending.ok d) =
      one-ending (env G) bodies (check_main G A.header A.checked) (Ending.fails r) (Ending.ok d) x
      (so_main G A.header A.checked.main d y) in cc e

  main-refused : (r : Refused) (o : Ending Refusal Place GlobalId) → ending ≡ o →
      judged A.exports.name n G o ≡ Err r → RefusesMain n G A r
  main-refused r (Ending.ok d) e h = absurd (cc h)
  main-refused r (Ending.fails s) e h =
      let same : refused_at A.exports.name G s.place (Detail.premise s.cause) ≡ r = cc h in
      let x = ends-so (Ending.fails s) e in
      subst (RefusesMain n G A) same (RefusesMain.premise x (none-is s x))
  main-refused r (Ending.spent p q) e h =
      let same : refused_at A.exports.name G p (Detail.budget_spent n q) ≡ r = cc h in
      subst (RefusesMain n G A) same (RefusesMain.question (ends-so (Ending.spent p q) e))

pub mains_are_judged_holds : MainsAreJudged
mains_are_judged_holds = record {
  given = λ n G A d bodies. given-so n G A bodies d;
  refused = λ n G A r bodies h.
      main-refused n G A bodies r (within (env G) n (check_main G A.header A.checked)) refl h;
}
