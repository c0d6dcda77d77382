-- The declarations of a text are well named, and an accepted text keeps the environment's form, once its part is
-- adopted.
use Rattle.std.proofs.Common.{◌≡◌, ℕ, List, [], Option, Some, None, Result, Ok, Err, refl, sym, ap, subst, ◌∙◌, map}
use Rattle.qtt_base.specs.declared.place.ModuleId.{ModuleId}
use Rattle.qtt_syntax.specs.Tree.{Module}
use Rattle.qtt_names.specs.Answer as names
use Rattle.qtt_names.specs.Exports.{Exports}
use Rattle.qtt_names.specs.PrimNames.{scope_of}
use Rattle.qtt_names.specs.Resolved.{resolved}
use Rattle.qtt_names.specs.Scope.{module_name}
use Rattle.qtt_implicit.specs.Filled.{FilledText, filled}
use Rattle.qtt_implicit.specs.Filled as implicit
use Rattle.qtt_term.specs.Signature.{Env}
use Rattle.qtt_term.specs.Environment.{WellFormed, Complete}
use Rattle.qtt_term.specs.Entries.{Entries, env}
use Rattle.qtt_term.proofs.Options.{none≢some}
use Rattle.qtt_module.specs.Declarations.{declarations}
use Rattle.qtt_module.specs.Module.{Home, item_of, start, Checked, Accepts}
use Rattle.qtt_module.specs.Refused.{Answer, ◌>>=◌}
use Rattle.qtt_module.specs.Prepared.{has_name, looked_up, imported, named, filled_in, prepared}
use Rattle.qtt_module.specs.Text.{Accepted, items_in, home_of}
use Rattle.qtt_module.specs.TextCalls.{DeclaresText}
use Rattle.qtt_module.proofs.Turned.{turn_so, so_module}
use Rattle.qtt_accepted.specs.Stages.{FreshFrom, Marked, all_differ}
use Rattle.qtt_accepted.specs.Texts.{TextsAreWellNamed, adopted, TextsKeepForm, StandsIn, TextsKeepFormBeside}
use Rattle.qtt_accepted.proofs.Outlines.{marks-stay}
use Rattle.qtt_accepted.proofs.TakenOnce.{names-taken-once, names-keep-heads}
use Rattle.qtt_accepted.proofs.Filling.{filling-keeps-heads}
use Rattle.qtt_accepted.proofs.Adopted.{adopted-beside}
use Rattle.qtt_accepted.proofs.Adding.{AddsItems, fresh-lacks, starts-adding, adds-all}
use Rattle.qtt_accepted.proofs.Beside.{beside, stands-over, beside-formed, beside-complete}
use Rattle.qtt_accepted.proofs.Completing.{modules_keep_form_holds}

-- ---- what is made ready of a text
-- its names stand for something, and it is filled
record Reads (id : ModuleId) (imports : List Exports) (m : Module) (f : FilledText) : Type 0 where
  text : Module
  names : resolved (scope_of id m (map imported imports)) m ≡ Ok text
  fills : filled id imports text ≡ Ok f

then-so : {A B : Type 0} (r : Answer A) (k : A → Answer B) (b : B) → (r >>= k) ≡ Ok b →
    (a : A) × (r ≡ Ok a) × (k a ≡ Ok b)
unfolding ◌>>=◌
then-so (Ok a) k b e = (a, refl, e)
then-so (Err r) k b e = absurd (cc e)

looked-so : (M : List ℕ) (r : names.Answer Module) (t : Module) → looked_up M r ≡ Ok t → r ≡ Ok t
looked-so M (Ok m) t e = let s : m ≡ t = cc e in ap Ok s
looked-so M (Err f) t e = absurd (cc e)

filled-so : (M : List ℕ) (r : Result FilledText implicit.Refusal) (f : FilledText) → filled_in M r ≡ Ok f → r ≡ Ok f
filled-so M (Ok t) f e = let s : t ≡ f = cc e in ap Ok s
filled-so M (Err (implicit.Refusal.unsolved x s)) f e = absurd (cc e)
filled-so M (Err (implicit.Refusal.braces k n s)) f e = absurd (cc e)
filled-so M (Err (implicit.Refusal.too_large n s)) f e = absurd (cc e)

reads : (id : ModuleId) (asked : List ℕ) (imports : List Exports) (m : Module) (f : FilledText) →
    prepared id asked imports m ≡ Ok f → Reads id imports m f
reads id asked imports m f e =
    let fill : (Module → Answer FilledText) = λ (t : Module). filled_in (module_name m) (filled id imports t) in
    let h = then-so (has_name asked m) (λ (u : Unit {0}). named id imports m >>= fill) f e in
    let n = then-so (named id imports m) fill f h.2 in
    record {
      text = n.0;
      names = looked-so (module_name m) (resolved (scope_of id m (map imported imports)) m) n.0 n.1;
      fills = filled-so (module_name m) (filled id imports n.0) f n.2;
    }

pub texts_are_well_named_holds : TextsAreWellNamed
texts_are_well_named_holds id asked imports m f e marked =
    let r = reads id asked imports m f e in
    let once = names-taken-once id (map imported imports) m r.text r.names in
    let first = names-keep-heads (scope_of id m (map imported imports)) m r.text r.names in
    let later = filling-keeps-heads id imports r.text f r.fills in
    record {
      marked = marks-stay (declarations (items_in m)) (declarations (items_in f.text)) (later.marks ∙ first.marks)
          marked;
      groups = ap all_differ later.groups ∙ once.groups;
      signatures = ap all_differ later.signatures ∙ once.signatures;
    }

-- ---- an accepted text
none-before : {A : Type 0} (o p : Option A) → ((a : A) → o ≡ Some a → p ≡ Some a) → p ≡ None → o ≡ None
none-before None p h e = refl
none-before (Some a) p h e = absurd (none≢some (sym e ∙ h a refl))

fresh-before : (M : Home) (G H : Entries) → StandsIn (env G) (env H) → FreshFrom M 0 H → FreshFrom M 0 G
fresh-before M G H s h = λ n l.
    let i = item_of M n in (
      none-before ((env G).family i) ((env H).family i) (s.families i) (h n l).0,
      none-before ((env G).definition i) ((env H).definition i) (s.definitions i) (h n l).1,
    )

stands-itself : (E : Env) → StandsIn E E
stands-itself E = record { families = λ f F h. h; definitions = λ d A h. h }

module _ (id : ModuleId) (asked : List ℕ) (imports : List Exports) (G H : Entries) (m : Module) (A : Accepted)
    (d : DeclaresText id asked imports G m A) (s : StandsIn (env G) (env H))
    (fresh : FreshFrom (home_of id m) 0 H) where
  pub accepts : Accepts (home_of id m) G (items_in d.filled.text) A.checked
  accepts = so_module (home_of id m) G (items_in d.filled.text) A.checked d.declares

  pub fresh-first : FreshFrom (home_of id m) 0 G
  fresh-first = fresh-before (home_of id m) G H s fresh

  pub adds : AddsItems (home_of id m) G accepts.stage
  adds =
      adds-all (home_of id m) G
      (turn_so (home_of id m) (start G) (declarations (items_in d.filled.text)) accepts.stage accepts.ends)
      (starts-adding (home_of id m) G fresh-first)

  pub adopted-is : env (adopted H A.checked.part) ≡ beside id (env accepts.stage.globals) (env H)
  adopted-is =
      ap (λ (C : Checked). env (adopted H C.part)) (sym accepts.is_checked)
      ∙ adopted-beside id H accepts.stage.globals adds.families_once adds.definitions_once
      (fresh-lacks (home_of id m) H fresh)

  stands : StandsIn (env H) (env (adopted H A.checked.part))
  stands =
      subst (StandsIn (env H)) (sym adopted-is)
      (stands-over id (env accepts.stage.globals) (env H) (fresh-lacks (home_of id m) H fresh))

  module _ (marked : Marked (declarations (items_in m))) (w : WellFormed (env G)) where
    formed : WellFormed (env H) → WellFormed (env (adopted H A.checked.part))
    formed v =
        subst WellFormed (sym adopted-is)
        (beside-formed id (env accepts.stage.globals) (env H) (env G) adds.adds s
        (fresh-lacks (home_of id m) H fresh)
        (modules_keep_form_holds.formed (home_of id m) G (items_in d.filled.text) accepts.stage w fresh-first
        (texts_are_well_named_holds id asked imports m d.filled d.reads marked) accepts.ends) v)

    complete : Complete (env G) → Complete (env H) → A.checked.holes ≡ [] →
        Complete (env (adopted H A.checked.part))
    complete c k none =
        subst Complete (sym adopted-is)
        (beside-complete id (env accepts.stage.globals) (env H)
        (modules_keep_form_holds.complete (home_of id m) G (items_in d.filled.text) accepts.stage w fresh-first
        (texts_are_well_named_holds id asked imports m d.filled d.reads marked) accepts.ends c
        (ap (λ (C : Checked). C.holes) accepts.is_checked ∙ none)) k)

pub texts_keep_form_holds : TextsKeepForm
texts_keep_form_holds = record {
  formed = λ id asked imports G m A w fresh marked d.
      formed id asked imports G G m A d (stands-itself (env G)) fresh marked w w;
  complete = λ id asked imports G m A w fresh marked d c none.
      complete id asked imports G G m A d (stands-itself (env G)) fresh marked w c c none;
}

pub texts_keep_form_beside_holds : TextsKeepFormBeside
texts_keep_form_beside_holds = record {
  formed = λ id asked imports G H m A w v s fresh marked d.
      formed id asked imports G H m A d s fresh marked w v;
  complete = λ id asked imports G H m A w s fresh marked d c k none.
      complete id asked imports G H m A d s fresh marked w c k none;
  stands = λ id asked imports G H m A s fresh d. stands id asked imports G H m A d s fresh;
}
