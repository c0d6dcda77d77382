-- Judgements that end as an error says, told as refusals.
use Rattle.std.proofs.Common.{◌≡◌, ◌∙◌, ℕ, List, Ok, Err, refl, sym, ap, subst}
use Rattle.qtt_term.specs.Ask.{Question, Ending}
use Rattle.qtt_term.specs.Entries.{Entries}
use Rattle.qtt_term.specs.declared.convert.Question as code_question
use Rattle.qtt_term.specs.declared.convert.Question.TheVariants as asked
use Rattle.qtt_core_check.specs.Seen as seen
use Rattle.qtt_rules.specs.declared.detail.Detail as code_detail
use Rattle.qtt_rules.specs.declared.detail.Detail.TheVariants as detail
use Rattle.qtt_rules.specs.declared.errors.ElabError.{ElabError}
use Rattle.qtt_rules.specs.declared.errors.ElabError.TheVariants as elab
use Rattle.qtt_rules.specs.Refusal.{Place, Refusal, at}
use Rattle.qtt_bidi.specs.Answers.{kept}
use Rattle.qtt_diag.specs.Kept as diag
use Rattle.qtt_diag.specs.Kept.{Detail}
use Rattle.qtt_module.specs.declared.errors.ModuleError.{ModuleError}
use Rattle.qtt_module.specs.declared.errors.ModuleError.TheVariants as error
use Rattle.qtt_module.specs.Answer.{Gives, Tells}
use Rattle.qtt_syntax.specs.Tree.{Item}
use Rattle.qtt_module.specs.Declarations.{declarations}
use Rattle.qtt_module.specs.Module.{Home, Stage, start, Checked, checked, as_checked, in_turn}
use Rattle.qtt_module.specs.Text.{items_in_turn, standing_in_turn}
use Rattle.qtt_module.specs.Refused.{Refused, Answer, refused_at, refused_of, judged}
use Rattle.qtt_module.specs.Stages.{KeepsAt, RefusedSo}

-- a question is the same to what judges it and to what is told
same-question : (q : code_question.Question) → seen.question q ≡ diag.question q
same-question (asked.Head d t) = refl
same-question (asked.Compare d t u) = refl

-- what is told of an ending that keeps this
module _ {A : Type 0} (M : List ℕ) (n : ℕ) (G : Entries) (o : Ending Refusal Place A) where
  abbrev spent-at : Place → ℕ → Question → Answer A
  spent-at p b q = Err (refused_at M G p (Detail.budget_spent b q))

  judged-so : (p : Place) (d : code_detail.Detail) → KeepsAt n o p (kept d) →
      judged M n G o ≡ Err (refused_at M G p (diag.detail d))
  judged-so p (detail.BudgetSpent b q) h =
      ap (judged M n G) h.1 ∙ ap (λ b. spent-at p b (seen.question q)) (sym h.0)
      ∙ ap (spent-at p b) (same-question q)
  judged-so p detail.NotUtf8 h = absurd h
  judged-so p (detail.BadCharacter a) h = absurd h
  judged-so p detail.OpenText h = absurd h
  judged-so p detail.OpenComment h = absurd h
  judged-so p detail.NumberTooWide h = absurd h
  judged-so p detail.NameTooLong h = absurd h
  judged-so p detail.BadIndent h = absurd h
  judged-so p (detail.Unexpected a) h = absurd h
  judged-so p detail.TooDeep h = absurd h
  judged-so p (detail.Unbound a) h = absurd h
  judged-so p (detail.Ambiguous a) h = absurd h
  judged-so p (detail.Duplicate a) h = absurd h
  judged-so p (detail.NotPositive a b) h = ap (judged M n G) h
  judged-so p detail.NeedsType h = ap (judged M n G) h
  judged-so p (detail.NotAFunction a b) h = ap (judged M n G) h
  judged-so p (detail.TypeMismatch a b c) h = ap (judged M n G) h
  judged-so p (detail.WrongQuantity a b) h = ap (judged M n G) h
  judged-so p (detail.WrongUsage a b c) h = ap (judged M n G) h
  judged-so p (detail.NotAType a b) h = ap (judged M n G) h
  judged-so p (detail.WrongLevel a b) h = ap (judged M n G) h
  judged-so p (detail.WrongArity a b) h = ap (judged M n G) h
  judged-so p (detail.NotAFamily a b) h = ap (judged M n G) h
  judged-so p (detail.ErasedUse a b) h = ap (judged M n G) h
  judged-so p (detail.PatternStuck a b c) h = ap (judged M n G) h
  judged-so p (detail.DotMismatch a b c) h = ap (judged M n G) h
  judged-so p (detail.ErasedMatch a) h = ap (judged M n G) h
  judged-so p (detail.Missing a b) h = ap (judged M n G) h
  judged-so p (detail.NoClauses a) h = ap (judged M n G) h
  judged-so p detail.WrongMain h = ap (judged M n G) h
  judged-so p (detail.Limit a b) h = ap (judged M n G) h
  judged-so p (detail.WrongModuleName a b) h = absurd h
  judged-so p (detail.Cycle a) h = absurd h
  judged-so p (detail.Unsolved a) h = absurd h
  judged-so p (detail.NotAnAction a b) h = ap (judged M n G) h
  judged-so p (detail.Unreachable a) h = ap (judged M n G) h
  judged-so p (detail.HasHoles a) h = absurd h
  judged-so p (detail.CoreRefused a) h = ap (judged M n G) h

  -- told with the names that stand, which are these
  pub told-gives : {X : Type 0} (view : X → A) (H : Entries) (x : ModuleError) (e : ElabError) →
      RefusedSo n o H G e → Tells M H x e → Gives view (Err x) (judged M n G o)
  told-gives view H (error.Refused x) (elab.Refused d s r k) h t =
      judged-so (at s r k) d h.0
      ∙ ap (λ (r : Refused). Err r) (sym (t ∙ ap (λ K. refused_at M K (at s r k) (diag.detail d)) h.1))
  told-gives view H (error.Refused x) elab.Memory h t = absurd t
  told-gives view H error.Memory e h t = tt

-- what is kept of a stage, in its place
module _ (H : Home) (M : List ℕ) (n : ℕ) (G : Entries) where
  pub kept-ok : (o : Ending Refusal Place Stage) (S : Stage) → judged M n G o ≡ Ok S →
      judged M n G (as_checked H o) ≡ Ok (checked H S)
  kept-ok (Ending.ok T) S h = let e : T ≡ S = cc h in ap (λ S. Ok (checked H S)) e
  kept-ok (Ending.fails r) S h = absurd (cc h)
  kept-ok (Ending.spent p q) S h = absurd (cc h)

  refused-alike : (o : Ending Refusal Place Stage) (r : Refused) → judged M n G o ≡ Err r →
      judged M n G (as_checked H o) ≡ Err r
  refused-alike (Ending.ok T) r h = absurd (cc h)
  refused-alike (Ending.fails s) r h =
      let e : refused_at M G s.place (Detail.premise s.cause) ≡ r = cc h in ap (λ (r : Refused). Err r) e
  refused-alike (Ending.spent p q) r h =
      let e : refused_at M G p (Detail.budget_spent n q) ≡ r = cc h in ap (λ (r : Refused). Err r) e

  pub kept-refused : {X Y : Type 0} (view : X → Stage) (v : Y → Checked) (o : Ending Refusal Place Stage)
      (e : ModuleError) → Gives {X = X} view (Err e) (judged M n G o) →
      Gives {X = Y} v (Err e) (judged M n G (as_checked H o))
  kept-refused view v o (error.Refused r) h = refused-alike o (refused_of r) h
  kept-refused view v o error.Memory h = tt

-- the items in turn of a module, by a call over the same environment
module _ (n : ℕ) (H M : Home) (K G : Entries) (is js : List Item) (home : H ≡ M) (same : K ≡ G) (items : is ≡ js) where
  abbrev Ended : Home → Entries → List Item → Answer Stage
  Ended H K is =
      judged H.name n (standing_in_turn H n (start K) (declarations is)) (in_turn H n (start K) (declarations is))

  as-named : Ended H K is ≡ Ended M G js
  as-named = ap (λ H. Ended H K is) home ∙ ap (λ K. Ended M K is) same ∙ ap (Ended M G) items

  pub turn-ok : (S : Stage) → Ended H K is ≡ Ok S → items_in_turn M n G js ≡ Ok (checked M S)
  turn-ok S h =
      kept-ok M M.name n (standing_in_turn M n (start G) (declarations js)) (in_turn M n (start G) (declarations js)) S
      (sym as-named ∙ h)

  pub turn-refused : {X : Type 0} (view : X → Stage) (e : ModuleError) → Gives {X = X} view (Err e) (Ended H K is) →
      Gives {X = Checked} (λ C. C) (Err e) (items_in_turn M n G js)
  turn-refused view e h =
      kept-refused M M.name n (standing_in_turn M n (start G) (declarations js)) view (λ C. C)
      (in_turn M n (start G) (declarations js)) e (subst (λ o. Gives view (Err e) o) as-named h)
