use Rattle.std.proofs.Common.{◌≡◌, ◌∙◌, option_map, Some, None, Ok, Err, ap, sym, subst}
use mathlib.Core.Path.{ap₂}
use Rattle.qtt_term.specs.declared.convert.Question.TheVariants as code_question
use Rattle.qtt_term.specs.declared.rule.Rule.TheVariants as rule
use Rattle.qtt_term.specs.Answers.{answer}
use Rattle.qtt_term.specs.Ask.{Question}
use Rattle.qtt_term.specs.Entries.{entries, env}
use Rattle.qtt_term.specs.Infer.{usable}
use Rattle.qtt_term.specs.Items.{definition}
use Rattle.qtt_term.specs.Judgement.{Part}
use Rattle.qtt_term.specs.Question as question
use Rattle.qtt_term.specs.Signature.{definition_of, definition_at, UnitTy, IoTy}
use Rattle.qtt_term.specs.Term.{Io}
use Rattle.qtt_term.specs.View.{term}
use Rattle.qtt_term.proofs.Kept.{globals-closed}
use Rattle.qtt_rules.specs.declared.detail.Detail.TheVariants as detail
use Rattle.qtt_rules.specs.declared.errors.ElabError.TheVariants as error
use Rattle.qtt_rules.specs.Refusal.{at}
use Rattle.qtt_bidi.specs.Answers.{Spends}
use Rattle.qtt_bidi.proofs.Looked.{told}
use Rattle.qtt_module.specs.Main.{main}
use Rattle.qtt_module.specs.MainCall.{TestsMain}
use Rattle.qtt_module.proofs.Testing.{tested, used, no-main, unused-main, equal-main, other-main, spent-main}
use Rattle.qtt_module.proofs.main_test.test_main.Goals as goal

pub returns-in_default : goal.returns-in_default
returns-in_default g c =
    let G = entries c.args.globals.now in
    let E = env G in
    let n = c.args.budget in
    let s = c.args.header in
    let closed = globals-closed c.args.globals.now in
    let r = c.wrong_main.result in
    subst (λ o. TestsMain G n s o (Err r)) (sym c.in_default.is)
    (tested G n s None closed (Err r) (told E n _ _ _ r (no-main G n s) c.wrong_main.ensures))

pub returns-in_default-definition : goal.returns-in_default-definition
returns-in_default-definition g c =
    let G = entries c.args.globals.now in
    let E = env G in
    let n = c.args.budget in
    let s = c.args.header in
    let closed = globals-closed c.args.globals.now in
    let id = c.in-Some.id in
    let r = c.wrong_main-in_default-definition.result in
    let seen : E.definition id ≡ None =
    sym c.definition.ensures.env ∙ ap (option_map (λ x. definition x.now)) c.in_default-definition.is in
    subst (λ o. TestsMain G n s o (Err r)) (sym c.in-Some.is)
    (tested G n s (Some id) closed (Err r)
    (told E n _ _ _ r (unused-main G n s id (ap (λ o. (definition_of o).mult) seen))
    c.wrong_main-in_default-definition.ensures))

pub returns-in-Zero : goal.returns-in-Zero
returns-in-Zero g c =
    let G = entries c.args.globals.now in
    let E = env G in
    let n = c.args.budget in
    let s = c.args.header in
    let closed = globals-closed c.args.globals.now in
    let id = c.in-Some.id in
    let m = c.in-Some-definition.main.now in
    let seen : E.definition id ≡ Some (definition m) =
    sym c.definition.ensures.env ∙ ap (option_map (λ x. definition x.now)) c.in-Some-definition.is in
    let is : definition_at E id ≡ definition m = ap definition_of seen in
    let r = c.wrong_main-in-Zero.result in
    subst (λ o. TestsMain G n s o (Err r)) (sym c.in-Some.is)
    (tested G n s (Some id) closed (Err r)
    (told E n _ _ _ r (unused-main G n s id (ap (λ x. x.mult) is ∙ c.in-Zero.is)) c.wrong_main-in-Zero.ensures))

pub returns-in-Equal : goal.returns-in-Equal
returns-in-Equal g c =
    let G = entries c.args.globals.now in
    let E = env G in
    let n = c.args.budget in
    let s = c.args.header in
    let closed = globals-closed c.args.globals.now in
    let id = c.in-Some.id in
    let m = c.in-Some-definition.main.now in
    let seen : E.definition id ≡ Some (definition m) =
    sym c.definition.ensures.env ∙ ap (option_map (λ x. definition x.now)) c.in-Some-definition.is in
    let is : definition_at E id ≡ definition m = ap definition_of seen in
    let u = ap (λ x. usable Part.run x.mult) is ∙ used m.mult c.in_default-mult.not-Zero in
    let asks = ap (λ x. question.compare E n x.type (IoTy Io.io UnitTy)) is
    ∙ ap (question.compare E n (term m.ty)) (sym c.in_ok-expected.ensures) ∙ sym c.in_ok-compare.ensures in
    subst (λ o. TestsMain G n s o (Ok id)) (sym c.in-Some.is)
    (tested G n s (Some id) closed (Ok id) (equal-main G n s id u (asks ∙ ap answer c.in-Equal.is)))

pub returns-in-Different : goal.returns-in-Different
returns-in-Different g c =
    let G = entries c.args.globals.now in
    let E = env G in
    let n = c.args.budget in
    let s = c.args.header in
    let closed = globals-closed c.args.globals.now in
    let id = c.in-Some.id in
    let m = c.in-Some-definition.main.now in
    let seen : E.definition id ≡ Some (definition m) =
    sym c.definition.ensures.env ∙ ap (option_map (λ x. definition x.now)) c.in-Some-definition.is in
    let is : definition_at E id ≡ definition m = ap definition_of seen in
    let u = ap (λ x. usable Part.run x.mult) is ∙ used m.mult c.in_default-mult.not-Zero in
    let asks = ap (λ x. question.compare E n x.type (IoTy Io.io UnitTy)) is
    ∙ ap (question.compare E n (term m.ty)) (sym c.in_ok-expected.ensures) ∙ sym c.in_ok-compare.ensures in
    let r = c.wrong_main-in-Different.result in
    subst (λ o. TestsMain G n s o (Err r)) (sym c.in-Some.is)
    (tested G n s (Some id) closed (Err r)
    (told E n _ _ _ r (other-main G n s id u _ (asks ∙ ap answer c.in-Different.is)) c.wrong_main-in-Different.ensures))

pub returns-in_ok-copy-in-Spent : goal.returns-in_ok-copy-in-Spent
returns-in_ok-copy-in-Spent g c =
    let G = entries c.args.globals.now in
    let E = env G in
    let n = c.args.budget in
    let s = c.args.header in
    let closed = globals-closed c.args.globals.now in
    let id = c.in-Some.id in
    let m = c.in-Some-definition.main.now in
    let seen : E.definition id ≡ Some (definition m) =
    sym c.definition.ensures.env ∙ ap (option_map (λ x. definition x.now)) c.in-Some-definition.is in
    let is : definition_at E id ≡ definition m = ap definition_of seen in
    let u = ap (λ x. usable Part.run x.mult) is ∙ used m.mult c.in_default-mult.not-Zero in
    let asks = ap (λ x. question.compare E n x.type (IoTy Io.io UnitTy)) is
    ∙ ap (question.compare E n (term m.ty)) (sym c.in_ok-expected.ensures) ∙ sym c.in_ok-compare.ensures in
    let so = spent-main G n s id u (asks ∙ ap answer c.in-Spent.is) in
    let asked = ap₂ (Question.compared 0) (c.in_ok-copy-in-Spent.ensures ∙ sym (ap (λ x. x.type) is))
    c.in_ok-expected.ensures in
    let q = code_question.Compare 0 c.in_ok-copy-in-Spent.field-0 c.in_ok-expected.expected in
    let r = error.Refused (detail.BudgetSpent n q) s rule.Main 2 in
    subst (λ o. TestsMain G n s o (Err r)) (sym c.in-Some.is)
    (tested G n s (Some id) closed (Err r)
    (subst (λ q. Spends E n (main G s (Some id)) n (at s rule.Main 2) q) (sym asked) so))
