-- The worked examples hold.
use Rattle.std.proofs.Common.{pos, refl}
use Rattle.qtt_usage.specs.Mult.{ω}
use Rattle.qtt_term.specs.Term.{PrimTy, Named, Form, Term, var, ε, ◌▸◌, Pi, App, IntLit}
use Rattle.qtt_term.specs.Signature.{Env, IntTy, StringTy}
use Rattle.qtt_term.specs.Contraction.{Step, Steps, Conv, BodiesClosed, contract}
use Rattle.qtt_term.specs.Ask.{Ending, ◌>>=◌}
use Rattle.qtt_term.specs.Premises.{need}
use Rattle.qtt_term.specs.Infer.{at, function_of}
use Rattle.qtt_term.specs.declared.rule.Rule.TheVariants as rule
use Rattle.qtt_term.specs.Programs.{added, z, s, plus, naturals}
use Rattle.qtt_confluence.specs.Examples.{identity_of}
use Rattle.qtt_confluence.proofs.Facts.{rigid_heads_differ}
use Rattle.qtt_conclusions.specs.NormalForms.{WeakHeadNormal, IsRead}
use Rattle.qtt_conclusions.specs.Conclusions.{HeadOf, ReadingOf, Concludes}
use Rattle.qtt_conclusions.specs.Examples.{number_applied, NormalFormsTell, ConclusionsTell}
use Rattle.qtt_conclusions.specs.Laws.{DefinitionsTell}
use Rattle.qtt_conclusions.proofs.NormalForms.{is-head, is-normal, is-read, no-reading_left}
use Rattle.qtt_conclusions.proofs.Heads.{normal-head}
use Rattle.qtt_conclusions.proofs.Forms.{rigid-normal, no-other_form}

primitive : (E : Env) (p : PrimTy) → WeakHeadNormal E (Term.node (Form.named (Named.prim_ty p)) ε)
primitive E p = rigid-normal E (Form.named (Named.prim_ty p)) ε tt

int-head : (E : Env) → BodiesClosed E → HeadOf E IntTy IntTy
int-head E bodies = normal-head bodies (primitive E PrimTy.int) Conv.same

identity-is : (E : Env) (a : Term) → Conv E (identity_of a) a
unfolding contract
identity-is E a = Conv.by_step (Step.here refl)

int-reading : (E : Env) → BodiesClosed E → ReadingOf E (identity_of IntTy) IntTy
int-reading E bodies = record {
  head = normal-head bodies (primitive E PrimTy.int) (identity-is E IntTy);
  read = IsRead.form (primitive E PrimTy.int) (λ a f. elim f [ ]);
}

not-applied : (E : Env) → BodiesClosed E → Concludes E (number_applied E) (Ending.fails (at rule.App 1))
unfolding ◌>>=◌ need function_of
not-applied E bodies = Concludes.has_head (int-head E bodies) Concludes.has_failed

redex : (E : Env) → WeakHeadNormal E (identity_of (Pi ω IntTy IntTy)) → ⊥
unfolding contract
redex E w = let e = is-head E (identity_of (Pi ω IntTy IntTy)) w in cc e

pi-normal : (E : Env) (A B : Term) → WeakHeadNormal E (Pi ω A B)
pi-normal E A B = rigid-normal E (Form.pi ω) (A ▸ B ▸ ε) tt

domain-is : (E : Env) → Conv E (Pi ω IntTy IntTy) (Pi ω (identity_of IntTy) IntTy)
unfolding contract
domain-is E = Conv.back (Conv.by_step (Step.inside (Steps.at (Step.here refl))))

apart : (E : Env) → BodiesClosed E → Conv E IntTy StringTy → ⊥
apart E bodies c =
    rigid_heads_differ E bodies IntTy StringTy (is-head E IntTy (primitive E PrimTy.int))
    (is-head E StringTy (primitive E PrimTy.string)) (λ e. cc e) c

conclusions-tell : (E : Env) → BodiesClosed E → ConclusionsTell E
conclusions-tell E bodies = record {
  number_is_not_applied = not-applied E bodies;
  number_has_no_function_type = λ q A B c. (no-other_form E IntTy IntTy (int-head E bodies)).function refl q A B c;
  redex_is_not_normal = redex E;
  arrow_has_head = Concludes.has_head
      (normal-head bodies (pi-normal E IntTy IntTy) (identity-is E (Pi ω IntTy IntTy)))
      Concludes.is_done;
  arrow_has_another = Concludes.has_head
      (normal-head bodies (pi-normal E (identity_of IntTy) IntTy)
      (Conv.thence (identity-is E (Pi ω IntTy IntTy)) (domain-is E)))
      Concludes.is_done;
  number_is_read = Concludes.has_reading (int-reading E bodies) Concludes.is_done;
  from_int = Concludes.has_head (normal-head bodies (pi-normal E IntTy IntTy) Conv.same) Concludes.is_done;
  from_other = Concludes.has_head (normal-head bodies (pi-normal E (identity_of IntTy) IntTy) (domain-is E))
      Concludes.has_failed;
  number_is_no_text = Concludes.are_apart (λ c. apart E bodies c) Concludes.has_failed;
  not_convertible = λ c. apart E bodies c;
  number_is_number = Concludes.are_convertible (identity-is E IntTy) Concludes.is_done;
}

normal-forms_tell : NormalFormsTell
unfolding contract
normal-forms_tell = record {
  variable_applied = λ E. is-normal E (App ω (var 0) (var 1)) refl;
  sum_waits = λ E. is-normal E (added (IntLit (pos 1)) (var 0)) refl;
  sum_is_contracted = λ E w. let e = is-head E (added (IntLit (pos 1)) (IntLit (pos 2))) w in cc e;
  successor_is_normal = is-normal naturals (s (plus z z)) refl;
  successor_is_not_read = λ r. let e = no-reading_left naturals (s (plus z z)) r in cc e;
  one_is_read = is-read naturals (s z) refl;
}

pub definitions-tell : DefinitionsTell
definitions-tell = record { normal_forms = normal-forms_tell; conclusions = λ E bodies. conclusions-tell E bodies }
