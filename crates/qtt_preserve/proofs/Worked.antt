-- The example programs are well formed and complete.
use Rattle.std.specs.Prelude.{codes}
use Rattle.std.proofs.Common.{◌≡◌, ℕ, Bool, true, false, cond, eqb, [], ◌∷◌, Some, None, pos, refl, sym, ◌∙◌, ap, subst}
use Rattle.std.proofs.lemmas.List.{append-nil}
use Rattle.qtt_base.specs.declared.place.GlobalId.{GlobalId}
use Rattle.qtt_usage.specs.Mult.{𝟘, 𝟙, ◌⊕◌, ◌≼◌}
use Rattle.qtt_usage.specs.Uses.{Key, Use, unit, zero_use, out}
use Rattle.qtt_usage.proofs.Mults.{≼-refl, ≼-zero, ⊕-zero}
use Rattle.qtt_prims.specs.declared.lit.Lit.TheVariants as literal
use Rattle.qtt_term.specs.Term.{Io, Form, Term, Terms, var, node, ε, ◌▸◌, Sort, Pi, Lam, TextLit}
use Rattle.qtt_term.specs.Substitution.{Closed}
use Rattle.qtt_term.specs.Signature.{Definition, Env, There, UnitTy, StringTy, HandleTy, IoTy}
use Rattle.qtt_term.specs.Contraction.{Conv}
use Rattle.qtt_term.specs.Judgement.{Ctx, Part, AtMost, Args, ParamsThenArgs, Rule, Typed, TypedAll}
use Rattle.qtt_term.specs.Environment.{IsTape, NoTape, NoTapes, DefinitionFormed}
use Rattle.qtt_term.specs.PrimEnvironment.{prim_family, prim_env}
use Rattle.qtt_term.specs.Programs.{or, listed, program, many, io_unit, with_handle, opened_a, written, closed_after, shown, one_by_zero, handles, trapping}
use Rattle.qtt_term.proofs.Options.{none≢some, some-injective, cond-some}
use Rattle.qtt_term.proofs.PrimFormed.{prim_formed}
use Rattle.qtt_preserve.specs.Within.{Has, HasAll}
use Rattle.qtt_preserve.specs.Grows.{Grows}
use Rattle.qtt_preserve.specs.Examples.{IsProgram}
use Rattle.qtt_preserve.proofs.Plain.{literal_has, handle_has}
use Rattle.qtt_preserve.proofs.Uses.{≼-of}
use Rattle.qtt_preserve.proofs.Travel.{has_as}
use Rattle.qtt_preserve.proofs.Exact.{typed-has, typed-as, has-typed}
use Rattle.qtt_preserve.proofs.Sound.{typed-below}
use Rattle.qtt_preserve.proofs.Grow.{family-formed-grows}

-- ---- Tapes in a term
abbrev tape_form : Form → Bool
tape_form (Form.tape n) = true
tape_form _ = false

abbrev mutual
  tape_free : Term → Bool
  tape_free (var i) = true
  tape_free (node F ts) = cond (tape_form F) false (tapes_free ts)

  tapes_free : Terms → Bool
  tapes_free ε = true
  tapes_free (t ▸ ts) = cond (tape_free t) (tapes_free ts) false

both : (a b : Bool) → cond a b false ≡ true → (a ≡ true) × (b ≡ true)
both true b e = (refl, e)
both false b e = absurd (cc e)

neither : (a b : Bool) → cond a false b ≡ true → (a ≡ false) × (b ≡ true)
neither true b e = absurd (cc e)
neither false b e = (refl, e)

no_tape_form : (F : Form) → tape_form F ≡ false → IsTape F → ⊥
no_tape_form (Form.tape n) e = λ t. cc e
no_tape_form _ e = λ t. t

mutual
  no_tape : (t : Term) → tape_free t ≡ true → NoTape t
  no_tape (var i) e = tt
  no_tape (node F ts) e = let r = neither (tape_form F) (tapes_free ts) e in (no_tape_form F r.0, no_tapes ts r.1)

  no_tapes : (ts : Terms) → tapes_free ts ≡ true → NoTapes ts
  no_tapes ε e = tt
  no_tapes (t ▸ ts) e = let r = both (tape_free t) (tapes_free ts) e in (no_tape t r.0, no_tapes ts r.1)

-- ---- programs of one definition, over Prim
abbrev one : Term → Env
one b = program [] ((0, many io_unit b) ∷ [])

cond-same : {A : Type 0} (c : Bool) (a : A) → cond c a a ≡ a
cond-same true a = refl
cond-same false a = refl

same-family : (b : Term) (f : GlobalId) → prim_env.family f ≡ (one b).family f
same-family b f = sym (ap (λ o. or o (prim_family f)) (cond-same (eqb f.module.0 1) None))

grows : (b : Term) → Grows prim_env (one b)
grows b = record {
  families = λ f F e. (
    F,
    sym (same-family b f) ∙ e,
    record {
      params = refl;
      indices = refl;
      level = refl;
      added = [];
      constructors = append-nil F.constructors;
    },
  );
  definitions = λ d A e. absurd (none≢some e);
}

one-definition : (b : Term) (d : GlobalId) (D : Definition) → (one b).definition d ≡ Some D → many io_unit b ≡ D
one-definition b d D e =
    let r = cond-some (eqb d.module.0 1) (listed ((0, many io_unit b) ∷ []) d.item) D e in
    some-injective (cond-some (eqb 0 d.item) (Some (many io_unit b)) D r.1).1

unit_typed : (b : Term) (Γ : Ctx) → Typed (one b) Part.erased Γ UnitTy (Sort 0) zero_use
unit_typed b Γ = Typed.by_rule (Rule.fam tt (ParamsThenArgs.done Args.none)) TypedAll.none (λ x s. refl)

definition_formed : (b : Term) → Typed (one b) Part.run [] b io_unit zero_use → tape_free b ≡ true →
    DefinitionFormed (one b) (many io_unit b)
definition_formed b h f = record {
  mult = λ e. cc e;
  is_type = (
    0,
    Typed.by_rule (Rule.named tt tt (Args.more {u = zero_use} Args.none))
        (TypedAll.more refl (unit_typed b []) tt TypedAll.none) (λ x s. refl),
  );
  type_no_tape = no_tape io_unit refl;
  closed = λ c e. subst Closed (some-injective e) (typed-below h);
  typed = λ c e. subst (λ c. Typed (one b) Part.run [] c io_unit zero_use) (some-injective e) h;
  no_tape = λ c e. subst NoTape (some-injective e) (no_tape b f);
}

is_program : (b : Term) → Has (one b) Part.run [] b io_unit zero_use → tape_free b ≡ true → IsProgram (one b)
is_program b h f =
    let (w, t, a) = has-typed h in
    let d = definition_formed b (typed-as zero_use t (λ x s. sym (≼-zero (w x) (a x s)))) f in
    record {
      formed = record {
        prims = record { units = refl; truths = refl; lines = refl; equalities = refl };
        families = λ g F e. family-formed-grows (grows b) (λ f t. same-family b f)
            (prim_formed.families g F (same-family b g ∙ e));
        definitions = λ g D e. subst (DefinitionFormed (one b)) (one-definition b g D e) d;
      };
      complete = λ g D e m. subst (λ D. There D.body) (one-definition b g D e) tt;
      main = record { definition = many io_unit b; there = refl; usable = tt; typed = Conv.same };
    }

-- ---- parts of programs
no_tape_used : (u : Use) → ((k : ℕ) → u (Key.h k) ≼ 𝟘) → AtMost [] u zero_use
no_tape_used u h (Key.v i) s = absurd s
no_tape_used u h (Key.h k) s = h k

abbrev two_writes : Term
two_writes =
    with_handle opened_a
    (with_handle (written (var 0) (TextLit (codes "x")))
    (with_handle (written (var 0) (TextLit (codes "y"))) (closed_after (var 0))))

abbrev write_of_quotient : Term
write_of_quotient = with_handle opened_a (with_handle (written (var 0) (shown one_by_zero)) (closed_after (var 0)))

module _ (E : Env) (units : (Γ : Ctx) → Has E Part.erased Γ UnitTy (Sort 0) zero_use) where
  handle_var : (Γ : Ctx) → Has E Part.run ((𝟙, HandleTy) ∷ Γ) (var 0) HandleTy (unit (Key.v 0))
  handle_var Γ = Has.at_var tt tt Conv.same (λ x s. ≼-refl (unit (Key.v 0) x))

  bind_has : (Γ : Ctx) (t k : Term) (u w : Use) → Has E Part.run Γ t (IoTy Io.io1 HandleTy) u →
      Has E Part.run ((𝟙, HandleTy) ∷ Γ) k io_unit w → w (Key.v 0) ≼ 𝟙 →
      Has E Part.run Γ (with_handle t k) io_unit (λ x. u x ⊕ out w x)
  bind_has Γ t k u w ht hk f =
      Has.at_node (Rule.named refl tt
      (Args.more {u = zero_use}
      (Args.more {u = zero_use} (Args.more {u = u} (Args.more {u = out w} Args.none)))))
      (HasAll.more refl (handle_has Γ) tt
      (HasAll.more refl (units Γ) tt (HasAll.more refl ht tt (HasAll.more refl lambda tt HasAll.none))))
      Conv.same (λ x s. ≼-of (⊕-zero _ ∙ ap (λ n. u x ⊕ n) (⊕-zero (out w x))))
    where
      lambda : Has E Part.run Γ (Lam 𝟙 HandleTy k) (Pi 𝟙 HandleTy io_unit) (out w)
      lambda =
          Has.at_node (Rule.lam {u = zero_use} {w = w})
          (HasAll.more refl (handle_has Γ) tt (HasAll.more refl hk (f, tt) HasAll.none)) Conv.same
          (λ x s. ≼-of (⊕-zero _ ∙ ⊕-zero (out w x)))

  opens_has : Has E Part.run [] opened_a (IoTy Io.io1 HandleTy) zero_use
  opens_has =
      Has.at_node (Rule.named refl tt (Args.more {u = zero_use} Args.none))
      (HasAll.more refl (literal_has Part.run [] (literal.Text (codes "a"))) tt HasAll.none) Conv.same
      (λ x s. tt)

  writes_has : (Γ : Ctx) (s : Term) → Has E Part.run ((𝟙, HandleTy) ∷ Γ) s StringTy zero_use →
      Has E Part.run ((𝟙, HandleTy) ∷ Γ) (written (var 0) s) (IoTy Io.io1 HandleTy) (unit (Key.v 0))
  writes_has Γ s h =
      Has.at_node (Rule.named refl tt (Args.more {u = unit (Key.v 0)} (Args.more {u = zero_use} Args.none)))
      (HasAll.more refl (handle_var Γ) tt (HasAll.more refl h tt HasAll.none)) Conv.same
      (λ x s. ≼-of (⊕-zero _ ∙ ⊕-zero (unit (Key.v 0) x)))

  closes_has : (Γ : Ctx) → Has E Part.run ((𝟙, HandleTy) ∷ Γ) (closed_after (var 0)) io_unit (unit (Key.v 0))
  closes_has Γ =
      Has.at_node (Rule.named refl tt (Args.more {u = unit (Key.v 0)} Args.none))
      (HasAll.more refl (handle_var Γ) tt HasAll.none) Conv.same
      (λ x s. ≼-of (⊕-zero _ ∙ ⊕-zero (unit (Key.v 0) x)))

  quotient_has : (Γ : Ctx) → Has E Part.run Γ (shown one_by_zero) StringTy zero_use
  quotient_has Γ =
      Has.at_node (Rule.named tt tt (Args.more {u = zero_use} Args.none))
      (HasAll.more refl
      (Has.at_node (Rule.named tt tt (Args.more {u = zero_use} (Args.more {u = zero_use} Args.none)))
      (HasAll.more refl (literal_has Part.run Γ (literal.Int (pos 1))) tt
      (HasAll.more refl (literal_has Part.run Γ (literal.Int (pos 0))) tt HasAll.none)) Conv.same (λ x s. tt))
      tt HasAll.none)
      Conv.same (λ x s. tt)

  two_writes_has : Has E Part.run [] two_writes io_unit zero_use
  two_writes_has =
      has_as E io_unit zero_use
      (bind_has [] opened_a _ zero_use _ opens_has
      (bind_has ((𝟙, HandleTy) ∷ []) _ _ (unit (Key.v 0)) _
      (writes_has [] _ (literal_has Part.run _ (literal.Text (codes "x"))))
      (bind_has ((𝟙, HandleTy) ∷ (𝟙, HandleTy) ∷ []) _ _ (unit (Key.v 0)) (unit (Key.v 0))
      (writes_has ((𝟙, HandleTy) ∷ []) _ (literal_has Part.run _ (literal.Text (codes "y"))))
      (closes_has ((𝟙, HandleTy) ∷ (𝟙, HandleTy) ∷ [])) tt) tt) tt)
      Conv.same (no_tape_used _ (λ k. tt))

  write_of_quotient_has : Has E Part.run [] write_of_quotient io_unit zero_use
  write_of_quotient_has =
      has_as E io_unit zero_use
      (bind_has [] opened_a _ zero_use _ opens_has
      (bind_has ((𝟙, HandleTy) ∷ []) _ _ (unit (Key.v 0)) (unit (Key.v 0)) (writes_has [] _ (quotient_has _))
      (closes_has ((𝟙, HandleTy) ∷ [])) tt) tt)
      Conv.same (no_tape_used _ (λ k. tt))

pub handles_is_program : IsProgram handles
handles_is_program = is_program two_writes
    (two_writes_has (one two_writes) (λ Γ. typed-has (unit_typed two_writes Γ))) refl

pub trapping_is_program : IsProgram trapping
trapping_is_program = is_program write_of_quotient
    (write_of_quotient_has (one write_of_quotient) (λ Γ. typed-has (unit_typed write_of_quotient Γ))) refl
